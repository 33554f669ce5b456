-- `chain::enter` meets its contract. Assumes nothing.
use Rattle.std.proofs.Common.{◌≡◌, ◌≢◌, ◌≤◌, ◌<◌, refl, sym, ap, ◌∙◌, arith, rules}
use Rattle.kinds.specs.declared.Serial.{Serial}
use Rattle.kinds.proofs.Laws.{entry_none, entry_some}
use Rattle.rules.specs.Bytes.{decode}
use Rattle.rules.specs.Rule.{name}
use Rattle.tables.proofs.Laws.{whole, total_slips}
use Rattle.chain.proofs.Entry.{past_unnamed, other_unnamed, vacant_unnamed, entered_some}
use Rattle.chain.proofs.enter.Goals as goal

pub returns-then-not-below : goal.returns-then-not-below
returns-then-not-below c =
    let l : c.args.shape.slips ≤ c.args.s.slip.0 = search rules in
    (refl, past_unnamed (decode c.args.pool.now) (name c.args.s.slip.0 c.args.s.serial.0) (omega (arith, l, total_slips (whole c.requires.shaped))))

pub returns-then-ne : goal.returns-then-ne
returns-then-ne c =
    let n : c.serial.result.0 ≢ c.args.s.serial.0 = search rules in
    (refl, other_unnamed (decode c.args.pool.now) (name c.args.s.slip.0 c.args.s.serial.0) (λ e. n (ap (λ (k : Serial). k.0) c.serial.ensures ∙ e)))

pub returns-then-not-held : goal.returns-then-not-held
returns-then-not-held c =
    (refl, vacant_unnamed (decode c.args.pool.now) (name c.args.s.slip.0 c.args.s.serial.0) (sym c.slip-entry.ensures ∙ entry_none c.from.ensures c.held.ensures c.if-not-held.true))

pub returns : goal.returns
returns c =
    let l : c.args.s.slip.0 < c.args.shape.slips = search rules in
    let e : c.serial.result.0 ≡ c.args.s.serial.0 = search rules in
    entered_some (name c.args.s.slip.0 c.args.s.serial.0) c.requires l (sym (ap (λ (k : Serial). k.0) c.serial.ensures) ∙ e) c.slip-entry.ensures (entry_some c.from.ensures c.held.ensures c.if-not-held.false)
