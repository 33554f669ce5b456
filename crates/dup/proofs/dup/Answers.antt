-- `dup::dup` meets its contract. Assumes nothing.
use mathlib.Core.Path.{◌≡◌, sym, ap, ◌∙◌}
use mathlib.Core.List.{List, [], ◌∷◌}
use Prim.Native.Nat.{ℕ, suc, ◌+◌, ◌-◌, ◌<◌, ◌≤◌}
use native.Mathlib.Omega.{arith}
use lib.ListN.{length, get_or}
use Rattle.std.proofs.Common.{rules}
use Rattle.kinds.specs.Serial.{name_with}
use Rattle.rules.specs.Tables.{Tables, piece, head_of, name_of, slip_total, piece_total, set_slip, holding}
use Rattle.rules.specs.Bytes.{decode}
use Rattle.rules.specs.Room.{is_free, ready_slips, free_pieces, new_slip}
use Rattle.rules.specs.Build.{made}
use Rattle.rules.specs.Dup.{dup_plan}
use Rattle.rules.specs.Rule.{name}
use Rattle.rules.proofs.Sizes.{shared_sizes}
use Rattle.tables.proofs.Laws.{whole, total_slips, total_pieces, onward}
use Rattle.chain.proofs.Links.{link_leads}
use Rattle.room.specs.Free.{first_from}
use Rattle.room.proofs.Free.{new_slip_lem, no_slip, piece_first}
use Rattle.build.proofs.Laws.{opened_copyable, opened_sharable}
use Rattle.dup.proofs.Laws.{lacking, plan_none, plan_one, empty_under, cloned_made, clone_under, dup_slip, dup_slips, dup_pieces, dup_done}
use Rattle.dup.proofs.dup.Goals as goal
use Rattle.dup.proofs.dup.Goals.{In_ok-t, Else-head-eq0, In_ok-f}

pub returns-in_err-head-clause-by_index : goal.returns-in_err-head-clause-by_index
returns-in_err-head-clause-by_index c st = grind (arith, dup_slip c.args.pool.now st (name c.args.s.slip.0 c.args.s.serial.0))

pub returns-in_err-t-clause-by_index : goal.returns-in_err-t-clause-by_index
returns-in_err-t-clause-by_index c st = grind (arith, no_slip, dup_slips c.args.pool.now st (name c.args.s.slip.0 c.args.s.serial.0) c.in_ok-head.ensures.named)

-- the new slip: the lowest that may be given
new : (c : In_ok-t) → let t = c.in_ok-t.t.0 in let T = decode c.args.pool.now in (t < slip_total T) × (new_slip T ≡ t) × (1 ≤ length (ready_slips T))
new c =
    let (first, below) = rw c.in_ok-t.ensures.ok_part at c.lowest.ensures in
    let it = new_slip_lem (decode c.args.pool.now) first below in
    (below, it.0, it.1)

pub under_new-requires : goal.under_new-requires
under_new-requires c = let s = whole c.requires.shaped in (c.requires.shaped, omega (arith, (new (goal.at.under_new-requires c).In_ok-t).0, total_slips s), omega arith)

pub returns-then-head-eq0-clause-by_index : goal.returns-then-head-eq0-clause-by_index
returns-then-head-eq0-clause-by_index c st =
    let a = c.args in
    let T = decode a.pool.now in
    let e = c.in_ok-head.ensures in
    let none : head_of T a.s.slip.0 ≡ 0 = sym e.link_is ∙ c.if-head-eq0.true in
    let it = new (goal.at.returns-then-head-eq0-clause-by_index c).In_ok-t in
    let is = c.under_new.ensures.becomes in
    dup_done a.pool.now st (name a.s.slip.0 a.s.serial.0) e.named it.2 (omega (arith, plan_none T (head_of T a.s.slip.0) none)) it.1
    c.under_new.ensures.value (search rules) (search rules) (record { shaped = is.shaped; is = is.is ∙ empty_under T (head_of T a.s.slip.0) _ (free_pieces T) none })

-- where a piece heads the chain
some : (c : Else-head-eq0) → head_of (decode c.args.pool.now) c.args.s.slip.0 ≡ 0 → ⊥
some c z = c.if-head-eq0.false (c.in_ok-head.ensures.link_is ∙ z)

pub returns-in_err-f-clause-by_index : goal.returns-in_err-f-clause-by_index
returns-in_err-f-clause-by_index c st =
    let a = c.args in
    let T = decode a.pool.now in
    let at = goal.at.returns-in_err-f-clause-by_index c in
    let none = plan_one T (head_of T a.s.slip.0) (some at.Else-head-eq0) in
    grind (arith, lacking T, dup_pieces a.pool.now st (name a.s.slip.0 a.s.serial.0) c.in_ok-head.ensures.named (new at.In_ok-t).2)

-- the new piece: the lowest free one
taken_here : (c : In_ok-f) → let T = decode c.args.pool.now in let f = c.in_ok-f.f.0 in (f ≡ first_from (is_free T) 0 (piece_total T)) × (f < piece_total T)
taken_here c = rw c.in_ok-f.ensures.ok_part at c.lowest-2.ensures

pub clone_rest-requires : goal.clone_rest-requires
clone_rest-requires c =
    let T = decode c.args.pool.now in
    let d = c.in_ok-head.head - 1 in
    let used = link_leads T c.in_ok-head.head c.requires.sound c.in_ok-head.ensures.good c.if-head-eq0.false in (
      c.requires.shaped,
      omega (arith, (taken_here (goal.at.clone_rest-requires c).In_ok-f).1, total_pieces (whole c.requires.shaped)),
      opened_copyable c.requires d 0 used (omega (arith, used.some_bytes)),
      opened_sharable c.requires (piece T d).next used.onward,
    )

-- its number has 16 bits with one more
small : (c : In_ok-f) → c.in_ok-f.f.0 + 1 < 65535
small c = omega (arith, (taken_here c).1, total_pieces (whole c.requires.shaped), c.requires.few_pieces_lem)

pub overflow_add-f : goal.overflow_add-f
overflow_add-f c = omega (arith, small (goal.at.overflow_add-f c).In_ok-f)

pub under_new-requires-2 : goal.under_new-requires-2
under_new-requires-2 c =
    let at = goal.at.under_new-requires-2 c in
    (c.clone_rest.ensures.shaped, omega (arith, (new at.In_ok-t).0, total_slips (whole c.requires.shaped)), small at.In_ok-f)

pub returns-clause-by_index : goal.returns-clause-by_index
returns-clause-by_index c st =
    let a = c.args in
    let T = decode a.pool.now in
    let t = c.in_ok-t.t.0 in
    let g = c.in_ok-f.f.0 in
    let d = c.in_ok-head.head - 1 in
    let e = c.in_ok-head.ensures in
    let at = goal.at.returns-clause-by_index c in
    let it = new at.In_ok-t in
    let first = taken_here at.In_ok-f in
    let some_here = some at.Else-head-eq0 in
    let fs = piece_first T first.0 first.1 in
    let now = onward c.clone_rest.ensures (λ (U : Tables). set_slip U t (holding (g + 1))) c.under_new-2.ensures.becomes in
    dup_done a.pool.now st (name a.s.slip.0 a.s.serial.0) e.named it.2 (omega (arith, ap length fs, plan_one T (head_of T a.s.slip.0) some_here)) it.1
    c.under_new-2.ensures.value
    (ap (λ (U : Tables). name_of U t) c.clone_rest.ensures.is ∙ ap (λ (ks : List ℕ). name_with t (get_or ks t 0)) (shared_sizes T (piece T d).next).serials_kept)
    (search rules)
    (record {
      shaped = now.shaped;
      is = now.is ∙ ap (λ (U : Tables). set_slip U t (holding (g + 1))) (cloned_made T d g)
          ∙ ap (λ (h : ℕ). set_slip (made (dup_plan T (suc (h - 1))) (g ∷ [])) t (holding (g + 1))) e.link_is
          ∙ clone_under T (head_of T a.s.slip.0) t g some_here fs;
    })
