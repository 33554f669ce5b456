-- `chain::chain_length` meets its contract. Assumes nothing.
use mathlib.Core.Path.{sym, ap₂, subst, ◌∙◌}
use native.Mathlib.Omega.{arith}
use Prim.Native.Nat.{ℕ}
use Rattle.rules.specs.Basics.{Is}
use Rattle.rules.specs.Sound.{link_ok}
use Rattle.rules.specs.Bytes.{decode}
use Rattle.rules.specs.Chain.{walk, stretches, total}
use Rattle.tables.proofs.Laws.{whole, total_slips, total_pieces}
use Rattle.chain.proofs.chain_length.Goals as goal

pub length_from-requires : goal.length_from-requires
length_from-requires c =
    let z = c.before.before in
    let T = decode z.args.pool.now in
    let o = z.requires.0 in
    (o, subst (λ (n : ℕ). Is (link_ok T n)) (sym c.head_link-link.ensures) (o.sound.slips_ok z.args.s.0 (omega (arith, z.requires.1, total_slips (whole o.shaped)))))

pub returns : goal.returns
returns c =
    let z = c.before.before.before in
    let T = decode z.args.pool.now in
    c.length_from.ensures.is ∙ ap₂ (λ (k n : ℕ). total (stretches T (walk k T n))) (sym (total_pieces (whole z.requires.0.shaped))) c.before.head_link-link.ensures
