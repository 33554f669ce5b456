-- `chain::leg_from` meets its contract: the bytes passed, and those of the pieces still allowed from the link reached on, are all. Assumes nothing.
use mathlib.Core.Path.{◌≡◌, sym, ap, subst, ◌∙◌}
use Prim.Native.Nat.{ℕ, ◌+◌, ◌-◌}
use native.Mathlib.Omega.{arith}
use Rattle.rules.specs.Basics.{Is}
use Rattle.rules.specs.Bytes.{decode}
use Rattle.rules.specs.Chain.{follow, walk, stretches, total}
use Rattle.rules.specs.Sound.{link_ok}
use Rattle.rules.proofs.Audit.{follow_more}
use Rattle.tables.proofs.Laws.{whole, total_pieces}
use Rattle.chain.proofs.Links.{InUse, link_leads, follow_first, length_none, length_empty, length_first}
use Rattle.chain.proofs.leg_from.Goals as goal
use Rattle.chain.proofs.leg_from.Goals.{Else-at-eq0}

pub returns-then-at-eq0 : goal.returns-then-at-eq0
unfolding follow
returns-then-at-eq0 c =
    let l = c.loop in
    let T = decode c.args.pool.now in
    let left = c.args.most - l.counter in
    record {
      is = omega (arith, length_empty left l.at T c.if-at-eq0.true, l.invariant.3);
      most = omega (arith, l.invariant.1);
      behind = sym (follow_more T 0 left l.at (omega arith) c.if-at-eq0.true) ∙ l.invariant.2;
    }

-- the link reached leads to a piece in use
leads : (c : Else-at-eq0) → InUse (decode c.args.pool.now) (c.loop.at - 1)
leads c = link_leads (decode c.args.pool.now) c.loop.at c.requires.0.sound c.loop.invariant.0 c.if-at-eq0.false

pub piece_bytes-bytes-requires : goal.piece_bytes-bytes-requires
piece_bytes-bytes-requires c = let o = c.requires.0.shaped in (o, omega (arith, (leads (goal.at.piece_bytes-bytes-requires c).Else-at-eq0).below, total_pieces (whole o)))

pub piece_next-at-requires : goal.piece_next-at-requires
piece_next-at-requires c = piece_bytes-bytes-requires (goal.at.piece_next-at-requires c).Else-at-eq0

pub overflow_add-bytes : goal.overflow_add-bytes
overflow_add-bytes c = omega (arith, c.piece_bytes-bytes.ensures, (leads (goal.at.overflow_add-bytes c).Else-at-eq0).most, c.loop.invariant.1, c.ranges.most)

pub loop-preserved : goal.loop-preserved
loop-preserved c =
    let l = c.loop in
    let T = decode c.args.pool.now in
    let k = c.piece_bytes-bytes.ensures in
    let m = c.piece_next-at.ensures in
    let left = c.args.most - l.counter in
    let e : left - 1 ≡ c.args.most - (l.counter + 1) = omega arith in
    let first = length_first left l.at T (omega arith) c.if-at-eq0.false in (
      subst (λ (x : ℕ). Is (link_ok T x)) (sym m) (leads (goal.at.loop-preserved c).Else-at-eq0).onward,
      omega (arith, k, (leads (goal.at.loop-preserved c).Else-at-eq0).most, l.invariant.1),
      rw e at (ap (follow T (left - 1)) m ∙ sym (follow_first T left l.at (omega arith) c.if-at-eq0.false) ∙ l.invariant.2),
      omega (arith, k, (rw e at first), ap (λ (x : ℕ). total (stretches T (walk (c.args.most - (l.counter + 1)) T x))) m, l.invariant.3),
    )

pub returns : goal.returns
unfolding follow
returns c =
    let l = c.loop in
    let T = decode c.args.pool.now in
    let z : 0 ≡ c.args.most - l.counter = omega arith in
    record {
      is = omega (arith, length_none (c.args.most - l.counter) l.at T (sym z), l.invariant.3);
      most = omega (arith, l.invariant.1);
      behind = ap (λ (k : ℕ). follow T k l.at) z ∙ l.invariant.2;
    }
