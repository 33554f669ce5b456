-- `chain::length_from` meets its contract: the pieces still allowed fall with each call.
use Prim.Native.Nat.{ℕ, ◌+◌, ◌-◌, ◌<◌}
use mathlib.Core.Path.{◌≡◌, sym, ap, subst}
use native.Mathlib.Omega.{arith}
use Rattle.rules.specs.Basics.{Is}
use Rattle.rules.specs.Tables.{Tables}
use Rattle.rules.specs.Bytes.{decode}
use Rattle.rules.specs.Chain.{walk, stretches, total}
use Rattle.rules.specs.Sound.{link_ok}
use Rattle.chain.specs.declared.Leg.{Leg}
use Rattle.chain.specs.Length.{LegIs}
use Rattle.chain.proofs.Links.{follow_good, length_empty, length_split}
use Rattle.chain.proofs.+length_from.Goals as goal

-- the first leg and what is met behind it are all that is met
both : (T : Tables) (n k : ℕ) (first : Leg) → 32 < k → LegIs T n 32 first
    → total (stretches T (walk k T n)) ≡ first.bytes + total (stretches T (walk (k - 32) T first.link))
both T n k first a leg =
    omega (arith, leg.is, length_split 32 k n T (omega arith), ap (λ (m : ℕ). total (stretches T (walk (k - 32) T m))) leg.behind)

pub returns-then-next-eq0 : goal.returns-then-next-eq0
returns-then-next-eq0 t c =
    let T = decode c.args.pool.now in
    let leg = c.leg_from-first.ensures in
    let none = length_empty (c.args.allowed - 32) c.leg_from-first.result.link T (omega arith) in
    record { is = omega (arith, both T c.args.link c.args.allowed _ (omega arith) leg, none); most = omega (arith, leg.most) }

pub length_from-rest-requires : goal.length_from-rest-requires
length_from-rest-requires t c =
    let T = decode c.args.pool.now in
    let o = c.requires.0 in
    let good = follow_good T 32 c.args.link o.sound c.requires.1 in
    (omega arith, (o, subst (λ (n : ℕ). Is (link_ok T n)) (sym c.leg_from-first.ensures.behind) good))

pub returns : goal.returns
returns t c =
    let T = decode c.args.pool.now in
    let leg = c.leg_from-first.ensures in
    let rest = c.length_from-rest.ensures in
    record { is = omega (arith, both T c.args.link c.args.allowed _ (omega arith) leg, rest.is); most = omega (arith, leg.most, rest.most) }
