-- `audit::walk` meets its contract. The invariant is that of a walk under way. Assumes nothing.
use Rattle.std.proofs.Common.{◌≡◌, suc, arith}
use Rattle.audit.proofs.Colours.{under_start, under_on, under_back, under_met, under_none}
use Rattle.audit.proofs.walk.Goals as goal

pub loop-i-init : goal.loop-i-init
loop-i-init c = under_start c.requires.0 c.requires.1 c.requires.2

pub returns-then-seen-colour : goal.returns-then-seen-colour
returns-then-seen-colour c =
    let to : c.loop-i.link ≡ suc c.in-Some.i = omega (arith, c.in-Some.ensures) in
    under_back c.requires.0 c.requires.1 c.requires.2 c.loop-i.invariant to c.if-seen-colour.true

pub returns-else-seen-colour : goal.returns-else-seen-colour
returns-else-seen-colour c =
    let to : c.loop-i.link ≡ suc c.in-Some.i = omega (arith, c.in-Some.ensures) in
    under_met c.requires.0 c.requires.1 c.requires.2 c.loop-i.invariant to c.if-seen-gt-MOST_COUNT.true c.if-seen-colour.false

pub loop-i-preserved : goal.loop-i-preserved
loop-i-preserved c =
    let to : c.loop-i.link ≡ suc c.in-Some.i = omega (arith, c.in-Some.ensures) in
    rw c.piece_next-link.ensures (under_on c.requires.0 c.requires.1 c.requires.2 c.loop-i.invariant to c.if-seen-gt-MOST_COUNT.false)

pub returns : goal.returns
returns c = under_none c.requires.0 c.requires.1 c.requires.2 c.loop-i.invariant (omega (arith, c.in_default.ensures))
