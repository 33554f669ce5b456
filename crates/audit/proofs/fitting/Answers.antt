-- `audit::fitting` meets its contract. Assumes nothing.
use Rattle.std.proofs.Common.{arith}
use Rattle.rules.specs.Sound.{headed}
use Rattle.audit.proofs.Verdict.{short, fits}
use Rattle.audit.proofs.fitting.Goals as goal

pub returns-then-pool-lt-HEADER : goal.returns-then-pool-lt-HEADER
returns-then-pool-lt-HEADER c = short _ _ c.if-pool-lt-HEADER.true

pub returns : goal.returns
unfolding headed
returns c =
    let e = c.shape_of-shape.ensures in
    rw c.then_some.ensures (fits _ (record { buffers = e.0; pieces = e.1; slips = e.2 }) _ (grind arith))
