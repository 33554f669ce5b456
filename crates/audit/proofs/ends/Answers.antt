-- `audit::ends` meets its contract. The invariant: the pieces passed have been walked from. Assumes nothing.
use Rattle.audit.proofs.Colours.{scan_start, scan_end}
use Rattle.audit.proofs.ends.Goals as goal

pub loop-d-init : goal.loop-d-init
loop-d-init c = scan_start c.requires.0 c.requires.1 c.requires.2

pub returns : goal.returns
returns c =
    let v = scan_end c.requires.0 c.loop-d.invariant c.loop-d-test.false in
    record { exact = v.0; follows = v.1; bounded = v.2 }
