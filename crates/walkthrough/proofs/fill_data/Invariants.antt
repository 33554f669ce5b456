-- The first `i` bytes are the data.
use mathlib.Core.Path.{◌≡◌}
use lib.ListN.{take}
use Rattle.rules.specs.Morning.{byte_run}
use Rattle.walkthrough.proofs.fill_data.Given as goal

abbrev pub invariant-loop-i : goal.invariant-loop-i
invariant-loop-i l = take l.i l.input ≡ byte_run 0 l.i
