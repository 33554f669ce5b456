-- `release::give_up` meets its contract. Assumes nothing.
use Rattle.std.proofs.Common.{arith}
use Rattle.std.proofs.lemmas.Bool.Decides.{nat_tests}
use Rattle.rules.specs.Basics.{whether◌then◌else◌}
use Rattle.tables.proofs.Laws.{totals}
use Rattle.release.specs.Release.{stepped, step_next, stepped_storage}
use Rattle.release.proofs.give_up.Goals as goal

pub returns-then-n-gt1 : goal.returns-then-n-gt1
unfolding whether◌then◌else◌ stepped step_next stepped_storage
returns-then-n-gt1 c = grind (arith, totals, nat_tests)

pub returns : goal.returns
unfolding whether◌then◌else◌ stepped step_next stepped_storage
returns c = grind (arith, totals, nat_tests)
