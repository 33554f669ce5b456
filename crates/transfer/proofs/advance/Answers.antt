-- `transfer::advance` meets its contract. Assumes nothing.
use Rattle.std.proofs.Common.{arith}
use Rattle.std.proofs.lemmas.Bool.Decides.{nat_tests}
use Rattle.rules.specs.Basics.{whether◌then◌else◌}
use Rattle.transfer.proofs.advance.Goals as goal

pub returns-then-into-length : goal.returns-then-into-length
unfolding whether◌then◌else◌
returns-then-into-length c = grind (arith, nat_tests)

pub returns : goal.returns
unfolding whether◌then◌else◌
returns c = grind (arith, nat_tests)
