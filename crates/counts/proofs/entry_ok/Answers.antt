-- `counts::entry_ok` meets its contract. Assumes nothing.
use Rattle.std.proofs.Common.{rules}
use Rattle.rules.specs.Basics.{whether◌then◌else◌}
use Rattle.counts.proofs.entry_ok.Goals as goal

pub returns-then-e-eq0 : goal.returns-then-e-eq0
unfolding whether◌then◌else◌
returns-then-e-eq0 c = search rules

pub returns-else-e-eq0 : goal.returns-else-e-eq0
unfolding whether◌then◌else◌
returns-else-e-eq0 c = search rules
