-- `counts::count_entry` meets its contract. Assumes nothing.
use Rattle.std.proofs.Common.{rules}
use Rattle.rules.specs.Basics.{whether◌then◌else◌}
use Rattle.counts.proofs.count_entry.Goals as goal

pub bounds-lies-e : goal.bounds-lies-e
unfolding whether◌then◌else◌
bounds-lies-e c = search rules

pub bounds-lies-e-then-e-gt0 : goal.bounds-lies-e-then-e-gt0
unfolding whether◌then◌else◌
bounds-lies-e-then-e-gt0 c = search rules

pub returns-then-e-gt0 : goal.returns-then-e-gt0
unfolding whether◌then◌else◌
returns-then-e-gt0 c = search rules

pub returns-else-e-gt0 : goal.returns-else-e-gt0
unfolding whether◌then◌else◌
returns-else-e-gt0 c = search rules
