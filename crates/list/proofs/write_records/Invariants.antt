use Rattle.rules.specs.Bytes.{decode}
use Rattle.list.proofs.Laws.{Writing}
use Rattle.list.proofs.write_records.Given as goal

abbrev pub invariant-loop-k : goal.invariant-loop-k
invariant-loop-k l = Writing (decode l.pool) l.link l.initial.list l.at l.k l.list
