use Rattle.rules.specs.Bytes.{decode}
use Rattle.counts.proofs.Counters.{SlipsTo}
use Rattle.counts.proofs.count_slips.Given as goal

abbrev pub invariant-loop-s : goal.invariant-loop-s
invariant-loop-s l = SlipsTo (decode l.pool) l.s l.refs
