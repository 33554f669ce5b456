use Rattle.rules.specs.Bytes.{decode}
use Rattle.counts.proofs.Counters.{PiecesTo}
use Rattle.counts.proofs.count_pieces.Given as goal

abbrev pub invariant-loop-d : goal.invariant-loop-d
invariant-loop-d l = PiecesTo (decode l.pool) l.d l.refs l.lies
