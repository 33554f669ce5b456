use Rattle.rules.specs.Bytes.{decode}
use Rattle.audit.specs.Colours.{colours_in, Scanned}
use Rattle.audit.proofs.ends.Given as goal

abbrev pub invariant-loop-d : goal.invariant-loop-d
invariant-loop-d l = Scanned (decode l.pool) (colours_in l.colours) l.n l.d
