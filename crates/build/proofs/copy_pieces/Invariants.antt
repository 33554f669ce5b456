use Rattle.rules.specs.Chain.{cut_out}
use Rattle.rules.specs.Bytes.{decode}
use Rattle.rules.specs.Room.{free_pieces}
use Rattle.rules.specs.Build.{built}
use Rattle.tables.specs.Shape.{Shaped}
use Rattle.chain.specs.Length.{stretches_from}
use Rattle.build.proofs.Clone.{Copies}
use Rattle.build.proofs.copy_pieces.Given as goal

abbrev pub invariant-loop-more : goal.invariant-loop-more
invariant-loop-more l =
    let T = decode l.initial.pool in
    Shaped l.pool l.shape × Copies T (built T (free_pieces T) (cut_out (stretches_from T l.link) l.into l.n) l.tail) l.tail (decode l.pool) l.c l.more
