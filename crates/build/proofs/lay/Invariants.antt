use Rattle.rules.specs.Bytes.{decode}
use Rattle.rules.specs.Room.{free_pieces, new_buffers}
use Rattle.rules.specs.Build.{built, laid}
use Rattle.tables.specs.Shape.{Shaped}
use Rattle.build.proofs.Laid.{Lays}
use Rattle.build.proofs.lay.Given as goal

abbrev pub invariant-loop-more : goal.invariant-loop-more
invariant-loop-more l =
    let T = decode l.initial.pool in
    Shaped l.pool l.shape × Lays (built T (free_pieces T) (laid T.stock (new_buffers T l.count) l.n) 0) (decode l.pool) l.c l.more
