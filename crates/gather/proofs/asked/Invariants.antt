use Rattle.std.proofs.Common.{◌≡◌}
use Rattle.std.specs.Slice.Iter.{chunks_exact_rest, chunks_exact_size}
use Rattle.gather.proofs.Laws.{Summing}
use Rattle.gather.proofs.asked.Given as goal

abbrev pub invariant-loop-record : goal.invariant-loop-record
invariant-loop-record l =
    (chunks_exact_size l.record-iterator ≡ 2) × Summing l.list l.size l.room l.left l.bad (chunks_exact_rest l.record-iterator)
