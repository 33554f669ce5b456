use Rattle.std.proofs.Common.{◌≡◌}
use Rattle.std.specs.Slice.Iter.{chunks_exact_rest, chunks_exact_size}
use Rattle.rules.specs.Read.{copied}
use Rattle.rules.specs.Gather.{listed}
use Rattle.gather.proofs.Laws.{Listing}
use Rattle.gather.proofs.copy_all.Given as goal

abbrev pub invariant-loop-record : goal.invariant-loop-record
invariant-loop-record l =
    (chunks_exact_size l.record-iterator ≡ 2) × Listing l.storage (copied (listed l.storage l.list) l.initial.output) (chunks_exact_rest l.record-iterator) l.output l.at
