use mathlib.Core.Path.{◌≡◌}
use lib.ListN.{length}
use Rattle.std.specs.Slice.Iter.{chunks_rest, chunks_size}
use Rattle.kinds.specs.Limits.{buffer_size}
use Rattle.rules.specs.Tables.{buffer_total}
use Rattle.rules.specs.Bytes.{decode}
use Rattle.rules.specs.Room.{is_unheld, new_buffers}
use Rattle.rules.specs.Build.{buffers_for, stored}
use Rattle.transfer.proofs.Fill.{Filling}
use Rattle.transfer.proofs.fill_free.Given as goal

abbrev pub invariant-loop-part : goal.invariant-loop-part
invariant-loop-part l =
    let T = decode l.pool in
    (chunks_size l.part-iterator ≡ buffer_size) × Filling T.stock (is_unheld T) (buffer_total T) (stored T.stock l.initial.storage (new_buffers T (buffers_for (length l.input))) l.input) l.from.0 l.storage (chunks_rest l.part-iterator)
