-- `storage::fill_part` meets its contract: the front of the block holds the bytes. Assumes nothing.
use mathlib.Core.Path.{ap, ◌∙◌}
use Rattle.std.proofs.Common.{◌≡◌, length, take, drop, length-take, length-drop, arith}
use Rattle.std.proofs.lemmas.Grind.{common_steps}
use Rattle.kinds.specs.Limits.{buffer_size}
use Rattle.storage.proofs.Laws.{written}
use Rattle.storage.proofs.fill_part.Goals as goal

pub returns : goal.returns
returns c =
    let a = c.args in
    let x = take a.n (drop a.from a.storage.now) in
    let l : length x ≡ a.n = simp (length-take, length-drop) (omega arith) in
    let v : take a.n c.copy_part.new.dst ≡ x = grind (arith, common_steps) in
    rw (← c.start-start.ensures, ← v)
    (written a.storage.now (take a.n c.copy_part.new.dst) c.write_at.new.part c.start-start.result buffer_size a.at a.n
    (omega arith) (omega arith) (ap length v ∙ l) c.write_at.ensures)
