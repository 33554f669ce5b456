-- `transfer::extent_at` meets its contract. Assumes nothing.
use Prim.Native.Nat.{◌-◌}
use native.Mathlib.Omega.{arith}
use Rattle.kinds.proofs.Sizes.{start_most}
use Rattle.rules.specs.Tables.{piece}
use Rattle.rules.specs.Bytes.{decode}
use Rattle.rules.proofs.Bytes.{decode_sized}
use Rattle.transfer.proofs.extent_at.Goals as goal

pub overflow_add-start : goal.overflow_add-start
overflow_add-start c =
    let T = decode c.args.pool.now in
    let small = (decode_sized c.args.pool.now (λ i. omega (arith, c.type_inv.pool i))).pieces_small (c.args.c.link - 1) in
    omega (arith, c.position.ensures, small.small_buffer, small.small_offset, start_most T.stock (piece T (c.args.c.link - 1)).buffer)
