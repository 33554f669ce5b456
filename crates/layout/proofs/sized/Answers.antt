-- `layout::sized` meets its contract. Assumes nothing.
use Rattle.std.proofs.Common.{◌≡◌, true, nat_eq, sym, ◌∙◌, [], ◌∷◌}
use Rattle.kinds.proofs.Sizes.{start_one}
use Rattle.layout.proofs.sized.Goals as goal
use Rattle.layout.proofs.sized.Goals.{then-counted, else-counted, then-counted-2, else-counted-2, then-counted-3, else-counted-3}

pub returns-then-pool-pool_length : goal.returns-then-pool-pool_length
returns-then-pool-pool_length c =
    let B = c.args.shape.buffers in
    elim c.if-counted-3.branch [
      | else-counted-3 w ↦ (let t = c.if-pool-pool_length.true in let e = w.value-is in let f = w.if-counted-3.false in cc)
      | then-counted-3 w ↦ elim c.if-counted-2.branch [
        | else-counted-2 v ↦ (let t = w.if-counted-3.true in let e = v.value-is in let f = v.if-counted-2.false in cc)
        | then-counted-2 v ↦ elim c.if-counted.branch [
          | else-counted u ↦ (let t = v.if-counted-2.true in let e = u.value-is in let f = u.if-counted.false in cc)
          | then-counted u ↦ rw (
            sym c.counted.ensures ∙ u.if-counted.true,
            sym u.counted-then-counted.ensures ∙ sym u.value-is ∙ v.if-counted-2.true,
            sym v.counted-then-counted-2.ensures ∙ sym v.value-is ∙ w.if-counted-3.true,
            sym w.pool_length.ensures,
            (let e : nat_eq c.args.pool w.pool_length.result ≡ true = sym w.value-is ∙ c.if-pool-pool_length.true in e),
            c.start.ensures ∙ sym (start_one (B ∷ []) B),
          )
        ]
      ]
    ]
