-- The header of a pool and its counts, in numbers written out.
use Rattle.std.specs.Prelude.{◌≡◌, List, ℕ, ◌+◌, ◌*◌, ◌≤◌, length, get_or}
use Rattle.word.specs.Word.{get16}

-- the counts that a pool of n bytes beside k bytes of storage may have
pub record CountsAt (B P S n k : ℕ) : Type 0 where
  pub some_buffers : 1 ≤ B
  pub most_buffers_lem : B ≤ 1024
  pub some_pieces : 1 ≤ P
  pub most_pieces_lem : P ≤ 2048
  pub some_slips : 1 ≤ S
  pub most_slips_lem : S ≤ 256
  pub pool_long : n ≡ 11 + 4 * S + 10 * P + 2 * B
  pub storage_long : k ≡ 512 * B

-- the header that a pool p beside k bytes of storage has
pub record HeaderAt (p : List ℕ) (k : ℕ) : Type 0 where
  pub mark_0 : get_or p 0 0 ≡ 83
  pub mark_1 : get_or p 1 0 ≡ 76
  pub mark_2 : get_or p 2 0 ≡ 80
  pub version_2 : get16 p 3 ≡ 2
  pub counts : CountsAt (get16 p 5) (get16 p 7) (get16 p 9) (length p) k
