-- The most that a sound pool comes to, in numbers written out.
use Rattle.std.specs.Prelude.{◌≡◌, ℕ, ◌≤◌, length}
use Rattle.rules.specs.Basics.{Is}
use Rattle.rules.specs.Tables.{Tables, piece, slip, buffer_count}
use Rattle.rules.specs.Bytes.{decode}
use Rattle.rules.specs.Chain.{chain, length_of}
use Rattle.rules.specs.Sound.{Lent, sound}

-- no chain is longer, and no count, slip's entry or link is higher
pub record Most (T : Tables) : Type 0 where
  pub chain_pieces : (s : ℕ) → length (chain T s) ≤ 2048
  pub chain_bytes : (s : ℕ) → length_of T s ≤ 1048576
  pub piece_counts : (d : ℕ) → (piece T d).count ≤ 2304
  pub buffer_counts : (b : ℕ) → buffer_count T b ≤ 2048
  pub entries : (s : ℕ) → slip T s ≤ 2049
  pub links : (d : ℕ) → (piece T d).next ≤ 2048

-- a sound pool whose first slip holds the longest chain, all of it on one buffer
pub record Longest (m : Lent) : Type 0 where
  pub is_sound : Is (sound m)
  pub chain_pieces : length (chain (decode m.pool) 0) ≡ 2048
  pub chain_bytes : length_of (decode m.pool) 0 ≡ 1048576
  pub buffer_count_lem : buffer_count (decode m.pool) 0 ≡ 2048
