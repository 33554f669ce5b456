-- The first bytes of a chain in one new piece: what is made, when it can be, and what it leaves.
use Rattle.std.specs.Prelude.{◌≡◌, true, List, ◌∷◌, IfSome, ℕ, ◌+◌, ◌≤◌, ◌<◌, length}
use Rattle.kinds.specs.Limits.{buffer_size}
use Rattle.rules.specs.Basics.{Is}
use Rattle.rules.specs.Tables.{Tables, head_of, buffer_count, slip_total, piece_total, buffer_total}
use Rattle.rules.specs.Bytes.{decode}
use Rattle.rules.specs.Chain.{Stretch, spans, first_length, length_of, own_of, state_of}
use Rattle.rules.specs.Room.{is_free, is_free_with, is_unheld, free_pieces, free_from}
use Rattle.rules.specs.Drop.{dropped}
use Rattle.rules.specs.Pullup.{pullup_after}
use Rattle.layout.specs.declared.Shape.{Shape}
use Rattle.tables.specs.Shape.{Holds}
use Rattle.chain.specs.declared.Spot.{Spot}
use Rattle.chain.specs.Find.{spot_of}
use Rattle.room.specs.Free.{first_from}
use Rattle.rest.specs.declared.Tail.{Tail}
use Rattle.rest.specs.Rest.{new_of}

-- the n bytes of buffer b, before what stays
abbrev pub first_on : ℕ → ℕ → Tail → List Stretch
first_on b n r = record { buffer = b; offset = 0; len = n } ∷ new_of r

-- A piece on buffer b and the new piece of r can be made: pieces are free for both from i on, none between i and j, and their buffers, below B, can count one more each.
pub record FirstMakable (T : Tables) (r : Tail) (i j b : ℕ) : Type 0 where
  pub room : length (new_of r) < length (free_from T i)
  pub none_between : (d : ℕ) → i < d → d < j → Is (is_free T d) → ⊥
  pub in_store : IfSome r.window (λ w. w.buffer.0 < buffer_total T)
  pub first_in : b < buffer_total T
  pub counted : (x : ℕ) → buffer_count T x + 1 < 65535

-- The first n bytes of the chain of s can go to buffer b, and have to: the chain starts at the link `head`, `at` is the place
-- behind them, they fit a buffer, the chain has them and its first piece has not, b is the lowest free buffer, there is room for a
-- piece more than drop takes once the own pieces are given back, and none below `from`, or between it and `beyond`, is then free.
pub record Pullable (T : Tables) (s n head : ℕ) (at : Spot) (from beyond b : ℕ) : Type 0 where
  pub named : s < slip_total T
  pub starts : head ≡ head_of T s
  pub place : at ≡ spot_of (piece_total T) T true head n
  pub fits : n ≤ buffer_size
  pub enough : n ≤ length_of T s
  pub scattered : first_length (spans T s) < n
  pub none_below : (d : ℕ) → d < from → Is (is_free_with T (own_of T s) d) → ⊥
  pub none_between : (d : ℕ) → from < d → d < beyond → Is (is_free_with T (own_of T s) d) → ⊥
  pub lowest : b ≡ first_from (is_unheld T) 0 (buffer_total T)
  pub inside : b < buffer_total T
  pub room : length (dropped T s n).more < length (own_of T s) + length (free_pieces T)

-- the pool q and the storage st' are what pullup of n bytes of slip s leaves of the pool p, of shape h, and the storage st
pub record Pulled (p st : List ℕ) (h : Shape) (s n : ℕ) (q st' : List ℕ) : Type 0 where
  pub tables_are : Holds q h (pullup_after s n (state_of (decode p) st)).tables
  pub storage_is : st' ≡ (pullup_after s n (state_of (decode p) st)).storage
