-- What drop leaves of a chain, from the place where its bytes are cut off.
use Rattle.std.specs.Prelude.{◌≡◌, Bool, List, [], ◌∷◌, Option, Some, None, IfSome, ℕ, zero, suc, ◌+◌, ◌-◌, ◌≤◌, ◌<◌, length}
use Rattle.rules.specs.Tables.{Tables, piece, buffer_count, buffer_total}
use Rattle.rules.specs.Chain.{Stretch}
use Rattle.rules.specs.Room.{free_from}
use Rattle.rules.specs.Build.{Plan, plain}
use Rattle.rules.specs.Drop.{drop_here}
use Rattle.tables.specs.Window.{window_of}
use Rattle.tables.specs.declared.Window.{Window}
use Rattle.rest.specs.declared.Tail.{Tail}

-- the plan of what stays from r bytes into the piece that the link n leads to; own: that piece is own
unfoldable pub rest_from : Tables → Bool → ℕ → ℕ → Plan
rest_from T own zero r = plain T []
rest_from T own (suc d) r = drop_here T own d r

-- the stretch of a window that may be there
abbrev pub stretch_in : Option Window → List Stretch
stretch_in None = []
stretch_in (Some w) = window_of w ∷ []

-- the stretch of the new piece of what stays, where it needs one
abbrev pub new_of : Tail → List Stretch
new_of r = stretch_in r.window

-- what piece d has from its byte n on
abbrev pub copy_of : Tables → ℕ → ℕ → Window
copy_of T d n = record { buffer = record { 0 = (piece T d).buffer }; offset = (piece T d).offset + n; len = (piece T d).len - n }

-- r is what is still to be made of the plan p
pub record Stays (r : Tail) (p : Plan) : Type 0 where
  pub tail_is : r.next ≡ p.tail
  pub more_is : new_of r ≡ p.more

-- The new piece of r can be made: a piece is free for it from number i on, and its buffer, which is below B, can count one more.
pub record Makable (T : Tables) (r : Tail) (i : ℕ) : Type 0 where
  pub room : length (new_of r) ≤ length (free_from T i)
  pub in_store : IfSome r.window (λ w. w.buffer.0 < buffer_total T)
  pub counted : IfSome r.window (λ w. buffer_count T w.buffer.0 < 65535)
