-- When one chain can be joined to another, and a link put in its place.
use Rattle.std.specs.Prelude.{◌≡◌, ℕ, zero, suc}
use Rattle.rules.specs.Basics.{Is}
use Rattle.rules.specs.Tables.{Tables, piece, serial, head_of, holding, set_slip, set_piece, with_next}
use Rattle.rules.specs.Rule.{Name, name, unnamed}

-- the name of slip s, with the serial that it has
abbrev pub good_name : Tables → ℕ → Name
good_name T s = name s (serial T s)

-- the tables once the link n is behind the piece that `last` leads to, or under slip s where that leads nowhere
abbrev pub linked : Tables → ℕ → ℕ → ℕ → Tables
linked T s zero n = set_slip T s (holding n)
linked T s (suc l) n = set_piece T l (with_next (piece T l) n)

-- a and b are two named slips, and head and tail the links to their chains, neither of which is empty
pub record Joinable (T : Tables) (a b head tail : ℕ) : Type 0 where
  pub a_named : Is (unnamed T (good_name T a)) → ⊥
  pub b_named : Is (unnamed T (good_name T b)) → ⊥
  pub apart : a ≡ b → ⊥
  pub head_is : head ≡ head_of T a
  pub tail_is : tail ≡ head_of T b
  pub head_some : head ≡ 0 → ⊥
  pub tail_some : tail ≡ 0 → ⊥
