-- What an operation on a slip begins with.
use Rattle.std.specs.Prelude.{◌≡◌, ℕ, suc, ◌<◌, Result, Ok, Err}
use Rattle.kinds.specs.declared.Refusal.{Refusal}
use Rattle.kinds.specs.declared.Refusal.TheVariants.{Slip}
use Rattle.rules.specs.Basics.{Is}
use Rattle.rules.specs.Tables.{Tables, slip, head_of, slip_total}
use Rattle.rules.specs.Sound.{link_ok}
use Rattle.rules.specs.Rule.{Name, unnamed}
use Rattle.layout.specs.declared.Shape.{Shape}

-- x names a slip of the pool, which is held, and n is the link that it holds, which is good
pub record Entered (T : Tables) (h : Shape) (x : Name) (n : ℕ) : Type 0 where
  pub named : Is (unnamed T x) → ⊥
  pub below : x.slip < h.slips
  pub inside : x.slip < slip_total T
  pub entry_is : slip T x.slip ≡ suc n
  pub link_is : n ≡ head_of T x.slip
  pub good : Is (link_ok T n)

-- r is the link that the slip which x names holds, or code 3 where x names none
abbrev pub Enters : Tables → Shape → Name → Result ℕ Refusal → Type 0
Enters T h x (Ok n) = Entered T h x n
Enters T h x (Err r) = (r ≡ Slip) × Is (unnamed T x)
