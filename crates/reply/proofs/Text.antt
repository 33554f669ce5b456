-- What a code without a name is called. Assumes nothing.
use mathlib.Core.Path.{◌≡◌, refl, sym, ap}
use mathlib.Core.List.{[]}
use Prim.Native.Nat.{ℕ, zero, suc, ◌-◌, ◌≤◌}
use native.Mathlib.Omega.{arith}
use lib.ListN.{length, get_or-eq_default}
use Rattle.page.specs.Page.{ascii}
use Rattle.reply.specs.Text.{names, name_text}

-- none of the codes 1 to k
abbrev pub NoneTo : ℕ → ℕ → Type 0
NoneTo zero n = Unit {0}
NoneTo (suc k) n = NoneTo k n × (n ≡ suc k → ⊥)

-- such a code, where it is not 0, is above k
above : (k n : ℕ) → NoneTo k (suc n) → k ≤ n
above zero n h = omega arith
above (suc k) n h = omega (arith, above k n h.0, h.1)

-- the last code that has a name; 0 has an empty one
abbrev pub last_named : ℕ
last_named = length names - 1

-- no other code has a name
pub name_none : (n : ℕ) → NoneTo last_named n → [] ≡ name_text n
name_none zero h = refl
name_none (suc n) h = ap ascii (sym (get_or-eq_default names "" {n = suc n} (omega (arith, above last_named n h))))
