-- The limit on counts; a slip's state and the number that stands for it are each other's inverse; which numbers stand for a held slip. Assumes nothing.
use Prim.Native.Nat.{ℕ, zero, suc, ◌-◌}
use mathlib.Core.Path.{◌≡◌, refl, sym, ap, ◌∙◌}
use mathlib.Core.Logic.{◌≢◌}
use mathlib.Core.Bool.{Bool, true, false, true≢false}
use native.Mathlib.Omega.{arith}
use Rattle.kinds.specs.declared.PieceNumber.{PieceNumber}
use Rattle.kinds.specs.declared.SlipState.{SlipState}
use Rattle.kinds.specs.declared.SlipState.TheVariants.{Vacant, Empty, Heads}
use Rattle.kinds.specs.SlipState.{state_of, is_held, raw_of}
use Rattle.kinds.specs.Limits.{most_count}

-- the limit on counts: 2,048 references by pieces and 256 by slips
pub most_count_lem : most_count ≡ 2304
most_count_lem = refl

-- decoding an encoded state gives the state
pub state_raw : (s : SlipState) → state_of (raw_of s) ≡ s
state_raw Vacant = refl
state_raw Empty = refl
state_raw (Heads p) = refl

-- encoding a decoded number gives the number
pub raw_state : (n : ℕ) → raw_of (state_of n) ≡ n
raw_state zero = refl
raw_state (suc zero) = refl
raw_state (suc (suc d)) = refl

-- a number that stands for the head of a chain is two above the piece's
pub heads_raw : {n : ℕ} {p : PieceNumber} → state_of n ≡ Heads p → n ≡ suc (suc p.0)
heads_raw {n} e = sym (raw_state n) ∙ ap raw_of e

-- a number that is neither 0 nor 1 stands for the piece two below it
pub state_heads : (n : ℕ) → n ≢ 0 → n ≢ 1 → Heads (record { 0 = n - 2 }) ≡ state_of n
state_heads zero m o = absurd (m refl)
state_heads (suc zero) m o = absurd (o refl)
state_heads (suc (suc d)) m o = let e : suc (suc d) - 2 ≡ d = omega arith in rw e

-- the entry of a slip that is not held is 0, and of one that is held another number
zero_held : (n : ℕ) → is_held (state_of n) ≡ false → n ≡ 0
zero_held zero e = refl
zero_held (suc zero) e = absurd (true≢false e)
zero_held (suc (suc d)) e = absurd (true≢false e)

module _ {n : ℕ} {x : SlipState} {r : Bool} (e : x ≡ state_of n) (h : r ≡ is_held x) where
  pub entry_none : r ≡ false → n ≡ 0
  entry_none f = zero_held n (sym (ap is_held e) ∙ sym h ∙ f)

  pub entry_some : r ≡ true → n ≢ 0
  entry_some t z = true≢false (sym t ∙ h ∙ ap is_held e ∙ ap (λ (k : ℕ). is_held (state_of k)) z)
