-- The stock of a pool's text counted. Assumes nothing.
use mathlib.Core.Path.{◌≡◌, refl, ap, ◌∙◌}
use mathlib.Core.Bool.{Bool, true, false, cond}
use mathlib.Core.List.{List, ◌∷◌}
use Prim.Native.Nat.{ℕ, zero, suc}
use native.Mathlib.Numerals.{add-one}
use Rattle.std.specs.List.{filter, range_with_len}
use Rattle.rules.specs.Basics.{places, whether◌then◌else◌}
use Rattle.rules.specs.Tables.{buffer_total}
use Rattle.rules.specs.Bytes.{decode}
use Rattle.layout.specs.declared.Shape.{Shape}
use Rattle.tables.specs.Shape.{Shaped}
use Rattle.tables.proofs.Laws.{whole, total_buffers}

-- a choice, in std's word and in the rules'
choice : {A : Type 0} (b : Bool) (x y : A) → cond b x y ≡ (whether b then x else y)
unfolding whether◌then◌else◌
choice true x y = refl
choice false x y = refl

-- those of the k numbers from i on that pass, as std says it
pub filter_places : (f : ℕ → Bool) (i k : ℕ) → filter f (range_with_len i k) ≡ places f i k
unfolding places
filter_places f i zero = refl
filter_places f i (suc k) = choice (f i) _ _ ∙ ap (λ (l : List ℕ). whether f i then i ∷ l else l) (rw add-one (filter_places f (suc i) k))

-- a pool's tables have as many buffers as its shape says
pub buffer_count : {p : List ℕ} {h : Shape} → Shaped p h → buffer_total (decode p) ≡ h.buffers
buffer_count is = total_buffers (whole is)
