-- New pieces may be taken front first, and the free numbers after one taken stay: what a loop in chain order goes by. Assumes nothing.
use mathlib.Core.Path.{◌≡◌, refl, ap, ◌∙◌}
use mathlib.Core.Logic.{◌≢◌}
use mathlib.Core.Bool.{Bool}
use mathlib.Core.List.{List, [], ◌∷◌, Memᴰ}
use Prim.Native.Nat.{ℕ, zero, suc, ◌≤◌, ◌<◌}
use native.Mathlib.Omega.{arith}
use lib.ListN.{get_or, set}
use lib.Seq.{set_comm, get_or-set_other}
use lib.Dec.{eqb}
use Rattle.rules.specs.Basics.{places}
use Rattle.rules.specs.Tables.{Piece, Tables, blank, piece, set_slip}
use Rattle.rules.specs.Chain.{Stretch}
use Rattle.rules.specs.Room.{is_free, is_unheld}
use Rattle.rules.specs.Build.{fresh, taken, built, built_link}

-- ---- the order of taking

-- one more on entry b
abbrev bump : List ℕ → ℕ → List ℕ
bump l b = set l b (suc (get_or l b 0))

bump_comm : (l : List ℕ) (a b : ℕ) → bump (bump l a) b ≡ bump (bump l b) a
bump_comm l a b = grind (arith, set_comm, get_or-set_other)

-- two pieces may be taken in either order
taken_comm : (T : Tables) (f g : ℕ) (p q : Piece) → f ≢ g → taken (taken T g q) f p ≡ taken (taken T f p) g q
taken_comm T f g p q h = grind (arith, set_comm, bump_comm)

-- the front piece may be taken before the pieces behind it
pub taken_first : (T : Tables) (f : ℕ) (p : Piece) (fs : List ℕ) (xs : List Stretch) (tail : ℕ) → (Memᴰ f fs → ⊥)
    → taken (built T fs xs tail) f p ≡ built (taken T f p) fs xs tail
unfolding built
taken_first T f p fs [] tail h = refl
taken_first T f p [] (x ∷ xs) tail h = refl
taken_first T f p (g ∷ gs) (x ∷ xs) tail h =
    taken_comm (built T gs xs tail) f g p (fresh x (built_link gs xs tail)) (λ e. h (Memᴰ.head e))
    ∙ ap (λ (U : Tables). taken U g (fresh x (built_link gs xs tail))) (taken_first T f p gs xs tail (λ m. h (Memᴰ.tail m)))

-- a slip may be set before new pieces are built or after
pub built_slip : (T : Tables) (s v : ℕ) (fs : List ℕ) (xs : List Stretch) (tail : ℕ) → built (set_slip T s v) fs xs tail ≡ set_slip (built T fs xs tail) s v
unfolding built
built_slip T s v fs [] tail = refl
built_slip T s v [] (x ∷ xs) tail = refl
built_slip T s v (f ∷ fs) (x ∷ xs) tail = ap (λ (U : Tables). taken U f (fresh x (built_link fs xs tail))) (built_slip T s v fs xs tail)

-- ---- the free numbers

-- two tests that agree from i on pass the same numbers from i on
pub places_same : (f g : ℕ → Bool) (i k : ℕ) → ((j : ℕ) → i ≤ j → f j ≡ g j) → places f i k ≡ places g i k
unfolding places
places_same f g i zero h = refl
places_same f g i (suc k) h =
    rw (h i (omega arith), places_same f g (suc i) k (λ j l. h j (omega arith)))

module _ (T : Tables) (f : ℕ) (p : Piece) where
  -- no other piece changes
  pub piece_other : (d : ℕ) → d ≢ f → piece (taken T f p) d ≡ piece T d
  piece_other d h = get_or-set_other T.pieces f d p blank h

  pub free_other : (d : ℕ) → d ≢ f → is_free (taken T f p) d ≡ is_free T d
  free_other d h = ap (λ (q : Piece). eqb q.count 0) (piece_other d h)

  -- the free pieces after f are the same before and after f is taken
  pub free_after_lem : (i k : ℕ) → f < i → places (is_free (taken T f p)) i k ≡ places (is_free T) i k
  free_after_lem i k h = places_same (is_free (taken T f p)) (is_free T) i k (λ j l. free_other j (λ e. omega arith))

  -- and so are the free buffers after the one that the new piece lies on
  pub unheld_after : (i k : ℕ) → p.buffer < i → places (is_unheld (taken T f p)) i k ≡ places (is_unheld T) i k
  unheld_after i k h =
      places_same (is_unheld (taken T f p)) (is_unheld T) i k (λ j l. ap (λ n. eqb n 0) (get_or-set_other T.counts p.buffer j _ 0 (λ e. omega arith)))
