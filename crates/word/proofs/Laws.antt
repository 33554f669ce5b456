-- What a 16-bit load reads: after a store, past a prefix, and in a run of numbers.
use Rattle.std.proofs.Common.{◌≡◌, ◌≢◌, ℕ, zero, suc, ◌+◌, ◌*◌, ◌<◌, List, [], ◌∷◌, ◌++◌, length, get_or, refl, arith}
use Rattle.std.proofs.lemmas.Grind.{common_steps}
use Rattle.word.specs.Word.{get16, set16, bytes16}

-- the two bytes at b and the two at a are apart: the ranges do not overlap
abbrev pub Apart : ℕ → ℕ → Type 0
Apart b a = (b ≢ a) × (b ≢ a + 1) × (b + 1 ≢ a)

module _ (p : List ℕ) (a v : ℕ) where
  -- a store keeps the length
  pub length_set16 : length (set16 p a v) ≡ length p
  unfolding set16
  length_set16 = grind (arith, common_steps)

  -- a load reads what was stored at the same byte
  pub get16_same : a + 1 < length p → v < 65536 → get16 (set16 p a v) a ≡ v
  unfolding get16 set16
  get16_same h small = grind (arith, common_steps)

  -- a load elsewhere reads what it did before the store
  pub get16_other : (b : ℕ) → Apart b a → get16 (set16 p a v) b ≡ get16 p b
  unfolding get16 set16
  get16_other b apart = grind (arith, common_steps)

-- each number takes two bytes
pub length_bytes16 : (vs : List ℕ) → length (bytes16 vs) ≡ 2 * length vs
length_bytes16 [] = refl
length_bytes16 (v ∷ vs) = omega (arith, length_bytes16 vs)

-- a load past a prefix reads the rest
pub get16_past : (p l : List ℕ) (a : ℕ) → get16 (p ++ l) (length p + a) ≡ get16 l a
unfolding get16
get16_past p l a = grind (arith, common_steps)

-- a load in the bytes of numbers reads the number of that place
pub get16_run : (vs l : List ℕ) (i : ℕ) → ((j : ℕ) → get_or vs j 0 < 65536) → i < length vs → get16 (bytes16 vs ++ l) (2 * i) ≡ get_or vs i 0
unfolding get16
get16_run [] l i h b = absurd (omega arith)
get16_run (v ∷ vs) l zero h b = omega (arith, h 0)
get16_run (v ∷ vs) l (suc i) h b =
    let e : 2 * suc i ≡ suc (suc (2 * i)) = omega arith in
    let f : suc (suc (2 * i)) + 1 ≡ suc (suc (2 * i + 1)) = omega arith in
    rw (e, f) (get16_run vs l i (λ j. h (suc j)) (omega arith))
