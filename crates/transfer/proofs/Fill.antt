-- Filling the lowest free buffers, one after another. Assumes nothing.
use mathlib.Core.Path.{◌≡◌, refl, sym, ap, ◌∙◌}
use mathlib.Core.Bool.{Bool}
use mathlib.Core.List.{List, ◌∷◌, ◌++◌}
use Prim.Native.Nat.{ℕ, suc, ◌+◌, ◌-◌, ◌*◌, ◌≤◌, ◌<◌, min}
use native.Mathlib.Numerals.{add-one}
use native.Mathlib.Decide.{dec_lt}
use native.Mathlib.Omega.{arith}
use lib.ListN.{length, take, drop, length-take, length-drop}
use Rattle.std.proofs.lemmas.List.{take_min, drop_min}
use lib.Seq.{take_at, drop_at, take-take}
use Rattle.kinds.specs.Limits.{buffer_size}
use Rattle.kinds.specs.Sizes.{size_of}
use Rattle.kinds.proofs.Sizes.{size_one}
use Rattle.rules.specs.Basics.{Is, places}
use Rattle.rules.specs.Storage.{filled_at, filled}
use Rattle.rules.specs.Build.{buffers_for, stored}
use Rattle.rules.proofs.Contents.{Fit, filled_length}
use Rattle.room.specs.Free.{first_from, lowest_for}
use Rattle.room.proofs.Free.{first_lies, free_first, free_none, lowest_all}
use Rattle.storage.proofs.Place.{place_one, place_filled}

-- ---- how many buffers

-- no byte needs no buffer
for_none : (n : ℕ) → n ≡ 0 → buffers_for n ≡ 0
for_none n e = omega arith

-- some bytes need one buffer, and those for the bytes behind it
for_some : (n : ℕ) → 0 < n → buffers_for n ≡ suc (buffers_for (n - buffer_size))
for_some n h = omega arith

-- so bytes that fit one buffer need just that
pub for_one : (n : ℕ) → 0 < n → n ≤ buffer_size → buffers_for n ≡ 1
for_one n h k = omega arith

-- ---- one buffer

-- a buffer takes no more bytes than its size
filled_first : (st : List ℕ) (a z : ℕ) (xs : List ℕ) → filled_at st a z (take z xs) ≡ filled_at st a z xs
unfolding filled_at
filled_first st a z xs =
    let l : z - length (take z xs) ≡ z - length xs = simp length-take (omega arith) in
    rw (l, take-take z z xs (omega arith))

-- the next part of a list, as long as z if the list is, and what comes behind it
pub next_part_lem : (z : ℕ) (xs part behind : List ℕ) → xs ≡ part ++ behind → length part ≡ min z (length xs) → (part ≡ take z xs) × (behind ≡ drop z xs)
next_part_lem z xs part behind e l = (
  sym (take_at part behind (length part) refl) ∙ ap (take (length part)) (sym e) ∙ ap (λ i. take i xs) l ∙ take_min z xs,
  sym (drop_at part behind (length part) refl) ∙ ap (drop (length part)) (sym e) ∙ ap (λ i. drop i xs) l ∙ drop_min z xs,
)

-- ---- the lowest that pass

-- where a number from i on and below n passes, the lowest lies there and passes, and the others come after it
pub lowest : (f : ℕ → Bool) (i n : ℕ) → 0 < length (places f i (n - i)) → (first_from f i n < n) × Is (f (first_from f i n)) × (places f i (n - i) ≡ first_from f i n ∷ places f (first_from f i n + 1) (n - (first_from f i n + 1)))
lowest f i n h =
    let r = first_from f i n in
    let at = first_lies f i n in
    elim (dec_lt r n) [
      | yes l ↦ (l, (at.1 l).1, free_first f i n refl l ∙ ap (λ (j : ℕ). r ∷ places f j (n - j)) (sym (add-one r)))
      | no l ↦ absurd (omega (arith, ap length (free_none f i n refl (omega (arith, at.0)))))
    ]

-- ---- a fill under way

-- xs is still to go to the lowest buffers from i on that pass, and then the storage is `goal`
pub record Filling (Z : List ℕ) (f : ℕ → Bool) (B : ℕ) (goal : List ℕ) (i : ℕ) (st xs : List ℕ) : Type 0 where
  pub fits : Fit Z B st
  pub room : buffers_for (length xs) ≤ length (places f i (B - i))
  pub same : stored Z st (take (buffers_for (length xs)) (places f i (B - i))) xs ≡ goal

-- all of xs goes to the lowest, from the first of them on
pub filling_first : (Z : List ℕ) (f : ℕ → Bool) (B : ℕ) (st xs : List ℕ) {i : ℕ} → i ≡ lowest_for f (buffers_for (length xs)) B → Fit Z B st → buffers_for (length xs) ≤ length (places f 0 B)
    → Filling Z f B (stored Z st (take (buffers_for (length xs)) (places f 0 B)) xs) i st xs
filling_first Z f B st xs {i} q s h = let e : places f i (B - i) ≡ places f 0 B = lowest_all f (buffers_for (length xs)) B q in record { fits = s; room = rw e h; same = rw e }

module _ {Z : List ℕ} {f : ℕ → Bool} {B : ℕ} {goal : List ℕ} {i : ℕ} {st xs : List ℕ} (w : Filling Z f B goal i st xs) where
  -- where nothing is left, the storage is the goal
  pub filling_done : length xs ≡ 0 → st ≡ goal
  unfolding stored
  filling_done e = rw (for_none (length xs) e) at w.same

  module _ (h : 0 < length xs) where
    -- where something is left, a buffer is
    some_left : 0 < length (places f i (B - i))
    some_left = omega (arith, w.room, for_some (length xs) h)

    -- the lowest is one of the buffers, and passes
    pub filling_below : {b : ℕ} → b ≡ first_from f i B → b < B
    filling_below e = rw e (lowest f i B some_left).0

    pub filling_passes : {b : ℕ} → b ≡ first_from f i B → Is (f b)
    filling_passes e = rw e (lowest f i B some_left).1

    -- and the fill goes on behind it
    pub filling_on : {b : ℕ} {st' part xs' : List ℕ} → b ≡ first_from f i B → part ≡ take buffer_size xs → xs' ≡ drop buffer_size xs → st' ≡ filled_at st (buffer_size * b) buffer_size part
        → Filling Z f B goal (b + 1) st' xs'
    unfolding stored
    filling_on {b} {st'} {part} {xs'} eb ep ex es =
        let l : length xs' ≡ length xs - buffer_size = ap length ex ∙ length-drop buffer_size xs in
        let n : buffers_for (length xs) ≡ suc (buffers_for (length xs')) = for_some (length xs) h ∙ ap (λ j. suc (buffers_for j)) (sym l) in
        let p : places f i (B - i) ≡ b ∷ places f (b + 1) (B - (b + 1)) = rw eb (lowest f i B some_left).2 in
        let s : st' ≡ filled Z st b xs = es ∙ ap (filled_at st (buffer_size * b) buffer_size) ep ∙ filled_first st (buffer_size * b) buffer_size xs ∙ place_filled (place_one Z b) st xs in
        let left = take (buffers_for (length xs')) (places f (b + 1) (B - (b + 1))) in
        let d : drop (size_of Z b) xs ≡ xs' = ap (λ (z : ℕ). drop z xs) (size_one Z b) ∙ sym ex in
        record {
          fits = ap length s ∙ filled_length Z B st b xs w.fits (filling_below eb) ∙ w.fits;
          room = omega (arith, w.room, ap length p, n);
          same = (λ j. stored Z (s j) left (sym d j)) ∙ (rw (n, p) at w.same);
        }
