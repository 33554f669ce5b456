-- The numbers that pass a test, by a scan from the lowest on: the first, and whether there are enough. Assumes nothing.
use mathlib.Core.Path.{◌≡◌, refl, sym, ap, subst, ◌∙◌}
use mathlib.Core.Bool.{Bool, true, false}
use mathlib.Core.List.{List, [], ◌∷◌}
use Prim.Native.Nat.{ℕ, zero, suc, ◌+◌, ◌-◌, ◌≤◌, ◌<◌}
use native.Mathlib.Numerals.{add-one}
use native.Mathlib.Decide.{dec_lt}
use native.Mathlib.Omega.{arith}
use lib.ListN.{length, get_or}
use borrow.Author.Tests.{le-leb, lt-leb, lt-ltb, le-ltb}
use Rattle.std.specs.Bool.{then_some}
use lib.Dec.{leb, leb-suc-suc, ltb, lt→ltb, ltb→lt}
use Rattle.rules.specs.Basics.{Is, whether◌then◌else◌, places, bit}
use Rattle.rules.specs.Tables.{Tables, slip_total, piece_total, buffer_total}
use Rattle.rules.specs.Room.{is_ready, is_free, is_unheld, ready_slips, free_pieces, free_buffers, new_slip}
use Rattle.rules.proofs.Logic.{if_T, if_F, if_either, bit_one, is_true}
use Rattle.rules.proofs.Sums.{sum_to_ones}
use Rattle.rules.proofs.Room.{places_count_0}
use Rattle.room.specs.Free.{first_or, first_from, lowest_for, enough_from, RoomFor, LowestIn, RoomIn}

-- ---- the first

module _ (f : ℕ → Bool) (i n : ℕ) where
  -- none is left
  pub first_end : n ≤ i → first_from f i n ≡ n
  unfolding first_from places
  first_end h = let e : n - i ≡ 0 = omega arith in rw e

  -- the numbers from i on begin with i, or begin at the next one
  here : i < n → f i ≡ true → places f i (n - i) ≡ i ∷ places f (suc i) (n - suc i)
  unfolding places whether◌then◌else◌
  here h t = let e : n - i ≡ suc (n - suc i) = omega arith in rw (e, t)

  past : i < n → f i ≡ false → places f i (n - i) ≡ places f (suc i) (n - suc i)
  unfolding places whether◌then◌else◌
  past h t = let e : n - i ≡ suc (n - suc i) = omega arith in rw (e, t)

  -- i passes, or the scan goes on
  pub first_here : i < n → f i ≡ true → first_from f i n ≡ i
  unfolding first_from
  first_here h t = ap (first_or n) (here h t)

  pub first_past : i < n → f i ≡ false → first_from f i n ≡ first_from f (i + 1) n
  unfolding first_from
  first_past h t = ap (first_or n) (past h t) ∙ ap (λ (x : ℕ). first_or n (places f x (n - x))) (sym (add-one i))

pub ruleset firsts = (first_end, first_here, first_past)

-- ---- the first, and the rest of the list

-- l is its first number and those that pass after it, or has none
abbrev Splits : (ℕ → Bool) → ℕ → List ℕ → Type 0
Splits f n l = let r = first_or n l in l ≡ (whether ltb r n then r ∷ places f (suc r) (n - suc r) else [])

-- so it is of the k numbers from i on
splits : (f : ℕ → Bool) (k i n : ℕ) → k ≡ n - i → Splits f n (places f i k)
unfolding places
splits f zero i n e = sym (if_F (ltb n n) _ _ (λ t. omega (arith, ltb→lt n n t)))
splits f (suc k) i n e =
    let more = places f (suc i) k in
    let same : k ≡ n - suc i = omega arith in
    if_either (Splits f n) (f i) (i ∷ more) more
    (λ _. ap (λ (j : ℕ). i ∷ places f (suc i) j) same ∙ sym (if_T (ltb i n) _ _ (lt→ltb i n (omega arith))))
    (λ _. splits f k (suc i) n same)

-- the numbers from i on and below n that pass: the lowest, and those after it
pub places_first : (f : ℕ → Bool) (i n : ℕ) → let r = first_from f i n in places f i (n - i) ≡ (whether ltb r n then r ∷ places f (suc r) (n - suc r) else [])
unfolding first_from
places_first f i n = splits f (n - i) i n refl

-- the first is at most n; where it is below, it lies from i on and passes
abbrev pub Lies : (ℕ → Bool) → ℕ → ℕ → ℕ → Type 0
Lies f i n r = (r ≤ n) × (r < n → (i ≤ r) × Is (f r))

-- so it is of the k numbers from i on
lies : (f : ℕ → Bool) (k i n : ℕ) → k ≡ n - i → Lies f i n (first_or n (places f i k))
unfolding places
lies f zero i n e = (omega arith, λ h. absurd (omega arith))
lies f (suc k) i n e =
    let more = places f (suc i) k in
    let after = lies f k (suc i) n (omega arith) in
    if_either (λ (l : List ℕ). Lies f i n (first_or n l)) (f i) (i ∷ more) more
    (λ t. (omega arith, λ _. (omega arith, t)))
    (λ _. (after.0, λ h. (omega (arith, (after.1 h).0), (after.1 h).1)))

-- and of the lowest
pub first_lies : (f : ℕ → Bool) (i n : ℕ) → Lies f i n (first_from f i n)
unfolding first_from
first_lies f i n = lies f (n - i) i n refl

-- ---- from the lowest found

module _ (f : ℕ → Bool) (i n : ℕ) {r : ℕ} (e : r ≡ first_from f i n) where
  -- the lowest found, r, and those after it
  abbrev Begins : ℕ → Type 0
  Begins x = places f i (n - i) ≡ (whether ltb x n then x ∷ places f (suc x) (n - suc x) else [])

  begins : Begins r
  begins = subst Begins (sym e) (places_first f i n)

  -- where r is below n, the numbers that pass from i on are r and those after it
  pub free_first : r < n → places f i (n - i) ≡ r ∷ places f (suc r) (n - suc r)
  free_first h = begins ∙ if_T (ltb r n) _ _ (lt→ltb r n h)

  -- else there is none
  pub free_none : r ≡ n → places f i (n - i) ≡ []
  free_none h = begins ∙ if_F (ltb r n) _ _ (λ t. omega (arith, ltb→lt r n t))

-- the same of all numbers below n
all_first : (f : ℕ → Bool) (n : ℕ) {r : ℕ} → r ≡ first_from f 0 n → r < n → places f 0 n ≡ r ∷ places f (suc r) (n - suc r)
all_first f n e h = let z : n - 0 ≡ n = omega arith in ap (places f 0) (sym z) ∙ free_first f 0 n e h

all_none : (f : ℕ → Bool) (n : ℕ) {r : ℕ} → r ≡ first_from f 0 n → r ≡ n → places f 0 n ≡ []
all_none f n e h = let z : n - 0 ≡ n = omega arith in ap (places f 0) (sym z) ∙ free_none f 0 n e h

module _ (T : Tables) {r : ℕ} where
  -- the lowest free piece and the free pieces after it, or none is free
  pub piece_first : r ≡ first_from (is_free T) 0 (piece_total T) → r < piece_total T
      → free_pieces T ≡ r ∷ places (is_free T) (suc r) (piece_total T - suc r)
  piece_first = all_first (is_free T) (piece_total T)

  pub no_piece : r ≡ first_from (is_free T) 0 (piece_total T) → r ≡ piece_total T → free_pieces T ≡ []
  no_piece = all_none (is_free T) (piece_total T)

  -- the lowest free buffer and the free buffers after it, or none is free
  pub buffer_first : r ≡ first_from (is_unheld T) 0 (buffer_total T) → r < buffer_total T
      → free_buffers T ≡ r ∷ places (is_unheld T) (suc r) (buffer_total T - suc r)
  buffer_first = all_first (is_unheld T) (buffer_total T)

  pub no_buffer : r ≡ first_from (is_unheld T) 0 (buffer_total T) → r ≡ buffer_total T → free_buffers T ≡ []
  no_buffer = all_none (is_unheld T) (buffer_total T)

-- the lowest slip that may be given is the new one, or none may be given
pub new_slip_lem : (T : Tables) {t : ℕ} → t ≡ first_from (is_ready T) 0 (slip_total T) → t < slip_total T → (new_slip T ≡ t) × (1 ≤ length (ready_slips T))
new_slip_lem T e h =
    let s = all_first (is_ready T) (slip_total T) e h in
    (ap (λ (l : List ℕ). get_or l 0 0) s, omega (arith, ap length s))

pub no_slip : (T : Tables) {t : ℕ} → t ≡ first_from (is_ready T) 0 (slip_total T) → t ≡ slip_total T → length (ready_slips T) ≡ 0
no_slip T e h = ap length (all_none (is_ready T) (slip_total T) e h)

-- ---- from the lowest wanted

-- it is the lowest where any is wanted
pub lowest_some : (f : ℕ → Bool) (k n : ℕ) → (k ≡ 0 → ⊥) → lowest_for f k n ≡ first_from f 0 n
lowest_some f zero n h = absurd (h refl)
lowest_some f (suc k) n h = refl

-- the first is at most n
first_most : (f : ℕ → Bool) (i n : ℕ) → first_from f i n ≤ n
first_most f i n = (first_lies f i n).0

-- of no numbers none passes
none_of : (f : ℕ → Bool) (i : ℕ) → places f i 0 ≡ []
unfolding places
none_of f i = refl

-- none that passes is below the first
places_skip : (f : ℕ → Bool) (n : ℕ) {r : ℕ} → r ≡ first_from f 0 n → places f r (n - r) ≡ places f 0 n
places_skip f n {r} e =
    elim (dec_lt r n) [
      | yes h ↦
          (let here : first_from f r n ≡ r = first_here f r n h (is_true (f r) (subst (λ (x : ℕ). Is (f x)) (sym e) ((first_lies f 0 n).1 (omega (arith, e))).1)) in
          free_first f r n (sym here) h ∙ sym (all_first f n e h))
      | no h ↦
          (let z : r ≡ n = omega (arith, first_most f 0 n) in
          let none : n - r ≡ 0 = omega arith in
          ap (places f r) none ∙ none_of f r ∙ sym (all_none f n e z))
    ]

-- so they are all from the lowest wanted on
pub lowest_all : (f : ℕ → Bool) (k n : ℕ) {r : ℕ} → r ≡ lowest_for f k n → places f r (n - r) ≡ places f 0 n
lowest_all f zero n e = let z : n - 0 ≡ n = omega arith in ap (λ (x : ℕ). places f x (n - x)) e ∙ ap (places f 0) z
lowest_all f (suc k) n e = places_skip f n e

-- no more pass than are looked at
pub count_most : (f : ℕ → Bool) (i : ℕ) → length (places f 0 i) ≤ i
count_most f i = rw places_count_0 (sum_to_ones i (λ j. bit (f j)) (λ j. bit_one (f j)))

-- ---- whether there are enough

module _ (f : ℕ → Bool) (k i n : ℕ) where
  -- one is asked for, and none is left
  pub enough_none : 0 < k → n ≤ i → false ≡ enough_from f k i n
  enough_none h b =
      let z : n - i ≡ 0 = omega arith in
      sym (ap (λ (l : List ℕ). leb k (length l)) (ap (places f i) z ∙ none_of f i) ∙ lt-leb k 0 h)

  -- i passes, and the rest is asked for after it
  pub enough_here : 0 < k → i < n → f i ≡ true → enough_from f (k - 1) (i + 1) n ≡ enough_from f k i n
  enough_here h b t =
      let y : k ≡ suc (k - 1) = omega arith in
      ap (λ (j : ℕ). enough_from f (k - 1) j n) (add-one i)
      ∙ sym (leb-suc-suc (k - 1) (length (places f (suc i) (n - suc i))))
      ∙ (λ j. leb (sym y j) (length (sym (here f i n b t) j)))

  -- it was the last that is asked for
  pub enough_last : 0 < k → k - 1 ≡ 0 → i < n → f i ≡ true → true ≡ enough_from f k i n
  enough_last h z b t = sym (le-leb (k - 1) (length (places f (i + 1) (n - (i + 1)))) (omega arith)) ∙ enough_here h b t

  -- i does not pass, and as many are asked for after it
  pub enough_past : i < n → f i ≡ false → enough_from f k (i + 1) n ≡ enough_from f k i n
  enough_past b t = ap (λ (j : ℕ). enough_from f k j n) (add-one i) ∙ ap (λ (l : List ℕ). leb k (length l)) (sym (past f i n b t))

pub ruleset enoughs = (enough_none, enough_here, enough_last, enough_past)

-- ---- the lowest, and whether there are enough

module _ (f : ℕ → Bool) (k n : ℕ) where
  -- some are wanted, and there is no lowest
  pub room_empty : (k ≡ 0 → ⊥) → first_from f 0 n ≡ n → false ≡ leb k (length (places f 0 n))
  room_empty h e = sym (lt-leb k (length (places f 0 n)) (omega (arith, h, ap length (all_none f n refl e))))

  -- or there is: none that passes is below it
  pub room_some : {r : ℕ} {b : Bool} → (k ≡ 0 → ⊥) → r ≡ first_from f 0 n → b ≡ enough_from f k r n → RoomFor f k n r b
  room_some h e w = (e ∙ sym (lowest_some f k n h), w ∙ ap (λ (l : List ℕ). leb k (length l)) (places_skip f n e))

-- ---- the lowest, if there is one

module _ {N : Type 0} (number : N → ℕ) (f : ℕ → Bool) (n : ℕ) (x : N) where
  -- it is the first, where that is below n
  pub lowest_in : number x ≡ first_from f 0 n → LowestIn number f n (then_some (ltb (number x) n) x)
  lowest_in e =
      elim (dec_lt (number x) n) [
        | yes h ↦ rw (lt-ltb (number x) n h) (e, h)
        | no h ↦ rw (le-ltb (number x) n (omega arith)) (omega (arith, first_most f 0 n, e))
      ]

  -- the lowest wanted is given where there are enough
  pub room_in : (k : ℕ) (b : Bool) → RoomFor f k n (number x) b → RoomIn number f k n (then_some b x)
  room_in k true r = r
  room_in k false r = r.1

-- ---- where none below passes

-- where i does not pass, those from i on are those after it
under_from : (f : ℕ → Bool) (i k j : ℕ) → (Is (f i) → ⊥) → j ≡ k - 1 → places f i k ≡ places f (suc i) j
unfolding places
under_from f i zero j h e = let z : j ≡ 0 = omega arith in ap (places f (suc i)) (sym z)
under_from f i (suc k) j h e = let z : j ≡ k = omega arith in if_F (f i) (i ∷ places f (suc i) k) (places f (suc i) k) h ∙ ap (places f (suc i)) (sym z)

-- where none from i on and below j passes, those from j on are those from i on
pub places_between : (f : ℕ → Bool) (i j n : ℕ) → i ≤ j → ((d : ℕ) → i ≤ d → d < j → Is (f d) → ⊥) → places f j (n - j) ≡ places f i (n - i)
places_between f i zero n l h = let z : 0 ≡ i = omega arith in ap (λ (x : ℕ). places f x (n - x)) z
places_between f i (suc j) n l h =
    elim (dec_lt j i) [
      | yes k ↦ (let z : suc j ≡ i = omega arith in ap (λ (x : ℕ). places f x (n - x)) z)
      | no k ↦ (sym (under_from f j (n - j) (n - suc j) (h j (omega arith) (omega arith)) (omega arith)) ∙ places_between f i j n (omega arith) (λ d a b. h d a (omega arith)))
    ]

-- so where none below i passes, those from i on are all
pub places_under : (f : ℕ → Bool) (i n : ℕ) → ((d : ℕ) → d < i → Is (f d) → ⊥) → places f i (n - i) ≡ places f 0 n
places_under f i n h = let z : n - 0 ≡ n = omega arith in places_between f 0 i n (omega arith) (λ d _ l. h d l) ∙ ap (places f 0) z
