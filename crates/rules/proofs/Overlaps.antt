-- How many stretches overlap a range, how many a byte falls inside, and how many own pieces there are among the first ones. Assumes nothing.
use mathlib.Core.Path.{◌≡◌, refl, sym, ap, ap₂, ◌∙◌}
use mathlib.Core.Logic.{⊎_elim}
use mathlib.Core.Bool.{Bool, ◌&&◌}
use mathlib.Core.List.{List, [], ◌∷◌}
use Prim.Native.Nat.{ℕ, zero, suc, ◌+◌, ◌-◌, ◌≤◌, ◌<◌, min}
use native.Mathlib.Decide.{dec_le}
use native.Mathlib.Omega.{arith}
use lib.ListN.{length, take, length-take}
use lib.Dec.{eqb, ltb, ltb→lt, lt→ltb, leb, leb→le, le→leb}
use Rattle.rules.specs.Basics.{bit}
use Rattle.rules.specs.Tables.{Tables, piece}
use Rattle.rules.specs.Chain.{Stretch, walk, own_pieces, cut_out, overlaps, splits}
use Rattle.rules.proofs.Logic.{if_T, if_F, if_either, if_both, and_intro, and_0, and_1, same_test, is_dec, bit_T, bit_F}
use Rattle.rules.proofs.Build.{Good}

-- ---- overlaps

cut_no : (xs : List Stretch) (off : ℕ) → length (cut_out xs off 0) ≡ 0
unfolding cut_out
cut_no [] off = refl
cut_no (x ∷ xs) off = refl

-- the test of one stretch
abbrev touches : ℕ → ℕ → ℕ → ℕ → Bool
touches a off n l = ltb 0 n && (ltb a (off + n) && ltb off (a + l))

hits : (a off n l : ℕ) → 0 < n → a < off + n → off < a + l → bit (touches a off n l) ≡ 1
hits a off n l p q r =
    let u = ltb a (off + n) in
    let v = ltb off (a + l) in
    bit_T (touches a off n l) (and_intro (ltb 0 n) (u && v) (lt→ltb 0 n p) (and_intro u v (lt→ltb a (off + n) q) (lt→ltb off (a + l) r)))

misses : (a off n l : ℕ) → (0 < n → a < off + n → off < a + l → ⊥) → bit (touches a off n l) ≡ 0
misses a off n l h =
    let u = ltb a (off + n) in
    let v = ltb off (a + l) in
    bit_F (touches a off n l) (λ t. (
    let w = and_1 (ltb 0 n) (u && v) t in
    h (ltb→lt 0 n (and_0 (ltb 0 n) (u && v) t)) (ltb→lt a (off + n) (and_0 u v w)) (ltb→lt off (a + l) (and_1 u v w))))

-- sums whose first part is 0, or 1
sum_zero : {b u v : ℕ} → b ≡ 0 → u ≡ v → b + u ≡ v
sum_zero p q = omega arith

sum_one : {b u v : ℕ} → b ≡ 1 → u ≡ v → b + u ≡ suc v
sum_one p q = omega arith

-- where a range starts and how many bytes it has, seen from behind a stretch of l bytes: past it, and inside it
past_start : (a l off : ℕ) → off - (a + l) ≡ off - a - l
past_start a l off = omega arith

past_count : (a l off n k : ℕ) → 1 ≤ l → l ≤ off - a → n - (a - off) ≡ k → n - ((a + l) - off) ≡ k
past_count a l off n k p h e = omega arith

inside_start : (a l off : ℕ) → off - a < l → off - (a + l) ≡ 0
inside_start a l off h = omega arith

inside_count : (a l off n k : ℕ) → off - a < l → n - (a - off) ≡ k → n - ((a + l) - off) ≡ k - (l - (off - a))
inside_count a l off n k h e = ap (λ j. n - j) (both a l off h) ∙ minus n (a - off) (l - (off - a)) ∙ ap (λ j. j - (l - (off - a))) e
  where
    both : (a l off : ℕ) → off - a < l → (a + l) - off ≡ (a - off) + (l - (off - a))
    both a l off h = omega arith

    minus : (n i j : ℕ) → n - (i + j) ≡ n - i - j
    minus n i j = omega arith

-- one stretch more in front
overlaps_step : (x : Stretch) (xs : List Stretch) (a off n k : ℕ) → 1 ≤ x.len → n - (a - off) ≡ k
    → overlaps xs (a + x.len) off n ≡ length (cut_out xs (off - (a + x.len)) (n - ((a + x.len) - off)))
    → overlaps (x ∷ xs) a off n ≡ length (cut_out (x ∷ xs) (off - a) k)
unfolding overlaps cut_out
overlaps_step x xs a off n zero l e ih =
    let z : n - ((a + x.len) - off) ≡ 0 = none n a x.len off e in
    sum_zero (misses a off n x.len (λ p q r. no_hit n a off e p q))
    (ih ∙ ap (λ j. length (cut_out xs (off - (a + x.len)) j)) z ∙ cut_no xs (off - (a + x.len)))
  where
    none : (n a l off : ℕ) → n - (a - off) ≡ 0 → n - ((a + l) - off) ≡ 0
    none n a l off e = omega arith

    no_hit : (n a off : ℕ) → n - (a - off) ≡ 0 → 0 < n → a < off + n → ⊥
    no_hit n a off e p q = omega arith
overlaps_step x xs a off n (suc k) l e ih =
    elim (dec_le x.len (off - a)) [
      | yes h ↦
          sum_zero (misses a off n x.len (λ p q r. past a x.len off l h r))
          (ih ∙ ap₂ (λ u v. length (cut_out xs u v)) (past_start a x.len off) (past_count a x.len off n (suc k) l h e))
          ∙ sym (ap length (if_T (leb x.len (off - a)) _ _ (le→leb x.len (off - a) h)))
      | no h ↦ (
          let i : off - a < x.len = not_le x.len (off - a) h in
          let (p, q, r) = hit n a off k x.len e i in
          sum_one (hits a off n x.len p q r)
          (ih ∙ ap₂ (λ u v. length (cut_out xs u v)) (inside_start a x.len off i) (inside_count a x.len off n (suc k) i e))
          ∙ sym (ap length (if_F (leb x.len (off - a)) _ _ (λ t. h (leb→le x.len (off - a) t)))))
    ]
  where
    past : (a l off : ℕ) → 1 ≤ l → l ≤ off - a → off < a + l → ⊥
    past a l off p h r = omega arith

    not_le : (m n : ℕ) → ¬ (m ≤ n) → n < m
    not_le m n h = omega arith

    hit : (n a off k l : ℕ) → n - (a - off) ≡ suc k → off - a < l → (0 < n) × (a < off + n) × (off < a + l)
    hit n a off k l e i = omega arith

-- a range has one stretch for each stretch that it overlaps
overlaps_from : (Z : List ℕ) (B : ℕ) (xs : List Stretch) (a off n : ℕ) → Good Z B xs
    → overlaps xs a off n ≡ length (cut_out xs (off - a) (n - (a - off)))
unfolding overlaps cut_out
overlaps_from Z B [] a off n g = refl
overlaps_from Z B (x ∷ xs) a off n g = overlaps_step x xs a off n (n - (a - off)) g.1 refl (overlaps_from Z B xs (a + x.len) off n g.3)

pub overlaps_cut : (Z : List ℕ) (B : ℕ) (xs : List Stretch) (off n : ℕ) → Good Z B xs → length (cut_out xs off n) ≡ overlaps xs 0 off n
overlaps_cut Z B xs off n g =
    let o : off ≡ off - 0 = omega arith in
    let k : n ≡ n - (0 - off) = omega arith in
    ap₂ (λ u v. length (cut_out xs u v)) o k ∙ sym (overlaps_from Z B xs 0 off n g)

-- the first bytes have the first stretch, and then those of the rest
pub cut_count : (x : Stretch) (xs : List Stretch) (n : ℕ) → 1 ≤ x.len → 0 < n
    → length (cut_out (x ∷ xs) 0 n) ≡ suc (length (cut_out xs 0 (n - x.len)))
unfolding cut_out
cut_count x xs zero l h = absurd (omega arith)
cut_count x xs (suc n) l h =
    let e : suc n - (x.len - 0) ≡ suc n - x.len = omega arith in
    ap length (if_F (leb x.len 0) _ _ (λ t. omega (arith, leb→le x.len 0 t))) ∙ ap (λ k. suc (length (cut_out xs 0 k))) e

-- within the first stretch there is one at most; and there is one where there are bytes
pub cut_first : (x : Stretch) (xs : List Stretch) (n : ℕ) → 1 ≤ x.len → n < x.len → length (cut_out (x ∷ xs) 0 n) ≤ 1
unfolding cut_out
cut_first x xs zero l h = omega arith
cut_first x xs (suc n) l h =
    let e : suc n - x.len ≡ 0 = omega arith in
    omega (arith, cut_count x xs (suc n) l (omega arith), ap (λ k. length (cut_out xs 0 k)) e, cut_no xs 0)

pub cut_nothing : (x : Stretch) (xs : List Stretch) (n : ℕ) → 1 ≤ x.len → length (cut_out (x ∷ xs) 0 n) ≤ 0 → n ≡ 0
cut_nothing x xs zero l h = refl
cut_nothing x xs (suc n) l h = absurd (omega (arith, cut_count x xs (suc n) l (omega arith)))

-- a range has no more stretches than there are
pub cut_short : (xs : List Stretch) (off n : ℕ) → length (cut_out xs off n) ≤ length xs
unfolding cut_out
cut_short [] off n = omega arith
cut_short (x ∷ xs) off zero = omega arith
cut_short (x ∷ xs) off (suc n) =
    if_either (λ (ys : List Stretch). length ys ≤ suc (length xs)) (leb x.len off) _ _
    (λ _. omega (arith, cut_short xs (off - x.len) (suc n))) (λ _. omega (arith, cut_short xs 0 (suc n - (x.len - off))))

-- ---- splits

pub splits_nil : (a n : ℕ) → splits [] a n ≡ 0
unfolding splits
splits_nil a n = refl

-- a byte before the stretches falls inside none
pub splits_none : (xs : List Stretch) (a n : ℕ) → n ≤ a → splits xs a n ≡ 0
unfolding splits
splits_none [] a n h = refl
splits_none (x ∷ xs) a n h =
    let u = ltb a n in
    let v = ltb n (a + x.len) in
    omega (arith, bit_F (u && v) (λ t. omega (arith, ltb→lt a n (and_0 u v t))), splits_none xs (a + x.len) n (omega arith))

-- a byte falls inside one at most
pub splits_most : (xs : List Stretch) (a n : ℕ) → splits xs a n ≤ 1
unfolding splits
splits_most [] a n = omega arith
splits_most (x ∷ xs) a n =
    let u = ltb a n in
    let v = ltb n (a + x.len) in
    ⊎_elim
    (λ t. omega (arith, bit_T (u && v) t, splits_none xs (a + x.len) n (omega (arith, ltb→lt n (a + x.len) (and_1 u v t)))))
    (λ t. omega (arith, bit_F (u && v) t, splits_most xs (a + x.len) n))
    (is_dec (u && v))

-- at or past the first stretch's end, and inside it
pub splits_past : (x : Stretch) (xs : List Stretch) (a n : ℕ) → x.len ≤ n
    → splits (x ∷ xs) a (a + n) ≡ splits xs (a + x.len) (a + x.len + (n - x.len))
unfolding splits
splits_past x xs a n h =
    let u = ltb a (a + n) in
    let v = ltb (a + n) (a + x.len) in
    let e : a + n ≡ a + x.len + (n - x.len) = omega arith in
    sum_zero (bit_F (u && v) (λ t. omega (arith, ltb→lt (a + n) (a + x.len) (and_1 u v t)))) (ap (splits xs (a + x.len)) e)

pub splits_inside : (x : Stretch) (xs : List Stretch) (a n : ℕ) → suc n < x.len → splits (x ∷ xs) a (a + suc n) ≡ 1
unfolding splits
splits_inside x xs a n h =
    let u = ltb a (a + suc n) in
    let v = ltb (a + suc n) (a + x.len) in
    omega (
      arith,
      bit_T (u && v) (and_intro u v (lt→ltb a (a + suc n) (omega arith)) (lt→ltb (a + suc n) (a + x.len) (omega arith))),
      splits_none xs (a + x.len) (a + suc n) (omega arith),
    )

-- a byte falls inside a piece that the bytes before it overlap
pub splits_cut : (Z : List ℕ) (B : ℕ) (xs : List Stretch) (a n : ℕ) → Good Z B xs → splits xs a (a + n) ≤ length (cut_out xs 0 n)
splits_cut Z B [] a n g = omega (arith, splits_nil a (a + n))
splits_cut Z B (x ∷ xs) a zero g = omega (arith, splits_none (x ∷ xs) a (a + 0) (omega arith))
splits_cut Z B (x ∷ xs) a (suc n) g = omega (arith, splits_most (x ∷ xs) a (a + suc n), cut_count x xs (suc n) g.1 (omega arith))

-- ---- own pieces

-- of fewer pieces the own ones are the first of the own pieces
pub own_part_lem : (k j n : ℕ) (T : Tables) → k ≤ j → own_pieces k T n ≡ take k (own_pieces j T n)
unfolding own_pieces
own_part_lem zero j n T h = refl
own_part_lem (suc k) zero n T h = absurd (omega arith)
own_part_lem (suc k) (suc j) zero T h = refl
own_part_lem (suc k) (suc j) (suc d) T h =
    let m = (piece T d).next in
    if_both (λ (ds es : List ℕ). ds ≡ take (suc k) es) (eqb (piece T d).count 1) (d ∷ own_pieces k T m) [] (d ∷ own_pieces j T m) []
    (λ _. ap {B = List ℕ} (λ q. d ∷ q) (own_part_lem k j m T (omega arith))) (λ _. refl)

pub own_fewer : (k j n : ℕ) (T : Tables) → k ≤ j → length (own_pieces k T n) ≡ min k (length (own_pieces j T n))
own_fewer k j n T h = ap length (own_part_lem k j n T h) ∙ length-take k (own_pieces j T n)

-- a walk of k pieces at most
pub walk_short : (k n : ℕ) (T : Tables) → length (walk k T n) ≤ k
unfolding walk
walk_short zero n T = omega arith
walk_short (suc k) zero T = omega arith
walk_short (suc k) (suc d) T = omega (arith, walk_short k (piece T d).next T)

-- one more on both sides changes no order
pub one_more : (m n : ℕ) → leb m n ≡ leb (suc m) (suc n)
one_more m n =
    same_test (leb m n) (leb (suc m) (suc n)) (λ t. le→leb (suc m) (suc n) (omega (arith, leb→le m n t)))
    (λ t. le→leb m n (omega (arith, leb→le (suc m) (suc n) t)))
