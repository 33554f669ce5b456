-- A run of new pieces under way: the pieces taken so far and those to come make what the rule builds. Assumes nothing.
use mathlib.Core.Path.{◌≡◌, refl, sym, ap, subst, ◌∙◌}
use mathlib.Core.Bool.{Bool}
use mathlib.Core.List.{List, [], ◌∷◌, Memᴰ}
use Prim.Native.Nat.{ℕ, suc, ◌+◌, ◌-◌, ◌≤◌, ◌<◌}
use native.Mathlib.Numerals.{add-one}
use native.Mathlib.Decide.{dec_lt}
use native.Mathlib.Omega.{arith}
use lib.ListN.{length, length-set}
use lib.Dec.{ltb, ltb→lt, lt→ltb}
use Rattle.rules.specs.Basics.{Is, places}
use Rattle.rules.specs.Tables.{Tables, buffer_count, piece_total, buffer_total}
use Rattle.rules.specs.Bytes.{decode}
use Rattle.rules.specs.Chain.{Stretch}
use Rattle.rules.specs.Room.{is_free, free_pieces}
use Rattle.rules.specs.Build.{fresh, taken, built, built_link}
use Rattle.rules.proofs.Logic.{if_T, if_F}
use Rattle.rules.proofs.Moves.{by_place}
use Rattle.rules.proofs.Room.{places_in, above_not}
use Rattle.rules.proofs.Audit.{tables_now}
use Rattle.layout.specs.declared.Shape.{Shape}
use Rattle.tables.specs.Shape.{Shaped, Holds}
use Rattle.tables.proofs.Laws.{whole, total_pieces}
use Rattle.chain.specs.Opened.{Opened}
use Rattle.room.specs.Free.{first_from, lowest_for}
use Rattle.room.proofs.Free.{places_first, first_lies, lowest_some, count_most}
use Rattle.build.specs.Line.{next_in_line, link_in_line}
use Rattle.build.proofs.Laws.{buffer_most}
use Rattle.build.proofs.Forward.{taken_first, free_other, free_after_lem}

-- ---- the numbers that pass, from one on

module _ (h : ℕ → Bool) (n : ℕ) where
  -- those from i on and below n
  abbrev from : ℕ → List ℕ
  from i = places h i (n - i)

  -- begin with i where it passes
  pub from_here : (i : ℕ) → i < n → Is (h i) → from i ≡ i ∷ from (suc i)
  unfolding places
  from_here i l t = let e : n - i ≡ suc (n - suc i) = omega arith in rw e (if_T (h i) _ _ t)

  -- and where there is one, begin with the lowest
  pub record First (i r : ℕ) : Type 0 where
    pub low : i ≤ r
    pub below : r < n
    pub passes : Is (h r)
    pub split : from i ≡ r ∷ from (suc r)

  pub from_first : (i : ℕ) → 0 < length (from i) → First i (first_from h i n)
  from_first i some =
      let r = first_from h i n in
      let e = places_first h i n in
      let b : r < n = elim (dec_lt r n) [ yes l ↦ l | no l ↦ absurd (omega (arith, ap length (e ∙ if_F (ltb r n) _ _ (λ t. l (ltb→lt r n t))))) ] in
      let l = (first_lies h i n).1 b in
      record { low = l.0; below = b; passes = l.1; split = e ∙ if_T (ltb r n) _ _ (lt→ltb r n b) }

-- the free pieces from i on
abbrev pub free_from : Tables → ℕ → List ℕ
free_from T i = places (is_free T) i (piece_total T - i)

-- ---- the run

-- The tables T, where new pieces for xs are still to come, before the link tail: the free piece f is the first of them,
-- there is room for all, and once they are taken the tables are `goal`.
pub record Line (goal : Tables) (tail : ℕ) (T : Tables) (f : ℕ) (xs : List Stretch) : Type 0 where
  pub few : (b : ℕ) → buffer_count T b + length xs < 65536
  pub enough : length xs ≤ length (free_from T f)
  pub first : 0 < length xs → (f < piece_total T) × Is (is_free T f)
  pub rest : built T (free_from T f) xs tail ≡ goal

-- none is to come
pub line_done : {goal : Tables} {tail : ℕ} {T : Tables} {f : ℕ} (xs : List Stretch) → Line goal tail T f xs → length xs ≡ 0 → T ≡ goal
unfolding built
line_done [] l z = l.rest
line_done (x ∷ xs) l z = absurd (omega arith)

-- none is wanted
pub built_none : {p : List ℕ} {h : Shape} → Shaped p h → (fs : List ℕ) (xs : List Stretch) (tail : ℕ) → length xs ≡ 0
    → Holds p h (built (decode p) fs xs tail) × (tail ≡ built_link fs xs tail)
unfolding built built_link
built_none is fs [] tail z = (whole is, refl)
built_none is fs (x ∷ xs) tail z = absurd (omega arith)

module _ (T : Tables) where
  -- the lowest free piece
  abbrev lowest : ℕ
  lowest = first_from (is_free T) 0 (piece_total T)

  -- where there is one, all free pieces begin with it
  lowest_first : 0 < length (free_pieces T) → First (is_free T) (piece_total T) 0 lowest
  lowest_first h = let z : piece_total T - 0 ≡ piece_total T = omega arith in from_first (is_free T) (piece_total T) 0 (rw z h)

  free_split : 0 < length (free_pieces T) → free_pieces T ≡ lowest ∷ free_from T (suc lowest)
  free_split h = let z : piece_total T - 0 ≡ piece_total T = omega arith in rw z at (lowest_first h).split

  -- all are to come
  pub line_start : (xs : List Stretch) (tail : ℕ) → length xs ≤ length (free_pieces T) → ((b : ℕ) → buffer_count T b + length xs < 65536) → Line (built T (free_pieces T) xs tail) tail T lowest xs
  unfolding built
  line_start [] tail h few = record { few = few; enough = omega arith; first = λ z. absurd (omega arith); rest = refl }
  line_start (x ∷ xs) tail h few =
      let some : 0 < length (free_pieces T) = omega arith in
      let r = lowest_first some in
      let e : free_from T lowest ≡ free_pieces T = from_here (is_free T) (piece_total T) lowest r.below r.passes ∙ sym (free_split some) in
      record { few = few; enough = rw e h; first = λ _. (r.below, r.passes); rest = ap (λ (l : List ℕ). built T l (x ∷ xs) tail) e }

  -- the link to the first of them, f, where k of them are wanted
  pub line_link : (xs : List Stretch) (k tail : ℕ) {f : ℕ} → k ≡ length xs → (k ≡ 0 → ⊥) → k ≤ length (free_pieces T) → f ≡ lowest_for (is_free T) k (piece_total T)
      → f + 1 ≡ built_link (free_pieces T) xs tail
  unfolding built_link
  line_link [] k tail e s h ef = absurd (s e)
  line_link (x ∷ xs) k tail {f} e s h ef =
      add-one f ∙ ap suc (ef ∙ lowest_some (is_free T) k (piece_total T) s) ∙ ap (λ (l : List ℕ). built_link l (x ∷ xs) tail) (sym (free_split (omega arith)))

module _ {p : List ℕ} {h : Shape} (o : Opened p h) where
  -- all are to come, in an opened pool: its buffers' counts leave room for them
  pub line_opened : (xs : List Stretch) (tail : ℕ) → length xs ≤ length (free_pieces (decode p)) → Line (built (decode p) (free_pieces (decode p)) xs tail) tail (decode p) (lowest (decode p)) xs
  line_opened xs tail l =
      let T = decode p in
      line_start T xs tail l
      (λ b. omega (arith, buffer_most T (tables_now T o.sound) b, count_most (is_free T) (piece_total T), total_pieces (whole o.shaped), o.few_pieces_lem))

module _ {goal : Tables} {tail : ℕ} {T : Tables} {f : ℕ} (x : Stretch) (inside : x.buffer < buffer_total T) where
  -- the counts, once the first is taken
  few_after : (xs : List Stretch) (n : ℕ) → Line goal tail T f (x ∷ xs) → (b : ℕ) → buffer_count (taken T f (fresh x n)) b + length xs < 65536
  few_after xs n l =
      by_place T.counts x.buffer _ 0 inside (λ m b. m + length xs < 65536) (omega (arith, l.few x.buffer)) (λ b _. omega (arith, l.few b))

  -- the first is taken
  pub line_step : (xs : List Stretch) {k : ℕ} → k ≡ length xs → Line goal tail T f (x ∷ xs) → Line goal tail (taken T f (fresh x (link_in_line T f k tail))) (next_in_line T f k) xs
  unfolding built built_link
  line_step [] e l =
      let s = l.first (omega arith) in
      rw e (record {
        few = few_after [] tail l;
        enough = omega arith;
        first = λ z. absurd (omega arith);
        rest = rw (from_here (is_free T) (piece_total T) f s.0 s.1) at l.rest;
      })
  line_step (y ∷ ys) e l =
      let P = piece_total T in
      let (below, free) = l.first (omega arith) in
      let here = from_here (is_free T) P f below free in
      let r = from_first (is_free T) P (suc f) (omega (arith, l.enough, ap length here)) in
      let g = first_from (is_free T) (suc f) P in
      let p = fresh x (suc g) in
      let T' = taken T f p in
      let out : Memᴰ f (free_from T (suc f)) → ⊥ = above_not (is_free T) (suc f) P f _ (omega arith) (places_in (is_free T) (suc f) (P - suc f) P (omega arith)) in
      let link : built_link (free_from T (suc f)) (y ∷ ys) tail ≡ suc g = ap (λ (fs : List ℕ). built_link fs (y ∷ ys) tail) r.split in
      let size : piece_total T' ≡ P = length-set T.pieces f p in
      let same : free_from T' g ≡ free_from T (suc f) =
      ap (λ (n : ℕ). places (is_free T') g (n - g)) size ∙ free_after_lem T f p g (P - g) r.low ∙ from_here (is_free T) P g r.below r.passes ∙ sym r.split in
      rw e (record {
        few = few_after (y ∷ ys) (suc g) l;
        enough = omega (arith, l.enough, ap length here, ap length same);
        first = λ _. (omega (arith, r.below), subst Is (sym (free_other T f p g (λ z. omega (arith, r.low)))) r.passes);
        rest = ap (λ (fs : List ℕ). built T' fs (y ∷ ys) tail) same ∙ sym (taken_first T f p (free_from T (suc f)) (y ∷ ys) tail out)
            ∙ ap (λ (n : ℕ). taken (built T (free_from T (suc f)) (y ∷ ys) tail) f (fresh x n)) (sym link) ∙ ap (λ (fs : List ℕ). built T fs (x ∷ y ∷ ys) tail) (sym here) ∙ l.rest;
      })
