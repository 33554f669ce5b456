-- What the first bytes of a chain take: piece by piece, from a place found, and where they are all. Assumes nothing.
use mathlib.Core.Path.{◌≡◌, refl, sym, ap, ◌∙◌}
use mathlib.Core.Bool.{Bool, true, false}
use mathlib.Core.List.{List, [], ◌∷◌}
use Prim.Native.Nat.{ℕ, zero, suc, ◌+◌, ◌-◌, ◌*◌, ◌≤◌, ◌<◌}
use native.Mathlib.Omega.{arith}
use borrow.Author.Tests.{leb-true, leb-false}
use lib.ListN.{length}
use lib.Dec.{leb, leb→le, le→leb}
use Rattle.std.specs.Prelude.{Result, Ok, Err}
use Rattle.kinds.specs.declared.Refusal.{Refusal}
use Rattle.kinds.specs.declared.Refusal.TheVariants.{Range}
use Rattle.kinds.specs.Limits.{buffer_size}
use Rattle.rules.specs.Basics.{Is, whether◌then◌else◌}
use Rattle.rules.specs.Tables.{Tables, piece, piece_total, buffer_total}
use Rattle.rules.specs.Chain.{Stretch, walk, stretch, stretches, total, cut_out}
use Rattle.rules.specs.Sound.{link_ok, SoundTables}
use Rattle.rules.proofs.Logic.{if_T, if_F, same_test}
use Rattle.rules.proofs.Contents.{cut_out_all}
use Rattle.chain.specs.declared.Spot.{Spot}
use Rattle.chain.specs.Length.{stretches_from}
use Rattle.chain.specs.Part.{part_of, extent_of}
use Rattle.chain.proofs.Links.{link_leads, stretches_none, stretches_on, stretches_in, stretches_small}
use Rattle.chain.proofs.Spots.{Found, cut_out_none, total_first}

-- tests of two facts that hold together
same_most : (a b c d : ℕ) → (a ≤ b → c ≤ d) → (c ≤ d → a ≤ b) → leb a b ≡ leb c d
same_most a b c d f g = same_test (leb a b) (leb c d) (λ t. le→leb c d (f (leb→le a b t))) (λ t. le→leb a b (g (leb→le c d t)))

-- a range that begins in the first stretch has one part of it, and the others from the next stretch on
cut_first : (x : Stretch) (xs : List Stretch) (off m : ℕ) → off < x.len → 0 < m
    → length (cut_out (x ∷ xs) off m) ≡ suc (length (cut_out xs 0 (m - (x.len - off))))
unfolding cut_out
cut_first x xs off zero h i = absurd (omega arith)
cut_first x xs off (suc m) h i = ap length (if_F (leb x.len off) _ _ (λ z. omega (arith, leb→le x.len off z)))

-- ---- piece by piece

-- the first m bytes from the link n overlap the piece that it leads to, and what they overlap behind it
pub part_first : (T : Tables) (n m : ℕ) → SoundTables T → Is (link_ok T n) → (n ≡ 0 → ⊥) → 0 < m
    → length (cut_out (stretches_from T n) 0 m) ≡ suc (length (cut_out (stretches_from T (piece T (n - 1)).next) 0 (m - (piece T (n - 1)).len)))
part_first T n m S t i h =
    let x = stretch (piece T (n - 1)) in
    let xs = stretches_from T (piece T (n - 1)).next in
    let z : x.len - 0 ≡ x.len = omega arith in
    ap (λ (l : List Stretch). length (cut_out l 0 m)) (stretches_on T n S t i) ∙ cut_first x xs 0 m (link_leads T n S t i).some_bytes h
    ∙ ap (λ (r : ℕ). suc (length (cut_out xs 0 (m - r)))) z

-- all bytes from the link n are those of the piece that it leads to, and those behind it
pub part_total : (T : Tables) (n : ℕ) → SoundTables T → Is (link_ok T n) → (n ≡ 0 → ⊥)
    → total (stretches_from T n) ≡ (piece T (n - 1)).len + total (stretches_from T (piece T (n - 1)).next)
part_total T n S t i = ap total (stretches_on T n S t i) ∙ total_first (stretch (piece T (n - 1))) (stretches_from T (piece T (n - 1)).next)

-- c pieces, and then what the first m bytes from the link n take
abbrev pub part_from : ℕ → Tables → ℕ → ℕ → Result ℕ ℕ
part_from c T n m =
    let k = c + length (cut_out (stretches_from T n) 0 m) in
    whether leb m (total (stretches_from T n)) then Ok k else Err k

-- before any piece is passed
pub part_start : (T : Tables) (n m : ℕ) → part_from 0 T n m ≡ part_of T n m
unfolding part_of
part_start T n m =
    let k = length (cut_out (stretches_from T n) 0 m) in
    let e : 0 + k ≡ k = omega arith in
    λ i. whether leb m (total (stretches_from T n)) then Ok (e i) else Err (e i)

module _ (c : ℕ) (T : Tables) (n m : ℕ) where
  -- no more bytes are asked for
  pub part_done : m ≡ 0 → Ok c ≡ part_from c T n m
  part_done z =
      let xs = stretches_from T n in
      let none = ap length (ap (cut_out xs 0) z ∙ cut_out_none xs 0) in
      let e : c ≡ c + length (cut_out xs 0 m) = omega (arith, none) in
      ap Ok e ∙ sym (if_T (leb m (total xs)) _ _ (le→leb m (total xs) (omega arith)))

  -- bytes are asked for, and no piece is left
  pub part_short : 0 < m → n ≡ 0 → Err c ≡ part_from c T n m
  unfolding cut_out total
  part_short h z =
      let xs = stretches_from T n in
      let none : xs ≡ [] = ap (stretches_from T) z ∙ stretches_none T in
      let e : c ≡ c + length (cut_out xs 0 m) = omega (arith, ap (λ (l : List Stretch). length (cut_out l 0 m)) none) in
      ap Err e ∙ sym (if_F (leb m (total xs)) _ _ (λ t. omega (arith, leb→le m (total xs) t, ap total none)))

  -- a piece of k bytes before the link d is passed, and r are left
  pub part_turn : {d k r : ℕ} → SoundTables T → Is (link_ok T n) → (n ≡ 0 → ⊥) → 0 < m → d ≡ (piece T (n - 1)).next → k ≡ (piece T (n - 1)).len → r ≡ m - k
      → part_from (c + 1) T d r ≡ part_from c T n m
  part_turn S t i h d k r =
      let x = stretch (piece T (n - 1)) in
      let xs = stretches_from T (piece T (n - 1)).next in
      let cut : length (cut_out (stretches_from T n) 0 m) ≡ suc (length (cut_out xs 0 (m - x.len))) = part_first T n m S t i h in
      let sum : total (stretches_from T n) ≡ x.len + total xs = part_total T n S t i in
      let e : c + 1 + length (cut_out xs 0 (m - x.len)) ≡ c + length (cut_out (stretches_from T n) 0 m) = omega (arith, cut) in
      let b = same_most (m - x.len) (total xs) m (total (stretches_from T n)) (λ f. omega (arith, sum)) (λ f. omega (arith, sum)) in
      let less : _ ≡ m - x.len = r ∙ ap (λ (y : ℕ). m - y) k in
      (λ j. part_from (c + 1) T (d j) (less j)) ∙ (λ j. whether b j then Ok (e j) else Err (e j))

-- ---- what was answered

-- a test that answered what it tests for, or that it failed
tested_ok : {E : Type 0} (b : Bool) (n : ℕ) (y : E) {k : ℕ} → Ok k ≡ (whether b then Ok n else Err y) → (k ≡ n) × (b ≡ true)
unfolding whether◌then◌else◌
tested_ok true n y e = (cc, refl)
tested_ok false n y e = cc

tested_err : {E : Type 0} (b : Bool) (n : ℕ) (y : E) {x : E} → Err x ≡ (whether b then Ok n else Err y) → (x ≡ y) × (b ≡ false)
unfolding whether◌then◌else◌
tested_err true n y e = cc
tested_err false n y e = (cc, refl)

module _ (T : Tables) (n m : ℕ) where
  -- the first m bytes from a link are there, and overlap k pieces
  pub part_ok : {k : ℕ} → Ok k ≡ part_of T n m → (k ≡ length (cut_out (stretches_from T n) 0 m)) × (m ≤ total (stretches_from T n))
  unfolding part_of
  part_ok e = let (k, b) = tested_ok _ _ _ e in (k, leb-true m (total (stretches_from T n)) b)

  -- or they are not, and those that are there overlap k
  pub part_err : {k : ℕ} → Err k ≡ part_of T n m → (k ≡ length (cut_out (stretches_from T n) 0 m)) × (total (stretches_from T n) < m)
  unfolding part_of
  part_err e = let (k, b) = tested_err _ _ _ e in (k, leb-false m (total (stretches_from T n)) b)

  -- so where the bytes not there are refused
  pub extent_is : {k : ℕ} → Ok k ≡ part_of T n m → Ok k ≡ extent_of T n m
  unfolding extent_of
  extent_is e = let (k, l) = part_ok e in ap Ok k ∙ sym (if_T (leb m (total (stretches_from T n))) _ _ (le→leb m (total (stretches_from T n)) l))

  pub extent_no : {k : ℕ} → Err k ≡ part_of T n m → Err Range ≡ extent_of T n m
  unfolding extent_of
  extent_no e = let (_, l) = part_err e in sym (if_F (leb m (total (stretches_from T n))) _ _ (λ t. omega (arith, leb→le m (total (stretches_from T n)) t, l)))

  -- what the answer tells there
  pub extent_ok : {k : ℕ} → Ok k ≡ extent_of T n m → (k ≡ length (cut_out (stretches_from T n) 0 m)) × (m ≤ total (stretches_from T n))
  unfolding extent_of
  extent_ok e = let (k, b) = tested_ok _ _ _ e in (k, leb-true m (total (stretches_from T n)) b)

  pub extent_err : {x : Refusal} → Err x ≡ extent_of T n m → (x ≡ Range) × (total (stretches_from T n) < m)
  unfolding extent_of
  extent_err e = let (x, b) = tested_err _ _ _ e in (x, leb-false m (total (stretches_from T n)) b)

-- ---- from a place found

-- A range that begins in the first piece from the link n overlaps as many pieces as all bytes up to its end.
from_inside : (k : ℕ) (T : Tables) (n off m : ℕ) → ((n ≡ 0 → ⊥) → off < (piece T (n - 1)).len) → 0 < m
    → length (cut_out (stretches T (walk k T n)) off m) ≡ length (cut_out (stretches T (walk k T n)) 0 (off + m))
unfolding walk stretches cut_out
from_inside zero T n off m i h = refl
from_inside (suc k) T zero off m i h = refl
from_inside (suc k) T (suc d) off m i h =
    let x = stretch (piece T d) in
    let xs = stretches T (walk k T (piece T d).next) in
    let b : suc d - 1 ≡ d = omega arith in
    let l : off < x.len = rw b at (i (omega arith)) in
    let e : m - (x.len - off) ≡ off + m - (x.len - 0) = omega arith in
    cut_first x xs off m l h ∙ ap (λ (r : ℕ). suc (length (cut_out xs 0 r))) e ∙ sym (cut_first x xs 0 (off + m) (omega arith) (omega arith))

-- the pieces of a range are those that the bytes from the place found take
pub part_from_lem : (T : Tables) (h off : ℕ) (s : Spot) → Found T h off s → (n : ℕ) → 0 < n
    → length (cut_out (stretches_from T h) off n) ≡ length (cut_out (stretches_from T s.link) 0 (s.into + n))
part_from_lem T h off s f n i = ap length (f.cut n) ∙ from_inside (piece_total T) T s.link s.into n f.inside i

module _ (T : Tables) (h off n : ℕ) {at : Spot} (f : Found T h off at) where
  -- so what the bytes from the place found take tells whether the range goes past the end of the chain
  pub range_short : {x : Refusal} → Err x ≡ extent_of T at.link (at.into + n) → (x ≡ Range) × (total (stretches_from T h) < off + n)
  range_short e = let (x, l) = extent_err T at.link (at.into + n) e in (x, omega (arith, f.lengths, l))

  pub range_there : {k : ℕ} → Ok k ≡ extent_of T at.link (at.into + n) → off + n ≤ total (stretches_from T h)
  range_there e = omega (arith, f.lengths, (extent_ok T at.link (at.into + n) e).1)

-- ---- all bytes

-- as many bytes as P full pieces have are the whole chain
pub part_all : (T : Tables) → SoundTables T → (n m : ℕ) → Is (link_ok T n) → buffer_size * piece_total T ≤ m → cut_out (stretches_from T n) 0 m ≡ stretches_from T n
part_all T S n m t h = cut_out_all T.stock (buffer_total T) (stretches_from T n) m (stretches_in T n S t) (omega (arith, stretches_small T n S t))
