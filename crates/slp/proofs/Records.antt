-- The records that slp_stretches writes, one at each turn, and that they are list's numbers. Assumes nothing.
use mathlib.Core.Path.{◌≡◌, refl, sym, ap, ap₂, ◌∙◌}
use mathlib.Core.List.{List, [], ◌∷◌, ◌++◌, map, head-eq_of_cons-eq}
use Prim.Native.Nat.{ℕ, zero, suc, ◌+◌, ◌*◌, ◌≤◌, ◌<◌}
use native.Mathlib.Numerals.{add-one}
use native.Mathlib.Omega.{arith}
use lib.ListN.{length, get_or, take, drop, set, length-append, length-drop}
use lib.Seq.{drop-cons, drop-nil, set_at, append_snoc, take-length}
use Rattle.rules.specs.Chain as chain
use Rattle.rules.specs.Chain.{position_of}
use Rattle.rules.specs.Read.{copied}
use Rattle.rules.specs.List.{records}
use Rattle.rules.proofs.List.{records_length}
use Rattle.list.specs.declared.Stretch.{Stretch}
use Rattle.slp.specs.Numbers.{numbers}

-- ---- records and their numbers

-- the record of a stretch, in the storage of a pool with the stock Z
abbrev pub entry : List ℕ → chain.Stretch → Stretch
entry Z x = record { position = position_of Z x; length = x.len }

-- the first k records are written, and the rest of the list is as it was
abbrev pub written : List ℕ → List chain.Stretch → List Stretch → ℕ → List Stretch
written Z xs ys k = map (entry Z) (take k xs) ++ drop k ys

numbers_append : (xs ys : List Stretch) → numbers (xs ++ ys) ≡ numbers xs ++ numbers ys
unfolding numbers
numbers_append [] ys = refl
numbers_append (x ∷ xs) ys = ap (λ (l : List ℕ). x.position ∷ x.length ∷ l) (numbers_append xs ys)

pub numbers_length : (ys : List Stretch) → length (numbers ys) ≡ 2 * length ys
unfolding numbers
numbers_length [] = refl
numbers_length (y ∷ ys) = omega (arith, numbers_length ys)

numbers_drop : (k : ℕ) (ys : List Stretch) → numbers (drop k ys) ≡ drop (2 * k) (numbers ys)
unfolding numbers
numbers_drop zero ys = refl
numbers_drop (suc k) [] = sym (drop-nil (2 * suc k))
numbers_drop (suc k) (y ∷ ys) = let e : 2 * suc k ≡ suc (suc (2 * k)) = omega arith in numbers_drop k ys ∙ sym (ap (λ (j : ℕ). drop j (y.position ∷ y.length ∷ numbers ys)) e)

numbers_entries : (Z : List ℕ) (xs : List chain.Stretch) → numbers (map (entry Z) xs) ≡ records Z xs
unfolding numbers records
numbers_entries Z [] = refl
numbers_entries Z (x ∷ xs) = ap (λ (l : List ℕ). position_of Z x ∷ x.len ∷ l) (numbers_entries Z xs)

-- all of them are what list writes
pub written_all : (Z : List ℕ) (xs : List chain.Stretch) (ys : List Stretch) → numbers (written Z xs ys (length xs)) ≡ copied (records Z xs) (numbers ys)
written_all Z xs ys =
    numbers_append (map (entry Z) (take (length xs) xs)) (drop (length xs) ys)
    ∙ ap₂ ◌++◌ (ap (λ l. numbers (map (entry Z) l)) (take-length xs) ∙ numbers_entries Z xs) (numbers_drop (length xs) ys ∙ ap (λ j. drop j (numbers ys)) (sym (records_length Z xs)))

-- ---- one record more

entries_length : (Z : List ℕ) (k : ℕ) (xs : List chain.Stretch) → k ≤ length xs → length (map (entry Z) (take k xs)) ≡ k
entries_length Z zero xs h = refl
entries_length Z (suc k) [] h = absurd (omega arith)
entries_length Z (suc k) (x ∷ xs) h = ap suc (entries_length Z k xs (omega arith))

pub written_length : (Z : List ℕ) (xs : List chain.Stretch) (ys : List Stretch) (k : ℕ) → k ≤ length xs → k ≤ length ys → length (written Z xs ys k) ≡ length ys
written_length Z xs ys k h l = length-append (map (entry Z) (take k xs)) (drop k ys) ∙ omega (arith, entries_length Z k xs h, length-drop k ys)

entries_more : (Z : List ℕ) (k : ℕ) (xs : List chain.Stretch) (x : chain.Stretch) (zs : List chain.Stretch) → drop k xs ≡ x ∷ zs → map (entry Z) (take (suc k) xs) ≡ map (entry Z) (take k xs) ++ (entry Z x ∷ [])
entries_more Z zero [] x zs e = absurd (omega (arith, ap length e))
entries_more Z zero (y ∷ ys) x zs e = ap (λ (z : chain.Stretch). entry Z z ∷ []) (head-eq_of_cons-eq e)
entries_more Z (suc k) [] x zs e = absurd (omega (arith, ap length e))
entries_more Z (suc k) (y ∷ ys) x zs e = ap (λ (l : List Stretch). entry Z y ∷ l) (entries_more Z k ys x zs e)

pub written_more : (Z : List ℕ) (xs : List chain.Stretch) (ys : List Stretch) (k : ℕ) (x : chain.Stretch) (zs : List chain.Stretch) → drop k xs ≡ x ∷ zs → k < length ys
    → set (written Z xs ys k) k (entry Z x) ≡ written Z xs ys (k + 1)
written_more Z xs ys k x zs e h =
    let few : k ≤ length xs = omega (arith, ap length e, length-drop k xs) in
    ap (λ (d : List Stretch). set (map (entry Z) (take k xs) ++ d) k (entry Z x)) (drop-cons ys k (entry Z x) h)
    ∙ set_at (map (entry Z) (take k xs)) (get_or ys k (entry Z x)) (drop (suc k) ys) (entry Z x) k (entries_length Z k xs few)
    ∙ sym (append_snoc (map (entry Z) (take k xs)) (entry Z x) (drop (suc k) ys))
    ∙ ap (λ (l : List Stretch). l ++ drop (suc k) ys) (sym (entries_more Z k xs x zs e))
    ∙ ap (λ (j : ℕ). written Z xs ys j) (sym (add-one k))
