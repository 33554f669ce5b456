-- The stretches that stay: the own pieces' and the others', and where the last one ends. Assumes nothing.
use mathlib.Core.Path.{◌≡◌, refl, sym, ap, ◌∙◌}
use mathlib.Core.List.{List, [], ◌∷◌}
use Prim.Native.Nat.{ℕ, zero, suc, ◌+◌, ◌-◌, ◌≤◌, min}
use native.Mathlib.Nat.{sub-zero}
use native.Mathlib.Omega.{arith}
use lib.ListN.{length, take, drop}
use Rattle.rules.specs.Basics.{last_of}
use Rattle.rules.specs.Tables.{Tables, piece, set_piece, with_place}
use Rattle.rules.specs.Chain.{Stretch, stretch, stretches, total, cut_out}
use Rattle.rules.specs.Keep.{shortened}
use Rattle.rules.proofs.Build.{Good}
use Rattle.rules.proofs.Contents.{total_cut_out}
use Rattle.rules.proofs.Keep.{cut_cons, cut_some}
use Rattle.own.specs.Own.{last_link}
use Rattle.keep.specs.Shorten.{shortened_by}

-- ---- what is cut out, behind the first j stretches

pub cut_behind : (Z : List ℕ) (B j : ℕ) (ys : List Stretch) (n : ℕ) → Good Z B ys → j ≤ length (cut_out ys 0 n) → drop j (cut_out ys 0 n) ≡ cut_out (drop j ys) 0 (n - total (take j ys))
unfolding cut_out total
cut_behind Z B zero ys n g h = ap (cut_out ys 0) (sym (sub-zero n))
cut_behind Z B (suc j) [] n g h = absurd (omega arith)
cut_behind Z B (suc j) (y ∷ ys) zero g h = absurd (omega arith)
cut_behind Z B (suc j) (y ∷ ys) (suc n) g h =
    let c = cut_cons y ys n g.1 in
    let e : suc n - (y.len - 0) - total (take j ys) ≡ suc n - (y.len + total (take j ys)) = omega arith in
    ap (drop (suc j)) c ∙ cut_behind Z B j ys (suc n - (y.len - 0)) g.3 (omega (arith, ap length c)) ∙ ap (cut_out (drop j ys) 0) e

-- where the first j have n bytes, no more stay
pub cut_enough : (Z : List ℕ) (B j : ℕ) (ys : List Stretch) (n : ℕ) → Good Z B ys → n ≤ total (take j ys) → length (cut_out ys 0 n) ≤ j
unfolding cut_out total
cut_enough Z B j [] n g h = omega arith
cut_enough Z B j (y ∷ ys) zero g h = omega arith
cut_enough Z B zero (y ∷ ys) (suc n) g h = absurd (omega arith)
cut_enough Z B (suc j) (y ∷ ys) (suc n) g h = omega (arith, ap length (cut_cons y ys n g.1), cut_enough Z B j ys (suc n - (y.len - 0)) g.3 (omega arith))

-- ---- the last stretch that stays

-- where nothing is cut out, no bytes were asked for
pub none_cut : (ys : List Stretch) (n : ℕ) → n ≤ total ys → cut_out ys 0 n ≡ [] → n ≡ 0
unfolding total
none_cut ys n h e = sym (total_cut_out ys 0 n (omega arith)) ∙ ap total e

-- it starts where its piece does, and is as much shorter as the pieces have more than n bytes
pub last_stays : (T : Tables) (Z : List ℕ) (B d : ℕ) (ds : List ℕ) (x : Stretch) (xs ys : List Stretch) (n : ℕ) → Good Z B ys → stretches T (d ∷ ds) ≡ take (suc (length ds)) ys → cut_out ys 0 n ≡ x ∷ xs
    → length xs ≡ length ds → n ≤ total ys
    → ((last_of x xs).offset ≡ (piece T (last_of d ds)).offset) × ((last_of x xs).len + total (stretches T (d ∷ ds)) ≡ (piece T (last_of d ds)).len + n) × (n ≤ total (stretches T (d ∷ ds)))
unfolding stretches total
last_stays T Z B d ds x xs [] n g e c l t = absurd (let q = ap length e in omega arith)
last_stays T Z B d ds x xs (y ∷ ys) zero g e c l t = absurd (let q = cut_some (y ∷ ys) 0 zero (omega (arith, ap length c)) in omega arith)
last_stays T Z B d [] x [] (y ∷ ys) (suc n) g e c l t =
    let cut : Stretch = record { buffer = y.buffer; offset = y.offset + 0; len = min (suc n) (y.len - 0) } in
    let c₂ : cut ∷ cut_out ys 0 (suc n - (y.len - 0)) ≡ x ∷ [] = sym (cut_cons y ys n g.1) ∙ c in
    let first : cut ≡ x = cc in
    let rest : cut_out ys 0 (suc n - (y.len - 0)) ≡ [] = cc in
    let old : stretch (piece T d) ≡ y = cc in
    let o : (piece T d).offset ≡ y.offset = ap (λ (z : Stretch). z.offset) old in
    let m : (piece T d).len ≡ y.len = ap (λ (z : Stretch). z.len) old in
    let a : y.offset + 0 ≡ x.offset = ap (λ (z : Stretch). z.offset) first in
    let b : min (suc n) (y.len - 0) ≡ x.len = ap (λ (z : Stretch). z.len) first in
    let none = none_cut ys (suc n - (y.len - 0)) (omega arith) rest in
    (omega arith, omega arith, omega arith)
last_stays T Z B d [] x (x₂ ∷ xs) (y ∷ ys) (suc n) g e c l t = absurd (omega arith)
last_stays T Z B d (d₂ ∷ ds) x [] (y ∷ ys) (suc n) g e c l t = absurd (omega arith)
last_stays T Z B d (d₂ ∷ ds) x (x₂ ∷ xs) (y ∷ ys) (suc n) g e c l t =
    let more = cut_out ys 0 (suc n - (y.len - 0)) in
    let cut : Stretch = record { buffer = y.buffer; offset = y.offset + 0; len = min (suc n) (y.len - 0) } in
    let c₂ : cut ∷ more ≡ x ∷ x₂ ∷ xs = sym (cut_cons y ys n g.1) ∙ c in
    let rest : more ≡ x₂ ∷ xs = cc in
    let old : stretch (piece T d) ≡ y = cc in
    let olds : stretches T (d₂ ∷ ds) ≡ take (suc (length ds)) ys = cc in
    let m : (piece T d).len ≡ y.len = ap (λ (z : Stretch). z.len) old in
    let some = cut_some ys 0 (suc n - (y.len - 0)) (omega (arith, ap length rest)) in
    let i = last_stays T Z B d₂ ds x₂ xs ys (suc n - (y.len - 0)) g.3 olds rest (omega arith) (omega arith) in
    (i.0, omega (arith, i.1), omega (arith, i.2))

-- so the last own piece is shortened by what they have more
pub shortened_is : (T : Tables) (Z : List ℕ) (B : ℕ) (own : List ℕ) (xs ys : List Stretch) (n over : ℕ) → Good Z B ys → stretches T own ≡ take (length own) ys → cut_out ys 0 n ≡ xs → length own ≡ length xs
    → n ≤ total ys → over ≡ total (stretches T own) - n → shortened_by T (last_link own) over ≡ shortened T own xs
unfolding shortened
shortened_is T Z B [] xs ys n over g e c l t o = refl
shortened_is T Z B (d ∷ ds) [] ys n over g e c l t o = absurd (omega arith)
shortened_is T Z B (d ∷ ds) (x ∷ xs) ys n over g e c l t o =
    let q = last_of d ds in
    let y = last_of x xs in
    let k = last_stays T Z B d ds x xs ys n g e c (omega arith) t in
    let m : (piece T q).len - over ≡ y.len = omega (arith, k.1, k.2) in
    λ i. set_piece T q (with_place (piece T q) (sym k.0 i) (m i))

-- the own pieces have the n bytes, and the last one those that they have more
pub own_reach : (T : Tables) (Z : List ℕ) (B : ℕ) (own : List ℕ) (xs ys : List Stretch) (n : ℕ) → Good Z B ys → stretches T own ≡ take (length own) ys → cut_out ys 0 n ≡ xs → length own ≡ length xs
    → n ≤ total ys → (n ≤ total (stretches T own)) × ((last_link own ≡ 0 → ⊥) → total (stretches T own) - n ≤ (piece T (last_link own - 1)).len)
own_reach T Z B [] [] ys n g e c l t = (omega (arith, none_cut ys n t c), λ h. absurd (h refl))
own_reach T Z B [] (x ∷ xs) ys n g e c l t = absurd (omega arith)
own_reach T Z B (d ∷ ds) [] ys n g e c l t = absurd (omega arith)
own_reach T Z B (d ∷ ds) (x ∷ xs) ys n g e c l t =
    let k = last_stays T Z B d ds x xs ys n g e c (omega arith) t in
    let q : suc (last_of d ds) - 1 ≡ last_of d ds = omega arith in
    (k.2, λ _. omega (arith, k.1, ap (λ (i : ℕ). (piece T i).len) q))
