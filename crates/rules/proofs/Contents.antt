-- The bytes of stretches: what parts of them hold, and what a write to storage changes. Assumes nothing.
use mathlib.Core.Path.{◌≡◌, refl, sym, ap, ap₂, subst, ◌∙◌}
use mathlib.Core.Logic.{◌≢◌, ◌⊎◌, inl, inr}
use mathlib.Core.Bool.{Bool}
use mathlib.Core.List.{List, [], ◌∷◌, ◌++◌, map, append_assoc, Memᴰ}
use Prim.Native.Nat.{ℕ, zero, suc, ◌+◌, ◌-◌, ◌*◌, ◌≤◌, ◌<◌, min}
use native.Mathlib.Nat.{zero-min, min-zero, suc-min-suc, suc-sub-suc, zero-sub, sub-zero, add_assoc}
use native.Mathlib.Decide.{dec_lt}
use native.Mathlib.Omega.{arith}
use lib.ListN.{length, get_or, take, drop, replicate, length-append, length-take, length-drop, length-replicate, take-append-drop, get_or-append}
use lib.Seq.{take-nil, drop-nil, take_at, drop_at, drop-drop, drop-append-le, drop-append-add, get_or-take, get_or-drop, get_or-append-add, ext_get_or}
use lib.Dec.{leb, leb→le}
use Rattle.kinds.specs.Limits.{buffer_size}
use Rattle.kinds.specs.Sizes.{size_of, start_of}
use Rattle.kinds.proofs.Sizes.{start_step, size_one}
use Rattle.rules.specs.Basics.{whether◌then◌else◌}
use Rattle.rules.specs.Layout.{storage_length}
use Rattle.rules.specs.Chain.{Stretch, total, cut_out, position_of, bytes_of, contents}
use Rattle.rules.specs.Storage.{filled_at, filled, cleaned, whole_of, Zeroed}
use Rattle.rules.specs.Build.{laid, stored}
use Rattle.rules.proofs.Logic.{if_F, if_either, not_most}
use Rattle.rules.proofs.Build.{Good}
use Rattle.rules.proofs.Room.{AllIn, above_not}

-- storage has the length of B buffers
abbrev pub Fit : List ℕ → ℕ → List ℕ → Type 0
Fit Z B st = length st ≡ storage_length Z B

-- ---- parts of lists

-- the first or last part of a part
take_take_min : (m n : ℕ) (l : List ℕ) → take m (take n l) ≡ take (min m n) l
take_take_min zero n l = rw zero-min
take_take_min (suc m) zero l = rw min-zero
take_take_min (suc m) (suc n) [] = rw suc-min-suc
take_take_min (suc m) (suc n) (x ∷ l) = rw suc-min-suc (ap (λ (q : List ℕ). x ∷ q) (take_take_min m n l))

pub drop_take : (m n : ℕ) (l : List ℕ) → drop m (take n l) ≡ take (n - m) (drop m l)
drop_take zero n l = rw sub-zero
drop_take (suc m) zero l = rw zero-sub
drop_take (suc m) (suc n) [] = rw take-nil
drop_take (suc m) (suc n) (x ∷ l) = rw suc-sub-suc (drop_take m n l)

-- of two lists in a row
take_both : (n : ℕ) (xs ys : List ℕ) → take n (xs ++ ys) ≡ take n xs ++ take (n - length xs) ys
take_both n [] ys = rw (sub-zero, take-nil)
take_both zero (x ∷ xs) ys = rw zero-sub
take_both (suc n) (x ∷ xs) ys = rw suc-sub-suc (ap (λ (q : List ℕ). x ∷ q) (take_both n xs ys))

drop_past : (n k : ℕ) (xs ys : List ℕ) → length xs ≡ k → k ≤ n → drop n (xs ++ ys) ≡ drop (n - k) ys
drop_past n k xs ys e h = let i : n ≡ length xs + (n - k) = omega arith in ap (λ j. drop j (xs ++ ys)) i ∙ drop-append-add xs ys (n - k)

get_d_past : (i k : ℕ) (xs ys : List ℕ) → length xs ≡ k → k ≤ i → get_or (xs ++ ys) i 0 ≡ get_or ys (i - k) 0
get_d_past i k xs ys e h = let n : i ≡ length xs + (i - k) = omega arith in ap (λ j. get_or (xs ++ ys) j 0) n ∙ get_or-append-add xs ys (i - k) 0

-- ---- how many bytes

-- a stretch has as many bytes as its length says
pub bytes_length : (Z : List ℕ) (B : ℕ) (st : List ℕ) (x : Stretch) → Fit Z B st → x.buffer < B → x.offset + x.len ≤ size_of Z x.buffer → length (bytes_of Z st x) ≡ x.len
bytes_length Z B st x s b h = simp (length-take, length-drop) (omega (arith, start_step Z x.buffer B b))

pub contents_length : (Z : List ℕ) (B : ℕ) (st : List ℕ) (xs : List Stretch) → Fit Z B st → Good Z B xs → length (contents Z st xs) ≡ total xs
unfolding contents total
contents_length Z B st [] s g = refl
contents_length Z B st (x ∷ xs) s g = length-append (bytes_of Z st x) (contents Z st xs) ∙ ap₂ ◌+◌ (bytes_length Z B st x s g.0 g.2) (contents_length Z B st xs s g.3)

-- ---- stretches in a row

-- the bytes and the length of two lists of stretches, one after the other
pub contents_append : (Z : List ℕ) (st : List ℕ) (xs ys : List Stretch) → contents Z st (xs ++ ys) ≡ contents Z st xs ++ contents Z st ys
unfolding contents
contents_append Z st [] ys = refl
contents_append Z st (x ∷ xs) ys = ap (λ (q : List ℕ). bytes_of Z st x ++ q) (contents_append Z st xs ys) ∙ sym (append_assoc (bytes_of Z st x) (contents Z st xs) (contents Z st ys))

pub total_append : (xs ys : List Stretch) → total (xs ++ ys) ≡ total xs + total ys
unfolding total
total_append [] ys = omega arith
total_append (x ∷ xs) ys = let e = total_append xs ys in omega arith

-- ---- a part of stretches

-- from off on, and n bytes of that
bytes_rest : (Z : List ℕ) (st : List ℕ) (x : Stretch) (off : ℕ) → bytes_of Z st (record { buffer = x.buffer; offset = x.offset + off; len = x.len - off }) ≡ drop off (bytes_of Z st x)
bytes_rest Z st x off = rw (drop_take, drop-drop, add_assoc)

pub bytes_part : (Z : List ℕ) (st : List ℕ) (x : Stretch) (off n : ℕ)
    → bytes_of Z st (record { buffer = x.buffer; offset = x.offset + off; len = min n (x.len - off) }) ≡ take n (drop off (bytes_of Z st x))
bytes_part Z st x off n = rw (← bytes_rest Z st x off, take_take_min)

-- the bytes of the range are those of its stretches
pub cut_out_contents : (Z : List ℕ) (B : ℕ) (st : List ℕ) (xs : List Stretch) (off n : ℕ) → Fit Z B st → Good Z B xs → contents Z st (cut_out xs off n) ≡ take n (drop off (contents Z st xs))
unfolding contents cut_out
cut_out_contents Z B st [] off n s g = rw (drop-nil, take-nil)
cut_out_contents Z B st (x ∷ xs) off zero s g = refl
cut_out_contents Z B st (x ∷ xs) off (suc n) s g =
    let a = bytes_of Z st x in
    let c = contents Z st xs in
    let l = bytes_length Z B st x s g.0 g.2 in
    let k = suc n - (x.len - off) in
    let x₁ : Stretch = record { buffer = x.buffer; offset = x.offset + off; len = min (suc n) (x.len - off) } in
    if_either (λ (q : List Stretch). contents Z st q ≡ take (suc n) (drop off (a ++ c))) (leb x.len off) (cut_out xs (off - x.len) (suc n)) (x₁ ∷ cut_out xs 0 k)
    (λ t. cut_out_contents Z B st xs (off - x.len) (suc n) s g.3 ∙ ap (take (suc n)) (sym (drop_past off x.len a c l (leb→le x.len off t))))
    (λ t.
    let u = not_most x.len off t in
    let e : k ≡ suc n - length (drop off a) = rw (length-drop, l) in
    rw (drop-append-le off a c (omega arith), take_both (suc n) (drop off a) c) (ap₂ ◌++◌ (bytes_part Z st x off (suc n)) (cut_out_contents Z B st xs 0 k s g.3 ∙ ap (λ j. take j c) e)))

-- what stays of stretches without their first n bytes
unfoldable pub drop_out : List Stretch → ℕ → List Stretch
drop_out [] n = []
drop_out (x ∷ xs) n = whether leb x.len n then drop_out xs (n - x.len) else (record { buffer = x.buffer; offset = x.offset + n; len = x.len - n } ∷ xs)

pub drop_out_contents : (Z : List ℕ) (B : ℕ) (st : List ℕ) (xs : List Stretch) (n : ℕ) → Fit Z B st → Good Z B xs → contents Z st (drop_out xs n) ≡ drop n (contents Z st xs)
unfolding contents drop_out
drop_out_contents Z B st [] n s g = rw drop-nil
drop_out_contents Z B st (x ∷ xs) n s g =
    let a = bytes_of Z st x in
    let c = contents Z st xs in
    let l = bytes_length Z B st x s g.0 g.2 in
    let x₁ : Stretch = record { buffer = x.buffer; offset = x.offset + n; len = x.len - n } in
    if_either (λ (q : List Stretch). contents Z st q ≡ drop n (a ++ c)) (leb x.len n) (drop_out xs (n - x.len)) (x₁ ∷ xs)
    (λ t. drop_out_contents Z B st xs (n - x.len) s g.3 ∙ sym (drop_past n x.len a c l (leb→le x.len n t)))
    (λ t. let u = not_most x.len n t in rw (drop-append-le n a c (omega arith)) (ap (λ (q : List ℕ). q ++ c) (bytes_rest Z st x n)))

-- the length of a range, and the range of everything
pub total_cut_out : (xs : List Stretch) (off n : ℕ) → off + n ≤ total xs → total (cut_out xs off n) ≡ n
unfolding total cut_out
total_cut_out [] off n h = omega arith
total_cut_out (x ∷ xs) off zero h = refl
total_cut_out (x ∷ xs) off (suc n) h =
    let k = suc n - (x.len - off) in
    let x₁ : Stretch = record { buffer = x.buffer; offset = x.offset + off; len = min (suc n) (x.len - off) } in
    if_either (λ (q : List Stretch). total q ≡ suc n) (leb x.len off) (cut_out xs (off - x.len) (suc n)) (x₁ ∷ cut_out xs 0 k)
    (λ t. let u = leb→le x.len off t in total_cut_out xs (off - x.len) (suc n) (omega arith))
    (λ t. let u = not_most x.len off t in let e = total_cut_out xs 0 k (omega arith) in omega arith)

pub cut_out_all : (Z : List ℕ) (B : ℕ) (xs : List Stretch) (n : ℕ) → Good Z B xs → total xs ≤ n → cut_out xs 0 n ≡ xs
unfolding total cut_out
cut_out_all Z B [] n g h = refl
cut_out_all Z B (x ∷ xs) zero g h = absurd (omega (arith, g.1))
cut_out_all Z B (x ∷ xs) (suc n) g h =
    let o : x.offset + 0 ≡ x.offset = omega arith in
    let m : min (suc n) (x.len - 0) ≡ x.len = omega arith in
    let r = cut_out_all Z B xs (suc n - (x.len - 0)) g.3 (omega arith) in
    if_F (leb x.len 0) _ _ (λ t. let u = leb→le x.len 0 t in omega (arith, g.1)) ∙ (λ i. record { buffer = x.buffer; offset = o i; len = m i } ∷ r i)

-- ---- a buffer written

-- only that buffer's stretch is written
pub filled_length : (Z : List ℕ) (B : ℕ) (st : List ℕ) (b : ℕ) (xs : List ℕ) → Fit Z B st → b < B → length (filled Z st b xs) ≡ length st
unfolding filled_at
filled_length Z B st b xs s h = simp (length-append, length-take, length-drop, length-replicate) (omega (arith, start_step Z b B h))

pub filled_outside : (Z : List ℕ) (B : ℕ) (st : List ℕ) (b : ℕ) (xs : List ℕ) (i : ℕ) → Fit Z B st → b < B → (i < start_of Z b) ⊎ (start_of Z b + size_of Z b ≤ i) → get_or (filled Z st b xs) i 0 ≡ get_or st i 0
unfolding filled_at
filled_outside Z B st b xs i s h (inl l) =
    get_or-append (take (start_of Z b) st) _ 0 i (rw length-take (omega (arith, start_step Z b B h))) ∙ get_or-take (start_of Z b) st i 0 l
filled_outside Z B st b xs i s h (inr l) =
    get_d_past i (start_of Z b) (take (start_of Z b) st) _ (simp length-take (omega (arith, start_step Z b B h))) (omega arith)
    ∙ get_d_past (i - start_of Z b) (size_of Z b) (take (size_of Z b) xs ++ replicate (size_of Z b - length xs) 0) _ (simp (length-append, length-take, length-replicate) (omega arith)) (omega arith)
    ∙ get_or-drop (start_of Z b + size_of Z b) st (i - start_of Z b - size_of Z b) 0 ∙ ap (λ k. get_or st k 0) (omega arith)

-- the bytes of the buffer written, and of a stretch of another one
pub filled_same : (Z : List ℕ) (B : ℕ) (st : List ℕ) (b : ℕ) (xs : List ℕ) → Fit Z B st → b < B → bytes_of Z (filled Z st b xs) (record { buffer = b; offset = 0; len = min (size_of Z b) (length xs) }) ≡ take (size_of Z b) xs
unfolding filled_at
filled_same Z B st b xs s h =
    let p : length (take (start_of Z b) st) ≡ start_of Z b + 0 = simp length-take (omega (arith, start_step Z b B h)) in
    rw (drop_at _ _ (start_of Z b + 0) p, append_assoc) (take_at (take (size_of Z b) xs) _ (min (size_of Z b) (length xs)) (length-take (size_of Z b) xs))

-- xs up to z bytes, and zeros up to there
unfoldable pub padded : ℕ → List ℕ → List ℕ
padded z xs = take z xs ++ replicate (z - length xs) 0

pub padded_length : (z : ℕ) (xs : List ℕ) → length (padded z xs) ≡ z
unfolding padded
padded_length z xs = simp (length-append, length-take, length-replicate) (omega arith)

pub filled_whole : (Z : List ℕ) (B : ℕ) (st : List ℕ) (b : ℕ) (xs : List ℕ) → Fit Z B st → b < B
    → bytes_of Z (filled Z st b xs) (whole_of Z b) ≡ padded (size_of Z b) xs
unfolding filled_at padded
filled_whole Z B st b xs s h =
    let p : length (take (start_of Z b) st) ≡ start_of Z b + 0 = simp length-take (omega (arith, start_step Z b B h)) in
    rw (drop_at _ _ (start_of Z b + 0) p) (take_at (padded (size_of Z b) xs) _ (size_of Z b) (padded_length (size_of Z b) xs))

-- a buffer cleaned is zero
pub cleaned_zero : (Z : List ℕ) (B : ℕ) (st : List ℕ) (b : ℕ) → Fit Z B st → b < B → Zeroed Z (cleaned Z st b) b
unfolding padded
cleaned_zero Z B st b s h = filled_whole Z B st b [] s h ∙ rw (take-nil, sub-zero)

pub filled_other : (Z : List ℕ) (B : ℕ) (st : List ℕ) (b : ℕ) (xs : List ℕ) (x : Stretch) → Fit Z B st → b < B → x.buffer ≢ b → x.buffer < B → x.offset + x.len ≤ size_of Z x.buffer
    → bytes_of Z (filled Z st b xs) x ≡ bytes_of Z st x
filled_other Z B st b xs x s h ne lt fits =
    let e = filled_length Z B st b xs s h in
    let l : length (bytes_of Z (filled Z st b xs) x) ≡ x.len = bytes_length Z B (filled Z st b xs) x (e ∙ s) lt fits in
    ext_get_or 0 _ _ (l ∙ sym (bytes_length Z B st x s lt fits)) (λ i u.
    let v : i < x.len = omega arith in
    let o : (position_of Z x + i < start_of Z b) ⊎ (start_of Z b + size_of Z b ≤ position_of Z x + i) = elim (dec_lt x.buffer b) [ yes d ↦ inl (omega (arith, start_step Z x.buffer b d)) | no d ↦ inr (omega (arith, start_step Z b x.buffer (omega arith))) ] in
    simp (get_or-take, get_or-drop) (filled_outside Z B st b xs (position_of Z x + i) s h o))

-- ---- bytes over buffers

-- storage keeps its length
pub stored_length : (Z : List ℕ) (f : ℕ → Bool) (i B : ℕ) (bs st xs : List ℕ) → AllIn f i B bs → Fit Z B st → length (stored Z st bs xs) ≡ length st
unfolding stored
stored_length Z f i B [] st xs a s = refl
stored_length Z f i B (b ∷ bs) st xs a s =
    let e = filled_length Z B st b xs s a.1 in
    stored_length Z f (suc b) B bs (filled Z st b xs) (drop (size_of Z b) xs) a.3 (e ∙ s) ∙ e

-- no stretch lies on one of the buffers
abbrev pub Off : List ℕ → List Stretch → Type 0
Off bs [] = Unit {0}
Off bs (x ∷ xs) = (Memᴰ x.buffer bs → ⊥) × Off bs xs

-- a stretch on none of the buffers keeps its bytes
pub stored_other : (Z : List ℕ) (f : ℕ → Bool) (i B : ℕ) (bs st xs : List ℕ) (x : Stretch) → AllIn f i B bs → Fit Z B st → x.buffer < B → x.offset + x.len ≤ size_of Z x.buffer
    → (Memᴰ x.buffer bs → ⊥) → bytes_of Z (stored Z st bs xs) x ≡ bytes_of Z st x
unfolding stored
stored_other Z f i B [] st xs x a s lt fits o = refl
stored_other Z f i B (b ∷ bs) st xs x a s lt fits o =
    stored_other Z f (suc b) B bs (filled Z st b xs) (drop (size_of Z b) xs) x a.3 (filled_length Z B st b xs s a.1 ∙ s) lt fits (λ m. o (Memᴰ.tail m))
    ∙ filled_other Z B st b xs x s a.1 (λ e. o (Memᴰ.head e)) lt fits

pub stored_others : (Z : List ℕ) (f : ℕ → Bool) (i B : ℕ) (bs st xs : List ℕ) (ys : List Stretch) → AllIn f i B bs → Fit Z B st → Good Z B ys → Off bs ys → contents Z (stored Z st bs xs) ys ≡ contents Z st ys
unfolding contents
stored_others Z f i B bs st xs [] a s g o = refl
stored_others Z f i B bs st xs (y ∷ ys) a s g o =
    ap₂ ◌++◌ (stored_other Z f i B bs st xs y a s g.0 g.2 o.0) (stored_others Z f i B bs st xs ys a s g.3 o.1)

-- the bytes stored are those of the new stretches
pub stored_laid : (Z : List ℕ) (f : ℕ → Bool) (i B : ℕ) (bs st xs : List ℕ) → AllIn f i B bs → Fit Z B st → length xs ≤ buffer_size * length bs → contents Z (stored Z st bs xs) (laid Z bs (length xs)) ≡ xs
unfolding contents stored laid
stored_laid Z f i B [] st [] a s h = refl
stored_laid Z f i B [] st (x ∷ xs) a s h = absurd (omega arith)
stored_laid Z f i B (b ∷ bs) st xs a s h =
    let o = size_one Z b in
    let st₁ = filled Z st b xs in
    let xs₁ = drop (size_of Z b) xs in
    let s₁ : Fit Z B st₁ = filled_length Z B st b xs s a.1 ∙ s in
    let e : length xs₁ ≡ length xs - size_of Z b = length-drop (size_of Z b) xs in
    let x : Stretch = record { buffer = b; offset = 0; len = min (size_of Z b) (length xs) } in
    let p = stored_other Z f (suc b) B bs st₁ xs₁ x a.3 s₁ a.1 (omega arith) (above_not f (suc b) B b bs (omega arith) a.3) in
    let r = stored_laid Z f (suc b) B bs st₁ xs₁ a.3 s₁ (omega arith) in
    ap₂ ◌++◌ (p ∙ filled_same Z B st b xs s a.1) (subst (λ n. contents Z (stored Z st₁ bs xs₁) (laid Z bs n) ≡ xs₁) e r) ∙ take-append-drop (size_of Z b) xs

-- how many new stretches, their buffers, and their length
pub laid_count : (Z : List ℕ) (bs : List ℕ) (n : ℕ) → length (laid Z bs n) ≡ length bs
unfolding laid
laid_count Z [] n = refl
laid_count Z (b ∷ bs) n = ap suc (laid_count Z bs (n - size_of Z b))

pub laid_buffers : (Z : List ℕ) (bs : List ℕ) (n : ℕ) → map (λ (x : Stretch). x.buffer) (laid Z bs n) ≡ bs
unfolding laid
laid_buffers Z [] n = refl
laid_buffers Z (b ∷ bs) n = ap (λ (q : List ℕ). b ∷ q) (laid_buffers Z bs (n - size_of Z b))

pub laid_total : (Z : List ℕ) (bs : List ℕ) (n : ℕ) → n ≤ buffer_size * length bs → total (laid Z bs n) ≡ n
unfolding total laid
laid_total Z [] n h = omega arith
laid_total Z (b ∷ bs) n h = let o = size_one Z b in let e = laid_total Z bs (n - size_of Z b) (omega arith) in omega arith
