-- Chains in sound tables: their pieces are in use, and their stretches lie inside their buffers. Assumes nothing.
use mathlib.Core.Path.{◌≡◌, refl, ap, ◌∙◌}
use mathlib.Core.Logic.{⊎_elim}
use mathlib.Core.Bool.{Bool}
use mathlib.Core.List.Memᴰ
use mathlib.Core.List.{List, [], ◌∷◌, ◌++◌, Memᴰ}
use Prim.Native.Nat.{ℕ, zero, suc, ◌+◌, ◌-◌, ◌*◌, ◌≤◌, ◌<◌, min}
use native.Mathlib.Omega.{arith}
use lib.ListN.{length, drop}
use lib.Dec.{leb}
use Rattle.kinds.specs.Limits.{buffer_size}
use Rattle.kinds.specs.Sizes.{size_of}
use Rattle.kinds.proofs.Sizes.{size_one}
use Rattle.rules.specs.Basics.{last_of}
use Rattle.rules.specs.Tables.{Piece, Tables, piece, head_of, piece_total}
use Rattle.rules.specs.Chain.{Stretch, walk, chain, stretches, spans, cut_out}
use Rattle.rules.specs.Build.{built, laid}
use Rattle.rules.proofs.Logic.{if_either, not_most}
use Rattle.rules.proofs.Moves.{SoundBy, SoundNow, in_range, buffer_pos}
use Rattle.rules.proofs.Rank.{next_pos, head_pos}
use Rattle.rules.proofs.Build.{Free, Good, built_other}
use Rattle.rules.proofs.Room.{AllIn}

-- ---- pieces in use

abbrev pub AllUsed : Tables → List ℕ → Type 0
AllUsed T [] = Unit {0}
AllUsed T (d ∷ ds) = (0 < (piece T d).count) × AllUsed T ds

pub walk_used : (k n : ℕ) {rank : ℕ → ℕ} {fl : List ℕ} {T : Tables} → SoundBy rank fl T → ((d : ℕ) → n ≡ suc d → 0 < (piece T d).count) → AllUsed T (walk k T n)
unfolding walk
walk_used zero n S h = tt
walk_used (suc k) zero S h = tt
walk_used (suc k) (suc d) {rank} {fl} {T} S h = (h d refl, walk_used k (piece T d).next S (λ e q. next_pos d e S q))

pub chain_used : (T : Tables) (s : ℕ) → SoundNow T → AllUsed T (chain T s)
chain_used T s (rank, S) = walk_used (piece_total T) (head_of T s) S (λ d h. head_pos s d S h)

-- ---- stretches inside their buffers

pub stretches_good : {rank : ℕ → ℕ} {fl : List ℕ} {T : Tables} (ds : List ℕ) → SoundBy rank fl T → AllUsed T ds → Good T.stock (length T.counts) (stretches T ds)
unfolding stretches
stretches_good [] S u = tt
stretches_good {rank} {fl} {T} (d ∷ ds) S u =
    let f = S.fits d u.0 in
    (in_range T.counts 0 (λ n. n) (piece T d).buffer refl (buffer_pos d u.0 S), f.some_bytes, f.inside, stretches_good ds S u.1)

pub spans_good : (T : Tables) (s : ℕ) → SoundNow T → Good T.stock (length T.counts) (spans T s)
spans_good T s S = stretches_good (chain T s) S.1 (chain_used T s S)

pub cut_out_good : (Z : List ℕ) (B : ℕ) (xs : List Stretch) (off n : ℕ) → Good Z B xs → Good Z B (cut_out xs off n)
unfolding cut_out
cut_out_good Z B [] off n g = tt
cut_out_good Z B (x ∷ xs) off zero g = tt
cut_out_good Z B (x ∷ xs) off (suc n) g =
    if_either (Good Z B) (leb x.len off)
    (cut_out xs (off - x.len) (suc n))
    (record { buffer = x.buffer; offset = x.offset + off; len = min (suc n) (x.len - off) } ∷ cut_out xs 0 (suc n - (x.len - off)))
    (λ t. cut_out_good Z B xs (off - x.len) (suc n) g.3)
    (λ t. (let h : off < x.len = not_most x.len off t in (g.0, omega (arith, g.1), omega (arith, g.2), cut_out_good Z B xs 0 (suc n - (x.len - off)) g.3)))

pub good_drop : (Z : List ℕ) (B : ℕ) (k : ℕ) (xs : List Stretch) → Good Z B xs → Good Z B (drop k xs)
good_drop Z B zero xs g = g
good_drop Z B (suc k) [] g = tt
good_drop Z B (suc k) (x ∷ xs) g = good_drop Z B k xs g.3

pub good_append : (Z : List ℕ) (B : ℕ) (xs ys : List Stretch) → Good Z B xs → Good Z B ys → Good Z B (xs ++ ys)
good_append Z B [] ys g h = h
good_append Z B (x ∷ xs) ys g h = (g.0, g.1, g.2, good_append Z B xs ys g.3 h)

pub good_last : (Z : List ℕ) (B : ℕ) (x : Stretch) (xs : List Stretch) → Good Z B (x ∷ xs) → (1 ≤ (last_of x xs).len) × ((last_of x xs).offset + (last_of x xs).len ≤ size_of Z (last_of x xs).buffer)
good_last Z B x [] g = (g.1, g.2)
good_last Z B x (y ∷ ys) g = good_last Z B y ys g.3

-- n bytes on free buffers, where there is at least a byte for each
pub laid_good : (Z : List ℕ) (f : ℕ → Bool) (i B : ℕ) (bs : List ℕ) (n : ℕ) → AllIn f i B bs → buffer_size * length bs < n + buffer_size → Good Z B (laid Z bs n)
unfolding laid
laid_good Z f i B [] n a h = tt
laid_good Z f i B (b ∷ bs) n a h = (let o = size_one Z b in (a.1, omega arith, omega arith, laid_good Z f (suc b) B bs (n - size_of Z b) a.3 (omega arith)))

-- pieces of count 1 stay as they are where new ones are built

pub used_not_free : (T : Tables) (d : ℕ) (fs : List ℕ) → 0 < (piece T d).count → Free T fs → Memᴰ d fs → ⊥
used_not_free T d [] h f m = Memᴰ.not-nil m
used_not_free T d (x ∷ xs) h f m =
    ⊎_elim (λ e. (let q = ap (λ y. (piece T y).count) e in omega (arith, f.1))) (λ m'. used_not_free T d xs h f.3 m') (Memᴰ.cases_cons m)

-- pieces of count 1 stay as they are where new ones are built
pub built_own : (T : Tables) (fs : List ℕ) (xs : List Stretch) (tail : ℕ) → Free T fs → (d : ℕ) → (piece T d).count ≡ 1
    → ((piece (built T fs xs tail) d).count ≡ 1) × ((piece (built T fs xs tail) d).next ≡ (piece T d).next)
built_own T fs xs tail f d c =
    let e = built_other T fs xs tail d (used_not_free T d fs (omega arith) f) in
    (ap (λ (q : Piece). q.count) e ∙ c, ap (λ (q : Piece). q.next) e)
