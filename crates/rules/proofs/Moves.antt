-- Soundness while an operation is under way, and the elementary moves, each of which keeps it. Assumes nothing.
use mathlib.Core.Path.{◌≡◌, refl, sym, ap, subst, ◌∙◌}
use mathlib.Core.Logic.{◌≢◌}
use mathlib.Core.Bool.{Bool, ◌&&◌}
use mathlib.Core.List.{List, [], ◌∷◌}
use Prim.Native.Nat.{ℕ, zero, suc, ◌+◌, ◌-◌, ◌≤◌, ◌<◌, pred}
use native.Mathlib.Nat.{not-suc-le-zero}
use native.Mathlib.Decide.{ℕ_discrete, dec_lt}
use native.Mathlib.Omega.{arith}
use lib.ListN.{length, get_or, set, length-set, get_or-eq_default}
use lib.Seq.{get_or-set_same, get_or-set_other}
use lib.Dec.{eqb, eqb→eq, eqb_refl, lt→ltb}
use Rattle.kinds.specs.Sizes.{size_of}
use Rattle.rules.specs.Basics.{whether◌then◌else◌, bit, sum_to}
use Rattle.rules.specs.Tables.{Piece, Tables, blank, piece, buffer_count, head_of, set_slip, set_piece, set_piece_count, with_count, with_next, with_place, with_both}
use Rattle.rules.specs.Sound.{in_use, leads, heads, lying}
use Rattle.rules.specs.Release.{raised, lowered}
use Rattle.rules.specs.Build.{taken}
use Rattle.rules.proofs.Logic.{if_T, if_F, is_true, same_bit, other_bit, bit_pos}
use Rattle.rules.proofs.Sums.{sum_to_change, sum_to_at}

-- ---- references

-- 1 where the link n leads to piece d
abbrev pub hit : ℕ → ℕ → ℕ
hit n d = bit (leads n d)

-- 1 where a piece is in use and lies on buffer b
abbrev pub lies : Piece → ℕ → ℕ
lies p b = bit (in_use p && eqb p.buffer b)

-- the number of nexts that lead to piece d, of all pieces: a free piece's next leads nowhere
unfoldable pub links : Tables → ℕ → ℕ
links T d = sum_to (length T.pieces) (λ c. hit (piece T c).next d)

-- how many links of a list lead to d
abbrev pub occ : List ℕ → ℕ → ℕ
occ [] d = 0
occ (n ∷ ns) d = hit n d + occ ns d

-- a piece covers at least one byte, inside its buffer
pub record Fits (Z : List ℕ) (p : Piece) : Type 0 where
  pub some_bytes : 1 ≤ p.len
  pub inside : p.offset + p.len ≤ size_of Z p.buffer

-- The tables are sound but for the references fl, which the operation under way holds itself;
-- `rank` falls along every next. Indices are unbounded: past its end a table reads as zero, so
-- `counted` and `lain` also say that every slip, next and buffer in use is in range.
pub record SoundBy (rank : ℕ → ℕ) (fl : List ℕ) (T : Tables) : Type 0 where
  pub counted : (d : ℕ) → (piece T d).count ≡ heads T d + links T d + occ fl d
  pub lain : (b : ℕ) → buffer_count T b ≡ lying T b
  pub empty : (d : ℕ) → (piece T d).count ≡ 0 → piece T d ≡ blank
  pub fits : (d : ℕ) → 0 < (piece T d).count → Fits T.stock (piece T d)
  pub falls : (d e : ℕ) → (piece T d).next ≡ suc e → rank e < rank d

abbrev pub SoundWith : List ℕ → Tables → Type 0
SoundWith fl T = (rank : ℕ → ℕ) × SoundBy rank fl T

abbrev pub SoundNow : Tables → Type 0
SoundNow T = SoundWith [] T

-- ---- hit and lies

pub hit_same : (d : ℕ) → hit (suc d) d ≡ 1
hit_same d = same_bit d

pub hit_other : (e d : ℕ) → d ≢ e → hit (suc e) d ≡ 0
hit_other e d h = other_bit (λ x. h (sym x))

-- a link that leads to d is suc d
pub hit_pos : (n d : ℕ) → 0 < hit n d → n ≡ suc d
hit_pos zero d h = absurd (not-suc-le-zero h)
hit_pos (suc e) d h = ap suc (eqb→eq e d (bit_pos (eqb e d) h))

pub lies_used : (p : Piece) (b : ℕ) → 0 < p.count → lies p b ≡ bit (eqb p.buffer b)
lies_used p b h = ap (λ (t : Bool). bit (t && eqb p.buffer b)) (is_true (in_use p) (lt→ltb 0 p.count h))

pub lies_own : (p : Piece) → 0 < p.count → lies p p.buffer ≡ 1
lies_own p h = lies_used p p.buffer h ∙ same_bit p.buffer

pub lies_other : (p : Piece) (b : ℕ) → 0 < p.count → b ≢ p.buffer → lies p b ≡ 0
lies_other p b h k = lies_used p b h ∙ other_bit (λ e. k (sym e))

-- ---- what a store does to the sums

-- for any table l: the weight f of its entries, one of which is stored to
pub sum_set : {A : Type 0} (l : List A) (i : ℕ) (a z : A) (f : A → ℕ) → i < length l
    → sum_to (length (set l i a)) (λ j. f (get_or (set l i a) j z)) + f (get_or l i z) ≡ sum_to (length l) (λ j. f (get_or l j z)) + f a
sum_set l i a z f h =
    rw length-set
    (sum_to_change (length l) i (λ j. f (get_or l j z)) (λ j. f (get_or (set l i a) j z)) h (λ j e. ap f (sym (get_or-set_other l i j a z e)))
    ∙ ap (λ x. sum_to (length l) (λ j. f (get_or l j z)) + f x) (get_or-set_same l i a z h))

-- an entry whose weight is not the default's is in the table
pub in_range : {A : Type 0} (l : List A) (z : A) (f : A → ℕ) (d : ℕ) → f z ≡ 0 → 0 < f (get_or l d z) → d < length l
in_range l z f d e h =
    elim (dec_lt d (length l)) [
      | yes k ↦ k
      | no k ↦ (let w = ap f (get_or-eq_default l z {n = d} (omega arith)) in omega arith)
    ]

pub used_in_range_lem : (T : Tables) (d : ℕ) → 0 < (piece T d).count → d < length T.pieces
used_in_range_lem T d h = in_range T.pieces blank (λ q. q.count) d refl h

pub links_at : (T : Tables) (d e : ℕ) → (piece T d).next ≡ suc e → 0 < links T e
unfolding links
links_at T d e h =
    let l = in_range T.pieces blank (λ q. q.next) d refl (omega arith) in
    let k : hit (piece T d).next e ≡ 1 = ap (λ n. hit n e) h ∙ hit_same e in
    omega (arith, sum_to_at (length T.pieces) d (λ c. hit (piece T c).next e) l)

pub heads_at : (T : Tables) (s e : ℕ) → head_of T s ≡ suc e → 0 < heads T e
unfolding heads
heads_at T s e h =
    let l = in_range T.slips 0 pred s refl (omega (arith, h)) in
    let k : hit (head_of T s) e ≡ 1 = ap (λ n. hit n e) h ∙ hit_same e in
    omega (arith, sum_to_at (length T.slips) s (λ c. hit (head_of T c) e) l)

pub lying_at : (T : Tables) (d : ℕ) → 0 < (piece T d).count → 0 < lying T (piece T d).buffer
unfolding lying
lying_at T d h =
    let l = used_in_range_lem T d h in
    let k : lies (piece T d) (piece T d).buffer ≡ 1 = lies_own (piece T d) h in
    omega (arith, sum_to_at (length T.pieces) d (λ c. lies (piece T c) (piece T d).buffer) l)

-- an entry of a list with one store: what holds of the new entry, and of each other entry, holds of all
pub by_place : {A : Type 0} (l : List A) (i : ℕ) (a z : A) → i < length l → (P : A → ℕ → Type 0) → P a i
    → ((d : ℕ) → d ≢ i → P (get_or l d z) d) → (d : ℕ) → P (get_or (set l i a) d z) d
by_place l i a z l< P new old d =
    elim (ℕ_discrete d i) [
      | yes e ↦ subst (λ (x : ℕ). P (get_or (set l i a) x z) x) (sym e) (rw get_or-set_same new)
      | no e ↦ rw (get_or-set_other l i d a z e) (old d e)
    ]

-- ---- the general move: piece i becomes p, the buffers' counts become cs, and the references held change from fl to fl'

pub record Replaces (rank rank' : ℕ → ℕ) (fl fl' : List ℕ) (T : Tables) (i : ℕ) (p : Piece) (cs : List ℕ) : Type 0 where
  pub there : i < length T.pieces
  pub others : (d : ℕ) → d ≢ i → occ fl d + hit (piece T i).next d ≡ occ fl' d + hit p.next d
  pub itself : p.count + occ fl i + hit (piece T i).next i ≡ (piece T i).count + occ fl' i + hit p.next i
  pub buffers : (b : ℕ) → get_or cs b 0 + lies (piece T i) b ≡ buffer_count T b + lies p b
  pub p_empty : p.count ≡ 0 → p ≡ blank
  pub p_fits : 0 < p.count → Fits T.stock p
  pub old_falls : (d e : ℕ) → d ≢ i → (piece T d).next ≡ suc e → rank' e < rank' d
  pub p_falls : (e : ℕ) → p.next ≡ suc e → rank' e < rank' i

pub replace : {rank rank' : ℕ → ℕ} {fl fl' : List ℕ} {T : Tables} {i : ℕ} {p : Piece} {cs : List ℕ}
    → SoundBy rank fl T → Replaces rank rank' fl fl' T i p cs
    → SoundBy rank' fl' (with_both T (set T.pieces i p) cs)
unfolding heads links lying
replace {rank} {rank'} {fl} {fl'} {T} {i} {p} {cs} S R =
    let all = by_place T.pieces i p blank R.there in
    let T' = with_both T (set T.pieces i p) cs in
    let sn : (d : ℕ) → links T' d + hit (piece T i).next d ≡ links T d + hit p.next d = λ d. sum_set T.pieces i p blank (λ q. hit q.next d) R.there in
    record {
      counted = all (λ q d. q.count ≡ heads T d + links T' d + occ fl' d)
          (omega (arith, sn i, S.counted i, R.itself))
          (λ d e. omega (arith, sn d, S.counted d, R.others d e));
      lain = λ b. omega (arith, sum_set T.pieces i p blank (λ q. lies q b) R.there, S.lain b, R.buffers b);
      empty = all (λ q d. q.count ≡ 0 → q ≡ blank) R.p_empty (λ d e. S.empty d);
      fits = all (λ q d. 0 < q.count → Fits T.stock q) R.p_fits (λ d e. S.fits d);
      falls = all (λ q d. (e : ℕ) → q.next ≡ suc e → rank' e < rank' d) R.p_falls (λ d n e. R.old_falls d e n);
    }

-- ---- the moves

pub reorder : {rank : ℕ → ℕ} {fl fl' : List ℕ} {T : Tables} → ((d : ℕ) → occ fl d ≡ occ fl' d) → SoundBy rank fl T → SoundBy rank fl' T
reorder e S = record { counted = λ d. omega (arith, S.counted d, e d); lain = S.lain; empty = S.empty; fits = S.fits; falls = S.falls }

-- a slip takes the reference v, and what it headed is held instead
pub slip_move : {rank : ℕ → ℕ} {fl : List ℕ} {T : Tables} (s v : ℕ) → s < length T.slips
    → SoundBy rank (pred v ∷ fl) T → SoundBy rank (head_of T s ∷ fl) (set_slip T s v)
unfolding heads links lying
slip_move {rank} {fl} {T} s v h S = record {
  counted = λ d. omega (arith, S.counted d, sum_set T.slips s v 0 (λ w. hit (pred w) d) h);
  lain = S.lain;
  empty = S.empty;
  fits = S.fits;
  falls = S.falls;
}

-- one reference more to a piece in use
pub share_move : {rank : ℕ → ℕ} {fl : List ℕ} {T : Tables} (d : ℕ) → 0 < (piece T d).count
    → SoundBy rank fl T → SoundBy rank (suc d ∷ fl) (raised T d)
share_move {rank} {fl} {T} d h S = replace S (record {
  there = used_in_range_lem T d h;
  others = λ x e. omega (arith, hit_other d x e);
  itself = omega (arith, hit_same d);
  buffers = λ b. omega (arith, lies_used (piece T d) b h, lies_used (with_count (piece T d) (suc (piece T d).count)) b (omega arith));
  p_empty = λ e. absurd (omega arith);
  p_fits = λ l. record { some_bytes = (S.fits d h).some_bytes; inside = (S.fits d h).inside };
  old_falls = λ x e _. S.falls x e;
  p_falls = S.falls d;
})

-- one reference less to a piece that has another
pub lower_move : {rank : ℕ → ℕ} {fl : List ℕ} {T : Tables} (d : ℕ) → 1 < (piece T d).count
    → SoundBy rank (suc d ∷ fl) T → SoundBy rank fl (lowered T d)
lower_move {rank} {fl} {T} d h S = replace S (record {
  there = used_in_range_lem T d (omega arith);
  others = λ x e. omega (arith, hit_other d x e);
  itself = omega (arith, hit_same d);
  buffers = λ b. omega (arith, lies_used (piece T d) b (omega arith), lies_used (with_count (piece T d) ((piece T d).count - 1)) b (omega arith));
  p_empty = λ e. absurd (omega arith);
  p_fits = λ l. (let k = S.fits d (omega arith) in record { some_bytes = k.some_bytes; inside = k.inside });
  old_falls = λ x e _. S.falls x e;
  p_falls = S.falls d;
})

-- the buffer's count of a piece in use is above 0, and so the buffer is in range
pub buffer_pos : {rank : ℕ → ℕ} {fl : List ℕ} {T : Tables} (d : ℕ) → 0 < (piece T d).count → SoundBy rank fl T → 0 < buffer_count T (piece T d).buffer
buffer_pos {rank} {fl} {T} d h S = omega (arith, S.lain (piece T d).buffer, lying_at T d h)

-- the last reference to a piece goes: the piece is zeroed, and its next is held instead
abbrev pub freed_tables : Tables → ℕ → Tables
freed_tables T d = set_piece_count T d blank (piece T d).buffer (buffer_count T (piece T d).buffer - 1)

pub free_move : {rank : ℕ → ℕ} {fl : List ℕ} {T : Tables} (d : ℕ) → (piece T d).count ≡ 1
    → SoundBy rank (suc d ∷ fl) T → SoundBy rank ((piece T d).next ∷ fl) (freed_tables T d)
free_move {rank} {fl} {T} d h S =
    let pos : 0 < (piece T d).count = omega arith in
    let b = (piece T d).buffer in
    let k = buffer_pos d pos S in
    let same : lies (piece T d) b ≡ 1 = lies_own (piece T d) pos in
    replace S (record {
      there = used_in_range_lem T d pos;
      others = λ x e. omega (arith, hit_other d x e);
      itself = omega (arith, hit_same d);
      buffers = by_place T.counts b (buffer_count T b - 1) 0 (in_range T.counts 0 (λ n. n) b refl k)
          (λ n x. n + lies (piece T d) x ≡ buffer_count T x + 0)
          (omega arith)
          (λ x e. omega (arith, lies_other (piece T d) x pos e));
      p_empty = λ e. refl;
      p_fits = λ l. absurd (omega arith);
      old_falls = λ x e _. S.falls x e;
      p_falls = λ e z. absurd (omega arith);
    })

-- ---- a new rank for a piece that no piece has for its next

abbrev pub over : (ℕ → ℕ) → ℕ → ℕ → ℕ → ℕ
over rank i v x = whether eqb x i then v else rank x

over_same : (rank : ℕ → ℕ) (i v : ℕ) → over rank i v i ≡ v
over_same rank i v = if_T (eqb i i) v (rank i) (eqb_refl i)

over_other : (rank : ℕ → ℕ) (i v x : ℕ) → x ≢ i → over rank i v x ≡ rank x
over_other rank i v x h = if_F (eqb x i) v (rank x) (λ t. h (eqb→eq x i t))

abbrev pub rank_of : (ℕ → ℕ) → ℕ → ℕ
rank_of rank zero = 0
rank_of rank (suc e) = rank e

abbrev pub above : (ℕ → ℕ) → ℕ → ℕ → ℕ → ℕ
above rank i n = over rank i (suc (rank_of rank n))

above_old : (rank : ℕ → ℕ) (T : Tables) (i n : ℕ) → ((d e : ℕ) → (piece T d).next ≡ suc e → rank e < rank d) → links T i ≡ 0
    → (d e : ℕ) → d ≢ i → (piece T d).next ≡ suc e → above rank i n e < above rank i n d
above_old rank T i n f z d e h k =
    let ne : e ≢ i = λ x. (let q = links_at T d i (k ∙ ap suc x) in omega arith) in
    omega (arith, over_other rank i (suc (rank_of rank n)) e ne, over_other rank i (suc (rank_of rank n)) d h, f d e k)

above_new : (rank : ℕ → ℕ) (i n : ℕ) → hit n i ≡ 0 → (e : ℕ) → n ≡ suc e → above rank i n e < above rank i n i
above_new rank i n z e k =
    let ne : e ≢ i = λ x. (let q : hit n i ≡ 1 = ap (λ m. hit m i) (k ∙ ap suc x) ∙ hit_same i in omega arith) in
    let r : rank_of rank n ≡ rank e = ap (rank_of rank) k in
    omega (arith, over_other rank i (suc (rank_of rank n)) e ne, over_same rank i (suc (rank_of rank n)))

-- a free piece is taken: it uses up a held reference to its next, and is held
pub take_move : {rank : ℕ → ℕ} {fl : List ℕ} {T : Tables} (i : ℕ) (p : Piece) → i < length T.pieces → (piece T i).count ≡ 0
    → p.count ≡ 1 → p.buffer < length T.counts → Fits T.stock p
    → SoundBy rank (p.next ∷ fl) T → SoundBy (above rank i p.next) (suc i ∷ fl) (taken T i p)
take_move {rank} {fl} {T} i p l z one bl ft S =
    let pos : 0 < p.count = omega arith in
    let was : piece T i ≡ blank = S.empty i z in
    let n0 : (piece T i).next ≡ 0 = ap (λ (q : Piece). q.next) was in
    let hn : (x : ℕ) → hit (piece T i).next x ≡ 0 = λ x. ap (λ m. hit m x) n0 in
    let hb : (b : ℕ) → lies (piece T i) b ≡ 0 = λ b. ap (λ q. lies q b) was in
    let cnt = S.counted i in
    replace S (record {
      there = l;
      others = λ x e. omega (arith, hit_other i x e, hn x);
      itself = omega (arith, hit_same i, hn i);
      buffers = by_place T.counts p.buffer _ 0 bl
          (λ n x. n + lies (piece T i) x ≡ buffer_count T x + lies p x)
          (omega (arith, hb p.buffer, lies_own p pos))
          (λ x e. omega (arith, hb x, lies_other p x pos e));
      p_empty = λ e. absurd (omega arith);
      p_fits = λ _. ft;
      old_falls = above_old rank T i p.next S.falls (omega arith);
      p_falls = above_new rank i p.next (omega arith);
    })

-- a held piece of count 1 takes another next, a held reference, and its old next is held instead
pub relink_move : {rank : ℕ → ℕ} {fl : List ℕ} {T : Tables} (i n : ℕ) → (piece T i).count ≡ 1
    → SoundBy rank (suc i ∷ n ∷ fl) T → SoundBy (above rank i n) (suc i ∷ (piece T i).next ∷ fl) (set_piece T i (with_next (piece T i) n))
relink_move {rank} {fl} {T} i n one S =
    let pos : 0 < (piece T i).count = omega arith in
    let cnt = S.counted i in
    let hs = hit_same i in
    replace S (record {
      there = used_in_range_lem T i pos;
      others = λ x e. omega arith;
      itself = omega arith;
      buffers = λ b. refl;
      p_empty = λ e. absurd (omega arith);
      p_fits = λ l. record { some_bytes = (S.fits i pos).some_bytes; inside = (S.fits i pos).inside };
      old_falls = above_old rank T i n S.falls (omega arith);
      p_falls = above_new rank i n (omega arith);
    })

-- a piece in use is trimmed where it lies
pub trim_move : {rank : ℕ → ℕ} {fl : List ℕ} {T : Tables} (i : ℕ) (off len : ℕ) → 0 < (piece T i).count → 1 ≤ len → off + len ≤ size_of T.stock (piece T i).buffer
    → SoundBy rank fl T
    → SoundBy rank fl (set_piece T i (with_place (piece T i) off len))
trim_move {rank} {fl} {T} i off len pos h1 h2 S = replace S (record {
  there = used_in_range_lem T i pos;
  others = λ x e. refl;
  itself = refl;
  buffers = λ b. refl;
  p_empty = λ e. absurd (omega arith);
  p_fits = λ l. record { some_bytes = h1; inside = h2 };
  old_falls = λ x e _. S.falls x e;
  p_falls = S.falls i;
})
