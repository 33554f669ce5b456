-- A rank that falls along every next can be had below P: the number of pieces of a lower rank. Assumes nothing.
use mathlib.Core.Path.{◌≡◌, subst}
use mathlib.Core.List.{List}
use Prim.Native.Nat.{ℕ, suc, ◌≤◌, ◌<◌}
use native.Mathlib.Decide.{dec_lt}
use native.Mathlib.Omega.{arith}
use lib.ListN.{length}
use lib.Dec.{ltb, ltb→lt, lt→ltb}
use Rattle.rules.specs.Basics.{bit, sum_to}
use Rattle.rules.specs.Tables.{Tables, piece, head_of}
use Rattle.rules.proofs.Logic.{bit_T, bit_F, bit_one}
use Rattle.rules.proofs.Sums.{sum_to_lt, sum_to_one}
use Rattle.rules.proofs.Moves.{SoundBy, links_at, heads_at, used_in_range_lem}

less : ℕ → ℕ → ℕ
less m n = bit (ltb m n)

less_yes : (m n : ℕ) → m < n → less m n ≡ 1
unfolding less
less_yes m n h = bit_T (ltb m n) (lt→ltb m n h)

less_no : (m n : ℕ) → n ≤ m → less m n ≡ 0
unfolding less
less_no m n h = bit_F (ltb m n) (λ t. (let l = ltb→lt m n t in omega arith))

less_mono : (m n k : ℕ) → n ≤ k → less m n ≤ less m k
less_mono m n k h =
    elim (dec_lt m n) [
      | yes l ↦ omega (arith, less_yes m n l, less_yes m k (omega arith))
      | no l ↦ omega (arith, less_no m n (omega arith))
    ]

pub low : ℕ → (ℕ → ℕ) → ℕ → ℕ
low P rank d = sum_to P (λ e. less (rank e) (rank d))

pub low_falls : (P : ℕ) (rank : ℕ → ℕ) (e d : ℕ) → e < P → rank e < rank d → low P rank e < low P rank d
unfolding low
low_falls P rank e d l h =
    sum_to_lt P e (λ x. less (rank x) (rank e)) (λ x. less (rank x) (rank d)) l
    (omega (arith, less_yes (rank e) (rank d) h, less_no (rank e) (rank e) (omega arith)))
    (λ x. less_mono (rank x) (rank e) (rank d) (omega arith))

pub low_below : (P : ℕ) (rank : ℕ → ℕ) (d : ℕ) → d < P → low P rank d < P
unfolding low less
low_below P rank d l =
    subst (λ n. sum_to P (λ x. less (rank x) (rank d)) < n) (sum_to_one P)
    (sum_to_lt P d (λ x. less (rank x) (rank d)) (λ x. 1) l (omega (arith, less_no (rank d) (rank d) (omega arith))) (λ x. bit_one (ltb (rank x) (rank d))))

pub next_pos : {rank : ℕ → ℕ} {fl : List ℕ} {T : Tables} (d e : ℕ) → SoundBy rank fl T → (piece T d).next ≡ suc e → 0 < (piece T e).count
next_pos {rank} {fl} {T} d e S h = omega (arith, S.counted e, links_at T d e h)

pub lower_rank : {rank : ℕ → ℕ} {fl : List ℕ} {T : Tables} → SoundBy rank fl T → SoundBy (low (length T.pieces) rank) fl T
lower_rank {rank} {fl} {T} S = record {
  counted = S.counted;
  lain = S.lain;
  empty = S.empty;
  fits = S.fits;
  falls = λ d e h. low_falls (length T.pieces) rank e d (used_in_range_lem T e (next_pos d e S h)) (S.falls d e h);
}

-- the piece that a slip heads, and one that is held, are in use
pub head_pos : {rank : ℕ → ℕ} {fl : List ℕ} {T : Tables} (s d : ℕ) → SoundBy rank fl T → head_of T s ≡ suc d → 0 < (piece T d).count
head_pos {rank} {fl} {T} s d S h = omega (arith, S.counted d, heads_at T s d h)
