-- How large the entries of sound tables are, and how long a chain. Assumes nothing.
use mathlib.Core.Path.{◌≡◌, refl, ap}
use mathlib.Core.Bool.{◌&&◌}
use mathlib.Core.List.{List, [], ◌∷◌}
use Prim.Native.Nat.{ℕ, zero, suc, ◌+◌, ◌*◌, ◌≤◌, ◌<◌, pred}
use native.Mathlib.Decide.{ℕ_discrete}
use native.Mathlib.Omega.{arith}
use lib.ListN.{length}
use lib.Dec.{eqb}
use Rattle.kinds.specs.Sizes.{largest}
use Rattle.kinds.proofs.Sizes.{size_most}
use Rattle.rules.specs.Tables.{Piece, Tables, blank, slip, piece, buffer_count, head_of, slip_total, piece_total, buffer_total}
use Rattle.rules.specs.Chain.{Stretch, chain, spans, total, length_of}
use Rattle.rules.specs.Sound.{in_use, leads, heads, lying}
use Rattle.rules.proofs.Logic.{bit_one}
use Rattle.rules.proofs.Sums.{sum_to_ones}
use Rattle.rules.proofs.Moves.{hit, lies, links, SoundNow, in_range, used_in_range_lem, buffer_pos}
use Rattle.rules.proofs.Rank.{next_pos, head_pos}
use Rattle.rules.proofs.Build.{Good}
use Rattle.rules.proofs.Chain.{spans_good}
use Rattle.rules.proofs.Hang.{stretches_length}
use Rattle.rules.proofs.Overlaps.{walk_short}

-- ---- entries

pub record Small (T : Tables) : Type 0 where
  pub counts_small : (d : ℕ) → (piece T d).count ≤ piece_total T + slip_total T
  pub buffer_counts_small : (b : ℕ) → buffer_count T b ≤ piece_total T
  pub slips_small : (s : ℕ) → slip T s ≤ piece_total T + 1
  pub nexts_small : (d : ℕ) → (piece T d).next ≤ piece_total T
  pub buffers_small : (d : ℕ) → (piece T d).buffer ≤ buffer_total T
  pub places_small : (d : ℕ) → (piece T d).offset + (piece T d).len ≤ largest

link_small : (T : Tables) (n : ℕ) → ((d : ℕ) → n ≡ suc d → 0 < (piece T d).count) → n ≤ piece_total T
link_small T zero h = omega arith
link_small T (suc d) h = used_in_range_lem T d (h d refl)

entry_small : (v P : ℕ) → pred v ≤ P → v ≤ P + 1
entry_small v P h = omega arith

pub small : (T : Tables) → SoundNow T → Small T
unfolding heads links lying
small T (rank, S) =
    let P = piece_total T in
    let free : (d : ℕ) (f : Piece → ℕ) (n : ℕ) → f blank ≡ 0 → (0 < (piece T d).count → f (piece T d) ≤ n) → f (piece T d) ≤ n = λ d f n z h.
    elim (ℕ_discrete (piece T d).count 0) [ yes e ↦ omega (arith, ap f (S.empty d e)) | no e ↦ h (omega arith) ] in
    record {
      counts_small = λ d. omega (
        arith,
        S.counted d,
        sum_to_ones (slip_total T) (λ s. hit (head_of T s) d) (λ s. bit_one (leads (head_of T s) d)),
        sum_to_ones P (λ c. hit (piece T c).next d) (λ c. bit_one (leads (piece T c).next d)),
      );
      buffer_counts_small = λ b. omega (arith, S.lain b, sum_to_ones P (λ c. lies (piece T c) b) (λ c. bit_one (in_use (piece T c) && eqb (piece T c).buffer b)));
      slips_small = λ s. entry_small (slip T s) P (link_small T (head_of T s) (λ d h. head_pos s d S h));
      nexts_small = λ d. link_small T (piece T d).next (λ e h. next_pos d e S h);
      buffers_small = λ d. free d (λ q. q.buffer) (buffer_total T) refl (λ u. omega (arith, in_range T.counts 0 (λ n. n) (piece T d).buffer refl (buffer_pos d u S)));
      places_small = λ d. free d (λ q. q.offset + q.len) largest refl (λ u. omega (arith, (S.fits d u).inside, size_most T.stock (piece T d).buffer));
    }

-- ---- chains: at most P pieces, each of at most a buffer's bytes

pub chain_short : (T : Tables) (s : ℕ) → length (chain T s) ≤ piece_total T
chain_short T s = walk_short (piece_total T) (head_of T s) T

pub total_small : (Z : List ℕ) (B : ℕ) (xs : List Stretch) → Good Z B xs → total xs ≤ largest * length xs
unfolding total
total_small Z B [] g = omega arith
total_small Z B (x ∷ xs) g = omega (arith, g.2, size_most Z x.buffer, total_small Z B xs g.3)

pub chain_bytes : (T : Tables) (s : ℕ) → SoundNow T → length_of T s ≤ largest * piece_total T
chain_bytes T s S = omega (arith, total_small T.stock (buffer_total T) (spans T s) (spans_good T s S), stretches_length T (chain T s), chain_short T s)
