-- The most that a sound pool comes to, and a pool that reaches the longest chain. Assumes nothing.
use mathlib.Core.Path.{◌≡◌, refl, sym, ap, subst, ◌∙◌}
use mathlib.Core.List.{List, [], ◌∷◌}
use mathlib.Core.Logic.{◌⊎◌, inl, inr, ⊎_elim}
use Prim.Native.Nat.{ℕ, zero, suc, pred, ◌+◌, ◌*◌, ◌≤◌, ◌<◌}
use native.Mathlib.Decide.{ℕ_discrete, dec_lt}
use native.Mathlib.Omega.{arith}
use lib.ListN.{length, replicate, length-replicate, get_or-eq_default}
use lib.Dec.{eqb→eq}
use Rattle.kinds.specs.declared.Refusal.{Refusal}
use Rattle.kinds.specs.declared.Refusal.TheVariants.{Counts, Torn, Slip, Same, Long, Range, Narrow, Slips, Pieces, Buffers, WireList}
use Rattle.kinds.specs.Limits.{most_pieces, buffer_size}
use Rattle.kinds.proofs.Sizes.{size_one, start_one}
use Rattle.rules.specs.Basics.{Is, sum_to, table}
use Rattle.rules.specs.Tables.{Piece, Tables, blank, piece, slip, serial, buffer_count, piece_total, slip_total, holding}
use Rattle.rules.specs.Bytes.{decode, encode}
use Rattle.rules.specs.Chain.{State, walk, chain, stretches, total, length_of}
use Rattle.rules.specs.Sound.{Lent, lent, sound, heads, lying}
use Rattle.rules.specs.Rule.{Name, name}
use Rattle.rules.specs.Length.{length_call}
use Rattle.rules.specs.Step.{Call, Do, Length, Result, rule, done, step, state_in, after_calls}
use Rattle.rules.specs.Causes.{Cause}
use Rattle.rules.specs.Most.{Most, Longest}
use Rattle.rules.proofs.Sums.{sum_to_same, sum_to_one, sum_to_zero}
use Rattle.rules.proofs.Moves.{hit, lies, links, Fits, SoundNow, hit_same, hit_other, lies_other}
use Rattle.rules.proofs.Audit.{get_d_same, sound_is, sound_now}
use Rattle.rules.proofs.Bounds.{small, chain_short, chain_bytes}
use Rattle.rules.proofs.Bytes.{length_table, get_d_table, decode_encode}
use Rattle.rules.proofs.Step.{Within, within_sized, encode_sound, sound_within, did}
use Rattle.rules.proofs.Causes.{exactly}
use Rattle.rules.proofs.Demand.{calls_sound}

-- ---- the bounds

-- no sound pool goes past them, at any number, in its tables or past their ends
pub most : (m : Lent) → Is (sound m) → Most (decode m.pool)
most m t =
    let T = decode m.pool in
    let h = sound_now m t in
    let c = (sound_within m t).counts in
    let k = small T h in
    record {
      chain_pieces = λ s. omega (arith, chain_short T s);
      chain_bytes = λ s. omega (arith, chain_bytes T s h);
      piece_counts = λ d. omega (arith, k.counts_small d);
      buffer_counts = λ b. omega (arith, k.buffer_counts_small b);
      entries = λ s. omega (arith, k.slips_small s);
      links = λ d. omega (arith, k.nexts_small d);
    }

-- nor does one after any list of calls
pub most_after : (cs : List Call) (m : Lent) → Is (sound m) → Most (decode (after_calls cs m).pool)
most_after cs m t = most (after_calls cs m) (calls_sound cs m t)

-- so no count, no slip's entry and no link outgrows 16 bits
pub most_narrow : {T : Tables} → Most T → (n : ℕ) → ((piece T n).count < 65536) × (buffer_count T n < 65536) × (slip T n < 65536) × ((piece T n).next < 65536)
most_narrow k n = (omega (arith, k.piece_counts n), omega (arith, k.buffer_counts n), omega (arith, k.entries n), omega (arith, k.links n))

-- ---- one slip that holds n pieces, each the whole of one buffer

-- piece d leads to the piece before it
abbrev whole : ℕ → Piece
whole d = record { count = 1; buffer = 0; offset = 0; len = buffer_size; next = d }

-- the slip heads the last piece
long : ℕ → Tables
long n = record { slips = holding n ∷ []; serials = 0 ∷ []; pieces = table n whole; counts = n ∷ []; stock = 1 ∷ [] }

-- of the links up to n none leads to a piece from n on, and one to each below
no_link : (n d : ℕ) → n ≤ d → sum_to (suc n) (λ c. hit c d) ≡ 0
no_link zero d l = refl
no_link (suc n) d l = omega (arith, hit_other n d (omega arith), no_link n d (omega arith))

one_link : (n d : ℕ) → d < n → sum_to (suc n) (λ c. hit c d) ≡ 1
one_link zero d l = absurd (omega arith)
one_link (suc n) d l =
    elim (ℕ_discrete d n) [
      | yes e ↦ omega (arith, ap (hit (suc n)) e, hit_same n, no_link n d (omega arith))
      | no e ↦ omega (arith, hit_other n d e, one_link n d (omega arith))
    ]

module _ (n : ℕ) where
  whole_at : (d : ℕ) → d < n → piece (long n) d ≡ whole d
  unfolding long
  whole_at d l = get_d_table n whole d blank l

  -- the pieces below n are whole, and any other reads as free
  each_piece : (P : ℕ → Piece → Type 0) → ((d : ℕ) → d < n → P d (whole d)) → ((d : ℕ) → n ≤ d → P d blank) → (d : ℕ) → P d (piece (long n) d)
  unfolding long
  each_piece P f g d =
      elim (dec_lt d n) [
        | yes l ↦ subst (P d) (sym (whole_at d l)) (f d l)
        | no l ↦ subst (P d) (sym (get_or-eq_default (table n whole) blank {n = d} (omega (arith, length_table n whole)))) (g d (omega arith))
      ]

  sum_pieces : (f : Piece → ℕ) → sum_to (piece_total (long n)) (λ c. f (piece (long n) c)) ≡ sum_to n (λ c. f (whole c))
  unfolding long
  sum_pieces f = ap (λ k. sum_to k (λ c. f (piece (long n) c))) (length_table n whole) ∙ sum_to_same n _ _ (λ c l. ap f (whole_at c l))

  long_lain : (b : ℕ) → buffer_count (long n) b ≡ lying (long n) b
  unfolding long lying
  long_lain zero = sym (sum_pieces (λ q. lies q 0) ∙ sum_to_one n)
  long_lain (suc b) = sym (sum_pieces (λ q. lies q (suc b)) ∙ sum_to_zero n _ (λ c. lies_other (whole c) (suc b) (omega arith) (omega arith)))

  long_sound : SoundNow (long n)
  unfolding long heads links
  long_sound = (
    λ d. d,
    record {
      counted = each_piece (λ d q. q.count ≡ heads (long n) d + links (long n) d + 0)
          (λ d l. omega (arith, sum_pieces (λ q. hit q.next d), one_link n d l))
          (λ d l. omega (arith, sum_pieces (λ q. hit q.next d), no_link n d l));
      lain = long_lain;
      empty = each_piece (λ d q. q.count ≡ 0 → q ≡ blank) (λ d l z. absurd (omega arith)) (λ d l z. refl);
      fits = each_piece (λ d q. 0 < q.count → Fits (1 ∷ []) q)
          (λ d l u. record { some_bytes = omega arith; inside = omega (arith, size_one (1 ∷ []) 0) })
          (λ d l u. absurd (omega arith));
      falls = each_piece (λ d q. (e : ℕ) → q.next ≡ suc e → e < d) (λ d l e h. omega arith) (λ d l e h. absurd (omega arith));
    },
  )

  -- from the link m on it has m pieces, each of a buffer's bytes
  long_walk : (k m : ℕ) → m ≤ k → m ≤ n → (length (walk k (long n) m) ≡ m) × (total (stretches (long n) (walk k (long n) m)) ≡ buffer_size * m)
  unfolding walk stretches total
  long_walk zero zero a b = (refl, refl)
  long_walk zero (suc d) a b = absurd (omega arith)
  long_walk (suc k) zero a b = (refl, refl)
  long_walk (suc k) (suc d) a b =
      let e = whole_at d b in
      let r = subst (λ x. (length (walk k (long n) x) ≡ d) × (total (stretches (long n) (walk k (long n) x)) ≡ buffer_size * d))
      (sym (ap (λ (q : Piece). q.next) e)) (long_walk k d (omega arith) (omega arith)) in
      omega (arith, ap (λ (q : Piece). q.len) e, r.0, r.1)

  long_within : 1 ≤ n → n ≤ most_pieces → Within (long n) (replicate buffer_size 0)
  unfolding long
  long_within a b = record {
    counts = omega (arith, length_table n whole);
    storage_fits = length-replicate {A = ℕ} buffer_size 0 ∙ sym (start_one (1 ∷ []) 1);
    stock_is = refl;
    serialled = record { small = λ t. omega (arith, get_d_same {A = ℕ} 1 t 0); fit = refl };
  }

  -- as bytes it is a sound pool with a chain of n pieces, and n references to its buffer
  reached : 1 ≤ n → n ≤ most_pieces
      → (m : Lent) × Is (sound m)
      × (length (chain (decode m.pool) 0) ≡ n) × (length_of (decode m.pool) 0 ≡ buffer_size * n) × (buffer_count (decode m.pool) 0 ≡ n)
  unfolding long
  reached a b =
      let w = long_within a b in
      let back = decode_encode (long n) (within_sized long_sound w) in
      let (c, l) = long_walk (piece_total (long n)) n (omega (arith, length_table n whole)) (omega arith) in (
        lent (encode (long n)) (replicate buffer_size 0),
        encode_sound (long n) _ long_sound w,
        ap (λ T. length (chain T 0)) back ∙ c,
        ap (λ T. length_of T 0) back ∙ l,
        ap (λ T. buffer_count T 0) back,
      )

-- The bounds of a chain are reached, and one buffer can have as many references as there are pieces.
pub longest : (m : Lent) × Longest m
longest =
    let (m, t, c, l, b) = reached most_pieces (omega arith) (omega arith) in
    (m, record { is_sound = t; chain_pieces = c; chain_bytes = l; buffer_count_lem = b })

-- No sound pool has a longer chain than that one, or a buffer with more references.
pub longest_of_all : (m n : Lent) → Longest m → Is (sound n) →
    (let T = decode m.pool in
    let U = decode n.pool in
    ((s : ℕ) → (length (chain U s) ≤ length (chain T 0)) × (length_of U s ≤ length_of T 0)) × ((b : ℕ) → buffer_count U b ≤ buffer_count T 0))
longest_of_all m n l t =
    let k = most n t in (
      λ s. (omega (arith, k.chain_pieces s, l.chain_pieces), omega (arith, k.chain_bytes s, l.chain_bytes)),
      λ b. omega (arith, k.buffer_counts b, l.buffer_count_lem),
    )

-- a slip whose chain has a piece is held
heads_some : (T : Tables) (s : ℕ) → 0 < length (chain T s) → 0 < slip T s
unfolding walk
heads_some T s l = elim (ℕ_discrete (slip T s) 0) [ yes z ↦ absurd (omega (arith, none z)) | no z ↦ omega arith ]
  where
    none_met : (k : ℕ) → length (walk k T 0) ≡ 0
    none_met zero = refl
    none_met (suc k) = refl

    none : slip T s ≡ 0 → length (chain T s) ≡ 0
    none z = ap (λ v. length (walk (piece_total T) T (pred v))) z ∙ none_met (piece_total T)

-- length of a held slip 0 with its serial is refused for no cause but a torn pool
length_uncaused : (S : State) (x : Name) → x ≡ name 0 (serial S.tables 0) → 0 < slip S.tables 0 → 0 < slip_total S.tables → (r : Refusal) → Cause r (length_call x) S → ⊥
length_uncaused S x z some few Counts c = c
length_uncaused S x z some few Torn c = c
length_uncaused S x z some few Slip (t, e, inl n) = omega (arith, ap (λ (y : Name). y.slip) (e ∙ z))
length_uncaused S x z some few Slip (t, e, inr (inl v)) =
    omega (arith, eqb→eq (slip S.tables t.slip) 0 v, ap (λ (y : Name). slip S.tables y.slip) (e ∙ z))
length_uncaused S x z some few Slip (t, e, inr (inr n)) =
    n (ap (λ (y : Name). serial S.tables y.slip) (e ∙ z) ∙ sym (ap (λ (y : Name). y.serial) (e ∙ z)))
length_uncaused S x z some few Same (inl c) = c
length_uncaused S x z some few Same (inr i) = elim i [ ]
length_uncaused S x z some few Long c = omega arith
length_uncaused S x z some few Range c = omega arith
length_uncaused S x z some few Narrow c = omega arith
length_uncaused S x z some few Slips c = omega arith
length_uncaused S x z some few Pieces c = omega arith
length_uncaused S x z some few Buffers c = omega arith
length_uncaused S x z some few WireList c = c

-- Asked for its length, slip 0 of that pool, with its serial, is answered 1,048,576.
pub longest_answers : (m : Lent) → Longest m
    → let x = name 0 (serial (decode m.pool) 0) in
    ((step (Do (Length x)) m).code ≡ 0) × ((step (Do (Length x)) m).number ≡ 1048576)
unfolding done rule
longest_answers m l =
    let T = decode m.pool in
    let some = heads_some T 0 (omega (arith, l.chain_pieces)) in
    let few = (sound_within m l.is_sound).counts in
    let good = (sound_is m).0 l.is_sound in
    let x = name 0 (serial T 0) in
    let e = (exactly (Do (Length x)) m).done.1 (λ r c. ⊎_elim (λ (y : _). y.1 good) (length_uncaused (state_in m) x refl some (omega arith) r) c) in
    (e, ap (λ (y : Result). y.number) (did (Length x) m e).result ∙ l.chain_bytes)
