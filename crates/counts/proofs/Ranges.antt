-- The audit's parts are the rules' test: where the counts agree, a link in range leads to a piece in use. Assumes nothing.
use mathlib.Core.Path.{◌≡◌, refl}
use mathlib.Core.Logic.{◌≢◌}
use mathlib.Core.Bool.{Bool, true, false, ◌&&◌}
use Prim.Native.Nat.{ℕ, zero, suc, ◌+◌, ◌≤◌, ◌<◌}
use native.Mathlib.Decide.{ℕ_discrete}
use native.Mathlib.Omega.{arith}
use lib.Dec.{ltb, lt→ltb, ltb→lt, eqb, eqb→eq, eqb_refl, le→leb}
use Rattle.kinds.proofs.Sizes.{size_one}
use Rattle.rules.specs.Basics.{Is, bit, all_to, whether◌then◌else◌}
use Rattle.rules.specs.Tables.{Piece, Tables, piece, is_blank, head_of, slip_total, piece_total, buffer_total}
use Rattle.rules.specs.Sound.{in_use, leads, heads, nexts, link_ok, piece_ok, acyclic, sound_tables}
use Rattle.rules.proofs.Logic.{if_T, if_F, and_intro, and_0, and_1, bit_T, is_true, eq→eqb, same_test, all_at}
use Rattle.rules.proofs.Sums.{sum_to_at}
use Rattle.rules.proofs.Moves.{heads_at}
use Rattle.rules.proofs.Bytes.{and_is, eqb_is, leb_is}
use Rattle.counts.specs.Ranges.{link_in_range, piece_in_range, slips_in_range, pieces_in_range, counts_agree, buffers_agree, references_ok}

-- ---- a piece in range

module _ (B P : ℕ) (p : Piece) (t : Is (piece_in_range B P p)) where
  facts : (p.next ≤ P) × (p.count ≢ 0 → p.buffer < B) × (p.count ≡ 0 → p.next ≡ 0)
  facts =
      elim (ℕ_discrete p.count 0) [
        | yes z ↦ (
            let k = simp (and_is, eqb_is) at (rw (if_T (eqb p.count 0) (is_blank p) _ (eq→eqb p.count 0 z)) at t) in
            (omega arith, (λ u. absurd (u z)), λ _. omega arith))
        | no z ↦ (
            let k = simp (and_is, leb_is) at (rw (if_F (eqb p.count 0) (is_blank p) _ (λ e. z (eqb→eq p.count 0 e))) at t) in
            (omega arith, (λ _. omega arith), λ e. absurd (z e)))
      ]

  pub next_in_range : p.next ≤ P
  next_in_range = facts.0

  pub buffer_in_range : p.count ≢ 0 → p.buffer < B
  buffer_in_range = facts.1

  pub free_next : p.count ≡ 0 → p.next ≡ 0
  free_next = facts.2

-- ---- tests on all numbers below n

all_same : (n : ℕ) (f g : ℕ → Bool) → ((i : ℕ) → i < n → f i ≡ g i) → all_to n f ≡ all_to n g
unfolding all_to
all_same zero f g h = refl
all_same (suc n) f g h = rw (h n (omega arith), all_same n f g (λ i l. h i (omega arith)))

-- ---- the tests of slips, pieces, counts, buffers and chains in either order

none : (x y : Bool) → x && (y && false) ≡ false
none true true = refl
none true false = refl
none false y = refl

swapped : (s p x y : Bool) → (s && (p && x)) && y ≡ p && (s && (x && y))
swapped true true x y = refl
swapped true false x y = refl
swapped false true x y = refl
swapped false false x y = refl

reordered : (s p c b a s' p' : Bool) → (Is c → s ≡ s') → (Is c → p ≡ p') → (s && (p && (c && b))) && a ≡ p' && (s' && (c && (b && a)))
reordered s p true b a s' p' f g = rw (f tt, g tt) (swapped s' p' b a)
reordered s p false b a s' p' f g = rw (none s p, none p' s')

module _ (T : Tables) where
  -- a next of a piece in use is counted
  next_counted : (d e : ℕ) → d < piece_total T → 0 < (piece T d).count → (piece T d).next ≡ suc e → 0 < nexts T e
  unfolding nexts
  next_counted d e l u h =
      let f : ℕ → ℕ = λ c. bit (in_use (piece T c) && leads (piece T c).next e) in
      let k : f d ≡ 1 = bit_T _ (and_intro (in_use (piece T d)) _ (lt→ltb 0 (piece T d).count u) (rw h (eqb_refl e))) in
      omega (arith, sum_to_at (piece_total T) d f l)

  -- the piece that the link n leads to is in use
  abbrev Reached : ℕ → Type 0
  Reached n = (e : ℕ) → e < piece_total T → n ≡ suc e → 0 < (piece T e).count

  -- there a link in range is a good one
  link_ok_lem : (n : ℕ) → Reached n → link_in_range (piece_total T) n ≡ link_ok T n
  link_ok_lem zero h = is_true _ (le→leb 0 (piece_total T) (omega arith))
  link_ok_lem (suc d) h =
      let P = piece_total T in
      same_test _ _ (λ t. and_intro (ltb d P) _ t (lt→ltb 0 (piece T d).count (h d (ltb→lt d P t) refl))) (and_0 (ltb d P) _)

  -- and so a piece in range
  piece_ok_lem : (p : Piece) → (0 < p.count → Reached p.next) → piece_in_range (buffer_total T) (piece_total T) p ≡ piece_ok T p
  unfolding whether◌then◌else◌
  piece_ok_lem p h =
      elim (ℕ_discrete p.count 0) [
        | yes z ↦ rw z
        | no z ↦ rw (size_one T.stock p.buffer, link_ok_lem p.next (h (omega arith)))
      ]

  module _ (agree : Is (counts_agree T)) where
    counts_at : (d : ℕ) → d < piece_total T → (piece T d).count ≡ heads T d + nexts T d
    unfolding counts_agree
    counts_at d l = eqb→eq (piece T d).count _ (all_at (piece_total T) (λ d. eqb (piece T d).count (heads T d + nexts T d)) agree d l)

    pieces_same : pieces_in_range T ≡ all_to (piece_total T) (λ d. piece_ok T (piece T d))
    unfolding pieces_in_range
    pieces_same = all_same (piece_total T) _ _ (λ d l. piece_ok_lem (piece T d) (λ u e m q. omega (arith, counts_at e m, next_counted d e l u q)))

    slips_same : slips_in_range T ≡ all_to (slip_total T) (λ s. link_ok T (head_of T s))
    unfolding slips_in_range
    slips_same = all_same (slip_total T) _ _ (λ s l. link_ok_lem (head_of T s) (λ e m q. omega (arith, counts_at e m, heads_at T s e q)))

  parts_sound : references_ok T && acyclic T ≡ sound_tables T
  unfolding references_ok sound_tables counts_agree buffers_agree
  parts_sound = reordered (slips_in_range T) (pieces_in_range T) (counts_agree T) _ _ _ _ slips_same pieces_same

  -- ---- what the ranges give

  pub pieces_linked : pieces_in_range T ≡ true → (e : ℕ) → e < piece_total T → (piece T e).next ≤ piece_total T
  unfolding pieces_in_range
  pieces_linked t e l =
      let s : Is (pieces_in_range T) = rw t tt in
      next_in_range (buffer_total T) (piece_total T) (piece T e) (all_at (piece_total T) _ s e l)

  pub references_pieces : references_ok T ≡ true → pieces_in_range T ≡ true
  unfolding references_ok
  references_pieces q =
      let t : Is (references_ok T) = rw q tt in
      is_true _ (and_0 (pieces_in_range T) _ (and_1 (slips_in_range T) _ t))

  -- ---- the test that fails first decides

  pub references_torn : references_ok T ≡ false → false ≡ sound_tables T
  references_torn q = rw (← parts_sound, q)

  pub references_held : references_ok T ≡ true → acyclic T ≡ sound_tables T
  references_held q = rw (← parts_sound, q)
