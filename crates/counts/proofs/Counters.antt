-- The counters after each slip and each piece hold what the rules count. Assumes nothing.
use mathlib.Core.Path.{◌≡◌, refl, sym, ap, ◌∙◌}
use mathlib.Core.Logic.{◌≢◌}
use mathlib.Core.Bool.{Bool, true, false, ◌&&◌, false≢true}
use mathlib.Core.List.{List}
use Prim.Native.Nat.{ℕ, zero, suc, ◌+◌, ◌≤◌, ◌<◌}
use native.Mathlib.Decide.{ℕ_discrete, dec_lt}
use native.Mathlib.Numerals.{add-one}
use native.Mathlib.Omega.{arith}
use borrow.Author.Count.{below_more}
use lib.ListN.{length, get_or, length-set, length-replicate, get_or-replicate, get_or-eq_default}
use lib.Seq.{get_or-set_same, get_or-set_other}
use lib.Dec.{lt→ltb, eqb, eqb→eq, leb→le, le→leb}
use Rattle.std.specs.List.{list_all, range_with_len}
use Rattle.kinds.specs.Limits.{most_pieces, most_buffers, most_slips}
use Rattle.rules.specs.Basics.{Is, bit, all_to}
use Rattle.rules.specs.Tables.{Piece, Tables, piece, head_of, slip_total, piece_total, buffer_total}
use Rattle.rules.specs.Bytes.{decode}
use Rattle.rules.specs.Sound.{in_use, leads, heads, nexts, lying}
use Rattle.rules.proofs.Logic.{if_T, if_F, if_either, and_intro, and_0, and_1, bit_one, is_true, is_false, same_test, eq→eqb, all_intro, all_at}
use Rattle.rules.proofs.Sums.{sum_to_ones}
use Rattle.rules.proofs.Moves.{hit, hit_same, hit_other, lies_used}
use Rattle.rules.proofs.Bytes.{decode_slips, decode_pieces, decode_counts}
use Rattle.layout.specs.declared.Shape.{Shape}
use Rattle.counts.specs.Ranges.{piece_in_range, slips_in_range, pieces_in_range}
use Rattle.counts.specs.Counters.{Limited, zeros, tallied, lie_of, Countable, Hold, Cleared, references, heads_to, nexts_to, lying_to}
use Rattle.counts.specs.Counters.{SlipsCounted, PiecesCounted}
use Rattle.counts.proofs.Ranges.{free_next, next_in_range, buffer_in_range}

-- ---- the tables of a pool within the limits

pub record Totals (T : Tables) (h : Shape) : Type 0 where
  pub slips : h.slips ≡ slip_total T
  pub pieces : h.pieces ≡ piece_total T
  pub buffers : h.buffers ≡ buffer_total T
  pub few_slips : slip_total T ≤ most_slips
  pub few_pieces_lem : piece_total T ≤ most_pieces
  pub few_buffers_lem : buffer_total T ≤ most_buffers

pub totals : {p : List ℕ} {h : Shape} → Limited p h → Totals (decode p) h
totals {p} {h} k =
    let s = decode_slips p in
    let d = decode_pieces p in
    let b = decode_counts p in
    let z = k.shaped in
    omega arith

-- ---- one counter goes up

tallied_long : (c : List ℕ) (n : ℕ) → length (tallied c n) ≡ length c
tallied_long c zero = refl
tallied_long c (suc d) = length-set c d _

tallied_at : (c : List ℕ) (n d : ℕ) → n ≤ length c → get_or (tallied c n) d 0 ≡ get_or c d 0 + hit n d
tallied_at c zero d l = omega arith
tallied_at c (suc e) d l =
    elim (ℕ_discrete d e) [
      | yes q ↦ rw q (omega (arith, get_or-set_same c e (get_or c e 0 + 1) 0 l, hit_same e))
      | no q ↦ omega (arith, get_or-set_other c e d (get_or c e 0 + 1) 0 q, hit_other e d q)
    ]

module _ {n : ℕ} {c : List ℕ} {f : ℕ → ℕ} (h : Hold n c f) where
  hold_tallied : (m : ℕ) (g : ℕ → ℕ) → m ≤ n → ((d : ℕ) → g d ≡ f d + hit m d) → Hold n (tallied c m) g
  hold_tallied m g l e = record {
    long = omega (arith, h.long, tallied_long c m);
    each = λ d i. omega (arith, tallied_at c m d (omega (arith, h.long)), h.each d (omega (arith, tallied_long c m)), e d);
  }

  -- no counter holds more than what is counted, and past the last there is none
  hold_below : {m : ℕ} → 0 < m → ((d : ℕ) → f d < m) → (d : ℕ) → get_or c d 0 < m
  hold_below p k d =
      elim (dec_lt d (length c)) [
        | yes l ↦ omega (arith, h.each d l, k d)
        | no l ↦ omega (arith, get_or-eq_default c 0 {n = d} (omega arith))
      ]

  hold_same : (g : ℕ → ℕ) → ((d : ℕ) → g d ≡ f d) → Hold n c g
  hold_same g e = record { long = h.long; each = λ d l. h.each d l ∙ sym (e d) }

  -- counters for n serve for fewer
  pub hold_fewer : {m : ℕ} → m ≤ n → Hold m c f
  hold_fewer l = record { long = omega (arith, h.long); each = h.each }

pub cleared_zeros : (n m : ℕ) → n ≤ m → Cleared n (zeros m)
cleared_zeros n m l =
    let e = length-replicate {A = ℕ} m 0 in
    record { long = omega arith; each = λ d i. get_or-replicate m d 0 0 (omega arith) }

-- ---- the slips

-- the first n slips are in range and counted
pub record SlipsTo (T : Tables) (n : ℕ) (refs : List ℕ) : Type 0 where
  pub ranged : (s : ℕ) → s < n → head_of T s ≤ piece_total T
  pub held : Hold (piece_total T) refs (heads_to T n)

module _ (T : Tables) where
  heads_to_most : (n d : ℕ) → heads_to T n d ≤ n
  unfolding heads_to
  heads_to_most n d = sum_to_ones n (λ s. hit (head_of T s) d) (λ s. bit_one (leads (head_of T s) d))

  heads_to_more : (n d : ℕ) → heads_to T (n + 1) d ≡ heads_to T n d + hit (head_of T n) d
  unfolding heads_to
  heads_to_more n d = rw add-one (omega arith)

  pub slips_start : {h : Shape} → Totals T h → {refs : List ℕ} → Cleared h.pieces refs → SlipsTo T 0 refs
  unfolding heads_to
  slips_start k z = record { ranged = λ s l. absurd (omega arith); held = hold_same (hold_fewer z (omega arith)) (heads_to T 0) (λ d. refl) }

  module _ {n : ℕ} {refs : List ℕ} (v : SlipsTo T n refs) where
    pub slips_room : n ≤ most_slips → Countable refs
    slips_room l = hold_below v.held (omega arith) (λ d. omega (arith, heads_to_most n d))

    pub slips_on : {m : ℕ} {refs' : List ℕ} → m ≡ head_of T n → m ≤ piece_total T → refs' ≡ tallied refs m → SlipsTo T (n + 1) refs'
    slips_on {m} {refs'} q l e =
        let x : head_of T n ≤ piece_total T = omega arith in
        rw (e, q) (record { ranged = below_more _ n v.ranged x; held = hold_tallied v.held _ _ x (heads_to_more n) })

    pub slips_end : n ≡ slip_total T → SlipsCounted T true refs
    unfolding slips_in_range heads heads_to
    slips_end e =
        record { exact = sym (is_true _ (all_intro (slip_total T) _ (λ s x. le→leb _ _ (v.ranged s (omega arith))))); held = λ _. rw e at v.held }

  pub slips_torn : {m : ℕ} {refs : List ℕ} (n : ℕ) → n < slip_total T → m ≡ head_of T n → piece_total T < m → SlipsCounted T false refs
  unfolding slips_in_range
  slips_torn n l q k = record {
    exact = sym (is_false _ (λ t. omega (arith, leb→le _ _ (all_at (slip_total T) _ t n l))));
    held = λ e. absurd (false≢true e);
  }

-- ---- the pieces

-- the first n pieces are in range, and their nexts and buffers counted
pub record PiecesTo (T : Tables) (n : ℕ) (refs lies : List ℕ) : Type 0 where
  pub ranged : (d : ℕ) → d < n → Is (piece_in_range (buffer_total T) (piece_total T) (piece T d))
  pub references : Hold (piece_total T) refs (λ d. heads T d + nexts_to T n d)
  pub laid : Hold (buffer_total T) lies (lying_to T n)

-- a piece in range counts where its next leads, a free one nowhere
next_hit : (B P : ℕ) (p : Piece) → Is (piece_in_range B P p) → (d : ℕ) → bit (in_use p && leads p.next d) ≡ hit p.next d
next_hit B P p t d =
    elim (ℕ_discrete p.count 0) [
      | yes z ↦ rw (free_next B P p t z, z)
      | no z ↦ ap (λ (x : Bool). bit (x && leads p.next d)) (is_true (in_use p) (lt→ltb 0 p.count (omega arith)))
    ]

lie_free : (p : Piece) → p.count ≡ 0 → lie_of p ≡ 0
lie_free p z = if_T (eqb p.count 0) 0 (suc p.buffer) (eq→eqb p.count 0 z)

lie_used : (p : Piece) → p.count ≢ 0 → lie_of p ≡ suc p.buffer
lie_used p u = if_F (eqb p.count 0) 0 (suc p.buffer) (λ t. u (eqb→eq p.count 0 t))

-- a piece in use counts on its buffer, a free one nowhere
lie_hit : (p : Piece) (b : ℕ) → bit (in_use p && eqb p.buffer b) ≡ hit (lie_of p) b
lie_hit p b =
    elim (ℕ_discrete p.count 0) [
      | yes z ↦ rw (lie_free p z, z)
      | no z ↦ rw (lie_used p z) (lies_used p b (omega arith))
    ]

-- a piece in range counts where there are counters
entry_fits : (B P : ℕ) (p : Piece) → Is (piece_in_range B P p) → (p.next ≤ P) × (lie_of p ≤ B)
entry_fits B P p t = (
  next_in_range B P p t,
  if_either (λ x. x ≤ B) (eqb p.count 0) 0 (suc p.buffer) (λ z. omega arith) (λ z. buffer_in_range B P p t (λ q. z (eq→eqb p.count 0 q))),
)

module _ (T : Tables) where
  heads_most : (d : ℕ) → heads T d ≤ slip_total T
  unfolding heads
  heads_most d = sum_to_ones (slip_total T) (λ s. hit (head_of T s) d) (λ s. bit_one (leads (head_of T s) d))

  nexts_to_most : (n d : ℕ) → nexts_to T n d ≤ n
  unfolding nexts_to
  nexts_to_most n d = sum_to_ones n (λ c. bit (in_use (piece T c) && leads (piece T c).next d)) (λ c. bit_one (in_use (piece T c) && leads (piece T c).next d))

  lying_to_most : (n b : ℕ) → lying_to T n b ≤ n
  unfolding lying_to
  lying_to_most n b = sum_to_ones n (λ c. bit (in_use (piece T c) && eqb (piece T c).buffer b)) (λ c. bit_one (in_use (piece T c) && eqb (piece T c).buffer b))

  nexts_to_more : (n d : ℕ) → Is (piece_in_range (buffer_total T) (piece_total T) (piece T n)) → nexts_to T (n + 1) d ≡ nexts_to T n d + hit (piece T n).next d
  unfolding nexts_to
  nexts_to_more n d t = rw add-one (omega (arith, next_hit (buffer_total T) (piece_total T) (piece T n) t d))

  lying_to_more : (n b : ℕ) → lying_to T (n + 1) b ≡ lying_to T n b + hit (lie_of (piece T n)) b
  unfolding lying_to
  lying_to_more n b = rw add-one (omega (arith, lie_hit (piece T n) b))

  -- what refers to a piece is at most every slip and every piece
  pub references_most : (d : ℕ) → references T d ≤ slip_total T + piece_total T
  unfolding nexts nexts_to
  references_most d = omega (arith, heads_most d, nexts_to_most (piece_total T) d)

  pub pieces_start : {h : Shape} → Totals T h → {refs lies : List ℕ} → Hold h.pieces refs (heads T) → Cleared h.buffers lies → PiecesTo T 0 refs lies
  unfolding nexts_to lying_to
  pieces_start k r z = record {
    ranged = λ d l. absurd (omega arith);
    references = hold_same (hold_fewer r (omega arith)) _ (λ d. omega arith);
    laid = hold_same (hold_fewer z (omega arith)) (lying_to T 0) (λ d. refl);
  }

  module _ {h : Shape} (k : Totals T h) {n : ℕ} (l : n < h.pieces) {p : Piece} (e : p ≡ piece T n) {r : Bool} (q : r ≡ piece_in_range h.buffers h.pieces p) where
    ranged : {b : Bool} → r ≡ b → piece_in_range (buffer_total T) (piece_total T) (piece T n) ≡ b
    ranged x = rw (← k.buffers, ← k.pieces, ← e) (sym q ∙ x)

    pub pieces_torn : {refs lies : List ℕ} → r ≡ false → PiecesCounted T false refs lies
    unfolding pieces_in_range
    pieces_torn x =
        let m : n < piece_total T = omega arith in
        record {
          exact = sym (is_false _ (λ t. rw (ranged x) at (all_at (piece_total T) (λ d. piece_in_range (buffer_total T) (piece_total T) (piece T d)) t n m)));
          references = λ y. absurd (false≢true y);
          laid = λ y. absurd (false≢true y);
        }

    module _ (x : r ≡ true) {refs lies : List ℕ} (v : PiecesTo T n refs lies) where
      in_range : Is (piece_in_range (buffer_total T) (piece_total T) (piece T n))
      in_range = rw (ranged x) tt

      fits : ((piece T n).next ≤ piece_total T) × (lie_of (piece T n) ≤ buffer_total T)
      fits = entry_fits (buffer_total T) (piece_total T) (piece T n) in_range

      -- there are counters for what it refers to, and room in them
      pub pieces_fit : (p.next ≤ length refs) × (lie_of p ≤ length lies) × Countable refs × Countable lies
      pieces_fit = (
        rw e (omega (arith, fits.0, v.references.long)),
        rw e (omega (arith, fits.1, v.laid.long)),
        hold_below v.references (omega arith) (λ d. omega (arith, heads_most d, nexts_to_most n d)),
        hold_below v.laid (omega arith) (λ b. omega (arith, lying_to_most n b)),
      )

      pub pieces_on : {refs' lies' : List ℕ} → refs' ≡ tallied refs p.next → lies' ≡ tallied lies (lie_of p) → PiecesTo T (n + 1) refs' lies'
      pieces_on f g =
          rw (f, g, e) (record {
            ranged = below_more _ n v.ranged in_range;
            references = hold_tallied v.references _ _ fits.0 (λ d. omega (arith, nexts_to_more n d in_range));
            laid = hold_tallied v.laid _ _ fits.1 (lying_to_more n);
          })

  pub pieces_end : {n : ℕ} {refs lies : List ℕ} → PiecesTo T n refs lies → n ≡ piece_total T → PiecesCounted T true refs lies
  unfolding pieces_in_range nexts nexts_to lying lying_to
  pieces_end v e = record {
    exact = sym (is_true _ (all_intro (piece_total T) _ (λ d x. v.ranged d (omega arith))));
    references = λ _. rw e at v.references;
    laid = λ _. rw e at v.laid;
  }

-- ---- stored counts g against counters that hold f

-- what `all` asks of the n numbers from a on
module _ (f : ℕ → Bool) where
  all_from : (a n : ℕ) → Is (list_all f (range_with_len a n)) → (i : ℕ) → a ≤ i → i < a + n → Is (f i)
  all_from a zero t i l m = absurd (omega arith)
  all_from a (suc n) t i l m =
      elim (ℕ_discrete i a) [ yes e ↦ rw e (and_0 (f a) _ t) | no e ↦ all_from (a + 1) n (and_1 (f a) _ t) i (omega arith) (omega arith) ]

  all_on : (a n : ℕ) → ((i : ℕ) → a ≤ i → i < a + n → Is (f i)) → Is (list_all f (range_with_len a n))
  all_on a zero h = tt
  all_on a (suc n) h = and_intro (f a) _ (h a (omega arith) (omega arith)) (all_on (a + 1) n (λ i l m. h i (omega arith) (omega arith)))

pub agree : {n N : ℕ} {c : List ℕ} {f : ℕ → ℕ} (g : ℕ → ℕ) → Hold n c f → n ≡ N
    → list_all (λ d. eqb (g d) (get_or c d 0)) (range_with_len 0 n) ≡ all_to N (λ d. eqb (g d) (f d))
agree {n} {N} {c} {f} g h e =
    let held : (d : ℕ) → d < N → get_or c d 0 ≡ f d = λ d l. h.each d (omega (arith, h.long)) in
    same_test _ _
    (λ t. all_intro N _ (λ d l. rw (held d l) at (all_from _ 0 n t d (omega arith) (omega arith))))
    (λ t. all_on _ 0 n (λ d _ l. let m : d < N = omega arith in rw (held d m) (all_at N _ t d m)))
