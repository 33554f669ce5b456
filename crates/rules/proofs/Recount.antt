-- In sound tables every chain ends, and the recount of demand 3 agrees with the stored counts. Assumes nothing.
use mathlib.Core.Path.{◌≡◌, refl, sym, ap, subst, ◌∙◌}
use mathlib.Core.Logic.{◌↔◌, ⊎_elim}
use mathlib.Core.Bool.{Bool, true, false, not, ◌&&◌}
use mathlib.Core.List.{[]}
use Prim.Native.Nat.{ℕ, zero, suc, ◌+◌, ◌≤◌, ◌<◌}
use native.Mathlib.Decide.{ℕ_discrete}
use native.Mathlib.Omega.{arith}
use lib.Dec.{eqb, eqb→eq, eqb_refl, eqb-suc-zero, ltb, ltb→lt, lt→ltb}
use Rattle.rules.specs.Basics.{Is, bit, member}
use Rattle.rules.specs.Tables.{Piece, Tables, blank, is_blank, piece, buffer_count, head_of, serial, slip_total, piece_total, buffer_total, with_count, with_both}
use Rattle.rules.specs.Chain.{follow, walk, chain}
use Rattle.rules.specs.Sound.{in_use, leads, heads, nexts, lying}
use Rattle.rules.specs.Room.{is_vacant, is_ready, is_free, is_unheld}
use Rattle.rules.specs.Rule.{spare, room}
use Rattle.rules.specs.Recount.{Reached, headed, after, reached, references, holders, recounted, leaves, Recount}
use Rattle.rules.proofs.Logic.{and_0, or_cases, or_left, or_right, is_true, same_test, any_intro, any_at, bit_T, bit_F, table_is}
use Rattle.rules.proofs.Sums.{sum_to_same, sum_to_pos, sum_to_one, sum_to_both}
use Rattle.rules.proofs.Moves.{hit, links, SoundBy, SoundNow, hit_pos, used_in_range_lem}
use Rattle.rules.proofs.Rank.{low_below, lower_rank, next_pos, head_pos}
use Rattle.rules.proofs.Room.{places_count_0}
use Rattle.rules.proofs.Audit.{ends_within, met_once, nexts_links}

-- ---- chains end: from a link to a piece in use, and from a slip's head

pub ends_by : (T : Tables) → SoundNow T → (n : ℕ) → ((d : ℕ) → n ≡ suc d → 0 < (piece T d).count) → follow T (piece_total T) n ≡ 0
ends_by T (rank, S) n h =
    let P = piece_total T in
    ends_within T (lower_rank S).falls P n (λ d q. low_below P rank d (used_in_range_lem T d (h d q)))

pub head_ends : (T : Tables) → SoundNow T → (s : ℕ) → follow T (piece_total T) (head_of T s) ≡ 0
head_ends T S s = ends_by T S (head_of T s) (λ d h. head_pos s d S.1 h)

-- ---- the pieces reached are those in use

met_used : {rank : ℕ → ℕ} {T : Tables} (d : ℕ) → SoundBy rank [] T → Reached T d → 0 < (piece T d).count
met_used d S (headed s l h) = head_pos s d S h
met_used d S (after c r h) = next_pos c d S h

used_of_next : {rank : ℕ → ℕ} {T : Tables} (c d : ℕ) → SoundBy rank [] T → (piece T c).next ≡ suc d → 0 < (piece T c).count
used_of_next {rank} {T} c d S h =
    elim (ℕ_discrete (piece T c).count 0) [ yes e ↦ absurd (omega (arith, ap (λ (q : Piece). q.next) (S.empty c e))) | no e ↦ omega arith ]

used_met : (P k : ℕ) {rank : ℕ → ℕ} {T : Tables} (d : ℕ) → SoundBy rank [] T → ((x : ℕ) → 0 < (piece T x).count → rank x < P) → P ≤ k + rank d → 0 < (piece T d).count → Reached T d
unfolding heads links
used_met P zero d S below h u = absurd (omega (arith, below d u))
used_met P (suc k) {rank} {T} d S below h u =
    elim (ℕ_discrete (heads T d) 0) [
      | no e ↦ (let (s, l, k) = sum_to_pos (slip_total T) (λ s. hit (head_of T s) d) (omega arith) in headed s l (hit_pos (head_of T s) d k))
      | yes e ↦ (
          let (c, l, i) = sum_to_pos (piece_total T) (λ c. hit (piece T c).next d) (omega (arith, S.counted d)) in
          let n = hit_pos (piece T c).next d i in
          after c (used_met P k c S below (omega (arith, S.falls c d n)) (used_of_next c d S n)) n)
    ]

pub reached_used : (T : Tables) → SoundNow T → (d : ℕ) → Reached T d ↔ (0 < (piece T d).count)
reached_used T (rank, S) d =
    let P = piece_total T in
    (met_used d S, used_met P P d (lower_rank S) (λ x u. low_below P rank x (used_in_range_lem T x u)) (omega arith))

-- ---- a slip's chain is the whole of what is reached from it

walk_reached : (k n d : ℕ) (T : Tables) → ((x : ℕ) → n ≡ suc x → Reached T x) → Is (member d (walk k T n)) → Reached T d
unfolding walk member
walk_reached zero n d T h t = absurd t
walk_reached (suc k) zero d T h t = absurd t
walk_reached (suc k) (suc x) d T h t =
    ⊎_elim (λ e. subst (Reached T) (eqb→eq x d e) (h x refl)) (walk_reached k (piece T x).next d T (λ y q. after x (h x refl) q)) (or_cases (eqb x d) (member d (walk k T (piece T x).next)) t)

walk_first : (k d : ℕ) (T : Tables) → follow T k (suc d) ≡ 0 → Is (member d (walk k T (suc d)))
unfolding walk member follow
walk_first zero d T e = absurd (omega arith)
walk_first (suc k) d T e = or_left (eqb d d) (member d (walk k T (piece T d).next)) (eqb_refl d)

walk_next : (k n c d : ℕ) (T : Tables) → follow T k n ≡ 0 → Is (member c (walk k T n)) → (piece T c).next ≡ suc d → Is (member d (walk k T n))
unfolding walk member follow
walk_next zero n c d T e t h = absurd t
walk_next (suc k) zero c d T e t h = absurd t
walk_next (suc k) (suc x) c d T e t h =
    or_right (eqb x d) (member d (walk k T (piece T x).next))
    (⊎_elim (λ q. (
    let y : (piece T x).next ≡ suc d = ap (λ z. (piece T z).next) (eqb→eq x c q) ∙ h in
    subst (λ m. Is (member d (walk k T m))) (sym y) (walk_first k d T (subst (λ m. follow T k m ≡ 0) y e))))
    (λ q. walk_next k (piece T x).next c d T e q h)
    (or_cases (eqb x c) (member c (walk k T (piece T x).next)) t))

-- every slip's chain ends within P pieces
abbrev pub AllEnd : Tables → Type 0
AllEnd T = (s : ℕ) → follow T (piece_total T) (head_of T s) ≡ 0

in_chain : (T : Tables) → AllEnd T → {d : ℕ} → Reached T d → (s : ℕ) × (s < slip_total T) × Is (member d (chain T s))
in_chain T S {d} (headed s l h) =
    (s, l, subst (λ n. Is (member d (walk (piece_total T) T n))) (sym h) (walk_first (piece_total T) d T (subst (λ n. follow T (piece_total T) n ≡ 0) h (S s))))
in_chain T S {d} (after c r h) =
    let (s, l, t) = in_chain T S r in
    (s, l, walk_next (piece_total T) (head_of T s) c d T (S s) t h)

pub reached_by : (T : Tables) → AllEnd T → (d : ℕ) → Is (reached T d) ↔ Reached T d
unfolding reached
reached_by T S d = (
  λ t. (let (s, l, m) = any_at (slip_total T) (λ s. member d (chain T s)) t in walk_reached (piece_total T) (head_of T s) d T (λ x q. headed s l q) m),
  λ r. (let (s, l, m) = in_chain T S r in any_intro (slip_total T) (λ s. member d (chain T s)) s l m),
)

pub reached_is : (T : Tables) → SoundNow T → (d : ℕ) → Is (reached T d) ↔ Reached T d
reached_is T S = reached_by T (head_ends T S)

-- ---- so what is counted over the pieces reached is what is counted over those in use

pub reached_same : (T : Tables) → SoundNow T → (d : ℕ) → reached T d ≡ in_use (piece T d)
reached_same T S d =
    same_test (reached T d) (in_use (piece T d))
    (λ t. lt→ltb 0 (piece T d).count ((reached_used T S d).0 ((reached_is T S d).0 t)))
    (λ t. (reached_is T S d).1 ((reached_used T S d).1 (ltb→lt 0 (piece T d).count t)))

pub references_same : (T : Tables) → SoundNow T → (d : ℕ) → (piece T d).count ≡ references T d
unfolding references nexts
references_same T S d =
    omega (
      arith,
      S.1.counted d,
      nexts_links T S.1.empty d,
      sum_to_same (piece_total T) (λ c. bit (reached T c && leads (piece T c).next d)) (λ c. bit (in_use (piece T c) && leads (piece T c).next d))
          (λ c _. ap (λ (t : Bool). bit (t && leads (piece T c).next d)) (reached_same T S c)),
    )

pub holders_same : (T : Tables) → SoundNow T → (b : ℕ) → buffer_count T b ≡ holders T b
unfolding holders lying
holders_same T S b =
    omega (
      arith,
      S.1.lain b,
      sum_to_same (piece_total T) (λ c. bit (reached T c && eqb (piece T c).buffer b)) (λ c. bit (in_use (piece T c) && eqb (piece T c).buffer b))
          (λ c _. ap (λ (t : Bool). bit (t && eqb (piece T c).buffer b)) (reached_same T S c)),
    )

-- a piece is all zero or in use
blank_or_used : {rank : ℕ → ℕ} {T : Tables} (d : ℕ) → SoundBy rank [] T → bit (is_blank (piece T d)) + bit (in_use (piece T d)) ≡ 1
blank_or_used {rank} {T} d S =
    let p = piece T d in
    elim (ℕ_discrete p.count 0) [
      | yes e ↦ ap (λ (q : Piece). bit (is_blank q) + bit (in_use q)) (S.empty d e)
      | no e ↦
          omega (
            arith,
            bit_T (in_use p) (lt→ltb 0 p.count (omega arith)),
            bit_F (is_blank p) (λ t. e (eqb→eq p.count 0 (and_0 (eqb p.count 0) _ t))),
          )
    ]

pub recount : (T : Tables) → SoundNow T → Recount T
recount T S =
    let P = piece_total T in
    let R = S.1 in
    record {
      reached_is = reached_is T S;
      piece_counts = λ d _. references_same T S d;
      buffer_counts = λ b _. holders_same T S b;
      never_back = λ s e i j _ p q. met_once T R.falls (head_of T s) e i j p q;
      ends = λ s _. head_ends T S s;
      in_stock = λ d r. used_in_range_lem T d (met_used d R r);
      not_both = λ d r e. omega (arith, met_used d R r, ap (λ (q : Piece). q.count) e);
      stock = sum_to_both P (λ d. bit (is_blank (piece T d))) (λ d. bit (reached T d))
          ∙ sum_to_same P (λ d. bit (is_blank (piece T d)) + bit (reached T d)) (λ d. 1)
          (λ d _. ap (λ (t : Bool). bit (is_blank (piece T d)) + bit t) (reached_same T S d) ∙ blank_or_used d R)
          ∙ sum_to_one P;
    }

-- ---- the tables with every count set to the references found are the tables

pub recounted_same : (T : Tables) → SoundNow T → recounted T ≡ T
unfolding recounted
recounted_same T S =
    let p = table_is blank T.pieces (λ d. with_count (piece T d) (references T d)) (λ d _. ap (with_count (piece T d)) (sym (references_same T S d))) in
    let c = table_is 0 T.counts (holders T) (λ b _. sym (holders_same T S b)) in
    λ i. with_both T (p i) (c i)

-- ---- what the recount leaves is the room at entry

pub not_used : (n : ℕ) → not (ltb 0 n) ≡ eqb n 0
not_used zero = refl
not_used (suc n) = ap not (is_true (ltb 0 (suc n)) (lt→ltb 0 (suc n) (omega arith))) ∙ sym (eqb-suc-zero n)

-- vacant and not spent, said of the serial alone
unspent : (v k : Bool) → (v && not k) ≡ (v && not (v && k))
unspent true k = refl
unspent false k = refl

pub leaves_room : (T : Tables) → SoundNow T → leaves T ≡ room T
unfolding leaves
leaves_room T S =
    let s = sum_to_same (slip_total T) (λ s. bit (is_vacant T s && not (eqb (serial T s) 65535))) (λ s. bit (is_ready T s)) (λ s _. ap bit (unspent (is_vacant T s) (eqb (serial T s) 65535)))
    ∙ sym (places_count_0 (is_ready T) (slip_total T)) in
    let p = sum_to_same (piece_total T) (λ d. bit (not (reached T d))) (λ d. bit (is_free T d))
    (λ d _. ap (λ (t : Bool). bit (not t)) (reached_same T S d) ∙ ap bit (not_used (piece T d).count)) ∙ sym (places_count_0 (is_free T) (piece_total T)) in
    let b = sum_to_same (buffer_total T) (λ b. bit (eqb (holders T b) 0)) (λ b. bit (is_unheld T b))
    (λ b _. ap (λ n. bit (eqb n 0)) (sym (holders_same T S b))) ∙ sym (places_count_0 (is_unheld T) (buffer_total T)) in
    λ i. spare (s i) (p i) (b i)
