-- What drop and pullup give back first: by the own pieces of their slip, and in the recount's words. Assumes nothing.
use mathlib.Core.Path.{◌≡◌, refl, sym, ap, subst, ◌∙◌}
use mathlib.Core.Logic.{◌≢◌, ◌⊎◌, inl, inr, ⊎_elim}
use mathlib.Core.Bool.{Bool, true, not}
use mathlib.Core.List.{List, [], ◌∷◌}
use Prim.Native.Nat.{ℕ, zero, suc, ◌+◌, ◌-◌, ◌≤◌, ◌<◌, pred}
use native.Mathlib.Decide.{ℕ_discrete, dec_lt}
use native.Mathlib.Omega.{arith}
use lib.ListN.{length, take, length-take, length-set}
use lib.Seq.{take_all, get_or-set_same, get_or-set_other}
use lib.Dec.{eqb, eqb→eq, leb, leb→le, le→leb, ltb→lt, lt→ltb, T_not, not_T}
use Rattle.rules.specs.Basics.{Is, whether◌then◌else◌, bit, sum_to, any_to, member}
use Rattle.rules.specs.Tables.{Tables, piece, head_of, holding, slip_total, piece_total, buffer_total, set_slip}
use Rattle.rules.specs.Chain.{State, Stretch, state_of, follow, chain, spans, first_length, own_of, own_at, overlaps, splits}
use Rattle.rules.specs.Sound.{in_use}
use Rattle.rules.specs.Room.{is_free, is_free_with, free_pieces}
use Rattle.rules.specs.Build.{Plan}
use Rattle.rules.specs.Rule.{Spare, Wants, want, giving, first_code}
use Rattle.rules.specs.Drop.{drop_here, drop_plan, dropped, drop_back, drop_pieces, front_own}
use Rattle.rules.specs.Pullup.{in_first, pullup_wants}
use Rattle.rules.specs.Pack.{in_one, pack_wants}
use Rattle.rules.specs.Step.{Operation, Audit, Put, Free, Dup, Cut, Append, Drop, Keep, Pullup, Pack, Length, Read, Show, WireList, rule}
use Rattle.rules.specs.Recount.{reached, leaves}
use Rattle.rules.specs.Back.{link_past, turned_past, GivesBack, GivesFirst}
use Rattle.rules.proofs.Logic.{if_either, if_both, or_cases, or_left, or_right, same_test, not_most, not_zero, any_at, any_intro}
use Rattle.rules.proofs.Sums.{sum_to_same}
use Rattle.rules.proofs.Moves.{SoundNow, hit, slip_move, reorder}
use Rattle.rules.proofs.Build.{Good, Planned}
use Rattle.rules.proofs.Room.{places_count_0}
use Rattle.rules.proofs.Chain.{AllUsed, spans_good}
use Rattle.rules.proofs.Meets.{Meets, go, chain_meets, meets_some, meets_walk, meets_one, slip_same}
use Rattle.rules.proofs.Hang.{Ones, own_ones, stretches_length, turned_entry}
use Rattle.rules.proofs.Overlaps.{overlaps_cut, cut_count, splits_most, splits_past, splits_cut}
use Rattle.rules.proofs.Recount.{reached_used, reached_by, reached_same, AllEnd, head_ends, ends_by, leaves_room, not_used}
use Rattle.rules.proofs.Codes.{first_named}
use Rattle.rules.proofs.Freed.{emptied, base_below, base_held, emptied_sound, emptied_sizes, emptied_frees, rest_same, rest_used, others_same, others_used, entries_same}
use Rattle.rules.proofs.Drop.{drop_count, drop_back_lem, dropped_planned, dropped_leaves, past_used}
use Rattle.rules.proofs.Bounds.{chain_short}
use Rattle.rules.proofs.Own.{own_first}

-- ---- the own pieces in front

-- where drop wants a piece, n falls behind all own pieces: they are all given back
pub front_all : (T : Tables) (s n : ℕ) → 0 < drop_pieces T s n → front_own T s n ≡ own_of T s
front_all T s n =
    let xs = spans T s in
    let o = overlaps xs 0 0 n in
    if_either (λ k. 0 < k → take (o - splits xs 0 n) (own_of T s) ≡ own_of T s) (leb o (length (own_of T s))) 0 (splits xs 0 n)
    (λ _ l. absurd (omega arith))
    (λ t l. take_all (o - splits xs 0 n) (own_of T s) (omega (arith, splits_most xs 0 n, not_most o (length (own_of T s)) t)))

-- where the first piece has fewer than n bytes, an own head is given back
first_whole : (Z : List ℕ) (B : ℕ) (xs : List Stretch) (n : ℕ) → Good Z B xs → 0 < length xs → first_length xs < n → 0 < overlaps xs 0 0 n - splits xs 0 n
first_whole Z B [] n g l h = absurd (omega arith)
first_whole Z B (x ∷ xs) n g l h =
    let z : 0 + n ≡ n = omega arith in
    omega (
      arith,
      overlaps_cut Z B (x ∷ xs) 0 n g,
      cut_count x xs n g.1 (omega arith),
      splits_past x xs 0 n (omega arith),
      splits_cut Z B xs (0 + x.len) (n - x.len) g.3,
      ap (splits (x ∷ xs) 0) z,
    )

own_within : (T : Tables) (s : ℕ) → length (own_of T s) ≤ length (spans T s)
own_within T s = omega (arith, ap {B = ℕ} length (own_first T s), length-take (length (own_of T s)) (chain T s), stretches_length T (chain T s))

pub front_some : (T : Tables) (s n : ℕ) → SoundNow T → first_length (spans T s) < n → 0 < length (own_of T s) → 0 < length (front_own T s n)
front_some T s n h f l =
    let xs = spans T s in
    omega (
      arith,
      length-take (overlaps xs 0 0 n - splits xs 0 n) (own_of T s),
      first_whole T.stock (buffer_total T) xs n (spans_good T s h) (omega (arith, own_within T s)) f,
    )

-- no more than the own pieces are given back
front_most : (T : Tables) (s n : ℕ) → length (front_own T s n) ≤ length (own_of T s)
front_most T s n = let xs = spans T s in omega (arith, length-take (overlaps xs 0 0 n - splits xs 0 n) (own_of T s))

-- at most one piece is wanted by drop
pub pieces_most : (T : Tables) (s n : ℕ) → drop_pieces T s n ≤ 1
pieces_most T s n =
    let xs = spans T s in
    if_either (λ k. k ≤ 1) (leb (overlaps xs 0 0 n) (length (own_of T s))) 0 (splits xs 0 n) (λ _. omega arith) (λ _. splits_most xs 0 n)

-- ---- room by the own pieces

module _ (T : Tables) (s n : ℕ) (h : SoundNow T) where
  abbrev more : ℕ
  more = length (dropped T s n).more

  pub back_most : length (drop_back T s n) ≤ length (own_of T s)
  back_most = omega (arith, ap {B = ℕ} length (drop_back_lem T s n h), front_most T s n)

  pub back_all : 0 < more → length (drop_back T s n) ≡ length (own_of T s)
  back_all l = ap {B = ℕ} length (drop_back_lem T s n h ∙ front_all T s n (omega (arith, drop_count T s n h)))

  -- there is room for what drop wants, and for a piece more where the first piece has fewer than n bytes, just where there is with all own pieces
  pub drop_room : (f : ℕ) → leb more (length (drop_back T s n) + f) ≡ leb more (length (own_of T s) + f)
  drop_room f =
      let i = length (drop_back T s n) + f in
      let j = length (own_of T s) + f in
      same_test (leb more i) (leb more j) (λ t. le→leb more j (omega (arith, leb→le more i t, back_most)))
      (λ t. le→leb more i (elim (dec_lt 0 more) [ yes l ↦ omega (arith, leb→le more j t, back_all l) | no l ↦ omega arith ]))

  pub pullup_room : first_length (spans T s) < n → (f : ℕ) → leb (suc more) (length (drop_back T s n) + f) ≡ leb (suc more) (length (own_of T s) + f)
  pullup_room first f =
      let i = length (drop_back T s n) + f in
      let j = length (own_of T s) + f in
      same_test (leb (suc more) i) (leb (suc more) j) (λ t. le→leb (suc more) j (omega (arith, leb→le (suc more) i t, back_most)))
      (λ t. le→leb (suc more) i (elim (dec_lt 0 more) [
        | yes l ↦ omega (arith, leb→le (suc more) j t, back_all l)
        | no l ↦ elim (dec_lt 0 (length (own_of T s))) [
          | yes o ↦ omega (arith, ap {B = ℕ} length (drop_back_lem T s n h), front_some T s n h first o)
          | no o ↦ omega (arith, leb→le (suc more) j t)
        ]
      ]))

-- what is given back is own
ones_at : (T : Tables) (d : ℕ) (ds : List ℕ) → Ones T ds → Is (member d ds) → (piece T d).count ≡ 1
unfolding member
ones_at T d [] o t = absurd t
ones_at T d (x ∷ ds) o t = ⊎_elim (λ e. ap (λ y. (piece T y).count) (sym (eqb→eq x d e)) ∙ o.0) (λ m. ones_at T d ds o.1 m) (or_cases (eqb x d) (member d ds) t)

-- and stands among the own pieces
in_front : (d k : ℕ) (ds : List ℕ) → Is (member d (take k ds)) → Is (member d ds)
unfolding member
in_front d zero ds t = absurd t
in_front d (suc k) [] t = t
in_front d (suc k) (x ∷ ds) t = ⊎_elim (or_left (eqb x d) (member d ds)) (λ m. or_right (eqb x d) (member d ds) (in_front d k ds m)) (or_cases (eqb x d) (member d (take k ds)) t)

pub back_own : (T : Tables) (s n : ℕ) → SoundNow T → (d : ℕ) → Is (is_free_with T (drop_back T s n) d) → Is (is_free_with T (own_of T s) d)
back_own T s n h d t =
    ⊎_elim (λ m. or_left (member d (own_of T s)) (is_free T d) (in_front d (overlaps (spans T s) 0 0 n - splits (spans T s) 0 n) (own_of T s) (subst (λ (ds : List ℕ). Is (member d ds)) (drop_back_lem T s n h) m)))
    (or_right (member d (own_of T s)) (is_free T d)) (or_cases (member d (drop_back T s n)) (is_free T d) t)

-- ---- in the recount's words

follow_slips : (k : ℕ) (T : Tables) (s v n : ℕ) → follow (set_slip T s v) k n ≡ follow T k n
unfolding follow
follow_slips zero T s v n = refl
follow_slips (suc k) T s v zero = refl
follow_slips (suc k) T s v (suc d) = follow_slips k T s v (piece T d).next

used_at : (T : Tables) (d : ℕ) (ds : List ℕ) → AllUsed T ds → Is (member d ds) → 0 < (piece T d).count
unfolding member
used_at T d [] u t = absurd t
used_at T d (x ∷ ds) u t = ⊎_elim (λ e. subst (λ y. 0 < (piece T y).count) (eqb→eq x d e) u.0) (used_at T d ds u.1) (or_cases (eqb x d) (member d ds) t)

-- what a plan of drop leaves stands at the first piece with a byte past the first n, or behind it
abbrev Behind : Tables → ℕ → ℕ → Type 0
Behind T link tail = (link ≡ tail) ⊎ ((d : ℕ) × (link ≡ suc d) × (tail ≡ (piece T d).next))

here_behind : (T : Tables) (own : Bool) (d n : ℕ) → Behind T (suc d) (drop_here T own d n).tail
unfolding drop_here
here_behind T own d zero = inl refl
here_behind T own d (suc n) = if_either (λ (p : Plan). Behind T (suc d) p.tail) own _ _ (λ _. inl refl) (λ _. inr (d, refl, refl))

tail_behind : (T : Tables) (own : Bool) (ds : List ℕ) (n : ℕ) → Behind T (link_past T ds n) (drop_plan T own ds n).tail
unfolding link_past drop_plan
tail_behind T own [] n = inl refl
tail_behind T own (d ∷ ds) n =
    let own' = own_at T own d in
    if_both (λ (link : ℕ) (p : Plan). Behind T link p.tail) (leb (piece T d).len n) _ _ _ _ (λ _. tail_behind T own' ds (n - (piece T d).len)) (λ _. here_behind T own' d n)

module _ (T : Tables) (s n : ℕ) (h : SoundNow T) (b : s < slip_total T) where
  -- the tables in which the slip heads that piece; those in which what stays is held and its old chain is released; and those with the slip turned to what stays
  abbrev X : Tables
  X = turned_past T s n

  abbrev p : Planned T (dropped T s n)
  p = dropped_planned T s n h

  abbrev S₀ : State
  S₀ = state_of T []

  abbrev E : Tables
  E = (emptied S₀ (dropped T s n) s).tables

  abbrev tail : ℕ
  tail = (dropped T s n).tail

  abbrev E' : Tables
  E' = set_slip E s (holding tail)

  abbrev past : ℕ
  past = link_past T (chain T s) n

  abbrev stays : List ℕ
  stays = (dropped_leaves T s n b h).rest

  in_E : s < slip_total E
  in_E = omega (arith, (emptied_sizes S₀ (dropped T s n) s p b).slips_size)

  sound_there : SoundNow E'
  sound_there =
      let q = emptied_sound S₀ (dropped T s n) s p b in
      let z = turned_entry (state_of (dropped T s n).base []) s (holding 0) (base_below S₀ (dropped T s n) s p b) (base_held S₀ (dropped T s n) s p b) in
      (q.0, reorder (λ d. omega (arith, ap (λ v. hit (pred v) d) z)) (slip_move {fl = []} s (holding tail) in_E q.1))

  -- the pieces met from there
  met : (l : List ℕ) × Meets T past l × (length l ≤ piece_total T)
  met = meets_some past h (λ d e. (past_used S₀ T s n b h d e).0)

  -- they are what stays, and perhaps a piece before it
  stays_in : (d : ℕ) → Is (member d stays) → Is (member d met.0)
  unfolding member
  stays_in d t =
      let v = dropped_leaves T s n b h in
      ⊎_elim (λ e. subst (λ (l : List ℕ). Is (member d l)) (meets_one v.was (subst (λ m. Meets T m met.0) e met.1)) t)
      (λ (x, e, q). subst (λ (l : List ℕ). Is (member d l)) (meets_one (go (subst (λ m. Meets T m stays) q v.was)) (subst (λ m. Meets T m met.0) e met.1))
      (or_right (eqb x d) (member d stays) t))
      (tail_behind T true (chain T s) n)

  met_used : (d : ℕ) → Is (member d met.0) → 0 < (piece E d).count
  unfolding member
  met_used d t =
      let v = dropped_leaves T s n b h in
      let r = used_at E d stays (rest_used S₀ (dropped T s n) s p b v.rest v.meets v.others) in
      ⊎_elim (λ e. r (subst (λ (l : List ℕ). Is (member d l)) (sym (meets_one v.was (subst (λ m. Meets T m met.0) e met.1))) t))
      (λ (x, e, q). ⊎_elim (λ i. (past_used S₀ T s n b h d (e ∙ ap suc (eqb→eq x d i))).1) r
      (or_cases (eqb x d) (member d stays)
      (subst (λ (l : List ℕ). Is (member d l)) (sym (meets_one (go (subst (λ m. Meets T m stays) q v.was)) (subst (λ m. Meets T m met.0) e met.1))) t)))
      (tail_behind T true (chain T s) n)

  -- the chains of the slips: in X
  mine_is : chain X s ≡ met.0
  mine_is =
      let e : head_of X s ≡ past = ap pred (get_or-set_same T.slips s (holding past) 0 b) in
      meets_walk (piece_total X) (subst (λ m. Meets X m met.0) (sym e) (slip_same T s (holding past) past met.0 met.1).0) met.2

  other_is : (u : ℕ) → u ≢ s → chain X u ≡ chain T u
  other_is u i =
      let e : head_of X u ≡ head_of T u = ap pred (get_or-set_other T.slips s u (holding past) 0 i) in
      meets_walk (piece_total X) (subst (λ m. Meets X m (chain T u)) (sym e) (slip_same T s (holding past) (head_of T u) (chain T u) (chain_meets T u h)).0) (chain_short T u)

  -- and in E'
  mine_there : chain E' s ≡ stays
  mine_there =
      let v = dropped_leaves T s n b h in
      let e : head_of E' s ≡ tail = ap pred (get_or-set_same E.slips s (holding tail) 0 in_E) in
      let r = (rest_same S₀ (dropped T s n) s p b v.rest v.meets v.others).0 in
      meets_one (chain_meets E' s sound_there) (subst (λ m. Meets E' m stays) (sym e) (slip_same E s (holding tail) tail stays r).0)

  other_there : (u : ℕ) → u ≢ s → chain E' u ≡ chain T u
  other_there u i =
      let v = dropped_leaves T s n b h in
      let e : head_of E' u ≡ head_of T u = ap pred (get_or-set_other E.slips s u (holding tail) 0 i ∙ entries_same S₀ (dropped T s n) s p b v.rest v.meets v.others u i) in
      let r = (others_same S₀ (dropped T s n) s p b v.rest v.meets v.others u i (chain T u) (chain_meets T u h)).0 in
      meets_one (chain_meets E' u sound_there) (subst (λ m. Meets E' m (chain T u)) (sym e) (slip_same E s (holding tail) (head_of T u) (chain T u) r).0)

  slips_same : slip_total X ≡ slip_total E'
  slips_same = length-set T.slips s (holding past) ∙ sym (emptied_sizes S₀ (dropped T s n) s p b).slips_size ∙ sym (length-set E.slips s (holding tail))

  -- a piece is not reached in X just where it is free once the old chain is released
  reached_there : (d : ℕ) → not (reached X d) ≡ is_free E d
  unfolding reached
  reached_there d =
      let v = dropped_leaves T s n b h in
      ap not (same_test (reached X d) (in_use (piece E d))
      (λ t. (
      let (u, l, m) = any_at (slip_total X) (λ u. member d (chain X u)) t in
      lt→ltb 0 (piece E d).count
      (elim (ℕ_discrete u s) [
        | yes e ↦ met_used d (subst (λ (q : List ℕ). Is (member d q)) (ap (chain X) e ∙ mine_is) m)
        | no e ↦ used_at E d (chain T u) (others_used S₀ (dropped T s n) s p b v.rest v.meets v.others h u e) (subst (λ (q : List ℕ). Is (member d q)) (other_is u e) m)
      ])))
      (λ t. (
      let (u, l, m) = any_at (slip_total E') (λ u. member d (chain E' u)) (subst Is (sym (reached_same E' sound_there d)) t) in
      any_intro (slip_total X) (λ u. member d (chain X u)) u (omega (arith, slips_same))
      (elim (ℕ_discrete u s) [
        | yes e ↦
            subst (λ (q : List ℕ). Is (member d q)) (sym (ap (chain X) e ∙ mine_is))
            (stays_in d (subst (λ (q : List ℕ). Is (member d q)) (ap (chain E') e ∙ mine_there) m))
        | no e ↦ subst (λ (q : List ℕ). Is (member d q)) (other_there u e ∙ sym (other_is u e)) m
      ]))))
      ∙ not_used (piece E d).count

  all_end : AllEnd X
  all_end u =
      follow_slips (piece_total T) T s (holding past) (head_of X u)
      ∙ elim (ℕ_discrete u s) [
        | yes e ↦
            ap (follow T (piece_total T)) (ap (head_of X) e ∙ ap pred (get_or-set_same T.slips s (holding past) 0 b))
            ∙ ends_by T h past (λ d q. (past_used S₀ T s n b h d q).0)
        | no e ↦ ap (λ w. follow T (piece_total T) (pred w)) (get_or-set_other T.slips s u (holding past) 0 e) ∙ head_ends T h u
      ]

  -- What drop gives back first.
  pub gives_back : GivesBack T s n (drop_back T s n)
  unfolding leaves
  gives_back =
      let f = emptied_frees S₀ (dropped T s n) s p b in
      let B = (dropped T s n).base in
      record {
        which = λ d. (
          λ t. (
            (reached_used T h d).1
                (not_zero (piece T d).count
                (λ z. omega (arith, ones_at B d (drop_back T s n) (own_ones (piece_total B) (head_of B s) B) t, p.still.free_still d (eqb→eq (piece T d).count 0 z)))),
            λ r. T_not (reached X d) (subst Is (sym (reached_there d)) (subst Is (sym (f.which d)) (or_left (member d (drop_back T s n)) (is_free T d) t)))
                ((reached_by X all_end d).1 r),
          ),
          λ (r, g).
              ⊎_elim (λ m. m) (λ z. absurd (omega (arith, (reached_used T h d).0 r, eqb→eq (piece T d).count 0 z)))
              (or_cases (member d (drop_back T s n)) (is_free T d)
              (subst Is (f.which d) (subst Is (reached_there d) (not_T (reached X d) (λ t. g ((reached_by X all_end d).0 t)))))),
        );
        room =
            ap (λ (k : ℕ). length (drop_back T s n) + k) (ap (λ (r : Spare). r.pieces) (leaves_room T h))
            ∙ sym f.many ∙ places_count_0 (is_free E) (piece_total E) ∙ ap (λ k. sum_to k (λ d. bit (is_free E d))) (emptied_sizes S₀ (dropped T s n) s p b).pieces_size
            ∙ sum_to_same (piece_total T) (λ d. bit (is_free E d)) (λ d. bit (not (reached X d))) (λ d _. ap bit (sym (reached_there d)));
      }

-- Every operation gives back first what is said of it.
pub rule_first : (o : Operation) (S : State) → SoundNow S.tables → first_code (rule o S).judged ≡ 0 → GivesFirst o S.tables (rule o S).wants
unfolding rule pullup_wants pack_wants
rule_first Audit S h e = refl
rule_first (Put input) S h e = refl
rule_first (Free s) S h e = refl
rule_first (Dup s) S h e = refl
rule_first (Cut s off n) S h e = refl
rule_first (Append a b) S h e = refl
rule_first (Drop s n) S h e = gives_back S.tables s.slip n h (first_named S.tables s _ e).0
rule_first (Keep s n) S h e = refl
rule_first (Pullup s n) S h e =
    let T = S.tables in
    if_either (λ (w : Wants). (w.pieces ≡ 0 → w.back ≡ []) × ((w.pieces ≡ 0 → ⊥) → GivesBack T s.slip n w.back)) (in_first T s.slip n) (want 0 0 0)
    (giving (drop_back T s.slip n) (suc (length (dropped T s.slip n).more)) 1)
    (λ _. (λ _. refl, λ z. absurd (z refl))) (λ _. (λ z. absurd (omega arith), λ _. gives_back T s.slip n h (first_named T s _ e).0))
rule_first (Pack s) S h e = if_either (λ (w : Wants). w.back ≡ []) (in_one S.tables s.slip) _ _ (λ _. refl) (λ _. refl)
rule_first (Length s) S h e = refl
rule_first (Read s off n out) S h e = refl
rule_first (Show s n scratch) S h e = refl
rule_first (WireList s list) S h e = refl
