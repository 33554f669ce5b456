-- drop: soundness is kept, what its slip then holds, and that it is lawful. Assumes nothing.
use mathlib.Core.Path.{◌≡◌, refl, sym, ap, subst, subst₂, ◌∙◌}
use mathlib.Core.Logic.{◌≢◌, inl, ⊎_elim}
use mathlib.Core.Bool.{Bool, true, false}
use mathlib.Core.List.{List, [], ◌∷◌, ◌++◌, Memᴰ, map-append}
use Prim.Native.Nat.{ℕ, zero, suc, ◌+◌, ◌-◌, ◌<◌, ◌≤◌, pred}
use native.Mathlib.Nat.{suc_inj}
use native.Mathlib.Decide.{dec_le}
use native.Mathlib.Omega.{arith}
use lib.ListN.{length, get_or, take, length-set, drop}
use lib.Seq.{get_or-set_same, get_or-set_other}
use lib.Dec.{eqb, leb, eqb→eq, leb→le, le→leb}
use Rattle.rules.specs.Basics.{Is, whether◌then◌else◌, member}
use Rattle.rules.specs.Tables.{Piece, Tables, blank, piece, buffer_count, slip_total, set_piece, with_count, head_of, set_slip, buffer_total, piece_total}
use Rattle.rules.specs.Chain.{State, chain, stretch, Stretch, stretches, spans, reads, walk, own_pieces, own_of, cut_out, overlaps, splits, own_at}
use Rattle.rules.specs.Room.{free_pieces, free_with, is_free, is_unheld}
use Rattle.rules.specs.Release.{shared}
use Rattle.rules.specs.Build.{Plan, under_freed, stored}
use Rattle.rules.specs.Rule.{Name, reading, giving}
use Rattle.rules.specs.Drop.{shorter, drop_here, drop_plan, dropped, drop_back, drop_after, drop_call, drop_pieces, front_own}
use Rattle.rules.specs.Back.{link_past}
use Rattle.rules.specs.Takes.{Took}
use Rattle.rules.proofs.Logic.{if_either, if_both, not_most, and_intro, and_0, and_1, or_cases, if_T, if_F, is_true, is_false, is_dec, eq→eqb, not_zero}
use Rattle.rules.proofs.Moves.{SoundBy, SoundWith, SoundNow, used_in_range_lem, in_range, buffer_pos, trim_move, reorder, slip_move}
use Rattle.rules.proofs.Rank.{next_pos}
use Rattle.rules.proofs.Release.{held_pos}
use Rattle.rules.proofs.Build.{share_sound, still_shared, still_store, still_trans, Planned, plain_planned, OwnTo, own_still, Good}
use Rattle.rules.proofs.Room.{passing_none, NoneOf, none_front}
use Rattle.rules.proofs.Chain.{AllUsed, chain_used, spans_good}
use Rattle.rules.proofs.Meets.{Meets, stop, go, chain_meets, meets_low, Alike, alike, Agree, agree_but, agree_meets, agree_stretches, Same, same_by, same_refl, slip_same, shared_same, Safe, head_safe, own_apart}
use Rattle.rules.proofs.Hang.{Gives, gives_as}
use Rattle.rules.proofs.Contents.{drop_out, drop_out_contents}
use Rattle.rules.proofs.Overlaps.{overlaps_cut, cut_count, cut_first, cut_nothing, splits_nil, splits_none, splits_past, splits_inside, splits_cut, one_more}
use Rattle.rules.proofs.Codes.{first_named}
use Rattle.rules.proofs.Caused.{found, slip_one, twice_one, none_less, past_is}
use Rattle.rules.proofs.Sizes.{Sizes, freed_sizes, piece_set, shared_sizes, then_sizes, same_sizes, maybe_sizes}
use Rattle.rules.proofs.After.{Reading, gives_reading, same_reading}
use Rattle.rules.proofs.Takes.{buffers_of, drop_out_none, nothing_taken, roomy, spans_none}
use Rattle.rules.proofs.Lawful.{Lawful, Leaving, Taking, Causing, Staying}
use Rattle.rules.proofs.Storage.{Spared}
use Rattle.rules.proofs.Stays.{maybe_stays}
use Rattle.rules.proofs.Freed.{Frees, emptied, emptied_frees, emptied_sound, freed_sound, freed_gives, took_freed, freed_spans, freed_stays}

pub drop_here_lem : (T : Tables) (own : Bool) (d n : ℕ) → n < (piece T d).len → 0 < (piece T d).count → SoundNow T → Planned T (drop_here T own d n)
unfolding drop_here
drop_here_lem T own d zero h u (rank, S) = record { still = still_shared T (suc d) (λ e q. subst (λ y. 0 < (piece T y).count) (suc_inj q) u); good = tt; held = (rank, share_sound (suc d) (λ e q. subst (λ y. 0 < (piece T y).count) (suc_inj q) u) S) }
drop_here_lem T own d (suc r) h u (rank, S) =
    let T₁ = shared T (suc d) in
    let up : (e : ℕ) → suc d ≡ suc e → 0 < (piece T e).count = λ e q. subst (λ y. 0 < (piece T y).count) (suc_inj q) u in
    let S₁ : SoundBy rank (suc d ∷ []) T₁ = share_sound (suc d) up S in
    let pos : 0 < (piece T₁ d).count = held_pos d S₁ in
    let same : piece T₁ d ≡ with_count (piece T d) (suc (piece T d).count) = get_or-set_same T.pieces d (with_count (piece T d) (suc (piece T d).count)) blank (used_in_range_lem T d u) in
    let len : (piece T₁ d).len ≡ (piece T d).len = ap (λ (q : Piece). q.len) same in
    if_either (Planned T) own
    (record { base = set_piece T₁ d (shorter (piece T₁ d) (suc r)); more = []; tail = suc d })
    (record { base = shared T (piece T d).next; more = stretch (shorter (piece T d) (suc r)) ∷ []; tail = (piece T d).next })
    (λ _. record {
      still = still_trans (still_shared T (suc d) up) (still_store T₁ d (shorter (piece T₁ d) (suc r)) pos pos refl);
      good = tt;
      held = (rank, trim_move d ((piece T₁ d).offset + suc r) ((piece T₁ d).len - suc r) pos (omega arith) (omega (arith, (S₁.fits d pos).inside)) S₁);
    })
    (λ _. record {
      still = still_shared T (piece T d).next (λ e q. next_pos d e S q);
      good = (in_range T.counts 0 (λ n. n) (piece T d).buffer refl (buffer_pos d u S), omega arith, omega (arith, (S.fits d u).inside), tt);
      held = (rank, share_sound (piece T d).next (λ e q. next_pos d e S q) S);
    })

pub drop_planned : (T : Tables) (own : Bool) (ds : List ℕ) (n : ℕ) → AllUsed T ds → SoundNow T → Planned T (drop_plan T own ds n)
unfolding drop_plan
drop_planned T own [] n u S = plain_planned T [] tt S
drop_planned T own (d ∷ ds) n u S =
    let own' = own_at T own d in
    if_either (Planned T) (leb (piece T d).len n) (drop_plan T own' ds (n - (piece T d).len)) (drop_here T own' d n)
    (λ _. drop_planned T own' ds (n - (piece T d).len) u.1 S)
    (λ t. drop_here_lem T own' d n (not_most (piece T d).len n t) u.0 S)

pub dropped_planned : (T : Tables) (s n : ℕ) → SoundNow T → Planned T (dropped T s n)
dropped_planned T s n S = drop_planned T true (chain T s) n (chain_used T s S) S

pub drop_sound : (s n : ℕ) (S : State) → s < slip_total S.tables → SoundNow S.tables → SoundNow (drop_after s n S).tables
unfolding drop_after
drop_sound s n S l h =
    let T = S.tables in
    if_either (λ (X : State). SoundNow X.tables) (eqb n 0) _ _ (λ _. h) (λ _. freed_sound S (dropped T s n) s (dropped_planned T s n h) l)

-- ---- what drop leaves

own_snoc : (j : ℕ) (T : Tables) (n d x : ℕ) → OwnTo j T n d → (piece T d).next ≡ suc x → (piece T x).count ≡ 1 → OwnTo (suc j) T n x
own_snoc zero T n d x (e, c) q cx = (d, e, c, (q, cx))
own_snoc (suc j) T n d x (y, e, c, o) q cx = (y, e, c, own_snoc j T (piece T y).next d x o q cx)

-- an own piece has count 1, and all before it are own
own_at_lem : (T : Tables) (own : Bool) (d : ℕ) → Is (own_at T own d) → Is own × ((piece T d).count ≡ 1)
own_at_lem T own d t = (and_0 own (eqb (piece T d).count 1) t, eqb→eq (piece T d).count 1 (and_1 own (eqb (piece T d).count 1) t))

-- where all before are own, a piece of count 1 to which the link n leads is own to s
abbrev OwnNext : Tables → ℕ → Bool → ℕ → Type 0
OwnNext T s own n = Is own → (x : ℕ) → n ≡ suc x → (piece T x).count ≡ 1 → (j : ℕ) × OwnTo j T (head_of T s) x

-- What a plan for the slip s leaves of it: its chain covers xs, and other slips keep theirs.
pub record Leaves (T : Tables) (s : ℕ) (p : Plan) (xs : List Stretch) : Type 0 where
  pub rest : List ℕ
  pub meets : Meets p.base p.tail rest
  pub covers : p.more ++ stretches p.base rest ≡ xs
  pub others : (u : ℕ) → u ≢ s → Same T p.base (head_of T u)
  pub used : AllUsed T rest
  -- it is the old chain's from there on
  pub was : Meets T p.tail rest

-- the shortened piece stands in place
own_leaves : (T : Tables) (s d r : ℕ) (ds : List ℕ) → s < slip_total T → SoundNow T → Meets T (piece T d).next ds → AllUsed T (d ∷ ds) → (j : ℕ) → OwnTo j T (head_of T s) d
    → Leaves T s (record { base = set_piece (shared T (suc d)) d (shorter (piece (shared T (suc d)) d) (suc r)); more = []; tail = suc d })
    (record { buffer = (piece T d).buffer; offset = (piece T d).offset + suc r; len = (piece T d).len - suc r } ∷ stretches T ds)
unfolding stretches
own_leaves T s d r ds b (rank, h) c u j o =
    let T₁ = shared T (suc d) in
    let p₁ = with_count (piece T d) (suc (piece T d).count) in
    let here : piece T₁ d ≡ p₁ = get_or-set_same T.pieces d p₁ blank (used_in_range_lem T d u.0) in
    let q = shorter (piece T₁ d) (suc r) in
    let T₂ : Tables = set_piece T₁ d q in
    let in₁ : d < length T₁.pieces = omega (arith, used_in_range_lem T d u.0, length-set T.pieces d p₁) in
    let new : piece T₂ d ≡ shorter p₁ (suc r) = get_or-set_same T₁.pieces d q blank in₁ ∙ ap (λ (y : Piece). shorter y (suc r)) here in
    let old : (x : ℕ) → x ≢ d → Alike (piece T₂ x) (piece T x) = λ x ne. alike (get_or-set_other T₁.pieces d x q blank ne ∙ get_or-set_other T.pieces d x p₁ blank ne) in
    let out : Memᴰ d ds → ⊥ = λ m. omega (arith, meets_low rank (rank d) d h.falls (λ e w. h.falls d e w) c m) in
    let a : Agree T T₂ ds = agree_but T T₂ d ds old out in
    let T₀ : Tables = set_slip T s 0 in
    let h₀ : SoundBy rank (head_of T s ∷ []) T₀ = slip_move {fl = []} s 0 b (reorder (λ x. omega arith) h) in
    record {
      rest = d ∷ ds;
      meets = go (subst (λ n. Meets T₂ n ds) (sym (ap (λ (y : Piece). y.next) new)) (agree_meets c a));
      covers = λ i. stretch (new i) ∷ agree_stretches T T₂ ds a i;
      others = λ v ne. same_by T T₂ (λ l m. agree_but T T₂ d l old
          (own_apart j (head_of T s) d (head_of T v) l (rank, h₀) (own_still j T T₀ (head_of T s) d (λ x y. (y, refl)) o)
          (subst (λ x. Safe [] T₀ (pred x)) (get_or-set_other T.slips s v 0 0 ne) (head_safe [] T₀ v)) (slip_same T s 0 (head_of T v) l m).0));
      used = u;
      was = go c;
    }

here_leaves : (T : Tables) (s d n : ℕ) (ds : List ℕ) (own : Bool) → s < slip_total T → SoundNow T → Meets T (piece T d).next ds → AllUsed T (d ∷ ds) → (Is own → (j : ℕ) × OwnTo j T (head_of T s) d)
    → Leaves T s (drop_here T own d n) (record { buffer = (piece T d).buffer; offset = (piece T d).offset + n; len = (piece T d).len - n } ∷ stretches T ds)
unfolding drop_here stretches
here_leaves T s d zero ds own b (rank, h) c u o =
    let up : (e : ℕ) → suc d ≡ suc e → 0 < (piece T e).count = λ e q. subst (λ y. 0 < (piece T y).count) (suc_inj q) u.0 in
    let r = shared_same T (suc d) (suc d) up (d ∷ ds) (go c) in
    let z : (piece T d).offset ≡ (piece T d).offset + 0 = omega arith in
    let y : (piece T d).len ≡ (piece T d).len - 0 = omega arith in
    record {
      rest = d ∷ ds;
      meets = r.0;
      covers = r.1 ∙ (λ i. record { buffer = (piece T d).buffer; offset = z i; len = y i } ∷ stretches T ds);
      others = λ v _. shared_same T (suc d) (head_of T v) up;
      used = u;
      was = go c;
    }
here_leaves T s d (suc r) ds own b (rank, h) c u o =
    if_either (λ (p : Plan). Leaves T s p (record { buffer = (piece T d).buffer; offset = (piece T d).offset + suc r; len = (piece T d).len - suc r } ∷ stretches T ds)) own _ _
    (λ t. (let w = o t in own_leaves T s d r ds b (rank, h) c u w.0 w.1))
    (λ _. (
    let k = shared_same T (piece T d).next (piece T d).next (λ e q. next_pos d e h q) ds c in
    record {
      rest = ds;
      meets = k.0;
      covers = ap {B = List Stretch} (λ xs. record { buffer = (piece T d).buffer; offset = (piece T d).offset + suc r; len = (piece T d).len - suc r } ∷ xs) k.1;
      others = λ v _. shared_same T (piece T d).next (head_of T v) (λ e q. next_pos d e h q);
      used = u.1;
      was = c;
    }))

plan_leaves : (T : Tables) (s : ℕ) (own : Bool) (m : ℕ) (ds : List ℕ) (n : ℕ) → s < slip_total T → SoundNow T → Meets T m ds → AllUsed T ds → OwnNext T s own m → Leaves T s (drop_plan T own ds n) (drop_out (stretches T ds) n)
unfolding drop_plan drop_out stretches
plan_leaves T s own m ds n b h stop u o = record { rest = []; meets = stop; covers = refl; others = λ v _. same_refl T (head_of T v); used = tt; was = stop }
plan_leaves T s own m ds n b h (go {d = d} {l = l} c) u o =
    let own' = own_at T own d in
    let mine : Is own' → (j : ℕ) × OwnTo j T (head_of T s) d = λ t. (let w = own_at_lem T own d t in o w.0 d refl w.1) in
    elim (dec_le (piece T d).len n) [
      | yes k ↦
          subst₂ (Leaves T s) (sym (if_T (leb (piece T d).len n) (drop_plan T own' l (n - (piece T d).len)) (drop_here T own' d n) (le→leb (piece T d).len n k)))
          (sym (if_T (leb (piece T d).len n) (drop_out (stretches T l) (n - (piece T d).len)) _ (le→leb (piece T d).len n k)))
          (plan_leaves T s own' (piece T d).next l (n - (piece T d).len) b h c u.1 (λ t x q cx. (let w = mine t in (suc w.0, own_snoc w.0 T (head_of T s) d x w.1 q cx))))
      | no k ↦
          subst₂ (Leaves T s) (sym (if_F (leb (piece T d).len n) (drop_plan T own' l (n - (piece T d).len)) (drop_here T own' d n) (λ t. k (leb→le (piece T d).len n t))))
          (sym (if_F (leb (piece T d).len n) (drop_out (stretches T l) (n - (piece T d).len)) _ (λ t. k (leb→le (piece T d).len n t))))
          (here_leaves T s d n l own' b h c u mine)
    ]

-- what drop of n leaves of the chain of s
pub dropped_leaves : (T : Tables) (s n : ℕ) → s < slip_total T → SoundNow T → Leaves T s (dropped T s n) (drop_out (spans T s) n)
dropped_leaves T s n b h = plan_leaves T s true (head_of T s) (chain T s) n b h (chain_meets T s h) (chain_used T s h) (λ _ x q c. (0, (q, c)))

-- drop of no byte makes no new piece
here_none : (T : Tables) (own : Bool) (d n : ℕ) → n ≡ 0 → (drop_here T own d n).more ≡ []
unfolding drop_here
here_none T own d zero e = refl
here_none T own d (suc n) e = absurd (omega arith)

pub drop_none : (T : Tables) (own : Bool) (ds : List ℕ) (n : ℕ) → n ≡ 0 → (drop_plan T own ds n).more ≡ []
unfolding drop_plan
drop_none T own [] n e = refl
drop_none T own (d ∷ ds) n e =
    let own' = own_at T own d in
    if_either (λ (p : Plan). p.more ≡ []) (leb (piece T d).len n) _ _ (λ _. drop_none T own' ds (n - (piece T d).len) (omega arith)) (λ _. here_none T own' d n e)

-- ---- how many new pieces drop makes

-- the byte n of a piece of which not all before are own
here_count : (T : Tables) (d a n : ℕ) (xs : List Stretch) → n < (piece T d).len
    → length (drop_here T false d n).more ≡ splits (stretch (piece T d) ∷ xs) a (a + n)
unfolding drop_here whether◌then◌else◌
here_count T d a zero xs h = sym (splits_none (stretch (piece T d) ∷ xs) a (a + 0) (omega arith))
here_count T d a (suc n) xs h = sym (splits_inside (stretch (piece T d)) xs a n h)

plain_count : (T : Tables) (ds : List ℕ) (a n : ℕ) → length (drop_plan T false ds n).more ≡ splits (stretches T ds) a (a + n)
unfolding drop_plan stretches
plain_count T [] a n = sym (splits_nil a (a + n))
plain_count T (d ∷ ds) a n =
    let l = (piece T d).len in
    elim (dec_le l n) [
      | yes h ↦
          ap (λ (p : Plan). length p.more) (if_T (leb l n) (drop_plan T false ds (n - l)) (drop_here T false d n) (le→leb l n h))
          ∙ plain_count T ds (a + l) (n - l) ∙ sym (splits_past (stretch (piece T d)) (stretches T ds) a n h)
      | no h ↦
          ap (λ (p : Plan). length p.more) (if_F (leb l n) (drop_plan T false ds (n - l)) (drop_here T false d n) (λ t. h (leb→le l n t)))
          ∙ here_count T d a n (stretches T ds) (omega arith)
    ]

-- a piece that is own needs no other
own_none : (T : Tables) (d n : ℕ) → length (drop_here T true d n).more ≡ 0
unfolding drop_here whether◌then◌else◌
own_none T d zero = refl
own_none T d (suc n) = refl

-- the same for the pieces walked from the link m, at most k of them, where all before them are own
own_count : (T : Tables) (Z : List ℕ) (B k m a n : ℕ) → Good Z B (stretches T (walk k T m))
    → length (drop_plan T true (walk k T m) n).more
    ≡ (whether leb (length (cut_out (stretches T (walk k T m)) 0 n)) (length (own_pieces k T m)) then 0 else splits (stretches T (walk k T m)) a (a + n))
unfolding drop_plan stretches walk own_pieces cut_out whether◌then◌else◌
own_count T Z B zero m a n g = refl
own_count T Z B (suc k) zero a n g = refl
own_count T Z B (suc k) (suc d) a n g =
    let x = stretch (piece T d) in
    let l = (piece T d).len in
    let next = (piece T d).next in
    let ds = walk k T next in
    let xs = stretches T ds in
    let own = eqb (piece T d).count 1 in
    let mine = length (whether own then d ∷ own_pieces k T next else []) in
    let cut = length (cut_out (x ∷ xs) 0 n) in
    let all = splits (x ∷ xs) a (a + n) in
    ⊎_elim
    (λ t. (
    let o = if_T own (d ∷ own_pieces k T next) [] t in
    let e = is_true own t in
    elim (dec_le l n) [
      | yes h ↦ (
          let c = cut_count x xs n g.1 (omega (arith, g.1)) in
          ap (λ (p : Plan). length p.more) (if_T (leb l n) (drop_plan T own ds (n - l)) (drop_here T own d n) (le→leb l n h))
          ∙ ap (λ b. length (drop_plan T b ds (n - l)).more) e ∙ own_count T Z B k next (a + l) (n - l) g.3
          ∙ (λ i. whether one_more (length (cut_out xs 0 (n - l))) (length (own_pieces k T next)) i then 0 else sym (splits_past x xs a n h) i)
          ∙ sym (λ i. whether leb (c i) (length (o i)) then 0 else all))
      | no h ↦
          ap (λ (p : Plan). length p.more) (if_F (leb l n) (drop_plan T own ds (n - l)) (drop_here T own d n) (λ u. h (leb→le l n u)))
          ∙ ap (λ b. length (drop_here T b d n).more) e ∙ own_none T d n
          ∙ sym (if_T (leb cut mine) 0 all (le→leb cut mine (omega (arith, ap length o, cut_first x xs n g.1 (omega arith)))))
    ]))
    (λ t. (
    let o = if_F own (d ∷ own_pieces k T next) [] t in
    let e = is_false own t in
    (λ i. length (whether leb l n then drop_plan T (e i) ds (n - l) else drop_here T (e i) d n).more)
    ∙ plain_count T (d ∷ ds) a n
    ∙ if_either (λ j. all ≡ j) (leb cut mine) 0 all
    (λ u. splits_none (x ∷ xs) a (a + n) (let q = leb→le cut mine u in let z = cut_nothing x xs n g.1 (omega (arith, ap length o)) in omega arith))
    (λ _. refl)))
    (is_dec own)

-- a piece where the cut falls inside a piece that is not own
pub drop_count : (T : Tables) (s n : ℕ) → SoundNow T → length (dropped T s n).more ≡ drop_pieces T s n
drop_count T s n h =
    let xs = spans T s in
    let g = spans_good T s h in
    let z : 0 + n ≡ n = omega arith in
    own_count T T.stock (buffer_total T) (piece_total T) (head_of T s) 0 n g
    ∙ (λ i. whether leb (overlaps_cut T.stock (buffer_total T) xs 0 n g i) (length (own_of T s)) then 0 else splits xs 0 (z i))

-- ---- what drop gives back first

-- what stays is held: pieces of a higher rank than the first are as they were
shared_other : (T : Tables) (n x : ℕ) → ((e : ℕ) → n ≡ suc e → x ≢ e) → piece (shared T n) x ≡ piece T x
shared_other T zero x h = refl
shared_other T (suc d) x h = get_or-set_other T.pieces d x (with_count (piece T d) (suc (piece T d).count)) blank (h d refl)

abbrev Falls : (ℕ → ℕ) → Tables → Type 0
Falls rank T = (d e : ℕ) → (piece T d).next ≡ suc e → rank e < rank d

here_apart : (rank : ℕ → ℕ) (T : Tables) (own : Bool) (d n x : ℕ) → Falls rank T → rank d < rank x → piece (drop_here T own d n).base x ≡ piece T x
unfolding drop_here
here_apart rank T own d zero x f l = shared_other T (suc d) x (λ e q i. (let a = ap rank (suc_inj q) in let b = ap rank i in omega arith))
here_apart rank T own d (suc r) x f l =
    let T₁ = shared T (suc d) in
    if_either (λ (p : Plan). piece p.base x ≡ piece T x) own
    (record { base = set_piece T₁ d (shorter (piece T₁ d) (suc r)); more = []; tail = suc d }) _
    (λ _. get_or-set_other T₁.pieces d x (shorter (piece T₁ d) (suc r)) blank (λ i. (let b = ap rank i in omega arith))
    ∙ shared_other T (suc d) x (λ e q i. (let a = ap rank (suc_inj q) in let b = ap rank i in omega arith)))
    (λ _. shared_other T (piece T d).next x (λ e q i. (let a = f d e q in let b = ap rank i in omega arith)))

plan_apart : (k : ℕ) (rank : ℕ → ℕ) (T : Tables) (own : Bool) (m n x : ℕ) → Falls rank T → ((e : ℕ) → m ≡ suc e → rank e < rank x)
    → piece (drop_plan T own (walk k T m) n).base x ≡ piece T x
unfolding drop_plan walk
plan_apart zero rank T own m n x f b = refl
plan_apart (suc k) rank T own zero n x f b = refl
plan_apart (suc k) rank T own (suc d) n x f b =
    let own' = own_at T own d in
    let m' = (piece T d).next in
    let n' = n - (piece T d).len in
    if_either (λ (p : Plan). piece p.base x ≡ piece T x) (leb (piece T d).len n) (drop_plan T own' (walk k T m') n') (drop_here T own' d n)
    (λ _. plan_apart k rank T own' m' n' x f (λ e q. omega (arith, f d e q, b d refl)))
    (λ _. here_apart rank T own' d n x f (b d refl))

-- the piece in which the cut falls has another reference then
here_two : (rank : ℕ → ℕ) (T : Tables) (d n : ℕ) → Falls rank T → 0 < (piece T d).count → (piece (drop_here T (own_at T true d) d n).base d).count ≢ 1
unfolding drop_here
here_two rank T d zero f u = λ e. omega (arith, ap (λ (q : Piece). q.count) (get_or-set_same T.pieces d (with_count (piece T d) (suc (piece T d).count)) blank (used_in_range_lem T d u)))
here_two rank T d (suc r) f u =
    let T₁ = shared T (suc d) in
    let p₁ = with_count (piece T d) (suc (piece T d).count) in
    let here : piece T₁ d ≡ p₁ = get_or-set_same T.pieces d p₁ blank (used_in_range_lem T d u) in
    let in₁ : d < length T₁.pieces = omega (arith, used_in_range_lem T d u, length-set T.pieces d p₁) in
    if_either (λ (p : Plan). (piece p.base d).count ≢ 1) (own_at T true d)
    (record { base = set_piece T₁ d (shorter (piece T₁ d) (suc r)); more = []; tail = suc d }) _
    (λ _ e. omega (arith, ap (λ (q : Piece). q.count) (get_or-set_same T₁.pieces d (shorter (piece T₁ d) (suc r)) blank in₁), ap (λ (q : Piece). q.count) here))
    (λ t e. t (eq→eqb (piece T d).count 1
    (sym (ap (λ (q : Piece). q.count) (shared_other T (piece T d).next d (λ x q i. (let a = f d x q in let b = ap rank i in omega arith)))) ∙ e)))

take_none : (k : ℕ) → take {A = ℕ} k [] ≡ []
take_none zero = refl
take_none (suc k) = refl

-- where the cut falls in the first piece, none lies before it
none_before : (Z : List ℕ) (B : ℕ) (x : Stretch) (xs : List Stretch) (a n : ℕ) → Good Z B (x ∷ xs) → n < x.len → length (cut_out (x ∷ xs) 0 n) - splits (x ∷ xs) a (a + n) ≡ 0
unfolding cut_out
none_before Z B x xs a zero g l = omega arith
none_before Z B x xs a (suc n) g l = omega (arith, cut_first x xs (suc n) g.1 l, splits_inside x xs a n l)

-- the own pieces from the link m on, once what stays is held: the own ones of those that lie wholly in front
back_count : (rank : ℕ → ℕ) (T : Tables) (Z : List ℕ) (B k m a n : ℕ) → Falls rank T → AllUsed T (walk k T m) → Good Z B (stretches T (walk k T m))
    → own_pieces k (drop_plan T true (walk k T m) n).base m
    ≡ take (length (cut_out (stretches T (walk k T m)) 0 n) - splits (stretches T (walk k T m)) a (a + n)) (own_pieces k T m)
unfolding drop_plan stretches walk own_pieces whether◌then◌else◌
back_count rank T Z B zero m a n f u g = sym (take_none (length (cut_out [] 0 n) - splits [] a (a + n)))
back_count rank T Z B (suc k) zero a n f u g = sym (take_none (length (cut_out [] 0 n) - splits [] a (a + n)))
back_count rank T Z B (suc k) (suc d) a n f u g =
    let x = stretch (piece T d) in
    let l = (piece T d).len in
    let next = (piece T d).next in
    let ds = walk k T next in
    let xs = stretches T ds in
    let own = eqb (piece T d).count 1 in
    let j = length (cut_out (x ∷ xs) 0 n) - splits (x ∷ xs) a (a + n) in
    let mine : Tables → List ℕ = λ B. (whether eqb (piece B d).count 1 then d ∷ own_pieces k B (piece B d).next else []) in
    let none : (B : Tables) → (piece B d).count ≢ 1 → mine B ≡ [] = λ B n. if_F (eqb (piece B d).count 1) (d ∷ own_pieces k B (piece B d).next) [] (λ t. n (eqb→eq (piece B d).count 1 t)) in
    elim (dec_le l n) [
      | yes h ↦ (
          let here : (own : Bool) → piece (drop_plan T own ds (n - l)).base d ≡ piece T d = λ own. plan_apart k rank T own next (n - l) d f (λ e q. f d e q) in
          ap (λ (p : Plan). mine p.base) (if_T (leb l n) (drop_plan T own ds (n - l)) (drop_here T own d n) (le→leb l n h))
          ∙ ⊎_elim
          (λ t. (
          let e = is_true own t in
          let X = (drop_plan T true ds (n - l)).base in
          ap (λ (b : Bool). mine (drop_plan T b ds (n - l)).base) e
          ∙ (λ i. whether eqb (here true i).count 1 then d ∷ own_pieces k X (here true i).next else [])
          ∙ if_T own (d ∷ own_pieces k X next) [] t
          ∙ ap {B = List ℕ} (λ q. d ∷ q) (back_count rank T Z B k next (a + l) (n - l) f u.1 g.3)
          ∙ ap (λ i. take i (d ∷ own_pieces k T next)) (one_less x xs a n g h)
          ∙ ap (take j) (sym (if_T own (d ∷ own_pieces k T next) [] t))))
          (λ t. none (drop_plan T own ds (n - l)).base (λ c. t (eq→eqb (piece T d).count 1 (sym (ap (λ (q : Piece). q.count) (here own)) ∙ c)))
          ∙ sym (take_none j) ∙ ap (take j) (sym (if_F own (d ∷ own_pieces k T next) [] t)))
          (is_dec own))
      | no h ↦
          ap (λ (p : Plan). mine p.base) (if_F (leb l n) (drop_plan T own ds (n - l)) (drop_here T own d n) (λ t. h (leb→le l n t)))
          ∙ none (drop_here T own d n).base (here_two rank T d n f u.0)
          ∙ ap (λ i. take i (whether own then d ∷ own_pieces k T next else [])) (sym (none_before Z B x xs a n g (omega arith)))
    ]
  where
    one_less : (x : Stretch) (xs : List Stretch) (a n : ℕ) → Good Z B (x ∷ xs) → x.len ≤ n
        → suc (length (cut_out xs 0 (n - x.len)) - splits xs (a + x.len) (a + x.len + (n - x.len))) ≡ length (cut_out (x ∷ xs) 0 n) - splits (x ∷ xs) a (a + n)
    one_less x xs a n g h =
        omega (arith, cut_count x xs n g.1 (omega (arith, g.1)), splits_past x xs a n h, splits_cut Z B xs (a + x.len) (n - x.len) g.3)

-- What drop gives back first are the own pieces in front.
pub drop_back_lem : (T : Tables) (s n : ℕ) → SoundNow T → drop_back T s n ≡ front_own T s n
drop_back_lem T s n h =
    let xs = spans T s in
    let g = spans_good T s h in
    let p = (dropped_planned T s n h).still.kept in
    let z : 0 + n ≡ n = omega arith in
    (λ i. own_pieces (p.pieces_size i) (dropped T s n).base (pred (get_or (p.slips_kept i) s 0)))
    ∙ back_count h.0 T T.stock (buffer_total T) (piece_total T) (head_of T s) 0 n h.1.falls (chain_used T s h) g
    ∙ (λ i. take (overlaps_cut T.stock (buffer_total T) xs 0 n g i - splits xs 0 (z i)) (own_of T s))

-- drop of no byte gives nothing back
pub nothing_back : (T : Tables) (s n : ℕ) → SoundNow T → n ≡ 0 → drop_back T s n ≡ []
unfolding cut_out
nothing_back T s n h z =
    let xs = spans T s in
    let none : (xs : List Stretch) → length (cut_out xs 0 0) ≡ 0 = λ xs. no_bytes xs in
    let e : overlaps xs 0 0 n - splits xs 0 n ≡ 0 =
    omega (arith, ap (overlaps xs 0 0) z, overlaps_cut T.stock (buffer_total T) xs 0 0 (spans_good T s h), none xs) in
    drop_back_lem T s n h ∙ ap (λ k. take k (own_of T s)) e
  where
    no_bytes : (xs : List Stretch) → length (cut_out xs 0 0) ≡ 0
    no_bytes [] = refl
    no_bytes (x ∷ xs) = refl

-- ---- the piece in which the cut falls is not given back

-- it has a lower rank than r, is in use, and is no own one from the link m on once what stays is held
cut_stays : (k : ℕ) (rank : ℕ → ℕ) (T : Tables) (own : Bool) (m n r d : ℕ) → Falls rank T → AllUsed T (walk k T m) → ((e : ℕ) → m ≡ suc e → rank e < r)
    → link_past T (walk k T m) n ≡ suc d
    → (rank d < r) × (0 < (piece T d).count) × (Is own → Is (member d (own_pieces k (drop_plan T own (walk k T m) n).base m)) → ⊥)
unfolding link_past drop_plan walk own_pieces member
cut_stays zero rank T own m n r d f u b = λ e. absurd (omega arith)
cut_stays (suc k) rank T own zero n r d f u b = λ e. absurd (omega arith)
cut_stays (suc k) rank T own (suc x) n r d f u b =
    let own' = own_at T own x in
    let l = (piece T x).len in
    let next = (piece T x).next in
    let ds = walk k T next in
    let p = drop_plan T own' ds (n - l) in
    let mine : Tables → List ℕ = λ B. (whether eqb (piece B x).count 1 then x ∷ own_pieces k B (piece B x).next else []) in
    if_both (λ (link : ℕ) (q : Plan). link ≡ suc d → (rank d < r) × (0 < (piece T d).count) × (Is own → Is (member d (mine q.base)) → ⊥))
    (leb l n) (link_past T ds (n - l)) (suc x) p (drop_here T own' x n)
    (λ _ e. (
    let (lower, used, out) = cut_stays k rank T own' next (n - l) (rank x) d f u.1 (λ y q. f x y q) e in
    let here = plan_apart k rank T own' next (n - l) x f (λ y q. f x y q) in (
      omega (arith, b x refl),
      used,
      λ o. if_either (λ (os : List ℕ). Is (member d os) → ⊥) (eqb (piece p.base x).count 1) (x ∷ own_pieces k p.base (piece p.base x).next) []
          (λ t z. ⊎_elim
          (λ q. (let i = ap rank (eqb→eq x d q) in omega arith))
          (λ q. out (and_intro own _ o (subst (λ (y : Piece). Is (eqb y.count 1)) here t)) (subst (λ (y : Piece). Is (member d (own_pieces k p.base y.next))) here q))
          (or_cases (eqb x d) (member d (own_pieces k p.base (piece p.base x).next)) z))
          (λ _ z. z),
    )))
    (λ _ e. (
    let i : x ≡ d = suc_inj e in (
      subst (λ y. rank y < r) i (b x refl),
      subst (λ y. 0 < (piece T y).count) i u.0,
      λ o. (
          let B = (drop_here T own' x n).base in
          if_either (λ (os : List ℕ). Is (member d os) → ⊥) (eqb (piece B x).count 1) (x ∷ own_pieces k B (piece B x).next) []
          (λ t _. here_two rank T x n f u.0 (ap (λ (y : Bool). (piece (drop_here T (own_at T y x) x n).base x).count) (sym (is_true own o)) ∙ eqb→eq (piece B x).count 1 t))
          (λ _ z. z)),
    )))

-- a new piece of drop lies on its buffer
abbrev OnPast : Tables → ℕ → List Stretch → Type 0
OnPast T link [] = Unit {0}
OnPast T link (x ∷ xs) = ((d : ℕ) × (link ≡ suc d) × (x.buffer ≡ (piece T d).buffer)) × OnPast T link xs

here_on : (T : Tables) (own : Bool) (d n : ℕ) → OnPast T (suc d) (drop_here T own d n).more
unfolding drop_here
here_on T own d zero = tt
here_on T own d (suc n) = if_either (λ (p : Plan). OnPast T (suc d) p.more) own _ _ (λ _. tt) (λ _. ((d, refl, refl), tt))

more_on : (T : Tables) (own : Bool) (ds : List ℕ) (n : ℕ) → OnPast T (link_past T ds n) (drop_plan T own ds n).more
unfolding link_past drop_plan
more_on T own [] n = tt
more_on T own (d ∷ ds) n =
    let own' = own_at T own d in
    if_both (λ (link : ℕ) (p : Plan). OnPast T link p.more) (leb (piece T d).len n) _ _ _ _ (λ _. more_on T own' ds (n - (piece T d).len)) (λ _. here_on T own' d n)

-- where that piece stays in use, so does its buffer
on_spared : {fl : List ℕ} (T B E : Tables) (ds : List ℕ) (link : ℕ) (xs : List Stretch) → SoundWith fl E → Frees T E ds → ((d : ℕ) → link ≡ suc d → 0 < (piece E d).count)
    → OnPast T link xs → Spared B E xs
on_spared T B E ds link [] h f u c = tt
on_spared T B E ds link (x ∷ xs) h f u ((d, e, b), c) =
    let used = u d e in
    (λ _. subst (λ (y : ℕ). 0 < buffer_count E y) (f.on d used ∙ sym b) (buffer_pos d used h.1), on_spared T B E ds link xs h f u c)

module _ (S : State) (T : Tables) (s n : ℕ) (l : s < slip_total T) (h : SoundNow T) where
  -- the piece in which the cut falls is in use before, and once the front is given back
  pub past_used : (d : ℕ) → link_past T (chain T s) n ≡ suc d → (0 < (piece T d).count) × (0 < (piece (emptied S (dropped T s n) s).tables d).count)
  past_used d e =
      let p = dropped T s n in
      let pl = dropped_planned T s n h in
      let k = pl.still.kept in
      let m = head_of T s in
      let (_, used, out) = cut_stays (piece_total T) h.0 T true m n (suc (h.0 (pred m))) d h.1.falls (chain_used T s h)
      (λ y q. (let w = ap (λ x. h.0 (pred x)) q in omega arith)) e in
      let no : Is (member d (drop_back T s n)) → ⊥ =
      subst₂ (λ i (q : List ℕ). Is (member d (own_pieces i p.base (pred (get_or q s 0)))) → ⊥) (sym k.pieces_size) (sym k.slips_kept) (out tt) in (
        used,
        not_zero _ (λ t. ⊎_elim no (λ z. omega (arith, eqb→eq (piece T d).count 0 z))
            (or_cases (member d (drop_back T s n)) (is_free T d) (subst Is ((emptied_frees S p s pl l).which d) t))),
      )

  -- so no piece is copied from a buffer that is set free
  pub dropped_spared : Spared (dropped T s n).base (emptied S (dropped T s n) s).tables (dropped T s n).more
  dropped_spared =
      let p = dropped T s n in
      let pl = dropped_planned T s n h in
      on_spared T p.base (emptied S p s).tables (drop_back T s n) (link_past T (chain T s) n) p.more (emptied_sound S p s pl l) (emptied_frees S p s pl l)
      (λ d e. (past_used d e).1) (more_on T true (chain T s) n)

-- the slip then holds the new piece, where there is one, and what stays
pub drop_gives : (s n : ℕ) (S : State) (b : s < slip_total S.tables) (h : SoundNow S.tables)
    → length (dropped S.tables s n).more ≤ length (drop_back S.tables s n) + length (free_pieces S.tables)
    → Gives S.tables (under_freed S (dropped S.tables s n) s).tables s
    (take (length (dropped S.tables s n).more) (free_with S.tables (drop_back S.tables s n)) ++ (dropped_leaves S.tables s n b h).rest) (drop_out (spans S.tables s) n)
drop_gives s n S b h r =
    let T = S.tables in
    let v = dropped_leaves T s n b h in
    gives_as refl v.covers (freed_gives S (dropped T s n) s (dropped_planned T s n h) b v.rest v.meets v.others r)

-- ---- drop is lawful

here_sizes : (T : Tables) (own : Bool) (d n : ℕ) → Sizes T (drop_here T own d n).base
unfolding drop_here
here_sizes T own d zero = shared_sizes T (suc d)
here_sizes T own d (suc r) =
    if_either (λ (p : Plan). Sizes T p.base) own _ _
    (λ _. then_sizes (shared_sizes T (suc d)) (piece_set (shared T (suc d)) d _)) (λ _. shared_sizes T (piece T d).next)

pub plan_sizes : (T : Tables) (own : Bool) (ds : List ℕ) (n : ℕ) → Sizes T (drop_plan T own ds n).base
unfolding drop_plan
plan_sizes T own [] n = same_sizes T
plan_sizes T own (d ∷ ds) n =
    let own' = own_at T own d in
    if_either (λ (p : Plan). Sizes T p.base) (leb (piece T d).len n) _ _ (λ _. plan_sizes T own' ds (n - (piece T d).len)) (λ _. here_sizes T own' d n)

drop_leaves : (x : Name) (n : ℕ) → Leaving (drop_call x n)
unfolding drop_after
drop_leaves x n S h f al =
    let T = S.tables in
    let s = x.slip in
    let (b, z) = first_named T x _ al.early in
    let p = dropped T s n in
    let d = dropped_planned T s n h in
    let v = dropped_leaves T s n b h in
    if_either (λ (X : State). SoundNow X.tables → Reading S X (reading s (drop n (reads S s)) ∷ [])) (eqb n 0) S (under_freed S p s)
    (λ e _. same_reading S s (drop n (reads S s)) z (ap (λ k. drop k (reads S s)) (eqb→eq n 0 e)))
    (λ _ h'. (
    gives_reading S (under_freed S p s) S.storage s _ _ (drop n (reads S s)) (drop_gives s n S b h al.pieces_room) h h'
    (freed_spans S p s d b f (dropped_spared S T s n b h) v.rest v.meets v.others h al.pieces_room) (λ u. refl)
    (drop_out_contents T.stock (buffer_total T) S.storage (spans T s) n f (spans_good T s h))))

-- a new piece lies on a buffer of the chain
pub dropped_none : (T : Tables) (s n : ℕ) → s < slip_total T → SoundNow T → NoneOf (is_unheld T) (buffers_of (dropped T s n).more)
dropped_none T s n b h =
    let v = dropped_leaves T s n b h in
    let p = dropped T s n in
    let e = sym (map-append (λ (x : Stretch). x.buffer) p.more (stretches p.base v.rest)) ∙ ap buffers_of v.covers in
    none_front (is_unheld T) (buffers_of p.more) _ (subst (NoneOf (is_unheld T)) (sym e) (drop_out_none (is_unheld T) (spans T s) n (spans_none T s h)))

drop_stays : (x : Name) (n : ℕ) → Staying (drop_call x n)
unfolding drop_after stored
drop_stays x n S h f a =
    let T = S.tables in
    let s = x.slip in
    let b = (first_named T x _ a.early).0 in
    maybe_stays S (under_freed S (dropped T s n) s) (eqb n 0) 0
    (freed_stays S [] (dropped T s n) s 0 (dropped_planned T s n h) b f (dropped_spared S T s n b h))

drop_takes : (x : Name) (n : ℕ) → Taking (drop_call x n)
unfolding drop_after
drop_takes x n S h a =
    let T = S.tables in
    let s = x.slip in
    let (b, z) = first_named T x _ a.early in
    let p = dropped T s n in
    let v = dropped_leaves T s n b h in
    if_either (λ (X : State). SoundNow X.tables → Took T X.tables (giving (drop_back T s n) (length p.more) 0) s) (eqb n 0) S (under_freed S p s)
    (λ t _. subst₂ (λ j ds. Took T T (giving ds j 0) s) (sym (ap length (drop_none T true (chain T s) n (eqb→eq n 0 t)))) (sym (nothing_back T s n h (eqb→eq n 0 t))) (nothing_taken T s h))
    (λ _ _. took_freed S p s (dropped_planned T s n h) b v.rest v.meets v.others (drop_out (spans T s) n) (length p.more) 0 h z refl (roomy a) v.covers
    (passing_none (is_unheld T) (buffers_of (drop_out (spans T s) n)) (drop_out_none (is_unheld T) (spans T s) n (spans_none T s h))))

drop_caused : (x : Name) (n : ℕ) → Causing (drop_call x n)
unfolding found whether◌then◌else◌
drop_caused x n S h f = record {
  below = omega arith;
  slip = slip_one S.tables x;
  same = twice_one x.slip;
  long = none_less 512;
  range = past_is S h f x.slip n;
  narrow = none_less 0;
  asked = λ z. (let T = S.tables in λ i. giving (drop_back_lem T x.slip n h i) (drop_count T x.slip n h i) 0);
}

pub drop_lawful : (x : Name) (n : ℕ) → Lawful (drop_call x n)
unfolding drop_after
drop_lawful x n = record {
  codes = λ S. omega arith;
  sizes = λ S. (let T = S.tables in maybe_sizes S (under_freed S (dropped T x.slip n) x.slip) (eqb n 0) (freed_sizes S (dropped T x.slip n) x.slip (plan_sizes T true (chain T x.slip) n)));
  ages = λ S _. (λ v. absurd v, λ v. v, tt);
  stays = drop_stays x n;
  sound = λ S h a. drop_sound x.slip n S (first_named S.tables x _ a.early).0 h;
  known = λ S _. (inl refl, tt);
  caused = drop_caused x n;
  leaves = drop_leaves x n;
  takes = drop_takes x n;
}
