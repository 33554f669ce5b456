-- append: soundness is kept, what its slip then holds, and that it is lawful. Assumes nothing.
use mathlib.Core.Path.{◌≡◌, refl, sym, ap, subst, ◌∙◌}
use mathlib.Core.Logic.{◌≢◌, inl, inr, ⊎_elim}
use mathlib.Core.Bool.{Bool, false, true, ◌||◌}
use mathlib.Core.List.{List, [], ◌∷◌, ◌++◌, append_assoc, append-nil, map-append}
use Prim.Native.Nat.{ℕ, zero, suc, pred, ◌<◌, ◌≤◌, ◌+◌, ◌-◌}
use native.Mathlib.Omega.{arith}
use native.Mathlib.Decide.{ℕ_discrete}
use lib.ListN.{length, get_or, set, length-set, take, take-append-drop, length-drop}
use lib.Seq.{get_or-set_other, get_or-set_same}
use lib.Dec.{eqb, eqb→eq}
use Rattle.kinds.specs.Serial.{older}
use Rattle.rules.specs.Basics.{Is, whether◌then◌else◌, last_of, passing}
use Rattle.rules.specs.Tables.{Piece, Tables, blank, slip, head_of, holding, vacant, slip_total, piece_total, buffer_total, set_slip, with_next}
use Rattle.rules.specs.Tables.{with_serials, piece}
use Rattle.rules.specs.Chain.{State, follow, own_pieces, spans, Stretch, chain, stretches, with_tables, contents, reads, own_of, stretch, total}
use Rattle.rules.specs.Room.{free_pieces, is_free, is_unheld, is_vacant}
use Rattle.rules.specs.Release.{turned, relinked}
use Rattle.rules.specs.Build.{built, built_link, behind_own}
use Rattle.rules.specs.Rule.{Name, reading, vacating, want}
use Rattle.rules.specs.Append.{not_own, joined, appended, append_after, append_call, one_empty, is_empty}
use Rattle.rules.specs.Takes.{Took}
use Rattle.rules.proofs.Logic.{if_either, if_F, or_cases, is_false, eq→eqb}
use Rattle.rules.proofs.Moves.{SoundNow, SoundWith, hit, used_in_range_lem, by_place, reorder, slip_move}
use Rattle.rules.proofs.Rank.{head_pos, next_pos}
use Rattle.rules.proofs.Release.{Shared, unshared, release_shared}
use Rattle.rules.proofs.Build.{OwnTo, OwnList, with_tail, own_pieces_lem, own_list_still, built_sound, built_kept, built_other, behind_sound, Good}
use Rattle.rules.proofs.Room.{free_pieces_lem, passing_front, passing_none}
use Rattle.rules.proofs.Chain.{spans_good, good_drop, built_own, used_not_free, AllUsed, chain_used}
use Rattle.rules.proofs.Meets.{chain_meets, agree_all, agree_stretches, slip_same, built_same, built_meets, built_agree, Same, same_trans, Meets, stop, go}
use Rattle.rules.proofs.Hang.{Run, Gives, gives_as, gives_from, behind_gives, own_run_lem, ones_used, own_ones, run_still, own_front, gives_chain, gives_spans, moved_spans, stretches_length}
use Rattle.rules.proofs.Contents.{contents_append, Fit}
use Rattle.rules.proofs.Recount.{head_ends}
use Rattle.rules.proofs.Codes.{both_named}
use Rattle.rules.proofs.Caused.{found, slip_both, twice_both, none_less}
use Rattle.rules.proofs.Sizes.{Sizes, behind_sizes, built_sizes, slip_set, then_sizes}
use Rattle.rules.proofs.After.{Reading, at_by, at_there, empty_spans, gives_reading, gone_reading, held_false, same_reading, then_reading, reads_length}
use Rattle.rules.proofs.Takes.{buffers_of, new_front, no_slips, old_as, old_none, spans_none, took, took_none, used_none, drop_none}
use Rattle.rules.proofs.Aged.{aged_sound, aged_reading, aged_stays, aged_took}
use Rattle.rules.proofs.Lawful.{Lawful, Leaving, Causing, aged_by}
use Rattle.rules.proofs.Storage.{behind_keeps, keeps_spans, fit_by}
use Rattle.rules.proofs.Stays.{StorageStays, NoneFreed, built_held, built_only, stays_as, behind_stays}

-- ---- before the hanging

module _ (T : Tables) (a b : ℕ) where
  -- the tables then: b is vacant, and its head stands behind new pieces for those of a that are not own
  abbrev pub ready : Tables
  ready = built (set_slip T b vacant) (free_pieces T) (not_own T a) (head_of T b)

  abbrev pub ready_link : ℕ
  ready_link = built_link (free_pieces T) (not_own T a) (head_of T b)

-- the entry of a stands as it was, its own pieces are own still, and the link to the first new piece is held
pub record Ready (T : Tables) (a b : ℕ) : Type 0 where
  pub same : slip (ready T a b) a ≡ slip T a
  pub below : a < slip_total (ready T a b)
  pub own : OwnList (ready T a b) (head_of (ready T a b) a) (own_of T a)
  pub held : SoundWith (ready_link T a b ∷ []) (ready T a b)

pub join_ready : (T : Tables) (a b : ℕ) → a ≢ b → a < slip_total T → b < slip_total T → SoundNow T → Ready T a b
join_ready T a b ne la lb (rank, h) =
    let m = head_of T b in
    let own = own_of T a in
    let rest = not_own T a in
    let fs = free_pieces T in
    let T₁ : Tables = set_slip T b vacant in
    let k = (built_kept T₁ fs rest m).slips_kept in
    let sa : slip (ready T a b) a ≡ slip T a = ap (λ (q : List ℕ). get_or q a 0) k ∙ get_or-set_other T.slips b a 0 0 ne in
    let o = own_list_still T (ready T a b) (head_of T a) own (λ d c. built_own T₁ fs rest m (free_pieces_lem T₁) d c) (own_pieces_lem (piece_total T) (head_of T a) T) in
    record {
      same = sa;
      below = omega (arith, ap length k, length-set T.slips b 0);
      own = subst (λ x. OwnList (ready T a b) (pred x) own) (sym sa) o;
      held = built_sound T₁ fs rest m {fl = []} (free_pieces_lem T₁) (good_drop T.stock (buffer_total T) (length own) (spans T a) (spans_good T a (rank, h)))
          (rank, slip_move {fl = []} b 0 lb (reorder (λ x. omega arith) h));
    }

-- ---- what append gives up is shared

-- the link behind the own pieces: after the last, or the first where there is none
abbrev pub link_behind : Tables → ℕ → List ℕ → ℕ
link_behind T n [] = n
link_behind T n (d ∷ ds) = (piece T (last_of d ds)).next

behind_next : (T : Tables) (d : ℕ) (own : List ℕ) → link_behind T (suc d) (d ∷ own) ≡ link_behind T (piece T d).next own
behind_next T d [] = refl
behind_next T d (e ∷ es) = refl

-- it is where follows of next past the own pieces lead
pub own_follow : (k n : ℕ) (T : Tables) → follow T (length (own_pieces k T n)) n ≡ link_behind T n (own_pieces k T n)
unfolding own_pieces follow
own_follow zero n T = refl
own_follow (suc k) zero T = refl
own_follow (suc k) (suc d) T =
    if_either (λ (own : List ℕ). follow T (length own) (suc d) ≡ link_behind T (suc d) own) (eqb (piece T d).count 1) (d ∷ own_pieces k T (piece T d).next) []
    (λ _. own_follow k (piece T d).next T ∙ sym (behind_next T d (own_pieces k T (piece T d).next))) (λ _. refl)

-- there the own pieces stop
own_stops : (k n : ℕ) (T : Tables) → follow T k n ≡ 0 → (d : ℕ) → link_behind T n (own_pieces k T n) ≡ suc d → (piece T d).count ≢ 1
unfolding own_pieces follow
own_stops zero n T z d e = absurd (omega arith)
own_stops (suc k) zero T z d e = absurd (omega arith)
own_stops (suc k) (suc c) T z d q =
    if_either (λ (own : List ℕ). link_behind T (suc c) own ≡ suc d → (piece T d).count ≢ 1) (eqb (piece T c).count 1) (c ∷ own_pieces k T (piece T c).next) []
    (λ _ e. own_stops k (piece T c).next T z d (sym (behind_next T c (own_pieces k T (piece T c).next)) ∙ e))
    (λ n e one. n (eq→eqb _ 1 (ap (λ x. (piece T (pred x)).count) e ∙ one)))
    q

-- so the link behind them is shared
pub behind_shared : (T : Tables) (a : ℕ) → SoundNow T → Shared T (link_behind T (head_of T a) (own_of T a))
behind_shared T a h = at (link_behind T (head_of T a) (own_of T a)) refl
  where
    used : (own : List ℕ) (d : ℕ) → link_behind T (head_of T a) own ≡ suc d → 0 < (piece T d).count
    used [] d e = head_pos a d h.1 e
    used (c ∷ cs) d e = next_pos (last_of c cs) d h.1 e

    at : (n : ℕ) → link_behind T (head_of T a) (own_of T a) ≡ n → Shared T n
    at zero e = tt
    at (suc d) e = (let u = used (own_of T a) d e in let n = own_stops (piece_total T) (head_of T a) T (head_ends T h a) d e in omega arith)

-- the tables once the link m is behind own pieces
abbrev pub linked_behind : Tables → ℕ → List ℕ → ℕ → Tables
linked_behind T s [] m = set_slip T s (holding m)
linked_behind T s (d ∷ ds) m = with_tail T (last_of d ds) m

-- the last own piece has one reference
own_one : (k : ℕ) (T : Tables) (n l : ℕ) → OwnTo k T n l → (piece T l).count ≡ 1
own_one zero T n l (e, c) = c
own_one (suc k) T n l (x, e, c, o) = own_one k T (piece T x).next l o

-- what is shared is so where counts are the same
shared_still : (T T' : Tables) (n : ℕ) → ((x : ℕ) → (piece T' x).count ≡ (piece T x).count) → Shared T n → Shared T' n
shared_still T T' zero e h = tt
shared_still T T' (suc d) e h = omega (arith, e d)

-- what stood there, and is shared, is so still
linked_shared : (T : Tables) (s m : ℕ) (own : List ℕ) → OwnList T (head_of T s) own → Shared T (link_behind T (head_of T s) own)
    → Shared (linked_behind T s own m) (link_behind T (head_of T s) own)
linked_shared T s m [] o h = shared_still T (set_slip T s (holding m)) (head_of T s) (λ x. refl) h
linked_shared T s m (d ∷ ds) (j, o) h =
    let l = last_of d ds in
    shared_still T (with_tail T l m) (piece T l).next
    (by_place T.pieces l (with_next (piece T l) m) blank (used_in_range_lem T l (omega (arith, own_one j T (head_of T s) l o)))
    (λ q x. q.count ≡ (piece T x).count) refl (λ x _. refl)) h

-- so a count is lowered and nothing else is given up
behind_lowers : (S : State) (s m : ℕ) (own : List ℕ) → Shared (linked_behind S.tables s own m) (link_behind S.tables (head_of S.tables s) own)
    → behind_own S s own m ≡ with_tables S (unshared (linked_behind S.tables s own m) (link_behind S.tables (head_of S.tables s) own))
unfolding behind_own turned relinked
behind_lowers S s m [] h = release_shared (with_tables S (set_slip S.tables s (holding m))) (head_of S.tables s) h
behind_lowers S s m (d ∷ ds) h = release_shared (with_tables S (with_tail S.tables (last_of d ds) m)) (piece S.tables (last_of d ds)).next h

-- ---- soundness

joined_sound : (a b : ℕ) (S : State) → a ≢ b → a < slip_total S.tables → b < slip_total S.tables → SoundNow S.tables → SoundNow (joined a b S).tables
unfolding joined
joined_sound a b S ne la lb h =
    let T = S.tables in
    let r = join_ready T a b ne la lb h in
    behind_sound (with_tables S (ready T a b)) a (ready_link T a b) (own_of T a) r.below r.own r.held

appended_sound : (a b : ℕ) (S : State) → a ≢ b → a < slip_total S.tables → b < slip_total S.tables → SoundNow S.tables → SoundNow (appended a b S).tables
unfolding appended
appended_sound a b S ne la lb (rank, h) =
    let T = S.tables in
    if_either (λ (X : State). SoundNow X.tables) (eqb (head_of T a) 0) _ _
    (λ t. (
      rank,
      reorder
          (λ x. omega (arith, ap (λ n. hit n x) (ap pred (get_or-set_other T.slips b a 0 0 ne) ∙ eqb→eq (head_of T a) 0 t)))
          (slip_move {fl = []} a (slip T b) (subst (λ x. a < x) (sym (length-set T.slips b 0)) la) (slip_move {fl = []} b 0 lb (reorder (λ x. omega arith) h))),
    ))
    (λ _. if_either (λ (X : State). SoundNow X.tables) (eqb (head_of T b) 0) _ _
    (λ t. (rank, reorder (λ x. omega (arith, ap (λ n. hit n x) (eqb→eq (head_of T b) 0 t))) (slip_move {fl = []} b 0 lb (reorder (λ x. omega arith) h))))
    (λ _. joined_sound a b S ne la lb (rank, h)))

pub append_sound : (a b : ℕ) (S : State) → a ≢ b → a < slip_total S.tables → b < slip_total S.tables → SoundNow S.tables → SoundNow (append_after a b S).tables
append_sound a b S ne la lb h = aged_sound b (appended_sound a b S ne la lb h)

-- ---- append gives no buffer back

-- before the hanging the link behind the own pieces is as it was, and is shared
ready_behind : (T : Tables) (a b : ℕ) → Ready T a b → link_behind (ready T a b) (head_of (ready T a b) a) (own_of T a) ≡ link_behind T (head_of T a) (own_of T a)
ready_behind T a b r = at (own_of T a) (own_pieces_lem (piece_total T) (head_of T a) T)
  where
    at : (own : List ℕ) → OwnList T (head_of T a) own → link_behind (ready T a b) (head_of (ready T a b) a) own ≡ link_behind T (head_of T a) own
    at [] o = ap pred r.same
    at (d ∷ ds) (j, o) =
        (built_own (set_slip T b vacant) (free_pieces T) (not_own T a) (head_of T b) (free_pieces_lem (set_slip T b vacant)) (last_of d ds)
        (own_one j T (head_of T a) (last_of d ds) o)).1

ready_shared : (T : Tables) (a b n : ℕ) → Shared T n → Shared (ready T a b) n
ready_shared T a b zero h = tt
ready_shared T a b (suc d) h =
    let T₁ : Tables = set_slip T b vacant in
    let fs = free_pieces T in
    subst (λ (q : Piece). 1 < q.count) (sym (built_other T₁ fs (not_own T a) (head_of T b) d (used_not_free T₁ d fs (omega arith) (free_pieces_lem T₁)))) h

module _ (a b : ℕ) (S : State) (ne : a ≢ b) (la : a < slip_total S.tables) (lb : b < slip_total S.tables) (h : SoundNow S.tables) where
  -- the tables once the new pieces are linked, and the link to the first piece that they replace
  abbrev pub join_linked : Tables
  join_linked = linked_behind (ready S.tables a b) a (own_of S.tables a) (ready_link S.tables a b)

  abbrev pub join_old : ℕ
  join_old = link_behind S.tables (head_of S.tables a) (own_of S.tables a)

  -- it is shared
  pub joined_shared : Shared join_linked join_old
  joined_shared =
      let T = S.tables in
      let R = ready T a b in
      let r = join_ready T a b ne la lb h in
      let e = ready_behind T a b r in
      subst (Shared join_linked) e
      (linked_shared R a (ready_link T a b) (own_of T a) r.own (subst (Shared R) (sym e) (ready_shared T a b join_old (behind_shared T a h))))

  -- A join links, and lowers the count of the first piece that it replaces.
  pub joined_is : joined a b S ≡ with_tables S (unshared join_linked join_old)
  unfolding joined
  joined_is =
      let T = S.tables in
      let R = ready T a b in
      let e = ready_behind T a b (join_ready T a b ne la lb h) in
      behind_lowers (with_tables S R) a (ready_link T a b) (own_of T a) (subst (Shared join_linked) (sym e) joined_shared)
      ∙ ap (λ n. with_tables S (unshared join_linked n)) e

-- the counts of buffers are those before the hanging
joined_counts : (T : Tables) (a m n : ℕ) (own : List ℕ) → (unshared (linked_behind T a own m) n).counts ≡ T.counts
joined_counts T a m zero [] = refl
joined_counts T a m zero (d ∷ ds) = refl
joined_counts T a m (suc n) [] = refl
joined_counts T a m (suc n) (d ∷ ds) = refl

-- Append leaves every byte of storage, and sets no buffer free.
pub append_holds : (a b : ℕ) (S : State) → a ≢ b → a < slip_total S.tables → b < slip_total S.tables → SoundNow S.tables
    → ((append_after a b S).storage ≡ S.storage) × NoneFreed S.tables (append_after a b S).tables
unfolding appended
append_holds a b S ne la lb h =
    let T = S.tables in
    let P : State → Type 0 = λ X. (X.storage ≡ S.storage) × NoneFreed T X.tables in
    if_either P (eqb (head_of T a) 0) _ _ (λ _. (refl, λ x u. u))
    (λ _. if_either P (eqb (head_of T b) 0) _ _ (λ _. (refl, λ x u. u))
    (λ _. subst P (sym (joined_is a b S ne la lb h)) (
      refl,
      λ x u. subst (λ (q : List ℕ). 0 < get_or q x 0) (sym (joined_counts (ready T a b) a (ready_link T a b) (link_behind T (head_of T a) (own_of T a)) (own_of T a)))
          (built_held (set_slip T b vacant) (free_pieces T) (not_own T a) (head_of T b) x u),
    )))

-- ---- what append leaves

-- the own stretches and the others are the chain of a
own_and_not : (T : Tables) (a : ℕ) → SoundNow T → stretches T (own_of T a) ++ not_own T a ≡ spans T a
own_and_not T a h = ap {B = List Stretch} (λ xs. xs ++ not_own T a) (own_front T a (piece_total T) h) ∙ take-append-drop (length (own_of T a)) (spans T a)

used_still : (T T' : Tables) (l : List ℕ) → ((d : ℕ) → piece T' d ≡ piece T d) → AllUsed T l → AllUsed T' l
used_still T T' [] e u = tt
used_still T T' (d ∷ ds) e u = (subst (λ p. 0 < p.count) (sym (e d)) u.0, used_still T T' ds e u.1)

-- From the tables in which b is vacant: a holds its own pieces, new ones for the others, and then b's.
pub joined_gives : (a b : ℕ) (S : State) → a ≢ b → a < slip_total S.tables → b < slip_total S.tables → 0 < slip S.tables a → SoundNow S.tables → length (not_own S.tables a) ≤ length (free_pieces S.tables)
    → Gives (set_slip S.tables b vacant) (joined a b S).tables a
    (own_of S.tables a ++ (take (length (not_own S.tables a)) (free_pieces S.tables) ++ chain S.tables b)) (spans S.tables a ++ spans S.tables b)
unfolding joined
joined_gives a b S ne la lb z (rank, h) r =
    let T = S.tables in
    let m = head_of T b in
    let own = own_of T a in
    let rest = not_own T a in
    let fs = free_pieces T in
    let T₁ : Tables = set_slip T b vacant in
    let h₁ = slip_move {fl = []} b 0 lb (reorder (λ x. omega arith) h) in
    let T₂ = ready T a b in
    let k = (built_kept T₁ fs rest m).slips_kept in
    let y = join_ready T a b ne la lb (rank, h) in
    let ones = own_ones (piece_total T) (head_of T a) T in
    let run = own_run_lem (piece_total T) (head_of T a) T in
    let cb = slip_same T b 0 m (chain T b) (chain_meets T b (rank, h)) in
    let mb = built_meets T₁ fs rest m (chain T b) (free_pieces_lem T₁) r (used_still T T₁ (chain T b) (λ d. refl) (chain_used T b (rank, h))) cb.0 in
    let kept = agree_stretches T₁ T₂ own (built_agree T₁ fs rest m own (free_pieces_lem T₁) (used_still T T₁ own (λ d. refl) (ones_used T own ones))) ∙ agree_stretches T T₁ own (agree_all T T₁ own (λ d. (refl, refl))) in
    let g = behind_gives (with_tables S T₂) a (built_link fs rest m) run.0 own (take (length rest) fs ++ chain T b)
    y.below
    y.own
    (subst (λ x. Run T₂ (pred x) own run.0) (sym y.same) (run_still T T₂ (head_of T a) run.0 own (λ d c. (built_own T₁ fs rest m (free_pieces_lem T₁) d c).1) ones run.1))
    (subst (λ x. 0 < x) (sym y.same) z)
    y.held
    mb.0 in
    gives_from {T = T₁} (λ u _. ap (λ (q : List ℕ). get_or q u 0) k) (λ u _. built_same T₁ fs rest m (head_of T₁ u) (rank, h₁) (free_pieces_lem T₁) (λ d q. head_pos u d h₁ q))
    (gives_as refl
    ((λ i. kept i ++ (mb.1 ∙ ap {B = List Stretch} (λ xs. rest ++ xs) cb.1) i)
    ∙ sym (append_assoc (stretches T own) rest (spans T b)) ∙ ap {B = List Stretch} (λ xs. xs ++ spans T b) (own_and_not T a (rank, h))) g)

-- ---- append is lawful

ready_sizes : (T : Tables) (a b : ℕ) → Sizes T (ready T a b)
ready_sizes T a b = then_sizes (slip_set T b vacant) (built_sizes (set_slip T b vacant) (free_pieces T) (not_own T a) (head_of T b))

joined_sizes : (a b : ℕ) (S : State) → Sizes S.tables (joined a b S).tables
unfolding joined
joined_sizes a b S =
    let T = S.tables in
    then_sizes (ready_sizes T a b) (behind_sizes (with_tables S (ready T a b)) a (own_of T a) (ready_link T a b))

joined_stays : (a b : ℕ) (S : State) → a ≢ b → a < slip_total S.tables → b < slip_total S.tables → SoundNow S.tables
    → Fit S.tables.stock (buffer_total S.tables) S.storage → StorageStays S (joined a b S) 0
unfolding joined
joined_stays a b S ne la lb h f =
    let T = S.tables in
    let r = join_ready T a b ne la lb h in
    let none = drop_none (is_unheld T) (length (own_of T a)) (spans T a) (spans_none T a h) in
    behind_stays S (ready T a b) a (ready_link T a b) (own_of T a) (ready_sizes T a b)
    (built_only T (set_slip T b vacant) (free_pieces T) (not_own T a) (head_of T b) 0 refl (passing_none (is_unheld T) (buffers_of (not_own T a)) none))
    (built_held (set_slip T b vacant) (free_pieces T) (not_own T a) (head_of T b)) r.below r.own r.held f

appended_stays : (a b : ℕ) (S : State) → a ≢ b → a < slip_total S.tables → b < slip_total S.tables → SoundNow S.tables
    → Fit S.tables.stock (buffer_total S.tables) S.storage → StorageStays S (appended a b S) 0
unfolding appended
appended_stays a b S ne la lb h f =
    let T = S.tables in
    if_either (λ (X : State). StorageStays S X 0) (eqb (head_of T a) 0) _ _ (λ _. stays_as S _ 0 refl (λ x u. u))
    (λ _. if_either (λ (X : State). StorageStays S X 0) (eqb (head_of T b) 0) _ _ (λ _. stays_as S _ 0 refl (λ x u. u)) (λ _. joined_stays a b S ne la lb h f))

appended_sizes : (a b : ℕ) (S : State) → Sizes S.tables (appended a b S).tables
unfolding appended
appended_sizes a b S =
    let T = S.tables in
    if_either (λ (X : State). Sizes T X.tables) (eqb (head_of T a) 0) _ _
    (λ _. then_sizes (slip_set T b vacant) (slip_set (set_slip T b vacant) a (slip T b)))
    (λ _. if_either (λ (X : State). Sizes T X.tables) (eqb (head_of T b) 0) _ _ (λ _. slip_set T b vacant) (λ _. joined_sizes a b S))

-- where neither chain is empty append wants a piece for each that is not own
wanted_rest : (T : Tables) (a b : ℕ) → (whether one_empty T a b then 0 else length (not_own T a)) ≤ length (free_pieces T) → (Is (eqb (head_of T a) 0) → ⊥) → (Is (eqb (head_of T b) 0) → ⊥) → length (not_own T a) ≤ length (free_pieces T)
wanted_rest T a b r na nb =
    omega (arith, if_F (one_empty T a b) 0 (length (not_own T a)) (λ t. ⊎_elim na nb (or_cases (eqb (head_of T a) 0) (eqb (head_of T b) 0) t)))

-- what holds of every branch of two choices by the same tests
if_three : {A B : Type 0} (P : A → B → Type 0) (b c : Bool) (k m n : A) (x y : B) → P k x → P m x → P n y → P (whether b then k else whether c then m else n) (whether b || c then x else y)
unfolding whether◌then◌else◌
if_three P true c k m n x y p q r = p
if_three P false true k m n x y p q r = q
if_three P false false k m n x y p q r = r

-- Both slips are held, and b is vacated first.
module _ (a b : ℕ) (S : State) (la : a < slip_total S.tables) (za : 0 < slip S.tables a) (lb : b < slip_total S.tables) (zb : 0 < slip S.tables b)
    (ne : a ≢ b) (h : SoundNow S.tables) where
  abbrev first : State
  first = with_tables S (set_slip S.tables b vacant)

  gone : slip first.tables b ≡ 0
  gone = get_or-set_same S.tables.slips b 0 0 lb

  stay : (u : ℕ) → u ≢ b → slip first.tables u ≡ slip S.tables u
  stay u n = get_or-set_other S.tables.slips b u 0 0 n

  -- the link that it held is the operation's own then
  first_sound : SoundWith (head_of S.tables b ∷ []) first.tables
  first_sound = (h.0, slip_move {fl = []} b 0 lb (reorder (λ x. omega arith) h.1))

  first_reading : Reading S first (vacating b ∷ [])
  first_reading = gone_reading S first b (λ u. refl) gone stay (λ u _. slip_same S.tables b 0 (head_of S.tables u)) h first_sound

  -- an empty a takes b's head
  abbrev taker : Tables
  taker = set_slip first.tables a (slip S.tables b)

  taker_mine : slip taker a ≡ slip S.tables b
  taker_mine = get_or-set_same first.tables.slips a (slip S.tables b) 0 (omega (arith, length-set S.tables.slips b 0))

  taker_other : (u : ℕ) → u ≢ a → slip taker u ≡ slip first.tables u
  taker_other u n = get_or-set_other first.tables.slips a u (slip S.tables b) 0 n

  taker_same : (n : ℕ) → Same S.tables taker n
  taker_same n = same_trans (slip_same S.tables b 0 n) (slip_same first.tables a (slip S.tables b) n)

  -- ---- what slips read

  -- a reads both where it is empty
  taker_reading : head_of S.tables a ≡ 0 → SoundNow taker → Reading first (with_tables S taker) (reading a (reads S a ++ reads S b) ∷ [])
  unfolding contents
  taker_reading e h' =
      let T = S.tables in
      let st = S.storage in
      let T₁ : Tables = first.tables in
      let none : reads S a ≡ [] = ap (contents T.stock st) (empty_spans T a e) in
      record {
        bytes = at_by a (reads S a ++ reads S b) (reads first) (reads (with_tables S taker))
            (ap (contents T.stock st) (moved_spans a b taker_mine (taker_same (head_of T b)) h h') ∙ ap {B = List ℕ} (λ xs. xs ++ reads S b) (sym none))
            (λ u n. ap (contents T.stock st) (moved_spans u u (taker_other u n) (slip_same T₁ a (slip T b) (head_of T₁ u)) first_sound h'));
        vacancy = at_by a false (is_vacant T₁) (is_vacant taker) (sym (held_false taker a (omega (arith, taker_mine))))
            (λ u n. ap (λ v. eqb v 0) (taker_other u n));
      }

  -- where b is
  stayer_reading : head_of S.tables b ≡ 0 → Reading first first (reading a (reads S a ++ reads S b) ∷ [])
  unfolding contents
  stayer_reading e =
      let none : reads S b ≡ [] = ap (contents S.tables.stock S.storage) (empty_spans S.tables b e) in
      same_reading first a (reads S a ++ reads S b) (omega (arith, stay a ne))
      (ap {B = List ℕ} (λ xs. reads S a ++ xs) none ∙ append-nil (reads S a) ∙ sym (first_reading.bytes a ∙ at_there b a [] (reads S) ne))

  -- and where neither is
  joined_reading : Fit S.tables.stock (buffer_total S.tables) S.storage → SoundNow (joined a b S).tables
      → length (not_own S.tables a) ≤ length (free_pieces S.tables)
      → Reading first (joined a b S) (reading a (reads S a ++ reads S b) ∷ [])
  unfolding joined
  joined_reading f h' r =
      let T = S.tables in
      let y = join_ready T a b ne la lb h in
      let z = ready_sizes T a b in
      let k = behind_keeps (with_tables S (ready T a b)) a (ready_link T a b) (own_of T a) y.below y.own y.held (fit_by S.storage z f) in
      gives_reading first (joined a b S) S.storage a _ _ (reads S a ++ reads S b) (joined_gives a b S ne la lb za h r) first_sound h'
      (keeps_spans T.stock z.stock_kept k h') (λ u. refl)
      (contents_append T.stock S.storage (spans T a) (spans T b))

  -- ---- what is taken

  -- a vacant slip is neither
  not_a : (u : ℕ) → slip S.tables u ≡ 0 → u ≢ a
  not_a u z e = omega (arith, ap (slip S.tables) e)

  not_b : (u : ℕ) → slip S.tables u ≡ 0 → u ≢ b
  not_b u z e = omega (arith, ap (slip S.tables) e)

  none_a : SoundNow taker → Took S.tables taker (want 0 0 0) a
  none_a h' =
      let T = S.tables in
      took_none T taker a h'
      (λ u. elim (ℕ_discrete u a) [
        | yes e ↦ old_as T taker u b h h' (ap (slip taker) e ∙ taker_mine) (taker_same (head_of T b))
        | no e ↦
            elim (ℕ_discrete u b) [
              | yes k ↦ old_none T taker u h' (taker_other u e ∙ ap (slip first.tables) k ∙ gone)
              | no k ↦ old_as T taker u u h h' (taker_other u e ∙ stay u k) (taker_same (head_of T u))
            ]
      ])
      (λ u z. taker_other u (not_a u z) ∙ stay u (not_b u z) ∙ z)

  none_b : SoundNow first.tables → Took S.tables first.tables (want 0 0 0) a
  none_b h' =
      let T = S.tables in
      let T' : Tables = first.tables in
      took_none T T' a h'
      (λ u. elim (ℕ_discrete u b) [ yes e ↦ old_none T T' u h' (ap (slip T') e ∙ gone) | no e ↦ old_as T T' u u h h' (stay u e) (slip_same T b 0 (head_of T u)) ])
      (λ u z. stay u (not_b u z) ∙ z)

  joined_takes : SoundNow (joined a b S).tables → length (not_own S.tables a) ≤ length (free_pieces S.tables) → Took S.tables (joined a b S).tables (want 0 (length (not_own S.tables a)) 0) a
  joined_takes h' r =
      let T = S.tables in
      let T₁ : Tables = first.tables in
      let T' = (joined a b S).tables in
      let g = joined_gives a b S ne la lb za h r in
      let own = own_of T a in
      let new = take (length (not_own T a)) (free_pieces T) in
      took T T' 0 (length (not_own T a)) 0 a h' (omega arith)
      (λ u n. elim (ℕ_discrete u b) [
        | yes e ↦ old_none T T' u h' (g.entries u n ∙ ap (slip T₁) e ∙ gone)
        | no e ↦
            old_as T T' u u h h' (g.entries u n ∙ stay u e)
            (same_trans (slip_same T b 0 (head_of T u)) (subst (λ x. Same T₁ T' (pred x)) (stay u e) (g.others u n)))
      ])
      (no_slips T T' (λ u z. g.entries u (not_a u z) ∙ stay u (not_b u z) ∙ z))
      (ap (passing (is_free T)) (gives_chain g h')
      ∙ passing_front (is_free T) own (new ++ chain T b) (used_none T own (ones_used T own (own_ones (piece_total T) (head_of T a) T)))
      ∙ new_front T (length (not_own T a)) (chain T b) (chain_used T b h))
      (ap (λ (xs : List Stretch). passing (is_unheld T) (buffers_of xs)) (gives_spans g h')
      ∙ ap (passing (is_unheld T)) (map-append (λ (x : Stretch). x.buffer) (spans T a) (spans T b))
      ∙ passing_front (is_unheld T) (buffers_of (spans T a)) (buffers_of (spans T b)) (spans_none T a h)
      ∙ passing_none (is_unheld T) (buffers_of (spans T b)) (spans_none T b h))

  append_takes : SoundNow (appended a b S).tables → (whether one_empty S.tables a b then 0 else length (not_own S.tables a)) ≤ length (free_pieces S.tables)
      → Took S.tables (appended a b S).tables (want 0 (whether one_empty S.tables a b then 0 else length (not_own S.tables a)) 0) a
  unfolding appended
  append_takes =
      let T = S.tables in
      if_three (λ (X : State) (k : ℕ). SoundNow X.tables → k ≤ length (free_pieces T) → Took T X.tables (want 0 k 0) a)
      (eqb (head_of T a) 0) (eqb (head_of T b) 0) _ _ _ 0 (length (not_own T a)) (λ h' _. none_a h') (λ h' _. none_b h') joined_takes

append_leaves : (x y : Name) → Leaving (append_call x y)
unfolding appended
append_leaves x y S h f al _ =
    let T = S.tables in
    let a = x.slip in
    let b = y.slip in
    let ((la, za), (lb, zb), ne) = both_named T x y al.early in
    let r = first_reading a b S la za lb zb ne h in
    let P : State → Type 0 = λ X. SoundNow X.tables → Reading S X (reading a (reads S a ++ reads S b) ∷ vacating b ∷ []) in
    aged_reading S (appended a b S) b (reading a (reads S a ++ reads S b) ∷ vacating b ∷ [])
    (if_either P (eqb (head_of T a) 0) _ _
    (λ e h'. then_reading refl r (taker_reading a b S la za lb zb ne h (eqb→eq (head_of T a) 0 e) h'))
    (λ na. if_either P (eqb (head_of T b) 0) _ _
    (λ e _. then_reading refl r (stayer_reading a b S la za lb zb ne h (eqb→eq (head_of T b) 0 e)))
    (λ nb h'. then_reading refl r (joined_reading a b S la za lb zb ne h f h' (wanted_rest T a b (omega (arith, al.pieces_room)) na nb))))
    (appended_sound a b S ne la lb h))

-- a chain is empty where it has no bytes
meets_none : (T : Tables) (n : ℕ) (l : List ℕ) → Meets T n l → Good T.stock (buffer_total T) (stretches T l)
    → eqb n 0 ≡ eqb (total (stretches T l)) 0
unfolding stretches total
meets_none T n l stop g = refl
meets_none T n l (go {d = d} {l = ds} c) g =
    let k = (stretch (piece T d)).len + total (stretches T ds) in
    is_false (eqb (suc d) 0) (λ t. omega (arith, eqb→eq (suc d) 0 t)) ∙ sym (is_false (eqb k 0) (λ t. omega (arith, eqb→eq k 0 t, g.1)))

empty_test : (S : State) → SoundNow S.tables → Fit S.tables.stock (buffer_total S.tables) S.storage → (s : ℕ)
    → is_empty S.tables s ≡ eqb (length (reads S s)) 0
empty_test S h f s =
    let T = S.tables in
    meets_none T (head_of T s) (chain T s) (chain_meets T s h) (spans_good T s h) ∙ ap (λ k. eqb k 0) (sym (reads_length S h f s))

append_caused : (x y : Name) → Causing (append_call x y)
unfolding found whether◌then◌else◌
append_caused x y S h f = record {
  below = omega arith;
  slip = slip_both S.tables x y;
  same = twice_both x.slip y.slip;
  long = none_less 512;
  range = none_less _;
  narrow = none_less 0;
  asked = λ z. (
      let T = S.tables in
      let a = x.slip in
      let p = empty_test S h f a in
      let q = empty_test S h f y.slip in
      let n : length (not_own T a) ≡ length (chain T a) - length (own_of T a) =
      length-drop (length (own_of T a)) (spans T a) ∙ ap (λ k. k - length (own_of T a)) (stretches_length T (chain T a)) in
      λ i. want 0 (whether p i || q i then 0 else n i) 0);
}

append_sizes : (x y : Name) (S : State) → Sizes (with_serials S.tables (aged_by ((append_call x y).changes S) S.tables.serials)) (append_after x.slip y.slip S).tables
append_sizes x y S =
    let z = appended_sizes x.slip y.slip S in
    let b = y.slip in
    record {
      slips_size = z.slips_size;
      pieces_size = z.pieces_size;
      counts_size = z.counts_size;
      serials_kept = ap (λ (ks : List ℕ). set ks b (older (get_or ks b 0))) z.serials_kept;
      stock_kept = z.stock_kept;
    }

pub append_lawful : (x y : Name) → Lawful (append_call x y)
append_lawful x y =
    let a = x.slip in
    let b = y.slip in
    record {
      codes = λ S. omega arith;
      sizes = append_sizes x y;
      ages = λ S al. (
          let ((_, _), (lb, _), ne) = both_named S.tables x y al.early in
          (λ v. absurd v, λ v. subst Is (at_there b a true (λ u. false) ne) v, (λ _. lb, λ v. v, tt)));
      stays = λ S h f al. (
          let ((la, _), (lb, _), ne) = both_named S.tables x y al.early in
          aged_stays S (appended a b S) b 0 (appended_stays a b S ne la lb h f));
      sound = λ S h al. (let ((la, _), (lb, _), ne) = both_named S.tables x y al.early in append_sound a b S ne la lb h);
      known = λ S _. (inl (inl refl), (inl (inr refl), tt));
      caused = append_caused x y;
      leaves = append_leaves x y;
      takes = λ S h al _. (
          let ((la, za), (lb, zb), ne) = both_named S.tables x y al.early in
          aged_took b (append_takes a b S la za lb zb ne h (appended_sound a b S ne la lb h) (omega (arith, al.pieces_room))));
    }
