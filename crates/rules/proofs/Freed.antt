-- A slip whose old chain is released first, and whose new chain is then made: what is given back, and what the slip then holds. Assumes nothing.
use mathlib.Core.Path.{◌≡◌, refl, sym, ap, ap₂, subst, subst₂, ◌∙◌}
use mathlib.Core.Logic.{◌≢◌, ⊎_elim}
use mathlib.Core.Bool.{Bool, true, false, ◌||◌}
use mathlib.Core.List.Memᴰ
use mathlib.Core.List.{List, [], ◌∷◌, ◌++◌, Memᴰ}
use Prim.Native.Nat.{ℕ, zero, suc, ◌+◌, ◌-◌, ◌≤◌, ◌<◌, pred}
use native.Mathlib.Decide.{ℕ_discrete}
use native.Mathlib.Omega.{arith}
use lib.ListN.{length, get_or, take, length-set}
use lib.Seq.{get_or-set_same, get_or-set_other}
use lib.Dec.{eqb, eqb→eq}
use Rattle.rules.specs.Basics.{Is, whether◌then◌else◌, bit, sum_to, places, passing, member}
use Rattle.rules.specs.Tables.{Piece, Tables, blank, slip, piece, buffer_count, head_of, holding, slip_total, piece_total, buffer_total, set_slip, with_count}
use Rattle.rules.specs.Chain.{State, Stretch, chain, stretches, spans, own_pieces, own_of, bytes_of, contents, with_tables, with_storage}
use Rattle.rules.specs.Storage.{whole_of, Zeroed}
use Rattle.rules.specs.Room.{is_free, is_free_with, is_unheld, free_pieces, free_with, free_buffers, new_buffers}
use Rattle.rules.specs.Release.{another, lowered, freed, release_in, release, turned}
use Rattle.rules.specs.Build.{Plan, built, under_new, under_freed, stored}
use Rattle.rules.specs.Rule.{giving}
use Rattle.rules.specs.Takes.{Took}
use Rattle.rules.proofs.Logic.{if_T, if_F, is_true, is_false, is_dec, same_test, eq→eqb, not_zero, bit_T, bit_F, or_left, or_right}
use Rattle.rules.proofs.Moves.{SoundBy, SoundWith, SoundNow, hit, hit_same, sum_set, used_in_range_lem, by_place, freed_tables, reorder, slip_move, free_move}
use Rattle.rules.proofs.Rank.{head_pos}
use Rattle.rules.proofs.Release.{held_pos, some_other, last_one, turned_sound}
use Rattle.rules.proofs.Build.{Good, Kept, Still, still_refl, Planned, new_sound}
use Rattle.rules.proofs.Room.{NoneOf, free_pieces_lem, passing_back, places_count_0}
use Rattle.rules.proofs.Chain.{AllUsed, good_append, stretches_good}
use Rattle.rules.proofs.Meets.{Meets, chain_meets, meets_one, Same, same_trans, same_refl, meets_used, Safe}
use Rattle.rules.proofs.Hang.{Gives, gives_as, gives_from, gives_chain, gives_spans, moved_spans, turned_keep, turned_entry, turned_entries, turned_others, new_gives}
use Rattle.rules.proofs.Contents.{Fit}
use Rattle.rules.proofs.Sizes.{Sizes, then_sizes, turned_sizes, new_sizes, new_length}
use Rattle.rules.proofs.Storage.{held_bytes, Keeps, Spared, spared_append, spared_used, fit_by, turned_keeps, keeps_contents, keeps_stretches}
use Rattle.rules.proofs.Takes.{Roomy, Old, buffers_of, old_as, used_none, member_in, in_member, new_pass, took_with, no_slips}
use Rattle.rules.proofs.Stays.{StorageStays, stays_new, built_count, built_held}

-- ---- what a release gives back: own pieces

-- the own pieces from a link on whose pieces have ranks below r are those of tables with the same pieces of such ranks
own_low : (k r : ℕ) (rank : ℕ → ℕ) (T T' : Tables) (n : ℕ) → ((x e : ℕ) → (piece T x).next ≡ suc e → rank e < rank x) → ((e : ℕ) → n ≡ suc e → rank e < r)
    → ((x : ℕ) → rank x < r → piece T' x ≡ piece T x) → own_pieces k T' n ≡ own_pieces k T n
unfolding own_pieces
own_low zero r rank T T' n f b h = refl
own_low (suc k) r rank T T' zero f b h = refl
own_low (suc k) r rank T T' (suc d) f b h =
    let l = b d refl in
    let e = h d l in
    let more = own_low k r rank T T' (piece T d).next f (λ x q. (let z = f d x q in omega arith)) h in
    (λ i. whether eqb (e i).count 1 then d ∷ own_pieces k T' (e i).next else []) ∙ (λ i. whether eqb (piece T d).count 1 then d ∷ more i else [])

-- From T to T' the pieces ds, which were in use, are given back; no other piece is freed or taken.
pub record Frees (T T' : Tables) (ds : List ℕ) : Type 0 where
  pub which : (d : ℕ) → is_free T' d ≡ is_free_with T ds d
  pub many : length (free_pieces T') ≡ length ds + length (free_pieces T)
  -- and a piece that stays in use stays on its buffer
  pub on : (d : ℕ) → 0 < (piece T' d).count → (piece T' d).buffer ≡ (piece T d).buffer

-- the same pieces are free, and each lies on the same buffer
abbrev FreeAs : Tables → Tables → Type 0
FreeAs T T' = (piece_total T' ≡ piece_total T) × ((d : ℕ) → is_free T' d ≡ is_free T d) × ((d : ℕ) → (piece T' d).buffer ≡ (piece T d).buffer)

free_count : (T T' : Tables) → FreeAs T T' → length (free_pieces T') ≡ length (free_pieces T)
free_count T T' (z, e, _) = λ i. length (places (λ d. e d i) 0 (z i))

frees_none : (T T' : Tables) → FreeAs T T' → Frees T T' []
unfolding member
frees_none T T' a = record { which = a.1; many = omega (arith, free_count T T' a); on = λ d _. a.2 d }

frees_from : (T T₁ T' : Tables) (ds : List ℕ) → FreeAs T T₁ → Frees T₁ T' ds → Frees T T' ds
frees_from T T₁ T' ds a f = record { which = λ d. f.which d ∙ ap (λ b. member d ds || b) (a.1 d); many = f.many ∙ ap (λ n. length ds + n) (free_count T T₁ a); on = λ d u. f.on d u ∙ a.2 d }

or_swap : (a b c : Bool) → (a || (b || c)) ≡ ((b || a) || c)
or_swap true true c = refl
or_swap true false c = refl
or_swap false true c = refl
or_swap false false c = refl

-- a piece that keeps a reference is not free; one that loses its last is
lowered_as : {rank : ℕ → ℕ} {fl : List ℕ} (T : Tables) (d : ℕ) → SoundBy rank (suc d ∷ fl) T → Is (another T d) → FreeAs T (lowered T d)
lowered_as T d h t =
    let two = some_other T d t in (
      length-set T.pieces d (with_count (piece T d) ((piece T d).count - 1)),
      by_place T.pieces d (with_count (piece T d) ((piece T d).count - 1)) blank (used_in_range_lem T d (omega arith)) (λ q x. eqb q.count 0 ≡ is_free T x)
          (is_false _ (λ z. omega (arith, eqb→eq ((piece T d).count - 1) 0 z)) ∙ sym (is_false _ (λ z. omega (arith, eqb→eq (piece T d).count 0 z)))) (λ x _. refl),
      by_place T.pieces d (with_count (piece T d) ((piece T d).count - 1)) blank (used_in_range_lem T d (omega arith)) (λ q x. q.buffer ≡ (piece T x).buffer) refl (λ x _. refl),
    )

freed_one : (T : Tables) (d : ℕ) → (piece T d).count ≡ 1 → ((x : ℕ) → is_free (freed_tables T d) x ≡ (eqb d x || is_free T x)) × (length (free_pieces (freed_tables T d)) ≡ suc (length (free_pieces T)))
freed_one T d one =
    let l = used_in_range_lem T d (omega arith) in (
      by_place T.pieces d blank blank l (λ q x. eqb q.count 0 ≡ (eqb d x || is_free T x))
          (sym (is_true _ (or_left (eqb d d) _ (eq→eqb d d refl))))
          (λ x n. sym (ap (λ b. b || is_free T x) (is_false (eqb d x) (λ t. n (sym (eqb→eq d x t)))))),
      (let w : Piece → ℕ = λ q. bit (eqb q.count 0) in
          let z = bit_F (eqb (piece T d).count 0) (λ t. omega (arith, eqb→eq (piece T d).count 0 t)) in
          omega (
            arith,
            places_count_0 (is_free (freed_tables T d)) (piece_total (freed_tables T d)),
            places_count_0 (is_free T) (piece_total T),
            sum_set T.pieces d blank blank w l,
          )),
    )

-- one piece more in front
frees_cons : {T' : Tables} (d : ℕ) (T : Tables) (ds : List ℕ) → (piece T d).count ≡ 1 → Frees (freed_tables T d) T' ds → Frees T T' (d ∷ ds)
unfolding member
frees_cons {T'} d T ds one i =
    let f = freed_one T d one in
    record {
      which = λ x. i.which x ∙ ap (λ b. member x ds || b) (f.0 x) ∙ or_swap (member x ds) (eqb d x) (is_free T x);
      many = omega (arith, i.many, f.1);
      on = λ x u. elim (ℕ_discrete x d) [
        | yes e ↦ absurd (omega (
          arith,
          eqb→eq (piece T' x).count 0
              (subst Is (sym (i.which x)) (or_right (member x ds) _ (subst Is (sym (f.0 x)) (or_left (eqb d x) _ (eq→eqb d x (sym e)))))),
        ))
        | no e ↦ i.on x u ∙ ap (λ (q : Piece). q.buffer) (get_or-set_other T.pieces d x blank blank e)
      ];
    }

release_in_frees : (k n : ℕ) {rank : ℕ → ℕ} {fl : List ℕ} (S : State) → SoundBy rank (n ∷ fl) S.tables
    → Frees S.tables (release_in k S n).tables (own_pieces k S.tables n)
unfolding release_in own_pieces
release_in_frees zero n S h = frees_none S.tables S.tables (refl, λ d. refl, λ d. refl)
release_in_frees (suc k) zero S h = frees_none S.tables S.tables (refl, λ d. refl, λ d. refl)
release_in_frees (suc k) (suc d) {rank} {fl} S h =
    let T = S.tables in
    let next = (piece T d).next in
    let own = eqb (piece T d).count 1 in
    ⊎_elim
    (λ t. (
    let two = some_other T d t in
    subst₂ (λ (X : State) (ds : List ℕ). Frees T X.tables ds) (sym (if_T (another T d) _ _ t))
    (sym (if_F own (d ∷ own_pieces k T next) [] (λ o. omega (arith, eqb→eq (piece T d).count 1 o)))) (frees_none T (lowered T d) (lowered_as T d h t))))
    (λ t. (
    let one = last_one T d (held_pos d h) t in
    let T₁ = freed_tables T d in
    let ih = release_in_frees k next {fl = fl} (freed S d) (free_move d one h) in
    let same : own_pieces k T₁ next ≡ own_pieces k T next = own_low k (rank d) rank T T₁ next h.falls (λ e q. h.falls d e q)
    (λ x l. get_or-set_other T.pieces d x blank blank (λ q. (let z = ap rank q in omega arith))) in
    subst₂ (λ (X : State) (ds : List ℕ). Frees T X.tables ds) (sym (if_F (another T d) _ _ t)) (sym (if_T own (d ∷ own_pieces k T next) [] (eq→eqb _ 1 one)))
    (frees_cons d T (own_pieces k T next) one (subst (Frees T₁ (release_in k (freed S d) next).tables) same ih))))
    (is_dec (another T d))

-- Release of a held link gives back the own pieces from there on.
pub release_frees : {fl : List ℕ} (S : State) (n : ℕ) → SoundWith (n ∷ fl) S.tables → Frees S.tables (release S n).tables (own_pieces (piece_total S.tables) S.tables n)
unfolding release
release_frees S n h = release_in_frees (piece_total S.tables) n S h.1

-- ---- the slip is emptied

-- the state in which what stays is held, slip s is empty, and its old chain is released
abbrev pub emptied : State → Plan → ℕ → State
emptied S p s = turned (with_tables S p.base) s (holding 0)

module _ {T : Tables} (S : State) (p : Plan) (s : ℕ) (h : Planned T p) (l : s < slip_total T) where
  abbrev before : State
  before = with_tables S p.base

  abbrev after : Tables
  after = (emptied S p s).tables

  pub base_below : s < slip_total p.base
  base_below = subst (λ (q : List ℕ). s < length q) (sym h.still.kept.slips_kept) l

  pub base_held : SoundWith (pred (holding 0) ∷ p.tail ∷ []) p.base
  base_held = (h.held.0, reorder (λ d. omega arith) h.held.1)

  -- what stays is held all the while
  pub emptied_sound : SoundWith (p.tail ∷ []) after
  emptied_sound = turned_sound {fl = p.tail ∷ []} before s (holding 0) base_below base_held

  pub emptied_sizes : Sizes T after
  emptied_sizes =
      let k = h.still.kept in
      then_sizes (record { slips_size = ap length k.slips_kept; pieces_size = k.pieces_size; counts_size = k.counts_size; serials_kept = k.serials_kept; stock_kept = k.stock_kept })
      (turned_sizes before s (holding 0))

  base_free : FreeAs T p.base
  base_free = (
    h.still.kept.pieces_size,
    λ d. same_test _ _
        (λ t. ⊎_elim (λ z. z) (λ n. absurd (omega (arith, h.still.used_still d (not_zero (piece T d).count n), eqb→eq (piece p.base d).count 0 t))) (is_dec (is_free T d)))
        (λ t. eq→eqb _ 0 (h.still.free_still d (eqb→eq (piece T d).count 0 t))),
    h.still.on_still,
  )

  -- what is given back: the pieces of s that are own once what stays is held
  pub emptied_frees : Frees T after (own_of p.base s)
  unfolding turned
  emptied_frees =
      let B = p.base in
      let n = head_of B s in
      let B₁ = set_slip B s (holding 0) in
      let q = slip_move {fl = p.tail ∷ []} s (holding 0) base_below base_held.1 in
      let same : own_pieces (piece_total B) B₁ n ≡ own_of B s =
      own_low (piece_total B) (suc (base_held.0 (pred n))) base_held.0 B B₁ n base_held.1.falls (λ e z. (let w = ap (λ x. base_held.0 (pred x)) z in omega arith)) (λ x _. refl) in
      frees_from T B after (own_of B s) base_free
      (frees_from B B₁ after (own_of B s) (refl, λ d. refl, λ d. refl) (subst (Frees B₁ after) same (release_frees (with_tables S B₁) n (base_held.0, q))))

  -- the pieces then free are those free or given back
  pub emptied_list : free_pieces after ≡ free_with T (own_of p.base s)
  emptied_list = λ i. places (λ d. emptied_frees.which d i) 0 (emptied_sizes.pieces_size i)

  -- ---- and the new chain is made

  abbrev pub made_there : Plan
  made_there = record { base = after; more = p.more; tail = p.tail }

  pub planned_there : Planned after made_there
  planned_there =
      let z = emptied_sizes in
      record { still = still_refl after; good = subst₂ (λ (Z : List ℕ) (n : ℕ). Good Z n p.more) (sym z.stock_kept) (sym z.counts_size) h.good; held = emptied_sound }

  there_below : s < slip_total after
  there_below = omega (arith, emptied_sizes.slips_size, l)

  -- soundness is kept
  pub freed_sound : SoundNow (under_freed S p s).tables
  unfolding under_freed
  freed_sound =
      new_sound made_there (free_pieces after) s planned_there (free_pieces_lem after) there_below
      (ap pred (turned_entry before s (holding 0) base_below base_held))

  module _ (rest : List ℕ) (r : Meets p.base p.tail rest) (o : (u : ℕ) → u ≢ s → Same T p.base (head_of T u)) where
    -- what stays is met as before
    pub rest_same : Meets after p.tail rest × (stretches after rest ≡ stretches p.base rest)
    rest_same = turned_keep before s (holding 0) base_below base_held p.tail (λ x i. omega (arith, ap (λ y. hit y x) i, hit_same x)) rest r

    pub others_same : (u : ℕ) → u ≢ s → Same T after (head_of T u)
    others_same u n =
        same_trans (o u n)
        (subst (λ (q : List ℕ). Same p.base after (pred (get_or q u 0))) h.still.kept.slips_kept (turned_others before s (holding 0) base_below base_held u n))

    pub entries_same : (u : ℕ) → u ≢ s → slip after u ≡ slip T u
    entries_same u n = turned_entries before s (holding 0) base_below base_held u n ∙ ap (λ (q : List ℕ). get_or q u 0) h.still.kept.slips_kept

    -- slip s holds the new pieces, of the lowest numbers free or given back, and what stays
    pub freed_gives : length p.more ≤ length (own_of p.base s) + length (free_pieces T)
        → Gives T (under_freed S p s).tables s (take (length p.more) (free_with T (own_of p.base s)) ++ rest) (p.more ++ stretches p.base rest)
    unfolding under_freed
    freed_gives room =
        let k : length p.more ≤ length (free_pieces after) = omega (arith, room, emptied_frees.many) in
        let g = new_gives made_there (free_pieces after) rest planned_there (free_pieces_lem after) k rest_same.0 s there_below (λ u _. same_refl after (head_of after u)) in
        gives_as (λ i. take (length p.more) (emptied_list i) ++ rest) (ap {B = List Stretch} (λ xs. p.more ++ xs) rest_same.1) (gives_from {T = T} entries_same others_same g)

    -- what stays, and what other slips hold, is in use once the chain is released
    pub rest_used : AllUsed after rest
    rest_used = meets_used emptied_sound.1 (λ d e. held_pos d (subst (λ n. SoundBy emptied_sound.0 (n ∷ []) after) e emptied_sound.1)) rest_same.0

    pub others_used : SoundNow T → (u : ℕ) → u ≢ s → AllUsed after (chain T u)
    others_used hT u n =
        meets_used emptied_sound.1 (λ d e. head_pos u d emptied_sound.1 (ap pred (entries_same u n) ∙ e))
        (others_same u n (chain T u) (chain_meets T u hT)).0

    -- It takes the lowest numbers of those free or given back, in chain order.
    pub took_freed : (xs : List Stretch) (k m : ℕ) → SoundNow T → 0 < slip T s → k ≡ length p.more → Roomy T (giving (own_of p.base s) k m)
        → p.more ++ stretches p.base rest ≡ xs → passing (is_unheld T) (buffers_of xs) ≡ take m (free_buffers T)
        → Took T (under_freed S p s).tables (giving (own_of p.base s) k m) s
    took_freed xs k m hT v e r c q =
        let T' = (under_freed S p s).tables in
        let g = freed_gives (omega (arith, e, r.1)) in
        let f : is_free after ≡ is_free_with T (own_of p.base s) = λ i d. emptied_frees.which d i in
        took_with T T' (giving (own_of p.base s) k m) s freed_sound r
        (λ u n. (
        let same = meets_one (chain_meets T' u freed_sound)
        (subst (λ x. Meets T' (pred x) (chain T u)) (sym (g.entries u n)) (g.others u n (chain T u) (chain_meets T u hT)).0) in
        subst₂ NoneOf f (sym same) (used_none after (chain T u) (others_used hT u n))))
        (λ u n. old_as T T' u u hT freed_sound (g.entries u n) (g.others u n))
        (no_slips T T' (λ u z. g.entries u (λ i. omega (arith, ap (slip T) i)) ∙ z))
        (ap (passing (is_free_with T (own_of p.base s))) (gives_chain g freed_sound)
        ∙ passing_back (is_free_with T (own_of p.base s)) (take (length p.more) (free_with T (own_of p.base s))) rest (subst (λ t. NoneOf t rest) f (used_none after rest rest_used))
        ∙ new_pass (is_free_with T (own_of p.base s)) (piece_total T) (length p.more) ∙ ap (λ j. take j (free_with T (own_of p.base s))) (sym e))
        (ap (λ (ys : List Stretch). passing (is_unheld T) (buffers_of ys)) (gives_spans g freed_sound ∙ c) ∙ q)

-- ---- storage

-- of the buffers on which stretches lie, none is set free
spared_at : (T T' : Tables) (b : ℕ) (xs : List Stretch) → Spared T T' xs → Memᴰ b (buffers_of xs) → 0 < buffer_count T b → 0 < buffer_count T' b
spared_at T T' b [] a m = absurd (Memᴰ.not-nil m)
spared_at T T' b (x ∷ xs) a m =
    ⊎_elim (λ e. subst (λ (y : ℕ). 0 < buffer_count T y → 0 < buffer_count T' y) (sym e) a.0) (λ z. spared_at T T' b xs a.1 z) (Memᴰ.cases_cons m)

module _ {T : Tables} (S : State) (p : Plan) (s : ℕ) (h : Planned T p) (l : s < slip_total T) (f : Fit T.stock (buffer_total T) S.storage) where
  base_sizes : Sizes T p.base
  base_sizes = let k = h.still.kept in record { slips_size = ap length k.slips_kept; pieces_size = k.pieces_size; counts_size = k.counts_size; serials_kept = k.serials_kept; stock_kept = k.stock_kept }

  -- every byte stays of a buffer that is not set free
  pub emptied_keeps : Keeps (with_tables S p.base) (emptied S p s)
  emptied_keeps = turned_keeps {fl = p.tail ∷ []} (with_tables S p.base) s (holding 0) (base_below S p s h l) (base_held S p s h l) (fit_by S.storage base_sizes f)

  module _ (a : Spared p.base (emptied S p s).tables p.more) where
    -- no piece is copied from a buffer that is set free, so every slip reads as it did in the storage before
    pub freed_spans : (rest : List ℕ) → Meets p.base p.tail rest → ((u : ℕ) → u ≢ s → Same T p.base (head_of T u)) → SoundNow T
        → length p.more ≤ length (own_of p.base s) + length (free_pieces T) → (u : ℕ)
        → contents T.stock (under_freed S p s).storage (spans (under_freed S p s).tables u) ≡ contents T.stock S.storage (spans (under_freed S p s).tables u)
    unfolding under_freed
    freed_spans rest r o hT room u =
        let E = emptied S p s in
        let T' = (under_freed S p s).tables in
        let z = base_sizes in
        let g = freed_gives S p s h l rest r o room in
        let h' = freed_sound S p s h l in
        let held = (emptied_sound S p s h l).1 in
        let same = (rest_same S p s h l rest r o).1 in
        let stays : (xs ys : List Stretch) → ys ≡ xs → contents p.base.stock E.storage xs ≡ contents p.base.stock S.storage xs
        → contents T.stock E.storage ys ≡ contents T.stock S.storage ys =
        λ xs ys e c. subst₂ (λ (Z : List ℕ) (xs : List Stretch). contents Z E.storage xs ≡ contents Z S.storage xs) z.stock_kept (sym e) c in
        elim (ℕ_discrete u s) [
          | yes e ↦
              stays (p.more ++ stretches E.tables rest) (spans T' u) (ap (spans T') e ∙ gives_spans g h' ∙ ap {B = List Stretch} (λ ys. p.more ++ ys) (sym same))
              (keeps_contents (p.more ++ stretches E.tables rest) emptied_keeps
              (good_append _ _ p.more (stretches E.tables rest)
              (subst₂ (λ Z n. Good Z n p.more) (sym z.stock_kept) (sym z.counts_size) h.good)
              (subst₂ (λ Z n. Good Z n (stretches E.tables rest)) emptied_keeps.sizes.stock_kept emptied_keeps.sizes.counts_size
              (stretches_good rest held (rest_used S p s h l rest r o))))
              (spared_append p.base E.tables p.more (stretches E.tables rest) a (spared_used p.base rest held (rest_used S p s h l rest r o))))
          | no e ↦
              stays (stretches E.tables (chain T u)) (spans T' u)
              (moved_spans u u (g.entries u e) (g.others u e) hT h' ∙ sym (others_same S p s h l rest r o u e (chain T u) (chain_meets T u hT)).1)
              (keeps_stretches (chain T u) emptied_keeps held (others_used S p s h l rest r o hT u e))
        ]

-- new buffers are written first
pub freed_stays : (S : State) (xs : List ℕ) (p : Plan) (s k : ℕ) → Planned S.tables p → s < slip_total S.tables
    → Fit S.tables.stock (buffer_total S.tables) S.storage
    → let S₁ = with_storage S (stored S.tables.stock S.storage (new_buffers S.tables k) xs) in
    Spared p.base (emptied S₁ p s).tables p.more → StorageStays S (under_freed S₁ p s) k
unfolding under_freed under_new
freed_stays S xs p s k h l f a =
    let T = S.tables in
    let S₁ = with_storage S (stored T.stock S.storage (new_buffers T k) xs) in
    let E = emptied S₁ p s in
    let q = emptied_keeps S₁ p s h l (new_length S k xs f ∙ f) in
    let w = stays_new S (with_tables S₁ p.base) k xs f refl (λ b u. omega (arith, ap (λ (q : List ℕ). get_or q b 0) h.still.counts_still)) in
    let z = base_sizes S₁ p s h l (new_length S k xs f ∙ f) in
    let cs : (b : ℕ) → buffer_count p.base b ≡ buffer_count T b = λ b. ap (λ (q : List ℕ). get_or q b 0) h.still.counts_still in
    record {
      as_long = q.as_long ∙ w.as_long;
      others = λ b i n g.
          subst (λ (Z : List ℕ). bytes_of Z E.storage (whole_of Z b) ≡ bytes_of Z S₁.storage (whole_of Z b)) z.stock_kept
          (q.others b (omega (arith, z.counts_size))
          (λ u. ⊎_elim (λ t. spared_at p.base E.tables b p.more a (member_in b (buffers_of p.more) t) u)
          (λ t. omega (arith, cs b, g (omega (arith, cs b)), built_count E.tables (free_pieces E.tables) p.more p.tail b (λ m. t (in_member b (buffers_of p.more) m))))
          (is_dec (member b (buffers_of p.more)))))
          ∙ w.others b i n (λ u. omega (arith, cs b));
      clean = λ b i u e.
          subst (λ (Z : List ℕ). Zeroed Z E.storage b) z.stock_kept
          (q.clean b (omega (arith, z.counts_size)) (omega (arith, cs b))
          (elim (ℕ_discrete (buffer_count E.tables b) 0) [
            | yes v ↦ v
            | no v ↦ absurd (omega (arith, built_held E.tables (free_pieces E.tables) p.more p.tail b (omega arith)))
          ]));
    }
