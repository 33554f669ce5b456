-- Where a new chain is hung: what its slip then covers, and that all other slips keep theirs. Assumes nothing.
use mathlib.Core.Path.{◌≡◌, refl, sym, ap, subst, ◌∙◌}
use mathlib.Core.Logic.{◌≢◌}
use mathlib.Core.List.{List, [], ◌∷◌, ◌++◌}
use Prim.Native.Nat.{ℕ, zero, suc, ◌≤◌, ◌<◌, pred}
use native.Mathlib.Nat.{suc_inj}
use native.Mathlib.Omega.{arith}
use lib.ListN.{length, get_or, take}
use lib.Seq.{get_or-set_same, get_or-set_other, take_at}
use lib.Dec.{eqb, eqb→eq}
use Rattle.rules.specs.Basics.{last_of}
use Rattle.rules.specs.Tables.{Piece, Tables, blank, slip, piece, head_of, holding, slip_total, piece_total, set_slip, with_next}
use Rattle.rules.specs.Chain.{Stretch, State, chain, stretch, stretches, spans, own_pieces, with_tables}
use Rattle.rules.specs.Release.{release, turned, relinked}
use Rattle.rules.specs.Build.{Plan, made, made_link, under_new, under_old, behind_own}
use Rattle.rules.proofs.Logic.{if_either}
use Rattle.rules.proofs.Moves.{SoundBy, SoundWith, SoundNow, hit, hit_same, by_place, used_in_range_lem, reorder, slip_move}
use Rattle.rules.proofs.Rank.{head_pos}
use Rattle.rules.proofs.Release.{held_pos, release_slips}
use Rattle.rules.proofs.Build.{Free, OwnTo, OwnList, Planned, plan_built, made_slips, free_of_still, with_tail, own_still, tail_sound}
use Rattle.rules.proofs.Chain.{AllUsed}
use Rattle.rules.proofs.Meets.{Meets, stop, go, chain_meets, meets_one, meets_used, alike, agree_but, Same, same_by, same_trans, slip_same, Safe, head_safe, release_same, built_same, built_meets, own_apart}

-- From T to T', slip s comes to hold the pieces l, which cover xs; every other slip holds what it held.
pub record Gives (T T' : Tables) (s : ℕ) (l : List ℕ) (xs : List Stretch) : Type 0 where
  pub entries : (u : ℕ) → u ≢ s → slip T' u ≡ slip T u
  pub others : (u : ℕ) → u ≢ s → Same T T' (head_of T u)
  pub held : 0 < slip T' s
  pub meets : Meets T' (head_of T' s) l
  pub covers : stretches T' l ≡ xs

-- ---- what follows for the chains

pub gives_chain : {T T' : Tables} {s : ℕ} {l : List ℕ} {xs : List Stretch} → Gives T T' s l xs → SoundNow T' → chain T' s ≡ l
gives_chain {T' = T'} {s = s} g h = meets_one (chain_meets T' s h) g.meets

pub gives_spans : {T T' : Tables} {s : ℕ} {l : List ℕ} {xs : List Stretch} → Gives T T' s l xs → SoundNow T' → spans T' s ≡ xs
gives_spans {T' = T'} g h = ap (stretches T') (gives_chain g h) ∙ g.covers

-- slip u holds what slip v held
pub moved_spans : {fl fl' : List ℕ} {T T' : Tables} (u v : ℕ) → slip T' u ≡ slip T v → Same T T' (head_of T v) → SoundWith fl T → SoundWith fl' T' → spans T' u ≡ spans T v
moved_spans {T = T} {T' = T'} u v e f h h' =
    let r = f (chain T v) (chain_meets T v h) in
    ap (stretches T') (meets_one (chain_meets T' u h') (subst (λ x. Meets T' (pred x) (chain T v)) (sym e) r.0)) ∙ r.1

-- the same pieces and stretches, written otherwise
pub gives_as : {T T' : Tables} {s : ℕ} {l l' : List ℕ} {xs xs' : List Stretch} → l ≡ l' → xs ≡ xs' → Gives T T' s l xs → Gives T T' s l' xs'
gives_as {T} {T'} {s} {l} {l'} {xs} p q g = subst (λ (ys : List Stretch). Gives T T' s l' ys) q (subst (λ (ds : List ℕ). Gives T T' s ds xs) p g)

-- the first steps of an operation leave every other slip's chain as it was
pub gives_from : {T T₁ T' : Tables} {s : ℕ} {l : List ℕ} {xs : List Stretch} → ((u : ℕ) → u ≢ s → slip T₁ u ≡ slip T u) → ((u : ℕ) → u ≢ s → Same T T₁ (head_of T u)) → Gives T₁ T' s l xs → Gives T T' s l xs
gives_from {T} {T₁} {T'} e f g = record {
  entries = λ u n. g.entries u n ∙ e u n;
  others = λ u n. same_trans (f u n) (subst (λ x. Same T₁ T' (pred x)) (e u n) (g.others u n));
  held = g.held;
  meets = g.meets;
  covers = g.covers;
}

-- ---- under a slip that is turned

module _ {fl : List ℕ} (S : State) (s v : ℕ) (b : s < slip_total S.tables) (h : SoundWith (pred v ∷ fl) S.tables) where
  abbrev turned_slip : Tables
  turned_slip = set_slip S.tables s v

  -- what is held otherwise is as it was
  pub turned_keep : (n : ℕ) → Safe fl turned_slip n → Same S.tables (turned S s v).tables n
  unfolding turned
  turned_keep n f =
      same_trans (slip_same S.tables s v n)
      (release_same {fl = fl} (with_tables S turned_slip) (head_of S.tables s) n (h.0, slip_move {fl = fl} s v b h.1) f)

  pub turned_entry : slip (turned S s v).tables s ≡ v
  unfolding turned
  turned_entry = ap (λ (q : List ℕ). get_or q s 0) (release_slips (with_tables S turned_slip) (head_of S.tables s)) ∙ get_or-set_same S.tables.slips s v 0 b

  pub turned_entries : (u : ℕ) → u ≢ s → slip (turned S s v).tables u ≡ slip S.tables u
  unfolding turned
  turned_entries u n = ap (λ (q : List ℕ). get_or q u 0) (release_slips (with_tables S turned_slip) (head_of S.tables s)) ∙ get_or-set_other S.tables.slips s u v 0 n

  -- every other slip's chain is as it was
  pub turned_others : (u : ℕ) → u ≢ s → Same S.tables (turned S s v).tables (head_of S.tables u)
  turned_others u n = turned_keep (head_of S.tables u) (subst (λ x. Safe fl turned_slip (pred x)) (get_or-set_other S.tables.slips s u v 0 n) (head_safe fl turned_slip u))

  -- and so is the one that s now holds
  pub turned_mine : Same S.tables (turned S s v).tables (pred v)
  turned_mine = turned_keep (pred v) (subst (λ x. Safe fl turned_slip (pred x)) (get_or-set_same S.tables.slips s v 0 b) (head_safe fl turned_slip s))

-- slip s is turned to the held link m, and its old link is released
pub turned_gives : (S : State) (s m : ℕ) (l : List ℕ) → s < slip_total S.tables → SoundWith (m ∷ []) S.tables → Meets S.tables m l
    → Gives S.tables (turned S s (holding m)).tables s l (stretches S.tables l)
turned_gives S s m l b h r =
    let here = turned_entry S s (holding m) b h in
    let mine = turned_mine S s (holding m) b h l r in
    record {
      entries = turned_entries S s (holding m) b h;
      others = turned_others S s (holding m) b h;
      held = omega (arith, here);
      meets = subst (λ x. Meets (turned S s (holding m)).tables (pred x) l) (sym here) mine.0;
      covers = mine.1;
    }

-- ---- new pieces

module _ {T : Tables} (p : Plan) (fs : List ℕ) (l : List ℕ) (h : Planned T p) (f : Free T fs) (room : length p.more ≤ length fs)
    (r : Meets p.base p.tail l) where
  base_free : Free p.base fs
  base_free = free_of_still fs h.still f

  base_used : (u d : ℕ) → head_of T u ≡ suc d → 0 < (piece p.base d).count
  base_used u d e = head_pos u d h.held.1 (ap (λ (q : List ℕ). pred (get_or q u 0)) h.still.kept.slips_kept ∙ e)

  pub made_same : (u : ℕ) → Same T p.base (head_of T u) → Same T (made p fs) (head_of T u)
  made_same u b = same_trans b (built_same p.base fs p.more p.tail (head_of T u) h.held base_free (base_used u))

  pub made_meets : Meets (made p fs) (made_link p fs) (take (length p.more) fs ++ l) × (stretches (made p fs) (take (length p.more) fs ++ l) ≡ p.more ++ stretches p.base l)
  made_meets =
      built_meets p.base fs p.more p.tail l base_free room
      (meets_used h.held.1 (λ d e. held_pos d (subst (λ n. SoundBy h.held.0 (n ∷ []) p.base) e h.held.1)) r) r

  -- under the vacant slip t
  pub new_gives : (t : ℕ) → t < slip_total T → ((u : ℕ) → u ≢ t → Same T p.base (head_of T u))
      → Gives T (under_new p fs t) t (take (length p.more) fs ++ l) (p.more ++ stretches p.base l)
  unfolding under_new
  new_gives t b o =
      let T₁ = made p fs in
      let k = made_slips p fs h in
      let v = holding (made_link p fs) in
      let here : slip (set_slip T₁ t v) t ≡ v = get_or-set_same T₁.slips t v 0 (subst (λ (q : List ℕ). t < length q) (sym k) b) in
      let m = slip_same T₁ t v (made_link p fs) (take (length p.more) fs ++ l) made_meets.0 in
      record {
        entries = λ u n. get_or-set_other T₁.slips t u v 0 n ∙ ap (λ (q : List ℕ). get_or q u 0) k;
        others = λ u n. same_trans (made_same u (o u n)) (slip_same T₁ t v (head_of T u));
        held = omega (arith, here);
        meets = subst (λ x. Meets (set_slip T₁ t v) (pred x) (take (length p.more) fs ++ l)) (sym here) m.0;
        covers = m.1 ∙ made_meets.1;
      }

  -- under the slip s, whose old chain is released
  pub old_gives : (S : State) (s : ℕ) → s < slip_total T → ((u : ℕ) → u ≢ s → Same T p.base (head_of T u))
      → Gives T (under_old S p fs s).tables s (take (length p.more) fs ++ l) (p.more ++ stretches p.base l)
  unfolding under_old
  old_gives S s b o =
      let k = made_slips p fs h in
      let g = turned_gives (with_tables S (made p fs)) s (made_link p fs) (take (length p.more) fs ++ l) (subst (λ (q : List ℕ). s < length q) (sym k) b) (plan_built p fs h f) made_meets.0 in
      let g' = gives_from {T = T} (λ u n. ap (λ (q : List ℕ). get_or q u 0) k) (λ u n. made_same u (o u n)) g in
      record { entries = g'.entries; others = g'.others; held = g'.held; meets = g'.meets; covers = g'.covers ∙ made_meets.1 }

-- ---- behind own pieces

-- from the link n, following next meets the pieces ds and comes to the link m
abbrev pub Run : Tables → ℕ → List ℕ → ℕ → Type 0
Run T n [] m = n ≡ m
Run T n (d ∷ ds) m = (n ≡ suc d) × Run T (piece T d).next ds m

pub run_meets : {T : Tables} (n m : ℕ) (ds l : List ℕ) → Run T n ds m → Meets T m l → Meets T n (ds ++ l)
run_meets {T} n m [] l r c = subst (λ x. Meets T x l) (sym r) c
run_meets {T} n m (d ∷ ds) l r c = subst (λ x. Meets T x (d ∷ ds ++ l)) (sym r.0) (go (run_meets (piece T d).next m ds l r.1 c))

meets_next : {T : Tables} {n : ℕ} {l : List ℕ} (d : ℕ) → n ≡ suc d → Meets T n l → (l' : List ℕ) × (l ≡ d ∷ l') × Meets T (piece T d).next l'
meets_next d e stop = absurd (omega arith)
meets_next {T} d e (go {d = x} {l = l} c) =
    let q : x ≡ d = suc_inj e in
    (l, ap {B = List ℕ} (λ y. y ∷ l) q, subst (λ y. Meets T (piece T y).next l) q c)

-- what is met from n is the run, and then what is met from m
pub run_split : {T : Tables} (n m : ℕ) (ds l : List ℕ) → Run T n ds m → Meets T n l → (l' : List ℕ) × (l ≡ ds ++ l') × Meets T m l'
run_split {T} n m [] l r c = (l, refl, subst (λ x. Meets T x l) r c)
run_split {T} n m (d ∷ ds) l r c =
    let a = meets_next d r.0 c in
    let b = run_split (piece T d).next m ds a.0 r.1 a.2 in
    (b.0, a.1 ∙ ap {B = List ℕ} (λ y. d ∷ y) b.1, b.2)

pub own_run_lem : (k n : ℕ) (T : Tables) → (m : ℕ) × Run T n (own_pieces k T n) m
unfolding own_pieces
own_run_lem zero n T = (n, refl)
own_run_lem (suc k) zero T = (zero, refl)
own_run_lem (suc k) (suc d) T =
    if_either (λ (ds : List ℕ). (m : ℕ) × Run T (suc d) ds m) (eqb (piece T d).count 1) (d ∷ own_pieces k T (piece T d).next) []
    (λ _. (let r = own_run_lem k (piece T d).next T in (r.0, (refl, r.1))))
    (λ _. (suc d, refl))

pub stretches_append : (T : Tables) (a b : List ℕ) → stretches T (a ++ b) ≡ stretches T a ++ stretches T b
unfolding stretches
stretches_append T [] b = refl
stretches_append T (d ∷ ds) b = ap {B = List Stretch} (λ x. stretch (piece T d) ∷ x) (stretches_append T ds b)

-- ranks fall along a run, so its last piece is no earlier one
pub run_low : (rank : ℕ → ℕ) (T : Tables) (n d m : ℕ) (ds : List ℕ) → ((x e : ℕ) → (piece T x).next ≡ suc e → rank e < rank x) → Run T n (d ∷ ds) m → rank (last_of d ds) ≤ rank d
run_low rank T n d m [] f r = omega arith
run_low rank T n d m (x ∷ xs) f r = omega (arith, f d x r.1.0, run_low rank T (piece T d).next x m xs f r.1)

-- the last piece of a run takes the next m'
run_relinked : (rank : ℕ → ℕ) (T : Tables) (n d m m' : ℕ) (ds : List ℕ) → ((x e : ℕ) → (piece T x).next ≡ suc e → rank e < rank x) → last_of d ds < piece_total T
    → Run T n (d ∷ ds) m → Run (with_tail T (last_of d ds) m') n (d ∷ ds) m'
run_relinked rank T n d m m' [] f b r = (r.0, ap (λ (q : Piece). q.next) (get_or-set_same T.pieces d (with_next (piece T d) m') blank b))
run_relinked rank T n d m m' (x ∷ xs) f b r =
    let e = last_of x xs in
    let i = run_relinked rank T (piece T d).next x m m' xs f b r.1 in
    let ne : d ≢ e = λ q. (let z = ap rank q in omega (arith, f d x r.1.0, run_low rank T (piece T d).next x m xs f r.1)) in
    (r.0, subst (λ y. Run (with_tail T e m') y (x ∷ xs) m') (sym (ap (λ (q : Piece). q.next) (get_or-set_other T.pieces e d (with_next (piece T e) m') blank ne))) i)

-- The held link m goes behind the own pieces of s, and what stood there is released.
pub behind_gives : (S : State) (s m r : ℕ) (own l : List ℕ) → s < slip_total S.tables → OwnList S.tables (head_of S.tables s) own → Run S.tables (head_of S.tables s) own r
    → 0 < slip S.tables s → SoundWith (m ∷ []) S.tables → Meets S.tables m l
    → Gives S.tables (behind_own S s own m).tables s (own ++ l) (stretches S.tables own ++ stretches S.tables l)
unfolding behind_own relinked stretches
behind_gives S s m r [] l b o q z h c = turned_gives S s m l b h c
behind_gives S s m r (d ∷ ds) l b (j, o) q z (rank, h) c =
    let T = S.tables in
    let e = last_of d ds in
    let T₁ : Tables = set_slip T s 0 in
    let T₂ : Tables = with_tail T e m in
    let S₂ : State = with_tables S T₂ in
    let h₁ : SoundBy rank (head_of T s ∷ m ∷ []) T₁ = slip_move {fl = m ∷ []} s 0 b (reorder (λ x. omega arith) h) in
    let o₁ = own_still j T T₁ (head_of T s) e (λ x y. (y, refl)) o in
    let out : (n : ℕ) → Safe (m ∷ []) T₁ n → Same T T₂ n = λ n f. same_by T T₂ (λ ll y. agree_but T T₂ e ll
    (λ x ne. alike (get_or-set_other T.pieces e x (with_next (piece T e) m) blank ne))
    (own_apart j (head_of T s) e n ll (rank, h₁) o₁ f (slip_same T s 0 n ll y).0)) in
    let h₂ = tail_sound T s m j e b o (rank, h) in
    let T' = (release S₂ (piece T e).next).tables in
    let k = release_slips S₂ (piece T e).next in
    let on : (u n : ℕ) → n ≡ head_of T u → Same T₂ T' n = λ u n i. release_same {fl = []} S₂ (piece T e).next n h₂ (subst (λ x. Safe [] T₂ x) (sym i) (head_safe [] T₂ u)) in
    let cm = out m (λ x i. omega (arith, ap (λ y. hit y x) i, hit_same x)) l c in
    let run₂ = run_relinked rank T (head_of T s) d r m ds h.falls (last_in j T (head_of T s) e o) q in
    let all = run_meets (head_of T s) m (d ∷ ds) l run₂ cm.0 in
    let fin = on s (head_of T s) refl (d ∷ ds ++ l) all in
    record {
      entries = λ u n. ap (λ (y : List ℕ). get_or y u 0) k;
      others = λ u n. same_trans
          (out (head_of T u) (subst (λ x. Safe (m ∷ []) T₁ (pred x)) (get_or-set_other T.slips s u 0 0 n) (head_safe (m ∷ []) T₁ u)))
          (on u (head_of T u) refl);
      held = omega (arith, ap (λ (y : List ℕ). get_or y s 0) k);
      meets = subst (λ (y : List ℕ). Meets T' (pred (get_or y s 0)) (d ∷ ds ++ l)) (sym k) fin.0;
      covers = fin.1 ∙ stretches_append T₂ (d ∷ ds) l ∙ (λ i. all_covers (d ∷ ds) i ++ cm.1 i);
    }
  where
    last_in : (j : ℕ) (T : Tables) (n e : ℕ) → OwnTo j T n e → e < piece_total T
    last_in zero T n e o = used_in_range_lem T e (omega (arith, o.1))
    last_in (suc j) T n e (d, q, c, o) = last_in j T (piece T d).next e o

    all_covers : (ys : List ℕ) → stretches (with_tail S.tables (last_of d ds) m) ys ≡ stretches S.tables ys
    all_covers [] = refl
    all_covers (y ∷ ys) = λ i. by_place S.tables.pieces (last_of d ds) (with_next (piece S.tables (last_of d ds)) m) blank (last_in j S.tables (head_of S.tables s) (last_of d ds) o)
        (λ p x. stretch p ≡ stretch (piece S.tables x)) refl (λ x _. refl) y i ∷ all_covers ys i

-- ---- own pieces and their stretches

pub stretches_length : (T : Tables) (ds : List ℕ) → length (stretches T ds) ≡ length ds
unfolding stretches
stretches_length T [] = refl
stretches_length T (d ∷ ds) = ap suc (stretches_length T ds)

pub own_short : (k n : ℕ) (T : Tables) → length (own_pieces k T n) ≤ k
unfolding own_pieces
own_short zero n T = omega arith
own_short (suc k) zero T = omega arith
own_short (suc k) (suc d) T =
    if_either (λ (ds : List ℕ). length ds ≤ suc k) (eqb (piece T d).count 1) (d ∷ own_pieces k T (piece T d).next) []
    (λ _. omega (arith, own_short k (piece T d).next T)) (λ _. omega arith)

-- each has count 1
abbrev pub Ones : Tables → List ℕ → Type 0
Ones T [] = Unit {0}
Ones T (d ∷ ds) = ((piece T d).count ≡ 1) × Ones T ds

pub own_ones : (k n : ℕ) (T : Tables) → Ones T (own_pieces k T n)
unfolding own_pieces
own_ones zero n T = tt
own_ones (suc k) zero T = tt
own_ones (suc k) (suc d) T =
    if_either (Ones T) (eqb (piece T d).count 1) (d ∷ own_pieces k T (piece T d).next) []
    (λ t. (eqb→eq (piece T d).count 1 t, own_ones k (piece T d).next T)) (λ _. tt)

-- a run of pieces of count 1 is one still, where those keep their next
pub run_still : (T T' : Tables) (n m : ℕ) (ds : List ℕ) → ((d : ℕ) → (piece T d).count ≡ 1 → (piece T' d).next ≡ (piece T d).next) → Ones T ds → Run T n ds m → Run T' n ds m
run_still T T' n m [] f o r = r
run_still T T' n m (d ∷ ds) f o r = (r.0, subst (λ x. Run T' x ds m) (sym (f d o.0)) (run_still T T' (piece T d).next m ds f o.1 r.1))

pub ones_used : (T : Tables) (ds : List ℕ) → Ones T ds → AllUsed T ds
ones_used T [] o = tt
ones_used T (d ∷ ds) o = (omega (arith, o.0), ones_used T ds o.1)

-- the own pieces are the first of the chain
pub own_front : (T : Tables) (s k : ℕ) → SoundNow T → stretches T (own_pieces k T (head_of T s)) ≡ take (length (own_pieces k T (head_of T s))) (spans T s)
own_front T s k h =
    let own = own_pieces k T (head_of T s) in
    let r = own_run_lem k (head_of T s) T in
    let q = run_split (head_of T s) r.0 own (chain T s) r.1 (chain_meets T s h) in
    sym (ap (λ (ds : List ℕ). take (length own) (stretches T ds)) q.1 ∙ ap (take (length own)) (stretches_append T own q.0)
    ∙ take_at (stretches T own) (stretches T q.0) (length own) (stretches_length T own))
