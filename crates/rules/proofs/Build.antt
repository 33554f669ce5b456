-- New pieces, and the places where they are hung, keep soundness. Assumes nothing.
use mathlib.Core.Path.{subst₂, ◌≡◌, refl, sym, ap, subst, ◌∙◌}
use mathlib.Core.Logic.{◌≢◌}
use mathlib.Core.List.{List, [], ◌∷◌, Memᴰ}
use Prim.Native.Nat.{ℕ, zero, suc, ◌+◌, ◌≤◌, ◌<◌, pred}
use native.Mathlib.Omega.{arith}
use lib.ListN.{length, get_or, set, length-set}
use lib.Seq.{get_or-set_same, get_or-set_other, set-set, set_comm, set-get_or}
use lib.Dec.{eqb, eqb→eq}
use Rattle.kinds.specs.Sizes.{size_of}
use Rattle.rules.specs.Basics.{last_of}
use Rattle.rules.specs.Tables.{Piece, Tables, blank, slip, piece, head_of, holding, set_slip, set_piece, with_count, with_next, with_slips, with_pieces}
use Rattle.rules.specs.Chain.{Stretch, State, own_pieces, with_tables}
use Rattle.rules.specs.Release.{shared, relinked}
use Rattle.rules.specs.Build.{fresh, built, built_link, Plan, plain, made, made_link, under_new, under_old, behind_own}
use Rattle.rules.proofs.Logic.{if_either}
use Rattle.rules.proofs.Moves.{SoundBy, SoundWith, SoundNow, hit, by_place, used_in_range_lem, reorder, slip_move, share_move, take_move, above, relink_move}
use Rattle.rules.proofs.Release.{release_sound, turned_sound}

-- ---- a further reference to a link

pub share_sound : {rank : ℕ → ℕ} {fl : List ℕ} {T : Tables} (n : ℕ) → ((d : ℕ) → n ≡ suc d → 0 < (piece T d).count) → SoundBy rank fl T → SoundBy rank (n ∷ fl) (shared T n)
share_sound zero h S = reorder (λ d. omega arith) S
share_sound (suc d) h S = share_move d (h d refl) S

-- ---- new pieces

-- distinct free pieces
abbrev pub Free : Tables → List ℕ → Type 0
Free T [] = Unit {0}
Free T (f ∷ fs) = (f < length T.pieces) × ((piece T f).count ≡ 0) × (Memᴰ f fs → ⊥) × Free T fs

abbrev pub Good : List ℕ → ℕ → List Stretch → Type 0
Good Z B [] = Unit {0}
Good Z B (x ∷ xs) = (x.buffer < B) × (1 ≤ x.len) × (x.offset + x.len ≤ size_of Z x.buffer) × Good Z B xs

-- what the building leaves alone
pub record Kept (T T' : Tables) : Type 0 where
  pub slips_kept : T'.slips ≡ T.slips
  pub pieces_size : length T'.pieces ≡ length T.pieces
  pub counts_size : length T'.counts ≡ length T.counts
  pub serials_kept : T'.serials ≡ T.serials
  pub stock_kept : T'.stock ≡ T.stock

pub built_kept : (T : Tables) (fs : List ℕ) (xs : List Stretch) (tail : ℕ) → Kept T (built T fs xs tail)
unfolding built
built_kept T fs [] tail = record { slips_kept = refl; pieces_size = refl; counts_size = refl; serials_kept = refl; stock_kept = refl }
built_kept T [] (x ∷ xs) tail = record { slips_kept = refl; pieces_size = refl; counts_size = refl; serials_kept = refl; stock_kept = refl }
built_kept T (f ∷ fs) (x ∷ xs) tail =
    let r = built_kept T fs xs tail in
    record { slips_kept = r.slips_kept; pieces_size = simp length-set r.pieces_size; counts_size = simp length-set r.counts_size; serials_kept = r.serials_kept; stock_kept = r.stock_kept }

pub built_other : (T : Tables) (fs : List ℕ) (xs : List Stretch) (tail d : ℕ) → (Memᴰ d fs → ⊥) → piece (built T fs xs tail) d ≡ piece T d
unfolding built
built_other T fs [] tail d h = refl
built_other T [] (x ∷ xs) tail d h = refl
built_other T (f ∷ fs) (x ∷ xs) tail d h =
    get_or-set_other (built T fs xs tail).pieces f d (fresh x (built_link fs xs tail)) blank (λ e. h (Memᴰ.head e))
    ∙ built_other T fs xs tail d (λ m. h (Memᴰ.tail m))

pub built_sound : (T : Tables) (fs : List ℕ) (xs : List Stretch) (tail : ℕ) {fl : List ℕ} → Free T fs → Good T.stock (length T.counts) xs
    → SoundWith (tail ∷ fl) T → SoundWith (built_link fs xs tail ∷ fl) (built T fs xs tail)
unfolding built built_link
built_sound T fs [] tail fr g S = S
built_sound T [] (x ∷ xs) tail fr g S = S
built_sound T (f ∷ fs) (x ∷ xs) tail {fl} fr g S =
    let k = built_kept T fs xs tail in
    let r = built_sound T fs xs tail {fl = fl} fr.3 g.3 S in
    let T₁ = built T fs xs tail in (
      above r.0 f (built_link fs xs tail),
      take_move f (fresh x (built_link fs xs tail)) (omega arith) (ap (λ (q : Piece). q.count) (built_other T fs xs tail f fr.2) ∙ fr.1) refl
          (omega arith) (record { some_bytes = g.1; inside = subst (λ (W : List ℕ). x.offset + x.len ≤ size_of W x.buffer) (sym k.stock_kept) g.2 }) r.1,
    )

-- ---- the last own piece of a held chain

-- k own pieces, and then the own piece l
abbrev pub OwnTo : ℕ → Tables → ℕ → ℕ → Type 0
OwnTo zero T n l = (n ≡ suc l) × ((piece T l).count ≡ 1)
OwnTo (suc k) T n l = (d : ℕ) × (n ≡ suc d) × ((piece T d).count ≡ 1) × OwnTo k T (piece T d).next l

abbrev pub with_tail : Tables → ℕ → ℕ → Tables
with_tail T l m = set_piece T l (with_next (piece T l) m)

-- what is own stays so where piece d, of a higher rank, is changed
own_below : (k : ℕ) (rank : ℕ → ℕ) (T : Tables) (n l d : ℕ) (p : Piece) → ((x e : ℕ) → (piece T x).next ≡ suc e → rank e < rank x) → ((e : ℕ) → n ≡ suc e → rank e < rank d)
    → OwnTo k T n l → (l ≢ d) × OwnTo k (set_piece T d p) n l
own_below zero rank T n l d p f b (e, c) =
    let ne : l ≢ d = λ x. (let q = b l e in let q' = ap rank x in omega arith) in
    (ne, (e, ap (λ (q : Piece). q.count) (get_or-set_other T.pieces d l p blank ne) ∙ c))
own_below (suc k) rank T n l d p f b (x, e, c, o) =
    let lt = b x e in
    let ne : x ≢ d = λ y. (let q' = ap rank y in omega arith) in
    let same = get_or-set_other T.pieces d x p blank ne in
    let r = own_below k rank T (piece T x).next l d p f (λ y q. (let q' = f x y q in omega arith)) o in
    (r.0, (x, e, ap (λ (q : Piece). q.count) same ∙ c, subst (λ m. OwnTo k (set_piece T d p) m l) (ap (λ (q : Piece). q.next) (sym same)) r.1))

-- the stores that detach d, change l, and put d's next back, come to the change at l
back : (ps : List Piece) (d l : ℕ) (a b z : Piece) → l ≢ d → set (set (set ps d a) l b) d (get_or ps d z) ≡ set ps l b
back ps d l a b z h = set_comm (set ps d a) l d b (get_or ps d z) h ∙ ap (λ (q : List Piece). set q l b) (set-set ps d a (get_or ps d z) ∙ set-get_or ps d z)

-- the last own piece of a held chain takes the held link m, and its old next is held instead
pub relink_deep : (k : ℕ) (T : Tables) (n l m : ℕ) {fl : List ℕ} → OwnTo k T n l → SoundWith (n ∷ m ∷ fl) T → SoundWith (n ∷ (piece T l).next ∷ fl) (with_tail T l m)
relink_deep zero T n l m {fl} (e, c) (rank, S) =
    let r = relink_move l m c (subst (λ x. SoundBy rank (x ∷ m ∷ fl) T) e S) in
    (above rank l m, subst (λ x. SoundBy (above rank l m) (x ∷ (piece T l).next ∷ fl) (with_tail T l m)) (sym e) r)
relink_deep (suc k) T n l m {fl} (d, e, c, o) (rank, S) =
    let pd = piece T d in
    let p₀ : Piece = with_next pd 0 in
    let T₀ : Tables = set_piece T d p₀ in
    let S₁ = relink_move d 0 c (reorder {fl' = suc d ∷ 0 ∷ m ∷ fl} (λ x. omega (arith, ap (λ y. hit y x) e)) S) in
    let ob = own_below k rank T pd.next l d p₀ S.falls (S.falls d) o in
    let r = relink_deep k T₀ pd.next l m {fl = suc d ∷ fl} ob.1 (_, reorder (λ x. omega arith) S₁) in
    let pl : piece T₀ l ≡ piece T l = get_or-set_other T.pieces d l p₀ blank ob.0 in
    let T₁ : Tables = with_tail T₀ l m in
    let here : piece T₁ d ≡ p₀ = get_or-set_other T₀.pieces l d (with_next (piece T₀ l) m) blank (λ x. ob.0 (sym x)) ∙ get_or-set_same T.pieces d p₀ blank (used_in_range_lem T d (omega arith)) in
    let S₂ = relink_move {fl = (piece T₀ l).next ∷ fl} d pd.next (ap (λ (q : Piece). q.count) here ∙ c) (reorder (λ x. omega arith) r.1) in
    let same : set T₁.pieces d (with_next (piece T₁ d) pd.next) ≡ set T.pieces l (with_next (piece T l) m) =
    ap (λ (q : Piece). set T₁.pieces d (with_next q pd.next)) here
    ∙ ap (λ (q : Piece). set (set T₀.pieces l (with_next q m)) d pd) pl
    ∙ back T.pieces d l p₀ (with_next (piece T l) m) blank ob.0 in
    let S₃ = reorder {fl' = n ∷ (piece T l).next ∷ fl}
    (λ x. omega (arith, ap (λ y. hit y x) e, ap (λ (q : Piece). hit q.next x) here, ap (λ (q : Piece). hit q.next x) pl)) S₂ in
    subst (λ q. SoundWith (n ∷ (piece T l).next ∷ fl) (with_pieces T q)) same (above r.0 d pd.next, S₃)

-- ---- what an operation's first steps leave alone: sizes, slips, buffers' counts, which pieces are free, and on which buffer each lies

pub record Still (T T' : Tables) : Type 0 where
  pub kept : Kept T T'
  pub counts_still : T'.counts ≡ T.counts
  pub free_still : (d : ℕ) → (piece T d).count ≡ 0 → (piece T' d).count ≡ 0
  pub used_still : (d : ℕ) → 0 < (piece T d).count → 0 < (piece T' d).count
  pub on_still : (d : ℕ) → (piece T' d).buffer ≡ (piece T d).buffer

pub still_refl : (T : Tables) → Still T T
still_refl T = record {
  kept = record { slips_kept = refl; pieces_size = refl; counts_size = refl; serials_kept = refl; stock_kept = refl };
  counts_still = refl;
  free_still = λ d e. e;
  used_still = λ d u. u;
  on_still = λ d. refl;
}

-- a store to a piece in use, which stays so on its buffer
pub still_store : (T : Tables) (d : ℕ) (p : Piece) → 0 < (piece T d).count → 0 < p.count → p.buffer ≡ (piece T d).buffer → Still T (set_piece T d p)
still_store T d p h u o = record {
  kept = record { slips_kept = refl; pieces_size = length-set T.pieces d p; counts_size = refl; serials_kept = refl; stock_kept = refl };
  counts_still = refl;
  free_still = λ x e. ap (λ (q : Piece). q.count) (get_or-set_other T.pieces d x p blank (λ y. (let q = ap (λ z. (piece T z).count) y in omega arith))) ∙ e;
  used_still = by_place T.pieces d p blank (used_in_range_lem T d h) (λ q x. 0 < (piece T x).count → 0 < q.count) (λ _. u) (λ x _ k. k);
  on_still = by_place T.pieces d p blank (used_in_range_lem T d h) (λ q x. q.buffer ≡ (piece T x).buffer) o (λ x _. refl);
}

pub still_trans : {A B C : Tables} → Still A B → Still B C → Still A C
still_trans s t = record {
  kept = record {
    slips_kept = t.kept.slips_kept ∙ s.kept.slips_kept;
    pieces_size = t.kept.pieces_size ∙ s.kept.pieces_size;
    counts_size = t.kept.counts_size ∙ s.kept.counts_size;
    serials_kept = t.kept.serials_kept ∙ s.kept.serials_kept;
    stock_kept = t.kept.stock_kept ∙ s.kept.stock_kept;
  };
  counts_still = t.counts_still ∙ s.counts_still;
  free_still = λ d e. t.free_still d (s.free_still d e);
  used_still = λ d u. t.used_still d (s.used_still d u);
  on_still = λ d. t.on_still d ∙ s.on_still d;
}

pub still_shared : (T : Tables) (n : ℕ) → ((d : ℕ) → n ≡ suc d → 0 < (piece T d).count) → Still T (shared T n)
still_shared T zero h = still_refl T
still_shared T (suc d) h = still_store T d (with_count (piece T d) (suc (piece T d).count)) (h d refl) (omega arith) refl

pub free_of_still : {T T' : Tables} (fs : List ℕ) → Still T T' → Free T fs → Free T' fs
free_of_still [] s f = tt
free_of_still (x ∷ fs) s f = (omega (arith, s.kept.pieces_size), s.free_still x f.1, f.2, free_of_still fs s f.3)

-- ---- plans

pub record Planned (T : Tables) (p : Plan) : Type 0 where
  pub still : Still T p.base
  pub good : Good T.stock (length T.counts) p.more
  pub held : SoundWith (p.tail ∷ []) p.base

pub plan_built : {T : Tables} (p : Plan) (fs : List ℕ) → Planned T p → Free T fs → SoundWith (made_link p fs ∷ []) (made p fs)
plan_built {T} p fs h f =
    built_sound p.base fs p.more p.tail (free_of_still fs h.still f) (subst₂ (λ Z n. Good Z n p.more) (sym h.still.kept.stock_kept) (sym h.still.kept.counts_size) h.good) h.held

pub made_slips : {T : Tables} (p : Plan) (fs : List ℕ) → Planned T p → (made p fs).slips ≡ T.slips
made_slips {T} p fs h = (built_kept p.base fs p.more p.tail).slips_kept ∙ h.still.kept.slips_kept

pub new_sound : {T : Tables} (p : Plan) (fs : List ℕ) (t : ℕ) → Planned T p → Free T fs → t < length T.slips → head_of T t ≡ 0 → SoundNow (under_new p fs t)
unfolding under_new
new_sound {T} p fs t h f l z =
    let e = made_slips p fs h in
    let r = plan_built p fs h f in (
      r.0,
      reorder (λ d. omega (arith, ap (λ (q : List ℕ). hit (pred (get_or q t 0)) d) e, ap (λ v. hit v d) z))
          (slip_move t (holding (made_link p fs)) (subst (λ (q : List ℕ). t < length q) (sym e) l) r.1),
    )

pub old_sound : {T : Tables} (S : State) (p : Plan) (fs : List ℕ) (s : ℕ) → Planned T p → Free T fs → s < length T.slips → SoundNow (under_old S p fs s).tables
unfolding under_old
old_sound {T} S p fs s h f l =
    turned_sound (with_tables S (made p fs)) s (holding (made_link p fs)) (subst (λ (q : List ℕ). s < length q) (sym (made_slips p fs h)) l) (plan_built p fs h f)

pub plain_planned : (T : Tables) (xs : List Stretch) → Good T.stock (length T.counts) xs → SoundNow T → Planned T (plain T xs)
plain_planned T xs g S = record { still = still_refl T; good = g; held = (S.0, reorder (λ d. omega arith) S.1) }

-- ---- behind the own pieces of a slip

-- a list of own pieces from n, if not empty, leads to its last
abbrev pub OwnList : Tables → ℕ → List ℕ → Type 0
OwnList T n [] = Unit {0}
OwnList T n (d ∷ ds) = (j : ℕ) × OwnTo j T n (last_of d ds)

own_cons : (T : Tables) (d : ℕ) (l : List ℕ) → (piece T d).count ≡ 1 → OwnList T (piece T d).next l → (j : ℕ) × OwnTo j T (suc d) (last_of d l)
own_cons T d [] c o = (0, (refl, c))
own_cons T d (y ∷ ys) c o = (suc o.0, (d, refl, c, o.1))

pub own_pieces_lem : (k n : ℕ) (T : Tables) → OwnList T n (own_pieces k T n)
unfolding own_pieces
own_pieces_lem zero n T = tt
own_pieces_lem (suc k) zero T = tt
own_pieces_lem (suc k) (suc d) T =
    if_either (OwnList T (suc d)) (eqb (piece T d).count 1) (d ∷ own_pieces k T (piece T d).next) []
    (λ t. own_cons T d (own_pieces k T (piece T d).next) (eqb→eq (piece T d).count 1 t) (own_pieces_lem k (piece T d).next T))
    (λ _. tt)

-- own pieces are own still, where those of count 1 keep count and next
pub own_still : (j : ℕ) (T T' : Tables) (n l : ℕ) → ((d : ℕ) → (piece T d).count ≡ 1 → ((piece T' d).count ≡ 1) × ((piece T' d).next ≡ (piece T d).next)) → OwnTo j T n l → OwnTo j T' n l
own_still zero T T' n l h (e, c) = (e, (h l c).0)
own_still (suc j) T T' n l h (d, e, c, o) = (d, e, (h d c).0, subst (λ m. OwnTo j T' m l) (sym (h d c).1) (own_still j T T' (piece T d).next l h o))

pub own_list_still : (T T' : Tables) (n : ℕ) (l : List ℕ) → ((d : ℕ) → (piece T d).count ≡ 1 → ((piece T' d).count ≡ 1) × ((piece T' d).next ≡ (piece T d).next)) → OwnList T n l → OwnList T' n l
own_list_still T T' n [] h o = tt
own_list_still T T' n (d ∷ ds) h o = (o.0, own_still o.0 T T' n (last_of d ds) h o.1)

-- the last own piece e of slip s takes the held link m, and its old next is held instead
pub tail_sound : (T : Tables) (s m j e : ℕ) → s < length T.slips → OwnTo j T (head_of T s) e → SoundWith (m ∷ []) T → SoundWith ((piece T e).next ∷ []) (with_tail T e m)
tail_sound T s m j e l o (rank, h) =
    let v = slip T s in
    let T₁ : Tables = set_slip T s 0 in
    let S₁ = slip_move {fl = m ∷ []} s 0 l (reorder (λ x. omega arith) h) in
    let r = relink_deep j T₁ (pred v) e m {fl = []} (own_still j T T₁ (pred v) e (λ x c. (c, refl)) o) (rank, S₁) in
    let z : slip (with_tail T₁ e m) s ≡ 0 = get_or-set_same T.slips s 0 0 l in
    let S₂ = slip_move {fl = (piece T e).next ∷ []} s v (subst (λ n. s < n) (sym (length-set T.slips s 0)) l) r.1 in
    let S₃ = reorder {fl' = (piece T e).next ∷ []} (λ x. omega (arith, ap (λ y. hit (pred y) x) z)) S₂ in
    subst (λ (q : List ℕ). SoundWith ((piece T e).next ∷ []) (with_slips (with_tail T e m) q))
    (set-set T.slips s 0 v ∙ set-get_or T.slips s 0) (r.0, S₃)

-- the held link m goes behind the own pieces of s, and what stood there is released
pub behind_sound : (S : State) (s m : ℕ) (own : List ℕ) → s < length S.tables.slips → OwnList S.tables (head_of S.tables s) own
    → SoundWith (m ∷ []) S.tables → SoundNow (behind_own S s own m).tables
unfolding behind_own relinked
behind_sound S s m [] l o h = turned_sound S s (holding m) l h
behind_sound S s m (d ∷ ds) l (j, o) h =
    let T = S.tables in
    release_sound (with_tables S (with_tail T (last_of d ds) m)) (piece T (last_of d ds)).next (tail_sound T s m j (last_of d ds) l o h)
