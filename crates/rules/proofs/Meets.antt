-- Following next from a link: which pieces are met, and which changes leave a chain as it is. Assumes nothing.
use mathlib.Core.Path.{◌≡◌, refl, sym, ap, subst, ◌∙◌}
use mathlib.Core.Logic.{◌≢◌, ◌⊎◌, inl, inr, ⊎_elim}
use mathlib.Core.List.{List, [], ◌∷◌, ◌++◌, Memᴰ}
use Prim.Native.Nat.{ℕ, zero, suc, ◌+◌, ◌-◌, ◌≤◌, ◌<◌}
use native.Mathlib.Omega.{arith}
use lib.ListN.{length, take}
use lib.Seq.{get_or-set_same, get_or-set_other}
use Rattle.rules.specs.Tables.{Piece, Tables, blank, piece, head_of, piece_total, set_slip, with_count}
use Rattle.rules.specs.Chain.{Stretch, State, walk, chain, stretch, stretches}
use Rattle.rules.specs.Sound.{heads}
use Rattle.rules.specs.Release.{lowered, freed, release_in, release, raised, shared}
use Rattle.rules.specs.Build.{fresh, taken, built, built_link}
use Rattle.rules.proofs.Logic.{if_either}
use Rattle.rules.proofs.Sums.{sum_to_two}
use Rattle.rules.proofs.Moves.{SoundBy, SoundWith, hit, occ, links, hit_same, links_at, heads_at, in_range, used_in_range_lem, by_place, freed_tables, free_move}
use Rattle.rules.proofs.Rank.{low_below, lower_rank, head_pos}
use Rattle.rules.proofs.Release.{held_pos, last_one}
use Rattle.rules.proofs.Build.{Free, OwnTo, built_other, built_kept}
use Rattle.rules.proofs.Chain.{AllUsed, used_not_free}

-- ---- the pieces met

-- From the link n, following next meets the pieces of a list, in order, and ends.
pub data Meets (T : Tables) : ℕ → List ℕ → Type 0 where
  stop : Meets T zero []
  go : {d : ℕ} {l : List ℕ} → Meets T (piece T d).next l → Meets T (suc d) (d ∷ l)

-- so a walk of enough steps meets them, and they are no others
pub meets_walk : (k : ℕ) {T : Tables} {n : ℕ} {l : List ℕ} → Meets T n l → length l ≤ k → walk k T n ≡ l
unfolding walk
meets_walk zero stop h = refl
meets_walk zero (go c) h = absurd (omega arith)
meets_walk (suc k) stop h = refl
meets_walk (suc k) (go {d = d} c) h = ap {B = List ℕ} (λ r. d ∷ r) (meets_walk k c (omega arith))

meets_by : (k n : ℕ) {rank : ℕ → ℕ} {fl : List ℕ} {T : Tables} → SoundBy rank fl T → ((d : ℕ) → n ≡ suc d → rank d < k) → (l : List ℕ) × Meets T n l × (length l ≤ k)
meets_by zero zero S b = ([], stop, omega arith)
meets_by (suc k) zero S b = ([], stop, omega arith)
meets_by zero (suc d) S b = absurd (omega (arith, b d refl))
meets_by (suc k) (suc d) {rank} {fl} {T} S b =
    let r = meets_by k (piece T d).next S (λ e q. omega (arith, b d refl, S.falls d e q)) in
    (d ∷ r.0, go r.1, omega (arith, r.2))

-- from a link to a piece in use, at most P pieces are met
pub meets_some : {fl : List ℕ} {T : Tables} (n : ℕ) → SoundWith fl T → ((d : ℕ) → n ≡ suc d → 0 < (piece T d).count) → (l : List ℕ) × Meets T n l × (length l ≤ piece_total T)
meets_some {fl} {T} n (rank, S) u = meets_by (piece_total T) n (lower_rank S) (λ d h. low_below (piece_total T) rank d (used_in_range_lem T d (u d h)))

-- a slip's chain is what is met from its head
pub chain_meets : {fl : List ℕ} (T : Tables) (s : ℕ) → SoundWith fl T → Meets T (head_of T s) (chain T s)
chain_meets T s S =
    let r = meets_some (head_of T s) S (λ d h. head_pos s d S.1 h) in
    subst (λ l. Meets T (head_of T s) l) (sym (meets_walk (piece_total T) r.1 r.2)) r.1

pub meets_one : {T : Tables} {n : ℕ} {l l' : List ℕ} → Meets T n l → Meets T n l' → l ≡ l'
meets_one stop stop = refl
meets_one (go {d = d} c) (go c') = ap {B = List ℕ} (λ r. d ∷ r) (meets_one c c')

-- each piece met is the first, or the next of another
pub met_from : {T : Tables} {n : ℕ} {l : List ℕ} (x : ℕ) → Meets T n l → Memᴰ x l → (n ≡ suc x) ⊎ ((c : ℕ) × Memᴰ c l × ((piece T c).next ≡ suc x))
met_from x stop m = absurd (mathlib.Core.List.Memᴰ.not-nil m)
met_from {T} x (go {d = d} {l = l} r) m =
    ⊎_elim
    (λ e. inl (ap suc (sym e)))
    (λ m'. ⊎_elim {C = (suc d ≡ suc x) ⊎ ((c : ℕ) × Memᴰ c (d ∷ l) × ((piece T c).next ≡ suc x))} (λ q. inr (d, mathlib.Core.List.Memᴰ.head refl, q)) (λ q. inr (q.0, mathlib.Core.List.Memᴰ.tail q.1, q.2)) (met_from x r m'))
    (mathlib.Core.List.Memᴰ.cases_cons m)

-- ---- changes that leave a chain as it is

-- two pieces cover the same and have the same next
abbrev pub Alike : Piece → Piece → Type 0
Alike p q = (stretch p ≡ stretch q) × (p.next ≡ q.next)

pub alike : {p q : Piece} → p ≡ q → Alike p q
alike e = (ap stretch e, ap (λ (x : Piece). x.next) e)

abbrev pub Agree : Tables → Tables → List ℕ → Type 0
Agree T T' [] = Unit {0}
Agree T T' (d ∷ ds) = Alike (piece T' d) (piece T d) × Agree T T' ds

pub agree_all : (T T' : Tables) (l : List ℕ) → ((d : ℕ) → Alike (piece T' d) (piece T d)) → Agree T T' l
agree_all T T' [] h = tt
agree_all T T' (d ∷ ds) h = (h d, agree_all T T' ds h)

-- only piece i differs, and the list does not have it
pub agree_but : (T T' : Tables) (i : ℕ) (l : List ℕ) → ((d : ℕ) → d ≢ i → Alike (piece T' d) (piece T d)) → (Memᴰ i l → ⊥) → Agree T T' l
agree_but T T' i [] h n = tt
agree_but T T' i (d ∷ ds) h n = (h d (λ e. n (mathlib.Core.List.Memᴰ.head (sym e))), agree_but T T' i ds h (λ m. n (mathlib.Core.List.Memᴰ.tail m)))

pub agree_meets : {T T' : Tables} {n : ℕ} {l : List ℕ} → Meets T n l → Agree T T' l → Meets T' n l
agree_meets stop a = stop
agree_meets {T} {T'} (go {l = l} r) a = go (subst (λ x. Meets T' x l) (sym a.0.1) (agree_meets r a.1))

pub agree_stretches : (T T' : Tables) (l : List ℕ) → Agree T T' l → stretches T' l ≡ stretches T l
unfolding stretches
agree_stretches T T' [] a = refl
agree_stretches T T' (d ∷ ds) a = λ i. a.0.0 i ∷ agree_stretches T T' ds a.1 i

-- the chain from the link n is as it was
abbrev pub Same : Tables → Tables → ℕ → Type 0
Same T T' n = (l : List ℕ) → Meets T n l → Meets T' n l × (stretches T' l ≡ stretches T l)

pub same_by : (T T' : Tables) {n : ℕ} → ((l : List ℕ) → Meets T n l → Agree T T' l) → Same T T' n
same_by T T' h l m = (agree_meets m (h l m), agree_stretches T T' l (h l m))

pub same_refl : (T : Tables) (n : ℕ) → Same T T n
same_refl T n l m = (m, refl)

pub same_trans : {A B C : Tables} {n : ℕ} → Same A B n → Same B C n → Same A C n
same_trans f g l m = (let a = f l m in let b = g l a.0 in (b.0, b.1 ∙ a.1))

pub slip_same : (T : Tables) (s v n : ℕ) → Same T (set_slip T s v) n
slip_same T s v n = same_by T (set_slip T s v) (λ l m. agree_all T (set_slip T s v) l (λ d. (refl, refl)))

-- a change of piece i, to which no next and not n leads
but_same : (T T' : Tables) (i n : ℕ) → links T i ≡ 0 → n ≢ suc i → ((d : ℕ) → d ≢ i → Alike (piece T' d) (piece T d)) → Same T T' n
but_same T T' i n z h a = same_by T T' (λ l m. agree_but T T' i l a (λ x. ⊎_elim h (λ q. (let p = links_at T q.0 i q.2 in omega arith)) (met_from i m x)))

-- a further reference changes no chain
pub shared_same : (T : Tables) (n m : ℕ) → ((d : ℕ) → n ≡ suc d → 0 < (piece T d).count) → Same T (shared T n) m
shared_same T zero m u = same_refl T m
shared_same T (suc d) m u = same_by T (raised T d) (λ l _. agree_all T (raised T d) l (by_place T.pieces d (with_count (piece T d) (suc (piece T d).count)) blank (used_in_range_lem T d (u d refl)) (λ q x. Alike q (piece T x)) (refl, refl) (λ x _. (refl, refl))))

-- ranks fall along a chain, so no piece is met twice
pub meets_low : (rank : ℕ → ℕ) {T : Tables} {n : ℕ} {l : List ℕ} (r x : ℕ) → ((d e : ℕ) → (piece T d).next ≡ suc e → rank e < rank d) → ((d : ℕ) → n ≡ suc d → rank d < r) → Meets T n l → Memᴰ x l → rank x < r
meets_low rank r x f b stop m = absurd (mathlib.Core.List.Memᴰ.not-nil m)
meets_low rank r x f b (go {d = d} c) m =
    ⊎_elim (λ e. (let q = ap rank e in omega (arith, b d refl))) (λ m'. omega (arith, b d refl, meets_low rank (rank d) x f (λ e q. f d e q) c m')) (mathlib.Core.List.Memᴰ.cases_cons m)

-- ---- release

-- the link m is held by a slip, or by the operation under way
abbrev pub Safe : List ℕ → Tables → ℕ → Type 0
Safe fl T m = (d : ℕ) → m ≡ suc d → 0 < heads T d + occ fl d

pub head_safe : (fl : List ℕ) (T : Tables) (s : ℕ) → Safe fl T (head_of T s)
head_safe fl T s d h = omega (arith, heads_at T s d h)

release_keeps : (k n m : ℕ) {rank : ℕ → ℕ} {fl : List ℕ} (S : State) → SoundBy rank (n ∷ fl) S.tables → Safe fl S.tables m → Same S.tables (release_in k S n).tables m
unfolding release_in heads
release_keeps zero n m S h f = same_refl S.tables m
release_keeps (suc k) zero m S h f = same_refl S.tables m
release_keeps (suc k) (suc d) m {rank} {fl} S h f =
    let T = S.tables in
    if_either (λ (X : State). Same T X.tables m) _ _ _
    (λ t. same_by T (lowered T d) (λ l _. agree_all T (lowered T d) l (by_place T.pieces d (with_count (piece T d) ((piece T d).count - 1)) blank (used_in_range_lem T d (held_pos d h)) (λ q x. Alike q (piece T x)) (refl, refl) (λ x _. (refl, refl)))))
    (λ t. (
    let one : (piece T d).count ≡ 1 = last_one T d (held_pos d h) t in
    let c = h.counted d in
    let z = hit_same d in
    same_trans
    (but_same T (freed_tables T d) d m (omega arith) (λ e. (let q = f d e in omega arith)) (λ x e. alike (get_or-set_other T.pieces d x blank blank e)))
    (release_keeps k (piece T d).next m {fl = fl} (freed S d) (free_move d one h) f)))

-- what is held otherwise reads as before
pub release_same : {fl : List ℕ} (S : State) (n m : ℕ) → SoundWith (n ∷ fl) S.tables → Safe fl S.tables m → Same S.tables (release S n).tables m
unfolding release
release_same S n m (rank, h) f = release_keeps (piece_total S.tables) n m S h f

-- ---- new pieces

pub meets_used : {rank : ℕ → ℕ} {fl : List ℕ} {T : Tables} {n : ℕ} {l : List ℕ} → SoundBy rank fl T → ((d : ℕ) → n ≡ suc d → 0 < (piece T d).count) → Meets T n l → AllUsed T l
meets_used S u stop = tt
meets_used {T = T} S u (go {d = d} r) = (u d refl, meets_used S (λ e q. omega (arith, S.counted e, links_at T d e q)) r)

pub built_agree : (T : Tables) (fs : List ℕ) (xs : List Stretch) (tail : ℕ) (l : List ℕ) → Free T fs → AllUsed T l → Agree T (built T fs xs tail) l
built_agree T fs xs tail [] f u = tt
built_agree T fs xs tail (d ∷ ds) f u = (alike (built_other T fs xs tail d (used_not_free T d fs u.0 f)), built_agree T fs xs tail ds f u.1)

-- chains of pieces in use are as they were
pub built_same : {fl : List ℕ} (T : Tables) (fs : List ℕ) (xs : List Stretch) (tail n : ℕ) → SoundWith fl T → Free T fs → ((d : ℕ) → n ≡ suc d → 0 < (piece T d).count) → Same T (built T fs xs tail) n
built_same T fs xs tail n (rank, S) f u = same_by T (built T fs xs tail) (λ l m. built_agree T fs xs tail l f (meets_used S u m))

not_in_append : (f : ℕ) (xs ys : List ℕ) → (Memᴰ f xs → ⊥) → (Memᴰ f ys → ⊥) → Memᴰ f (xs ++ ys) → ⊥
not_in_append f xs ys a b m = ⊎_elim a b (mathlib.Core.List.Memᴰ.append_cases xs m)

take_in_list : (f k : ℕ) (xs : List ℕ) → Memᴰ f (take k xs) → Memᴰ f xs
take_in_list f zero xs m = absurd (mathlib.Core.List.Memᴰ.not-nil m)
take_in_list f (suc k) [] m = m
take_in_list f (suc k) (x ∷ xs) m = ⊎_elim (λ e. mathlib.Core.List.Memᴰ.head e) (λ m'. mathlib.Core.List.Memᴰ.tail (take_in_list f k xs m')) (mathlib.Core.List.Memᴰ.cases_cons m)

free_not_in : (T : Tables) (f : ℕ) (l : List ℕ) → (piece T f).count ≡ 0 → AllUsed T l → Memᴰ f l → ⊥
free_not_in T f [] z u m = mathlib.Core.List.Memᴰ.not-nil m
free_not_in T f (d ∷ ds) z u m = ⊎_elim (λ e. (let q = ap (λ x. (piece T x).count) e in omega (arith, u.0))) (λ m'. free_not_in T f ds z u.1 m') (mathlib.Core.List.Memᴰ.cases_cons m)

-- the new chain: the new pieces for xs, and then what the tail has
pub built_meets : (T : Tables) (fs : List ℕ) (xs : List Stretch) (tail : ℕ) (l : List ℕ) → Free T fs → length xs ≤ length fs → AllUsed T l → Meets T tail l
    → Meets (built T fs xs tail) (built_link fs xs tail) (take (length xs) fs ++ l) × (stretches (built T fs xs tail) (take (length xs) fs ++ l) ≡ xs ++ stretches T l)
unfolding built built_link stretches
built_meets T fs [] tail l f h u m = (m, refl)
built_meets T [] (x ∷ xs) tail l f h u m = absurd (omega arith)
built_meets T (f ∷ fs) (x ∷ xs) tail l fr h u m =
    let r = built_meets T fs xs tail l fr.3 (omega arith) u m in
    let T₁ = built T fs xs tail in
    let p = fresh x (built_link fs xs tail) in
    let T₂ = taken T₁ f p in
    let rest = take (length xs) fs ++ l in
    let here : piece T₂ f ≡ p = get_or-set_same T₁.pieces f p blank (omega (arith, fr.0, (built_kept T fs xs tail).pieces_size)) in
    let out = not_in_append f (take (length xs) fs) l (λ y. fr.2 (take_in_list f (length xs) fs y)) (free_not_in T f l fr.1 u) in
    let a : Agree T₁ T₂ rest = agree_but T₁ T₂ f rest (λ d e. alike (get_or-set_other T₁.pieces f d p blank e)) out in (
      go (subst (λ n. Meets T₂ n rest) (sym (ap (λ (q : Piece). q.next) here)) (agree_meets r.0 a)),
      λ i. stretch (here i) ∷ (agree_stretches T₁ T₂ rest a ∙ r.1) i,
    )

-- ---- own pieces

links_two : (T : Tables) (c d x : ℕ) → c ≢ d → (piece T c).next ≡ suc x → (piece T d).next ≡ suc x → 2 ≤ links T x
unfolding links
links_two T c d x h p q =
    let lc = in_range T.pieces blank (λ y. y.next) c refl (omega arith) in
    let ld = in_range T.pieces blank (λ y. y.next) d refl (omega arith) in
    let kc : hit (piece T c).next x ≡ 1 = ap (λ n. hit n x) p ∙ hit_same x in
    let kd : hit (piece T d).next x ≡ 1 = ap (λ n. hit n x) q ∙ hit_same x in
    omega (arith, sum_to_two (length T.pieces) c d (λ y. hit (piece T y).next x) lc ld h)

-- the list l has no piece of count 1 to which the link n leads
abbrev Clear : Tables → ℕ → List ℕ → Type 0
Clear T n l = (x : ℕ) → n ≡ suc x → (piece T x).count ≡ 1 → Memᴰ x l → ⊥

own_clear : (k : ℕ) {rank : ℕ → ℕ} {fl : List ℕ} {T : Tables} {m : ℕ} {l : List ℕ} (n e : ℕ) → SoundBy rank fl T → Safe fl T m → Meets T m l → Clear T n l → OwnTo k T n e → Memᴰ e l → ⊥
own_clear zero n e S f r c o = c e o.0 o.1
own_clear (suc k) {rank} {fl} {T} {m} {l} n e S f r c (d, q, one, o) =
    let out : Memᴰ d l → ⊥ = c d q one in
    own_clear k (piece T d).next e S f r
    (λ x p y z. ⊎_elim
    (λ w. (let a = f x w in let b = links_at T d x p in omega (arith, S.counted x)))
    (λ w. (let b = links_two T w.0 d x (λ v. out (subst (λ i. Memᴰ i l) v w.1)) w.2 p in omega (arith, S.counted x)))
    (met_from x r z))
    o

-- A chain held otherwise does not meet the own pieces of a held link n.
pub own_apart : (k : ℕ) {fl : List ℕ} {T : Tables} (n e m : ℕ) (l : List ℕ) → SoundWith (n ∷ fl) T → OwnTo k T n e → Safe fl T m → Meets T m l → Memᴰ e l → ⊥
own_apart k {fl} {T} n e m l (rank, S) o f r =
    own_clear k n e S (λ d h. omega (arith, f d h)) r
    (λ x p y z. (
    let t : hit n x ≡ 1 = ap (λ i. hit i x) p ∙ hit_same x in
    ⊎_elim
    (λ w. (let a = f x w in omega (arith, S.counted x)))
    (λ w. (let b = links_at T w.0 x w.2 in omega (arith, S.counted x)))
    (met_from x r z)))
    o
