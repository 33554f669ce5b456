-- Own pieces by their place in the chain, and that keep and drop go by the same ones. Assumes nothing.
use mathlib.Core.Path.{◌≡◌, refl, sym, ap, ap₂, ◌∙◌}
use mathlib.Core.Logic.{◌↔◌}
use mathlib.Core.Bool.{Bool, true, false, ◌&&◌}
use mathlib.Core.List.{List, [], ◌∷◌}
use Prim.Native.Nat.{ℕ, zero, suc, ◌+◌, ◌-◌, ◌≤◌, ◌<◌}
use native.Mathlib.Omega.{arith}
use lib.ListN.{length, get_or, take}
use lib.Dec.{eqb, eqb→eq, leb, le→leb, leb→le, ltb, ltb→lt, lt→ltb}
use Rattle.rules.specs.Basics.{whether◌then◌else◌}
use Rattle.rules.specs.Tables.{Tables, piece, head_of, piece_total}
use Rattle.rules.specs.Chain.{walk, chain, own_pieces, own_of, stretches, spans, total, own_at}
use Rattle.rules.specs.Keep.{kept, kept_own}
use Rattle.rules.specs.Drop.{drop_here, drop_plan, dropped}
use Rattle.rules.proofs.Logic.{if_T, if_F, if_either, is_true, is_false, same_test, eq→eqb}
use Rattle.rules.proofs.Hang.{stretches_length}
use Rattle.rules.proofs.Overlaps.{cut_short, own_part_lem}
use Rattle.rules.proofs.Bounds.{chain_short}

own_take : (k n : ℕ) (T : Tables) → own_pieces k T n ≡ take (length (own_pieces k T n)) (walk k T n)
unfolding own_pieces walk
own_take zero n T = refl
own_take (suc k) zero T = refl
own_take (suc k) (suc d) T =
    if_either (λ (q : List ℕ). q ≡ take (length q) (d ∷ walk k T (piece T d).next)) (eqb (piece T d).count 1) (d ∷ own_pieces k T (piece T d).next) []
    (λ _. ap {B = List ℕ} (λ q. d ∷ q) (own_take k (piece T d).next T)) (λ _. refl)

-- a slip's own pieces are the first of its chain
pub own_first : (T : Tables) (s : ℕ) → own_of T s ≡ take (length (own_of T s)) (chain T s)
own_first T s = own_take (piece_total T) (head_of T s) T

-- the pieces ds up to place i have count 1
abbrev Singles : Tables → List ℕ → ℕ → Type 0
Singles T ds i = (j : ℕ) → j ≤ i → (piece T (get_or ds j 0)).count ≡ 1

own_here : (k n : ℕ) (T : Tables) (i : ℕ) → i < length (walk k T n) → (i < length (own_pieces k T n)) ↔ Singles T (walk k T n) i
unfolding own_pieces walk
own_here zero n T i l = absurd (omega arith)
own_here (suc k) zero T i l = absurd (omega arith)
own_here (suc k) (suc d) T i l =
    let ds = walk k T (piece T d).next in
    let own = own_pieces k T (piece T d).next in
    if_either (λ (q : List ℕ). (i < length q) ↔ Singles T (d ∷ ds) i) (eqb (piece T d).count 1) (d ∷ own) []
    (λ t. with_first d ds own i (eqb→eq (piece T d).count 1 t) (λ j m. own_here k (piece T d).next T j m) l)
    (λ n. (λ m. absurd (omega arith), λ f. absurd (n (eq→eqb (piece T d).count 1 (f 0 (omega arith))))))
  where
    with_first : (d : ℕ) (ds own : List ℕ) (i : ℕ) → (piece T d).count ≡ 1 → ((j : ℕ) → j < length ds → (j < length own) ↔ Singles T ds j) → i < suc (length ds)
        → (i < suc (length own)) ↔ Singles T (d ∷ ds) i
    with_first d ds own zero c f m = (λ _ j z. (let e : j ≡ 0 = omega arith in ap (λ x. (piece T (get_or (d ∷ ds) x 0)).count) e ∙ c), λ _. omega arith)
    with_first d ds own (suc i) c f m =
        let r = f i (omega arith) in
        (λ z. up (r.0 (omega arith)), λ g. (let w = r.1 (λ j b. g (suc j) (omega arith)) in omega arith))
      where
        up : Singles T ds i → Singles T (d ∷ ds) (suc i)
        up g zero b = c
        up g (suc j) b = g j (omega arith)

-- The piece at place i is own just where it and all before it have count 1.
pub own_exact : (T : Tables) (s i : ℕ) → i < length (chain T s)
    → (i < length (own_of T s)) ↔ ((j : ℕ) → j ≤ i → (piece T (get_or (chain T s) j 0)).count ≡ 1)
own_exact T s i l = own_here (piece_total T) (head_of T s) T i l

-- ---- keep

-- Of the pieces that stay of a keep, those are taken for own that are.
pub keep_own : (T : Tables) (s n : ℕ) → kept_own T s n ≡ take (length (kept T s n)) (own_of T s)
keep_own T s n =
    own_part_lem (length (kept T s n)) (piece_total T) (head_of T s) T
    (omega (arith, cut_short (spans T s) 0 n, stretches_length T (chain T s), chain_short T s))

-- ---- drop

own_zero : (own b : Bool) (d : ℕ) (l : List ℕ) → (own && b) ≡ (own && ltb 0 (length (whether b then d ∷ l else [])))
unfolding whether◌then◌else◌
own_zero true true d l = sym (is_true _ (lt→ltb 0 (suc (length l)) (omega arith)))
own_zero true false d l = refl
own_zero false b d l = refl

own_suc : (own b : Bool) (i d : ℕ) (l : List ℕ) → ((own && b) && ltb i (length l)) ≡ (own && ltb (suc i) (length (whether b then d ∷ l else [])))
unfolding whether◌then◌else◌
own_suc true true i d l =
    same_test _ _ (λ t. lt→ltb (suc i) (suc (length l)) (let q = ltb→lt i (length l) t in omega arith))
    (λ t. lt→ltb i (length l) (let q = ltb→lt (suc i) (suc (length l)) t in omega arith))
own_suc true false i d l = sym (is_false _ (λ t. (let q = ltb→lt (suc i) 0 t in omega arith)))
own_suc false b i d l = refl

drop_place : (k n : ℕ) (T : Tables) (own : Bool) (i r : ℕ) → i < length (walk k T n) → r < (piece T (get_or (walk k T n) i 0)).len
    → drop_plan T own (walk k T n) (total (stretches T (take i (walk k T n))) + r)
    ≡ drop_here T (own && ltb i (length (own_pieces k T n))) (get_or (walk k T n) i 0) r
unfolding own_pieces walk drop_plan total stretches
drop_place zero n T own i r l m = absurd (omega arith)
drop_place (suc k) zero T own i r l m = absurd (omega arith)
drop_place (suc k) (suc d) T own zero r l m =
    let p = piece T d in
    let e : 0 + r ≡ r = omega arith in
    if_F (leb p.len (0 + r)) _ _ (λ t. (let q = leb→le p.len (0 + r) t in omega arith))
    ∙ ap₂ (λ b j. drop_here T b d j) (own_zero own (eqb p.count 1) d (own_pieces k T p.next)) e
drop_place (suc k) (suc d) T own (suc i) r l m =
    let p = piece T d in
    let ds = walk k T p.next in
    let t = total (stretches T (take i ds)) in
    let e : p.len + t + r - p.len ≡ t + r = omega arith in
    if_T (leb p.len (p.len + t + r)) _ _ (le→leb p.len (p.len + t + r) (omega arith))
    ∙ ap (drop_plan T (own_at T own d) ds) e ∙ drop_place k p.next T (own_at T own d) i r (omega arith) m
    ∙ ap (λ b. drop_here T b (get_or ds i 0) r) (own_suc own (eqb p.count 1) i d (own_pieces k T p.next))

-- Where the cut of a drop falls r bytes into the piece at place i, that piece is taken for own just where it is.
pub drop_own : (T : Tables) (s i r : ℕ) → i < length (chain T s) → r < (piece T (get_or (chain T s) i 0)).len
    → dropped T s (total (stretches T (take i (chain T s))) + r) ≡ drop_here T (ltb i (length (own_of T s))) (get_or (chain T s) i 0) r
drop_own T s i r l m = drop_place (piece_total T) (head_of T s) T true i r l m
