-- Links in sound tables: what a link to a piece in use leads to. Assumes nothing.
use mathlib.Core.Path.{◌≡◌, refl, sym, ap, subst}
use mathlib.Core.List.{List, [], ◌∷◌}
use Prim.Native.Nat.{ℕ, zero, suc, pred, ◌+◌, ◌-◌, ◌≤◌, ◌<◌, ◌*◌}
use native.Mathlib.Omega.{arith}
use lib.ListN.{length}
use lib.Dec.{eqb, eqb→eq, ltb, ltb→lt, leb, leb→le}
use Rattle.kinds.specs.Limits.{buffer_size}
use Rattle.kinds.specs.Sizes.{largest, size_of}
use Rattle.kinds.proofs.Sizes.{size_most}
use Rattle.rules.specs.Basics.{Is}
use Rattle.rules.specs.Tables.{Tables, piece, piece_total, buffer_total}
use Rattle.rules.specs.Chain.{follow, walk, stretch, stretches, total}
use Rattle.rules.specs.Sound.{link_ok, SoundTables}
use Rattle.rules.proofs.Logic.{if_F, and_parts}
use Rattle.rules.proofs.Build.{Good}
use Rattle.rules.proofs.Chain.{walk_used, stretches_good, AllUsed}
use Rattle.rules.proofs.Meets.{Meets, go, meets_walk, meets_some}
use Rattle.rules.proofs.Hang.{stretches_length}
use Rattle.rules.proofs.Audit.{tables_now}
use Rattle.rules.proofs.Bounds.{total_small}
use Rattle.chain.specs.Length.{stretches_from}

-- ---- a slip's entry

-- the link that an entry n holds
pub head_none : {v n : ℕ} → v ≡ n → v ≡ 0 → 0 ≡ pred n
head_none e z = omega arith

pub head_some : {v n : ℕ} → v ≡ n → (v ≡ 0 → ⊥) → v - 1 ≡ pred n
head_some e z = omega arith

-- ---- pieces in use

-- what is known of a piece in use, piece d, in sound tables
pub record InUse (T : Tables) (d : ℕ) : Type 0 where
  pub below : d < piece_total T
  pub used : 0 < (piece T d).count
  pub in_store : (piece T d).buffer < buffer_total T
  pub some_bytes : 1 ≤ (piece T d).len
  pub inside : (piece T d).offset + (piece T d).len ≤ size_of T.stock (piece T d).buffer
  pub most : (piece T d).offset + (piece T d).len ≤ largest
  pub onward : Is (link_ok T (piece T d).next)

-- a good link that is not 0 leads to a piece in use
pub link_leads : (T : Tables) (n : ℕ) → SoundTables T → Is (link_ok T n) → (n ≡ 0 → ⊥) → InUse T (n - 1)
link_leads T zero S t h = absurd (h refl)
link_leads T (suc d) S t h = subst (InUse T) (omega arith) it
  where
    it : InUse T d
    it =
        let p = piece T d in
        let (l, u) = and_parts (ltb d (piece_total T)) _ t in
        let b = ltb→lt d (piece_total T) l in
        let some = ltb→lt 0 p.count u in
        let t₀ = subst Is (if_F (eqb p.count 0) _ _ (λ z. omega (arith, eqb→eq p.count 0 z))) (S.pieces_ok d b) in
        let (x, t₁) = and_parts (ltb p.buffer (buffer_total T)) _ t₀ in
        let (y, t₂) = and_parts (leb 1 p.len) _ t₁ in
        let (z, n) = and_parts (leb (p.offset + p.len) (size_of T.stock p.buffer)) _ t₂ in
        record {
          below = b;
          used = some;
          in_store = ltb→lt p.buffer (buffer_total T) x;
          some_bytes = leb→le 1 p.len y;
          inside = leb→le (p.offset + p.len) (size_of T.stock p.buffer) z;
          most = omega (arith, leb→le (p.offset + p.len) (size_of T.stock p.buffer) z, size_most T.stock p.buffer);
          onward = n;
        }

-- a good link is at most P
pub link_below : (T : Tables) (n : ℕ) → SoundTables T → Is (link_ok T n) → n ≤ piece_total T
link_below T zero S t = omega arith
link_below T (suc d) S t = omega (arith, (link_leads T (suc d) S t (λ z. omega arith)).below)

-- following next from a good link comes to a good link
pub follow_good : (T : Tables) (j n : ℕ) → SoundTables T → Is (link_ok T n) → Is (link_ok T (follow T j n))
unfolding follow
follow_good T zero n S t = t
follow_good T (suc j) zero S t = tt
follow_good T (suc j) (suc d) S t =
    let b : suc d - 1 ≡ d = omega arith in
    follow_good T j (piece T d).next S (subst (λ (x : ℕ). Is (link_ok T (piece T x).next)) b (link_leads T (suc d) S t (omega arith)).onward)

-- following next past the first piece
pub follow_first : (T : Tables) (k n : ℕ) → (k ≡ 0 → ⊥) → (n ≡ 0 → ⊥) → follow T k n ≡ follow T (k - 1) (piece T (n - 1)).next
unfolding follow
follow_first T zero n h i = absurd (h refl)
follow_first T (suc k) zero h i = absurd (i refl)
follow_first T (suc k) (suc d) h i =
    let a : suc k - 1 ≡ k = omega arith in
    let b : suc d - 1 ≡ d = omega arith in
    rw (a, b)

-- ---- the pieces met from a link

-- no piece is met from the link 0
pub walk_none : (k : ℕ) (T : Tables) → walk k T 0 ≡ []
unfolding walk
walk_none zero T = refl
walk_none (suc k) T = refl

-- the first piece, and the pieces met after it
pub walk_first : (k n : ℕ) (T : Tables) → (k ≡ 0 → ⊥) → (n ≡ 0 → ⊥) → walk k T n ≡ (n - 1) ∷ walk (k - 1) T (piece T (n - 1)).next
unfolding walk
walk_first zero n T h i = absurd (h refl)
walk_first (suc k) zero T h i = absurd (i refl)
walk_first (suc k) (suc d) T h i =
    let a : suc k - 1 ≡ k = omega arith in
    let b : suc d - 1 ≡ d = omega arith in
    rw (a, b)

-- in sound tables a good link leads to at most P pieces, and a walk of P meets them all
pub link_meets : (T : Tables) (n : ℕ) → SoundTables T → Is (link_ok T n) → (l : List ℕ) × Meets T n l × (length l ≤ piece_total T)
link_meets T n S t =
    meets_some n (tables_now T S) (λ d e. subst (λ (x : ℕ). 0 < (piece T x).count) (omega arith) (link_leads T n S t (omega arith)).used)

pub walk_meets : (T : Tables) (n : ℕ) → SoundTables T → Is (link_ok T n) → Meets T n (walk (piece_total T) T n)
walk_meets T n S t =
    let (l, m, h) = link_meets T n S t in
    subst (Meets T n) (sym (meets_walk (piece_total T) m h)) m

-- from the pieces met, one follow takes the first away
next_met : (T : Tables) (P n : ℕ) (l : List ℕ) → Meets T n l → length l ≤ P → (n ≡ 0 → ⊥) → walk P T n ≡ (n - 1) ∷ walk P T (piece T (n - 1)).next
next_met T P zero l m h i = absurd (i refl)
next_met T P (suc d) l (go {l = r} m) h i =
    let b : suc d - 1 ≡ d = omega arith in
    rw (b, meets_walk P m (omega arith)) (meets_walk P (go m) h)

-- the first piece, and the pieces met after it, with P allowed from each
pub walk_on : (T : Tables) (n : ℕ) → SoundTables T → Is (link_ok T n) → (n ≡ 0 → ⊥)
    → walk (piece_total T) T n ≡ (n - 1) ∷ walk (piece_total T) T (piece T (n - 1)).next
walk_on T n S t i = let (l, m, h) = link_meets T n S t in next_met T (piece_total T) n l m h i

-- so a walk from the next piece is shorter
pub walk_less : (T : Tables) (n : ℕ) → SoundTables T → Is (link_ok T n) → (n ≡ 0 → ⊥)
    → length (walk (piece_total T) T (piece T (n - 1)).next) < length (walk (piece_total T) T n)
walk_less T n S t i = omega (arith, ap length (walk_on T n S t i))

-- it meets at most P
pub walk_most : (T : Tables) (n : ℕ) → SoundTables T → Is (link_ok T n) → length (walk (piece_total T) T n) ≤ piece_total T
walk_most T n S t =
    let (l, m, h) = link_meets T n S t in
    subst (λ (x : List ℕ). length x ≤ piece_total T) (sym (meets_walk (piece_total T) m h)) h

-- the stretches met: none, or the first and those met after it
pub stretches_none : (T : Tables) → stretches_from T 0 ≡ []
unfolding stretches
stretches_none T = ap (stretches T) (walk_none (piece_total T) T)

pub stretches_on : (T : Tables) (n : ℕ) → SoundTables T → Is (link_ok T n) → (n ≡ 0 → ⊥)
    → stretches_from T n ≡ stretch (piece T (n - 1)) ∷ stretches_from T (piece T (n - 1)).next
unfolding stretches
stretches_on T n S t i = ap (stretches T) (walk_on T n S t i)

-- the pieces met are in use
pub walk_in_use : (T : Tables) (n : ℕ) → SoundTables T → Is (link_ok T n) → AllUsed T (walk (piece_total T) T n)
walk_in_use T n S t =
    walk_used (piece_total T) n (tables_now T S).1 (λ d e. subst (λ (x : ℕ). 0 < (piece T x).count) (omega arith) (link_leads T n S t (omega arith)).used)

-- each stretch lies in its buffer
pub stretches_in : (T : Tables) (n : ℕ) → SoundTables T → Is (link_ok T n) → Good T.stock (buffer_total T) (stretches_from T n)
stretches_in T n S t = stretches_good (walk (piece_total T) T n) (tables_now T S).1 (walk_in_use T n S t)

-- there are at most P
pub stretches_few : (T : Tables) (n : ℕ) → SoundTables T → Is (link_ok T n) → length (stretches_from T n) ≤ piece_total T
stretches_few T n S t = omega (arith, stretches_length T (walk (piece_total T) T n), walk_most T n S t)

-- and they have at most as many bytes as P buffers
pub stretches_small : (T : Tables) (n : ℕ) → SoundTables T → Is (link_ok T n) → total (stretches_from T n) ≤ buffer_size * piece_total T
stretches_small T n S t = omega (arith, total_small T.stock (buffer_total T) (stretches_from T n) (stretches_in T n S t), stretches_few T n S t)

-- ---- the length of the pieces met

-- where no piece is allowed, where none is met, and of the first piece and the rest
pub length_none : (k n : ℕ) (T : Tables) → k ≡ 0 → total (stretches T (walk k T n)) ≡ 0
unfolding walk stretches total
length_none zero n T h = refl
length_none (suc k) n T h = absurd (omega arith)

pub length_empty : (k n : ℕ) (T : Tables) → n ≡ 0 → total (stretches T (walk k T n)) ≡ 0
unfolding stretches total
length_empty k n T h = rw (h, walk_none)

pub length_first : (k n : ℕ) (T : Tables) → (k ≡ 0 → ⊥) → (n ≡ 0 → ⊥)
    → total (stretches T (walk k T n)) ≡ (piece T (n - 1)).len + total (stretches T (walk (k - 1) T (piece T (n - 1)).next))
unfolding stretches total
length_first k n T h i = rw (walk_first k n T h i)

-- of the first k pieces, and of the others of the m allowed
pub length_split : (k m n : ℕ) (T : Tables) → k ≤ m
    → total (stretches T (walk m T n)) ≡ total (stretches T (walk k T n)) + total (stretches T (walk (m - k) T (follow T k n)))
unfolding follow walk stretches total
length_split zero m n T h =
    let a : m - 0 ≡ m = omega arith in
    rw a (omega arith)
length_split (suc k) zero n T h = absurd (omega arith)
length_split (suc k) (suc m) zero T h = omega (arith, length_empty (suc m - suc k) 0 T refl)
length_split (suc k) (suc m) (suc d) T h =
    let a : suc m - suc k ≡ m - k = omega arith in
    rw a (omega (arith, length_split k m (piece T d).next T (omega arith)))
