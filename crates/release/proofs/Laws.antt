-- Release over the tables alone and over storage: the rule, its single steps, and what is left of it on the way. Assumes nothing.
use mathlib.Core.Path.{◌≡◌, refl, sym, ap, subst, ◌∙◌}
use mathlib.Core.Bool.{Bool, true, false}
use mathlib.Core.List.{List, [], ◌∷◌}
use Prim.Native.Nat.{ℕ, zero, suc, pred, ◌-◌, ◌≤◌, ◌<◌}
use native.Mathlib.Omega.{arith}
use lib.ListN.{length}
use Rattle.rules.specs.Basics.{Is, whether◌then◌else◌, sum_to}
use Rattle.rules.specs.Tables.{Tables, blank, piece, head_of, slip_total, piece_total, set_slip, set_piece, with_count, with_next}
use Rattle.rules.specs.Bytes.{decode}
use Rattle.rules.specs.Chain.{State, state_of, with_tables}
use Rattle.rules.specs.Release.{lowered, another, freed, release_in, release, turned, relinked}
use Rattle.rules.proofs.Logic.{if_T, if_F}
use Rattle.rules.proofs.Moves.{SoundBy, SoundWith, in_range, used_in_range_lem, sum_set, reorder, slip_move, lower_move, buffer_pos, freed_tables, free_move}
use Rattle.rules.proofs.Rank.{low, low_below, lower_rank}
use Rattle.rules.proofs.Release.{held_pos, some_other, last_one}
use Rattle.layout.specs.declared.Shape.{Shape}
use Rattle.tables.specs.Shape.{Holds}
use Rattle.release.specs.Release.{bare, released, turned_to, relinked_to, stepped, step_next, Held, Releasable}
use Rattle.release.specs.Release.{released_storage, turned_storage, relinked_storage, stepped_storage}

-- ---- the tables do not depend on storage

release_in_tables : (k : ℕ) (S : State) (n : ℕ) → (release_in k S n).tables ≡ (release_in k (bare S.tables) n).tables
unfolding release_in whether◌then◌else◌
release_in_tables zero S n = refl
release_in_tables (suc k) S zero = refl
release_in_tables (suc k) S (suc d) =
    grind (arith, release_in_tables k (freed S d) (piece S.tables d).next, release_in_tables k (freed (bare S.tables) d) (piece S.tables d).next)

pub release_tables : (S : State) (n : ℕ) → (release S n).tables ≡ released S.tables n
unfolding release released
release_tables S n = release_in_tables (piece_total S.tables) S n

pub turned_tables : (S : State) (s v : ℕ) → (turned S s v).tables ≡ turned_to S.tables s v
unfolding turned turned_to released
turned_tables S s v = release_tables (with_tables S (set_slip S.tables s v)) (head_of S.tables s)

pub relinked_tables : (S : State) (l n : ℕ) → (relinked S l n).tables ≡ relinked_to S.tables l n
unfolding relinked relinked_to released
relinked_tables S l n = let T = S.tables in release_tables (with_tables S (set_piece T l (with_next (piece T l) n))) (piece T l).next

-- the two stores, then a release
pub turned_is : (T : Tables) (s v : ℕ) → turned_to T s v ≡ released (set_slip T s v) (head_of T s)
unfolding turned turned_to released
turned_is T s v = refl

pub relinked_is : (T : Tables) (l n : ℕ) → relinked_to T l n ≡ released (set_piece T l (with_next (piece T l) n)) (piece T l).next
unfolding relinked relinked_to released
relinked_is T l n = refl

pub turned_cleans : (T : Tables) (st : List ℕ) (s v : ℕ) → turned_storage T st s v ≡ released_storage (set_slip T s v) st (head_of T s)
unfolding turned turned_storage released_storage
turned_cleans T st s v = refl

pub relinked_cleans : (T : Tables) (st : List ℕ) (l n : ℕ) → relinked_storage T st l n ≡ released_storage (set_piece T l (with_next (piece T l) n)) st (piece T l).next
unfolding relinked relinked_storage released_storage
relinked_cleans T st l n = refl

pub ruleset moves = (turned_is, turned_cleans, relinked_is, relinked_cleans)

-- a held link leads nowhere, or to one of the pieces
pub held_below : {rank : ℕ → ℕ} {fl : List ℕ} (T : Tables) (n : ℕ) → SoundBy rank (n ∷ fl) T → n ≤ piece_total T
held_below T zero S = omega arith
held_below T (suc d) S = used_in_range_lem T d (held_pos d S)

-- no link can be released whatever else is held
pub releasable_none : {fl : List ℕ} {T : Tables} → SoundWith fl T → Releasable T 0
releasable_none {fl} h = record { others = fl; sound = (h.0, reorder (λ d. omega arith) h.1) }

release_in_none : (k : ℕ) (S : State) → release_in k S 0 ≡ S
unfolding release_in
release_in_none zero S = refl
release_in_none (suc k) S = refl

-- ---- a single step

-- a choice of a state and a link by one test
by_test : (P : State → ℕ → Type 0) (c : Bool) (A B : Tables) (x y : List ℕ) (m n : ℕ) → (Is c → P (state_of A x) m) → ((Is c → ⊥) → P (state_of B y) n)
    → P (state_of (whether c then A else B) (whether c then x else y)) (whether c then m else n)
unfolding whether◌then◌else◌
by_test P true A B x y m n f g = f tt
by_test P false A B x y m n f g = g (λ t. t)

-- the state after a step
abbrev pub stepped_state : Tables → List ℕ → ℕ → State
stepped_state T st d = state_of (stepped T d) (stepped_storage T st d)

-- what holds of a lowered count and of a freed piece holds after a step
by_step : (P : State → ℕ → Type 0) (T : Tables) (st : List ℕ) (d : ℕ) → (Is (another T d) → P (state_of (lowered T d) st) 0)
    → ((Is (another T d) → ⊥) → P (freed (state_of T st) d) (piece T d).next) → P (stepped_state T st d) (step_next T d)
unfolding stepped step_next stepped_storage
by_step P T st d f g = by_test P (another T d) (lowered T d) (freed_tables T d) st (freed (state_of T st) d).storage 0 (piece T d).next f g

-- ---- what is left of a release

-- A release of the link m in the state O has come to the state S, and the link n is still to be released.
pub record Left (O : State) (m : ℕ) (S : State) (n : ℕ) : Type 0 where
  pub most : ℕ
  pub rank : ℕ → ℕ
  pub others : List ℕ
  pub sound : SoundBy rank (n ∷ others) S.tables
  pub below : (d : ℕ) → n ≡ suc d → rank d < most
  pub is : release_in most S n ≡ release O m

-- the references that the pieces count, which a step makes fewer
pub references : Tables → ℕ
references T = sum_to (length T.pieces) (λ c. (piece T c).count)

pub starts : {T : Tables} {n : ℕ} (st : List ℕ) → Releasable T n → Left (state_of T st) n (state_of T st) n
unfolding release
starts {T} {n} st r =
    let rank = r.sound.0 in
    let P = piece_total T in
    record {
      most = P;
      rank = low P rank;
      others = r.others;
      sound = lower_rank r.sound.1;
      below = λ d q. low_below P rank d (used_in_range_lem T d (held_pos d (subst (λ (x : ℕ). SoundBy rank (x ∷ r.others) T) q r.sound.1)));
      is = refl;
    }

ends : {O S : State} {m n : ℕ} → Left O m S n → n ≡ 0 → S ≡ release O m
ends {O} {S} {m} {n} l z = sym (release_in_none l.most S) ∙ ap (λ (x : ℕ). release_in l.most S x) (sym z) ∙ l.is

pub ends_tables : {O S : State} {m n : ℕ} → Left O m S n → n ≡ 0 → S.tables ≡ released O.tables m
ends_tables {O} {S} {m} l z = ap (λ (X : State). X.tables) (ends l z) ∙ release_tables O m

pub ends_storage : {O S : State} {m n : ℕ} → Left O m S n → n ≡ 0 → S.storage ≡ released_storage O.tables O.storage m
unfolding released_storage
ends_storage l z = ap (λ (X : State). X.storage) (ends l z)

held_of : {rank : ℕ → ℕ} {fl : List ℕ} (T : Tables) (d : ℕ) → SoundBy rank (suc d ∷ fl) T → Held T d
held_of T d S =
    let u = held_pos d S in
    let b = buffer_pos d u S in
    record { inside = used_in_range_lem T d u; counted = u; buffer_inside = in_range T.counts 0 (λ n. n) (piece T d).buffer refl b; buffer_counted = b }

fewer : (T : Tables) (d : ℕ) → Held T d → references (stepped T d) < references T
unfolding references
fewer T d h =
    by_step (λ (X : State) _. references X.tables < references T) T [] d
    (λ _. omega (arith, h.counted, sum_set T.pieces d (with_count (piece T d) ((piece T d).count - 1)) blank (λ q. q.count) h.inside))
    (λ _. omega (arith, h.counted, sum_set T.pieces d blank blank (λ q. q.count) h.inside))

stepped_left : (k : ℕ) {rank : ℕ → ℕ} {fl : List ℕ} {O : State} {m : ℕ} (T : Tables) (st : List ℕ) (d : ℕ) → SoundBy rank (suc d ∷ fl) T → rank d < k
    → release_in k (state_of T st) (suc d) ≡ release O m → Left O m (stepped_state T st d) (step_next T d)
unfolding release_in
stepped_left zero T st d S b e = absurd (omega arith)
stepped_left (suc k) {rank} {fl} {O} {m} T st d S b e =
    let more : State = release_in k (freed (state_of T st) d) (piece T d).next in
    by_step (Left O m) T st d
    (λ t. record {
      most = k;
      rank = rank;
      others = fl;
      sound = reorder (λ x. omega arith) (lower_move d (some_other T d t) S);
      below = λ x q. absurd (omega arith);
      is = release_in_none k (state_of (lowered T d) st) ∙ sym (if_T (another T d) (state_of (lowered T d) st) more t) ∙ e;
    })
    (λ t. record {
      most = k;
      rank = rank;
      others = fl;
      sound = free_move d (last_one T d (held_pos d S) t) S;
      below = λ x q. omega (arith, S.falls d x q);
      is = sym (if_F (another T d) (state_of (lowered T d) st) more t) ∙ e;
    })

-- what a step asks, and what it leaves: less is left, and fewer references
pub record Onward (O : State) (m : ℕ) (T : Tables) (st : List ℕ) (d : ℕ) : Type 0 where
  pub held : Held T d
  pub left : Left O m (stepped_state T st d) (step_next T d)
  pub less : references (stepped T d) < references T

pub goes : {O : State} {T : Tables} {st : List ℕ} {m : ℕ} (n : ℕ) → Left O m (state_of T st) n → (n ≡ 0 → ⊥) → Onward O m T st (n - 1)
goes zero l z = absurd (z refl)
goes {O} {T} {st} {m} (suc d) l z =
    let h = held_of T d l.sound in
    subst (Onward O m T st) (omega arith) (record { held = h; left = stepped_left l.most T st d l.sound (l.below d refl) l.is; less = fewer T d h })

-- ---- a slip's entry

-- once slip s holds v in its place, the link that it held can be released
pub turn_left : (T : Tables) (s v : ℕ) {p : List ℕ} {h : Shape} {old : ℕ} → Holds p h (set_slip T s v) → old ≡ head_of T s → s < slip_total T → Releasable T (pred v) → Releasable (decode p) old
turn_left T s v was e l r = rw (was.is, e) (record { others = r.others; sound = (r.sound.0, slip_move s v l r.sound.1) })
