-- Release keeps soundness, and leaves the slips alone. Assumes nothing.
use mathlib.Core.Path.{◌≡◌, refl, ap, subst}
use mathlib.Core.Bool.{Bool, true, false}
use mathlib.Core.List.{List, ◌∷◌}
use Prim.Native.Nat.{ℕ, zero, suc, ◌<◌, pred}
use native.Mathlib.Decide.{dec_lt}
use native.Mathlib.Omega.{arith}
use lib.ListN.{length}
use lib.Dec.{ltb→lt, lt→ltb}
use lib.Seq.{set-set}
use Rattle.rules.specs.Basics.{Is, whether◌then◌else◌}
use Rattle.rules.specs.Tables.{Tables, piece, head_of, piece_total, set_slip, with_slips}
use Rattle.rules.specs.Chain.{State, with_tables}
use Rattle.rules.specs.Release.{another, lowered, freed, release_in, release, turned}
use Rattle.rules.proofs.Logic.{if_T, if_either}
use Rattle.rules.proofs.Moves.{SoundBy, SoundWith, hit_same, used_in_range_lem, reorder, slip_move, lower_move, free_move}
use Rattle.rules.proofs.Rank.{low, low_below, lower_rank}

pub no_link : {rank : ℕ → ℕ} {fl : List ℕ} {T : Tables} → SoundBy rank (0 ∷ fl) T → SoundBy rank fl T
no_link S = reorder (λ d. omega arith) S

pub held_pos : {rank : ℕ → ℕ} {fl : List ℕ} {T : Tables} (d : ℕ) → SoundBy rank (suc d ∷ fl) T → 0 < (piece T d).count
held_pos d S = omega (arith, S.counted d, hit_same d)

-- a piece that is released has another reference, or this was its last
pub some_other : (T : Tables) (d : ℕ) → Is (another T d) → 1 < (piece T d).count
some_other T d t = omega (arith, ltb→lt)

pub last_one : (T : Tables) (d : ℕ) → 0 < (piece T d).count → (Is (another T d) → ⊥) → (piece T d).count ≡ 1
last_one T d h t = elim (dec_lt 1 (piece T d).count) [ yes l ↦ absurd (t (omega (arith, lt→ltb))) | no l ↦ omega arith ]

release_by : (k n : ℕ) {rank : ℕ → ℕ} {fl : List ℕ} (S : State) → SoundBy rank (n ∷ fl) S.tables → ((d : ℕ) → n ≡ suc d → rank d < k)
    → SoundBy rank fl (release_in k S n).tables
unfolding release_in
release_by zero zero S h b = no_link h
release_by zero (suc d) S h b = absurd (omega (arith, b d refl))
release_by (suc k) zero S h b = no_link h
release_by (suc k) (suc d) {rank} {fl} S h b =
    let T = S.tables in
    if_either (λ (X : State). SoundBy rank fl X.tables) _ _ _
    (λ t. lower_move d (some_other T d t) h)
    (λ t. release_by k (piece T d).next (freed S d) (free_move d (last_one T d (held_pos d h) t) h) (λ e q. omega (arith, h.falls d e q, b d refl)))

pub release_sound : {fl : List ℕ} (S : State) (n : ℕ) → SoundWith (n ∷ fl) S.tables → SoundWith fl (release S n).tables
unfolding release
release_sound {fl} S n (rank, h) =
    let T = S.tables in (
      low (piece_total T) rank,
      release_by (piece_total T) n S (lower_rank h)
          (λ d q. low_below (piece_total T) rank d (used_in_range_lem T d (held_pos d (subst (λ m. SoundBy rank (m ∷ fl) T) q h)))),
    )

-- a slip takes an entry whose link is held, and what it held is released
pub turned_sound : {fl : List ℕ} (S : State) (s v : ℕ) → s < length S.tables.slips → SoundWith (pred v ∷ fl) S.tables → SoundWith fl (turned S s v).tables
unfolding turned
turned_sound S s v l (rank, h) = release_sound (with_tables S (set_slip S.tables s v)) (head_of S.tables s) (rank, slip_move s v l h)

-- slips

release_in_slips : (k : ℕ) (S : State) (n : ℕ) → (release_in k S n).tables.slips ≡ S.tables.slips
unfolding release_in
release_in_slips zero S n = refl
release_in_slips (suc k) S zero = refl
release_in_slips (suc k) S (suc d) =
    let T = S.tables in
    if_either (λ (X : State). X.tables.slips ≡ T.slips) _ _ _
    (λ _. refl) (λ _. release_in_slips k (freed S d) (piece T d).next)

pub release_slips : (S : State) (n : ℕ) → (release S n).tables.slips ≡ S.tables.slips
unfolding release
release_slips S n = release_in_slips (piece_total S.tables) S n

-- an entry stored after a release may be stored before it
abbrev entered : State → ℕ → ℕ → State
entered S s v = with_tables S (set_slip S.tables s v)

either_way : (b : Bool) (s w : ℕ) (A B A' B' : State) → entered A s w ≡ A' → entered B s w ≡ B' → entered (whether b then A else B) s w ≡ (whether b then A' else B')
unfolding whether◌then◌else◌
either_way true s w A B A' B' p q = p
either_way false s w A B A' B' p q = q

release_in_entry : (k : ℕ) (S : State) (n s v w : ℕ) → entered (release_in k (entered S s v) n) s w ≡ release_in k (entered S s w) n
unfolding release_in
release_in_entry zero S n s v w = ap (λ (q : List ℕ). with_tables S (with_slips S.tables q)) (set-set S.tables.slips s v w)
release_in_entry (suc k) S zero s v w = ap (λ (q : List ℕ). with_tables S (with_slips S.tables q)) (set-set S.tables.slips s v w)
release_in_entry (suc k) S (suc d) s v w =
    let T = S.tables in
    let more : ℕ → State = λ x. release_in k (freed (entered S s x) d) (piece T d).next in
    either_way (another T d) s w (with_tables S (lowered (set_slip T s v) d)) (more v) (with_tables S (lowered (set_slip T s w) d)) (more w)
    (ap (λ (q : List ℕ). with_tables S (with_slips (lowered T d) q)) (set-set T.slips s v w)) (release_in_entry k (freed S d) (piece T d).next s v w)

turned_either : (S : State) (s v w : ℕ) → entered (turned S s v) s w ≡ turned S s w
unfolding turned release
turned_either S s v w = release_in_entry (piece_total S.tables) S (head_of S.tables s) s v w

pub stored_after : (S : State) (s v w : ℕ) → set_slip (turned S s v).tables s w ≡ (turned S s w).tables
stored_after S s v w = ap (λ (X : State). X.tables) (turned_either S s v w)

-- so the storage does not hang on the entry
pub same_storage : (S : State) (s v w : ℕ) → (turned S s v).storage ≡ (turned S s w).storage
same_storage S s v w = ap (λ (X : State). X.storage) (turned_either S s v w)

-- ---- where nothing is freed

-- a link leads nowhere, or to a piece with another reference
abbrev pub Shared : Tables → ℕ → Type 0
Shared T zero = Unit {0}
Shared T (suc d) = 1 < (piece T d).count

-- one reference less to where it leads
abbrev pub unshared : Tables → ℕ → Tables
unshared T zero = T
unshared T (suc d) = lowered T d

-- its release lowers a count, and frees nothing
pub release_shared : (S : State) (n : ℕ) → Shared S.tables n → release S n ≡ with_tables S (unshared S.tables n)
unfolding release release_in
release_shared S zero h = none (piece_total S.tables)
  where
    none : (k : ℕ) → release_in k S 0 ≡ S
    none zero = refl
    none (suc k) = refl
release_shared S (suc d) h = some (piece_total S.tables) (omega (arith, used_in_range_lem S.tables d (omega arith)))
  where
    some : (k : ℕ) → 0 < k → release_in k S (suc d) ≡ with_tables S (lowered S.tables d)
    some zero z = absurd (omega arith)
    some (suc k) z = if_T (another S.tables d) _ _ (lt→ltb 1 (piece S.tables d).count h)
