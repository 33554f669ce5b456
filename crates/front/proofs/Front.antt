-- Room for pieces where own pieces are given back first: what stands in front, and what is free beside it. Assumes nothing.
use mathlib.Core.Path.{◌≡◌, refl, sym, ap, subst, ◌∙◌}
use mathlib.Core.Logic.{⊎_elim}
use mathlib.Core.Bool.{Bool, true, false}
use mathlib.Core.List.{List, [], ◌∷◌}
use Prim.Native.Nat.{ℕ, zero, suc, ◌+◌, ◌-◌, ◌≤◌, ◌<◌}
use native.Mathlib.Decide.{ℕ_discrete}
use native.Mathlib.Omega.{arith}
use lib.ListN.{length}
use lib.Dec.{eqb, eqb→eq, leb}
use borrow.Author.Tests.{le-leb, lt-leb}
use Rattle.rules.specs.Basics.{Is, whether◌then◌else◌, places, member}
use Rattle.rules.specs.Tables.{Tables, piece, piece_total}
use Rattle.rules.specs.Chain.{own_pieces}
use Rattle.rules.specs.Sound.{link_ok, SoundTables}
use Rattle.rules.specs.Room.{is_free, is_free_with, free_pieces}
use Rattle.rules.proofs.Logic.{if_either, or_cases}
use Rattle.room.specs.Free.{first_or, first_from, lowest_for, RoomFor}
use Rattle.room.proofs.Free.{piece_first, no_piece}
use Rattle.own.specs.Own.{single}
use Rattle.own.proofs.Own.{none_own, single_link}
use Rattle.chain.proofs.Links.{link_leads, walk_less, walk_most}
use Rattle.std.specs.Prelude.{Result, min}
use Rattle.front.specs.declared.FrontRoom.{FrontRoom}
use Rattle.front.specs.Front.{RoomWith, RoomInFront, RoomBeside, RoomThere}

-- ---- below the lowest

-- of the k numbers from i on none passes below the first that does
under_first : (f : ℕ → Bool) (k i n d : ℕ) → k ≡ n - i → i ≤ d → d < first_or n (places f i k) → Is (f d) → ⊥
unfolding places
under_first f zero i n d e h l t = omega arith
under_first f (suc k) i n d e h l t =
    let more = places f (suc i) k in
    if_either (λ (q : List ℕ). d < first_or n q → ⊥) (f i) (i ∷ more) more (λ _ m. omega arith)
    (λ u m. elim (ℕ_discrete d i) [ yes z ↦ u (subst (λ (x : ℕ). Is (f x)) z t) | no z ↦ under_first f k (suc i) n d (omega arith) (omega arith) m t ]) l

-- so none passes below the lowest, nor below the lowest wanted
none_under : (f : ℕ → Bool) (n d : ℕ) → d < first_from f 0 n → Is (f d) → ⊥
unfolding first_from
none_under f n d h = under_first f (n - 0) 0 n d refl (omega arith) h

none_lower : (f : ℕ → Bool) (k n d : ℕ) → d < lowest_for f k n → Is (f d) → ⊥
none_lower f zero n d h t = omega arith
none_lower f (suc k) n d h t = none_under f n d h t

-- ---- room with what is given back

-- as many are given back as are wanted
given_enough : (T : Tables) (ds : List ℕ) (wanted : ℕ) → wanted ≤ length ds → RoomWith T ds wanted 0 0 true
given_enough T ds wanted h =
    record { there = sym (le-leb wanted (length ds + length (free_pieces T)) (omega arith)); none_below = λ d l t. omega arith; none_between = λ d l m t. omega arith }

-- none is given back
given_none : (T : Tables) (wanted : ℕ) {r : ℕ} {b : Bool} → RoomFor (is_free T) wanted (piece_total T) r b → RoomWith T [] wanted r r b
unfolding member
given_none T wanted (low, is) =
    let e : length (free_pieces T) ≡ 0 + length (free_pieces T) = omega arith in record {
      there = is ∙ ap (leb wanted) e;
      none_below = λ d h t. none_lower (is_free T) wanted (piece_total T) d (omega (arith, low)) t;
      none_between = λ d l m t. omega arith;
    }

-- below the lowest free number r, only d is free with d
with_one : (T : Tables) (d : ℕ) {r : ℕ} (x : ℕ) → r ≡ first_from (is_free T) 0 (piece_total T) → x < r → Is (is_free_with T (d ∷ []) x) → x ≡ d
unfolding member
with_one T d x e h t =
    ⊎_elim (λ m. ⊎_elim (λ q. sym (eqb→eq d x q)) (λ q. absurd q) (or_cases (eqb d x) false m))
    (λ q. absurd (none_under (is_free T) (piece_total T) x (omega (arith, e)) q)) (or_cases (member x (d ∷ [])) (is_free T x) t)

-- piece d is given back, and two are wanted: r is the lowest of the others
module _ (T : Tables) (d : ℕ) {r : ℕ} (e : r ≡ first_from (is_free T) 0 (piece_total T)) where
  pub given_one : r < piece_total T → RoomWith T (d ∷ []) 2 (min r d) r true
  given_one h = record {
    there = sym (le-leb 2 (1 + length (free_pieces T)) (omega (arith, ap length (piece_first T e h))));
    none_below = λ x l t. omega (arith, with_one T d x e (omega arith) t);
    none_between = λ x l m t. omega (arith, with_one T d x e m t);
  }

  -- none is free
  pub given_alone : r ≡ piece_total T → RoomWith T (d ∷ []) 2 0 0 false
  given_alone z = record {
    there = sym (lt-leb 2 (1 + length (free_pieces T)) (omega (arith, ap length (no_piece T e z))));
    none_below = λ x l t. omega arith;
    none_between = λ x l m t. omega arith;
  }

-- ---- the own pieces in front

-- the first is own, and those after it are
own_first : (k n : ℕ) (T : Tables) → 0 < k → single T n ≡ true → own_pieces k T n ≡ (n - 1) ∷ own_pieces (k - 1) T (piece T (n - 1)).next
unfolding own_pieces whether◌then◌else◌
own_first zero n T h e = absurd (omega arith)
own_first (suc k) zero T h e = absurd (single_link 0 T e refl)
own_first (suc k) (suc d) T h e =
    let a : suc k - 1 ≡ k = omega arith in
    let b : suc d - 1 ≡ d = omega arith in
    rw (a, b, e)

-- the head's piece is not own
pub front_shared : (T : Tables) (n wanted : ℕ) {r : ℕ} {b : Bool} → single T n ≡ false → RoomFor (is_free T) wanted (piece_total T) r b → RoomInFront T n wanted r r b
front_shared T n wanted e is = rw (none_own (piece_total T) n T e) (given_none T wanted is)

-- it is not, and fewer than wanted are free
pub front_few : (T : Tables) (n wanted : ℕ) → single T n ≡ false → false ≡ leb wanted (length (free_pieces T)) → RoomInFront T n wanted 0 0 false
front_few T n wanted e is =
    record { there = (front_shared T n wanted e (refl, is)).there; none_below = λ d l t. omega arith; none_between = λ d l m t. omega arith }

-- from a good link n to a piece of count 1
module _ (T : Tables) (n : ℕ) (S : SoundTables T) (t : Is (link_ok T n)) (one : single T n ≡ true) where
  -- so there is an own piece
  front : own_pieces (piece_total T) T n ≡ (n - 1) ∷ own_pieces (piece_total T - 1) T (piece T (n - 1)).next
  front = own_first (piece_total T) n T (omega (arith, (link_leads T n S t (single_link n T one)).below)) one

  pub front_own_lem : (wanted : ℕ) → wanted ≤ 1 → RoomInFront T n wanted 0 0 true
  front_own_lem wanted h = given_enough T (own_pieces (piece_total T) T n) wanted (omega (arith, ap length front))

  -- where m is the next link
  module _ {m : ℕ} (next : m ≡ (piece T (n - 1)).next) where
    after : own_pieces (piece_total T) T n ≡ (n - 1) ∷ own_pieces (piece_total T - 1) T m
    after = rw next front

    -- its piece is own too: it is another one
    pub front_both : (wanted : ℕ) → wanted ≤ 2 → single T m ≡ true → RoomInFront T n wanted 0 0 true
    front_both wanted h e =
        let P = piece_total T in
        let i = single_link n T one in
        let good : Is (link_ok T m) = rw next (link_leads T n S t i).onward in
        let less = walk_less T n S t i in
        let two : 0 < P - 1 = omega (arith, walk_most T n S t, rw (← next) at less, walk_less T m S good (single_link m T e)) in
        given_enough T (own_pieces P T n) wanted (omega (arith, ap length after, ap length (own_first (P - 1) m T two e)))

    -- it is not: the head's piece alone is given back
    pub front_alone : (wanted : ℕ) (o : Result FrontRoom FrontRoom) → wanted ≡ 2 → single T m ≡ false → RoomThere (RoomBeside T (n - 1)) o
        → RoomThere (RoomInFront T n wanted) o
    front_alone wanted o h e is = rw (h, after, none_own (piece_total T - 1) m T e) is
