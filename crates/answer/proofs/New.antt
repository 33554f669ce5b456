-- New pieces under a new slip: what the stores leave, the link to the first of the pieces, and the name that is answered. Assumes nothing.
use mathlib.Core.Path.{◌≡◌, sym, ap, subst, ◌∙◌}
use mathlib.Core.List.{List, [], ◌∷◌}
use Prim.Native.Nat.{ℕ, ◌≤◌, ◌<◌}
use native.Mathlib.Omega.{arith}
use lib.ListN.{get_or}
use Rattle.kinds.specs.Serial.{name_with, slip_in}
use Rattle.kinds.specs.SlipState.{state_of}
use Rattle.std.specs.Prelude.{Ok}
use Rattle.kinds.specs.Outcome.{Outcome, number_of}
use Rattle.rules.specs.Tables.{Tables, slip, serial, name_of, piece_total, holding, set_slip}
use Rattle.rules.specs.Bytes.{decode}
use Rattle.rules.specs.Chain.{Stretch}
use Rattle.rules.specs.Room.{free_pieces}
use Rattle.rules.specs.Build.{Plan, built_link, made, made_link, under_new}
use Rattle.rules.proofs.Build.{Free}
use Rattle.rules.proofs.Room.{free_pieces_lem}
use Rattle.layout.specs.declared.Shape.{Shape}
use Rattle.tables.specs.Shape.{Holds}
use Rattle.tables.proofs.Laws.{onward}
use Rattle.answer.specs.Result.{Leaves}

-- the pieces of a plan, and then the slip
pub under_made : (x : Plan) (fs : List ℕ) (t : ℕ) {p q : List ℕ} {h : Shape} {n : ℕ} → Holds p h (made x fs) → n ≡ made_link x fs
    → Holds q h (set_slip (decode p) t (holding n)) → Holds q h (under_new x fs t)
unfolding under_new
under_made x fs t {n = n} was e is =
    let now = onward was (λ (T : Tables). set_slip T t (holding n)) is in
    record { shaped = now.shaped; is = now.is ∙ ap (λ (m : ℕ). set_slip (made x fs) t (holding m)) e }

-- the link to the first of the new pieces fs, or to what stands behind them, is one of the pool's
link_most : (T : Tables) (fs : List ℕ) (xs : List Stretch) (tail : ℕ) → Free T fs → tail ≤ piece_total T → built_link fs xs tail ≤ piece_total T
unfolding built_link
link_most T fs [] tail f h = h
link_most T [] (x ∷ xs) tail f h = h
link_most T (d ∷ fs) (x ∷ xs) tail f h = f.0

pub new_link : (T : Tables) (xs : List Stretch) (tail : ℕ) {n : ℕ} → n ≡ built_link (free_pieces T) xs tail → tail ≤ piece_total T → n ≤ piece_total T
new_link T xs tail e h = omega (arith, link_most T (free_pieces T) xs tail (free_pieces_lem T) h)

-- ---- the name of a new slip

-- the slip of an answered number
slip_in_lem : (t k : ℕ) → t < 65536 → slip_in (name_with t k) ≡ t
slip_in_lem t k l = omega arith

-- the new pieces leave the serials, and so the name of slip t
pub new_name : (T : Tables) (x : Plan) (fs : List ℕ) (t : ℕ) {p : List ℕ} {h : Shape} → Holds p h (made x fs) → (made x fs).serials ≡ T.serials → name_of (decode p) t ≡ name_of T t
new_name T x fs t was e = ap (λ (U : Tables). name_of U t) was.is ∙ ap (λ (ks : List ℕ). name_with t (get_or ks t 0)) e

-- the slip that is answered is left in the state answered
pub new_leaves : (D U : Tables) (t : ℕ) {o : Outcome} → t < 65536 → o ≡ Ok (record { state = state_of (slip D t); number = name_of U t })
    → Leaves o (state_of (slip D (slip_in (number_of o))))
new_leaves D U t l e =
    subst (λ (y : Outcome). Leaves y (state_of (slip D (slip_in (number_of y))))) (sym e) (ap (λ (s : ℕ). state_of (slip D s)) (sym (slip_in_lem t (serial U t) l)))
