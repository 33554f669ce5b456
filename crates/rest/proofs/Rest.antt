-- What drop leaves from a place on, case by case. Assumes nothing.
use mathlib.Core.Path.{◌≡◌, refl, sym, ap, subst}
use mathlib.Core.Bool.{Bool, true, false}
use mathlib.Core.List.{List, [], ◌∷◌}
use Prim.Native.Nat.{ℕ, zero, suc, pred, ◌+◌, ◌-◌, ◌≤◌, ◌<◌}
use native.Mathlib.Numerals.{add-one}
use native.Mathlib.Omega.{arith}
use Rattle.std.specs.Prelude.{Some, IfSome}
use Rattle.std.proofs.lemmas.Option.{IfSome_then}
use Rattle.std.proofs.lemmas.Grind.{common_steps}
use lib.ListN.{length}
use Rattle.rules.specs.Basics.{Is, whether◌then◌else◌}
use Rattle.rules.specs.Tables.{Tables, piece, buffer_count, piece_total, buffer_total, set_piece}
use Rattle.rules.specs.Bytes.{decode}
use Rattle.rules.specs.Chain.{Stretch, stretch}
use Rattle.rules.specs.Sound.{link_ok, SoundTables}
use Rattle.rules.specs.Room.{is_free, free_from}
use Rattle.rules.specs.Release.{shared}
use Rattle.rules.specs.Build.{fresh, taken, built, built_link, Plan}
use Rattle.rules.specs.Drop.{shorter, drop_here}
use Rattle.rules.proofs.Moves.{SoundWith, reorder}
use Rattle.rules.proofs.Build.{Planned, plain_planned}
use Rattle.rules.proofs.Audit.{tables_now}
use Rattle.rules.proofs.Drop.{drop_here_lem}
use Rattle.layout.specs.declared.Shape.{Shape}
use Rattle.tables.specs.Shape.{Holds}
use Rattle.tables.specs.declared.Window.{Window}
use Rattle.tables.proofs.Laws.{total_pieces}
use Rattle.chain.specs.declared.Spot.{Spot}
use Rattle.chain.specs.Opened.{Opened}
use Rattle.chain.proofs.Links.{link_leads}
use Rattle.room.specs.Free.{first_from}
use Rattle.release.specs.Release.{Releasable}
use Rattle.release.proofs.Laws.{held_below}
use Rattle.build.proofs.Line.{First, from_first}
use Rattle.rest.specs.declared.Tail.{Tail}
use Rattle.rest.specs.Rest.{rest_from, stretch_in, new_of, Stays, Makable}

-- ---- the plan

module _ (T : Tables) (own : Bool) where
  -- no piece is left
  pub rest_none : (n r : ℕ) → n ≡ 0 → rest_from T own n r ≡ record { base = T; more = []; tail = n }
  unfolding rest_from
  rest_none zero r z = refl
  rest_none (suc d) r z = absurd (omega arith)

  -- the place is at the border before a piece
  pub rest_border : (n r : ℕ) → (n ≡ 0 → ⊥) → r ≡ 0 → rest_from T own n r ≡ record { base = shared T n; more = []; tail = n }
  unfolding rest_from drop_here
  rest_border zero r i z = absurd (i refl)
  rest_border (suc d) zero i z = refl
  rest_border (suc d) (suc r) i z = absurd (omega arith)

  -- it is inside an own piece
  pub rest_own : (n r : ℕ) → (n ≡ 0 → ⊥) → (r ≡ 0 → ⊥) → own ≡ true
      → rest_from T own n r ≡ record { base = set_piece (shared T n) (n - 1) (shorter (piece (shared T n) (n - 1)) r); more = []; tail = n }
  unfolding rest_from drop_here whether◌then◌else◌
  rest_own zero r i z e = absurd (i refl)
  rest_own (suc d) zero i z e = absurd (z refl)
  rest_own (suc d) (suc r) i z e = let b : suc d - 1 ≡ d = omega arith in rw (e, b)

  -- it is inside another piece
  pub rest_copy : (n r : ℕ) → (n ≡ 0 → ⊥) → (r ≡ 0 → ⊥) → own ≡ false
      → rest_from T own n r ≡ record { base = shared T (piece T (n - 1)).next; more = stretch (shorter (piece T (n - 1)) r) ∷ []; tail = (piece T (n - 1)).next }
  unfolding rest_from drop_here whether◌then◌else◌
  rest_copy zero r i z e = absurd (i refl)
  rest_copy (suc d) zero i z e = absurd (z refl)
  rest_copy (suc d) (suc r) i z e = let b : suc d - 1 ≡ d = omega arith in rw (e, b)

pub ruleset cases = (rest_none, rest_border, rest_own, rest_copy)

-- a further reference keeps each piece's place
pub shared_place : (T : Tables) (n d : ℕ) → ((piece (shared T n) d).offset ≡ (piece T d).offset) × ((piece (shared T n) d).len ≡ (piece T d).len)
shared_place T zero d = (refl, refl)
shared_place T (suc e) d = (grind (arith, common_steps), grind (arith, common_steps))

-- ---- the plan held

-- from a place inside a piece in use, or past the end, it can be carried out
rest_planned : (T : Tables) (own : Bool) (n r : ℕ) → SoundTables T → Is (link_ok T n) → ((n ≡ 0 → ⊥) → r < (piece T (n - 1)).len) → Planned T (rest_from T own n r)
unfolding rest_from
rest_planned T own zero r S t i = plain_planned T [] tt (tables_now T S)
rest_planned T own (suc d) r S t i =
    let b : suc d - 1 ≡ d = omega arith in
    let u : 0 < (piece T d).count = rw b at (link_leads T (suc d) S t (omega arith)).used in
    drop_here_lem T own d r (rw b at (i (omega arith))) u (tables_now T S)

module _ {p q : List ℕ} {h : Shape} {r : Tail} (at : Spot) (o : Opened p h) (good : Is (link_ok (decode p) at.link))
    (inside : (at.link ≡ 0 → ⊥) → at.into < (piece (decode p) (at.link - 1)).len)
    (held : Holds q h (rest_from (decode p) at.own at.link at.into).base × Stays r (rest_from (decode p) at.own at.link at.into)) where
  abbrev plan : Plan
  plan = rest_from (decode p) at.own at.link at.into

  planned : Planned (decode p) plan
  planned = rest_planned (decode p) at.own at.link at.into o.sound good inside

  -- so a slip can be emptied then
  pub held_asks : Releasable (decode q) 0
  held_asks = record {
    others = plan.tail ∷ [];
    sound = subst (λ (X : Tables). SoundWith (0 ∷ plan.tail ∷ []) X) (sym held.0.is) (planned.held.0, reorder (λ x. omega arith) planned.held.1);
  }

  -- or take what is held, which leads nowhere or to one of the pieces
  pub held_takes : Releasable (decode q) (pred (r.next + 1))
  held_takes =
      let k : plan.tail ≡ pred (r.next + 1) = omega (arith, held.1.tail_is) in
      rw (held.0.is, ← k) (record { others = []; sound = planned.held })

  pub held_small : r.next ≤ h.pieces
  held_small = omega (arith, held.1.tail_is, held_below plan.base plan.tail planned.held.1, total_pieces held.0)

-- ---- the new piece made

-- it can be made where every buffer can count one more
pub makable : {T : Tables} {i : ℕ} (t : Tail) → length (new_of t) ≤ length (free_from T i) → IfSome t.window (λ w. w.buffer.0 < buffer_total T) → ((b : ℕ) → buffer_count T b < 65535) → Makable T t i
makable {T} t room b n = record { room = room; in_store = b; counted = IfSome_then t.window b (λ w _. n w.buffer.0) }

-- where there is one: the first free piece is there to take then
pub makes : {T : Tables} {t : Tail} {i f : ℕ} {w : Window} → Makable T t i → t.window ≡ Some w → f ≡ first_from (is_free T) i (piece_total T) → First (is_free T) (piece_total T) i f
makes {T} {t} {i} m e ef = rw ef (from_first (is_free T) (piece_total T) i (omega (arith, m.room, ap length (ap stretch_in e))))

pub built_one : (T : Tables) {h : Shape} {q : List ℕ} (x : Stretch) (n : ℕ) {fs more : List ℕ} {f : ℕ} → fs ≡ f ∷ more → Holds q h (taken T f (fresh x n))
    → Holds q h (built T fs (x ∷ []) n) × (f + 1 ≡ built_link fs (x ∷ []) n)
unfolding built built_link
built_one T x n {f = f} s is = rw s (is, add-one f)
