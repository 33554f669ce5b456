-- What drop leaves of a chain is what stays from the place found. Assumes nothing.
use mathlib.Core.Path.{◌≡◌, refl, sym, subst}
use mathlib.Core.Bool.{Bool, true, false}
use mathlib.Core.List.{List}
use Rattle.std.specs.Prelude.{Option, Some, None, IfSome}
use Prim.Native.Nat.{ℕ, zero, suc, ◌-◌, ◌<◌}
use Rattle.rules.specs.Basics.{whether◌then◌else◌}
use Rattle.rules.specs.Tables.{Tables, piece, head_of, piece_total, buffer_total}
use Rattle.rules.specs.Chain.{walk, own_at}
use Rattle.rules.specs.Build.{Plan}
use Rattle.rules.specs.Drop.{drop_plan, dropped}
use Rattle.rules.proofs.Moves.{SoundNow}
use Rattle.rules.proofs.Build.{Good}
use Rattle.rules.proofs.Drop.{dropped_planned}
use Rattle.chain.specs.declared.Spot.{Spot}
use Rattle.chain.specs.Find.{spot_of}
use Rattle.tables.specs.declared.Window.{Window}
use Rattle.rest.specs.declared.Tail.{Tail}
use Rattle.rest.specs.Rest.{rest_from, stretch_in, new_of, Stays}

-- what stays from a place
abbrev rest_at : Tables → Spot → Plan
rest_at T s = rest_from T s.own s.link s.into

-- it goes by the test that chose the place
rest_choice : (T : Tables) (b : Bool) (x y : Plan) (s r : Spot) → x ≡ rest_at T s → y ≡ rest_at T r → (whether b then x else y) ≡ rest_at T (whether b then s else r)
unfolding whether◌then◌else◌
rest_choice T true x y s r e f = e
rest_choice T false x y s r e f = f

-- the plan of drop over the pieces met is that from the place found
drop_plan_at : (k : ℕ) (T : Tables) (own : Bool) (n off : ℕ)
    → drop_plan T own (walk k T n) off ≡ rest_from T (spot_of k T own n off).own (spot_of k T own n off).link (spot_of k T own n off).into
unfolding drop_plan walk spot_of rest_from
drop_plan_at zero T own n off = refl
drop_plan_at (suc k) T own zero off = refl
drop_plan_at (suc k) T own (suc d) off =
    let p = piece T d in
    rest_choice T _ _ _ _ (record { link = suc d; into = off; own = own_at T own d }) (drop_plan_at k T (own_at T own d) p.next (off - p.len)) refl

module _ (T : Tables) (s off : ℕ) {head : ℕ} {at : Spot} (from : head ≡ head_of T s) (is : at ≡ spot_of (piece_total T) T true head off) where
  -- what drop leaves of the chain is what stays from there
  pub dropped_at : dropped T s off ≡ rest_from T at.own at.link at.into
  dropped_at = rw (is, from) (drop_plan_at (piece_total T) T true (head_of T s) off)

-- a good stretch lies on one of B buffers
window_good : (Z : List ℕ) (B : ℕ) (o : Option Window) → Good Z B (stretch_in o) → IfSome o (λ w. w.buffer.0 < B)
window_good Z B None g = tt
window_good Z B (Some w) g = g.0

module _ (T : Tables) (s n : ℕ) {p : Plan} {t : Tail} (e : dropped T s n ≡ p) (is : Stays t p) where
  -- what is still to be made is what drop makes
  pub more_dropped : new_of t ≡ (dropped T s n).more
  more_dropped = rw e is.more_is

  pub next_dropped : t.next ≡ (dropped T s n).tail
  next_dropped = rw e is.tail_is

  -- the buffer of a new piece is one of the pool's
  pub buffer_dropped : SoundNow T → IfSome t.window (λ w. w.buffer.0 < buffer_total T)
  buffer_dropped h = window_good T.stock (buffer_total T) t.window (subst (Good T.stock (buffer_total T)) (sym more_dropped) (dropped_planned T s n h).good)
