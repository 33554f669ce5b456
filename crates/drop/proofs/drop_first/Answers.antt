-- `drop::drop_first` meets its contract. Assumes nothing.
use mathlib.Core.Path.{◌≡◌, refl, sym, ap, subst, ◌∙◌}
use mathlib.Core.List.{List}
use mathlib.Core.Bool.{Bool, true, false}
use Prim.Native.Nat.{ℕ, ◌+◌, ◌≤◌, ◌<◌}
use native.Mathlib.Omega.{arith}
use borrow.Author.Rules.{rules}
use lib.ListN.{length}
use lib.Dec.{leb, ltb}
use borrow.Author.Tests.{leb-true, leb-false}
use Rattle.std.specs.Prelude.{Result, Ok, Err, is_ok}
use Rattle.rules.specs.Basics.{Is}
use Rattle.rules.specs.Tables.{Tables, head_of, holding, slip_total, piece_total}
use Rattle.rules.specs.Bytes.{decode}
use Rattle.rules.specs.Chain.{state_of, own_pieces, length_of}
use Rattle.rules.specs.Room.{is_free_with, free_pieces, free_from}
use Rattle.rules.specs.Build.{Plan, built, built_link}
use Rattle.rules.specs.Rule.{name}
use Rattle.rules.specs.Drop.{dropped, drop_back}
use Rattle.rules.proofs.Moves.{SoundNow}
use Rattle.rules.proofs.Audit.{tables_now}
use Rattle.rules.proofs.Drop.{dropped_planned, drop_count}
use Rattle.rules.proofs.Back.{pieces_most, drop_room, back_own}
use Rattle.layout.specs.declared.Shape.{Shape}
use Rattle.tables.specs.Shape.{Holds}
use Rattle.tables.proofs.Laws.{whole, total_pieces}
use Rattle.chain.specs.Find.{spot_of}
use Rattle.chain.proofs.Spots.{Found, found_at, found_ok, found_err, past_range}
use Rattle.release.specs.Release.{turned_to, turned_storage}
use Rattle.front.specs.declared.FrontRoom.{FrontRoom}
use Rattle.front.specs.Front.{RoomInFront, RoomThere}
use Rattle.rest.specs.declared.Tail.{Tail}
use Rattle.rest.specs.Rest.{rest_from, new_of, Stays, Makable}
use Rattle.std.proofs.lemmas.Option.{IfSome_then}
use Rattle.rest.proofs.Rest.{makable}
use Rattle.rest.proofs.Freed.{emptied_to, freed_buffers, freed_count, freed_from, freed_counts, freed_link, freed_done, moved_done, freed_storage, moved_storage}
use Rattle.rest.proofs.Dropped.{dropped_at, more_dropped, buffer_dropped}
use Rattle.drop.proofs.Laws.{no_stretch, made_dropped, drop_slip, drop_range, drop_pieces_lem, drop_nothing, drop_done}
use Rattle.drop.proofs.drop_first.Goals as goal
use Rattle.drop.proofs.drop_first.Goals.{In_ok-at, After-wanted-wanted, In_ok-room, After-make-link}

-- ---- the room

-- Over a pool's tables, the slip's number, the bytes that go, and the link that the slip holds.
module _ (T : Tables) (s n link : ℕ) (head_is : link ≡ head_of T s) (h : SoundNow T) where
  -- the test of the code for room with what is given back is that of the rule
  room_is : {wanted from beyond : ℕ} {enough : Bool} → wanted ≡ length (dropped T s n).more → RoomInFront T link wanted from beyond enough
      → enough ≡ leb (length (dropped T s n).more) (length (drop_back T s n) + length (free_pieces T))
  room_is wants r =
      r.there ∙ (λ i. leb (wants i) (length (own_pieces (piece_total T) T (head_is i)) + length (free_pieces T))) ∙ sym (drop_room T s n h (length (free_pieces T)))

  -- where there is none, too few are free
  lacking : {wanted : ℕ} (o : Result FrontRoom FrontRoom) → wanted ≡ length (dropped T s n).more → RoomThere (RoomInFront T link wanted) o → is_ok o ≡ false
      → length (drop_back T s n) + length (free_pieces T) < length (dropped T s n).more
  lacking (Ok r) wants few z = cc
  lacking (Err r) wants few z = leb-false _ _ (sym (room_is wants few))

  -- none below the number found is free once the front is given back
  none_below : {wanted from beyond : ℕ} {enough : Bool} → RoomInFront T link wanted from beyond enough
      → (d : ℕ) → d < from → Is (is_free_with T (drop_back T s n) d) → ⊥
  none_below r d l t =
      r.none_below d l (subst (λ m. Is (is_free_with T (own_pieces (piece_total T) T m) d)) (sym head_is) (back_own T s n h d t))

-- ---- the front is given back

-- The piece wanted can be made of what is free from number i on, where none below it is, and that is all that is free.
module _ (T : Tables) (s n i : ℕ) (h : SoundNow T) (inside : s < slip_total T) (none : (d : ℕ) → d < i → Is (is_free_with T (drop_back T s n) d) → ⊥) where
  all_free : free_from (emptied_to (dropped T s n) s) i ≡ free_pieces (emptied_to (dropped T s n) s)
  all_free = freed_from (dropped T s n) s (dropped_planned T s n h) inside i none

  stays_makable : {p : Plan} {t : Tail} → dropped T s n ≡ p → Stays t p → piece_total T < 65535 → length (dropped T s n).more ≤ length (drop_back T s n) + length (free_pieces T)
      → Makable (emptied_to (dropped T s n) s) t i
  stays_makable {t = t} e is few enough =
      let rest = dropped T s n in
      let planned = dropped_planned T s n h in
      makable t (omega (arith, enough, ap length (more_dropped T s n e is), ap length all_free, freed_count rest s planned inside))
      (IfSome_then t.window (buffer_dropped T s n e is h) (λ w l. omega (arith, l, freed_buffers rest s planned inside)))
      (λ x. omega (arith, few, freed_counts rest s planned inside x))

pub returns-in_err-head-clause-no_view_after : goal.returns-in_err-head-clause-no_view_after
returns-in_err-head-clause-no_view_after c = grind (arith, drop_slip c.args.pool.now c.args.storage.now (name c.args.s.slip.0 c.args.s.serial.0) c.args.n)

-- ---- the place found

pub returns-in_err-at-clause-no_view_after : goal.returns-in_err-at-clause-no_view_after
returns-in_err-at-clause-no_view_after c =
    let a = c.args in
    let T = decode a.pool.now in
    let e = c.in_ok-head.ensures in
    let (r, t) = found_err (spot_of (piece_total T) T true c.in_ok-head.head a.n) c.in_err-at.ensures in
    let past = subst Is (past_range T a.s.slip.0 a.n e.link_is refl c.requires.0.sound e.inside) t in
    grind (arith, drop_range a.pool.now a.storage.now (name a.s.slip.0 a.s.serial.0) a.n e.named past)

module _ (c : In_ok-at) where
  abbrev T : Tables
  T = decode c.args.pool.now

  abbrev s : ℕ
  s = c.args.s.slip.0

  place_is : c.in_ok-at.at ≡ spot_of (piece_total T) T true c.in_ok-head.head c.args.n
  place_is = (found_ok _ c.in_ok-at.ensures).0

  place : Found T (head_of T s) c.args.n c.in_ok-at.at
  place = let e = c.in_ok-head.ensures in found_at T s c.args.n e.link_is place_is c.requires.0.sound e.inside

  -- the chain has the bytes that go
  there : Is (ltb (length_of T s) c.args.n) → ⊥
  there t = let e = c.in_ok-head.ensures in (found_ok (spot_of (piece_total T) T true c.in_ok-head.head c.args.n) c.in_ok-at.ensures).1 (subst Is (sym (past_range T s c.args.n e.link_is refl c.requires.0.sound e.inside)) t)

  -- what stays is the plan from the place found
  plan : dropped T s c.args.n ≡ rest_from T c.in_ok-at.at.own c.in_ok-at.at.link c.in_ok-at.at.into
  plan = dropped_at T s c.args.n c.in_ok-head.ensures.link_is place_is

pub returns-then-n-eq0-clause-no_view_after : goal.returns-then-n-eq0-clause-no_view_after
returns-then-n-eq0-clause-no_view_after c =
    let a = c.args in
    let i = (goal.at.returns-then-n-eq0-clause-no_view_after c).In_ok-at in
    drop_nothing a.pool.now a.storage.now (name a.s.slip.0 a.s.serial.0) a.n c.in_ok-head.ensures.named (there i) c.if-n-eq0.true c.done.ensures (search rules) c.requires.0.shaped

-- how many pieces are wanted
wants : (c : After-wanted-wanted) → c.wanted-wanted.result ≡ length (dropped (decode c.args.pool.now) c.args.s.slip.0 c.args.n).more
wants c =
    let T = decode c.args.pool.now in
    c.wanted-wanted.ensures T ∙ ap (λ (p : Plan). length p.more) (sym (plan (goal.at.After-wanted-wanted c).In_ok-at))

-- ---- none is wanted: the slip is moved along its chain

pub move_to-requires : goal.move_to-requires
move_to-requires c =
    let f = place (goal.at.move_to-requires c).In_ok-at in
    record { opened = (c.requires.0, f.good, c.in_ok-head.ensures.below); into_bound = (f.inside, c.requires.1) }

pub returns-then-wanted-eq0-clause-no_view_after : goal.returns-then-wanted-eq0-clause-no_view_after
returns-then-wanted-eq0-clause-no_view_after c =
    let a = c.args in
    let T = decode a.pool.now in
    let s = a.s.slip.0 in
    let at = goal.at.returns-then-wanted-eq0-clause-no_view_after c in
    let q = plan at.In_ok-at in
    let none_new = no_stretch (dropped T s a.n).more (sym (wants at.After-wanted-wanted) ∙ c.if-wanted-eq0.true) in
    let S = state_of T a.storage.now in
    drop_done a.pool.now a.storage.now (name s a.s.serial.0) a.n c.in_ok-head.ensures.named (there at.In_ok-at) c.if-n-eq0.false (omega (arith, ap length none_new)) c.done-then-wanted-eq0.ensures
    (search rules)
    (moved_done S (dropped T s a.n) s none_new
    (record { shaped = c.move_to.ensures.0.shaped; is = c.move_to.ensures.0.is ∙ ap (λ (p : Plan). turned_to p.base s (holding p.tail)) (sym q) }))
    (c.move_to.ensures.1 ∙ ap (λ (p : Plan). turned_storage p.base a.storage.now s (holding p.tail)) (sym q) ∙ moved_storage S (dropped T s a.n) s)

-- ---- a piece is wanted

pub room_in_front-requires : goal.room_in_front-requires
room_in_front-requires c =
    let T = decode c.args.pool.now in
    (c.requires.0, c.in_ok-head.ensures.good, omega (arith, wants (goal.at.room_in_front-requires c).After-wanted-wanted, pieces_most T c.args.s.slip.0 c.args.n, drop_count T c.args.s.slip.0 c.args.n (tables_now T c.requires.0.sound)))

pub returns-in_err-room-clause-no_view_after : goal.returns-in_err-room-clause-no_view_after
returns-in_err-room-clause-no_view_after c =
    let a = c.args in
    let T = decode a.pool.now in
    let e = c.in_ok-head.ensures in
    let at = goal.at.returns-in_err-room-clause-no_view_after c in
    let sound = tables_now T c.requires.0.sound in
    let few = lacking T a.s.slip.0 a.n c.in_ok-head.head e.link_is sound c.room_in_front.result (wants at.After-wanted-wanted) c.room_in_front.ensures (grind arith) in
    grind (arith, drop_pieces_lem a.pool.now a.storage.now (name a.s.slip.0 a.s.serial.0) a.n e.named (there at.In_ok-at) few)

module _ (c : In_ok-room) where
  room_here : RoomInFront (decode c.args.pool.now) c.in_ok-head.head c.wanted-wanted.result c.in_ok-room.room.from.0 c.in_ok-room.room.beyond.0 true
  room_here =
      let there : c.room_in_front.result ≡ Ok c.in_ok-room.room = grind arith in
      rw there at c.room_in_front.ensures

  sound_now : SoundNow (decode c.args.pool.now)
  sound_now = tables_now (decode c.args.pool.now) c.requires.0.sound

  enough : let T = decode c.args.pool.now in let s = c.args.s.slip.0 in length (dropped T s c.args.n).more ≤ length (drop_back T s c.args.n) + length (free_pieces T)
  enough =
      leb-true _ _ (sym (room_is (decode c.args.pool.now) c.args.s.slip.0 c.args.n c.in_ok-head.head c.in_ok-head.ensures.link_is sound_now (wants (goal.at.In_ok-room c).After-wanted-wanted) room_here))

  none : (d : ℕ) → d < c.in_ok-room.room.from.0 → Is (is_free_with (decode c.args.pool.now) (drop_back (decode c.args.pool.now) c.args.s.slip.0 c.args.n) d) → ⊥
  none = none_below (decode c.args.pool.now) c.args.s.slip.0 c.args.n c.in_ok-head.head c.in_ok-head.ensures.link_is sound_now room_here

pub give_back-tail-requires : goal.give_back-tail-requires
give_back-tail-requires c =
    let f = place (goal.at.give_back-tail-requires c).In_ok-at in
    record { opened = (c.requires.0, f.good, c.in_ok-head.ensures.below); into_bound = (f.inside, c.requires.1) }

pub make-link-requires : goal.make-link-requires
make-link-requires c =
    let a = c.args in
    let T = decode a.pool.now in
    let s = a.s.slip.0 in
    let at = goal.at.make-link-requires c in
    let q = plan at.In_ok-at in
    let given = c.give_back-tail.ensures.becomes.0.is ∙ ap (λ (p : Plan). turned_to p.base s (holding 0)) (sym q) in
    let can = stays_makable T s a.n c.in_ok-room.room.from.0 (sound_now at.In_ok-room) c.in_ok-head.ensures.inside (none at.In_ok-room) q c.give_back-tail.ensures.becomes.1
    (omega (arith, c.requires.0.few_pieces_lem, total_pieces (whole c.requires.0.shaped))) (enough at.In_ok-room) in (
      c.give_back-tail.ensures.becomes.0.shaped,
      omega (arith, c.requires.0.few_pieces_lem),
      subst (λ (X : Tables). Makable X c.give_back-tail.result c.in_ok-room.room.from.0) (sym given) can,
    )

-- ---- what stays is made

-- by the plan of drop
module _ (T : Tables) (s n i : ℕ) (h : SoundNow T) (inside : s < slip_total T) (none : (d : ℕ) → d < i → Is (is_free_with T (drop_back T s n) d) → ⊥) where
  made : {p : Plan} {t : Tail} {r : ℕ} {sh : Shape} {X : Tables} {q : List ℕ} → dropped T s n ≡ p → Stays t p → X ≡ turned_to p.base s (holding 0)
      → Holds q sh (built X (free_from X i) (new_of t) t.next) × (r ≡ built_link (free_from X i) (new_of t) t.next)
      → let E = emptied_to (dropped T s n) s in
      Holds q sh (built E (free_pieces E) (dropped T s n).more (dropped T s n).tail) × (r ≡ built_link (free_pieces E) (dropped T s n).more (dropped T s n).tail)
  made {t = t} {r = r} {sh = sh} {q = q} e is given m =
      let same = given ∙ ap (λ (p : Plan). turned_to p.base s (holding 0)) (sym e) in
      made_dropped T s n i e is (all_free T s n i h inside none)
      (subst (λ (Y : Tables). Holds q sh (built Y (free_from Y i) (new_of t) t.next) × (r ≡ built_link (free_from Y i) (new_of t) t.next)) same m)

-- what the code has made
module _ (c : After-make-link) where
  done : let T = decode c.args.pool.now in let s = c.args.s.slip.0 in let E = emptied_to (dropped T s c.args.n) s in
      Holds c.make-link.new.pool c.args.shape (built E (free_pieces E) (dropped T s c.args.n).more (dropped T s c.args.n).tail) × (c.make-link.result ≡ built_link (free_pieces E) (dropped T s c.args.n).more (dropped T s c.args.n).tail)
  done =
      let at = goal.at.After-make-link c in
      made (decode c.args.pool.now) c.args.s.slip.0 c.args.n c.in_ok-room.room.from.0 (sound_now at.In_ok-room) c.in_ok-head.ensures.inside (none at.In_ok-room) (plan at.In_ok-at)
      c.give_back-tail.ensures.becomes.1 c.give_back-tail.ensures.becomes.0.is c.make-link.ensures

pub overflow_add-link : goal.overflow_add-link
overflow_add-link c =
    let T = decode c.args.pool.now in
    let s = c.args.s.slip.0 in
    let at = goal.at.overflow_add-link c in
    omega (
      arith,
      (done at.After-make-link).1,
      freed_link (dropped T s c.args.n) s (dropped_planned T s c.args.n (sound_now at.In_ok-room)) c.in_ok-head.ensures.inside,
      c.requires.0.few_pieces_lem,
      total_pieces (whole c.requires.0.shaped),
    )

pub returns-clause-no_view_after : goal.returns-clause-no_view_after
returns-clause-no_view_after c =
    let a = c.args in
    let T = decode a.pool.now in
    let s = a.s.slip.0 in
    let at = goal.at.returns-clause-no_view_after c in
    let q = plan at.In_ok-at in
    let S = state_of T a.storage.now in
    drop_done a.pool.now a.storage.now (name s a.s.serial.0) a.n c.in_ok-head.ensures.named (there at.In_ok-at) c.if-n-eq0.false (enough at.In_ok-room) c.done-2.ensures (search rules)
    (freed_done (dropped T s a.n) s (dropped_planned T s a.n (sound_now at.In_ok-room)) c.in_ok-head.ensures.inside S (done at.After-make-link) c.set_slip.ensures)
    (c.give_back-tail.ensures.storage_after ∙ ap (λ (p : Plan). turned_storage p.base a.storage.now s (holding 0)) (sym q) ∙ freed_storage S (dropped T s a.n) s)
