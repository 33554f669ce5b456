-- What pullup answers and leaves: the rule's result. Assumes nothing.
use mathlib.Core.Path.{◌≡◌, refl, sym, ap, subst, ◌∙◌}
use mathlib.Core.Bool.{Bool, true, false}
use mathlib.Core.List.{List, []}
use Prim.Native.Nat.{ℕ, suc, ◌+◌, ◌≤◌, ◌<◌}
use native.Mathlib.Omega.{arith}
use lib.ListN.{length}
use lib.Dec.{ltb, ltb→lt, lt→ltb, leb}
use borrow.Author.Tests.{leb-true, leb-false}
use Rattle.std.specs.Prelude.{Result, Ok, Err, is_ok}
use Rattle.kinds.specs.declared.SlipState.{SlipState}
use Rattle.kinds.specs.declared.Step.{Step}
use Rattle.kinds.specs.declared.Refusal.{Refusal}
use Rattle.kinds.specs.declared.Refusal.TheVariants.{Slip, Long, Range, Pieces, Buffers}
use Rattle.kinds.specs.Limits.{buffer_size}
use Rattle.rules.specs.Basics.{Is}
use Rattle.rules.specs.Tables.{Tables, piece_total, buffer_total}
use Rattle.rules.specs.Bytes.{decode}
use Rattle.rules.specs.Chain.{State, spans, first_length, length_of, own_pieces, own_of}
use Rattle.rules.specs.Sound.{lent}
use Rattle.rules.specs.Room.{is_free_with, is_unheld, free_pieces}
use Rattle.rules.specs.Rule.{◌⇐◌, first_code, Name, unnamed, Wants, giving, no_view}
use Rattle.rules.specs.Drop.{dropped, drop_back}
use Rattle.rules.specs.Pullup.{pullup_after, pullup_wants}
use Rattle.rules.specs.Step.{Pullup, rule, state_in, perform}
use Rattle.rules.proofs.Logic.{if_T, if_F, not_less}
use Rattle.rules.proofs.Audit.{tables_now}
use Rattle.rules.proofs.Codes.{first_yes, first_no, first_none}
use Rattle.rules.proofs.Drop.{drop_count}
use Rattle.rules.proofs.Back.{pieces_most, pullup_room}
use Rattle.rules.proofs.Bytes.{AllBytes}
use Rattle.layout.specs.declared.Shape.{Shape}
use Rattle.chain.specs.declared.Spot.{Spot}
use Rattle.chain.specs.Opened.{Opened}
use Rattle.chain.specs.Enter.{Entered}
use Rattle.chain.specs.Length.{stretches_from}
use Rattle.chain.specs.Find.{spot_of, past_end, found}
use Rattle.chain.proofs.Spots.{past_range, found_ok, found_err}
use Rattle.room.specs.Free.{first_from}
use Rattle.room.proofs.Free.{no_buffer, buffer_first}
use Rattle.front.specs.declared.FrontRoom.{FrontRoom}
use Rattle.front.specs.Front.{RoomInFront, RoomThere}
use Rattle.rest.specs.Rest.{rest_from}
use Rattle.rest.proofs.Dropped.{dropped_at}
use Rattle.answer.specs.Result.{result_of}
use Rattle.answer.proofs.Perform.{perform_first, perform_none, perform_pieces, perform_buffers, perform_all, changed}
use Rattle.pullup.specs.Pull.{Pullable, Pulled}

-- ---- the refusals before room

-- no slip has the name
pub pullup_slip : (p st : List ℕ) (x : Name) (n : ℕ) → Is (unnamed (decode p) x) → result_of (Err Slip) p st [] no_view ≡ perform (Pullup x n) (lent p st)
unfolding rule
pullup_slip p st x n u = perform_first (Pullup x n) (lent p st) Slip (first_yes (Slip ⇐ unnamed (decode p) x) _ u)

module _ {p : List ℕ} {h : Shape} {x : Name} {head : ℕ} (st : List ℕ) (n : ℕ) (o : Opened p h) (w : Entered (decode p) h x head) where
  -- more bytes than a buffer has
  pub pullup_long : false ≡ leb n buffer_size → result_of (Err Long) p st [] no_view ≡ perform (Pullup x n) (lent p st)
  unfolding rule
  pullup_long l =
      perform_first (Pullup x n) (lent p st) Long
      (first_no (Slip ⇐ unnamed (decode p) x) _ w.named ∙ first_yes (Long ⇐ ltb buffer_size n) _ (lt→ltb _ _ (leb-false n buffer_size (sym l))))

  module _ (fits : true ≡ leb n buffer_size) where
    -- they are not too many
    not_long : Is (ltb buffer_size n) → ⊥
    not_long t = omega (arith, ltb→lt buffer_size n t, leb-true n buffer_size (sym fits))

    -- the place behind the first n bytes of the chain lies past the end where the chain is shorter
    abbrev place : Spot
    place = spot_of (piece_total (decode p)) (decode p) true head n

    short : past_end place ≡ ltb (length_of (decode p) x.slip) n
    short = past_range (decode p) x.slip n w.link_is refl o.sound w.inside

    -- then the call is refused
    pub pullup_range : {r : Refusal} → Err r ≡ found place → result_of (Err r) p st [] no_view ≡ perform (Pullup x n) (lent p st)
    unfolding rule
    pullup_range f =
        let T = decode p in
        let (e, t) = found_err place f in
        rw e
        (perform_first (Pullup x n) (lent p st) Range
        (first_no (Slip ⇐ unnamed T x) _ w.named ∙ first_no (Long ⇐ ltb buffer_size n) _ not_long ∙ first_yes (Range ⇐ ltb (length_of T x.slip) n) [] (subst Is short t)))

    module _ {at : Spot} (f : Ok at ≡ found place) where
      -- else the chain has the bytes
      enough : Is (ltb (length_of (decode p) x.slip) n) → ⊥
      enough t = (found_ok place f).1 (subst Is (sym short) t)

      -- and no refusal comes before room
      early : first_code (rule (Pullup x n) (state_in (lent p st))).judged ≡ 0
      unfolding rule
      early =
          first_no (Slip ⇐ unnamed (decode p) x) _ w.named ∙ first_no (Long ⇐ ltb buffer_size n) _ not_long
          ∙ first_no (Range ⇐ ltb (length_of (decode p) x.slip) n) [] enough ∙ first_none

-- ---- what the code knows once the place behind the bytes is found

pub record Seen (p : List ℕ) (h : Shape) (x : Name) (n head : ℕ) (at : Spot) : Type 0 where
  pub opened : Opened p h
  pub entry : Entered (decode p) h x head
  pub fits : true ≡ leb n buffer_size
  pub place : Ok at ≡ found (spot_of (piece_total (decode p)) (decode p) true head n)

module _ {p : List ℕ} {h : Shape} {x : Name} {n head : ℕ} {at : Spot} (st : List ℕ) (w : Seen p h x n head at) where
  abbrev T : Tables
  T = decode p

  abbrev s : ℕ
  s = x.slip

  none_early : first_code (rule (Pullup x n) (state_in (lent p st))).judged ≡ 0
  none_early = early st n w.opened w.entry w.fits w.place

  -- the test of the first piece is that of the rule
  first_is : first_length (stretches_from T head) ≡ first_length (spans T s)
  first_is = ap (λ (l : ℕ). first_length (stretches_from T l)) w.entry.link_is

  -- the first piece has the bytes: nothing changes
  pub pullup_nothing : {a : Step} {v : SlipState} → true ≡ leb n (first_length (stretches_from T head)) → a ≡ record { state = v; number = 0 } → AllBytes p
      → result_of (Ok a) p st [] no_view ≡ perform (Pullup x n) (lent p st)
  unfolding rule pullup_after pullup_wants
  pullup_nothing t a b =
      let S = state_in (lent p st) in
      let first = leb n (first_length (spans T s)) in
      let yes : Is first = subst Is (t ∙ ap (leb n) first_is) tt in
      let same : S ≡ pullup_after s n S = sym (if_T first _ _ yes) in
      changed _ (pullup_wants T s n) 0 (pullup_after s n S) (ap Ok a) refl b
      (record { shaped = w.opened.shaped; is = ap (λ (X : State). X.tables) same }) (ap (λ (X : State). X.storage) same)
      ∙ perform_none (Pullup x n) (lent p st) (if_T first _ _ yes) none_early

  -- ---- it has fewer, and k pieces are new to what stays: as many as drop takes, one at the most

  abbrev more : ℕ
  more = length (dropped T s n).more

  module _ {k : ℕ} (asked : (U : Tables) → k ≡ length (rest_from U at.own at.link at.into).more) where
    wants_more : k ≡ more
    wants_more = asked T ∙ ap length (sym (ap (λ P. P.more) (dropped_at T s n w.entry.link_is (found_ok _ w.place).0)))

    pub wants_one : k ≤ 1
    wants_one = omega (arith, wants_more, drop_count T s n (tables_now T w.opened.sound), pieces_most T s n)

    module _ (few : false ≡ leb n (first_length (stretches_from T head))) where
      scattered : first_length (spans T s) < n
      scattered = omega (arith, leb-false _ _ (sym few), first_is)

      -- a piece more than drop takes, and a buffer; what drop gives back is given back first
      wants : pullup_wants T s n ≡ giving (drop_back T s n) (suc more) 1
      unfolding pullup_wants
      wants = if_F (leb n (first_length (spans T s))) _ (giving (drop_back T s n) (suc more) 1) (λ t. subst Is (sym (few ∙ ap (leb n) first_is)) t)

      module _ {i j : ℕ} {b : Bool} (room : RoomInFront T head (k + 1) i j b) where
        -- whether there is room, with all own pieces, and so with those given back
        there_own : b ≡ leb (suc more) (length (own_of T s) + length (free_pieces T))
        there_own =
            let e : k + 1 ≡ suc more = omega (arith, wants_more) in
            room.there ∙ (λ y. leb (e y) (length (own_pieces (piece_total T) T (w.entry.link_is y)) + length (free_pieces T)))

        there_back : b ≡ leb (suc more) (length (drop_back T s n) + length (free_pieces T))
        there_back = there_own ∙ sym (pullup_room T s n (tables_now T w.opened.sound) scattered (length (free_pieces T)))

      -- no piece for the first bytes or for what stays
      pub pullup_pieces : (r : Result FrontRoom FrontRoom) → RoomThere (RoomInFront T head (k + 1)) r → is_ok r ≡ false
          → result_of (Err Pieces) p st [] no_view ≡ perform (Pullup x n) (lent p st)
      unfolding rule
      pullup_pieces (Ok r) found none = cc
      pullup_pieces (Err r) found none =
          let f = leb-false _ _ (sym (there_back found)) in
          perform_pieces (Pullup x n) (lent p st) none_early (omega (arith, ap (λ (w : Wants). w.slips) wants))
          (omega (arith, f, ap (λ (w : Wants). w.pieces) wants, ap (λ (w : Wants). length w.back) wants))

      module _ {y : Result FrontRoom FrontRoom} {r : FrontRoom} (found : RoomThere (RoomInFront T head (k + 1)) y) (some : y ≡ Ok r) where
        room : RoomInFront T head (k + 1) r.from.0 r.beyond.0 true
        room = rw some at found

        enough_pieces : (pullup_wants T s n).pieces ≤ length (pullup_wants T s n).back + length (free_pieces T)
        enough_pieces =
            let t = leb-true _ _ (sym (there_back room)) in
            omega (arith, t, ap (λ (w : Wants). w.pieces) wants, ap (λ (w : Wants). length w.back) wants)

        -- no free buffer
        pub pullup_buffers : first_from (is_unheld T) 0 (buffer_total T) ≡ buffer_total T → result_of (Err Buffers) p st [] no_view ≡ perform (Pullup x n) (lent p st)
        unfolding rule
        pullup_buffers z =
            perform_buffers (Pullup x n) (lent p st) none_early (omega (arith, ap (λ (w : Wants). w.slips) wants)) enough_pieces
            (omega (arith, ap length (no_buffer T refl z), ap (λ (w : Wants). w.buffers) wants))

        -- the bytes can go to the lowest
        pub pullable : {b : ℕ} → (b ≡ first_from (is_unheld T) 0 (buffer_total T)) × (b < buffer_total T) → Pullable T s n head at r.from.0 r.beyond.0 b
        pullable lowest =
            let U = λ (l : ℕ) (d : ℕ). Is (is_free_with T (own_pieces (piece_total T) T l) d) in
            record {
              named = w.entry.inside;
              starts = w.entry.link_is;
              place = (found_ok _ w.place).0;
              fits = leb-true n buffer_size (sym w.fits);
              enough = not_less _ _ (enough st n w.opened w.entry w.fits w.place);
              scattered = scattered;
              none_below = λ d l t. room.none_below d l (subst (λ (m : ℕ). U m d) (sym w.entry.link_is) t);
              none_between = λ d l m t. room.none_between d l m (subst (λ (m : ℕ). U m d) (sym w.entry.link_is) t);
              lowest = lowest.0;
              inside = lowest.1;
              room = omega (arith, leb-true _ _ (sym (there_own room)));
            }

        -- they are in one new piece
        pub pullup_done : {a : Step} {v : SlipState} {q after : List ℕ} → first_from (is_unheld T) 0 (buffer_total T) < buffer_total T → Pulled p st h s n q after
            → a ≡ record { state = v; number = 0 } → AllBytes q → result_of (Ok a) q after [] no_view ≡ perform (Pullup x n) (lent p st)
        unfolding rule
        pullup_done l is a b =
            changed _ (pullup_wants T s n) 0 (pullup_after s n (state_in (lent p st))) (ap Ok a) refl b is.tables_are is.storage_is
            ∙ perform_all (Pullup x n) (lent p st) none_early (omega (arith, ap (λ (w : Wants). w.slips) wants)) enough_pieces
            (omega (arith, ap length (buffer_first T refl l), ap (λ (w : Wants). w.buffers) wants))
