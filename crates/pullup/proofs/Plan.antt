-- The first bytes of a chain in one new piece: the plan, and what it leaves. Assumes nothing.
use mathlib.Core.Path.{◌≡◌, sym, ap, subst, ◌∙◌}
use mathlib.Core.List.{List, [], ◌∷◌, ◌++◌}
use Prim.Native.Nat.{ℕ, suc, ◌+◌, ◌-◌, ◌≤◌, ◌<◌, min, max}
use native.Mathlib.Numerals.{add-one}
use Rattle.std.specs.Prelude.{Option, Some, None, IfSome}
use Rattle.std.proofs.lemmas.Option.{IfSome_then}
use native.Mathlib.Omega.{arith}
use lib.ListN.{length, take}
use lib.Dec.{leb, leb→le, le→leb}
use Rattle.kinds.specs.Sizes.{size_of}
use Rattle.kinds.proofs.Sizes.{size_one}
use Rattle.rules.specs.Basics.{Is, places}
use Rattle.rules.specs.Tables.{Tables, buffer_count, head_of, holding, piece_total, buffer_total, set_slip}
use Rattle.rules.specs.Bytes.{decode}
use Rattle.rules.specs.Chain.{State, Stretch, spans, first_length, total, contents, reads, state_of, own_of}
use Rattle.rules.specs.Room.{is_free, is_unheld, free_pieces, free_from, free_buffers, new_buffers}
use Rattle.rules.specs.Build.{Plan, fresh, taken, built, built_link, under_freed, buffers_for, laid, stored}
use Rattle.rules.specs.Drop.{dropped, drop_back}
use Rattle.rules.specs.Pullup.{pulled, pullup_after}
use Rattle.rules.proofs.Logic.{if_F}
use Rattle.rules.proofs.Audit.{tables_now}
use Rattle.rules.proofs.Moves.{SoundNow, by_place}
use Rattle.rules.proofs.Build.{Planned}
use Rattle.rules.proofs.Back.{pullup_room, back_own}
use Rattle.rules.proofs.Pullup.{pulled_planned}
use Rattle.layout.specs.declared.Shape.{Shape}
use Rattle.tables.specs.Shape.{Holds}
use Rattle.tables.proofs.Laws.{onward, whole, total_pieces}
use Rattle.chain.specs.declared.Spot.{Spot}
use Rattle.chain.specs.Opened.{Opened}
use Rattle.chain.specs.Length.{stretches_from}
use Rattle.chain.proofs.Spots.{Found, found_at}
use Rattle.room.specs.Free.{first_from, lowest_for}
use Rattle.room.proofs.Free.{lowest_some, buffer_first, places_between}
use Rattle.build.proofs.Line.{First, from_first}
use Rattle.release.specs.Release.{turned_to, turned_storage}
use Rattle.tables.specs.Window.{window_of}
use Rattle.tables.specs.declared.Window.{Window}
use Rattle.rest.specs.declared.Tail.{Tail}
use Rattle.rest.specs.Rest.{rest_from, stretch_in, new_of, Stays, Makable}
use Rattle.rest.proofs.Rest.{makable}
use Rattle.rest.proofs.Dropped.{dropped_at, more_dropped, next_dropped, buffer_dropped}
use Rattle.rest.proofs.Freed.{emptied_to, freed_buffers, freed_count, freed_free, freed_from, freed_counts, freed_storage, freed_link, freed_done}
use Rattle.transfer.proofs.Fill.{for_one}
use Rattle.pullup.specs.Pull.{first_on, FirstMakable, Pullable, Pulled}

-- ---- a first piece before what stays

-- a new piece raises a buffer's count by one at the most
built_most : (T : Tables) (x : Stretch) (fs : List ℕ) (n b : ℕ) → x.buffer < buffer_total T → buffer_count (built T fs (x ∷ []) n) b ≤ buffer_count T b + 1
unfolding built
built_most T x [] n b l = omega arith
built_most T x (f ∷ fs) n b l =
    by_place T.counts x.buffer (suc (buffer_count T x.buffer)) 0 l (λ k j. k ≤ buffer_count T j + 1) (omega arith) (λ j _. omega arith) b

one_most : (T : Tables) (o : Option Window) (fs : List ℕ) (n b : ℕ) → IfSome o (λ w. w.buffer.0 < buffer_total T) → buffer_count (built T fs (stretch_in o) n) b ≤ buffer_count T b + 1
unfolding built
one_most T None fs n b l = omega arith
one_most T (Some w) fs n b l = built_most T (window_of w) fs n b l

module _ {T : Tables} {t : Tail} {i j b : ℕ} (ok : FirstMakable T t i j b) {f : ℕ} (lowest : f ≡ first_from (is_free T) i (piece_total T)) where
  -- it is of the lowest free piece, before the others
  first_free : First (is_free T) (piece_total T) i f
  first_free = rw lowest (from_first (is_free T) (piece_total T) i (omega (arith, ok.room)))

  pub first_below : f < piece_total T
  first_below = first_free.below

  -- from k on, after it, none is passed over
  module _ {k : ℕ} (on : k ≡ max (f + 1) j) where
    second_free : free_from T k ≡ free_from T (f + 1)
    second_free =
        places_between (is_free T) (f + 1) k (piece_total T) (omega arith) (λ d l m. ok.none_between d (omega (arith, first_free.low)) (omega arith))

    first_split : free_from T i ≡ f ∷ free_from T k
    first_split = first_free.split ∙ ap (λ (x : ℕ). f ∷ free_from T x) (sym (add-one f)) ∙ ap (λ (fs : List ℕ). f ∷ fs) (sym second_free)

    -- what stays can be made of these
    pub rest_makable : Makable T t k
    rest_makable = makable t (omega (arith, ok.room, ap length first_split)) ok.in_store (λ x. omega (arith, ok.counted x))

    -- then no buffer's count is too high
    pub first_counts : {h : Shape} {q : List ℕ} → Holds q h (built T (free_from T k) (new_of t) t.next) → buffer_count (decode q) b < 65535
    first_counts is = subst (λ (X : Tables). buffer_count X b < 65535) (sym is.is) (omega (arith, ok.counted b, one_most T t.window (free_from T k) t.next b ok.in_store))

    -- the piece before it
    pub first_made : (n : ℕ) {h : Shape} {q r : List ℕ} {m : ℕ} → Holds q h (built T (free_from T k) (new_of t) t.next) × (m ≡ built_link (free_from T k) (new_of t) t.next)
        → Holds r h (taken (decode q) f (fresh (record { buffer = b; offset = 0; len = n }) m))
        → Holds r h (built T (free_from T i) (first_on b n t) t.next) × (f + 1 ≡ built_link (free_from T i) (first_on b n t) t.next)
    unfolding built built_link
    first_made n {m = m} (was, e) is =
        let x : Stretch = record { buffer = b; offset = 0; len = n } in
        let now = onward was (λ (U : Tables). taken U f (fresh x m)) is in (
          record {
            shaped = now.shaped;
            is = now.is ∙ ap (λ (l : ℕ). taken (built T (free_from T k) (new_of t) t.next) f (fresh x l)) e ∙ ap (λ (fs : List ℕ). built T fs (first_on b n t) t.next) (sym first_split);
          },
          add-one f ∙ ap (λ (fs : List ℕ). built_link fs (first_on b n t) t.next) (sym first_split),
        )

-- ---- the bytes on their buffer

module _ {T : Tables} {s n head : ℕ} {at : Spot} {from beyond b : ℕ} (h : Pullable T s n head at from beyond b) where
  -- some bytes
  some_bytes : 1 ≤ n
  some_bytes = omega (arith, h.scattered)

  -- the buffer is the first of the free ones
  first_buffer : free_buffers T ≡ b ∷ places (is_unheld T) (suc b) (buffer_total T - suc b)
  first_buffer = buffer_first T h.lowest h.inside

  -- and the new one
  new_buffer : new_buffers T 1 ≡ b ∷ []
  new_buffer = ap (take 1) first_buffer

  -- one buffer is enough, and free
  one_buffer : buffers_for n ≡ 1
  one_buffer = for_one n (omega (arith, some_bytes)) h.fits

  pub buffer_free : buffers_for n ≤ length (free_buffers T)
  buffer_free = omega (arith, one_buffer, ap length first_buffer)

  pub buffer_lowest : b ≡ lowest_for (is_unheld T) (buffers_for n) (buffer_total T)
  buffer_lowest = h.lowest ∙ sym (lowest_some (is_unheld T) (buffers_for n) (buffer_total T) (λ z. omega (arith, one_buffer, z)))

  -- the bytes in a piece on it
  laid_one : laid T.stock (new_buffers T 1) n ≡ record { buffer = b; offset = 0; len = n } ∷ []
  unfolding laid
  laid_one =
      let e : min (size_of T.stock b) n ≡ n = omega (arith, h.fits, size_one T.stock b) in
      ap (λ (l : List ℕ). laid T.stock l n) new_buffer ∙ ap (λ (k : ℕ). record { buffer = b; offset = 0; len = k } ∷ []) e

  -- the chain from the head has the bytes
  pub head_enough : n ≤ total (stretches_from T head)
  head_enough = rw h.starts h.enough

  -- what drop leaves is what stays from the place behind them
  dropped_there : dropped T s n ≡ rest_from T at.own at.link at.into
  dropped_there = dropped_at T s n h.starts h.place

-- ---- the front given back, and the new pieces

module _ {p : List ℕ} {g : Shape} {s n head : ℕ} {at : Spot} {from beyond b : ℕ} (o : Opened p g) (h : Pullable (decode p) s n head at from beyond b) where
  abbrev T : Tables
  T = decode p

  -- the place behind the bytes
  pub pulled_place : Found T (head_of T s) n at
  pulled_place = found_at T s n h.starts h.place o.sound h.named

  S : SoundNow T
  S = tables_now T o.sound

  -- the plan of pullup can be carried out
  planned : Planned T (pulled T s n)
  planned = pulled_planned T s n (some_bytes h) S

  abbrev there : Tables
  there = emptied_to (pulled T s n) s

  -- the free pieces from the number found on are all
  pulled_free : free_from there from ≡ free_pieces there
  pulled_free = freed_from (pulled T s n) s planned h.named from (λ d l z. h.none_below d l (back_own T s n S d z))

  -- there are enough of them
  pulled_room : length (dropped T s n).more < length (free_pieces there)
  pulled_room =
      let f = length (free_pieces T) in
      let k = length (dropped T s n).more in
      let most = leb→le (suc k) (length (drop_back T s n) + f) (subst Is (sym (pullup_room T s n S h.scattered f)) (le→leb (suc k) (length (own_of T s) + f) (omega (arith, h.room)))) in
      omega (arith, most, freed_count (pulled T s n) s planned h.named)

  module _ {q : List ℕ} {t : Tail} (was : Holds q g (turned_to (rest_from T at.own at.link at.into).base s (holding 0)) × Stays t (rest_from T at.own at.link at.into)) where
    -- the pool's tables are those of the rule
    there_is : decode q ≡ there
    there_is = was.0.is ∙ ap (λ (P : Plan). turned_to P.base s (holding 0)) (sym (dropped_there h))

    -- both pieces can be made
    pub pulled_makable : FirstMakable (decode q) t from beyond b
    pulled_makable =
        let P = pulled T s n in
        let e = dropped_there h in
        rw there_is
        (record {
          room = omega (arith, pulled_room, ap length (more_dropped T s n e was.1), ap length pulled_free);
          none_between = λ d l m z. h.none_between d l m (back_own T s n S d (freed_free P s planned h.named d z));
          in_store = IfSome_then t.window (buffer_dropped T s n e was.1 S) (λ w l. omega (arith, l, freed_buffers P s planned h.named));
          first_in = omega (arith, h.inside, freed_buffers P s planned h.named);
          counted = λ x. omega (arith, total_pieces (whole o.shaped), o.few_pieces_lem, freed_counts P s planned h.named x);
        })

    module _ {r : List ℕ} {m : ℕ} (new : Holds r g (built (decode q) (free_from (decode q) from) (first_on b n t) t.next) × (m ≡ built_link (free_from (decode q) from) (first_on b n t) t.next)) where
      -- what is made is what the plan makes
      more_pulled : first_on b n t ≡ (pulled T s n).more
      more_pulled =
          (λ i. record { buffer = b; offset = 0; len = n } ∷ more_dropped T s n (dropped_there h) was.1 i)
          ∙ ap (λ (xs : List Stretch). xs ++ (dropped T s n).more) (sym (laid_one h))

      made : Holds r g (built there (free_pieces there) (pulled T s n).more (pulled T s n).tail) × (m ≡ built_link (free_pieces there) (pulled T s n).more (pulled T s n).tail)
      made =
          let fs : free_from (decode q) from ≡ free_pieces there = ap (λ (X : Tables). free_from X from) there_is ∙ pulled_free in
          let next = next_dropped T s n (dropped_there h) was.1 in (
            record { shaped = new.0.shaped; is = new.0.is ∙ (λ j. built (there_is j) (fs j) (more_pulled j) (next j)) },
            new.1 ∙ (λ j. built_link (fs j) (more_pulled j) (next j)),
          )

      pub pulled_link : m ≤ g.pieces
      pulled_link = omega (arith, made.1, freed_link (pulled T s n) s planned h.named, total_pieces (whole o.shaped))

      -- the plan under the slip, and the bytes on their buffer before the front is given back, are what pullup leaves
      pub pull_done : (st : List ℕ) {q′ st₁ st′ : List ℕ} → Holds q′ g (set_slip (decode r) s (m + 1))
          → st₁ ≡ stored T.stock st (new_buffers T (buffers_for n)) (take n (contents T.stock st (stretches_from T head)))
          → st′ ≡ turned_storage (rest_from T at.own at.link at.into).base st₁ s (holding 0) → Pulled p st g s n q′ st′
      unfolding pullup_after
      pull_done st set filled given =
          let P = pulled T s n in
          let X = state_of T (stored T.stock st (new_buffers T 1) (take n (reads (state_of T st) s))) in
          let after : pullup_after s n (state_of T st) ≡ under_freed X P s = if_F (leb n (first_length (spans T s))) _ _ (λ t. omega (arith, leb→le n (first_length (spans T s)) t, h.scattered)) in
          let now = freed_done P s planned h.named X made set in
          let copied = filled ∙ (λ i. stored T.stock st (new_buffers T (one_buffer h i)) (take n (contents T.stock st (stretches_from T (h.starts i))))) in
          record {
            tables_are = record { shaped = now.shaped; is = now.is ∙ sym (ap (λ (X : State). X.tables) after) };
            storage_is = given ∙ (λ i. turned_storage (sym (dropped_there h) i).base (copied i) s (holding 0)) ∙ freed_storage X P s
                ∙ sym (ap (λ (X : State). X.storage) after);
          }
