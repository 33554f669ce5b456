-- The bytes of a chain copied to a free buffer of the same storage, one piece after another. Assumes nothing.
use mathlib.Core.Path.{◌≡◌, refl, sym, ap, ap₂, ◌∙◌}
use mathlib.Core.List.{List, [], ◌++◌, append_assoc, append-nil}
use Prim.Native.Nat.{ℕ, ◌+◌, ◌-◌, ◌≤◌, ◌<◌}
use native.Mathlib.Omega.{arith}
use lib.ListN.{length, take, drop, replicate, length-append, length-take, length-drop, drop_of_length-le, take-append-drop}
use lib.Seq.{take_all, take_at, take-add, drop_at, drop-drop, take-append-le, drop-append-le}
use lib.Dec.{eqb→eq}
use Rattle.kinds.specs.Sizes.{start_of}
use Rattle.rules.specs.Basics.{Is}
use Rattle.rules.specs.Tables.{Tables, piece, buffer_count, buffer_total}
use Rattle.rules.specs.Chain.{Stretch, total}
use Rattle.rules.specs.Sound.{link_ok, SoundTables}
use Rattle.rules.specs.Room.{is_unheld}
use Rattle.rules.specs.Storage.{filled_at, filled}
use Rattle.rules.specs.Read.{copied}
use Rattle.rules.proofs.Moves.{SoundBy, buffer_pos}
use Rattle.rules.proofs.Contents.{Fit, filled_other}
use Rattle.rules.proofs.Audit.{tables_now}
use Rattle.chain.specs.Length.{stretches_from}
use Rattle.transfer.specs.declared.Cursor.{Cursor}
use Rattle.transfer.specs.declared.Extent.{Extent}
use Rattle.transfer.specs.Behind.{InPiece, extent_at, behind, advanced}
use Rattle.transfer.proofs.Copy.{bytes_from, Going, going_first, going_piece, going_start, going_next, going_on, going_done}
use Rattle.storage.proofs.Place.{Place, place_filled, place_inside}

-- ---- parts of lists

-- of what stands behind a bytes: its first t bytes, and from its byte m on
front_of : (x y z : List ℕ) (a t : ℕ) → length x ≡ a → t ≤ length y → take (a + t) (x ++ (y ++ z)) ≡ x ++ take t y
front_of x y z a t e h = take-add a t (x ++ (y ++ z)) ∙ ap₂ ◌++◌ (take_at x (y ++ z) a e) (ap (take t) (drop_at x (y ++ z) a e) ∙ take-append-le t y z h)

back_of : (x y z : List ℕ) (a m : ℕ) → length x ≡ a → m ≤ length y → drop (a + m) (x ++ (y ++ z)) ≡ drop m y ++ z
back_of x y z a m e h = sym (drop-drop m a (x ++ (y ++ z))) ∙ ap (drop m) (drop_at x (y ++ z) a e) ∙ drop-append-le m y z h

-- ---- a stretch of storage

-- bytes that the z bytes from a on have room for fill them with zeros behind
filled_short : (st : List ℕ) (a z : ℕ) (xs : List ℕ) → length xs ≤ z → filled_at st a z xs ≡ take a st ++ ((xs ++ replicate (z - length xs) 0) ++ drop (a + z) st)
unfolding filled_at
filled_short st a z xs h = rw (take_all z xs h)

-- as many as they are fill them by themselves
filled_whole : (st : List ℕ) (a z : ℕ) (out : List ℕ) → length out ≡ z → filled_at st a z out ≡ take a st ++ (out ++ drop (a + z) st)
filled_whole st a z out e =
    let none : z - length out ≡ 0 = omega arith in
    let put : List ℕ → List ℕ = λ q. take a st ++ (q ++ drop (a + z) st) in
    filled_short st a z out (omega arith) ∙ ap (λ j. put (out ++ replicate j 0)) none ∙ ap put (append-nil out)

module _ (st : List ℕ) (a z : ℕ) (h : a + z ≤ length st) where
  -- their own bytes leave them as they are
  filled_self : filled_at st a z (take z (drop a st)) ≡ st
  filled_self =
      filled_whole st a z (take z (drop a st)) (simp (length-take, length-drop) (omega arith))
      ∙ ap (λ (q : List ℕ). take a st ++ (take z (drop a st) ++ q)) (sym (drop-drop z a st))
      ∙ ap (λ (q : List ℕ). take a st ++ q) (take-append-drop z (drop a st)) ∙ take-append-drop a st

  -- x written t bytes into them
  filled_part : (out x : List ℕ) (t n : ℕ) → length out ≡ z → length x ≡ n → t + n ≤ z
      → take (a + t) (filled_at st a z out) ++ (x ++ drop (a + t + n) (filled_at st a z out)) ≡ filled_at st a z (take t out ++ (x ++ drop (t + n) out))
  filled_part out x t n e l k =
      let f = take a st in
      let c = drop (a + z) st in
      let lf : length f ≡ a = simp length-take (omega arith) in
      let i : a + t + n ≡ a + (t + n) = omega arith in
      let front = front_of f out c a t lf (omega arith) in
      let back = back_of f out c a (t + n) lf (omega arith) in
      let all : length (take t out ++ (x ++ drop (t + n) out)) ≡ z = simp (length-append, length-take, length-drop) (omega arith) in
      rw (filled_whole st a z out e, i, front, back) (simp append_assoc) ∙ sym (filled_whole st a z (take t out ++ (x ++ drop (t + n) out)) all)

  -- zeros from their byte n on
  filled_zeros : (out : List ℕ) (n : ℕ) → length out ≡ z → n ≤ z
      → take (a + n) (filled_at st a z out) ++ (replicate (z - n) 0 ++ drop (a + z) (filled_at st a z out)) ≡ filled_at st a z (take n out)
  filled_zeros out n e k =
      let f = take a st in
      let c = drop (a + z) st in
      let lf : length f ≡ a = simp length-take (omega arith) in
      let l : length (take n out) ≡ n = simp length-take (omega arith) in
      let front = front_of f out c a n lf (omega arith) in
      let back : drop (a + z) (f ++ (out ++ c)) ≡ c = back_of f out c a z lf (omega arith) ∙ ap (λ (q : List ℕ). q ++ c) (drop_of_length-le out {i = z} (omega arith)) in
      rw (filled_whole st a z out e, front, back, filled_short st a z (take n out) (omega arith), l) (simp append_assoc)

-- ---- bytes under way within storage

-- a piece in use lies on no free buffer
pub unheld_other : {rank : ℕ → ℕ} (T : Tables) (b d : ℕ) → SoundBy rank [] T → Is (is_unheld T b) → 0 < (piece T d).count → (piece T d).buffer ≡ b → ⊥
unheld_other T b d S t u e = omega (arith, eqb→eq (buffer_count T b) 0 t, buffer_pos d u S, ap (buffer_count T) e)

-- the n bytes from the place g on go to the place t of the z bytes of storage from a on, which are `out` and then `goal`, and the copy is then at `end`; elsewhere the storage stays st₀
pub record Moving (T : Tables) (a z : ℕ) (st₀ goal : List ℕ) (end g : Cursor) (n t : ℕ) (st : List ℕ) : Type 0 where
  pub out : List ℕ
  pub size : length out ≡ z
  pub stands : st ≡ filled_at st₀ a z out
  pub going : Going T st₀ goal end g n t out

module _ (T : Tables) (b a z : ℕ) (l : Place T.stock b a z) (st₀ : List ℕ) (sound : SoundTables T) (fit : Fit T.stock (buffer_total T) st₀) (below : b < buffer_total T) where
  -- they lie in the storage
  inside : a + z ≤ length st₀
  inside = place_inside l (buffer_total T) st₀ fit below

  -- all of them go to its front
  pub moving_first : (c : Cursor) (n : ℕ) → Is (link_ok T c.link) → InPiece T c → c.into + n ≤ total (stretches_from T c.link) → n ≤ z
      → Moving T a z st₀ (copied (bytes_from T st₀ c n) (take z (drop a st₀))) (behind T c n) c n 0 st₀
  moving_first c n t i e h =
      let out = take z (drop a st₀) in
      let long : length out ≡ z = simp (length-take, length-drop) (omega (arith, inside)) in
      record { out = out; size = long; stands = sym (filled_self st₀ a z inside); going = going_first T st₀ c n out sound fit t i e (omega arith) }

  module _ {goal : List ℕ} {end g : Cursor} {n t : ℕ} {st : List ℕ} (w : Moving T a z st₀ goal end g n t st) where
    -- where none is left, and zeros are behind the bytes xs that are there, the buffer is filled with these
    pub moving_done : n ≤ 0 → (xs rest st' : List ℕ) (m : ℕ) → goal ≡ copied xs rest → length xs ≡ m → m ≤ z
        → st' ≡ take (a + m) st ++ (replicate (z - m) 0 ++ drop (a + z) st) → st' ≡ filled T.stock st₀ b xs
    moving_done h xs rest st' m eg long k es =
        let e : w.out ≡ xs ++ drop (length xs) rest = going_done sound w.going h ∙ eg in
        es ∙ ap (λ (q : List ℕ). take (a + m) q ++ (replicate (z - m) 0 ++ drop (a + z) q)) w.stands
        ∙ filled_zeros st₀ a z inside w.out m w.size k ∙ ap (filled_at st₀ a z) (ap (take m) e ∙ take_at xs (drop (length xs) rest) m long) ∙ place_filled l st₀ xs

    module _ (free : Is (is_unheld T b)) (h : 0 < n) {x : Extent} (ex : x ≡ extent_at T g n) where
      -- the next extent lies on another buffer, and so holds the same bytes as at first
      moving_bytes : take x.count (drop x.start st) ≡ take x.count (drop x.start st₀)
      moving_bytes =
          let Z = T.stock in
          let p = piece T (g.link - 1) in
          let u = going_piece sound w.going h in
          let y : Stretch = record { buffer = p.buffer; offset = p.offset + g.into; len = x.count } in
          let i : x.start ≡ start_of Z p.buffer + (p.offset + g.into) = omega (arith, going_start sound w.going h fit ex) in
          ap (λ (q : List ℕ). take x.count (drop x.start q)) (w.stands ∙ place_filled l st₀ w.out) ∙ ap (λ j. take x.count (drop j (filled Z st₀ b w.out))) i
          ∙ filled_other Z (buffer_total T) st₀ b w.out y fit below (unheld_other T b (g.link - 1) (tables_now T sound).1 free u.used) u.in_store (omega (arith, (going_next sound w.going h fit ex).within, u.inside))
          ∙ ap (λ j. take x.count (drop j st₀)) (sym i)

      -- once it is copied, the copy goes on behind it
      pub moving_on : {g' : Cursor} {st' : List ℕ} → g' ≡ advanced T g x.count → st' ≡ take (a + t) st ++ (take x.count (drop x.start st) ++ drop (a + t + x.count) st)
          → Moving T a z st₀ goal end g' (n - x.count) (t + x.count) st'
      moving_on {g'} {st'} eg es =
          let bytes = take x.count (drop x.start st₀) in
          let long : length bytes ≡ x.count = simp (length-take, length-drop) (omega (arith, (going_next sound w.going h fit ex).lies)) in
          let on = going_on sound w.going h fit ex eg refl in
          record {
            out = take t w.out ++ (bytes ++ drop (t + x.count) w.out);
            size = on.0 ∙ w.size;
            stands = es ∙ ap (λ (q : List ℕ). take (a + t) st ++ (q ++ drop (a + t + x.count) st)) moving_bytes
                ∙ ap (λ (q : List ℕ). take (a + t) q ++ (bytes ++ drop (a + t + x.count) q)) w.stands
                ∙ filled_part st₀ a z inside w.out bytes t x.count w.size long (omega (arith, w.going.room, w.size, (going_next sound w.going h fit ex).most));
            going = on.1;
          }
