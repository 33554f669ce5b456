-- The bytes of a chain written to free buffers: the chain lies on others, so that it holds the same bytes afterwards. Assumes nothing.
use mathlib.Core.Path.{◌≡◌, sym, ap, subst, ◌∙◌}
use mathlib.Core.List.Memᴰ
use mathlib.Core.List.{List, [], ◌∷◌}
use Prim.Native.Nat.{ℕ, ◌+◌, ◌-◌, ◌≤◌, ◌<◌, min}
use native.Mathlib.Omega.{arith}
use lib.ListN.{length, take, drop}
use Rattle.std.proofs.lemmas.List.{take_min, drop_min}
use lib.Seq.{take_all, take-take, drop-drop}
use Rattle.kinds.specs.Limits.{buffer_size}
use Rattle.rules.specs.Basics.{Is}
use Rattle.rules.specs.Tables.{Tables, piece_total, buffer_total}
use Rattle.rules.specs.Chain.{walk, stretches, total, contents}
use Rattle.rules.specs.Sound.{link_ok, SoundTables}
use Rattle.rules.specs.Room.{is_unheld, free_buffers, new_buffers}
use Rattle.rules.specs.Storage.{filled}
use Rattle.rules.specs.Build.{buffers_for, stored}
use Rattle.rules.proofs.Moves.{SoundBy}
use Rattle.rules.proofs.Chain.{AllUsed}
use Rattle.rules.proofs.Contents.{Fit, Off, drop_take, contents_length, filled_length, stored_others}
use Rattle.rules.proofs.Audit.{tables_now}
use Rattle.chain.specs.Length.{stretches_from}
use Rattle.chain.proofs.Links.{walk_in_use, stretches_in}
use Rattle.room.specs.Free.{first_from, lowest_for}
use Rattle.transfer.specs.declared.Cursor.{Cursor}
use Rattle.transfer.specs.Behind.{InPiece, behind}
use Rattle.transfer.proofs.Behind.{Behind, behind_found, start_inside}
use Rattle.transfer.proofs.Copy.{bytes_from, bytes_count}
use Rattle.transfer.proofs.Move.{unheld_other}
use Rattle.storage.proofs.Place.{place_one, place_filled}
use Rattle.transfer.proofs.Fill.{Filling, filling_first, filling_done, filling_below, filling_passes, filling_on}

-- ---- one buffer

-- pieces in use lie on no free buffer
used_off : {rank : ℕ → ℕ} (T : Tables) (b : ℕ) (ds : List ℕ) → SoundBy rank [] T → Is (is_unheld T b) → AllUsed T ds → Off (b ∷ []) (stretches T ds)
unfolding stretches
used_off T b [] S t u = tt
used_off T b (d ∷ ds) S t u = (
  λ m. unheld_other T b d S t u.0 (Memᴰ.eq_of_singleton m),
  used_off T b ds S t u.1,
)

-- so a chain holds the same bytes once a free buffer is filled
chain_stays : (T : Tables) (n b : ℕ) (st xs : List ℕ) → SoundTables T → Is (link_ok T n) → Fit T.stock (buffer_total T) st → b < buffer_total T → Is (is_unheld T b)
    → contents T.stock (filled T.stock st b xs) (stretches_from T n) ≡ contents T.stock st (stretches_from T n)
unfolding stored
chain_stays T n b st xs sound t s h f =
    stored_others T.stock (is_unheld T) b (buffer_total T) (b ∷ []) st xs (stretches_from T n) (omega arith, h, f, tt) s (stretches_in T n sound t)
    (used_off T b (walk (piece_total T) T n) (tables_now T sound).1 f (walk_in_use T n sound t))

-- ---- a refill under way

-- the first bytes of a chain, as many as it has, are all of them
pub bytes_all : (T : Tables) (st : List ℕ) (l : ℕ) → SoundTables T → Fit T.stock (buffer_total T) st → Is (link_ok T l) → take (total (stretches_from T l)) (contents T.stock st (stretches_from T l)) ≡ contents T.stock st (stretches_from T l)
bytes_all T st l sound s t =
    let xs = stretches_from T l in
    take_all (total xs) (contents T.stock st xs) (omega (arith, contents_length T.stock (buffer_total T) st xs s (stretches_in T l sound t)))

-- the chain has n bytes more from the place c on, which are still to go to the lowest free buffers from i on
pub record Refilling (T : Tables) (goal : List ℕ) (i : ℕ) (st : List ℕ) (c : Cursor) (n : ℕ) : Type 0 where
  pub good : Is (link_ok T c.link)
  pub inside : InPiece T c
  pub enough : c.into + n ≤ total (stretches_from T c.link)
  pub filling : Filling T.stock (is_unheld T) (buffer_total T) goal i st (bytes_from T st c n)

-- all of them go to the lowest, from the first of those on
pub refilling_first : (T : Tables) (st : List ℕ) (l n : ℕ) {i : ℕ} → i ≡ lowest_for (is_unheld T) (buffers_for n) (buffer_total T) → SoundTables T → Fit T.stock (buffer_total T) st → Is (link_ok T l) → n ≤ total (stretches_from T l) → buffers_for n ≤ length (free_buffers T)
    → Refilling T (stored T.stock st (new_buffers T (buffers_for n)) (take n (contents T.stock st (stretches_from T l)))) i st (record { link = l; into = 0 }) n
refilling_first T st l n {i} q sound s t h r =
    let c : Cursor = record { link = l; into = 0 } in
    let xs = bytes_from T st c n in
    let e = bytes_count T st c n sound s t (omega arith) in
    record {
      good = t;
      inside = start_inside T l sound t;
      enough = omega arith;
      filling = subst (λ k. Filling T.stock (is_unheld T) (buffer_total T) (stored T.stock st (new_buffers T (buffers_for k)) xs) i st xs) e (filling_first T.stock (is_unheld T) (buffer_total T) st xs (rw e q) s (rw e r));
    }

module _ {T : Tables} {goal : List ℕ} {i : ℕ} {st : List ℕ} {c : Cursor} {n : ℕ} (sound : SoundTables T) (w : Refilling T goal i st c n) where
  -- n bytes are left
  count : length (bytes_from T st c n) ≡ n
  count = bytes_count T st c n sound w.filling.fits w.good w.enough

  -- where none is left, the storage is the goal
  pub refilling_done : n ≤ 0 → st ≡ goal
  refilling_done h = filling_done w.filling (omega (arith, count))

  module _ (h : 0 < n) {b : ℕ} (eb : b ≡ first_from (is_unheld T) i (buffer_total T)) where
    -- which are some
    some : 0 < length (bytes_from T st c n)
    some = omega (arith, count)

    -- the lowest free buffer is one of the pool's
    pub refilling_below : b < buffer_total T
    refilling_below = filling_below w.filling some eb

    -- which no piece lies on
    pub refilling_free : Is (is_unheld T b)
    refilling_free = filling_passes w.filling some eb

    -- and once it is filled the refill goes on behind the bytes that went there
    pub refilling_on : {m : ℕ} {st' : List ℕ} {c' : Cursor} → m ≡ min n buffer_size → st' ≡ filled T.stock st b (bytes_from T st c m) → c' ≡ behind T c m → Refilling T goal (b + 1) st' c' (n - m)
    refilling_on {m} {st'} {c'} em es ec =
        let r = subst (Behind T c m) (sym ec) (behind_found T c m sound w.good) in
        let D = drop c.into (contents T.stock st (stretches_from T c.link)) in
        let k : m ≡ min buffer_size (length (take n D)) = rw count (omega arith) in
        let below = refilling_below in
        let s : Fit T.stock (buffer_total T) st' = ap length es ∙ filled_length T.stock (buffer_total T) st b _ w.filling.fits below ∙ w.filling.fits in
        let same : contents T.stock st' (stretches_from T c.link) ≡ contents T.stock st (stretches_from T c.link) =
        ap (λ (q : List ℕ). contents T.stock q (stretches_from T c.link)) es
        ∙ chain_stays T c.link b st _ sound w.good w.filling.fits below refilling_free in
        let part : take m D ≡ take buffer_size (take n D) = sym (take-take m n D (omega arith)) ∙ ap (λ i. take i (take n D)) k ∙ take_min buffer_size (take n D) in
        let rest : take (n - m) (drop c'.into (contents T.stock st' (stretches_from T c'.link))) ≡ drop buffer_size (take n D) =
        ap (take (n - m)) (sym (r.rest st' s) ∙ ap (drop (c.into + m)) same ∙ sym (drop-drop m c.into _))
        ∙ sym (drop_take m n D) ∙ ap (λ i. drop i (take n D)) k ∙ drop_min buffer_size (take n D) in
        record {
          good = r.good;
          inside = r.inside;
          enough = omega (arith, r.lengths, w.enough);
          filling = filling_on w.filling some eb part rest (es ∙ sym (place_filled (place_one T.stock b) st _));
        }
