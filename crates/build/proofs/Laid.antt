-- Laying new pieces on the lowest free buffers, one after another. Assumes nothing.
use mathlib.Core.Path.{◌≡◌, sym, ap, subst, ◌∙◌}
use mathlib.Core.List.{List, ◌∷◌}
use Prim.Native.Nat.{ℕ, zero, suc, ◌+◌, ◌-◌, ◌≤◌, ◌<◌}
use native.Mathlib.Numerals.{add-one}
use native.Mathlib.Omega.{arith}
use lib.ListN.{length, take, length-set}
use lib.Seq.{length-take-le}
use Rattle.kinds.specs.Limits.{buffer_size}
use Rattle.kinds.proofs.Sizes.{size_one}
use Rattle.rules.specs.Basics.{places}
use Rattle.rules.specs.Tables.{Tables, piece_total, buffer_total}
use Rattle.rules.specs.Bytes.{decode}
use Rattle.rules.specs.Chain.{Stretch}
use Rattle.rules.specs.Room.{is_free, is_unheld, free_pieces, free_buffers, new_buffers}
use Rattle.rules.specs.Build.{fresh, taken, built, laid}
use Rattle.rules.proofs.Contents.{laid_count}
use Rattle.layout.specs.declared.Shape.{Shape}
use Rattle.chain.specs.Opened.{Opened}
use Rattle.room.specs.Free.{lowest_for}
use Rattle.room.proofs.Free.{lowest_some, lowest_all}
use Rattle.build.specs.declared.Laying.{Laying}
use Rattle.build.specs.Line.{link_in_line}
use Rattle.build.specs.Laid.{buffer_at, laid_at, laid_on, Layable}
use Rattle.build.proofs.Forward.{unheld_after}
use Rattle.build.proofs.Line.{Line, First, from_first, line_opened, line_step, line_done}

-- ---- the free buffers

-- those from i on
abbrev unheld_from : Tables → ℕ → List ℕ
unheld_from T i = places (is_unheld T) i (buffer_total T - i)

-- the first of a list, and the others
take_some : (k x : ℕ) (l : List ℕ) → 0 < k → take k (x ∷ l) ≡ x ∷ take (k - 1) l
take_some zero x l h = absurd (omega arith)
take_some (suc k) x l h = let e : suc k - 1 ≡ k = omega arith in rw e

-- the stretches still to come, k of them
abbrev to_come : Tables → Laying → ℕ → List Stretch
to_come T c k = laid T.stock (take k (unheld_from T c.from.0)) c.left

-- Laying is under way in the tables T, with k pieces still to come; at the end the tables are `goal`.
pub record Lays (goal T : Tables) (c : Laying) (k : ℕ) : Type 0 where
  pub enough : k ≤ length (unheld_from T c.from.0)
  pub line : Line goal 0 T c.free.0 (to_come T c k)

-- there are as many as asked for
pub laid_all : (T : Tables) (n k : ℕ) → k ≤ length (free_buffers T) → length (laid T.stock (new_buffers T k) n) ≡ k
laid_all T n k h = laid_count T.stock (new_buffers T k) n ∙ length-take-le k (free_buffers T) h

-- before the first piece
pub lays_start : {p : List ℕ} {h : Shape} → Opened p h → (n k : ℕ) {f b : ℕ} → k ≤ length (free_pieces (decode p)) → k ≤ length (free_buffers (decode p))
    → (k ≡ 0 → ⊥) → let T = decode p in (f ≡ lowest_for (is_free T) k (piece_total T)) × (b ≡ lowest_for (is_unheld T) k (buffer_total T))
    → Lays (built T (free_pieces T) (laid T.stock (new_buffers T k) n) 0) T (record { free = record { 0 = f }; from = record { 0 = b }; left = n }) k
lays_start {p} o n k {b = b} hp hb some e =
    let T = decode p in
    let all : unheld_from T b ≡ free_buffers T = lowest_all (is_unheld T) k (buffer_total T) e.1 in
    let first = e.0 ∙ lowest_some (is_free T) k (piece_total T) some in
    rw first (record { enough = rw all hb; line = rw all (line_opened o (laid T.stock (new_buffers T k) n) 0 (omega (arith, laid_all T n k hb))) })

-- after the last
pub lays_done : {goal T : Tables} {c : Laying} {k : ℕ} → Lays goal T c k → k ≤ 0 → T ≡ goal
lays_done {goal} {T} {c} {k} w z =
    line_done (to_come T c k) w.line (laid_count T.stock (take k (unheld_from T c.from.0)) c.left ∙ length-take-le k (unheld_from T c.from.0) w.enough ∙ omega arith)

module _ {goal T : Tables} {c : Laying} {k : ℕ} (w : Lays goal T c k) (h : 0 < k) where
  -- there is a free buffer
  some_buffer : First (is_unheld T) (buffer_total T) c.from.0 (buffer_at T c)
  some_buffer = from_first (is_unheld T) (buffer_total T) c.from.0 (omega (arith, w.enough))

  -- what comes first, and what comes after it
  after : List Stretch
  after = laid T.stock (take (k - 1) (unheld_from T (suc (buffer_at T c)))) (c.left - (laid_at T c).len)

  enough_after : k - 1 ≤ length (unheld_from T (suc (buffer_at T c)))
  enough_after = omega (arith, w.enough, ap length some_buffer.split)

  split : to_come T c k ≡ laid_at T c ∷ after
  unfolding laid after
  split =
      let e : c.left - buffer_size ≡ c.left - (laid_at T c).len = omega arith in
      rw (some_buffer.split, take_some k _ _ h, size_one T.stock (buffer_at T c), e)

  after_count : k - 1 ≡ length after
  unfolding after
  after_count = sym (laid_count T.stock (take (k - 1) (unheld_from T (suc (buffer_at T c)))) (c.left - (laid_at T c).len) ∙ length-take-le (k - 1) _ enough_after)

  -- so a piece can be laid
  pub lays_ask : Layable T c
  lays_ask = record { free_below = (w.line.first (omega (arith, ap length split))).0; in_store = some_buffer.below }

  -- and laying goes on
  pub lays_on : Lays goal (taken T c.free.0 (fresh (laid_at T c) (link_in_line T c.free.0 (k - 1) 0))) (laid_on T c (k - 1)) (k - 1)
  unfolding after
  lays_on =
      let b = buffer_at T c in
      let p = fresh (laid_at T c) (link_in_line T c.free.0 (k - 1) 0) in
      let T' = taken T c.free.0 p in
      let size : buffer_total T' ≡ buffer_total T = length-set T.counts b _ in
      let same : unheld_from T' (b + 1) ≡ unheld_from T (suc b) =
      ap (unheld_from T') (add-one b) ∙ ap (λ (n : ℕ). places (is_unheld T') (suc b) (n - suc b)) size ∙ unheld_after T c.free.0 p (suc b) (buffer_total T - suc b) (omega arith) in
      record {
        enough = rw same enough_after;
        line = rw same (line_step (laid_at T c) some_buffer.below after after_count (subst (Line goal 0 T c.free.0) split w.line));
      }
