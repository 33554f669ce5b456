-- Copying the pieces of a range, one after another. Assumes nothing.
use mathlib.Core.Path.{◌≡◌, refl, ap, subst, ◌∙◌}
use mathlib.Core.List.{List, [], ◌∷◌}
use Prim.Native.Nat.{ℕ, zero, suc, ◌+◌, ◌-◌, ◌≤◌, ◌<◌, min}
use native.Mathlib.Decide.{ℕ_discrete}
use native.Mathlib.Omega.{arith}
use lib.ListN.{length}
use lib.Dec.{leb, leb→le, eqb→eq}
use Rattle.rules.specs.Basics.{Is}
use Rattle.rules.specs.Tables.{Piece, Tables, piece, piece_total, buffer_total}
use Rattle.rules.specs.Bytes.{decode}
use Rattle.rules.specs.Chain.{Stretch, stretches, cut_out}
use Rattle.rules.specs.Sound.{link_ok}
use Rattle.rules.specs.Room.{is_free, free_pieces}
use Rattle.rules.specs.Build.{fresh, taken, built}
use Rattle.rules.proofs.Logic.{if_F}
use Rattle.layout.specs.declared.Shape.{Shape}
use Rattle.tables.specs.Shape.{Shaped}
use Rattle.tables.proofs.Laws.{totals}
use Rattle.chain.specs.Opened.{Opened}
use Rattle.chain.specs.Length.{stretches_from}
use Rattle.chain.proofs.Links.{InUse, link_leads, walk_none, walk_on}
use Rattle.room.specs.Free.{lowest_for}
use Rattle.room.proofs.Free.{lowest_some}
use Rattle.build.specs.declared.Cloning.{Cloning}
use Rattle.build.specs.Line.{link_in_line}
use Rattle.build.specs.Clone.{stretch_at, next_part, cloned, Clonable}
use Rattle.build.proofs.Forward.{piece_other}
use Rattle.build.proofs.Line.{Line, line_opened, line_step}

-- ---- the range

-- no bytes are no stretches
cut_none : (xs : List Stretch) (off n : ℕ) → n ≡ 0 → cut_out xs off n ≡ []
unfolding cut_out
cut_none [] off n z = refl
cut_none (x ∷ xs) off zero z = refl
cut_none (x ∷ xs) off (suc n) z = absurd (omega arith)

-- where the range starts inside the first stretch, it has a part of that, and then starts with the next
cut_first : (x : Stretch) (xs : List Stretch) (off n : ℕ) → 0 < n → off < x.len
    → cut_out (x ∷ xs) off n ≡ record { buffer = x.buffer; offset = x.offset + off; len = min n (x.len - off) } ∷ cut_out xs 0 (n - (x.len - off))
unfolding cut_out
cut_first x xs off zero h l = absurd (omega arith)
cut_first x xs off (suc n) h l = if_F (leb x.len off) _ _ (λ t. omega (arith, leb→le x.len off t))

-- the stretches still to come, in the tables O at entry
abbrev to_come : Tables → Cloning → List Stretch
to_come O c = cut_out (stretches_from O c.at) c.skip c.left

-- Copying is under way in the tables T, with k pieces still to come; at entry they were O, and at the end they are `goal`.
pub record Copies (O goal : Tables) (tail : ℕ) (T : Tables) (c : Cloning) (k : ℕ) : Type 0 where
  pub more : k ≡ length (to_come O c)
  pub good : Is (link_ok O c.at)
  pub inside : (c.at ≡ 0 → ⊥) → c.skip < (piece O (c.at - 1)).len
  pub used : (d : ℕ) → 0 < (piece O d).count → piece T d ≡ piece O d
  pub line : Line goal tail T c.free.0 (to_come O c)

-- before the first piece
pub copies_start : {p : List ℕ} {h : Shape} → Opened p h → (link into n k tail : ℕ) {f : ℕ} → Is (link_ok (decode p) link)
    → k ≡ length (cut_out (stretches_from (decode p) link) into n) → k ≤ length (free_pieces (decode p)) → ((link ≡ 0 → ⊥) → into < (piece (decode p) (link - 1)).len)
    → (k ≡ 0 → ⊥) → let T = decode p in f ≡ lowest_for (is_free T) k (piece_total T)
    → Copies T (built T (free_pieces T) (cut_out (stretches_from T link) into n) tail) tail T (record { free = record { 0 = f }; at = link; skip = into; left = n }) k
copies_start {p} o link into n k tail good e h inside some ef =
    let first = ef ∙ lowest_some (is_free (decode p)) k (piece_total (decode p)) some in
    record { more = e; good = good; inside = inside; used = λ d _. refl; line = rw first (line_opened o _ tail (omega arith)) }

module _ {p q : List ℕ} {h : Shape} {goal : Tables} {tail : ℕ} {c : Cloning} {k : ℕ} (o : Opened p h) (is : Shaped q h)
    (w : Copies (decode p) goal tail (decode q) c k) (some : 0 < k) where
  abbrev O : Tables
  O = decode p

  abbrev T : Tables
  T = decode q

  -- the link leads to a piece, and some bytes are to come
  at_some : c.at ≡ 0 → ⊥
  unfolding stretches cut_out
  at_some z = omega (arith, w.more, ap length (ap (λ (n : ℕ). cut_out (stretches_from O n) c.skip c.left) z ∙ ap (λ (l : List ℕ). cut_out (stretches O l) c.skip c.left) (walk_none (piece_total O) O)))

  left_some : 0 < c.left
  left_some = elim (ℕ_discrete c.left 0) [ yes z ↦ absurd (omega (arith, w.more, ap length (cut_none (stretches_from O c.at) c.skip c.left z))) | no z ↦ omega arith ]

  -- the piece to copy is in use at entry, and is as it was
  piece_used : InUse O (c.at - 1)
  piece_used = link_leads O c.at o.sound w.good at_some

  as_was : piece T (c.at - 1) ≡ piece O (c.at - 1)
  as_was = w.used (c.at - 1) piece_used.used

  -- what comes first, and what comes after it
  split : to_come O c ≡ next_part (stretch_at O c.at) c ∷ cut_out (stretches_from O (piece O (c.at - 1)).next) 0 (c.left - (next_part (stretch_at O c.at) c).len)
  unfolding stretches
  split =
      let x = stretch_at O c.at in
      let xs = stretches_from O (piece O (c.at - 1)).next in
      let e : c.left - (x.len - c.skip) ≡ c.left - (next_part x c).len = omega arith in
      rw (walk_on O c.at o.sound w.good at_some, cut_first x xs c.skip c.left left_some (w.inside at_some), e)

  buffer_below : (piece O (c.at - 1)).buffer < buffer_total T
  buffer_below = grind (arith, totals, piece_used.in_store)

  -- so it can be copied
  pub copies_ask : Clonable T c
  copies_ask =
      let u = piece_used in
      record {
        free_below = (w.line.first (omega (arith, w.more))).0;
        some = omega (arith, at_some);
        place = record {
          below = grind (arith, totals, u.below);
          inside = rw as_was (w.inside at_some);
          small = rw as_was u.most;
          in_store = rw as_was buffer_below;
          room = omega (arith, w.line.few (piece T (c.at - 1)).buffer);
        };
      }

  -- and copying goes on
  pub copies_on : Copies O goal tail (taken T c.free.0 (fresh (next_part (stretch_at T c.at) c) (link_in_line T c.free.0 (k - 1) tail))) (cloned T c (k - 1)) (k - 1)
  copies_on =
      let u = piece_used in
      let x = next_part (stretch_at O c.at) c in
      let e : k - 1 ≡ length (cut_out (stretches_from O (piece O (c.at - 1)).next) 0 (c.left - x.len)) = omega (arith, w.more, ap length split) in
      let free = (w.line.first (omega (arith, w.more))).1 in
      rw as_was (record {
        more = e;
        good = u.onward;
        inside = λ z. (link_leads O (piece O (c.at - 1)).next o.sound u.onward z).some_bytes;
        used = λ d s. piece_other T c.free.0 _ d (λ z. omega (arith, eqb→eq (piece T c.free.0).count 0 free, ap (λ (i : ℕ). (piece T i).count) z, ap (λ (q : Piece). q.count) (w.used d s))) ∙ w.used d s;
        line = line_step x buffer_below _ e (subst (Line goal tail T c.free.0) split w.line);
      })
