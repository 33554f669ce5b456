-- Copying a range of a chain, one piece after another. Assumes nothing.
use mathlib.Core.Path.{◌≡◌, refl, sym, ap, ap₂, subst, ◌∙◌}
use mathlib.Core.List.{List, ◌∷◌, ◌++◌, append_assoc}
use Prim.Native.Nat.{ℕ, ◌+◌, ◌-◌, ◌≤◌, ◌<◌, min}
use native.Mathlib.Omega.{arith}
use lib.ListN.{length, take, drop, length-append, length-take, length-drop, take-append-drop}
use lib.Seq.{length-take-le, take_at, drop_at, take-take, drop-drop, take-add, take-append-le, drop-append-le}
use Rattle.kinds.specs.Limits.{buffer_size}
use Rattle.kinds.proofs.Sizes.{start_step}
use Rattle.rules.specs.Basics.{Is}
use Rattle.rules.specs.Tables.{Tables, piece, piece_total, buffer_total}
use Rattle.rules.specs.Chain.{Stretch, stretch, total, position_of, bytes_of, contents}
use Rattle.rules.specs.Sound.{link_ok, SoundTables}
use Rattle.rules.specs.Read.{copied}
use Rattle.rules.proofs.Contents.{Fit, drop_take, bytes_length, contents_length}
use Rattle.chain.specs.Length.{stretches_from}
use Rattle.chain.proofs.Links.{InUse, link_leads, length_empty, stretches_on, stretches_in}
use Rattle.layout.specs.declared.Shape.{Shape}
use Rattle.tables.specs.Shape.{Shaped}
use Rattle.transfer.specs.declared.Cursor.{Cursor}
use Rattle.transfer.specs.declared.Extent.{Extent}
use Rattle.transfer.specs.Behind.{InPiece, extent_at, behind, advanced}
use Rattle.transfer.proofs.Behind.{Behind, behind_none, behind_advanced, advanced_behind}

-- ---- parts of lists

-- w goes to the place t, and v behind it: at once, or w first
two_writes : (out w v : List ℕ) (t n m : ℕ) → length w ≡ n → n ≤ m → t + m ≤ length out
    → take t out ++ ((w ++ v) ++ drop (t + m) out)
    ≡ take (t + n) (take t out ++ (w ++ drop (t + n) out)) ++ (v ++ drop (t + n + (m - n)) (take t out ++ (w ++ drop (t + n) out)))
two_writes out w v t n m e h b =
    let front = take t out ++ w in
    let back = drop (t + n) out in
    let l : length front ≡ t + n = length-append (take t out) w ∙ simp length-take (omega arith) in
    let i : t + n + (m - n) ≡ t + m = omega arith in
    let rest : drop (t + n + (m - n)) (front ++ back) ≡ drop (t + m) out =
    sym (drop-drop (m - n) (t + n) (front ++ back)) ∙ ap (drop (m - n)) (drop_at front back (t + n) l) ∙ drop-drop (m - n) (t + n) out ∙ ap (λ j. drop j out) i in
    rw (← append_assoc (take t out) w back, take_at front back (t + n) l, rest) (simp append_assoc)

-- ---- the bytes of a chain

-- the n bytes of a chain from the place c on
abbrev pub bytes_from : Tables → List ℕ → Cursor → ℕ → List ℕ
bytes_from T st c n = take n (drop c.into (contents T.stock st (stretches_from T c.link)))

-- there are n of them, where the chain has as many
pub bytes_count : (T : Tables) (st : List ℕ) (c : Cursor) (n : ℕ) → SoundTables T → Fit T.stock (buffer_total T) st → Is (link_ok T c.link) → c.into + n ≤ total (stretches_from T c.link)
    → length (bytes_from T st c n) ≡ n
bytes_count T st c n sound s t h =
    length-take-le n _ (simp length-drop (omega (arith, contents_length T.stock (buffer_total T) st (stretches_from T c.link) s (stretches_in T c.link sound t))))

-- the k bytes from i on of stretches of which the first has them all
first_bytes_lem : (Z st : List ℕ) (x : Stretch) (xs : List Stretch) (i k : ℕ) → length (bytes_of Z st x) ≡ x.len → i + k ≤ x.len
    → take k (drop i (contents Z st (x ∷ xs))) ≡ take k (drop (position_of Z x + i) st)
unfolding contents
first_bytes_lem Z st x xs i k l h =
    let a = bytes_of Z st x in
    ap (take k) (drop-append-le i a (contents Z st xs) (omega arith)) ∙ take-append-le k (drop i a) (contents Z st xs) (simp length-drop (omega arith))
    ∙ ap (take k) (drop_take i x.len (drop (position_of Z x) st)) ∙ take-take k (x.len - i) _ (omega arith) ∙ ap (take k) (drop-drop i (position_of Z x) st)

-- the next extent x of the n bytes from the place g on: some bytes, no more than are left and than a buffer has, which are of its piece, and so lie in the storage
pub record Next (T : Tables) (st : List ℕ) (g : Cursor) (n : ℕ) (x : Extent) : Type 0 where
  pub some : 0 < x.count
  pub most : x.count ≤ n
  pub small : x.count ≤ buffer_size
  pub within : g.into + x.count ≤ (piece T (g.link - 1)).len
  pub lies : x.start + x.count ≤ length st

-- ---- a copy under way

-- the n bytes from the place g on go to the place t of the output, which is then `goal`, and the copy is then at `end`
pub record Going (T : Tables) (st goal : List ℕ) (end g : Cursor) (n t : ℕ) (out : List ℕ) : Type 0 where
  pub good : Is (link_ok T g.link)
  pub inside : InPiece T g
  pub enough : g.into + n ≤ total (stretches_from T g.link)
  pub room : t + n ≤ length out
  pub ends : behind T g n ≡ end
  pub same : take t out ++ (bytes_from T st g n ++ drop (t + n) out) ≡ goal

-- all of them go to the front
pub going_first : (T : Tables) (st : List ℕ) (c : Cursor) (n : ℕ) (out : List ℕ) → SoundTables T → Fit T.stock (buffer_total T) st → Is (link_ok T c.link) → InPiece T c → c.into + n ≤ total (stretches_from T c.link) → n ≤ length out
    → Going T st (copied (bytes_from T st c n) out) (behind T c n) c n 0 out
going_first T st c n out sound s t i h r =
    let e : 0 + n ≡ n = omega arith in
    record { good = t; inside = i; enough = h; room = omega arith; ends = refl; same = rw (bytes_count T st c n sound s t h, e) }

module _ {T : Tables} {st goal : List ℕ} {end g : Cursor} {n t : ℕ} {out : List ℕ} (sound : SoundTables T) (w : Going T st goal end g n t out) where
  -- where none is left, the output is the goal, and the copy is at its end
  pub going_done : n ≤ 0 → out ≡ goal
  going_done h =
      let z : n ≡ 0 = omega arith in
      let e : t + 0 ≡ t = omega arith in
      sym (take-append-drop t out) ∙ (rw (z, e) at w.same)

  pub going_end : n ≤ 0 → g ≡ end
  going_end h =
      let z : 0 ≡ n = omega arith in
      sym (behind_none T g sound w.good w.inside) ∙ ap (behind T g) z ∙ w.ends

  module _ (h : 0 < n) where
    -- where some are, there is a link
    going_some : g.link ≡ 0 → ⊥
    going_some z = omega (arith, w.enough, length_empty (piece_total T) g.link T z)

    -- which leads to a piece in use
    pub going_piece : InUse T (g.link - 1)
    going_piece = link_leads T g.link sound w.good going_some

    -- inside which the place lies
    pub going_before : g.into < (piece T (g.link - 1)).len
    going_before = w.inside going_some

    -- and of which a pool of the shape sh has the entry
    pub going_shaped : {p : List ℕ} {sh : Shape} → Shaped p sh → piece_total T ≡ sh.pieces → Shaped p sh × (g.link ≤ sh.pieces) × (g.link ≡ 0 → ⊥)
    going_shaped o e = let some = going_some in (o, omega (arith, going_piece.below, e, some), some)

    module _ (fit : Fit T.stock (buffer_total T) st) {x : Extent} (ex : x ≡ extent_at T g n) where
      -- the next extent: where it starts, and its bytes
      pub going_start : x.start ≡ position_of T.stock (stretch (piece T (g.link - 1))) + g.into
      going_start = ap (λ (q : Extent). q.start) ex

      going_size : x.count ≡ min n ((piece T (g.link - 1)).len - g.into)
      going_size = ap (λ (q : Extent). q.count) ex

      pub going_next : Next T st g n x
      going_next =
          let u = going_piece in
          let within : g.into + x.count ≤ (piece T (g.link - 1)).len = omega (arith, going_size, going_before) in
          record {
            some = omega (arith, going_size, going_before);
            most = omega (arith, going_size);
            small = omega (arith, going_size, u.most);
            within = within;
            lies = omega (arith, going_start, within, u.inside, start_step T.stock (piece T (g.link - 1)).buffer (buffer_total T) u.in_store);
          }

      -- once they are copied, the copy goes on behind them
      pub going_on : {g' : Cursor} {out' : List ℕ} → g' ≡ advanced T g x.count → out' ≡ take t out ++ (take x.count (drop x.start st) ++ drop (t + x.count) out)
          → (length out' ≡ length out) × Going T st goal end g' (n - x.count) (t + x.count) out'
      going_on {g'} {out'} eg eo =
          let k = x.count in
          let y = stretch (piece T (g.link - 1)) in
          let u = going_piece in
          let i = going_next.within in
          let l = going_next.most in
          let b = subst (Behind T g k) (sym eg) (advanced_behind T g k sound w.good going_some i) in
          let e : k + (n - k) ≡ n = omega arith in
          let D = drop g.into (contents T.stock st (stretches_from T g.link)) in
          let part : take k D ≡ take k (drop x.start st) =
          ap (λ (q : List Stretch). take k (drop g.into (contents T.stock st q))) (stretches_on T g.link sound w.good going_some)
          ∙ first_bytes_lem T.stock st y _ g.into k (bytes_length T.stock (buffer_total T) st y fit u.in_store u.inside) i ∙ ap (λ j. take k (drop j st)) (sym going_start) in
          let rest : drop k D ≡ drop g'.into (contents T.stock st (stretches_from T g'.link)) = drop-drop k g.into _ ∙ b.rest st fit in
          let w₀ = take k (drop x.start st) in
          let all : bytes_from T st g n ≡ w₀ ++ bytes_from T st g' (n - k) = ap (λ j. take j D) (sym e) ∙ take-add k (n - k) D ∙ ap₂ ◌++◌ part (ap (take (n - k)) rest) in
          let count : length w₀ ≡ k = sym (ap length part) ∙ bytes_count T st g k sound fit w.good (omega (arith, w.enough)) in
          let keeps : length out' ≡ length out = ap length eo ∙ simp (length-append, count, length-take, length-drop) (omega (arith, w.room)) in (
            keeps,
            record {
              good = b.good;
              inside = b.inside;
              enough = omega (arith, b.lengths, w.enough);
              room = omega (arith, w.room, keeps);
              ends = ap (λ (q : Cursor). behind T q (n - k)) eg ∙ behind_advanced T g k sound w.good going_some i (n - k) ∙ ap (behind T g) e ∙ w.ends;
              same = ap (λ (q : List ℕ). take (t + k) q ++ (bytes_from T st g' (n - k) ++ drop (t + k + (n - k)) q)) eo
                  ∙ sym (two_writes out w₀ (bytes_from T st g' (n - k)) t k n count l w.room) ∙ ap (λ (q : List ℕ). take t out ++ (q ++ drop (t + n) out)) (sym all) ∙ w.same;
            },
          )
