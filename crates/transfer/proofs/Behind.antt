-- Places in a chain: the place some bytes behind another, found at once, or one piece after another. Assumes nothing.
use mathlib.Core.Path.{◌≡◌, refl, sym, ap, subst, ◌∙◌}
use mathlib.Core.Bool.{Bool, true, false}
use mathlib.Core.List.{List}
use Prim.Native.Nat.{ℕ, zero, suc, ◌+◌, ◌-◌, ◌≤◌}
use native.Mathlib.Nat.{add-zero}
use native.Mathlib.Decide.{ℕ_discrete}
use native.Mathlib.Omega.{arith}
use lib.ListN.{length, drop}
use lib.Dec.{ltb, ltb→lt}
use Rattle.rules.specs.Basics.{Is, whether◌then◌else◌}
use Rattle.rules.specs.Layout.{storage_length}
use Rattle.rules.specs.Tables.{Tables, piece, piece_total, buffer_total}
use Rattle.rules.specs.Chain.{own_at, total, contents}
use Rattle.rules.specs.Sound.{link_ok, SoundTables}
use Rattle.rules.proofs.Logic.{if_either, not_less}
use Rattle.rules.proofs.Contents.{drop_out_contents}
use Rattle.chain.specs.declared.Spot.{Spot}
use Rattle.chain.specs.Length.{stretches_from}
use Rattle.chain.specs.Find.{spot_of}
use Rattle.chain.proofs.Links.{link_leads, stretches_in}
use Rattle.chain.proofs.Spots.{spot_end, spot_turn, spot_stop, found_from}
use Rattle.transfer.specs.declared.Cursor.{Cursor}
use Rattle.transfer.specs.Behind.{InPiece, behind, advanced}

-- ---- the place behind

-- r lies n bytes behind the place c, inside its piece: what comes after them is the same, whatever the storage holds
pub record Behind (T : Tables) (c : Cursor) (n : ℕ) (r : Cursor) : Type 0 where
  pub good : Is (link_ok T r.link)
  pub inside : InPiece T r
  pub rest : (st : List ℕ) → length st ≡ storage_length T.stock (buffer_total T)
      → drop (c.into + n) (contents T.stock st (stretches_from T c.link)) ≡ drop r.into (contents T.stock st (stretches_from T r.link))
  pub lengths : total (stretches_from T c.link) + r.into ≡ total (stretches_from T r.link) + (c.into + n)

-- the place that is found is one
pub behind_found : (T : Tables) (c : Cursor) (n : ℕ) → SoundTables T → Is (link_ok T c.link) → Behind T c n (behind T c n)
unfolding behind
behind_found T c n S t =
    let Z = T.stock in
    let B = buffer_total T in
    let f = found_from T S true c.link (c.into + n) t in
    record {
      good = f.good;
      inside = f.inside;
      rest = λ st s. (sym (drop_out_contents Z B st _ _ s (stretches_in T c.link S t)) ∙ ap (contents Z st) f.stays ∙ drop_out_contents Z B st _ _ s (stretches_in T _ S f.good));
      lengths = f.lengths;
    }

-- ---- one piece after another

-- the place of a spot
abbrev place_of : Spot → Cursor
place_of s = record { link = s.link; into = s.into }

-- it goes by the test that chose the spot
place_choice : (b : Bool) (x y u v : Spot) → place_of x ≡ place_of u → place_of y ≡ place_of v → place_of (whether b then x else y) ≡ place_of (whether b then u else v)
unfolding whether◌then◌else◌
place_choice true x y u v e f = e
place_choice false x y u v e f = f

-- and is the same whether the pieces before it are own or not
place_own : (k : ℕ) (T : Tables) (a b : Bool) (n off : ℕ) → place_of (spot_of k T a n off) ≡ place_of (spot_of k T b n off)
unfolding spot_of
place_own zero T a b n off = refl
place_own (suc k) T a b zero off = refl
place_own (suc k) T a b (suc d) off = place_choice _ _ _ _ _ (place_own k T _ _ _ _) refl

-- a place inside its piece is the place no byte behind it
pub behind_none : (T : Tables) (c : Cursor) → SoundTables T → Is (link_ok T c.link) → InPiece T c → behind T c 0 ≡ c
unfolding behind
behind_none T c S t i =
    let z : c.into + 0 ≡ c.into = omega arith in
    elim (ℕ_discrete c.link 0) [
      | yes e ↦ ap (λ l. place_of (spot_of (piece_total T) T true l (c.into + 0))) e ∙ ap place_of (spot_end (piece_total T) T true (c.into + 0)) ∙ (λ j. record { link = sym e j; into = z j })
      | no e ↦ ap place_of (sym (spot_stop T true c.link (c.into + 0) S t e refl refl (omega (arith, i e)))) ∙ (λ j. record { link = c.link; into = z j })
    ]

-- the start of a chain lies inside its first piece
pub start_inside : (T : Tables) (l : ℕ) → SoundTables T → Is (link_ok T l) → InPiece T (record { link = l; into = 0 })
start_inside T l S t i = omega (arith, (link_leads T l S t i).some_bytes)

module _ (T : Tables) (c : Cursor) (k : ℕ) (S : SoundTables T) (t : Is (link_ok T c.link)) (some : c.link ≡ 0 → ⊥) (h : c.into + k ≤ (piece T (c.link - 1)).len) where
  -- the bytes of the piece, and the link after it
  abbrev size : ℕ
  size = (piece T (c.link - 1)).len

  abbrev after : ℕ
  after = (piece T (c.link - 1)).next

  -- the place k bytes further has a good link, and lies inside its piece
  advanced_good : Is (link_ok T (advanced T c k).link)
  advanced_good = if_either (λ (r : Cursor). Is (link_ok T r.link)) (ltb (c.into + k) size) _ _ (λ _. t) (λ _. (link_leads T c.link S t some).onward)

  advanced_inside : InPiece T (advanced T c k)
  advanced_inside =
      if_either (InPiece T) (ltb (c.into + k) size) (record { link = c.link; into = c.into + k }) (record { link = after; into = 0 }) (λ l _. ltb→lt (c.into + k) size l)
      (λ _. start_inside T after S (link_leads T c.link S t some).onward)

  -- what lies behind it lies as much further behind the place c
  pub behind_advanced : (m : ℕ) → behind T (advanced T c k) m ≡ behind T c (k + m)
  unfolding behind
  behind_advanced m =
      let spot : Bool → ℕ → ℕ → Cursor = λ own l i. place_of (spot_of (piece_total T) T own l i) in
      let still = own_at T true (c.link - 1) in
      let sum : c.into + k + m ≡ c.into + (k + m) = omega arith in
      if_either (λ (r : Cursor). behind T r m ≡ behind T c (k + m)) (ltb (c.into + k) size) _ _ (λ _. ap (spot true c.link) sum)
      (λ l. (
      let e : 0 + m ≡ c.into + (k + m) - size = omega (arith, not_less (c.into + k) size l) in
      place_own (piece_total T) T true still after (0 + m) ∙ ap (spot still after) e
      ∙ ap place_of (spot_turn T true c.link (c.into + (k + m)) S t some refl refl refl (omega (arith, not_less (c.into + k) size l)))))

  -- so it lies k bytes behind c
  pub advanced_behind : Behind T c k (advanced T c k)
  advanced_behind =
      subst (Behind T c k) (ap (behind T c) (sym (add-zero k)) ∙ sym (behind_advanced 0) ∙ behind_none T (advanced T c k) S advanced_good advanced_inside)
      (behind_found T c k S t)
