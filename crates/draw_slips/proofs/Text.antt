-- The cases of a slip's text, and lines one after the other. Assumes nothing.
use mathlib.Core.Path.{◌≡◌, refl, sym, ap, ◌∙◌}
use mathlib.Core.List.{List, [], ◌∷◌, ◌++◌, map}
use Prim.Native.Nat.{ℕ, zero, suc, ◌+◌, max}
use Rattle.std.specs.List.{range_with_len, reduce}
use Rattle.std.specs.Option.{unwrap_or}
use Rattle.std.proofs.lemmas.List.Sums.{fold-append}
use Rattle.std.proofs.lemmas.List.FromFn.{map-range_with_len_more}
use native.Mathlib.Numerals.{add-one}
use native.Mathlib.Omega.{arith}
use Rattle.kinds.specs.declared.SlipState.{SlipState}
use Rattle.kinds.specs.declared.SlipState.TheVariants.{Vacant, Empty, Heads}
use Rattle.kinds.specs.declared.PieceNumber.{PieceNumber}
use Rattle.kinds.specs.SlipState.{state_of, raw_of}
use Rattle.kinds.proofs.Laws.{raw_state}
use Rattle.rules.specs.Tables.{Tables, slip, slip_total}
use Rattle.rules.specs.Bytes.{decode}
use Rattle.rules.specs.Chain.{chain, length_of}
use Rattle.layout.specs.declared.Shape.{Shape}
use Rattle.tables.specs.Shape.{Shaped}
use Rattle.tables.proofs.Laws.{whole, total_slips}
use Rattle.page.specs.Page.{ascii}
use Rattle.page.proofs.Ink.{inks, if_eq, if_ne}
use Rattle.draw_chain.specs.Text.{chain_text}
use Rattle.draw_slips.specs.Text.{up_to, most_to, length_text, state_text}

-- ---- what a slip holds

module _ (T : Tables) (w s : ℕ) where
  -- the number that stands for a state
  raw_is : {x : SlipState} → x ≡ state_of (slip T s) → slip T s ≡ raw_of x
  raw_is e = sym (ap raw_of e ∙ raw_state (slip T s))

  -- the text of each state
  pub state_vacant : Vacant ≡ state_of (slip T s) → state_text T w s ≡ ascii "  vacant"
  unfolding state_text
  state_vacant e = if_eq _ _ _ _ (raw_is e)

  pub state_empty : Empty ≡ state_of (slip T s) → state_text T w s ≡ length_text w 0 ++ ascii "empty"
  unfolding state_text
  state_empty e = let r = raw_is e in if_ne _ _ _ _ (omega arith) ∙ if_eq _ _ _ _ r

  pub state_heads : (d : PieceNumber) → Heads d ≡ state_of (slip T s) → state_text T w s ≡ length_text w (length_of T s) ++ chain_text T (chain T s)
  unfolding state_text
  state_heads d e = let r = raw_is e in if_ne _ _ _ _ (omega arith) ∙ if_ne _ _ _ _ (omega arith)

-- ---- lines

-- no line, and one line more
pub up_none : (f : ℕ → List ℕ) → up_to 0 f ≡ []
unfolding up_to
up_none f = refl

pub up_on : (n : ℕ) (f : ℕ → List ℕ) → up_to (n + 1) f ≡ up_to n f ++ f n
unfolding up_to
up_on n f = rw add-one

-- the greatest of a list's numbers, or 0, with one number more
greatest_push : (xs : List ℕ) (y : ℕ) → unwrap_or (reduce max (xs ++ y ∷ [])) 0 ≡ max (unwrap_or (reduce max xs) 0) y
greatest_push [] y = omega arith
greatest_push (x ∷ xs) y = fold-append max x xs (y ∷ [])

-- the greatest of f 0, .., f (n - 1) as std says it
pub most_range : (n : ℕ) (f : ℕ → ℕ) → unwrap_or (reduce max (map f (range_with_len 0 n))) 0 ≡ most_to n f
unfolding most_to
most_range zero f = refl
most_range (suc n) f =
    ap (λ (l : List ℕ). unwrap_or (reduce max l) 0) (rw add-one at (map-range_with_len_more f 0 n n (omega arith)))
    ∙ greatest_push (map f (range_with_len 0 n)) (f n)
    ∙ ap (λ (m : ℕ). max m (f n)) (most_range n f)

-- a pool's tables have as many slips as its shape says
pub slip_count : {p : List ℕ} {h : Shape} → Shaped p h → slip_total (decode p) ≡ h.slips
slip_count is = total_slips (whole is)

-- what the search is given of lines
pub ruleset lines = (inks, up_none, up_on, state_vacant)
