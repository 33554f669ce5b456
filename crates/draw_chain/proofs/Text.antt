-- The cases of a chain's text. Assumes nothing.
use mathlib.Core.Path.{◌≡◌, refl}
use mathlib.Core.List.{List, [], ◌++◌}
use Prim.Native.Nat.{ℕ, zero, suc, ◌-◌, ◌≤◌}
use native.Mathlib.Omega.{arith}
use Rattle.rules.specs.Tables.{Tables, piece, piece_total, blank}
use Rattle.rules.specs.Bytes.{decode}
use Rattle.layout.specs.declared.Shape.{Shape}
use Rattle.tables.specs.Shape.{Shaped}
use lib.ListN.{get_or-eq_default}
use Rattle.rules.specs.Chain.{walk}
use Rattle.chain.proofs.Links.{walk_first, walk_none, length_none, length_empty, length_first}
use Rattle.page.proofs.Ink.{inks}
use Rattle.tables.proofs.Laws.{whole, total_pieces}
use Rattle.draw_chain.specs.Text.{piece_text, joined_text, rest_text, chain_text}

-- ---- a chain

module _ (T : Tables) where
  -- no piece is allowed any more
  pub rest_none : (k n : ℕ) → k ≡ 0 → rest_text T (walk k T n) ≡ []
  unfolding walk rest_text
  rest_none zero n h = refl
  rest_none (suc k) n h = absurd (omega arith)

  -- the chain ends
  pub rest_end : (k n : ℕ) → n ≡ 0 → rest_text T (walk k T n) ≡ []
  unfolding rest_text
  rest_end k n h = rw (h, walk_none)

  -- a further piece, and the pieces behind it
  pub rest_on : (k n : ℕ) → (k ≡ 0 → ⊥) → (n ≡ 0 → ⊥) → rest_text T (walk k T n) ≡ joined_text (n - 1) (piece T (n - 1)) ++ rest_text T (walk (k - 1) T (piece T (n - 1)).next)
  unfolding rest_text
  rest_on k n h i = rw (walk_first k n T h i)

  -- no piece is allowed
  pub chain_none : (k n : ℕ) → k ≡ 0 → chain_text T (walk k T n) ≡ []
  unfolding walk chain_text
  chain_none zero n h = refl
  chain_none (suc k) n h = absurd (omega arith)

  -- the chain is empty
  pub chain_end : (k n : ℕ) → n ≡ 0 → chain_text T (walk k T n) ≡ []
  unfolding chain_text
  chain_end k n h = rw (h, walk_none)

  -- the first piece, and the pieces behind it
  pub chain_on : (k n : ℕ) → (k ≡ 0 → ⊥) → (n ≡ 0 → ⊥) → chain_text T (walk k T n) ≡ piece_text (n - 1) (piece T (n - 1)) ++ rest_text T (walk (k - 1) T (piece T (n - 1)).next)
  unfolding chain_text
  chain_on k n h i = rw (walk_first k n T h i)

-- a pool's tables have as many pieces as its shape says, and blank ones past them
module _ {p : List ℕ} {h : Shape} (is : Shaped p h) where
  pub piece_count : piece_total (decode p) ≡ h.pieces
  piece_count = total_pieces (whole is)

  pub piece_past : (d : ℕ) → h.pieces ≤ d → piece (decode p) d ≡ blank
  piece_past d l = get_or-eq_default (decode p).pieces blank (omega (arith, piece_count))

-- what the search is given of chains
pub ruleset drawing = (inks, rest_none, rest_end, rest_on, chain_none, chain_end, chain_on, length_none, length_empty, length_first)
