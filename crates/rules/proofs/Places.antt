-- Where in a pool's bytes each entry stands, in numbers written out. Assumes nothing.
use mathlib.Core.Path.{◌≡◌, refl, ap, ◌∙◌}
use mathlib.Core.Logic.{◌↔◌}
use mathlib.Core.Bool.{◌&&◌}
use mathlib.Core.List.{List, [], ◌∷◌}
use Prim.Native.Nat.{ℕ, ◌+◌, ◌*◌, ◌<◌}
use native.Mathlib.Nat.{mod-eq_of_lt}
use native.Mathlib.Omega.{arith}
use lib.ListN.{length}
use Rattle.word.specs.Word.{get16}
use Rattle.kinds.proofs.Sizes.{start_one}
use Rattle.rules.specs.Basics.{Is}
use Rattle.rules.specs.Layout.{pool_length, storage_length}
use Rattle.rules.specs.Tables.{Piece, blank, slip, serial, piece, buffer_count}
use Rattle.rules.specs.Bytes.{version_in, buffers_in, pieces_in, slips_in, decode}
use Rattle.rules.specs.Sound.{Lent, marked, counts_ok, lengths_ok, headed, is_header_ok}
use Rattle.rules.specs.Open.{openable}
use Rattle.rules.specs.Step.{Open, step}
use Rattle.rules.specs.Places.{CountsAt, HeaderAt}
use Rattle.rules.specs.Causes.{Fitting}
use Rattle.rules.proofs.Logic.{and_intro, and_parts}
use Rattle.rules.proofs.Bytes.{and_is, eqb_is, AllBytes, get16_small, get_d_table, counts_facts, counts_test}
use Rattle.rules.proofs.Step.{open_code}

module _ (p : List ℕ) where
  -- the header's numbers
  pub header_at : (version_in p ≡ get16 p 3) × (buffers_in p ≡ get16 p 5) × (pieces_in p ≡ get16 p 7) × (slips_in p ≡ get16 p 9)
  header_at = (refl, refl, refl, refl)

  -- slip s
  pub slip_at_lem : (s : ℕ) → s < slips_in p → slip (decode p) s ≡ get16 p (11 + 4 * s)
  unfolding decode
  slip_at_lem s l = get_d_table (slips_in p) _ s 0 l

  -- its serial, where p has bytes
  pub serial_at_lem : (s : ℕ) → s < slips_in p → AllBytes p → serial (decode p) s ≡ get16 p (11 + 4 * s + 2)
  unfolding decode
  serial_at_lem s l byte = get_d_table (slips_in p) _ s 0 l ∙ mod-eq_of_lt (get16_small p (11 + 4 * s + 2) byte)

  -- the numbers of piece d
  pub piece_at_lem : (d : ℕ) → d < pieces_in p
      → ((piece (decode p) d).count ≡ get16 p (11 + 4 * slips_in p + 10 * d))
      × ((piece (decode p) d).buffer ≡ get16 p (11 + 4 * slips_in p + 10 * d + 2))
      × ((piece (decode p) d).offset ≡ get16 p (11 + 4 * slips_in p + 10 * d + 4))
      × ((piece (decode p) d).len ≡ get16 p (11 + 4 * slips_in p + 10 * d + 6))
      × ((piece (decode p) d).next ≡ get16 p (11 + 4 * slips_in p + 10 * d + 8))
  unfolding decode
  piece_at_lem d l =
      let e = get_d_table (pieces_in p) _ d blank l in (
        ap (λ (x : Piece). x.count) e,
        ap (λ (x : Piece). x.buffer) e,
        ap (λ (x : Piece). x.offset) e,
        ap (λ (x : Piece). x.len) e,
        ap (λ (x : Piece). x.next) e,
      )

  -- the count of buffer b
  pub count_at_lem : (b : ℕ) → b < buffers_in p → buffer_count (decode p) b ≡ get16 p (11 + 4 * slips_in p + 10 * pieces_in p + 2 * b)
  unfolding decode
  count_at_lem b l = get_d_table (buffers_in p) _ b 0 l

-- ---- which bytes are a pool's

-- a pool of B buffers, P pieces and S slips has this length, and storage that one
pub lengths_at : (B P S : ℕ) → (pool_length B P S ≡ 11 + 4 * S + 10 * P + 2 * B) × (storage_length (B ∷ []) B ≡ 512 * B)
lengths_at B P S = (refl, start_one (B ∷ []) B)

-- counts and lengths pass their tests just where they are these
fits_at : (B P S n k : ℕ) → Is (counts_ok B P S && lengths_ok B P S n k) ↔ CountsAt B P S n k
fits_at B P S n k = (
  λ t. (
      let (c, l) = and_parts (counts_ok B P S) _ t in
      let e = simp (and_is, eqb_is) at l in
      let f = counts_facts B P S c in
      omega (arith, e.0, e.1, start_one (B ∷ []) B)),
  λ f. and_intro (counts_ok B P S) _ (counts_test {B = B} {P = P} {S = S} (omega arith)) (simp (and_is, eqb_is) (omega (arith, start_one (B ∷ []) B))),
)

-- A header is accepted just where its bytes are these.
pub header_exact : (m : Lent) → Is (is_header_ok m) ↔ HeaderAt m.pool (length m.storage)
unfolding is_header_ok headed
header_exact m =
    let p = m.pool in
    let f = fits_at (buffers_in p) (pieces_in p) (slips_in p) (length p) (length m.storage) in (
      λ t. (
          let (a, c) = and_parts (marked p) _ t in
          let k = simp (and_is, eqb_is) at a in
          record { mark_0 = k.0; mark_1 = k.1.0; mark_2 = k.1.1.0; version_2 = k.1.1.1; counts = f.0 c }),
      λ h. and_intro (marked p) _ (simp (and_is, eqb_is) (h.mark_0, (h.mark_1, (h.mark_2, h.version_2)))) (f.1 h.counts),
    )

-- Open is done just where its counts are in range and both lengths are these.
pub open_fits : (B P S : ℕ) (m : Lent) → Is (openable B P S m) ↔ Fitting B P S m
unfolding openable
open_fits B P S m = fits_at B P S (length m.pool) (length m.storage)

pub open_exact : (B P S : ℕ) (m : Lent) → ((step (Open B P S) m).code ≡ 0) ↔ Fitting B P S m
open_exact B P S m =
    let o = open_code B P S m in
    let f = open_fits B P S m in
    (λ e. f.0 (o.0 e), λ h. o.1 (f.1 h))
