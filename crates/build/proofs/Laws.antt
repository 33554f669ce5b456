-- A new piece and a further reference, store by store. Assumes nothing.
use mathlib.Core.Path.{◌≡◌, refl, subst}
use mathlib.Core.Bool.{◌&&◌}
use mathlib.Core.List.{List, [], ◌∷◌}
use Prim.Native.Nat.{ℕ, zero, suc, ◌+◌, ◌-◌, ◌≤◌, ◌<◌}
use native.Mathlib.Omega.{arith}
use lib.ListN.{length}
use lib.Dec.{eqb}
use Rattle.rules.specs.Basics.{Is}
use Rattle.rules.specs.Tables.{Tables, piece, buffer_count, head_of, slip_total, piece_total}
use Rattle.rules.specs.Bytes.{decode}
use Rattle.rules.specs.Sound.{in_use, leads, heads, lying, link_ok}
use Rattle.rules.proofs.Logic.{bit_one}
use Rattle.rules.proofs.Sums.{sum_to_ones}
use Rattle.rules.proofs.Moves.{SoundWith, hit, lies, links, occ, used_in_range_lem}
use Rattle.rules.proofs.Audit.{tables_now}
use Rattle.layout.specs.declared.Shape.{Shape}
use Rattle.tables.proofs.Laws.{whole, total_slips, total_pieces}
use Rattle.chain.specs.Opened.{Opened}
use Rattle.chain.proofs.Links.{InUse, link_leads}
use Rattle.build.specs.Share.{Sharable}
use Rattle.build.specs.Clone.{Copyable}

-- ---- counts below 65535: at most P pieces lie on a buffer, and at most S + P references lead to a piece besides those held

occ_small : (fl : List ℕ) (d : ℕ) → occ fl d ≤ length fl
occ_small [] d = omega arith
occ_small (n ∷ fl) d = omega (arith, bit_one (leads n d), occ_small fl d)

module _ (T : Tables) {fl : List ℕ} (S : SoundWith fl T) where
  pub buffer_most : (b : ℕ) → buffer_count T b ≤ piece_total T
  unfolding lying
  buffer_most b = omega (arith, S.1.lain b, sum_to_ones (piece_total T) (λ c. lies (piece T c) b) (λ c. bit_one (in_use (piece T c) && eqb (piece T c).buffer b)))

  pub buffer_room : piece_total T < 65535 → (b : ℕ) → buffer_count T b < 65535
  buffer_room l b = omega (arith, buffer_most b)

  pub piece_room : slip_total T + piece_total T + length fl < 65535 → (d : ℕ) → (piece T d).count < 65535
  unfolding heads links
  piece_room l d =
      let h = sum_to_ones (slip_total T) (λ s. hit (head_of T s) d) (λ s. bit_one (leads (head_of T s) d)) in
      let n = sum_to_ones (piece_total T) (λ c. hit (piece T c).next d) (λ c. bit_one (leads (piece T c).next d)) in
      omega (arith, S.1.counted d, occ_small fl d)

  -- a link to no piece, or to a piece in use
  pub sharable : slip_total T + piece_total T + length fl < 65535 → (n : ℕ) → ((d : ℕ) → n ≡ suc d → 0 < (piece T d).count) → Sharable T n
  sharable l zero u = record { inside = omega arith; room = λ d e. piece_room l d }
  sharable l (suc d) u = record { inside = used_in_range_lem T d (u d refl); room = λ e _. piece_room l e }

-- ---- in an opened pool

module _ {p : List ℕ} {h : Shape} (o : Opened p h) where
  -- a buffer's count is at most P, a piece's at most P + S: both can rise
  pub opened_buffer : (b : ℕ) → buffer_count (decode p) b < 65535
  opened_buffer b = buffer_room (decode p) (tables_now (decode p) o.sound) (omega (arith, total_pieces (whole o.shaped), o.few_pieces_lem)) b

  opened_sums : slip_total (decode p) + piece_total (decode p) + 0 < 65535
  opened_sums = omega (arith, total_pieces (whole o.shaped), total_slips (whole o.shaped), o.few_pieces_lem, o.few_slips)

  -- so there can be a reference more to where a good link leads
  pub opened_sharable : (n : ℕ) → Is (link_ok (decode p) n) → Sharable (decode p) n
  opened_sharable n t =
      let T = decode p in
      sharable T (tables_now T o.sound) opened_sums n
      (λ d q. (let e : n - 1 ≡ d = omega arith in subst (λ (i : ℕ). 0 < (piece T i).count) e (link_leads T n o.sound t (omega arith)).used))

  -- and a new piece for what a piece in use has from a place inside it
  pub opened_copyable : (d n : ℕ) → InUse (decode p) d → n < (piece (decode p) d).len → Copyable (decode p) d n
  opened_copyable d n u l = record { below = u.below; inside = l; small = u.most; in_store = u.in_store; room = opened_buffer (piece (decode p) d).buffer }
