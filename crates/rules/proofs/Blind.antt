-- The recount reads slips, nexts and pieces' buffers, and no stored count: of any tables, sound or not. Assumes nothing.
use mathlib.Core.Path.{◌≡◌, refl, sym, ap, ◌∙◌}
use mathlib.Core.Bool.{◌&&◌, not}
use mathlib.Core.List.{List, ◌∷◌}
use Prim.Native.Nat.{ℕ, zero, suc, ◌+◌, ◌<◌, pred}
use native.Mathlib.Decide.{dec_lt}
use native.Mathlib.Omega.{arith}
use lib.ListN.{length, get_or, get_or-eq_default}
use lib.Dec.{eqb}
use Rattle.rules.specs.Basics.{bit, sum_to, any_to, table, member}
use Rattle.rules.specs.Tables.{Piece, Tables, blank, piece, head_of, piece_total, buffer_total, with_count, with_both}
use Rattle.rules.specs.Chain.{walk, chain}
use Rattle.rules.specs.Sound.{leads, heads}
use Rattle.rules.specs.Rule.{spare}
use Rattle.rules.specs.Recount.{reached, references, holders, counted_by, recounted, leaves, Blind}
use Rattle.rules.proofs.Bytes.{length_table, get_d_table, table_same}

-- ---- tables with the same slips, nexts and pieces' buffers, and any counts

pub record Alike (T T' : Tables) : Type 0 where
  pub slips : T.slips ≡ T'.slips
  pub pieces : piece_total T ≡ piece_total T'
  pub buffers : buffer_total T ≡ buffer_total T'
  pub next : (d : ℕ) → (piece T d).next ≡ (piece T' d).next
  pub on : (d : ℕ) → (piece T d).buffer ≡ (piece T' d).buffer

module _ {T T' : Tables} (a : Alike T T') where
  walk_alike : (k n : ℕ) → walk k T n ≡ walk k T' n
  unfolding walk
  walk_alike zero n = refl
  walk_alike (suc k) zero = refl
  walk_alike (suc k) (suc d) = ap (λ (l : List ℕ). d ∷ l) (walk_alike k (piece T d).next ∙ ap (walk k T') (a.next d))

  chain_alike : (s : ℕ) → chain T s ≡ chain T' s
  chain_alike s = walk_alike (piece_total T) (head_of T s) ∙ (λ i. walk (a.pieces i) T' (pred (get_or (a.slips i) s 0)))

  reached_alike : (d : ℕ) → reached T d ≡ reached T' d
  unfolding reached
  reached_alike d = λ i. any_to (length (a.slips i)) (λ s. member d (chain_alike s i))

  pub references_alike : (d : ℕ) → references T d ≡ references T' d
  unfolding references heads
  references_alike d =
      λ i. sum_to (length (a.slips i)) (λ s. bit (leads (pred (get_or (a.slips i) s 0)) d))
      + sum_to (a.pieces i) (λ c. bit (reached_alike c i && leads (a.next c i) d))

  pub holders_alike : (b : ℕ) → holders T b ≡ holders T' b
  unfolding holders
  holders_alike b = λ i. sum_to (a.pieces i) (λ c. bit (reached_alike c i && eqb (a.on c i) b))

  -- what is left goes by the serials too
  leaves_alike : T.serials ≡ T'.serials → leaves T ≡ leaves T'
  unfolding leaves
  leaves_alike e =
      λ i. spare (sum_to (length (a.slips i)) (λ s. bit (eqb (get_or (a.slips i) s 0) 0 && not (eqb (get_or (e i) s 0) 65535))))
      (sum_to (a.pieces i) (λ d. bit (not (reached_alike d i))))
      (sum_to (a.buffers i) (λ b. bit (eqb (holders_alike b i) 0)))

-- ---- other counts

module _ (T : Tables) (f g : ℕ → ℕ) where
  entry_within : (d : ℕ) → d < piece_total T → piece (counted_by T f g) d ≡ with_count (piece T d) (f d)
  entry_within d h = get_d_table (piece_total T) (λ e. with_count (piece T e) (f e)) d blank h

  -- a part of a piece that is not its count is the same
  part_same : {A : Type 0} (part : Piece → A) → ((p : Piece) (n : ℕ) → part (with_count p n) ≡ part p) → (d : ℕ)
      → part (piece (counted_by T f g) d) ≡ part (piece T d)
  part_same part h d =
      let ps = table (piece_total T) (λ e. with_count (piece T e) (f e)) in
      elim (dec_lt d (piece_total T)) [
        | yes l ↦ ap part (entry_within d l) ∙ h (piece T d) (f d)
        | no l ↦
            ap part (get_or-eq_default ps blank {n = d} (omega (arith, length_table (piece_total T) (λ e. with_count (piece T e) (f e)))))
            ∙ ap part (sym (get_or-eq_default T.pieces blank {n = d} (omega arith)))
      ]

  counted_alike : Alike (counted_by T f g) T
  counted_alike = record {
    slips = refl;
    pieces = length_table (piece_total T) (λ e. with_count (piece T e) (f e));
    buffers = length_table (buffer_total T) g;
    next = part_same (λ p. p.next) (λ p n. refl);
    on = part_same (λ p. p.buffer) (λ p n. refl);
  }

  pub blind : Blind T f g
  blind = record {
    piece_count = λ d h. ap (λ (p : Piece). p.count) (entry_within d h);
    buffer_count_lem = λ b h. get_d_table (buffer_total T) g b 0 h;
    same_reached = reached_alike counted_alike;
    same_references = references_alike counted_alike;
    same_holders = holders_alike counted_alike;
    same_leaves = leaves_alike counted_alike refl;
  }

-- so the recounted tables are the same
pub recounted_blind : (T : Tables) (f g : ℕ → ℕ) → recounted (counted_by T f g) ≡ recounted T
unfolding recounted
recounted_blind T f g =
    let T' = counted_by T f g in
    let P = piece_total T in
    let e : piece_total T' ≡ P = length_table P (λ d. with_count (piece T d) (f d)) in
    let k : buffer_total T' ≡ buffer_total T = length_table (buffer_total T) g in
    let ps : table (piece_total T') (λ d. with_count (piece T' d) (references T' d)) ≡ table P (λ d. with_count (piece T d) (references T d)) =
    ap (λ n. table n (λ d. with_count (piece T' d) (references T' d))) e
    ∙ table_same P _ _
    (λ d h. part_same T f g (λ p. with_count p (references T' d)) (λ p n. refl) d ∙ ap (with_count (piece T d)) ((blind T f g).same_references d)) in
    let cs : table (buffer_total T') (holders T') ≡ table (buffer_total T) (holders T) =
    ap (λ n. table n (holders T')) k ∙ table_same (buffer_total T) _ _ (λ b _. (blind T f g).same_holders b) in
    λ i. with_both T (ps i) (cs i)
