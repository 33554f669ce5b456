-- The pieces of a chain by how many follows lead to them from a link. Assumes nothing.
use mathlib.Core.Path.{◌≡◌, refl, sym, ap, ◌∙◌}
use mathlib.Core.List.{List, ◌∷◌}
use Prim.Native.Nat.{ℕ, zero, suc, ◌+◌, ◌-◌, ◌≤◌, ◌<◌}
use native.Mathlib.Numerals.{add-one}
use native.Mathlib.Decide.{ℕ_discrete}
use native.Mathlib.Omega.{arith}
use lib.ListN.{length, drop, length-drop}
use lib.Seq.{drop-drop}
use Rattle.rules.specs.Basics.{Is}
use Rattle.rules.specs.Tables.{Tables, piece}
use Rattle.rules.specs.Chain.{Stretch, follow, stretch}
use Rattle.rules.specs.Sound.{link_ok, SoundTables}
use Rattle.chain.specs.Length.{stretches_from}
use Rattle.chain.proofs.Links.{follow_good, stretches_none, stretches_on}

-- no follow
pub follow_start : (T : Tables) (n : ℕ) → n ≡ follow T 0 n
unfolding follow
follow_start T n = refl

-- one more
pub follow_more : (T : Tables) (k n : ℕ) → (follow T k n ≡ 0 → ⊥) → follow T (suc k) n ≡ (piece T (follow T k n - 1)).next
unfolding follow
follow_more T zero zero h = absurd (h refl)
follow_more T zero (suc d) h = ap (λ (e : ℕ). (piece T e).next) (omega arith)
follow_more T (suc k) zero h = absurd (h refl)
follow_more T (suc k) (suc d) h = follow_more T k (piece T d).next h

module _ (T : Tables) (link : ℕ) (S : SoundTables T) (t : Is (link_ok T link)) where
  abbrev xs : List Stretch
  xs = stretches_from T link

  good : (k : ℕ) → Is (link_ok T (follow T k link))
  good k = follow_good T k link S t

  -- where the stretches from a link are the rest from k on, and there is one, it leads to a piece
  leads : (k : ℕ) → stretches_from T (follow T k link) ≡ drop k xs → k < length xs → follow T k link ≡ 0 → ⊥
  leads k e h z = omega (arith, ap length e, length-drop k xs, ap (λ (j : ℕ). length (stretches_from T j)) z, ap length (stretches_none T))

  -- the stretches from there on are the rest
  rest : (k : ℕ) → k ≤ length xs → stretches_from T (follow T k link) ≡ drop k xs
  unfolding follow
  rest zero h = refl
  rest (suc k) h =
      let e = rest k (omega arith) in
      let some = leads k e h in
      ap (stretches_from T) (follow_more T k link some)
      ∙ sym (ap (drop 1) (stretches_on T (follow T k link) S (good k) some))
      ∙ ap (drop 1) e ∙ drop-drop 1 k xs ∙ ap (λ (j : ℕ). drop j xs) (add-one k)

  module _ (k : ℕ) (h : k < length xs) where
    -- the link leads to a piece in use, the next stretch is its own, and its next is the link behind
    pub reached : follow T k link ≡ 0 → ⊥
    reached = leads k (rest k (omega arith)) h

    pub reached_good : Is (link_ok T (follow T k link))
    reached_good = good k

    pub reached_piece : drop k xs ≡ stretch (piece T (follow T k link - 1)) ∷ stretches_from T (piece T (follow T k link - 1)).next
    reached_piece = sym (rest k (omega arith)) ∙ stretches_on T (follow T k link) S (good k) reached

    pub reached_next : (piece T (follow T k link - 1)).next ≡ follow T (k + 1) link
    reached_next = sym (ap (λ (j : ℕ). follow T j link) (add-one k) ∙ follow_more T k link reached)

  -- behind the last there is none
  pub reached_end : follow T (length xs) link ≡ 0
  reached_end =
      let n = length xs in
      elim (ℕ_discrete (follow T n link) 0) [
        | yes z ↦ z
        | no z ↦ absurd (omega (arith, ap length (rest n (omega arith)), length-drop n xs, ap length (stretches_on T (follow T n link) S (good n) z)))
      ]

-- ---- from a link that may be 0

module _ (T : Tables) (link : ℕ) (S : (link ≡ 0 → ⊥) → SoundTables T) (t : Is (link_ok T link)) where
  -- a record is left only where there is a piece
  pub link_some : {k : ℕ} → k < length (stretches_from T link) → link ≡ 0 → ⊥
  link_some h z = omega (arith, ap (λ (j : ℕ). length (stretches_from T j)) z, ap length (stretches_none T))

  pub link_end : follow T (length (stretches_from T link)) link ≡ 0
  unfolding follow
  link_end = elim (ℕ_discrete link 0) [
    | yes z ↦ ap (λ (j : ℕ). follow T j link) (ap (λ (j : ℕ). length (stretches_from T j)) z ∙ ap length (stretches_none T)) ∙ z
    | no z ↦ reached_end T link (S z) t
  ]
