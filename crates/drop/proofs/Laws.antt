-- What drop answers and leaves: the rule's result. Assumes nothing.
use mathlib.Core.Path.{◌≡◌, refl, sym, ap, ◌∙◌}
use mathlib.Core.Bool.{true}
use mathlib.Core.List.{List, [], ◌∷◌}
use Prim.Native.Nat.{ℕ, ◌+◌, ◌≤◌, ◌<◌}
use native.Mathlib.Omega.{arith}
use lib.ListN.{length}
use lib.Dec.{eqb, eqb→eq, ltb}
use Rattle.std.specs.Prelude.{Ok, Err}
use Rattle.kinds.specs.declared.SlipState.{SlipState}
use Rattle.kinds.specs.declared.Step.{Step}
use Rattle.kinds.specs.declared.Refusal.TheVariants.{Slip, Range, Pieces}
use Rattle.rules.specs.Basics.{Is}
use Rattle.rules.specs.Tables.{Tables}
use Rattle.rules.specs.Bytes.{decode}
use Rattle.rules.specs.Chain.{State, Stretch, chain, length_of}
use Rattle.rules.specs.Sound.{lent}
use Rattle.rules.specs.Room.{free_pieces, free_from}
use Rattle.rules.specs.Build.{Plan, built, built_link, under_freed}
use Rattle.rules.specs.Rule.{◌⇐◌, first_code, Name, unnamed, giving, no_view}
use Rattle.rules.specs.Drop.{dropped, drop_back, drop_after}
use Rattle.rules.specs.Step.{Drop, rule, state_in, perform}
use Rattle.rules.proofs.Logic.{if_T, if_F, eq→eqb}
use Rattle.rules.proofs.Codes.{first_yes, first_no, first_none}
use Rattle.rules.proofs.Drop.{drop_none}
use Rattle.rules.proofs.Bytes.{AllBytes}
use Rattle.layout.specs.declared.Shape.{Shape}
use Rattle.tables.specs.Shape.{Shaped, Holds}
use Rattle.rest.specs.declared.Tail.{Tail}
use Rattle.rest.specs.Rest.{new_of, Stays}
use Rattle.rest.proofs.Dropped.{more_dropped, next_dropped}
use Rattle.rest.proofs.Freed.{emptied_to}
use Rattle.answer.specs.Result.{result_of}
use Rattle.answer.proofs.Perform.{perform_first, perform_pieces, perform_all, changed}

-- ---- what stays, from what the code has

-- nothing new is to be made where as many pieces are wanted
pub no_stretch : (xs : List Stretch) → length xs ≡ 0 → xs ≡ []
no_stretch [] e = refl
no_stretch (x ∷ xs) e = absurd (omega arith)

-- the new piece is made of the pieces then free
pub made_dropped : (T : Tables) (s n i : ℕ) {p : Plan} {t : Tail} {r : ℕ} {h : Shape} {q : List ℕ} → dropped T s n ≡ p → Stays t p
    → let E = emptied_to (dropped T s n) s in
    free_from E i ≡ free_pieces E → Holds q h (built E (free_from E i) (new_of t) t.next) × (r ≡ built_link (free_from E i) (new_of t) t.next)
    → Holds q h (built E (free_pieces E) (dropped T s n).more (dropped T s n).tail) × (r ≡ built_link (free_pieces E) (dropped T s n).more (dropped T s n).tail)
made_dropped T s n i e is f (was, l) =
    let E = emptied_to (dropped T s n) s in
    let more = more_dropped T s n e is in
    let next = next_dropped T s n e is in (
      record { shaped = was.shaped; is = was.is ∙ (λ j. built E (f j) (more j) (next j)) },
      l ∙ (λ j. built_link (f j) (more j) (next j)),
    )

-- ---- the answers

module _ (p st : List ℕ) (x : Name) (n : ℕ) where
  abbrev s : ℕ
  s = x.slip

  -- a slip past the last, or vacant, or of another serial
  pub drop_slip : Is (unnamed (decode p) x) → result_of (Err Slip) p st [] no_view ≡ perform (Drop x n) (lent p st)
  unfolding rule
  drop_slip u = perform_first (Drop x n) (lent p st) Slip (first_yes (Slip ⇐ unnamed (decode p) x) _ u)

  module _ (u : Is (unnamed (decode p) x) → ⊥) where
    -- more bytes than the chain has
    pub drop_range : Is (ltb (length_of (decode p) s) n) → result_of (Err Range) p st [] no_view ≡ perform (Drop x n) (lent p st)
    unfolding rule
    drop_range t = perform_first (Drop x n) (lent p st) Range (first_no (Slip ⇐ unnamed (decode p) x) _ u ∙ first_yes (Range ⇐ ltb (length_of (decode p) s) n) _ t)

    module _ (enough : Is (ltb (length_of (decode p) s) n) → ⊥) where
      -- no refusal comes before room
      early : first_code (rule (Drop x n) (state_in (lent p st))).judged ≡ 0
      unfolding rule
      early = first_no (Slip ⇐ unnamed (decode p) x) _ u ∙ first_no (Range ⇐ ltb (length_of (decode p) s) n) _ enough ∙ first_none

      -- no piece for what stays, with those given back
      pub drop_pieces_lem : length (drop_back (decode p) s n) + length (free_pieces (decode p)) < length (dropped (decode p) s n).more → result_of (Err Pieces) p st [] no_view ≡ perform (Drop x n) (lent p st)
      unfolding rule
      drop_pieces_lem l = perform_pieces (Drop x n) (lent p st) early (omega arith) l

      -- no byte goes: nothing changes
      pub drop_nothing : {o : Step} {v : SlipState} {h : Shape} → n ≡ 0 → o ≡ record { state = v; number = 0 } → AllBytes p → Shaped p h
          → result_of (Ok o) p st [] no_view ≡ perform (Drop x n) (lent p st)
      unfolding rule drop_after
      drop_nothing z a b is =
          let T = decode p in
          let S = state_in (lent p st) in
          let e : drop_after s n S ≡ S = if_T (eqb n 0) _ _ (eq→eqb n 0 z) in
          changed _ (giving (drop_back T s n) (length (dropped T s n).more) 0) 0 (drop_after s n S) (ap Ok a) refl b
          (record { shaped = is; is = sym (ap (λ (X : State). X.tables) e) }) (sym (ap (λ (X : State). X.storage) e))
          ∙ perform_all (Drop x n) (lent p st) early (omega arith) (omega (arith, ap length (drop_none T true (chain T s) n z))) (omega arith)

      -- what stays is under the slip
      pub drop_done : {o : Step} {v : SlipState} {q sq : List ℕ} {h : Shape} → (n ≡ 0 → ⊥)
          → length (dropped (decode p) s n).more ≤ length (drop_back (decode p) s n) + length (free_pieces (decode p))
          → o ≡ record { state = v; number = 0 } → AllBytes q
          → Holds q h (under_freed (state_in (lent p st)) (dropped (decode p) s n) s).tables
          → sq ≡ (under_freed (state_in (lent p st)) (dropped (decode p) s n) s).storage
          → result_of (Ok o) q sq [] no_view ≡ perform (Drop x n) (lent p st)
      unfolding rule drop_after
      drop_done i l a b now cleans =
          let T = decode p in
          let S = state_in (lent p st) in
          let r = under_freed S (dropped T s n) s in
          let e : drop_after s n S ≡ r = if_F (eqb n 0) _ _ (λ t. i (eqb→eq n 0 t)) in
          changed _ (giving (drop_back T s n) (length (dropped T s n).more) 0) 0 (drop_after s n S) (ap Ok a) refl b
          (record { shaped = now.shaped; is = now.is ∙ sym (ap (λ (X : State). X.tables) e) })
          (cleans ∙ sym (ap (λ (X : State). X.storage) e))
          ∙ perform_all (Drop x n) (lent p st) early (omega arith) l (omega arith)
