-- What append answers and leaves: the rule's result. Assumes nothing.
use mathlib.Core.Path.{◌≡◌, refl, sym, ap, ◌∙◌}
use mathlib.Core.Logic.{⊎_elim}
use mathlib.Core.Bool.{◌||◌}
use mathlib.Core.List.{List, []}
use Prim.Native.Nat.{ℕ, ◌+◌, ◌≤◌, ◌<◌}
use native.Mathlib.Omega.{arith}
use lib.ListN.{length}
use lib.Dec.{eqb, eqb→eq}
use Rattle.kinds.specs.declared.SlipState.{SlipState}
use Rattle.kinds.specs.declared.Refusal.TheVariants.{Slip, Same, Pieces}
use Rattle.kinds.specs.declared.Step.{Step}
use Rattle.std.specs.Prelude.{Ok, Err}
use Rattle.rules.specs.Basics.{Is, whether◌then◌else◌}
use Rattle.rules.specs.Tables.{Tables, slip, head_of, vacant, set_slip, aged}
use Rattle.rules.specs.Bytes.{decode}
use Rattle.rules.specs.Chain.{State, with_tables}
use Rattle.rules.specs.Sound.{lent}
use Rattle.rules.specs.Room.{free_pieces}
use Rattle.rules.specs.Rule.{◌⇐◌, first_code, Name, unnamed, want, no_view}
use Rattle.rules.specs.Append.{not_own, one_empty, joined, appended, append_after}
use Rattle.rules.specs.Step.{Append, rule, state_in, perform}
use Rattle.rules.proofs.Logic.{if_T, if_F, eq→eqb, or_left, or_right, or_cases}
use Rattle.rules.proofs.Moves.{SoundNow}
use Rattle.rules.proofs.Codes.{first_yes, first_no, first_none, named}
use Rattle.rules.proofs.Append.{joined_is}
use Rattle.rules.proofs.Bytes.{AllBytes}
use Rattle.layout.specs.declared.Shape.{Shape}
use Rattle.tables.specs.Shape.{Holds}
use Rattle.tables.proofs.Laws.{whole, onward, total_pieces}
use Rattle.chain.specs.Opened.{Opened}
use Rattle.chain.specs.Enter.{Entered}
use Rattle.chain.proofs.Links.{link_below}
use Rattle.answer.specs.Result.{result_of}
use Rattle.answer.proofs.Perform.{perform_first, perform_pieces, perform_all, changed}

-- ---- what the rule leaves

module _ (S : State) (a b : ℕ) where
  -- an empty a takes b's head
  after_first : head_of S.tables a ≡ 0 → with_tables S (set_slip (set_slip S.tables b vacant) a (slip S.tables b)) ≡ appended a b S
  unfolding appended
  after_first z = sym (if_T (eqb (head_of S.tables a) 0) _ _ (eq→eqb _ 0 z))

  module _ (some : head_of S.tables a ≡ 0 → ⊥) where
    -- with an empty b it stays
    after_second : head_of S.tables b ≡ 0 → with_tables S (set_slip S.tables b vacant) ≡ appended a b S
    unfolding appended
    after_second z =
        sym (if_F (eqb (head_of S.tables a) 0) _ _ (λ t. some (eqb→eq _ 0 t)) ∙ if_T (eqb (head_of S.tables b) 0) _ _ (eq→eqb _ 0 z))

    -- else the two are joined
    after_joined : (head_of S.tables b ≡ 0 → ⊥) → joined a b S ≡ appended a b S
    unfolding appended
    after_joined more =
        sym (if_F (eqb (head_of S.tables a) 0) _ _ (λ t. some (eqb→eq _ 0 t)) ∙ if_F (eqb (head_of S.tables b) 0) _ _ (λ t. more (eqb→eq _ 0 t)))

-- ---- the answers

module _ (p st : List ℕ) (x y : Name) where
  -- no slip has one of the names
  pub append_slip : Is (unnamed (decode p) x || unnamed (decode p) y) → result_of (Err Slip) p st [] no_view ≡ perform (Append x y) (lent p st)
  unfolding rule
  append_slip u = perform_first (Append x y) (lent p st) Slip (first_yes (Slip ⇐ (unnamed (decode p) x || unnamed (decode p) y)) _ u)

  module _ (u : Is (unnamed (decode p) x) → ⊥) (v : Is (unnamed (decode p) y) → ⊥) where
    -- neither refusal of a slip has a cause
    both : Is (unnamed (decode p) x || unnamed (decode p) y) → ⊥
    both t = ⊎_elim u v (or_cases (unnamed (decode p) x) (unnamed (decode p) y) t)

    -- one slip named twice
    pub append_same : x.slip ≡ y.slip → result_of (Err Same) p st [] no_view ≡ perform (Append x y) (lent p st)
    unfolding rule
    append_same e =
        perform_first (Append x y) (lent p st) Same
        (first_no (Slip ⇐ (unnamed (decode p) x || unnamed (decode p) y)) _ both ∙ first_yes (Same ⇐ eqb x.slip y.slip) [] (eq→eqb x.slip y.slip e))

    module _ (apart : x.slip ≡ y.slip → ⊥) where
      abbrev a : ℕ
      a = x.slip

      abbrev b : ℕ
      b = y.slip

      -- none is given before room is judged
      early : first_code (rule (Append x y) (state_in (lent p st))).judged ≡ 0
      unfolding rule
      early =
          first_no (Slip ⇐ (unnamed (decode p) x || unnamed (decode p) y)) _ both
          ∙ first_no (Same ⇐ eqb a b) [] (λ t. apart (eqb→eq a b t)) ∙ first_none

      -- the state that the rule leaves
      left : {o : Step} {z : SlipState} {q : List ℕ} {g : Shape} → (whether one_empty (decode p) a b then 0 else length (not_own (decode p) a)) ≤ length (free_pieces (decode p))
          → (X : State) → X ≡ appended a b (state_in (lent p st)) → X.storage ≡ st → Holds q g (aged X.tables b)
          → o ≡ record { state = z; number = 0 } → AllBytes q → result_of (Ok o) q st [] no_view ≡ perform (Append x y) (lent p st)
      unfolding rule
      left l X e s is d c =
          changed _ (want 0 (whether one_empty (decode p) a b then 0 else length (not_own (decode p) a)) 0) 0 (append_after a b (state_in (lent p st))) (ap Ok d) refl c
          (record { shaped = is.shaped; is = is.is ∙ ap (λ (Y : State). aged Y.tables b) e }) (sym s ∙ ap (λ (Y : State). Y.storage) e)
          ∙ perform_all (Append x y) (lent p st) early (omega arith) (omega (arith, l)) (omega arith)

      -- where either chain is empty no piece is wanted
      none_wanted : Is (one_empty (decode p) a b) → (whether one_empty (decode p) a b then 0 else length (not_own (decode p) a)) ≤ length (free_pieces (decode p))
      none_wanted t = omega (arith, if_T (one_empty (decode p) a b) 0 (length (not_own (decode p) a)) t)

      module _ (some : head_of (decode p) a ≡ 0 → ⊥) (more : head_of (decode p) b ≡ 0 → ⊥) where
        -- where neither is empty, a piece for each that is not own
        others_wanted : (whether one_empty (decode p) a b then 0 else length (not_own (decode p) a)) ≡ length (not_own (decode p) a)
        others_wanted =
            if_F (one_empty (decode p) a b) _ _
            (λ t. ⊎_elim (λ z. some (eqb→eq _ 0 z)) (λ z. more (eqb→eq _ 0 z)) (or_cases (eqb (head_of (decode p) a) 0) (eqb (head_of (decode p) b) 0) t))

        -- too few free pieces
        pub append_pieces : length (free_pieces (decode p)) < length (not_own (decode p) a) → result_of (Err Pieces) p st [] no_view ≡ perform (Append x y) (lent p st)
        unfolding rule
        append_pieces l = perform_pieces (Append x y) (lent p st) early (omega arith) (omega (arith, others_wanted))

        -- the two are joined
        pub append_joined : {o : Step} {w : SlipState} {q : List ℕ} {g : Shape} → SoundNow (decode p) → length (not_own (decode p) a) ≤ length (free_pieces (decode p))
            → Holds q g (aged (joined a b (state_in (lent p st))).tables b)
            → o ≡ record { state = w; number = 0 } → AllBytes q → result_of (Ok o) q st [] no_view ≡ perform (Append x y) (lent p st)
        append_joined h l is =
            let S = state_in (lent p st) in
            let same = ap (λ (X : State). X.storage) (joined_is a b S apart (named (decode p) x u).0 (named (decode p) y v).0 h) in
            left (omega (arith, others_wanted)) _ (after_joined S a b some more) same is

-- the link of a slip that is looked up fits an entry
pub tail_fits : {p : List ℕ} {h : Shape} {x : Name} {n : ℕ} → Opened p h → Entered (decode p) h x n → n + 1 < 65536
tail_fits {p} {n = n} o w = omega (arith, link_below (decode p) n o.sound w.good, total_pieces (whole o.shaped), o.few_pieces_lem)

-- two slips that are looked up, and the links that they hold
module _ {p : List ℕ} {h : Shape} {x y : Name} {head tail : ℕ} (o : Opened p h) (u : Entered (decode p) h x head) (v : Entered (decode p) h y tail) (apart : x.slip ≡ y.slip → ⊥) where
  abbrev T : Tables
  T = decode p

  -- a is empty, and takes the chain of b
  pub append_first : {q r s : List ℕ} {o : Step} {w : SlipState} → head ≡ 0
      → Holds q h (set_slip T y.slip vacant) → Holds r h (set_slip (decode q) x.slip (tail + 1)) → Holds s h (aged (decode r) y.slip)
      → o ≡ record { state = w; number = 0 } → AllBytes s → (st : List ℕ) → result_of (Ok o) s st [] no_view ≡ perform (Append x y) (lent p st)
  append_first {q} z was moved is d c st =
      let S = state_in (lent p st) in
      let none : head_of T x.slip ≡ 0 = omega (arith, u.link_is) in
      let e : tail + 1 ≡ slip T y.slip = omega (arith, v.entry_is) in
      let all = onward (onward was (λ (U : Tables). set_slip U x.slip (tail + 1)) moved) (λ (U : Tables). aged U y.slip) is in
      left p st x y u.named v.named apart (none_wanted p st x y u.named v.named apart (or_left (eqb (head_of T x.slip) 0) _ (eq→eqb _ 0 none))) _ (after_first S x.slip y.slip none) refl
      (rw e at all) d c

  -- b is empty, and a stays
  pub append_second : {q r : List ℕ} {o : Step} {w : SlipState} → (head ≡ 0 → ⊥) → tail ≡ 0
      → Holds q h (set_slip T y.slip vacant) → Holds r h (aged (decode q) y.slip)
      → o ≡ record { state = w; number = 0 } → AllBytes r → (st : List ℕ) → result_of (Ok o) r st [] no_view ≡ perform (Append x y) (lent p st)
  append_second some z was is d c st =
      let S = state_in (lent p st) in
      let none : head_of T y.slip ≡ 0 = omega (arith, v.link_is) in
      left p st x y u.named v.named apart (none_wanted p st x y u.named v.named apart (or_right (eqb (head_of T x.slip) 0) _ (eq→eqb _ 0 none)))
      _ (after_second S x.slip y.slip (λ k. some (u.link_is ∙ k)) none) refl (onward was (λ (U : Tables). aged U y.slip) is) d c
