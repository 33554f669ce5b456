-- What an operation answers: the first refusal whose cause is there, or its rule. Assumes nothing.
use mathlib.Core.Path.{◌≡◌, sym, ap, ◌∙◌}
use mathlib.Core.List.{List, []}
use Prim.Native.Nat.{ℕ, ◌+◌, ◌≤◌, ◌<◌}
use native.Mathlib.Omega.{arith}
use lib.ListN.{length}
use lib.Dec.{eqb, eqb→eq, ltb, ltb→lt}
use Rattle.kinds.specs.declared.SlipState.{SlipState}
use Rattle.kinds.specs.declared.Refusal.{Refusal}
use Rattle.kinds.specs.declared.Refusal.TheVariants.{Slips, Pieces, Buffers}
use Rattle.kinds.specs.Outcome.{Outcome}
use Rattle.std.specs.Prelude.{Ok}
use Rattle.kinds.specs.Refusal.{refusal_code}
use Rattle.rules.specs.Basics.{Is}
use Rattle.rules.specs.Bytes.{decode, encode}
use Rattle.rules.specs.Chain.{State}
use Rattle.rules.specs.Sound.{Lent}
use Rattle.rules.specs.Rule.{Judged, ◌⇐◌, first_code, Name, unnamed, Wants, want, Spare, room, full, alters, code_in, no_view}
use Rattle.rules.specs.Step.{Operation, rule, lent_out, refused, state_in, done, perform}
use Rattle.rules.proofs.Logic.{if_T, if_F, eq→eqb}
use Rattle.rules.proofs.Codes.{refusal_pos, first_append, first_no, first_none, none_full, named, full_facts}
use Rattle.rules.proofs.Bytes.{AllBytes}
use Rattle.rules.proofs.Step.{perform_done, perform_no}
use Rattle.layout.specs.declared.Shape.{Shape}
use Rattle.tables.specs.Shape.{Shaped, Holds}
use Rattle.tables.proofs.Laws.{whole, total_slips, fits_decode}
use Rattle.answer.specs.Result.{result_of}

-- ---- any operation

module _ (o : Operation) (m : Lent) where
  -- a refusal that is given
  pub perform_first : (r : Refusal) → first_code (rule o (state_in m)).judged ≡ refusal_code r → refused (refusal_code r) m (lent_out o) ≡ perform o m
  perform_first r e =
      let js = (rule o (state_in m)).judged in
      let is : code_in (rule o (state_in m)) (decode m.pool) ≡ refusal_code r =
      first_append js _ ∙ if_F (eqb (first_code js) 0) _ (first_code js) (λ t. omega (arith, eqb→eq (first_code js) 0 t, refusal_pos r)) ∙ e in
      sym (perform_no o m (λ z. omega (arith, refusal_pos r)) ∙ ap (λ c. refused c m (lent_out o)) is)

  -- none is given, and nothing new is wanted
  pub perform_none : (rule o (state_in m)).wants ≡ want 0 0 0 → first_code (rule o (state_in m)).judged ≡ 0 → done (rule o (state_in m)) ≡ perform o m
  perform_none w e =
      let js = (rule o (state_in m)).judged in
      let T = decode m.pool in
      sym (perform_done o m (first_append js _ ∙ if_T (eqb (first_code js) 0) _ (first_code js) (eq→eqb _ 0 e) ∙ ap (λ x. first_code (full x (room T))) w ∙ none_full (room T)))

-- ---- room, where no earlier refusal is given

module _ (o : Operation) (m : Lent) (early : first_code (rule o (state_in m)).judged ≡ 0) where
  -- what is wanted, and what there is
  abbrev w : Wants
  w = (rule o (state_in m)).wants

  abbrev r : Spare
  r = room (decode m.pool)

  -- the pieces that are there: those free, and those given back first
  abbrev there : ℕ
  there = length w.back + r.pieces

  code_full : code_in (rule o (state_in m)) (decode m.pool) ≡ first_code (full w r)
  code_full = let js = (rule o (state_in m)).judged in first_append js _ ∙ if_T (eqb (first_code js) 0) _ (first_code js) (eq→eqb _ 0 early)

  perform_full : (x : Refusal) → first_code (full w r) ≡ refusal_code x → refused (refusal_code x) m (lent_out o) ≡ perform o m
  perform_full x e =
      let is : code_in (rule o (state_in m)) (decode m.pool) ≡ refusal_code x = code_full ∙ e in
      sym (perform_no o m (λ z. omega (arith, refusal_pos x)) ∙ ap (λ c. refused c m (lent_out o)) is)

  -- too few vacant slips
  pub perform_slips : r.slips < w.slips → refused (refusal_code Slips) m (lent_out o) ≡ perform o m
  perform_slips l = perform_full Slips ((full_facts w r).slips.1 l)

  module _ (enough : w.slips ≤ r.slips) where
    -- too few free pieces
    pub perform_pieces : there < w.pieces → refused (refusal_code Pieces) m (lent_out o) ≡ perform o m
    perform_pieces l = perform_full Pieces ((full_facts w r).pieces.1 (enough, l))

    module _ (more : w.pieces ≤ there) where
      -- too few free buffers
      pub perform_buffers : r.buffers < w.buffers → refused (refusal_code Buffers) m (lent_out o) ≡ perform o m
      perform_buffers l = perform_full Buffers ((full_facts w r).buffers.1 (enough, more, l))

      -- enough of each
      pub perform_all : w.buffers ≤ r.buffers → done (rule o (state_in m)) ≡ perform o m
      perform_all most =
          sym (perform_done o m
          (code_full ∙ first_no (Slips ⇐ ltb r.slips w.slips) _ (λ t. omega (arith, ltb→lt r.slips w.slips t))
          ∙ first_no (Pieces ⇐ ltb there w.pieces) _ (λ t. omega (arith, ltb→lt there w.pieces t))
          ∙ first_no (Buffers ⇐ ltb r.buffers w.buffers) [] (λ t. omega (arith, ltb→lt r.buffers w.buffers t)) ∙ first_none))

-- ---- what an operation that is done leaves: the bytes of the rule's tables, and its storage

pub changed : {a : Outcome} {x : SlipState} {n : ℕ} {p st : List ℕ} {h : Shape} (js : List Judged) (w : Wants) (k : ℕ) (S : State) → a ≡ Ok (record { state = x; number = n }) → n ≡ k
    → AllBytes p → Holds p h S.tables → st ≡ S.storage → result_of a p st [] no_view ≡ done (alters js w k S)
unfolding done
changed {p = p} {st} js w k S a n b is e =
    let q : p ≡ encode S.tables = sym (fits_decode p b is.shaped.fits) ∙ ap encode is.is in
    ap (λ (o : Outcome). result_of o p st [] no_view) a ∙ (λ i. record { code = 0; number = n i; pool = q i; storage = e i; output = []; view = no_view })

-- ---- a named slip is one of the pool's

pub named_below : {p : List ℕ} {h : Shape} → Shaped p h → (x : Name) → (Is (unnamed (decode p) x) → ⊥) → x.slip < h.slips
named_below {p} o x u = omega (arith, (named (decode p) x u).0, total_slips (whole o))
