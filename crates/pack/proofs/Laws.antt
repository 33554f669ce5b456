-- What pack answers and leaves: the rule's result. Assumes nothing.
use mathlib.Core.Path.{◌≡◌, refl, sym, ap, subst, ◌∙◌}
use mathlib.Core.Bool.{true, false}
use mathlib.Core.List.{List, []}
use Prim.Native.Nat.{ℕ, pred, ◌+◌, ◌-◌}
use native.Mathlib.Decide.{ℕ_discrete}
use native.Mathlib.Omega.{arith}
use lib.ListN.{length, take}
use lib.Dec.{eqb, leb}
use borrow.Author.Tests.{eq-eqb, ne_eqb, le-leb, lt-leb, leb-true, leb-false}
use Rattle.std.specs.Prelude.{Ok, Err}
use Rattle.kinds.specs.declared.SlipState.{SlipState}
use Rattle.kinds.specs.declared.Step.{Step}
use Rattle.kinds.specs.declared.Refusal.TheVariants.{Slip, Pieces, Buffers}
use Rattle.rules.specs.Basics.{Is}
use Rattle.rules.specs.Tables.{Tables, piece, head_of, holding, piece_total}
use Rattle.rules.specs.Bytes.{decode}
use Rattle.rules.specs.Chain.{State, Stretch, walk, chain, spans, length_of, contents, state_of}
use Rattle.rules.specs.Sound.{link_ok, SoundTables, lent}
use Rattle.rules.specs.Room.{free_pieces, free_buffers, new_buffers}
use Rattle.rules.specs.Build.{built, built_link, plain, under_old, buffers_for, laid, stored}
use Rattle.rules.specs.Rule.{◌⇐◌, first_code, Name, unnamed, want, no_view}
use Rattle.rules.specs.Pack.{pack_after, pack_wants}
use Rattle.rules.specs.Step.{Pack, rule, state_in, perform}
use Rattle.rules.proofs.Logic.{if_T, if_F}
use Rattle.rules.proofs.Build.{plan_built, plain_planned}
use Rattle.rules.proofs.Room.{free_pieces_lem}
use Rattle.rules.proofs.Audit.{tables_now}
use Rattle.rules.proofs.Codes.{first_yes, first_no, first_none, named}
use Rattle.rules.proofs.Put.{new_good}
use Rattle.rules.proofs.Bytes.{AllBytes}
use Rattle.layout.specs.declared.Shape.{Shape}
use Rattle.tables.specs.Shape.{Shaped, Backs, Holds}
use Rattle.tables.proofs.Laws.{whole, storage_fits}
use Rattle.chain.specs.Opened.{Opened}
use Rattle.chain.proofs.Links.{walk_none, walk_on, walk_less, link_leads, link_below}
use Rattle.room.proofs.Free.{count_most}
use Rattle.answer.specs.Result.{result_of}
use Rattle.answer.proofs.New.{new_link}
use Rattle.answer.proofs.Perform.{perform_first, perform_none, perform_pieces, perform_buffers, perform_all, changed}
use Rattle.release.specs.Release.{Releasable, turned_to, turned_storage}
use Rattle.release.proofs.Laws.{turned_tables}
use Rattle.transfer.proofs.Afresh.{bytes_all}

-- ---- whether a chain has more than one piece

-- it has not where it has no piece, and where its first leads to none
pub walk_one : (T : Tables) (n : ℕ) → SoundTables T → Is (link_ok T n) → (n ≡ 0 → ⊥) → leb (length (walk (piece_total T) T n)) 1 ≡ eqb (piece T (n - 1)).next 0
walk_one T n S t i =
    let m = (piece T (n - 1)).next in
    let l = ap length (walk_on T n S t i) in
    elim (ℕ_discrete m 0) [
      | yes z ↦
          (let r = ap (λ (x : ℕ). length (walk (piece_total T) T x)) z ∙ ap length (walk_none (piece_total T) T) in
          le-leb _ 1 (omega (arith, l, r)) ∙ sym (eq-eqb m 0 z))
      | no z ↦ lt-leb _ 1 (omega (arith, l, walk_less T m S (link_leads T n S t i).onward z)) ∙ sym (ne_eqb m 0 z)
    ]

pub ruleset one_piece = (walk_none, walk_one, link_below)

-- ---- the new pieces

-- no slip or piece holds the first of the new pieces yet
pub new_held : {p q : List ℕ} {h : Shape} {k first : ℕ} (n : ℕ) → let T = decode p in let xs = laid T.stock (new_buffers T k) n in
    Opened p h → k ≡ buffers_for n → Holds q h (built T (free_pieces T) xs 0) × (first ≡ built_link (free_pieces T) xs 0) → Releasable (decode q) (pred (first + 1))
new_held {p} {first = first} n o c was =
    let T = decode p in
    let e : pred (first + 1) ≡ first = omega arith in
    rw (e, was.0.is, was.1, c) (record { others = []; sound = plan_built _ (free_pieces T) (plain_planned T _ (new_good T n) (tables_now T o.sound)) (free_pieces_lem T) })

-- ---- the answers

module _ (p st : List ℕ) (x : Name) where
  abbrev T : Tables
  T = decode p

  abbrev s : ℕ
  s = x.slip

  -- a slip past the last, or vacant, or of another serial
  pub pack_slip : Is (unnamed T x) → result_of (Err Slip) p st [] no_view ≡ perform (Pack x) (lent p st)
  unfolding rule
  pack_slip u = perform_first (Pack x) (lent p st) Slip (first_yes (Slip ⇐ unnamed T x) [] u)

  module _ (u : Is (unnamed T x) → ⊥) where
    -- no refusal is judged before room
    early : first_code (rule (Pack x) (state_in (lent p st))).judged ≡ 0
    unfolding rule
    early = first_no (Slip ⇐ unnamed T x) [] u ∙ first_none

    -- a chain of at most one piece stays
    pub pack_whole : {y : Step} {v : SlipState} {h : Shape} → true ≡ leb (length (chain T s)) 1 → y ≡ record { state = v; number = 0 } → AllBytes p → Shaped p h
        → result_of (Ok y) p st [] no_view ≡ perform (Pack x) (lent p st)
    unfolding rule pack_after pack_wants
    pack_whole few a b is =
        let S = state_in (lent p st) in
        let yes = subst Is few tt in
        let same : S ≡ pack_after s S = sym (if_T _ S _ yes) in
        changed _ (pack_wants T s) 0 (pack_after s S) (ap Ok a) refl b (record { shaped = is; is = ap (λ (X : State). X.tables) same }) (ap (λ (X : State). X.storage) same)
        ∙ perform_none (Pack x) (lent p st) (if_T _ _ _ yes) early

    module _ (many : false ≡ leb (length (chain T s)) 1) where
      -- the pieces and the buffers that are wanted, and the pieces that are made
      abbrev k : ℕ
      k = buffers_for (length_of T s)

      abbrev packed : List Stretch
      packed = laid T.stock (new_buffers T k) (length_of T s)

      not_one : Is (leb (length (chain T s)) 1) → ⊥
      not_one t = subst Is (sym many) t

      wants : pack_wants T s ≡ want 0 k k
      unfolding pack_wants
      wants = if_F _ _ _ not_one

      -- too few free pieces
      pub pack_pieces : false ≡ leb k (length (free_pieces T)) → result_of (Err Pieces) p st [] no_view ≡ perform (Pack x) (lent p st)
      unfolding rule
      pack_pieces l = perform_pieces (Pack x) (lent p st) early (rw wants (omega arith)) (rw wants (omega (arith, leb-false _ _ (sym l))))

      module _ (enough : true ≡ leb k (length (free_pieces T))) where
        -- too few free buffers
        pub pack_buffers : false ≡ leb k (length (free_buffers T)) → result_of (Err Buffers) p st [] no_view ≡ perform (Pack x) (lent p st)
        unfolding rule
        pack_buffers l =
            perform_buffers (Pack x) (lent p st) early (rw wants (omega arith)) (rw wants (omega (arith, leb-true _ _ (sym enough)))) (rw wants (omega (arith, leb-false _ _ (sym l))))

        -- the new pieces under the same slip, and the bytes in the new buffers
        pub pack_done : {y : Step} {v : SlipState} {q r full after : List ℕ} {h : Shape} {first : ℕ} → Opened p h → Backs st h → true ≡ leb k (length (free_buffers T))
            → full ≡ stored T.stock st (new_buffers T k) (take (length_of T s) (contents T.stock st (spans T s)))
            → Holds q h (built T (free_pieces T) packed 0) × (first ≡ built_link (free_pieces T) packed 0)
            → Holds r h (turned_to (decode q) s (first + 1)) × (after ≡ turned_storage (decode q) full s (first + 1))
            → y ≡ record { state = v; number = 0 } → AllBytes r → result_of (Ok y) r after [] no_view ≡ perform (Pack x) (lent p st)
        unfolding rule pack_after under_old turned_storage
        pack_done {full = full} {first = first} o f most bytes was is a b =
            let S = state_in (lent p st) in
            let v = holding (built_link (free_pieces T) packed 0) in
            let e : first + 1 ≡ v = omega (arith, was.1) in
            let whole_chain = bytes_all T st (head_of T s) o.sound (storage_fits (whole o.shaped) f) (o.sound.slips_ok s (named T x u).0) in
            let full_is = bytes ∙ ap (stored T.stock st (new_buffers T k)) whole_chain in
            let same : under_old (state_of T full) (plain T packed) (free_pieces T) s ≡ pack_after s S =
            ap (λ (z : List ℕ). under_old (state_of T z) (plain T packed) (free_pieces T) s) full_is ∙ sym (if_F _ S _ not_one) in
            changed _ (pack_wants T s) 0 (pack_after s S) (ap Ok a) refl b
            (record {
              shaped = is.0.shaped;
              is = is.0.is ∙ (λ i. turned_to (was.0.is i) s (e i)) ∙ sym (turned_tables (state_of (built T (free_pieces T) packed 0) full) s v) ∙ ap (λ (Y : State). Y.tables) same;
            })
            (is.1 ∙ (λ i. turned_storage (was.0.is i) full s (e i)) ∙ ap (λ (Y : State). Y.storage) same)
            ∙ perform_all (Pack x) (lent p st) early (rw wants (omega arith)) (rw wants (omega (arith, leb-true _ _ (sym enough)))) (rw wants (omega (arith, leb-true _ _ (sym most))))

pub ruleset laws = (pack_slip, pack_pieces, pack_buffers, new_link, count_most)
