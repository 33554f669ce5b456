-- The tables on the way of a join: new pieces, if any, are built, b is made vacant, they are linked, and what stood there loses a reference. Assumes nothing.
use mathlib.Core.Path.{◌≡◌, refl, sym, ap, subst, ◌∙◌}
use mathlib.Core.List.{List, [], ◌∷◌}
use Prim.Native.Nat.{ℕ, zero, suc, ◌-◌, ◌≤◌, ◌<◌}
use native.Mathlib.Omega.{arith}
use lib.ListN.{length}
use Rattle.std.specs.Prelude.{Ok, Err}
use Rattle.kinds.specs.Limits.{most_pieces}
use Rattle.kinds.specs.declared.SlipState.{SlipState}
use Rattle.kinds.specs.declared.Step.{Step}
use Rattle.kinds.specs.declared.Refusal.TheVariants.{Pieces}
use Rattle.rules.specs.Basics.{Is}
use Rattle.rules.specs.Tables.{Tables, piece, head_of, vacant, piece_total, set_slip, aged}
use Rattle.rules.specs.Bytes.{decode}
use Rattle.rules.specs.Chain.{State, Stretch, follow, own_of, cut_out}
use Rattle.rules.specs.Sound.{link_ok, lent}
use Rattle.rules.specs.Room.{free_pieces}
use Rattle.rules.specs.Release.{lowered}
use Rattle.rules.specs.Build.{built, built_link}
use Rattle.rules.specs.Rule.{no_view}
use Rattle.rules.specs.Append.{not_own, joined}
use Rattle.rules.specs.Step.{Append, state_in, perform}
use Rattle.rules.proofs.Audit.{tables_now}
use Rattle.rules.proofs.Bytes.{AllBytes}
use Rattle.rules.proofs.Codes.{named}
use Rattle.rules.proofs.Moves.{used_in_range_lem}
use Rattle.rules.proofs.Release.{Shared, unshared}
use Rattle.rules.proofs.Append.{ready, ready_link, link_behind, linked_behind, own_follow, joined_shared, joined_is}
use Rattle.layout.specs.declared.Shape.{Shape}
use Rattle.tables.specs.Shape.{Holds}
use Rattle.tables.proofs.Laws.{whole, total_pieces}
use Rattle.chain.specs.Opened.{Opened}
use Rattle.chain.specs.Length.{stretches_from}
use Rattle.chain.proofs.Links.{link_leads, link_below, stretches_none}
use Rattle.chain.proofs.Parts.{part_all}
use Rattle.own.specs.declared.OwnRun.{OwnRun}
use Rattle.own.specs.Own.{last_link, own_run}
use Rattle.own.proofs.Own.{OwnLaws, own_laws}
use Rattle.answer.specs.Result.{result_of}
use Rattle.answer.proofs.New.{new_link}
use Rattle.answer.proofs.Perform.{named_below}
use Rattle.build.proofs.Forward.{built_slip}
use Rattle.append.specs.Join.{good_name, Joinable, linked}
use Rattle.append.proofs.Laws.{append_pieces, append_joined}

-- a link put behind own pieces
linked_behind_lem : (T : Tables) (s n : ℕ) (own : List ℕ) → linked T s (last_link own) n ≡ linked_behind T s own n
linked_behind_lem T s n [] = refl
linked_behind_lem T s n (d ∷ ds) = refl

-- a link that leads to a piece, and is shared
shared_at : (T : Tables) (n : ℕ) → (n ≡ 0 → ⊥) → Shared T n → 1 < (piece T (n - 1)).count
shared_at T zero z h = absurd (z refl)
shared_at T (suc d) z h = let e : suc d - 1 ≡ d = omega arith in omega (arith, ap (λ x. (piece T x).count) e)

unshared_at : (T : Tables) (n : ℕ) → (n ≡ 0 → ⊥) → lowered T (n - 1) ≡ unshared T n
unshared_at T zero z = absurd (z refl)
unshared_at T (suc d) z = let e : suc d - 1 ≡ d = omega arith in ap (lowered T) e

-- the tables of r are those before the linking, and first is the link held there
pub record IsReady (T : Tables) (a b : ℕ) (r : List ℕ) (first : ℕ) : Type 0 where
  pub is : decode r ≡ ready T a b
  pub link : first ≡ ready_link T a b

-- more bytes than any chain has
abbrev most : ℕ
most = 4294967295

module _ {p : List ℕ} {h : Shape} {a b head tail : ℕ} (o : Opened p h) (j : Joinable (decode p) a b head tail) where
  abbrev T : Tables
  T = decode p

  -- the slips are the pool's
  pub a_below : a < h.slips
  a_below = named_below o.shaped (good_name T a) j.a_named

  pub b_below : b < h.slips
  b_below = named_below o.shaped (good_name T b) j.b_named

  -- neither chain is empty
  a_some : head_of T a ≡ 0 → ⊥
  a_some z = j.head_some (j.head_is ∙ z)

  b_some : head_of T b ≡ 0 → ⊥
  b_some z = j.tail_some (j.tail_is ∙ z)

  -- the pieces are few, and both heads are good
  few : piece_total T ≤ most_pieces
  few = omega (arith, total_pieces (whole o.shaped), o.few_pieces_lem)

  a_ok : Is (link_ok T (head_of T a))
  a_ok = o.sound.slips_ok a (named T (good_name T a) j.a_named).0

  tail_most : head_of T b ≤ piece_total T
  tail_most = link_below T (head_of T b) o.sound (o.sound.slips_ok b (named T (good_name T b) j.b_named).0)

  pub tail_small : tail < 65535
  tail_small = omega (arith, j.tail_is, tail_most, few)

  -- the link to a's head is good
  pub head_ok : Is (link_ok T head)
  head_ok = subst (λ (x : ℕ). Is (link_ok T x)) (sym j.head_is) a_ok

  -- the rule: what stands behind a's own pieces is shared, and loses a reference
  abbrev rule : Tables
  rule = linked_behind (ready T a b) a (own_of T a) (ready_link T a b)

  rule_is : (st : List ℕ) → (joined a b (state_in (lent p st))).tables ≡ unshared rule (link_behind T (head_of T a) (own_of T a))
  rule_is st =
      ap (λ (X : State). X.tables)
      (joined_is a b (state_in (lent p st)) j.apart (named T (good_name T a) j.a_named).0 (named T (good_name T b) j.b_named).0 (tables_now T o.sound))

  old_rule : Shared rule (link_behind T (head_of T a) (own_of T a))
  old_rule = joined_shared a b (state_in (lent p [])) j.apart (named T (good_name T a) j.a_named).0 (named T (good_name T b) j.b_named).0 (tables_now T o.sound)

  module _ {own : OwnRun} (is : own ≡ own_run T head) where
    -- what the code has as own is what the rule has: the link to the last, and the link after it
    own_is : own ≡ record { last = last_link (own_of T a); next = follow T (length (own_of T a)) (head_of T a) }
    unfolding own_run
    own_is = is ∙ ap (own_run T) j.head_is

    last_is : own.last ≡ last_link (own_of T a)
    last_is = ap (λ (r : OwnRun). r.last) own_is

    next_is : own.next ≡ follow T (length (own_of T a)) (head_of T a)
    next_is = ap (λ (r : OwnRun). r.next) own_is

    -- what stands behind them
    old_is : own.next ≡ link_behind T (head_of T a) (own_of T a)
    old_is = next_is ∙ own_follow (piece_total T) (head_of T a) T

    laws : OwnLaws T (head_of T a) (own_of T a) own.next
    laws = subst (OwnLaws T (head_of T a) (own_of T a)) (sym next_is) (own_laws (piece_total T) (head_of T a) T o.sound a_ok)

    -- the links to the last own piece and after it are good
    pub last_below : own.last ≤ h.pieces
    last_below = omega (arith, last_is, link_below T (last_link (own_of T a)) o.sound laws.last_ok, total_pieces (whole o.shaped))

    pub next_ok : Is (link_ok T own.next)
    next_ok = laws.next_ok

    pub next_long : (own.next ≡ 0 → ⊥) → 0 < (piece T (own.next - 1)).len
    next_long z = omega (arith, (link_leads T own.next o.sound next_ok z).some_bytes)

    -- what stands behind the own pieces: all of it is replaced
    rest : cut_out (stretches_from T own.next) 0 most ≡ not_own T a
    rest = part_all T o.sound own.next most next_ok (omega (arith, few)) ∙ sym laws.rest

    -- where b is vacant, and first is the link to hang
    module _ {r : List ℕ} {first : ℕ} (it : IsReady T a b r first) where
      -- once it is linked the tables are the rule's
      linked_is : {x : List ℕ} → Holds x h (linked (decode r) a own.last first) → decode x ≡ rule
      linked_is is = is.is ∙ (λ i. linked (it.is i) a (last_is i) (it.link i)) ∙ linked_behind_lem (ready T a b) a (ready_link T a b) (own_of T a)

    -- ---- all pieces are own

    module _ (none : own.next ≡ 0) where
      -- none is replaced
      no_others : not_own T a ≡ []
      no_others = laws.rest ∙ ap (stretches_from T) none ∙ stretches_none T

      -- b is made vacant: so it is ready
      own_ready : {r : List ℕ} → Holds r h (set_slip T b vacant) → IsReady T a b r tail
      unfolding built built_link
      own_ready now =
          let e = sym no_others in
          record {
            is = now.is ∙ ap (λ (xs : List Stretch). built (set_slip T b vacant) (free_pieces T) xs (head_of T b)) e;
            link = j.tail_is ∙ ap (λ (xs : List Stretch). built_link (free_pieces T) xs (head_of T b)) e;
          }

      -- nothing stood behind them: that is all
      pub join_own : {r x y : List ℕ} {z : Step} {w : SlipState} → Holds r h (set_slip T b vacant) → Holds x h (linked (decode r) a own.last tail) → Holds y h (aged (decode x) b)
          → z ≡ record { state = w; number = 0 } → AllBytes y → (st : List ℕ) → result_of (Ok z) y st [] no_view ≡ perform (Append (good_name T a) (good_name T b)) (lent p st)
      join_own {x = x} now hung is d c st =
          let e : decode x ≡ (joined a b (state_in (lent p st))).tables = linked_is (own_ready now) hung ∙ ap (unshared rule) (sym none ∙ old_is) ∙ sym (rule_is st) in
          append_joined p st (good_name T a) (good_name T b) j.a_named j.b_named j.apart a_some b_some
          (tables_now T o.sound) (omega (arith, ap length no_others)) (rw e at is) d c

    -- ---- some are not

    module _ (some : own.next ≡ 0 → ⊥) {n : ℕ} (count : n ≡ length (stretches_from T own.next)) where
      -- how many pieces the others have
      others : n ≡ length (not_own T a)
      others = count ∙ sym (ap length laws.rest)

      pub others_cut : n ≡ length (cut_out (stretches_from T own.next) 0 most)
      others_cut = others ∙ sym (ap length rest)

      pub join_pieces : (st : List ℕ) → length (free_pieces T) < n → result_of (Err Pieces) p st [] no_view ≡ perform (Append (good_name T a) (good_name T b)) (lent p st)
      join_pieces st f =
          append_pieces p st (good_name T a) (good_name T b) j.a_named j.b_named j.apart a_some b_some (omega (arith, others))

      -- the new pieces are built, and then b is made vacant
      module _ {q : List ℕ} {first : ℕ} (was : Holds q h (built T (free_pieces T) (cut_out (stretches_from T own.next) 0 most) tail))
          (link : first ≡ built_link (free_pieces T) (cut_out (stretches_from T own.next) 0 most) tail) where
        link_is : first ≡ ready_link T a b
        link_is = link ∙ (λ i. built_link (free_pieces T) (rest i) (j.tail_is i))

        pub first_small : first < 65535
        first_small = omega (arith, new_link T (not_own T a) (head_of T b) link_is tail_most, few)

        module _ {r x : List ℕ} (now : Holds r h (set_slip (decode q) b vacant)) (hung : Holds x h (linked (decode r) a own.last first)) where
          -- so it is ready, and once it is linked the tables are the rule's
          is_linked : decode x ≡ rule
          is_linked =
              linked_is
              (record {
                is = now.is ∙ ap (λ (U : Tables). set_slip U b vacant) (was.is ∙ (λ i. built T (free_pieces T) (rest i) (j.tail_is i)))
                    ∙ sym (built_slip T b vacant (free_pieces T) (not_own T a) (head_of T b));
                link = link_is;
              }) hung

          -- what stood there has another reference
          pub old_shared : 1 < (piece (decode x) (own.next - 1)).count
          old_shared = rw is_linked (shared_at rule own.next some (subst (Shared rule) (sym old_is) old_rule))

          pub old_below : own.next - 1 < h.pieces
          old_below = omega (arith, used_in_range_lem (decode x) (own.next - 1) (omega (arith, old_shared)), total_pieces (whole hung.shaped))

          -- and it loses one
          pub join_new : {y v : List ℕ} {z : Step} {w : SlipState} → n ≤ length (free_pieces T) → Holds y h (lowered (decode x) (own.next - 1)) → Holds v h (aged (decode y) b)
              → z ≡ record { state = w; number = 0 } → AllBytes v → (st : List ℕ) → result_of (Ok z) v st [] no_view ≡ perform (Append (good_name T a) (good_name T b)) (lent p st)
          join_new {y} f low is d c st =
              let e : decode y ≡ (joined a b (state_in (lent p st))).tables =
              low.is ∙ ap (λ (U : Tables). lowered U (own.next - 1)) is_linked ∙ unshared_at rule own.next some ∙ ap (unshared rule) old_is ∙ sym (rule_is st) in
              append_joined p st (good_name T a) (good_name T b) j.a_named j.b_named j.apart a_some b_some
              (tables_now T o.sound) (omega (arith, others)) (rw e at is) d c

-- what the calls of a join ask
pub ruleset asks = (a_below, b_below, tail_small, head_ok, last_below, next_ok, next_long, others_cut, first_small, old_shared, old_below)
