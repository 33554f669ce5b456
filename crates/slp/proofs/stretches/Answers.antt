-- `slp::stretches` meets its contract: each turn writes the record of the piece reached. Assumes nothing.
use mathlib.Core.Path.{◌≡◌, refl, sym, ap, subst, ◌∙◌}
use mathlib.Core.List.{List}
use Prim.Native.Nat.{ℕ, ◌+◌, ◌-◌, ◌≤◌, ◌<◌}
use native.Mathlib.Decide.{ℕ_discrete}
use native.Mathlib.Omega.{arith}
use lib.ListN.{length, set}
use Rattle.std.specs.Prelude.{Ok}
use Rattle.std.proofs.lemmas.List.{set-get_or}
use Rattle.std.proofs.lemmas.Result.{err_from_is_err_and}
use Rattle.rules.specs.Basics.{Is}
use Rattle.rules.specs.Tables.{Tables, piece}
use Rattle.rules.specs.Bytes.{decode}
use Rattle.rules.specs.Chain as chain
use Rattle.rules.specs.Chain.{follow}
use Rattle.rules.specs.Sound.{link_ok, SoundTables, lent}
use Rattle.rules.specs.Rule.{Name, name, no_view}
use Rattle.rules.specs.Step.{WireList, Do, step}
use Rattle.chain.specs.Length.{stretches_from}
use Rattle.list.specs.declared.Stretch.{Stretch}
use Rattle.list.specs.declared.Record.{Record}
use Rattle.list.specs.Record.{record_of}
use Rattle.list.proofs.Reached.{follow_start, reached, reached_good, reached_piece, reached_next, link_end}
use Rattle.answer.specs.Result.{result_of}
use Rattle.calls_look.specs.declared.Begun.{Begun}
use Rattle.calls_look.specs.Begin.{Ready}
use Rattle.slp.specs.Numbers.{numbers}
use Rattle.slp.proofs.Records.{written, written_more, written_all, numbers_length}
use Rattle.slp.proofs.stretches.Goals as goal
use Rattle.slp.proofs.stretches.Goals.{else-loop-stretch-test, then-loop-stretch-test+then-at-eq0}

pub returns-in_err-begun-clause-does : goal.returns-in_err-begun-clause-does
returns-in_err-begun-clause-does c =
    let p = err_from_is_err_and c.from_residual.result c.from_residual.ensures.1 in
    rw (p.1, p.2) (c.in_err-begun.ensures _ (numbers_length c.args.list.now))

pub loop-stretch-init : goal.loop-stretch-init
loop-stretch-init c = (omega arith, refl, follow_start (decode c.args.pool.now) c.in_ok-begun.begun.link)

-- After k turns k records are written, and the link has been followed k times.
module _ (T : Tables) (S : SoundTables T) (link : ℕ) (good : Is (link_ok T link)) (ys list : List Stretch) (k at : ℕ)
    (l : (k ≤ length (stretches_from T link)) × (list ≡ written T.stock (stretches_from T link) ys k) × (at ≡ follow T k link)) (fits : length (stretches_from T link) ≤ length ys) where
  -- all records are written where no link is left
  all_written : at ≡ 0 → k ≡ length (stretches_from T link)
  all_written z = elim (ℕ_discrete k (length (stretches_from T link))) [
    | yes e ↦ e
    | no m ↦ absurd (reached T link S good k (omega (arith, m, l.0)) (sym l.2 ∙ z))
  ]

  module _ (some : at ≡ 0 → ⊥) where
    -- a record is left where a link is
    left : k < length (stretches_from T link)
    left = elim (ℕ_discrete k (length (stretches_from T link))) [
      | yes e ↦ absurd (some (l.2 ∙ ap (λ (j : ℕ). follow T j link) e ∙ link_end T link (λ _. S) good))
      | no n ↦ omega (arith, n, l.0)
    ]

    -- the link reached leads to a piece
    at_good : Is (link_ok T at)
    at_good = subst (λ (n : ℕ). Is (link_ok T n)) (sym l.2) (reached_good T link S good k left)

    module _ (z : Record) (e : z ≡ record_of T.stock (piece T (at - 1))) where
      is : z ≡ record_of T.stock (piece T (follow T k link - 1))
      is = e ∙ ap (λ (n : ℕ). record_of T.stock (piece T (n - 1))) l.2

      -- with its record the list has one more, and the link behind it is reached
      turned : (k + 1 ≤ length (stretches_from T link)) × (set list k z.stretch ≡ written T.stock (stretches_from T link) ys (k + 1)) × (z.next ≡ follow T (k + 1) link)
      turned = (
        omega (arith, left),
        ap (λ (x : List Stretch). set x k z.stretch) l.1
            ∙ ap (λ (d : Record). set (written T.stock (stretches_from T link) ys k) k d.stretch) is
            ∙ written_more T.stock (stretches_from T link) ys k (chain.stretch (piece T (follow T k link - 1))) _
            (reached_piece T link S good k left) (omega (arith, left, fits)),
        ap (λ (d : Record). d.next) is ∙ reached_next T link S good k left,
      )

pub record_at-record-requires : goal.record_at-record-requires
record_at-record-requires c =
    let b = c.in_ok-begun.ensures in
    let l = c.loop-stretch in
    (b.opened, at_good (decode c.args.pool.now) b.opened.sound c.in_ok-begun.begun.link b.good c.args.list.now l.list l.stretch-index l.at l.invariant b.fits c.if-at-eq0.false, c.if-at-eq0.false)

pub loop-stretch-preserved : goal.loop-stretch-preserved
loop-stretch-preserved c =
    let b = c.in_ok-begun.ensures in
    let l = c.loop-stretch in
    turned (decode c.args.pool.now) b.opened.sound c.in_ok-begun.begun.link b.good c.args.list.now l.list l.stretch-index l.at l.invariant b.fits c.if-at-eq0.false
    c.record_at-record.result c.record_at-record.ensures

-- what is written in the end is what list writes
module _ {p : List ℕ} (st : List ℕ) (s : Name) (ys : List Stretch) {b : Begun} (w : Ready p st s (length ys) b) where
  finished : {list : List Stretch} (k : ℕ) → k ≡ length (stretches_from (decode p) b.link) → list ≡ written (decode p).stock (stretches_from (decode p) b.link) ys k
      → result_of (Ok b.step) p st (numbers list) no_view ≡ step (Do (WireList s (numbers ys))) (lent p st)
  finished k full e =
      let T = decode p in
      let xs = stretches_from T b.link in
      ap (λ (l : List ℕ). result_of (Ok b.step) p st l no_view) (ap numbers (e ∙ ap (written T.stock xs ys) full) ∙ written_all T.stock xs ys) ∙ w.answers (numbers ys) (numbers_length ys)

pub returns-clause-does : goal.returns-clause-does
returns-clause-does c =
    let T = decode c.args.pool.now in
    let b = c.in_ok-begun.ensures in
    let l = c.loop-stretch in
    let ys = c.args.list.now in
    let done = finished c.args.storage.now (name c.args.s.slip.0 c.args.s.serial.0) ys b l.stretch-index in
    elim c.loop-stretch-test.branch [
      | then-loop-stretch-test+then-at-eq0 w ↦
          done (all_written T b.opened.sound c.in_ok-begun.begun.link b.good ys l.list l.stretch-index l.at l.invariant b.fits w.if-at-eq0.true) (w.list-is ∙ set-get_or l.list l.stretch-index _ ∙ l.invariant.1)
      | else-loop-stretch-test w ↦ done (omega (arith, l.invariant.0, b.fits, w.loop-stretch-test.false, l.auto.list)) (w.list-is ∙ l.invariant.1)
    ]

pub returns-clause-leaves : goal.returns-clause-leaves
returns-clause-leaves c = c.in_ok-begun.ensures.leaves
