-- `look::show` meets its contract. Assumes nothing.
use mathlib.Core.Path.{◌≡◌, sym, ap, ◌∙◌}
use Prim.Native.Nat.{ℕ, ◌≤◌, ◌<◌}
use native.Mathlib.Omega.{arith}
use lib.ListN.{take}
use borrow.Author.Tests.{leb-true, leb-false}
use Rattle.std.proofs.Common.{rules}
use Rattle.std.proofs.lemmas.Result.{err_from_is_err_and}
use Rattle.kinds.specs.Limits.{buffer_size}
use Rattle.rules.specs.Tables.{Tables, buffer_total}
use Rattle.rules.specs.Bytes.{decode}
use Rattle.rules.specs.Chain.{spans, total, first_length, length_of, contents}
use Rattle.rules.specs.Rule.{Name}
use Rattle.rules.specs.Read.{copied}
use Rattle.rules.specs.Show.{view_of}
use Rattle.rules.proofs.Chain.{spans_good}
use Rattle.rules.proofs.Audit.{tables_now}
use Rattle.tables.proofs.Laws.{whole, fits_decode, storage_fits}
use Rattle.layout.specs.declared.Shape.{Shape}
use Rattle.chain.specs.Enter.{Entered}
use Rattle.chain.specs.Length.{stretches_from}
use Rattle.chain.proofs.Links.{link_leads}
use Rattle.chain.proofs.Parts.{extent_ok, extent_err}
use Rattle.look.proofs.Places.{first_most, show_slip, show_long, show_range, show_narrow, show_storage, show_scratch}
use Rattle.look.proofs.show.Goals as goal
use Rattle.look.proofs.show.Goals.{Else-in_first, Else-not-fits, In_ok-extent}

pub returns-in_err-link : goal.returns-in_err-link
returns-in_err-link c =
    let a = c.args in
    let p = err_from_is_err_and c.from_residual.result c.from_residual.ensures.1 in
    rw (p.1, p.2, c.in_err-link.ensures.0) (show_slip a.pool.now a.storage.now a.scratch.now _ a.n c.in_err-link.ensures.1)

pub returns-then-not-fits : goal.returns-then-not-fits
returns-then-not-fits c =
    let a = c.args in
    show_long a.pool.now a.storage.now a.scratch.now _ a.n c.in_ok-link.ensures.named (leb-false a.n buffer_size (sym c.if-not-fits.ensures))

-- the bytes fit one buffer
short : (c : Else-not-fits) → c.args.n ≤ buffer_size
short c = leb-true c.args.n buffer_size (sym c.if-not-fits.ensures)

-- the chain from the link looked up is the slip's
chain : {T : Tables} {h : Shape} {x : Name} {l : ℕ} → Entered T h x l → stretches_from T l ≡ spans T x.slip
chain {T} e = ap (stretches_from T) e.link_is

pub returns-then-in_first : goal.returns-then-in_first
returns-then-in_first c =
    let a = c.args in
    let T = decode a.pool.now in
    let e = c.in_ok-link.ensures in
    let xs = spans T a.s.slip.0 in
    let has : a.n ≤ first_length xs = omega (arith, leb-true _ _ (sym c.if-in_first.ensures), ap first_length (chain e)) in
    show_storage a.pool.now a.storage.now a.scratch.now _ a.n e.named (short (goal.at.returns-then-in_first c).Else-not-fits) (omega (arith, has, first_most xs))
    c.done.ensures (fits_decode a.pool.now (search rules) c.requires.0.shaped.fits)
    (buffer_total T) _ (storage_fits (whole c.requires.0.shaped) c.requires.1) (spans_good T a.s.slip.0 (tables_now T c.requires.0.sound)) has
    (c.start_of.ensures ∙ ap (λ xs. view_of T.stock xs a.n) (chain e))

pub returns-in_err-extent : goal.returns-in_err-extent
returns-in_err-extent c =
    let a = c.args in
    let p = err_from_is_err_and c.from_residual-in_err-extent.result c.from_residual-in_err-extent.ensures.1 in
    let e = c.in_ok-link.ensures in
    let q = extent_err (decode a.pool.now) c.in_ok-link.link a.n c.in_err-extent.ensures in
    rw (p.1, p.2, q.0) (show_range a.pool.now a.storage.now a.scratch.now _ a.n e.named (short (goal.at.returns-in_err-extent c).Else-not-fits) (omega (arith, q.1, ap total (chain e))))

-- the first piece has not the bytes
first_lacks : (c : Else-in_first) → first_length (spans (decode c.args.pool.now) c.args.s.slip.0) < c.args.n
first_lacks c = omega (arith, leb-false _ _ (sym c.if-in_first.ensures), ap first_length (chain c.in_ok-link.ensures))

-- the chain has them
enough : (c : In_ok-extent) → c.args.n ≤ length_of (decode c.args.pool.now) c.args.s.slip.0
enough c = omega (arith, (extent_ok (decode c.args.pool.now) c.in_ok-link.link c.args.n c.in_ok-extent.ensures).1, ap total (chain c.in_ok-link.ensures))

pub returns-then-scratch-n : goal.returns-then-scratch-n
returns-then-scratch-n c =
    let o = goal.at.returns-then-scratch-n c in
    let a = c.args in
    show_narrow a.pool.now a.storage.now a.scratch.now _ a.n c.in_ok-link.ensures.named (short o.Else-not-fits) (enough o.In_ok-extent) (first_lacks o.Else-in_first) (omega arith)

pub copy_out-requires-clause-opened : goal.copy_out-requires-clause-opened
copy_out-requires-clause-opened c =
    let good = c.in_ok-link.ensures.good in
    (c.requires.0, good, λ i. (link_leads (decode c.args.pool.now) c.in_ok-link.link c.requires.0.sound good i).some_bytes)

pub copy_out-requires-clause-n_bound : goal.copy_out-requires-clause-n_bound
copy_out-requires-clause-n_bound c =
    (omega (arith, (extent_ok (decode c.args.pool.now) c.in_ok-link.link c.args.n c.in_ok-extent.ensures).1), omega arith)

pub returns : goal.returns
returns c =
    let o = goal.at.returns c in
    let a = c.args in
    let T = decode a.pool.now in
    let e = c.in_ok-link.ensures in
    show_scratch a.pool.now a.storage.now a.scratch.now _ a.n e.named (short o.Else-not-fits) (enough o.In_ok-extent)
    c.done-2.ensures (fits_decode a.pool.now (search rules) c.requires.0.shaped.fits) _ (first_lacks o.Else-in_first) (omega arith) c.copy_out.auto.output
    (c.copy_out.ensures.output_after ∙ ap (λ xs. copied (take a.n (contents T.stock a.storage.now xs)) a.scratch.now) (chain e))
