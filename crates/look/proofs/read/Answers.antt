-- `look::read` meets its contract: the range is there where the chain from the place found has it, and its bytes are those from there on. Assumes nothing.
use mathlib.Core.Path.{refl, ap, subst, ◌∙◌}
use mathlib.Core.Bool.{true}
use mathlib.Core.List.{List}
use Prim.Native.Nat.{ℕ, ◌+◌}
use native.Mathlib.Omega.{arith}
use lib.ListN.{take}
use lib.Dec.{ltb→lt}
use Rattle.std.proofs.Common.{rules}
use Rattle.std.specs.Prelude.{Ok}
use Rattle.std.proofs.lemmas.Result.{err_from_is_err_and}
use Rattle.rules.specs.Basics.{Is}
use Rattle.rules.specs.Tables.{Tables, piece_total, head_of}
use Rattle.rules.specs.Bytes.{decode}
use Rattle.rules.specs.Chain.{length_of}
use Rattle.rules.specs.Sound.{link_ok}
use Rattle.rules.specs.Read.{copied}
use Rattle.tables.proofs.Laws.{whole, fits_decode, storage_fits}
use Rattle.chain.specs.Find.{spot_of}
use Rattle.chain.proofs.Spots.{Found, found_at, found_bytes, found_ok, found_err, past_range}
use Rattle.chain.proofs.Parts.{range_short, range_there, extent_ok}
use Rattle.look.proofs.Perform.{read_slip, read_range, read_narrow, read_done}
use Rattle.look.proofs.read.Goals as goal
use Rattle.look.proofs.read.Goals.{In_ok-link}

pub returns-in_err-head-clause-no_view_after : goal.returns-in_err-head-clause-no_view_after
returns-in_err-head-clause-no_view_after c =
    let a = c.args in
    let p = err_from_is_err_and c.from_residual.result c.from_residual.ensures.1 in
    rw (p.1, p.2, c.in_err-head.ensures.0) (read_slip a.pool.now a.storage.now a.output.now _ a.off a.n c.in_err-head.ensures.1)

-- the place lies past the end of the chain, and so the range goes past it
pub returns-in_err-link-clause-no_view_after : goal.returns-in_err-link-clause-no_view_after
returns-in_err-link-clause-no_view_after c =
    let a = c.args in
    let T = decode a.pool.now in
    let e = c.in_ok-head.ensures in
    let p = err_from_is_err_and c.from_residual-in_err-link.result c.from_residual-in_err-link.ensures.1 in
    let q = found_err (spot_of (piece_total T) T true c.in_ok-head.head a.off) c.in_err-link.ensures in
    let past = subst Is (past_range T a.s.slip.0 a.off e.link_is refl c.requires.0.sound e.inside) q.1 in
    rw (p.1, p.2, q.0) (read_range a.pool.now a.storage.now a.output.now _ a.off a.n e.named (omega (arith, ltb→lt (length_of T a.s.slip.0) a.off past)))

-- the place where the range starts
module _ (c : In_ok-link) where
  abbrev T : Tables
  T = decode c.args.pool.now

  place : Found T (head_of T c.args.s.slip.0) c.args.off c.in_ok-link.field-0
  place = let e = c.in_ok-head.ensures in found_at T c.args.s.slip.0 c.args.off e.link_is (found_ok _ c.in_ok-link.ensures).0 c.requires.0.sound e.inside

pub extent-requires : goal.extent-requires
extent-requires c = (c.requires.0, (place (goal.at.extent-requires c).In_ok-link).good)

pub returns-in_err-extent-clause-no_view_after : goal.returns-in_err-extent-clause-no_view_after
returns-in_err-extent-clause-no_view_after c =
    let a = c.args in
    let i = (goal.at.returns-in_err-extent-clause-no_view_after c).In_ok-link in
    let p = err_from_is_err_and c.from_residual-in_err-extent.result c.from_residual-in_err-extent.ensures.1 in
    let q = range_short (T i) (head_of (T i) a.s.slip.0) a.off a.n (place i) c.in_err-extent.ensures in
    rw (p.1, p.2, q.0) (read_range a.pool.now a.storage.now a.output.now _ a.off a.n c.in_ok-head.ensures.named q.1)

pub returns-then-output-n-clause-no_view_after : goal.returns-then-output-n-clause-no_view_after
returns-then-output-n-clause-no_view_after c =
    let a = c.args in
    let i = (goal.at.returns-then-output-n-clause-no_view_after c).In_ok-link in
    let has = range_there (T i) (head_of (T i) a.s.slip.0) a.off a.n (place i) c.in_ok-extent.ensures in
    read_narrow a.pool.now a.storage.now a.output.now _ a.off a.n c.in_ok-head.ensures.named has (omega arith)

pub copy_out-requires-clause-opened : goal.copy_out-requires-clause-opened
copy_out-requires-clause-opened c =
    let f = place (goal.at.copy_out-requires-clause-opened c).In_ok-link in
    (c.requires.0, f.good, f.inside)

pub copy_out-requires-clause-n_bound : goal.copy_out-requires-clause-n_bound
copy_out-requires-clause-n_bound c =
    let at = c.in_ok-link.field-0 in
    (omega (arith, (extent_ok (decode c.args.pool.now) at.link (at.into + c.args.n) c.in_ok-extent.ensures).1), omega arith)

pub returns-clause-no_view_after : goal.returns-clause-no_view_after
returns-clause-no_view_after c =
    let i = (goal.at.returns-clause-no_view_after c).In_ok-link in
    let a = c.args in
    let e = c.in_ok-head.ensures in
    let h = head_of (T i) a.s.slip.0 in
    let has = range_there (T i) h a.off a.n (place i) c.in_ok-extent.ensures in
    let good = subst (λ (n : ℕ). Is (link_ok (T i) n)) e.link_is e.good in
    let bytes = found_bytes (T i) c.requires.0.sound h a.off c.in_ok-link.field-0 good (place i) a.storage.now (storage_fits (whole c.requires.0.shaped) c.requires.1) in
    read_done a.pool.now a.storage.now a.output.now _ a.off a.n e.named has (ap Ok c.done.ensures) (omega arith)
    (fits_decode a.pool.now (search rules) c.requires.0.shaped.fits)
    (c.copy_out.ensures.output_after ∙ ap (λ (l : List ℕ). copied (take a.n l) a.output.now) bytes)
