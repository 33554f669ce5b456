-- `list::list` meets its contract. Assumes nothing.
use mathlib.Core.List.{List, []}
use Prim.Native.Nat.{ℕ, ◌/◌}
use native.Mathlib.Omega.{arith}
use lib.ListN.{length}
use Rattle.std.proofs.Common.{rules}
use Rattle.std.proofs.lemmas.Result.{err_from_is_err_and}
use Rattle.rules.specs.Bytes.{decode}
use Rattle.rules.specs.Rule.{name}
use Rattle.tables.proofs.Laws.{fits_decode}
use Rattle.list.proofs.Laws.{begun_fits, list_refuses, list_performs}
use Rattle.list.proofs.list.Goals as goal

pub returns-in_err-b-clause-by_index : goal.returns-in_err-b-clause-by_index
returns-in_err-b-clause-by_index c =
    let a = c.args in
    let p = err_from_is_err_and c.from_residual.result c.from_residual.ensures.1 in
    λ st. rw (p.1, p.2) (list_refuses a.pool.now st a.list.now _ (fits_decode a.pool.now (search rules) c.requires.shaped.fits) c.in_err-b.ensures)

pub write_records-requires : goal.write_records-requires
write_records-requires c =
    let f = begun_fits (decode c.args.pool.now) c.requires.sound (name c.args.s.slip.0 c.args.s.serial.0) (length c.args.list.now / 2) c.in_ok-b.ensures in
    record { opened = (c.requires, f.0); n_in_bounds = (omega (arith, f.1), omega (arith, f.2)) }

pub returns : goal.returns
returns c =
    let a = c.args in
    let performs : (st : List ℕ) → _ = λ st. list_performs a.pool.now st a.list.now (name a.s.slip.0 a.s.serial.0) (fits_decode a.pool.now (search rules) c.requires.shaped.fits) c.in_ok-b.ensures c.write_records.ensures.list_after in
    record { by_index = λ st. (performs st).0; leaves = (performs []).1 }
