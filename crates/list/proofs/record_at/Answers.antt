-- `list::record_at` meets its contract. Assumes nothing.
use mathlib.Core.Path.{ap}
use native.Mathlib.Omega.{arith}
use lib.ListN.{length}
use Rattle.rules.specs.Bytes.{decode}
use Rattle.chain.proofs.Links.{stretches_on}
use Rattle.list.proofs.Laws.{first_record}
use Rattle.list.proofs.record_at.Goals as goal

pub write_records-next-requires : goal.write_records-next-requires
write_records-next-requires c =
    let T = decode c.args.pool.now in
    let on = stretches_on T c.args.link c.requires.0.sound c.requires.1 c.requires.2 in
    record { opened = (c.requires.0, c.requires.1); n_in_bounds = (omega (arith, ap length on), omega arith) }

pub returns : goal.returns
returns c =
    let r = c.requires in
    let w = c.write_records-next.ensures in
    first_record (decode c.args.pool.now) c.args.link r.0.sound r.1 r.2 w.list_after w.value
