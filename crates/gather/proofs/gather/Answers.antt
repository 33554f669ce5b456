-- `gather::gather` meets its contract. Assumes nothing.
use Rattle.std.proofs.Common.{sym, ◌∙◌}
use Rattle.gather.proofs.Laws.{answered}
use Rattle.gather.proofs.gather.Goals as goal

pub copy_all-requires : goal.copy_all-requires
copy_all-requires c =
    let k = rw (sym c.asked.ensures ∙ c.in-Ok.is) at (answered c.args.storage.now c.args.list.now c.args.output.now) in
    (k.enough, k.good)

pub returns-in-Ok : goal.returns-in-Ok
returns-in-Ok c =
    let k = rw (sym c.asked.ensures ∙ c.in-Ok.is) at (answered c.args.storage.now c.args.list.now c.args.output.now) in
    cc

pub returns-in-Err : goal.returns-in-Err
returns-in-Err c =
    let k = rw (sym c.asked.ensures ∙ c.in-Err.is) at (answered c.args.storage.now c.args.list.now c.args.output.now) in
    cc
