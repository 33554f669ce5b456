-- `own::own_part` meets its contract: the own pieces passed, and those that the bytes left overlap from the link reached on, are those asked for. Assumes nothing.
use Rattle.std.proofs.Common.{arith}
use Rattle.chain.proofs.Links.{link_leads}
use Rattle.chain.proofs.Parts.{part_total}
use Rattle.own.proofs.Own.{own_part_more, single_link}
use Rattle.own.proofs.own_part.Goals as goal

pub loop-bytes-preserved : goal.loop-bytes-preserved
loop-bytes-preserved c = grind (arith, link_leads, own_part_more, part_total, single_link)
