-- `release::turn` meets its contract. Assumes nothing.
use Rattle.std.proofs.Common.{arith}
use Rattle.tables.proofs.Laws.{totals}
use Rattle.release.proofs.Laws.{turn_left}
use Rattle.release.proofs.turn.Goals as goal

pub release-requires : goal.release-requires
release-requires c =
    (c.set_slip.ensures.shaped, turn_left _ _ c.args.v c.set_slip.ensures c.head_link-old.ensures (grind (arith, totals)) c.requires.2, c.requires.3)
