use mathlib.Core.Path.{◌≡◌}
use lib.ListN.{length}
use Rattle.rules.specs.Basics.{Is}
use Rattle.rules.specs.Tables.{piece_total}
use Rattle.rules.specs.Bytes.{decode}
use Rattle.rules.specs.Chain.{walk}
use Rattle.rules.specs.Sound.{link_ok}
use Rattle.own.specs.Own.{own_run}
use Rattle.own.proofs.Own.{own_from}
use Rattle.own.proofs.own_run.Given as goal

abbrev pub invariant-loop-last : goal.invariant-loop-last
invariant-loop-last l = let T = decode l.pool in Is (link_ok T l.next) × (own_from l.last T l.next ≡ own_run T l.link)

abbrev pub decreases-loop-last : goal.decreases-loop-last
decreases-loop-last l = let T = decode l.pool in length (walk (piece_total T) T l.next)
