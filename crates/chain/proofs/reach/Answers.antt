-- `chain::reach` meets its contract. Assumes nothing.
use mathlib.Core.Path.{sym, subst}
use Rattle.rules.specs.Basics.{Is}
use Rattle.chain.proofs.Spots.{found_is, found_no}
use Rattle.chain.proofs.reach.Goals as goal

pub returns-then-past_end : goal.returns-then-past_end
returns-then-past_end c = found_no c.find-at.ensures (subst Is c.if-past_end.ensures tt)

pub returns : goal.returns
returns c = found_is c.find-at.ensures (λ t. subst Is (sym c.if-past_end.ensures) t)
