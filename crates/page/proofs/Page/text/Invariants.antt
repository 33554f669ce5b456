use lib.ListN.{take}
use Rattle.page.specs.Page.{Wrote}
use Rattle.page.proofs.Page.text.Given as goal

abbrev pub invariant-loop-b : goal.invariant-loop-b
invariant-loop-b l = Wrote l.initial.self l.self (take l.b-index l.text)
