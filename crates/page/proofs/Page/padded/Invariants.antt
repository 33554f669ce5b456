use lib.ListN.{replicate}
use Rattle.page.specs.Page.{Wrote}
use Rattle.page.proofs.Page.padded.Given as goal

abbrev pub invariant-loop : goal.invariant-loop
invariant-loop l = Wrote l.initial.self l.self (replicate l.counter 32)
