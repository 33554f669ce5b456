-- The first numbers are written.
use lib.ListN.{take}
use Rattle.page.specs.Page.{Wrote}
use Rattle.walkthrough.specs.Row.{bytes_text}
use Rattle.walkthrough.proofs.put_call.Given as goal

abbrev pub invariant-loop-n : goal.invariant-loop-n
invariant-loop-n l = Wrote l.initial.page l.page (bytes_text (take l.n-index l.numbers))
