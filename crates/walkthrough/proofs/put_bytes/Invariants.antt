-- The first bytes are written.
use lib.ListN.{take}
use Rattle.page.specs.Page.{Wrote}
use Rattle.walkthrough.specs.Row.{bytes_text}
use Rattle.walkthrough.proofs.put_bytes.Given as goal

abbrev pub invariant-loop-b : goal.invariant-loop-b
invariant-loop-b l = Wrote l.initial.page l.page (bytes_text (take l.b-index l.bytes))
