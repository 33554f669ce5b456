-- `walkthrough::put_shown` meets its contract. Assumes nothing.
use Rattle.rules.specs.Rule.{name}
use Rattle.page.proofs.Ink.{on, same}
use Rattle.walkthrough.proofs.Shown.{shown_row}
use Rattle.walkthrough.proofs.put_shown.Goals as goal

pub returns : goal.returns
returns c =
    let a = c.args in
    let show = c.slp_show-shown.ensures in
    same (shown_row a.pool.now a.storage.now a.scratch.now (name a.slip.0 0) a.n show (c.part.ensures a.pool.now a.scratch.now (name a.slip.0 0) a.n show))
    (on (on (on c.put_answer.ensures c.put_place.ensures) c.put_bytes.ensures) c.text.ensures)
