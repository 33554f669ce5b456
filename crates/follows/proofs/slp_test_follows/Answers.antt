-- `follows::slp_test_follows` meets its contract. Assumes nothing.
use Rattle.std.proofs.Common.{refl, ◌∙◌}
use Rattle.follows.proofs.Laws.{code_sound, code_torn}
use Rattle.follows.proofs.slp_test_follows.Goals as goal
use Rattle.follows.proofs.slp_test_follows.Goals.{in-Ok, in-Err}

pub returns : goal.returns
returns c =
    let st = c.args.storage.now in
    let v = c.audit-audited.ensures in (
      elim c.match-audited.branch [
        | in-Ok w ↦ w.code-is ∙ code_sound st (rw w.in-Ok.is at v.audit)
        | in-Err w ↦ w.code-is ∙ w.into-code.ensures ∙ code_torn st (rw w.in-Err.is at v.audit)
      ],
      v.counted st refl,
      v.bounded,
    )
