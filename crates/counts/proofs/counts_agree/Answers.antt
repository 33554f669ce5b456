-- `counts::counts_agree` meets its contract. Assumes nothing.
use Rattle.std.proofs.Common.{get_or, arith, rules, refl, ◌∙◌, eqb}
use borrow.Author.Tests.{tests}
use Rattle.std.proofs.lemmas.Iterator.{YieldsList-from_range}
use Rattle.std.proofs.lemmas.Iterator.Search.{all_from_yields_List}
use Rattle.rules.specs.Bytes.{decode}
use Rattle.rules.specs.Tables.{piece}
use Rattle.counts.specs.Ranges.{counts_agree}
use Rattle.counts.proofs.Counters.{totals, agree}
use Rattle.counts.proofs.counts_agree.Goals as goal

pub returns : goal.returns
unfolding counts_agree
returns c =
    let T = decode c.args.pool.now in
    let n = c.args.shape.pieces in
    let k = totals c.requires.0 in
    let yields = YieldsList-from_range 0 n n refl (omega arith) in
    all_from_yields_List (λ d. eqb (piece T d).count (get_or c.args.refs.now d 0)) _ _ _ c.all.ensures.ran yields (λ x b q k. search (rules, tests))
    ∙ agree _ c.requires.1 (omega arith)
