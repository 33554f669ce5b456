use Rattle.std.proofs.Common.{arith, refl, []}
use Rattle.tables.proofs.Laws.{totals}
use Rattle.build.proofs.Line.{built_none}
use Rattle.rest.proofs.Rest.{makes, built_one}
use Rattle.rest.proofs.make.Goals as goal

pub returns-in_default : goal.returns-in_default
returns-in_default c = rw c.in_default.is (built_none c.requires.0 _ [] _ refl)

pub take_piece-requires : goal.take_piece-requires
take_piece-requires c =
    let f = makes c.requires.2 c.in-Some.is c.next_free-f.ensures in
    let b = rw c.in-Some.is at c.requires.2.in_store in
    let n = rw c.in-Some.is at c.requires.2.counted in
    grind (arith, totals)

pub overflow_add-result : goal.overflow_add-result
overflow_add-result c = let f = makes c.requires.2 c.in-Some.is c.next_free-f.ensures in grind (arith, totals)

pub returns : goal.returns
returns c = rw c.in-Some.is (built_one _ _ _ (makes c.requires.2 c.in-Some.is c.next_free-f.ensures).split c.take_piece.ensures)
