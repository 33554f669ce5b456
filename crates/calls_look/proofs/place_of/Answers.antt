-- `calls_look::place_of` meets its contract. Assumes nothing.
use Rattle.std.proofs.Common.{sym}
use lib.Dec.{eqb, eqb→eq}
use Rattle.rules.proofs.Logic.{if_T, if_F, eq→eqb}
use Rattle.look.specs.declared.Place.TheVariants.{Storage, Scratch}
use Rattle.calls_look.proofs.place_of.Goals as goal

pub returns-then-shown-eq0 : goal.returns-then-shown-eq0
returns-then-shown-eq0 c =
    let x = c.args.shown in
    sym (if_T (eqb x.in_scratch 0) (Storage x.start) Scratch (eq→eqb x.in_scratch 0 c.if-shown-eq0.true))

pub returns : goal.returns
returns c =
    let x = c.args.shown in
    sym (if_F (eqb x.in_scratch 0) (Storage x.start) Scratch (λ t. c.if-shown-eq0.false (eqb→eq x.in_scratch 0 t)))
