-- `append::append` meets its contract. Assumes nothing.
use Rattle.std.proofs.Common.{arith, rules}
use Rattle.append.proofs.Laws.{append_slip, append_same, append_first, append_second, tail_fits}
use Rattle.append.proofs.append.Goals as goal

pub returns-in_err-head-clause-by_index : goal.returns-in_err-head-clause-by_index
returns-in_err-head-clause-by_index c = λ st. grind (arith, append_slip)

pub returns-in_err-tail-clause-by_index : goal.returns-in_err-tail-clause-by_index
returns-in_err-tail-clause-by_index c = λ st. grind (arith, append_slip)

pub returns-then-eq-clause-by_index : goal.returns-then-eq-clause-by_index
returns-then-eq-clause-by_index c = λ st. append_same _ st _ _ c.in_ok-head.ensures.named c.in_ok-tail.ensures.named (search rules)

pub overflow_add-tail : goal.overflow_add-tail
overflow_add-tail c = omega (arith, tail_fits c.requires c.in_ok-tail.ensures)

pub returns-then-head-eq0-clause-by_index : goal.returns-then-head-eq0-clause-by_index
returns-then-head-eq0-clause-by_index c =
    append_first c.requires c.in_ok-head.ensures c.in_ok-tail.ensures (search rules) c.if-head-eq0.true
    c.set_slip.ensures c.set_slip-then-head-eq0.ensures c.retire.ensures.becomes c.retire.ensures.value (search rules)

pub returns-then-tail-eq0-clause-by_index : goal.returns-then-tail-eq0-clause-by_index
returns-then-tail-eq0-clause-by_index c =
    append_second c.requires c.in_ok-head.ensures c.in_ok-tail.ensures (search rules) c.if-head-eq0.false c.if-tail-eq0.true
    c.set_slip-then-tail-eq0.ensures c.retire-then-tail-eq0.ensures.becomes c.retire-then-tail-eq0.ensures.value (search rules)
