use Rattle.std.proofs.Common.{◌≡◌, take, replicate}
use Rattle.storage.proofs.zero.Given as goal

abbrev pub invariant-loop-x : goal.invariant-loop-x
invariant-loop-x l = take l.x-index l.s ≡ replicate l.x-index 0
