use mathlib.Core.Path.{◌≡◌}
use Prim.Native.Nat.{◌+◌, ◌-◌, ◌*◌, ◌≤◌}
use Rattle.rules.specs.Bytes.{decode}
use Rattle.rules.specs.Chain.{walk, stretches, total}
use Rattle.draw_chain.proofs.length_from.Given as goal

abbrev pub invariant-loop : goal.invariant-loop
invariant-loop l = record {
  most : l.sum ≤ 65535 * l.counter;
  is : l.sum + total (stretches (decode l.pool) (walk (l.allowed - l.counter) (decode l.pool) l.next)) ≡ total (stretches (decode l.pool) (walk l.allowed (decode l.pool) l.link));
}
