-- What is still to be drawn, written behind what is, gives the whole.
use mathlib.Core.Path.{◌≡◌}
use Prim.Native.Nat.{◌-◌}
use Rattle.rules.specs.Bytes.{decode}
use Rattle.rules.specs.Chain.{walk}
use Rattle.page.specs.Page.{page, inked}
use Rattle.draw_chain.specs.Text.{rest_text}
use Rattle.draw_chain.proofs.put_rest.Given as goal

abbrev pub invariant-loop : goal.invariant-loop
invariant-loop l = record {
  lent : l.page.bytes.ghost_name ≡ l.initial.page.bytes.ghost_name;
  is : inked (page l.page) (rest_text (decode l.pool) (walk (l.allowed - l.counter) (decode l.pool) l.next)) ≡ inked (page l.initial.page) (rest_text (decode l.pool) (walk l.allowed (decode l.pool) l.link));
}
