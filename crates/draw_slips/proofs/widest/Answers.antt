-- `draw_slips::widest` meets its contract. Assumes nothing.
use mathlib.Core.Path.{◌≡◌, sym, ◌∙◌}
use mathlib.Core.List.{map}
use Prim.Native.Nat.{max}
use native.Mathlib.Omega.{arith}
use Rattle.std.proofs.Common.{rules}
use Rattle.std.specs.List.{range_with_len, reduce}
use Rattle.std.proofs.lemmas.Iterator.{YieldsList-from_map, YieldsList-from_range}
use Rattle.std.proofs.lemmas.Iterator.Consumers.{max_from_yields_List}
use Rattle.std.proofs.lemmas.Iterator.Adapters.{option_map_id}
use Rattle.rules.specs.Bytes.{decode}
use Rattle.draw_slips.specs.Text.{width_at}
use Rattle.draw_slips.proofs.Text.{slip_count, most_range}
use Rattle.draw_slips.proofs.widest.Goals as goal

pub returns : goal.returns
returns c =
    let n = c.args.shape.slips in
    let f = width_at (decode c.args.pool.now) in
    let e : c.max.result ≡ reduce max (map f (range_with_len 0 n)) =
    sym (option_map_id _)
    ∙ max_from_yields_List c.map.result _ c.max.ensures.ran
    (YieldsList-from_map _ f (YieldsList-from_range 0 n n c.map.ensures.source (omega arith)) c.map.ensures.closure (λ x r q k. search rules)) in
    rw (c.unwrap_or.ensures, e, slip_count c.requires) (most_range n f)
