-- `draw::free_pieces` meets its contract. Assumes nothing.
use mathlib.Core.Path.{◌≡◌, ap, ◌∙◌}
use native.Mathlib.Omega.{arith}
use borrow.Author.Tests.{tests}
use lib.ListN.{length}
use Rattle.std.proofs.Common.{rules}
use Rattle.std.proofs.lemmas.Iterator.{YieldsList-from_range}
use Rattle.std.proofs.lemmas.Iterator.Consumers.{YieldsList-from_filter, count_from_yields_List}
use Rattle.rules.specs.Basics.{places}
use Rattle.rules.specs.Bytes.{decode}
use Rattle.rules.specs.Room.{is_free}
use Rattle.room.proofs.Free.{count_most}
use Rattle.draw_chain.proofs.Text.{piece_count}
use Rattle.draw.proofs.Text.{filter_places}
use Rattle.draw.proofs.free_pieces.Goals as goal

pub returns : goal.returns
returns c =
    let n = c.args.shape.pieces in
    let f = is_free (decode c.args.pool.now) in
    let e : c.count.result ≡ length (places f 0 n) =
    count_from_yields_List c.filter.result _ c.count.ensures.ran
    (YieldsList-from_filter _ f (YieldsList-from_range 0 n n c.filter.ensures.source (omega arith)) c.filter.ensures.closure (λ x b q k. search (rules, tests)))
    ∙ ap length (filter_places f 0 n) in
    (rw (piece_count c.requires) e, omega (arith, e, count_most f n))
