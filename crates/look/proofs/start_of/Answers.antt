-- `look::start_of` meets its contract. Assumes nothing.
use mathlib.Core.Path.{◌≡◌}
use native.Mathlib.Omega.{arith}
use Rattle.rules.specs.Bytes.{decode}
use Rattle.tables.proofs.Laws.{whole, total_pieces}
use Rattle.chain.proofs.Links.{link_leads}
use Rattle.look.proofs.Places.{view_none, link_some, place_piece}
use Rattle.look.proofs.start_of.Goals as goal
use Rattle.look.proofs.start_of.Goals.{Else-n-eq0}

pub returns-then-n-eq0 : goal.returns-then-n-eq0
returns-then-n-eq0 c = view_none _ _ _ c.if-n-eq0.true

-- there is a link to the first piece
on : (c : Else-n-eq0) → c.args.link ≡ 0 → ⊥
on c =
    link_some (decode c.args.pool.now) c.args.link c.args.n c.requires.opened.0.sound c.requires.opened.1 c.if-n-eq0.false c.requires.n_bound

pub overflow_sub-link : goal.overflow_sub-link
overflow_sub-link c = let i = on (goal.at.overflow_sub-link c).Else-n-eq0 in omega arith

pub position-requires : goal.position-requires
position-requires c =
    let o = c.requires.opened.0 in
    (o.shaped, omega (arith, (link_leads (decode c.args.pool.now) c.args.link o.sound c.requires.opened.1 (on (goal.at.position-requires c).Else-n-eq0)).below, total_pieces (whole o.shaped)))

pub returns : goal.returns
returns c =
    place_piece (decode c.args.pool.now) c.args.link c.args.n c.requires.opened.0.sound c.requires.opened.1 c.if-n-eq0.false c.requires.n_bound c.position.ensures
