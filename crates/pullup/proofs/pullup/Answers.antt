-- `pullup::pullup` meets its contract. Assumes nothing.
use Rattle.std.proofs.Common.{◌≡◌, arith, rules}
use Rattle.std.specs.Prelude.{Ok}
use Rattle.rules.specs.Rule.{name}
use Rattle.pullup.proofs.Laws.{Seen, pullup_long, pullup_range, pullup_nothing, wants_one, pullup_pieces, pullup_buffers, pullable, pullup_done}
use Rattle.pullup.proofs.pullup.Goals as goal
use Rattle.pullup.proofs.pullup.Goals.{In_ok-at, In_ok-room}

pub returns-then-not-fits-clause-no_view_after : goal.returns-then-not-fits-clause-no_view_after
returns-then-not-fits-clause-no_view_after c = grind (arith, pullup_long c.args.storage.now c.args.n c.requires.0 c.in_ok-head.ensures)

pub returns-in_err-at-clause-no_view_after : goal.returns-in_err-at-clause-no_view_after
returns-in_err-at-clause-no_view_after c = grind (arith, pullup_range c.args.storage.now c.args.n c.requires.0 c.in_ok-head.ensures (search rules) c.in_err-at.ensures)

-- what the code knows once the place is found
seen : (c : In_ok-at) → Seen c.args.pool.now c.args.shape (name c.args.s.slip.0 c.args.s.serial.0) c.args.n c.in_ok-head.head c.in_ok-at.at
seen c = record { opened = c.requires.0; entry = c.in_ok-head.ensures; fits = search rules; place = c.in_ok-at.ensures }

pub returns-then-in_first-clause-no_view_after : goal.returns-then-in_first-clause-no_view_after
returns-then-in_first-clause-no_view_after c =
    let w = seen (goal.at.returns-then-in_first-clause-no_view_after c).In_ok-at in
    pullup_nothing c.args.storage.now w (search rules) c.done.ensures (search rules)

pub overflow_add-wanted : goal.overflow_add-wanted
overflow_add-wanted c =
    let w = seen (goal.at.overflow_add-wanted c).In_ok-at in
    omega (arith, wants_one c.args.storage.now w c.wanted-wanted.ensures)

pub room_in_front-requires : goal.room_in_front-requires
room_in_front-requires c =
    let w = seen (goal.at.room_in_front-requires c).In_ok-at in
    (c.requires.0, c.in_ok-head.ensures.good, omega (arith, wants_one c.args.storage.now w c.wanted-wanted.ensures))

pub returns-in_err-room-clause-no_view_after : goal.returns-in_err-room-clause-no_view_after
returns-in_err-room-clause-no_view_after c =
    let w = seen (goal.at.returns-in_err-room-clause-no_view_after c).In_ok-at in
    grind (arith, pullup_pieces c.args.storage.now w c.wanted-wanted.ensures (search rules) c.room_in_front.result c.room_in_front.ensures (grind arith))

-- there is room for them
there : (c : In_ok-room) → c.room_in_front.result ≡ Ok c.in_ok-room.room
there c = grind arith

pub returns-in_err-b-clause-no_view_after : goal.returns-in_err-b-clause-no_view_after
returns-in_err-b-clause-no_view_after c =
    let at = goal.at.returns-in_err-b-clause-no_view_after c in
    let w = seen at.In_ok-at in
    grind (arith, pullup_buffers c.args.storage.now w c.wanted-wanted.ensures (search rules) c.room_in_front.ensures (there at.In_ok-room))

pub pull-requires-clause-pullable : goal.pull-requires-clause-pullable
pull-requires-clause-pullable c =
    let at = goal.at.pull-requires-clause-pullable c in
    let w = seen at.In_ok-at in
    pullable c.args.storage.now w c.wanted-wanted.ensures (search rules) c.room_in_front.ensures (there at.In_ok-room) (grind arith)

pub returns-clause-no_view_after : goal.returns-clause-no_view_after
returns-clause-no_view_after c =
    let at = goal.at.returns-clause-no_view_after c in
    let w = seen at.In_ok-at in
    pullup_done c.args.storage.now w c.wanted-wanted.ensures (search rules) c.room_in_front.ensures (there at.In_ok-room) (grind arith)
    c.pull.ensures c.done-2.ensures (search rules)
