-- `keep::keep` meets its contract. Assumes nothing.
use mathlib.Core.Logic.{◌⊎◌}
use Rattle.std.proofs.Common.{◌≡◌, arith, rules}
use Rattle.std.specs.Prelude.{Ok, Err}
use borrow.Author.Tests.{leb-true, leb-false}
use Rattle.rules.specs.Rule.{name}
use Rattle.keep.proofs.Laws.{Seen, keep_slip, keep_range, keep_whole, last_below, next_ok, last_long, short_hangable, keep_short}
use Rattle.keep.proofs.Laws.{others_cut, keep_pieces, next_long, new_small, new_hangable, keep_new}
use Rattle.keep.proofs.keep.Goals as goal
use Rattle.keep.proofs.keep.Goals.{After-own_part-own, After-room_for, in-Ok, in-Ok-2}

pub returns-in_err-head-clause-no_view_after : goal.returns-in_err-head-clause-no_view_after
returns-in_err-head-clause-no_view_after c = grind (arith, keep_slip)

pub returns-in_err-end-clause-no_view_after : goal.returns-in_err-end-clause-no_view_after
returns-in_err-end-clause-no_view_after c = grind (arith, keep_range c.args.n c.requires.0 c.in_ok-head.ensures c.in_err-end.ensures)

pub returns-then-end-eq0-clause-no_view_after : goal.returns-then-end-eq0-clause-no_view_after
returns-then-end-eq0-clause-no_view_after c =
    keep_whole c.args.n c.requires.0 c.in_ok-head.ensures c.in_ok-end.ensures _ c.if-end-eq0.true c.done.ensures (search rules)

-- what the code knows where a part of the chain stays
seen : (c : After-own_part-own) → Seen c.args.pool.now c.args.shape (name c.args.s.slip.0 c.args.s.serial.0) c.args.n c.in_ok-head.head c.in_ok-end.end c.own_part-own.result
seen c = record { opened = c.requires.0; entry = c.in_ok-head.ensures; place = c.in_ok-end.ensures; some = c.if-end-eq0.false; run = c.own_part-own.ensures }

pub trim_end-requires : goal.trim_end-requires
trim_end-requires c = let w = seen (goal.at.trim_end-requires c).After-own_part-own in (c.requires.0.shaped, last_below w, last_long w c.if-n-own.true)

pub hang-requires : goal.hang-requires
hang-requires c = let w = seen (goal.at.hang-requires c).After-own_part-own in search (rules, last_below, short_hangable)

pub returns-then-n-own-clause-no_view_after : goal.returns-then-n-own-clause-no_view_after
returns-then-n-own-clause-no_view_after c =
    let w = seen (goal.at.returns-then-n-own-clause-no_view_after c).After-own_part-own in
    keep_short w c.if-n-own.true c.trim_end.ensures _ c.hang.ensures c.done-then-n-own.ensures (search rules)

-- ---- some that stay are not own

pub part_of-requires : goal.part_of-requires
part_of-requires c = (c.requires.0, next_ok (seen (goal.at.part_of-requires c).After-own_part-own))

-- how many they are, whether the bytes are said to be there or not
counted : (c : After-room_for) → (c.part_of.result ≡ Ok c.match-part_of.others) ⊎ (c.part_of.result ≡ Err c.match-part_of.others)
counted c = elim c.match-part_of.branch [ in-Ok w ↦ rw w.others-is w.in-Ok.is | in-Ok-2 w ↦ rw w.others-is w.in-Ok.is ]

pub returns-in_err-lowest-clause-no_view_after : goal.returns-in_err-lowest-clause-no_view_after
returns-in_err-lowest-clause-no_view_after c =
    let at = goal.at.returns-in_err-lowest-clause-no_view_after c in
    let w = seen at.After-own_part-own in
    grind (arith, leb-false, keep_pieces w c.part_of.ensures (counted at.After-room_for))

pub copy_pieces-first-requires : goal.copy_pieces-first-requires
copy_pieces-first-requires c =
    let at = goal.at.copy_pieces-first-requires c in
    let w = seen at.After-own_part-own in
    record {
      opened = (c.requires.0, next_ok w);
      pieces_value = (others_cut w c.part_of.ensures (counted at.After-room_for), search (rules, leb-true));
      into_bound = next_long w;
      first_value = search rules;
    }

pub hang-requires-2 : goal.hang-requires-2
hang-requires-2 c =
    let at = goal.at.hang-requires-2 c in
    let w = seen at.After-own_part-own in
    search (rules, last_below, new_small w c.part_of.ensures (counted at.After-room_for), new_hangable w c.part_of.ensures (counted at.After-room_for))

pub returns-clause-no_view_after : goal.returns-clause-no_view_after
returns-clause-no_view_after c =
    let at = goal.at.returns-clause-no_view_after c in
    let w = seen at.After-own_part-own in
    let k = c.copy_pieces-first.ensures in
    keep_new w c.part_of.ensures (counted at.After-room_for) k.0 k.1 _ (omega arith) (search (rules, leb-true)) c.hang-2.ensures c.done-2.ensures (search rules)
