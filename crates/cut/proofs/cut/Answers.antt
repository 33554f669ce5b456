-- `cut::cut` meets its contract. Assumes nothing.
use mathlib.Core.Path.{◌≡◌, sym, ap, ◌∙◌}
use mathlib.Core.Bool.{true}
use Prim.Native.Nat.{◌+◌, ◌≤◌, ◌<◌}
use native.Mathlib.Omega.{arith}
use lib.ListN.{length}
use borrow.Author.Tests.{leb-true, leb-false}
use Rattle.std.proofs.Common.{rules}
use Rattle.rules.specs.Tables.{Tables, head_of, slip_total, piece_total}
use Rattle.rules.specs.Bytes.{decode}
use Rattle.rules.specs.Chain.{spans, length_of, cut_out}
use Rattle.rules.specs.Room.{is_free, ready_slips, free_pieces, new_slip}
use Rattle.rules.specs.Build.{plain}
use Rattle.rules.specs.Rule.{name}
use Rattle.rules.proofs.Build.{built_kept}
use Rattle.tables.proofs.Laws.{whole, total_slips, total_pieces}
use Rattle.chain.specs.Length.{stretches_from}
use Rattle.chain.proofs.Spots.{Found}
use Rattle.chain.proofs.Parts.{range_short, range_there}
use Rattle.room.specs.Free.{RoomFor}
use Rattle.room.proofs.Free.{new_slip_lem, no_slip}
use Rattle.answer.proofs.New.{under_made, new_link, new_name}
use Rattle.cut.proofs.Laws.{cut_place, cut_past, range_pieces, cut_slip, cut_range, cut_slips, cut_pieces, cut_done}
use Rattle.cut.proofs.cut.Goals as goal
use Rattle.cut.proofs.cut.Goals.{In_ok-link, In_ok-part, In_ok-t, After-overlapped-pieces, In_ok-lowest}

pub returns-in_err-head-clause-by_index : goal.returns-in_err-head-clause-by_index
returns-in_err-head-clause-by_index c st = grind (arith, cut_slip c.args.pool.now st (name c.args.s.slip.0 c.args.s.serial.0) c.args.off c.args.n)

pub returns-in_err-link-clause-by_index : goal.returns-in_err-link-clause-by_index
returns-in_err-link-clause-by_index c st =
    let a = c.args in
    let e = c.in_ok-head.ensures in
    let (r, past) = cut_past (decode a.pool.now) a.off a.s.slip.0 c.requires.sound e.inside e.link_is a.n c.in_err-link.ensures in
    grind (arith, cut_range a.pool.now st (name a.s.slip.0 a.s.serial.0) a.off a.n e.named past)

-- the place where the range starts
module _ (c : In_ok-link) where
  abbrev T : Tables
  T = decode c.args.pool.now

  place : Found T (head_of T c.args.s.slip.0) c.args.off c.in_ok-link.field-0
  place = let e = c.in_ok-head.ensures in cut_place T c.args.off c.args.s.slip.0 c.requires.sound e.inside e.link_is c.in_ok-link.ensures

pub extent-requires : goal.extent-requires
extent-requires c = (c.requires, (place (goal.at.extent-requires c).In_ok-link).good)

pub returns-in_err-part-clause-by_index : goal.returns-in_err-part-clause-by_index
returns-in_err-part-clause-by_index c st =
    let a = c.args in
    let f = place (goal.at.returns-in_err-part-clause-by_index c).In_ok-link in
    let T = decode a.pool.now in
    let (r, short) = range_short T (head_of T a.s.slip.0) a.off a.n f c.in_err-part.ensures in
    grind (arith, cut_range a.pool.now st (name a.s.slip.0 a.s.serial.0) a.off a.n c.in_ok-head.ensures.named short)

-- the chain has the bytes of the range
in_range : (c : In_ok-part) → c.args.off + c.args.n ≤ length_of (decode c.args.pool.now) c.args.s.slip.0
in_range c =
    let a = c.args in
    let T = decode a.pool.now in
    range_there T (head_of T a.s.slip.0) a.off a.n (place (goal.at.In_ok-part c).In_ok-link) c.in_ok-part.ensures

pub returns-in_err-t-clause-by_index : goal.returns-in_err-t-clause-by_index
returns-in_err-t-clause-by_index c st =
    let a = c.args in
    grind (arith, no_slip, cut_slips a.pool.now st (name a.s.slip.0 a.s.serial.0) a.off a.n c.in_ok-head.ensures.named (in_range (goal.at.returns-in_err-t-clause-by_index c).In_ok-part))

-- the new slip: the lowest that may be given
new : (c : In_ok-t) → let t = c.in_ok-t.t.0 in let T = decode c.args.pool.now in (t < slip_total T) × (new_slip T ≡ t) × (1 ≤ length (ready_slips T))
new c =
    let (first, below) = rw c.in_ok-t.ensures.ok_part at c.lowest.ensures in
    let it = new_slip_lem (decode c.args.pool.now) first below in
    (below, it.0, it.1)

-- the pieces that the range overlaps
overlaps : (k : After-overlapped-pieces) → k.overlapped-pieces.result ≡ length (cut_out (spans (decode k.args.pool.now) k.args.s.slip.0) k.args.off k.args.n)
overlaps k =
    let a = k.args in
    let T = decode a.pool.now in
    range_pieces T (head_of T a.s.slip.0) a.off a.n (place (goal.at.After-overlapped-pieces k).In_ok-link) k.in_ok-part.ensures k.overlapped-pieces.ensures

pub returns-in_err-lowest-clause-by_index : goal.returns-in_err-lowest-clause-by_index
returns-in_err-lowest-clause-by_index c st =
    let a = c.args in
    let at = goal.at.returns-in_err-lowest-clause-by_index c in
    let k = overlaps at.After-overlapped-pieces in
    grind (arith, leb-false, cut_pieces a.pool.now st (name a.s.slip.0 a.s.serial.0) a.off a.n c.in_ok-head.ensures.named (in_range at.In_ok-part) (new at.In_ok-t).2)

-- there are as many free pieces, and the lowest is given
found_room : (c : In_ok-lowest) → RoomFor (is_free (decode c.args.pool.now)) c.overlapped-pieces.result (piece_total (decode c.args.pool.now)) c.in_ok-lowest.lowest.0 true
found_room c = rw c.in_ok-lowest.ensures.ok_part at c.room_for.ensures

enough : (c : In_ok-lowest) → c.overlapped-pieces.result ≤ length (free_pieces (decode c.args.pool.now))
enough c = leb-true _ _ (sym (found_room c).1)

pub copy_pieces-first-requires : goal.copy_pieces-first-requires
copy_pieces-first-requires c =
    let at = goal.at.copy_pieces-first-requires c in
    let f = place at.In_ok-link in
    record {
      opened = (c.requires, f.good);
      pieces_value = (overlaps at.After-overlapped-pieces ∙ ap length (f.cut c.args.n), enough at.In_ok-lowest);
      into_bound = f.inside;
      first_value = (found_room at.In_ok-lowest).0;
    }

pub under_new-requires : goal.under_new-requires
under_new-requires c =
    let T = decode c.args.pool.now in
    let s = whole c.requires.shaped in
    let at = c.in_ok-link.field-0 in (
      c.copy_pieces-first.ensures.0.shaped,
      omega (arith, (new (goal.at.under_new-requires c).In_ok-t).0, total_slips s),
      omega (arith, new_link T (cut_out (stretches_from T at.link) at.into c.args.n) 0 c.copy_pieces-first.ensures.1 (omega arith), total_pieces s, c.requires.few_pieces_lem),
    )

pub returns : goal.returns
returns c =
    let at = goal.at.returns c in
    let a = c.args in
    let T = decode a.pool.now in
    let spot = c.in_ok-link.field-0 in
    let t = c.in_ok-t.t.0 in
    let xs = cut_out (stretches_from T spot.link) spot.into a.n in
    let k = c.copy_pieces-first.ensures in
    let new_t = new at.In_ok-t in
    let is = under_made (plain T xs) (free_pieces T) t k.0 k.1 c.under_new.ensures.becomes in record {
      by_index = λ st. cut_done a.pool.now st (name a.s.slip.0 a.s.serial.0) a.off a.n c.in_ok-head.ensures.named (in_range at.In_ok-part) new_t.2
          (omega (arith, overlaps at.After-overlapped-pieces, enough at.In_ok-lowest)) new_t.1 c.under_new.ensures.value
          (new_name T (plain T xs) (free_pieces T) t k.0 (built_kept T (free_pieces T) xs 0).serials_kept) (search rules) is ((place at.In_ok-link).cut a.n);
      leaves = search rules;
    }
