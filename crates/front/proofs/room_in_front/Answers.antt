-- `front::room_in_front` meets its contract. Assumes nothing.
use mathlib.Core.Path.{◌≡◌, sym}
use Prim.Native.Nat.{◌-◌}
use native.Mathlib.Omega.{arith}
use Rattle.std.specs.Prelude.{None}
use Rattle.rules.specs.Bytes.{decode}
use Rattle.tables.proofs.Laws.{whole, total_pieces}
use Rattle.own.proofs.Own.{single_link}
use Rattle.chain.proofs.Links.{InUse, link_leads}
use Rattle.front.proofs.Front.{front_shared, front_few, front_own_lem, front_both, front_alone}
use Rattle.front.proofs.room_in_front.Goals as goal
use Rattle.front.proofs.room_in_front.Goals.{Else-not-single, else-wanted-eq2-via-then-wanted-eq2+else-not-single-2, else-wanted-eq2-via-else-wanted-eq2}

pub returns-in_err-lowest : goal.returns-in_err-lowest
returns-in_err-lowest c =
    let none : c.room_for.result ≡ None = grind arith in
    grind (arith, front_few (decode c.args.pool.now) c.args.head c.args.wanted (sym c.if-not-single.ensures) (rw none at c.room_for.ensures))

pub returns-then-not-single : goal.returns-then-not-single
returns-then-not-single c = front_shared _ _ _ (sym c.if-not-single.ensures) (rw c.in_ok-lowest.ensures.ok_part at c.room_for.ensures)

-- where the head's piece is own, it is in use
leads : (c : Else-not-single) → InUse (decode c.args.pool.now) (c.args.head - 1)
leads c = let T = decode c.args.pool.now in link_leads T c.args.head c.requires.0.sound c.requires.1 (single_link c.args.head T (sym c.if-not-single.ensures))

pub piece_next-requires : goal.piece_next-requires
piece_next-requires c =
    let o = c.requires.0.shaped in
    (o, omega (arith, (leads (goal.at.piece_next-requires c).Else-not-single).below, total_pieces (whole o)))

pub single-requires-then-wanted-eq2 : goal.single-requires-then-wanted-eq2
single-requires-then-wanted-eq2 c = (c.requires.0, rw c.piece_next.ensures (leads (goal.at.single-requires-then-wanted-eq2 c).Else-not-single).onward)

pub returns-then-not-single-2 : goal.returns-then-not-single-2
returns-then-not-single-2 c =
    let p = c.requires in
    front_alone _ c.args.head p.0.sound p.1 (sym c.if-not-single.ensures) c.piece_next.ensures c.args.wanted _ c.if-wanted-eq2.true (sym c.if-not-single-2.ensures) c.beside.ensures

pub returns : goal.returns
returns c =
    let p = c.requires in
    let one = sym c.if-not-single.ensures in
    elim c.else-wanted-eq2.branch [
      | else-wanted-eq2-via-then-wanted-eq2+else-not-single-2 w ↦
          front_both _ c.args.head p.0.sound p.1 one w.piece_next.ensures c.args.wanted p.2 (sym w.if-not-single-2.ensures)
      | else-wanted-eq2-via-else-wanted-eq2 w ↦ front_own_lem _ c.args.head p.0.sound p.1 one c.args.wanted (omega (arith, p.2, w.if-wanted-eq2.false))
    ]
