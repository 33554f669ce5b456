-- `transfer::copy_out` meets its contract: the bytes from the place `g` on are still to go to the place `at` of the output. Assumes nothing.
use native.Mathlib.Omega.{arith}
use Rattle.rules.specs.Bytes.{decode}
use Rattle.tables.proofs.Laws.{whole, total_pieces, storage_fits}
use Rattle.transfer.proofs.Copy.{Next, going_first, going_before, going_shaped, going_next, going_on, going_done, going_end}
use Rattle.transfer.proofs.copy_out.Goals as goal
use Rattle.transfer.proofs.copy_out.Goals.{After-extent_at-x}

pub loop-left-init : goal.loop-left-init
loop-left-init c =
    let p = c.requires in
    let fits = storage_fits (whole p.opened.0.shaped) p.backs in
    going_first (decode c.args.pool.now) c.args.storage.now c.args.c c.args.n c.args.output.now p.opened.0.sound fits p.opened.1 p.opened.2 p.n_bound.0 p.n_bound.1

pub extent_at-x-requires : goal.extent_at-x-requires
extent_at-x-requires c =
    let o = c.requires.opened.0 in
    let w = c.loop-left.invariant in
    record {
      shaped = going_shaped o.sound w c.loop-left-test.true o.shaped (total_pieces (whole o.shaped));
      into_bound = omega (arith, going_before o.sound w c.loop-left-test.true);
    }

-- the next extent
next : (c : After-extent_at-x) → Next (decode c.args.pool.now) c.args.storage.now c.loop-left.g c.loop-left.left c.extent_at-x.result
next c =
    let p = c.requires in
    going_next p.opened.0.sound c.loop-left.invariant c.loop-left-test.true (storage_fits (whole p.opened.0.shaped) p.backs) c.extent_at-x.ensures

pub copy_part-requires : goal.copy_part-requires
copy_part-requires c = let x = next (goal.at.copy_part-requires c).After-extent_at-x in (omega (arith, c.loop-left.invariant.room, x.most), x.lies, x.small)

pub advance-g-requires : goal.advance-g-requires
advance-g-requires c =
    let o = c.requires.opened.0 in
    record {
      shaped = going_shaped o.sound c.loop-left.invariant c.loop-left-test.true o.shaped (total_pieces (whole o.shaped));
      k_bound = (next (goal.at.advance-g-requires c).After-extent_at-x).within;
    }

pub loop-left-smaller : goal.loop-left-smaller
loop-left-smaller c = let x = next (goal.at.loop-left-smaller c).After-extent_at-x in omega (arith, x.some, x.most)

pub loop-left-preserved : goal.loop-left-preserved
loop-left-preserved c =
    let p = c.requires in
    let fits = storage_fits (whole p.opened.0.shaped) p.backs in
    (going_on p.opened.0.sound c.loop-left.invariant c.loop-left-test.true fits c.extent_at-x.ensures c.advance-g.ensures c.copy_part.ensures).1

pub returns : goal.returns
returns c =
    let w = c.loop-left.invariant in
    let o = c.requires.opened.0.sound in
    record { output_after = going_done o w c.loop-left-test.false; value = going_end o w c.loop-left-test.false }
