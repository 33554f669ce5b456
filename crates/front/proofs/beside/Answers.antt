-- `front::beside` meets its contract. Assumes nothing.
use Rattle.std.proofs.Common.{◌≡◌, refl, arith}
use Rattle.std.specs.Prelude.{None}
use Rattle.rules.specs.Bytes.{decode}
use Rattle.front.proofs.Front.{given_one, given_alone}
use Rattle.front.proofs.beside.Goals as goal

pub returns-in_err-free : goal.returns-in_err-free
returns-in_err-free c =
    let none : c.lowest.result ≡ None = grind arith in
    grind (arith, given_alone (decode c.args.pool.now) c.args.d.0 refl (rw none at c.lowest.ensures))

pub returns : goal.returns
returns c = let (low, below) = rw c.in_ok-free.ensures.ok_part at c.lowest.ensures in rw c.min.ensures (given_one (decode c.args.pool.now) c.args.d.0 low below)
