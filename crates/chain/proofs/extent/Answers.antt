-- `chain::extent` meets its contract. Assumes nothing.
use Rattle.std.proofs.Common.{arith}
use Rattle.rules.specs.Bytes.{decode}
use Rattle.chain.proofs.Parts.{extent_is, extent_no}
use Rattle.chain.proofs.extent.Goals as goal

pub returns : goal.returns
returns c = let T = decode c.args.pool.now in grind (arith, extent_is T c.args.link c.args.n, extent_no T c.args.link c.args.n)
