-- `audit::tables_ok_in` meets its contract. Assumes nothing.
use Rattle.counts.proofs.Ranges.{references_pieces}
use Rattle.audit.proofs.Follows.{tested_torn, tested_held}
use Rattle.audit.proofs.Colours.{plain_held}
use Rattle.audit.proofs.tables_ok_in.Goals as goal

pub returns-then-not-references_ok : goal.returns-then-not-references_ok
returns-then-not-references_ok c = tested_torn _ (cc)

pub ends-requires : goal.ends-requires
ends-requires c = (c.requires.0, references_pieces _ (cc), plain_held c.requires.0 (c.references_ok.ensures.held (cc)))

pub returns : goal.returns
returns c = tested_held _ (cc) c.ends.ensures.exact c.ends.ensures.follows c.ends.ensures.bounded
