-- `audit::tables_ok_with` meets its contract. Assumes nothing.
use Rattle.counts.proofs.Counters.{cleared_zeros}
use Rattle.audit.proofs.tables_ok_with.Goals as goal

pub tables_ok_in-requires : goal.tables_ok_in-requires
tables_ok_in-requires g c = (c.requires.limited, cleared_zeros _ g.row.P c.requires.room.0, cleared_zeros _ g.row.B c.requires.room.1)
