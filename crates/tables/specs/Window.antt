-- The part of a buffer that a piece covers, loaded.
use Rattle.rules.specs.Chain.{Stretch}
use Rattle.tables.specs.declared.Window.{Window}

-- the stretch of a loaded window
abbrev pub window_of : Window → Stretch
window_of w = record { buffer = w.buffer.0; offset = w.offset; len = w.len }
