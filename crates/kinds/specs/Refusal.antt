-- The codes of the refusals.
use Rattle.std.specs.Prelude.{ℕ}
use Rattle.kinds.specs.declared.Refusal.{Refusal}
use Rattle.kinds.specs.declared.Refusal.TheVariants.{Counts, Torn, Slip, Same, Long, Range, Narrow, Slips, Pieces, Buffers, WireList}

-- the code of a refusal: an error number
abbrev pub refusal_code : Refusal → ℕ
refusal_code Counts = 1
refusal_code Torn = 2
refusal_code Slip = 3
refusal_code Same = 4
refusal_code Long = 5
refusal_code Range = 6
refusal_code Narrow = 7
refusal_code Slips = 8
refusal_code Pieces = 9
refusal_code Buffers = 10
refusal_code WireList = 11
