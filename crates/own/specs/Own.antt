-- The own pieces of a chain.
use Rattle.std.specs.Prelude.{Bool, false, List, [], ◌∷◌, ℕ, zero, suc, length, eqb}
use Rattle.rules.specs.Basics.{last_of}
use Rattle.rules.specs.Tables.{Tables, piece, piece_total}
use Rattle.rules.specs.Chain.{follow, own_pieces, stretches, total, cut_out}
use Rattle.own.specs.declared.OwnRun.{OwnRun}
use Rattle.own.specs.declared.OwnPart.{OwnPart}
use Rattle.chain.specs.Length.{stretches_from}

-- the link n leads to a piece of count 1
abbrev pub single : Tables → ℕ → Bool
single T zero = false
single T (suc d) = eqb (piece T d).count 1

-- the link to the last of the pieces, 0 where there is none
abbrev pub last_link : List ℕ → ℕ
last_link [] = 0
last_link (d ∷ ds) = suc (last_of d ds)

-- the own pieces from the link n: the link to the last, and the link after them
unfoldable pub own_run : Tables → ℕ → OwnRun
own_run T n =
    let own = own_pieces (piece_total T) T n in
    record { last = last_link own; next = follow T (length own) n }

-- the own pieces that the first m bytes from the link n overlap: their bytes, the link to the last, and the link after them
unfoldable pub own_part : Tables → ℕ → ℕ → OwnPart
own_part T n m =
    let own = own_pieces (length (cut_out (stretches_from T n) 0 m)) T n in
    record { bytes = total (stretches T own); last = last_link own; next = follow T (length own) n }
