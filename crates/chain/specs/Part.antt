-- What the first bytes of a chain take.
use Rattle.std.specs.Prelude.{ℕ, length, leb, Result, Ok, Err}
use Rattle.kinds.specs.declared.Refusal.{Refusal}
use Rattle.kinds.specs.declared.Refusal.TheVariants.{Range}
use Rattle.rules.specs.Basics.{whether◌then◌else◌}
use Rattle.rules.specs.Tables.{Tables}
use Rattle.rules.specs.Chain.{total, cut_out}
use Rattle.chain.specs.Length.{stretches_from}

-- the pieces that the first m bytes from the link n overlap: Ok where the chain has so many bytes, and Err where it has fewer
unfoldable pub part_of : Tables → ℕ → ℕ → Result ℕ ℕ
part_of T n m =
    let k = length (cut_out (stretches_from T n) 0 m) in
    whether leb m (total (stretches_from T n)) then Ok k else Err k

-- the pieces that the first m bytes from the link n overlap, or the refusal where they are not there
unfoldable pub extent_of : Tables → ℕ → ℕ → Result ℕ Refusal
extent_of T n m = whether leb m (total (stretches_from T n)) then Ok (length (cut_out (stretches_from T n) 0 m)) else Err Range
