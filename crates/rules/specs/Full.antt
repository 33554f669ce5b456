-- When drop and pullup find no piece, by the own pieces of their slip.
use Rattle.std.specs.Prelude.{◌≡◌, ◌↔◌, [], ℕ, ◌<◌, length}
use Rattle.kinds.specs.declared.Refusal.TheVariants.{Pieces}
use Rattle.kinds.specs.Refusal.{refusal_code}
use Rattle.rules.specs.Bytes.{decode}
use Rattle.rules.specs.Chain.{own_of}
use Rattle.rules.specs.Sound.{Lent}
use Rattle.rules.specs.Rule.{Name}
use Rattle.rules.specs.Step.{Call, Do, Drop, Pullup, step}
use Rattle.rules.specs.Demand.{early, wanted, left}

-- a call answers 9: it finds too few pieces
abbrev pub TooFew : Call → Lent → Type 0
TooFew c m = (step c m).code ≡ refusal_code Pieces

-- no code judged before room applies, and pieces are wanted
abbrev pub WantsPieces : Call → Lent → Type 0
WantsPieces c m = (early c m ≡ 0) × (0 < (wanted c m).pieces)

-- how many pieces of slip s are own: its head is where any is
abbrev pub owned : Name → Lent → ℕ
owned s m = length (own_of (decode m.pool) s.slip)

-- where the head of slip s is not own, nothing would be given back, and room is what is free
abbrev pub NotOwn : Call → Name → Lent → Type 0
NotOwn c s m = owned s m ≡ 0 → ((wanted c m).back ≡ []) × (TooFew c m ↔ ((left m).pieces < (wanted c m).pieces))

-- where it is own, drop is never 9
pub record DropFull (s : Name) (n : ℕ) (m : Lent) : Type 0 where
  pub own : 0 < owned s m → TooFew (Do (Drop s n)) m → ⊥
  pub not_own : NotOwn (Do (Drop s n)) s m

-- and pullup is 9 exactly when it wants two, nothing is free and one piece would be given back
pub record PullupFull (s : Name) (n : ℕ) (m : Lent) : Type 0 where
  pub own : 0 < owned s m
      → TooFew (Do (Pullup s n)) m ↔ (((wanted (Do (Pullup s n)) m).pieces ≡ 2) × ((left m).pieces ≡ 0) × (length (wanted (Do (Pullup s n)) m).back ≡ 1))
  pub not_own : NotOwn (Do (Pullup s n)) s m

-- The claim about both calls on any bytes, proved in proofs/Full.antt.
pub record FullOk (s : Name) (n : ℕ) (m : Lent) : Type 0 where
  pub drop : WantsPieces (Do (Drop s n)) m → DropFull s n m
  pub pullup : WantsPieces (Do (Pullup s n)) m → PullupFull s n m
