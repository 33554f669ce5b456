-- What a name is worth over lists of calls: put, dup and cut give it, it is good until it is given up, and from then on it is refused.
use Rattle.std.specs.Prelude.{◌≡◌, ◌≢◌, ◌⊎◌, Bool, ◌&&◌, List, [], ◌∷◌, ◌++◌, ℕ, take, drop, eqb}
use Rattle.rules.specs.Basics.{whether◌then◌else◌, Among}
use Rattle.rules.specs.Bytes.{decode}
use Rattle.rules.specs.Chain.{State, reads}
use Rattle.rules.specs.Sound.{Lent}
use Rattle.rules.specs.Rule.{Name, answered}
use Rattle.rules.specs.Step.{Operation, Audit, Put, Free, Dup, Cut, Append, Drop, Keep, Pullup, Pack, Length, Read, Show, WireList}
use Rattle.rules.specs.Step.{Call, Open, Do, meaning, step, state_in, next}
use Rattle.rules.specs.Causes.{Missing}

-- the call names x, by its number and its serial
abbrev pub NamedBy : Call → Name → Type 0
NamedBy (Open B P S) x = ⊥
NamedBy (Do o) x = Among (meaning o).names x

-- the call is done; it is a done open
abbrev pub IsDone : Call → Lent → Type 0
IsDone c m = (step c m).code ≡ 0

abbrev pub Reopens : Call → Lent → Type 0
Reopens (Open B P S) m = IsDone (Open B P S) m
Reopens (Do o) m = ⊥

-- ---- a name that was given up

-- the operation gives x up: a free of it, or an append with it as b
abbrev pub GivesUp : Operation → Name → Type 0
GivesUp Audit x = ⊥
GivesUp (Put input) x = ⊥
GivesUp (Free s) x = s ≡ x
GivesUp (Dup s) x = ⊥
GivesUp (Cut s off n) x = ⊥
GivesUp (Append a b) x = b ≡ x
GivesUp (Drop s n) x = ⊥
GivesUp (Keep s n) x = ⊥
GivesUp (Pullup s n) x = ⊥
GivesUp (Pack s) x = ⊥
GivesUp (Length s) x = ⊥
GivesUp (Read s off n out) x = ⊥
GivesUp (Show s n scratch) x = ⊥
GivesUp (WireList s list) x = ⊥

-- the call is done, and gives x up
abbrev pub EndsName : Call → Name → Lent → Type 0
EndsName (Open B P S) x m = ⊥
EndsName (Do o) x m = IsDone (Do o) m × GivesUp o x

-- every call of a list, until a done open, is refused with 3 if it names x
abbrev pub Refuses : Name → List Call → Lent → Type 0
Refuses x [] m = Unit {0}
Refuses x (c ∷ cs) m = (NamedBy c x → (step c m).code ≡ 3) × ((Reopens c m → ⊥) → Refuses x cs (next c m))

-- ---- a name that was answered

-- put, dup and cut answer a name, and these are the bytes that it reads at first
abbrev pub NewName : Operation → Type 0
NewName Audit = ⊥
NewName (Put input) = Unit {0}
NewName (Free s) = ⊥
NewName (Dup s) = Unit {0}
NewName (Cut s off n) = Unit {0}
NewName (Append a b) = ⊥
NewName (Drop s n) = ⊥
NewName (Keep s n) = ⊥
NewName (Pullup s n) = ⊥
NewName (Pack s) = ⊥
NewName (Length s) = ⊥
NewName (Read s off n out) = ⊥
NewName (Show s n scratch) = ⊥
NewName (WireList s list) = ⊥

abbrev pub first_bytes : Operation → State → List ℕ
first_bytes Audit S = []
first_bytes (Put input) S = input
first_bytes (Free s) S = []
first_bytes (Dup s) S = reads S s.slip
first_bytes (Cut s off n) S = take n (drop off (reads S s.slip))
first_bytes (Append a b) S = []
first_bytes (Drop s n) S = []
first_bytes (Keep s n) S = []
first_bytes (Pullup s n) S = []
first_bytes (Pack s) S = []
first_bytes (Length s) S = []
first_bytes (Read s off n out) S = []
first_bytes (Show s n scratch) S = []
first_bytes (WireList s list) S = []

-- a and x are one name
abbrev pub is_name : Name → Name → Bool
is_name a x = eqb a.slip x.slip && eqb a.serial x.serial

-- what a done operation makes of the bytes xs that x reads: append, drop and keep alone change them, where they name x first
abbrev pub makes : Operation → State → Name → List ℕ → List ℕ
makes Audit S x xs = xs
makes (Put input) S x xs = xs
makes (Free s) S x xs = xs
makes (Dup s) S x xs = xs
makes (Cut s off n) S x xs = xs
makes (Append a b) S x xs = whether is_name a x then xs ++ reads S b.slip else xs
makes (Drop s n) S x xs = whether is_name s x then drop n xs else xs
makes (Keep s n) S x xs = whether is_name s x then take n xs else xs
makes (Pullup s n) S x xs = xs
makes (Pack s) S x xs = xs
makes (Length s) S x xs = xs
makes (Read s off n out) S x xs = xs
makes (Show s n scratch) S x xs = xs
makes (WireList s list) S x xs = xs

-- what any call makes of them: nothing where it is refused
abbrev pub made_by : Call → Lent → Name → List ℕ → List ℕ
made_by (Open B P S) m x xs = xs
made_by (Do o) m x xs = whether eqb (step (Do o) m).code 0 then makes o (state_in m) x xs else xs

-- The name x is good on m, and reads xs.
pub record Good (x : Name) (xs : List ℕ) (m : Lent) : Type 0 where
  pub held : Missing (decode m.pool) x → ⊥
  pub bytes : reads (state_in m) x.slip ≡ xs

-- the call does not refuse x: where it names x and answers 3, another name that it gives is missing
abbrev pub Accepts : Name → Call → Lent → Type 0
Accepts x c m = NamedBy c x → (step c m).code ≡ 3 → (y : Name) × NamedBy c y × (y ≢ x) × Missing (decode m.pool) y

-- Before and after every call of a list, until x is given up or the pool opened anew, x is good and reads what the done calls that name it have made of xs.
abbrev pub Lives : Name → List ℕ → List Call → Lent → Type 0
Lives x xs [] m = Good x xs m
Lives x xs (c ∷ cs) m = Good x xs m × Accepts x c m × ((Reopens c m ⊎ EndsName c x m → ⊥) → Lives x (made_by c m x xs) cs (next c m))

-- the call does not answer x; and no call of a list does, until a done open
abbrev pub AnswersOther : Call → Name → Lent → Type 0
AnswersOther (Open B P S) x m = Unit {0}
AnswersOther (Do o) x m = NewName o → IsDone (Do o) m → answered (step (Do o) m).number ≢ x

abbrev pub Differs : Name → List Call → Lent → Type 0
Differs x [] m = Unit {0}
Differs x (c ∷ cs) m = AnswersOther c x m × ((Reopens c m → ⊥) → Differs x cs (next c m))

-- ---- the promise

-- What is promised of the done operation o on m, with the calls cs after it.
pub record Promised (o : Operation) (cs : List Call) (m : Lent) : Type 0 where
  -- a name that it gives up is refused with 3 from then on
  pub given_up : (x : Name) → GivesUp o x → Refuses x cs (next (Do o) m)
  -- a name that it answers is good from then on, and is answered to nobody else
  pub lives : NewName o → Lives (answered (step (Do o) m).number) (first_bytes o (state_in m)) cs (next (Do o) m)
  pub once : NewName o → Differs (answered (step (Do o) m).number) cs (next (Do o) m)

abbrev pub PromisedOf : Call → List Call → Lent → Type 0
PromisedOf (Open B P S) cs m = Unit {0}
PromisedOf (Do o) cs m = IsDone (Do o) m → Promised o cs m

-- The claim about any list of calls on any bytes, proved in proofs/Serials.antt.
abbrev pub SerialsOk : List Call → Lent → Type 0
SerialsOk [] m = Unit {0}
SerialsOk (c ∷ cs) m = PromisedOf c cs m × SerialsOk cs (next c m)
