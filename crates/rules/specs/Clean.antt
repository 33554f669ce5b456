-- What calls leave in the buffers, and that those without references are clean.
use Rattle.std.specs.Prelude.{◌≡◌, ◌≢◌, ◌↔◌, List, ℕ, ◌<◌, length, replicate}
use Rattle.rules.specs.Tables.{buffer_total}
use Rattle.rules.specs.Bytes.{decode}
use Rattle.rules.specs.Chain.{bytes_of}
use Rattle.rules.specs.Storage.{whole_of, Zeroed}
use Rattle.rules.specs.Sound.{Lent}
use Rattle.rules.specs.Step.{Call, Open, step, next, after_calls}
use Rattle.rules.specs.Recount.{holders}
use Rattle.rules.specs.Lists.{NoOpen, Unopened}

-- ---- one call

-- by the recount no piece lies on buffer b of the pool
abbrev pub Unused : ℕ → Lent → Type 0
Unused b m = holders (decode m.pool) b ≡ 0

-- A buffer that the call neither takes nor gives back keeps every byte.
abbrev pub LeavesOthers : Call → Lent → Type 0
LeavesOthers c m = (b : ℕ) → b < buffer_total (decode m.pool) → (Unused b m ↔ Unused b (next c m))
    → let Z = (decode m.pool).stock in bytes_of Z (next c m).storage (whole_of Z b) ≡ bytes_of Z m.storage (whole_of Z b)

-- A buffer that it gives back is zero; a done open, which touches no storage, is not asked.
abbrev pub CleansBack : Call → Lent → Type 0
CleansBack c m = NoOpen c m → (b : ℕ) → b < buffer_total (decode m.pool) → (Unused b m → ⊥) → Unused b (next c m)
    → Zeroed (decode m.pool).stock (next c m).storage b

-- ---- lists of calls

-- where buffer b is not used it is zero
abbrev pub CleanAt : ℕ → Lent → Type 0
CleanAt b m = b < buffer_total (decode m.pool) → Unused b m → Zeroed (decode m.pool).stock m.storage b

-- The claim, proved in proofs/Cleaned.antt: m is any pool over zeroed storage on which an open was done, cs any list of calls that holds no other done open.
abbrev pub StaysClean : Type 0
StaysClean = (B P S : ℕ) (m : Lent) (cs : List Call) → (step (Open B P S) m).code ≡ 0 → m.storage ≡ replicate (length m.storage) 0
    → Unopened cs (next (Open B P S) m) → (b : ℕ) → CleanAt b (after_calls cs (next (Open B P S) m))
