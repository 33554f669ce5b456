-- What slp_stretches has before it writes.
use Rattle.std.specs.Prelude.{◌≡◌, List, ℕ, ◌*◌, ◌≤◌, length, Result, Ok, Err}
use Rattle.kinds.specs.SlipState.{state_of}
use Rattle.kinds.specs.declared.Refusal.{Refusal}
use Rattle.rules.specs.Basics.{Is}
use Rattle.rules.specs.Tables.{slip, head_of}
use Rattle.rules.specs.Bytes.{decode}
use Rattle.rules.specs.Sound.{link_ok, lent}
use Rattle.rules.specs.Rule.{Name, no_view}
use Rattle.rules.specs.Read.{copied}
use Rattle.rules.specs.List.{records}
use Rattle.rules.specs.Step.{WireList, Do, step}
use Rattle.chain.specs.Opened.{Opened}
use Rattle.chain.specs.Length.{stretches_from}
use Rattle.answer.specs.Result.{result_of}
use Rattle.calls_look.specs.declared.Begun.{Begun}

-- What stretches writes from: with room for so many records, those from the link on are all that list writes, and with them it is done as list is.
-- Its step has the slip's state, and its link is the slip's head.
pub record Ready (p st : List ℕ) (s : Name) (room : ℕ) (b : Begun) : Type 0 where
  pub opened : Opened p b.shape
  pub good : Is (link_ok (decode p) b.link)
  pub fits : length (stretches_from (decode p) b.link) ≤ room
  pub answers : (list : List ℕ) → length list ≡ 2 * room
      → result_of (Ok b.step) p st (copied (records (decode p).stock (stretches_from (decode p) b.link)) list) no_view
      ≡ step (Do (WireList s list)) (lent p st)
  pub leaves : b.step.state ≡ state_of (slip (decode p) s.slip)
  pub head : b.link ≡ head_of (decode p) s.slip

-- r is what stretches begins with, or list's refusal, with which no list changes
abbrev pub Begins : List ℕ → List ℕ → Name → ℕ → Result Begun Refusal → Type 0
Begins p st s room (Ok b) = Ready p st s room b
Begins p st s room (Err why) = (list : List ℕ) → length list ≡ 2 * room → result_of (Err why) p st list no_view ≡ step (Do (WireList s list)) (lent p st)
