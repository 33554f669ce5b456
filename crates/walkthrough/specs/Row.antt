-- A row of the walk-through, behind its call: the answer, the tables or the bytes shown, a blank line.
use Rattle.std.specs.Prelude.{List, [], ◌∷◌, ◌++◌, ℕ, eqb}
use Rattle.kinds.specs.declared.Answer.{Answer}
use Rattle.rules.specs.Basics.{whether◌then◌else◌}
use Rattle.rules.specs.Sound.{Lent}
use Rattle.rules.specs.Rule.{Name, View}
use Rattle.rules.specs.Step.{Show, Do, step}
use Rattle.calls_look.specs.Shown.{bytes_shown}
use Rattle.page.specs.Page.{ascii}
use Rattle.page.specs.Digits.{tagged}
use Rattle.reply.specs.declared.Reply.{Reply}
use Rattle.reply.specs.declared.Reply.TheVariants.{Number}
use Rattle.reply.specs.Text.{answer_text}
use Rattle.draw.specs.Text.{pool_text}

abbrev pub row_text : Reply → Answer → List ℕ → List ℕ
row_text kind a pool = answer_text kind a ++ ascii "\n" ++ pool_text pool ++ ascii "\n"

-- the place of a view, on a line of its own
abbrev pub place_text : View → List ℕ
place_text v = whether eqb v.in_scratch 0 then ascii "\n  storage " else ascii "\n  scratch "

-- numbers in decimal, each behind a space: the bytes shown, or what a call is given
unfoldable pub bytes_text : List ℕ → List ℕ
bytes_text [] = []
bytes_text (b ∷ bs) = tagged " " b ++ bytes_text bs

-- Behind show s, n: its answer, the place, the bytes that the caller sees there, a blank line.
abbrev pub shown_text : Name → ℕ → List ℕ → Lent → List ℕ
shown_text s n scratch m =
    let r = step (Do (Show s n scratch)) m in
    answer_text Number (record { code = r.code; number = r.number }) ++ place_text r.view ++ bytes_text (bytes_shown s n scratch m) ++ ascii "\n\n"
