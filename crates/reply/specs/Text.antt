-- The text of an answer, behind its call: `-> slip 0`, `-> slip 0.1`, `-> done`, `-> 130`, or, refused, `-> 10 BUFFERS`.
use Rattle.std.specs.Prelude.{List, [], ◌∷◌, ◌++◌, ℕ, get_or, eqb}
use Prim.Native.String.{String}
use Rattle.kinds.specs.Serial.{slip_in, serial_in}
use Rattle.kinds.specs.declared.Answer.{Answer}
use Rattle.rules.specs.Basics.{whether◌then◌else◌}
use Rattle.page.specs.Page.{ascii}
use Rattle.page.specs.Digits.{tagged, serial_text}
use Rattle.reply.specs.declared.Reply.{Reply}
use Rattle.reply.specs.declared.Reply.TheVariants.{Slip, Done, Number}

-- the names of the codes 1 to 11: document 01's, then document 02's
abbrev pub names : List String
names = "" ∷ " COUNTS" ∷ " TORN" ∷ " SLIP" ∷ " SAME" ∷ " LONG" ∷ " RANGE" ∷ " NARROW" ∷ " SLIPS" ∷ " PIECES" ∷ " BUFFERS" ∷ " LIST" ∷ []

abbrev pub name_text : ℕ → List ℕ
name_text code = ascii (get_or names code "")

-- a done call's answer
abbrev pub done_text : Reply → ℕ → List ℕ
done_text Slip n = tagged " -> slip " (slip_in n) ++ serial_text (serial_in n)
done_text Done n = ascii " -> done"
done_text Number n = tagged " -> " n

abbrev pub answer_text : Reply → Answer → List ℕ
answer_text kind a = whether eqb a.code 0 then done_text kind a.number else (tagged " -> " a.code ++ name_text a.code)
