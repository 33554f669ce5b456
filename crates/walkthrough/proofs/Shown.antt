-- What is written of a show: its place, its bytes one after the other, and the whole. Assumes nothing.
use mathlib.Core.Path.{◌≡◌, refl, sym, ap, ◌∙◌}
use mathlib.Core.List.{List, [], ◌∷◌, ◌++◌, append-nil, append_assoc}
use Prim.Native.Nat.{ℕ}
use Rattle.rules.specs.Sound.{lent}
use Rattle.rules.specs.Rule.{Name}
use Rattle.rules.specs.Step.{Show, Do, step}
use Rattle.calls_look.specs.declared.Shown.{Shown}
use Rattle.calls_look.specs.Shown.{view_in, shown_of, bytes_shown}
use Rattle.page.specs.Page.{ascii}
use Rattle.page.proofs.Ink.{inks}
use Rattle.page.specs.Digits.{tagged}
use Rattle.reply.specs.declared.Reply.TheVariants.{Number}
use Rattle.reply.specs.Text.{answer_text}
use Rattle.walkthrough.specs.Row.{place_text, bytes_text, shown_text}

bytes_append : (xs ys : List ℕ) → bytes_text (xs ++ ys) ≡ bytes_text xs ++ bytes_text ys
unfolding bytes_text
bytes_append [] ys = refl
bytes_append (x ∷ xs) ys = ap (λ (t : List ℕ). tagged " " x ++ t) (bytes_append xs ys) ∙ sym (append_assoc (tagged " " x) (bytes_text xs) (bytes_text ys))

pub bytes_none : bytes_text [] ≡ []
unfolding bytes_text
bytes_none = refl

-- one number more
pub bytes_push : (xs : List ℕ) (x : ℕ) → bytes_text (xs ++ (x ∷ [])) ≡ bytes_text xs ++ tagged " " x
unfolding bytes_text
bytes_push xs x = bytes_append xs (x ∷ []) ∙ ap (λ (t : List ℕ). bytes_text xs ++ t) (append-nil (tagged " " x))

-- what the search is given of rows
pub ruleset rows = (inks, bytes_none, bytes_push)

-- the row of an answer x of show s, n, whose bytes are seen
module _ {x : Shown} {sc bytes : List ℕ} (p st before : List ℕ) (s : Name) (n : ℕ) where
  pub shown_row : shown_of x p st sc ≡ step (Do (Show s n before)) (lent p st) → bytes ≡ bytes_shown s n before (lent p st)
      → answer_text Number (record { code = x.code; number = x.number }) ++ place_text (view_in x) ++ bytes_text bytes ++ ascii "\n\n"
      ≡ shown_text s n before (lent p st)
  shown_row w e =
      λ i. answer_text Number (record { code = (w i).code; number = (w i).number }) ++ place_text (w i).view ++ bytes_text (e i) ++ ascii "\n\n"
