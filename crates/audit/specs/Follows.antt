-- How often the audit follows next: once for each piece that its walks meet, so at most P times.
use Rattle.std.specs.Prelude.{◌≡◌, Bool, ◌&&◌, ℕ, suc, ◌≤◌, eqb, Result, Ok, Err, is_ok}
use Rattle.rules.specs.Basics.{whether◌then◌else◌, bit, sum_to, all_to, any_to}
use Rattle.rules.specs.Tables.{Tables, piece_total}
use Rattle.rules.specs.Bytes.{decode}
use Rattle.rules.specs.Chain.{follow}
use Rattle.rules.specs.Sound.{Lent, is_header_ok, sound_tables}
use Rattle.counts.specs.Ranges.{references_ok}

-- following next from piece d ends
abbrev pub ends_from : Tables → ℕ → Bool
ends_from T d = eqb (follow T (piece_total T) (suc d)) 0

-- following next from piece d meets piece e, d itself being met first
unfoldable pub meets : Tables → ℕ → ℕ → Bool
meets T d e = any_to (piece_total T) (λ k. eqb (follow T k (suc d)) (suc e))

-- Piece d is walked from: from every piece before it following next ends. So the walks stop with the first that comes back.
unfoldable pub walked_from : Tables → ℕ → Bool
walked_from T d = all_to d (ends_from T)

-- some walk meets piece e
unfoldable pub is_met : Tables → ℕ → Bool
is_met T e = any_to (piece_total T) (λ d. walked_from T d && meets T d e)

-- the follows of all walks: one for each piece met, however many walks come to it
unfoldable pub follows_of : Tables → ℕ
follows_of T = sum_to (piece_total T) (λ e. bit (is_met T e))

-- the follows of the test of the tables: none where an entry or a count is wrong, since there nothing is walked
unfoldable pub tables_follows : Tables → ℕ
tables_follows T = whether references_ok T then follows_of T else 0

-- the follows that following next took, whether it ends or comes back
abbrev pub followed : Result ℕ ℕ → ℕ
followed (Ok n) = n
followed (Err n) = n

-- what the test of the tables answers: Ok where they are sound, and the follows, at most P
pub record Tested (T : Tables) (r : Result ℕ ℕ) : Type 0 where
  pub exact : is_ok r ≡ sound_tables T
  pub follows : followed r ≡ tables_follows T
  pub bounded : followed r ≤ piece_total T

-- the follows of the audit: none where the header does not fit
unfoldable pub audit_follows : Lent → ℕ
audit_follows m = whether is_header_ok m then tables_follows (decode m.pool) else 0
