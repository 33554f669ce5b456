-- A link hung behind own pieces: the rule, and what can be released then. Assumes nothing.
use mathlib.Core.Path.{◌≡◌, refl}
use mathlib.Core.List.{List, [], ◌∷◌}
use Prim.Native.Nat.{ℕ, suc, ◌<◌}
use Rattle.rules.specs.Basics.{last_of}
use Rattle.rules.specs.Tables.{Tables, head_of, slip_total}
use Rattle.rules.specs.Chain.{State}
use Rattle.rules.specs.Build.{behind_own}
use Rattle.rules.proofs.Moves.{SoundWith}
use Rattle.rules.proofs.Build.{OwnList, tail_sound}
use Rattle.own.specs.Own.{last_link}
use Rattle.release.specs.Release.{turned_storage, relinked_storage}
use Rattle.release.specs.Hang.{Hangable, hung_to, hung_storage}
use Rattle.release.proofs.Laws.{turned_tables, relinked_tables}

-- the rule, over the tables alone
pub behind_tables : (S : State) (s n : ℕ) (own : List ℕ) → (behind_own S s own n).tables ≡ hung_to S.tables s (last_link own) n
unfolding behind_own
behind_tables S s n [] = turned_tables S s (suc n)
behind_tables S s n (d ∷ ds) = relinked_tables S (last_of d ds) n

-- and its storage
pub behind_storage : (S : State) (s n : ℕ) (own : List ℕ) → (behind_own S s own n).storage ≡ hung_storage S.tables S.storage s (last_link own) n
unfolding behind_own turned_storage relinked_storage
behind_storage S s n [] = refl
behind_storage S s n (d ∷ ds) = refl

-- a held link can be hung behind the own pieces of a slip
pub hangable : (T : Tables) (s n : ℕ) (own : List ℕ) → s < slip_total T → OwnList T (head_of T s) own → SoundWith (n ∷ []) T → Hangable T (last_link own) n
hangable T s n [] l o h = record { others = []; sound = h }
hangable T s n (d ∷ ds) l (j, o) h = record { others = []; sound = tail_sound T s n j (last_of d ds) l o h }
