-- The walks with colours: from each piece without a colour next is followed, and each piece met gets the walk's colour.
use Rattle.std.specs.Prelude.{◌≡◌, false, List, map, ℕ, suc, ◌+◌, ◌-◌, ◌/◌, ◌≤◌, ◌<◌, length, get_or, ltb, Result, IfOk, IfErr}
use Rattle.kinds.specs.Limits.{most_buffers, most_pieces, most_count}
use Rattle.rules.specs.Basics.{bit, sum_to}
use Rattle.rules.specs.Tables.{Tables, piece, piece_total}
use Rattle.rules.specs.Chain.{follow}
use Rattle.rules.specs.Sound.{acyclic}
use Rattle.audit.specs.Follows.{followed, follows_of}

-- the most pieces and buffers of a small pool
abbrev pub few_pieces : ℕ
few_pieces = most_pieces / 8

abbrev pub few_buffers : ℕ
few_buffers = most_buffers / 8

-- the colours in counters c: what is above every count; a count itself is none, 0
unfoldable pub colours_in : List ℕ → List ℕ
colours_in c = map (λ n. n - most_count) c

-- counters for n pieces that hold counts alone, and no colour
pub record Plain (n : ℕ) (c : List ℕ) : Type 0 where
  pub long : n ≤ length c
  pub each : (d : ℕ) → d < n → get_or c d 0 ≤ most_count

-- how many of the first n pieces have a colour
unfoldable pub coloured : List ℕ → ℕ → ℕ
coloured c n = sum_to n (λ d. bit (ltb 0 (get_or c d 0)))

-- where the link n leads to a piece, that piece has a colour
abbrev pub Covered : List ℕ → ℕ → Type 0
Covered c n = (e : ℕ) → n ≡ suc e → 0 < get_or c e 0

-- The pieces before d have been walked from, with n follows and the colours c: n is the number of pieces with a
-- colour, no colour is above d, and from each piece with a colour following next ends within n follows. A colour
-- says from which piece its piece was met, and next leads from a piece with a colour to none without.
pub record Scanned (T : Tables) (c : List ℕ) (n d : ℕ) : Type 0 where
  pub long : piece_total T ≤ length c
  pub linked : (e : ℕ) → e < piece_total T → (piece T e).next ≤ piece_total T
  pub within : d ≤ piece_total T
  pub follows : n ≡ coloured c (piece_total T)
  pub older : (e : ℕ) → e < piece_total T → get_or c e 0 ≤ d
  pub passed : (e : ℕ) → e < d → 0 < get_or c e 0
  pub ended : (e : ℕ) → e < piece_total T → 0 < get_or c e 0 → follow T n (suc e) ≡ 0
  pub met : (e w : ℕ) → e < piece_total T → get_or c e 0 ≡ suc w → (k : ℕ) × (k < n) × (follow T k (suc w) ≡ suc e)
  pub closed : (e : ℕ) → e < piece_total T → 0 < get_or c e 0 → Covered c (piece T e).next

-- What a walk from piece d leaves: n follows, at most P, Ok where it ends. Where it comes back, n is the follows of all walks.
pub record Walked (T : Tables) (c : List ℕ) (d : ℕ) (r : Result ℕ ℕ) : Type 0 where
  pub bounded : followed r ≤ piece_total T
  pub good : IfOk r (λ n. Scanned T c n (d + 1))
  pub bad : IfErr r (λ n. (acyclic T ≡ false) × (n ≡ follows_of T))
