-- The recount of demand 3: it reads slips, nexts and pieces' buffers, and no stored count.
use Rattle.std.specs.Prelude.{◌≡◌, ◌≢◌, ◌↔◌, Bool, not, ◌&&◌, ℕ, suc, ◌+◌, ◌<◌, eqb}
use Rattle.rules.specs.Basics.{Is, bit, sum_to, any_to, table, member}
use Rattle.rules.specs.Tables.{Tables, blank, is_blank, piece, buffer_count, head_of, serial, slip_total, piece_total, buffer_total, with_count, with_both}
use Rattle.rules.specs.Chain.{follow, chain}
use Rattle.rules.specs.Sound.{leads, heads}
use Rattle.rules.specs.Room.{is_vacant}
use Rattle.rules.specs.Rule.{Spare, spare}

-- A piece is reached if a held slip heads it, or if it is the next of a reached piece.
pub data Reached (T : Tables) : ℕ → Type 0 where
  headed : {d : ℕ} (s : ℕ) → s < slip_total T → head_of T s ≡ suc d → Reached T d
  after : {d : ℕ} (c : ℕ) → Reached T c → (piece T c).next ≡ suc d → Reached T d

-- the same, computed: d stands in the chain of a slip
unfoldable pub reached : Tables → ℕ → Bool
reached T d = any_to (slip_total T) (λ s. member d (chain T s))

-- a piece's references: the slips heading it and the reached pieces whose next it is
unfoldable pub references : Tables → ℕ → ℕ
references T d = heads T d + sum_to (piece_total T) (λ c. bit (reached T c && leads (piece T c).next d))

-- a buffer's references: the reached pieces lying on it
unfoldable pub holders : Tables → ℕ → ℕ
holders T b = sum_to (piece_total T) (λ c. bit (reached T c && eqb (piece T c).buffer b))

-- the tables T with f d for the count of each piece d, and g b for that of each buffer b
abbrev pub counted_by : Tables → (ℕ → ℕ) → (ℕ → ℕ) → Tables
counted_by T f g = with_both T (table (piece_total T) (λ d. with_count (piece T d) (f d))) (table (buffer_total T) g)

-- the tables with every count set to the references found
unfoldable pub recounted : Tables → Tables
recounted T = counted_by T (references T) (holders T)

-- what the recount leaves: slips vacant below the last serial, pieces not reached, buffers without references
unfoldable pub leaves : Tables → Spare
leaves T =
    spare (sum_to (slip_total T) (λ s. bit (is_vacant T s && not (eqb (serial T s) 65535))))
    (sum_to (piece_total T) (λ d. bit (not (reached T d))))
    (sum_to (buffer_total T) (λ b. bit (eqb (holders T b) 0)))

-- The recount agrees with the tables.
pub record Recount (T : Tables) : Type 0 where
  pub reached_is : (d : ℕ) → Is (reached T d) ↔ Reached T d
  pub piece_counts : (d : ℕ) → d < piece_total T → (piece T d).count ≡ references T d
  pub buffer_counts : (b : ℕ) → b < buffer_total T → buffer_count T b ≡ holders T b
  -- following next from a held slip never comes back to a piece already met
  pub never_back : (s e i j : ℕ) → s < slip_total T → follow T i (head_of T s) ≡ suc e → follow T j (head_of T s) ≡ suc e → i ≡ j
  -- so it ends: a chain has at most P pieces
  pub ends : (s : ℕ) → s < slip_total T → follow T (piece_total T) (head_of T s) ≡ 0
  -- no piece is both free and reached, and free + reached = P
  pub in_stock : (d : ℕ) → Reached T d → d < piece_total T
  pub not_both : (d : ℕ) → Reached T d → piece T d ≢ blank
  pub stock : sum_to (piece_total T) (λ d. bit (is_blank (piece T d))) + sum_to (piece_total T) (λ d. bit (reached T d)) ≡ piece_total T

-- The recount reads no stored count: with any counts f and g in their places it finds the same.
pub record Blind (T : Tables) (f g : ℕ → ℕ) : Type 0 where
  pub piece_count : (d : ℕ) → d < piece_total T → (piece (counted_by T f g) d).count ≡ f d
  pub buffer_count_lem : (b : ℕ) → b < buffer_total T → buffer_count (counted_by T f g) b ≡ g b
  pub same_reached : (d : ℕ) → reached (counted_by T f g) d ≡ reached T d
  pub same_references : (d : ℕ) → references (counted_by T f g) d ≡ references T d
  pub same_holders : (b : ℕ) → holders (counted_by T f g) b ≡ holders T b
  pub same_leaves : leaves (counted_by T f g) ≡ leaves T
