-- When a pool is sound: document 01's list, and the same list as a test that computes.
use Rattle.std.specs.Prelude.{◌≡◌, Bool, true, false, ◌&&◌, List, [], ◌∷◌, ℕ, zero, suc, ◌+◌, ◌<◌, length, get_or, ltb, eqb, leb}
use Rattle.kinds.specs.Limits.{most_buffers, most_pieces, most_slips, counted}
use Rattle.kinds.specs.Sizes.{size_of}
use Rattle.rules.specs.Basics.{Is, whether◌then◌else◌, bit, sum_to, all_to}
use Rattle.rules.specs.Layout.{version, pool_length, storage_length, mark}
use Rattle.rules.specs.Tables.{Piece, Tables, piece, buffer_count, is_blank, head_of, slip_total, piece_total, buffer_total}
use Rattle.rules.specs.Bytes.{version_in, buffers_in, pieces_in, slips_in, decode}
use Rattle.rules.specs.Chain.{follow}

-- What every call is lent, in bytes: the pool and its storage.
pub record Lent : Type 0 where
  pub pool : List ℕ
  pub storage : List ℕ

abbrev pub lent : List ℕ → List ℕ → Lent
lent pool storage = record { pool = pool; storage = storage }

abbrev pub in_use : Piece → Bool
in_use p = ltb 0 p.count

-- the link n leads to piece d
abbrev pub leads : ℕ → ℕ → Bool
leads zero d = false
leads (suc e) d = eqb e d

-- ---- what is counted

-- the number of slips heading piece d
unfoldable pub heads : Tables → ℕ → ℕ
heads T d = sum_to (slip_total T) (λ s. bit (leads (head_of T s) d))

-- the number of pieces in use whose next is piece d
unfoldable pub nexts : Tables → ℕ → ℕ
nexts T d = sum_to (piece_total T) (λ c. bit (in_use (piece T c) && leads (piece T c).next d))

-- the number of pieces in use lying on buffer b
unfoldable pub lying : Tables → ℕ → ℕ
lying T b = sum_to (piece_total T) (λ c. bit (in_use (piece T c) && eqb (piece T c).buffer b))

-- ---- the conditions on one entry

-- no piece, or a piece below P with a count above 0
abbrev pub link_ok : Tables → ℕ → Bool
link_ok T zero = true
link_ok T (suc d) = ltb d (piece_total T) && in_use (piece T d)

-- all zero, or a buffer below B, a length of at least 1, inside the buffer, and a good next
abbrev pub piece_ok : Tables → Piece → Bool
piece_ok T p =
    whether eqb p.count 0
    then is_blank p
    else (ltb p.buffer (buffer_total T) && (leb 1 p.len && (leb (p.offset + p.len) (size_of T.stock p.buffer) && link_ok T p.next)))

-- the mark and the version are a pool's
abbrev pub marked : List ℕ → Bool
marked p = eqb (get_or p 0 0) (get_or mark 0 0) && (eqb (get_or p 1 0) (get_or mark 1 0) && (eqb (get_or p 2 0) (get_or mark 2 0) && eqb (version_in p) version))

-- B, P and S are in their ranges
abbrev pub counts_ok : ℕ → ℕ → ℕ → Bool
counts_ok B P S = counted most_buffers B && (counted most_pieces P && counted most_slips S)

-- a pool of n bytes and a storage of k have the lengths that B, P and S ask
abbrev pub lengths_ok : ℕ → ℕ → ℕ → ℕ → ℕ → Bool
lengths_ok B P S n k = eqb n (pool_length B P S) && eqb k (storage_length (B ∷ []) B)

-- mark, version, counts and both lengths fit: of a pool p whose header states B, P and S, beside k bytes of storage
unfoldable pub headed : List ℕ → ℕ → ℕ → ℕ → ℕ → Bool
headed p B P S k = marked p && (counts_ok B P S && lengths_ok B P S (length p) k)

unfoldable pub is_header_ok : Lent → Bool
unfolding headed
is_header_ok m = let p = m.pool in headed p (buffers_in p) (pieces_in p) (slips_in p) (length m.storage)

-- ---- the list

-- Following next never comes back to a piece already met: from a piece in use, each piece is
-- met after one number of follows only.
abbrev pub NeverBack : Tables → Type 0
NeverBack T = (d e i j : ℕ) → Is (in_use (piece T d)) → follow T i (suc d) ≡ suc e → follow T j (suc d) ≡ suc e → i ≡ j

-- the conditions on the tables
pub record SoundTables (T : Tables) : Type 0 where
  pub pieces_ok : (d : ℕ) → d < piece_total T → Is (piece_ok T (piece T d))
  pub slips_ok : (s : ℕ) → s < slip_total T → Is (link_ok T (head_of T s))
  pub piece_counts : (d : ℕ) → d < piece_total T → (piece T d).count ≡ heads T d + nexts T d
  pub buffer_counts : (b : ℕ) → b < buffer_total T → buffer_count T b ≡ lying T b
  pub never_back : NeverBack T

-- a pool and its storage are sound
pub record Sound (m : Lent) : Type 0 where
  pub header_ok : Is (is_header_ok m)
  pub tables_ok : SoundTables (decode m.pool)

-- ---- the test

-- following next from each piece ends within P follows
unfoldable pub acyclic : Tables → Bool
acyclic T = all_to (piece_total T) (λ d. eqb (follow T (piece_total T) (suc d)) 0)

unfoldable pub sound_tables : Tables → Bool
sound_tables T =
    all_to (piece_total T) (λ d. piece_ok T (piece T d))
    && (all_to (slip_total T) (λ s. link_ok T (head_of T s))
    && (all_to (piece_total T) (λ d. eqb (piece T d).count (heads T d + nexts T d))
    && (all_to (buffer_total T) (λ b. eqb (buffer_count T b) (lying T b))
    && acyclic T)))

-- What the audit computes. proofs/Audit.antt shows that it passes exactly where Sound holds.
unfoldable pub sound : Lent → Bool
sound m = is_header_ok m && sound_tables (decode m.pool)
