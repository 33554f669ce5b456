-- The bytes that open writes. Assumes nothing.
use mathlib.Core.Path.{◌≡◌, sym, ap, ◌∙◌}
use mathlib.Core.List.{List, [], ◌∷◌, ◌++◌, append_assoc}
use Prim.Native.Nat.{ℕ, ◌+◌, ◌-◌, ◌*◌, ◌≤◌}
use native.Mathlib.Omega.{arith}
use lib.ListN.{length, set, take, drop, replicate, length-drop}
use lib.Seq.{sets-eq}
use Rattle.word.specs.Word.{set16, bytes16}
use Rattle.rules.specs.Layout.{mark, version, version_at, buffers_at, pieces_at, slips_at, header_length, slip_width, piece_width, count_width, pool_length}
use Rattle.rules.specs.Tables.{fresh_tables}
use Rattle.rules.specs.Bytes.{encode}
use Rattle.rules.proofs.Bytes.{fresh_bytes}
use Rattle.storage.proofs.Laws.{lent_zeroed}

-- the mark and the version, byte by byte
pub put_mark : (l : List ℕ) → buffers_at ≤ length l → set16 (set (set (set l 0 83) 1 76) 2 80) version_at version ≡ mark ++ (bytes16 (version ∷ []) ++ drop buffers_at l)
unfolding set16
put_mark l h = sets-eq (mark ++ bytes16 (version ∷ [])) l 0 h

-- the counts, number by number
pub put_counts : (l : List ℕ) (B P S : ℕ) → header_length ≤ length l → set16 (set16 (set16 l buffers_at B) pieces_at P) slips_at S ≡ take buffers_at l ++ (bytes16 (B ∷ P ∷ S ∷ []) ++ drop header_length l)
unfolding set16
put_counts l B P S h = sets-eq (bytes16 (B ∷ P ∷ S ∷ [])) l buffers_at h ∙ append_assoc (take buffers_at l) (bytes16 (B ∷ P ∷ S ∷ [])) (drop header_length l)

-- the mark, the version, the counts, then zeros
pub put_fresh : (l m n z : List ℕ) (B P S : ℕ) → length l ≡ pool_length B P S → m ≡ mark ++ (bytes16 (version ∷ []) ++ drop buffers_at l)
    → n ≡ take buffers_at m ++ (bytes16 (B ∷ P ∷ S ∷ []) ++ drop header_length m) → z ≡ replicate (length (take (length n - header_length) (drop header_length n))) 0
    → take header_length n ++ (z ++ drop (length n - header_length) (drop header_length n)) ≡ encode (fresh_tables B P S)
put_fresh l m n z B P S long em en ez =
    let e : n ≡ mark ++ (bytes16 (version ∷ B ∷ P ∷ S ∷ []) ++ drop (header_length - buffers_at) (drop buffers_at l)) = rw em at en in
    let k : length n ≡ pool_length B P S = ap length e ∙ simp length-drop (omega arith) in
    let q : length n - header_length ≡ slip_width * S + piece_width * P + count_width * B = omega arith in
    lent_zeroed n z header_length (omega arith) ez ∙ rw (q, e) (sym (fresh_bytes B P S))
