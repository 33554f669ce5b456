-- 16-bit numbers in a list of bytes, low byte first (little-endian).
use Rattle.std.specs.Prelude.{ℕ, ◌+◌, ◌*◌, ◌/◌, ◌%◌, List, [], ◌∷◌, get_or, set}

-- the number that stands at byte a of p: a 16-bit little-endian load
unfoldable pub get16 : List ℕ → ℕ → ℕ
get16 p a = get_or p a 0 + get_or p (a + 1) 0 * 256

-- p with the number v at byte a: a 16-bit little-endian store
unfoldable pub set16 : List ℕ → ℕ → ℕ → List ℕ
set16 p a v = set (set p a (v % 256)) (a + 1) (v / 256 % 256)

-- the bytes of numbers one after another: a list of 16-bit numbers, serialised little-endian
abbrev pub bytes16 : List ℕ → List ℕ
bytes16 [] = []
bytes16 (v ∷ vs) = v % 256 ∷ v / 256 % 256 ∷ bytes16 vs
