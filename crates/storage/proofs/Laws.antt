-- What a part that was lent leaves of the whole.
use mathlib.Core.Path.{sym, ap, ◌∙◌}
use mathlib.Core.List.{append_assoc}
use lib.ListN.{take-append-drop}
use lib.Seq.{take-take, take-add, drop-append-le}
use Rattle.std.proofs.Common.{◌≡◌, ℕ, ◌+◌, ◌-◌, ◌≤◌, List, [], ◌++◌, length, take, drop, replicate, length-take, length-drop, arith}
use Rattle.std.proofs.Math.Seq.{take_all, drop-drop}
use Rattle.std.proofs.lemmas.Grind.{common_steps}
use Rattle.rules.specs.Storage.{filled_at}

-- what stands from n on put back as z, which is zeros
pub lent_zeroed : (l z : List ℕ) (n : ℕ) → n ≤ length l → z ≡ replicate (length (take (length l - n) (drop n l))) 0
    → take n l ++ (z ++ drop (length l - n) (drop n l)) ≡ take n l ++ replicate (length l - n) 0
lent_zeroed l z n h f = grind (arith, common_steps)

-- the stretch of z bytes from a on put back as y, which is xs and then zeros
pub lent : (st xs y : List ℕ) (a z : ℕ) → a + z ≤ length st → length xs ≤ z → y ≡ xs ++ replicate (length (take (a + z - a) (drop a st)) - length xs) 0
    → take a st ++ (y ++ drop (a + z - a) (drop a st)) ≡ filled_at st a z xs
unfolding filled_at
lent st xs y a z h k e =
    let n : a + z - a ≡ z = omega arith in
    let m : length (take z (drop a st)) ≡ z = simp (length-take, length-drop) (omega arith) in
    rw (e, n, m, drop-drop, take_all z xs k)

-- and put back as y, which is zeros
pub cleaned : (st y : List ℕ) (a z : ℕ) → a + z ≤ length st → y ≡ replicate (length (take (a + z - a) (drop a st))) 0
    → take a st ++ (y ++ drop (a + z - a) (drop a st)) ≡ filled_at st a z []
cleaned st y a z h e = lent st [] y a z h (omega arith) (e ∙ ap (λ (n : ℕ). replicate n 0) (omega arith))

-- x written t bytes into the part of s bytes from a on is x written at a + t
inner_write : (l x : List ℕ) (a s t n : ℕ) → t + n ≤ s → a + s ≤ length l
    → take a l ++ ((take t (take s (drop a l)) ++ (x ++ drop (t + n) (take s (drop a l)))) ++ drop (a + s) l) ≡ take (a + t) l ++ (x ++ drop (a + t + n) l)
inner_write l x a s t n h k =
    let D = drop a l in
    let front : take a l ++ take t (take s D) ≡ take (a + t) l = ap (λ (q : List ℕ). take a l ++ q) (take-take t s D (omega arith)) ∙ sym (take-add a t l) in
    let i : a + (t + n) ≡ a + t + n = omega arith in
    let back : drop (t + n) (take s D) ++ drop (a + s) l ≡ drop (a + t + n) l =
    ap (λ (q : List ℕ). drop (t + n) (take s D) ++ q) (sym (drop-drop s a l))
    ∙ sym (drop-append-le (t + n) (take s D) (drop s D) (simp (length-take, length-drop) (omega arith)))
    ∙ ap (drop (t + n)) (take-append-drop s D) ∙ drop-drop (t + n) a l ∙ ap (λ j. drop j l) i in
    simp append_assoc (rw back (sym (append_assoc (take a l) (take t (take s D)) _) ∙ ap (λ (q : List ℕ). q ++ (x ++ drop (a + t + n) l)) front))

-- the stretch of z bytes from a on put back as y, which has x written t bytes into it
pub written : (st x y : List ℕ) (a z t n : ℕ) → a + z ≤ length st → t + n ≤ z → length x ≡ n
    → y ≡ take t (take (a + z - a) (drop a st)) ++ (x ++ drop (t + length x) (take (a + z - a) (drop a st)))
    → take a st ++ (y ++ drop (a + z - a) (drop a st)) ≡ take (a + t) st ++ (x ++ drop (a + t + n) st)
written st x y a z t n h k l e =
    let m : a + z - a ≡ z = omega arith in
    rw (e, l, m, drop-drop) (inner_write st x a z t n k h)
