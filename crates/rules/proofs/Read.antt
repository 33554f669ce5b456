-- read: the bytes that it copies, and what of the output stays. Assumes nothing.
use mathlib.Core.Path.{◌≡◌, ap, ◌∙◌, refl}
use mathlib.Core.List.{List, [], ◌∷◌}
use Prim.Native.Nat.{ℕ, ◌≤◌, ◌+◌}
use native.Mathlib.Omega.{arith}
use lib.ListN.{length, take, drop, length-append, length-take, length-drop}
use lib.Seq.{take_at, drop_at}
use Rattle.rules.specs.Basics.{whether◌then◌else◌}
use Rattle.rules.specs.Tables.{buffer_total}
use Rattle.rules.specs.Chain.{State, reads}
use Rattle.rules.specs.Rule.{Name}
use Rattle.rules.specs.Read.{copied, read, read_asks, read_call}
use Rattle.rules.specs.Step.{Read, rule}
use Rattle.rules.proofs.Moves.{SoundNow}
use Rattle.rules.proofs.Contents.{Fit}
use Rattle.rules.proofs.Codes.{Allowed, no-cause}
use Rattle.rules.proofs.After.{reads_length}
use Rattle.rules.proofs.Caused.{found, slip_one, twice_one, none_less, less_is, past_is}
use Rattle.rules.proofs.Lawful.{Lawful, looks_lawful, Causing}

-- n bytes xs copied to the front of an output
module _ (n : ℕ) (xs out : List ℕ) (e : length xs ≡ n) where
  -- are its first n bytes
  pub copied_front : take n (copied xs out) ≡ xs
  copied_front = take_at xs _ n e

  -- leave the bytes past them
  pub copied_rest : drop n (copied xs out) ≡ drop n out
  copied_rest = drop_at xs _ n e ∙ ap (λ k. drop k out) e

  -- and leave its length, where they fit
  pub copied_length : n ≤ length out → length (copied xs out) ≡ length out
  copied_length l = simp (length-append, length-drop) (omega arith)

-- What a read gives: n bytes, not fewer, at the front of the output, whose rest is unchanged.
pub record ReadExact (s : Name) (off n : ℕ) (out : List ℕ) (S : State) : Type 0 where
  pub in_full : length (take n (drop off (reads S s.slip))) ≡ n
  pub as_long : length (rule (Read s off n out) S).output ≡ length out
  pub front : take n (rule (Read s off n out) S).output ≡ take n (drop off (reads S s.slip))
  pub rest : drop n (rule (Read s off n out) S).output ≡ drop n out

-- a done read gives that
pub read_exact : (s : Name) (off n : ℕ) (out : List ℕ) (S : State) → SoundNow S.tables → Fit S.tables.stock (buffer_total S.tables) S.storage → Allowed (rule (Read s off n out) S) S.tables → ReadExact s off n out S
unfolding rule
read_exact s off n out S h f a =
    let c = simp no-cause at a.early in
    let l = reads_length S h f s.slip in
    let xs = take n (drop off (reads S s.slip)) in
    let e : length xs ≡ n = simp (length-take, length-drop) (omega arith) in
    record { in_full = e; as_long = copied_length n xs out e (omega arith); front = copied_front n xs out e; rest = copied_rest n xs out e }

-- ---- read only looks

read_caused : (x : Name) (off n : ℕ) (out : List ℕ) → Causing (read_call x off n out)
unfolding found whether◌then◌else◌
read_caused x off n out S h f = record {
  below = omega arith;
  slip = slip_one S.tables x;
  same = twice_one x.slip;
  long = none_less 512;
  range = past_is S h f x.slip (off + n);
  narrow = less_is (length out) n;
  asked = λ z. refl;
}

pub read_lawful : (x : Name) (off n : ℕ) (out : List ℕ) → Lawful (read_call x off n out)
read_lawful x off n out = looks_lawful (x ∷ []) out (read x off n out) (read_asks off n) (λ S. omega arith) (λ S. (refl, refl)) (read_caused x off n out)
