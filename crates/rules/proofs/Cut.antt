-- cut: soundness is kept, what its slip then holds, how many bytes, and that it is lawful. Assumes nothing.
use mathlib.Core.Path.{◌≡◌, refl, ap}
use mathlib.Core.Logic.{inr}
use mathlib.Core.List.{[], append-nil}
use Prim.Native.Nat.{ℕ, ◌<◌, ◌≤◌, ◌+◌, pred}
use native.Mathlib.Omega.{arith}
use lib.ListN.{length, take, drop, length-take, length-drop}
use Rattle.rules.specs.Basics.{whether◌then◌else◌}
use Rattle.rules.specs.Tables.{buffer_total, piece_total}
use Rattle.rules.specs.Chain.{State, spans, cut_out, stretches, reads}
use Rattle.rules.specs.Room.{ready_slips, free_pieces, new_slip, is_free, is_unheld}
use Rattle.rules.specs.Build.{plain}
use Rattle.rules.specs.Rule.{Name, want}
use Rattle.rules.specs.Cut.{cut_after, cut_call}
use Rattle.rules.specs.Step.{Cut, rule}
use Rattle.rules.proofs.Moves.{SoundNow}
use Rattle.rules.proofs.Build.{plain_planned, new_sound}
use Rattle.rules.proofs.Room.{free_pieces_lem, new_slip_ok, passing_none}
use Rattle.rules.proofs.Chain.{spans_good, cut_out_good}
use Rattle.rules.proofs.Meets.{stop, same_refl}
use Rattle.rules.proofs.Hang.{Gives, gives_as, new_gives}
use Rattle.rules.proofs.Contents.{Fit, contents_length, cut_out_contents}
use Rattle.rules.proofs.Overlaps.{overlaps_cut}
use Rattle.rules.proofs.Codes.{Allowed, no-cause}
use Rattle.rules.proofs.Caused.{found, slip_one, twice_one, none_less, past_is}
use Rattle.rules.proofs.Sizes.{new_sizes, same_sizes}
use Rattle.rules.proofs.After.{gives_reading}
use Rattle.rules.proofs.Takes.{buffers_of, cut_out_none, new_pass, roomy, spans_none, took_new}
use Rattle.rules.proofs.Lawful.{Lawful, new_vacant, Leaving, Taking, Causing}
use Rattle.rules.proofs.Stays.{stays_as, new_held}

pub cut_sound : (s off n : ℕ) (S : State) → 0 < length (ready_slips S.tables) → SoundNow S.tables → SoundNow (cut_after s off n S).tables
unfolding cut_after
cut_sound s off n S h g =
    let T = S.tables in
    let xs = cut_out (spans T s) off n in
    new_sound (plain T xs) (free_pieces T) (new_slip T) (plain_planned T xs (cut_out_good T.stock (buffer_total T) (spans T s) off n (spans_good T s g)) g) (free_pieces_lem T) (new_slip_ok T h).0 (ap pred (new_slip_ok T h).1)

-- what cut leaves: the new slip holds one new piece for each stretch of the range
pub cut_gives : (s off n : ℕ) (S : State) → SoundNow S.tables → 0 < length (ready_slips S.tables) → length (cut_out (spans S.tables s) off n) ≤ length (free_pieces S.tables)
    → Gives S.tables (cut_after s off n S).tables (new_slip S.tables) (take (length (cut_out (spans S.tables s) off n)) (free_pieces S.tables)) (cut_out (spans S.tables s) off n)
unfolding cut_after stretches
cut_gives s off n S g v r =
    let T = S.tables in
    let xs = cut_out (spans T s) off n in
    gives_as (append-nil (take (length xs) (free_pieces T))) (append-nil xs)
    (new_gives (plain T xs) (free_pieces T) [] (plain_planned T xs (cut_out_good T.stock (buffer_total T) (spans T s) off n (spans_good T s g)) g) (free_pieces_lem T) r stop (new_slip T) (new_slip_ok T v).0 (λ u _. same_refl T _))

-- a done cut stays within the chain: its new slip reads n bytes, not fewer
pub cut_exact : (s : Name) (off n : ℕ) (S : State) → SoundNow S.tables → Fit S.tables.stock (buffer_total S.tables) S.storage → Allowed (rule (Cut s off n) S) S.tables
    → length (take n (drop off (reads S s.slip))) ≡ n
unfolding rule
cut_exact s off n S h f a =
    let c = simp no-cause at a.early in
    let l = contents_length S.tables.stock (buffer_total S.tables) S.storage (spans S.tables s.slip) f (spans_good S.tables s.slip h) in
    simp (length-take, length-drop) (omega arith)

-- ---- cut is lawful

cut_leaves : (x : Name) (off n : ℕ) → Leaving (cut_call x off n)
unfolding cut_after
cut_leaves x off n S h f a h' =
    gives_reading S (cut_after x.slip off n S) S.storage (new_slip S.tables) _ _ _ (cut_gives x.slip off n S h a.slips_room (omega (arith, a.pieces_room))) h h'
    (λ u. refl) (λ u. refl)
    (cut_out_contents S.tables.stock (buffer_total S.tables) S.storage (spans S.tables x.slip) off n f (spans_good S.tables x.slip h))

cut_takes : (x : Name) (off n : ℕ) → Taking (cut_call x off n)
cut_takes x off n S h a h' =
    let T = S.tables in
    let s = x.slip in
    let xs = cut_out (spans T s) off n in
    took_new T _ _ _ h h' (cut_gives s off n S h a.slips_room (omega (arith, a.pieces_room))) (length xs) 0 (roomy a)
    (new_pass (is_free T) (piece_total T) (length xs)) (passing_none (is_unheld T) (buffers_of xs) (cut_out_none (is_unheld T) (spans T s) off n (spans_none T s h)))

cut_caused : (x : Name) (off n : ℕ) → Causing (cut_call x off n)
unfolding found whether◌then◌else◌
cut_caused x off n S h f = record {
  below = omega arith;
  slip = slip_one S.tables x;
  same = twice_one x.slip;
  long = none_less 512;
  range = past_is S h f x.slip (off + n);
  narrow = none_less 0;
  asked = λ z. ap (λ k. want 1 k 0) (overlaps_cut S.tables.stock (buffer_total S.tables) (spans S.tables x.slip) off n (spans_good S.tables x.slip h));
}

pub cut_lawful : (x : Name) (off n : ℕ) → Lawful (cut_call x off n)
unfolding cut_after
cut_lawful x off n = record {
  codes = λ S. omega arith;
  sizes = λ S. new_sizes (plain S.tables _) (free_pieces S.tables) (new_slip S.tables) (same_sizes S.tables);
  ages = λ S _. (λ v. absurd v, λ v. v, tt);
  stays = λ S _ _ _. stays_as S (cut_after x.slip off n S) 0 refl
      (new_held S.tables (plain S.tables _) (free_pieces S.tables) (new_slip S.tables) (λ b u. u));
  sound = λ S h a. cut_sound x.slip off n S a.slips_room h;
  known = λ S a. (inr (new_vacant S.tables a.slips_room), tt);
  caused = cut_caused x off n;
  leaves = cut_leaves x off n;
  takes = cut_takes x off n;
}
