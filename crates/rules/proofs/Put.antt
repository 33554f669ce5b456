-- put: soundness is kept, what its slip then holds, and that it is lawful. Assumes nothing.
use mathlib.Core.Path.{◌≡◌, ap, ◌∙◌, refl}
use mathlib.Core.Logic.{inr}
use mathlib.Core.List.{List, [], append-nil}
use Prim.Native.Nat.{ℕ, ◌≤◌, ◌<◌, pred}
use native.Mathlib.Omega.{arith}
use lib.ListN.{length, length-take, take}
use Rattle.rules.specs.Tables.{Tables, buffer_total, piece_total}
use Rattle.rules.specs.Chain.{State, stretches}
use Rattle.rules.specs.Room.{is_unheld, ready_slips, free_pieces, free_buffers, new_slip, new_buffers, is_free}
use Rattle.rules.specs.Build.{plain, buffers_for, laid}
use Rattle.rules.specs.Put.{put_after, put_call}
use Rattle.rules.proofs.Moves.{SoundNow}
use Rattle.rules.proofs.Build.{Good, new_sound, plain_planned}
use Rattle.rules.proofs.Room.{free_pieces_lem, new_slip_ok, new_buffers_in}
use Rattle.rules.proofs.Chain.{laid_good}
use Rattle.rules.proofs.Meets.{stop, same_refl}
use Rattle.rules.proofs.Hang.{Gives, gives_as, new_gives}
use Rattle.rules.proofs.Contents.{laid_count}
use Rattle.rules.proofs.Caused.{found, slip_none, none_less}
use Rattle.rules.proofs.Sizes.{new_sizes, same_sizes}
use Rattle.rules.proofs.After.{gives_reading, new_here, new_others}
use Rattle.rules.proofs.Takes.{new_laid, new_pass, roomy, took_new}
use Rattle.rules.proofs.Lawful.{Lawful, new_vacant, Leaving, Taking, Causing}
use Rattle.rules.proofs.Stays.{stays_new, new_held}

-- n bytes on the lowest free buffers
pub new_good : (T : Tables) (n : ℕ) → Good T.stock (buffer_total T) (laid T.stock (new_buffers T (buffers_for n)) n)
new_good T n =
    laid_good T.stock (is_unheld T) 0 (buffer_total T) (new_buffers T (buffers_for n)) n (new_buffers_in T (buffers_for n)) (omega (arith, length-take (buffers_for n) (free_buffers T)))

pub put_sound : (input : List ℕ) (S : State) → 0 < length (ready_slips S.tables) → SoundNow S.tables → SoundNow (put_after input S).tables
unfolding put_after
put_sound input S h s =
    let T = S.tables in
    let xs = laid T.stock (new_buffers T (buffers_for (length input))) (length input) in
    new_sound (plain T xs) (free_pieces T) (new_slip T) (plain_planned T xs (new_good T (length input)) s) (free_pieces_lem T) (new_slip_ok T h).0 (ap pred (new_slip_ok T h).1)

pub new_count : (T : Tables) (k n : ℕ) → k ≤ length (free_buffers T) → length (laid T.stock (new_buffers T k) n) ≡ k
new_count T k n h = omega (arith, laid_count T.stock (new_buffers T k) n, length-take k (free_buffers T))

-- what put leaves: the new slip holds new pieces on new buffers
pub put_gives : (input : List ℕ) (S : State) → SoundNow S.tables → 0 < length (ready_slips S.tables)
    → buffers_for (length input) ≤ length (free_pieces S.tables) → buffers_for (length input) ≤ length (free_buffers S.tables)
    → Gives S.tables (put_after input S).tables (new_slip S.tables) (take (buffers_for (length input)) (free_pieces S.tables)) (laid S.tables.stock (new_buffers S.tables (buffers_for (length input))) (length input))
unfolding put_after stretches
put_gives input S s v rp rb =
    let T = S.tables in
    let n = length input in
    let xs = laid T.stock (new_buffers T (buffers_for n)) n in
    let c = new_count T (buffers_for n) n rb in
    let fs = free_pieces T in
    gives_as (append-nil (take (length xs) fs) ∙ ap (λ k. take k fs) c) (append-nil xs)
    (new_gives (plain T xs) fs [] (plain_planned T xs (new_good T n) s) (free_pieces_lem T) (omega (arith, c)) stop (new_slip T) (new_slip_ok T v).0 (λ u _. same_refl T _))

-- ---- put is lawful

put_leaves : (input : List ℕ) → Leaving (put_call input)
unfolding put_after
put_leaves input S h f a h' =
    let k = buffers_for (length input) in
    gives_reading S (put_after input S) _ (new_slip S.tables) _ _ input (put_gives input S h a.slips_room (omega (arith, a.pieces_room)) a.buffers_room) h h'
    (λ u. refl) (new_others S h f k input) (new_here S h f k input a.buffers_room (omega arith))

put_takes : (input : List ℕ) → Taking (put_call input)
put_takes input S h a h' =
    let T = S.tables in
    let k = buffers_for (length input) in
    took_new T _ _ _ h h' (put_gives input S h a.slips_room (omega (arith, a.pieces_room)) a.buffers_room) k k (roomy a)
    (new_pass (is_free T) (piece_total T) k) (new_laid T k (length input))

put_caused : (input : List ℕ) → Causing (put_call input)
unfolding found
put_caused input S h f = record {
  below = tt;
  slip = slip_none S.tables;
  same = (λ t. absurd t, λ x. absurd x);
  long = none_less 512;
  range = none_less _;
  narrow = none_less 0;
  asked = λ z. refl;
}

pub put_lawful : (input : List ℕ) → Lawful (put_call input)
unfolding put_after
put_lawful input = record {
  codes = λ S. omega arith;
  sizes = λ S. new_sizes (plain S.tables _) (free_pieces S.tables) (new_slip S.tables) (same_sizes S.tables);
  ages = λ S _. (λ v. absurd v, λ v. v, tt);
  stays = λ S _ f _. stays_new S _ (buffers_for (length input)) input f refl
      (new_held S.tables (plain S.tables _) (free_pieces S.tables) (new_slip S.tables) (λ b u. u));
  sound = λ S h a. put_sound input S a.slips_room h;
  known = λ S a. (inr (new_vacant S.tables a.slips_room), tt);
  caused = put_caused input;
  leaves = put_leaves input;
  takes = put_takes input;
}
