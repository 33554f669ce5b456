-- dup: soundness is kept, what its slip then holds, and that it is lawful. Assumes nothing.
use mathlib.Core.Path.{◌≡◌, refl, ap, sym, ◌∙◌}
use mathlib.Core.Logic.{inr}
use mathlib.Core.List.{[], ◌∷◌, List, ◌++◌}
use Prim.Native.Nat.{ℕ, zero, suc, ◌<◌, ◌≤◌, min, pred}
use native.Mathlib.Omega.{arith}
use lib.ListN.{length, take, drop}
use Rattle.rules.specs.Basics.{whether◌then◌else◌}
use Rattle.rules.specs.Tables.{Tables, piece, head_of, buffer_total}
use Rattle.rules.specs.Chain.{State, stretches, Stretch, chain, stretch, spans, reads, total}
use Rattle.rules.specs.Release.{shared}
use Rattle.rules.specs.Room.{ready_slips, free_pieces, new_slip, is_unheld}
use Rattle.rules.specs.Rule.{Name, want}
use Rattle.rules.specs.Dup.{dup_plan, dup_after, dup_call}
use Rattle.rules.proofs.Moves.{SoundNow}
use Rattle.rules.proofs.Rank.{next_pos, head_pos}
use Rattle.rules.proofs.Build.{share_sound, still_shared, Planned, plain_planned, new_sound, Good}
use Rattle.rules.proofs.Room.{free_pieces_lem, new_slip_ok, passing_none}
use Rattle.rules.proofs.Chain.{stretches_good, chain_used, spans_good}
use Rattle.rules.proofs.Meets.{Meets, stop, go, chain_meets, same_refl, shared_same}
use Rattle.rules.proofs.Hang.{Gives, gives_as, new_gives}
use Rattle.rules.proofs.Caused.{found, slip_one, twice_one, none_less}
use Rattle.rules.proofs.Sizes.{Sizes, new_sizes, same_sizes, shared_sizes}
use Rattle.rules.proofs.After.{gives_reading, reads_length}
use Rattle.rules.proofs.Takes.{buffers_of, new_front, roomy, spans_none, took_new, used_drop}
use Rattle.rules.proofs.Lawful.{Lawful, new_vacant, Leaving, Taking, Causing}
use Rattle.rules.proofs.Stays.{NoneFreed, stays_as, new_held}

pub dup_planned : (T : Tables) (n : ℕ) → ((d : ℕ) → n ≡ suc d → 0 < (piece T d).count) → SoundNow T → Planned T (dup_plan T n)
unfolding dup_plan stretches
dup_planned T zero h S = plain_planned T [] tt S
dup_planned T (suc d) h (rank, S) = record {
  still = still_shared T (piece T d).next (λ e q. next_pos d e S q);
  good = stretches_good (d ∷ []) S (h d refl, tt);
  held = (rank, share_sound (piece T d).next (λ e q. next_pos d e S q) S);
}

pub dup_sound : (s : ℕ) (S : State) → 0 < length (ready_slips S.tables) → SoundNow S.tables → SoundNow (dup_after s S).tables
unfolding dup_after
dup_sound s S h (rank, g) =
    let T = S.tables in
    new_sound (dup_plan T (head_of T s)) (free_pieces T) (new_slip T) (dup_planned T (head_of T s) (λ d q. head_pos s d g q) (rank, g)) (free_pieces_lem T) (new_slip_ok T h).0 (ap pred (new_slip_ok T h).1)

-- the chain before the new piece: what is behind the head
dup_meets : (T : Tables) (n : ℕ) (l : List ℕ) → ((d : ℕ) → n ≡ suc d → 0 < (piece T d).count) → SoundNow T → Meets T n l
    → Meets (dup_plan T n).base (dup_plan T n).tail (drop (length (dup_plan T n).more) l) × ((dup_plan T n).more ++ stretches (dup_plan T n).base (drop (length (dup_plan T n).more) l) ≡ stretches T l)
unfolding dup_plan stretches
dup_meets T n l u S stop = (stop, refl)
dup_meets T n l u (rank, S) (go {d = d} {l = l₁} c) =
    let r = shared_same T (piece T d).next (piece T d).next (λ e q. next_pos d e S q) l₁ c in
    (r.0, ap {B = List Stretch} (λ xs. stretch (piece T d) ∷ xs) r.1)

dup_others : (T : Tables) (n u : ℕ) → SoundNow T → ((l : List ℕ) → Meets T (head_of T u) l → Meets (dup_plan T n).base (head_of T u) l × (stretches (dup_plan T n).base l ≡ stretches T l))
unfolding dup_plan
dup_others T zero u S = same_refl T (head_of T u)
dup_others T (suc d) u (rank, S) = shared_same T (piece T d).next (head_of T u) (λ e q. next_pos d e S q)

-- what dup leaves: the new slip holds a new piece for the head, and the rest of the same chain
pub dup_gives : (s : ℕ) (S : State) → SoundNow S.tables → 0 < length (ready_slips S.tables) → length (dup_plan S.tables (head_of S.tables s)).more ≤ length (free_pieces S.tables)
    → Gives S.tables (dup_after s S).tables (new_slip S.tables)
    (take (length (dup_plan S.tables (head_of S.tables s)).more) (free_pieces S.tables) ++ drop (length (dup_plan S.tables (head_of S.tables s)).more) (chain S.tables s))
    (spans S.tables s)
unfolding dup_after
dup_gives s S (rank, g) v r =
    let T = S.tables in
    let n = head_of T s in
    let u : (d : ℕ) → n ≡ suc d → 0 < (piece T d).count = λ d q. head_pos s d g q in
    let m = dup_meets T n (chain T s) u (rank, g) (chain_meets T s (rank, g)) in
    gives_as refl m.1
    (new_gives (dup_plan T n) (free_pieces T) (drop (length (dup_plan T n).more) (chain T s)) (dup_planned T n u (rank, g)) (free_pieces_lem T) r m.0 (new_slip T) (new_slip_ok T v).0 (λ u' _. dup_others T n u' (rank, g)))

-- ---- dup is lawful

dup_sizes : (T : Tables) (n : ℕ) → Sizes T (dup_plan T n).base
unfolding dup_plan
dup_sizes T zero = same_sizes T
dup_sizes T (suc d) = shared_sizes T (piece T d).next

-- to share a piece is to touch no buffer
shared_held : (T : Tables) (n : ℕ) → NoneFreed T (shared T n)
shared_held T zero b u = u
shared_held T (suc d) b u = u

dup_held : (T : Tables) (n : ℕ) → NoneFreed T (dup_plan T n).base
unfolding dup_plan
dup_held T zero b u = u
dup_held T (suc d) b u = shared_held T (piece T d).next b u

dup_leaves : (x : Name) → Leaving (dup_call x)
unfolding dup_after
dup_leaves x S h _ a h' =
    let T = S.tables in
    let s = x.slip in
    gives_reading S (dup_after s S) S.storage (new_slip T) _ (spans T s) (reads S s) (dup_gives s S h a.slips_room (omega (arith, a.pieces_room))) h h'
    (λ u. refl) (λ u. refl) refl

dup_takes : (x : Name) → Taking (dup_call x)
dup_takes x S h a h' =
    let T = S.tables in
    let s = x.slip in
    let k = length (dup_plan T (head_of T s)).more in
    took_new T _ _ _ h h' (dup_gives s S h a.slips_room (omega (arith, a.pieces_room))) k 0 (roomy a)
    (new_front T k (drop k (chain T s)) (used_drop T k (chain T s) (chain_used T s h))) (passing_none (is_unheld T) (buffers_of (spans T s)) (spans_none T s h))

-- it wants a piece where its chain has bytes
dup_count : (T : Tables) (n : ℕ) (l : List ℕ) → Meets T n l → Good T.stock (buffer_total T) (stretches T l)
    → length (dup_plan T n).more ≡ min 1 (total (stretches T l))
unfolding dup_plan stretches total
dup_count T n l stop g = omega arith
dup_count T n l (go c) g = omega (arith, g.1)

dup_caused : (x : Name) → Causing (dup_call x)
unfolding found whether◌then◌else◌
dup_caused x S h f = record {
  below = omega arith;
  slip = slip_one S.tables x;
  same = twice_one x.slip;
  long = none_less 512;
  range = none_less _;
  narrow = none_less 0;
  asked = λ z. (
      let T = S.tables in
      let k = dup_count T (head_of T x.slip) (chain T x.slip) (chain_meets T x.slip h) (spans_good T x.slip h) in
      ap (λ j. want 1 j 0) (k ∙ ap (min 1) (sym (reads_length S h f x.slip))));
}

pub dup_lawful : (x : Name) → Lawful (dup_call x)
unfolding dup_after
dup_lawful x = record {
  codes = λ S. omega arith;
  sizes = λ S. (let T = S.tables in new_sizes (dup_plan T (head_of T x.slip)) (free_pieces T) (new_slip T) (dup_sizes T (head_of T x.slip)));
  ages = λ S _. (λ v. absurd v, λ v. v, tt);
  stays = λ S _ _ _. (let T = S.tables in stays_as S (dup_after x.slip S) 0 refl
      (new_held T (dup_plan T (head_of T x.slip)) (free_pieces T) (new_slip T) (dup_held T (head_of T x.slip))));
  sound = λ S h a. dup_sound x.slip S a.slips_room h;
  known = λ S a. (inr (new_vacant S.tables a.slips_room), tt);
  caused = dup_caused x;
  leaves = dup_leaves x;
  takes = dup_takes x;
}
