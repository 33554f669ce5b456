-- pack: soundness is kept, what its slip then holds, and that it is lawful. Assumes nothing.
use mathlib.Core.Path.{ap, ◌∙◌, refl, sym}
use mathlib.Core.Logic.{inl}
use mathlib.Core.List.{[], append-nil, ◌∷◌}
use Prim.Native.Nat.{ℕ, ◌<◌, ◌≤◌}
use native.Mathlib.Omega.{arith}
use lib.ListN.{length, take}
use lib.Dec.{leb}
use Rattle.rules.specs.Basics.{whether◌then◌else◌}
use Rattle.rules.specs.Tables.{slip_total, piece_total}
use Rattle.rules.specs.Chain.{State, chain, length_of, stretches, contents, reads, with_storage}
use Rattle.rules.specs.Room.{free_pieces, new_buffers, free_buffers, is_free}
use Rattle.rules.specs.Build.{plain, buffers_for, laid, under_old, stored}
use Rattle.rules.specs.Rule.{Name, Wants, reading, want}
use Rattle.rules.specs.Pack.{pack_after, pack_call, pack_wants}
use Rattle.rules.specs.Takes.{Took}
use Rattle.rules.proofs.Logic.{if_either, if_F, if_both}
use Rattle.rules.proofs.Moves.{SoundNow}
use Rattle.rules.proofs.Build.{plain_planned, old_sound}
use Rattle.rules.proofs.Room.{free_pieces_lem}
use Rattle.rules.proofs.Meets.{stop, same_refl}
use Rattle.rules.proofs.Hang.{Gives, gives_as, old_gives}
use Rattle.rules.proofs.Codes.{first_named}
use Rattle.rules.proofs.Caused.{found, slip_one, twice_one, none_less}
use Rattle.rules.proofs.Sizes.{old_sizes, same_sizes, maybe_sizes, new_length}
use Rattle.rules.proofs.After.{Reading, gives_reading, new_here, new_others, reads_length, same_reading}
use Rattle.rules.proofs.Takes.{Roomy, new_laid, new_pass, nothing_taken, roomy, took_held}
use Rattle.rules.proofs.Lawful.{Lawful, Leaving, Taking, Causing, Staying}
use Rattle.rules.proofs.Storage.{old_spans}
use Rattle.rules.proofs.Stays.{StorageStays, stays_as, old_stays}
use Rattle.rules.proofs.Put.{new_good, new_count}

pub pack_sound : (s : ℕ) (S : State) → s < slip_total S.tables → SoundNow S.tables → SoundNow (pack_after s S).tables
unfolding pack_after
pack_sound s S l h =
    let T = S.tables in
    let xs = laid T.stock (new_buffers T (buffers_for (length_of T s))) (length_of T s) in
    if_either (λ (X : State). SoundNow X.tables) (leb (length (chain T s)) 1) _ _ (λ _. h)
    (λ _. old_sound _ (plain T xs) (free_pieces T) s (plain_planned T xs (new_good T (length_of T s)) h) (free_pieces_lem T) l)

-- what pack leaves, where it changes anything: new pieces on new buffers
pub pack_gives : (s : ℕ) (S S₁ : State) → s < slip_total S.tables → SoundNow S.tables
    → buffers_for (length_of S.tables s) ≤ length (free_pieces S.tables) → buffers_for (length_of S.tables s) ≤ length (free_buffers S.tables)
    → Gives S.tables (under_old S₁ (plain S.tables (laid S.tables.stock (new_buffers S.tables (buffers_for (length_of S.tables s))) (length_of S.tables s))) (free_pieces S.tables) s).tables s
    (take (buffers_for (length_of S.tables s)) (free_pieces S.tables)) (laid S.tables.stock (new_buffers S.tables (buffers_for (length_of S.tables s))) (length_of S.tables s))
unfolding stretches
pack_gives s S S₁ b h rp rb =
    let T = S.tables in
    let n = length_of T s in
    let xs = laid T.stock (new_buffers T (buffers_for n)) n in
    let c = new_count T (buffers_for n) n rb in
    gives_as (append-nil (take (length xs) (free_pieces T)) ∙ ap (λ k. take k (free_pieces T)) c) (append-nil xs)
    (old_gives (plain T xs) (free_pieces T) [] (plain_planned T xs (new_good T n) h) (free_pieces_lem T) (omega (arith, c)) stop S₁ s b (λ u _. same_refl T _))

-- ---- pack is lawful

pack_leaves : (x : Name) → Leaving (pack_call x)
unfolding pack_after pack_wants
pack_leaves x S h f al =
    let T = S.tables in
    let s = x.slip in
    let (b, z) = first_named T x _ al.early in
    let stays = leb (length (chain T s)) 1 in
    let n = length_of T s in
    let k = buffers_for n in
    if_either (λ (X : State). SoundNow X.tables → Reading S X (reading s (reads S s) ∷ [])) stays _ _ (λ _ _. same_reading S s (reads S s) z refl)
    (λ ne h'. (
    let w = if_F stays (want 0 0 0) (want 0 k k) ne in
    let rp : k ≤ length (free_pieces T) = omega (arith, al.pieces_room, ap (λ (x : Wants). x.pieces) w, ap (λ (x : Wants). length x.back) w) in
    let rb : k ≤ length (free_buffers T) = omega (arith, al.buffers_room, ap (λ (x : Wants). x.buffers) w) in
    let bs = new_buffers T k in
    let S₁ = with_storage S (stored T.stock S.storage bs (reads S s)) in
    let p = plain T (laid T.stock bs n) in
    let long = reads_length S h f s in
    gives_reading S _ S₁.storage s _ _ (reads S s) (pack_gives s S S₁ b h rp rb) h h'
    (old_spans S₁ p (free_pieces T) s (plain_planned T p.more (new_good T n) h) (free_pieces_lem T) b (new_length S k (reads S s) f ∙ f))
    (new_others S h f k (reads S s))
    (ap (λ i. contents T.stock S₁.storage (laid T.stock bs i)) (sym long) ∙ new_here S h f k (reads S s) rb (omega arith))))

pack_takes : (x : Name) → Taking (pack_call x)
unfolding pack_after pack_wants
pack_takes x S h a h'' =
    let T = S.tables in
    let s = x.slip in
    let (b, z) = first_named T x _ a.early in
    let n = length_of T s in
    let k = buffers_for n in
    if_both (λ (X : State) (w : Wants). SoundNow X.tables → Roomy T w → Took T X.tables w s) (leb (length (chain T s)) 1) _ _ (want 0 0 0) (want 0 k k)
    (λ _ _ _. nothing_taken T s h)
    (λ _ h' r. took_held T _ s _ _ h h' (pack_gives s S _ b h (omega (arith, r.1)) r.2) z k k r (new_pass (is_free T) (piece_total T) k) (new_laid T k n))
    h'' (roomy a)

pack_caused : (x : Name) → Causing (pack_call x)
unfolding found whether◌then◌else◌ pack_wants
pack_caused x S h f = record {
  below = omega arith;
  slip = slip_one S.tables x;
  same = twice_one x.slip;
  long = none_less 512;
  range = none_less _;
  narrow = none_less 0;
  asked = λ z. ap (λ k. whether leb (length (chain S.tables x.slip)) 1 then want 0 0 0 else want 0 (buffers_for k) (buffers_for k)) (sym (reads_length S h f x.slip));
}

pack_stays : (x : Name) → Staying (pack_call x)
unfolding pack_after pack_wants
pack_stays x S h f a =
    let T = S.tables in
    let s = x.slip in
    let n = length_of T s in
    let k = buffers_for n in
    let xs = laid T.stock (new_buffers T k) n in
    if_both (λ (X : State) (w : Wants). StorageStays S X w.buffers) (leb (length (chain T s)) 1) _ _ (want 0 0 0) (want 0 k k)
    (λ _. stays_as S S 0 refl (λ b u. u))
    (λ _. old_stays S (reads S s) (plain T xs) (free_pieces T) s k (plain_planned T xs (new_good T n) h) (free_pieces_lem T)
    (first_named T x _ a.early).0 f (new_laid T k n))

pub pack_lawful : (x : Name) → Lawful (pack_call x)
unfolding pack_after
pack_lawful x = record {
  codes = λ S. omega arith;
  sizes = λ S. (let T = S.tables in maybe_sizes S _ (leb (length (chain T x.slip)) 1) (old_sizes _ (plain T _) (free_pieces T) x.slip (same_sizes T)));
  ages = λ S _. (λ v. absurd v, λ v. v, tt);
  stays = pack_stays x;
  sound = λ S h a. pack_sound x.slip S (first_named S.tables x _ a.early).0 h;
  known = λ S _. (inl refl, tt);
  caused = pack_caused x;
  leaves = pack_leaves x;
  takes = pack_takes x;
}
