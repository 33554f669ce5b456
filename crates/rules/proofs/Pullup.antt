-- pullup: soundness is kept, what its slip then holds, and that it is lawful. Assumes nothing.
use mathlib.Core.Path.{◌≡◌, refl, ap, ◌∙◌, sym}
use mathlib.Core.Logic.{inl}
use mathlib.Core.Bool.{true}
use mathlib.Core.List.{List, ◌++◌, append_assoc, [], ◌∷◌, map-append}
use Prim.Native.Nat.{ℕ, ◌+◌, ◌≤◌, ◌<◌, ◌-◌, suc}
use native.Mathlib.Omega.{arith}
use lib.ListN.{length, get_or, length-take, take, length-append, drop, take-append-drop}
use lib.Dec.{eqb→eq, leb}
use Rattle.kinds.specs.Sizes.{size_of}
use Rattle.rules.specs.Basics.{passing, whether◌then◌else◌}
use Rattle.rules.specs.Tables.{Tables, buffer_count, slip_total, buffer_total}
use Rattle.rules.specs.Chain.{State, spans, first_length, Stretch, stretches, chain, contents, reads, with_storage}
use Rattle.rules.specs.Room.{is_unheld, free_pieces, free_with, free_buffers, new_buffers}
use Rattle.rules.specs.Build.{laid, under_freed, stored}
use Rattle.rules.specs.Rule.{Name, Wants, reading, want, giving}
use Rattle.rules.specs.Drop.{dropped, drop_back, drop_pieces}
use Rattle.rules.specs.Pullup.{pulled, pullup_after, pullup_call, pullup_wants}
use Rattle.rules.specs.Takes.{Took}
use Rattle.rules.proofs.Logic.{if_either, not_most, if_F, if_both}
use Rattle.rules.proofs.Moves.{SoundNow}
use Rattle.rules.proofs.Build.{Good, Planned}
use Rattle.rules.proofs.Room.{AllIn, new_buffers_in, passing_back}
use Rattle.rules.proofs.Chain.{laid_good, good_append, spans_good}
use Rattle.rules.proofs.Hang.{Gives, gives_as}
use Rattle.rules.proofs.Contents.{stored_others, drop_out, Off, contents_append, drop_out_contents}
use Rattle.rules.proofs.Codes.{first_named, no-cause}
use Rattle.rules.proofs.Caused.{found, slip_one, twice_one, none_less, less_is, past_is}
use Rattle.rules.proofs.Sizes.{freed_sizes, maybe_sizes, new_length}
use Rattle.rules.proofs.After.{Reading, gives_reading, new_here, new_others, reads_length, same_reading, spans_off}
use Rattle.rules.proofs.Takes.{Roomy, buffers_of, drop_out_none, new_laid, nothing_taken, roomy, spans_none}
use Rattle.rules.proofs.Lawful.{Lawful, Leaving, Taking, Causing, Staying}
use Rattle.rules.proofs.Put.{new_count}
use Rattle.rules.proofs.Drop.{dropped_planned, dropped_leaves, plan_sizes, drop_count, drop_back_lem, dropped_spared}
use Rattle.rules.proofs.Storage.{Spared, spared_append}
use Rattle.rules.proofs.Stays.{StorageStays, stays_as}
use Rattle.rules.proofs.Freed.{emptied, freed_sound, freed_gives, took_freed, freed_spans, freed_stays}

-- n bytes on one new buffer
pub one_good : (T : Tables) (n : ℕ) → 1 ≤ n → Good T.stock (buffer_total T) (laid T.stock (new_buffers T 1) n)
one_good T n h = laid_good T.stock (is_unheld T) 0 (buffer_total T) (new_buffers T 1) n (new_buffers_in T 1) (omega (arith, length-take 1 (free_buffers T)))

pub pulled_planned : (T : Tables) (s n : ℕ) → 1 ≤ n → SoundNow T → Planned T (pulled T s n)
pulled_planned T s n h S =
    let d = dropped_planned T s n S in
    record { still = d.still; good = good_append T.stock (buffer_total T) (laid T.stock (new_buffers T 1) n) (dropped T s n).more (one_good T n h) d.good; held = d.held }

pub pullup_sound : (s n : ℕ) (S : State) → s < slip_total S.tables → SoundNow S.tables → SoundNow (pullup_after s n S).tables
unfolding pullup_after
pullup_sound s n S l h =
    let T = S.tables in
    if_either (λ (X : State). SoundNow X.tables) (leb n (first_length (spans T s))) _ _ (λ _. h)
    (λ t. freed_sound _ (pulled T s n) s (pulled_planned T s n (omega (arith, not_most n (first_length (spans T s)) t)) h) l)

-- what pullup leaves, where it changes anything: a new piece on a new buffer, before what drop leaves
pub pulled_count : (T : Tables) (s n : ℕ) → 1 ≤ length (free_buffers T) → length (pulled T s n).more ≡ 1 + length (dropped T s n).more
pulled_count T s n h = omega (arith, length-append (laid T.stock (new_buffers T 1) n) (dropped T s n).more, new_count T 1 n h)

-- what its slip then covers, and holds
pulled_covers : (T : Tables) (s n : ℕ) (b : s < slip_total T) (h : SoundNow T)
    → (pulled T s n).more ++ stretches (dropped T s n).base (dropped_leaves T s n b h).rest ≡ laid T.stock (new_buffers T 1) n ++ drop_out (spans T s) n
pulled_covers T s n b h =
    let v = dropped_leaves T s n b h in
    let xs = laid T.stock (new_buffers T 1) n in
    append_assoc xs (dropped T s n).more (stretches (dropped T s n).base v.rest) ∙ ap {B = List Stretch} (λ ys. xs ++ ys) v.covers

pub pullup_gives : (s n : ℕ) (S S₁ : State) (b : s < slip_total S.tables) (h : SoundNow S.tables) → 1 ≤ n
    → length (pulled S.tables s n).more ≤ length (drop_back S.tables s n) + length (free_pieces S.tables)
    → Gives S.tables (under_freed S₁ (pulled S.tables s n) s).tables s
    (take (length (pulled S.tables s n).more) (free_with S.tables (drop_back S.tables s n)) ++ (dropped_leaves S.tables s n b h).rest)
    (laid S.tables.stock (new_buffers S.tables 1) n ++ drop_out (spans S.tables s) n)
pullup_gives s n S S₁ b h p r =
    let T = S.tables in
    let v = dropped_leaves T s n b h in
    gives_as refl (pulled_covers T s n b h) (freed_gives S₁ (pulled T s n) s (pulled_planned T s n p h) b v.rest v.meets v.others r)

-- a new buffer is not set free, nor is that of a piece that is copied
new_spared : (T B E : Tables) (i : ℕ) (bs : List ℕ) (n : ℕ) → B.counts ≡ T.counts → AllIn (is_unheld T) i (buffer_total T) bs → Spared B E (laid T.stock bs n)
unfolding laid
new_spared T B E i [] n e a = tt
new_spared T B E i (b ∷ bs) n e a = (
  λ u. absurd (omega (arith, eqb→eq (buffer_count T b) 0 a.2, ap (λ (q : List ℕ). get_or q b 0) e)),
  new_spared T B E (suc b) bs (n - size_of T.stock b) e a.3,
)

pulled_spared : (S : State) (T : Tables) (s n : ℕ) → s < slip_total T → SoundNow T → Spared (pulled T s n).base (emptied S (pulled T s n) s).tables (pulled T s n).more
pulled_spared S T s n l h =
    let E = (emptied S (pulled T s n) s).tables in
    spared_append (dropped T s n).base E (laid T.stock (new_buffers T 1) n) (dropped T s n).more
    (new_spared T (dropped T s n).base E 0 (new_buffers T 1) n (dropped_planned T s n h).still.counts_still (new_buffers_in T 1)) (dropped_spared S T s n l h)

-- ---- pullup is lawful

off_drop : (bs : List ℕ) (xs : List Stretch) (n : ℕ) → Off bs xs → Off bs (drop_out xs n)
unfolding drop_out
off_drop bs [] n o = tt
off_drop bs (x ∷ xs) n o =
    if_either (Off bs) (leb x.len n) _ _ (λ _. off_drop bs xs (n - x.len) o.1) (λ _. (o.0, o.1))

good_drop_out : (Z : List ℕ) (B : ℕ) (xs : List Stretch) (n : ℕ) → Good Z B xs → Good Z B (drop_out xs n)
unfolding drop_out
good_drop_out Z B [] n g = tt
good_drop_out Z B (x ∷ xs) n g =
    if_either (Good Z B) (leb x.len n) _ _ (λ _. good_drop_out Z B xs (n - x.len) g.3)
    (λ t. (let k = not_most x.len n t in (g.0, omega arith, omega (arith, g.2), g.3)))

pullup_leaves : (x : Name) (n : ℕ) → Leaving (pullup_call x n)
unfolding pullup_after pullup_wants
pullup_leaves x n S h f al =
    let T = S.tables in
    let s = x.slip in
    let (b, z) = first_named T x _ al.early in
    let i = simp no-cause at al.early in
    let stays = leb n (first_length (spans T s)) in
    if_either (λ (X : State). SoundNow X.tables → Reading S X (reading s (reads S s) ∷ [])) stays _ _ (λ _ _. same_reading S s (reads S s) z refl)
    (λ ne h'. (
    let w = if_F stays (want 0 0 0) (giving (drop_back T s n) (suc (length (dropped T s n).more)) 1) ne in
    let rb : 1 ≤ length (free_buffers T) = omega (arith, al.buffers_room, ap (λ (x : Wants). x.buffers) w) in
    let front = take n (reads S s) in
    let bs = new_buffers T 1 in
    let S₁ = with_storage S (stored T.stock S.storage bs front) in
    let p = pulled T s n in
    let v = dropped_leaves T s n b h in
    let room : length p.more ≤ length (drop_back T s n) + length (free_pieces T) =
    omega (arith, al.pieces_room, ap (λ (x : Wants). x.pieces) w, ap (λ (x : Wants). length x.back) w, pulled_count T s n rb) in
    let long : length front ≡ n = omega (arith, length-take n (reads S s), reads_length S h f s) in
    let fst : contents T.stock S₁.storage (laid T.stock bs n) ≡ front = ap (λ k. contents T.stock S₁.storage (laid T.stock bs k)) (sym long) ∙ new_here S h f 1 front rb (omega arith) in
    let rst : contents T.stock S₁.storage (drop_out (spans T s) n) ≡ drop n (reads S s) =
    stored_others T.stock (is_unheld T) 0 (buffer_total T) bs S.storage front (drop_out (spans T s) n) (new_buffers_in T 1) f (good_drop_out T.stock (buffer_total T) (spans T s) n (spans_good T s h)) (off_drop bs (spans T s) n (spans_off T 1 s h))
    ∙ drop_out_contents T.stock (buffer_total T) S.storage (spans T s) n f (spans_good T s h) in
    let d = pulled_planned T s n (omega (arith, not_most n (first_length (spans T s)) ne)) h in
    gives_reading S (under_freed S₁ p s) S₁.storage s _ _ (reads S s) (pullup_gives s n S S₁ b h (omega (arith, not_most n (first_length (spans T s)) ne)) room) h h'
    (freed_spans S₁ p s d b (new_length S 1 front f ∙ f) (pulled_spared S₁ T s n b h) v.rest v.meets v.others h room) (new_others S h f 1 front)
    (contents_append T.stock S₁.storage (laid T.stock bs n) (drop_out (spans T s) n)
    ∙ (λ j. fst j ++ rst j) ∙ take-append-drop n (reads S s))))

pullup_takes : (x : Name) (n : ℕ) → Taking (pullup_call x n)
unfolding pullup_after pullup_wants
pullup_takes x n S h a h'' =
    let T = S.tables in
    let s = x.slip in
    let (b, z) = first_named T x _ a.early in
    let k = length (dropped T s n).more in
    let v = dropped_leaves T s n b h in
    let xs = laid T.stock (new_buffers T 1) n in
    let ys = drop_out (spans T s) n in
    if_both (λ (X : State) (w : Wants). SoundNow X.tables → Roomy T w → Took T X.tables w s) (leb n (first_length (spans T s))) _ _ (want 0 0 0) (giving (drop_back T s n) (suc k) 1)
    (λ _ _ _. nothing_taken T s h)
    (λ t _ r. took_freed _ (pulled T s n) s (pulled_planned T s n (omega (arith, not_most n (first_length (spans T s)) t)) h) b v.rest v.meets v.others
    (xs ++ ys) (suc k) 1 h z (omega (arith, pulled_count T s n r.2)) r (pulled_covers T s n b h)
    (ap (passing (is_unheld T)) (map-append (λ (x : Stretch). x.buffer) xs ys) ∙ passing_back (is_unheld T) (buffers_of xs) (buffers_of ys) (drop_out_none (is_unheld T) (spans T s) n (spans_none T s h))
    ∙ new_laid T 1 n))
    h'' (roomy a)

pullup_caused : (x : Name) (n : ℕ) → Causing (pullup_call x n)
unfolding found whether◌then◌else◌ pullup_wants
pullup_caused x n S h f = record {
  below = omega arith;
  slip = slip_one S.tables x;
  same = twice_one x.slip;
  long = less_is 512 n;
  range = past_is S h f x.slip n;
  narrow = none_less 0;
  asked = λ z. (
      let T = S.tables in
      let e : suc (length (dropped T x.slip n).more) ≡ 1 + drop_pieces T x.slip n = omega (arith, drop_count T x.slip n h) in
      λ i. whether leb n (first_length (spans T x.slip)) then want 0 0 0 else giving (drop_back_lem T x.slip n h i) (e i) 1);
}

pullup_stays : (x : Name) (n : ℕ) → Staying (pullup_call x n)
unfolding pullup_after pullup_wants
pullup_stays x n S h f a =
    let T = S.tables in
    let s = x.slip in
    let b = (first_named T x _ a.early).0 in
    if_both (λ (X : State) (w : Wants). StorageStays S X w.buffers) (leb n (first_length (spans T s))) _ _ (want 0 0 0) (giving (drop_back T s n) (suc (length (dropped T s n).more)) 1)
    (λ _. stays_as S S 0 refl (λ b u. u))
    (λ t. freed_stays S (take n (reads S s)) (pulled T s n) s 1 (pulled_planned T s n (omega (arith, not_most n (first_length (spans T s)) t)) h) b f
    (pulled_spared (with_storage S (stored T.stock S.storage (new_buffers T 1) (take n (reads S s)))) T s n b h))

pub pullup_lawful : (x : Name) (n : ℕ) → Lawful (pullup_call x n)
unfolding pullup_after
pullup_lawful x n = record {
  codes = λ S. omega arith;
  sizes = λ S. (
      let T = S.tables in
      maybe_sizes S _ (leb n (first_length (spans T x.slip))) (freed_sizes _ (pulled T x.slip n) x.slip (plan_sizes T true (chain T x.slip) n)));
  ages = λ S _. (λ v. absurd v, λ v. v, tt);
  stays = pullup_stays x n;
  sound = λ S h a. pullup_sound x.slip n S (first_named S.tables x _ a.early).0 h;
  known = λ S _. (inl refl, tt);
  caused = pullup_caused x n;
  leaves = pullup_leaves x n;
  takes = pullup_takes x n;
}
