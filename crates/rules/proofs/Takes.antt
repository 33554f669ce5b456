-- Which slips, pieces and buffers are taken where slips come to hold others: laws that the calls share. Assumes nothing.
use mathlib.Core.Path.{◌≡◌, refl, sym, ap, subst, ◌∙◌}
use mathlib.Core.Logic.{◌≢◌, ⊎_elim}
use mathlib.Core.Bool.{Bool, ◌&&◌}
use mathlib.Core.List.Memᴰ
use mathlib.Core.List.{List, [], ◌∷◌, ◌++◌, map, Memᴰ}
use Prim.Native.Nat.{ℕ, zero, suc, ◌+◌, ◌-◌, ◌≤◌, ◌<◌, pred}
use native.Mathlib.Decide.{ℕ_discrete}
use native.Mathlib.Omega.{arith}
use lib.ListN.{length, get_or, take, drop}
use lib.Dec.{eqb, eqb→eq, leb, ltb→lt}
use Rattle.rules.specs.Basics.{Is, places, passing, member}
use Rattle.rules.specs.Tables.{Tables, slip, piece, buffer_count, head_of, slip_total, piece_total, buffer_total}
use Rattle.rules.specs.Chain.{Stretch, chain, stretches, spans, cut_out}
use Rattle.rules.specs.Sound.{in_use, lying}
use Rattle.rules.specs.Room.{is_vacant, is_free, is_free_with, is_unheld, ready_slips, free_pieces, free_with, free_buffers, new_slip, new_buffers}
use Rattle.rules.specs.Build.{laid}
use Rattle.rules.specs.Rule.{Rule, Wants, want, room}
use Rattle.rules.specs.Recount.{reached}
use Rattle.rules.specs.Takes.{took_slips, Took}
use Rattle.rules.proofs.Logic.{if_either, and_0, and_1, or_cases, or_left, or_right, eq→eqb, not_zero, bit_pos, any_at}
use Rattle.rules.proofs.Sums.{sum_to_pos}
use Rattle.rules.proofs.Moves.{SoundBy, SoundNow, lies, buffer_pos}
use Rattle.rules.proofs.Room.{AllIn, all_free, take_in, NoneOf, none_not, passing_all, passing_none, passing_back, took_are, new_slip_ok}
use Rattle.rules.proofs.Chain.{AllUsed, chain_used}
use Rattle.rules.proofs.Meets.{Meets, stop, chain_meets, meets_one, Same, same_refl}
use Rattle.rules.proofs.Hang.{Gives, gives_chain, gives_spans}
use Rattle.rules.proofs.Contents.{drop_out, laid_buffers}
use Rattle.rules.proofs.Recount.{reached_is, reached_used}
use Rattle.rules.proofs.Codes.{Allowed}

abbrev pub buffers_of : List Stretch → List ℕ
buffers_of xs = map (λ (x : Stretch). x.buffer) xs

-- ---- what is in use is not free

pub used_none : (T : Tables) (l : List ℕ) → AllUsed T l → NoneOf (is_free T) l
used_none T [] u = tt
used_none T (d ∷ l) u = (λ t. omega (arith, u.0, eqb→eq (piece T d).count 0 t), used_none T l u.1)

held_none : {rank : ℕ → ℕ} {fl : List ℕ} {T : Tables} (l : List ℕ) → SoundBy rank fl T → AllUsed T l → NoneOf (is_unheld T) (buffers_of (stretches T l))
unfolding stretches
held_none [] S u = tt
held_none {T = T} (d ∷ l) S u = (λ t. omega (arith, buffer_pos d u.0 S, eqb→eq (buffer_count T (piece T d).buffer) 0 t), held_none l S u.1)

pub spans_none : (T : Tables) (s : ℕ) → SoundNow T → NoneOf (is_unheld T) (buffers_of (spans T s))
spans_none T s h = held_none (chain T s) h.1 (chain_used T s h)

-- parts of stretches lie on the same buffers
pub cut_out_none : (f : ℕ → Bool) (xs : List Stretch) (off n : ℕ) → NoneOf f (buffers_of xs) → NoneOf f (buffers_of (cut_out xs off n))
unfolding cut_out
cut_out_none f [] off n k = tt
cut_out_none f (x ∷ xs) off zero k = tt
cut_out_none f (x ∷ xs) off (suc n) k =
    if_either (λ (q : List Stretch). NoneOf f (buffers_of q)) (leb x.len off) _ _
    (λ _. cut_out_none f xs (off - x.len) (suc n) k.1) (λ _. (k.0, cut_out_none f xs 0 (suc n - (x.len - off)) k.1))

pub drop_out_none : (f : ℕ → Bool) (xs : List Stretch) (n : ℕ) → NoneOf f (buffers_of xs) → NoneOf f (buffers_of (drop_out xs n))
unfolding drop_out
drop_out_none f [] n k = tt
drop_out_none f (x ∷ xs) n k = if_either (λ (q : List Stretch). NoneOf f (buffers_of q)) (leb x.len n) _ _ (λ _. drop_out_none f xs (n - x.len) k.1) (λ _. k)

pub drop_none : (f : ℕ → Bool) (k : ℕ) (xs : List Stretch) → NoneOf f (buffers_of xs) → NoneOf f (buffers_of (drop k xs))
drop_none f zero xs n = n
drop_none f (suc k) [] n = tt
drop_none f (suc k) (x ∷ xs) n = drop_none f k xs n.1

-- the rest of pieces in use
pub used_drop : (T : Tables) (k : ℕ) (l : List ℕ) → AllUsed T l → AllUsed T (drop k l)
used_drop T zero l u = u
used_drop T (suc k) [] u = tt
used_drop T (suc k) (d ∷ l) u = used_drop T k l u.1

-- ---- what is in use is on a slip's chain

pub in_member : (d : ℕ) (l : List ℕ) → Memᴰ d l → Is (member d l)
unfolding member
in_member d [] m = absurd (Memᴰ.not-nil m)
in_member d (x ∷ l) m =
    ⊎_elim (λ e. or_left (eqb x d) (member d l) (eq→eqb x d (sym e))) (λ z. or_right (eqb x d) (member d l) (in_member d l z)) (Memᴰ.cases_cons m)

pub member_in : (d : ℕ) (l : List ℕ) → Is (member d l) → Memᴰ d l
unfolding member
member_in d [] t = absurd t
member_in d (x ∷ l) t = ⊎_elim (λ e. Memᴰ.head (sym (eqb→eq x d e))) (λ m. Memᴰ.tail (member_in d l m)) (or_cases (eqb x d) (member d l) t)

used_on : (T : Tables) → SoundNow T → (d : ℕ) → 0 < (piece T d).count → (s : ℕ) × Memᴰ d (chain T s)
unfolding reached
used_on T h d u =
    let (s, _, m) = any_at (slip_total T) (λ s. member d (chain T s)) ((reached_is T h d).1 ((reached_used T h d).1 u)) in
    (s, member_in d (chain T s) m)

buffer_in : (T : Tables) (d : ℕ) (l : List ℕ) → Memᴰ d l → Memᴰ (piece T d).buffer (buffers_of (stretches T l))
unfolding stretches
buffer_in T d [] m = absurd (Memᴰ.not-nil m)
buffer_in T d (x ∷ l) m = ⊎_elim (λ e. Memᴰ.head (ap (λ y. (piece T y).buffer) e)) (λ z. Memᴰ.tail (buffer_in T d l z)) (Memᴰ.cases_cons m)

held_on : (T : Tables) → SoundNow T → (b : ℕ) → 0 < buffer_count T b → (s : ℕ) × Memᴰ b (buffers_of (spans T s))
unfolding lying
held_on T h b p =
    let (c, _, k) = sum_to_pos (piece_total T) (λ c. lies (piece T c) b) (omega (arith, h.1.lain b)) in
    let t = bit_pos (in_use (piece T c) && eqb (piece T c).buffer b) k in
    let (s, m) = used_on T h c (ltb→lt 0 (piece T c).count (and_0 (in_use (piece T c)) (eqb (piece T c).buffer b) t)) in
    (s, subst (λ x. Memᴰ x (buffers_of (spans T s))) (eqb→eq (piece T c).buffer b (and_1 (in_use (piece T c)) (eqb (piece T c).buffer b) t)) (buffer_in T c (chain T s) m))

-- ---- a slip's chain in T' with nothing that was free in T

pub record Old (T T' : Tables) (u : ℕ) : Type 0 where
  pub pieces_old : NoneOf (is_free T) (chain T' u)
  pub buffers_old : NoneOf (is_unheld T) (buffers_of (spans T' u))

-- slip u holds what slip v held, or nothing
pub old_as : (T T' : Tables) (u v : ℕ) → SoundNow T → SoundNow T' → slip T' u ≡ slip T v → Same T T' (head_of T v) → Old T T' u
old_as T T' u v h h' e f =
    let r = f (chain T v) (chain_meets T v h) in
    let c = meets_one (chain_meets T' u h') (subst (λ x. Meets T' (pred x) (chain T v)) (sym e) r.0) in
    record {
      pieces_old = subst (NoneOf (is_free T)) (sym c) (used_none T (chain T v) (chain_used T v h));
      buffers_old = subst (λ (xs : List Stretch). NoneOf (is_unheld T) (buffers_of xs)) (sym (ap (stretches T') c ∙ r.1)) (spans_none T v h);
    }

pub old_none : (T T' : Tables) (u : ℕ) → SoundNow T' → slip T' u ≡ 0 → Old T T' u
unfolding stretches
old_none T T' u h' e =
    let c = meets_one (chain_meets T' u h') (subst (λ x. Meets T' (pred x) []) (sym e) stop) in
    record { pieces_old = subst (NoneOf (is_free T)) (sym c) tt; buffers_old = subst (λ (xs : List Stretch). NoneOf (is_unheld T) (buffers_of xs)) (sym (ap (stretches T') c)) tt }

-- ---- the claim, from what the slips hold

abbrev pub Roomy : Tables → Wants → Type 0
Roomy T w = (w.slips ≤ (room T).slips) × (w.pieces ≤ length w.back + (room T).pieces) × (w.buffers ≤ (room T).buffers)

-- what is on a chain, and on no other than that of t
on_target : (f : ℕ → Bool) (on : ℕ → List ℕ) (t x : ℕ) → ((u : ℕ) → u ≢ t → NoneOf f (on u)) → Is (f x) → (s : ℕ) × Memᴰ x (on s) → Memᴰ x (on t)
on_target f on t x n p (s, m) = elim (ℕ_discrete s t) [ yes e ↦ subst (λ u. Memᴰ x (on u)) e m | no e ↦ absurd (none_not f x (on s) (n s e) p m) ]

-- the first k of the numbers that pass all pass
new_in : (f : ℕ → Bool) (n k : ℕ) → AllIn f 0 n (take k (places f 0 n))
new_in f n k = take_in f 0 n k (places f 0 n) (all_free f n)

pub new_pass : (f : ℕ → Bool) (n k : ℕ) → passing f (take k (places f 0 n)) ≡ take k (places f 0 n)
new_pass f n k = passing_all f 0 n (take k (places f 0 n)) (new_in f n k)

-- new pieces and buffers are on the chain of t alone, and there in order
pub took_with : (T T' : Tables) (w : Wants) (t : ℕ) → SoundNow T' → Roomy T w → ((u : ℕ) → u ≢ t → NoneOf (is_free_with T w.back) (chain T' u))
    → ((u : ℕ) → u ≢ t → Old T T' u) → took_slips T T' ≡ take w.slips (ready_slips T)
    → passing (is_free_with T w.back) (chain T' t) ≡ take w.pieces (free_with T w.back)
    → passing (is_unheld T) (buffers_of (spans T' t)) ≡ take w.buffers (free_buffers T) → Took T T' w t
took_with T T' w t h r none old s p b = record {
  slips = s;
  pieces = (
      let f = is_free_with T w.back in
      took_are f (is_free T') (piece_total T) (chain T' t) (take w.pieces (free_with T w.back)) (new_in f (piece_total T) w.pieces) p
      (λ x m z. none_not (is_free T') x (chain T' t) (used_none T' (chain T' t) (chain_used T' t h)) z m)
      (λ x z n. on_target f (chain T') t x none z (used_on T' h x (not_zero (piece T' x).count n))));
  buffers = took_are (is_unheld T) (is_unheld T') (buffer_total T) (buffers_of (spans T' t)) (take w.buffers (free_buffers T)) (new_in (is_unheld T) (buffer_total T) w.buffers) b
      (λ x m z. none_not (is_unheld T') x (buffers_of (spans T' t)) (spans_none T' t h) z m)
      (λ x z n. on_target (is_unheld T) (λ u. buffers_of (spans T' u)) t x (λ u e. (old u e).buffers_old) z (held_on T' h x (not_zero (buffer_count T' x) n)));
  slips_room = r.0;
  pieces_room = r.1;
  buffers_room = r.2;
  pieces_order = p;
  buffers_order = b;
}

-- where nothing is given back first
pub took : (T T' : Tables) (a k m t : ℕ) → SoundNow T' → Roomy T (want a k m) → ((u : ℕ) → u ≢ t → Old T T' u) → took_slips T T' ≡ take a (ready_slips T)
    → passing (is_free T) (chain T' t) ≡ take k (free_pieces T) → passing (is_unheld T) (buffers_of (spans T' t)) ≡ take m (free_buffers T) → Took T T' (want a k m) t
unfolding member
took T T' a k m t h r old s p b = took_with T T' (want a k m) t h r (λ u n. (old u n).pieces_old) old s p b

-- no slip is taken, or the lowest that may be given is
pub no_slips : (T T' : Tables) → ((u : ℕ) → slip T u ≡ 0 → slip T' u ≡ 0) → took_slips T T' ≡ []
no_slips T T' k =
    took_are (is_vacant T) (is_vacant T') (slip_total T) [] [] tt (passing_none (is_vacant T) [] tt) (λ x m. absurd (Memᴰ.not-nil m))
    (λ x t n. absurd (n (eq→eqb (slip T' x) 0 (k x (eqb→eq (slip T x) 0 t)))))

first_one : (l : List ℕ) → 0 < length l → get_or l 0 0 ∷ [] ≡ take 1 l
first_one [] h = absurd (omega arith)
first_one (x ∷ l) h = refl

one_slip : (T T' : Tables) → 0 < length (ready_slips T) → ((u : ℕ) → u ≢ new_slip T → slip T' u ≡ slip T u) → 0 < slip T' (new_slip T) → took_slips T T' ≡ take 1 (ready_slips T)
one_slip T T' v k p =
    let t = new_slip T in
    let e = first_one (ready_slips T) v in
    let (l, z₀) = new_slip_ok T v in
    let a : AllIn (is_vacant T) 0 (slip_total T) (t ∷ []) = (omega arith, l, eq→eqb (slip T t) 0 z₀, tt) in
    took_are (is_vacant T) (is_vacant T') (slip_total T) (t ∷ []) (t ∷ []) a (passing_all (is_vacant T) 0 (slip_total T) (t ∷ []) a)
    (λ x m z. ⊎_elim (λ q. omega (arith, ap (slip T') q, eqb→eq (slip T' x) 0 z)) Memᴰ.not-nil (Memᴰ.cases_cons m))
    (λ x z n. elim (ℕ_discrete x t) [ yes q ↦ Memᴰ.head q | no q ↦ absurd (n (eq→eqb (slip T' x) 0 (k x q ∙ eqb→eq (slip T x) 0 z))) ])
    ∙ e

-- nothing is taken
pub took_none : (T T' : Tables) (t : ℕ) → SoundNow T' → ((u : ℕ) → Old T T' u) → ((u : ℕ) → slip T u ≡ 0 → slip T' u ≡ 0) → Took T T' (want 0 0 0) t
took_none T T' t h old k =
    took T T' 0 0 0 t h (omega arith) (λ u _. old u) (no_slips T T' k)
    (passing_none (is_free T) (chain T' t) (old t).pieces_old) (passing_none (is_unheld T) (buffers_of (spans T' t)) (old t).buffers_old)

pub nothing_taken : (T : Tables) (t : ℕ) → SoundNow T → Took T T (want 0 0 0) t
nothing_taken T t h = took_none T T t h (λ u. old_as T T u u h h refl (same_refl T (head_of T u))) (λ u z. z)

-- slip t comes to hold l, which covers xs
module _ (T T' : Tables) (t : ℕ) (l : List ℕ) (xs : List Stretch) (h : SoundNow T) (h' : SoundNow T') (g : Gives T T' t l xs) where
  took_gives : (a k m : ℕ) → Roomy T (want a k m) → took_slips T T' ≡ take a (ready_slips T)
      → passing (is_free T) l ≡ take k (free_pieces T) → passing (is_unheld T) (buffers_of xs) ≡ take m (free_buffers T) → Took T T' (want a k m) t
  took_gives a k m r s p b =
      took T T' a k m t h' r (λ u n. old_as T T' u u h h' (g.entries u n) (g.others u n)) s
      (ap (passing (is_free T)) (gives_chain g h') ∙ p) (ap (λ (ys : List Stretch). passing (is_unheld T) (buffers_of ys)) (gives_spans g h') ∙ b)

  -- where t was held
  pub took_held : 0 < slip T t → (k m : ℕ) → Roomy T (want 0 k m) → passing (is_free T) l ≡ take k (free_pieces T) → passing (is_unheld T) (buffers_of xs) ≡ take m (free_buffers T)
      → Took T T' (want 0 k m) t
  took_held v k m r = took_gives 0 k m r (no_slips T T' (λ u z. g.entries u (λ e. omega (arith, ap (slip T) e)) ∙ z))

-- under the lowest slip that may be given
pub took_new : (T T' : Tables) (l : List ℕ) (xs : List Stretch) → SoundNow T → SoundNow T' → Gives T T' (new_slip T) l xs → (k m : ℕ) → Roomy T (want 1 k m)
    → passing (is_free T) l ≡ take k (free_pieces T) → passing (is_unheld T) (buffers_of xs) ≡ take m (free_buffers T) → Took T T' (want 1 k m) (new_slip T)
took_new T T' l xs h h' g k m r = took_gives T T' (new_slip T) l xs h h' g 1 k m r (one_slip T T' r.0 g.entries g.held)

-- new pieces before old ones, and new stretches on new buffers
pub new_front : (T : Tables) (k : ℕ) (l : List ℕ) → AllUsed T l → passing (is_free T) (take k (free_pieces T) ++ l) ≡ take k (free_pieces T)
new_front T k l u = passing_back (is_free T) (take k (free_pieces T)) l (used_none T l u) ∙ new_pass (is_free T) (piece_total T) k

pub new_laid : (T : Tables) (k n : ℕ) → passing (is_unheld T) (buffers_of (laid T.stock (new_buffers T k) n)) ≡ new_buffers T k
new_laid T k n = ap (passing (is_unheld T)) (laid_buffers T.stock (new_buffers T k) n) ∙ new_pass (is_unheld T) (buffer_total T) k

-- a done call has room for what it wants
pub roomy : {r : Rule} {T : Tables} → Allowed r T → Roomy T r.wants
roomy a = (a.slips_room, a.pieces_room, a.buffers_room)
