-- The walks with colours decide whether following next ends. Assumes nothing.
use mathlib.Core.Path.{◌≡◌, refl, sym, ap, ◌∙◌}
use mathlib.Core.Logic.{◌≢◌, ◌⊎◌, inl, inr, ⊎_elim}
use Rattle.std.specs.Prelude.{Ok, Err}
use mathlib.Core.Bool.{true}
use mathlib.Core.List.{List, [], ◌∷◌}
use Prim.Native.Nat.{ℕ, zero, suc, ◌+◌, ◌-◌, ◌≤◌, ◌<◌}
use native.Mathlib.Nat.{le_refl, not-suc-le-zero}
use native.Mathlib.Decide.{ℕ_discrete, dec_lt}
use native.Mathlib.Omega.{arith}
use lib.ListN.{length, get_or, set, length-set, length-map, get_or-map}
use lib.Seq.{get_or-set_same, get_or-set_other}
use lib.Dec.{ltb, ltb→lt, lt→ltb, eqb→eq}
use Rattle.kinds.specs.Limits.{most_count}
use Rattle.rules.specs.Basics.{Is, bit}
use Rattle.rules.specs.Tables.{Tables, piece, piece_total}
use Rattle.rules.specs.Bytes.{decode}
use Rattle.rules.specs.Chain.{follow}
use Rattle.rules.specs.Sound.{acyclic}
use Rattle.rules.proofs.Logic.{bit_T, bit_F, bit_one, is_true, is_false, same_test, eq→eqb, all_intro, all_at}
use Rattle.rules.proofs.Sums.{sum_to_same, sum_to_one, sum_to_change, sum_to_none, sum_to_ones}
use Rattle.rules.proofs.Audit.{follow_more}
use Rattle.layout.specs.declared.Shape.{Shape}
use Rattle.counts.specs.Ranges.{pieces_in_range}
use Rattle.counts.specs.Counters.{Limited, Hold, references}
use Rattle.counts.proofs.Ranges.{pieces_linked}
use Rattle.counts.proofs.Counters.{totals, references_most}
use Rattle.audit.specs.Follows.{ends_from, is_met, follows_of}
use Rattle.audit.specs.Colours.{colours_in, Plain, coloured, Covered, Scanned, Walked}
use Rattle.audit.proofs.Follows.{follow_last, met_by, met_from, follows_all}

-- ---- following next

-- one follow
follow_on : (T : Tables) (k d : ℕ) → follow T k (piece T d).next ≡ 0 → follow T (suc k) (suc d) ≡ 0
unfolding follow
follow_on T k d h = h

follow_back : (T : Tables) (k d : ℕ) → follow T k (suc d) ≡ 0 → (j : ℕ) × (j < k) × (follow T j (piece T d).next ≡ 0)
unfolding follow
follow_back T zero d h = absurd (omega arith)
follow_back T (suc k) d h = (k, omega arith, h)

none_ends : (T : Tables) (k : ℕ) → follow T k 0 ≡ 0
unfolding follow
none_ends T k = follow_more T 0 k 0 (omega arith) refl

-- no number falls for ever
descent : (P : ℕ → Type 0) → ((k : ℕ) → P k → (j : ℕ) × (j < k) × P j) → (k : ℕ) → P k → ⊥
descent P down k = go (suc k) k (le_refl (suc k))
  where
    go : (n m : ℕ) → m < n → P m → ⊥
    go zero m l h = not-suc-le-zero l
    go (suc n) m l h = let r = down m h in go n r.0 (omega (arith, r.1)) r.2

-- ---- colours

coloured_most : (c : List ℕ) (n : ℕ) → coloured c n ≤ n
unfolding coloured
coloured_most c n = sum_to_ones n (λ d. bit (ltb 0 (get_or c d 0))) (λ d. bit_one (ltb 0 (get_or c d 0)))

-- one more piece has a colour
coloured_more : (c : List ℕ) (n d w : ℕ) → d < n → d < length c → get_or c d 0 ≡ 0 → 0 < w → coloured (set c d w) n ≡ coloured c n + 1
unfolding coloured
coloured_more c n d w l m z pos =
    let f : ℕ → ℕ = λ e. bit (ltb 0 (get_or c e 0)) in
    let g : ℕ → ℕ = λ e. bit (ltb 0 (get_or (set c d w) e 0)) in
    let e₀ : f d ≡ 0 = bit_F (ltb 0 (get_or c d 0)) (λ t. omega (arith, ltb→lt 0 (get_or c d 0) t)) in
    let e₁ : g d ≡ 1 = bit_T (ltb 0 (get_or (set c d w) d 0)) (lt→ltb 0 (get_or (set c d w) d 0) (omega (arith, get_or-set_same c d w 0 m))) in
    omega (arith, sum_to_change n d f g l (λ e h. ap (λ x. bit (ltb 0 x)) (sym (get_or-set_other c d e w 0 h))))

coloured_none : (c : List ℕ) (n : ℕ) → ((d : ℕ) → d < n → get_or c d 0 ≡ 0) → coloured c n ≡ 0
unfolding coloured
coloured_none c n z =
    sum_to_none n (λ d. bit (ltb 0 (get_or c d 0))) (λ d l h. omega (arith, ap (λ x. bit (ltb 0 x)) (z d l)))

coloured_all : (c : List ℕ) (n : ℕ) → ((d : ℕ) → d < n → 0 < get_or c d 0) → coloured c n ≡ n
unfolding coloured
coloured_all c n h =
    sum_to_same n (λ d. bit (ltb 0 (get_or c d 0))) (λ _. 1) (λ d l. bit_T (ltb 0 (get_or c d 0)) (lt→ltb 0 (get_or c d 0) (h d l))) ∙ sum_to_one n

-- a link to a piece with a colour is covered
cover : (c : List ℕ) {n d : ℕ} → n ≡ suc d → 0 < get_or c d 0 → Covered c n
cover c {n} {d} to p e q = (let i : e ≡ d = omega arith in omega (arith, ap (λ x. get_or c x 0) i))

-- ---- counters read as colours

pub colours_long : (c : List ℕ) → length (colours_in c) ≡ length c
unfolding colours_in
colours_long c = length-map c (λ n. n - most_count)

colour_at : (c : List ℕ) (d : ℕ) → get_or (colours_in c) d 0 ≡ get_or c d 0 - most_count
unfolding colours_in
colour_at c d = get_or-map (λ n. n - most_count) c d 0

colours_set : (c : List ℕ) (d w : ℕ) → colours_in (set c d w) ≡ set (colours_in c) d (w - most_count)
unfolding colours_in
colours_set [] d w = refl
colours_set (x ∷ xs) zero w = refl
colours_set (x ∷ xs) (suc d) w = ap (λ l. (x - most_count) ∷ l) (colours_set xs d w)

-- where counters hold what refers to each piece, they hold counts alone
pub plain_held : {p : List ℕ} {h : Shape} {c : List ℕ} → Limited p h → Hold (piece_total (decode p)) c (references (decode p)) → Plain h.pieces c
plain_held {p} k v =
    let t = totals k in
    record { long = omega (arith, v.long); each = λ d l. omega (arith, v.each d (omega (arith, v.long)), references_most (decode p) d) }

-- ---- one walk

-- What holds at each step of the walk from piece a, which began with the colours c₀ and n₀ follows. Its colour is a + 1.
-- `onward`: where following next from here ends within k, from each piece of this walk it ends within k and the walk's
-- own follows. `backward`: where it ends from a piece of this walk, it ends from here in fewer. `closed`: next leads from a
-- piece with a colour to here, or to none without.
pub record InWalk (T : Tables) (c₀ : List ℕ) (n₀ a : ℕ) (c : List ℕ) (link n : ℕ) : Type 0 where
  pub long : piece_total T ≤ length c
  pub in_range : link ≤ piece_total T
  pub follows : n ≡ coloured c (piece_total T)
  pub later : n₀ ≤ n
  pub either : (e : ℕ) → e < piece_total T → (get_or c e 0 ≡ a + 1) ⊎ (get_or c e 0 ≡ get_or c₀ e 0)
  pub onward : (e : ℕ) → e < piece_total T → get_or c e 0 ≡ a + 1 → (k : ℕ) → follow T k link ≡ 0 → follow T (k + (n - n₀)) (suc e) ≡ 0
  pub backward : (e : ℕ) → e < piece_total T → get_or c e 0 ≡ a + 1 → (k : ℕ) → follow T k (suc e) ≡ 0 → (j : ℕ) × (j < k) × (follow T j link ≡ 0)
  pub begun : (link ≡ a + 1) ⊎ (get_or c a 0 ≡ a + 1)
  pub here : follow T (n - n₀) (suc a) ≡ link
  pub met : (e w : ℕ) → e < piece_total T → get_or c e 0 ≡ suc w → (k : ℕ) × (k < n) × (follow T k (suc w) ≡ suc e)
  pub closed : (e : ℕ) → e < piece_total T → 0 < get_or c e 0 → ((piece T e).next ≡ link) ⊎ Covered c (piece T e).next

module _ {T : Tables} {c₀ : List ℕ} {n₀ a : ℕ} (r : Scanned T c₀ n₀ a) (l : a < piece_total T) where
  walk_start : InWalk T c₀ n₀ a c₀ (a + 1) n₀
  unfolding follow
  walk_start = record {
    long = r.long;
    in_range = omega arith;
    follows = r.follows;
    later = le_refl n₀;
    either = λ e m. inr refl;
    onward = λ e m q. absurd (omega (arith, r.older e m));
    backward = λ e m q. absurd (omega (arith, r.older e m));
    begun = inl refl;
    here = (let z : n₀ - n₀ ≡ 0 = omega arith in ap (λ k. follow T k (suc a)) z ∙ omega arith);
    met = r.met;
    closed = λ e m p. inr (r.closed e m p);
  }

  module _ {c : List ℕ} {link n : ℕ} (v : InWalk T c₀ n₀ a c link n) (d : ℕ) (to : link ≡ suc d) where
    inside : d < piece_total T
    inside = omega (arith, v.in_range)

    -- a piece without a colour gets this walk's, and its next is followed
    walk_on : get_or c d 0 ≡ 0 → InWalk T c₀ n₀ a (set c d (a + 1)) (piece T d).next (n + 1)
    walk_on z = record {
      long = omega (arith, length-set c d (a + 1), v.long);
      in_range = r.linked d inside;
      follows = omega (arith, coloured_more c (piece_total T) d (a + 1) inside short z (omega arith), v.follows);
      later = omega (arith, v.later);
      either = λ e m. elim (ℕ_discrete e d) [
        | yes s ↦ inl (at e s)
        | no s ↦ ⊎_elim (λ x. inl (other e s ∙ x)) (λ x. inr (other e s ∙ x)) (v.either e m)
      ];
      onward = λ e m q k h. elim (ℕ_discrete e d) [
        | yes s ↦ follow_more T (suc k) (k + (n + 1 - n₀)) (suc e) (omega (arith, v.later)) (rw s (follow_on T k d h))
        | no s ↦ follow_more T (suc k + (n - n₀)) (k + (n + 1 - n₀)) (suc e) (omega (arith, v.later))
            (v.onward e m (sym (other e s) ∙ q) (suc k) (rw to (follow_on T k d h)))
      ];
      backward = λ e m q k h. elim (ℕ_discrete e d) [
        | yes s ↦ follow_back T k d (rw s at h)
        | no s ↦ (
            let t = v.backward e m (sym (other e s) ∙ q) k h in
            let u = follow_back T t.0 d (rw to at t.2) in
            (u.0, omega (arith, t.1, u.1), u.2))
      ];
      begun = inr (elim (ℕ_discrete a d) [
        | yes s ↦ at a s
        | no s ↦ ⊎_elim (λ x. absurd (omega arith)) (λ x. other a s ∙ x) v.begun
      ]);
      here = ap (λ k. follow T k (suc a)) (omega (arith, v.later)) ∙ follow_last T (n - n₀) (suc a) d (v.here ∙ to);
      met = λ e w m q. elim (ℕ_discrete e d) [
        | yes s ↦ (let f : w ≡ a = omega (arith, at e s) in (n - n₀, omega (arith, v.later), rw (f, s) (v.here ∙ to)))
        | no s ↦ (let t = v.met e w m (sym (other e s) ∙ q) in (t.0, omega (arith, t.1), t.2))
      ];
      closed = λ e m p. elim (ℕ_discrete e d) [
        | yes s ↦ inl (ap (λ x. (piece T x).next) s)
        | no s ↦ (
            let w = v.closed e m (omega (arith, other e s)) in
            inr (⊎_elim (λ x. cover (set c d (a + 1)) (x ∙ to) (omega (arith, at d refl))) (λ x f q. kept f (x f q)) w))
      ];
    }
      where
        short : d < length c
        short = omega (arith, v.long, inside)

        at : (e : ℕ) → e ≡ d → get_or (set c d (a + 1)) e 0 ≡ a + 1
        at e s = ap (λ x. get_or (set c d (a + 1)) x 0) s ∙ get_or-set_same c d (a + 1) 0 short

        other : (e : ℕ) → e ≢ d → get_or (set c d (a + 1)) e 0 ≡ get_or c e 0
        other e s = get_or-set_other c d e (a + 1) 0 s

        kept : (e : ℕ) → 0 < get_or c e 0 → 0 < get_or (set c d (a + 1)) e 0
        kept e p = elim (ℕ_discrete e d) [ yes s ↦ omega (arith, at e s) | no s ↦ omega (arith, other e s) ]

  module _ {c : List ℕ} {link n : ℕ} (v : InWalk T c₀ n₀ a c link n) where
    walk_most : n ≤ piece_total T
    walk_most = omega (arith, v.follows, coloured_most c (piece_total T))

    -- where following next from here ends within the follows before this walk, the walk ends
    walk_good : follow T n₀ link ≡ 0 → 0 < get_or c a 0 → Covered c link → Walked T c a (Ok n)
    walk_good h s g = record {
      bounded = walk_most;
      good = record {
        long = v.long;
        linked = r.linked;
        within = omega arith;
        follows = v.follows;
        older = λ e m. ⊎_elim (λ x. omega arith) (λ x. omega (arith, r.older e m)) (v.either e m);
        passed = λ e m. elim (ℕ_discrete e a) [
          | yes q ↦ omega (arith, ap (λ x. get_or c x 0) q)
          | no q ↦ ⊎_elim (λ x. omega arith) (λ x. omega (arith, r.passed e (omega arith))) (v.either e (omega arith))
        ];
        ended = λ e m p. ⊎_elim
            (λ x. follow_more T (n₀ + (n - n₀)) n (suc e) (omega (arith, v.later)) (v.onward e m x n₀ h))
            (λ x. follow_more T n₀ n (suc e) v.later (r.ended e m (omega arith)))
            (v.either e m);
        met = v.met;
        closed = λ e m p. ⊎_elim (λ x f q. g f (sym x ∙ q)) (λ x. x) (v.closed e m p);
      };
      bad = tt;
    }

    -- it ends at no piece
    walk_none : link ≡ 0 → Walked T c a (Ok n)
    walk_none z =
        walk_good (rw z (none_ends T n₀)) (⊎_elim (λ x. absurd (omega arith)) (λ x. omega arith) v.begun) (λ f q. absurd (omega arith))

    module _ (d : ℕ) (to : link ≡ suc d) where
      m : d < piece_total T
      m = omega (arith, v.in_range)

      -- it comes to a piece of an earlier walk
      walk_met : 0 < get_or c d 0 → get_or c d 0 ≢ a + 1 → Walked T c a (Ok n)
      walk_met p q =
          let old : get_or c d 0 ≡ get_or c₀ d 0 = ⊎_elim (λ x. absurd (q x)) (λ x. x) (v.either d m) in
          walk_good (rw to (r.ended d m (omega arith)))
          (⊎_elim (λ x. (let s : d ≡ a = omega arith in omega (arith, ap (λ y. get_or c y 0) s))) (λ x. omega arith) v.begun)
          (cover c to p)

      -- it comes back to a piece of its own, so it never ends, and all that is met has a colour
      module _ (q : get_or c d 0 ≡ a + 1) where
        never : (k : ℕ) → follow T k (suc d) ≡ 0 → ⊥
        never = descent (λ k. follow T k (suc d) ≡ 0) (λ k h. rw to at (v.backward d m q k h))

        first : get_or c a 0 ≡ a + 1
        first = ⊎_elim (λ x. (let s : d ≡ a = omega arith in rw s at q)) (λ x. x) v.begun

        -- from the pieces before a following next ends, from a it does not
        before : (e : ℕ) → e < a → Is (ends_from T e)
        before e s =
            eq→eqb _ _ (follow_more T n₀ (piece_total T) (suc e) (omega (arith, r.follows, coloured_most c₀ (piece_total T)))
            (r.ended e (omega arith) (r.passed e s)))

        endless : Is (ends_from T a) → ⊥
        endless t = (let u = v.backward a l first (piece_total T) (eqb→eq _ _ t) in never u.0 (sym (ap (follow T u.0) to) ∙ u.2))

        closed : (e : ℕ) → e < piece_total T → 0 < get_or c e 0 → Covered c (piece T e).next
        closed e i p = ⊎_elim (λ x. cover c (x ∙ to) (omega arith)) (λ x. x) (v.closed e i p)

        -- a piece that is walked from is a or before it, so it has a colour
        begins : (f : ℕ) → ((i : ℕ) → i < f → Is (ends_from T i)) → 0 < get_or c f 0
        begins f ends =
            elim (ℕ_discrete f a) [
              | yes s ↦ omega (arith, first, ap (λ y. get_or c y 0) s)
              | no s ↦ (elim (dec_lt a f) [
                | yes u ↦ absurd (endless (ends a u))
                | no u ↦ ⊎_elim (λ x. omega arith) (λ x. omega (arith, r.passed f (omega arith))) (v.either f (omega arith))
              ])
            ]

        -- following next comes to pieces with a colour only
        stays : (k n e : ℕ) → n ≤ piece_total T → Covered c n → follow T k n ≡ suc e → 0 < get_or c e 0
        unfolding follow
        stays zero n e i g h = g e h
        stays (suc k) zero e i g h = absurd (omega arith)
        stays (suc k) (suc f) e i g h = stays k (piece T f).next e (r.linked f (omega arith)) (closed f (omega arith) (g f refl)) h

        -- a piece is met exactly where it has a colour
        coloured_met : (e : ℕ) → e < piece_total T → ltb 0 (get_or c e 0) ≡ is_met T e
        coloured_met e i = same_test _ _ there back
          where
            there : Is (ltb 0 (get_or c e 0)) → Is (is_met T e)
            there t =
                let p = ltb→lt 0 (get_or c e 0) t in
                let (k, s, h) = v.met e (get_or c e 0 - 1) i (omega arith) in
                let o : get_or c e 0 ≤ a + 1 = ⊎_elim (λ x. omega arith) (λ x. omega (arith, r.older e i)) (v.either e i) in
                met_by T (get_or c e 0 - 1) e k (omega arith) (λ f u. before f (omega arith)) (omega (arith, walk_most)) h

            back : Is (is_met T e) → Is (ltb 0 (get_or c e 0))
            back t =
                let (f, k, s, ends, h) = met_from T e t in
                lt→ltb 0 (get_or c e 0) (stays k (suc f) e s (cover c refl (begins f ends)) h)

        walk_back : Walked T c a (Err n)
        unfolding acyclic follows_of coloured
        walk_back = record {
          bounded = walk_most;
          good = tt;
          bad = (
            is_false _ (λ t. endless (all_at (piece_total T) (ends_from T) t a l)),
            v.follows ∙ sum_to_same (piece_total T) _ _ (λ e i. ap bit (coloured_met e i)),
          );
        }

-- ---- the same of the counters that hold the colours: what is above every count is a colour

-- the walk under way in the pool p of the shape h, with the counters c
pub record Under (p : List ℕ) (h : Shape) (c₀ : List ℕ) (n₀ a : ℕ) (c : List ℕ) (link n : ℕ) : Type 0 where
  pub walk : InWalk (decode p) (colours_in c₀) n₀ a (colours_in c) link n
  pub leads : link ≤ h.pieces
  pub room : h.pieces ≤ length c
  pub few : n ≤ h.pieces

from : {p : List ℕ} {h : Shape} {a : ℕ} → Limited p h → a < h.pieces → a < piece_total (decode p)
from k l = let t = totals k in omega arith

module _ {p : List ℕ} {h : Shape} (k : Limited p h) {c₀ : List ℕ} {n₀ a : ℕ} (r : Scanned (decode p) (colours_in c₀) n₀ a) (l : a < h.pieces) where
  under : {c : List ℕ} {link n : ℕ} → InWalk (decode p) (colours_in c₀) n₀ a (colours_in c) link n → Under p h c₀ n₀ a c link n
  under {c} v =
      let t = totals k in
      record { walk = v; leads = omega (arith, v.in_range); room = omega (arith, v.long, colours_long c); few = omega (arith, walk_most r (from k l) v) }

  pub under_start : Under p h c₀ n₀ a c₀ (a + 1) n₀
  under_start = under (walk_start r (from k l))

  module _ {c : List ℕ} {link n : ℕ} (u : Under p h c₀ n₀ a c link n) where
    pub under_none : link ≡ 0 → Walked (decode p) (colours_in c) a (Ok n)
    under_none z = walk_none r (from k l) u.walk z

    module _ {d : ℕ} (to : link ≡ suc d) where
      pub under_on : get_or c d 0 ≤ most_count → Under p h c₀ n₀ a (set c d (most_count + a + 1)) (piece (decode p) d).next (n + 1)
      under_on s =
          let e : most_count + a + 1 - most_count ≡ a + 1 = omega arith in
          under (rw (colours_set, e) (walk_on r (from k l) u.walk d to (omega (arith, colour_at c d))))

      pub under_back : get_or c d 0 ≡ most_count + a + 1 → Walked (decode p) (colours_in c) a (Err n)
      under_back s = walk_back r (from k l) u.walk d to (omega (arith, colour_at c d))

      pub under_met : most_count < get_or c d 0 → get_or c d 0 ≢ most_count + a + 1 → Walked (decode p) (colours_in c) a (Ok n)
      under_met s q = walk_met r (from k l) u.walk d to (omega (arith, colour_at c d)) (λ x. q (omega (arith, colour_at c d)))

-- ---- the walks from every piece

module _ {p : List ℕ} {h : Shape} (k : Limited p h) where
  pub scan_start : {c : List ℕ} → pieces_in_range (decode p) ≡ true → Plain h.pieces c → Scanned (decode p) (colours_in c) 0 0
  scan_start {c} q v =
      let t = totals k in
      let P = piece_total (decode p) in
      let zero_at : (e : ℕ) → e < P → get_or (colours_in c) e 0 ≡ 0 = λ e l. omega (arith, colour_at c e, v.each e (omega arith)) in
      record {
        long = omega (arith, colours_long c, v.long);
        linked = pieces_linked (decode p) q;
        within = omega arith;
        follows = sym (coloured_none (colours_in c) P zero_at);
        older = λ e l. omega (arith, zero_at e l);
        passed = λ e l. absurd (not-suc-le-zero l);
        ended = λ e l x. absurd (omega (arith, zero_at e l));
        met = λ e w l x. absurd (omega (arith, zero_at e l));
        closed = λ e l x. absurd (omega (arith, zero_at e l));
      }

  pub scan_end : {c : List ℕ} {n d : ℕ} → Scanned (decode p) c n d → h.pieces ≤ d →
      (true ≡ acyclic (decode p)) × (n ≡ follows_of (decode p)) × (n ≤ piece_total (decode p))
  unfolding acyclic
  scan_end {c} {n} v l =
      let t = totals k in
      let T = decode p in
      let P = piece_total T in
      let all : n ≡ P = v.follows ∙ coloured_all c P (λ e m. v.passed e (omega arith)) in
      let ended : (e : ℕ) → e < P → follow T P (suc e) ≡ 0 = λ e m. follow_more T n P (suc e) (omega arith) (v.ended e m (v.passed e (omega arith))) in
      let ends : Is (acyclic T) = all_intro P (ends_from T) (λ e m. eq→eqb _ _ (ended e m)) in
      (sym (is_true _ ends), all ∙ sym (follows_all T ends), omega arith)
