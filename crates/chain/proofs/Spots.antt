-- The place found in a chain: it lies inside a piece in use, and what is cut out or left from there is the same. Assumes nothing.
use mathlib.Core.Path.{◌≡◌, refl, sym, ap, subst, ◌∙◌}
use mathlib.Core.Bool.{Bool, true, false, ◌&&◌}
use mathlib.Core.List.{List, [], ◌∷◌}
use Prim.Native.Nat.{ℕ, zero, suc, ◌+◌, ◌-◌, ◌≤◌, ◌<◌}
use native.Mathlib.Decide.{ℕ_discrete, dec_le}
use native.Mathlib.Omega.{arith}
use lib.ListN.{length, drop}
use lib.Dec.{eqb, eqb→eq, ltb, ltb→lt, lt→ltb, leb, leb→le, le→leb}
use Rattle.std.specs.Prelude.{Ok, Err}
use Rattle.kinds.specs.declared.Refusal.{Refusal}
use Rattle.kinds.specs.declared.Refusal.TheVariants.{Range}
use Rattle.rules.specs.Basics.{Is, whether◌then◌else◌}
use Rattle.rules.specs.Tables.{Tables, piece, head_of, slip_total, piece_total, buffer_total}
use Rattle.rules.specs.Chain.{Stretch, walk, own_at, stretch, total, length_of, cut_out, contents}
use Rattle.rules.specs.Sound.{link_ok, SoundTables}
use Rattle.rules.proofs.Logic.{if_T, if_F, not_less, same_test, and_intro, and_parts, eq→eqb}
use Rattle.rules.proofs.Contents.{Fit, drop_out, drop_out_contents}
use Rattle.chain.specs.declared.Spot.{Spot}
use Rattle.chain.specs.Length.{stretches_from}
use Rattle.chain.specs.Find.{spot_of, past_end, found}
use Rattle.chain.proofs.Links.{link_leads, walk_none, walk_on, walk_less, stretches_on, stretches_in, length_empty}

-- ---- whether one piece is own

-- none is behind one that is not
pub own_lost : (T : Tables) (own : Bool) (d : ℕ) → own ≡ false → false ≡ own_at T own d
own_lost T own d e = ap (λ (b : Bool). b && eqb (piece T d).count 1) (sym e)

-- behind own pieces its count, v, tells
pub own_kept : (T : Tables) (own : Bool) (d v : ℕ) → own ≡ true → v ≡ (piece T d).count → eqb v 1 ≡ own_at T own d
own_kept T own d v e c = ap (λ (x : ℕ). eqb x 1) c ∙ ap (λ (b : Bool). b && eqb (piece T d).count 1) (sym e)

-- ---- the place, over the pieces met

-- the place off bytes into the pieces of a list; own: all before them are own
abbrev spot_in : Tables → Bool → List ℕ → ℕ → Spot
spot_in T own [] off = record { link = 0; into = off; own = own }
spot_in T own (d ∷ ds) off =
    whether leb (piece T d).len off then spot_in T (own_at T own d) ds (off - (piece T d).len) else record { link = suc d; into = off; own = own_at T own d }

-- the place over the pieces allowed is that over the pieces met
spot_walk : (k : ℕ) (T : Tables) (own : Bool) (n off : ℕ) → spot_of k T own n off ≡ spot_in T own (walk k T n) off
unfolding spot_of walk
spot_walk zero T own n off = refl
spot_walk (suc k) T own zero off = refl
spot_walk (suc k) T own (suc d) off =
    let p = piece T d in
    ap (λ (q : Spot). whether leb p.len off then q else record { link = suc d; into = off; own = own_at T own d })
    (spot_walk k T (own_at T own d) p.next (off - p.len))

-- past the last piece
pub spot_end : (k : ℕ) (T : Tables) (own : Bool) (off : ℕ) → spot_of k T own 0 off ≡ record { link = 0; into = off; own = own }
spot_end k T own off = spot_walk k T own 0 off ∙ ap (λ (l : List ℕ). spot_in T own l off) (walk_none k T)

module _ (T : Tables) (own : Bool) (n off : ℕ) (S : SoundTables T) (t : Is (link_ok T n)) (i : n ≡ 0 → ⊥) where
  -- the stretch of the first piece, whether it is own, the link after it, and P
  abbrev first : Stretch
  first = stretch (piece T (n - 1))

  abbrev still : Bool
  still = own_at T own (n - 1)

  abbrev after : ℕ
  after = (piece T (n - 1)).next

  abbrev P : ℕ
  P = piece_total T

  -- one turn, with P allowed before and after it
  spot_step : spot_of P T own n off ≡ (whether leb first.len off then spot_of P T still after (off - first.len) else record { link = n; into = off; own = still })
  spot_step =
      let e : suc (n - 1) ≡ n = omega (arith, i) in
      spot_walk P T own n off ∙ ap (λ (l : List ℕ). spot_in T own l off) (walk_on T n S t i)
      ∙ (λ j. whether leb first.len off then sym (spot_walk P T still after (off - first.len)) j else record { link = e j; into = off; own = still })

  -- a piece that the offset passes is skipped, and in any other the place is found
  spot_skip : first.len ≤ off → spot_of P T own n off ≡ spot_of P T still after (off - first.len)
  spot_skip h = spot_step ∙ if_T (leb first.len off) _ _ (le→leb first.len off h)

  spot_here : off < first.len → spot_of P T own n off ≡ record { link = n; into = off; own = still }
  spot_here h = spot_step ∙ if_F (leb first.len off) _ _ (λ z. omega (arith, leb→le first.len off z))

  -- so a turn of the walk goes, where m, b and k are what was read: the next link, whether the piece is own, and its length
  pub spot_turn : {m k : ℕ} {b : Bool} → m ≡ after → b ≡ still → k ≡ first.len → k ≤ off → spot_of P T b m (off - k) ≡ spot_of P T own n off
  spot_turn d o e h = (λ j. spot_of P T (o j) (d j) (off - e j)) ∙ sym (spot_skip (omega arith))

  pub spot_stop : {k : ℕ} {b : Bool} → b ≡ still → k ≡ first.len → off < k → record { link = n; into = off; own = b } ≡ spot_of P T own n off
  spot_stop o e h = ap (λ (x : Bool). record { link = n; into = off; own = x }) o ∙ sym (spot_here (omega arith))

-- ---- what is cut out, and what stays

-- no bytes are no stretches
pub cut_out_none : (xs : List Stretch) (off : ℕ) → cut_out xs off 0 ≡ []
unfolding cut_out
cut_out_none [] off = refl
cut_out_none (x ∷ xs) off = refl

-- a stretch that the offset passes adds nothing
cut_out_past : (x : Stretch) (xs : List Stretch) (off c : ℕ) → x.len ≤ off → cut_out (x ∷ xs) off c ≡ cut_out xs (off - x.len) c
unfolding cut_out
cut_out_past x xs off zero h = sym (cut_out_none xs (off - x.len))
cut_out_past x xs off (suc c) h = if_T (leb x.len off) _ _ (le→leb x.len off h)

drop_out_past : (x : Stretch) (xs : List Stretch) (off : ℕ) → x.len ≤ off → drop_out (x ∷ xs) off ≡ drop_out xs (off - x.len)
unfolding drop_out
drop_out_past x xs off h = if_T (leb x.len off) _ _ (le→leb x.len off h)

-- the length of the first stretch, and of those after it
pub total_first : (x : Stretch) (xs : List Stretch) → total (x ∷ xs) ≡ x.len + total xs
unfolding total
total_first x xs = refl

-- ---- the laws of the place found

-- s is the place off bytes after the link n
pub record Found (T : Tables) (n off : ℕ) (s : Spot) : Type 0 where
  pub good : Is (link_ok T s.link)
  pub inside : (s.link ≡ 0 → ⊥) → s.into < (piece T (s.link - 1)).len
  pub cut : (c : ℕ) → cut_out (stretches_from T n) off c ≡ cut_out (stretches_from T s.link) s.into c
  pub stays : drop_out (stretches_from T n) off ≡ drop_out (stretches_from T s.link) s.into
  pub lengths : total (stretches_from T n) + s.into ≡ total (stretches_from T s.link) + off

module _ (T : Tables) (S : SoundTables T) where
  -- the place from a link, with all that is allowed
  abbrev spot : Bool → ℕ → ℕ → Spot
  spot own n off = spot_of (piece_total T) T own n off

  -- the laws, where at most j pieces are met
  abbrev AtMost : ℕ → Type 0
  AtMost j = (own : Bool) (n off : ℕ) → Is (link_ok T n) → length (walk (piece_total T) T n) ≤ j → Found T n off (spot own n off)

  -- past the last piece there is nothing
  found_end : (own : Bool) (off : ℕ) → Found T 0 off (spot own 0 off)
  found_end own off =
      subst (Found T 0 off) (sym (spot_end (piece_total T) T own off))
      (record { good = tt; inside = λ h. absurd (h refl); cut = λ c. refl; stays = refl; lengths = refl })

  found_empty : (own : Bool) (n off : ℕ) → n ≡ 0 → Found T n off (spot own n off)
  found_empty own n off e = subst (λ (x : ℕ). Found T x off (spot own x off)) (sym e) (found_end own off)

  -- where the offset passes the first piece, the place is that after it
  found_next : (own : Bool) (n off : ℕ) → Is (link_ok T n) → (n ≡ 0 → ⊥) → (piece T (n - 1)).len ≤ off
      → Found T (piece T (n - 1)).next (off - (piece T (n - 1)).len) (spot (own_at T own (n - 1)) (piece T (n - 1)).next (off - (piece T (n - 1)).len))
      → Found T n off (spot own n off)
  found_next own n off t i h f =
      let x = first T own n off S t i in
      let xs = stretches_from T (piece T (n - 1)).next in
      let m = stretches_on T n S t i in
      subst (Found T n off) (sym (spot_skip T own n off S t i h))
      (record {
        good = f.good;
        inside = f.inside;
        cut = λ c. ap (λ (l : List Stretch). cut_out l off c) m ∙ cut_out_past x xs off c h ∙ f.cut c;
        stays = ap (λ (l : List Stretch). drop_out l off) m ∙ drop_out_past x xs off h ∙ f.stays;
        lengths = omega (arith, ap total m, total_first x xs, f.lengths);
      })

  -- else it is in the first piece
  found_here : (own : Bool) (n off : ℕ) → Is (link_ok T n) → (n ≡ 0 → ⊥) → off < (piece T (n - 1)).len → Found T n off (spot own n off)
  found_here own n off t i h =
      subst (Found T n off) (sym (spot_here T own n off S t i h)) (record { good = t; inside = λ _. h; cut = λ c. refl; stays = refl; lengths = refl })

  found_by : (j : ℕ) → AtMost j
  found_by zero own n off t l = elim (ℕ_discrete n 0) [
    | yes e ↦ found_empty own n off e
    | no e ↦ absurd (omega (arith, walk_less T n S t e))
  ]
  found_by (suc j) own n off t l = elim (ℕ_discrete n 0) [
    | yes e ↦ found_empty own n off e
    | no e ↦
        elim (dec_le (piece T (n - 1)).len off) [
          | yes h ↦
              found_next own n off t e h
              (found_by j (own_at T own (n - 1)) (piece T (n - 1)).next (off - (piece T (n - 1)).len) (link_leads T n S t e).onward (omega (arith, walk_less T n S t e)))
          | no h ↦ found_here own n off t e (omega arith)
        ]
  ]

  -- the place lies inside a piece in use, or past the end; what is cut out from there is the same
  pub found_from : (own : Bool) (n off : ℕ) → Is (link_ok T n) → Found T n off (spot_of (piece_total T) T own n off)
  found_from own n off t = found_by (length (walk (piece_total T) T n)) own n off t (omega arith)

-- the bytes of a chain from off on are those from the place found, whatever the storage holds
pub found_bytes : (T : Tables) (S : SoundTables T) (n off : ℕ) (s : Spot) → Is (link_ok T n) → Found T n off s → (st : List ℕ) → Fit T.stock (buffer_total T) st
    → drop s.into (contents T.stock st (stretches_from T s.link)) ≡ drop off (contents T.stock st (stretches_from T n))
found_bytes T S n off s t f st w =
    let B = buffer_total T in
    sym (drop_out_contents T.stock B st (stretches_from T s.link) s.into w (stretches_in T s.link S f.good)) ∙ ap (contents T.stock st) (sym f.stays)
    ∙ drop_out_contents T.stock B st (stretches_from T n) off w (stretches_in T n S t)

-- ---- the place in a slip's chain, from what the code has: the head link and the place found from there

module _ (T : Tables) (s off : ℕ) {head : ℕ} {at : Spot} (from : head ≡ head_of T s) (is : at ≡ spot_of (piece_total T) T true head off) where
  module _ (S : SoundTables T) (l : s < slip_total T) where
    -- it has the laws of a place found
    pub found_at : Found T (head_of T s) off at
    found_at =
        subst (Found T (head_of T s) off) (ap (λ (n : ℕ). spot_of (piece_total T) T true n off) (sym from) ∙ sym is)
        (found_from T S true (head_of T s) off (S.slips_ok s l))

    -- where a piece is left it comes before the end
    pub before_end : (at.link ≡ 0 → ⊥) → off < length_of T s
    before_end z =
        let f = found_at in
        let on = ap total (stretches_on T at.link S f.good z) in
        omega (arith, f.lengths, f.inside z, on, total_first (stretch (piece T (at.link - 1))) (stretches_from T (piece T (at.link - 1)).next))

    -- it lies past the end where the chain is shorter
    pub past_range : past_end at ≡ ltb (length_of T s) off
    past_range =
        let f = found_at in
        same_test (past_end at) (ltb (length_of T s) off)
        (λ t. (
        let (z, k) = and_parts (eqb at.link 0) (ltb 0 at.into) t in
        let none = length_empty (piece_total T) at.link T (eqb→eq at.link 0 z) in
        lt→ltb (length_of T s) off (omega (arith, f.lengths, none, ltb→lt 0 at.into k))))
        (λ t. (
        let less = ltb→lt (length_of T s) off t in
        elim (ℕ_discrete at.link 0) [
          | yes z ↦ and_intro (eqb at.link 0) (ltb 0 at.into) (eq→eqb at.link 0 z) (lt→ltb 0 at.into (omega (arith, f.lengths)))
          | no z ↦ absurd (omega (arith, before_end z))
        ]))

    -- else, where it is not past the end, it is the end
    pub at_end : at.link ≡ 0 → (Is (past_end at) → ⊥) → off ≡ length_of T s
    at_end z h =
        let f = found_at in
        let none = length_empty (piece_total T) at.link T z in
        let here = not_less 0 at.into (λ t. h (and_intro (eqb at.link 0) (ltb 0 at.into) (eq→eqb at.link 0 z) t)) in
        omega (arith, f.lengths, none, here)

-- ---- what was answered

-- a place at a piece does not lie past the end
pub at_piece : (n off : ℕ) (own : Bool) → (n ≡ 0 → ⊥) → Is (past_end (record { link = n; into = off; own = own })) → ⊥
at_piece n off own h t = h (eqb→eq n 0 (and_parts (eqb n 0) (ltb 0 off) t).0)

-- a place that does not is found, and one that does is refused
pub found_is : {x s : Spot} → s ≡ x → (Is (past_end s) → ⊥) → Ok s ≡ found x
found_is {x} e n = ap Ok e ∙ sym (if_F (past_end x) (Err Range) (Ok x) (λ t. n (subst (λ (y : Spot). Is (past_end y)) (sym e) t)))

pub found_no : {x s : Spot} → s ≡ x → Is (past_end s) → Err Range ≡ found x
found_no {x} e t = sym (if_T (past_end x) (Err Range) (Ok x) (subst (λ (y : Spot). Is (past_end y)) e t))

tested_ok : (b : Bool) (x : Spot) {s : Spot} → Ok s ≡ (whether b then Err Range else Ok x) → (s ≡ x) × (Is b → ⊥)
unfolding whether◌then◌else◌
tested_ok true x e = cc
tested_ok false x e = (cc, λ t. t)

tested_err : (b : Bool) (x : Spot) {r : Refusal} → Err r ≡ (whether b then Err Range else Ok x) → (r ≡ Range) × Is b
unfolding whether◌then◌else◌
tested_err true x e = (cc, tt)
tested_err false x e = cc

-- so a place that was found does not lie past the end, and one that was refused does
pub found_ok : (x : Spot) {s : Spot} → Ok s ≡ found x → (s ≡ x) × (Is (past_end x) → ⊥)
found_ok x e = tested_ok (past_end x) x e

pub found_err : (x : Spot) {r : Refusal} → Err r ≡ found x → (r ≡ Range) × Is (past_end x)
found_err x e = tested_err (past_end x) x e
