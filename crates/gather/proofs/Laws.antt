-- What gather sums and copies. Assumes nothing.
use Rattle.std.proofs.Common.{◌≡◌, ℕ, ◌+◌, ◌-◌, ◌≤◌, ◌<◌, Bool, true, false, ◌||◌, eqb, ltb, ltb-false, List, [], ◌∷◌, ◌++◌, length, get_or, take, drop, Ok, Err, MatchResult, refl, sym, ap, ap₂, ◌∙◌, arith, tests, length-append, length-take, length-drop}
use Rattle.std.proofs.Math.Seq.{paste}
use lib.Dec.{ltb→lt}
use Rattle.std.proofs.Math.Bool.{or_assoc, or-false}
use Rattle.std.proofs.lemmas.Bool.{or_parts}
use Rattle.std.proofs.lemmas.Grind.{common_steps}
use Rattle.std.proofs.lemmas.List.Edits.{paste_none, paste_all, paste-paste, length-paste}
use Rattle.kinds.specs.declared.Refusal.{Refusal}
use Rattle.kinds.specs.declared.Refusal.TheVariants.{Narrow, WireList}
use Rattle.kinds.specs.Refusal.{refusal_code}
use Rattle.rules.specs.Basics.{Is, whether◌then◌else◌}
use Rattle.rules.specs.Read.{copied}
use Rattle.rules.specs.Gather.{lengths_of, any_amiss, listed, gather}
use Rattle.rules.proofs.Logic.{if_either, is_false, not_less}
use Rattle.rules.proofs.Codes.{refusal_pos}
use Rattle.rules.proofs.Gather.{listed_length, gather_cases, gather_refused, gather_done}
use Rattle.gather.specs.Sum.{summed}

-- ---- the records of a list

-- two numbers are a record
two : (x : List ℕ) → length x ≡ 2 → x ≡ get_or x 0 0 ∷ get_or x 1 0 ∷ []
two [] l = absurd (omega arith)
two (p ∷ []) l = absurd (omega arith)
two (p ∷ n ∷ []) l = refl
two (p ∷ n ∷ q ∷ x) l = absurd (omega arith)

-- the record x comes first, and then the list goes on
pub record First (rest x next : List ℕ) : Type 0 where
  pub joined : rest ≡ x ++ next
  pub long : length x ≡ 2

module _ {rest x next : List ℕ} (f : First rest x next) where
  numbers : rest ≡ get_or x 0 0 ∷ get_or x 1 0 ∷ next
  numbers = f.joined ∙ ap (λ (y : List ℕ). y ++ next) (two x f.long)

  pub lengths_on : lengths_of rest ≡ get_or x 1 0 + lengths_of next
  unfolding lengths_of
  lengths_on = ap lengths_of numbers

  pub amiss_on : (z : ℕ) → any_amiss z rest ≡ ((eqb (get_or x 1 0) 0 || ltb z (get_or x 0 0 + get_or x 1 0)) || any_amiss z next)
  unfolding any_amiss
  amiss_on z = ap (any_amiss z) numbers

  pub listed_on : (st : List ℕ) → listed st rest ≡ take (get_or x 1 0) (drop (get_or x 0 0) st) ++ listed st next
  unfolding listed
  listed_on st = ap (listed st) numbers

-- fewer than two numbers are no record
pub none : (z : ℕ) (list : List ℕ) → length list < 2 → (lengths_of list ≡ 0) × (any_amiss z list ≡ false)
unfolding lengths_of any_amiss
none z [] h = (refl, refl)
none z (p ∷ []) h = (refl, refl)
none z (p ∷ n ∷ list) h = absurd (omega arith)

-- ---- the sum

-- the records before `rest` are summed: `left` of the room is left, and `bad` says whether one of them is amiss
pub record Summing (list : List ℕ) (z room left : ℕ) (bad : Bool) (rest : List ℕ) : Type 0 where
  pub spent : left + lengths_of list ≡ room + lengths_of rest
  pub judged : any_amiss z list ≡ (bad || any_amiss z rest)

module _ {list : List ℕ} {z room left : ℕ} {bad : Bool} {rest : List ℕ} (w : Summing list z room left bad rest) where
  -- where the next length passes what is left, the sum passes the room; else it is taken off
  module _ {x next : List ℕ} (f : First rest x next) where
    pub summing_narrow : left < get_or x 1 0 → Err Narrow ≡ summed list z room
    unfolding summed whether◌then◌else◌
    summing_narrow h = let k : room < lengths_of list = omega (arith, w.spent, lengths_on f) in grind (arith, tests)

    pub summing_on : {left' : ℕ} {a : Bool} → left ≡ left' + get_or x 1 0 → a ≡ (eqb (get_or x 1 0) 0 || ltb z (get_or x 0 0 + get_or x 1 0)) → Summing list z room left' (bad || a) next
    summing_on h e = record { spent = omega (arith, w.spent, lengths_on f); judged = w.judged ∙ ap (λ b. bad || b) (amiss_on f z ∙ ap (λ b. b || any_amiss z next) (sym e)) ∙ sym (or_assoc bad _ _) }

  -- where no record is left, all lengths are taken off, and every record is judged
  module _ (h : length rest < 2) where
    all_spent : left + lengths_of list ≡ room
    all_spent = omega (arith, w.spent, (none z rest h).0)

    all_judged : any_amiss z list ≡ bad
    all_judged = w.judged ∙ ap (λ b. bad || b) (none z rest h).1 ∙ or-false bad

    pub summing_room : left ≤ room
    summing_room = omega (arith, all_spent)

    pub summing_amiss : bad ≡ true → Err WireList ≡ summed list z room
    unfolding summed whether◌then◌else◌
    summing_amiss e = grind (arith, tests, all_spent, all_judged)

    pub summing_done : bad ≡ false → Ok (room - left) ≡ summed list z room
    unfolding summed whether◌then◌else◌
    summing_done e = let s : room - left ≡ lengths_of list = omega (arith, all_spent) in grind (arith, tests, all_judged)

-- ---- a copy under way

-- the bytes of the records of `rest` go to the place t of the output, which is then `goal`
pub record Listing (st goal rest out : List ℕ) (t : ℕ) : Type 0 where
  pub good : any_amiss (length st) rest ≡ false
  pub size : length (listed st rest) ≡ lengths_of rest
  pub room : t + lengths_of rest ≤ length out
  pub same : paste out t (listed st rest) (lengths_of rest) ≡ goal

-- all of them go to the front
pub listing_first : (st list out rest : List ℕ) → rest ≡ list → lengths_of list ≤ length out → (Is (any_amiss (length st) list) → ⊥) → Listing st (copied (listed st list) out) rest out 0
listing_first st list out rest is h g =
    let e = listed_length st list g in
    rw is (record { good = is_false _ g; size = e; room = omega arith; same = grind (arith, common_steps) })

module _ {st goal rest out : List ℕ} {t : ℕ} (w : Listing st goal rest out t) where
  -- the first of them lies in storage, there is room for it, and once it is written the others are left
  module _ {x next : List ℕ} (f : First rest x next) where
    abbrev p : ℕ
    p = get_or x 0 0

    abbrev n : ℕ
    n = get_or x 1 0

    fine : (p + n ≤ length st) × (any_amiss (length st) next ≡ false)
    fine = let a = or_parts _ _ (sym (amiss_on f (length st)) ∙ w.good) in (ltb-false (length st) (p + n) (or_parts _ _ a.0).1, a.1)

    pub listing_fits : (t + n ≤ length out) × (p + n ≤ length st)
    listing_fits = (omega (arith, w.room, lengths_on f), fine.0)

    pub listing_on : {out' : List ℕ} → out' ≡ take t out ++ (take n (drop p st) ++ drop (t + n) out) → Listing st goal next out' (t + n)
    listing_on {out'} e =
        let y = take n (drop p st) in
        let l : n ≡ length y = simp (length-take, length-drop) (omega (arith, fine.0)) in
        let k : t + n ≤ length out = omega (arith, w.room, lengths_on f) in
        let m : length (listed st next) ≡ lengths_of next = omega (arith, w.size, lengths_on f, simp length-append at (ap length (listed_on f st))) in
        let o : out' ≡ paste out t y n = e ∙ sym (paste_all out t y n l) in
        record {
          good = fine.1;
          size = m;
          room = omega (arith, w.room, lengths_on f, ap length o, length-paste out t y n k (omega arith));
          same = ap (λ (q : List ℕ). paste q (t + n) (listed st next) (lengths_of next)) o
              ∙ paste-paste out t y (listed st next) n (lengths_of next) l (sym m) (omega arith)
              ∙ ap₂ (paste out t) (sym (listed_on f st)) (sym (lengths_on f)) ∙ w.same;
        }

  -- where no record is left, the output is the goal
  pub listing_done : length rest < 2 → out ≡ goal
  listing_done h = paste_none out t (listed st rest) ∙ ap (paste out t (listed st rest)) (sym (none 0 rest h).0) ∙ w.same

-- ---- the answer

module _ (st list out : List ℕ) where
  -- where the bytes are counted, they are copied
  pub record Copied (n : ℕ) : Type 0 where
    pub enough : lengths_of list ≤ length out
    pub good : Is (any_amiss (length st) list) → ⊥
    pub counted : gather st list out ≡ record { code = 0; number = n; output = copied (listed st list) out }

  -- a refusal leaves the output
  abbrev pub Refused : Refusal → Type 0
  Refused r = gather st list out ≡ record { code = refusal_code r; number = 0; output = out }

  refused : (r : Refusal) → (gather st list out).code ≡ refusal_code r → Refused r
  refused r e = gather_refused st list out (λ z. omega (arith, refusal_pos r)) ∙ ap (λ (c : ℕ). record { code = c; number = 0; output = out }) e

  pub answered : MatchResult (summed list (length st) (length out)) Copied Refused
  unfolding summed
  answered =
      let all = gather_cases st list out in
      if_either (λ s. MatchResult s Copied Refused) (ltb (length out) (lengths_of list)) (Err Narrow) _
      (λ a. refused Narrow (all.narrow.1 (ltb→lt _ _ a)))
      (λ a. if_either (λ s. MatchResult s Copied Refused) (any_amiss (length st) list) (Err WireList) (Ok (lengths_of list))
      (λ b. refused WireList (all.amiss.1 (not_less _ _ a, b)))
      (λ b. record { enough = not_less _ _ a; good = b; counted = gather_done st list out (not_less _ _ a) b }))
