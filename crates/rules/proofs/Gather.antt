-- gather: when it refuses, the bytes that it copies, and what it gives of the records that list writes. Assumes nothing.
use mathlib.Core.Path.{◌≡◌, refl, sym, ap, ap₂, ◌∙◌}
use mathlib.Core.Logic.{◌≢◌, ◌↔◌, ◌⊎◌, inl, inr, ⊎_elim}
use mathlib.Core.Bool.{◌||◌}
use mathlib.Core.List.{List, [], ◌∷◌, ◌++◌}
use Prim.Native.Nat.{ℕ, zero, suc, ◌+◌, ◌*◌, ◌/◌, ◌≤◌, ◌<◌}
use native.Mathlib.Decide.{dec_lt}
use native.Mathlib.Omega.{arith}
use lib.ListN.{length, get_or, take, drop, length-append, length-take, length-drop}
use lib.Dec.{eqb, eqb→eq, ltb, ltb→lt, lt→ltb}
use Rattle.kinds.specs.declared.Refusal.TheVariants.{Narrow, WireList}
use Rattle.kinds.specs.Refusal.{refusal_code}
use Rattle.kinds.proofs.Sizes.{start_step}
use Rattle.rules.specs.Basics.{Is, sum_to}
use Rattle.rules.specs.Chain.{Stretch, total, bytes_of, position_of, contents}
use Rattle.rules.specs.Rule.{◌⇐◌}
use Rattle.rules.specs.Read.{copied}
use Rattle.rules.specs.List.{records}
use Rattle.rules.specs.Gather.{lengths_of, any_amiss, listed, Gathered, gather_code, gather}
use Rattle.rules.proofs.Logic.{if_T, if_either, or_none, or_cases, or_left, or_right, eq→eqb, not_less, is_dec}
use Rattle.rules.proofs.Sums.{sum_to_same, sum_to_shift}
use Rattle.rules.proofs.Build.{Good}
use Rattle.rules.proofs.Contents.{Fit}
use Rattle.rules.proofs.Codes.{first_yes, first_no, first_none}
use Rattle.rules.proofs.Read.{copied_front, copied_rest, copied_length}

-- ---- when it refuses

module _ (st list out : List ℕ) where
  code_narrow : length out < lengths_of list → gather_code st list out ≡ refusal_code Narrow
  code_narrow h = first_yes (Narrow ⇐ ltb (length out) (lengths_of list)) _ (lt→ltb (length out) (lengths_of list) h)

  wide : lengths_of list ≤ length out → Is (ltb (length out) (lengths_of list)) → ⊥
  wide h t = omega (arith, ltb→lt (length out) (lengths_of list) t)

  code_list : lengths_of list ≤ length out → Is (any_amiss (length st) list) → gather_code st list out ≡ refusal_code WireList
  code_list h t = first_no (Narrow ⇐ ltb (length out) (lengths_of list)) _ (wide h) ∙ first_yes (WireList ⇐ any_amiss (length st) list) [] t

  code_done : lengths_of list ≤ length out → (Is (any_amiss (length st) list) → ⊥) → gather_code st list out ≡ 0
  code_done h n = first_no (Narrow ⇐ ltb (length out) (lengths_of list)) _ (wide h) ∙ first_no (WireList ⇐ any_amiss (length st) list) [] n ∙ first_none

  -- its answer's code is that code
  code_given : (gather st list out).code ≡ gather_code st list out
  unfolding gather
  code_given = if_either (λ (r : Gathered). r.code ≡ gather_code st list out) (eqb (gather_code st list out) 0) _ _ (λ t. sym (eqb→eq (gather_code st list out) 0 t)) (λ _. refl)

  -- the three cases
  pub record Cases : Type 0 where
    pub narrow : ((gather st list out).code ≡ refusal_code Narrow) ↔ (length out < lengths_of list)
    pub amiss : ((gather st list out).code ≡ refusal_code WireList) ↔ ((lengths_of list ≤ length out) × Is (any_amiss (length st) list))
    pub whole : ((gather st list out).code ≡ 0) ↔ ((lengths_of list ≤ length out) × (Is (any_amiss (length st) list) → ⊥))

  pub gather_cases : Cases
  gather_cases =
      elim (dec_lt (length out) (lengths_of list)) [
        | yes h ↦ (let e = code_given ∙ code_narrow h in
            record { narrow = (λ _. h, λ _. e); amiss = (λ z. absurd (omega arith), λ p. absurd (omega (arith, p.0))); whole = (λ z. absurd (omega arith), λ p. absurd (omega (arith, p.0))) })
        | no h ↦ (let w : lengths_of list ≤ length out = omega arith in
            ⊎_elim
            (λ t. (let e = code_given ∙ code_list w t in
            record { narrow = (λ z. absurd (omega arith), λ p. absurd (omega arith)); amiss = (λ _. (w, t), λ _. e); whole = (λ z. absurd (omega arith), λ p. absurd (p.1 t)) }))
            (λ n. (let e = code_given ∙ code_done w n in
            record { narrow = (λ z. absurd (omega arith), λ p. absurd (omega arith)); amiss = (λ z. absurd (omega arith), λ p. absurd (n p.1)); whole = (λ _. (w, n), λ _. e) }))
            (is_dec (any_amiss (length st) list)))
      ]

  -- a no comes with the number 0, and leaves the output
  pub gather_refused : (gather st list out).code ≢ 0 → gather st list out ≡ record { code = (gather st list out).code; number = 0; output = out }
  unfolding gather
  gather_refused =
      if_either (λ (r : Gathered). r.code ≢ 0 → r ≡ record { code = r.code; number = 0; output = out }) (eqb (gather_code st list out) 0) _ _ (λ _ n. absurd (n refl)) (λ _ _. refl)

  -- done, it gives the records' bytes and their count
  pub gather_done : lengths_of list ≤ length out → (Is (any_amiss (length st) list) → ⊥) → gather st list out ≡ record { code = 0; number = lengths_of list; output = copied (listed st list) out }
  unfolding gather
  gather_done h n = if_T (eqb (gather_code st list out) 0) _ _ (eq→eqb _ 0 (code_done h n))

-- ---- record by record: its position stands at place 2 i of the list, and its length behind it

-- the numbers of a list behind its first record
behind_position : (p n : ℕ) (list : List ℕ) (i : ℕ) → get_or (p ∷ n ∷ list) (2 * suc i) 0 ≡ get_or list (2 * i) 0
behind_position p n list i = (let e : 2 * suc i ≡ suc (suc (2 * i)) = omega arith in ap (λ j. get_or (p ∷ n ∷ list) j 0) e)

behind_length : (p n : ℕ) (list : List ℕ) (i : ℕ) → get_or (p ∷ n ∷ list) (2 * suc i + 1) 0 ≡ get_or list (2 * i + 1) 0
behind_length p n list i = (let e : 2 * suc i + 1 ≡ suc (suc (2 * i + 1)) = omega arith in ap (λ j. get_or (p ∷ n ∷ list) j 0) e)

-- record i is whole, and has no length or leaves a storage of z bytes
abbrev pub AmissAt : ℕ → List ℕ → ℕ → Type 0
AmissAt z list i = (2 * i + 1 < length list) × ((get_or list (2 * i + 1) 0 ≡ 0) ⊎ (z < get_or list (2 * i) 0 + get_or list (2 * i + 1) 0))

amiss_first : (z p n : ℕ) (list : List ℕ) → Is (eqb n 0 || ltb z (p + n)) ↔ AmissAt z (p ∷ n ∷ list) 0
amiss_first z p n list = (
  λ t. (omega arith, ⊎_elim (λ e. inl (eqb→eq n 0 e)) (λ l. inr (ltb→lt z (p + n) l)) (or_cases (eqb n 0) _ t)),
  λ x. ⊎_elim (λ e. or_left (eqb n 0) _ (eq→eqb n 0 e)) (λ l. or_right (eqb n 0) _ (lt→ltb z (p + n) l)) x.1,
)

amiss_behind : (z p n : ℕ) (list : List ℕ) (i : ℕ) → AmissAt z list i ↔ AmissAt z (p ∷ n ∷ list) (suc i)
amiss_behind z p n list i =
    let a = behind_position p n list i in
    let b = behind_length p n list i in (
      λ x. (omega (arith, x.0), ⊎_elim (λ e. inl (b ∙ e)) (λ l. inr (omega arith)) x.1),
      λ x. (omega (arith, x.0), ⊎_elim (λ e. inl (sym b ∙ e)) (λ l. inr (omega arith)) x.1),
    )

-- some record is amiss just where a whole one is
pub amiss_at : (z : ℕ) (list : List ℕ) → Is (any_amiss z list) ↔ ((i : ℕ) × AmissAt z list i)
unfolding any_amiss
amiss_at z [] = (λ t. absurd t, λ x. absurd (omega (arith, x.1.0)))
amiss_at z (p ∷ []) = (λ t. absurd t, λ x. absurd (omega (arith, x.1.0)))
amiss_at z (p ∷ n ∷ list) = (
  λ t. ⊎_elim (λ a. (0, (amiss_first z p n list).0 a)) (λ r. (let (i, x) = (amiss_at z list).0 r in (suc i, (amiss_behind z p n list i).0 x)))
      (or_cases (eqb n 0 || ltb z (p + n)) _ t),
  λ x. back (amiss_at z list).1 x.0 x.1,
)
  where
    back : (((i : ℕ) × AmissAt z list i) → Is (any_amiss z list)) → (i : ℕ) → AmissAt z (p ∷ n ∷ list) i → Is ((eqb n 0 || ltb z (p + n)) || any_amiss z list)
    back h zero x = or_left (eqb n 0 || ltb z (p + n)) _ ((amiss_first z p n list).1 x)
    back h (suc i) x = or_right (eqb n 0 || ltb z (p + n)) _ (h (i, (amiss_behind z p n list i).1 x))

-- the sum of the lengths of the whole records
pub lengths_at : (list : List ℕ) → lengths_of list ≡ sum_to (length list / 2) (λ i. get_or list (2 * i + 1) 0)
unfolding lengths_of
lengths_at [] = refl
lengths_at (p ∷ []) = refl
lengths_at (p ∷ n ∷ list) =
    let f : ℕ → ℕ = λ i. get_or (p ∷ n ∷ list) (2 * i + 1) 0 in
    let k : length (p ∷ n ∷ list) / 2 ≡ suc (length list / 2) = omega arith in
    ap (λ j. n + j) (lengths_at list ∙ sum_to_same (length list / 2) _ _ (λ i _. sym (behind_length p n list i)))
    ∙ sym (sum_to_shift (length list / 2) f) ∙ ap (λ j. sum_to j f) (sym k)

-- ---- the bytes that it copies

-- where no record is amiss, a record's bytes are as many as its length says
pub listed_length : (st list : List ℕ) → (Is (any_amiss (length st) list) → ⊥) → length (listed st list) ≡ lengths_of list
unfolding lengths_of any_amiss listed
listed_length st [] n = refl
listed_length st (p ∷ []) n = refl
listed_length st (p ∷ k ∷ list) n =
    let both = or_none (eqb k 0 || ltb (length st) (p + k)) (any_amiss (length st) list) n in
    let inside = not_less (length st) (p + k) (or_none (eqb k 0) (ltb (length st) (p + k)) both.0).1 in
    length-append (take k (drop p st)) (listed st list) ∙ ap₂ ◌+◌ (simp (length-take, length-drop) (omega arith)) (listed_length st list both.1)

-- What gather gives: the records' bytes in order, as many as their lengths say, at the front of the output, whose rest is unchanged.
pub record GatherExact (st list out : List ℕ) : Type 0 where
  pub in_full : length (listed st list) ≡ lengths_of list
  pub counted : (gather st list out).number ≡ lengths_of list
  pub as_long : length (gather st list out).output ≡ length out
  pub front : take (lengths_of list) (gather st list out).output ≡ listed st list
  pub rest : drop (lengths_of list) (gather st list out).output ≡ drop (lengths_of list) out

-- a done gather gives that
pub gather_exact : (st list out : List ℕ) → (gather st list out).code ≡ 0 → GatherExact st list out
gather_exact st list out e =
    let (w, n) = (gather_cases st list out).whole.0 e in
    let is = gather_done st list out w n in
    let k = lengths_of list in
    let l = listed_length st list n in
    record {
      in_full = l;
      counted = ap (λ (r : Gathered). r.number) is;
      as_long = ap (λ (r : Gathered). length r.output) is ∙ copied_length k (listed st list) out l w;
      front = ap (λ (r : Gathered). take k r.output) is ∙ copied_front k (listed st list) out l;
      rest = ap (λ (r : Gathered). drop k r.output) is ∙ copied_rest k (listed st list) out l;
    }

-- ---- the records that list writes

-- have the position of piece i at place 2 i, and its length behind it
pub records_at : (Z : List ℕ) (xs : List Stretch) (i : ℕ) (x : Stretch) → i < length xs
    → (get_or (records Z xs) (2 * i) 0 ≡ position_of Z (get_or xs i x)) × (get_or (records Z xs) (2 * i + 1) 0 ≡ (get_or xs i x).len)
unfolding records
records_at Z [] i x l = absurd (omega arith)
records_at Z (y ∷ ys) zero x l = (refl, refl)
records_at Z (y ∷ ys) (suc i) x l =
    let (a, b) = records_at Z ys i x (omega arith) in
    (behind_position (position_of Z y) y.len (records Z ys) i ∙ a, behind_length (position_of Z y) y.len (records Z ys) i ∙ b)

-- ask as many bytes as the chain has
pub records_ask : (Z : List ℕ) (xs : List Stretch) → lengths_of (records Z xs) ≡ total xs
unfolding records lengths_of total
records_ask Z [] = refl
records_ask Z (x ∷ xs) = omega (arith, records_ask Z xs)

-- are none of them amiss
records_fit : (Z : List ℕ) (B : ℕ) (st : List ℕ) (xs : List Stretch) → Fit Z B st → Good Z B xs → Is (any_amiss (length st) (records Z xs)) → ⊥
unfolding records any_amiss
records_fit Z B st [] f g t = t
records_fit Z B st (x ∷ xs) f g t =
    ⊎_elim
    (λ a. ⊎_elim (λ z. omega (arith, eqb→eq x.len 0 z, g.1)) (λ o. omega (arith, ltb→lt (length st) (position_of Z x + x.len) o, start_step Z x.buffer B g.0, g.2, f)) (or_cases (eqb x.len 0) _ a))
    (λ r. records_fit Z B st xs f g.3 r)
    (or_cases (eqb x.len 0 || ltb (length st) (position_of Z x + x.len)) _ t)

-- and name its bytes
records_listed : (Z : List ℕ) (st : List ℕ) (xs : List Stretch) → listed st (records Z xs) ≡ contents Z st xs
unfolding records listed contents
records_listed Z st [] = refl
records_listed Z st (x ∷ xs) = ap (λ (l : List ℕ). bytes_of Z st x ++ l) (records_listed Z st xs)

module _ (Z : List ℕ) (B : ℕ) (st out : List ℕ) (xs : List Stretch) (f : Fit Z B st) (g : Good Z B xs) where
  -- so gather of them copies the chain's bytes, where the output takes them
  pub gather_records : total xs ≤ length out → gather st (records Z xs) out ≡ record { code = 0; number = total xs; output = copied (contents Z st xs) out }
  gather_records h =
      let ask = records_ask Z xs in
      gather_done st (records Z xs) out (omega arith) (records_fit Z B st xs f g) ∙ (λ i. record { code = 0; number = ask i; output = copied (records_listed Z st xs i) out })

  pub gather_short : length out < total xs → gather st (records Z xs) out ≡ record { code = refusal_code Narrow; number = 0; output = out }
  gather_short h =
      let e : (gather st (records Z xs) out).code ≡ refusal_code Narrow = (gather_cases st (records Z xs) out).narrow.1 (omega (arith, records_ask Z xs)) in
      gather_refused st (records Z xs) out (λ z. omega arith) ∙ (λ i. record { code = e i; number = 0; output = out })
