-- What list writes: one record more at each turn, behind those written. Assumes nothing.
use mathlib.Core.Path.{◌≡◌, refl, sym, ap, subst, ◌∙◌}
use mathlib.Core.List.{List, [], ◌∷◌, ◌++◌, head-eq_of_cons-eq}
use Prim.Native.Nat.{ℕ, zero, suc, ◌+◌, ◌-◌, ◌*◌, ◌/◌, ◌≤◌, ◌<◌}
use native.Mathlib.Numerals.{add-one}
use native.Mathlib.Omega.{arith}
use lib.ListN.{length, get_or, take, drop, set, length-append, length-take, length-drop}
use lib.Seq.{sets-eq, take_at, take-length, drop-append-add, drop-drop}
use Rattle.std.proofs.lemmas.Result.{IfOk-at_ok}
use Rattle.std.specs.Result.{IfOk}
use lib.Dec.{ltb, ltb→lt, lt→ltb}
use Rattle.std.specs.Prelude.{Result, Ok, Err}
use Rattle.kinds.specs.declared.Refusal.{Refusal}
use Rattle.kinds.specs.declared.Refusal.TheVariants.{Slip, Narrow}
use Rattle.kinds.specs.declared.Step.{Step}
use Rattle.kinds.specs.SlipState.{state_of}
use Rattle.rules.specs.Basics.{Is}
use Rattle.rules.specs.Tables.{Tables, slip, piece, head_of}
use Rattle.rules.specs.Bytes.{decode, encode}
use Rattle.rules.specs.Chain.{Stretch, follow, stretch, position_of, spans}
use Rattle.rules.specs.Sound.{link_ok, SoundTables, lent}
use Rattle.rules.specs.Rule.{Name, ◌⇐◌, unnamed, no_view}
use Rattle.rules.specs.Read.{copied}
use Rattle.rules.specs.List.{records}
use Rattle.rules.specs.Step.{WireList, rule, done, perform}
use Rattle.rules.proofs.Logic.{if_T, if_F, if_either, not_less}
use Rattle.rules.proofs.Codes.{first_yes, first_no, first_none, named}
use Rattle.rules.proofs.List.{records_length}
use Rattle.chain.specs.Length.{stretches_from}
use Rattle.chain.proofs.Links.{InUse, link_leads, stretches_on}
use Rattle.answer.specs.Result.{result_of, Leaves}
use Rattle.answer.proofs.Perform.{perform_first, perform_none}
use Rattle.list.specs.declared.Begun.{Begun}
use Rattle.list.specs.Begin.{begun}
use Rattle.list.specs.Record.{record_of}
use Rattle.list.proofs.Reached.{follow_start, follow_more, reached, reached_good, reached_piece, reached_next}

-- ---- one record more

records_more : (Z : List ℕ) (k : ℕ) (xs : List Stretch) (x : Stretch) (ys : List Stretch) → drop k xs ≡ x ∷ ys
    → records Z (take (suc k) xs) ≡ records Z (take k xs) ++ (position_of Z x ∷ x.len ∷ [])
unfolding records
records_more Z zero [] x ys e = absurd (omega (arith, ap length e))
records_more Z zero (z ∷ zs) x ys e = ap (λ (y : Stretch). position_of Z y ∷ y.len ∷ []) (head-eq_of_cons-eq e)
records_more Z (suc k) [] x ys e = absurd (omega (arith, ap length e))
records_more Z (suc k) (z ∷ zs) x ys e = ap (λ (l : List ℕ). position_of Z z ∷ z.len ∷ l) (records_more Z k zs x ys e)

-- two stores behind what is written
two_stores : (done list : List ℕ) (i a b : ℕ) → length done ≡ i → i + 2 ≤ length list → set (set (done ++ drop i list) i a) (i + 1) b ≡ done ++ (a ∷ b ∷ []) ++ drop (i + 2) list
two_stores done list i a b e h =
    let l = done ++ drop i list in
    ap (λ (j : ℕ). set (set l i a) j b) (add-one i)
    ∙ sets-eq (a ∷ b ∷ []) l i (simp (length-append, length-drop) (omega arith))
    ∙ ap (λ (q : List ℕ). q ++ (a ∷ b ∷ []) ++ drop (i + 2) l) (take_at done _ i e)
    ∙ ap (λ (q : List ℕ). done ++ (a ∷ b ∷ []) ++ q) (ap (λ (j : ℕ). drop (j + 2) l) (sym e) ∙ drop-append-add done (drop i list) 2 ∙ drop-drop 2 i list)

-- ---- the records of a chain

-- Of the records of the chain from the link, k are written to the front of the list, and the next is that of the piece reached.
pub record Writing (T : Tables) (link : ℕ) (list₀ : List ℕ) (at k : ℕ) (list : List ℕ) : Type 0 where
  pub here : at ≡ follow T k link
  pub written : list ≡ copied (records T.stock (take k (stretches_from T link))) list₀

pub writing_first : (T : Tables) (link : ℕ) (list₀ : List ℕ) → Writing T link list₀ link 0 list₀
unfolding records
writing_first T link list₀ = record { here = follow_start T link; written = refl }

-- one is left
module _ {T : Tables} {link : ℕ} {list₀ : List ℕ} {at k : ℕ} {list : List ℕ} (S : SoundTables T) (t : Is (link_ok T link)) (w : Writing T link list₀ at k list) (h : k < length (stretches_from T link)) where
  -- the link leads to a piece in use
  pub writing_some : at ≡ 0 → ⊥
  writing_some z = reached T link S t k h (sym w.here ∙ z)

  pub writing_piece : InUse T (at - 1)
  writing_piece = link_leads T at S (subst (λ (j : ℕ). Is (link_ok T j)) (sym w.here) (reached_good T link S t k h)) writing_some

  -- so the next record is written
  pub writing_on : {a b m : ℕ} → 2 * k + 2 ≤ length list₀ → a ≡ position_of T.stock (stretch (piece T (at - 1))) → b ≡ (piece T (at - 1)).len
      → m ≡ (piece T (at - 1)).next → Writing T link list₀ m (k + 1) (set (set list (2 * k) a) (2 * k + 1) b)
  writing_on {a} {b} {m} wide ea eb em =
      let xs = stretches_from T link in
      let x = stretch (piece T (follow T k link - 1)) in
      let there : at - 1 ≡ follow T k link - 1 = ap (λ (j : ℕ). j - 1) w.here in
      let R = records T.stock (take k xs) in
      let size : length R ≡ 2 * k = records_length T.stock (take k xs) ∙ simp length-take (omega (arith, h)) in
      let more : records T.stock (take (k + 1) xs) ≡ R ++ (position_of T.stock x ∷ x.len ∷ []) = ap (λ (j : ℕ). records T.stock (take j xs)) (add-one k) ∙ records_more T.stock k xs x _ (reached_piece T link S t k h) in
      let more-size : length (records T.stock (take (k + 1) xs)) ≡ 2 * k + 2 = ap length more ∙ length-append R _ ∙ omega (arith, size) in
      let pos : a ≡ position_of T.stock x = ea ∙ ap (λ (j : ℕ). position_of T.stock (stretch (piece T j))) there in
      let len : b ≡ x.len = eb ∙ ap (λ (j : ℕ). (piece T j).len) there in
      record {
        here = em ∙ ap (λ (j : ℕ). (piece T j).next) there ∙ reached_next T link S t k h;
        written = ap (λ (l : List ℕ). set (set l (2 * k) a) (2 * k + 1) b) (w.written ∙ ap (λ (j : ℕ). R ++ drop j list₀) size)
            ∙ two_stores R list₀ (2 * k) a b size wide
            ∙ (λ i. R ++ (pos i ∷ len i ∷ []) ++ drop (2 * k + 2) list₀)
            ∙ ap (λ (l : List ℕ). l ++ drop (2 * k + 2) list₀) (sym more)
            ∙ ap (λ (j : ℕ). records T.stock (take (k + 1) xs) ++ drop j list₀) (sym more-size);
      }

-- ---- what a list begins with

module _ (T : Tables) (y : Name) (room : ℕ) where
  abbrev s : ℕ
  s = y.slip

  pub begun_slip : Is (unnamed T y) → Err Slip ≡ begun T y room
  unfolding begun
  begun_slip u = sym (if_T (unnamed T y) _ _ u)

  module _ (u : Is (unnamed T y) → ⊥) where
    pub begun_narrow : room < length (spans T s) → Err Narrow ≡ begun T y room
    unfolding begun
    begun_narrow h = sym (if_F (unnamed T y) _ _ u ∙ if_T (ltb room (length (spans T s))) _ _ (lt→ltb room _ h))

    pub begun_done : {o : Step} {l n : ℕ} → o ≡ record { state = state_of (slip T s); number = n } → l ≡ head_of T s → n ≡ length (spans T s) → length (spans T s) ≤ room
        → Ok (record { step = o; link = l; pieces = n }) ≡ begun T y room
    unfolding begun
    begun_done {o} {l} {n} eo el en h =
        (λ i. Ok (record { step = eo i; link = el i; pieces = n }))
        ∙ (λ i. Ok (record { step = record { state = state_of (slip T s); number = en i }; link = head_of T s; pieces = en i }))
        ∙ sym (if_F (unnamed T y) _ _ u ∙ if_F (ltb room (length (spans T s))) _ _ (λ t. omega (arith, ltb→lt room _ t)))

-- the records that it then writes are all of the chain, and there is room for them
pub begun_fits : (T : Tables) → SoundTables T → (y : Name) (room : ℕ) {b : Begun} → Ok b ≡ begun T y room
    → Is (link_ok T b.link) × (b.pieces ≡ length (stretches_from T b.link)) × (b.pieces ≤ room)
unfolding begun
begun_fits T S y room {b} e =
    let s = y.slip in
    let Fits : Begun → Type 0 = λ b. Is (link_ok T b.link) × (b.pieces ≡ length (stretches_from T b.link)) × (b.pieces ≤ room) in
    let OnOk : Result Begun Refusal → Type 0 = λ r. IfOk r Fits in
    IfOk-at_ok Fits (sym e)
    (if_either OnOk (unnamed T y) _ _ (λ _. tt)
    (λ u. if_either OnOk (ltb room (length (spans T s))) _ _ (λ _. tt)
    (λ t. (S.slips_ok s (named T y u).0, refl, not_less room (length (spans T s)) t))))

-- ---- what list answers

module _ (p st list : List ℕ) (y : Name) (b : encode (decode p) ≡ p) where
  abbrev T : Tables
  T = decode p

  abbrev xs : List Stretch
  xs = spans T y.slip

  -- what is begun comes to the rule, once its records are written
  Comes : Result Begun Refusal → Type 0
  Comes (Ok r) =
      (result_of (Ok r.step) p st (copied (records T.stock (take r.pieces (stretches_from T r.link))) list) no_view ≡ perform (WireList y list) (lent p st))
      × Leaves (Ok r.step) (state_of (slip T y.slip))
  Comes (Err r) = result_of (Err r) p st list no_view ≡ perform (WireList y list) (lent p st)

  comes : Comes (begun T y (length list / 2))
  unfolding begun records rule done Comes
  comes =
      if_either Comes (unnamed T y) _ _
      (λ u. perform_first (WireList y list) (lent p st) Slip (first_yes (Slip ⇐ unnamed T y) _ u))
      (λ u. if_either Comes (ltb (length list / 2) (length xs)) _ _
      (λ t. perform_first (WireList y list) (lent p st) Narrow
      (first_no (Slip ⇐ unnamed T y) _ u ∙ first_yes (Narrow ⇐ ltb (length list) (length (records T.stock xs))) []
      (lt→ltb (length list) (length (records T.stock xs)) (omega (arith, ltb→lt (length list / 2) (length xs) t, records_length T.stock xs)))))
      (λ t. (
        (λ i. record { code = 0; number = length xs; pool = sym b i; storage = st; output = copied (records T.stock (take-length xs i)) list; view = no_view })
            ∙ perform_none (WireList y list) (lent p st) refl
            (first_no (Slip ⇐ unnamed T y) _ u ∙ first_no (Narrow ⇐ ltb (length list) (length (records T.stock xs))) [] (λ q. omega (arith, ltb→lt (length list) (length (records T.stock xs)) q, not_less (length list / 2) (length xs) t, records_length T.stock xs)) ∙ first_none),
        refl,
      )))

  pub list_refuses : {r : Refusal} → Err r ≡ begun T y (length list / 2) → result_of (Err r) p st list no_view ≡ perform (WireList y list) (lent p st)
  unfolding Comes
  list_refuses e = subst Comes (sym e) comes

  pub list_performs : {r : Begun} {after : List ℕ} → Ok r ≡ begun T y (length list / 2) → after ≡ copied (records T.stock (take r.pieces (stretches_from T r.link))) list
      → (result_of (Ok r.step) p st after no_view ≡ perform (WireList y list) (lent p st)) × Leaves (Ok r.step) (state_of (slip T y.slip))
  unfolding Comes
  list_performs e w = rw w (subst Comes (sym e) comes)

-- ---- one record

-- a list of two numbers has the first record
pub first_record : (T : Tables) (link : ℕ) {pair : List ℕ} {m : ℕ} → SoundTables T → Is (link_ok T link) → (link ≡ 0 → ⊥)
    → pair ≡ copied (records T.stock (take 1 (stretches_from T link))) (0 ∷ 0 ∷ []) → m ≡ follow T 1 link
    → record { stretch = record { position = get_or pair 0 0; length = get_or pair 1 0 }; next = m } ≡ record_of T.stock (piece T (link - 1))
unfolding records follow
first_record T link {pair} {m} S t h e n =
    let on = stretches_on T link S t h in
    let is = e ∙ ap (λ (l : List Stretch). copied (records T.stock (take 1 l)) (0 ∷ 0 ∷ [])) on in
    let nx = n ∙ follow_more T 0 link h in
    (λ i. record { stretch = record { position = get_or (is i) 0 0; length = get_or (is i) 1 0 }; next = nx i })
