-- What show answers: which refusal, where the bytes are seen, and that they are there. Assumes nothing.
use mathlib.Core.Path.{◌≡◌, refl, sym, ap, ◌∙◌}
use mathlib.Core.Bool.{◌&&◌}
use mathlib.Core.List.{List, [], ◌∷◌}
use Prim.Native.Nat.{ℕ, ◌+◌, ◌-◌, ◌≤◌, ◌<◌, min}
use native.Mathlib.Decide.{ℕ_discrete}
use native.Mathlib.Omega.{arith}
use lib.ListN.{length, take, length-take, length-drop}
use lib.Dec.{T_not, not_T, eqb, eqb→eq, ltb, ltb→lt, lt→ltb, leb, leb→le, le→leb}
use Rattle.std.specs.Prelude.{Ok, Err}
use Rattle.kinds.specs.declared.Refusal.{Refusal}
use Rattle.kinds.specs.declared.Refusal.TheVariants.{Slip, Long, Range, Narrow}
use Rattle.kinds.specs.declared.Step.{Step}
use Rattle.kinds.specs.Limits.{buffer_size}
use Rattle.kinds.specs.SlipState.{state_of}
use Rattle.kinds.proofs.Sizes.{start_step}
use Rattle.rules.specs.Basics.{Is, whether◌then◌else◌}
use Rattle.rules.specs.Layout.{storage_length}
use Rattle.rules.specs.Tables.{Tables, slip, piece}
use Rattle.rules.specs.Bytes.{decode, encode}
use Rattle.rules.specs.Chain.{Stretch, stretch, spans, total, first_length, length_of, position_of, reads}
use Rattle.rules.specs.Sound.{link_ok, SoundTables, lent}
use Rattle.rules.specs.Rule.{◌⇐◌, Name, unnamed, View, no_view}
use Rattle.rules.specs.Read.{copied}
use Rattle.rules.specs.Show.{scattered, view_of}
use Rattle.rules.specs.Step.{Show, rule, state_in, done, perform}
use Rattle.rules.specs.After.{seen}
use Rattle.rules.proofs.Logic.{if_T, if_F, if_either, and_intro, and_0, and_1, eq→eqb}
use Rattle.rules.proofs.Build.{Good}
use Rattle.rules.proofs.Contents.{Fit}
use Rattle.rules.proofs.Codes.{first_yes, first_no, first_none}
use Rattle.chain.specs.Length.{stretches_from}
use Rattle.chain.proofs.Links.{stretches_none, stretches_on}
use Rattle.answer.specs.Result.{result_of}
use Rattle.answer.proofs.Perform.{perform_first, perform_none}
use Rattle.look.specs.declared.Place.{Place}
use Rattle.look.specs.declared.Place.TheVariants.{Storage, Scratch}
use Rattle.look.specs.Place.{view_at, place_of, part_at, Lies}
use Rattle.look.specs.Show.{Seen}

-- ---- whether the first piece has the bytes

-- the first piece has no more bytes than the chain
pub first_most : (xs : List Stretch) → first_length xs ≤ total xs
unfolding total
first_most [] = omega arith
first_most (x ∷ xs) = omega arith

-- it has the n bytes, or they are scattered
first_has : (xs : List Stretch) (n : ℕ) → n ≤ first_length xs → Is (scattered xs n) → ⊥
first_has xs n h t = T_not (leb n (first_length xs)) t (le→leb n (first_length xs) h)

first_lacks : (xs : List Stretch) (n : ℕ) → first_length xs < n → Is (scattered xs n)
first_lacks xs n h = not_T (leb n (first_length xs)) (λ t. omega (arith, leb→le n (first_length xs) t))

-- ---- where the bytes are seen

-- no bytes: at the start of storage
pub view_none : (Z : List ℕ) (xs : List Stretch) (n : ℕ) → n ≡ 0 → view_at (Storage 0) ≡ view_of Z xs n
unfolding view_of
view_none Z [] n e = refl
view_none Z (x ∷ xs) n e = sym (if_T (eqb n 0) _ _ (eq→eqb n 0 e))

view_some : (Z : List ℕ) (x : Stretch) (xs : List Stretch) (n : ℕ) → (n ≡ 0 → ⊥)
    → view_of Z (x ∷ xs) n ≡ (whether scattered (x ∷ xs) n then record { in_scratch = 1; start = 0 } else record { in_scratch = 0; start = position_of Z x })
unfolding view_of
view_some Z x xs n h = if_F (eqb n 0) _ _ (λ t. h (eqb→eq n 0 t))

-- the first piece has them, or has not
view_piece : (Z : List ℕ) (x : Stretch) (xs : List Stretch) (n : ℕ) → (n ≡ 0 → ⊥) → n ≤ x.len → view_at (Storage (position_of Z x)) ≡ view_of Z (x ∷ xs) n
view_piece Z x xs n h l = sym (view_some Z x xs n h ∙ if_F (scattered (x ∷ xs) n) _ _ (first_has (x ∷ xs) n l))

view_scratch : (Z : List ℕ) (xs : List Stretch) (n : ℕ) → first_length xs < n → n ≤ total xs → view_at Scratch ≡ view_of Z xs n
unfolding total
view_scratch Z [] n h k = absurd (omega arith)
view_scratch Z (x ∷ xs) n h k = sym (view_some Z x xs n (λ z. omega arith) ∙ if_T (scattered (x ∷ xs) n) _ _ (first_lacks (x ∷ xs) n h))

-- ---- the start that the code finds

module _ (T : Tables) (l n : ℕ) (S : SoundTables T) (t : Is (link_ok T l)) (h : n ≡ 0 → ⊥) (k : n ≤ first_length (stretches_from T l)) where
  -- a chain that has bytes has a link to its first piece
  pub link_some : l ≡ 0 → ⊥
  link_some z = h (omega (arith, k, ap (λ (m : ℕ). first_length (stretches_from T m)) z, ap first_length (stretches_none T)))

  -- which has them
  pub place_piece : {a : ℕ} → a ≡ position_of T.stock (stretch (piece T (l - 1))) → view_at (Storage a) ≡ view_of T.stock (stretches_from T l) n
  place_piece e =
      let on = stretches_on T l S t link_some in
      ap (λ (a : ℕ). view_at (Storage a)) e ∙ view_piece T.stock (stretch (piece T (l - 1))) _ n h (omega (arith, k, ap first_length on)) ∙ ap (λ (xs : List Stretch). view_of T.stock xs n) (sym on)

-- ---- the bytes seen in storage

-- they are there
storage_inside : (Z : List ℕ) (B : ℕ) (xs : List Stretch) (a n : ℕ) → Good Z B xs → n ≤ first_length xs → view_at (Storage a) ≡ view_of Z xs n → a + n ≤ storage_length Z B
unfolding view_of
storage_inside Z B [] a n g k e = omega (arith, ap (λ (v : View). v.start) e)
storage_inside Z B (x ∷ xs) a n g k e =
    if_either (λ (v : View). view_at (Storage a) ≡ v → a + n ≤ storage_length Z B) (eqb n 0) _ _
    (λ t q. omega (arith, eqb→eq n 0 t, ap (λ (v : View). v.start) q))
    (λ _ q. omega (arith, g.2, start_step Z x.buffer B g.0, ap (λ (v : View). v.start) (q ∙ if_F (scattered (x ∷ xs) n) _ _ (first_has (x ∷ xs) n k)))) e

-- ---- show

module _ (p st sc : List ℕ) (y : Name) (n : ℕ) where
  abbrev s : ℕ
  s = y.slip

  -- a refusal shows the empty start of storage
  refused_seen : (why : Refusal) → result_of (Err why) p st sc no_view ≡ perform (Show y n sc) (lent p st) → Seen (Err why) p st y n sc sc
  refused_seen why q = record { is = q; lies = omega arith; leaves = tt }

  pub show_slip : Is (unnamed (decode p) y) → Seen (Err Slip) p st y n sc sc
  unfolding rule
  show_slip u = refused_seen Slip (perform_first (Show y n sc) (lent p st) Slip (first_yes (Slip ⇐ unnamed (decode p) y) _ u))

  module _ (u : Is (unnamed (decode p) y) → ⊥) where
    pub show_long : buffer_size < n → Seen (Err Long) p st y n sc sc
    unfolding rule
    show_long h =
        refused_seen Long (perform_first (Show y n sc) (lent p st) Long
        (first_no (Slip ⇐ unnamed (decode p) y) _ u ∙ first_yes (Long ⇐ ltb buffer_size n) _ (lt→ltb buffer_size n h)))

    module _ (w : n ≤ buffer_size) where
      not_long : Is (ltb buffer_size n) → ⊥
      not_long t = omega (arith, ltb→lt buffer_size n t)

      pub show_range : length_of (decode p) s < n → Seen (Err Range) p st y n sc sc
      unfolding rule
      show_range h =
          refused_seen Range (perform_first (Show y n sc) (lent p st) Range
          (first_no (Slip ⇐ unnamed (decode p) y) _ u ∙ first_no (Long ⇐ ltb buffer_size n) _ not_long
          ∙ first_yes (Range ⇐ ltb (length_of (decode p) s) n) _ (lt→ltb (length_of (decode p) s) n h)))

      module _ (k : n ≤ length_of (decode p) s) where
        not_range : Is (ltb (length_of (decode p) s) n) → ⊥
        not_range t = omega (arith, ltb→lt (length_of (decode p) s) n t)

        pub show_narrow : first_length (spans (decode p) s) < n → length sc < n → Seen (Err Narrow) p st y n sc sc
        unfolding rule
        show_narrow v h =
            refused_seen Narrow (perform_first (Show y n sc) (lent p st) Narrow
            (first_no (Slip ⇐ unnamed (decode p) y) _ u ∙ first_no (Long ⇐ ltb buffer_size n) _ not_long
            ∙ first_no (Range ⇐ ltb (length_of (decode p) s) n) _ not_range
            ∙ first_yes (Narrow ⇐ (scattered (spans (decode p) s) n && ltb (length sc) n)) []
            (and_intro (scattered (spans (decode p) s) n) _ (first_lacks (spans (decode p) s) n v) (lt→ltb (length sc) n h))))

        module _ {o : Step} (a : o ≡ record { state = state_of (slip (decode p) s); number = n }) (b : encode (decode p) ≡ p) where
          -- a show that is done, at a place and with the scratch as they are found
          done_seen : (place : Place) (after : List ℕ) → (Is (scattered (spans (decode p) s) n && ltb (length sc) n) → ⊥)
              → after ≡ (whether scattered (spans (decode p) s) n then copied (take n (reads (state_in (lent p st)) s)) sc else sc)
              → view_at place ≡ view_of (decode p).stock (spans (decode p) s) n → Lies st after place n → Seen (Ok (record { step = o; place = place })) p st y n sc after
          unfolding rule done
          done_seen place after t e v l = rw a (record {
            is = (λ i. record { code = 0; number = n; pool = sym b i; storage = st; output = e i; view = v i })
                ∙ perform_none (Show y n sc) (lent p st) refl
                (first_no (Slip ⇐ unnamed (decode p) y) _ u ∙ first_no (Long ⇐ ltb buffer_size n) _ not_long
                ∙ first_no (Range ⇐ ltb (length_of (decode p) s) n) _ not_range
                ∙ first_no (Narrow ⇐ (scattered (spans (decode p) s) n && ltb (length sc) n)) [] t ∙ first_none);
            lies = l;
            leaves = refl;
          })

          -- the first piece has the bytes
          pub show_storage : (B c : ℕ) → Fit (decode p).stock B st → Good (decode p).stock B (spans (decode p) s) → n ≤ first_length (spans (decode p) s)
              → view_at (Storage c) ≡ view_of (decode p).stock (spans (decode p) s) n
              → Seen (Ok (record { step = o; place = Storage c })) p st y n sc sc
          show_storage B c f g i v =
              let xs = spans (decode p) s in
              done_seen (Storage c) sc (λ t. first_has xs n i (and_0 (scattered xs n) _ t)) (sym (if_F (scattered xs n) _ _ (first_has xs n i))) v
              (omega (arith, storage_inside (decode p).stock B xs c n g i v))

          -- or has not, and they are copied
          pub show_scratch : (after : List ℕ) → first_length (spans (decode p) s) < n → n ≤ length sc → length after ≡ length sc
              → after ≡ copied (take n (reads (state_in (lent p st)) s)) sc → Seen (Ok (record { step = o; place = Scratch })) p st y n sc after
          show_scratch after v m j e =
              let xs = spans (decode p) s in
              done_seen Scratch after (λ q. omega (arith, ltb→lt (length sc) n (and_1 (scattered xs n) _ q))) (e ∙ sym (if_T (scattered xs n) _ _ (first_lacks xs n v)))
              (view_scratch (decode p).stock xs n v k) (omega arith)

-- ---- whether the bytes are there

-- so many as are asked are seen at a place, or none at the start of storage: they are there
pub lies_whole : (st sc : List ℕ) (place : Place) (n : ℕ) → (n ≡ 0 → view_at place ≡ no_view) → length (part_at st sc place n) ≡ n → Lies st sc place n
lies_whole st sc (Storage a) n z e =
    let k : min n (length st - a) ≡ n = simp (length-take, length-drop) at e in
    elim (ℕ_discrete n 0) [ yes y ↦ omega (arith, ap (λ (v : View). v.start) (z y)) | no y ↦ omega arith ]
lies_whole st sc Scratch n z e = let k : min n (length sc) ≡ n = simp length-take at e in omega arith

-- ---- the view

-- a view that show answers is that of its place
pub view_back : (Z : List ℕ) (xs : List Stretch) (n : ℕ) → view_at (place_of (view_of Z xs n)) ≡ view_of Z xs n
unfolding view_of whether◌then◌else◌
view_back Z [] n = refl
view_back Z (x ∷ xs) n =
    if_either (λ (v : View). view_at (place_of v) ≡ v) (eqb n 0) _ _ (λ _. refl)
    (λ _. if_either (λ (v : View). view_at (place_of v) ≡ v) (scattered (x ∷ xs) n) _ _ (λ _. refl) (λ _. refl))

-- the bytes at a place are those that the rules' view shows
pub part_seen : (st sc : List ℕ) (place : Place) (n : ℕ) → part_at st sc place n ≡ seen (view_at place) n st sc
unfolding whether◌then◌else◌
part_seen st sc (Storage a) n = refl
part_seen st sc Scratch n = refl
