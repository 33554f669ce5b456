-- The bytes that an answer of show shows. Assumes nothing.
use mathlib.Core.Path.{◌≡◌, sym, ap, subst, ◌∙◌}
use mathlib.Core.Logic.{◌≢◌}
use mathlib.Core.List.{List}
use Prim.Native.Nat.{ℕ}
use native.Mathlib.Decide.{ℕ_discrete}
use native.Mathlib.Omega.{arith}
use lib.ListN.{length, take}
use lib.Dec.{eqb, eqb→eq}
use Rattle.rules.specs.Basics.{whether◌then◌else◌}
use Rattle.rules.specs.Bytes.{decode}
use Rattle.rules.specs.Chain.{spans, reads}
use Rattle.rules.specs.Sound.{lent}
use Rattle.rules.specs.Rule.{Name, View, no_view}
use Rattle.rules.specs.Show.{view_of}
use Rattle.rules.specs.Step.{Show, Do, rule, Result, state_in, done, step}
use Rattle.rules.specs.After.{seen}
use Rattle.rules.proofs.Logic.{if_T, if_F, eq→eqb}
use Rattle.rules.proofs.Audit.{sound_now}
use Rattle.rules.proofs.Codes.{allowed}
use Rattle.rules.proofs.Show.{show_exact, show_seen}
use Rattle.rules.proofs.Step.{alters_nothing, did, sound_within}
use Rattle.look.specs.Place.{view_at, place_of, part_at, Lies}
use Rattle.look.proofs.Places.{view_none, view_back, part_seen, lies_whole}
use Rattle.calls_look.specs.declared.Shown.{Shown}
use Rattle.calls_look.specs.Shown.{view_in, shown_of, bytes_shown}

module _ (p st sc before : List ℕ) (s : Name) (n : ℕ) where
  -- so many bytes that a view shows are there, and are those that show s, n lets see
  pub record Shows (v : View) (k : ℕ) : Type 0 where
    pub there : Lies st sc (place_of v) k
    pub bytes : part_at st sc (place_of v) k ≡ bytes_shown s n before (lent p st)

  -- the answer x of show s, n, with storage st and the scratch sc as it left them
  module _ {x : Shown} (w : shown_of x p st sc ≡ step (Do (Show s n before)) (lent p st)) where
    code_is : x.code ≡ (step (Do (Show s n before)) (lent p st)).code
    code_is = ap (λ (r : Result). r.code) w

    shows_done : x.code ≡ 0 → Shows (view_in x) x.number
    unfolding done rule
    shows_done z =
        let m = lent p st in
        let o = Show s n before in
        let S = state_in m in
        let d = did o m (sym code_is ∙ z) in
        let h = sound_now m d.was_sound in
        let f = (sound_within m d.was_sound).storage_fits in
        let a = allowed (rule o S) S.tables d.allowed_code in
        let e = w ∙ d.result in
        let k : x.number ≡ n = ap (λ (r : Result). r.number) e in
        let v : view_in x ≡ view_of (decode p).stock (spans (decode p) s.slip) n = ap (λ (r : Result). r.view) e in
        let q = place_of (view_in x) in
        let back : view_at q ≡ view_in x = ap (λ (y : View). view_at (place_of y)) v ∙ view_back (decode p).stock (spans (decode p) s.slip) n ∙ sym v in
        let part : part_at st sc q n ≡ take n (reads S s.slip) =
        part_seen st sc q n ∙ ap (λ (y : View). seen y n st sc) back ∙ ap (λ (r : Result). seen r.view n st r.output) e ∙ show_seen s n before S h f a in
        let start_none : n ≡ 0 → view_at q ≡ no_view = λ i. back ∙ v ∙ sym (view_none (decode p).stock (spans (decode p) s.slip) n i) in
        let whole = lies_whole st sc q n start_none (ap length part ∙ show_exact s n before S h f a) in
        subst (Shows (view_in x)) (sym k) (record { there = whole; bytes = part ∙ sym (if_T (eqb (step (Do o) m).code 0) _ _ (eq→eqb _ 0 (sym code_is ∙ z))) })

    shows_none : x.code ≢ 0 → Shows (view_in x) x.number
    unfolding whether◌then◌else◌
    shows_none z =
        let m = lent p st in
        let o = Show s n before in
        let no : (step (Do o) m).code ≢ 0 = λ i. z (code_is ∙ i) in
        let e = w ∙ alters_nothing (Do o) m no in
        let k : x.number ≡ 0 = ap (λ (r : Result). r.number) e in
        let v : view_in x ≡ no_view = ap (λ (r : Result). r.view) e in
        let none : Shows no_view 0 = record { there = omega arith; bytes = sym (if_F (eqb (step (Do o) m).code 0) _ _ (λ t. no (eqb→eq _ 0 t))) } in
        subst (λ (y : View). Shows y x.number) (sym v) (subst (Shows no_view) (sym k) none)

    pub shows : Shows (view_in x) x.number
    shows = elim (ℕ_discrete x.code 0) [ yes z ↦ shows_done z | no z ↦ shows_none z ]
