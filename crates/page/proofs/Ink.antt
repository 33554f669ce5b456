-- What writing does to a page: texts written one after the other are one text; no byte outside them changes. Assumes nothing.
use mathlib.Core.Path.{◌≡◌, refl, sym, ap, ◌∙◌, subst}
use mathlib.Core.List.{List, [], ◌∷◌, ◌++◌}
use Prim.Native.Nat.{ℕ, suc, ◌+◌, ◌-◌, ◌≤◌, ◌<◌}
use native.Mathlib.Nat.{add-zero}
use native.Mathlib.Numerals.{add-one}
use native.Mathlib.Omega.{arith}
use lib.Dec.{eqb, eqb→eq, leb, leb→le, le→leb, ltb→lt, lt→ltb}
use lib.ListN.{length, take, drop, set, length-set, take-append-drop}
use lib.Seq.{take-set-le, take-take, drop-set-lt, drop-drop, take-suc-set, append_snoc}
use Rattle.std.proofs.lemmas.Grind.{common_steps}
use Rattle.rules.specs.Basics.{whether◌then◌else◌}
use Rattle.rules.proofs.Logic.{if_T, if_F, if_either, eq→eqb}
use Rattle.page.specs.declared.Page.{Page as Lent}
use Rattle.page.specs.Page.{Page, page, ink_byte, inked, Wrote}

-- ---- one text after another

pub inked_append : (p : Page) (t u : List ℕ) → inked p (t ++ u) ≡ inked (inked p t) u
unfolding inked
inked_append p [] u = refl
inked_append p (x ∷ t) u = inked_append (ink_byte p x) t u

pub inked_next : (p : Page) (x : ℕ) (t : List ℕ) → inked p (x ∷ t) ≡ inked (inked p (x ∷ [])) t
unfolding inked
inked_next p x t = refl

pub inked_none : (p : Page) → inked p [] ≡ p
unfolding inked
inked_none p = refl

-- a byte where there is room, and where there is none
pub ink_room : (p : Page) (x : ℕ) → p.at < length p.bytes → inked p (x ∷ []) ≡ record { bytes = set p.bytes p.at x; at = p.at + 1 }
unfolding inked
ink_room p x h = if_T _ _ _ (lt→ltb p.at (length p.bytes) h)

pub ink_full : (p : Page) (x : ℕ) → length p.bytes ≤ p.at → inked p (x ∷ []) ≡ p
unfolding inked
ink_full p x h = if_F _ _ _ (λ t. let l = ltb→lt p.at (length p.bytes) t in absurd (omega arith))

-- ---- a choice by a number

pub if_eq : {A : Type 0} (m n : ℕ) (x y : A) → m ≡ n → (whether eqb m n then x else y) ≡ x
if_eq m n x y h = if_T _ _ _ (eq→eqb m n h)

pub if_ne : {A : Type 0} (m n : ℕ) (x y : A) → (m ≡ n → ⊥) → (whether eqb m n then x else y) ≡ y
if_ne m n x y h = if_F _ _ _ (λ t. h (eqb→eq m n t))

pub if_le : {A : Type 0} (m n : ℕ) (x y : A) → m ≤ n → (whether leb m n then x else y) ≡ x
if_le m n x y h = if_T _ _ _ (le→leb m n h)

pub if_gt : {A : Type 0} (m n : ℕ) (x y : A) → n < m → (whether leb m n then x else y) ≡ y
if_gt m n x y h = if_F _ _ _ (λ t. let l = leb→le m n t in absurd (omega arith))

-- what the search is given of pages
pub ruleset inks = (inked_append, inked_next, inked_none, ink_room, ink_full, common_steps, if_eq, if_ne, if_le, if_gt)

-- t and then u are t ++ u
pub on : {p q r : Lent} {t u : List ℕ} → Wrote p q t → Wrote q r u → Wrote p r (t ++ u)
on {p} {t = t} {u = u} e f = record { lent = f.lent ∙ e.lent; is = f.is ∙ ap (λ (x : Page). inked x u) e.is ∙ sym (inked_append (page p) t u) }

-- the same text, written otherwise
pub same : {p r : Lent} {t u : List ℕ} → t ≡ u → Wrote p r t → Wrote p r u
same {p} e w = record { lent = w.lent; is = w.is ∙ ap (inked (page p)) e }

-- ---- what is kept

-- r is p with something written from the cursor on: the cursor goes on and stays in the page, and no byte before where it was or past where it is changes
pub record Kept (p r : Page) : Type 0 where
  pub long : length r.bytes ≡ length p.bytes
  pub onward : p.at ≤ r.at
  pub within : p.at ≤ length p.bytes → r.at ≤ length r.bytes
  pub before : take p.at r.bytes ≡ take p.at p.bytes
  pub past : drop r.at r.bytes ≡ drop r.at p.bytes

kept_none : (p : Page) → Kept p p
kept_none p = record { long = refl; onward = omega arith; within = λ h. h; before = refl; past = refl }

kept_byte : (p : Page) (x : ℕ) → Kept p (ink_byte p x)
kept_byte p x =
    if_either (Kept p) _ _ p
    (λ t. let h = ltb→lt p.at (length p.bytes) t in
    record {
      long = length-set p.bytes p.at x;
      onward = omega arith;
      within = λ _. rw (length-set p.bytes p.at x) (omega arith);
      before = take-set-le p.at p.bytes p.at x (omega arith);
      past = drop-set-lt (p.at + 1) p.bytes p.at x (omega arith);
    })
    (λ t. kept_none p)

-- what two lists share from a place on they share from a later one on
drop_later : (a b : List ℕ) (m n : ℕ) → m ≤ n → drop m a ≡ drop m b → drop n a ≡ drop n b
drop_later a b m n h e =
    let q : m + (n - m) ≡ n = omega arith in
    rw (← q, ← drop-drop (n - m) m a, ← drop-drop (n - m) m b, e)

take_earlier : (a b : List ℕ) (m n : ℕ) → m ≤ n → take n a ≡ take n b → take m a ≡ take m b
take_earlier a b m n h e = sym (take-take m n a h) ∙ ap (take m) e ∙ take-take m n b h

kept_on : {p q r : Page} → Kept p q → Kept q r → Kept p r
kept_on {p} {q} {r} a b = record {
  long = b.long ∙ a.long;
  onward = omega (arith, a.onward, b.onward);
  within = λ h. b.within (a.within h);
  before = take_earlier r.bytes q.bytes p.at q.at a.onward b.before ∙ a.before;
  past = b.past ∙ drop_later q.bytes p.bytes q.at r.at b.onward a.past;
}

kept_inked : (p : Page) (t : List ℕ) → Kept p (inked p t)
unfolding inked
kept_inked p [] = kept_none p
kept_inked p (x ∷ t) = kept_on (kept_byte p x) (kept_inked (ink_byte p x) t)

-- whoever writes a text keeps the rest
pub kept : {p r : Lent} {t : List ℕ} → Wrote p r t → Kept (page p) (page r)
kept {p} {t = t} w = subst (Kept (page p)) (sym w.is) (kept_inked (page p) t)

-- ---- where there is room

-- the text t stands whole in r from where the cursor of p was, and the cursor behind it
pub record Stands (p r : Page) (t : List ℕ) : Type 0 where
  pub bytes_are : r.bytes ≡ take p.at p.bytes ++ (t ++ drop (p.at + length t) p.bytes)
  pub at_is : r.at ≡ p.at + length t

stands : (b : List ℕ) (a : ℕ) (t : List ℕ) → a + length t ≤ length b → Stands (record { bytes = b; at = a }) (inked (record { bytes = b; at = a }) t) t
unfolding inked
stands b a [] h = record { bytes_are = rw (add-zero a) (sym (take-append-drop a b)); at_is = omega arith }
stands b a (x ∷ t) h =
    let room : ink_byte (record { bytes = b; at = a }) x ≡ record { bytes = set b a x; at = a + 1 } = if_T _ _ _ (lt→ltb a (length b) (omega arith)) in
    let s = stands (set b a x) (a + 1) t (rw (length-set b a x) (omega arith)) in
    let e : a + 1 + length t ≡ a + suc (length t) = omega arith in
    let front : take (a + 1) (set b a x) ≡ take a b ++ (x ∷ []) = rw add-one (take-suc-set b a x (omega arith)) in
    rw room (record {
      bytes_are = s.bytes_are ∙ rw (front, e, drop-set-lt (a + suc (length t)) b a x (omega arith)) (append_snoc (take a b) x (t ++ drop (a + suc (length t)) b));
      at_is = s.at_is ∙ e;
    })

-- whoever writes a text for which there is room writes it whole
pub whole : {p r : Lent} {t : List ℕ} → Wrote p r t → p.at + length t ≤ length p.bytes.now → Stands (page p) (page r) t
whole {p} {t = t} w h = subst (λ (r : Page). Stands (page p) r t) (sym w.is) (stands p.bytes.now p.at t h)
