-- What slips read where slips come to hold others: laws that the calls share. Assumes nothing.
use mathlib.Core.Path.{◌≡◌, refl, sym, ap, ◌∙◌}
use mathlib.Core.Logic.{◌≢◌}
use mathlib.Core.Bool.{true, false}
use mathlib.Core.List.{List, [], ◌∷◌, Memᴰ}
use Prim.Native.Nat.{ℕ, zero, suc, ◌*◌, ◌≤◌, ◌<◌, pred}
use native.Mathlib.Decide.{ℕ_discrete}
use native.Mathlib.Omega.{arith}
use lib.ListN.{length, length-take}
use lib.Dec.{eqb, eqb→eq}
use Rattle.kinds.specs.Limits.{buffer_size}
use Rattle.rules.specs.Basics.{whether◌then◌else◌}
use Rattle.rules.specs.Tables.{Tables, slip, piece, buffer_count, head_of, piece_total, buffer_total}
use Rattle.rules.specs.Chain.{Stretch, State, walk, chain, stretches, spans, length_of, contents, reads}
use Rattle.rules.specs.Room.{is_vacant, is_unheld, free_buffers, new_buffers}
use Rattle.rules.specs.Build.{laid, stored}
use Rattle.rules.specs.Rule.{Change, reading, vacating}
use Rattle.rules.specs.After.{at, changed}
use Rattle.rules.proofs.Logic.{if_T, if_F, is_true, is_false, eq→eqb}
use Rattle.rules.proofs.Moves.{SoundBy, SoundWith, SoundNow, buffer_pos}
use Rattle.rules.proofs.Room.{in_passes, new_buffers_in}
use Rattle.rules.proofs.Chain.{AllUsed, chain_used, spans_good}
use Rattle.rules.proofs.Meets.{Same}
use Rattle.rules.proofs.Hang.{Gives, gives_spans, moved_spans}
use Rattle.rules.proofs.Contents.{Fit, contents_length, Off, stored_others, stored_laid}

-- ---- one slip changes

-- at s the new value, elsewhere that of f
pub at_here : {A : Type 0} (s t : ℕ) (x : A) (f : ℕ → A) → t ≡ s → at s x f t ≡ x
at_here s t x f e = if_T (eqb t s) x (f t) (eq→eqb t s e)

pub at_there : {A : Type 0} (s t : ℕ) (x : A) (f : ℕ → A) → t ≢ s → at s x f t ≡ f t
at_there s t x f n = if_F (eqb t s) x (f t) (λ e. n (eqb→eq t s e))

-- the value of f itself changes nothing
pub at_same : {A : Type 0} (s t : ℕ) (x : A) (f : ℕ → A) → x ≡ f s → at s x f t ≡ f t
at_same s t x f e = elim (ℕ_discrete t s) [ yes q ↦ at_here s t x f q ∙ e ∙ ap f (sym q) | no q ↦ at_there s t x f q ]

-- what holds at s and everywhere else
pub at_by : {A : Type 0} (s : ℕ) (x : A) (f g : ℕ → A) → g s ≡ x → ((t : ℕ) → t ≢ s → g t ≡ f t) → (t : ℕ) → g t ≡ at s x f t
at_by s x f g h k t = elim (ℕ_discrete t s) [ yes q ↦ ap g q ∙ h ∙ sym (at_here s t x f q) | no q ↦ k t q ∙ sym (at_there s t x f q) ]

-- ---- what slips read

-- a slip that holds no piece reads nothing
pub empty_spans : (T : Tables) (s : ℕ) → head_of T s ≡ 0 → spans T s ≡ []
unfolding walk stretches
empty_spans T s e = ap (λ n. stretches T (walk (piece_total T) T n)) e ∙ none (piece_total T)
  where
    none : (k : ℕ) → stretches T (walk k T 0) ≡ []
    none zero = refl
    none (suc k) = refl

-- a held slip is not vacant
pub held_false : (T : Tables) (s : ℕ) → 0 < slip T s → false ≡ is_vacant T s
held_false T s h = sym (is_false (is_vacant T s) (λ z. (let q = eqb→eq (slip T s) 0 z in omega arith)))

-- ---- new buffers

-- a buffer that is held is not new
pub held_not_new : (T : Tables) (k b : ℕ) → 0 < buffer_count T b → Memᴰ b (new_buffers T k) → ⊥
held_not_new T k b h m = omega (arith, eqb→eq (buffer_count T b) 0 (in_passes (is_unheld T) 0 (buffer_total T) b (new_buffers T k) (new_buffers_in T k) m))

off_by : {rank : ℕ → ℕ} (T : Tables) (k : ℕ) (ds : List ℕ) → SoundBy rank [] T → AllUsed T ds → Off (new_buffers T k) (stretches T ds)
unfolding stretches
off_by T k [] h u = tt
off_by T k (d ∷ ds) h u = (held_not_new T k (piece T d).buffer (buffer_pos d u.0 h), off_by T k ds h u.1)

-- no chain lies on a new buffer
pub spans_off : (T : Tables) (k u : ℕ) → SoundNow T → Off (new_buffers T k) (spans T u)
spans_off T k u h = off_by T k (chain T u) h.1 (chain_used T u h)

module _ (S : State) (h : SoundNow S.tables) (f : Fit S.tables.stock (buffer_total S.tables) S.storage) where
  -- writing new buffers changes no chain's bytes
  pub new_others : (k : ℕ) (xs : List ℕ) (u : ℕ) → contents S.tables.stock (stored S.tables.stock S.storage (new_buffers S.tables k) xs) (spans S.tables u) ≡ reads S u
  new_others k xs u =
      stored_others S.tables.stock (is_unheld S.tables) 0 (buffer_total S.tables) (new_buffers S.tables k) S.storage xs (spans S.tables u) (new_buffers_in S.tables k) f
      (spans_good S.tables u h) (spans_off S.tables k u h)

  -- the new buffers hold what was put
  pub new_here : (k : ℕ) (xs : List ℕ) → k ≤ length (free_buffers S.tables) → length xs ≤ buffer_size * k
      → contents S.tables.stock (stored S.tables.stock S.storage (new_buffers S.tables k) xs) (laid S.tables.stock (new_buffers S.tables k) (length xs)) ≡ xs
  new_here k xs r l =
      stored_laid S.tables.stock (is_unheld S.tables) 0 (buffer_total S.tables) (new_buffers S.tables k) S.storage xs (new_buffers_in S.tables k) f
      (omega (arith, length-take k (free_buffers S.tables)))

  -- a slip reads as many bytes as its chain is long
  pub reads_length : (s : ℕ) → length (reads S s) ≡ length_of S.tables s
  reads_length s = contents_length S.tables.stock (buffer_total S.tables) S.storage (spans S.tables s) f (spans_good S.tables s h)

-- ---- what slips read after an operation

-- the bytes of slip t in S', where the buffers lie as in S
abbrev pub reads_with : State → State → ℕ → List ℕ
reads_with S S' t = contents S.tables.stock S'.storage (spans S'.tables t)

-- After an operation from S to S' the slips are left as the changes say, and all others as they were.
pub record Reading (S S' : State) (cs : List Change) : Type 0 where
  pub bytes : (t : ℕ) → reads_with S S' t ≡ changed (λ (c : Change). c.bytes) cs (reads S) t
  pub vacancy : (t : ℕ) → is_vacant S'.tables t ≡ changed (λ (c : Change). c.vacated) cs (is_vacant S.tables) t

-- slip s comes to hold l, which covers xs, and reads ys; all that slips hold is as in the storage st
pub gives_reading : {fl : List ℕ} (S S' : State) (st : List ℕ) (s : ℕ) (l : List ℕ) (xs : List Stretch) (ys : List ℕ)
    → Gives S.tables S'.tables s l xs → SoundWith fl S.tables → SoundNow S'.tables
    → ((u : ℕ) → reads_with S S' u ≡ contents S.tables.stock st (spans S'.tables u))
    → ((u : ℕ) → contents S.tables.stock st (spans S.tables u) ≡ reads S u) → contents S.tables.stock st xs ≡ ys → Reading S S' (reading s ys ∷ [])
gives_reading S S' st s l xs ys g h h' k o e = record {
  bytes = at_by s ys (reads S) (reads_with S S') (k s ∙ ap (contents S.tables.stock st) (gives_spans g h') ∙ e)
      (λ u n. k u ∙ ap (contents S.tables.stock st) (moved_spans u u (g.entries u n) (g.others u n) h h') ∙ o u);
  vacancy = at_by s false (is_vacant S.tables) (is_vacant S'.tables) (sym (held_false S'.tables s g.held))
      (λ u n. ap (λ v. eqb v 0) (g.entries u n));
}

-- slip s, which is held, reads ys already
pub same_reading : (S : State) (s : ℕ) (ys : List ℕ) → 0 < slip S.tables s → ys ≡ reads S s → Reading S S (reading s ys ∷ [])
same_reading S s ys z e = record {
  bytes = λ t. sym (at_same s t ys (reads S) e);
  vacancy = λ t. sym (at_same s t false (is_vacant S.tables) (held_false S.tables s z));
}

-- slip s comes to hold nothing, and all that slips hold is as it was
pub gone_reading : {fl fl' : List ℕ} (S S' : State) (s : ℕ) → ((u : ℕ) → reads_with S S' u ≡ contents S.tables.stock S.storage (spans S'.tables u))
    → slip S'.tables s ≡ 0 → ((u : ℕ) → u ≢ s → slip S'.tables u ≡ slip S.tables u)
    → ((u : ℕ) → u ≢ s → Same S.tables S'.tables (head_of S.tables u))
    → SoundWith fl S.tables → SoundWith fl' S'.tables → Reading S S' (vacating s ∷ [])
unfolding contents
gone_reading S S' s k z e f h h' = record {
  bytes = at_by s [] (reads S) (reads_with S S') (ap (contents S.tables.stock S'.storage) (empty_spans S'.tables s (ap pred z)))
      (λ u n. k u ∙ ap (contents S.tables.stock S.storage) (moved_spans u u (e u n) (f u n) h h'));
  vacancy = at_by s true (is_vacant S.tables) (is_vacant S'.tables) (is_true (is_vacant S'.tables s) (eq→eqb (slip S'.tables s) 0 z))
      (λ u n. ap (λ v. eqb v 0) (e u n));
}

-- where S₁ and S have one stock, it is the same
pub with_stock : (S S₁ S' : State) → S₁.tables.stock ≡ S.tables.stock → (t : ℕ) → reads_with S S' t ≡ reads_with S₁ S' t
with_stock S S₁ S' z t = ap (λ (Z : List ℕ). contents Z S'.storage (spans S'.tables t)) (sym z)

at_under : {A : Type 0} (s t : ℕ) (x : A) (f g : ℕ → A) → f t ≡ g t → at s x f t ≡ at s x g t
at_under s t x f g e = ap (λ y. whether eqb t s then x else y) e

-- a change after others counts before them
pub then_reading : {S S₁ S' : State} {c : Change} {cs : List Change} → S₁.tables.stock ≡ S.tables.stock → Reading S S₁ cs → Reading S₁ S' (c ∷ [])
    → Reading S S' (c ∷ cs)
then_reading {S} {S₁} {S'} {c} {cs} z r q =
    let was = is_vacant S.tables in
    record {
      bytes = λ t. with_stock S S₁ S' z t ∙ q.bytes t
          ∙ at_under c.slip t c.bytes (reads S₁) (changed (λ (x : Change). x.bytes) cs (reads S)) (sym (with_stock S S₁ S₁ z t) ∙ r.bytes t);
      vacancy = λ t. q.vacancy t ∙ at_under c.slip t c.vacated (is_vacant S₁.tables) (changed (λ (x : Change). x.vacated) cs was) (r.vacancy t);
    }
