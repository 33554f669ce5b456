-- What a name is worth over lists of calls: once given up it is refused, and once answered it is good and answered to nobody else. Assumes nothing.
use mathlib.Core.Path.{◌≡◌, refl, sym, ap, subst, ◌∙◌}
use mathlib.Core.Logic.{◌≢◌, ◌⊎◌, inl, inr, ⊎_elim}
use mathlib.Core.Bool.{Bool, true, false, not}
use mathlib.Core.List.{List, [], ◌∷◌, ◌++◌, Memᴰ}
use Prim.Native.Nat.{ℕ, ◌≤◌, ◌<◌}
use native.Mathlib.Decide.{ℕ_discrete, dec_lt}
use native.Mathlib.Omega.{arith}
use lib.ListN.{take, drop}
use lib.Dec.{eqb, eqb→eq, T_not, not_T}
use Rattle.kinds.specs.declared.Refusal.TheVariants.{Slip}
use Rattle.kinds.specs.Serial.{older}
use Rattle.rules.specs.Basics.{Is, whether◌then◌else◌}
use Rattle.rules.specs.Tables.{Tables, slip, serial, slip_total}
use Rattle.rules.specs.Bytes.{decode}
use Rattle.rules.specs.Chain.{State, reads}
use Rattle.rules.specs.Sound.{Lent, sound}
use Rattle.rules.specs.Room.{is_vacant, is_ready, ready_slips, new_slip}
use Rattle.rules.specs.Rule.{Name, name, answered, unnamed, Change}
use Rattle.rules.specs.Step.{Operation, Audit, Put, Free, Dup, Cut, Append, Drop, Keep, Pullup, Pack, Length, Read, Show, WireList}
use Rattle.rules.specs.Step.{Call, Open, Do, meaning, rule, step, state_in, next, after_calls}
use Rattle.rules.specs.After.{at, changed, reads_after, vacant_after, vacates, serial_after}
use Rattle.rules.specs.Takes.{took_slips}
use Rattle.rules.specs.Causes.{Missing}
use Rattle.rules.specs.Lists.{NoOpen, Unopened}
use Rattle.rules.specs.Serials.{NamedBy, Reopens, GivesUp, EndsName, Refuses, NewName, first_bytes, is_name, makes, made_by, Good, Accepts, Lives, AnswersOther, Differs, Promised, SerialsOk}
use Rattle.rules.proofs.Logic.{if_T, if_F, if_either, if_both, and_intro, and_0, not_zero, eq→eqb, is_dec}
use Rattle.rules.proofs.Moves.{in_range}
use Rattle.rules.proofs.Room.{all_free, first_in, in_passes, places_has, take_in}
use Rattle.rules.proofs.Audit.{sound_is}
use Rattle.rules.proofs.Codes.{allowed, both_named}
use Rattle.rules.proofs.After.{at_here, at_there, at_same}
use Rattle.rules.proofs.Caused.{missing_is}
use Rattle.rules.proofs.Lawful.{vacated_by}
use Rattle.rules.proofs.Calls.{rule_sizes}
use Rattle.rules.proofs.Step.{after_state, did, next_refused, slips_read, slips_serial, slips_took, slips_vacant, sound_within, step_keeps}
use Rattle.rules.proofs.Causes.{cause_above, exactly}
use Rattle.rules.proofs.RoundTrip.{held_named, Gave, gave_name, gave_reads, gave_held, gave_serial, put_gave, dup_gave, cut_gave}
use Rattle.rules.proofs.Answers.{ready_is}

-- ---- names that are not missing

-- the slip is held, with the name's serial; and so back
named_is : (T : Tables) (x : Name) → (Missing T x → ⊥) → (Is (is_vacant T x.slip) → ⊥) × (serial T x.slip ≡ x.serial)
named_is T x h = (
  λ v. h (inr (inl v)),
  elim (ℕ_discrete (serial T x.slip) x.serial) [ yes e ↦ e | no e ↦ absurd (h (inr (inr e))) ],
)

not_missing : (T : Tables) (x : Name) → (Is (is_vacant T x.slip) → ⊥) → serial T x.slip ≡ x.serial → Missing T x → ⊥
not_missing T x v e w = T_not (unnamed T x) (held_named T x (not_T (is_vacant T x.slip) v) e) ((missing_is T x).1 w)

-- of one slip there is only one
one_name : (T : Tables) (x y : Name) → (Missing T x → ⊥) → (Missing T y → ⊥) → y.slip ≡ x.slip → y ≡ x
one_name T x y g h e =
    let k : y.serial ≡ x.serial = sym (named_is T y h).1 ∙ ap (serial T) e ∙ (named_is T x g).1 in
    λ i. name (e i) (k i)

-- ---- code 3

-- no name of a done operation is missing
done_named : (o : Operation) (m : Lent) → (step (Do o) m).code ≡ 0 → (y : Name) → NamedBy (Do o) y → Missing (decode m.pool) y → ⊥
done_named o m e y n w = (exactly (Do o) m).done.0 e Slip (inr (y, n, w))

-- on a sound pool a call that names a missing one answers 3
missing_refused : (c : Call) (m : Lent) (x : Name) → Is (sound m) → NamedBy c x → Missing (decode m.pool) x → (step c m).code ≡ 3
missing_refused (Open B P S) m x t n w = absurd n
missing_refused (Do o) m x t n w =
    ((exactly (Do o) m).given Slip).1
    (inr (x, n, w), λ q l z. ⊎_elim (λ y. y.1 ((sound_is m).0 t)) (λ y. omega (arith, cause_above q (meaning o) (state_in m) y)) z)

-- and only such a call does
accepts : (x : Name) (c : Call) (m : Lent) → (Missing (decode m.pool) x → ⊥) → Accepts x c m
accepts x (Open B P S) m h n e = absurd n
accepts x (Do o) m h n e =
    ⊎_elim (λ z. absurd (omega (arith, z.0))) (λ z. (z.0, z.1, λ q. h (subst (Missing (decode m.pool)) q z.2), z.2))
    (((exactly (Do o) m).given Slip).0 e).0

-- ---- a slip through a done operation

-- a slip that changes vacate is vacant then; and one that they do not vacate is vacant then only where it was before
vacated_vacant : (cs : List Change) (f : ℕ → Bool) (t : ℕ) → Is (vacated_by cs t) → Is (changed (λ (c : Change). c.vacated) cs f t)
vacated_vacant [] f t z = absurd z
vacated_vacant (c ∷ cs) f t z = if_both (λ (a b : Bool). Is a → Is b) (eqb t c.slip) _ _ _ _ (λ _ y. y) (λ _. vacated_vacant cs f t) z

vacant_was : (cs : List Change) (f : ℕ → Bool) (t : ℕ) → (Is (vacated_by cs t) → ⊥) → Is (changed (λ (c : Change). c.vacated) cs f t) → Is (f t)
vacant_was [] f t n z = z
vacant_was (c ∷ cs) f t n z =
    if_both (λ (a b : Bool). (Is a → ⊥) → Is b → Is (f t)) (eqb t c.slip) _ _ _ _ (λ _ k y. absurd (k y)) (λ _. vacant_was cs f t) n z

module _ (o : Operation) (m : Lent) (e : (step (Do o) m).code ≡ 0) (t : ℕ) where
  abbrev was : Tables
  was = decode m.pool

  abbrev will : Tables
  will = decode (next (Do o) m).pool

  -- every serial fits 16 bits
  small : serial was t < 65536
  small = (sound_within m (did o m e).was_sound).serialled.small t

  -- a slip that it vacates is vacant, and its serial goes up
  vacated : Is (vacates o (state_in m) t) → Is (is_vacant will t) × (serial will t ≡ older (serial was t))
  unfolding vacant_after vacates serial_after
  vacated z = (
    subst Is (sym (slips_vacant o m e t)) (vacated_vacant ((meaning o).changes (state_in m)) (is_vacant was) t z),
    slips_serial o m e t ∙ if_T (vacates o (state_in m) t) _ _ z,
  )

  -- any other keeps its serial, and is vacant only where it was
  kept : (Is (vacates o (state_in m) t) → ⊥) → (Is (is_vacant will t) → Is (is_vacant was t)) × (serial will t ≡ serial was t)
  unfolding vacant_after vacates serial_after
  kept n = (
    λ v. vacant_was ((meaning o).changes (state_in m)) (is_vacant was) t n (subst Is (slips_vacant o m e t) v),
    slips_serial o m e t ∙ if_F (vacates o (state_in m) t) _ _ n,
  )

  -- a slip that it takes may be given
  taken_ready : Is (is_vacant was t) → (Is (is_vacant will t) → ⊥) → Is (is_ready was t)
  taken_ready v n =
      let l = in_range will.slips 0 (λ k. k) t refl (not_zero (slip will t) n) in
      let s = ap (λ (X : State). slip_total X.tables) (after_state o m e) ∙ (rule_sizes o (state_in m)).slips_size in
      let k = (rule o (state_in m)).wants.slips in
      let taken : Memᴰ t (took_slips was will) =
      places_has _ 0 (slip_total was) t (omega arith) (omega arith) (and_intro (is_vacant was t) (not (is_vacant will t)) v (not_T (is_vacant will t) n)) in
      in_passes (is_ready was) 0 (slip_total was) t (take k (ready_slips was)) (take_in (is_ready was) 0 (slip_total was) k (ready_slips was) (all_free (is_ready was) (slip_total was)))
      (subst (Memᴰ t) (slips_took o m e).slips taken)

  -- so a spent slip stays vacant
  spent_stays : Is (is_vacant was t) → serial was t ≡ 65535 → Is (is_vacant will t)
  spent_stays v k = ⊎_elim (λ z. z) (λ n. absurd (((ready_is was t).0 (taken_ready v n)).1 k)) (is_dec (is_vacant will t))

-- what a done operation keeps, any call but a done open keeps
keeps : (I : Lent → Type 0) → ((o : Operation) (m : Lent) → (step (Do o) m).code ≡ 0 → I m → I (next (Do o) m)) → (c : Call) (m : Lent) → (Reopens c m → ⊥) → I m → I (next c m)
keeps I f (Open B P S) m r i = subst I (sym (next_refused (Open B P S) m r)) i
keeps I f (Do o) m r i = elim (ℕ_discrete (step (Do o) m).code 0) [ yes e ↦ f o m e i | no e ↦ subst I (sym (next_refused (Do o) m e)) i ]

-- ---- a name that was given up

-- the serial is past that of x, or x has the last serial and its slip is spent
abbrev Gone : Name → Lent → Type 0
Gone x m =
    let T = decode m.pool in
    (x.serial < serial T x.slip) ⊎ ((x.serial ≡ 65535) × Is (is_vacant T x.slip) × (serial T x.slip ≡ 65535))

gone_missing : (x : Name) (m : Lent) → Gone x m → Missing (decode m.pool) x
gone_missing x m g = ⊎_elim (λ l. inr (inr (λ e. omega arith))) (λ z. inr (inl z.1)) g

gone_done : (x : Name) (o : Operation) (m : Lent) → (step (Do o) m).code ≡ 0 → Gone x m → Gone x (next (Do o) m)
gone_done x o m e g =
    let s = x.slip in
    let b = small o m e s in
    ⊎_elim
    (λ z. (let (v, k) = vacated o m e s z in ⊎_elim (λ l. inl (omega arith)) (λ y. inr (y.0, v, omega arith)) g))
    (λ n. (let (_, k) = kept o m e s n in ⊎_elim (λ l. inl (omega arith)) (λ y. inr (y.0, spent_stays o m e s y.1 y.2, omega arith)) g))
    (is_dec (vacates o (state_in m) s))

-- it is refused until a done open
refuses : (x : Name) (cs : List Call) (m : Lent) → Is (sound m) → Gone x m → Refuses x cs m
refuses x [] m t g = tt
refuses x (c ∷ cs) m t g = (
  λ n. missing_refused c m x t n (gone_missing x m g),
  λ r. refuses x cs (next c m) (step_keeps c m t) (keeps (Gone x) (gone_done x) c m r g),
)

-- a done operation vacates the slip of a name that it gives up
gives_vacates : (o : Operation) (m : Lent) → (step (Do o) m).code ≡ 0 → (x : Name) → GivesUp o x → NamedBy (Do o) x × Is (vacates o (state_in m) x.slip)
unfolding rule vacates
gives_vacates Audit m e x g = absurd g
gives_vacates (Put input) m e x g = absurd g
gives_vacates (Free s) m e x g = (sym g, subst Is (sym (at_here s.slip x.slip true (λ u. false) (ap (λ (y : Name). y.slip) (sym g)))) tt)
gives_vacates (Dup s) m e x g = absurd g
gives_vacates (Cut s off n) m e x g = absurd g
gives_vacates (Append a b) m e x g =
    let q = ap (λ (y : Name). y.slip) (sym g) in
    let T = decode m.pool in
    let n = (both_named T a b (allowed (rule (Append a b) (state_in m)) T (did (Append a b) m e).allowed_code).early).2 in
    (inr (sym g), subst Is (sym (at_there a.slip x.slip false (at b.slip true (λ u. false)) (λ r. n (sym r ∙ q)) ∙ at_here b.slip x.slip true (λ u. false) q)) tt)
gives_vacates (Drop s n) m e x g = absurd g
gives_vacates (Keep s n) m e x g = absurd g
gives_vacates (Pullup s n) m e x g = absurd g
gives_vacates (Pack s) m e x g = absurd g
gives_vacates (Length s) m e x g = absurd g
gives_vacates (Read s off n out) m e x g = absurd g
gives_vacates (Show s n scratch) m e x g = absurd g
gives_vacates (WireList s list) m e x g = absurd g

gives_gone : (o : Operation) (m : Lent) → (step (Do o) m).code ≡ 0 → (x : Name) → GivesUp o x → Gone x (next (Do o) m)
gives_gone o m e x g =
    let (n, z) = gives_vacates o m e x g in
    let (_, k) = named_is (decode m.pool) x (done_named o m e x n) in
    let (v, l) = vacated o m e x.slip z in
    let b = small o m e x.slip in
    elim (dec_lt x.serial 65535) [ yes h ↦ inl (omega arith) | no h ↦ inr (omega arith, v, omega arith) ]

-- ---- a name that is good

-- where one slip comes to read something, none is vacated
reading_none : (s t : ℕ) → Is (at s false (λ u. false) t) → ⊥
reading_none s t z = if_either (λ (b : Bool). Is b → ⊥) (eqb t s) false false (λ _ y. y) (λ _ y. y) z

-- the slip of a comes to read ys: what that of x then reads, by names
at_name : (a x : Name) (ys : List ℕ) (f : ℕ → List ℕ) (zs : List ℕ) → (a.slip ≡ x.slip → a ≡ x) → (a.slip ≡ x.slip → ys ≡ zs)
    → at a.slip ys f x.slip ≡ (whether is_name a x then zs else f x.slip)
at_name a x ys f zs h k =
    elim (ℕ_discrete a.slip x.slip) [
      | yes e ↦ at_here a.slip x.slip ys f (sym e) ∙ k e
          ∙ sym (if_T (is_name a x) zs (f x.slip) (and_intro (eqb a.slip x.slip) _ (eq→eqb a.slip x.slip e) (eq→eqb _ _ (ap (λ (y : Name). y.serial) (h e)))))
      | no e ↦ at_there a.slip x.slip ys f (λ q. e (sym q))
          ∙ sym (if_F (is_name a x) zs (f x.slip) (λ t. e (eqb→eq a.slip x.slip (and_0 (eqb a.slip x.slip) _ t))))
    ]

-- a put, dup or cut gives a slip
new_gave : (o : Operation) (m : Lent) → NewName o → Gave o m (first_bytes o (state_in m))
new_gave Audit m n = absurd n
new_gave (Put input) m n = put_gave input m
new_gave (Free s) m n = absurd n
new_gave (Dup s) m n = dup_gave s m
new_gave (Cut s off k) m n = cut_gave s off k m
new_gave (Append a b) m n = absurd n
new_gave (Drop s k) m n = absurd n
new_gave (Keep s k) m n = absurd n
new_gave (Pullup s k) m n = absurd n
new_gave (Pack s) m n = absurd n
new_gave (Length s) m n = absurd n
new_gave (Read s off k out) m n = absurd n
new_gave (Show s k scratch) m n = absurd n
new_gave (WireList s list) m n = absurd n

-- the new slip may be given
new_ready : (o : Operation) (m : Lent) (xs : List ℕ) → (step (Do o) m).code ≡ 0 → Gave o m xs → let T = decode m.pool in Is (is_ready T (new_slip T))
new_ready o m xs e g =
    let T = decode m.pool in
    let a = allowed (rule o (state_in m)) T (did o m e).allowed_code in
    (first_in (is_ready T) 0 (slip_total T) (ready_slips T) (omega (arith, a.slips_room, g.wants_slip)) (all_free (is_ready T) (slip_total T))).1

module _ (m : Lent) (x : Name) (h : Missing (decode m.pool) x → ⊥) where
  -- a name that a done operation gives for the slip of x is x
  same_name : (o : Operation) → (step (Do o) m).code ≡ 0 → (y : Name) → NamedBy (Do o) y → y.slip ≡ x.slip → y ≡ x
  same_name o e y n q = one_name (decode m.pool) x y h (done_named o m e y n) q

  -- a done operation that vacates the slip of x gives x up
  vacates_gives : (o : Operation) → (step (Do o) m).code ≡ 0 → Is (vacates o (state_in m) x.slip) → GivesUp o x
  unfolding vacates
  vacates_gives Audit e z = absurd z
  vacates_gives (Put input) e z = reading_none (new_slip (decode m.pool)) x.slip z
  vacates_gives (Free s) e z =
      if_either (λ (b : Bool). Is b → s ≡ x) (eqb x.slip s.slip) true false
      (λ q _. same_name (Free s) e s refl (sym (eqb→eq x.slip s.slip q))) (λ _ y. absurd y) z
  vacates_gives (Dup s) e z = reading_none (new_slip (decode m.pool)) x.slip z
  vacates_gives (Cut s off n) e z = reading_none (new_slip (decode m.pool)) x.slip z
  vacates_gives (Append a b) e z =
      if_either (λ (c : Bool). Is c → b ≡ x) (eqb x.slip a.slip) false (at b.slip true (λ u. false) x.slip) (λ _ y. absurd y)
      (λ _. if_either (λ (c : Bool). Is c → b ≡ x) (eqb x.slip b.slip) true false
      (λ q _. same_name (Append a b) e b (inr refl) (sym (eqb→eq x.slip b.slip q))) (λ _ y. absurd y)) z
  vacates_gives (Drop s n) e z = reading_none s.slip x.slip z
  vacates_gives (Keep s n) e z = reading_none s.slip x.slip z
  vacates_gives (Pullup s n) e z = reading_none s.slip x.slip z
  vacates_gives (Pack s) e z = reading_none s.slip x.slip z
  vacates_gives (Length s) e z = absurd z
  vacates_gives (Read s off n out) e z = absurd z
  vacates_gives (Show s n scratch) e z = absurd z
  vacates_gives (WireList s list) e z = absurd z

  -- the slip that a done put, dup or cut gives is not that of x
  new_other : (o : Operation) (xs : List ℕ) → (step (Do o) m).code ≡ 0 → Gave o m xs → x.slip ≢ new_slip (decode m.pool)
  new_other o xs e g q =
      let T = decode m.pool in
      (named_is T x h).0 (subst (λ t. Is (is_vacant T t)) (sym q) ((ready_is T (new_slip T)).0 (new_ready o m xs e g)).0)

  -- a done operation that does not give x up makes of its bytes what callers are told
  makes_read : (o : Operation) → (step (Do o) m).code ≡ 0 → (GivesUp o x → ⊥) → reads_after o (state_in m) x.slip ≡ makes o (state_in m) x (reads (state_in m) x.slip)
  unfolding reads_after
  makes_read Audit e n = refl
  makes_read (Put input) e n = at_there _ _ _ (reads (state_in m)) (new_other (Put input) _ e (put_gave input m))
  makes_read (Free s) e n = at_there _ _ _ (reads (state_in m)) (λ q. n (same_name (Free s) e s refl (sym q)))
  makes_read (Dup s) e n = at_there _ _ _ (reads (state_in m)) (new_other (Dup s) _ e (dup_gave s m))
  makes_read (Cut s off k) e n = at_there _ _ _ (reads (state_in m)) (new_other (Cut s off k) _ e (cut_gave s off k m))
  makes_read (Append a b) e n =
      let S = state_in m in
      let o = Append a b in
      at_name a x _ (at b.slip [] (reads S)) (reads S x.slip ++ reads S b.slip) (same_name o e a (inl refl)) (λ q. ap (λ t. reads S t ++ reads S b.slip) q)
      ∙ ap (λ (ys : List ℕ). whether is_name a x then reads S x.slip ++ reads S b.slip else ys) (at_there b.slip x.slip [] (reads S) (λ q. n (same_name o e b (inr refl) (sym q))))
  makes_read (Drop s k) e n = (let S = state_in m in at_name s x _ (reads S) (drop k (reads S x.slip)) (same_name (Drop s k) e s refl) (λ q. ap (λ t. drop k (reads S t)) q))
  makes_read (Keep s k) e n = (let S = state_in m in at_name s x _ (reads S) (take k (reads S x.slip)) (same_name (Keep s k) e s refl) (λ q. ap (λ t. take k (reads S t)) q))
  makes_read (Pullup s k) e n = at_same s.slip x.slip _ (reads (state_in m)) refl
  makes_read (Pack s) e n = at_same s.slip x.slip _ (reads (state_in m)) refl
  makes_read (Length s) e n = refl
  makes_read (Read s off k out) e n = refl
  makes_read (Show s k scratch) e n = refl
  makes_read (WireList s list) e n = refl

-- so x stays good
good_done : (x : Name) (xs : List ℕ) (o : Operation) (m : Lent) → (step (Do o) m).code ≡ 0 → (GivesUp o x → ⊥) → Good x xs m
    → Good x (makes o (state_in m) x xs) (next (Do o) m)
good_done x xs o m e n g =
    let (v, k) = named_is (decode m.pool) x g.held in
    let (w, l) = kept o m e x.slip (λ z. n (vacates_gives m x g.held o e z)) in
    record {
      held = not_missing (decode (next (Do o) m).pool) x (λ z. v (w z)) (l ∙ k);
      bytes = slips_read o m e x.slip ∙ makes_read m x g.held o e n ∙ ap (makes o (state_in m) x) g.bytes;
    }

good_next : (x : Name) (xs : List ℕ) (c : Call) (m : Lent) → (Reopens c m ⊎ EndsName c x m → ⊥) → Good x xs m → Good x (made_by c m x xs) (next c m)
good_next x xs (Open B P S) m r g = subst (Good x xs) (sym (next_refused (Open B P S) m (λ e. r (inl e)))) g
good_next x xs (Do o) m r g =
    if_either (λ (ys : List ℕ). Good x ys (next (Do o) m)) (eqb (step (Do o) m).code 0) (makes o (state_in m) x xs) xs
    (λ t. (let e = eqb→eq (step (Do o) m).code 0 t in good_done x xs o m e (λ z. r (inr (e, z))) g))
    (λ t. subst (Good x xs) (sym (next_refused (Do o) m (λ e. t (eq→eqb _ 0 e)))) g)

-- it lives until a done open, or until it is given up
lives : (x : Name) (xs : List ℕ) (cs : List Call) (m : Lent) → Good x xs m → Lives x xs cs m
lives x xs [] m g = g
lives x xs (c ∷ cs) m g = (g, accepts x c m g.held, λ r. lives x (made_by c m x xs) cs (next c m) (good_next x xs c m r g))

gave_good : (o : Operation) (m : Lent) (xs : List ℕ) → (step (Do o) m).code ≡ 0 → Gave o m xs → Good (answered (step (Do o) m).number) xs (next (Do o) m)
gave_good o m xs e g =
    let x = answered (step (Do o) m).number in
    let T = decode (next (Do o) m).pool in
    record { held = not_missing T x (T_not (is_vacant T x.slip) (gave_held o m xs e g)) (gave_serial o m xs e g); bytes = gave_reads o m xs e g }

-- ---- a name that was answered

-- the serial is not below that of x, and is past it where the slip may be given
abbrev Used : Name → Lent → Type 0
Used x m = let T = decode m.pool in (x.serial ≤ serial T x.slip) × (Is (is_ready T x.slip) → x.serial < serial T x.slip)

used_done : (x : Name) (o : Operation) (m : Lent) → (step (Do o) m).code ≡ 0 → Used x m → Used x (next (Do o) m)
used_done x o m e (l, f) =
    let s = x.slip in
    let b = small o m e s in
    let T = decode m.pool in
    let T' = decode (next (Do o) m).pool in
    ⊎_elim
    (λ z. (let (_, k) = vacated o m e s z in (omega arith, λ r. (let (_, n) = (ready_is T' s).0 r in omega arith))))
    (λ z. (
    let (v, k) = kept o m e s z in
    (omega arith, λ r. (let (w, n) = (ready_is T' s).0 r in omega (arith, f ((ready_is T s).1 (v w, λ q. n (k ∙ q))))))))
    (is_dec (vacates o (state_in m) s))

-- what is answered is a slip that may be given, with its serial
answers_other : (x : Name) (c : Call) (m : Lent) → Used x m → AnswersOther c x m
answers_other x (Open B P S) m u = tt
answers_other x (Do o) m (l, f) = λ n e q.
    let T = decode m.pool in
    let g = new_gave o m n in
    let p : name (new_slip T) (serial T (new_slip T)) ≡ x = sym (gave_name o m _ e g) ∙ q in
    let k : serial T x.slip ≡ x.serial = ap (λ (y : Name). serial T y.slip) (sym p) ∙ ap (λ (y : Name). y.serial) p in
    omega (arith, f (subst (λ (y : Name). Is (is_ready T y.slip)) p (new_ready o m _ e g)))

-- it is answered to nobody else until a done open
differs : (x : Name) (cs : List Call) (m : Lent) → Used x m → Differs x cs m
differs x [] m u = tt
differs x (c ∷ cs) m u = (answers_other x c m u, λ r. differs x cs (next c m) (keeps (Used x) (used_done x) c m r u))

gave_used : (o : Operation) (m : Lent) (xs : List ℕ) → (step (Do o) m).code ≡ 0 → Gave o m xs → Used (answered (step (Do o) m).number) (next (Do o) m)
gave_used o m xs e g =
    let x = answered (step (Do o) m).number in
    let T = decode (next (Do o) m).pool in
    let k = gave_serial o m xs e g in
    (omega arith, λ r. absurd (T_not (is_vacant T x.slip) (gave_held o m xs e g) ((ready_is T x.slip).0 r).0))

-- ---- the promise

promised : (o : Operation) (cs : List Call) (m : Lent) → (step (Do o) m).code ≡ 0 → Promised o cs m
promised o cs m e = record {
  given_up = λ x g. refuses x cs (next (Do o) m) (step_keeps (Do o) m (did o m e).was_sound) (gives_gone o m e x g);
  lives = λ n. lives _ _ cs (next (Do o) m) (gave_good o m _ e (new_gave o m n));
  once = λ n. differs _ cs (next (Do o) m) (gave_used o m _ e (new_gave o m n));
}

-- In any list of calls on any bytes, until a done open: a name that was given up is refused, and a name that was answered is good until it is given up, and is answered to nobody else.
pub serials_ok : (cs : List Call) (m : Lent) → SerialsOk cs m
serials_ok [] m = tt
serials_ok (Open B P S ∷ cs) m = (tt, serials_ok cs (next (Open B P S) m))
serials_ok (Do o ∷ cs) m = (promised o cs m, serials_ok cs (next (Do o) m))

-- ---- what it comes to

-- no call of the list is a done open, nor a done call that gives x up
abbrev pub Holding : Name → List Call → Lent → Type 0
Holding x [] m = Unit {0}
Holding x (c ∷ cs) m = NoOpen c m × ((o : Operation) → c ≡ Do o → (step c m).code ≡ 0 → GivesUp o x → ⊥) × Holding x cs (next c m)

not_reopened : (c : Call) (m : Lent) → NoOpen c m → Reopens c m → ⊥
not_reopened (Open B P S) m u e = u B P S refl e
not_reopened (Do o) m u e = e

not_ended : (x : Name) (c : Call) (m : Lent) → ((o : Operation) → c ≡ Do o → (step c m).code ≡ 0 → GivesUp o x → ⊥) → EndsName c x m → ⊥
not_ended x (Open B P S) m u e = e
not_ended x (Do o) m u e = u o refl e.0 e.1

refused_at : (x : Name) (cs : List Call) (c : Call) (m : Lent) → Refuses x (cs ++ (c ∷ [])) m → Unopened cs m → NamedBy c x → (step c (after_calls cs m)).code ≡ 3
refused_at x [] c m r u n = r.0 n
refused_at x (d ∷ cs) c m r u n = refused_at x cs c (next d m) (r.1 (not_reopened d m u.0)) u.1 n

differs_at : (x : Name) (cs : List Call) (c : Call) (m : Lent) → Differs x (cs ++ (c ∷ [])) m → Unopened cs m → AnswersOther c x (after_calls cs m)
differs_at x [] c m r u = r.0
differs_at x (d ∷ cs) c m r u = differs_at x cs c (next d m) (r.1 (not_reopened d m u.0)) u.1

accepts_at : (x : Name) (xs : List ℕ) (cs : List Call) (c : Call) (m : Lent) → Lives x xs (cs ++ (c ∷ [])) m → Holding x cs m → Accepts x c (after_calls cs m)
accepts_at x xs [] c m l u = l.1
accepts_at x xs (d ∷ cs) c m l u =
    accepts_at x (made_by d m x xs) cs c (next d m) (l.2 (⊎_elim (not_reopened d m u.0) (not_ended x d m u.1))) u.2

-- what the calls of a list make of the bytes xs that x reads
abbrev pub made_by_all : List Call → Lent → Name → List ℕ → List ℕ
made_by_all [] m x xs = xs
made_by_all (c ∷ cs) m x xs = made_by_all cs (next c m) x (made_by c m x xs)

reads_at : (x : Name) (xs : List ℕ) (cs : List Call) (m : Lent) → Lives x xs cs m → Holding x cs m → reads (state_in (after_calls cs m)) x.slip ≡ made_by_all cs m x xs
reads_at x xs [] m l u = l.bytes
reads_at x xs (d ∷ cs) m l u = reads_at x (made_by d m x xs) cs (next d m) (l.2 (⊎_elim (not_reopened d m u.0) (not_ended x d m u.1))) u.2

-- every call that names s alone is so; and both that name s and a
abbrev pub Naming : (Operation → Type 0) → Name → ℕ → ℕ → List ℕ → Type 0
Naming P s off n xs =
    P (Free s) × P (Dup s) × P (Cut s off n) × P (Drop s n) × P (Keep s n) × P (Pullup s n) × P (Pack s) × P (Length s) × P (Read s off n xs) × P (Show s n xs) × P (WireList s xs)

abbrev pub Joining : (Operation → Type 0) → Name → Name → Type 0
Joining P s a = P (Append s a) × P (Append a s)

each_naming : (P : Operation → Type 0) (s : Name) (off n : ℕ) (xs : List ℕ) → ((o : Operation) → ((y : Name) → NamedBy (Do o) y → y ≡ s) → NamedBy (Do o) s → P o)
    → Naming P s off n xs
each_naming P s off n xs f = (
  f (Free s) (λ y k. k) refl,
  f (Dup s) (λ y k. k) refl,
  f (Cut s off n) (λ y k. k) refl,
  f (Drop s n) (λ y k. k) refl,
  f (Keep s n) (λ y k. k) refl,
  f (Pullup s n) (λ y k. k) refl,
  f (Pack s) (λ y k. k) refl,
  f (Length s) (λ y k. k) refl,
  f (Read s off n xs) (λ y k. k) refl,
  f (Show s n xs) (λ y k. k) refl,
  f (WireList s xs) (λ y k. k) refl,
)

-- every call that names s is refused with 3, alone or beside a
abbrev pub AllRefuse : Name → Name → ℕ → ℕ → List ℕ → Lent → Type 0
AllRefuse s a off n xs m = Joining (λ o. (step (Do o) m).code ≡ 3) s a × Naming (λ o. (step (Do o) m).code ≡ 3) s off n xs

given_refused : (o : Operation) (x a : Name) (off n : ℕ) (xs : List ℕ) (cs : List Call) (m : Lent) → (step (Do o) m).code ≡ 0 → GivesUp o x → Unopened cs (next (Do o) m)
    → AllRefuse x a off n xs (after_calls cs (next (Do o) m))
given_refused o x a off n xs cs m e g u =
    let m₁ = next (Do o) m in
    let r : (p : Operation) → NamedBy (Do p) x → (step (Do p) (after_calls cs m₁)).code ≡ 3 = λ p.
    refused_at x cs (Do p) m₁ (((serials_ok (Do o ∷ (cs ++ (Do p ∷ []))) m).0 e).given_up x g) u in
    ((r (Append x a) (inl refl), r (Append a x) (inr refl)), each_naming (λ p. (step (Do p) (after_calls cs m₁)).code ≡ 3) x off n xs (λ p _. r p))

-- A name that a done free, or a done append as b, has given up is refused with 3 by every call that names it, whatever calls but a done open come between.
pub freed_refused : (s a : Name) (off n : ℕ) (xs : List ℕ) (cs : List Call) (m : Lent) → (step (Do (Free s)) m).code ≡ 0 → Unopened cs (next (Do (Free s)) m)
    → AllRefuse s a off n xs (after_calls cs (next (Do (Free s)) m))
freed_refused s a off n xs cs m e u = given_refused (Free s) s a off n xs cs m e refl u

pub joined_refused : (a b c : Name) (off n : ℕ) (xs : List ℕ) (cs : List Call) (m : Lent) → (step (Do (Append a b)) m).code ≡ 0 → Unopened cs (next (Do (Append a b)) m)
    → AllRefuse b c off n xs (after_calls cs (next (Do (Append a b)) m))
joined_refused a b c off n xs cs m e u = given_refused (Append a b) b c off n xs cs m e refl u

-- put, dup and cut answer names
pub new_names : (input : List ℕ) (s : Name) (off n : ℕ) → NewName (Put input) × NewName (Dup s) × NewName (Cut s off n)
new_names input s off n = (tt, tt, tt)

-- The name that a done put, dup or cut answers is not refused with 3 until it is given up, and reads what the calls have made of its bytes; and no other done call answers its number.
module _ (o : Operation) (n : NewName o) (cs : List Call) (m : Lent) (e : (step (Do o) m).code ≡ 0) where
  pub answered_accepted : (a : Name) (off k : ℕ) (xs : List ℕ) → let x = answered (step (Do o) m).number in Holding x cs (next (Do o) m)
      → let m₁ = after_calls cs (next (Do o) m) in
      Naming (λ p. (step (Do p) m₁).code ≢ 3) x off k xs × Joining (λ p. (step (Do p) m₁).code ≡ 3 → Missing (decode m₁.pool) a) x a
  answered_accepted a off k xs u =
      let x = answered (step (Do o) m).number in
      let m₁ = after_calls cs (next (Do o) m) in
      let good : (p : Operation) → Accepts x (Do p) m₁ = λ p.
      accepts_at x (first_bytes o (state_in m)) cs (Do p) (next (Do o) m) (((serials_ok (Do o ∷ (cs ++ (Do p ∷ []))) m).0 e).lives n) u in
      let other : (y : Name) → (y ≢ x) → Missing (decode m₁.pool) y → (y ≡ x) ⊎ (y ≡ a) → Missing (decode m₁.pool) a = λ y d w z.
      ⊎_elim (λ q. absurd (d q)) (λ q. subst (Missing (decode m₁.pool)) q w) z in (
        each_naming (λ p. (step (Do p) m₁).code ≢ 3) x off k xs (λ p h g q. (let y = good p g q in y.2 (h y.0 y.1))),
        (
          λ q. (let y = good (Append x a) (inl refl) q in other y.0 y.2 y.3 y.1),
          λ q. (let y = good (Append a x) (inr refl) q in other y.0 y.2 y.3 (⊎_elim inr inl y.1)),
        ),
      )

  pub answered_reads : let x = answered (step (Do o) m).number in Holding x cs (next (Do o) m)
      → reads (state_in (after_calls cs (next (Do o) m))) x.slip ≡ made_by_all cs (next (Do o) m) x (first_bytes o (state_in m))
  answered_reads u = reads_at (answered (step (Do o) m).number) (first_bytes o (state_in m)) cs (next (Do o) m) (((serials_ok (Do o ∷ cs) m).0 e).lives n) u

  pub answered_once : (p : Operation) → NewName p → Unopened cs (next (Do o) m) → let r = step (Do p) (after_calls cs (next (Do o) m)) in r.code ≡ 0 → r.number ≢ (step (Do o) m).number
  answered_once p k u d q =
      let x = answered (step (Do o) m).number in
      differs_at x cs (Do p) (next (Do o) m) (((serials_ok (Do o ∷ (cs ++ (Do p ∷ []))) m).0 e).once n) u k d (ap answered q)
