-- What lists of calls leave in the buffers, and the same in bytes: storage that is zero at an open is zero in each buffer without references after it. Assumes nothing.
use mathlib.Core.Path.{◌≡◌, refl, sym, ap, subst, ◌∙◌}
use mathlib.Core.Logic.{◌≢◌, ◌↔◌}
use mathlib.Core.List.{List, [], ◌∷◌, ◌++◌}
use Prim.Native.Nat.{ℕ, ◌+◌, ◌*◌, ◌<◌}
use native.Mathlib.Decide.{ℕ_discrete}
use native.Mathlib.Omega.{arith}
use lib.ListN.{length, get_or, drop, replicate, length-replicate}
use lib.Seq.{get_or-take, get_or-drop, ext_get_or}
use Rattle.kinds.specs.Sizes.{size_of, start_of}
use Rattle.kinds.proofs.Sizes.{size_one, start_one}
use Rattle.rules.specs.Tables.{buffer_total}
use Rattle.rules.specs.Bytes.{decode}
use Rattle.rules.specs.Chain.{bytes_of}
use Rattle.rules.specs.Storage.{whole_of, Zeroed}
use Rattle.rules.specs.Sound.{Lent}
use Rattle.rules.specs.Step.{Call, Open, Do, step, next, after_calls}
use Rattle.rules.specs.Recount.{holders}
use Rattle.rules.specs.Lists.{NoOpen, Unopened}
use Rattle.rules.specs.Clean.{CleanAt, StaysClean}
use Rattle.rules.proofs.Audit.{get_d_same}
use Rattle.rules.proofs.Contents.{Fit, bytes_length}
use Rattle.rules.proofs.Answers.{opened}
use Rattle.rules.proofs.Demand.{calls_sound}
use Rattle.rules.proofs.Step.{next_refused, opened_sound, sound_within}
use Rattle.rules.proofs.Clean.{same_stock, opened_storage, others_keep, back_cleaned}

-- ---- lists of calls

clean_next : (b : ℕ) (c : Call) (m : Lent) → NoOpen c m → CleanAt b m → CleanAt b (next c m)
clean_next b (Open B P S) m n h = subst (CleanAt b) (sym (next_refused (Open B P S) m (n B P S refl))) h
clean_next b (Do o) m n h =
    elim (ℕ_discrete (step (Do o) m).code 0) [
      | yes e ↦ (λ l w.
          let z = same_stock o m e in
          let l₀ : b < buffer_total (decode m.pool) = omega (arith, z.1) in
          subst (λ (Z : List ℕ). Zeroed Z (next (Do o) m).storage b) (sym z.0)
          (elim (ℕ_discrete (holders (decode m.pool) b) 0) [
            | yes u ↦ others_keep (Do o) m b l₀ (λ _. w, λ _. u) ∙ h l₀ u
            | no u ↦ back_cleaned (Do o) m n b l₀ u w
          ]))
      | no e ↦ subst (CleanAt b) (sym (next_refused (Do o) m e)) h
    ]

-- Whatever the storage held at first: a buffer that was zero, or in use, is zero whenever no piece lies on it.
pub clean_on : (b : ℕ) (cs : List Call) (m : Lent) → Unopened cs m → CleanAt b m → CleanAt b (after_calls cs m)
clean_on b [] m n h = h
clean_on b (c ∷ cs) m n h = clean_on b cs (next c m) n.1 (clean_next b c m n.0 h)

-- the count of buffers stays
total_stays : (cs : List Call) (m : Lent) → Unopened cs m → buffer_total (decode (after_calls cs m).pool) ≡ buffer_total (decode m.pool)
total_stays [] m n = refl
total_stays (c ∷ cs) m n = total_stays cs (next c m) n.1 ∙ one c n.0
  where
    one : (c : Call) → NoOpen c m → buffer_total (decode (next c m).pool) ≡ buffer_total (decode m.pool)
    one (Open B P S) k = ap (λ (x : Lent). buffer_total (decode x.pool)) (next_refused (Open B P S) m (k B P S refl))
    one (Do o) k =
        elim (ℕ_discrete (step (Do o) m).code 0) [
          | yes e ↦ (same_stock o m e).1
          | no e ↦ ap (λ (x : Lent). buffer_total (decode x.pool)) (next_refused (Do o) m e)
        ]

-- a part of zeroed storage is zero
zero_part : (Z : List ℕ) (B : ℕ) (st : List ℕ) (b : ℕ) → Fit Z B st → b < B → st ≡ replicate (length st) 0 → Zeroed Z st b
zero_part Z B st b f l e =
    let n = bytes_length Z B st (whole_of Z b) f l (omega arith) in
    let a = start_of Z b + 0 in
    ext_get_or 0 _ _ (n ∙ sym (length-replicate (size_of Z b) 0)) (λ i u.
    get_or-take (size_of Z b) (drop a st) i 0 (omega (arith, n)) ∙ get_or-drop a st i 0
    ∙ ap (λ (q : List ℕ). get_or q (a + i) 0) e ∙ get_d_same {A = ℕ} (length st) (a + i) 0 ∙ sym (get_d_same {A = ℕ} (size_of Z b) i 0))

-- In a pool opened over zeroed storage every buffer without references is zero, after any list of calls that holds no other done open.
pub stays_clean : StaysClean
stays_clean B P S m cs e z n b =
    let m₀ = next (Open B P S) m in
    let w = sound_within m₀ (opened_sound B P S m e) in
    let s = opened_storage B P S m in
    clean_on b cs m₀ n
    (λ l _. zero_part (decode m₀.pool).stock (buffer_total (decode m₀.pool)) m₀.storage b w.storage_fits l
    (s ∙ z ∙ ap (λ (q : List ℕ). replicate (length q) 0) (sym s)))

-- ---- in bytes: buffer b has the 512 bytes of storage from byte 512 · b on

byte_at : (Z st : List ℕ) (b i : ℕ) → i < 512 → get_or (bytes_of Z st (whole_of Z b)) i 0 ≡ get_or st (512 * b + i) 0
byte_at Z st b i l =
    let a = start_of Z b + 0 in
    let k : a + i ≡ 512 * b + i = omega (arith, start_one Z b) in
    get_or-take (size_of Z b) (drop a st) i 0 (omega (arith, size_one Z b)) ∙ get_or-drop a st i 0 ∙ ap (λ j. get_or st j 0) k

zero_at : (Z st : List ℕ) (b i : ℕ) → i < 512 → Zeroed Z st b → get_or st (512 * b + i) 0 ≡ 0
zero_at Z st b i l z = sym (byte_at Z st b i l) ∙ ap (λ (q : List ℕ). get_or q i 0) z ∙ get_d_same {A = ℕ} (size_of Z b) i 0

module _ (c : Call) (m : Lent) (b i : ℕ) (l : b < buffer_total (decode m.pool)) (u : i < 512) where
  -- pieces lie on it before and after, or none before and none after
  pub byte_stays : ((holders (decode m.pool) b ≡ 0) ↔ (holders (decode (next c m).pool) b ≡ 0))
      → get_or (next c m).storage (512 * b + i) 0 ≡ get_or m.storage (512 * b + i) 0
  byte_stays h =
      let Z = (decode m.pool).stock in
      sym (byte_at Z (next c m).storage b i u) ∙ ap (λ (q : List ℕ). get_or q i 0) (others_keep c m b l h) ∙ byte_at Z m.storage b i u

  -- the last piece on it goes
  pub byte_cleaned : NoOpen c m → holders (decode m.pool) b ≢ 0 → holders (decode (next c m).pool) b ≡ 0
      → get_or (next c m).storage (512 * b + i) 0 ≡ 0
  byte_cleaned n h z = zero_at (decode m.pool).stock (next c m).storage b i u (back_cleaned c m n b l h z)

-- wherever an open stands in the list it is refused
none_opens : (cs : List Call) (m : Lent)
    → ((ds es : List Call) (B P S : ℕ) → cs ≡ ds ++ (Open B P S ∷ es) → (step (Open B P S) (after_calls ds m)).code ≢ 0) → Unopened cs m
none_opens [] m h = tt
none_opens (c ∷ cs) m h = (
  λ B P S q. subst (λ (x : Call). (step x m).code ≢ 0) (sym q) (h [] cs B P S (ap (λ (x : Call). x ∷ cs) q)),
  none_opens cs (next c m) (λ ds es B P S q. h (c ∷ ds) es B P S (ap (λ (xs : List Call). c ∷ xs) q)),
)

module _ (B P S : ℕ) (m : Lent) (cs : List Call) (e : (step (Open B P S) m).code ≡ 0)
    (n : (ds es : List Call) (B₁ P₁ S₁ : ℕ) → cs ≡ ds ++ (Open B₁ P₁ S₁ ∷ es) → (step (Open B₁ P₁ S₁) (after_calls ds (next (Open B P S) m))).code ≢ 0) where
  abbrev opened_here : Lent
  opened_here = next (Open B P S) m

  abbrev now_here : Lent
  now_here = after_calls cs opened_here

  -- the pool has the B buffers that were opened
  total_here : buffer_total (decode now_here.pool) ≡ B
  total_here = total_stays cs opened_here (none_opens cs opened_here n) ∙ (opened B P S m e).buffers

  -- Whatever calls come but another done open, storage has 512 bytes for each.
  pub bytes_there : length now_here.storage ≡ 512 * B
  bytes_there =
      let w = sound_within now_here (calls_sound cs opened_here (opened_sound B P S m e)) in
      w.storage_fits ∙ start_one (decode now_here.pool).stock (buffer_total (decode now_here.pool)) ∙ ap (λ (j : ℕ). 512 * j) total_here

  -- And where all of it was zero at the open, each of the 512 bytes of a buffer on which no piece lies is 0.
  pub zero_bytes : ((i : ℕ) → get_or m.storage i 0 ≡ 0) → (b i : ℕ) → b < B → i < 512 → holders (decode now_here.pool) b ≡ 0
      → get_or now_here.storage (512 * b + i) 0 ≡ 0
  zero_bytes z b i l u h =
      let zs : m.storage ≡ replicate (length m.storage) 0 =
      ext_get_or 0 _ _ (sym (length-replicate (length m.storage) 0)) (λ j _. z j ∙ sym (get_d_same {A = ℕ} (length m.storage) j 0)) in
      zero_at (decode now_here.pool).stock now_here.storage b i u
      (stays_clean B P S m cs e zs (none_opens cs opened_here n) b (omega (arith, total_here)) h)
