-- What an operation leaves of storage: every byte of a buffer that it neither takes nor sets free, and zeros in one that it sets free. Assumes nothing.
use mathlib.Core.Path.{◌≡◌, refl, sym, ap, subst, ◌∙◌}
use mathlib.Core.Bool.{Bool}
use mathlib.Core.List.{List, [], ◌∷◌, Memᴰ}
use Prim.Native.Nat.{ℕ, suc, ◌<◌}
use native.Mathlib.Decide.{dec_lt, ℕ_discrete}
use native.Mathlib.Omega.{arith}
use lib.ListN.{length, get_or, set}
use lib.Seq.{get_or-set_same, get_or-set_other}
use Rattle.rules.specs.Basics.{Is, whether◌then◌else◌, passing}
use Rattle.rules.specs.Tables.{Tables, buffer_count, head_of, slip_total, buffer_total}
use Rattle.rules.specs.Chain.{Stretch, State, bytes_of, with_tables, with_storage}
use Rattle.rules.specs.Storage.{whole_of, Zeroed}
use Rattle.rules.specs.Room.{is_unheld, new_buffers}
use Rattle.rules.specs.Build.{built, Plan, made, under_new, under_old, behind_own, stored}
use Rattle.rules.proofs.Logic.{eq→eqb, if_either}
use Rattle.rules.proofs.Moves.{SoundWith, in_range}
use Rattle.rules.proofs.Build.{Free, Planned, OwnList}
use Rattle.rules.proofs.Room.{new_buffers_in, passing_in}
use Rattle.rules.proofs.Contents.{Fit, stored_other}
use Rattle.rules.proofs.Sizes.{Sizes, made_sizes, new_length}
use Rattle.rules.proofs.Storage.{held_bytes, Keeps, fit_by, old_keeps, behind_keeps}
use Rattle.rules.proofs.Takes.{buffers_of}

-- From S to S' the length of storage stays, and so does every byte of a buffer that is not one of
-- the k lowest free, and is not set free: it was free, or is held afterwards. One that is set free is zero.
pub record StorageStays (S S' : State) (k : ℕ) : Type 0 where
  pub as_long : length S'.storage ≡ length S.storage
  pub others : (b : ℕ) → b < buffer_total S.tables → (Memᴰ b (new_buffers S.tables k) → ⊥)
      → (0 < buffer_count S.tables b → 0 < buffer_count S'.tables b) → held_bytes S.tables S'.storage b ≡ held_bytes S.tables S.storage b
  pub clean : (b : ℕ) → b < buffer_total S.tables → 0 < buffer_count S.tables b → buffer_count S'.tables b ≡ 0
      → Zeroed S.tables.stock S'.storage b

-- no buffer is set free
abbrev pub NoneFreed : Tables → Tables → Type 0
NoneFreed T T' = (b : ℕ) → 0 < buffer_count T b → 0 < buffer_count T' b

-- storage is as it was
pub stays_as : (S S' : State) (k : ℕ) → S'.storage ≡ S.storage → NoneFreed S.tables S'.tables → StorageStays S S' k
stays_as S S' k e u = record {
  as_long = ap length e;
  others = λ b _ _ _. ap (λ (q : List ℕ). held_bytes S.tables q b) e;
  clean = λ b _ w z. absurd (omega (arith, u b w));
}

-- where new buffers are written every other one keeps its bytes
pub new_apart : (S : State) (k : ℕ) (xs : List ℕ) → Fit S.tables.stock (buffer_total S.tables) S.storage → (b : ℕ) → b < buffer_total S.tables
    → (Memᴰ b (new_buffers S.tables k) → ⊥)
    → held_bytes S.tables (stored S.tables.stock S.storage (new_buffers S.tables k) xs) b ≡ held_bytes S.tables S.storage b
new_apart S k xs f b l n =
    let T = S.tables in
    stored_other T.stock (is_unheld T) 0 (buffer_total T) (new_buffers T k) S.storage xs (whole_of T.stock b) (new_buffers_in T k) f l (omega arith) n

-- new buffers are written
pub stays_new : (S S' : State) (k : ℕ) (xs : List ℕ) → Fit S.tables.stock (buffer_total S.tables) S.storage
    → S'.storage ≡ stored S.tables.stock S.storage (new_buffers S.tables k) xs → NoneFreed S.tables S'.tables → StorageStays S S' k
stays_new S S' k xs f e u = record {
  as_long = ap length e ∙ new_length S k xs f;
  others = λ b l n _. ap (λ (q : List ℕ). held_bytes S.tables q b) e ∙ new_apart S k xs f b l n;
  clean = λ b _ w z. absurd (omega (arith, u b w));
}

-- of buffers, T₁ takes only the k lowest free of T
abbrev pub TakesOnly : Tables → Tables → ℕ → Type 0
TakesOnly T T₁ k = (b : ℕ) → (Memᴰ b (new_buffers T k) → ⊥) → 0 < buffer_count T₁ b → 0 < buffer_count T b

-- then references are released
pub stays_then : {S S₁ S' : State} {k : ℕ} → Sizes S.tables S₁.tables → TakesOnly S.tables S₁.tables k → NoneFreed S.tables S₁.tables
    → StorageStays S S₁ k → Keeps S₁ S' → StorageStays S S' k
stays_then {S} {S₁} {S'} z o u w q = record {
  as_long = q.as_long ∙ w.as_long;
  others = λ b l n h.
      subst (λ (Z : List ℕ). bytes_of Z S'.storage (whole_of Z b) ≡ bytes_of Z S₁.storage (whole_of Z b)) z.stock_kept
      (q.others b (omega (arith, z.counts_size)) (λ v. h (o b n v)))
      ∙ w.others b l n (λ v. omega (arith, h v, q.fell b));
  clean = λ b l v e. subst (λ (Z : List ℕ). Zeroed Z S'.storage b) z.stock_kept (q.clean b (omega (arith, z.counts_size)) (u b v) e);
}

-- where it may be that nothing changes
pub maybe_stays : (S X : State) (b : Bool) (k : ℕ) → StorageStays S X k → StorageStays S (whether b then S else X) k
maybe_stays S X b k h = if_either (λ (Y : State). StorageStays S Y k) b S X (λ _. stays_as S S k refl (λ b u. u)) (λ _. h)

-- ---- which buffers are taken

-- a buffer on which no new piece lies keeps its count
pub built_count : (T : Tables) (fs : List ℕ) (xs : List Stretch) (tail b : ℕ) → (Memᴰ b (buffers_of xs) → ⊥)
    → buffer_count (built T fs xs tail) b ≡ buffer_count T b
unfolding built
built_count T fs [] tail b n = refl
built_count T [] (x ∷ xs) tail b n = refl
built_count T (f ∷ fs) (x ∷ xs) tail b n =
    get_or-set_other (built T fs xs tail).counts x.buffer b _ 0 (λ e. n (mathlib.Core.List.Memᴰ.head e)) ∙ built_count T fs xs tail b (λ m. n (mathlib.Core.List.Memᴰ.tail m))

-- and one that was held is held
pub built_held : (T : Tables) (fs : List ℕ) (xs : List Stretch) (tail : ℕ) → NoneFreed T (built T fs xs tail)
unfolding built
built_held T fs [] tail b u = u
built_held T [] (x ∷ xs) tail b u = u
built_held T (f ∷ fs) (x ∷ xs) tail b u =
    let T₁ = built T fs xs tail in
    let w = built_held T fs xs tail b u in
    elim (ℕ_discrete b x.buffer) [
      | yes e ↦
          subst (λ (y : ℕ). 0 < get_or (set T₁.counts x.buffer (suc (buffer_count T₁ x.buffer))) y 0) (sym e)
          (omega (
            arith,
            get_or-set_same T₁.counts x.buffer (suc (buffer_count T₁ x.buffer)) 0
                (in_range T₁.counts 0 (λ n. n) x.buffer refl (subst (λ (y : ℕ). 0 < buffer_count T₁ y) e w)),
          ))
      | no e ↦ omega (arith, get_or-set_other T₁.counts x.buffer b (suc (buffer_count T₁ x.buffer)) 0 e)
    ]

-- from T₀, which counts buffers as T does: new pieces for xs take no buffer but the k lowest free
pub built_only : (T T₀ : Tables) (fs : List ℕ) (xs : List Stretch) (tail k : ℕ) → T₀.counts ≡ T.counts
    → passing (is_unheld T) (buffers_of xs) ≡ new_buffers T k → TakesOnly T (built T₀ fs xs tail) k
built_only T T₀ fs xs tail k c e b n u =
    elim (dec_lt 0 (buffer_count T b)) [
      | yes l ↦ l
      | no l ↦ (
          let z : Is (is_unheld T b) = eq→eqb (buffer_count T b) 0 (omega arith) in
          let out : Memᴰ b (buffers_of xs) → ⊥ = λ m. n (subst (Memᴰ b) e (passing_in (is_unheld T) b (buffers_of xs) z m)) in
          omega (arith, built_count T₀ fs xs tail b out, ap (λ (q : List ℕ). get_or q b 0) c))
    ]

pub made_only : {T : Tables} (p : Plan) (fs : List ℕ) (k : ℕ) → Planned T p → passing (is_unheld T) (buffers_of p.more) ≡ new_buffers T k
    → TakesOnly T (made p fs) k
made_only {T} p fs k h e = built_only T p.base fs p.more p.tail k h.still.counts_still e

pub made_held : {T : Tables} (p : Plan) (fs : List ℕ) → Planned T p → NoneFreed T (made p fs)
made_held {T} p fs h b u = built_held p.base fs p.more p.tail b (omega (arith, ap (λ (q : List ℕ). get_or q b 0) h.still.counts_still))

pub new_held : (T : Tables) (p : Plan) (fs : List ℕ) (t : ℕ) → NoneFreed T p.base → NoneFreed T (under_new p fs t)
unfolding under_new
new_held T p fs t h b u = built_held p.base fs p.more p.tail b (h b u)

-- ---- where a chain is hung

-- new buffers are written, and a new chain on them comes under a slip
pub old_stays : (S : State) (xs : List ℕ) (p : Plan) (fs : List ℕ) (s k : ℕ) → Planned S.tables p → Free S.tables fs → s < slip_total S.tables
    → Fit S.tables.stock (buffer_total S.tables) S.storage → passing (is_unheld S.tables) (buffers_of p.more) ≡ new_buffers S.tables k
    → StorageStays S (under_old (with_storage S (stored S.tables.stock S.storage (new_buffers S.tables k) xs)) p fs s) k
old_stays S xs p fs s k h r l f e =
    let T = S.tables in
    let S₁ = with_storage S (stored T.stock S.storage (new_buffers T k) xs) in
    stays_then (made_sizes p fs h) (made_only p fs k h e) (made_held p fs h) (stays_new S (with_tables S₁ (made p fs)) k xs f refl (made_held p fs h))
    (old_keeps S₁ p fs s h r l (new_length S k xs f ∙ f))

-- no buffer is written, and from the tables T₁ a link goes behind own pieces
pub behind_stays : (S : State) (T₁ : Tables) (s m : ℕ) (own : List ℕ) → Sizes S.tables T₁ → TakesOnly S.tables T₁ 0 → NoneFreed S.tables T₁
    → s < slip_total T₁
    → OwnList T₁ (head_of T₁ s) own → SoundWith (m ∷ []) T₁ → Fit S.tables.stock (buffer_total S.tables) S.storage
    → StorageStays S (behind_own (with_tables S T₁) s own m) 0
behind_stays S T₁ s m own z t u l o h f =
    stays_then z t u (stays_as S (with_tables S T₁) 0 refl u) (behind_keeps (with_tables S T₁) s m own l o h (fit_by S.storage z f))
