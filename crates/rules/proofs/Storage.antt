-- A release cleans every buffer that it sets free, and leaves every byte of the others, and the length of storage. Assumes nothing.
use mathlib.Core.Path.{◌≡◌, refl, sym, ap, ap₂, subst, subst₂, ◌∙◌}
use mathlib.Core.List.{List, [], ◌∷◌, ◌++◌}
use Prim.Native.Nat.{ℕ, zero, suc, ◌+◌, ◌-◌, ◌≤◌, ◌<◌, min, pred}
use native.Mathlib.Decide.{ℕ_discrete}
use native.Mathlib.Omega.{arith}
use lib.ListN.{length, take, drop}
use lib.Seq.{get_or-set_same, get_or-set_other}
use lib.Dec.{eqb, eqb→eq}
use Rattle.kinds.specs.Sizes.{size_of}
use Rattle.rules.specs.Basics.{last_of}
use Rattle.rules.specs.Layout.{storage_length}
use Rattle.rules.specs.Tables.{Tables, blank, piece, buffer_count, head_of, holding, slip_total, piece_total, buffer_total, set_slip}
use Rattle.rules.specs.Chain.{Stretch, State, chain, stretch, stretches, spans, bytes_of, contents, with_tables}
use Rattle.rules.specs.Storage.{cleaned, whole_of, Zeroed}
use Rattle.rules.specs.Release.{freed, release_in, release, turned, relinked}
use Rattle.rules.specs.Build.{Plan, made, made_link, under_old, behind_own}
use Rattle.rules.proofs.Logic.{if_T, if_either, eq→eqb}
use Rattle.rules.proofs.Moves.{SoundBy, SoundWith, SoundNow, in_range, by_place, slip_move, buffer_pos, free_move}
use Rattle.rules.proofs.Release.{held_pos, last_one}
use Rattle.rules.proofs.Build.{Free, Good, Planned, OwnList, plan_built, made_slips, old_sound, tail_sound, with_tail}
use Rattle.rules.proofs.Chain.{AllUsed, chain_used, stretches_good}
use Rattle.rules.proofs.Contents.{Fit, bytes_part, filled_length, filled_other, cleaned_zero}
use Rattle.rules.proofs.Sizes.{Sizes, same_sizes, then_sizes, slip_set, piece_set, both_set, made_sizes}

-- ---- the bytes of a buffer

-- the bytes of buffer b in the storage st, where the buffers lie as in T
abbrev pub held_bytes : Tables → List ℕ → ℕ → List ℕ
held_bytes T st b = bytes_of T.stock st (whole_of T.stock b)

-- a stretch inside its buffer has a part of the buffer's bytes
part_of : (Z st : List ℕ) (x : Stretch) → x.offset + x.len ≤ size_of Z x.buffer
    → bytes_of Z st x ≡ take x.len (drop x.offset (bytes_of Z st (whole_of Z x.buffer)))
part_of Z st x h =
    let o : x.offset ≡ 0 + x.offset = omega arith in
    let m : x.len ≡ min x.len (size_of Z x.buffer - x.offset) = omega arith in
    (λ i. bytes_of Z st (record { buffer = x.buffer; offset = o i; len = m i })) ∙ bytes_part Z st (whole_of Z x.buffer) x.offset x.len

-- where the buffer's bytes stay, so do those of the stretch
part_stays : (Z st st' : List ℕ) (x : Stretch) → x.offset + x.len ≤ size_of Z x.buffer
    → bytes_of Z st' (whole_of Z x.buffer) ≡ bytes_of Z st (whole_of Z x.buffer) → bytes_of Z st' x ≡ bytes_of Z st x
part_stays Z st st' x h e = part_of Z st' x h ∙ ap (λ (q : List ℕ). take x.len (drop x.offset q)) e ∙ sym (part_of Z st x h)

-- ---- what a release keeps

-- From S to S' references are released. No count of a buffer rises, storage stays as long as it was,
-- every byte stays of a buffer that is not set free (it was free, or is held afterwards), and one that is set free is zero.
pub record Keeps (S S' : State) : Type 0 where
  pub sizes : Sizes S.tables S'.tables
  pub as_long : length S'.storage ≡ length S.storage
  pub fell : (b : ℕ) → buffer_count S'.tables b ≤ buffer_count S.tables b
  pub others : (b : ℕ) → b < buffer_total S.tables → (0 < buffer_count S.tables b → 0 < buffer_count S'.tables b)
      → held_bytes S.tables S'.storage b ≡ held_bytes S.tables S.storage b
  pub clean : (b : ℕ) → b < buffer_total S.tables → 0 < buffer_count S.tables b → buffer_count S'.tables b ≡ 0
      → Zeroed S.tables.stock S'.storage b

pub same_keeps : (S : State) → Keeps S S
same_keeps S = record {
  sizes = same_sizes S.tables;
  as_long = refl;
  fell = λ b. omega arith;
  others = λ b _ _. refl;
  clean = λ b _ u z. absurd (omega arith);
}

pub then_keeps : {A B C : State} → Keeps A B → Keeps B C → Keeps A C
then_keeps {A} {B} {C} p q =
    let stays : (b : ℕ) → b < buffer_total A.tables → (0 < buffer_count B.tables b → 0 < buffer_count C.tables b)
    → held_bytes A.tables C.storage b ≡ held_bytes A.tables B.storage b =
    λ b l h. subst (λ (Z : List ℕ). bytes_of Z C.storage (whole_of Z b) ≡ bytes_of Z B.storage (whole_of Z b)) p.sizes.stock_kept
    (q.others b (omega (arith, p.sizes.counts_size)) h) in
    record {
      sizes = then_sizes p.sizes q.sizes;
      as_long = q.as_long ∙ p.as_long;
      fell = λ b. omega (arith, p.fell b, q.fell b);
      others = λ b l h. stays b l (λ u. h (omega (arith, p.fell b))) ∙ p.others b l (λ u. omega (arith, h u, q.fell b));
      clean = λ b l u z. elim (ℕ_discrete (buffer_count B.tables b) 0) [
        | yes e ↦ stays b l (λ w. absurd (omega arith)) ∙ p.clean b l u e
        | no e ↦ subst (λ (Z : List ℕ). Zeroed Z C.storage b) p.sizes.stock_kept (q.clean b (omega (arith, p.sizes.counts_size)) (omega arith) z)
      ];
    }

-- storage has the length that tables of the same sizes ask
pub fit_by : {T T' : Tables} (st : List ℕ) → Sizes T T' → Fit T.stock (buffer_total T) st → Fit T'.stock (buffer_total T') st
fit_by st z f = f ∙ ap₂ storage_length (sym z.stock_kept) (sym z.counts_size)

-- Piece d is freed. This alone looks at what `freed` does to storage.
freed_keeps : {rank : ℕ → ℕ} {fl : List ℕ} (S : State) (d : ℕ) → 0 < (piece S.tables d).count → SoundBy rank fl S.tables
    → Fit S.tables.stock (buffer_total S.tables) S.storage → Keeps S (freed S d)
freed_keeps S d u h f =
    let T = S.tables in
    let Z = T.stock in
    let b = (piece T d).buffer in
    let n = buffer_count T b - 1 in
    let T' = (freed S d).tables in
    let at_b : b < buffer_total T = in_range T.counts 0 (λ n. n) b refl (buffer_pos d u h) in
    let here : buffer_count T' b ≡ n = get_or-set_same T.counts b n 0 at_b in
    let there : (x : ℕ) → (x ≡ b → ⊥) → buffer_count T' x ≡ buffer_count T x = λ x e. get_or-set_other T.counts b x n 0 e in
    record {
      sizes = both_set T d blank b n;
      as_long = if_either (λ (q : List ℕ). length q ≡ length S.storage) (eqb n 0) _ _
          (λ _. filled_length Z (buffer_total T) S.storage b [] f at_b) (λ _. refl);
      fell = by_place T.counts b n 0 at_b (λ n x. n ≤ buffer_count T x) (omega arith) (λ x _. omega arith);
      others = λ x l k. if_either (λ (q : List ℕ). held_bytes T q x ≡ held_bytes T S.storage x) (eqb n 0) _ _
          (λ t. filled_other Z (buffer_total T) S.storage b [] (whole_of Z x) f at_b
          (λ e. omega (arith, here, eqb→eq n 0 t, ap (buffer_count T') e, k (omega (arith, ap (buffer_count T) e, buffer_pos d u h)))) l (omega arith))
          (λ _. refl);
      clean = λ x l w z. elim (ℕ_discrete x b) [
        | yes e ↦
            subst (Zeroed Z (freed S d).storage) (sym e)
            (subst (λ (q : List ℕ). Zeroed Z q b)
            (sym (if_T (eqb n 0) (cleaned Z S.storage b) S.storage (eq→eqb n 0 (sym here ∙ ap (buffer_count T') (sym e) ∙ z))))
            (cleaned_zero Z (buffer_total T) S.storage b f at_b))
        | no e ↦ absurd (omega (arith, there x e))
      ];
    }

-- ---- the releases

release_in_keeps : (k n : ℕ) {rank : ℕ → ℕ} {fl : List ℕ} (S : State) → SoundBy rank (n ∷ fl) S.tables
    → Fit S.tables.stock (buffer_total S.tables) S.storage → Keeps S (release_in k S n)
unfolding release_in
release_in_keeps zero n S h f = same_keeps S
release_in_keeps (suc k) zero S h f = same_keeps S
release_in_keeps (suc k) (suc d) {rank} {fl} S h f =
    let T = S.tables in
    let u = held_pos d h in
    let p = freed_keeps S d u h f in
    if_either (Keeps S) _ _ _
    (λ _. record { sizes = piece_set T d _; as_long = refl; fell = λ b. omega arith; others = λ b _ _. refl; clean = λ b _ w z. absurd (omega arith) })
    (λ t. then_keeps p (release_in_keeps k (piece T d).next {fl = fl} (freed S d) (free_move d (last_one T d u t) h)
    (p.as_long ∙ fit_by S.storage p.sizes f)))

pub release_keeps : {fl : List ℕ} (S : State) (n : ℕ) → SoundWith (n ∷ fl) S.tables
    → Fit S.tables.stock (buffer_total S.tables) S.storage → Keeps S (release S n)
unfolding release
release_keeps S n h f = release_in_keeps (piece_total S.tables) n S h.1 f

-- a slip takes an entry whose link is held
pub turned_keeps : {fl : List ℕ} (S : State) (s v : ℕ) → s < slip_total S.tables → SoundWith (pred v ∷ fl) S.tables
    → Fit S.tables.stock (buffer_total S.tables) S.storage → Keeps S (turned S s v)
unfolding turned
turned_keeps S s v l h f =
    let T = S.tables in
    let k = release_keeps (with_tables S (set_slip T s v)) (head_of T s) (h.0, slip_move s v l h.1) f in
    record { sizes = then_sizes (slip_set T s v) k.sizes; as_long = k.as_long; fell = k.fell; others = k.others; clean = k.clean }

-- a new chain comes under a slip: from the tables in which it is made
pub old_keeps : {T : Tables} (S : State) (p : Plan) (fs : List ℕ) (s : ℕ) → Planned T p → Free T fs → s < slip_total T
    → Fit T.stock (buffer_total T) S.storage → Keeps (with_tables S (made p fs)) (under_old S p fs s)
unfolding under_old
old_keeps S p fs s h r l f =
    turned_keeps (with_tables S (made p fs)) s (holding (made_link p fs)) (subst (λ (q : List ℕ). s < length q) (sym (made_slips p fs h)) l) (plan_built p fs h r)
    (fit_by S.storage (made_sizes p fs h) f)

-- a held link goes behind the own pieces of a slip
pub behind_keeps : (S : State) (s m : ℕ) (own : List ℕ) → s < slip_total S.tables → OwnList S.tables (head_of S.tables s) own
    → SoundWith (m ∷ []) S.tables → Fit S.tables.stock (buffer_total S.tables) S.storage → Keeps S (behind_own S s own m)
unfolding behind_own relinked
behind_keeps S s m [] l o h f = turned_keeps S s (holding m) l h f
behind_keeps S s m (d ∷ ds) l (j, o) h f =
    let T = S.tables in
    let e = last_of d ds in
    let k = release_keeps (with_tables S (with_tail T e m)) (piece T e).next (tail_sound T s m j e l o h) f in
    record { sizes = then_sizes (piece_set T e _) k.sizes; as_long = k.as_long; fell = k.fell; others = k.others; clean = k.clean }

-- ---- what slips then read

-- no buffer on which the stretches lie is set free
abbrev pub Spared : Tables → Tables → List Stretch → Type 0
Spared T T' [] = Unit {0}
Spared T T' (x ∷ xs) = (0 < buffer_count T x.buffer → 0 < buffer_count T' x.buffer) × Spared T T' xs

pub spared_append : (T T' : Tables) (xs ys : List Stretch) → Spared T T' xs → Spared T T' ys → Spared T T' (xs ++ ys)
spared_append T T' [] ys a b = b
spared_append T T' (x ∷ xs) ys a b = (a.0, spared_append T T' xs ys a.1 b)

-- so their bytes are as before
pub keeps_contents : {S S' : State} (xs : List Stretch) → Keeps S S' → Good S.tables.stock (buffer_total S.tables) xs → Spared S.tables S'.tables xs
    → contents S.tables.stock S'.storage xs ≡ contents S.tables.stock S.storage xs
unfolding contents
keeps_contents [] k g a = refl
keeps_contents {S} {S'} (x ∷ xs) k g a =
    ap₂ ◌++◌ (part_stays S.tables.stock S.storage S'.storage x g.2 (k.others x.buffer g.0 a.0)) (keeps_contents xs k g.3 a.1)

-- the pieces ds are in use afterwards, so their buffers are held
pub spared_used : {rank : ℕ → ℕ} {fl : List ℕ} (T : Tables) {T' : Tables} (ds : List ℕ) → SoundBy rank fl T' → AllUsed T' ds → Spared T T' (stretches T' ds)
unfolding stretches
spared_used T [] h u = tt
spared_used T (d ∷ ds) h u = (λ _. buffer_pos d u.0 h, spared_used T ds h u.1)

pub keeps_stretches : {rank : ℕ → ℕ} {fl : List ℕ} {S S' : State} (ds : List ℕ) → Keeps S S' → SoundBy rank fl S'.tables → AllUsed S'.tables ds
    → contents S.tables.stock S'.storage (stretches S'.tables ds) ≡ contents S.tables.stock S.storage (stretches S'.tables ds)
keeps_stretches {S = S} {S' = S'} ds k h u =
    let xs = stretches S'.tables ds in
    keeps_contents xs k (subst₂ (λ Z n. Good Z n xs) k.sizes.stock_kept k.sizes.counts_size (stretches_good ds h u)) (spared_used S.tables ds h u)

-- every slip's chain reads as it did in the storage before the release; Z is the stock
pub keeps_spans : {S S' : State} (Z : List ℕ) → S.tables.stock ≡ Z → Keeps S S' → SoundNow S'.tables → (u : ℕ)
    → contents Z S'.storage (spans S'.tables u) ≡ contents Z S.storage (spans S'.tables u)
keeps_spans {S} {S'} Z e k h u =
    let xs = spans S'.tables u in
    subst (λ (Y : List ℕ). contents Y S'.storage xs ≡ contents Y S.storage xs) e
    (keeps_stretches (chain S'.tables u) k h.1 (chain_used S'.tables u h))

pub old_spans : {T : Tables} (S : State) (p : Plan) (fs : List ℕ) (s : ℕ) → Planned T p → Free T fs → s < slip_total T
    → Fit T.stock (buffer_total T) S.storage → (u : ℕ)
    → contents T.stock (under_old S p fs s).storage (spans (under_old S p fs s).tables u)
    ≡ contents T.stock S.storage (spans (under_old S p fs s).tables u)
old_spans {T} S p fs s h r l f = keeps_spans T.stock (made_sizes p fs h).stock_kept (old_keeps S p fs s h r l f) (old_sound S p fs s h r l)
