-- The audit computes exactly document 01's list, and that list is soundness as the operations keep it. Assumes nothing.
use mathlib.Core.Path.{◌≡◌, refl, sym, ap, subst, ◌∙◌}
use mathlib.Core.Logic.{◌↔◌, ◌⊎◌, inl, inr, ⊎_elim}
use mathlib.Core.Bool.{Bool, ◌&&◌}
use mathlib.Core.List.{List, [], ◌∷◌}
use Prim.Native.Nat.{ℕ, zero, suc, ◌+◌, ◌≤◌, ◌<◌, pred}
use native.Mathlib.Nat.{suc_inj}
use native.Mathlib.Decide.{ℕ_discrete, dec_lt}
use native.Mathlib.Omega.{arith}
use lib.ListN.{length, get_or, replicate, get_or-eq_default}
use lib.Dec.{ltb, ltb→lt, lt→ltb, eqb, eqb→eq, leb, leb→le, le→leb}
use Rattle.kinds.specs.Sizes.{size_of}
use Rattle.rules.specs.Basics.{Is, bit, all_to}
use Rattle.rules.specs.Tables.{Piece, Tables, blank, is_blank, piece, buffer_count, head_of, slip_total, piece_total, buffer_total, fresh_tables}
use Rattle.rules.specs.Bytes.{buffers_in, pieces_in, slips_in, decode}
use Rattle.rules.specs.Chain.{follow, walk}
use Rattle.rules.specs.Sound.{Lent, lent, in_use, leads, heads, nexts, lying, link_ok, piece_ok, headed, is_header_ok, NeverBack, SoundTables, Sound}
use Rattle.rules.specs.Sound.{acyclic, sound_tables, sound}
use Rattle.rules.proofs.Logic.{if_T, if_F, if_either, and_intro, and_parts, is_true, is_dec, eq→eqb, not_zero, bit_pos, all_intro, all_at}
use Rattle.rules.proofs.Sums.{sum_to_same, sum_to_zero, sum_to_none, pigeons}
use Rattle.rules.proofs.Moves.{hit, lies, links, Fits, SoundBy, SoundNow, hit_pos, in_range, used_in_range_lem, buffer_pos}
use Rattle.rules.proofs.Rank.{next_pos, head_pos}

-- ---- following next

follow_none : (T : Tables) (k : ℕ) → follow T k 0 ≡ 0
unfolding follow
follow_none T zero = refl
follow_none T (suc k) = refl

-- what has ended stays so
pub follow_more : (T : Tables) (i k n : ℕ) → i ≤ k → follow T i n ≡ 0 → follow T k n ≡ 0
unfolding follow
follow_more T zero k n l e = ap (follow T k) e ∙ follow_none T k
follow_more T (suc i) zero n l e = absurd (omega arith)
follow_more T (suc i) (suc k) zero l e = refl
follow_more T (suc i) (suc k) (suc d) l e = follow_more T i k (piece T d).next (omega arith) e

-- the rank falls along every next
abbrev pub Falls : Tables → (ℕ → ℕ) → Type 0
Falls T rank = (d e : ℕ) → (piece T d).next ≡ suc e → rank e < rank d

module _ (T : Tables) {rank : ℕ → ℕ} (falls : Falls T rank) where
  -- as many follows as the rank come to an end
  pub ends_within : (k n : ℕ) → ((d : ℕ) → n ≡ suc d → rank d < k) → follow T k n ≡ 0
  unfolding follow
  ends_within zero zero b = refl
  ends_within zero (suc d) b = absurd (omega (arith, b d refl))
  ends_within (suc k) zero b = refl
  ends_within (suc k) (suc d) b = ends_within k (piece T d).next (λ e q. omega (arith, falls d e q, b d refl))

  -- each follow lowers the rank
  rank_met : (k n e R : ℕ) → ((d : ℕ) → n ≡ suc d → rank d < R) → follow T k n ≡ suc e → rank e + k < R
  unfolding follow
  rank_met zero n e R b h = omega (arith, b e h)
  rank_met (suc k) zero e R b h = absurd (omega arith)
  rank_met (suc k) (suc d) e R b h = omega (arith, b d refl, rank_met k (piece T d).next e (rank d) (falls d) h)

  comes_back : (k n e : ℕ) → n ≡ suc e → follow T (suc k) n ≡ suc e → ⊥
  comes_back k n e p q = omega (arith, rank_met (suc k) n e (suc (rank e)) (λ d x. omega (arith, ap rank (suc_inj (sym x ∙ p)))) q)

  -- so no piece is met again
  pub met_once : (n e i j : ℕ) → follow T i n ≡ suc e → follow T j n ≡ suc e → i ≡ j
  unfolding follow
  met_once n e zero zero p q = refl
  met_once n e zero (suc j) p q = absurd (comes_back j n e p q)
  met_once n e (suc i) zero p q = absurd (comes_back i n e q p)
  met_once zero e (suc i) (suc j) p q = absurd (omega arith)
  met_once (suc d) e (suc i) (suc j) p q = ap suc (met_once (piece T d).next e i j p q)

-- ---- where following next ends, the length of the walk is a rank

walk_more : (k n : ℕ) (T : Tables) → follow T k n ≡ 0 → walk (suc k) T n ≡ walk k T n
unfolding walk follow
walk_more zero zero T t = refl
walk_more zero (suc d) T t = absurd (omega arith)
walk_more (suc k) zero T t = refl
walk_more (suc k) (suc d) T t = ap {B = List ℕ} (λ r. d ∷ r) (walk_more k (piece T d).next T t)

walk_falls : (P d e : ℕ) (T : Tables) → follow T P (suc d) ≡ 0 → (piece T d).next ≡ suc e → length (walk P T (suc e)) < length (walk P T (suc d))
unfolding walk follow
walk_falls zero d e T t h = absurd (omega arith)
walk_falls (suc k) d e T t h =
    omega (arith, ap length (walk_more k (suc e) T (ap (follow T k) (sym h) ∙ t)), ap (λ n. length (walk k T n)) h)

abbrev steps : Tables → ℕ → ℕ
steps T d = length (walk (piece_total T) T (suc d))

acyclic_falls : (T : Tables) → Is (acyclic T) → Falls T (steps T)
unfolding acyclic
acyclic_falls T t d e h =
    let P = piece_total T in
    let l = in_range T.pieces blank (λ q. q.next) d refl (omega arith) in
    walk_falls P d e T (eqb→eq (follow T P (suc d)) 0 (all_at P (λ d. eqb (follow T P (suc d)) 0) t d l)) h

pub ends_back : (T : Tables) → Is (acyclic T) → NeverBack T
ends_back T t d e i j _ p q = met_once T (acyclic_falls T t) (suc d) e i j p q

-- ---- a piece that passes is all zero or in good use

pub blank_is : (p : Piece) → Is (is_blank p) → p ≡ blank
blank_is p t =
    let (c, t₁) = and_parts (eqb p.count 0) _ t in
    let (b, t₂) = and_parts (eqb p.buffer 0) _ t₁ in
    let (o, t₃) = and_parts (eqb p.offset 0) _ t₂ in
    let (l, n) = and_parts (eqb p.len 0) _ t₃ in
    let ec = eqb→eq p.count 0 c in
    let eb = eqb→eq p.buffer 0 b in
    let eo = eqb→eq p.offset 0 o in
    let el = eqb→eq p.len 0 l in
    let en = eqb→eq p.next 0 n in
    λ i. record { count = ec i; buffer = eb i; offset = eo i; len = el i; next = en i }

-- what a piece in use has to pass
abbrev used_ok : Tables → Piece → Bool
used_ok T p = ltb p.buffer (buffer_total T) && (leb 1 p.len && (leb (p.offset + p.len) (size_of T.stock p.buffer) && link_ok T p.next))

record Used (T : Tables) (p : Piece) : Type 0 where
  used : 0 < p.count
  in_store : p.buffer < buffer_total T
  fit : Fits T.stock p
  onward : Is (link_ok T p.next)

piece_cases : (T : Tables) (p : Piece) → Is (piece_ok T p) → (p ≡ blank) ⊎ Used T p
piece_cases T p t = ⊎_elim (λ x. inl (blank_is p (subst Is (if_T z _ _ x) t))) (λ x. inr (in_use_lem x (subst Is (if_F z _ _ x) t))) (is_dec z)
  where
    z : Bool
    z = eqb p.count 0

    in_use_lem : (Is z → ⊥) → Is (used_ok T p) → Used T p
    in_use_lem x t₀ =
        let (b, t₁) = and_parts (ltb p.buffer (buffer_total T)) _ t₀ in
        let (l, t₂) = and_parts (leb 1 p.len) _ t₁ in
        let (o, n) = and_parts (leb (p.offset + p.len) (size_of T.stock p.buffer)) _ t₂ in
        record {
          used = not_zero p.count x;
          in_store = ltb→lt p.buffer (buffer_total T) b;
          fit = record { some_bytes = leb→le 1 p.len l; inside = leb→le (p.offset + p.len) (size_of T.stock p.buffer) o };
          onward = n;
        }

link_used : (T : Tables) (n d : ℕ) → Is (link_ok T n) → n ≡ suc d → (d < piece_total T) × (0 < (piece T d).count)
link_used T zero d t e = absurd (omega arith)
link_used T (suc x) d t e =
    let (l, u) = and_parts (ltb x (piece_total T)) _ t in
    subst (λ y. (y < piece_total T) × (0 < (piece T y).count)) (suc_inj e) (ltb→lt x (piece_total T) l, ltb→lt 0 (piece T x).count u)

module _ (T : Tables) (ok : (d : ℕ) → d < piece_total T → Is (piece_ok T (piece T d))) where
  shape : (d : ℕ) → (piece T d ≡ blank) ⊎ Used T (piece T d)
  shape d =
      elim (dec_lt d (piece_total T)) [
        | yes h ↦ piece_cases T (piece T d) (ok d h)
        | no h ↦ inl (get_or-eq_default T.pieces blank {n = d} (omega arith))
      ]

  used_at : (d : ℕ) → 0 < (piece T d).count → Used T (piece T d)
  used_at d u = ⊎_elim (λ (x : piece T d ≡ blank). absurd (omega (arith, ap (λ (q : Piece). q.count) x))) (λ x. x) (shape d)

  next_used : (d e : ℕ) → (piece T d).next ≡ suc e → (e < piece_total T) × (0 < (piece T e).count)
  next_used d e h =
      ⊎_elim (λ (x : piece T d ≡ blank). absurd (omega (arith, ap (λ (q : Piece). q.next) x))) (λ (x : Used T (piece T d)). link_used T (piece T d).next e x.onward h) (shape d)

  met_in : (k n e : ℕ) → ((d : ℕ) → n ≡ suc d → d < piece_total T) → follow T k n ≡ suc e → e < piece_total T
  unfolding follow
  met_in zero n e b h = b e h
  met_in (suc k) zero e b h = absurd (omega arith)
  met_in (suc k) (suc d) e b h = met_in k (piece T d).next e (λ x q. (next_used d x q).0) h

  -- where following next does not end within P follows, it meets P + 1 pieces, all below P
  long_back : (d : ℕ) → NeverBack T → d < piece_total T → Is (in_use (piece T d)) → 0 < follow T (piece_total T) (suc d) → ⊥
  long_back d nb l u h =
      let P = piece_total T in
      let at : (i : ℕ) → i < suc P → follow T i (suc d) ≡ suc (pred (follow T i (suc d))) = λ i k.
      elim (ℕ_discrete (follow T i (suc d)) 0) [ yes e ↦ absurd (omega (arith, follow_more T i P (suc d) (omega arith) e)) | no e ↦ omega arith ] in
      omega (
        arith,
        pigeons (suc P) P (λ i. pred (follow T i (suc d)))
            (λ i k. met_in i (suc d) (pred (follow T i (suc d))) (λ e q. subst (λ y. y < P) (suc_inj q) l) (at i k))
            (λ i j k m e. nb d (pred (follow T j (suc d))) i j u (at i k ∙ ap suc e) (at j m)),
      )

  pub back_ends : NeverBack T → Is (acyclic T)
  unfolding acyclic follow
  back_ends nb =
      let P = piece_total T in
      all_intro P (λ d. eqb (follow T P (suc d)) 0) (λ d l. eq→eqb (follow T P (suc d)) 0
      (⊎_elim (λ (x : piece T d ≡ blank). follow_more T 1 P (suc d) (omega arith) (ap (λ (q : Piece). q.next) x))
      (λ (x : Used T (piece T d)).
      elim (ℕ_discrete (follow T P (suc d)) 0) [ yes e ↦ e | no e ↦ absurd (long_back d nb l (lt→ltb 0 (piece T d).count x.used) (omega arith)) ])
      (shape d)))

-- ---- a free piece's next leads nowhere, so the nexts of pieces in use are all nexts

pub nexts_links : (T : Tables) → ((d : ℕ) → (piece T d).count ≡ 0 → piece T d ≡ blank) → (d : ℕ) → nexts T d ≡ links T d
unfolding nexts links
nexts_links T empty d =
    sum_to_same (piece_total T) (λ c. bit (in_use (piece T c) && leads (piece T c).next d)) (λ c. hit (piece T c).next d) (λ c _.
    elim (ℕ_discrete (piece T c).count 0) [
      | yes e ↦ ap (λ (q : Piece). bit (in_use q && leads q.next d)) (empty c e) ∙ ap (λ (q : Piece). hit q.next d) (sym (empty c e))
      | no e ↦ ap (λ (t : Bool). bit (t && leads (piece T c).next d)) (is_true (in_use (piece T c)) (lt→ltb 0 (piece T c).count (omega arith)))
    ])

-- ---- the list holds where the operations' soundness does

link_ok_lem : (T : Tables) (n : ℕ) → ((d : ℕ) → n ≡ suc d → 0 < (piece T d).count) → Is (link_ok T n)
link_ok_lem T zero h = tt
link_ok_lem T (suc d) h = and_intro (ltb d (piece_total T)) _ (lt→ltb d (piece_total T) (used_in_range_lem T d (h d refl))) (lt→ltb 0 (piece T d).count (h d refl))

piece_ok_lem : {rank : ℕ → ℕ} {T : Tables} (d : ℕ) → SoundBy rank [] T → Is (piece_ok T (piece T d))
piece_ok_lem {rank} {T} d S =
    let p = piece T d in
    if_either Is (eqb p.count 0) (is_blank p) (used_ok T p)
    (λ t. subst (λ q. Is (is_blank q)) (sym (S.empty d (eqb→eq p.count 0 t))) tt)
    (λ t. (
    let u = not_zero p.count t in
    let f = S.fits d u in
    and_intro (ltb p.buffer (buffer_total T)) _ (lt→ltb p.buffer (buffer_total T) (in_range T.counts 0 (λ n. n) p.buffer refl (buffer_pos d u S)))
    (and_intro (leb 1 p.len) _ (le→leb 1 p.len f.some_bytes)
    (and_intro (leb (p.offset + p.len) (size_of T.stock p.buffer)) _ (le→leb (p.offset + p.len) (size_of T.stock p.buffer) f.inside) (link_ok_lem T p.next (λ e q. next_pos d e S q))))))

pub now_tables : (T : Tables) → SoundNow T → SoundTables T
now_tables T (rank, S) = record {
  pieces_ok = λ d _. piece_ok_lem d S;
  slips_ok = λ s _. link_ok_lem T (head_of T s) (λ d h. head_pos s d S h);
  piece_counts = λ d _. omega (arith, S.counted d, nexts_links T S.empty d);
  buffer_counts = λ b _. S.lain b;
  never_back = λ d e i j _ p q. met_once T S.falls (suc d) e i j p q;
}

-- ---- and the other way round

lies_pos : (p : Piece) (b : ℕ) → 0 < lies p b → (0 < p.count) × (p.buffer ≡ b)
lies_pos p b h =
    let (u, e) = and_parts (in_use p) _ (bit_pos (in_use p && eqb p.buffer b) h) in
    (ltb→lt 0 p.count u, eqb→eq p.buffer b e)

pub tables_now : (T : Tables) → SoundTables T → SoundNow T
unfolding heads links lying
tables_now T A =
    let P = piece_total T in
    let B = buffer_total T in
    let empty : (d : ℕ) → (piece T d).count ≡ 0 → piece T d ≡ blank = λ d z. ⊎_elim (λ x. x) (λ (x : Used T (piece T d)). absurd (omega (arith, x.used))) (shape T A.pieces_ok d) in
    let no_heads : (d : ℕ) → ¬ (d < P) → heads T d ≡ 0 = λ d h. sum_to_none (slip_total T) (λ s. hit (head_of T s) d) (λ s l k. h (link_used T (head_of T s) d (A.slips_ok s l) (hit_pos (head_of T s) d k)).0) in
    let no-links : (d : ℕ) → ¬ (d < P) → links T d ≡ 0 = λ d h. sum_to_none P (λ c. hit (piece T c).next d) (λ c _ k. h (next_used T A.pieces_ok c d (hit_pos (piece T c).next d k)).0) in
    let no-lying : (b : ℕ) → ¬ (b < B) → lying T b ≡ 0 = λ b h. sum_to_none P (λ c. lies (piece T c) b) (λ c _ k. (let n = lies_pos (piece T c) b k in h (omega (arith, (used_at T A.pieces_ok c n.0).in_store, n.1)))) in (
      steps T,
      record {
        counted = λ d.
            elim (dec_lt d P) [
              | yes h ↦ omega (arith, A.piece_counts d h, nexts_links T empty d)
              | no h ↦ omega (arith, ap (λ (q : Piece). q.count) (get_or-eq_default T.pieces blank {n = d} (omega arith)), no_heads d h, no-links d h)
            ];
        lain = λ b.
            elim (dec_lt b B) [
              | yes h ↦ A.buffer_counts b h
              | no h ↦ get_or-eq_default T.counts 0 {n = b} (omega arith) ∙ sym (no-lying b h)
            ];
        empty = empty;
        fits = λ d u. (used_at T A.pieces_ok d u).fit;
        falls = acyclic_falls T (back_ends T A.pieces_ok A.never_back);
      },
    )

-- ---- the test passes exactly where the list holds

pub tables_is : (T : Tables) → Is (sound_tables T) ↔ SoundTables T
unfolding sound_tables
tables_is T =
    let P = piece_total T in
    let p₁ : ℕ → Bool = λ d. piece_ok T (piece T d) in
    let p₂ : ℕ → Bool = λ s. link_ok T (head_of T s) in
    let p₃ : ℕ → Bool = λ d. eqb (piece T d).count (heads T d + nexts T d) in
    let p₄ : ℕ → Bool = λ b. eqb (buffer_count T b) (lying T b) in (
      λ t. (
          let (t₁, r₁) = and_parts (all_to P p₁) _ t in
          let (t₂, r₂) = and_parts (all_to (slip_total T) p₂) _ r₁ in
          let (t₃, r₃) = and_parts (all_to P p₃) _ r₂ in
          let (t₄, t₅) = and_parts (all_to (buffer_total T) p₄) _ r₃ in
          record {
            pieces_ok = all_at P p₁ t₁;
            slips_ok = all_at (slip_total T) p₂ t₂;
            piece_counts = λ d l. eqb→eq (piece T d).count (heads T d + nexts T d) (all_at P p₃ t₃ d l);
            buffer_counts = λ b l. eqb→eq (buffer_count T b) (lying T b) (all_at (buffer_total T) p₄ t₄ b l);
            never_back = ends_back T t₅;
          }),
      λ A.
          and_intro (all_to P p₁) _ (all_intro P p₁ A.pieces_ok)
          (and_intro (all_to (slip_total T) p₂) _ (all_intro (slip_total T) p₂ A.slips_ok)
          (and_intro (all_to P p₃) _ (all_intro P p₃ (λ d l. eq→eqb (piece T d).count (heads T d + nexts T d) (A.piece_counts d l)))
          (and_intro (all_to (buffer_total T) p₄) _ (all_intro (buffer_total T) p₄ (λ b l. eq→eqb (buffer_count T b) (lying T b) (A.buffer_counts b l)))
          (back_ends T A.pieces_ok A.never_back)))),
    )

pub tables_pass : (T : Tables) → SoundNow T → Is (sound_tables T)
tables_pass T S = (tables_is T).1 (now_tables T S)

pub sound_is : (m : Lent) → Is (sound m) ↔ Sound m
unfolding sound
sound_is m =
    let T = decode m.pool in (
      λ t. (let (h, r) = and_parts (is_header_ok m) _ t in record { header_ok = h; tables_ok = (tables_is T).0 r }),
      λ S. and_intro (is_header_ok m) _ S.header_ok ((tables_is T).1 S.tables_ok),
    )

-- Soundness asks nothing of storage but its length.
pub sound_by_length : (p st st' : List ℕ) → length st ≡ length st' → sound (lent p st) ≡ sound (lent p st')
unfolding sound is_header_ok
sound_by_length p st st' e = ap (λ n. headed p (buffers_in p) (pieces_in p) (slips_in p) n && sound_tables (decode p)) e

pub sound_now : (m : Lent) → Is (sound m) → SoundNow (decode m.pool)
sound_now m t = tables_now (decode m.pool) ((sound_is m).0 t).tables_ok

-- ---- the tables that open writes

pub get_d_same : {A : Type 0} (n i : ℕ) (a : A) → get_or (replicate n a) i a ≡ a
get_d_same zero i a = refl
get_d_same (suc n) zero a = refl
get_d_same (suc n) (suc i) a = get_d_same n i a

pub fresh_sound : (B P S : ℕ) → SoundNow (fresh_tables B P S)
unfolding heads links lying
fresh_sound B P S =
    let T = fresh_tables B P S in
    let pb : (d : ℕ) → piece T d ≡ blank = λ d. get_d_same P d blank in (
      λ x. 0,
      record {
        counted = λ d. omega (
          arith,
          ap (λ (q : Piece). q.count) (pb d),
          sum_to_zero (slip_total T) (λ s. hit (head_of T s) d) (λ s. ap (λ v. hit (pred v) d) (get_d_same S s 0)),
          sum_to_zero (piece_total T) (λ c. hit (piece T c).next d) (λ c. ap (λ (q : Piece). hit q.next d) (pb c)),
        );
        lain = λ b. get_d_same B b 0 ∙ sym (sum_to_zero (piece_total T) (λ c. lies (piece T c) b) (λ c. ap (λ (q : Piece). lies q b) (pb c)));
        empty = λ d _. pb d;
        fits = λ d h. absurd (omega (arith, ap (λ (q : Piece). q.count) (pb d)));
        falls = λ d e h. absurd (omega (arith, ap (λ (q : Piece). q.next) (pb d)));
      },
    )
