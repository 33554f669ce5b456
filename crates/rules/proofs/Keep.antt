-- keep: soundness is kept, what its slip then holds, and that it is lawful. Assumes nothing.
use mathlib.Core.Path.{◌≡◌, refl, sym, ap, subst, ◌∙◌}
use mathlib.Core.Logic.{◌≢◌, inl}
use mathlib.Core.List.{List, [], ◌∷◌, ◌++◌, append-nil}
use Prim.Native.Nat.{ℕ, zero, suc, ◌+◌, ◌≤◌, ◌<◌, pred, ◌-◌, min}
use native.Mathlib.Omega.{arith}
use lib.ListN.{length, get_or, drop, take, take-append-drop, length-drop}
use lib.Seq.{get_or-set_same, get_or-set_other, take_all}
use lib.Dec.{eqb, leb, leb→le, eqb→eq}
use Rattle.kinds.proofs.Sizes.{size_one}
use Rattle.rules.specs.Basics.{last_of, whether◌then◌else◌}
use Rattle.rules.specs.Tables.{Piece, Tables, blank, piece, head_of, slip_total, buffer_total, set_piece, with_place, slip, set_slip, piece_total}
use Rattle.rules.specs.Chain.{State, Stretch, spans, length_of, stretch, stretches, cut_out, with_tables, reads, chain, own_of, overlaps}
use Rattle.rules.specs.Room.{free_pieces, is_free, is_unheld}
use Rattle.rules.specs.Build.{built, built_link, behind_own}
use Rattle.rules.specs.Rule.{Name, reading, want}
use Rattle.rules.specs.Keep.{kept, kept_own, kept_not_own, shortened, kept_by, keep_after, keep_call}
use Rattle.rules.specs.Takes.{Took}
use Rattle.rules.proofs.Logic.{if_either, if_F, if_both}
use Rattle.rules.proofs.Moves.{SoundBy, SoundWith, SoundNow, used_in_range_lem, by_place, reorder, trim_move, slip_move}
use Rattle.rules.proofs.Rank.{head_pos}
use Rattle.rules.proofs.Build.{OwnTo, OwnList, own_pieces_lem, own_list_still, Good, built_sound, built_kept, behind_sound, own_still}
use Rattle.rules.proofs.Room.{free_pieces_lem, NoneOf, passing_front, passing_none}
use Rattle.rules.proofs.Chain.{spans_good, cut_out_good, good_drop, good_last, built_own}
use Rattle.rules.proofs.Meets.{stop, alike, agree_but, agree_stretches, Same, same_by, same_refl, slip_same, Safe, head_safe, own_apart, built_same, built_meets, built_agree}
use Rattle.rules.proofs.Hang.{Gives, gives_as, gives_from, behind_gives, Run, run_low, own_run_lem, own_short, Ones, ones_used, own_ones, run_still, own_front, stretches_length}
use Rattle.rules.proofs.Contents.{cut_out_contents}
use Rattle.rules.proofs.Overlaps.{overlaps_cut, cut_short, walk_short, own_fewer}
use Rattle.rules.proofs.Codes.{first_named}
use Rattle.rules.proofs.Caused.{found, slip_one, twice_one, none_less, past_is}
use Rattle.rules.proofs.Sizes.{Sizes, behind_sizes, built_sizes, piece_set, same_sizes, then_sizes, maybe_sizes}
use Rattle.rules.proofs.After.{Reading, gives_reading, reads_length, same_reading}
use Rattle.rules.proofs.Takes.{Roomy, buffers_of, cut_out_none, new_pass, nothing_taken, roomy, spans_none, took_held, used_none, drop_none}
use Rattle.rules.proofs.Lawful.{Lawful, Leaving, Taking, Causing, Staying}
use Rattle.rules.proofs.Storage.{Keeps, behind_keeps, keeps_spans, fit_by}
use Rattle.rules.proofs.Stays.{StorageStays, NoneFreed, TakesOnly, built_held, built_only, maybe_stays, behind_stays}

own_last : (j : ℕ) (T : Tables) (n l : ℕ) → OwnTo j T n l → (piece T l).count ≡ 1
own_last zero T n l o = o.1
own_last (suc j) T n l (d, e, c, o) = own_last j T (piece T d).next l o

pub shortened_ok : (T : Tables) (n : ℕ) (own : List ℕ) (xs : List Stretch) → OwnList T n own → Good T.stock (length T.counts) xs → SoundNow T
    → SoundNow (shortened T own xs) × ((shortened T own xs).slips ≡ T.slips) × OwnList (shortened T own xs) n own
unfolding shortened
shortened_ok T n [] xs o g S = (S, refl, tt)
shortened_ok T n (d ∷ ds) [] o g S = (S, refl, o)
shortened_ok T n (d ∷ ds) (x ∷ xs) o g (rank, S) =
    let l = last_of d ds in
    let y = last_of x xs in
    let c = own_last o.0 T n l o.1 in
    let gl = good_last T.stock (length T.counts) x xs g in
    let p : Piece = with_place (piece T l) y.offset y.len in (
      (rank, trim_move l y.offset y.len (omega arith) gl.0 (omega (arith, gl.1, size_one T.stock y.buffer, size_one T.stock (piece T l).buffer)) S),
      refl,
      own_list_still T (set_piece T l p) n (d ∷ ds)
          (by_place T.pieces l p blank (used_in_range_lem T l (omega arith)) (λ q e. (piece T e).count ≡ 1 → (q.count ≡ 1) × (q.next ≡ (piece T e).next)) (λ z. (z, refl)) (λ e _ z. (z, refl))) o,
    )

-- the tables before the hanging, and the link that is hung behind the own pieces
abbrev kept_tables : Tables → List ℕ → List Stretch → List Stretch → Tables
kept_tables T own xs [] = shortened T own xs
kept_tables T own xs (y ∷ ys) = built T (free_pieces T) (y ∷ ys) 0

abbrev kept_link : Tables → List Stretch → ℕ
kept_link T rest = built_link (free_pieces T) rest 0

kept_as : (S : State) (s : ℕ) (own : List ℕ) (xs rest : List Stretch)
    → behind_own (with_tables S (kept_tables S.tables own xs rest)) s own (kept_link S.tables rest) ≡ kept_by S s own xs rest
unfolding kept_by built_link
kept_as S s own xs [] = refl
kept_as S s own xs (y ∷ ys) = refl

-- the entry of s stands, its own pieces are own still, and the link is held
record Ready (T : Tables) (s : ℕ) (own : List ℕ) (xs rest : List Stretch) : Type 0 where
  below : s < slip_total (kept_tables T own xs rest)
  own_list : OwnList (kept_tables T own xs rest) (head_of (kept_tables T own xs rest) s) own
  held : SoundWith (kept_link T rest ∷ []) (kept_tables T own xs rest)

kept_ready : (T : Tables) (s : ℕ) (own : List ℕ) (xs rest : List Stretch) → s < slip_total T → OwnList T (head_of T s) own → Good T.stock (buffer_total T) xs
    → Good T.stock (buffer_total T) rest → SoundNow T → Ready T s own xs rest
unfolding built_link
kept_ready T s own xs [] l o g h f =
    let r = shortened_ok T (head_of T s) own xs o g f in
    record {
      below = subst (λ (q : List ℕ). s < length q) (sym r.1) l;
      own_list = subst (λ (q : List ℕ). OwnList (shortened T own xs) (pred (get_or q s 0)) own) (sym r.1) r.2;
      held = (r.0.0, reorder (λ x. omega arith) r.0.1);
    }
kept_ready T s own xs (y ∷ ys) l o g h f =
    let fs = free_pieces T in
    let T₁ = built T fs (y ∷ ys) 0 in
    let k = (built_kept T fs (y ∷ ys) 0).slips_kept in
    record {
      below = subst (λ (q : List ℕ). s < length q) (sym k) l;
      own_list = subst (λ (q : List ℕ). OwnList T₁ (pred (get_or q s 0)) own) (sym k)
          (own_list_still T T₁ (head_of T s) own (λ d c. built_own T fs (y ∷ ys) 0 (free_pieces_lem T) d c) o);
      held = built_sound T fs (y ∷ ys) 0 (free_pieces_lem T) h (f.0, reorder (λ x. omega arith) f.1);
    }

pub kept_good : (T : Tables) (s n : ℕ) → SoundNow T → Good T.stock (buffer_total T) (kept T s n)
kept_good T s n S = cut_out_good T.stock (buffer_total T) (spans T s) 0 n (spans_good T s S)

keep_ready : (T : Tables) (s n : ℕ) → s < slip_total T → SoundNow T → Ready T s (kept_own T s n) (kept T s n) (kept_not_own T s n)
keep_ready T s n l h =
    let xs = kept T s n in
    let g = kept_good T s n h in
    kept_ready T s (kept_own T s n) xs (kept_not_own T s n) l (own_pieces_lem (length xs) (head_of T s) T) g
    (good_drop T.stock (buffer_total T) (length (kept_own T s n)) xs g) h

pub keep_sound : (s n : ℕ) (S : State) → s < slip_total S.tables → SoundNow S.tables → SoundNow (keep_after s n S).tables
unfolding keep_after
keep_sound s n S l h =
    let T = S.tables in
    let r = keep_ready T s n l h in
    if_either (λ (X : State). SoundNow X.tables) (eqb n (length_of T s)) _ _ (λ _. h)
    (λ _. subst (λ (X : State). SoundNow X.tables) (kept_as S s (kept_own T s n) (kept T s n) (kept_not_own T s n))
    (behind_sound _ s (kept_link T (kept_not_own T s n)) (kept_own T s n) r.below r.own_list r.held))

-- ---- the stretches that stay

pub cut_cons : (y : Stretch) (ys : List Stretch) (n : ℕ) → 1 ≤ y.len
    → cut_out (y ∷ ys) 0 (suc n) ≡ record { buffer = y.buffer; offset = y.offset + 0; len = min (suc n) (y.len - 0) } ∷ cut_out ys 0 (suc n - (y.len - 0))
unfolding cut_out
cut_cons y ys n h = if_F (leb y.len 0) _ _ (λ t. (let q = leb→le y.len 0 t in omega arith))

pub cut_some : (ys : List Stretch) (off n : ℕ) → 0 < length (cut_out ys off n) → 0 < n
unfolding cut_out
cut_some [] off n h = absurd (omega arith)
cut_some (y ∷ ys) off zero h = absurd (omega arith)
cut_some (y ∷ ys) off (suc n) h = omega arith

-- a stretch before another that stays is whole
pub cut_whole : (y : Stretch) (ys : List Stretch) (n : ℕ) → 0 < length (cut_out ys 0 (suc n - (y.len - 0))) → ◌≡◌ {A = Stretch} (record { buffer = y.buffer; offset = y.offset + 0; len = min (suc n) (y.len - 0) }) y
cut_whole y ys n h =
    let l = cut_some ys 0 (suc n - (y.len - 0)) h in
    let o : y.offset + 0 ≡ y.offset = omega arith in
    let z : min (suc n) (y.len - 0) ≡ y.len = omega arith in
    λ i. record { buffer = y.buffer; offset = o i; len = z i }

cut_front : (Z : List ℕ) (B k : ℕ) (ys : List Stretch) (n : ℕ) → Good Z B ys → k < length (cut_out ys 0 n) → take k (cut_out ys 0 n) ≡ take k ys
unfolding cut_out
cut_front Z B zero ys n g h = refl
cut_front Z B (suc k) [] n g h = absurd (omega arith)
cut_front Z B (suc k) (y ∷ ys) zero g h = absurd (omega arith)
cut_front Z B (suc k) (y ∷ ys) (suc n) g h =
    let c = cut_cons y ys n g.1 in
    let l = ap length c in
    let i = cut_front Z B k ys (suc n - (y.len - 0)) g.3 (omega arith) in
    let w = cut_whole y ys n (omega arith) in
    ap (take (suc k)) c ∙ (λ j. w j ∷ i j)

-- The last of the pieces of a run takes the last stretch that stays; the others have theirs.
covers_last : (rank : ℕ → ℕ) (T : Tables) (Z : List ℕ) (B n₀ d m : ℕ) (ds : List ℕ) (x : Stretch) (xs ys : List Stretch) (n : ℕ) → ((a e : ℕ) → (piece T a).next ≡ suc e → rank e < rank a) → last_of d ds < piece_total T
    → Run T n₀ (d ∷ ds) m → Good Z B ys → stretches T (d ∷ ds) ≡ take (suc (length ds)) ys → cut_out ys 0 n ≡ x ∷ xs → length xs ≡ length ds
    → stretches (set_piece T (last_of d ds) (with_place (piece T (last_of d ds)) (last_of x xs).offset (last_of x xs).len)) (d ∷ ds) ≡ x ∷ xs
unfolding stretches
covers_last rank T Z B n₀ d m ds x xs [] n f b r g e c l = absurd (let q = ap length e in omega arith)
covers_last rank T Z B n₀ d m ds x xs (y ∷ ys) zero f b r g e c l = absurd (let q = cut_some (y ∷ ys) 0 zero (omega (arith, ap length c)) in omega arith)
covers_last rank T Z B n₀ d m [] x [] (y ∷ ys) (suc n) f b r g e c l =
    let p = with_place (piece T d) x.offset x.len in
    let here : piece (set_piece T d p) d ≡ p = get_or-set_same T.pieces d p blank b in
    let cut : Stretch = record { buffer = y.buffer; offset = y.offset + 0; len = min (suc n) (y.len - 0) } in
    let c₂ : cut ∷ cut_out ys 0 (suc n - (y.len - 0)) ≡ x ∷ [] = sym (cut_cons y ys n g.1) ∙ c in
    let first : cut ≡ x = cc in
    let old : stretch (piece T d) ≡ y = cc in
    let same : (piece T d).buffer ≡ x.buffer = ap (λ (z : Stretch). z.buffer) old ∙ ap (λ (z : Stretch). z.buffer) first in
    λ i. record { buffer = (ap (λ (q : Piece). q.buffer) here ∙ same) i; offset = (here i).offset; len = (here i).len } ∷ []
covers_last rank T Z B n₀ d m [] x (x₂ ∷ xs) (y ∷ ys) (suc n) f b r g e c l = absurd (omega arith)
covers_last rank T Z B n₀ d m (d₂ ∷ ds) x [] (y ∷ ys) (suc n) f b r g e c l = absurd (omega arith)
covers_last rank T Z B n₀ d m (d₂ ∷ ds) x (x₂ ∷ xs) (y ∷ ys) (suc n) f b r g e c l =
    let more = cut_out ys 0 (suc n - (y.len - 0)) in
    let cut : Stretch = record { buffer = y.buffer; offset = y.offset + 0; len = min (suc n) (y.len - 0) } in
    let c₂ : cut ∷ more ≡ x ∷ x₂ ∷ xs = sym (cut_cons y ys n g.1) ∙ c in
    let first : cut ≡ x = cc in
    let rest : more ≡ x₂ ∷ xs = cc in
    let old : stretch (piece T d) ≡ y = cc in
    let olds : stretches T (d₂ ∷ ds) ≡ take (suc (length ds)) ys = cc in
    let w = cut_whole y ys n (omega (arith, ap length rest)) in
    let e₂ = last_of d₂ ds in
    let q = with_place (piece T e₂) (last_of x₂ xs).offset (last_of x₂ xs).len in
    let ne : d ≢ e₂ = λ z. (let k = ap rank z in omega (arith, f d d₂ r.1.0, run_low rank T (piece T d).next d₂ m ds f r.1)) in
    let here : stretch (piece (set_piece T e₂ q) d) ≡ x = ap stretch (get_or-set_other T.pieces e₂ d q blank ne) ∙ old ∙ sym w ∙ first in
    let i = covers_last rank T Z B (piece T d).next d₂ m ds x₂ xs ys (suc n - (y.len - 0)) f b r.1 g.3 olds rest (omega arith) in
    λ j. here j ∷ i j

-- ---- what keep leaves

-- the last own piece shortened: other slips keep their chains, and every piece its next
shortened_others : (T : Tables) (s u : ℕ) (own : List ℕ) (xs : List Stretch) → s < slip_total T → SoundNow T → OwnList T (head_of T s) own → u ≢ s → Same T (shortened T own xs) (head_of T u)
unfolding shortened
shortened_others T s u [] xs b h o n = same_refl T (head_of T u)
shortened_others T s u (d ∷ ds) [] b h o n = same_refl T (head_of T u)
shortened_others T s u (d ∷ ds) (x ∷ xs) b (rank, h) (j, o) n =
    let e = last_of d ds in
    let p = with_place (piece T e) (last_of x xs).offset (last_of x xs).len in
    let T₀ : Tables = set_slip T s 0 in
    let h₀ : SoundBy rank (head_of T s ∷ []) T₀ = slip_move {fl = []} s 0 b (reorder (λ y. omega arith) h) in
    same_by T (set_piece T e p) (λ l m. agree_but T (set_piece T e p) e l (λ y ne. alike (get_or-set_other T.pieces e y p blank ne))
    (own_apart j (head_of T s) e (head_of T u) l (rank, h₀) (own_still j T T₀ (head_of T s) e (λ y c. (c, refl)) o)
    (subst (λ y. Safe [] T₀ (pred y)) (get_or-set_other T.slips s u 0 0 n) (head_safe [] T₀ u)) (slip_same T s 0 (head_of T u) l m).0))

shortened_nexts : (T : Tables) (n : ℕ) (own : List ℕ) (xs : List Stretch) → OwnList T n own → (d : ℕ) → (piece (shortened T own xs) d).next ≡ (piece T d).next
unfolding shortened
shortened_nexts T n [] xs o d = refl
shortened_nexts T n (y ∷ ys) [] o d = refl
shortened_nexts T n (y ∷ ys) (x ∷ xs) o d =
    let e = last_of y ys in
    by_place T.pieces e (with_place (piece T e) (last_of x xs).offset (last_of x xs).len) blank (used_in_range_lem T e (omega (arith, own_last o.0 T n e o.1)))
    (λ q i. q.next ≡ (piece T i).next) refl (λ i _. refl) d

record Stays (S : State) (s : ℕ) (own : List ℕ) (xs rest : List Stretch) : Type 0 where
  in_range : s < slip_total S.tables
  held : 0 < slip S.tables s
  sound : SoundNow S.tables
  own_list : OwnList S.tables (head_of S.tables s) own
  end : ℕ
  run : Run S.tables (head_of S.tables s) own end
  ones : Ones S.tables own
  good : Good S.tables.stock (buffer_total S.tables) xs
  rest_good : Good S.tables.stock (buffer_total S.tables) rest
  room : length rest ≤ length (free_pieces S.tables)
  all_own : length rest ≡ 0 → stretches (shortened S.tables own xs) own ≡ xs
  replaced : 0 < length rest → stretches S.tables own ++ rest ≡ xs

no_more : (T : Tables) (xs : List Stretch) → xs ++ stretches T [] ≡ xs
unfolding stretches
no_more T xs = append-nil xs

kept_gives : (S : State) (s : ℕ) (own : List ℕ) (xs rest : List Stretch) → Stays S s own xs rest
    → Gives S.tables (kept_by S s own xs rest).tables s (own ++ take (length rest) (free_pieces S.tables)) xs
unfolding kept_by
kept_gives S s own xs [] h =
    let T = S.tables in
    let T₁ = shortened T own xs in
    let r = shortened_ok T (head_of T s) own xs h.own_list h.good h.sound in
    let k = r.1 in
    let f = shortened_nexts T (head_of T s) own xs h.own_list in
    let rn = run_still T T₁ (head_of T s) h.end own (λ d _. f d) h.ones h.run in
    let g = behind_gives (with_tables S T₁) s 0 h.end own [] (subst (λ (q : List ℕ). s < length q) (sym k) h.in_range)
    (subst (λ (q : List ℕ). OwnList T₁ (pred (get_or q s 0)) own) (sym k) r.2)
    (subst (λ (q : List ℕ). Run T₁ (pred (get_or q s 0)) own h.end) (sym k) rn)
    (subst (λ (q : List ℕ). 0 < get_or q s 0) (sym k) h.held)
    (r.0.0, reorder (λ x. omega arith) r.0.1) stop in
    gives_from {T = T} (λ u n. ap (λ (q : List ℕ). get_or q u 0) k) (λ u n. shortened_others T s u own xs h.in_range h.sound h.own_list n)
    (gives_as refl (no_more T₁ (stretches T₁ own) ∙ h.all_own refl) g)
kept_gives S s own xs (y ∷ ys) h =
    let T = S.tables in
    let fs = free_pieces T in
    let T₁ = built T fs (y ∷ ys) 0 in
    let k = (built_kept T fs (y ∷ ys) 0).slips_kept in
    let one : (d : ℕ) → (piece T d).count ≡ 1 → ((piece T₁ d).count ≡ 1) × ((piece T₁ d).next ≡ (piece T d).next) = λ d c. built_own T fs (y ∷ ys) 0 (free_pieces_lem T) d c in
    let m = built_meets T fs (y ∷ ys) 0 [] (free_pieces_lem T) h.room tt stop in
    let new = take (length (y ∷ ys)) fs in
    let a = agree_stretches T T₁ own (built_agree T fs (y ∷ ys) 0 own (free_pieces_lem T) (ones_used T own h.ones)) in
    let rn = run_still T T₁ (head_of T s) h.end own (λ d c. (one d c).1) h.ones h.run in
    let g = behind_gives (with_tables S T₁) s (built_link fs (y ∷ ys) 0) h.end own (new ++ []) (subst (λ (q : List ℕ). s < length q) (sym k) h.in_range)
    (subst (λ (q : List ℕ). OwnList T₁ (pred (get_or q s 0)) own) (sym k) (own_list_still T T₁ (head_of T s) own one h.own_list))
    (subst (λ (q : List ℕ). Run T₁ (pred (get_or q s 0)) own h.end) (sym k) rn)
    (subst (λ (q : List ℕ). 0 < get_or q s 0) (sym k) h.held)
    (built_sound T fs (y ∷ ys) 0 (free_pieces_lem T) h.rest_good (h.sound.0, reorder (λ x. omega arith) h.sound.1)) m.0 in
    gives_from {T = T} (λ u n. ap (λ (q : List ℕ). get_or q u 0) k) (λ u n. built_same T fs (y ∷ ys) 0 (head_of T u) h.sound (free_pieces_lem T) (λ d q. head_pos u d h.sound.1 q))
    (gives_as (ap {B = List ℕ} (λ l. own ++ l) (append-nil new))
    ((λ i. a i ++ (m.1 ∙ no_more T (y ∷ ys)) i) ∙ h.replaced (omega arith)) g)

-- where all that stay are own, the shortened pieces cover them
shortened_covers : (T : Tables) (s : ℕ) (own : List ℕ) (xs ys : List Stretch) (m n : ℕ) → SoundNow T → OwnList T (head_of T s) own → Run T (head_of T s) own m → Good T.stock (buffer_total T) ys
    → stretches T own ≡ take (length own) ys → cut_out ys 0 n ≡ xs → length xs ≡ length own → stretches (shortened T own xs) own ≡ xs
unfolding shortened stretches
shortened_covers T s [] [] ys m n h i r g f c l = refl
shortened_covers T s [] (x ∷ xs) ys m n h i r g f c l = absurd (omega arith)
shortened_covers T s (d ∷ ds) [] ys m n h i r g f c l = absurd (omega arith)
shortened_covers T s (d ∷ ds) (x ∷ xs) ys m n (rank, h) i r g f c l = covers_last rank T T.stock (buffer_total T) (head_of T s) d m ds x xs ys n h.falls (used_in_range_lem T (last_of d ds) (omega (arith, own_last i.0 T (head_of T s) (last_of d ds) i.1))) r g f c (omega arith)

-- keep of a part of the chain
pub keep_gives : (s n : ℕ) (S : State) → s < slip_total S.tables → 0 < slip S.tables s → SoundNow S.tables → length (kept_not_own S.tables s n) ≤ length (free_pieces S.tables)
    → Gives S.tables (kept_by S s (kept_own S.tables s n) (kept S.tables s n) (kept_not_own S.tables s n)).tables s
    (kept_own S.tables s n ++ take (length (kept_not_own S.tables s n)) (free_pieces S.tables)) (kept S.tables s n)
keep_gives s n S b z h r =
    let T = S.tables in
    let xs = kept T s n in
    let own = kept_own T s n in
    let g = kept_good T s n h in
    let run = own_run_lem (length xs) (head_of T s) T in
    let short = own_short (length xs) (head_of T s) T in
    let ol = own_pieces_lem (length xs) (head_of T s) T in
    let front = own_front T s (length xs) h in
    let ld = length-drop (length own) xs in
    kept_gives S s own xs (kept_not_own T s n) (record {
      in_range = b;
      held = z;
      sound = h;
      own_list = ol;
      end = run.0;
      run = run.1;
      ones = own_ones (length xs) (head_of T s) T;
      good = g;
      rest_good = good_drop T.stock (buffer_total T) (length own) xs g;
      room = r;
      all_own = λ e. shortened_covers T s own xs (spans T s) run.0 n h ol run.1 (spans_good T s h) front refl (omega arith);
      replaced = λ l. ap {B = List Stretch} (λ ys. ys ++ drop (length own) xs) (front ∙ sym (cut_front T.stock (buffer_total T) (length own) (spans T s) n (spans_good T s h) (omega arith))) ∙ take-append-drop (length own) xs;
    })

-- ---- keep is lawful

shortened_sizes : (T : Tables) (own : List ℕ) (xs : List Stretch) → Sizes T (shortened T own xs)
unfolding shortened
shortened_sizes T [] xs = same_sizes T
shortened_sizes T (d ∷ ds) [] = same_sizes T
shortened_sizes T (d ∷ ds) (x ∷ xs) = piece_set T (last_of d ds) _

tables_sizes : (T : Tables) (own : List ℕ) (xs rest : List Stretch) → Sizes T (kept_tables T own xs rest)
tables_sizes T own xs [] = shortened_sizes T own xs
tables_sizes T own xs (y ∷ ys) = built_sizes T (free_pieces T) (y ∷ ys) 0

kept_sizes : (S : State) (s : ℕ) (own : List ℕ) (xs rest : List Stretch) → Sizes S.tables (kept_by S s own xs rest).tables
kept_sizes S s own xs rest =
    let T = S.tables in
    subst (λ (X : State). Sizes T X.tables) (kept_as S s own xs rest)
    (then_sizes (tables_sizes T own xs rest) (behind_sizes (with_tables S (kept_tables T own xs rest)) s own (kept_link T rest)))

-- shortening takes no buffer, and new pieces lie on those of the chain
shortened_only : (T : Tables) (own : List ℕ) (xs : List Stretch) → TakesOnly T (shortened T own xs) 0
unfolding shortened
shortened_only T [] xs b _ u = u
shortened_only T (d ∷ ds) [] b _ u = u
shortened_only T (d ∷ ds) (x ∷ xs) b _ u = u

tables_only : (T : Tables) (own : List ℕ) (xs rest : List Stretch) → NoneOf (is_unheld T) (buffers_of rest) → TakesOnly T (kept_tables T own xs rest) 0
tables_only T own xs [] n = shortened_only T own xs
tables_only T own xs (y ∷ ys) n = built_only T T (free_pieces T) (y ∷ ys) 0 0 refl (passing_none (is_unheld T) (buffers_of (y ∷ ys)) n)

-- and no buffer is set free
shortened_held : (T : Tables) (own : List ℕ) (xs : List Stretch) → NoneFreed T (shortened T own xs)
unfolding shortened
shortened_held T [] xs b u = u
shortened_held T (d ∷ ds) [] b u = u
shortened_held T (d ∷ ds) (x ∷ xs) b u = u

tables_held : (T : Tables) (own : List ℕ) (xs rest : List Stretch) → NoneFreed T (kept_tables T own xs rest)
tables_held T own xs [] = shortened_held T own xs
tables_held T own xs (y ∷ ys) = built_held T (free_pieces T) (y ∷ ys) 0

keep_stays : (x : Name) (n : ℕ) → Staying (keep_call x n)
unfolding keep_after
keep_stays x n S h f a =
    let T = S.tables in
    let s = x.slip in
    let own = kept_own T s n in
    let xs = kept T s n in
    let rest = kept_not_own T s n in
    let r = keep_ready T s n (first_named T x _ a.early).0 h in
    maybe_stays S _ (eqb n (length_of T s)) 0
    (subst (λ (X : State). StorageStays S X 0) (kept_as S s own xs rest)
    (behind_stays S (kept_tables T own xs rest) s (kept_link T rest) own (tables_sizes T own xs rest)
    (tables_only T own xs rest (drop_none (is_unheld T) (length own) xs (cut_out_none (is_unheld T) (spans T s) 0 n (spans_none T s h))))
    (tables_held T own xs rest) r.below r.own_list r.held f))

keep_leaves : (x : Name) (n : ℕ) → Leaving (keep_call x n)
unfolding keep_after
keep_leaves x n S h f al =
    let T = S.tables in
    let s = x.slip in
    let (b, z₀) = first_named T x _ al.early in
    if_either (λ (X : State). SoundNow X.tables → Reading S X (reading s (take n (reads S s)) ∷ [])) (eqb n (length_of T s)) _ _
    (λ e _. same_reading S s (take n (reads S s)) z₀ (take_all n (reads S s) (omega (arith, reads_length S h f s, eqb→eq n (length_of T s) e))))
    (λ ne h'. (
    let own = kept_own T s n in
    let xs = kept T s n in
    let rest = kept_not_own T s n in
    let e = keep_ready T s n b h in
    let z = tables_sizes T own xs rest in
    let k = subst (Keeps (with_tables S (kept_tables T own xs rest))) (kept_as S s own xs rest)
    (behind_keeps _ s (kept_link T rest) own e.below e.own_list e.held (fit_by S.storage z f)) in
    let r : length (kept_not_own T s n) ≤ length (free_pieces T) = omega (arith, al.pieces_room, if_F (eqb n (length_of T s)) 0 (length (kept_not_own T s n)) ne) in
    gives_reading S _ S.storage s _ _ (take n (reads S s)) (keep_gives s n S b z₀ h r) h h' (keeps_spans T.stock z.stock_kept k h') (λ u. refl)
    (cut_out_contents T.stock (buffer_total T) S.storage (spans T s) 0 n f (spans_good T s h))))

keep_takes : (x : Name) (n : ℕ) → Taking (keep_call x n)
unfolding keep_after
keep_takes x n S h a h'' =
    let T = S.tables in
    let s = x.slip in
    let (b, z) = first_named T x _ a.early in
    let k = length (kept_not_own T s n) in
    let own = kept_own T s n in
    if_both (λ (X : State) (j : ℕ). SoundNow X.tables → Roomy T (want 0 j 0) → Took T X.tables (want 0 j 0) s) (eqb n (length_of T s)) _ _ 0 k
    (λ _ _ _. nothing_taken T s h)
    (λ _ h' r. took_held T _ s _ _ h h' (keep_gives s n S b z h (omega (arith, r.1))) z k 0 r
    (passing_front (is_free T) own (take k (free_pieces T)) (used_none T own (ones_used T own (own_ones (length (kept T s n)) (head_of T s) T))) ∙ new_pass (is_free T) (piece_total T) k)
    (passing_none (is_unheld T) (buffers_of (kept T s n)) (cut_out_none (is_unheld T) (spans T s) 0 n (spans_none T s h))))
    h'' (roomy a)

-- how many new pieces keep makes: one for each piece that the n bytes overlap and that is not own
keep_count : (T : Tables) (s n : ℕ) → SoundNow T → length (kept_not_own T s n) ≡ overlaps (spans T s) 0 0 n - length (own_of T s)
keep_count T s n h =
    let P = piece_total T in
    let k = length (kept T s n) in
    let few : k ≤ P = omega (arith, cut_short (spans T s) 0 n, stretches_length T (chain T s), walk_short P (head_of T s) T) in
    omega (
      arith,
      length-drop (length (kept_own T s n)) (kept T s n),
      own_fewer k P (head_of T s) T few,
      overlaps_cut T.stock (buffer_total T) (spans T s) 0 n (spans_good T s h),
    )

keep_caused : (x : Name) (n : ℕ) → Causing (keep_call x n)
unfolding found whether◌then◌else◌
keep_caused x n S h f = record {
  below = omega arith;
  slip = slip_one S.tables x;
  same = twice_one x.slip;
  long = none_less 512;
  range = past_is S h f x.slip n;
  narrow = none_less 0;
  asked = λ z. (λ i. want 0 (whether eqb n (sym (reads_length S h f x.slip) i) then 0 else keep_count S.tables x.slip n h i) 0);
}

pub keep_lawful : (x : Name) (n : ℕ) → Lawful (keep_call x n)
unfolding keep_after
keep_lawful x n = record {
  codes = λ S. omega arith;
  sizes = λ S. (let T = S.tables in maybe_sizes S _ (eqb n (length_of T x.slip)) (kept_sizes S x.slip (kept_own T x.slip n) (kept T x.slip n) (kept_not_own T x.slip n)));
  ages = λ S _. (λ v. absurd v, λ v. v, tt);
  stays = keep_stays x n;
  sound = λ S h a. keep_sound x.slip n S (first_named S.tables x _ a.early).0 h;
  known = λ S _. (inl refl, tt);
  caused = keep_caused x n;
  leaves = keep_leaves x n;
  takes = keep_takes x n;
}
