-- The own pieces of a chain, met one by one. Assumes nothing.
use mathlib.Core.Path.{◌≡◌, refl, sym, ap, subst, ◌∙◌}
use mathlib.Core.Bool.{true, false}
use mathlib.Core.List.{List, [], ◌∷◌, ◌++◌}
use Prim.Native.Nat.{ℕ, zero, suc, ◌+◌, ◌-◌, ◌<◌}
use native.Mathlib.Omega.{arith}
use lib.ListN.{length, drop}
use lib.Seq.{drop_at}
use lib.Dec.{eqb}
use Rattle.rules.specs.Basics.{Is, whether◌then◌else◌, last_of}
use Rattle.rules.specs.Tables.{Tables, piece, piece_total}
use Rattle.rules.specs.Chain.{follow, walk, own_pieces, stretches, total, cut_out}
use Rattle.rules.specs.Sound.{link_ok, SoundTables}
use Rattle.rules.proofs.Logic.{if_either}
use Rattle.rules.proofs.Meets.{meets_one}
use Rattle.rules.proofs.Hang.{Run, run_split, stretches_append, stretches_length}
use Rattle.own.specs.declared.OwnRun.{OwnRun}
use Rattle.own.specs.declared.OwnPart.{OwnPart}
use Rattle.chain.specs.Length.{stretches_from}
use Rattle.own.specs.Own.{single, last_link, own_run, own_part}
use Rattle.chain.proofs.Links.{link_leads, walk_on, walk_less, follow_good, walk_meets, stretches_small}
use Rattle.chain.proofs.Spots.{cut_out_none}
use Rattle.chain.proofs.Parts.{part_first, part_total}

-- the link to the last of the pieces, l where there is none
abbrev pub last_or : ℕ → List ℕ → ℕ
last_or l [] = l
last_or l (d ∷ ds) = suc (last_of d ds)

-- own pieces, the link l to the last of them, and then the pieces ds, from the link n on
abbrev run_of : ℕ → Tables → ℕ → List ℕ → OwnRun
run_of l T n ds = record { last = last_or l ds; next = follow T (length ds) n }

-- own pieces, the link l to the last of them, and then those from the link n on
unfoldable pub own_from : ℕ → Tables → ℕ → OwnRun
own_from l T n = run_of l T n (own_pieces (piece_total T) T n)

-- the last of none, and of one more in front
last_none : (ds : List ℕ) → last_or 0 ds ≡ last_link ds
last_none [] = refl
last_none (d ∷ ds) = refl

last_more : (l d : ℕ) (ds : List ℕ) → last_or l (d ∷ ds) ≡ last_or (suc d) ds
last_more l d [] = refl
last_more l d (x ∷ ds) = refl

-- before any own piece is passed
pub own_start : (n : ℕ) (T : Tables) → own_from 0 T n ≡ own_run T n
unfolding own_from own_run
own_start n T = let own = own_pieces (piece_total T) T n in λ i. record { last = last_none own i; next = follow T (length own) n }

-- no piece is own where the first has another count
pub none_own : (k n : ℕ) (T : Tables) → single T n ≡ false → own_pieces k T n ≡ []
unfolding own_pieces whether◌then◌else◌
none_own zero n T e = refl
none_own (suc k) zero T e = refl
none_own (suc k) (suc d) T e = rw e

-- the piece that n leads to is not own
pub own_stop : (l n : ℕ) (T : Tables) → single T n ≡ false → own_from l T n ≡ record { last = l; next = n }
unfolding own_from follow
own_stop l n T e = ap (run_of l T n) (none_own (piece_total T) n T e)

-- only a link to a piece is single
pub single_link : (n : ℕ) (T : Tables) → single T n ≡ true → n ≡ 0 → ⊥
single_link zero T e z = cc
single_link (suc d) T e z = omega arith

-- the count of the piece that n leads to tells
pub single_is : (n v : ℕ) (T : Tables) → (n ≡ 0 → ⊥) → v ≡ (piece T (n - 1)).count → eqb v 1 ≡ single T n
single_is zero v T h e = absurd (h refl)
single_is (suc d) v T h e =
    let b : suc d - 1 ≡ d = omega arith in
    ap (λ (x : ℕ). eqb x 1) (e ∙ ap (λ (x : ℕ). (piece T x).count) b)

-- the own pieces of a list: those before the first of another count
abbrev own_in : Tables → List ℕ → List ℕ
own_in T [] = []
own_in T (d ∷ ds) = whether eqb (piece T d).count 1 then d ∷ own_in T ds else []

-- the own pieces among those allowed are those of the pieces met
own_walk : (k n : ℕ) (T : Tables) → own_pieces k T n ≡ own_in T (walk k T n)
unfolding own_pieces walk
own_walk zero n T = refl
own_walk (suc k) zero T = refl
own_walk (suc k) (suc d) T = ap (λ (ds : List ℕ). whether eqb (piece T d).count 1 then d ∷ ds else []) (own_walk k (piece T d).next T)

-- the piece that n leads to is own, and those after it are, with P allowed from each
own_on : (n : ℕ) (T : Tables) → SoundTables T → Is (link_ok T n) → single T n ≡ true
    → own_pieces (piece_total T) T n ≡ (n - 1) ∷ own_pieces (piece_total T) T (piece T (n - 1)).next
unfolding whether◌then◌else◌
own_on n T S t e =
    let i = single_link n T e in
    rw (own_walk (piece_total T) n T, own_walk (piece_total T) (piece T (n - 1)).next T, walk_on T n S t i, single_is n _ T i refl, e)

-- so one own piece more is passed
run_more : (l n : ℕ) (T : Tables) (ds : List ℕ) → (n ≡ 0 → ⊥) → run_of l T n ((n - 1) ∷ ds) ≡ run_of n T (piece T (n - 1)).next ds
unfolding follow
run_more l zero T ds i = absurd (i refl)
run_more l (suc d) T ds i =
    let b : suc d - 1 ≡ d = omega arith in
    rw b (λ i. record { last = last_more l d ds i; next = follow T (length ds) (piece T d).next })

pub own_more : (l n : ℕ) (T : Tables) → SoundTables T → Is (link_ok T n) → single T n ≡ true → own_from l T n ≡ own_from n T (piece T (n - 1)).next
unfolding own_from
own_more l n T S t e = ap (run_of l T n) (own_on n T S t e) ∙ run_more l n T (own_pieces (piece_total T) T (piece T (n - 1)).next) (single_link n T e)

pub ruleset runs = (own_start, own_stop, own_more, single_link, link_leads, walk_less)

-- ---- the own pieces that the first bytes overlap

-- b bytes of own pieces, the link l to the last of them, and then the pieces ds, from the link n on
abbrev bytes_run : ℕ → ℕ → Tables → ℕ → List ℕ → OwnPart
bytes_run b l T n ds = record { bytes = b + total (stretches T ds); last = last_or l ds; next = follow T (length ds) n }

-- b bytes of own pieces, the link l to the last of them, and then those that the first m bytes from the link n overlap
unfoldable pub own_part_from : ℕ → ℕ → ℕ → Tables → ℕ → OwnPart
own_part_from b l m T n = bytes_run b l T n (own_pieces (length (cut_out (stretches_from T n) 0 m)) T n)

-- before any own piece is passed
pub own_part_start : (m n : ℕ) (T : Tables) → own_part_from 0 0 m T n ≡ own_part T n m
unfolding own_part_from own_part
own_part_start m n T =
    let own = own_pieces (length (cut_out (stretches_from T n) 0 m)) T n in
    let e : 0 + total (stretches T own) ≡ total (stretches T own) = omega arith in
    λ i. record { bytes = e i; last = last_none own i; next = follow T (length own) n }

-- none is left
bytes_none : (b l : ℕ) (T : Tables) (n : ℕ) (ds : List ℕ) → ds ≡ [] → bytes_run b l T n ds ≡ record { bytes = b; last = l; next = n }
unfolding follow stretches total
bytes_none b l T n [] z = let e : b + 0 ≡ b = omega arith in λ i. record { bytes = e i; last = l; next = n }
bytes_none b l T n (d ∷ ds) z = absurd (omega (arith, ap length z))

-- the piece that n leads to is not own, or no more bytes are asked for
pub own_part_stop : (b l m n : ℕ) (T : Tables) → single T n ≡ false → own_part_from b l m T n ≡ record { bytes = b; last = l; next = n }
unfolding own_part_from
own_part_stop b l m n T e = bytes_none b l T n _ (none_own (length (cut_out (stretches_from T n) 0 m)) n T e)

pub own_part_full : (b l m n : ℕ) (T : Tables) → m ≡ 0 → own_part_from b l m T n ≡ record { bytes = b; last = l; next = n }
unfolding own_part_from own_pieces
own_part_full b l m n T e =
    let none : length (cut_out (stretches_from T n) 0 m) ≡ 0 = ap length (ap (cut_out (stretches_from T n) 0) e ∙ cut_out_none (stretches_from T n) 0) in
    bytes_none b l T n _ (ap (λ (k : ℕ). own_pieces k T n) none)

-- one own piece more is passed
bytes_more : (b l d : ℕ) (T : Tables) (ds : List ℕ) → bytes_run b l T (suc d) (d ∷ ds) ≡ bytes_run (b + (piece T d).len) (suc d) T (piece T d).next ds
unfolding follow stretches total
bytes_more b l d T ds =
    let e : b + ((piece T d).len + total (stretches T ds)) ≡ b + (piece T d).len + total (stretches T ds) = omega arith in
    λ i. record { bytes = e i; last = last_more l d ds i; next = follow T (length ds) (piece T d).next }

own_first : (b l k n : ℕ) (T : Tables) → single T n ≡ true
    → bytes_run b l T n (own_pieces (suc k) T n) ≡ bytes_run (b + (piece T (n - 1)).len) n T (piece T (n - 1)).next (own_pieces k T (piece T (n - 1)).next)
unfolding own_pieces whether◌then◌else◌
own_first b l k zero T e = absurd (subst Is (sym e) tt)
own_first b l k (suc d) T e =
    let a : suc d - 1 ≡ d = omega arith in
    rw (a, e) (bytes_more b l d T (own_pieces k T (piece T d).next))

-- the piece that n leads to is own, and bytes are asked for
pub own_part_more : (b l m n : ℕ) (T : Tables) → SoundTables T → Is (link_ok T n) → 0 < m → single T n ≡ true
    → own_part_from b l m T n ≡ own_part_from (b + (piece T (n - 1)).len) n (m - (piece T (n - 1)).len) T (piece T (n - 1)).next
unfolding own_part_from
own_part_more b l m n T S t h e =
    let rest = length (cut_out (stretches_from T (piece T (n - 1)).next) 0 (m - (piece T (n - 1)).len)) in
    ap (λ (k : ℕ). bytes_run b l T n (own_pieces k T n)) (part_first T n m S t (single_link n T e) h) ∙ own_first b l rest n T e

pub ruleset parts = (own_part_start, own_part_stop, own_part_full, single_link, link_leads, stretches_small, part_total)

-- ---- the own pieces in sound tables

-- the link to the last own piece is good
last_good : (k n l : ℕ) (T : Tables) → SoundTables T → Is (link_ok T n) → Is (link_ok T l) → Is (link_ok T (last_or l (own_pieces k T n)))
unfolding own_pieces follow
last_good zero n l T S t u = u
last_good (suc k) zero l T S t u = u
last_good (suc k) (suc d) l T S t u =
    let m = (piece T d).next in
    if_either (λ (ds : List ℕ). Is (link_ok T (last_or l ds))) (eqb (piece T d).count 1) (d ∷ own_pieces k T m) []
    (λ _. subst (λ (x : ℕ). Is (link_ok T x)) (sym (last_more l d (own_pieces k T m))) (last_good k m (suc d) T S (follow_good T 1 (suc d) S t) t))
    (λ _. u)

-- following next from n meets the own pieces, and comes to the link after them
own_follow : (k n : ℕ) (T : Tables) → Run T n (own_pieces k T n) (follow T (length (own_pieces k T n)) n)
unfolding own_pieces follow
own_follow zero n T = refl
own_follow (suc k) zero T = refl
own_follow (suc k) (suc d) T =
    if_either (λ (ds : List ℕ). Run T (suc d) ds (follow T (length ds) (suc d))) (eqb (piece T d).count 1) (d ∷ own_pieces k T (piece T d).next) []
    (λ _. (refl, own_follow k (piece T d).next T)) (λ _. refl)

-- Of the pieces own from the link n: the link to the last of them is good, as the link m after them is, and what is met from m is the rest of what is met from n.
pub record OwnLaws (T : Tables) (n : ℕ) (own : List ℕ) (m : ℕ) : Type 0 where
  pub last_ok : Is (link_ok T (last_link own))
  pub next_ok : Is (link_ok T m)
  pub rest : drop (length own) (stretches T (walk (piece_total T) T n)) ≡ stretches T (walk (piece_total T) T m)

-- they hold of the own pieces from a good link
pub own_laws : (k n : ℕ) (T : Tables) → SoundTables T → Is (link_ok T n) → OwnLaws T n (own_pieces k T n) (follow T (length (own_pieces k T n)) n)
own_laws k n T S t =
    let P = piece_total T in
    let own = own_pieces k T n in
    let m = follow T (length own) n in
    let good = follow_good T (length own) n S t in
    let (l, e, c) = run_split n m own (walk P T n) (own_follow k n T) (walk_meets T n S t) in
    let all : walk P T n ≡ own ++ walk P T m = e ∙ ap (λ (x : List ℕ). own ++ x) (meets_one c (walk_meets T m S good)) in
    record {
      last_ok = subst (λ (x : ℕ). Is (link_ok T x)) (last_none own) (last_good k n 0 T S t tt);
      next_ok = good;
      rest = ap (λ (x : List ℕ). drop (length own) (stretches T x)) all ∙ ap (drop (length own)) (stretches_append T own (walk P T m))
          ∙ drop_at (stretches T own) (stretches T (walk P T m)) (length own) (stretches_length T own);
    }
