-- The steps that the operations share leave the tables and storage as long as they were. Assumes nothing.
use mathlib.Core.Path.{◌≡◌, refl, ap, ◌∙◌}
use mathlib.Core.Bool.{Bool}
use mathlib.Core.List.{List, [], ◌∷◌}
use Prim.Native.Nat.{ℕ, zero, suc}
use lib.ListN.{length, length-set}
use Rattle.rules.specs.Basics.{last_of, whether◌then◌else◌}
use Rattle.rules.specs.Layout.{storage_length}
use Rattle.rules.specs.Tables.{Piece, Tables, blank, piece, head_of, holding, buffer_total, piece_total, set_slip, set_piece, set_piece_count}
use Rattle.rules.specs.Chain.{State, Stretch, with_tables}
use Rattle.rules.specs.Room.{is_unheld, free_pieces, new_buffers}
use Rattle.rules.specs.Release.{shared, freed, release_in, release, turned, relinked}
use Rattle.rules.specs.Build.{built, Plan, made, made_link, under_new, under_old, under_freed, behind_own, stored}
use Rattle.rules.proofs.Logic.{if_either}
use Rattle.rules.proofs.Build.{Planned, built_kept}
use Rattle.rules.proofs.Room.{new_buffers_in}
use Rattle.rules.proofs.Contents.{stored_length}

-- ---- tables

pub record Sizes (T T' : Tables) : Type 0 where
  pub slips_size : length T'.slips ≡ length T.slips
  pub pieces_size : length T'.pieces ≡ length T.pieces
  pub counts_size : length T'.counts ≡ length T.counts
  pub serials_kept : T'.serials ≡ T.serials
  pub stock_kept : T'.stock ≡ T.stock

pub same_sizes : (T : Tables) → Sizes T T
same_sizes T = record { slips_size = refl; pieces_size = refl; counts_size = refl; serials_kept = refl; stock_kept = refl }

pub then_sizes : {A B C : Tables} → Sizes A B → Sizes B C → Sizes A C
then_sizes s t = record {
  slips_size = t.slips_size ∙ s.slips_size;
  pieces_size = t.pieces_size ∙ s.pieces_size;
  counts_size = t.counts_size ∙ s.counts_size;
  serials_kept = t.serials_kept ∙ s.serials_kept;
  stock_kept = t.stock_kept ∙ s.stock_kept;
}

-- where it may be that nothing changes
pub maybe_sizes : (S X : State) (b : Bool) → Sizes S.tables X.tables → Sizes S.tables (whether b then S else X).tables
maybe_sizes S X b h = if_either (λ (Y : State). Sizes S.tables Y.tables) b S X (λ _. same_sizes S.tables) (λ _. h)

-- the stores

pub slip_set : (T : Tables) (s v : ℕ) → Sizes T (set_slip T s v)
slip_set T s v = record { slips_size = length-set T.slips s v; pieces_size = refl; counts_size = refl; serials_kept = refl; stock_kept = refl }

pub piece_set : (T : Tables) (d : ℕ) (p : Piece) → Sizes T (set_piece T d p)
piece_set T d p = record { slips_size = refl; pieces_size = length-set T.pieces d p; counts_size = refl; serials_kept = refl; stock_kept = refl }

pub both_set : (T : Tables) (d : ℕ) (p : Piece) (b n : ℕ) → Sizes T (set_piece_count T d p b n)
both_set T d p b n = record { slips_size = refl; pieces_size = length-set T.pieces d p; counts_size = length-set T.counts b n; serials_kept = refl; stock_kept = refl }

-- the steps that the operations share

release_in_sizes : (k : ℕ) (S : State) (n : ℕ) → Sizes S.tables (release_in k S n).tables
unfolding release_in
release_in_sizes zero S n = same_sizes S.tables
release_in_sizes (suc k) S zero = same_sizes S.tables
release_in_sizes (suc k) S (suc d) =
    let T = S.tables in
    if_either (λ (X : State). Sizes T X.tables) _ _ _
    (λ _. piece_set T d _)
    (λ _. then_sizes (both_set T d blank (piece T d).buffer _) (release_in_sizes k (freed S d) (piece T d).next))

pub release_sizes : (S : State) (n : ℕ) → Sizes S.tables (release S n).tables
unfolding release
release_sizes S n = release_in_sizes (piece_total S.tables) S n

pub turned_sizes : (S : State) (s v : ℕ) → Sizes S.tables (turned S s v).tables
unfolding turned
turned_sizes S s v = then_sizes (slip_set S.tables s v) (release_sizes (with_tables S (set_slip S.tables s v)) (head_of S.tables s))

pub built_sizes : (T : Tables) (fs : List ℕ) (xs : List Stretch) (tail : ℕ) → Sizes T (built T fs xs tail)
built_sizes T fs xs tail =
    let k = built_kept T fs xs tail in
    record { slips_size = ap length k.slips_kept; pieces_size = k.pieces_size; counts_size = k.counts_size; serials_kept = k.serials_kept; stock_kept = k.stock_kept }

-- a plan that is made
pub made_sizes : {T : Tables} (p : Plan) (fs : List ℕ) → Planned T p → Sizes T (made p fs)
made_sizes p fs h =
    let k = h.still.kept in
    then_sizes (record { slips_size = ap length k.slips_kept; pieces_size = k.pieces_size; counts_size = k.counts_size; serials_kept = k.serials_kept; stock_kept = k.stock_kept })
    (built_sizes p.base fs p.more p.tail)

pub new_sizes : {T : Tables} (p : Plan) (fs : List ℕ) (t : ℕ) → Sizes T p.base → Sizes T (under_new p fs t)
unfolding under_new
new_sizes p fs t h = then_sizes h (then_sizes (built_sizes p.base fs p.more p.tail) (slip_set (made p fs) t _))

pub old_sizes : {T : Tables} (S : State) (p : Plan) (fs : List ℕ) (s : ℕ) → Sizes T p.base → Sizes T (under_old S p fs s).tables
unfolding under_old
old_sizes S p fs s h =
    then_sizes h (then_sizes (built_sizes p.base fs p.more p.tail) (turned_sizes (with_tables S (made p fs)) s (holding (made_link p fs))))

pub freed_sizes : {T : Tables} (S : State) (p : Plan) (s : ℕ) → Sizes T p.base → Sizes T (under_freed S p s).tables
unfolding under_freed
freed_sizes S p s h =
    let E = (turned (with_tables S p.base) s (holding 0)).tables in
    new_sizes (record { base = E; more = p.more; tail = p.tail }) (free_pieces E) s (then_sizes h (turned_sizes (with_tables S p.base) s (holding 0)))

pub behind_sizes : (S : State) (s : ℕ) (own : List ℕ) (n : ℕ) → Sizes S.tables (behind_own S s own n).tables
unfolding behind_own relinked
behind_sizes S s [] n = turned_sizes S s (holding n)
behind_sizes S s (d ∷ ds) n =
    let T = S.tables in
    let l = last_of d ds in
    then_sizes (piece_set T l _) (release_sizes (with_tables S (set_piece T l _)) (piece T l).next)

pub shared_sizes : (T : Tables) (n : ℕ) → Sizes T (shared T n)
shared_sizes T zero = same_sizes T
shared_sizes T (suc d) = piece_set T d _

-- ---- storage: what is written stays inside its buffers

pub new_length : (S : State) (k : ℕ) (xs : List ℕ) → length S.storage ≡ storage_length S.tables.stock (buffer_total S.tables)
    → length (stored S.tables.stock S.storage (new_buffers S.tables k) xs) ≡ length S.storage
new_length S k xs h = let T = S.tables in stored_length T.stock (is_unheld T) 0 (buffer_total T) (new_buffers T k) S.storage xs (new_buffers_in T k) h
