-- The ten marked rows, the edges, the full tables and the rows of serials, by computing. Assumes nothing.
use mathlib.Core.Path.{◌≡◌, refl, sym, ap, ◌∙◌}
use mathlib.Core.List.{List, [], ◌∷◌, map}
use Prim.Native.Nat.{ℕ, zero, suc, ◌+◌, ◌-◌, ◌%◌, ◌<◌}
use native.Mathlib.Omega.{arith}
use lib.ListN.{length, get_or, take, replicate}
use Rattle.word.specs.Word.{get16}
use Rattle.kinds.specs.Sizes.{class_of}
use Rattle.rules.specs.Basics.{whether◌then◌else◌, all_to, any_to, places, member}
use Rattle.rules.specs.Tables.{fresh_tables, piece_total}
use Rattle.rules.specs.Bytes.{decode, encode}
use Rattle.rules.specs.Chain.{follow, walk, own_pieces, stretches, total, cut_out, contents, reads}
use Rattle.rules.specs.Sound.{heads, nexts, lying, is_header_ok, acyclic, sound_tables, sound, Lent, lent}
use Rattle.rules.specs.Room.{free_pieces}
use Rattle.rules.specs.Release.{release_in, release, turned, relinked}
use Rattle.rules.specs.Storage.{filled_at}
use Rattle.rules.specs.Build.{built_link, built, under_new, under_old, under_freed, behind_own, laid, stored}
use Rattle.rules.specs.Rule.{Name, name, first_code}
use Rattle.rules.specs.Open.{openable}
use Rattle.rules.specs.Put.{put_after}
use Rattle.rules.specs.Dup.{dup_plan, dup_after}
use Rattle.rules.specs.Cut.{cut_after}
use Rattle.rules.specs.Append.{joined, appended}
use Rattle.rules.specs.Drop.{drop_here, drop_plan, drop_after}
use Rattle.rules.specs.Keep.{shortened, kept_by, keep_after}
use Rattle.rules.specs.Pullup.{pullup_after, pullup_wants}
use Rattle.rules.specs.Pack.{pack_after, pack_wants}
use Rattle.rules.specs.Step.{Put, Free, Dup, Cut, Append, Drop, Keep, Pullup, Pack, Length}
use Rattle.rules.specs.Recount.{reached, references, holders, recounted, leaves}
use Rattle.rules.specs.Demand.{early, wanted, left}
use Rattle.rules.specs.Full.{owned}
use Rattle.rules.specs.Step.{Open, Do, rule, done, perform, step, state_in, left_by, next, after_calls}
use Rattle.rules.specs.Morning.{Row, byte_run, first, rows, fresh4, given, Edge, edge, edges, tried, FullTable, full_table, put600, full_tables, tried_full, serial_rows, tried_serials}

-- unfolding this unfolds every rule
every_rule : Unit {0}
unfolding get16 class_of whether◌then◌else◌ all_to places decode encode follow walk own_pieces stretches total cut_out contents heads nexts lying is_header_ok acyclic sound_tables sound release_in release turned relinked built_link built under_new under_old under_freed behind_own laid filled_at stored first_code put_after dup_plan dup_after cut_after joined appended drop_here drop_plan drop_after shortened kept_by keep_after pullup_after pullup_wants pack_after pack_wants rule done perform step
every_rule = tt

-- fresh4 is what open 4, 6, 4 leaves of any 95 bytes over storage of bytes 238
pub fresh4_open : (q : List ℕ) → length q ≡ 95 → next (Open 4 6 4) (lent q (replicate 2048 238)) ≡ fresh4
unfolding step openable whether◌then◌else◌ class_of
fresh4_open q e = rw e

-- along the calls of the ten rows the rules give every column of the ten rows
pub morning : given rows fresh4 ≡ rows
unfolding every_rule given
morning = refl

-- over zeros the ten calls leave zeros
pub morning_clean : (after_calls (map (λ (r : Row). Do r.call) rows) (lent (encode (fresh_tables 4 6 4)) (replicate 2048 0))).storage ≡ replicate 2048 0
unfolding every_rule
morning_clean = refl

-- the 95 bytes of the pool after row 3
pub used_example : (after_calls (Do (Put (byte_run 0 600)) ∷ Do (Cut (first 0) 500 50) ∷ Do (Dup (first 0)) ∷ []) fresh4).pool
    ≡ 83 ∷ 76 ∷ 80 ∷ 2 ∷ 0 ∷ 4 ∷ 0 ∷ 6 ∷ 0 ∷ 4 ∷ 0
    ∷ 2 ∷ 0 ∷ 0 ∷ 0 ∷ 4 ∷ 0 ∷ 0 ∷ 0 ∷ 6 ∷ 0 ∷ 0 ∷ 0 ∷ 0 ∷ 0 ∷ 0 ∷ 0
    ∷ 1 ∷ 0 ∷ 0 ∷ 0 ∷ 0 ∷ 0 ∷ 0 ∷ 2 ∷ 2 ∷ 0 ∷ 2 ∷ 0 ∷ 1 ∷ 0 ∷ 0 ∷ 0 ∷ 88 ∷ 0 ∷ 0 ∷ 0
    ∷ 1 ∷ 0 ∷ 0 ∷ 0 ∷ 244 ∷ 1 ∷ 12 ∷ 0 ∷ 4 ∷ 0 ∷ 1 ∷ 0 ∷ 1 ∷ 0 ∷ 0 ∷ 0 ∷ 38 ∷ 0 ∷ 0 ∷ 0
    ∷ 1 ∷ 0 ∷ 0 ∷ 0 ∷ 0 ∷ 0 ∷ 0 ∷ 2 ∷ 2 ∷ 0 ∷ 0 ∷ 0 ∷ 0 ∷ 0 ∷ 0 ∷ 0 ∷ 0 ∷ 0 ∷ 0 ∷ 0
    ∷ 3 ∷ 0 ∷ 2 ∷ 0 ∷ 0 ∷ 0 ∷ 0 ∷ 0 ∷ []
unfolding every_rule
used_example = refl

-- the rules give every column of the edges
pub edges_hold : tried edges fresh4 ≡ edges
unfolding every_rule tried
edges_hold = refl

-- the rules give every column of the rows of serials
pub serials_hold : tried_serials serial_rows ≡ serial_rows
unfolding every_rule tried_serials
serials_hold = refl

-- ---- which rows and edges these are

-- the ten calls, in order, and the slip whose bytes each row has
pub ten_rows : (map (λ (r : Row). r.call) rows
    ≡ Put (byte_run 0 600) ∷ Cut (first 0) 500 50 ∷ Dup (first 0) ∷ Free (first 0) ∷ Drop (first 2) 520 ∷ Append (first 1) (first 2) ∷ Keep (first 1) 40 ∷ Pullup (first 1) 20 ∷ Pack (first 1) ∷ Free (first 1) ∷ [])
    × (◌≡◌ {A = List ℕ} (map (λ (r : Row). r.slip) rows) (0 ∷ 1 ∷ 2 ∷ 0 ∷ 2 ∷ 1 ∷ 1 ∷ 1 ∷ 1 ∷ 1 ∷ []))
ten_rows = (refl, refl)

-- the seven full tables: the calls before each, the call, and its code
pub seven_full_tables : (map (λ (e : FullTable). e.before) full_tables
    ≡ (put600 ∷ Cut (first 0) 500 50 ∷ Cut (first 0) 500 50 ∷ []) ∷ (put600 ∷ Put (byte_run 0 10) ∷ Append (first 0) (first 1) ∷ Dup (first 0) ∷ Drop (name 1 1) 512 ∷ Cut (first 0) 0 600 ∷ Dup (name 1 1) ∷ [])
    ∷ (put600 ∷ Cut (first 0) 500 50 ∷ Dup (first 1) ∷ Dup (first 0) ∷ []) ∷ (put600 ∷ Cut (first 0) 500 50 ∷ Dup (first 1) ∷ []) ∷ (put600 ∷ Dup (first 0) ∷ Cut (first 0) 0 600 ∷ Dup (first 2) ∷ [])
    ∷ (put600 ∷ Dup (first 0) ∷ Drop (first 1) 512 ∷ Cut (first 0) 0 600 ∷ Cut (first 0) 0 600 ∷ []) ∷ (put600 ∷ Dup (first 0) ∷ Cut (first 0) 0 600 ∷ Dup (first 2) ∷ []) ∷ [])
    × (map (λ (e : FullTable). e.call) full_tables
    ≡ Pullup (first 1) 20 ∷ Pullup (name 1 1) 98 ∷ Pullup (first 1) 20 ∷ Pullup (first 1) 20 ∷ Drop (first 0) 520 ∷ Drop (first 1) 8 ∷ Drop (first 0) 512 ∷ [])
    × (◌≡◌ {A = List ℕ} (map (λ (e : FullTable). e.code) full_tables) (0 ∷ 9 ∷ 9 ∷ 0 ∷ 0 ∷ 9 ∷ 0 ∷ []))
seven_full_tables = (refl, refl, refl)

-- the twelve edges: the calls before each, and the call
pub twelve_edges : (map (λ (e : Edge). e.before) edges
    ≡ [] ∷ [] ∷ [] ∷ [] ∷ (Put (byte_run 0 600) ∷ []) ∷ (Put (byte_run 0 600) ∷ []) ∷ (Put (byte_run 0 10) ∷ []) ∷ (Put (byte_run 0 10) ∷ []) ∷ []
    ∷ (Put [] ∷ Free (first 0) ∷ []) ∷ (Put [] ∷ Free (first 0) ∷ Put [] ∷ []) ∷ (Put [] ∷ Free (first 0) ∷ Put [] ∷ []) ∷ [])
    × (map (λ (e : Edge). e.call) edges
    ≡ Put (byte_run 0 512) ∷ Put (byte_run 0 513) ∷ Put (byte_run 0 2048) ∷ Put (byte_run 0 2049) ∷ Cut (first 0) 600 0 ∷ Cut (first 0) 601 0 ∷ Pullup (first 0) 513
    ∷ Append (first 0) (first 0) ∷ Append (first 0) (first 0) ∷ Put [] ∷ Length (first 0) ∷ Append (name 0 1) (first 0) ∷ [])
twelve_edges = (refl, refl)

-- data byte i is i mod 251
pub run_at : (a n i : ℕ) → i < n → get_or (byte_run a n) i 0 ≡ (a + i) % 251
run_at a zero i l = absurd (omega arith)
run_at a (suc n) zero l = (let e : a ≡ a + 0 = omega arith in ap (λ k. k % 251) e)
run_at a (suc n) (suc i) l = (let e : suc a + i ≡ a + suc i = omega arith in run_at (suc a) n i (omega arith) ∙ ap (λ k. k % 251) e)

pub run_long : (a n : ℕ) → length (byte_run a n) ≡ n
run_long a zero = refl
run_long a (suc n) = ap suc (run_long (suc a) n)

-- ---- row by row, and edge by edge

-- what the call r gives on the pool that the calls of the rows rs leave
abbrev pub row_after : List Row → Row → Lent → Row
row_after rs r m =
    let a = step (Do r.call) (after_calls (map (λ (q : Row). Do q.call) rs) m) in
    record {
      call = r.call;
      code = a.code;
      number = a.number;
      tables = decode a.pool;
      storage = a.storage;
      slip = r.slip;
      bytes = reads (state_in (left_by a)) r.slip;
    }

given_at : (rs : List Row) (m : Lent) (i : ℕ) (z : Row) → i < length rs → get_or (given rs m) i z ≡ row_after (take i rs) (get_or rs i z) m
unfolding given
given_at [] m i z l = absurd (omega arith)
given_at (r ∷ rs) m zero z l = refl
given_at (r ∷ rs) m (suc i) z l = given_at rs (next (Do r.call) m) i z (omega arith)

-- Row i is what its call gives on the pool that the calls of the rows above it leave.
pub row_at : (i : ℕ) (z : Row) → i < 10 → get_or rows i z ≡ row_after (take i rows) (get_or rows i z) fresh4
row_at i z l = ap (λ (rs : List Row). get_or rs i z) (sym morning) ∙ given_at rows fresh4 i z l

-- what the call of the edge e gives in a fresh pool after the calls before it
abbrev pub edge_after : Edge → Lent → Edge
edge_after e m =
    let a = step (Do e.call) (after_calls (map Do e.before) m) in
    let T = decode a.pool in
    edge e.before e.call a.code a.number T.slips (piece_total T - length (free_pieces T))

tried_at : (es : List Edge) (m : Lent) (i : ℕ) (z : Edge) → i < length es → get_or (tried es m) i z ≡ edge_after (get_or es i z) m
unfolding tried
tried_at [] m i z l = absurd (omega arith)
tried_at (e ∷ es) m zero z l = refl
tried_at (e ∷ es) m (suc i) z l = tried_at es m i z (omega arith)

-- Edge i is what its call gives.
pub edge_at : (i : ℕ) (z : Edge) → i < 12 → get_or edges i z ≡ edge_after (get_or edges i z) fresh4
edge_at i z l = ap (λ (es : List Edge). get_or es i z) (sym edges_hold) ∙ tried_at edges fresh4 i z l

-- the rules give every column of the full tables
pub full_tables_hold : tried_full full_tables fresh4 ≡ full_tables
unfolding every_rule tried_full
full_tables_hold = refl

-- full table e with what its call gives in its columns
abbrev pub full_after : FullTable → Lent → FullTable
full_after e m = let a = step (Do e.call) (after_calls (map Do e.before) m) in full_table e.before e.call a.code (decode a.pool)

full_tried_at : (es : List FullTable) (m : Lent) (i : ℕ) (z : FullTable) → i < length es → get_or (tried_full es m) i z ≡ full_after (get_or es i z) m
unfolding tried_full
full_tried_at [] m i z l = absurd (omega arith)
full_tried_at (e ∷ es) m zero z l = refl
full_tried_at (e ∷ es) m (suc i) z l = full_tried_at es m i z (omega arith)

-- Full table i is what its call gives.
pub full_table_at : (i : ℕ) (z : FullTable) → i < 7 → get_or full_tables i z ≡ full_after (get_or full_tables i z) fresh4
full_table_at i z l = ap (λ (es : List FullTable). get_or es i z) (sym full_tables_hold) ∙ full_tried_at full_tables fresh4 i z l

-- Before each of a list of full tables, whose calls name the slips ss: the first code before room, the pieces that the call wants, those it gives back
-- first, those that the recount leaves, and the own pieces of its slip.
abbrev asked : List Name → List FullTable → List (List ℕ)
asked [] es = []
asked (s ∷ ss) [] = []
asked (s ∷ ss) (e ∷ es) =
    let m = after_calls (map Do e.before) fresh4 in
    let w = wanted (Do e.call) m in
    (early (Do e.call) m ∷ w.pieces ∷ length w.back ∷ (left m).pieces ∷ owned s m ∷ []) ∷ asked ss es

-- so each case of when drop and pullup find no piece, and of when they find one, is met
pub full_tables_ask : asked (first 1 ∷ name 1 1 ∷ first 1 ∷ first 1 ∷ first 0 ∷ first 1 ∷ first 0 ∷ []) full_tables
    ≡ (0 ∷ 1 ∷ 1 ∷ 0 ∷ 2 ∷ []) ∷ (0 ∷ 1 ∷ 0 ∷ 0 ∷ 0 ∷ []) ∷ (0 ∷ 2 ∷ 1 ∷ 0 ∷ 1 ∷ []) ∷ (0 ∷ 2 ∷ 1 ∷ 1 ∷ 1 ∷ [])
    ∷ (0 ∷ 1 ∷ 1 ∷ 0 ∷ 1 ∷ []) ∷ (0 ∷ 1 ∷ 0 ∷ 0 ∷ 0 ∷ []) ∷ (0 ∷ 0 ∷ 1 ∷ 0 ∷ 1 ∷ []) ∷ []
unfolding every_rule any_to member early wanted recounted reached references holders leaves
full_tables_ask = refl
