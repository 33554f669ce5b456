-- The ten marked rows of document 01's morning, its edges, and document 02's full tables and rows of serials: pool B 4, P 6, S 4; data byte i is i mod 251.
use Rattle.std.specs.Prelude.{List, [], ◌∷◌, ◌++◌, map, ℕ, zero, suc, ◌-◌, ◌%◌, length, replicate}
use Rattle.rules.specs.Tables.{Piece, Tables, blank, fresh_tables, with_serials, piece_total}
use Rattle.rules.specs.Bytes.{decode, encode}
use Rattle.rules.specs.Chain.{reads}
use Rattle.rules.specs.Sound.{Lent, lent}
use Rattle.rules.specs.Room.{free_pieces}
use Rattle.rules.specs.Rule.{Name, name}
use Rattle.rules.specs.Step.{Do, Operation, Put, Free, Dup, Cut, Append, Drop, Keep, Pullup, Pack, Length, step, state_in, after_calls, left_by}

-- A row: the call, its answer, the tables and the whole storage after it, and the bytes that a slip then reads.
pub record Row : Type 0 where
  pub call : Operation
  pub code : ℕ
  pub number : ℕ
  pub tables : Tables
  pub storage : List ℕ
  pub slip : ℕ
  pub bytes : List ℕ

-- the data bytes from byte a on, n of them
abbrev pub byte_run : ℕ → ℕ → List ℕ
byte_run a zero = []
byte_run a (suc n) = a % 251 ∷ byte_run (suc a) n

-- a piece, the tables, and a row whose call is done
abbrev pub p : ℕ → ℕ → ℕ → ℕ → ℕ → Piece
p c b o l n = record { count = c; buffer = b; offset = o; len = l; next = n }

abbrev pub state : List ℕ → List ℕ → List Piece → List ℕ → Tables
state s k ps c = record { slips = s; serials = k; pieces = ps; counts = c; stock = 4 ∷ [] }

-- slip s at its first serial
abbrev pub first : ℕ → Name
first s = name s 0

abbrev pub row : Operation → ℕ → Tables → List ℕ → ℕ → List ℕ → Row
row o n T st s xs = record { call = o; code = 0; number = n; tables = T; storage = st; slip = s; bytes = xs }

-- what open 4, 6, 4 leaves over storage of bytes 238
abbrev pub fresh4 : Lent
fresh4 = lent (encode (fresh_tables 4 6 4)) (replicate 2048 238)

-- The storage once put has filled buffers 0 and 1; once pullup has filled buffer 2 and cleaned 0; once pack has filled 0 again and cleaned 1 and 2; and
-- once free has cleaned 0. Buffer 3, which no piece ever lies on, keeps the bytes that it had.
abbrev pub storage1 : List ℕ
storage1 = byte_run 0 600 ++ (replicate 424 0 ++ replicate 1024 238)

abbrev pub storage8 : List ℕ
storage8 = replicate 512 0 ++ (byte_run 512 88 ++ (replicate 424 0 ++ (byte_run 500 20 ++ (replicate 492 0 ++ replicate 512 238))))

abbrev pub storage9 : List ℕ
storage9 = byte_run 500 40 ++ (replicate 1496 0 ++ replicate 512 238)

abbrev pub storage10 : List ℕ
storage10 = replicate 1536 0 ++ replicate 512 238

-- The rows: the call; its number; slips, serials, pieces and counts after it; storage; a slip and its bytes.
abbrev pub rows : List Row
rows =
    row (Put (byte_run 0 600)) 0 (state (2 ∷ 0 ∷ 0 ∷ 0 ∷ []) (0 ∷ 0 ∷ 0 ∷ 0 ∷ []) (p 1 0 0 512 2 ∷ p 1 1 0 88 0 ∷ blank ∷ blank ∷ blank ∷ blank ∷ []) (1 ∷ 1 ∷ 0 ∷ 0 ∷ []))
    storage1 0 (byte_run 0 600)
    ∷ row (Cut (first 0) 500 50) 1 (state (2 ∷ 4 ∷ 0 ∷ 0 ∷ []) (0 ∷ 0 ∷ 0 ∷ 0 ∷ []) (p 1 0 0 512 2 ∷ p 1 1 0 88 0 ∷ p 1 0 500 12 4 ∷ p 1 1 0 38 0 ∷ blank ∷ blank ∷ []) (2 ∷ 2 ∷ 0 ∷ 0 ∷ []))
    storage1 1 (byte_run 500 50)
    ∷ row (Dup (first 0)) 2 (state (2 ∷ 4 ∷ 6 ∷ 0 ∷ []) (0 ∷ 0 ∷ 0 ∷ 0 ∷ []) (p 1 0 0 512 2 ∷ p 2 1 0 88 0 ∷ p 1 0 500 12 4 ∷ p 1 1 0 38 0 ∷ p 1 0 0 512 2 ∷ blank ∷ [])
    (3 ∷ 2 ∷ 0 ∷ 0 ∷ [])) storage1 2 (byte_run 0 600)
    ∷ row (Free (first 0)) 0 (state (0 ∷ 4 ∷ 6 ∷ 0 ∷ []) (1 ∷ 0 ∷ 0 ∷ 0 ∷ []) (blank ∷ p 1 1 0 88 0 ∷ p 1 0 500 12 4 ∷ p 1 1 0 38 0 ∷ p 1 0 0 512 2 ∷ blank ∷ []) (2 ∷ 2 ∷ 0 ∷ 0 ∷ []))
    storage1 0 []
    ∷ row (Drop (first 2) 520) 0 (state (0 ∷ 4 ∷ 3 ∷ 0 ∷ []) (1 ∷ 0 ∷ 0 ∷ 0 ∷ []) (blank ∷ p 1 1 8 80 0 ∷ p 1 0 500 12 4 ∷ p 1 1 0 38 0 ∷ blank ∷ blank ∷ []) (1 ∷ 2 ∷ 0 ∷ 0 ∷ []))
    storage1 2 (byte_run 520 80)
    ∷ row (Append (first 1) (first 2)) 0 (state (0 ∷ 4 ∷ 0 ∷ 0 ∷ []) (1 ∷ 0 ∷ 1 ∷ 0 ∷ []) (blank ∷ p 1 1 8 80 0 ∷ p 1 0 500 12 4 ∷ p 1 1 0 38 2 ∷ blank ∷ blank ∷ []) (1 ∷ 2 ∷ 0 ∷ 0 ∷ []))
    storage1 1 (byte_run 500 50 ++ byte_run 520 80)
    ∷ row (Keep (first 1) 40) 0 (state (0 ∷ 4 ∷ 0 ∷ 0 ∷ []) (1 ∷ 0 ∷ 1 ∷ 0 ∷ []) (blank ∷ blank ∷ p 1 0 500 12 4 ∷ p 1 1 0 28 0 ∷ blank ∷ blank ∷ []) (1 ∷ 1 ∷ 0 ∷ 0 ∷ []))
    storage1 1 (byte_run 500 40)
    ∷ row (Pullup (first 1) 20) 0 (state (0 ∷ 2 ∷ 0 ∷ 0 ∷ []) (1 ∷ 0 ∷ 1 ∷ 0 ∷ []) (p 1 2 0 20 4 ∷ blank ∷ blank ∷ p 1 1 8 20 0 ∷ blank ∷ blank ∷ []) (0 ∷ 1 ∷ 1 ∷ 0 ∷ []))
    storage8 1 (byte_run 500 40)
    ∷ row (Pack (first 1)) 0 (state (0 ∷ 3 ∷ 0 ∷ 0 ∷ []) (1 ∷ 0 ∷ 1 ∷ 0 ∷ []) (blank ∷ p 1 0 0 40 0 ∷ blank ∷ blank ∷ blank ∷ blank ∷ []) (1 ∷ 0 ∷ 0 ∷ 0 ∷ []))
    storage9 1 (249 ∷ 250 ∷ byte_run 0 38)
    ∷ row (Free (first 1)) 0 (with_serials (fresh_tables 4 6 4) (1 ∷ 1 ∷ 1 ∷ 0 ∷ [])) storage10 1 [] ∷ []

-- what the rules give along a list of rows' calls
unfoldable pub given : List Row → Lent → List Row
given [] m = []
given (r ∷ rs) m =
    let a = step (Do r.call) m in
    let m' = left_by a in
    record {
      call = r.call;
      code = a.code;
      number = a.number;
      tables = decode a.pool;
      storage = a.storage;
      slip = r.slip;
      bytes = reads (state_in m') r.slip;
    } ∷ given rs m'

-- An edge: the calls before it in a fresh pool, the call, its answer, and after it the slips
-- and the number of pieces in use.
pub record Edge : Type 0 where
  pub before : List Operation
  pub call : Operation
  pub code : ℕ
  pub number : ℕ
  pub slips : List ℕ
  pub used : ℕ

abbrev pub edge : List Operation → Operation → ℕ → ℕ → List ℕ → ℕ → Edge
edge os o c n s u = record { before = os; call = o; code = c; number = n; slips = s; used = u }

-- the edges, each in a fresh pool
abbrev pub edges : List Edge
edges =
    edge [] (Put (byte_run 0 512)) 0 0 (2 ∷ 0 ∷ 0 ∷ 0 ∷ []) 1
    ∷ edge [] (Put (byte_run 0 513)) 0 0 (2 ∷ 0 ∷ 0 ∷ 0 ∷ []) 2
    ∷ edge [] (Put (byte_run 0 2048)) 0 0 (2 ∷ 0 ∷ 0 ∷ 0 ∷ []) 4
    ∷ edge [] (Put (byte_run 0 2049)) 10 0 (0 ∷ 0 ∷ 0 ∷ 0 ∷ []) 0
    ∷ edge (Put (byte_run 0 600) ∷ []) (Cut (first 0) 600 0) 0 1 (2 ∷ 1 ∷ 0 ∷ 0 ∷ []) 2
    ∷ edge (Put (byte_run 0 600) ∷ []) (Cut (first 0) 601 0) 6 0 (2 ∷ 0 ∷ 0 ∷ 0 ∷ []) 2
    ∷ edge (Put (byte_run 0 10) ∷ []) (Pullup (first 0) 513) 5 0 (2 ∷ 0 ∷ 0 ∷ 0 ∷ []) 1
    ∷ edge (Put (byte_run 0 10) ∷ []) (Append (first 0) (first 0)) 4 0 (2 ∷ 0 ∷ 0 ∷ 0 ∷ []) 1
    ∷ edge [] (Append (first 0) (first 0)) 3 0 (0 ∷ 0 ∷ 0 ∷ 0 ∷ []) 0
    ∷ edge (Put [] ∷ Free (first 0) ∷ []) (Put []) 0 65536 (1 ∷ 0 ∷ 0 ∷ 0 ∷ []) 0
    ∷ edge (Put [] ∷ Free (first 0) ∷ Put [] ∷ []) (Length (first 0)) 3 0 (1 ∷ 0 ∷ 0 ∷ 0 ∷ []) 0
    ∷ edge (Put [] ∷ Free (first 0) ∷ Put [] ∷ []) (Append (name 0 1) (first 0)) 3 0 (1 ∷ 0 ∷ 0 ∷ 0 ∷ []) 0 ∷ []

-- what the rules give for each of a list of edges
unfoldable pub tried : List Edge → Lent → List Edge
tried [] m = []
tried (e ∷ es) m =
    let a = step (Do e.call) (after_calls (map Do e.before) m) in
    let T = decode a.pool in
    edge e.before e.call a.code a.number T.slips (piece_total T - length (free_pieces T)) ∷ tried es m

-- A full table: the calls before it in a fresh pool, the call, its code, and the tables after it.
pub record FullTable : Type 0 where
  pub before : List Operation
  pub call : Operation
  pub code : ℕ
  pub tables : Tables

abbrev pub full_table : List Operation → Operation → ℕ → Tables → FullTable
full_table os o c T = record { before = os; call = o; code = c; tables = T }

-- 600 bytes under slip 0: piece 0 of 512, piece 1 of 88
abbrev pub put600 : Operation
put600 = Put (byte_run 0 600)

-- No piece is free but in the fourth. An own front gives its pieces back and the call is done, with their numbers, lowest first; a shared one gives
-- nothing back; one piece is too few where two are wanted; and at a border, before a shared piece too, none is wanted.
abbrev pub full_tables : List FullTable
full_tables =
    full_table (put600 ∷ Cut (first 0) 500 50 ∷ Cut (first 0) 500 50 ∷ []) (Pullup (first 1) 20) 0
    (state (2 ∷ 4 ∷ 6 ∷ 0 ∷ []) (0 ∷ 0 ∷ 0 ∷ 0 ∷ []) (p 1 0 0 512 2 ∷ p 1 1 0 88 0 ∷ p 1 2 0 20 4 ∷ p 1 1 8 30 0 ∷ p 1 0 500 12 6 ∷ p 1 1 0 38 0 ∷ []) (2 ∷ 3 ∷ 1 ∷ 0 ∷ []))
    ∷ full_table (put600 ∷ Put (byte_run 0 10) ∷ Append (first 0) (first 1) ∷ Dup (first 0) ∷ Drop (name 1 1) 512 ∷ Cut (first 0) 0 600 ∷ Dup (name 1 1) ∷ []) (Pullup (name 1 1) 98) 9
    (state (2 ∷ 3 ∷ 5 ∷ 7 ∷ []) (0 ∷ 1 ∷ 0 ∷ 0 ∷ []) (p 1 0 0 512 2 ∷ p 2 1 0 88 3 ∷ p 2 2 0 10 0 ∷ p 1 0 0 512 5 ∷ p 1 1 0 88 0 ∷ p 1 1 0 88 3 ∷ []) (2 ∷ 3 ∷ 1 ∷ 0 ∷ []))
    ∷ full_table (put600 ∷ Cut (first 0) 500 50 ∷ Dup (first 1) ∷ Dup (first 0) ∷ []) (Pullup (first 1) 20) 9
    (state (2 ∷ 4 ∷ 6 ∷ 7 ∷ []) (0 ∷ 0 ∷ 0 ∷ 0 ∷ []) (p 1 0 0 512 2 ∷ p 2 1 0 88 0 ∷ p 1 0 500 12 4 ∷ p 2 1 0 38 0 ∷ p 1 0 500 12 4 ∷ p 1 0 0 512 2 ∷ []) (4 ∷ 2 ∷ 0 ∷ 0 ∷ []))
    ∷ full_table (put600 ∷ Cut (first 0) 500 50 ∷ Dup (first 1) ∷ []) (Pullup (first 1) 20) 0
    (state (2 ∷ 4 ∷ 6 ∷ 0 ∷ []) (0 ∷ 0 ∷ 0 ∷ 0 ∷ []) (p 1 0 0 512 2 ∷ p 1 1 0 88 0 ∷ p 1 2 0 20 6 ∷ p 1 1 0 38 0 ∷ p 1 0 500 12 4 ∷ p 1 1 8 30 0 ∷ []) (2 ∷ 3 ∷ 1 ∷ 0 ∷ []))
    ∷ full_table (put600 ∷ Dup (first 0) ∷ Cut (first 0) 0 600 ∷ Dup (first 2) ∷ []) (Drop (first 0) 520) 0
    (state (2 ∷ 4 ∷ 5 ∷ 7 ∷ []) (0 ∷ 0 ∷ 0 ∷ 0 ∷ []) (p 1 1 8 80 0 ∷ p 1 1 0 88 0 ∷ p 1 0 0 512 2 ∷ p 1 0 0 512 5 ∷ p 2 1 0 88 0 ∷ p 1 0 0 512 5 ∷ []) (3 ∷ 3 ∷ 0 ∷ 0 ∷ []))
    ∷ full_table (put600 ∷ Dup (first 0) ∷ Drop (first 1) 512 ∷ Cut (first 0) 0 600 ∷ Cut (first 0) 0 600 ∷ []) (Drop (first 1) 8) 9
    (state (2 ∷ 3 ∷ 4 ∷ 6 ∷ []) (0 ∷ 0 ∷ 0 ∷ 0 ∷ []) (p 1 0 0 512 2 ∷ p 2 1 0 88 0 ∷ p 1 0 0 512 4 ∷ p 1 1 0 88 0 ∷ p 1 0 0 512 6 ∷ p 1 1 0 88 0 ∷ []) (3 ∷ 3 ∷ 0 ∷ 0 ∷ []))
    ∷ full_table (put600 ∷ Dup (first 0) ∷ Cut (first 0) 0 600 ∷ Dup (first 2) ∷ []) (Drop (first 0) 512) 0
    (state (3 ∷ 4 ∷ 5 ∷ 7 ∷ []) (0 ∷ 0 ∷ 0 ∷ 0 ∷ []) (blank ∷ p 2 1 0 88 0 ∷ p 1 0 0 512 2 ∷ p 1 0 0 512 5 ∷ p 2 1 0 88 0 ∷ p 1 0 0 512 5 ∷ []) (3 ∷ 2 ∷ 0 ∷ 0 ∷ [])) ∷ []

-- what the rules give for each of a list of full tables
unfoldable pub tried_full : List FullTable → Lent → List FullTable
tried_full [] m = []
tried_full (e ∷ es) m =
    let a = step (Do e.call) (after_calls (map Do e.before) m) in
    full_table e.before e.call a.code (decode a.pool) ∷ tried_full es m

-- A row of serials: slips and serials before it, in a pool of one buffer and one piece that is free; the call, its answer, and slips and serials after it.
pub record SerialRow : Type 0 where
  pub slips : List ℕ
  pub serials : List ℕ
  pub call : Operation
  pub code : ℕ
  pub number : ℕ
  pub slips_after : List ℕ
  pub serials_after : List ℕ

abbrev pub serial_row : List ℕ → List ℕ → Operation → ℕ → ℕ → List ℕ → List ℕ → SerialRow
serial_row s k o c n s' k' = record { slips = s; serials = k; call = o; code = c; number = n; slips_after = s'; serials_after = k' }

-- two held slips and two vacant ones near the last serial, the fourth spent
abbrev pub held_two : List ℕ
held_two = 1 ∷ 0 ∷ 1 ∷ 0 ∷ []

abbrev pub near_last : List ℕ
near_last = 65533 ∷ 65534 ∷ 65535 ∷ 65535 ∷ []

-- A new slip skips what is spent and is answered with its serial; a free and an append move one serial, never past the last; a name with another serial, a
-- vacant one and one past the last slip are 3, two names of one slip are 3 before 4, and where all vacant slips are spent none is left.
abbrev pub serial_rows : List SerialRow
serial_rows =
    serial_row held_two near_last (Put []) 0 4294836225 (1 ∷ 1 ∷ 1 ∷ 0 ∷ []) near_last
    ∷ serial_row held_two near_last (Dup (name 2 65535)) 0 4294836225 (1 ∷ 1 ∷ 1 ∷ 0 ∷ []) near_last
    ∷ serial_row held_two near_last (Cut (name 0 65533) 0 0) 0 4294836225 (1 ∷ 1 ∷ 1 ∷ 0 ∷ []) near_last
    ∷ serial_row held_two near_last (Free (name 0 65533)) 0 0 (0 ∷ 0 ∷ 1 ∷ 0 ∷ []) (65534 ∷ 65534 ∷ 65535 ∷ 65535 ∷ [])
    ∷ serial_row held_two near_last (Free (name 2 65535)) 0 0 (1 ∷ 0 ∷ 0 ∷ 0 ∷ []) near_last
    ∷ serial_row held_two near_last (Append (name 2 65535) (name 0 65533)) 0 0 (0 ∷ 0 ∷ 1 ∷ 0 ∷ []) (65534 ∷ 65534 ∷ 65535 ∷ 65535 ∷ [])
    ∷ serial_row held_two near_last (Free (name 0 65532)) 3 0 held_two near_last
    ∷ serial_row held_two near_last (Free (name 1 65534)) 3 0 held_two near_last
    ∷ serial_row held_two near_last (Length (name 4 0)) 3 0 held_two near_last
    ∷ serial_row held_two near_last (Append (name 0 65533) (name 0 65534)) 3 0 held_two near_last
    ∷ serial_row held_two near_last (Append (name 0 65533) (name 0 65533)) 4 0 held_two near_last
    ∷ serial_row (1 ∷ 0 ∷ []) (0 ∷ 65535 ∷ []) (Put []) 8 0 (1 ∷ 0 ∷ []) (0 ∷ 65535 ∷ []) ∷ []

-- what the rules give for each of a list of rows of serials
unfoldable pub tried_serials : List SerialRow → List SerialRow
tried_serials [] = []
tried_serials (r ∷ rs) =
    let T : Tables = record { slips = r.slips; serials = r.serials; pieces = blank ∷ []; counts = 0 ∷ []; stock = 1 ∷ [] } in
    let a = step (Do r.call) (lent (encode T) (replicate 512 238)) in
    let T' = decode a.pool in
    serial_row r.slips r.serials r.call a.code a.number T'.slips T'.serials ∷ tried_serials rs
