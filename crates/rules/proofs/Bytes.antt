-- Pool bytes and tables: each settles the other.
use Prim.Native.Nat.{ℕ, zero, suc, ◌+◌, ◌*◌, ◌/◌, ◌%◌, ◌<◌, ◌≤◌, suc-le-suc}
use mathlib.Core.Path.{◌≡◌, refl, sym, ap, ap₂, ◌∙◌}
use mathlib.Core.Logic.{◌≢◌, ◌↔◌}
use mathlib.Core.Bool.{Bool, true, false, ◌&&◌}
use mathlib.Core.List.{List, [], ◌∷◌, ◌++◌, append-nil}
use native.Mathlib.Nat.{le_of_suc-le-suc, zero-lt-suc, mod-eq_of_lt, add_assoc}
use native.Mathlib.Omega.{arith}
use lib.Dec.{eqb, leb, eqb→eq, eqb_refl, leb→le, le→leb}
use lib.ListN.{length, get_or, set, drop, replicate, length-append, drop_of_length-le, length-replicate, replicate-append-replicate}
use lib.Seq.{drop-cons}
use Rattle.word.specs.Word.{get16, bytes16}
use Rattle.word.proofs.Laws.{get16_past as load_past}
pub use Rattle.word.proofs.Laws.{length_bytes16, get16_run}
use Rattle.kinds.specs.Limits.{most_buffers, most_pieces, most_slips}
use Rattle.rules.specs.Basics.{Is, table}
use Rattle.rules.specs.Layout.{mark, version, slip_at, serial_at, piece_at, count_at, pool_length, storage_length, version_at, buffers_at, pieces_at, slips_at, header_length}
use Rattle.rules.specs.Tables.{Piece, Tables, blank, slip, serial, piece, buffer_count, slip_total, piece_total, buffer_total, fresh_tables}
use Rattle.rules.specs.Bytes.{version_in, stock_in, buffers_in, pieces_in, slips_in, serial_of, piece_in, decode, slip_bytes, piece_bytes, encode}
use Rattle.rules.specs.Sound.{Lent, headed, is_header_ok, lent, marked, counts_ok}
use Rattle.rules.proofs.Logic.{and_intro, and_parts, table_is}

-- ---- tests

-- what a test says
pub and_is : (a b : Bool) → Is (a && b) ↔ (Is a × Is b)
and_is true b = (λ h. (tt, h), λ h. h.1)
and_is false b = (λ h. absurd h, λ h. h.0)

pub eqb_is : (m n : ℕ) → Is (eqb m n) ↔ (m ≡ n)
eqb_is m n = (eqb→eq m n, λ e. rw e (eqb_refl n))

pub leb_is : (m n : ℕ) → Is (leb m n) ↔ (m ≤ n)
leb_is m n = (leb→le m n, le→leb m n)

-- ---- tables by index

module _ {A : Type 0} where
  pub length_table : (n : ℕ) (f : ℕ → A) → length (table n f) ≡ n
  length_table zero f = refl
  length_table (suc n) f = ap suc (length_table n (λ i. f (suc i)))

  pub get_d_table : (n : ℕ) (f : ℕ → A) (i : ℕ) (d : A) → i < n → get_or (table n f) i d ≡ f i
  get_d_table zero f i d h = absurd (omega arith)
  get_d_table (suc n) f zero d h = refl
  get_d_table (suc n) f (suc i) d h = get_d_table n (λ j. f (suc j)) i d (le_of_suc-le-suc h)

  -- what holds of the default and of every entry made holds of every entry read
  pub table_all : (P : A → Type 0) (n : ℕ) (f : ℕ → A) (d : A) → P d → ((i : ℕ) → P (f i)) → (i : ℕ) → P (get_or (table n f) i d)
  table_all P zero f d z h i = z
  table_all P (suc n) f d z h zero = h 0
  table_all P (suc n) f d z h (suc i) = table_all P n (λ j. f (suc j)) d z (λ j. h (suc j)) i

  pub table_same : (n : ℕ) (f g : ℕ → A) → ((i : ℕ) → i < n → f i ≡ g i) → table n f ≡ table n g
  table_same zero f g h = refl
  table_same (suc n) f g h = λ j. h 0 (zero-lt-suc n) j ∷ table_same n (λ i. f (suc i)) (λ i. g (suc i)) (λ i b. h (suc i) (suc-le-suc b)) j

  -- g is f but v at i
  pub table_set : (n : ℕ) (f g : ℕ → A) (i : ℕ) (v : A) → g i ≡ v → ((j : ℕ) → j < n → j ≢ i → g j ≡ f j) → table n g ≡ set (table n f) i v
  table_set zero f g i v e h = refl
  table_set (suc n) f g zero v e h =
      λ j. e j ∷ table_same n (λ i. g (suc i)) (λ i. f (suc i)) (λ i b. h (suc i) (suc-le-suc b) (omega arith)) j
  table_set (suc n) f g (suc i) v e h =
      λ j. h 0 (zero-lt-suc n) (omega arith) j ∷ table_set n (λ k. f (suc k)) (λ k. g (suc k)) i v e (λ k b m. h (suc k) (suc-le-suc b) (omega arith)) j

-- ---- words

-- every byte is below 256
abbrev pub AllBytes : List ℕ → Type 0
AllBytes p = (i : ℕ) → get_or p i 0 < 256

-- a number is its two bytes
two_bytes : (v : ℕ) → v < 65536 → v % 256 + v / 256 % 256 * 256 ≡ v
two_bytes v h = omega arith

pub get16_small : (p : List ℕ) (a : ℕ) → AllBytes p → get16 p a < 65536
unfolding get16
get16_small p a byte = let lo = byte a in let hi = byte (a + 1) in omega arith

-- a number past a prefix, at an address that is given
pub get16_past : (p l : List ℕ) (a b : ℕ) → b ≡ length p + a → get16 (p ++ l) b ≡ get16 l a
get16_past p l a b e = ap (get16 (p ++ l)) e ∙ load_past p l a

module _ (p : List ℕ) (byte : AllBytes p) where
  -- the two bytes at a, and what follows
  pub get16_drop : (a : ℕ) → a + 1 < length p → get16 p a % 256 ∷ get16 p a / 256 % 256 ∷ drop (a + 2) p ≡ drop a p
  unfolding get16
  get16_drop a h =
      let lo = byte a in
      let hi = byte (a + 1) in
      let e : (get_or p a 0 + get_or p (a + 1) 0 * 256) % 256 ≡ get_or p a 0 = omega arith in
      let f : (get_or p a 0 + get_or p (a + 1) 0 * 256) / 256 ≡ get_or p (a + 1) 0 = omega arith in
      let g : get_or p (a + 1) 0 % 256 ≡ get_or p (a + 1) 0 = mod-eq_of_lt hi in
      let s : a + 1 ≡ suc a = omega arith in
      let t : a + 2 ≡ suc (suc a) = omega arith in
      rw (e, f, g, s, t, drop-cons p a 0 (omega arith), drop-cons p (suc a) 0 (omega arith))

  -- n numbers from a on, and what follows
  pub run_drop : (n a : ℕ) → a + 2 * n ≤ length p → bytes16 (table n (λ i. get16 p (a + 2 * i))) ++ drop (a + 2 * n) p ≡ drop a p
  run_drop zero a h = let e : a + 2 * 0 ≡ a = omega arith in rw e
  run_drop (suc n) a h =
      let e : (k : ℕ) → a + 2 * suc k ≡ a + 2 + 2 * k = λ k. omega arith in
      let z : a + 2 * 0 ≡ a = omega arith in
      rw (table_same n _ _ (λ i b. ap (get16 p) (e i)), e n, run_drop n (a + 2) (omega arith), z) (get16_drop a (omega arith))

-- ---- slips

-- each entry takes four bytes: past its end ks reads as 0
pub length_slip_bytes : (xs ks : List ℕ) → length (slip_bytes xs ks) ≡ 4 * length xs
length_slip_bytes [] ks = refl
length_slip_bytes (x ∷ xs) [] = let e = length_slip_bytes xs [] in omega arith
length_slip_bytes (x ∷ xs) (k ∷ ks) = let e = length_slip_bytes xs ks in omega arith

-- the state of entry s of a run
pub slip_run : (xs ks l : List ℕ) (s : ℕ) → ((j : ℕ) → get_or xs j 0 < 65536) → s < length xs → get16 (slip_bytes xs ks ++ l) (4 * s) ≡ get_or xs s 0
unfolding get16
slip_run [] ks l s h b = absurd (omega arith)
slip_run (x ∷ xs) [] l zero h b = two_bytes x (h 0)
slip_run (x ∷ xs) (k ∷ ks) l zero h b = two_bytes x (h 0)
slip_run (x ∷ xs) [] l (suc s) h b =
    get16_past (bytes16 (x ∷ 0 ∷ [])) (slip_bytes xs [] ++ l) (4 * s) (4 * suc s) (omega arith) ∙ slip_run xs [] l s (λ j. h (suc j)) (le_of_suc-le-suc b)
slip_run (x ∷ xs) (k ∷ ks) l (suc s) h b =
    get16_past (bytes16 (x ∷ k ∷ [])) (slip_bytes xs ks ++ l) (4 * s) (4 * suc s) (omega arith) ∙ slip_run xs ks l s (λ j. h (suc j)) (le_of_suc-le-suc b)

-- the serial of entry s of a run
pub serial_run : (xs ks l : List ℕ) (s : ℕ) → ((j : ℕ) → get_or ks j 0 < 65536) → s < length xs → get16 (slip_bytes xs ks ++ l) (4 * s + 2) ≡ get_or ks s 0
unfolding get16
serial_run [] ks l s h b = absurd (omega arith)
serial_run (x ∷ xs) [] l zero h b = refl
serial_run (x ∷ xs) (k ∷ ks) l zero h b = two_bytes k (h 0)
serial_run (x ∷ xs) [] l (suc s) h b =
    get16_past (bytes16 (x ∷ 0 ∷ [])) (slip_bytes xs [] ++ l) (4 * s + 2) (4 * suc s + 2) (omega arith) ∙ serial_run xs [] l s h (le_of_suc-le-suc b)
serial_run (x ∷ xs) (k ∷ ks) l (suc s) h b =
    get16_past (bytes16 (x ∷ k ∷ [])) (slip_bytes xs ks ++ l) (4 * s + 2) (4 * suc s + 2) (omega arith) ∙ serial_run xs ks l s (λ j. h (suc j)) (le_of_suc-le-suc b)

-- n entries from a on, and what follows
pub slips_drop : (p : List ℕ) → AllBytes p → (n a : ℕ) → a + 4 * n ≤ length p
    → slip_bytes (table n (λ s. get16 p (a + 4 * s))) (table n (λ s. get16 p (a + 4 * s + 2) % 65536)) ++ drop (a + 4 * n) p ≡ drop a p
slips_drop p byte zero a h = let e : a + 4 * 0 ≡ a = omega arith in rw e
slips_drop p byte (suc n) a h =
    let e : (k : ℕ) → a + 4 * suc k ≡ a + 4 + 4 * k = λ k. omega arith in
    let z : a + 4 * 0 ≡ a = omega arith in
    let m : get16 p (a + 2) % 65536 ≡ get16 p (a + 2) = mod-eq_of_lt (get16_small p (a + 2) byte) in
    rw (
      table_same n _ _ (λ s b. ap (get16 p) (e s)),
      table_same n _ _ (λ s b. ap (λ (k : ℕ). get16 p (k + 2) % 65536) (e s)),
      e n,
      slips_drop p byte n (a + 4) (omega arith),
      z,
      m,
    ) (rw z at (run_drop p byte 2 a (omega arith)))

-- ---- pieces

-- each number fits 16 bits
pub record SmallPiece (x : Piece) : Type 0 where
  pub small_count : x.count < 65536
  pub small_buffer : x.buffer < 65536
  pub small_offset : x.offset < 65536
  pub small_len : x.len < 65536
  pub small_next : x.next < 65536

pub length_piece_bytes : (xs : List Piece) → length (piece_bytes xs) ≡ 10 * length xs
length_piece_bytes [] = refl
length_piece_bytes (x ∷ xs) = let e = length_piece_bytes xs in omega arith

-- a piece past a prefix
pub piece_in_past : (p l : List ℕ) (a b : ℕ) → b ≡ length p + a → piece_in (p ++ l) b ≡ piece_in l a
piece_in_past p l a b e = λ i. record {
  count = get16_past p l a b e i;
  buffer = get16_past p l (a + 2) (b + 2) (omega arith) i;
  offset = get16_past p l (a + 4) (b + 4) (omega arith) i;
  len = get16_past p l (a + 6) (b + 6) (omega arith) i;
  next = get16_past p l (a + 8) (b + 8) (omega arith) i;
}

-- the piece at d of a run
pub piece_in_run : (xs : List Piece) (l : List ℕ) (d : ℕ) → ((j : ℕ) → SmallPiece (get_or xs j blank)) → d < length xs → piece_in (piece_bytes xs ++ l) (10 * d) ≡ get_or xs d blank
unfolding get16
piece_in_run [] l d h b = absurd (omega arith)
piece_in_run (x ∷ xs) l zero h b =
    let s = h 0 in
    λ i. record {
      count = two_bytes x.count s.small_count i;
      buffer = two_bytes x.buffer s.small_buffer i;
      offset = two_bytes x.offset s.small_offset i;
      len = two_bytes x.len s.small_len i;
      next = two_bytes x.next s.small_next i;
    }
piece_in_run (x ∷ xs) l (suc d) h b =
    piece_in_past (piece_bytes (x ∷ [])) (piece_bytes xs ++ l) (10 * d) (10 * suc d) (omega arith) ∙ piece_in_run xs l d (λ j. h (suc j)) (le_of_suc-le-suc b)

-- n pieces from a on, and what follows
pub pieces_drop : (p : List ℕ) → AllBytes p → (n a : ℕ) → a + 10 * n ≤ length p → piece_bytes (table n (λ d. piece_in p (a + 10 * d))) ++ drop (a + 10 * n) p ≡ drop a p
pieces_drop p byte zero a h = let e : a + 10 * 0 ≡ a = omega arith in rw e
pieces_drop p byte (suc n) a h =
    let e : (k : ℕ) → a + 10 * suc k ≡ a + 10 + 10 * k = λ k. omega arith in
    let z : a + 10 * 0 ≡ a = omega arith in
    rw (table_same n _ _ (λ d b. ap (piece_in p) (e d)), e n, pieces_drop p byte n (a + 10) (omega arith), z) (rw z at (run_drop p byte 5 a (omega arith)))

-- ---- the bytes of tables

-- each number of the tables, and each of their lengths, fits 16 bits; each slip has its serial
pub record Sized (T : Tables) : Type 0 where
  pub slips_small : (s : ℕ) → slip T s < 65536
  pub serials_small : (s : ℕ) → serial T s < 65536
  pub serials_fit : length T.serials ≡ slip_total T
  pub pieces_small : (d : ℕ) → SmallPiece (piece T d)
  pub counts_small : (b : ℕ) → buffer_count T b < 65536
  pub few_slips : slip_total T < 65536
  pub few_pieces_lem : piece_total T < 65536
  pub few_buffers_lem : buffer_total T < 65536
  pub stock_is : T.stock ≡ buffer_total T ∷ []

pub encode_length : (T : Tables) → length (encode T) ≡ pool_length (buffer_total T) (piece_total T) (slip_total T)
unfolding encode
encode_length T = simp (length-append, length_bytes16, length_slip_bytes, length_piece_bytes) (omega arith)

-- the bytes of words, of slips and of pieces are below 256
bytes_append : (p l : List ℕ) → AllBytes p → AllBytes l → AllBytes (p ++ l)
bytes_append [] l a b i = b i
bytes_append (x ∷ p) l a b zero = a 0
bytes_append (x ∷ p) l a b (suc i) = bytes_append p l (λ j. a (suc j)) b i

bytes_words : (vs : List ℕ) → AllBytes (bytes16 vs)
bytes_words [] i = omega arith
bytes_words (v ∷ vs) zero = omega arith
bytes_words (v ∷ vs) (suc zero) = omega arith
bytes_words (v ∷ vs) (suc (suc i)) = bytes_words vs i

bytes_slips : (xs ks : List ℕ) → AllBytes (slip_bytes xs ks)
bytes_slips [] ks i = omega arith
bytes_slips (x ∷ xs) [] i = bytes_append (bytes16 (x ∷ 0 ∷ [])) (slip_bytes xs []) (bytes_words (x ∷ 0 ∷ [])) (bytes_slips xs []) i
bytes_slips (x ∷ xs) (k ∷ ks) i = bytes_append (bytes16 (x ∷ k ∷ [])) (slip_bytes xs ks) (bytes_words (x ∷ k ∷ [])) (bytes_slips xs ks) i

bytes_pieces : (xs : List Piece) → AllBytes (piece_bytes xs)
bytes_pieces [] i = omega arith
bytes_pieces (x ∷ xs) i =
    let vs = x.count ∷ x.buffer ∷ x.offset ∷ x.len ∷ x.next ∷ [] in
    bytes_append (bytes16 vs) (piece_bytes xs) (bytes_words vs) (bytes_pieces xs) i

bytes_mark : AllBytes mark
bytes_mark zero = omega arith
bytes_mark (suc zero) = omega arith
bytes_mark (suc (suc zero)) = omega arith
bytes_mark (suc (suc (suc i))) = omega arith

pub encode_bytes : (T : Tables) → AllBytes (encode T)
unfolding encode
encode_bytes T =
    let h = version ∷ buffer_total T ∷ piece_total T ∷ slip_total T ∷ [] in
    let l = piece_bytes T.pieces ++ bytes16 T.counts in
    let s = slip_bytes T.slips T.serials in
    bytes_append mark (bytes16 h ++ (s ++ l)) bytes_mark (bytes_append (bytes16 h) (s ++ l) (bytes_words h)
    (bytes_append s l (bytes_slips T.slips T.serials) (bytes_append (piece_bytes T.pieces) (bytes16 T.counts) (bytes_pieces T.pieces) (bytes_words T.counts))))

-- the header's bytes
head : Tables → List ℕ
head T = mark ++ bytes16 (version ∷ buffer_total T ∷ piece_total T ∷ slip_total T ∷ [])

module _ (T : Tables) (z : Sized T) where
  -- the header's numbers
  pub encode_totals : (version_in (encode T) ≡ version) × (buffers_in (encode T) ≡ buffer_total T) × (pieces_in (encode T) ≡ piece_total T) × (slips_in (encode T) ≡ slip_total T)
  unfolding encode get16
  encode_totals = omega (arith, z.few_buffers_lem, z.few_pieces_lem, z.few_slips)

  slips_back : table (slip_total T) (λ s. get16 (encode T) (slip_at s)) ≡ T.slips
  unfolding encode head
  slips_back = table_is 0 T.slips _ (λ i b. get16_past (head T) _ (4 * i) (slip_at i) (omega arith) ∙ slip_run T.slips T.serials _ i z.slips_small b)

  serials_back : table (slip_total T) (serial_of (encode T)) ≡ T.serials
  unfolding encode head
  serials_back = ap (λ (n : ℕ). table n (serial_of (encode T))) (sym z.serials_fit) ∙ table_is 0 T.serials _ (λ i b.
      let e = get16_past (head T) _ (4 * i + 2) (serial_at i) (omega arith) ∙ serial_run T.slips T.serials _ i z.serials_small (omega (arith, z.serials_fit)) in
      ap (λ (k : ℕ). k % 65536) e ∙ mod-eq_of_lt (z.serials_small i))

  pieces_back : table (piece_total T) (λ d. piece_in (encode T) (piece_at (slip_total T) d)) ≡ T.pieces
  unfolding encode head
  pieces_back = table_is blank T.pieces _ (λ i b.
      let s = length_slip_bytes T.slips T.serials in
      piece_in_past (head T) _ (4 * slip_total T + 10 * i) (piece_at (slip_total T) i) (omega arith)
      ∙ piece_in_past (slip_bytes T.slips T.serials) _ (10 * i) (4 * slip_total T + 10 * i) (omega arith)
      ∙ piece_in_run T.pieces (bytes16 T.counts) i z.pieces_small b)

  counts_back : table (buffer_total T) (λ b. get16 (encode T) (count_at (piece_total T) (slip_total T) b)) ≡ T.counts
  unfolding encode head
  counts_back = table_is 0 T.counts _ (λ i b.
      let s = length_slip_bytes T.slips T.serials in
      let q = length_piece_bytes T.pieces in
      get16_past (head T) _ (4 * slip_total T + 10 * piece_total T + 2 * i) (count_at (piece_total T) (slip_total T) i) (omega arith)
      ∙ get16_past (slip_bytes T.slips T.serials) _ (10 * piece_total T + 2 * i) (4 * slip_total T + 10 * piece_total T + 2 * i) (omega arith)
      ∙ get16_past (piece_bytes T.pieces) _ (2 * i) (10 * piece_total T + 2 * i) (omega arith)
      ∙ ap (λ (l : List ℕ). get16 l (2 * i)) (sym (append-nil (bytes16 T.counts))) ∙ get16_run T.counts [] i z.counts_small b)

  -- the bytes of tables hold those tables
  pub decode_encode : decode (encode T) ≡ T
  unfolding decode
  decode_encode = rw (encode_totals.1, encode_totals.2, encode_totals.3) (λ i. record { slips = slips_back i; serials = serials_back i; pieces = pieces_back i; counts = counts_back i; stock = sym z.stock_is i })

-- ---- the tables of bytes

module _ (p : List ℕ) where
  pub decode_slips : slip_total (decode p) ≡ slips_in p
  unfolding decode
  decode_slips = length_table (slips_in p) _

  pub decode_serials : length (decode p).serials ≡ slips_in p
  unfolding decode
  decode_serials = length_table (slips_in p) _

  pub decode_pieces : piece_total (decode p) ≡ pieces_in p
  unfolding decode
  decode_pieces = length_table (pieces_in p) _

  pub decode_counts : buffer_total (decode p) ≡ buffers_in p
  unfolding decode
  decode_counts = length_table (buffers_in p) _

  -- a serial read is 16 bits, whatever numbers p has for bytes
  pub serial_small : (s : ℕ) → serial (decode p) s < 65536
  unfolding decode
  serial_small = table_all (λ n. n < 65536) (slips_in p) (serial_of p) 0 (omega arith) (λ s. omega arith)

  pub decode_sized : AllBytes p → Sized (decode p)
  unfolding decode
  decode_sized byte =
      let small : (a : ℕ) → get16 p a < 65536 = λ a. get16_small p a byte in
      record {
        slips_small = table_all (λ n. n < 65536) (slips_in p) _ 0 (omega arith) (λ s. small (slip_at s));
        serials_small = serial_small;
        serials_fit = decode_serials ∙ sym decode_slips;
        pieces_small = table_all SmallPiece (pieces_in p) _ blank (omega arith) (λ d. let a = piece_at (slips_in p) d in record {
          small_count = small a;
          small_buffer = small (a + 2);
          small_offset = small (a + 4);
          small_len = small (a + 6);
          small_next = small (a + 8);
        });
        counts_small = table_all (λ n. n < 65536) (buffers_in p) _ 0 (omega arith) (λ b. small (count_at (pieces_in p) (slips_in p) b));
        few_slips = rw decode_slips (small slips_at);
        few_pieces_lem = rw decode_pieces (small pieces_at);
        few_buffers_lem = rw decode_counts (small buffers_at);
        stock_is = ap (λ (n : ℕ). n ∷ []) (sym decode_counts);
      }

-- ---- the header

-- what counts_ok tests
pub record InRange (B P S : ℕ) : Type 0 where
  pub some_buffers : 1 ≤ B
  pub most_buffers_lem : B ≤ most_buffers
  pub some_pieces : 1 ≤ P
  pub most_pieces_lem : P ≤ most_pieces
  pub some_slips : 1 ≤ S
  pub most_slips_lem : S ≤ most_slips

pub counts_facts : (B P S : ℕ) → Is (counts_ok B P S) → InRange B P S
counts_facts B P S h = let k = simp (and_is, leb_is) at h in omega arith

pub counts_test : {B P S : ℕ} → InRange B P S → Is (counts_ok B P S)
counts_test c = simp (and_is, leb_is) (omega arith)

-- what is_header_ok tests
pub record Header (m : Lent) : Type 0 where
  pub is_marked : Is (marked m.pool)
  pub counts : InRange (buffers_in m.pool) (pieces_in m.pool) (slips_in m.pool)
  pub pool_long : length m.pool ≡ pool_length (buffers_in m.pool) (pieces_in m.pool) (slips_in m.pool)
  pub storage_long : length m.storage ≡ storage_length (stock_in m.pool) (buffers_in m.pool)

pub header_facts : (m : Lent) → Is (is_header_ok m) → Header m
unfolding is_header_ok headed
header_facts m h =
    let p = m.pool in
    let (a, r) = and_parts (marked p) _ h in
    let (c, l) = and_parts (counts_ok (buffers_in p) (pieces_in p) (slips_in p)) _ r in
    let k = simp (and_is, eqb_is) at l in
    record { is_marked = a; counts = counts_facts _ _ _ c; pool_long = k.0; storage_long = k.1 }

pub header_test : (m : Lent) → Header m → Is (is_header_ok m)
unfolding is_header_ok headed
header_test m h =
    let p = m.pool in
    and_intro (marked p) _ h.is_marked (and_intro (counts_ok (buffers_in p) (pieces_in p) (slips_in p)) _ (counts_test h.counts) (simp (and_is, eqb_is) (h.pool_long, h.storage_long)))

-- the bytes of tables have a good header
pub encode_header : (T : Tables) (st : List ℕ) → Sized T → InRange (buffer_total T) (piece_total T) (slip_total T)
    → length st ≡ storage_length T.stock (buffer_total T) → Is (is_header_ok (lent (encode T) st))
unfolding encode
encode_header T st z c l =
    let e = encode_totals T z in
    let n = encode_length T in
    let l' : length st ≡ storage_length (stock_in (encode T)) (buffers_in (encode T)) = l ∙ ap₂ storage_length (z.stock_is ∙ ap (λ (k : ℕ). k ∷ []) (sym e.1)) (sym e.1) in
    header_test _ (record { is_marked = simp (and_is, eqb_is) (omega arith); counts = omega arith; pool_long = omega arith; storage_long = omega arith })

front : (p : List ℕ) → 3 ≤ length p → get_or p 0 0 ∷ get_or p 1 0 ∷ get_or p 2 0 ∷ drop 3 p ≡ p
front p h = rw (← drop-cons p 2 0 h, ← drop-cons p 1 0 (omega arith), ← drop-cons p 0 0 (omega arith))

-- marked bytes of a pool's length are the bytes of the tables that they hold
pub encode_decode : (p : List ℕ) → AllBytes p → Is (marked p) → length p ≡ pool_length (buffers_in p) (pieces_in p) (slips_in p) → encode (decode p) ≡ p
unfolding encode decode
encode_decode p byte ok long =
    let h = simp (and_is, eqb_is) at ok in
    let S = slips_in p in
    let P = pieces_in p in
    let B = buffers_in p in
    let first = rw (h.0, h.1.0, h.1.1.0) at (front p (omega arith)) in
    let numbers = rw h.1.1.1 at (run_drop p byte 4 version_at (omega arith)) in
    let slips = slips_drop p byte S header_length (omega arith) in
    let pieces = pieces_drop p byte P (slip_at S) (omega arith) in
    let counts = run_drop p byte B (piece_at S P) (omega arith) in
    let none : drop (pool_length B P S) p ≡ [] = drop_of_length-le p {i = pool_length B P S} (omega arith) in
    rw (decode_counts p, decode_pieces p, decode_slips p, ← append-nil (bytes16 (decode p).counts), ← none, counts, pieces, slips, numbers) first

-- ---- the fresh pool

zero_words : (n : ℕ) → bytes16 (replicate n 0) ≡ replicate (2 * n) 0
zero_words zero = refl
zero_words (suc n) = let e : 2 * suc n ≡ suc (suc (2 * n)) = omega arith in rw (e, ← zero_words n)

zero_slips : (n : ℕ) → slip_bytes (replicate n 0) (replicate n 0) ≡ replicate (4 * n) 0
zero_slips zero = refl
zero_slips (suc n) = let e : 4 * suc n ≡ 4 + 4 * n = omega arith in rw (e, ← replicate-append-replicate {A = ℕ} 4 (4 * n) 0, ← zero_slips n)

zero_pieces : (n : ℕ) → piece_bytes (replicate n blank) ≡ replicate (10 * n) 0
zero_pieces zero = refl
zero_pieces (suc n) = let e : 10 * suc n ≡ 10 + 10 * n = omega arith in rw (e, ← replicate-append-replicate {A = ℕ} 10 (10 * n) 0, ← zero_pieces n)

-- the header, then zeros
pub fresh_bytes : (B P S : ℕ) → encode (fresh_tables B P S) ≡ mark ++ (bytes16 (version ∷ B ∷ P ∷ S ∷ []) ++ replicate (4 * S + 10 * P + 2 * B) 0)
unfolding encode
fresh_bytes B P S = simp (length-replicate, zero_words, zero_slips, zero_pieces, replicate-append-replicate, add_assoc)

-- document 02's 95 bytes
pub fresh_example : encode (fresh_tables 4 6 4) ≡ 83 ∷ 76 ∷ 80 ∷ 2 ∷ 0 ∷ 4 ∷ 0 ∷ 6 ∷ 0 ∷ 4 ∷ 0 ∷ replicate 84 0
unfolding encode
fresh_example = refl
