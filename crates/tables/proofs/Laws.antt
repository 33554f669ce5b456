-- Where the entries of a pool stand: what a load gives, and what a store leaves.
use Prim.Native.Nat.{ℕ, zero, suc, ◌+◌, ◌*◌, ◌%◌, ◌<◌, ◌≤◌}
use mathlib.Core.Path.{◌≡◌, refl, sym, ap, ap₂, ◌∙◌}
use mathlib.Core.Logic.{◌≢◌}
use mathlib.Core.Bool.{Bool, true, false}
use mathlib.Core.List.{List, [], ◌∷◌}
use native.Mathlib.Nat.{mod-eq_of_lt}
use native.Mathlib.Omega.{arith}
use lib.Dec.{eqb}
use lib.ListN.{get_or, set, length-set}
use lib.Seq.{get_or-set_same, get_or-set_other, set-set}
use borrow.Author.Tests.{eqb-true, eqb-false}
use Rattle.word.specs.Word.{get16, set16}
use Rattle.word.proofs.Laws.{Apart, length_set16, get16_same, get16_other}
use Rattle.rules.specs.Basics.{table, Is}
use Rattle.rules.specs.Layout.{slip_at, serial_at, piece_at, count_at, version_at, buffers_at, pieces_at, slips_at, header_length, storage_length}
use Rattle.rules.specs.Tables.{Piece, Tables, blank, slip, serial, piece, buffer_count, slip_total, piece_total, buffer_total, set_slip, set_serial, set_piece, set_count, with_pieces}
use Rattle.rules.specs.Bytes.{buffers_in, pieces_in, slips_in, serial_of, piece_in, decode, encode}
use Rattle.rules.specs.Sound.{marked}
use Rattle.rules.proofs.Bytes.{AllBytes, get_d_table, table_same, table_set, decode_slips, decode_pieces, decode_counts, encode_decode}
use Rattle.layout.specs.declared.Shape.{Shape}
use Rattle.tables.specs.Shape.{Fits, Shaped, Holds, stock_of}

-- ---- the fields of a piece by number: field k stands 2 * k bytes into the entry

abbrev pub field : ℕ → Piece → ℕ
field zero x = x.count
field (suc zero) x = x.buffer
field (suc (suc zero)) x = x.offset
field (suc (suc (suc zero))) x = x.len
field (suc (suc (suc (suc k)))) x = x.next

-- the piece of five numbers
abbrev piece_of : (ℕ → ℕ) → Piece
piece_of f = record { count = f 0; buffer = f 1; offset = f 2; len = f 3; next = f 4 }

abbrev pick : Bool → ℕ → ℕ → ℕ
pick true m n = m
pick false m n = n

abbrev pub with_field : ℕ → ℕ → Piece → Piece
with_field k v x = piece_of (λ j. pick (eqb j k) v (field j x))

in_fields : (p : List ℕ) (a : ℕ) → piece_in p a ≡ piece_of (λ k. get16 p (a + 2 * k))
in_fields p a =
    let z : a ≡ a + 2 * 0 = omega arith in
    λ i. record { count = get16 p (z i); buffer = get16 p (a + 2); offset = get16 p (a + 4); len = get16 p (a + 6); next = get16 p (a + 8) }

piece_of_field : (f : ℕ → ℕ) (k : ℕ) → k < 5 → field k (piece_of f) ≡ f k
piece_of_field f zero h = refl
piece_of_field f (suc zero) h = refl
piece_of_field f (suc (suc zero)) h = refl
piece_of_field f (suc (suc (suc zero))) h = refl
piece_of_field f (suc (suc (suc (suc zero)))) h = refl
piece_of_field f (suc (suc (suc (suc (suc k))))) h = absurd (omega arith)

piece_of_same : (f g : ℕ → ℕ) → ((k : ℕ) → k < 5 → g k ≡ f k) → piece_of g ≡ piece_of f
piece_of_same f g h = λ i. record {
  count = h 0 (omega arith) i;
  buffer = h 1 (omega arith) i;
  offset = h 2 (omega arith) i;
  len = h 3 (omega arith) i;
  next = h 4 (omega arith) i;
}

-- g is f but v at k
module _ (f g : ℕ → ℕ) (k v : ℕ) (e : g k ≡ v) (h : (j : ℕ) → j ≢ k → g j ≡ f j) where
  picked : (b : Bool) (j : ℕ) → j < 5 → eqb j k ≡ b → g j ≡ pick b v (field j (piece_of f))
  picked true j five q = ap g (eqb-true j k q) ∙ e
  picked false j five q = h j (eqb-false j k q) ∙ sym (piece_of_field f j five)

  piece_of_set : piece_of g ≡ with_field k v (piece_of f)
  piece_of_set = piece_of_same _ g (λ j five. picked (eqb j k) j five refl)

-- a store outside an entry keeps it
piece_kept : (p : List ℕ) (a v e : ℕ) → ((k : ℕ) → k < 5 → Apart (e + 2 * k) a) → piece_in (set16 p a v) e ≡ piece_in p e
piece_kept p a v e h =
    in_fields (set16 p a v) e ∙ piece_of_same _ _ (λ k five. get16_other p a v (e + 2 * k) (h k five)) ∙ sym (in_fields p e)

-- ---- entries at their places

module _ (p : List ℕ) where
  pub slip_at_lem : (s : ℕ) → s < slips_in p → slip (decode p) s ≡ get16 p (slip_at s)
  unfolding decode
  slip_at_lem s h = get_d_table (slips_in p) _ s 0 h

  pub serial_at_lem : (s : ℕ) → s < slips_in p → serial (decode p) s ≡ serial_of p s
  unfolding decode
  serial_at_lem s h = get_d_table (slips_in p) _ s 0 h

  pub piece_at_lem : (d : ℕ) → d < pieces_in p → piece (decode p) d ≡ piece_in p (piece_at (slips_in p) d)
  unfolding decode
  piece_at_lem d h = get_d_table (pieces_in p) _ d blank h

  pub count_at_lem : (b : ℕ) → b < buffers_in p → buffer_count (decode p) b ≡ get16 p (count_at (pieces_in p) (slips_in p) b)
  unfolding decode
  count_at_lem b h = get_d_table (buffers_in p) _ b 0 h

-- what is loaded at its place is the entry
pub ruleset loads = (slip_at_lem, serial_at_lem, piece_at_lem, count_at_lem)

-- ---- the tables of a pool

-- its header states the lengths of its tables
pub ruleset totals = (decode_slips, decode_pieces, decode_counts)

module _ {p : List ℕ} {h : Shape} where
  -- a pool holds its own tables
  pub whole : Shaped p h → Holds p h (decode p)
  whole is = record { shaped = is; is = refl }

  module _ {T : Tables} (was : Holds p h T) where
    -- its shape states the lengths of its tables
    pub total_slips : slip_total T ≡ h.slips
    total_slips = sym (ap slip_total was.is) ∙ decode_slips p ∙ sym was.shaped.slips

    pub total_pieces : piece_total T ≡ h.pieces
    total_pieces = sym (ap piece_total was.is) ∙ decode_pieces p ∙ sym was.shaped.pieces

    pub total_buffers : buffer_total T ≡ h.buffers
    total_buffers = sym (ap buffer_total was.is) ∙ decode_counts p ∙ sym was.shaped.buffers

    pub total_stock : T.stock ≡ stock_of h
    unfolding decode
    total_stock = sym (ap (λ (U : Tables). U.stock) was.is) ∙ ap (λ (n : ℕ). n ∷ []) (sym was.shaped.buffers)

    -- storage as long as the shape asks is as long as the tables ask, and the other way
    pub storage_fits : {n : ℕ} → n ≡ storage_length (stock_of h) h.buffers → n ≡ storage_length T.stock (buffer_total T)
    storage_fits e = e ∙ ap₂ storage_length (sym total_stock) (sym total_buffers)

    pub storage_shaped : {n : ℕ} → n ≡ storage_length T.stock (buffer_total T) → n ≡ storage_length (stock_of h) h.buffers
    storage_shaped e = e ∙ ap₂ storage_length total_stock total_buffers

    -- what a later pool holds, said of the tables that this one holds
    pub onward : {q : List ℕ} (f : Tables → Tables) → Holds q h (f (decode p)) → Holds q h (f T)
    onward f now = record { shaped = now.shaped; is = now.is ∙ ap f was.is }

-- a piece that is stored twice is as it was stored last
piece_twice : (T : Tables) (d : ℕ) (x : Piece) (g : Piece → Piece) → d < piece_total T → set_piece (set_piece T d x) d (g (piece (set_piece T d x) d)) ≡ set_piece T d (g x)
piece_twice T d x g h =
    ap (λ (y : Piece). set_piece (set_piece T d x) d (g y)) (get_or-set_same T.pieces d x blank h)
    ∙ ap (with_pieces T) (set-set T.pieces d x (g x))

module _ {p q : List ℕ} {h : Shape} (T : Tables) (d : ℕ) (x : Piece) (in_range : d < h.pieces) (was : Holds p h (set_piece T d x)) where
  -- a piece that was stored to is stored to again
  pub again : (g : Piece → Piece) → Holds q h (set_piece (decode p) d (g (piece (decode p) d))) → Holds q h (set_piece T d (g x))
  again g now =
      let n : d < piece_total T = omega (arith, total_pieces was, length-set T.pieces d x) in
      let e = onward was (λ (U : Tables). set_piece U d (g (piece U d))) now in
      record { shaped = e.shaped; is = e.is ∙ piece_twice T d x g n }

-- ---- stores

-- the tables of p, under counts B, P and S
abbrev tables_of : ℕ → ℕ → ℕ → List ℕ → Tables
tables_of B P S p = record {
  slips = table S (λ s. get16 p (slip_at s));
  serials = table S (serial_of p);
  pieces = table P (λ d. piece_in p (piece_at S d));
  counts = table B (λ b. get16 p (count_at P S b));
  stock = B ∷ [];
}

-- a store past the header keeps the header
module _ (p : List ℕ) (a v : ℕ) (past : header_length ≤ a) where
  byte_kept : (i : ℕ) → i < a → get_or (set16 p a v) i 0 ≡ get_or p i 0
  unfolding set16
  byte_kept i l = get_or-set_other (set p a _) (a + 1) i _ 0 (λ e. omega arith) ∙ get_or-set_other p a i _ 0 (λ e. omega arith)

  marked_kept : Is (marked p) → Is (marked (set16 p a v))
  marked_kept m = rw (byte_kept 0 (omega arith), byte_kept 1 (omega arith), byte_kept 2 (omega arith), get16_other p a v version_at (omega arith)) m

  shaped_kept : {h : Shape} → Shaped p h → Shaped (set16 p a v) h
  shaped_kept {h} is =
      let b = get16_other p a v buffers_at (omega arith) in
      let q = get16_other p a v pieces_at (omega arith) in
      let s = get16_other p a v slips_at (omega arith) in
      let l = length_set16 p a v in
      let m = is.fits.long in
      record {
        fits = record { is_marked = marked_kept is.fits.is_marked; long = omega arith };
        buffers = omega arith;
        pieces = omega arith;
        slips = omega arith;
      }

  decode_kept : decode (set16 p a v) ≡ tables_of (buffers_in p) (pieces_in p) (slips_in p) (set16 p a v)
  unfolding decode
  decode_kept = rw (get16_other p a v buffers_at (omega arith), get16_other p a v pieces_at (omega arith), get16_other p a v slips_at (omega arith))

-- a store outside a table keeps it
module _ (p : List ℕ) (a v B P S : ℕ) where
  slips_kept : slip_at S ≤ a → table S (λ s. get16 (set16 p a v) (slip_at s)) ≡ table S (λ s. get16 p (slip_at s))
  slips_kept h = table_same S _ _ (λ s b. get16_other p a v (slip_at s) (omega arith))

  serials_kept : ((s : ℕ) → s < S → Apart (serial_at s) a) → table S (serial_of (set16 p a v)) ≡ table S (serial_of p)
  serials_kept h = table_same S _ _ (λ s b. ap (λ n. n % 65536) (get16_other p a v (serial_at s) (h s b)))

  pieces_kept : ((d k : ℕ) → d < P → k < 5 → Apart (piece_at S d + 2 * k) a) → table P (λ d. piece_in (set16 p a v) (piece_at S d)) ≡ table P (λ d. piece_in p (piece_at S d))
  pieces_kept h = table_same P _ _ (λ d b. piece_kept p a v (piece_at S d) (λ k five. h d k b five))

  counts_kept : a + 2 ≤ count_at P S 0 → table B (λ b. get16 (set16 p a v) (count_at P S b)) ≡ table B (λ b. get16 p (count_at P S b))
  counts_kept h = table_same B _ _ (λ b z. get16_other p a v (count_at P S b) (omega arith))

module _ (p : List ℕ) (v : ℕ) {h : Shape} (is : Shaped p h) (small : v < 65536) where
  set_slip_lem : (s : ℕ) → s < slips_in p → Holds (set16 p (slip_at s) v) h (set_slip (decode p) s v)
  unfolding decode
  set_slip_lem s b =
      let l = is.fits.long in
      let S : ℕ = slips_in p in
      let P : ℕ = pieces_in p in
      let B : ℕ = buffers_in p in
      let a : ℕ = slip_at s in
      record {
        shaped = shaped_kept p a v (omega arith) is;
        is = decode_kept p a v (omega arith) ∙ (λ i. record {
          slips = table_set S (λ t. get16 p (slip_at t)) (λ t. get16 (set16 p a v) (slip_at t)) s v (get16_same p a v (omega arith) small) (λ t z m. get16_other p a v (slip_at t) (omega arith)) i;
          serials = serials_kept p a v B P S (λ t z. omega arith) i;
          pieces = pieces_kept p a v B P S (λ d k y z. omega arith) i;
          counts = counts_kept p a v B P S (omega arith) i;
          stock = B ∷ [];
        });
      }

  set_serial_lem : (s : ℕ) → s < slips_in p → Holds (set16 p (serial_at s) v) h (set_serial (decode p) s v)
  unfolding decode
  set_serial_lem s b =
      let l = is.fits.long in
      let S : ℕ = slips_in p in
      let P : ℕ = pieces_in p in
      let B : ℕ = buffers_in p in
      let a : ℕ = serial_at s in
      let here : serial_of (set16 p a v) s ≡ v = ap (λ n. n % 65536) (get16_same p a v (omega arith) small) ∙ mod-eq_of_lt small in
      record {
        shaped = shaped_kept p a v (omega arith) is;
        is = decode_kept p a v (omega arith) ∙ (λ i. record {
          slips = table_same S (λ t. get16 (set16 p a v) (slip_at t)) (λ t. get16 p (slip_at t)) (λ t z. get16_other p a v (slip_at t) (omega arith)) i;
          serials = table_set S (serial_of p) (serial_of (set16 p a v)) s v here (λ t z m. ap (λ n. n % 65536) (get16_other p a v (serial_at t) (omega arith))) i;
          pieces = pieces_kept p a v B P S (λ d k y z. omega arith) i;
          counts = counts_kept p a v B P S (omega arith) i;
          stock = B ∷ [];
        });
      }

  set_field : (d k : ℕ) → d < pieces_in p → k < 5 → Holds (set16 p (piece_at (slips_in p) d + 2 * k) v) h (set_piece (decode p) d (with_field k v (piece (decode p) d)))
  unfolding decode
  set_field d k b five =
      let l = is.fits.long in
      let S : ℕ = slips_in p in
      let P : ℕ = pieces_in p in
      let B : ℕ = buffers_in p in
      let a : ℕ = piece_at S d + 2 * k in
      let q : List ℕ = set16 p a v in
      let here : piece_in q (piece_at S d) ≡ with_field k v (piece (decode p) d) =
      in_fields q (piece_at S d)
      ∙ piece_of_set (λ j. get16 p (piece_at S d + 2 * j)) (λ j. get16 q (piece_at S d + 2 * j)) k v (get16_same p a v (omega arith) small) (λ j m. get16_other p a v (piece_at S d + 2 * j) (omega arith))
      ∙ ap (with_field k v) (sym (piece_at_lem p d b ∙ in_fields p (piece_at S d))) in
      record {
        shaped = shaped_kept p a v (omega arith) is;
        is = decode_kept p a v (omega arith) ∙ (λ i. record {
          slips = slips_kept p a v B P S (omega arith) i;
          serials = serials_kept p a v B P S (λ t z. omega arith) i;
          pieces = table_set P (λ e. piece_in p (piece_at S e)) (λ e. piece_in q (piece_at S e)) d _ here (λ e y m. piece_kept p a v (piece_at S e) (λ j z. omega arith)) i;
          counts = counts_kept p a v B P S (omega arith) i;
          stock = B ∷ [];
        });
      }

  set_count_lem : (b : ℕ) → b < buffers_in p → Holds (set16 p (count_at (pieces_in p) (slips_in p) b) v) h (set_count (decode p) b v)
  unfolding decode
  set_count_lem b c =
      let l = is.fits.long in
      let S : ℕ = slips_in p in
      let P : ℕ = pieces_in p in
      let B : ℕ = buffers_in p in
      let a : ℕ = count_at P S b in
      record {
        shaped = shaped_kept p a v (omega arith) is;
        is = decode_kept p a v (omega arith) ∙ (λ i. record {
          slips = slips_kept p a v B P S (omega arith) i;
          serials = serials_kept p a v B P S (λ t z. omega arith) i;
          pieces = pieces_kept p a v B P S (λ d k y z. omega arith) i;
          counts = table_set B (λ t. get16 p (count_at P S t)) (λ t. get16 (set16 p a v) (count_at P S t)) b v (get16_same p a v (omega arith) small) (λ t z m. get16_other p a v (count_at P S t) (omega arith)) i;
          stock = B ∷ [];
        });
      }

-- what a store at an entry's place leaves
module _ {p q : List ℕ} {h : Shape} {a v : ℕ} (is : Shaped p h) (small : v < 65536) (put : q ≡ set16 p a v) where
  pub store_slip : (s : ℕ) → s < h.slips → a ≡ slip_at s → Holds q h (set_slip (decode p) s v)
  store_slip s b e = rw (put, e) (set_slip_lem p v is small s (omega arith))

  pub store_serial : (s : ℕ) → s < h.slips → a ≡ serial_at s → Holds q h (set_serial (decode p) s v)
  store_serial s b e = rw (put, e) (set_serial_lem p v is small s (omega arith))

  pub store_field : (d k : ℕ) → d < h.pieces → k < 5 → a ≡ piece_at h.slips d + 2 * k → Holds q h (set_piece (decode p) d (with_field k v (piece (decode p) d)))
  store_field d k b five e =
      let f : a ≡ piece_at (slips_in p) d + 2 * k = omega arith in
      rw (put, f) (set_field p v is small d k (omega arith) five)

  pub store_count : (b : ℕ) → b < h.buffers → a ≡ count_at h.pieces h.slips b → Holds q h (set_count (decode p) b v)
  store_count b l e =
      let f : a ≡ count_at (pieces_in p) (slips_in p) b = omega arith in
      rw (put, f) (set_count_lem p v is small b (omega arith))

-- ---- bytes

-- a pool whose bytes are below 256 is the bytes of the tables that it holds
pub fits_decode : (p : List ℕ) → AllBytes p → Fits p → encode (decode p) ≡ p
fits_decode p byte f = encode_decode p byte f.is_marked f.long

pub settled : {q : List ℕ} {h : Shape} {T : Tables} → Holds q h T → AllBytes q → q ≡ encode T
settled {q} was byte = sym (fits_decode q byte was.shaped.fits) ∙ ap encode was.is
