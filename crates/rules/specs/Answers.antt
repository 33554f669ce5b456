-- What a call answers, in what callers see: its number, what it was lent, its view; what a no leaves, and what open leaves.
use Rattle.std.specs.Prelude.{◌≡◌, ◌≢◌, ◌↔◌, not, List, ◌∷◌, ℕ, ◌+◌, ◌*◌, ◌≤◌, ◌<◌, length}
use Rattle.rules.specs.Basics.{Is}
use Rattle.rules.specs.Tables.{Tables, blank, slip, serial, piece, buffer_count, slip_total, piece_total, buffer_total}
use Rattle.rules.specs.Bytes.{decode}
use Rattle.rules.specs.Chain.{State, Stretch, chain, spans, first_length, position_of, reads}
use Rattle.rules.specs.Sound.{Lent}
use Rattle.rules.specs.Room.{is_vacant}
use Rattle.rules.specs.Rule.{View}
use Rattle.rules.specs.Step.{Operation, Audit, Put, Free, Dup, Cut, Append, Drop, Keep, Pullup, Pack, Length, Read, Show, WireList}
use Rattle.rules.specs.Step.{Call, Open, Do, lent_to, Result, state_in}

-- slip t is vacant, and its serial is not the last
abbrev pub Ready : Tables → ℕ → Type 0
Ready T t = Is (is_vacant T t) × (serial T t ≢ 65535)

-- t is the lowest such slip
pub record LowestReady (T : Tables) (t : ℕ) : Type 0 where
  pub below : t < slip_total T
  pub ready : Ready T t
  pub lowest : (u : ℕ) → u < t → Ready T u → ⊥

-- n is the number of that slip + 65,536 times its serial
abbrev pub NamesLowest : Tables → ℕ → Type 0
NamesLowest T n = (t : ℕ) × LowestReady T t × (n ≡ t + 65536 * serial T t)

-- n is the number of a done operation on S: a new slip, a count of bytes or of pieces, or 0
abbrev pub Answered : Operation → State → ℕ → Type 0
Answered Audit S n = n ≡ 0
Answered (Put input) S n = NamesLowest S.tables n
Answered (Free s) S n = n ≡ 0
Answered (Dup s) S n = NamesLowest S.tables n
Answered (Cut s off k) S n = NamesLowest S.tables n
Answered (Append a b) S n = n ≡ 0
Answered (Drop s k) S n = n ≡ 0
Answered (Keep s k) S n = n ≡ 0
Answered (Pullup s k) S n = n ≡ 0
Answered (Pack s) S n = n ≡ 0
Answered (Length s) S n = n ≡ length (reads S s.slip)
Answered (Read s off k out) S n = n ≡ k
Answered (Show s k scratch) S n = n ≡ k
Answered (WireList s list) S n = n ≡ length (chain S.tables s.slip)

-- the number of a done call on m
abbrev pub AnsweredBy : Call → Lent → ℕ → Type 0
AnsweredBy (Open B P S) m n = n ≡ 0
AnsweredBy (Do o) m n = Answered o (state_in m) n

-- Whatever c was lent is as before, and nothing is answered or seen.
pub record Unaltered (c : Call) (m : Lent) (r : Result) : Type 0 where
  pub number : r.number ≡ 0
  pub pool : r.pool ≡ m.pool
  pub storage : r.storage ≡ m.storage
  pub output : r.output ≡ lent_to c
  pub in_scratch_lem : r.view.in_scratch ≡ 0
  pub start : r.view.start ≡ 0

-- The claim about the result r of a call c on any bytes m, proved in proofs/Answers.antt.
pub record Numbers (c : Call) (m : Lent) (r : Result) : Type 0 where
  pub when_done : r.code ≡ 0 → AnsweredBy c m r.number
  pub when_refused : r.code ≢ 0 → Unaltered c m r

-- The view v of the first n bytes of stretches xs: in storage just where the first stretch has them, and else at the start of the scratch.
pub record Shown (Z : List ℕ) (xs : List Stretch) (n : ℕ) (v : View) : Type 0 where
  pub in_storage : (v.in_scratch ≡ 0) ↔ (n ≤ first_length xs)
  pub at_first : (x : Stretch) (ys : List Stretch) → xs ≡ x ∷ ys → 0 < n → n ≤ x.len → v.start ≡ position_of Z x
  pub at_none : n ≡ 0 → v.start ≡ 0
  pub in_scratch_lem : first_length xs < n → (v.in_scratch ≡ 1) × (v.start ≡ 0)

-- no view
abbrev pub Unseen : View → Type 0
Unseen v = (v.in_scratch ≡ 0) × (v.start ≡ 0)

-- v is the view of a done operation on S: only show has one
abbrev pub Seen : Operation → State → View → Type 0
Seen Audit S v = Unseen v
Seen (Put input) S v = Unseen v
Seen (Free s) S v = Unseen v
Seen (Dup s) S v = Unseen v
Seen (Cut s off n) S v = Unseen v
Seen (Append a b) S v = Unseen v
Seen (Drop s n) S v = Unseen v
Seen (Keep s n) S v = Unseen v
Seen (Pullup s n) S v = Unseen v
Seen (Pack s) S v = Unseen v
Seen (Length s) S v = Unseen v
Seen (Read s off n out) S v = Unseen v
Seen (Show s n scratch) S v = Shown S.tables.stock (spans S.tables s.slip) n v
Seen (WireList s list) S v = Unseen v

abbrev pub SeenBy : Call → Lent → View → Type 0
SeenBy (Open B P S) m v = Unseen v
SeenBy (Do o) m v = Seen o (state_in m) v

-- The claim about what is lent to any call and what is seen of a done one, proved in proofs/Answers.antt.
pub record Outputs (c : Call) (m : Lent) (r : Result) : Type 0 where
  pub as_long : length r.output ≡ length (lent_to c)
  pub view_done : r.code ≡ 0 → SeenBy c m r.view

-- What a done open leaves: B, P and S as asked, nothing held, every serial 0, and storage as it was.
pub record Opened (B P S : ℕ) (m m' : Lent) : Type 0 where
  pub slips : slip_total (decode m'.pool) ≡ S
  pub pieces : piece_total (decode m'.pool) ≡ P
  pub buffers : buffer_total (decode m'.pool) ≡ B
  pub all_vacant : (t : ℕ) → slip (decode m'.pool) t ≡ 0
  pub all_first : (t : ℕ) → serial (decode m'.pool) t ≡ 0
  pub all_blank : (d : ℕ) → piece (decode m'.pool) d ≡ blank
  pub none_held : (b : ℕ) → buffer_count (decode m'.pool) b ≡ 0
  pub storage : m'.storage ≡ m.storage
