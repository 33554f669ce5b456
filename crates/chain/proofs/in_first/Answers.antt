-- `chain::in_first` meets its contract. Assumes nothing.
use mathlib.Core.Path.{◌≡◌, sym, ap, ◌∙◌}
use native.Mathlib.Omega.{arith}
use Prim.Native.Nat.{ℕ, ◌-◌}
use lib.Dec.{eqb, eqb→eq, leb, leb→le, le→leb}
use Rattle.rules.specs.Basics.{Is}
use Rattle.rules.specs.Tables.{Tables, piece}
use Rattle.rules.specs.Bytes.{decode}
use Rattle.rules.specs.Chain.{first_length}
use Rattle.rules.specs.Sound.{link_ok, SoundTables}
use Rattle.rules.proofs.Logic.{same_test, eq→eqb}
use Rattle.tables.proofs.Laws.{whole, total_pieces}
use Rattle.chain.specs.Length.{stretches_from}
use Rattle.chain.proofs.Links.{link_leads, stretches_none, stretches_on}
use Rattle.chain.proofs.in_first.Goals as goal

-- with no piece there are no bytes
first_none : (T : Tables) (l n : ℕ) → l ≡ 0 → eqb n 0 ≡ leb n (first_length (stretches_from T l))
first_none T l n z =
    let e : first_length (stretches_from T l) ≡ 0 = ap (λ (m : ℕ). first_length (stretches_from T m)) z ∙ ap first_length (stretches_none T) in
    same_test (eqb n 0) (leb n 0) (λ t. le→leb n 0 (omega (arith, eqb→eq n 0 t))) (λ t. eq→eqb n 0 (omega (arith, leb→le n 0 t))) ∙ ap (leb n) (sym e)

-- else the first piece has its own
first_some : (T : Tables) (l n : ℕ) {k : ℕ} → SoundTables T → Is (link_ok T l) → (l ≡ 0 → ⊥) → k ≡ (piece T (l - 1)).len → leb n k ≡ leb n (first_length (stretches_from T l))
first_some T l n S t i e = ap (leb n) (e ∙ sym (ap first_length (stretches_on T l S t i)))

pub returns-then-link-eq0 : goal.returns-then-link-eq0
returns-then-link-eq0 c = let a = c.before.before.args in first_none (decode a.pool.now) a.link a.n c.if-link-eq0.true

pub piece_bytes-requires : goal.piece_bytes-requires
piece_bytes-requires c =
    let z = c.before.before in
    let o = z.requires.0 in
    (o.shaped, omega (arith, (link_leads (decode z.args.pool.now) z.args.link o.sound z.requires.1 c.if-link-eq0.false).below, total_pieces (whole o.shaped)))

pub returns : goal.returns
returns c =
    let e = c.before in
    let z = e.before.before in
    first_some (decode z.args.pool.now) z.args.link z.args.n z.requires.0.sound z.requires.1 e.if-link-eq0.false c.piece_bytes.ensures
