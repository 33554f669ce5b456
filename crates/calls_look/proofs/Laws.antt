-- What show answers, and what stretches begins with. Assumes nothing.
use mathlib.Core.Path.{◌≡◌, refl, sym, ap, ◌∙◌}
use mathlib.Core.List.{List}
use Prim.Native.Nat.{ℕ, ◌/◌, ◌<◌, ◌^◌}
use native.Mathlib.Omega.{arith}
use lib.ListN.{length, take}
use lib.Seq.{take-length}
use lib.Dec.{ltb}
use Rattle.std.specs.Prelude.{Result, Ok, Err, IfOk}
use Rattle.std.proofs.lemmas.Result.{IfOk-at_ok}
use Rattle.kinds.specs.SlipState.{state_of}
use Rattle.kinds.specs.declared.Refusal.{Refusal}
use Rattle.kinds.proofs.Sizes.{start_most}
use Rattle.rules.specs.Tables.{Tables, slip, head_of}
use Rattle.rules.specs.Bytes.{decode}
use Rattle.rules.specs.Chain.{spans}
use Rattle.rules.specs.Sound.{lent}
use Rattle.rules.specs.Rule.{Name, unnamed}
use Rattle.rules.specs.Read.{copied}
use Rattle.rules.specs.List.{records}
use Rattle.rules.specs.Step.{Show, WireList, Do, step}
use Rattle.rules.proofs.Logic.{if_either}
use Rattle.rules.proofs.Bytes.{AllBytes}
use Rattle.tables.specs.Shape.{stock_of}
use Rattle.tables.proofs.Laws.{fits_decode}
use Rattle.layout.specs.declared.Shape.{Shape}
use Rattle.audit.specs.Verdict.{AuditIs}
use Rattle.audit.proofs.Laws.{audit_storage, audit_limited}
use Rattle.chain.specs.Length.{stretches_from}
use Rattle.look.specs.declared.Place.{Place}
use Rattle.look.specs.declared.Place.TheVariants.{Storage, Scratch}
use Rattle.look.specs.declared.Shown as look
use Rattle.look.specs.Place.{view_at, Lies}
use Rattle.look.specs.Show.{Seen}
use Rattle.list.specs.declared.Begun as list
use Rattle.list.specs.Begin.{begun}
use Rattle.list.proofs.Laws.{begun_fits, list_refuses, list_performs}
use Rattle.calls.proofs.Laws.{torn, opened, performed}
use Rattle.calls_look.specs.declared.Shown.{Shown}
use Rattle.calls_look.specs.Shown.{shown_as, shown_of}
use Rattle.calls_look.specs.Begin.{Begins}

-- ---- show's answer

pub torn_shown : {p st : List ℕ} {why : Refusal} → AuditIs p (length st) (Err why) → (s : Name) (n : ℕ) (sc : List ℕ) {x : Shown} → x ≡ shown_as (Err why)
    → shown_of x p st sc ≡ step (Do (Show s n sc)) (lent p st)
torn_shown {p} {st} v s n sc e = ap (λ (x : Shown). shown_of x p st sc) e ∙ torn v (Show s n sc)

module _ {p : List ℕ} (st : List ℕ) {h : Shape} (v : AuditIs p (length st) (Ok h)) where
  -- storage has at most the bytes of the most buffers, so a place in it fits 32 bits
  pub start_small : (after : List ℕ) (place : Place) (n : ℕ) → Lies st after place n → (view_at place).start < 2 ^ 32
  start_small after (Storage a) n l = omega (arith, audit_storage v, (audit_limited v).few_buffers_lem, start_most (stock_of h) h.buffers)
  start_small after Scratch n l = omega arith

  pub shown : {x : Shown} {y : Result look.Shown Refusal} {s : Name} {n : ℕ} {sc after : List ℕ} → x ≡ shown_as y → Seen y p st s n sc after
      → shown_of x p st after ≡ step (Do (Show s n sc)) (lent p st)
  shown {s = s} {n} {sc} {after} e w = ap (λ (z : Shown). shown_of z p st after) e ∙ w.is ∙ performed st v (Show s n sc)

-- ---- the records of slp_stretches

-- what list begins with has the state of its slip, and its head
begun_is : (T : Tables) (s : Name) (room : ℕ) {b : list.Begun} → Ok b ≡ begun T s room → (b.step.state ≡ state_of (slip T s.slip)) × (b.link ≡ head_of T s.slip)
unfolding begun
begun_is T s room e =
    let Fits : list.Begun → Type 0 = λ b. (b.step.state ≡ state_of (slip T s.slip)) × (b.link ≡ head_of T s.slip) in
    let OnOk : Result list.Begun Refusal → Type 0 = λ r. IfOk r Fits in
    IfOk-at_ok Fits (sym e)
    (if_either OnOk (unnamed T s) _ _ (λ _. tt) (λ _. if_either OnOk (ltb room (length (spans T s.slip))) _ _ (λ _. tt) (λ _. (refl, refl))))

module _ {p : List ℕ} (st : List ℕ) (s : Name) (room : ℕ) where
  -- none where the pool is torn
  pub begins_torn : {why : Refusal} → AuditIs p (length st) (Err why) → Begins p st s room (Err why)
  begins_torn v l _ = torn v (WireList s l)

  module _ {h : Shape} (v : AuditIs p (length st) (Ok h)) where
    -- or where list refuses
    pub begins_refused : {why : Refusal} → AllBytes p → Err why ≡ begun (decode p) s room → Begins p st s room (Err why)
    begins_refused bytes e l n =
        let half : room ≡ length l / 2 = omega arith in
        list_refuses p st l s (fits_decode p bytes (opened v).shaped.fits) (e ∙ ap (begun (decode p) s) half) ∙ performed st v (WireList s l)

    -- else those that list begins
    pub begins_sound : {b : list.Begun} → AllBytes p → Ok b ≡ begun (decode p) s room → Begins p st s room (Ok (record { step = b.step; shape = h; link = b.link }))
    begins_sound {b} bytes e =
        let T = decode p in
        let o = opened v in
        let w = begun_fits T o.sound s room e in
        record {
          opened = o;
          good = w.0;
          fits = omega (arith, w.1, w.2);
          leaves = (begun_is T s room e).0;
          head = (begun_is T s room e).1;
          answers = λ l n.
              let half : room ≡ length l / 2 = omega arith in
              let all : take b.pieces (stretches_from T b.link) ≡ stretches_from T b.link = ap (λ k. take k (stretches_from T b.link)) w.1 ∙ take-length (stretches_from T b.link) in
              (list_performs p st l s (fits_decode p bytes o.shaped.fits) (e ∙ ap (begun T s) half) (ap (λ xs. copied (records T.stock xs) l) (sym all))).0 ∙ performed st v (WireList s l);
        }
