-- What put answers and leaves: the rule's result. Assumes nothing.
use mathlib.Core.Path.{◌≡◌, refl, sym, ap, ◌∙◌}
use mathlib.Core.Bool.{true, false}
use mathlib.Core.List.{List, []}
use Prim.Native.Nat.{ℕ, ◌≤◌, ◌<◌}
use native.Mathlib.Omega.{arith}
use lib.Dec.{leb}
use lib.ListN.{length}
use borrow.Author.Tests.{leb-true, leb-false}
use Rattle.std.specs.Prelude.{Ok, Err}
use Rattle.kinds.specs.declared.SlipState.{SlipState}
use Rattle.kinds.specs.declared.Step.{Step}
use Rattle.kinds.specs.declared.Refusal.TheVariants.{Slips, Pieces, Buffers}
use Rattle.rules.specs.Tables.{Tables, name_of, slip_total, buffer_total, holding, set_slip}
use Rattle.rules.specs.Bytes.{decode}
use Rattle.rules.specs.Sound.{lent}
use Rattle.rules.specs.Room.{is_ready, is_unheld, free_pieces, free_buffers, new_slip, new_buffers}
use Rattle.rules.specs.Build.{plain, under_new, buffers_for, laid, built, built_link, stored}
use Rattle.rules.specs.Rule.{first_code, want, no_view}
use Rattle.rules.specs.Put.{put_after}
use Rattle.rules.specs.Step.{Put, rule, state_in, perform}
use Rattle.rules.proofs.Codes.{first_none}
use Rattle.rules.proofs.Build.{built_kept}
use Rattle.rules.proofs.Bytes.{AllBytes}
use Rattle.layout.specs.declared.Shape.{Shape}
use Rattle.tables.specs.Shape.{Holds}
use Rattle.tables.proofs.Laws.{totals}
use Rattle.room.specs.Free.{first_from}
use Rattle.room.proofs.Free.{no_slip, new_slip_lem, count_most}
use Rattle.answer.specs.Result.{result_of}
use Rattle.answer.proofs.New.{under_made, new_link, new_name}
use Rattle.answer.proofs.Perform.{perform_slips, perform_pieces, perform_buffers, perform_all, changed}

module _ (p st input : List ℕ) where
  -- the lowest slip that may be given, or as many as there are; and the buffers that the bytes need
  abbrev lowest : ℕ
  lowest = first_from (is_ready (decode p)) 0 (slip_total (decode p))

  abbrev k : ℕ
  k = buffers_for (length input)

  -- no refusal is judged before room
  early : first_code (rule (Put input) (state_in (lent p st))).judged ≡ 0
  unfolding rule
  early = first_none

  -- no vacant slip
  pub put_slips : lowest ≡ slip_total (decode p) → result_of (Err Slips) p st [] no_view ≡ perform (Put input) (lent p st)
  unfolding rule
  put_slips z = perform_slips (Put input) (lent p st) early (omega (arith, no_slip (decode p) refl z))

  module _ (some : lowest < slip_total (decode p)) where
    -- too few free pieces
    pub put_pieces : false ≡ leb k (length (free_pieces (decode p))) → result_of (Err Pieces) p st [] no_view ≡ perform (Put input) (lent p st)
    unfolding rule
    put_pieces l = perform_pieces (Put input) (lent p st) early (new_slip_lem (decode p) refl some).1 (omega (arith, leb-false _ _ (sym l)))

    -- too few free buffers
    pub put_buffers : true ≡ leb k (length (free_pieces (decode p))) → false ≡ leb k (length (free_buffers (decode p)))
        → result_of (Err Buffers) p st [] no_view ≡ perform (Put input) (lent p st)
    unfolding rule
    put_buffers e l = perform_buffers (Put input) (lent p st) early (new_slip_lem (decode p) refl some).1 (omega (arith, leb-true _ _ (sym e))) (omega (arith, leb-false _ _ (sym l)))

  -- the new pieces under the new slip, and the bytes in the new buffers
  pub put_done : {x : Step} {v : SlipState} {q r after : List ℕ} {h : Shape} {t n m : ℕ} → let T = decode p in let xs = laid T.stock (new_buffers T m) (length input) in
      (t ≡ lowest) × (t < slip_total T) → m ≡ k → true ≡ leb m (length (free_pieces T)) → true ≡ leb m (length (free_buffers T))
      → after ≡ stored T.stock st (new_buffers T k) input → Holds q h (built T (free_pieces T) xs 0) × (n ≡ built_link (free_pieces T) xs 0)
      → Holds r h (set_slip (decode q) t (holding n)) → x ≡ record { state = v; number = name_of (decode q) t } → AllBytes r
      → result_of (Ok x) r after [] no_view ≡ perform (Put input) (lent p st)
  unfolding rule put_after
  put_done {t = t} {m = m} new c enough most f was is a b =
      let T = decode p in
      let plan = λ (j : ℕ). plain T (laid T.stock (new_buffers T j) (length input)) in
      let (at, some) = new_slip_lem T new.0 new.1 in
      let made = under_made (plan m) (free_pieces T) t was.0 was.1 is in
      let named = new_name T (plan m) (free_pieces T) t was.0 (built_kept T (free_pieces T) (plan m).more 0).serials_kept in
      changed _ (want 1 k k) (name_of T (new_slip T)) (put_after input (state_in (lent p st))) (ap Ok a) (named ∙ ap (name_of T) (sym at)) b
      (record { shaped = made.shaped; is = made.is ∙ (λ i. under_new (plan (c i)) (free_pieces T) (sym at i)) }) f
      ∙ perform_all (Put input) (lent p st) early some (omega (arith, c, leb-true _ _ (sym enough))) (omega (arith, c, leb-true _ _ (sym most)))

-- no more buffers are free than there are
pub free_most : (T : Tables) → length (free_buffers T) ≤ buffer_total T
free_most T = count_most (is_unheld T) (buffer_total T)

pub ruleset laws = (put_slips, put_pieces, put_buffers, new_link, free_most, totals)
