-- What keep answers and leaves: the rule's result. Assumes nothing.
use mathlib.Core.Path.{◌≡◌, refl, sym, ap, subst, ◌∙◌}
use mathlib.Core.Bool.{true}
use mathlib.Core.Logic.{◌⊎◌, ⊎_elim}
use mathlib.Core.List.{List, [], ◌∷◌}
use Prim.Native.Nat.{ℕ, pred, ◌+◌, ◌-◌, ◌≤◌, ◌<◌}
use native.Mathlib.Omega.{arith}
use lib.ListN.{length, get_or, take, drop, length-drop, drop_of_length-le, take-append-drop}
use lib.Dec.{eqb, eqb→eq, ltb}
use borrow.Author.Tests.{le-leb}
use Rattle.std.specs.Prelude.{Result, Ok, Err, IsOk}
use Rattle.kinds.specs.declared.SlipState.{SlipState}
use Rattle.kinds.specs.declared.Step.{Step}
use Rattle.kinds.specs.declared.Refusal.{Refusal}
use Rattle.kinds.specs.declared.Refusal.TheVariants.{Slip, Range, Pieces}
use Rattle.rules.specs.Basics.{Is, whether◌then◌else◌}
use Rattle.rules.specs.Tables.{Tables, piece, head_of, piece_total, buffer_total}
use Rattle.rules.specs.Bytes.{decode}
use Rattle.rules.specs.Chain.{State, Stretch, follow, spans, length_of, stretches, total, cut_out, with_tables}
use Rattle.rules.specs.Sound.{link_ok, lent}
use Rattle.rules.specs.Room.{free_pieces}
use Rattle.rules.specs.Build.{built, built_link, behind_own}
use Rattle.rules.specs.Rule.{◌⇐◌, first_code, Name, unnamed, want, no_view}
use Rattle.rules.specs.Keep.{kept, kept_own, kept_not_own, shortened, kept_by, keep_after}
use Rattle.rules.specs.Step.{Keep, rule, state_in, perform}
use Rattle.rules.proofs.Logic.{if_T, if_F, eq→eqb}
use Rattle.rules.proofs.Moves.{SoundNow, SoundWith, reorder}
use Rattle.rules.proofs.Build.{Good, OwnList, own_pieces_lem, own_list_still, built_kept, built_sound}
use Rattle.rules.proofs.Contents.{total_append}
use Rattle.rules.proofs.Room.{free_pieces_lem}
use Rattle.rules.proofs.Chain.{spans_good, good_drop, built_own}
use Rattle.rules.proofs.Hang.{own_front, own_short}
use Rattle.rules.proofs.Audit.{tables_now}
use Rattle.rules.proofs.Codes.{first_yes, first_no, first_none}
use Rattle.rules.proofs.Keep.{shortened_ok, kept_good}
use Rattle.rules.proofs.Bytes.{AllBytes}
use Rattle.layout.specs.declared.Shape.{Shape}
use Rattle.tables.specs.Shape.{Holds}
use Rattle.tables.proofs.Laws.{whole, total_pieces}
use Rattle.chain.specs.declared.Spot.{Spot}
use Rattle.chain.specs.Opened.{Opened}
use Rattle.chain.specs.Enter.{Entered}
use Rattle.chain.specs.Length.{stretches_from}
use Rattle.chain.specs.Find.{spot_of, past_end, found}
use Rattle.chain.specs.Part.{part_of}
use Rattle.chain.proofs.Links.{link_leads, link_below}
use Rattle.chain.proofs.Spots.{past_range, at_end, before_end, found_ok, found_err}
use Rattle.chain.proofs.Parts.{part_ok, part_err}
use Rattle.own.specs.declared.OwnPart.{OwnPart}
use Rattle.own.specs.Own.{last_link, own_part}
use Rattle.own.proofs.Own.{OwnLaws, own_laws}
use Rattle.answer.specs.Result.{result_of}
use Rattle.answer.proofs.New.{new_link}
use Rattle.answer.proofs.Perform.{perform_first, perform_none, perform_pieces, perform_all, changed}
use Rattle.release.specs.Hang.{Hangable, hung_to, hung_storage}
use Rattle.release.proofs.Behind.{behind_tables, behind_storage, hangable}
use Rattle.keep.specs.Shorten.{shortened_by}
use Rattle.keep.proofs.Stays.{cut_behind, cut_enough, own_reach, shortened_is}

-- ---- what the code finds before it acts, and the refusals before room

-- no slip has the name
pub keep_slip : (p st : List ℕ) (x : Name) (n : ℕ) → Is (unnamed (decode p) x) → result_of (Err Slip) p st [] no_view ≡ perform (Keep x n) (lent p st)
unfolding rule
keep_slip p st x n u = perform_first (Keep x n) (lent p st) Slip (first_yes (Slip ⇐ unnamed (decode p) x) _ u)

module _ {p : List ℕ} {h : Shape} {x : Name} {head : ℕ} (n : ℕ) (o : Opened p h) (w : Entered (decode p) h x head) where
  -- the place behind the first n bytes of its chain, past the end where the chain is shorter
  abbrev place : Spot
  place = spot_of (piece_total (decode p)) (decode p) true head n

  short : past_end place ≡ ltb (length_of (decode p) x.slip) n
  short = past_range (decode p) x.slip n w.link_is refl o.sound w.inside

  -- then the call is refused
  pub keep_range : {r : Refusal} → Err r ≡ found place → (st : List ℕ) → result_of (Err r) p st [] no_view ≡ perform (Keep x n) (lent p st)
  unfolding rule
  keep_range f st =
      let T = decode p in
      let (e, t) = found_err place f in
      rw e (perform_first (Keep x n) (lent p st) Range (first_no (Slip ⇐ unnamed T x) _ w.named ∙ first_yes (Range ⇐ ltb (length_of T x.slip) n) [] (subst Is short t)))

  module _ {end : Spot} (f : Ok end ≡ found place) (st : List ℕ) where
    -- else no refusal comes before room
    early : first_code (rule (Keep x n) (state_in (lent p st))).judged ≡ 0
    unfolding rule
    early =
        first_no (Slip ⇐ unnamed (decode p) x) _ w.named
        ∙ first_no (Range ⇐ ltb (length_of (decode p) x.slip) n) [] (λ t. (found_ok place f).1 (subst Is (sym short) t)) ∙ first_none

    -- at the end of the chain the whole chain stays
    pub keep_whole : {a : Step} {v : SlipState} → end.link ≡ 0 → a ≡ record { state = v; number = 0 } → AllBytes p
        → result_of (Ok a) p st [] no_view ≡ perform (Keep x n) (lent p st)
    unfolding rule keep_after
    keep_whole z a b =
        let T = decode p in
        let S = state_in (lent p st) in
        let all = eqb n (length_of T x.slip) in
        let others = length (kept_not_own T x.slip n) in
        let (at, there) = found_ok place f in
        let yes : Is all = eq→eqb n (length_of T x.slip) (at_end T x.slip n w.link_is refl o.sound w.inside (rw at at z) there) in
        let same : S ≡ keep_after x.slip n S = sym (if_T all S _ yes) in
        changed _ (want 0 (whether all then 0 else others) 0) 0 (keep_after x.slip n S) (ap Ok a) refl b
        (record { shaped = o.shaped; is = ap (λ (X : State). X.tables) same }) (ap (λ (X : State). X.storage) same)
        ∙ perform_none (Keep x n) (lent p st) (ap (λ (m : ℕ). want 0 m 0) (if_T all 0 others yes)) early

-- the rule where some pieces are replaced
kept_others : (S : State) (s : ℕ) (own : List ℕ) (xs rest : List Stretch) → 0 < length rest
    → behind_own (with_tables S (built S.tables (free_pieces S.tables) rest 0)) s own (built_link (free_pieces S.tables) rest 0) ≡ kept_by S s own xs rest
unfolding kept_by
kept_others S s own xs [] h = absurd (omega arith)
kept_others S s own xs (y ∷ ys) h = refl

-- the pool r and the storage `after` are what the rule makes of the pool p and the storage st
abbrev pub Kept : List ℕ → List ℕ → Shape → ℕ → ℕ → List ℕ → List ℕ → Type 0
Kept p st h s n r after =
    let T = decode p in
    let X = kept_by (state_in (lent p st)) s (kept_own T s n) (kept T s n) (kept_not_own T s n) in
    Holds r h X.tables × (after ≡ X.storage)

-- ---- what the code finds where a part of the chain stays

-- the place behind that part, at a piece, and the own pieces of it, as the code has them
pub record Seen (p : List ℕ) (h : Shape) (x : Name) (n head : ℕ) (end : Spot) (own : OwnPart) : Type 0 where
  pub opened : Opened p h
  pub entry : Entered (decode p) h x head
  pub place : Ok end ≡ found (spot_of (piece_total (decode p)) (decode p) true head n)
  pub some : end.link ≡ 0 → ⊥
  pub run : own ≡ own_part (decode p) head n

module _ {p : List ℕ} {h : Shape} {x : Name} {n head : ℕ} {end : Spot} {own : OwnPart} (w : Seen p h x n head end own) where
  abbrev T : Tables
  T = decode p

  abbrev s : ℕ
  s = x.slip

  abbrev mine : List ℕ
  mine = kept_own T s n

  sound : SoundNow T
  sound = tables_now T w.opened.sound

  good : Good T.stock (buffer_total T) (spans T s)
  good = spans_good T s sound

  -- the chain has more bytes
  part : n < length_of T s
  part = before_end T s n w.entry.link_is (found_ok _ w.place).0 w.opened.sound w.entry.inside w.some

  laws : OwnLaws T (head_of T s) mine (follow T (length mine) (head_of T s))
  laws = own_laws (length (kept T s n)) (head_of T s) T w.opened.sound (w.opened.sound.slips_ok s w.entry.inside)

  -- the bytes of its own pieces, the link to the last, and the link after it
  own_is : own ≡ record { bytes = total (stretches T mine); last = last_link mine; next = follow T (length mine) (head_of T s) }
  unfolding own_part
  own_is = w.run ∙ ap (λ (l : ℕ). own_part T l n) w.entry.link_is

  own_bytes : own.bytes ≡ total (stretches T mine)
  own_bytes = ap (λ (r : OwnPart). r.bytes) own_is

  own_last : own.last ≡ last_link mine
  own_last = ap (λ (r : OwnPart). r.last) own_is

  own_next : own.next ≡ follow T (length mine) (head_of T s)
  own_next = ap (λ (r : OwnPart). r.next) own_is

  pub last_below : own.last ≤ h.pieces
  last_below = omega (arith, own_last, link_below T (last_link mine) w.opened.sound laws.last_ok, total_pieces (whole w.opened.shaped))

  pub next_ok : Is (link_ok T own.next)
  next_ok = subst (λ (x : ℕ). Is (link_ok T x)) (sym own_next) laws.next_ok

  -- they are the first of the chain, and of those that stay
  front : stretches T mine ≡ take (length mine) (spans T s)
  front = own_front T s (length (kept T s n)) sound

  few : length mine ≤ length (kept T s n)
  few = own_short (length (kept T s n)) (head_of T s) T

  -- what stays behind them
  behind : drop (length mine) (spans T s) ≡ stretches_from T own.next
  behind = laws.rest ∙ ap (stretches_from T) (sym own_next)

  rest : kept_not_own T s n ≡ cut_out (stretches_from T own.next) 0 (n - own.bytes)
  rest =
      let m : n - total (take (length mine) (spans T s)) ≡ n - own.bytes = omega (arith, own_bytes, ap total front) in
      cut_behind T.stock (buffer_total T) (length mine) (spans T s) n good few ∙ (λ i. cut_out (behind i) 0 (m i))

  -- where as many are own as stay, they have the n bytes
  reach : length mine ≡ length (kept T s n) → (n ≤ total (stretches T mine)) × ((last_link mine ≡ 0 → ⊥) → total (stretches T mine) - n ≤ (piece T (last_link mine - 1)).len)
  reach e = own_reach T T.stock (buffer_total T) mine (kept T s n) (spans T s) n good front refl e (omega (arith, part))

  -- the own pieces are a run of the chain still, where its pieces are kept
  run : OwnList T (head_of T s) mine
  run = own_pieces_lem (length (kept T s n)) (head_of T s) T

  -- ---- the link l hung behind the own pieces, in the tables U of the pool q

  module _ (q : List ℕ) {first : ℕ} (U : Tables) (l : ℕ) (is : decode q ≡ U) (link : first ≡ l) where
    to_hang : U.slips ≡ T.slips → OwnList U (head_of T s) mine → SoundWith (l ∷ []) U → Hangable (decode q) own.last first
    to_hang e o k =
        rw (is, own_last, link)
        (hangable U s l mine (rw e w.entry.inside) (subst (λ (xs : List ℕ). OwnList U (pred (get_or xs s 0)) mine) (sym e) o) k)

    hung : (st : List ℕ) (Y : State) {r after : List ℕ} → behind_own (with_tables (state_in (lent p st)) U) s mine l ≡ Y
        → Holds r h (hung_to (decode q) s own.last first) × (after ≡ hung_storage (decode q) st s own.last first) → Holds r h Y.tables × (after ≡ Y.storage)
    hung st Y same (was, cleans) =
        let X = with_tables (state_in (lent p st)) U in
        let e : hung_to (decode q) s own.last first ≡ Y.tables =
        (λ i. hung_to (is i) s (own_last i) (link i)) ∙ sym (behind_tables X s l mine) ∙ ap (λ (Z : State). Z.tables) same in
        let c : hung_storage (decode q) st s own.last first ≡ Y.storage =
        (λ i. hung_storage (is i) st s (own_last i) (link i)) ∙ sym (behind_storage X s l mine) ∙ ap (λ (Z : State). Z.storage) same in
        (record { shaped = was.shaped; is = was.is ∙ e }, cleans ∙ c)

  -- ---- what is answered

  module _ (st : List ℕ) where
    -- what the rule leaves
    abbrev left : State
    left = kept_by (state_in (lent p st)) s mine (kept T s n) (kept_not_own T s n)

    not_whole : Is (eqb n (length_of T s)) → ⊥
    not_whole t = omega (arith, part, eqb→eq n (length_of T s) t)

    wants_others : (whether eqb n (length_of T s) then 0 else length (kept_not_own T s n)) ≡ length (kept_not_own T s n)
    wants_others = if_F (eqb n (length_of T s)) _ _ not_whole

    -- too few free pieces for those that are replaced
    keep_full : length (free_pieces T) < length (kept_not_own T s n) → result_of (Err Pieces) p st [] no_view ≡ perform (Keep x n) (lent p st)
    unfolding rule
    keep_full f = perform_pieces (Keep x n) (lent p st) (early n w.opened w.entry w.place st) (omega arith) (omega (arith, wants_others))

    -- a part of the chain stays
    keep_done : {a : Step} {v : SlipState} {q after : List ℕ} → length (kept_not_own T s n) ≤ length (free_pieces T)
        → Holds q h left.tables × (after ≡ left.storage) → a ≡ record { state = v; number = 0 } → AllBytes q
        → result_of (Ok a) q after [] no_view ≡ perform (Keep x n) (lent p st)
    unfolding rule keep_after
    keep_done f (is, cleans) a b =
        let S = state_in (lent p st) in
        let same : left ≡ keep_after s n S = sym (if_F (eqb n (length_of T s)) S left not_whole) in
        changed _ (want 0 (whether eqb n (length_of T s) then 0 else length (kept_not_own T s n)) 0) 0 (keep_after s n S) (ap Ok a) refl b
        (record { shaped = is.shaped; is = is.is ∙ ap (λ (Y : State). Y.tables) same })
        (cleans ∙ ap (λ (Y : State). Y.storage) same)
        ∙ perform_all (Keep x n) (lent p st) (early n w.opened w.entry w.place st) (omega arith) (omega (arith, wants_others)) (omega arith)

  -- ---- all that stay are own

  module _ (all : n ≤ own.bytes) where
    same_count : length mine ≡ length (kept T s n)
    same_count = omega (arith, few, cut_enough T.stock (buffer_total T) (length mine) (spans T s) n good (omega (arith, own_bytes, ap total front)))

    no_others : kept_not_own T s n ≡ []
    no_others = drop_of_length-le (kept T s n) {i = length mine} (omega (arith, same_count))

    -- the last is long enough to be shortened, and its place is small
    pub last_long : (own.last ≡ 0 → ⊥)
        → (own.bytes - n ≤ (piece T (own.last - 1)).len) × ((piece T (own.last - 1)).offset + (piece T (own.last - 1)).len < 65536)
    last_long z =
        let u = link_leads T own.last w.opened.sound (subst (λ (x : ℕ). Is (link_ok T x)) (sym own_last) laws.last_ok) z in (
          omega (arith, own_bytes, (reach same_count).1 (λ e. z (own_last ∙ e)), ap (λ (x : ℕ). (piece T (x - 1)).len) own_last),
          omega (arith, u.most),
        )

    module _ {q : List ℕ} (was : Holds q h (shortened_by T own.last (own.bytes - n))) where
      -- shortening it is the rule's
      short_is : decode q ≡ shortened T mine (kept T s n)
      short_is =
          let o : own.bytes - n ≡ total (stretches T mine) - n = ap (λ (x : ℕ). x - n) own_bytes in
          was.is ∙ ap (λ (x : ℕ). shortened_by T x (own.bytes - n)) own_last
          ∙ shortened_is T T.stock (buffer_total T) mine (kept T s n) (spans T s) n (own.bytes - n) good front refl same_count (omega (arith, part)) o

      pub short_hangable : Hangable (decode q) own.last 0
      short_hangable =
          let ok = shortened_ok T (head_of T s) mine (kept T s n) run (kept_good T s n sound) sound in
          to_hang q (shortened T mine (kept T s n)) 0 short_is refl ok.1 ok.2 (ok.0.0, reorder (λ x. omega arith) ok.0.1)

      pub keep_short : {a : Step} {v : SlipState} {r after : List ℕ} (st : List ℕ) → Holds r h (hung_to (decode q) s own.last 0) × (after ≡ hung_storage (decode q) st s own.last 0)
          → a ≡ record { state = v; number = 0 } → AllBytes r → result_of (Ok a) r after [] no_view ≡ perform (Keep x n) (lent p st)
      unfolding kept_by
      keep_short st is =
          keep_done st (omega (arith, ap length no_others)) (hung q (shortened T mine (kept T s n)) 0 short_is refl st (left st) (ap (kept_by (state_in (lent p st)) s mine (kept T s n)) (sym no_others)) is)

  -- ---- some that stay are not own

  -- they are the chain's, behind the own ones
  pub others_there : IsOk (part_of T own.next (n - own.bytes))
  unfolding part_of whether◌then◌else◌
  others_there =
      let e = total_append (take (length mine) (spans T s)) (drop (length mine) (spans T s)) in
      rw (le-leb (n - own.bytes) (total (stretches_from T own.next)) (omega (arith, part, own_bytes, ap total front, ap total behind, e, ap total (take-append-drop (length mine) (spans T s))))) refl

  pub next_long : (own.next ≡ 0 → ⊥) → 0 < (piece T (own.next - 1)).len
  next_long z = omega (arith, (link_leads T own.next w.opened.sound next_ok z).some_bytes)

  module _ {r : Result ℕ ℕ} {k : ℕ} (is : r ≡ part_of T own.next (n - own.bytes)) (count : (r ≡ Ok k) ⊎ (r ≡ Err k)) where
    -- how many are replaced, as the code counts and copies them
    pub others_cut : k ≡ length (cut_out (stretches_from T own.next) 0 (n - own.bytes))
    others_cut =
        ⊎_elim (λ e. (part_ok T own.next (n - own.bytes) (sym e ∙ is)).0) (λ e. (part_err T own.next (n - own.bytes) (sym e ∙ is)).0) count

    others : k ≡ length (kept_not_own T s n)
    others = others_cut ∙ sym (ap length rest)

    pub keep_pieces : (st : List ℕ) → length (free_pieces T) < k → result_of (Err Pieces) p st [] no_view ≡ perform (Keep x n) (lent p st)
    keep_pieces st f = keep_full st (omega (arith, others))

    module _ {q : List ℕ} {first : ℕ} (was : Holds q h (built T (free_pieces T) (cut_out (stretches_from T own.next) 0 (n - own.bytes)) 0))
        (link : first ≡ built_link (free_pieces T) (cut_out (stretches_from T own.next) 0 (n - own.bytes)) 0) where
      -- the copies are the rule's
      abbrev U : Tables
      U = built T (free_pieces T) (kept_not_own T s n) 0

      is_built : decode q ≡ U
      is_built = was.is ∙ ap (λ (ys : List Stretch). built T (free_pieces T) ys 0) (sym rest)

      is_link : first ≡ built_link (free_pieces T) (kept_not_own T s n) 0
      is_link = link ∙ ap (λ (ys : List Stretch). built_link (free_pieces T) ys 0) (sym rest)

      pub new_small : first < 65535
      new_small = omega (arith, new_link T (kept_not_own T s n) 0 is_link (omega arith), total_pieces (whole w.opened.shaped), w.opened.few_pieces_lem)

      pub new_hangable : Hangable (decode q) own.last first
      new_hangable =
          let fs = free_pieces T in
          let ys = kept_not_own T s n in
          to_hang q U (built_link fs ys 0) is_built is_link (built_kept T fs ys 0).slips_kept
          (own_list_still T U (head_of T s) mine (λ d c. built_own T fs ys 0 (free_pieces_lem T) d c) run)
          (built_sound T fs ys 0 {fl = []} (free_pieces_lem T) (good_drop T.stock (buffer_total T) (length mine) (kept T s n) (kept_good T s n sound)) (sound.0, reorder (λ x. omega arith) sound.1))

      pub keep_new : {a : Step} {v : SlipState} {r after : List ℕ} (st : List ℕ) → own.bytes < n → k ≤ length (free_pieces T)
          → Holds r h (hung_to (decode q) s own.last first) × (after ≡ hung_storage (decode q) st s own.last first)
          → a ≡ record { state = v; number = 0 } → AllBytes r → result_of (Ok a) r after [] no_view ≡ perform (Keep x n) (lent p st)
      keep_new st some f hangs =
          let S = state_in (lent p st) in
          let ys = kept_not_own T s n in
          let not_all : length mine ≡ length (kept T s n) → ⊥ = λ e. omega (arith, some, own_bytes, (reach e).0) in
          let same = kept_others S s mine (kept T s n) ys (omega (arith, few, not_all, length-drop (length mine) (kept T s n))) in
          keep_done st (omega (arith, others)) (hung q U (built_link (free_pieces T) ys 0) is_built is_link st (left st) same hangs)
