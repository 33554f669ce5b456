-- Every operation is lawful, and the laws of all operations that follow. Assumes nothing.
use mathlib.Core.Path.{◌≡◌, sym, ap, subst, ◌∙◌}
use mathlib.Core.Bool.{Bool, false, not, ◌&&◌}
use mathlib.Core.List.{List, Memᴰ}
use Prim.Native.Nat.{◌<◌, ℕ}
use native.Mathlib.Omega.{arith}
use lib.ListN.{length, get_or}
use lib.Dec.{eqb→eq, T_not}
use Rattle.kinds.specs.declared.Refusal.TheVariants.{Torn}
use Rattle.kinds.specs.Refusal.{refusal_code}
use Rattle.rules.specs.Basics.{Is}
use Rattle.rules.specs.Tables.{serial, buffer_count, slip_total, buffer_total, with_serials}
use Rattle.rules.specs.Chain.{State, reads}
use Rattle.rules.specs.Storage.{Zeroed}
use Rattle.rules.specs.Room.{is_vacant, is_unheld}
use Rattle.rules.specs.Rule.{Change, slips_of, first_code, code_in}
use Rattle.rules.specs.Step.{Operation, Audit, Put, Free, Dup, Cut, Append, Drop, Keep, Pullup, Pack, Length, Read, Show, WireList, meaning, rule}
use Rattle.rules.specs.Causes.{Cause}
use Rattle.rules.specs.After.{Names, ReadsOk, reads_after, vacant_after, vacates, serial_after}
use Rattle.rules.specs.Takes.{TakesOk}
use Rattle.rules.proofs.Logic.{and_0, and_1, not_zero, if_F}
use Rattle.rules.proofs.Moves.{SoundNow}
use Rattle.rules.proofs.Room.{in_passes, all_free}
use Rattle.rules.proofs.Contents.{Fit}
use Rattle.rules.proofs.Recount.{leaves_room}
use Rattle.rules.proofs.Codes.{Allowed, Apart, Other, Rising, apart_first}
use Rattle.rules.proofs.Caused.{Before, Settled, before_settled, code_settled}
use Rattle.rules.proofs.Sizes.{Sizes}
use Rattle.rules.proofs.Storage.{held_bytes}
use Rattle.rules.proofs.After.{with_stock}
use Rattle.rules.proofs.Lawful.{Lawful, Ageable, aged_by, aged_at, others_stay, audit_lawful}
use Rattle.rules.proofs.Put.{put_lawful}
use Rattle.rules.proofs.Free.{free_lawful}
use Rattle.rules.proofs.Dup.{dup_lawful}
use Rattle.rules.proofs.Cut.{cut_lawful}
use Rattle.rules.proofs.Append.{append_lawful}
use Rattle.rules.proofs.Drop.{drop_lawful}
use Rattle.rules.proofs.Keep.{keep_lawful}
use Rattle.rules.proofs.Pullup.{pullup_lawful}
use Rattle.rules.proofs.Pack.{pack_lawful}
use Rattle.rules.proofs.Length.{length_lawful}
use Rattle.rules.proofs.Read.{read_lawful}
use Rattle.rules.proofs.Show.{show_lawful}
use Rattle.rules.proofs.List.{list_lawful}

pub lawful : (o : Operation) → Lawful (meaning o)
lawful Audit = audit_lawful
lawful (Put input) = put_lawful input
lawful (Free s) = free_lawful s
lawful (Dup s) = dup_lawful s
lawful (Cut s off n) = cut_lawful s off n
lawful (Append a b) = append_lawful a b
lawful (Drop s n) = drop_lawful s n
lawful (Keep s n) = keep_lawful s n
lawful (Pullup s n) = pullup_lawful s n
lawful (Pack s) = pack_lawful s
lawful (Length s) = length_lawful s
lawful (Read s off n out) = read_lawful s off n out
lawful (Show s n scratch) = show_lawful s n scratch
lawful (WireList s list) = list_lawful s list

-- Each operation's refusals rise from 2 on.
pub lowest_first : (o : Operation) (S : State) → Rising (refusal_code Torn) (rule o S).judged
unfolding rule
lowest_first o S = ((lawful o).codes S).0

-- none of them is "torn" or "full", nor is the one that is given
pub judged_apart : (o : Operation) (S : State) → Apart (rule o S).judged
unfolding rule
judged_apart o S = ((lawful o).codes S).1

pub judged_early : (o : Operation) (S : State) → Other (first_code (rule o S).judged)
judged_early o S = apart_first (rule o S).judged (judged_apart o S)

-- on a sound pool the code judged before room, and the code, are settled by the causes of document 01's table
pub before_caused : (o : Operation) (S : State) → SoundNow S.tables → Fit S.tables.stock (buffer_total S.tables) S.storage
    → Settled (first_code (rule o S).judged) (Before (meaning o) S)
unfolding rule
before_caused o S h f = before_settled (meaning o) S ((lawful o).codes S) ((lawful o).caused S h f)

pub code_caused : (o : Operation) (S : State) → SoundNow S.tables → Fit S.tables.stock (buffer_total S.tables) S.storage
    → Settled (code_in (rule o S) S.tables) (λ r. Cause r (meaning o) S)
unfolding rule
code_caused o S h f = code_settled (meaning o) S ((lawful o).codes S) ((lawful o).caused S h f) (leaves_room S.tables h)

-- where none is judged before room, what is wanted is what is asked
pub wants_asked : (o : Operation) (S : State) → SoundNow S.tables → Fit S.tables.stock (buffer_total S.tables) S.storage
    → first_code (rule o S).judged ≡ 0 → (rule o S).wants ≡ ((meaning o).asks S).new
unfolding rule
wants_asked o S h f z = ((lawful o).caused S h f).asked z

-- tables and storage stay as long as they were, and only serials of vacated slips move
pub rule_sizes : (o : Operation) (S : State) → Sizes (with_serials S.tables (aged_by ((meaning o).changes S) S.tables.serials)) (rule o S).after.tables
unfolding rule
rule_sizes o S = (lawful o).sizes S

pub rule_storage : (o : Operation) (S : State) → SoundNow S.tables → Fit S.tables.stock (buffer_total S.tables) S.storage
    → Allowed (rule o S) S.tables → length (rule o S).after.storage ≡ length S.storage
unfolding rule
rule_storage o S h f a = ((lawful o).stays S h f a).as_long

-- an operation that is done keeps the tables sound
pub rule_sound : (o : Operation) (S : State) → SoundNow S.tables → Allowed (rule o S) S.tables → SoundNow (rule o S).after.tables
unfolding rule
rule_sound o S h a = (lawful o).sound S h a

-- what every slip then reads, and which slips are vacant
pub reads_ok : (o : Operation) (S : State) → SoundNow S.tables → Fit S.tables.stock (buffer_total S.tables) S.storage → Allowed (rule o S) S.tables → ReadsOk o S
unfolding rule reads_after vacant_after
reads_ok o S h f a = (let S' = (rule o S).after in let r = (lawful o).leaves S h f a (rule_sound o S h a) in record { bytes = λ t. sym (with_stock S S' S' (rule_sizes o S).stock_kept t) ∙ r.bytes t; vacancy = r.vacancy })

-- what the serial of every slip then is
pub rule_serials : (o : Operation) (S : State) → Allowed (rule o S) S.tables → length S.tables.serials ≡ slip_total S.tables
    → (t : ℕ) → serial (rule o S).after.tables t ≡ serial_after o S t
unfolding rule serial_after vacates
rule_serials o S a e t =
    let ks = S.tables.serials in
    ap (λ (qs : List ℕ). get_or qs t 0) ((lawful o).sizes S).serials_kept
    ∙ aged_at ((meaning o).changes S) ks t (subst (λ n. Ageable n ((meaning o).changes S)) (sym e) ((lawful o).ages S a))

-- it takes the lowest free, in chain order
pub takes : (o : Operation) (S : State) → SoundNow S.tables → Allowed (rule o S) S.tables → TakesOk o S
unfolding rule
takes o S h a = (lawful o).takes S h a (rule_sound o S h a)

-- every byte stays of a buffer that is held before and after, or free before and after
pub rule_bytes : (o : Operation) (S : State) → SoundNow S.tables → Fit S.tables.stock (buffer_total S.tables) S.storage
    → Allowed (rule o S) S.tables → (b : ℕ) → b < buffer_total S.tables → is_unheld (rule o S).after.tables b ≡ is_unheld S.tables b
    → held_bytes S.tables (rule o S).after.storage b ≡ held_bytes S.tables S.storage b
unfolding rule
rule_bytes o S h f a b l e =
    let T = S.tables in
    let T' = (rule o S).after.tables in
    let taken : ℕ → Bool = λ x. is_unheld T x && not (is_unheld T' x) in
    ((lawful o).stays S h f a).others b l
    (λ m. (
    let t = in_passes taken 0 (buffer_total T) b _ (all_free taken (buffer_total T)) (subst (Memᴰ b) (sym (takes o S h a).buffers) m) in
    T_not (is_unheld T' b) (and_1 (is_unheld T b) _ t) (subst Is (sym e) (and_0 (is_unheld T b) _ t))))
    (λ u. not_zero (buffer_count T' b) (λ t. omega (arith, eqb→eq (buffer_count T b) 0 (subst Is e t))))

-- and one that it gives back is zero
pub rule_clean : (o : Operation) (S : State) → SoundNow S.tables → Fit S.tables.stock (buffer_total S.tables) S.storage
    → Allowed (rule o S) S.tables → (b : ℕ) → b < buffer_total S.tables → Is (not (is_unheld S.tables b)) → Is (is_unheld (rule o S).after.tables b)
    → Zeroed S.tables.stock (rule o S).after.storage b
unfolding rule
rule_clean o S h f a b l u t =
    ((lawful o).stays S h f a).clean b l (not_zero (buffer_count S.tables b) (T_not (is_unheld S.tables b) u))
    (eqb→eq (buffer_count (rule o S).after.tables b) 0 t)

-- it moves no serial of a held slip that it does not name
pub others_serial : (o : Operation) (S : State) → Allowed (rule o S) S.tables → (t : ℕ) → (Names o t → ⊥) → Is (not (is_vacant S.tables t))
    → serial_after o S t ≡ serial S.tables t
unfolding rule serial_after vacates
others_serial o S a t n v =
    let m = meaning o in
    let same = others_stay (λ (c : Change). c.vacated) (λ u. false) S.tables (slips_of m.names) (m.changes S) t ((lawful o).known S a) n v in
    if_F (vacates o S t) _ _ (λ z. subst Is same z)

-- and it changes no held slip that it does not name
pub others_same : (o : Operation) (S : State) → Allowed (rule o S) S.tables → (t : ℕ) → (Names o t → ⊥) → Is (not (is_vacant S.tables t))
    → (reads_after o S t ≡ reads S t) × (vacant_after o S t ≡ is_vacant S.tables t)
unfolding rule reads_after vacant_after
others_same o S a t n v =
    let m = meaning o in
    let k = (lawful o).known S a in (
      others_stay (λ (c : Change). c.bytes) (reads S) S.tables (slips_of m.names) (m.changes S) t k n v,
      others_stay (λ (c : Change). c.vacated) (is_vacant S.tables) S.tables (slips_of m.names) (m.changes S) t k n v,
    )
