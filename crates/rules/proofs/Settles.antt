-- What is claimed of a call leaves nothing free: two results of which a claim holds agree. Assumes nothing.
use mathlib.Core.Path.{◌≡◌, refl, sym, ap, ◌∙◌}
use mathlib.Core.Logic.{◌≢◌, ◌↔◌, ⊎_elim}
use mathlib.Core.List.{List, [], ◌∷◌, ◌++◌, map}
use Prim.Native.Nat.{ℕ, zero, suc, ◌+◌, ◌*◌, ◌≤◌, ◌<◌}
use native.Mathlib.Decide.{ℕ_discrete, dec_lt}
use native.Mathlib.Omega.{arith}
use lib.ListN.{length, get_or}
use lib.Seq.{ext_get_or}
use Rattle.rules.specs.Basics.{bit, passing}
use Rattle.rules.specs.Tables.{Tables, blank, is_blank, serial, piece, buffer_count, head_of, slip_total, piece_total, buffer_total}
use Rattle.rules.specs.Bytes.{decode}
use Rattle.rules.specs.Chain.{State, Stretch, follow, walk, chain, spans, first_length, length_of, contents}
use Rattle.rules.specs.Sound.{Lent, lent}
use Rattle.rules.specs.Room.{is_free_with, is_unheld}
use Rattle.rules.specs.Build.{buffers_for}
use Rattle.rules.specs.Rule.{Name, Wants, want, View}
use Rattle.rules.specs.Step.{Operation, Audit, Put, Free, Dup, Cut, Append, Drop, Keep, Pullup, Pack, Length, Read, Show, WireList}
use Rattle.rules.specs.Pack.{in_one, pack_wants}
use Rattle.rules.specs.Step.{Call, Open, Do, Result, rule, step, state_in, next, after_calls}
use Rattle.rules.specs.Recount.{Reached, headed, after, reached, references, holders, counted_by, recounted, leaves, Recount}
use Rattle.rules.specs.Back.{turned_past}
use Rattle.rules.specs.Demand.{early, wanted, left, CallOk, Each, DemandThree}
use Rattle.rules.specs.Takes.{took_slips, took_pieces, took_buffers, Took}
use Rattle.rules.specs.Answers.{LowestReady, NamesLowest, Answered, AnsweredBy, Numbers, Shown, Unseen, Seen, SeenBy, Outputs, Opened}
use Rattle.rules.specs.Fills.{wholes, Filled}
use Rattle.rules.proofs.Logic.{if_either, is_dec, bit_F, bit_one}
use Rattle.rules.proofs.Sums.{sum_to_lt, sum_to_one, sum_to_both}
use Rattle.rules.proofs.Audit.{blank_is}
use Rattle.rules.proofs.Bytes.{decode_slips, decode_serials}
use Rattle.rules.proofs.Blind.{Alike, references_alike, holders_alike}

-- ---- the recount

-- Tables with the same slips, nexts and pieces' buffers have the same counts where the recount agrees with both.
pub counts_settled : {T T' : Tables} → Alike T T' → Recount T → Recount T'
    → ((d : ℕ) → d < piece_total T → (piece T d).count ≡ (piece T' d).count) × ((b : ℕ) → b < buffer_total T → buffer_count T b ≡ buffer_count T' b)
counts_settled a r q = (
  λ d l. r.piece_counts d l ∙ references_alike a d ∙ sym (q.piece_counts d (omega (arith, a.pieces))),
  λ b l. r.buffer_counts b l ∙ holders_alike a b ∙ sym (q.buffer_counts b (omega (arith, a.buffers))),
)

-- A piece that is not reached is free.
pub free_settled : (T : Tables) → Recount T → (d : ℕ) → d < piece_total T → (Reached T d → ⊥) → piece T d ≡ blank
free_settled T r d l n =
    let P = piece_total T in
    let f : ℕ → ℕ = λ j. bit (is_blank (piece T j)) + bit (reached T j) in
    let most : (j : ℕ) → f j ≤ 1 = λ j. ⊎_elim
    (λ t. omega (arith, bit_one (is_blank (piece T j)), bit_F (reached T j) (λ u. r.not_both j ((r.reached_is j).0 u) (blank_is (piece T j) t))))
    (λ t. omega (arith, bit_F (is_blank (piece T j)) t, bit_one (reached T j)))
    (is_dec (is_blank (piece T j))) in
    ⊎_elim (blank_is (piece T d))
    (λ t. absurd (omega (
      arith,
      r.stock,
      sum_to_both P (λ j. bit (is_blank (piece T j))) (λ j. bit (reached T j)),
      sum_to_one P,
      sum_to_lt P d f (λ _. 1) l (omega (arith, bit_F (is_blank (piece T d)) t, bit_F (reached T d) (λ u. n ((r.reached_is d).0 u)))) most,
    )))
    (is_dec (is_blank (piece T d)))

-- ---- chains

-- piece i of a walk is where i follows lead; and where k follows lead nowhere, as many as there are pieces do
walk_at : (k n : ℕ) (T : Tables) (i : ℕ) → i < length (walk k T n) → follow T i n ≡ suc (get_or (walk k T n) i 0)
unfolding walk follow
walk_at zero n T i l = absurd (omega arith)
walk_at (suc k) zero T i l = absurd (omega arith)
walk_at (suc k) (suc d) T zero l = refl
walk_at (suc k) (suc d) T (suc i) l = walk_at k (piece T d).next T i (omega arith)

walk_ends : (k n : ℕ) (T : Tables) → follow T k n ≡ 0 → follow T (length (walk k T n)) n ≡ 0
unfolding walk follow
walk_ends zero n T e = e
walk_ends (suc k) zero T e = refl
walk_ends (suc k) (suc d) T e = walk_ends k (piece T d).next T e

walk_met : (k n : ℕ) (T : Tables) (i : ℕ) → ((x : ℕ) → n ≡ suc x → Reached T x) → i < length (walk k T n) → Reached T (get_or (walk k T n) i 0)
unfolding walk
walk_met zero n T i h l = absurd (omega arith)
walk_met (suc k) zero T i h l = absurd (omega arith)
walk_met (suc k) (suc d) T zero h l = h d refl
walk_met (suc k) (suc d) T (suc i) h l = walk_met k (piece T d).next T i (λ x e. after d (h d refl) e) (omega arith)

-- A chain has each piece once, all below P, and the last one leads nowhere.
pub chain_settled : (T : Tables) → Recount T → (s : ℕ) → s < slip_total T
    → ((i j : ℕ) → i < length (chain T s) → j < length (chain T s) → get_or (chain T s) i 0 ≡ get_or (chain T s) j 0 → i ≡ j)
    × ((i : ℕ) → i < length (chain T s) → get_or (chain T s) i 0 < piece_total T)
    × (follow T (length (chain T s)) (head_of T s) ≡ 0)
chain_settled T r s l =
    let P = piece_total T in
    let n = head_of T s in (
      λ i j a b e. r.never_back s (get_or (chain T s) j 0) i j l (walk_at P n T i a ∙ ap suc e) (walk_at P n T j b),
      λ i a. r.in_stock (get_or (chain T s) i 0) (walk_met P n T i (λ x e. headed s l e) a),
      walk_ends P n T (r.ends s l),
    )

-- ---- numbers

lowest_one : (T : Tables) (t u : ℕ) → LowestReady T t → LowestReady T u → t ≡ u
lowest_one T t u x y =
    elim (dec_lt t u) [
      | yes l ↦ absurd (y.lowest t l x.ready)
      | no l ↦ elim (dec_lt u t) [ yes k ↦ absurd (x.lowest u k y.ready) | no k ↦ omega arith ]
    ]

names_one : (T : Tables) (n k : ℕ) → NamesLowest T n → NamesLowest T k → n ≡ k
names_one T n k (t, x, e) (u, y, f) = e ∙ ap (λ v. v + 65536 * serial T v) (lowest_one T t u x y) ∙ sym f

answered_one : (o : Operation) (S : State) (n k : ℕ) → Answered o S n → Answered o S k → n ≡ k
answered_one Audit S n k x y = x ∙ sym y
answered_one (Put input) S n k x y = names_one S.tables n k x y
answered_one (Free s) S n k x y = x ∙ sym y
answered_one (Dup s) S n k x y = names_one S.tables n k x y
answered_one (Cut s off j) S n k x y = names_one S.tables n k x y
answered_one (Append a b) S n k x y = x ∙ sym y
answered_one (Drop s j) S n k x y = x ∙ sym y
answered_one (Keep s j) S n k x y = x ∙ sym y
answered_one (Pullup s j) S n k x y = x ∙ sym y
answered_one (Pack s) S n k x y = x ∙ sym y
answered_one (Length s) S n k x y = x ∙ sym y
answered_one (Read s off j out) S n k x y = x ∙ sym y
answered_one (Show s j scratch) S n k x y = x ∙ sym y
answered_one (WireList s list) S n k x y = x ∙ sym y

by_one : (c : Call) (m : Lent) (n k : ℕ) → AnsweredBy c m n → AnsweredBy c m k → n ≡ k
by_one (Open B P S) m n k x y = x ∙ sym y
by_one (Do o) m n k x y = answered_one o (state_in m) n k x y

module _ (c : Call) (m : Lent) (r q : Result) where
  -- Code and call settle the number.
  pub number_settled : r.code ≡ q.code → Numbers c m r → Numbers c m q → r.number ≡ q.number
  number_settled e x y =
      elim (ℕ_discrete r.code 0) [
        | yes z ↦ by_one c m r.number q.number (x.when_done z) (y.when_done (sym e ∙ z))
        | no z ↦ (x.when_refused z).number ∙ sym (y.when_refused (λ w. z (e ∙ w))).number
      ]

  -- A no is settled by its code.
  pub no_settled : r.code ≢ 0 → r.code ≡ q.code → Numbers c m r → Numbers c m q → r ≡ q
  no_settled z e x y =
      let a = x.when_refused z in
      let b = y.when_refused (λ w. z (e ∙ w)) in
      let s = a.in_scratch_lem ∙ sym b.in_scratch_lem in
      let t = a.start ∙ sym b.start in
      λ i. record {
        code = e i;
        number = (a.number ∙ sym b.number) i;
        pool = (a.pool ∙ sym b.pool) i;
        storage = (a.storage ∙ sym b.storage) i;
        output = (a.output ∙ sym b.output) i;
        view = record { in_scratch = s i; start = t i };
      }

-- ---- views

start_one : (Z : List ℕ) (xs : List Stretch) (n : ℕ) (v w : View) → n ≤ first_length xs → Shown Z xs n v → Shown Z xs n w → v.start ≡ w.start
start_one Z xs zero v w l x y = x.at_none refl ∙ sym (y.at_none refl)
start_one Z [] (suc n) v w l x y = absurd (omega arith)
start_one Z (z ∷ zs) (suc n) v w l x y = x.at_first z zs refl (omega arith) l ∙ sym (y.at_first z zs refl (omega arith) l)

view_is : (v w : View) → v.in_scratch ≡ w.in_scratch → v.start ≡ w.start → v ≡ w
view_is v w e f = λ i. record { in_scratch = e i; start = f i }

shown_one : (Z : List ℕ) (xs : List Stretch) (n : ℕ) (v w : View) → Shown Z xs n v → Shown Z xs n w → v ≡ w
shown_one Z xs n v w x y =
    elim (dec_lt (first_length xs) n) [
      | yes l ↦ (
          let a = x.in_scratch_lem l in
          let b = y.in_scratch_lem l in
          view_is v w (a.0 ∙ sym b.0) (a.1 ∙ sym b.1))
      | no l ↦ view_is v w (x.in_storage.1 (omega arith) ∙ sym (y.in_storage.1 (omega arith))) (start_one Z xs n v w (omega arith) x y)
    ]

unseen_one : (v w : View) → Unseen v → Unseen w → v ≡ w
unseen_one v w x y = view_is v w (x.0 ∙ sym y.0) (x.1 ∙ sym y.1)

seen_one : (o : Operation) (S : State) (v w : View) → Seen o S v → Seen o S w → v ≡ w
seen_one Audit S v w x y = unseen_one v w x y
seen_one (Put input) S v w x y = unseen_one v w x y
seen_one (Free s) S v w x y = unseen_one v w x y
seen_one (Dup s) S v w x y = unseen_one v w x y
seen_one (Cut s off n) S v w x y = unseen_one v w x y
seen_one (Append a b) S v w x y = unseen_one v w x y
seen_one (Drop s n) S v w x y = unseen_one v w x y
seen_one (Keep s n) S v w x y = unseen_one v w x y
seen_one (Pullup s n) S v w x y = unseen_one v w x y
seen_one (Pack s) S v w x y = unseen_one v w x y
seen_one (Length s) S v w x y = unseen_one v w x y
seen_one (Read s off n out) S v w x y = unseen_one v w x y
seen_one (Show s n scratch) S v w x y = shown_one S.tables.stock (spans S.tables s.slip) n v w x y
seen_one (WireList s list) S v w x y = unseen_one v w x y

by_seen : (c : Call) (m : Lent) (v w : View) → SeenBy c m v → SeenBy c m w → v ≡ w
by_seen (Open B P S) m v w x y = unseen_one v w x y
by_seen (Do o) m v w x y = seen_one o (state_in m) v w x y

-- The view of a done call is settled, and so is the length of what it was lent.
pub view_settled : (c : Call) (m : Lent) (r q : Result) → r.code ≡ 0 → q.code ≡ 0 → Outputs c m r → Outputs c m q
    → (r.view ≡ q.view) × (length r.output ≡ length q.output)
view_settled c m r q e f x y = (by_seen c m r.view q.view (x.view_done e) (y.view_done f), x.as_long ∙ sym y.as_long)

-- ---- what open leaves

-- there are as many serials as slips
serials_many : (p : List ℕ) → length (decode p).serials ≡ slip_total (decode p)
serials_many p = decode_serials p ∙ sym (decode_slips p)

-- A done open settles every entry of the three tables, and storage.
pub opened_settled : (B P S : ℕ) (m a b : Lent) → Opened B P S m a → Opened B P S m b
    → ((decode a.pool).slips ≡ (decode b.pool).slips) × ((decode a.pool).serials ≡ (decode b.pool).serials) × ((decode a.pool).pieces ≡ (decode b.pool).pieces)
    × ((decode a.pool).counts ≡ (decode b.pool).counts) × (a.storage ≡ b.storage)
opened_settled B P S m a b x y = (
  ext_get_or 0 _ _ (x.slips ∙ sym y.slips) (λ i _. x.all_vacant i ∙ sym (y.all_vacant i)),
  ext_get_or 0 _ _ (serials_many a.pool ∙ x.slips ∙ sym y.slips ∙ sym (serials_many b.pool)) (λ i _. x.all_first i ∙ sym (y.all_first i)),
  ext_get_or blank _ _ (x.pieces ∙ sym y.pieces) (λ i _. x.all_blank i ∙ sym (y.all_blank i)),
  ext_get_or 0 _ _ (x.buffers ∙ sym y.buffers) (λ i _. x.none_held i ∙ sym (y.none_held i)),
  x.storage ∙ sym y.storage,
)

-- ---- what is filled, and what is taken

-- What is stored settles every byte of the buffers that it fills.
pub filled_settled : (Z st st' bs xs : List ℕ) → Filled Z st bs xs → Filled Z st' bs xs → contents Z st (wholes Z bs) ≡ contents Z st' (wholes Z bs)
filled_settled Z st st' bs xs x y = x ∙ sym y

-- What is wanted settles which slips, pieces and buffers are taken, and in which order they stand in the chain.
pub took_settled : (T A B : Tables) (w : Wants) (t : ℕ) → Took T A w t → Took T B w t
    → (took_slips T A ≡ took_slips T B) × (took_pieces T A w.back ≡ took_pieces T B w.back) × (took_buffers T A ≡ took_buffers T B)
    × (passing (is_free_with T w.back) (chain A t) ≡ passing (is_free_with T w.back) (chain B t))
    × (passing (is_unheld T) (map (λ (x : Stretch). x.buffer) (spans A t)) ≡ passing (is_unheld T) (map (λ (x : Stretch). x.buffer) (spans B t)))
took_settled T A B w t x y = (
  x.slips ∙ sym y.slips,
  x.pieces ∙ sym y.pieces,
  x.buffers ∙ sym y.buffers,
  x.pieces_order ∙ sym y.pieces_order,
  x.buffers_order ∙ sym y.buffers_order,
)

-- ---- demand 3

-- Each call of a list is judged on the pool as the calls before it leave it.
each_at : (cs : List Call) (c : Call) (ds : List Call) (m : Lent) → Each (cs ++ (c ∷ ds)) m → CallOk c (after_calls cs m)
each_at [] c ds m x = x.0
each_at (b ∷ cs) c ds m x = each_at cs c ds (next b m) x.1

-- drop and pack want no slip
no_slips_drop : (s : Name) (n : ℕ) (m : Lent) → (wanted (Do (Drop s n)) m).slips ≤ (left m).slips
unfolding wanted rule
no_slips_drop s n m = omega arith

no_slips_pack : (s : Name) (m : Lent) → (wanted (Do (Pack s)) m).slips ≤ (left m).slips
unfolding wanted rule pack_wants
no_slips_pack s m =
    let T = recounted (decode m.pool) in
    let k = buffers_for (length_of T s.slip) in
    if_either (λ (w : Wants). w.slips ≤ (left m).slips) (in_one T s.slip) (want 0 0 0) (want 0 k k) (λ _. omega arith) (λ _. omega arith)

-- So after any open that is done, and any calls, no call answers 2; it answers 8, 9 or 10 where no code judged before applies and more is wanted
-- than the recount leaves and the call gives back first, and it answers none of them where there is enough.
pub demand_codes : DemandThree → (B P S : ℕ) (m : Lent) (cs : List Call) (c : Call) → (step (Open B P S) m).code ≡ 0
    → let m₁ = after_calls cs (next (Open B P S) m) in
    let k = (step c m₁).code in
    (k ≢ 2)
    × (early c m₁ ≡ 0 → (left m₁).slips < (wanted c m₁).slips → k ≡ 8)
    × (early c m₁ ≡ 0 → (wanted c m₁).slips ≤ (left m₁).slips → length (wanted c m₁).back + (left m₁).pieces < (wanted c m₁).pieces → k ≡ 9)
    × (early c m₁ ≡ 0 → (wanted c m₁).slips ≤ (left m₁).slips → (wanted c m₁).pieces ≤ length (wanted c m₁).back + (left m₁).pieces
    → (left m₁).buffers < (wanted c m₁).buffers → k ≡ 10)
    × ((wanted c m₁).slips ≤ (left m₁).slips → k ≢ 8) × ((wanted c m₁).pieces ≤ length (wanted c m₁).back + (left m₁).pieces → k ≢ 9) × ((wanted c m₁).buffers ≤ (left m₁).buffers → k ≢ 10)
demand_codes d B P S m cs c e =
    let x = each_at cs c [] (next (Open B P S) m) (d B P S m (cs ++ (c ∷ [])) e).each in (
      x.not_torn,
      λ a h. x.slips_full.1 (a, h),
      λ a s h. x.pieces_full.1 (a, s, h),
      λ a s p h. x.buffers_full.1 (a, s, p, h),
      λ h k. omega (arith, (x.slips_full.0 k).1),
      λ h k. omega (arith, (x.pieces_full.0 k).2),
      λ h k. omega (arith, (x.buffers_full.0 k).3),
    )

-- After any list of calls, where no code judged before room applies: drop answers 9 exactly where it wants more than the recount leaves once the slip heads
-- the first piece with a byte past n, and pack exactly where it wants more than the recount leaves.
pub demand_room : DemandThree → (B P S : ℕ) (m : Lent) (cs : List Call) (s : Name) (n : ℕ) → (step (Open B P S) m).code ≡ 0
    → let m₁ = after_calls cs (next (Open B P S) m) in
    let T = decode m₁.pool in
    (early (Do (Drop s n)) m₁ ≡ 0 → ((step (Do (Drop s n)) m₁).code ≡ 9) ↔ ((leaves (turned_past T s.slip n)).pieces < (wanted (Do (Drop s n)) m₁).pieces))
    × (early (Do (Pack s)) m₁ ≡ 0 → ((step (Do (Pack s)) m₁).code ≡ 9) ↔ ((left m₁).pieces < (wanted (Do (Pack s)) m₁).pieces))
demand_room d B P S m cs s n e =
    let m₀ = next (Open B P S) m in
    let m₁ = after_calls cs m₀ in
    let T = decode m₁.pool in
    let x : CallOk (Do (Drop s n)) m₁ = each_at cs (Do (Drop s n)) [] m₀ (d B P S m (cs ++ (Do (Drop s n) ∷ [])) e).each in
    let y : CallOk (Do (Pack s)) m₁ = each_at cs (Do (Pack s)) [] m₀ (d B P S m (cs ++ (Do (Pack s) ∷ [])) e).each in (
      λ a. (λ k. omega (arith, (x.pieces_full.0 k).2, (x.gives_first a).room), λ l. x.pieces_full.1 (a, no_slips_drop s n m₁, omega (arith, l, (x.gives_first a).room))),
      λ a. (λ k. omega (arith, (y.pieces_full.0 k).2, ap length (y.gives_first a)), λ l. y.pieces_full.1 (a, no_slips_pack s m₁, omega (arith, l, ap length (y.gives_first a)))),
    )

-- After any two lists of calls, pools that agree in slips, nexts and pieces' buffers agree in every count.
pub demand_counts : DemandThree → (B P S B' P' S' : ℕ) (m m' : Lent) (cs cs' : List Call)
    → (step (Open B P S) m).code ≡ 0 → (step (Open B' P' S') m').code ≡ 0
    → let T = decode (after_calls cs (next (Open B P S) m)).pool in
    let T' = decode (after_calls cs' (next (Open B' P' S') m')).pool in
    Alike T T'
    → ((d : ℕ) → d < piece_total T → (piece T d).count ≡ (piece T' d).count) × ((b : ℕ) → b < buffer_total T → buffer_count T b ≡ buffer_count T' b)
demand_counts d B P S B' P' S' m m' cs cs' e e' a = counts_settled a (d B P S m cs e).recount (d B' P' S' m' cs' e').recount

-- After any list of calls, a pool that differs in stored counts alone has the same references, and the same is wanted and left.
pub demand_blind : DemandThree → (B P S : ℕ) (m : Lent) (cs : List Call) (c : Call) → (step (Open B P S) m).code ≡ 0
    → let m₁ = after_calls cs (next (Open B P S) m) in
    let T = decode m₁.pool in
    (q : List ℕ) (f g : ℕ → ℕ) → decode q ≡ counted_by T f g
    → (wanted c (lent q m₁.storage) ≡ wanted c m₁) × (left (lent q m₁.storage) ≡ left m₁)
    × ((d : ℕ) → references (decode q) d ≡ references T d) × ((b : ℕ) → holders (decode q) b ≡ holders T b)
demand_blind d B P S m cs c e q f g h =
    let x = (each_at cs c [] (next (Open B P S) m) (d B P S m (cs ++ (c ∷ [])) e).each).blind q f g h in
    let y = (d B P S m cs e).blind f g in
    (x.0, x.1, λ i. ap (λ (X : Tables). references X i) h ∙ y.same_references i, λ i. ap (λ (X : Tables). holders X i) h ∙ y.same_holders i)
