-- free: soundness is kept, and that it is lawful. Assumes nothing.
use mathlib.Core.Path.{◌∙◌, ap, refl}
use mathlib.Core.Logic.{inl}
use mathlib.Core.List.{List, [], ◌∷◌}
use Prim.Native.Nat.{ℕ, ◌<◌, pred}
use native.Mathlib.Omega.{arith}
use native.Mathlib.Decide.{ℕ_discrete}
use lib.ListN.{get_or, set}
use Rattle.kinds.specs.Serial.{older}
use Rattle.rules.specs.Basics.{whether◌then◌else◌}
use Rattle.rules.specs.Tables.{slip_total, slip, vacant, Tables, buffer_total}
use Rattle.rules.specs.Chain.{State}
use Rattle.rules.specs.Release.{turned}
use Rattle.rules.specs.Rule.{Name, vacating, want}
use Rattle.rules.specs.Free.{free_after, free_call}
use Rattle.rules.specs.Takes.{Took}
use Rattle.rules.proofs.Moves.{SoundNow, reorder, SoundWith}
use Rattle.rules.proofs.Release.{turned_sound}
use Rattle.rules.proofs.Hang.{turned_entries, turned_entry, turned_others}
use Rattle.rules.proofs.Contents.{Fit}
use Rattle.rules.proofs.Codes.{first_named}
use Rattle.rules.proofs.Caused.{found, slip_one, twice_one, none_less}
use Rattle.rules.proofs.Sizes.{turned_sizes, same_sizes}
use Rattle.rules.proofs.After.{Reading, gone_reading}
use Rattle.rules.proofs.Takes.{old_as, old_none, took_none}
use Rattle.rules.proofs.Aged.{aged_sound, aged_reading, aged_stays, aged_took}
use Rattle.rules.proofs.Lawful.{Lawful, Causing}
use Rattle.rules.proofs.Storage.{turned_keeps, keeps_spans}
use Rattle.rules.proofs.Stays.{stays_as, stays_then}

-- the link that its slip then holds leads nowhere
no_head : (T : Tables) → SoundNow T → SoundWith (pred vacant ∷ []) T
no_head T h = (h.0, reorder (λ d. omega arith) h.1)

pub free_sound : (s : ℕ) (S : State) → s < slip_total S.tables → SoundNow S.tables → SoundNow (free_after s S).tables
free_sound s S l h = aged_sound s (turned_sound S s _ l (no_head S.tables h))

-- ---- free is lawful

free_leaves : (s : ℕ) (S : State) → s < slip_total S.tables → SoundNow S.tables → Fit S.tables.stock (buffer_total S.tables) S.storage
    → SoundNow (turned S s vacant).tables → Reading S (turned S s vacant) (vacating s ∷ [])
free_leaves s S b h f h' =
    let T = S.tables in
    let k = no_head T h in
    gone_reading S (turned S s vacant) s (keeps_spans T.stock refl (turned_keeps S s 0 b k f) h')
    (turned_entry S s 0 b k) (turned_entries S s 0 b k) (turned_others S s 0 b k) h h'

-- it takes nothing
free_takes : (s : ℕ) (S : State) → s < slip_total S.tables → SoundNow S.tables → SoundNow (turned S s vacant).tables
    → Took S.tables (turned S s vacant).tables (want 0 0 0) s
free_takes s S b h h' =
    let T = S.tables in
    let T' = (turned S s vacant).tables in
    let k = no_head T h in
    let gone = turned_entry S s 0 b k in
    let stay = turned_entries S s 0 b k in
    took_none T T' s h'
    (λ u. elim (ℕ_discrete u s) [ yes e ↦ old_none T T' u h' (ap (slip T') e ∙ gone) | no e ↦ old_as T T' u u h h' (stay u e) (turned_others S s 0 b k u e) ])
    (λ u z. elim (ℕ_discrete u s) [ yes e ↦ ap (slip T') e ∙ gone | no e ↦ stay u e ∙ z ])

free_caused : (x : Name) → Causing (free_call x)
unfolding found whether◌then◌else◌
free_caused x S h f = record {
  below = omega arith;
  slip = slip_one S.tables x;
  same = twice_one x.slip;
  long = none_less 512;
  range = none_less _;
  narrow = none_less 0;
  asked = λ z. refl;
}

pub free_lawful : (x : Name) → Lawful (free_call x)
free_lawful x =
    let s = x.slip in
    record {
      codes = λ S. omega arith;
      sizes = λ S. (
          let z = turned_sizes S s vacant in
          record {
            slips_size = z.slips_size;
            pieces_size = z.pieces_size;
            counts_size = z.counts_size;
            serials_kept = ap (λ (ks : List ℕ). set ks s (older (get_or ks s 0))) z.serials_kept;
            stock_kept = z.stock_kept;
          });
      ages = λ S a. (λ _. (first_named S.tables x [] a.early).0, λ v. v, tt);
      stays = λ S h f a. (
          let l = (first_named S.tables x [] a.early).0 in
          aged_stays S (turned S s vacant) s 0
          (stays_then (same_sizes S.tables) (λ b _ u. u) (λ b u. u) (stays_as S S 0 refl (λ b u. u)) (turned_keeps S s vacant l (no_head S.tables h) f)));
      sound = λ S h a. free_sound s S (first_named S.tables x [] a.early).0 h;
      known = λ S _. (inl refl, tt);
      caused = free_caused x;
      leaves = λ S h f a _. (
          let l = (first_named S.tables x [] a.early).0 in
          aged_reading S (turned S s vacant) s (vacating s ∷ []) (free_leaves s S l h f (turned_sound S s _ l (no_head S.tables h))));
      takes = λ S h a _. (
          let l = (first_named S.tables x [] a.early).0 in
          aged_took s (free_takes s S l h (turned_sound S s _ l (no_head S.tables h))));
    }
