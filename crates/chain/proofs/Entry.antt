-- A slip looked up: what follows from its entry. Assumes nothing.
use mathlib.Core.Path.{◌≡◌, sym, subst, ◌∙◌}
use mathlib.Core.Logic.{◌≢◌, inl, inr, ⊎_elim}
use mathlib.Core.List.{List}
use Prim.Native.Nat.{ℕ, pred, ◌-◌, ◌≤◌, ◌<◌}
use native.Mathlib.Omega.{arith}
use lib.Dec.{eqb→eq}
use Rattle.rules.specs.Basics.{Is}
use Rattle.rules.specs.Tables.{Tables, slip, serial, slip_total}
use Rattle.rules.specs.Bytes.{decode}
use Rattle.rules.specs.Sound.{link_ok}
use Rattle.rules.specs.Rule.{Name, unnamed}
use Rattle.rules.proofs.Caused.{missing_is}
use Rattle.rules.proofs.Logic.{eq→eqb}
use Rattle.layout.specs.declared.Shape.{Shape}
use Rattle.tables.proofs.Laws.{whole, total_slips}
use Rattle.chain.specs.Opened.{Opened}
use Rattle.chain.specs.Enter.{Entered}

-- a name whose slip is no slip of the pool's, or has another serial, is unnamed
pub past_unnamed : (T : Tables) (x : Name) → slip_total T ≤ x.slip → Is (unnamed T x)
past_unnamed T x l = (missing_is T x).1 (inl l)

pub other_unnamed : (T : Tables) (x : Name) → serial T x.slip ≢ x.serial → Is (unnamed T x)
other_unnamed T x n = (missing_is T x).1 (inr (inr n))

-- a slip with its serial is unnamed just where it is vacant, that is where its entry is 0
pub vacant_unnamed : (T : Tables) (x : Name) → slip T x.slip ≡ 0 → Is (unnamed T x)
vacant_unnamed T x e = (missing_is T x).1 (inr (inl (eq→eqb (slip T x.slip) 0 e)))

held_named : (T : Tables) (x : Name) → x.slip < slip_total T → serial T x.slip ≡ x.serial → slip T x.slip ≢ 0 → Is (unnamed T x) → ⊥
held_named T x l k n u =
    ⊎_elim (λ m. omega (arith, l, m)) (⊎_elim (λ v. n (eqb→eq (slip T x.slip) 0 v)) (λ d. d k)) ((missing_is T x).0 u)

-- another entry of a slip with its serial gives the rest
pub entered_some : {p : List ℕ} {h : Shape} {r : ℕ} (x : Name) → Opened p h → x.slip < h.slips → serial (decode p) x.slip ≡ x.serial
    → r ≡ slip (decode p) x.slip → r ≢ 0 → Entered (decode p) h x (r - 1)
entered_some {p} {h} {r} x o b k e n =
    let T = decode p in
    let l : x.slip < slip_total T = omega (arith, b, total_slips (whole o.shaped)) in
    let link : r - 1 ≡ pred (slip T x.slip) = omega (arith, e) in
    record {
      named = held_named T x l k (λ z. n (e ∙ z));
      below = b;
      inside = l;
      entry_is = omega (arith, e);
      link_is = link;
      good = subst (λ (n : ℕ). Is (link_ok T n)) (sym link) (o.sound.slips_ok x.slip l);
    }
