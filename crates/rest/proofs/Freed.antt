-- A chain made under a slip whose old chain was released first, from the numbers that the code has. Assumes nothing.
use mathlib.Core.Path.{◌≡◌, refl, sym, ap, subst, ◌∙◌}
use mathlib.Core.List.{List, [], ◌∷◌}
use Prim.Native.Nat.{ℕ, ◌+◌, ◌≤◌, ◌<◌}
use native.Mathlib.Numerals.{add-one}
use native.Mathlib.Omega.{arith}
use lib.ListN.{length}
use Rattle.rules.specs.Basics.{Is}
use Rattle.rules.specs.Tables.{Tables, buffer_count, holding, slip_total, piece_total, buffer_total, set_slip}
use Rattle.rules.specs.Bytes.{decode}
use Rattle.rules.specs.Chain.{State, Stretch, own_of, with_tables}
use Rattle.rules.specs.Room.{is_free, is_free_with, free_pieces, free_from}
use Rattle.rules.specs.Release.{turned}
use Rattle.rules.specs.Build.{Plan, built, built_link, under_new, under_freed}
use Rattle.rules.proofs.Moves.{SoundWith}
use Rattle.rules.proofs.Build.{Planned, plan_built, built_kept}
use Rattle.rules.proofs.Room.{free_pieces_lem}
use Rattle.rules.proofs.Release.{stored_after, same_storage}
use Rattle.rules.proofs.Freed.{emptied, emptied_sound, emptied_sizes, emptied_frees, made_there, planned_there}
use Rattle.layout.specs.declared.Shape.{Shape}
use Rattle.tables.specs.Shape.{Holds}
use Rattle.tables.proofs.Laws.{onward}
use Rattle.room.proofs.Free.{places_under}
use Rattle.build.proofs.Laws.{buffer_most}
use Rattle.release.specs.Release.{bare, turned_to, turned_storage}
use Rattle.release.proofs.Laws.{turned_tables, held_below}

-- the tables of the plan in which slip s is emptied and its old chain released
abbrev pub emptied_to : Plan → ℕ → Tables
emptied_to p s = turned_to p.base s (holding 0)

emptied_tables : (S : State) (p : Plan) (s : ℕ) → (emptied S p s).tables ≡ emptied_to p s
emptied_tables S p s = turned_tables (with_tables S p.base) s (holding 0)

module _ {T : Tables} (p : Plan) (s : ℕ) (ok : Planned T p) (l : s < slip_total T) where
  abbrev bare_there : State
  bare_there = bare T

  abbrev there : Tables
  there = emptied_to p s

  same : (emptied bare_there p s).tables ≡ there
  same = emptied_tables bare_there p s

  -- as many pieces and buffers
  pub freed_pieces : piece_total there ≡ piece_total T
  freed_pieces = rw (← same) (emptied_sizes bare_there p s ok l).pieces_size

  pub freed_buffers : buffer_total there ≡ buffer_total T
  freed_buffers = rw (← same) (emptied_sizes bare_there p s ok l).counts_size

  -- how many are free, and which: those that were or are given back, from a number on below which none is
  pub freed_count : length (free_pieces there) ≡ length (own_of p.base s) + length (free_pieces T)
  freed_count = rw (← same) (emptied_frees bare_there p s ok l).many

  pub freed_free : (d : ℕ) → Is (is_free there d) → Is (is_free_with T (own_of p.base s) d)
  freed_free d t = subst Is ((emptied_frees bare_there p s ok l).which d) (subst (λ (X : Tables). Is (is_free X d)) (sym same) t)

  pub freed_from : (i : ℕ) → ((d : ℕ) → d < i → Is (is_free_with T (own_of p.base s) d) → ⊥) → free_from there i ≡ free_pieces there
  freed_from i h = places_under (is_free there) i (piece_total there) (λ d k t. h d k (freed_free d t))

  -- what stays is held
  there_sound : SoundWith (p.tail ∷ []) there
  there_sound = rw (← same) (emptied_sound bare_there p s ok l)

  -- no buffer's count is higher than there are pieces
  pub freed_counts : (b : ℕ) → buffer_count there b ≤ piece_total T
  freed_counts b = omega (arith, freed_pieces, buffer_most there there_sound b)

  -- the link to the new chain leads nowhere or to one of the pieces
  pub freed_link : built_link (free_pieces there) p.more p.tail ≤ piece_total T
  freed_link =
      rw (← same) (let E = (emptied bare_there p s).tables in
      let q = made_there bare_there p s ok l in
      let k = plan_built q (free_pieces E) (planned_there bare_there p s ok l) (free_pieces_lem E) in
      omega (arith, held_below _ _ k.1, (built_kept E (free_pieces E) p.more p.tail).pieces_size, (emptied_sizes bare_there p s ok l).pieces_size))

  -- the slip takes it
  pub freed_done : (S : State) {h : Shape} {q r : List ℕ} {n : ℕ} → Holds q h (built there (free_pieces there) p.more p.tail) × (n ≡ built_link (free_pieces there) p.more p.tail)
      → Holds r h (set_slip (decode q) s (n + 1)) → Holds r h (under_freed S p s).tables
  unfolding under_freed under_new
  freed_done S {n = n} (was, e) is =
      let now = onward was (λ (U : Tables). set_slip U s (n + 1)) is in
      let put : Tables → Tables = λ X. set_slip (built X (free_pieces X) p.more p.tail) s (holding (built_link (free_pieces X) p.more p.tail)) in
      record {
        shaped = now.shaped;
        is = now.is ∙ ap (set_slip (built there (free_pieces there) p.more p.tail) s) (add-one n ∙ ap holding e) ∙ ap put (sym (emptied_tables S p s));
      }

-- storage is what the release leaves
pub freed_storage : (S : State) (p : Plan) (s : ℕ) → turned_storage p.base S.storage s (holding 0) ≡ (under_freed S p s).storage
unfolding under_freed turned_storage
freed_storage S p s = refl

-- whatever entry the slip takes
pub moved_storage : (S : State) (p : Plan) (s : ℕ) → turned_storage p.base S.storage s (holding p.tail) ≡ (under_freed S p s).storage
unfolding under_freed turned_storage
moved_storage S p s = same_storage (with_tables S p.base) s (holding p.tail) (holding 0)

-- where no piece is to be made the slip can take what stays at once
pub moved_done : (S : State) (p : Plan) (s : ℕ) {h : Shape} {q : List ℕ} → p.more ≡ [] → Holds q h (turned_to p.base s (holding p.tail)) → Holds q h (under_freed S p s).tables
unfolding under_freed under_new built built_link
moved_done S p s e is =
    let U = with_tables S p.base in
    let E = (turned U s (holding 0)).tables in
    record {
      shaped = is.shaped;
      is = is.is ∙ sym (turned_tables U s (holding p.tail)) ∙ sym (stored_after U s (holding 0) (holding p.tail))
          ∙ sym (ap (λ (xs : List Stretch). set_slip (built E (free_pieces E) xs p.tail) s (holding (built_link (free_pieces E) xs p.tail))) e);
    }
