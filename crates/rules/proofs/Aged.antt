-- A serial that goes up leaves everything else as it is: soundness, chains, what slips read and what is taken. Assumes nothing.
use mathlib.Core.Path.{◌≡◌, refl, ap, ◌∙◌}
use mathlib.Core.List.{List, [], ◌∷◌}
use Prim.Native.Nat.{ℕ, zero, suc}
use Rattle.rules.specs.Basics.{passing}
use Rattle.rules.specs.Tables.{Tables, piece, head_of, piece_total, aged}
use Rattle.rules.specs.Chain.{State, Stretch, walk, chain, stretch, stretches, spans, contents, aging}
use Rattle.rules.specs.Sound.{heads, lying}
use Rattle.rules.specs.Room.{is_free_with, is_unheld}
use Rattle.rules.specs.Rule.{Change, Wants}
use Rattle.rules.specs.Takes.{Took}
use Rattle.rules.proofs.Moves.{SoundNow, links}
use Rattle.rules.proofs.After.{Reading}
use Rattle.rules.proofs.Stays.{StorageStays}
use Rattle.rules.proofs.Takes.{buffers_of}

aged_walk : (k : ℕ) (T : Tables) (s n : ℕ) → walk k (aged T s) n ≡ walk k T n
unfolding walk
aged_walk zero T s n = refl
aged_walk (suc k) T s zero = refl
aged_walk (suc k) T s (suc d) = ap {B = List ℕ} (λ l. d ∷ l) (aged_walk k T s (piece T d).next)

aged_stretches : (T : Tables) (s : ℕ) (l : List ℕ) → stretches (aged T s) l ≡ stretches T l
unfolding stretches
aged_stretches T s [] = refl
aged_stretches T s (d ∷ l) = ap {B = List Stretch} (λ xs. stretch (piece T d) ∷ xs) (aged_stretches T s l)

pub aged_chain : (T : Tables) (s t : ℕ) → chain (aged T s) t ≡ chain T t
aged_chain T s t = aged_walk (piece_total T) T s (head_of T t)

pub aged_spans : (T : Tables) (s t : ℕ) → spans (aged T s) t ≡ spans T t
aged_spans T s t = aged_stretches T s (chain (aged T s) t) ∙ ap (stretches T) (aged_chain T s t)

pub aged_sound : {T : Tables} (s : ℕ) → SoundNow T → SoundNow (aged T s)
unfolding heads links lying
aged_sound s (rank, h) = (rank, record { counted = h.counted; lain = h.lain; empty = h.empty; fits = h.fits; falls = h.falls })

pub aged_reading : (S S' : State) (s : ℕ) (cs : List Change) → Reading S S' cs → Reading S (aging s S') cs
aged_reading S S' s cs r = record {
  bytes = λ t. ap (contents S.tables.stock S'.storage) (aged_spans S'.tables s t) ∙ r.bytes t;
  vacancy = r.vacancy;
}

pub aged_stays : (S S' : State) (s k : ℕ) → StorageStays S S' k → StorageStays S (aging s S') k
aged_stays S S' s k r = record { as_long = r.as_long; others = r.others; clean = r.clean }

pub aged_took : {T T' : Tables} {w : Wants} {t : ℕ} (s : ℕ) → Took T T' w t → Took T (aged T' s) w t
aged_took {T} {T'} {w} {t} s r = record {
  slips = r.slips;
  pieces = r.pieces;
  buffers = r.buffers;
  slips_room = r.slips_room;
  pieces_room = r.pieces_room;
  buffers_room = r.buffers_room;
  pieces_order = ap (passing (is_free_with T w.back)) (aged_chain T' s t) ∙ r.pieces_order;
  buffers_order = ap (λ (xs : List Stretch). passing (is_unheld T) (buffers_of xs)) (aged_spans T' s t) ∙ r.buffers_order;
}
