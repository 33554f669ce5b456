-- `calls_look::part` meets its contract. Assumes nothing.
use mathlib.Core.Path.{sym, ap, subst, ◌∙◌}
use mathlib.Core.Bool.{Bool}
use Rattle.rules.specs.Basics.{Is}
use Rattle.look.specs.declared.Place.{Place}
use Rattle.look.specs.Place.{part_at, Lies}
use Rattle.calls_look.proofs.Parts.{shows}
use Rattle.calls_look.proofs.part.Goals as goal

pub view-requires : goal.view-requires
view-requires c = c.lies.ensures.0 (subst (λ (b : Bool). Is b) (sym c.if-lies.true) tt)

pub returns-then-lies : goal.returns-then-lies
returns-then-lies c =
    let a = c.args in
    let st = a.storage.now in
    let sc = a.scratch.now in
    λ pool before s n w.
    c.view.ensures ∙ ap (λ (p : Place). part_at st sc p a.shown.number) c.place_of-place.ensures ∙ (shows pool st sc before s n w).bytes

pub returns : goal.returns
returns c =
    let a = c.args in
    let st = a.storage.now in
    let sc = a.scratch.now in
    λ pool before s n w.
    let there = subst (λ (p : Place). Lies st sc p a.shown.number) (sym c.place_of-place.ensures) (shows pool st sc before s n w).there in
    absurd (subst (λ (b : Bool). Is b) c.if-lies.false (c.lies.ensures.1 there))
