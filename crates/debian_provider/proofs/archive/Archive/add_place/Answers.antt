use Rattle.std.proofs.Common.{◌∙◌, ℕ, List, [], ◌∷◌, ap, subst, sym}
use Rattle.std.specs.Prelude.{All}
use Rattle.std.proofs.lemmas.Bool.{false≢true}
use Rattle.std.proofs.lemmas.List.Elements.{All-push, Contains-append_left, Contains-push}
use Rattle.debian_directory.proofs.Places.{is_among}
use Rattle.debian_provider.proofs.Words.{Contains, IsPlaceOf, plain_name}
use Rattle.debian_provider.proofs.Picks.{contains_place}
use Rattle.debian_provider.proofs.archive.Archive.add_place.Goals as goal

pub returns-then-not-is_to_pick-clause-added : goal.returns-then-not-is_to_pick-clause-added
returns-then-not-is_to_pick-clause-added c = λ is.
    absurd (false≢true (sym c.if-not-is_to_pick.true ∙ c.is_to_pick.ensures.1 is))

pub returns-then-contains-clause-added : goal.returns-then-contains-clause-added
returns-then-contains-clause-added c = λ is.
    contains_place c.args.found.now.items c.args.place (ap (λ (l : List ℕ). is_among l c.args.place)
    (sym c.deref.ensures.value) ∙ sym c.contains.ensures.value ∙ c.if-contains.true)

pub returns-clause-each : goal.returns-clause-each
returns-clause-each c = λ each.
    let Is = IsPlaceOf c.args.self.now.rules (plain_name c.args.name) in
    subst (All Is) (sym c.in_ok-push.ensures.items)
    (All-push Is c.args.found.now.items c.args.place each (c.is_to_pick.ensures.0 c.if-not-is_to_pick.false))

pub returns-clause-kept : goal.returns-clause-kept
returns-clause-kept c = λ other in'.
    subst (λ l. Contains l other) (sym c.in_ok-push.ensures.items)
    (Contains-append_left c.args.found.now.items (c.args.place ∷ []) other in')

pub returns-clause-added : goal.returns-clause-added
returns-clause-added c = λ is.
    subst (λ l. Contains l c.args.place) (sym c.in_ok-push.ensures.items)
    (Contains-push c.args.found.now.items c.args.place)
