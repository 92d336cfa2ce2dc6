use Rattle.std.proofs.Common.{◌≡◌, ◌∙◌, ◌==◌, List, subst, sym, true}
use Rattle.std.proofs.lemmas.List.Elements.{Contains-push}
use Rattle.debian_provider.proofs.Words.{AreLimited, Contains, IsAdded, list_any, plain_name, plain_set, VersionSetId}
use Rattle.debian_provider.proofs.Limits.{limit_by, limited_more, limited_still}
use Rattle.debian_provider.proofs.Named.{contains_set, has_set}
use Rattle.debian_provider.proofs.Offered.{added_none, added_one, grown_more}
use Rattle.debian_provider.proofs.archive.Archive.add_set.Goals as goal

pub returns-then-contains-clause-added : goal.returns-then-contains-clause-added
returns-then-contains-clause-added c =
    added_none c.args.self.now c.reach.new.self c.add_set.new.self c.in_ok-name.ensures.grown c.in_ok-set.ensures.more
    c.args.sets.now.items

pub returns-then-contains-clause-has : goal.returns-then-contains-clause-has
returns-then-contains-clause-has c =
    has_set c.reach.new.self.reached.pool c.add_set.new.self.pool c.in_ok-set.ensures.more.later c.in_ok-name.name
    (plain_name c.args.name) (plain_set c.args.set) c.in_ok-set.set c.in_ok-name.ensures.named
    c.in_ok-set.ensures.entry c.args.sets.now.items
    (contains_set c.args.sets.now.items c.in_ok-set.set (subst (λ (l : List VersionSetId).
    list_any (λ (w : VersionSetId). w.0 == c.in_ok-set.set.0) l ≡ true) c.deref.ensures.value
    (sym c.contains.ensures.value ∙ c.if-contains.true)))

pub returns-then-contains-clause-limits : goal.returns-then-contains-clause-limits
returns-then-contains-clause-limits c = λ one spares.
    limited_still c.args.self.now (record c.reach.new.self { reached = c.add_set.new.self })
    (grown_more c.args.self.now c.reach.new.self c.add_set.new.self c.in_ok-name.ensures.grown
    c.in_ok-set.ensures.more) one c.args.sets.now.items

pub returns-clause-added : goal.returns-clause-added
returns-clause-added c =
    let sets = c.args.sets.now.items in
    subst (IsAdded c.args.self.now (record c.reach.new.self { reached = c.add_set.new.self }) sets)
    (sym c.in_ok-push.ensures.items)
    (added_one c.args.self.now c.reach.new.self c.add_set.new.self c.in_ok-name.ensures.grown
    c.in_ok-set.ensures.more sets c.in_ok-set.set c.in_ok-set.ensures.here)

pub returns-clause-has : goal.returns-clause-has
returns-clause-has c =
    has_set c.reach.new.self.reached.pool c.add_set.new.self.pool c.in_ok-set.ensures.more.later c.in_ok-name.name
    (plain_name c.args.name) (plain_set c.args.set) c.in_ok-set.set c.in_ok-name.ensures.named
    c.in_ok-set.ensures.entry c.push.new.self.items
    (subst (λ l. Contains l c.in_ok-set.set) (sym c.in_ok-push.ensures.items)
    (Contains-push c.args.sets.now.items c.in_ok-set.set))

pub returns-clause-limits : goal.returns-clause-limits
returns-clause-limits c = λ one spares.
    let sets = c.args.sets.now.items in
    let new = record c.reach.new.self { reached = c.add_set.new.self } in
    let grown = grown_more c.args.self.now c.reach.new.self c.add_set.new.self c.in_ok-name.ensures.grown
    c.in_ok-set.ensures.more in
    subst (AreLimited c.args.self.now new one sets) (sym c.in_ok-push.ensures.items)
    (limited_more c.args.self.now new grown one sets c.in_ok-set.set
    (limit_by c.reach.new.self.reached.pool c.add_set.new.self.pool c.in_ok-set.ensures.more.later c.in_ok-name.name
    (plain_name c.args.name) (plain_set c.args.set) c.in_ok-set.set c.in_ok-name.ensures.named
    c.in_ok-set.ensures.entry c.args.self.now.rules one spares))
