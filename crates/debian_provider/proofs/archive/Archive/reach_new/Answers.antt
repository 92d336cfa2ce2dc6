use Rattle.std.proofs.Common.{ℕ, List, refl, subst}
use Rattle.debian_provider.proofs.Words.{IsNameAdded, plain_name}
use Rattle.debian_provider.proofs.Versions.{named_with_name}
use Rattle.debian_provider.proofs.archive.Archive.reach_new.Goals as goal

pub returns-clause-grown : goal.returns-clause-grown
returns-clause-grown c = record {
  rules = refl;
  needs = refl;
  requirements = refl;
  later = c.in_ok-id.ensures.later;
  named = λ named. named_with_name c.args.self.now.rules c.args.self.now.reached c.add_name.new.self
      c.in_ok-id.ensures.later named c.in_ok-id.id (plain_name c.args.name) c.in_ok-id.ensures.named
      c.in_ok-places.places.items
      (subst (λ (l : List ℕ). IsNameAdded c.args.self.now.reached c.add_name.new.self l c.in_ok-id.id)
      c.deref.ensures.value c.in_ok-id.ensures.added) c.in_ok-places.ensures.all c.in_ok-places.ensures.each;
}
