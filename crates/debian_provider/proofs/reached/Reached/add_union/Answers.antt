use Rattle.std.proofs.Common.{◌∙◌, ◌∷◌, ap, length, refl}
use Rattle.debian_provider.proofs.Words.{slice_get}
use Rattle.debian_provider.proofs.More.{at_end, more_by_union}
use Rattle.debian_provider.proofs.reached.Reached.add_union.Goals as goal

pub returns-clause-sets : goal.returns-clause-sets
returns-clause-sets c =
    let unions = c.args.self.now.pool.unions in
    ap (slice_get c.intern_version_set_union.new.self.unions) c.in_ok-id.ensures.id
    ∙ ap (λ pool. slice_get pool.unions (length unions)) c.in_ok-id.ensures.ok
    ∙ at_end unions (c.args.first ∷ c.args.others.now)

pub returns-clause-more : goal.returns-clause-more
returns-clause-more c = more_by_union c.args.self.now _ refl (c.args.first ∷ c.args.others.now) c.in_ok-id.ensures.ok
