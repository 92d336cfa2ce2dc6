use Rattle.std.proofs.Common.{◌∙◌, [], sym, ap}
use Rattle.solver_cache.proofs.Words.{unwrap_or}
use Rattle.solver_cache.proofs.KeptListLemmas.{list_at}
use Rattle.solver_cache.proofs.stored_lists.StoredLists.at.Goals as goal

pub returns : goal.returns
returns g c =
    rw (sym c.self.view_is) (c.deref.ensures.value
    ∙ sym (ap (λ o. unwrap_or o [])
    (list_at (λ l. l.items) c.args.place c.index.result.now c.self.inside.lists.entries c.index.ensures)))
