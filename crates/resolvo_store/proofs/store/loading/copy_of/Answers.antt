use Rattle.resolvo_store.proofs.ListLemmas.{items-cloned}
use Rattle.resolvo_store.proofs.store.loading.copy_of.Goals as goal

pub returns-in_ok-clone-clause-ok : goal.returns-in_ok-clone-clause-ok
returns-in_ok-clone-clause-ok g c =
    λ is_copied. items-cloned c.args.lists.now.items c.in_ok-clone.field-0.items c.in_ok-clone.ensures.cases.0
