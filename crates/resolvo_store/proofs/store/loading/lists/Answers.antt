use Rattle.std.proofs.Common.{◌∙◌, sym, ap}
use Rattle.std.specs.Prelude.{option_map}
use Rattle.resolvo_store.proofs.ListLemmas.{items_of, items-copied, lookup-kept}
use Rattle.resolvo_store.proofs.store.loading.lists.Goals as goal

pub returns : goal.returns
returns g c = items-copied c.get.result ∙ ap (option_map items_of) c.get.ensures
    ∙ sym (lookup-kept c.args.loaded.now c.args.requirement)
