use Rattle.std.proofs.Common.{◌≡◌, ◌∙◌, sym, Option, Some, None, ℕ, slice_get}
use Rattle.solver_cache.proofs.Words.{IfSome, lookup, values_of}
use Rattle.solver_cache.proofs.KeptListLemmas.{lists, found, list_found}
use Rattle.solver_cache.proofs.stored_lists.StoredLists.find.Goals as goal

pub returns-clause-found : goal.returns-clause-found
returns-clause-found g c =
    rw (sym c.self.view_is) (c.get_index_of.ensures.found
    ∙ found (λ l. l.items) (g.K.PartialEq.eq c.args.key) c.self.inside.lists.entries)

pub returns-clause-list : goal.returns-clause-list
returns-clause-list g c =
    let entries = c.self.inside.lists.entries in
    let test = g.K.PartialEq.eq c.args.key in
    rw (sym c.self.view_is) (by_result c.get_index_of.result c.get_index_of.ensures.value)
  where
    by_result : (o : Option ℕ) →
        IfSome o (λ i. slice_get (values_of c.self.inside.lists.entries) i ≡
        lookup (g.K.PartialEq.eq c.args.key) c.self.inside.lists.entries)
        → IfSome o (λ i. slice_get (values_of (lists (λ l. l.items) c.self.inside.lists.entries)) i ≡
        lookup (g.K.PartialEq.eq c.args.key) (lists (λ l. l.items) c.self.inside.lists.entries))
    by_result None h = tt
    by_result (Some i) h = list_found (λ l. l.items) (g.K.PartialEq.eq c.args.key) i c.self.inside.lists.entries h
