use Rattle.std.proofs.Common.{◌∙◌, sym, ap}
use Rattle.solver_cache.proofs.KeptListLemmas.{lists, last_place, list_last}
use Rattle.solver_cache.proofs.stored_lists.StoredLists.insert.Goals as goal

pub returns-clause-place : goal.returns-clause-place
returns-clause-place g c =
    rw (sym c.self.view_is)
    (c.in_ok-place.ensures.index ∙ last_place (λ l. l.items) g.K.PartialEq.eq c.args.key c.self.inside.lists
    (rw c.self.view_is c.requires))

pub returns-clause-ok : goal.returns-clause-ok
returns-clause-ok g c =
    rw (sym c.self.view_is)
    (ap (lists (λ l. l.items)) c.in_ok-place.ensures.entries
    ∙ list_last (λ l. l.items) g.K.PartialEq.eq c.args.key c.self.inside.lists
    (rw c.self.view_is c.requires) c.args.list)
