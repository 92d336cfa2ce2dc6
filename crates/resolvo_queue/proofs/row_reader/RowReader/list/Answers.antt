use Rattle.std.proofs.Common.{subst, ap}
use Rattle.resolvo_queue.proofs.Words.{candidates, GrowsWith, HasAll, Reading}
use Rattle.resolvo_queue.proofs.Rows.Occurrences.{slice_candidates, grows_same, has_same}
use Rattle.resolvo_queue.proofs.row_reader.RowReader.list.Goals as goal

pub returns-in_err-add_lists-clause-grows : goal.returns-in_err-add_lists-clause-grows
returns-in_err-add_lists-clause-grows g c =
    subst (λ vs. GrowsWith c.args.requirement vs c.args.occurrences.now c.add_lists.new.occurrences)
    (slice_candidates c.args.self.now.lists c.self.inside.lists.now c.args.requirement c.index.result.now
    c.deref.result.now
    (ap (λ (r : Reading _). r.lists) c.self.view_is) c.index.ensures c.deref.ensures.value) c.add_lists.ensures.grows

pub returns-clause-grows : goal.returns-clause-grows
returns-clause-grows g c =
    grows_same c.args.requirement (candidates c.args.self.now.lists c.args.requirement) c.args.occurrences.now
    c.add_lists.new.occurrences c.set_listed.new.self c.set_listed.ensures.same
    (subst (λ vs. GrowsWith c.args.requirement vs c.args.occurrences.now c.add_lists.new.occurrences)
    (slice_candidates c.args.self.now.lists c.self.inside.lists.now c.args.requirement c.index.result.now
    c.deref.result.now
    (ap (λ (r : Reading _). r.lists) c.self.view_is) c.index.ensures c.deref.ensures.value) c.add_lists.ensures.grows)

pub returns-clause-all : goal.returns-clause-all
returns-clause-all g c = has_same c.args.requirement c.set_listed.result
    (candidates c.args.self.now.lists c.args.requirement) c.add_lists.new.occurrences c.set_listed.new.self
    c.set_listed.ensures.same (subst (λ vs. HasAll c.args.requirement vs c.add_lists.new.occurrences)
    (slice_candidates c.args.self.now.lists c.self.inside.lists.now c.args.requirement c.index.result.now
    c.deref.result.now (ap (λ (r : Reading _). r.lists) c.self.view_is) c.index.ensures c.deref.ensures.value)
    c.in_ok-add_lists.ensures.all)
