use Rattle.std.proofs.Common.{rules, sym, ◌≡◌, ◌∙◌, ◌<◌, length}
use Rattle.std.proofs.lemmas.List.{get_or_default}
use Rattle.test_support.specs.Listed.{range_at}
use Rattle.test_support.proofs.lists.ListsDependencyProvider.filter_candidates.Goals as goal

pub returns-clause-ok : goal.returns-clause-ok
returns-clause-ok g c =
    let ranges = c.args.self.now.listed.ranges.items in
    let known : c.args.set.0 < length ranges = search rules in
    let range : c.index-range.result.now ≡ range_at ranges c.args.set = c.index-range.ensures
    ∙ get_or_default ranges c.args.set.0 _ _ known in
    rw (sym range, sym c.deref.ensures.value) c.within.ensures.ok
