use Rattle.std.proofs.Common.{◌∙◌, sym}
use Rattle.std.specs.Ordering.{eq_by_cmp}
use Rattle.index_text.proofs.OrderLemmas.{read_total, searched_place, position-map}
use Rattle.index_text.specs.Formats.{version_cmp}
use Rattle.semver.specs.Identifiers.{parts_of}
use Rattle.index_text.proofs.semver_versions.SemverVersions.place_of.Goals as goal

pub returns : goal.returns
unfolding version_cmp
returns c =
    let xs = c.args.self.now.versions.items in
    let v = c.args.version.now in
    c.ok.ensures.value
    ∙ searched_place read_total xs c.args.self.now.ascending v c.binary_search.result
    (rw (c.deref.ensures.value) at c.binary_search.ensures.bound)
    (rw (c.deref.ensures.value) at c.binary_search.ensures.position)
    ∙ sym (position-map parts_of version_cmp (eq_by_cmp version_cmp (parts_of v)) xs)
