use Rattle.std.proofs.Common.{◌<◌, length, sym, ◌∙◌, subst}
use Rattle.script_packages.proofs.Words.{All, VersionSetId}
use Rattle.script_packages.proofs.packages.Packages.unite.Goals as goal

pub intern_version_set_union-requires : goal.intern_version_set_union-requires
intern_version_set_union-requires c =
    subst (λ sets. All (λ (v : VersionSetId). v.0 < length c.args.self.now.pool.version_sets) sets)
    (sym c.deref.ensures.value ∙ c.in-Some.ensures.cases.0) c.in_ok-sets.ensures.known
