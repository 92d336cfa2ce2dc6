use Rattle.std.proofs.Common.{◌∙◌, sym}
use Rattle.debian_provider.proofs.Words.{plain_name, plain_package, plain_relation}
use Rattle.debian_provider.proofs.Limits.{spares_conflict}
use Rattle.debian_provider.proofs.Offered.{on_ok}
use Rattle.debian_provider.proofs.archive.Archive.add_conflict_at.Goals as goal

pub returns-clause-limits : goal.returns-clause-limits
returns-clause-limits c =
    on_ok c.add_constraint.result _ _ (λ limits free. limits (plain_package c.args.one.now)
    (spares_conflict c.args.self.now.rules (plain_package c.args.one.now) (plain_package c.in-Some.other.now)
    (plain_name c.name_of-own.result) (sym c.eq.ensures ∙ c.if-eq.false) (plain_relation c.args.relation) free))
    c.add_constraint.ensures.limits
