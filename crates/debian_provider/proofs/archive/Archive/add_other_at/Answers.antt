use Rattle.std.proofs.Common.{◌≡◌, ◌∙◌, subst, sym}
use Rattle.std.proofs.lemmas.Bool.{not-false}
use Rattle.debian_provider.proofs.Words.{plain_name, plain_package, SparesOther}
use Rattle.debian_provider.proofs.Limits.{spares_beside}
use Rattle.debian_provider.proofs.Named.{same_bytes}
use Rattle.debian_provider.proofs.Offered.{on_ok}
use Rattle.debian_provider.proofs.archive.Archive.add_other_at.Goals as goal

pub returns-clause-limits : goal.returns-clause-limits
returns-clause-limits c =
    let rules = c.args.self.now.rules in
    let one = plain_package c.args.one.now in
    let other = plain_package c.in-Some.other.now in
    let own = plain_name c.name_of-own.result in
    let name : other.identity.name ≡ one.identity.name =
    same_bytes other.identity.name one.identity.name (not-false _ (sym c.ne.ensures ∙ c.if-ne.false)) in
    on_ok c.add_constraint.result _ _ (λ limits. limits one
    (subst (λ set. SparesOther rules one own other set) (sym c.beside.ensures)
    (spares_beside rules one other own c.name_of-own.ensures name))) c.add_constraint.ensures.limits
