use Rattle.std.proofs.Common.{◌≡◌, ◌∙◌, subst, sym}
use Rattle.debian_provider.proofs.Words.{name_of, NameText, native_in, plain_name, plain_package, plain_set, Spares}
use Rattle.debian_provider.proofs.Named.{apart_names}
use Rattle.debian_provider.proofs.Offered.{on_ok}
use Rattle.debian_provider.proofs.archive.Archive.add_constraint.Goals as goal

pub returns-clause-grown : goal.returns-clause-grown
returns-clause-grown c = on_ok c.add_set.result _ _ (λ added. added.grown) c.add_set.ensures.added

pub returns-clause-limits : goal.returns-clause-limits
returns-clause-limits c =
    let rules = c.args.self.now.rules in
    let is : plain_name c.name_of-name.result ≡ name_of (native_in rules) (plain_package c.args.other.now) =
    c.name_of-name.ensures in
    on_ok c.add_set.result _ _ (λ limits one spares. limits one
    (subst (λ (n : NameText). Spares rules one n (plain_set c.args.set)) (sym is)
    (spares (λ same. apart_names c.name_of-name.result c.args.own (sym c.eq.ensures ∙ c.if-eq.false) (is ∙ same)))))
    c.add_set.ensures.limits
