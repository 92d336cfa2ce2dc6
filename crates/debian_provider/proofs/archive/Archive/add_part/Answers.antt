use Rattle.std.proofs.Common.{◌≡◌, ◌∙◌, None, Some, false, ap, sym}
use Rattle.std.proofs.lemmas.Bool.{false≢true}
use Rattle.debian_provider.proofs.Words.{is_blank, is_free, native_in, option_map, plain_package, plain_relation}
use Rattle.debian_provider.proofs.Words.{relation_of}
use Rattle.debian_provider.proofs.Offered.{grown_itself}
use Rattle.debian_provider.proofs.archive.Archive.add_part.Goals as goal

pub returns-then-is_blank-clause-grown : goal.returns-then-is_blank-clause-grown
returns-then-is_blank-clause-grown c = grown_itself c.args.self.now

pub returns-then-is_blank-clause-limits : goal.returns-then-is_blank-clause-limits
returns-then-is_blank-clause-limits c = λ free limits. limits

pub returns-in_default-clause-grown : goal.returns-in_default-clause-grown
returns-in_default-clause-grown c = grown_itself c.args.self.now

pub returns-in_default-clause-limits : goal.returns-in_default-clause-limits
returns-in_default-clause-limits c =
    let fails : is_blank c.args.part.now ≡ false = sym c.is_blank.ensures ∙ c.if-is_blank.false in
    let none : relation_of c.args.part.now ≡ None =
    sym c.parse.ensures ∙ ap (option_map plain_relation) c.in_default.is in
    λ free there is. false≢true (ap (is_free (native_in c.args.self.now.rules) there (plain_package c.args.one.now))
    (sym none) ∙ free fails there is)

pub returns-clause-limits : goal.returns-clause-limits
returns-clause-limits c =
    let fails : is_blank c.args.part.now ≡ false = sym c.is_blank.ensures ∙ c.if-is_blank.false in
    let is_one : relation_of c.args.part.now ≡ Some (plain_relation c.in-Some.relation) =
    sym c.parse.ensures ∙ ap (option_map plain_relation) c.in-Some.is in
    λ free. c.in_ok-add_conflict.ensures.limits (λ there is.
    ap (is_free (native_in c.args.self.now.rules) there (plain_package c.args.one.now)) (sym is_one)
    ∙ free fails there is)
