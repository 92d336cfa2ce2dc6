use Rattle.std.proofs.Common.{◌≡◌, ◌∙◌, ◌^◌, Some, ap, sym, rules}
use Rattle.script_packages.proofs.Words.{below, number_of}
use Rattle.script_packages.proofs.Stars.{version_of_number}
use Rattle.script_packages.proofs.versions.version_of.Goals as goal

pub returns-in-Some : goal.returns-in-Some
returns-in-Some c =
    let word = c.args.word.now.word.now in
    let number : number_of word ≡ Some c.in-Some.field-0 = sym c.requires ∙ c.in-Some.is in
    let id : c.id_of.result ≡ below (2 ^ 32) c.args.word.now.number = search rules in
    id ∙ ap (below (2 ^ 32)) c.requires ∙ sym (version_of_number c.in-Some.field-0 word number)
