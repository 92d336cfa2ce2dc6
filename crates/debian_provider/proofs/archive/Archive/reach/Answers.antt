use Rattle.std.proofs.Common.{◌∙◌, Some, ap, get_or, sym}
use Rattle.std.proofs.lemmas.List.Quantifiers.{position-Some}
use Rattle.std.proofs.lemmas.Option.{slice_get-get_or}
use Rattle.debian_provider.proofs.Words.{option_map, plain_name}
use Rattle.debian_provider.proofs.Named.{same_names}
use Rattle.debian_provider.proofs.archive.Archive.reach.Goals as goal

pub returns-in-Some-clause-named : goal.returns-in-Some-clause-named
returns-in-Some-clause-named c =
    let names = c.args.self.now.reached.pool.names in
    let found = position-Some _ names c.in-Some.id c.args.name (sym c.in-Some.ensures) in
    ap (option_map plain_name) (slice_get-get_or names c.in-Some.id c.args.name found.0)
    ∙ ap Some (sym (same_names c.args.name (get_or names c.in-Some.id c.args.name) found.1))
