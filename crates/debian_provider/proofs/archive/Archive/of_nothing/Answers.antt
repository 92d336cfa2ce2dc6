use Rattle.debian_provider.proofs.Versions.{named_nothing, named_with_sets}
use Rattle.debian_provider.proofs.archive.Archive.of_nothing.Goals as goal

pub returns-clause-named : goal.returns-clause-named
returns-clause-named c =
    let none = c.new-reached.result in
    named_with_sets c.args.rules none c.add_string.new.self c.in_ok-unreadable.ensures
    (named_nothing c.args.rules none c.new-reached.ensures.pool c.new-reached.ensures.versions)
