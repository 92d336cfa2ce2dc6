use Rattle.std.proofs.Common.{◌++◌, ap, codes, string_bytes}
use Rattle.reports.proofs.AppendLemmas.{as_said, in_turn}
use Rattle.reports.specs.Words.{text_of_all, text_of_name}
use Rattle.reports.proofs.missing.write_outside.Goals as goal

pub returns : goal.returns
returns g c =
    let universe = g.I.Interner.universe c.args.interner.now in
    let texts = g.I.Interner.texts c.args.interner.now in
    let name = text_of_name universe texts (universe.set_name c.args.set) in
    let all = text_of_all universe texts c.args.candidates.now in
    let own = texts.version_set c.args.set in
    let old = string_bytes c.args.text.now in
    let named = string_bytes c.write_name.new.text in
    let has = string_bytes c.push_str.new.self in
    let listed = string_bytes c.write_all.new.text in
    let none_in = string_bytes c.push_str-2.new.self in
    let new = string_bytes c.display_version_set.new.out in
    in_turn old named new name (codes " has only " ++ (all ++ (codes ": none is in " ++ own)))
    (as_said old named (text_of_name universe texts c.version_set_name.result) name c.in_ok-write_name.ensures
    (ap (text_of_name universe texts) c.version_set_name.ensures))
    (in_turn named has new (codes " has only ") (all ++ (codes ": none is in " ++ own)) c.in_ok-push_str.ensures.bytes
    (in_turn has listed new all (codes ": none is in " ++ own) c.in_ok-write_all.ensures
    (in_turn listed none_in new (codes ": none is in ") own c.in_ok-push_str-2.ensures.bytes
    c.in_ok-display_version_set.ensures.ok)))
