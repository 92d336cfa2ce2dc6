use Rattle.std.proofs.Common.{◌∙◌, sym, ap, map, []}
use Rattle.std.specs.List.{cons_option}
use Rattle.std.specs.Prelude.{option_map}
use Rattle.index_text.proofs.OrderLemmas.{map-insert_key}
use Rattle.index_text.specs.Formats.{version_cmp}
use Rattle.index_text.specs.Written.{with_versions}
use Rattle.semver.specs.Identifiers.{parts_of}
use Rattle.index_text.proofs.format.add_text.Goals as goal

pub returns-in_ok-insert : goal.returns-in_ok-insert
unfolding version_cmp
returns-in_ok-insert c =
    let keys = c.args.known.now.keys in
    ap (map parts_of) c.in_ok-insert.ensures.keys ∙ map-insert_key parts_of version_cmp keys c.in-Some.version
    ∙ ap (λ found. with_versions (map parts_of keys) (cons_option found []))
    (sym (ap (option_map parts_of) c.in-Some.is) ∙ c.in_ok-version.ensures)
