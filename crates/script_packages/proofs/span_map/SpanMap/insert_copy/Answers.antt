use Rattle.std.proofs.Common.{◌≡◌, ◌∙◌, ◌++◌, ◌∷◌, [], sym, true, false, rules}
use Rattle.script_packages.proofs.Words.{is_some, lookup, same_id, set_value}
use Rattle.script_packages.proofs.Spans.{inserted_span, replaced_span}
use Rattle.script_packages.proofs.span_map.SpanMap.insert_copy.Goals as goal

pub returns-then-is_some-clause-ok : goal.returns-then-is_some-clause-ok
returns-then-is_some-clause-ok c =
    let spans = c.args.self.now in
    let name = c.args.name in
    let known : is_some (lookup (same_id name) spans) ≡ true = search rules in
    let kept : c.replace-earlier.new.self ≡ set_value (same_id name) spans c.args.span = search rules in
    kept ∙ replaced_span spans name c.args.span known

pub returns-in_ok-_place-clause-ok : goal.returns-in_ok-_place-clause-ok
returns-in_ok-_place-clause-ok c =
    let spans = c.args.self.now in
    let name = c.args.name in
    let new : is_some (lookup (same_id name) spans) ≡ false = search rules in
    let kept : c.insert.new.self ≡ spans ++ (name, c.args.span) ∷ [] = search rules in
    kept ∙ sym (inserted_span spans name c.args.span new)
