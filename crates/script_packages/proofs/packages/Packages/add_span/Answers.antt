use Rattle.std.proofs.Common.{◌≡◌, ◌∙◌, ap, ◌++◌, ◌∷◌, [], List, ℕ, rules}
use Rattle.script_packages.proofs.Words.{insert_entry, Listing, listing_of, same_id, Span}
use Rattle.script_packages.proofs.Spans.{inserted_span}
use Rattle.script_packages.proofs.packages.Packages.add_span.Goals as goal

pub returns-clause-ok : goal.returns-clause-ok
returns-clause-ok c =
    let p = c.args.self.now in
    let name = c.args.name in
    let with_spans : List (ℕ × Span) → Listing = λ spans. record (listing_of p) { spans = spans } in
    let kept : c.insert_copy.new.self ≡ insert_entry same_id p.spans name c.args.span = search rules in
    ap with_spans (kept ∙ inserted_span p.spans name c.args.span c.requires.new)
    ∙ ap (λ last. with_spans (p.spans ++ (
      name,
      record {
        first = c.args.span.first;
        last = last;
        favored =
            c.args.span.favored;
      },
    ) ∷ [])) c.requires.last
