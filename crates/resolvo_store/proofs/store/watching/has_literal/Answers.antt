use Rattle.std.proofs.Common.{◌≡◌, ◌∙◌, sym, ap, rules, Some, slice_get, option_map, []}
use Rattle.watch_map.proofs.LiteralLists.{found_any}
use Rattle.resolvo_store.proofs.Words.{contents, find, is_literal_in, is_some, literals_of, same_literal, stored_in}
use Rattle.resolvo_store.proofs.Words.{unwrap_or}
use Rattle.resolvo_store.proofs.store.watching.has_literal.Goals as goal

pub returns : goal.returns
returns g c =
    let l = c.args.literal in
    let clause = c.in-Some.clause in
    let loaded = c.args.loaded.now in
    let disjunctions = c.args.disjunctions.now in
    let list = contents c.args.clauses.now in
    let kept = stored_in c.learnt-learnt.result.now loaded disjunctions in
    let now = record (stored_in [] loaded disjunctions) { learnt = list.learnt } in
    let there : slice_get list.clauses c.args.clause ≡ Some clause = sym c.get.ensures ∙ c.in-Some.is in
    let found : c.find_literal-found.result ≡ find (same_literal l) (literals_of kept clause) =
    c.find_literal-found.ensures.tested (same_literal l) (λ x b k. search rules) in
    let same = ap (λ ls. record (stored_in [] loaded disjunctions) { learnt = ls }) c.learnt-learnt.ensures in
    c.is_some.ensures ∙ ap is_some found ∙ found_any (same_literal l) (literals_of kept clause)
    ∙ ap (λ k. is_literal_in l (literals_of k clause)) same
    ∙ ap (λ o. is_literal_in l (unwrap_or (option_map (literals_of now) o) [])) (sym there)
