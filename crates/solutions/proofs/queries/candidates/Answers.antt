use Rattle.std.proofs.Common.{◌≡◌, ◌∙◌, ap, sym}
use Rattle.solutions.proofs.Words.{candidates_of, filtered}
use Rattle.solutions.proofs.DecisionLemmas.{answered}
use Rattle.solutions.proofs.queries.candidates.Goals as goal

pub filter_candidates-requires-clause-known : goal.filter_candidates-requires-clause-known
filter_candidates-requires-clause-known g c =
    let answers = g.D.DependencyProvider.answers c.args.provider.now in
    let list : c.deref.result.now ≡ answers.candidates c.version_set_name.result =
    c.deref.ensures.value ∙ sym (ap candidates_of c.in-Some.is) ∙ c.in_ok-all.ensures.candidates in
    rw list (g.met.D.DependencyProvider.candidates_known c.args.provider.now c.version_set_name.result)

pub returns-in-Some-clause-ok : goal.returns-in-Some-clause-ok
returns-in-Some-clause-ok g c =
    let answers = g.D.DependencyProvider.answers c.args.provider.now in
    let list : c.deref.result.now ≡ answers.candidates
    ((g.D.Interner.universe c.args.provider.now).set_name c.args.set) =
    c.deref.ensures.value ∙ sym (ap candidates_of c.in-Some.is) ∙ c.in_ok-all.ensures.candidates
    ∙ ap answers.candidates c.version_set_name.ensures in
    answered c.filter_candidates.result (λ found is. is
    ∙ ap (filtered (answers.matches c.args.set) c.args.inverse) list) c.filter_candidates.ensures.ok
