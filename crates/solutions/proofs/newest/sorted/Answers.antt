use Rattle.std.proofs.Common.{◌≡◌, ◌∙◌, [], ap, sym, rules}
use Rattle.solutions.proofs.Words.{candidates_of, favored_of}
use Rattle.solutions.proofs.DecisionLemmas.{answered}
use Rattle.solutions.proofs.NewestLemmas.{none_sorted, sorted_alike}
use Rattle.solutions.proofs.newest.sorted.Goals as goal

pub sorted_among-requires-clause-candidates : goal.sorted_among-requires-clause-candidates
sorted_among-requires-clause-candidates g c =
    let answers = g.D.DependencyProvider.answers c.args.provider.now in
    let list : c.in-Some.all.candidates.items ≡ answers.candidates c.version_set_name.result =
    sym (ap candidates_of c.in-Some.is) ∙ c.in_ok-all.ensures.candidates in
    rw list (g.met.D.DependencyProvider.candidates_known c.args.provider.now c.version_set_name.result)

pub returns-in-Some : goal.returns-in-Some
returns-in-Some g c =
    let answers = g.D.DependencyProvider.answers c.args.provider.now in
    let name = (g.D.Interner.universe c.args.provider.now).set_name c.args.set in
    let all = c.in-Some.all in
    let favored : all.favored ≡ answers.favored name =
    sym (ap favored_of c.in-Some.is) ∙ c.in_ok-all.ensures.favored ∙ ap answers.favored c.version_set_name.ensures in
    let listed : all.candidates.items ≡ answers.candidates name =
    sym (ap candidates_of c.in-Some.is) ∙ c.in_ok-all.ensures.candidates
    ∙ ap answers.candidates c.version_set_name.ensures in
    answered c.sorted_among.result
    (λ found is. is ∙ sorted_alike g.D.SolvableId.PartialEq.eq answers.order (answers.matches c.args.set) all.favored
    (answers.favored name)
    all.candidates.items (answers.candidates name) favored listed) c.sorted_among.ensures

pub returns-in-None : goal.returns-in-None
returns-in-None g c =
    let answers = g.D.DependencyProvider.answers c.args.provider.now in
    let name = (g.D.Interner.universe c.args.provider.now).set_name c.args.set in
    let made : c.new.result.items ≡ [] = search rules in
    made ∙ none_sorted g.D.SolvableId.PartialEq.eq answers.order (answers.matches c.args.set)
    (g.met.D.DependencyProvider.order_permutes c.args.provider.now) (answers.favored name) (answers.candidates name)
    (sym (ap favored_of c.in-None.is) ∙ c.in_ok-all.ensures.favored ∙ ap answers.favored c.version_set_name.ensures)
    (sym (ap candidates_of c.in-None.is) ∙ c.in_ok-all.ensures.candidates
    ∙ ap answers.candidates c.version_set_name.ensures)
