use Rattle.std.proofs.Common.{◌≡◌, ◌∙◌, ap, subst, sym, true}
use Rattle.std.proofs.lemmas.Result.{IfOk-weaker}
use Rattle.std.specs.List.{All}
use Rattle.resolvo_pool.specs.Provider.{candidates_of}
use Rattle.reports.proofs.candidates.candidates_of.Goals as goal

pub returns-in-Some : goal.returns-in-Some
returns-in-Some g c =
    let provider = c.args.provider.now in
    let answers = g.P.DependencyProvider.answers provider in
    let list : c.deref.result.now ≡ answers.candidates c.args.name =
    c.deref.ensures.value ∙ sym (ap candidates_of c.in-Some.is) ∙ c.in_ok-found.ensures.candidates in
    record {
      are = IfOk-weaker c.listed.result _ _ (λ found is. is ∙ list) c.listed.ensures;
      known = IfOk-weaker c.listed.result _ _
          (λ found is. subst (All (λ s. (g.P.Interner.universe provider).knows_solvable s ≡ true)) (sym (is ∙ list))
          (g.met.P.DependencyProvider.candidates_known provider c.args.name)) c.listed.ensures;
    }
