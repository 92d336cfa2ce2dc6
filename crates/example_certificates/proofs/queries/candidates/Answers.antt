use Rattle.std.proofs.Common.{◌≡◌, ◌∙◌, ap, sym}
use Rattle.resolvo_pool.specs.Provider.{candidates_of}
use Rattle.example_certificates.proofs.queries.candidates.Goals as goal

pub filter_candidates-requires-clause-known : goal.filter_candidates-requires-clause-known
filter_candidates-requires-clause-known g c =
    let answers = g.D.DependencyProvider.answers c.args.provider.now in
    let list : c.deref.result.now ≡ answers.candidates c.version_set_name.result =
    c.deref.ensures.value ∙ sym (ap candidates_of c.in-Some.is) ∙ c.in_ok-all.ensures.candidates in
    rw list (g.met.D.DependencyProvider.candidates_known c.args.provider.now c.version_set_name.result)
