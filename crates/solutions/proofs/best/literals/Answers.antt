use Rattle.std.proofs.Common.{◌≡◌, ◌∙◌, ◌++◌, ◌∷◌, [], ap, rules, map}
use Rattle.std.proofs.lemmas.List.{take_all}
use Rattle.solutions.proofs.Words.{is_so}
use Rattle.solutions.proofs.BestLemmas.{literal_is_so, literals_more}
use Rattle.solutions.proofs.best.literals.Invariants.{provided}
use Rattle.solutions.proofs.best.literals.Goals as goal

pub loop-alternative-preserved : goal.loop-alternative-preserved
loop-alternative-preserved g c = λ other.
    let p = provided g c.args.encoder.now.provider.now in
    let l = c.new.result in
    let a = c.alternative-item.result in
    let fact = ap (λ k. k.fact) c.new.ensures ∙ c.in_ok-atom.ensures.fact in
    let value = ap (λ k. k.value) c.new.ensures in
    let pushed : c.push.new.self.items ≡ c.loop-alternative.literals.items ++ l ∷ [] = search rules in
    literals_more p c.args.alternatives.now c.loop-alternative.alternative-index a c.loop-alternative.literals.items
    c.push.new.self.items l other
    c.loop-alternative-test.true c.alternative-item.is pushed (literal_is_so p l a fact value other)
    (c.loop-alternative.invariant other)

pub returns : goal.returns
returns g c = λ other.
    let p = provided g c.args.encoder.now.provider.now in
    c.loop-alternative.invariant other
    ∙ ap (map (is_so p other)) (take_all c.loop-alternative.alternative-index c.args.alternatives.now
    c.loop-alternative-test.false)
