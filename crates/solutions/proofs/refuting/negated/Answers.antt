use Rattle.std.proofs.Common.{◌≡◌, ◌∙◌, ◌∷◌, [], ◌++◌, not, get_or, sym, ap, rules}
use Rattle.std.proofs.lemmas.List.{map_more}
use Rattle.solutions.proofs.Words.{Literal}
use Rattle.solutions.proofs.refuting.negated.Goals as goal

pub loop-literal-preserved : goal.loop-literal-preserved
loop-literal-preserved g c =
    let opposite : Literal g.row.N.Denot g.row.S.Denot → Literal g.row.N.Denot g.row.S.Denot =
    λ k. record { fact = k.fact; number = k.number; value = not k.value } in
    let xs = c.args.literals.now in
    let i = c.loop-literal.literal-index in
    let x = c.literal-item.result in
    let pushed : c.push.new.self.items ≡ c.loop-literal.negated.items ++ c.negated.result ∷ [] = search rules in
    pushed ∙ ap (λ l. c.loop-literal.negated.items ++ l ∷ []) (c.negated.ensures ∙ ap opposite c.literal-item.is)
    ∙ ap (λ ls. ls ++ opposite (get_or xs i x) ∷ []) c.loop-literal.invariant
    ∙ sym (map_more opposite xs i x c.loop-literal-test.true)
