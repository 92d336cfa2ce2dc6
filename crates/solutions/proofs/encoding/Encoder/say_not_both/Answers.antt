use Rattle.std.proofs.Common.{◌≡◌, ◌∷◌, [], ◌&&◌, List, ap, true, false, rules}
use Rattle.solutions.proofs.Words.{gathered, is_true, Provider, truth}
use Rattle.solutions.proofs.DecisionLemmas.{done}
use Rattle.solutions.proofs.ReasonLemmas.{not_both_where}
use Rattle.solutions.proofs.encoding.Encoder.say_not_both.Given.{Over}
use Rattle.solutions.proofs.EncodingLemmas as L
use Rattle.solutions.proofs.encoding.Encoder.say_not_both.Goals as goal

-- the provider's functions
abbrev provided : (g : Over) → g.row.D.Denot → Provider g.row.D-NameId.Denot g.row.D-SolvableId.Denot
provided g = gathered g.D.NameId.PartialEq.eq g.D.SolvableId.PartialEq.eq g.D.NameId.Slots.IdMap.is_too_large
    g.D.SolvableId.Slots.IdMap.is_too_large g.D.SolvableId.Set.IdSet.is_too_large g.D.NameId.SolverId.are_many
    g.D.Interner.universe g.D.DependencyProvider.answers

pub returns-then-not-is_new : goal.returns-then-not-is_new
returns-then-not-is_new g c =
    let p = provided g c.args.self.now.provider.now in
    L.still p (λ q. c.args.is_new ≡ true → (truth p q c.args.before.fact && truth p q c.args.version.fact) ≡ false)
    c.args.theory.now.clauses.items

pub returns : goal.returns
returns g c =
    let p = provided g c.args.self.now.provider.now in
    let before = c.args.before.fact in
    let version = c.args.version.fact in
    let yes : c.args.is_new ≡ true = search rules in
    let NotBoth = λ (q : List g.row.D-SolvableId.Denot). c.args.is_new ≡ true →
    (truth p q before && truth p q version) ≡ false in
    done c.add_binary.result
    (λ stated. L.still_added p NotBoth c.args.theory.now.clauses.items c.add_binary.new.self.clauses.items
    (c.new.result ∷ c.new-2.result ∷ []) stated
    (λ q both. not_both_where p c.new.result c.new-2.result q (truth p q before) (truth p q version)
    (ap (is_true (truth p q)) c.new.ensures)
    (ap (is_true (truth p q)) c.new-2.ensures) (both yes)))
    c.add_binary.ensures
