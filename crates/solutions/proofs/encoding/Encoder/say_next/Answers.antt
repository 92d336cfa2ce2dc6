use Rattle.std.proofs.Common.{◌≡◌, ◌∙◌, ◌∷◌, [], ◌||◌, List, ap}
use Rattle.solutions.proofs.Words.{gathered, is_true, truth}
use Rattle.solutions.proofs.DecisionLemmas.{done}
use Rattle.solutions.proofs.ReasonLemmas.{or_true, so_where}
use Rattle.solutions.proofs.EncodingLemmas as L
use Rattle.solutions.proofs.encoding.Encoder.say_next.Goals as goal

pub returns : goal.returns
returns g c =
    let p = gathered g.D.NameId.PartialEq.eq g.D.SolvableId.PartialEq.eq g.D.NameId.Slots.IdMap.is_too_large
    g.D.SolvableId.Slots.IdMap.is_too_large g.D.SolvableId.Set.IdSet.is_too_large g.D.NameId.SolverId.are_many
    g.D.Interner.universe g.D.DependencyProvider.answers c.args.self.now.provider.now in
    let next = c.args.next.fact in
    let before = c.args.before.fact in
    let version = c.args.version.fact in
    let so = c.new-so.result in
    let old = c.args.theory.now.clauses.items in
    let one = c.add_binary.new.self.clauses.items in
    let two = c.add_binary-2.new.self.clauses.items in
    let IsNext = λ (q : List g.row.D-SolvableId.Denot). truth p q next ≡ (truth p q before || truth p q version) in
    done c.add_binary-2.result
    (λ stated. L.still_then p IsNext old one two
    (L.still_added p IsNext old one (so ∷ c.new.result ∷ []) c.in_ok-add_binary.ensures
    (λ q is. so_where p so c.new.result q (truth p q next) (truth p q before)
    (ap (is_true (truth p q)) c.new-so.ensures) (ap (is_true (truth p q)) c.new.ensures)
    (λ yes. is ∙ ap (λ b. b || truth p q version) yes)))
    (L.still_added p IsNext one two (so ∷ c.new-2.result ∷ []) stated
    (λ q is. so_where p so c.new-2.result q (truth p q next) (truth p q version)
    (ap (is_true (truth p q)) c.new-so.ensures) (ap (is_true (truth p q)) c.new-2.ensures)
    (λ yes. is ∙ ap (λ b. truth p q before || b) yes ∙ or_true (truth p q before)))))
    c.add_binary-2.ensures
