use Rattle.std.proofs.Common.{◌≡◌, ◌∙◌, ◌<◌, ◌-◌, true, false, ap, arith, rules, sym}
use Rattle.std.proofs.lemmas.Result.{IfOk-weaker}
use Rattle.example_json.proofs.Words.{condition_data, joined, Null, null, the_lemmas, view}
use Rattle.example_json.proofs.ConditionLemmas.{known_condition, unknown_condition}
use Rattle.resolvo_pool.specs.Types.Condition.TheVariants as Cond
use Rattle.example_json.proofs.values.Values.+condition.Goals as goal

pub returns-then-not-knows_condition : goal.returns-then-not-knows_condition
returns-then-not-knows_condition g t c =
    let universe = g.I.Interner.universe c.args.self.now.interner.now in
    let texts = g.I.Interner.texts c.args.self.now.interner.now in
    let above : 0 < c.args.depth = omega arith in
    let unknown : universe.knows_condition c.args.condition ≡ false = cc in
    let shown : view Null ≡ null = search (rules, the_lemmas) in
    shown ∙ sym (unknown_condition universe texts c.args.depth c.args.condition above unknown)

pub returns-in-Requirement : goal.returns-in-Requirement
returns-in-Requirement g t c =
    let universe = g.I.Interner.universe c.args.self.now.interner.now in
    let texts = g.I.Interner.texts c.args.self.now.interner.now in
    let above : 0 < c.args.depth = omega arith in
    let known : universe.knows_condition c.args.condition ≡ true =
    sym c.knows_condition.ensures ∙ c.if-not-knows_condition.false in
    let parts = Cond.Requirement c.in-Requirement.set in
    let is : universe.condition c.args.condition ≡ parts = sym c.resolve_condition.ensures ∙ c.in-Requirement.is in
    IfOk-weaker c.set.result _ _
    (λ value same. same
    ∙ sym (known_condition universe texts c.args.depth c.args.condition parts above known is))
    c.set.ensures

pub returns-in_ok-joined-in-Binary : goal.returns-in_ok-joined-in-Binary
returns-in_ok-joined-in-Binary g t c =
    let universe = g.I.Interner.universe c.args.self.now.interner.now in
    let texts = g.I.Interner.texts c.args.self.now.interner.now in
    let above : 0 < c.args.depth = omega arith in
    let known : universe.knows_condition c.args.condition ≡ true =
    sym c.knows_condition.ensures ∙ c.if-not-knows_condition.false in
    let operator = c.in-Binary.operator in
    let parts = Cond.Binary operator c.in-Binary.left c.in-Binary.right in
    let is : universe.condition c.args.condition ≡ parts = sym c.resolve_condition.ensures ∙ c.in-Binary.is in
    let value = condition_data universe texts (c.args.depth - 1) in
    c.in_ok-joined-in-Binary.ensures
    ∙ ap (λ l. joined operator l (view c.in_ok-right-in-Binary.right)) c.in_ok-left-in-Binary.ensures
    ∙ ap (λ r. joined operator (value c.in-Binary.left) r) c.in_ok-right-in-Binary.ensures
    ∙ sym (known_condition universe texts c.args.depth c.args.condition parts above known is)
