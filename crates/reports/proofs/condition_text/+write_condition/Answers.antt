use Rattle.std.proofs.Common.{◌≡◌, ◌∙◌, ◌<◌, ◌-◌, ◌++◌, true, false, arith, string_bytes, sym}
use Rattle.resolvo_pool.specs.Types.Condition.TheVariants as Cond
use Rattle.reports.proofs.AppendLemmas.{as_said, in_turn, nothing_said}
use Rattle.reports.proofs.TextLemmas.{known_condition, unknown_condition}
use Rattle.reports.specs.ConditionTexts.{closing, opening, text_of_condition, word_of}
use Rattle.reports.proofs.condition_text.+write_condition.Goals as goal

pub returns-then-not-knows_condition : goal.returns-then-not-knows_condition
returns-then-not-knows_condition g t c =
    let universe = g.I.Interner.universe c.args.interner.now in
    let above : 0 < c.args.depth = omega arith in
    let unknown : universe.knows_condition c.args.condition ≡ false = cc in
    nothing_said _ _ (unknown_condition universe (g.I.Interner.texts c.args.interner.now) _ _ _ above unknown)

pub returns-in_ok-push_str-in-Binary-3 : goal.returns-in_ok-push_str-in-Binary-3
returns-in_ok-push_str-in-Binary-3 g t c =
    let universe = g.I.Interner.universe c.args.interner.now in
    let texts = g.I.Interner.texts c.args.interner.now in
    let above : 0 < c.args.depth = omega arith in
    let known : universe.knows_condition c.args.condition ≡ true =
    sym c.knows_condition.ensures ∙ c.if-not-knows_condition.false in
    let inner = c.in-Binary.operator in
    let parts = Cond.Binary inner c.in-Binary.left c.in-Binary.right in
    let is : universe.condition c.args.condition ≡ parts = sym c.resolve_condition.ensures ∙ c.in-Binary.is in
    let text = text_of_condition universe texts (c.args.depth - 1) inner in
    let left = text c.in-Binary.left in
    let right = text c.in-Binary.right in
    let word = word_of inner in
    let before = opening c.args.joined_by inner in
    let behind = closing c.args.joined_by inner in
    let old = string_bytes c.args.text.now in
    let opened = string_bytes c.push_str-in-Binary.new.self in
    let lefted = string_bytes c.write_condition.new.text in
    let joined = string_bytes c.push_str-in-Binary-2.new.self in
    let righted = string_bytes c.write_condition-in-Binary.new.text in
    let new = string_bytes c.push_str-in-Binary-3.new.self in
    as_said old new (before ++ (left ++ (word ++ (right ++ behind))))
    (text_of_condition universe texts c.args.depth c.args.joined_by c.args.condition)
    (in_turn old opened new before (left ++ (word ++ (right ++ behind)))
    (as_said old opened c.opening.result.now before c.in_ok-push_str-in-Binary.ensures.bytes c.opening.ensures)
    (in_turn opened lefted new left (word ++ (right ++ behind)) c.in_ok-write_condition-in-Binary.ensures
    (in_turn lefted joined new word (right ++ behind)
    (as_said lefted joined c.word_of.result.now word c.in_ok-push_str-in-Binary-2.ensures.bytes c.word_of.ensures)
    (in_turn joined righted new right behind c.in_ok-write_condition-in-Binary-2.ensures
    (as_said righted new c.closing.result.now behind c.in_ok-push_str-in-Binary-3.ensures.bytes
    c.closing.ensures)))))
    (sym (known_condition universe texts c.args.depth c.args.joined_by c.args.condition above parts known is))
