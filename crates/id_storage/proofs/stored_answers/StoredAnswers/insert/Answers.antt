use Rattle.std.proofs.lemmas.Grind.{common_steps}
use Rattle.std.proofs.Common.{rules, ◌≡◌, ◌<◌, ◌^◌, None, length, min, sym, ◌∙◌, arith}
use Rattle.std.specs.Map.{lookup}
use Rattle.id_storage.proofs.AnswerLemmas.{AreStored-push, fewer_kept}
use Rattle.id_storage.proofs.stored_answers.StoredAnswers.insert.Goals as goal

pub invariant_of-self-2 : goal.invariant_of-self-2
invariant_of-self-2 g c =
    let same = g.K.PartialEq.eq in
    let kept = c.self.inside.answers in
    let size : c.len-index.result ≡ length kept = search rules in
    let below : c.len-index.result < min g.I.DenseIndex.limit (2 ^ 32) = search rules in
    let none : lookup (same c.args.key) kept ≡ None = search rules in
    rw c.in_ok-id.ensures.ok
    (AreStored-push same g.met.K.Eq.laws g.met.K.SameValue.same g.K.SolverId.is_id g.I.DenseIndex.limit
    c.len-index.result
    _ _ _ kept c.args.key c.args.value size below
    c.self.invariant c.make_room.ensures.same none c.attest.ensures (
      c.put.ensures.put.0
          ∙ c.new.ensures,
      c.put.ensures.put.1,
    ))

pub returns-then-index-clause-few : goal.returns-then-index-clause-few
returns-then-index-clause-few g c =
    let same = g.K.PartialEq.eq in
    let kept = c.self.inside.answers in
    let none : lookup (same c.args.key) kept ≡ None = search rules in
    λ few. rw (sym c.self.view_is)
    (fewer_kept same g.met.K.Eq.laws g.K.SolverId.is_id g.K.SolverId.are_many g.met.K.SolverId.few
    g.I.DenseIndex.limit _ kept c.args.key
    c.self.invariant c.attest.ensures none few)

pub put-requires : goal.put-requires
put-requires g c = grind (arith, common_steps)
