use Rattle.std.proofs.Common.{Bor, ◌≡◌, ◌<◌, ◌==◌, ℕ, List, [], length, rules, subst, sym, tests}
use Rattle.std.specs.Prelude.{All}
use Rattle.std.proofs.lemmas.Iterator.Consumers.{YieldsList-end}
use Rattle.std.proofs.lemmas.Iterator.Splits.{YieldsList-from_slice_split}
use Rattle.std.proofs.lemmas.List.Elements.{All-map, All-nil, All-push, All-weaker}
use Rattle.debian_provider.proofs.Words.{AreSetsHere, IfOk, IsOffered, plain_package, relation_of, sets_in}
use Rattle.debian_provider.proofs.Words.{VersionSetId}
use Rattle.debian_provider.proofs.Offered.{added_twice, grown_then, offered_then}
use Rattle.debian_provider.proofs.Offered.{relation_offered_still}
use Rattle.debian_provider.proofs.archive.Archive.requirement.Goals as goal

pub loop-part-preserved : goal.loop-part-preserved
loop-part-preserved c =
    let before = c.loop-part.self in
    let after = c.add_alternative.new.self in
    let sets = c.loop-part.sets.items in
    let more = c.add_alternative.new.sets.items in
    let one = plain_package c.args.one.now in
    let step = c.in_ok-add_alternative.ensures in
    record {
      added = added_twice c.args.self.now before after [] sets more c.loop-part.invariant.added step.added;
      offered = All-push (λ (part : Bor (List ℕ)). IsOffered after.rules after.reached.pool one more
          (relation_of part.now)) c.loop-part.yielded c.in-Some.part
          (All-weaker (λ (part : Bor (List ℕ)). IsOffered before.rules before.reached.pool one sets
          (relation_of part.now)) _
          (λ part h. relation_offered_still before after step.added.grown sets more step.added.kept one
          (relation_of part.now) h) c.loop-part.yielded c.loop-part.invariant.offered)
          step.offered;
    }

pub one_of-requires : goal.one_of-requires
one_of-requires c =
    subst (AreSetsHere c.loop-part.self.reached.pool) (sym c.deref.ensures.value) (c.loop-part.invariant.added.here
    (All-nil (λ (v : VersionSetId). v.0 < length c.args.self.now.reached.pool.version_sets)))

pub returns-clause-grown : goal.returns-clause-grown
returns-clause-grown c =
    grown_then c.one_of.result c.args.self.now c.loop-part.self c.one_of.new.self c.loop-part.invariant.added.grown
    c.one_of.ensures.grown

pub returns-clause-offered : goal.returns-clause-offered
returns-clause-offered c =
    let mid = c.loop-part.self in
    let one = plain_package c.args.one.now in
    let sets = c.loop-part.sets.items in
    let whole = YieldsList-end (YieldsList-from_slice_split _ (λ b. b == 124) c.args.group.now (cc) (cc) (cc)
    (λ x b q k. search (rules, tests))) c.loop-part.yielded _ c.loop-part.yielded_by _ _ c.in-None.is
    c.next.ensures.steps in
    offered_then c.one_of.result mid c.one_of.new.self one sets c.args.group.now c.one_of.ensures.grown
    (subst (λ (l : List VersionSetId). IfOk c.one_of.result (λ found. sets_in c.one_of.new.self.reached.pool found ≡ l))
    c.deref.ensures.value c.one_of.ensures.sets)
    (subst (All (λ (part : List ℕ). IsOffered mid.rules mid.reached.pool one sets (relation_of part))) whole.0
    (All-map (λ (part : List ℕ). IsOffered mid.rules mid.reached.pool one sets (relation_of part))
    (λ (y : Bor (List ℕ)). y.now)
    c.loop-part.yielded c.loop-part.invariant.offered))
