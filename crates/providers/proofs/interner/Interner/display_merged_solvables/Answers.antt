use Rattle.std.proofs.Common.{◌∙◌, ◌++◌, ap, refl, string_bytes}
use Rattle.std.proofs.lemmas.Result.{on_ok_weaker}
use Rattle.providers.proofs.GatherLemmas.{one_more, none_left}
use Rattle.providers.proofs.MergedLemmas.{by_default, of_solvables}
use Rattle.providers.proofs.interner.Interner.display_merged_solvables.Goals as goal

pub loop-solvable-init : goal.loop-solvable-init
loop-solvable-init g c = record { name = refl; texts = rw c.new-merged.ensures.texts refl }

pub loop-solvable-preserved : goal.loop-solvable-preserved
loop-solvable-preserved g c =
    let text = (g.Self.Interner.texts c.args.self.now).solvable in
    let item = c.solvable-item.result in
    let whole = c.in_ok-display_solvable.ensures.ok ∙ (ap (λ bytes. bytes ++ text item) c.new-text.ensures.bytes
    ∙ ap text c.solvable-item.is) in
    record {
      name = c.in_ok-push.ensures.name ∙ c.loop-solvable.invariant.name;
      texts = one_more string_bytes text c.loop-solvable.merged.texts.items c.args.solvables.now
          c.loop-solvable.solvable-index c.loop-solvable.invariant.texts
          c.push.new.self.texts.items c.display_solvable.new.out item c.loop-solvable-test.true whole
          c.in_ok-push.ensures.ok;
    }

pub returns-clause-ok : goal.returns-clause-ok
returns-clause-ok g c =
    let own = g.Self.Interner in
    let p = c.args.self.now in
    let named = c.in_ok-display_solvable_name.ensures.ok in
    let merged = c.loop-solvable.merged in
    let name = ap string_bytes (c.loop-solvable.invariant.name ∙ c.new-merged.ensures.name) ∙
    (named.1 ∙ ap (λ bytes. bytes ++ named.0) c.new-name.ensures.bytes) in
    let gathered = none_left string_bytes (own.texts p).solvable merged.texts.items c.args.solvables.now
    c.loop-solvable.solvable-index
    c.loop-solvable.invariant.texts c.loop-solvable-test.false in
    on_ok_weaker c.append_to.result (λ h. (
      h.0,
      h.1,
      by_default _ (own.own_merged p c.args.solvables.now) _
          (of_solvables (own.universe p) (own.texts p) (own.own_solvable_name p) c.args.solvables.now
          c.in-Some.first.now named.0 _ _ _
          c.in-Some.ensures.value named.2 name gathered h.2),
    )) c.append_to.ensures.ok
