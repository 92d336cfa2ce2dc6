use Rattle.std.proofs.Common.{◌≡◌, ◌∙◌, length, take, refl, sym, subst, ap, arith, rules, true, []}
use Rattle.std.specs.Prelude.{ℕ, Option, Result}
use Rattle.std.proofs.lemmas.Bool.Decides.{nat_tests}
use Rattle.watch_map.specs.ClauseList.{watched_by}
use Rattle.watch_map.specs.Saturation.{WatchOwn}
use Rattle.resolvo_store.proofs.Words.{AreMarks, conflict, contents, is_level, literals_from, replied, Saturate, Step}
use Rattle.resolvo_store.proofs.Words.{store_of, StoredLiterals, StoreError, StoreState}
use Rattle.resolvo_store.specs.Store.{Provider, gathered}
use Rattle.resolvo_store.proofs.CountedLemmas.{follows_more, front_of, keeps_counted}
use Rattle.resolvo_store.proofs.CallerLaws.{store_in, done_settles, done_unfalsified}
use Rattle.resolvo_store.proofs.ListLemmas.{literals-kept}
use Rattle.resolvo_store.proofs.SaturatingLemmas.{HasLeft, with_forced, step_found, still, after_saturated}
use Rattle.resolvo_store.proofs.store.ClauseStore.saturate.Given.{Over}
use Rattle.resolvo_store.proofs.store.ClauseStore.saturate.Goals as goal

-- the provider's functions
abbrev given : (g : Over) → g.row.D.Denot → Provider g.row.D-NameId.Denot g.row.D-SolvableId.Denot
given g = gathered g.D.NameId.PartialEq.eq g.D.SolvableId.PartialEq.eq g.D.NameId.Slots.IdMap.is_too_large
    g.D.SolvableId.Slots.IdMap.is_too_large g.D.SolvableId.Set.IdSet.is_too_large g.D.NameId.SolverId.are_many
    g.D.Interner.universe g.D.DependencyProvider.answers

pub saturate-requires-clause-marks : goal.saturate-requires-clause-marks
saturate-requires-clause-marks g c =
    let inside = c.self.inside in
    let same = ap (λ (k : StoredLiterals). literals_from (record k { learnt = inside.clauses.learnt })
    inside.clauses.clauses) (literals-kept [] [] inside.loaded inside.disjunctions refl) in
    subst (λ f. AreMarks f (watched_by (contents inside.clauses)) inside.trail.entries inside.marks)
    (sym same) c.self.invariant.marked

pub saturate-requires-clause-own : goal.saturate-requires-clause-own
saturate-requires-clause-own g c =
    let inside = c.self.inside in
    let same = ap (λ (k : StoredLiterals). literals_from (record k { learnt = inside.clauses.learnt })
    inside.clauses.clauses) (literals-kept [] [] inside.loaded inside.disjunctions refl) in
    subst (λ f. WatchOwn f (watched_by (contents inside.clauses))) (sym same) c.self.invariant.consistent.sound.own

pub invariant_of-self : goal.invariant_of-self
invariant_of-self g c =
    let inside = c.self.inside in
    let call = c.saturate in
    let same = ap (λ (k : StoredLiterals). literals_from (record k { learnt = inside.clauses.learnt })
    inside.clauses.clauses) (literals-kept [] [] inside.loaded inside.disjunctions refl) in
    let left : HasLeft (store_in c.self.invariant.consistent.sound) _ c.args.level inside.trail call.new.trail
    (contents call.new.self) = record {
      literals_are = same;
      clauses = call.ensures.clauses;
      learnt = call.ensures.learnt;
      rearranged = call.ensures.rearranged;
      is_list = call.ensures.list;
      implied = call.ensures.implied;
    } in
    let front : take (length inside.trail.entries) call.new.trail.entries ≡ inside.trail.entries =
    ap (take (length inside.trail.entries)) call.ensures.implied.entries
    ∙ front_of inside.trail.entries call.ensures.implied.added in
    record {
      consistent = after_saturated c.self.invariant.consistent c.args.level (search rules) left refl refl;
      counted = keeps_counted refl (λ h. follows_more inside.falsified _ inside.trail.entries call.new.trail.entries
          h front) c.self.invariant.counted;
      marked = still (store_in c.self.invariant.consistent.sound) c.self.invariant.consistent.sound _ c.args.level
          inside.trail call.new.trail (contents call.new.self) left refl refl
          (λ f n. AreMarks f (watched_by (contents call.new.self)) call.new.trail.entries call.new.marks)
          call.ensures.marks;
    }

pub returns-clause-step : goal.returns-clause-step
returns-clause-step g c =
    let inside = c.self.inside in
    let call = c.saturate in
    let st = store_in c.self.invariant.consistent.sound in
    let same = ap (λ (k : StoredLiterals). literals_from (record k { learnt = inside.clauses.learnt })
    inside.clauses.clauses) (literals-kept [] [] inside.loaded inside.disjunctions refl) in
    let left : HasLeft st _ c.args.level inside.trail call.new.trail (contents call.new.self) = record {
      literals_are = same;
      clauses = call.ensures.clauses;
      learnt = call.ensures.learnt;
      rearranged = call.ensures.rearranged;
      is_list = call.ensures.list;
      implied = call.ensures.implied;
    } in
    let good : is_level c.args.level ≡ true = (let iff = c.level_in_range.ensures in
    let test = c.if-not-level_in_range.false in grind (arith, nat_tests, iff, test)) in
    let after = with_forced st (contents call.new.self) call.new.trail in
    subst (λ (k : StoreState g.row.D.Denot g.row.D-NameId.Denot g.row.D-SolvableId.Denot
    g.row.D-NameId-Scores.Denot). Step (store_of (given g) g.D.NameId.Scores.IdMap.value_at k)
    (Saturate c.args.level) (replied conflict call.result) after) c.self.view_is
    (step_found st c.self.invariant.consistent.sound _ c.args.level inside.trail call.new.trail
    (contents call.new.self) left refl refl call.result good call.ensures.ok call.ensures.memory)

pub returns-clause-settled : goal.returns-clause-settled
returns-clause-settled g c h =
    let old = store_of (given g) g.D.NameId.Scores.IdMap.value_at c.args.self.now in
    let after = with_forced (store_in c.self.invariant.consistent.sound)
    (contents c.saturate.new.self) c.saturate.new.trail in
    done_settles old after c.args.level
    (subst (λ (found : Result (Option ℕ) StoreError). Step old (Saturate c.args.level)
    (replied conflict found) after) h (returns-clause-step g c))

pub returns-clause-unfalsified : goal.returns-clause-unfalsified
returns-clause-unfalsified g c h =
    let old = store_of (given g) g.D.NameId.Scores.IdMap.value_at c.args.self.now in
    let after = with_forced (store_in c.self.invariant.consistent.sound)
    (contents c.saturate.new.self) c.saturate.new.trail in
    done_unfalsified old after c.args.level (invariant_of-self g c).consistent.sound
    (subst (λ (found : Result (Option ℕ) StoreError). Step old (Saturate c.args.level)
    (replied conflict found) after) h (returns-clause-step g c))
