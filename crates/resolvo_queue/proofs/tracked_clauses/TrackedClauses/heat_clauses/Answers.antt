use Rattle.std.proofs.Common.{◌<◌, inl, inr, refl, sym, subst, ◌∙◌}
use Rattle.resolvo_queue.proofs.Words.{IsFrom, tracking_of}
use Rattle.resolvo_queue.proofs.Clauses.ByName.{fewer_left, none_from, not_both, past_from, places_left}
use Rattle.resolvo_queue.proofs.Syncs.HotNames.{heats_both, heats_none, hot_or_further}
use Rattle.resolvo_queue.proofs.tracked_clauses.TrackedClauses.heat_clauses.Goals as goal

pub loop-next-init : goal.loop-next-init
loop-next-init g c = record {
  heats = heats_none (tracking_of c.args.self.now);
  hot = λ n d s. inl (subst (IsFrom c.args.by_name.now.entries n) (sym c.newest-next.ensures.place) s);
  none = λ e. c.newest-next.ensures.place ∙ e;
  only_hot = refl;
  trail = refl;
  anew = refl;
}

-- no entry stands there
pub returns-in_default-entry-clause-heats : goal.returns-in_default-entry-clause-heats
returns-in_default-entry-clause-heats g c = c.loop-next.invariant.heats

pub returns-in_default-entry-clause-hot : goal.returns-in_default-entry-clause-hot
returns-in_default-entry-clause-hot g c = λ n d s at. elim (c.loop-next.invariant.hot n d s) [
  | inl from ↦ past_from c.args.by_name.now.entries n c.in-Some.place c.in-Some.is
      (sym c.entry.ensures.entry ∙ c.in_default-entry.is) from
  | inr hot ↦ hot at
]

pub returns-in_default-entry-clause-same : goal.returns-in_default-entry-clause-same
returns-in_default-entry-clause-same g c =
    (c.loop-next.invariant.only_hot, c.loop-next.invariant.trail, c.loop-next.invariant.anew)

-- the clause was refused
pub returns-in_err-heat_number-clause-heats : goal.returns-in_err-heat_number-clause-heats
returns-in_err-heat_number-clause-heats g c = heats_both (tracking_of c.args.self.now) (tracking_of c.loop-next.self)
    (tracking_of c.heat_number.new.self) c.loop-next.invariant.heats c.heat_number.ensures.heats

pub returns-in_err-heat_number-clause-too_large : goal.returns-in_err-heat_number-clause-too_large
returns-in_err-heat_number-clause-too_large g c = λ large. not_both c.loop-next.next c.in-Some.place
    (c.loop-next.invariant.none (sym c.newest-next.ensures.place ∙ c.newest-next.ensures.too_large large)) c.in-Some.is

pub returns-in_err-heat_number-clause-same : goal.returns-in_err-heat_number-clause-same
returns-in_err-heat_number-clause-same g c = (
  c.heat_number.ensures.same.0 ∙ c.loop-next.invariant.only_hot,
  c.heat_number.ensures.same.1 ∙ c.loop-next.invariant.trail,
  c.heat_number.ensures.same.2 ∙ c.loop-next.invariant.anew,
)

pub loop-next-smaller : goal.loop-next-smaller
loop-next-smaller g c = subst (λ o. places_left c.in-Some-entry.entry.earlier < places_left o) (sym c.in-Some.is)
    (fewer_left c.in-Some-entry.entry.earlier c.in-Some.place c.in-Some-entry.ensures.behind)

pub loop-next-preserved : goal.loop-next-preserved
loop-next-preserved g c = record {
  heats = heats_both (tracking_of c.args.self.now) (tracking_of c.loop-next.self)
      (tracking_of c.heat_number.new.self) c.loop-next.invariant.heats c.heat_number.ensures.heats;
  hot = λ n d s. hot_or_further (tracking_of c.loop-next.self) (tracking_of c.heat_number.new.self)
      c.heat_number.ensures.heats c.args.by_name.now.entries c.in-Some.place c.in-Some-entry.entry
      (sym c.entry.ensures.entry ∙ c.in-Some-entry.is) c.loop-next.next c.in-Some.is c.in_ok-heat_number.ensures.hot
      n d (c.loop-next.invariant.hot n d s);
  none = λ e. not_both c.loop-next.next c.in-Some.place (c.loop-next.invariant.none e) c.in-Some.is;
  only_hot = c.heat_number.ensures.same.0 ∙ c.loop-next.invariant.only_hot;
  trail = c.heat_number.ensures.same.1 ∙ c.loop-next.invariant.trail;
  anew = c.heat_number.ensures.same.2 ∙ c.loop-next.invariant.anew;
}

-- no entry is left
pub returns-clause-heats : goal.returns-clause-heats
returns-clause-heats g c = c.loop-next.invariant.heats

pub returns-clause-hot : goal.returns-clause-hot
returns-clause-hot g c = λ n d s at. elim (c.loop-next.invariant.hot n d s) [
  | inl from ↦ none_from c.args.by_name.now.entries n c.in_default.is from
  | inr hot ↦ hot at
]

pub returns-clause-same : goal.returns-clause-same
returns-clause-same g c =
    (c.loop-next.invariant.only_hot, c.loop-next.invariant.trail, c.loop-next.invariant.anew)
