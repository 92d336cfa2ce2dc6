-- A queue after clauses became hot.
use Rattle.std.proofs.Common.{◌≡◌, ℕ, ◌≤◌, Bool, true, false, List, get_or, length}
use Rattle.std.proofs.Common.{Result, Ok, Err, sym, ap, refl, ◌∙◌, subst}
use Rattle.std.specs.Prelude.{All}
use Rattle.std.proofs.lemmas.List.{length-map}
use Rattle.resolvo_queue.proofs.Words.{AreCold, clause_literals, clause_of, ColdLack, counts, has, HasParts, Heats}
use Rattle.resolvo_queue.proofs.Words.{IdSpace, IsConditionOf, IsWellFormed, IsListedWell, IsUpdate, KeepsQueued}
use Rattle.resolvo_queue.proofs.Words.{list_at, literals_in, names_at, Queue, References, Stands, StandsOn, StoreError}
use Rattle.resolvo_queue.proofs.Words.{TrackedClause, Values, values_of, variable_of}
use Rattle.resolvo_queue.specs.References.{rows_in}

module _ {N H : Type 0} (has : H → N → Bool) (q q' : Queue N H) (heats : Heats q.inside q'.inside)
    (woken : q'.woken ≡ q.woken) where
  same_length : length q'.inside.clauses ≡ length q.inside.clauses
  same_length = sym (length-map q'.inside.clauses clause_of) ∙
      (ap length heats.clauses ∙ length-map q.inside.clauses clause_of)

  pub kept_heated : IsWellFormed has q → q'.names ≡ q.names → q'.hot ≡ q.hot → IsWellFormed has q'
  kept_heated kept names hot = record {
    order = heats.in_order kept.order;
    names = ap length names ∙ (kept.names ∙ sym same_length);
    woken = subst (λ (x : ℕ × ℕ). x.0 ≤ x.1) (λ i. (sym woken i, sym same_length i)) kept.woken;
    cold = λ n c e cool. subst (All (λ m. has q'.hot m ≡ false)) (ap (λ l. names_at l n) (sym names))
        (subst (λ h. All (λ m. has h m ≡ false) (names_at q.names n)) (sym hot)
        (kept.cold n c (heats.cold n c e cool) cool));
  }

  pub stands_heated : {S A : Type 0} (refs : References N S A) → StandsOn refs q → q'.clauses ≡ q.clauses →
      q'.trail ≡ q.trail → q'.must_start_anew ≡ q.must_start_anew → StandsOn refs q'
  stands_heated refs stands clauses trail anew = record {
    clauses = clauses ∙ (stands.clauses ∙ sym heats.clauses);
    parts = subst (All (HasParts refs)) (sym clauses) stands.parts;
    conditions = λ n c e l s. (let was = heats.finds n c e in
        subst (λ lists. IsConditionOf (list_at lists (variable_of l)) c.condition) (sym heats.conditions)
        (subst (IsConditionOf (list_at q.inside.conditions (variable_of l))) (sym was.2)
        (stands.conditions n was.0 was.1 l (subst (λ o. Stands l (literals_in refs o)) was.2 s))));
    listed = subst (λ o. IsListedWell refs.lists o q'.inside.requirements) (sym heats.occurrences)
        (subst (IsListedWell refs.lists q.inside.occurrences) (sym heats.requirements) stands.listed);
    synced = λ accepted.
        subst (λ (x : Values × ℕ × List ℕ). KeepsQueued q'.inside.clauses (clause_literals refs) (rows_in refs) x.0
        (counts x.0 x.1 x.2) q'.inside.requirements q'.inside.queued)
        (λ i. (ap values_of (sym trail) i, sym woken i, sym heats.noted i))
        (heats.synced (clause_literals refs) (rows_in refs) (values_of q.trail)
        (counts (values_of q.trail) q.woken q.inside.noted) (λ d. refl) (λ d. refl)
        (stands.synced (sym anew ∙ accepted)));
  }

-- names of clauses that aren't hot stay cold where one more name is hot that they lack
pub cold_still : {N : Type 0} (hot hot' : N → Bool) (name : N) (names : List (List N)) (cs : List TrackedClause) →
    IsUpdate hot name true hot' → AreCold hot names cs → ColdLack name names cs → AreCold hot' names cs
cold_still hot hot' name names cs update cold lacks n c e cool k d lt =
    update.1 (get_or (names_at names n) k d) (lacks n c e cool k d lt) ∙ cold n c e cool k d lt

-- a name that came to a set isn't too large for it
pub fits_if_ok : {T : Type 0} (is_too_large : Bool) (res : Result T StoreError) (x : T) → res ≡ Ok x →
    (is_too_large ≡ true → res ≡ Err IdSpace) → is_too_large ≡ false
fits_if_ok true res x ok large = let bad : Ok x ≡ Err IdSpace = sym ok ∙ large refl in cc
fits_if_ok false res x ok large = refl

-- one name more is hot, or its insertion was refused
pub kept_hot : {N H : Type 0} (has : H → N → Bool) (q : Queue N H) (hot : H) → IsWellFormed has q →
    AreCold (has hot) q.names q.inside.clauses → IsWellFormed has (record q { hot = hot })
kept_hot has q hot kept cold = record { order = kept.order; names = kept.names; woken = kept.woken; cold = cold }

pub stands_hot : {N S A H : Type 0} (refs : References N S A) (q : Queue N H) (hot : H) → StandsOn refs q →
    StandsOn refs (record q { hot = hot })
stands_hot refs q hot stands = record {
  clauses = stands.clauses;
  parts = stands.parts;
  conditions = stands.conditions;
  listed = stands.listed;
  synced = stands.synced;
}
