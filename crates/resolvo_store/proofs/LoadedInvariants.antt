-- What a load leaves in order: variables for solvables, and the lists of a requirement.
use Rattle.std.proofs.Common.{[], ◌≡◌, ℕ, ◌<◌, ◌^◌, true, List, ◌∷◌}
use Rattle.std.proofs.Common.{◌++◌, length, map, None, refl, sym, subst}
use Rattle.std.proofs.Common.{ap, ◌∙◌}
use Rattle.std.specs.Prelude.{Bool, All}
use Rattle.std.proofs.lemmas.List.Folds.{flat_map-map}
use Rattle.std.proofs.lemmas.List.Elements.{All-push}
use Rattle.clauses.specs.declared.disjunction.Disjunction.{Disjunction}
use Rattle.resolvo_queue.proofs.Clauses.Callers.{stands_with_lists}
use Rattle.resolvo_store.proofs.Words.{Cache, CameThrough, flat_map, interned_variable, is_set_queried, IsConsistent}
use Rattle.resolvo_store.proofs.Words.{IsFit, IsOfCandidates, sorted_of, sorted_of_set}
use Rattle.resolvo_store.proofs.CandidateLists.{all_have, begins_variables, through-more}
use Rattle.resolvo_store.proofs.Words.{IsLater, IsSound, lists_of_loaded, lookup, Queue, references, Requirement}
use Rattle.resolvo_store.proofs.Words.{same_requirement, sets_of, Store, store_of, StoreState, Trail, VariableOrigin}
use Rattle.resolvo_store.proofs.Words.{Vec, with_entry, with_variables}
use Rattle.resolvo_store.specs.Store.{Provider}
use Rattle.resolvo_store.proofs.ListLemmas.{items_of, lookup-none, insert-kept, few-more, length-mapped}
use Rattle.solver_cache.proofs.CacheLemmas.{asked_later}
use Rattle.resolvo_store.proofs.KnownLemmas.{IsKnownSolvable, IsLawful}
use Rattle.resolvo_store.proofs.SoundLaws.{IsSound-with_variables, IsSound-interned}

-- the store of what is kept, with this provider, these variables and these lists
abbrev pub store_with : {D N S A C : Type 0} → (D → Provider N S) → (C → N → ℕ) → StoreState D N S C → D →
    List (VariableOrigin N S) → List (Requirement × Vec (Vec ℕ A) A) → Store N S
store_with provided scored kept provider os loaded =
    store_of provided scored (record kept { provider = provider; origins = os; loaded = lists_of_loaded loaded })

-- after a load, of what was kept before it: the provider is the cache's
module _ {D N S A H Q C : Type 0} (provided : D → Provider N S) (scored : C → N → ℕ) (has : H → S →
    Bool) (has_name : Q → N → Bool) (kept : StoreState D N S C) (origins : List (VariableOrigin N S))
    (loaded : List (Requirement × Vec (Vec ℕ A) A)) (disjunctions : List (Disjunction A)) (queue : Queue N Q)
    (trail : Trail) (old new : Cache D N S A H) (later : IsLater has old new) where
  abbrev same_solvable : S → S → Bool
  same_solvable = (provided old.provider).same_solvable

  abbrev with_all : D → List (VariableOrigin N S) → List (Requirement × Vec (Vec ℕ A) A) → Store N S
  with_all = store_with provided scored kept

  module _ (is : IsConsistent has_name (with_all old.provider origins loaded) loaded disjunctions old queue trail)
      (lawful : IsLawful (provided old.provider)) where
    -- after solvables got variables, or a beginning of them did
    pub after_variables : (ss : List S) (os : List (VariableOrigin N S)) →
        All (IsKnownSolvable (provided old.provider).universe) ss
        → os ≡ with_variables same_solvable origins ss →
        IsConsistent has_name (with_all new.provider os loaded) loaded disjunctions new queue trail
    after_variables ss os known got =
        subst (λ q. IsConsistent has_name (with_all q os loaded) loaded disjunctions new queue trail)
        (sym later.provider) (record {
          few = is.few;
          known = is.known;
          may_decide = is.may_decide;
          sound = subst (λ vs. IsSound (with_all old.provider vs loaded)) (sym got)
              (IsSound-with_variables (with_all old.provider origins loaded) is.sound lawful ss known);
          through = record {
            queried = λ k d lt i v below. asked_later has (provided old.provider) _ old new later
                (is.through.queried k d lt i v below);
            fit = is.through.fit;
            candidates = subst (λ vs. All (IsOfCandidates (provided old.provider) vs) (lists_of_loaded loaded))
                (sym got)
                (through-more (begins_variables same_solvable origins ss) is.through).candidates;
          };
        })

    -- after the candidates of a requirement got variables, and these were kept
    pub after_load : (r : Requirement) (os : List (VariableOrigin N S)) (lists : Vec (Vec ℕ A) A)
        (kept_lists : List (Requirement × Vec (Vec ℕ A) A))
        → All (IsKnownSolvable (provided old.provider).universe)
        (sorted_of (provided old.provider) r)
        → lookup (same_requirement r) (lists_of_loaded loaded) ≡ None
        → os ≡ with_variables same_solvable origins (sorted_of (provided old.provider) r)
        → map (λ l. l.items) lists.items ≡ map (λ v. map (interned_variable same_solvable os)
        (sorted_of_set (provided old.provider) v))
        (sets_of (provided old.provider).universe r)
        → length (sorted_of (provided old.provider) r) < 2 ^ 40
        → All (λ v. is_set_queried (provided old.provider) new v ≡ true) (sets_of (provided old.provider).universe r)
        → IsFit (provided old.provider) r → kept_lists ≡ with_entry loaded r lists
        → IsConsistent has_name (with_all new.provider os kept_lists) kept_lists disjunctions new queue trail
    after_load r os lists kept_lists solvables fresh got made few asked fit keeps =
        let best = sorted_of_set (provided old.provider) in
        let sets = sets_of (provided old.provider).universe r in
        let st = with_all old.provider origins loaded in
        let all : List (VariableOrigin N S) = with_variables same_solvable origins (flat_map best sets) in
        let own : List (VariableOrigin N S) → List (List ℕ) =
        λ vs. map (λ v. map (interned_variable same_solvable vs) (best v)) sets in
        let entry : lists_of_loaded (with_entry loaded r lists) ≡ lists_of_loaded loaded ++ (r, own os) ∷ [] =
        insert-kept loaded r lists fresh ∙ ap (λ ls. lists_of_loaded loaded ++ (r, ls) ∷ []) made in
        let rows : length (flat_map (λ l. l) (items_of lists)) ≡ length (flat_map best sets) =
        ap (λ ls. length (flat_map (λ l. l) ls)) made
        ∙ ap length (flat_map-map (λ l. l) (λ v. map (interned_variable same_solvable os) (best v)) sets)
        ∙ length-mapped best (interned_variable same_solvable os) sets in
        let sound : IsSound (record st { origins = os; loaded = lists_of_loaded loaded ++ (r, own os) ∷ [] }) =
        subst (λ vs. IsSound (record st { origins = vs; loaded = lists_of_loaded loaded ++ (r, own vs) ∷ [] }))
        (sym got)
        (IsSound-interned st is.sound lawful r best sets solvables fresh refl) in
        subst (λ ks. IsConsistent has_name (with_all new.provider os ks) ks disjunctions new queue trail) (sym keeps)
        (subst (λ q. IsConsistent has_name (with_all q os (with_entry loaded r lists))
        (with_entry loaded r lists) disjunctions new queue trail) (sym later.provider) (record {
          few = few-more loaded r lists is.few (rw rows few);
          known = is.known;
          may_decide = record {
            in_step = is.may_decide.in_step;
            stands = stands_with_lists (references (provided old.provider).universe loaded disjunctions) queue r
                lists (lookup-none loaded r fresh) is.may_decide.stands;
            named = is.may_decide.named;
            hot = is.may_decide.hot;
          };
          sound = subst (λ ls. IsSound (record st { origins = os; loaded = ls })) (sym entry) sound;
          through = subst (CameThrough (provided old.provider) new os) (sym entry) (record {
            queried = All-push (λ e. All (λ v. is_set_queried (provided old.provider) new v ≡ true)
                (sets_of (provided old.provider).universe e.0)) (lists_of_loaded loaded) (r, own os)
                (λ k d lt i v below. asked_later has (provided old.provider) _ old new later
                (is.through.queried k d lt i v below)) asked;
            fit = All-push (λ e. IsFit (provided old.provider) e.0) (lists_of_loaded loaded) (r, own os)
                is.through.fit fit;
            candidates = subst (λ vs. All (IsOfCandidates (provided old.provider) vs)
                (lists_of_loaded loaded ++ (r, own vs) ∷ [])) (sym got)
                (All-push (IsOfCandidates (provided old.provider) all) (lists_of_loaded loaded) (r, own all)
                (through-more (begins_variables same_solvable origins (flat_map best sets)) is.through).candidates
                (record { have = all_have same_solvable lawful.reflexive origins (flat_map best sets); lists = refl }));
          });
        }))
