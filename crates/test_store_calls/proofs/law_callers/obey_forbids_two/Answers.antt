use Rattle.std.proofs.Common.{◌≡◌, Bool, true, false, cond, List, [], ◌∷◌, refl}
use Rattle.std.proofs.lemmas.List.Elements.{All-head, All-tail}
use Rattle.resolvo_store.proofs.CallerLaws.{store_in}
use Rattle.test_store_calls.proofs.Words.{All, AllByRecursion, filter, is_forbidding, is_satisfied}
use Rattle.test_store_calls.proofs.law_callers.obey_forbids_two.Goals as goal

-- what holds of each member holds of each that passes a test
all_passing : {X : Type 0} (P : X → Type 0) (p : X → Bool) (xs : List X) → All P xs → AllByRecursion P (filter p xs)
all_passing P p [] all = tt
all_passing {X} P p (x ∷ xs) all = by_test (p x) (All-head P x xs all) (all_passing P p xs (All-tail P x xs all))
  where
    by_test : (b : Bool) → P x → AllByRecursion P (filter p xs) →
        AllByRecursion P (cond b (x ∷ filter p xs) (filter p xs))
    by_test true first rest = (first, rest)
    by_test false first rest = rest

pub returns-clause-forbids_two : goal.returns-clause-forbids_two
returns-clause-forbids_two g c = λ a model name.
    let st = store_in c.run.ensures.sound in
    ((c.run.ensures.at_most_one name).at_most_one a).0 (
      a,
      (λ v other. refl),
      all_passing (λ c. is_satisfied st a c ≡ true)
          (is_forbidding (st.provider.same_name name)) st.clauses model,
    )
