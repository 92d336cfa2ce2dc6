-- The lists of candidates' variables stay right where more variables come behind, and a copy of one is as good.
use Rattle.std.proofs.Common.{◌≡◌, ℕ, ◌+◌, Bool, true, false, cond, List, [], ◌∷◌, ◌++◌, length, map, Option, None}
use Rattle.std.proofs.Common.{Some, IsSome, refl, sym, ◌∙◌, ap, subst}
use Rattle.std.specs.Prelude.{All, drop}
use Rattle.std.proofs.lemmas.List.{take-append-drop}
use Rattle.std.proofs.lemmas.List.Elements.{All-nil, All-cons, All-head, All-tail, All-weaker}
use Rattle.variables.specs.Variables.{with_variable}
use Rattle.variables.proofs.InterningLemmas.{front_of_part, kept-all, variable-with_variable, wholly}
use Rattle.solver_cache.proofs.CacheLemmas.{begins_more, begins_same, requirements_same}
use Rattle.std.specs.Prelude.{option_map}
use Rattle.resolvo_store.proofs.ListLemmas.{items_of, lookup-kept}
use Rattle.resolvo_store.proofs.Words.{is_set_queried, IsFit, lists_of_loaded, Single, Solvable, Vec}
use Rattle.resolvo_store.proofs.Words.{BeginsWith, Cache, CameThrough, ForbidMultiple, origins_with}
use Rattle.resolvo_store.proofs.Words.{interned_variable, is_solvable, is_some, IsOfCandidates, lookup, position_from}
use Rattle.resolvo_store.proofs.Words.{Requirement, same_requirement, sets_of, sorted_of, sorted_of_set, unwrap_or}
use Rattle.resolvo_store.proofs.Words.{variable_of_solvable, VariableOrigin, VersionSetId, with_variables}
use Rattle.resolvo_store.specs.Store.{Provider}
use Rattle.resolvo_store.proofs.PartLaws.{All-lists}

-- ---- variables of solvables

position_front : {X : Type 0} (test : X → Bool) (n v : ℕ) (xs more : List X) → position_from test n xs ≡ Some v →
    position_from test n (xs ++ more) ≡ Some v
position_front test n v [] more h = (let no : ◌≡◌ {A = Option ℕ} None (Some v) = h in cc)
position_front test n v (x ∷ xs) more h =
    (elim (test x) as (λ b. cond b (Some n) (position_from test (n + 1) xs) ≡ Some v →
    cond b (Some n) (position_from test (n + 1) (xs ++ more)) ≡ Some v)
    [ true ↦ λ k. k | false ↦ λ k. position_front test (n + 1) v xs more k ]) h

module _ {N S : Type 0} (same : S → S → Bool) where
  abbrev Has : List (VariableOrigin N S) → S → Type 0
  Has os s = IsSome (variable_of_solvable same os s)

  module _ (os more : List (VariableOrigin N S)) where
    -- a solvable that has a variable has it among more
    has_among_more : (s : S) → Has os s → Has (os ++ more) s
    has_among_more s = by_known (variable_of_solvable same os s) refl
      where
        by_known : (p : Option ℕ) → variable_of_solvable same os s ≡ p → IsSome p → Has (os ++ more) s
        by_known None e h = (let no : false ≡ true = h in cc)
        by_known (Some v) e h = ap is_some (position_front (is_solvable same s) 0 v os more e)

    same_among_more : (s : S) → Has os s → interned_variable same os s ≡ interned_variable same (os ++ more) s
    same_among_more s = by_known (variable_of_solvable same os s) refl
      where
        by_known : (p : Option ℕ) → variable_of_solvable same os s ≡ p → IsSome p →
            unwrap_or p (length os) ≡ interned_variable same (os ++ more) s
        by_known None e h = (let no : false ≡ true = h in cc)
        by_known (Some v) e h = sym (ap (λ (p : Option ℕ). unwrap_or p (length (os ++ more)))
            (position_front (is_solvable same s) 0 v os more e))

    pub list_among_more : (ss : List S) → All (Has os) ss → map (interned_variable same os) ss
        ≡ map (interned_variable same (os ++ more)) ss
    list_among_more [] all = refl
    list_among_more (s ∷ ss) all =
        ap (λ (v : ℕ). v ∷ map (interned_variable same os) ss) (same_among_more s (All-head (Has os) s ss all))
        ∙ ap (λ (vs : List ℕ). interned_variable same (os ++ more) s ∷ vs)
        (list_among_more ss (All-tail (Has os) s ss all))

    pub lists_among_more : {V : Type 0} (members : V → List S) (vs : List V) →
        All (λ (v : V). All (Has os) (members v)) vs
        → map (λ (v : V). map (interned_variable same os) (members v)) vs
        ≡ map (λ (v : V). map (interned_variable same (os ++ more)) (members v)) vs
    lists_among_more members [] all = refl
    lists_among_more {V} members (v ∷ vs) all =
        ap (λ (l : List ℕ). l ∷ map (λ (w : V). map (interned_variable same os) (members w)) vs)
        (list_among_more (members v) (All-head (λ (w : V). All (Has os) (members w)) v vs all))
        ∙ ap (λ (ls : List (List ℕ)). map (interned_variable same (os ++ more)) (members v) ∷ ls)
        (lists_among_more members vs (All-tail (λ (w : V). All (Has os) (members w)) v vs all))

  module _ (reflexive : (s : S) → same s s ≡ true) where
    -- solvables that got variables have them
    pub all_have : (os : List (VariableOrigin N S)) (ss : List S) → All (Has (with_variables same os ss)) ss
    all_have os [] = All-nil (Has os)
    all_have os (s ∷ ss) =
        All-cons (Has (with_variables same (with_variable same os s) ss)) s ss
        (ap is_some (kept-all same s (interned_variable same os s) (with_variable same os s) ss
        (variable-with_variable same reflexive s os)))
        (all_have (with_variable same os s) ss)

-- what is true of each entry is true of the one that is found
pub found_entry : {X : Type 0} (P : Requirement × X → Type 0) (r : Requirement) (es : List (Requirement × X)) (x : X) →
    All P es → lookup (same_requirement r) es ≡ Some x → P (r, x)
found_entry P r [] x all h = (let no : ◌≡◌ {A = Option _} None (Some x) = h in cc)
found_entry {X} P r (e ∷ es) x all h =
    (elim (same_requirement r e.0) as (λ b. same_requirement r e.0 ≡ b →
    cond b (Some e.1) (lookup (same_requirement r) es) ≡ Some x → P (r, x)) [
      | true ↦ λ t k. (let second : e.1 ≡ x = cc in
          subst (λ (y : X). P (r, y)) second (subst (λ (q : Requirement). P (q, e.1))
          (sym (requirements_same r e.0 t)) (All-head P e es all)))
      | false ↦ λ t k. found_entry P r es x (All-tail P e es all) k
    ]) refl h

-- the variables of a requirement's candidates are theirs among more variables
pub of_candidates-more : {N S : Type 0} (p : Provider N S) (os more : List (VariableOrigin N S))
    (entry : Requirement × List (List ℕ)) → IsOfCandidates p os entry → IsOfCandidates p (os ++ more) entry
of_candidates-more p os more entry is = record {
  have = All-weaker (Has p.same_solvable os) (Has p.same_solvable (os ++ more))
      (has_among_more p.same_solvable os more) (sorted_of p entry.0) is.have;
  lists = is.lists ∙ lists_among_more p.same_solvable os more (sorted_of_set p) (sets_of p.universe entry.0)
      (All-lists (Has p.same_solvable os) (sorted_of_set p) (sets_of p.universe entry.0) is.have);
}

-- ---- more variables behind those that are there

-- what follows the earlier list
pub begun : {X : Type 0} (xs ys : List X) → BeginsWith xs ys → ys ≡ xs ++ drop (length xs) ys
begun {X = X} xs ys begins =
    sym (take-append-drop (length xs) ys) ∙ ap (λ (l : List X). l ++ drop (length xs) ys) begins

module _ {N S : Type 0} where
  pub begins_origins : (os : List (VariableOrigin N S)) (name : N) (h : Option ℕ) →
      BeginsWith os (origins_with os name h)
  begins_origins os name None = begins_same os
  begins_origins os name (Some h) = begins_more os (ForbidMultiple name)

  pub begins_variables : (same : S → S → Bool) (os : List (VariableOrigin N S)) (ss : List S) →
      BeginsWith os (with_variables same os ss)
  begins_variables same os ss = front_of_part same os ss (with_variables same os ss)
      (wholly same os ss (with_variables same os ss) refl)

-- what came through the cache did so, whatever variables come
pub through-more : {D N S A H : Type 0} {p : Provider N S} {cache : Cache D N S A H}
    {os more : List (VariableOrigin N S)}
    {loaded : List (Requirement × List (List ℕ))} → BeginsWith os more → CameThrough p cache os loaded →
    CameThrough p cache more loaded
through-more {p = p} {os = os} {more = more} {loaded = loaded} begins came = record {
  queried = came.queried;
  fit = came.fit;
  candidates = subst (λ vs. All (IsOfCandidates p vs) loaded) (sym (begun os more begins))
      (All-weaker (IsOfCandidates p os) (IsOfCandidates p (os ++ drop (length os) more))
      (of_candidates-more p os (drop (length os) more)) loaded came.candidates);
}

-- where solvables have variables, they get no others
pub none_more : {N S : Type 0} (same : S → S → Bool) (os : List (VariableOrigin N S)) (ss : List S) →
    All (Has same os) ss
    → os ≡ with_variables same os ss
none_more same os [] have = refl
none_more same os (s ∷ ss) have =
    none_more same os ss (All-tail (Has same os) s ss have)
    ∙ ap (λ b. with_variables same (cond b os (os ++ Solvable s ∷ [])) ss) (sym (All-head (Has same os) s ss have))

-- what is loaded for a version set came through the cache
pub single_loaded : {D N S A H B : Type 0} {p : Provider N S} {cache : Cache D N S A H} {os : List (VariableOrigin N S)}
    (loaded : List (Requirement × Vec (Vec ℕ B) B)) (v : VersionSetId) (lists : Vec (Vec ℕ B) B)
    → CameThrough p cache os (lists_of_loaded loaded) → lookup (same_requirement (Single v)) loaded ≡ Some lists
    → CameThrough p cache os ((Single v, items_of lists) ∷ [])
single_loaded {p = p} {cache = cache} {os = os} loaded v lists came found =
    let here : lookup (same_requirement (Single v)) (lists_of_loaded loaded) ≡ Some (items_of lists) =
    lookup-kept loaded (Single v) ∙ ap (option_map items_of) found in
    let Queried = λ (e : Requirement × List (List ℕ)). All (λ w. is_set_queried p cache w ≡ true)
    (sets_of p.universe e.0) in
    record {
      queried = All-cons Queried (Single v, items_of lists) [] (found_entry Queried (Single v) (lists_of_loaded loaded)
          (items_of lists) came.queried here) (All-nil Queried);
      fit = All-cons (λ e. IsFit p e.0) (Single v, items_of lists) [] (found_entry (λ e. IsFit p e.0) (Single v)
          (lists_of_loaded loaded) (items_of lists) came.fit here) (All-nil (λ e. IsFit p e.0));
      candidates = All-cons (IsOfCandidates p os) (Single v, items_of lists) [] (found_entry (IsOfCandidates p os)
          (Single v) (lists_of_loaded loaded) (items_of lists) came.candidates here) (All-nil (IsOfCandidates p os));
    }
