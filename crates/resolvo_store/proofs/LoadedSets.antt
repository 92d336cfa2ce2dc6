-- The lists of version sets that are loaded one after the other.
use Rattle.std.proofs.Common.{◌≡◌, ℕ, ◌+◌, ◌<◌, ◌≤◌, ◌^◌, Bool, true, false, not, ◌||◌, List, [], ◌∷◌, ◌++◌, length}
use Rattle.std.proofs.Common.{length-append, map, take, drop, get_or, leb, refl, sym, ◌∙◌, ap, subst, arith, true≢false}
use Rattle.std.specs.Prelude.{◌&&◌, All}
use Rattle.std.proofs.Math.Bool.{or-true}
use Rattle.std.proofs.lemmas.Bool.Decides.{nat_tests}
use Rattle.std.proofs.lemmas.Grind.{flat_map-append}
use Rattle.std.proofs.lemmas.List.{append-nil, map-append, drop_more, length-map}
use Rattle.std.proofs.lemmas.List.Elements.{All-head, All-nil, All-push}
use Rattle.std.proofs.lemmas.List.Folds.{list_all_at, list_any_at}
use Rattle.std.proofs.lemmas.List.Sums.{fold-append}
use Rattle.variables.specs.Variables.{with_variable}
use Rattle.variables.proofs.InterningLemmas.{front_of_part, lacks_for_list, list_any-fails, partly_more, split-at}
use Rattle.variables.proofs.InterningLemmas.{wholly}
use Rattle.solver_cache.proofs.CacheLemmas.{asked_later, later_same, later_trans}
use Rattle.solver_cache.specs.Questions.{IsRefusedOfSets, refusal_of}
use Rattle.solver_cache.specs.declared.error.CacheError.{CacheError}
use Rattle.solver_cache.specs.declared.error.CacheError.TheVariants as Answer
use Rattle.resolvo_store.specs.LoadedLists.{AreSetsLoaded, AreSetsRefused, variables_in}
use Rattle.resolvo_store.specs.Growth.{HasVariable}
use Rattle.std.proofs.Common.{Result, Ok, Err}
use Rattle.resolvo_store.proofs.Words.{BeginsWith, CameThrough, IfErr, IfOk, Requirement}
use Rattle.resolvo_store.proofs.Words.{Cache, Cancelled, flat_map, IdSpace, interned_variable, is_set_queried}
use Rattle.resolvo_store.proofs.Words.{IsGrowthRefusal, IsLater, IsLoadRefusal, IsPartlyInterned, lacks_candidates}
use Rattle.resolvo_store.proofs.Words.{lacks_variables, list_all, list_any, OutOfMemory, sorted_of_set, StoreError}
use Rattle.resolvo_store.proofs.Words.{VariableOrigin, VersionSetId, with_variables}
use Rattle.resolvo_store.specs.Store.{Provider}
use Rattle.resolvo_store.proofs.CandidateLists.{all_have, begins_variables, begun, lists_among_more, through-more}
use Rattle.resolvo_store.proofs.PartLaws.{All-lists}

module _ {N S : Type 0} (p : Provider N S) where
  abbrev is_large : VersionSetId → Bool
  is_large v = p.is_large_name (p.universe.set_name v)

  abbrev best : VersionSetId → List S
  best = sorted_of_set p

  -- the candidates of one version set more
  pub joined : (done : List VersionSetId) (v : VersionSetId)
      → flat_map best (done ++ v ∷ []) ≡ flat_map best done ++ best v
  joined done v = flat_map-append best done (v ∷ []) ∙ ap (λ l. flat_map best done ++ l) (append-nil (best v))

module _ {D N S A H : Type 0} (p : Provider N S) where
  -- the version set's package wasn't queried before, and no answer can be kept for it
  abbrev lacking : Cache D N S A H → Cache D N S A H → VersionSetId → Bool
  lacking old new v = not (is_set_queried p old v) && lacks_candidates p new (p.universe.set_name v)

  -- where the cache refuses, the load is refused, whatever else may be lacking
  pub of_cache : {C : Type 0} (old new : Cache D N S A H) (vs : List VersionSetId) (more : Bool) (e : CacheError C)
      → IsRefusedOfSets p vs old e new
      → IsLoadRefusal (list_all (is_set_queried p old) vs) (list_any (lacking old new) vs || more) (refusal_of e)
  of_cache old new vs more (Answer.Cancelled reason) h = h
  of_cache old new vs more (Answer.Store OutOfMemory) h = h
  of_cache old new vs more (Answer.Store IdSpace) h = ap (λ b. b || more) h
  of_cache old new vs more (Answer.Store _) h = absurd h

  -- where ids are lacking for rows or variables, the load is refused
  pub of_growth : (old new : Cache D N S A H) (vs : List VersionSetId) (rows variables : Bool) (e : StoreError)
      → IsGrowthRefusal variables e
      → IsLoadRefusal (list_all (is_set_queried p old) vs) (list_any (lacking old new) vs || (rows || variables)) e
  of_growth old new vs rows variables OutOfMemory h = h
  of_growth old new vs rows variables IdSpace h = ap (λ b. list_any (lacking old new) vs || (rows || b)) h
      ∙ ap (λ b. list_any (lacking old new) vs || b) (or-true rows) ∙ or-true (list_any (lacking old new) vs)
  of_growth old new vs rows variables _ h = absurd h

  -- where the rows are too many, it is
  pub of_rows : (old new : Cache D N S A H) (vs : List VersionSetId) (rows variables : Bool) → rows ≡ true
      → IsLoadRefusal (list_all (is_set_queried p old) vs) (list_any (lacking old new) vs || (rows || variables))
      IdSpace
  of_rows old new vs rows variables h = ap (λ b. list_any (lacking old new) vs || (b || variables)) h
      ∙ or-true (list_any (lacking old new) vs)

  module _ (has : H → S → Bool) where
    -- before the first
    pub none_loaded : (c : Cache D N S A H) (os : List (VariableOrigin N S)) → AreSetsLoaded p has c c os os [] []
    none_loaded c os = record {
      later = later_same has c;
      queried = All-nil (λ v. is_set_queried p c v ≡ true);
      names_fit = refl;
      interned = refl;
      fit = refl;
      of_variables = refl;
    }

    module _ (first mid new : Cache D N S A H) (os vs after : List (VariableOrigin N S)) (done : List VersionSetId)
        (lists : List (List ℕ)) (before : AreSetsLoaded p has first mid os vs done lists) where
      -- one set more
      pub one_more : ((s : S) → p.same_solvable s s ≡ true) → (v : VersionSetId) (list : List ℕ)
          → AreSetsLoaded p has mid new vs after (v ∷ []) (list ∷ [])
          → AreSetsLoaded p has first new os after (done ++ v ∷ []) (lists ++ list ∷ [])
      one_more reflexive v list next =
          let same = p.same_solvable in
          let here : flat_map (best p) (v ∷ []) ≡ best p v = append-nil (best p v) in
          let more : List (VariableOrigin N S) = drop (length vs) after in
          let grown : after ≡ with_variables same vs (best p v) = next.interned ∙ ap (with_variables same vs) here in
          let behind : after ≡ vs ++ more = begun vs after
          (subst (BeginsWith vs) (sym grown) (begins_variables same vs (best p v))) in
          let have : All (λ s. HasVariable p vs s) (flat_map (best p) done) =
          subst (λ o. All (λ s. HasVariable p o s) (flat_map (best p) done)) (sym before.interned)
          (all_have same reflexive os (flat_map (best p) done)) in
          record {
            later = later_trans has first mid new before.later next.later;
            queried = All-push (λ w. is_set_queried p new w ≡ true) done v
                (λ k d lt. asked_later has p _ mid new next.later (before.queried k d lt))
                (All-head (λ w. is_set_queried p new w ≡ true) v [] next.queried);
            names_fit = list_any-fails (is_large p) done (v ∷ []) before.names_fit next.names_fit;
            interned = grown ∙ ap (λ o. with_variables same o (best p v)) before.interned
                ∙ sym (fold-append (with_variable same) os (flat_map (best p) done) (best p v))
                ∙ ap (with_variables same os) (sym (joined p done v));
            fit = ap (list_any p.is_large_solvable) (joined p done v)
                ∙ list_any-fails p.is_large_solvable (flat_map (best p) done) (best p v) before.fit
                (ap (list_any p.is_large_solvable) (sym here) ∙ next.fit);
            of_variables = ap (λ ls. ls ++ list ∷ []) (before.of_variables
                ∙ lists_among_more same vs more (best p) done (All-lists (λ s. HasVariable p vs s) (best p) done have)
                ∙ ap (λ o. map (λ w. variables_in p o ((best p) w)) done) (sym behind))
                ∙ ap (λ ls. map (λ w. variables_in p after ((best p) w)) done ++ ls) next.of_variables
                ∙ sym (map-append (λ w. variables_in p after ((best p) w)) done (v ∷ []));
          }

      module _ (all : List VersionSetId) (i : ℕ) (v d : VersionSetId) (lt : i < length all)
          (front : done ≡ take i all) (here : v ≡ get_or all i d) where
        behind_it : drop i all ≡ v ∷ drop (i + 1) all
        behind_it = drop_more all i d lt ∙ ap (λ w. w ∷ drop (i + 1) all) (sym here)

        interned_before : vs ≡ with_variables p.same_solvable os (flat_map (best p) (take i all))
        interned_before = before.interned ∙ ap (λ l. with_variables p.same_solvable os (flat_map (best p) l)) front

        split : flat_map (best p) all ≡ flat_map (best p) done ++ (best p v ++ flat_map (best p) (drop (i + 1) all))
        split = split-at (best p) all i v (best p v) behind_it refl
            ∙ ap (λ l. flat_map (best p) l ++ (best p v ++ flat_map (best p) (drop (i + 1) all))) (sym front)

        -- a beginning of the candidates of all has variables
        part_of_all : IsPartlyInterned p.same_solvable vs (best p v) after
            → IsPartlyInterned p.same_solvable os (flat_map (best p) all) after
        part_of_all = partly_more p.same_solvable (best p) os vs after all i v (best p v) behind_it refl interned_before

        rows_of_all : length (flat_map (best p) all) ≡ length (flat_map (best p) done) + (length (best p v)
            + length (flat_map (best p) (drop (i + 1) all)))
        rows_of_all = ap length split
            ∙ length-append (flat_map (best p) done) (best p v ++ flat_map (best p) (drop (i + 1) all))
            ∙ ap (λ n. length (flat_map (best p) done) + n)
            (length-append (best p v) (flat_map (best p) (drop (i + 1) all)))

        -- one set is loaded, and its rows are too many
        pub rows_refused : (list : List ℕ) → AreSetsLoaded p has mid new vs after (v ∷ []) (list ∷ [])
            → 2 ^ 40 ≤ length (flat_map (best p) done) + length list → AreSetsRefused p has first new os after all
            IdSpace
        rows_refused list next many =
            let size : length list ≡ length (best p v) =
            ap (λ ls. length (get_or ls 0 [])) next.of_variables
            ∙ length-map (best p v) (interned_variable p.same_solvable after) in
            let long = rows_of_all in
            let out : leb (2 ^ 40) (length (flat_map (best p) all)) ≡ true =
            grind (arith, nat_tests, long, many, size) in
            record {
              later = later_trans has first mid new before.later next.later;
              part = part_of_all (wholly p.same_solvable vs (best p v) after
                  (next.interned ∙ ap (with_variables p.same_solvable vs) (append-nil (best p v))));
              reason = of_rows first new all _ _ out;
            }

        -- ids are lacking for all
        abbrev Lacks : Type 0
        Lacks = (list_any (lacking first new) all || (leb (2 ^ 40) (length (flat_map (best p) all))
            || lacks_variables p.same_solvable p.is_large_solvable os (flat_map (best p) all))) ≡ true

        -- one set is refused
        pub set_refused : (e : StoreError) → AreSetsRefused p has mid new vs after (v ∷ []) e
            → AreSetsRefused p has first new os after all e
        set_refused e next = record {
          later = later_trans has first mid new before.later next.later;
          part = part_of_all (subst (λ ss. IsPartlyInterned p.same_solvable vs ss after) (append-nil (best p v))
              next.part);
          reason = by_reason e next.reason;
        }
          where
            not_asked : is_set_queried p mid v ≡ false → is_set_queried p first v ≡ false
            not_asked h = by_test (is_set_queried p first v) refl
              where
                by_test : (b : Bool) → is_set_queried p first v ≡ b → is_set_queried p first v ≡ false
                by_test true t = absurd (true≢false (sym (asked_later has p v first mid before.later t) ∙ h))
                by_test false t = t

            at : (test : VersionSetId → Bool) (b : Bool) → test v ≡ b → test (get_or all i d) ≡ b
            at test b h = ap test (sym here) ∙ h

            cancelled : (is_set_queried p mid v && true) ≡ false → list_all (is_set_queried p first) all ≡ false
            cancelled h = list_all_at (is_set_queried p first) all i d lt
                (at (is_set_queried p first) false (not_asked (by_test (is_set_queried p mid v) h)))
              where
                by_test : (b : Bool) → (b && true) ≡ false → b ≡ false
                by_test true k = k
                by_test false k = refl

            -- the package
            unasked : lacking mid new v ≡ true → lacking first new v ≡ true
            unasked h = by_test (is_set_queried p mid v) (lacks_candidates p new (p.universe.set_name v)) refl refl h
              where
                by_test : (queried full : Bool) → is_set_queried p mid v ≡ queried
                    → lacks_candidates p new (p.universe.set_name v) ≡ full → (not queried && full) ≡ true
                    → lacking first new v ≡ true
                by_test false true asked full k =
                    ap (λ b. not b && lacks_candidates p new (p.universe.set_name v)) (not_asked asked) ∙ full
                by_test false false asked full k = cc
                by_test true full asked is k = cc

            -- the ids of variables
            ids : lacks_variables p.same_solvable p.is_large_solvable vs (best p v) ≡ true → Lacks
            ids h =
                let of_all : lacks_variables p.same_solvable p.is_large_solvable os (flat_map (best p) all) ≡ true =
                subst (λ l. lacks_variables p.same_solvable p.is_large_solvable os l ≡ true) (sym split)
                (lacks_for_list p.same_solvable p.is_large_solvable os (flat_map (best p) done) (best p v)
                (flat_map (best p) (drop (i + 1) all))
                (subst (λ o. lacks_variables p.same_solvable p.is_large_solvable o (best p v) ≡ true)
                before.interned h)) in
                ap (λ b. list_any (lacking first new) all || (leb (2 ^ 40) (length (flat_map (best p) all)) || b))
                of_all
                ∙ ap (λ b. list_any (lacking first new) all || b)
                (or-true (leb (2 ^ 40) (length (flat_map (best p) all))))
                ∙ or-true (list_any (lacking first new) all)

            -- the rows
            rows : leb (2 ^ 40) (length (best p v)) ≡ true → Lacks
            rows h =
                let long = rows_of_all in
                let out : leb (2 ^ 40) (length (flat_map (best p) all)) ≡ true = grind (arith, nat_tests, long, h) in
                of_rows first new all _ _ out

            lacks : (t r o : Bool) → lacking mid new v ≡ t → leb (2 ^ 40) (length (best p v)) ≡ r
                → lacks_variables p.same_solvable p.is_large_solvable vs (best p v) ≡ o
                → ((t || false) || (r || o)) ≡ true → Lacks
            lacks true r o e f g h =
                ap (λ b. b || (leb (2 ^ 40) (length (flat_map (best p) all))
                || lacks_variables p.same_solvable p.is_large_solvable os (flat_map (best p) all)))
                (list_any_at (lacking first new) all i d lt (at (lacking first new) true (unasked e)))
            lacks false true o e f g h = rows f
            lacks false false true e f g h = ids g
            lacks false false false e f g h = cc

            by_reason : (e : StoreError) → IsLoadRefusal (list_all (is_set_queried p mid) (v ∷ []))
                (list_any (lacking mid new) (v ∷ []) || (leb (2 ^ 40) (length (flat_map (best p) (v ∷ [])))
                || lacks_variables p.same_solvable p.is_large_solvable vs (flat_map (best p) (v ∷ [])))) e
                → IsLoadRefusal (list_all (is_set_queried p first) all)
                (list_any (lacking first new) all || (leb (2 ^ 40) (length (flat_map (best p) all))
                || lacks_variables p.same_solvable p.is_large_solvable os (flat_map (best p) all))) e
            by_reason OutOfMemory h = h
            by_reason Cancelled h = cancelled h
            by_reason IdSpace h = lacks _ _ _ refl refl refl
                (subst (λ l. (list_any (lacking mid new) (v ∷ []) || (leb (2 ^ 40) (length l)
                || lacks_variables p.same_solvable p.is_large_solvable vs l)) ≡ true) (append-nil (best p v)) h)
            by_reason _ h = absurd h

  -- what was loaded came through the cache, later too
  pub through_later : (has : H → S → Bool) (mid new : Cache D N S A H) (vs after : List (VariableOrigin N S))
      (loaded : List (Requirement × List (List ℕ))) → IsLater has mid new → BeginsWith vs after
      → CameThrough p mid vs loaded → CameThrough p new after loaded
  through_later has mid new vs after loaded later begins came = record {
    queried = λ k d lt i v below. asked_later has p _ mid new later (came.queried k d lt i v below);
    fit = came.fit;
    candidates = (through-more begins came).candidates;
  }

  -- the variables that were there stay in front
  pub in_front : {T : Type 0} (has : H → S → Bool) (old new : Cache D N S A H) (os after : List (VariableOrigin N S))
      (vs : List VersionSetId) (result : Result T StoreError) (lists : T → List (List ℕ))
      → IfOk result (λ x. AreSetsLoaded p has old new os after vs (lists x))
      → IfErr result (AreSetsRefused p has old new os after vs) → take (length os) after ≡ os
  in_front has old new os after vs (Ok x) lists loaded refused =
      subst (BeginsWith os) (sym loaded.interned) (begins_variables p.same_solvable os (flat_map (best p) vs))
  in_front has old new os after vs (Err e) lists loaded refused =
      front_of_part p.same_solvable os (flat_map (best p) vs) after refused.part
