-- Loading a requirement.
use Rattle.std.proofs.Common.{◌≡◌, ℕ, ◌^◌, ◌<◌, Bool, true, false, not, arith, ◌||◌, List, [], ◌∷◌, length, Option}
use Rattle.std.proofs.Common.{None, Some, Result, Ok, Err, ◌∙◌, ap, subst, sym, leb, refl, true≢false}
use Rattle.std.specs.Prelude.{◌&&◌, All, option_map, OnErr}
use Rattle.std.specs.Result.{is_err}
use Rattle.std.proofs.Math.Bool.{or-true, and-false}
use Rattle.std.proofs.lemmas.Bool.Decides.{nat_tests}
use Rattle.std.proofs.lemmas.List.Elements.{All-head, All-tail}
use Rattle.resolvo_store.proofs.Words.{all_candidates, AreQueried, Cache, Cancelled, find, IdSpace, is_named}
use Rattle.resolvo_store.proofs.Words.{is_none, is_queried, is_set_queried, IsAnswered, IsLoadRefusal}
use Rattle.resolvo_store.proofs.Words.{knows_requirement, lacks_candidates, lacks_ids, lacks_variables, list_all}
use Rattle.resolvo_store.proofs.Words.{list_any, lists_of, Load, load, LoadedAs, MatchOption, may_be_refused}
use Rattle.resolvo_store.proofs.Words.{OutOfMemory, Refused, Reply, Requirement, sets_of, Step, Store, StoreError}
use Rattle.resolvo_store.proofs.Words.{UnknownId, variables_loaded, VersionSetId}
use Rattle.resolvo_store.proofs.CandidateLaws.{found_last}

-- what is so after a refusal
pub where_err : {T E : Type 0} (P : Type 0) (result : Result T E) → is_err result ≡ true → OnErr result P → P
where_err P (Ok x) h on = (let no : false ≡ true = h in cc)
where_err P (Err e) h on = on

-- of two, the second lacks something
lacks_behind : (large others_large many new others_new : Bool) → (others_large || (many && others_new)) ≡ true
    → ((large || others_large) || (many && (new || others_new))) ≡ true
lacks_behind true ol many new on e = refl
lacks_behind false true many new on e = refl
lacks_behind false false true new on e = ap (λ b. new || b) e ∙ or-true new
lacks_behind false false false new on e = e

-- the first does
lacks_here : (large others_large many full others_new new : Bool) → new ≡ true → (large || (many && full)) ≡ true
    → ((large || others_large) || (many && (new || others_new))) ≡ true
lacks_here true ol many full on new n e = refl
lacks_here false true many full on new n e = refl
lacks_here false false true full on new n e = ap (λ b. b || on) n
lacks_here false false false full on new n e = e

module _ {N S : Type 0} (st : Store N S) (r : Requirement) where
  abbrev pub sets : List VersionSetId
  sets = sets_of st.provider.universe r

  abbrev pub rows_out : Bool
  rows_out = leb (2 ^ 40) (length (all_candidates st r))

  abbrev pub variables_out : Bool
  variables_out = lacks_variables st.provider.same_solvable st.provider.is_large_solvable st.origins
      (all_candidates st r)

  abbrev pub is_large : VersionSetId → Bool
  is_large v = st.provider.is_large_name (st.provider.universe.set_name v)

  -- nothing was lacking
  pub lacks_nothing : list_any is_large sets ≡ false → length (all_candidates st r) < 2 ^ 40 →
      variables_out ≡ false → lacks_ids st (Load r) ≡ false
  lacks_nothing names few fit =
      let below : rows_out ≡ false = grind (arith, nat_tests, few) in
      ap (λ b. is_none (lists_of st r) && (b || (rows_out || variables_out))) names
      ∙ ap (λ b. is_none (lists_of st r) && (b || variables_out)) below ∙ ap (λ b. is_none (lists_of st r) && b) fit
      ∙ and-false (is_none (lists_of st r))

  -- ---- refusals of a Load that is new

  module _ {D A H : Type 0} (old after : Cache D N S A H) (is_sameness : (a b : N) →
      st.provider.same_name a b ≡ true → a ≡ b)
      (asked : AreQueried st.provider old st.loaded) where
    abbrev name : VersionSetId → N
    name v = st.provider.universe.set_name v

    -- a package of which a version set is among these, all of which were asked for
    among : (n : N) (vs : List VersionSetId) → All (λ v. is_set_queried st.provider old v ≡ true) vs →
        list_any (λ v. st.provider.same_name n (name v)) vs ≡ true
        → is_queried st.provider old n ≡ true
    among n [] all h = absurd (true≢false (sym h))
    among n (v ∷ vs) all h =
        by_test (st.provider.same_name n (name v)) refl h (among n vs
        (All-tail (λ w. is_set_queried st.provider old w ≡ true) v vs all))
      where
        by_test : (b : Bool) → st.provider.same_name n (name v) ≡ b →
            (b || list_any (λ w. st.provider.same_name n (name w)) vs) ≡ true
            → (list_any (λ w. st.provider.same_name n (name w)) vs ≡ true → is_queried st.provider old n ≡ true) →
            is_queried st.provider old n ≡ true
        by_test true t e rest = subst (λ m. is_queried st.provider old m ≡ true) (sym (is_sameness n (name v) t))
            (All-head (λ w. is_set_queried st.provider old w ≡ true) v vs all)
        by_test false t e rest = rest e

    abbrev OfEntry : Requirement × List (List ℕ) → Type 0
    OfEntry e = All (λ v. is_set_queried st.provider old v ≡ true) (sets_of st.provider.universe e.0)

    -- one of these entries names the package
    abbrev one_names : N → List (Requirement × List (List ℕ)) → Bool
    one_names n es = list_any (λ (e : Requirement × List (List ℕ)). list_any (λ v. st.provider.same_name n (name v))
        (sets_of st.provider.universe e.0)) es

    -- a package that an accepted Load named was asked for
    named_asked : (n : N) (es : List (Requirement × List (List ℕ))) → AreQueried st.provider old es →
        one_names n es ≡ true → is_queried st.provider old n ≡ true
    named_asked n [] all h = absurd (true≢false (sym h))
    named_asked n (e ∷ es) all h =
        by_test (list_any (λ v. st.provider.same_name n (name v)) (sets_of st.provider.universe e.0)) refl h
        (named_asked n es (All-tail OfEntry e es all))
      where
        by_test : (b : Bool) → list_any (λ v. st.provider.same_name n (name v)) (sets_of st.provider.universe e.0)
            ≡ b → (b || one_names n es) ≡ true
            → (one_names n es ≡ true → is_queried st.provider old n ≡ true) → is_queried st.provider old n ≡ true
        by_test true t k rest = among n (sets_of st.provider.universe e.0) (All-head OfEntry e es all) t
        by_test false t k rest = rest k

    -- so one that wasn't asked for wasn't named
    unasked_new : (v : VersionSetId) → is_set_queried st.provider old v ≡ false → not (is_named st (name v)) ≡ true
    unasked_new v h = by_test (is_named st (name v)) refl
      where
        by_test : (b : Bool) → is_named st (name v) ≡ b → not b ≡ true
        by_test true t = absurd (true≢false (sym (named_asked (name v) st.loaded asked t) ∙ h))
        by_test false t = refl

    abbrev are_new : List VersionSetId → Bool
    are_new vs = list_any (λ v. not (is_named st (name v))) vs

    -- where not all packages were asked for, one is new
    some_new : (vs : List VersionSetId) → list_all (is_set_queried st.provider old) vs ≡ false → are_new vs ≡ true
    some_new [] h = absurd (true≢false h)
    some_new (v ∷ vs) h = by_test (is_set_queried st.provider old v) refl h (some_new vs)
      where
        by_test : (b : Bool) → is_set_queried st.provider old v ≡ b →
            (b && list_all (is_set_queried st.provider old) vs) ≡ false
            → (list_all (is_set_queried st.provider old) vs ≡ false → are_new vs ≡ true) →
            (not (is_named st (name v)) || are_new vs) ≡ true
        by_test true t e rest = ap (λ b. not (is_named st (name v)) || b) (rest e)
            ∙ or-true (not (is_named st (name v)))
        by_test false t e rest = ap (λ b. b || are_new vs) (unasked_new v t)

    abbrev lacking : VersionSetId → Bool
    lacking v = not (is_set_queried st.provider old v) && lacks_candidates st.provider after (name v)

    -- where no answer can be kept for a package, it is too large, or one is new and names may be many
    some_lack : (vs : List VersionSetId) → list_any lacking vs ≡ true →
        (list_any is_large vs || (st.provider.are_names_many && are_new vs)) ≡ true
    some_lack [] h = absurd (true≢false (sym h))
    some_lack (v ∷ vs) h = by_asked (is_set_queried st.provider old v) refl h (some_lack vs)
      where
        Goal : Type 0
        Goal = ((is_large v || list_any is_large vs) || (st.provider.are_names_many
            && (not (is_named st (name v)) || are_new vs))) ≡ true

        Rest : Type 0
        Rest = list_any lacking vs ≡ true → (list_any is_large vs || (st.provider.are_names_many && are_new vs)) ≡ true

        by_lacks : (b : Bool) → lacks_candidates st.provider after (name v) ≡ b →
            is_set_queried st.provider old v ≡ false → (b || list_any lacking vs) ≡ true → Rest → Goal
        by_lacks true t a e rest = lacks_here (is_large v) (list_any is_large vs) st.provider.are_names_many
            (leb (2 ^ 32) (length after.candidates)) (are_new vs) _ (unasked_new v a) t
        by_lacks false t a e rest = lacks_behind (is_large v) (list_any is_large vs) st.provider.are_names_many
            (not (is_named st (name v))) (are_new vs) (rest e)

        by_asked : (b : Bool) → is_set_queried st.provider old v ≡ b →
            ((not b && lacks_candidates st.provider after (name v)) || list_any lacking vs) ≡ true → Rest → Goal
        by_asked true t e rest = lacks_behind (is_large v) (list_any is_large vs) st.provider.are_names_many
            (not (is_named st (name v))) (are_new vs) (rest e)
        by_asked false t e rest = by_lacks (lacks_candidates st.provider after (name v)) refl t e rest

    -- why the cache and the variables refuse is why a Load may be refused
    pub load_refused : lists_of st r ≡ None → (e : StoreError)
        → IsLoadRefusal (list_all (is_set_queried st.provider old) sets)
        (list_any lacking sets || (rows_out || variables_out)) e → may_be_refused st (Load r) e ≡ true
    load_refused fresh OutOfMemory h = refl
    load_refused fresh Cancelled h = some_new sets h
    load_refused fresh IdSpace h =
        ap (λ o. (is_none o && (list_any is_large sets || (rows_out || variables_out)))
        || (st.provider.are_names_many && are_new sets)) fresh
        ∙ by_lacks (list_any lacking sets) refl h
      where
        by_lacks : (b : Bool) → list_any lacking sets ≡ b → (b || (rows_out || variables_out)) ≡ true
            → ((list_any is_large sets || (rows_out || variables_out))
            || (st.provider.are_names_many && are_new sets)) ≡ true
        by_lacks true t k = with_others (list_any is_large sets) (rows_out || variables_out)
            (st.provider.are_names_many && are_new sets) (some_lack sets t)
          where
            with_others : (a b d : Bool) → (a || d) ≡ true → ((a || b) || d) ≡ true
            with_others true b d e = refl
            with_others false true d e = refl
            with_others false false d e = e
        by_lacks false t k = first (list_any is_large sets) (rows_out || variables_out)
            (st.provider.are_names_many && are_new sets) k
          where
            first : (a b d : Bool) → b ≡ true → ((a || b) || d) ≡ true
            first true b d e = refl
            first false b d e = ap (λ x. x || d) e
    load_refused fresh _ h = absurd h

  -- ---- what a Load of a known requirement answers

  -- it is a step of the abstract store
  pub step-known : (reply : Reply) (after : Store N S) → knows_requirement st.provider.universe r ≡ true
      → IsAnswered st (Load r) reply after → Step st (Load r) reply after
  step-known reply after known answered =
      subst (λ b. MatchOption (option_map (λ (x : Bool × StoreError). x.1)
      (find (λ (x : Bool × StoreError). x.0) ((not b, UnknownId) ∷ [])))
      (IsAnswered st (Load r) reply after) (λ e. (reply ≡ Refused e) × (after ≡ st))) (sym known) answered

  -- what was loaded is answered again
  pub loaded-again : (lists : List (List ℕ)) → lists_of st r ≡ Some lists → IsAnswered st (Load r) (LoadedAs lists) st
  loaded-again lists old = (
    ap (λ o. is_none o && (list_any is_large sets || (rows_out || variables_out))) old,
    sym (ap (λ o. (load st r o).reply) old),
    sym (ap (λ o. (load st r o).store) old),
  )

  -- what a Load answered is loaded then
  pub loaded-now : (after : Store N S) → knows_requirement st.provider.universe r ≡ true →
      IsAnswered st (Load r) (LoadedAs (variables_loaded st r)) after
      → MatchOption (lists_of after r) ⊥ (λ lists. Step st (Load r) (LoadedAs lists) after)
  loaded-now after known answered = by_lists (lists_of st r) refl answered.2
    where
      AreAnswered : Option (List (List ℕ)) → Type 0
      AreAnswered found = MatchOption found ⊥ (λ lists. Step st (Load r) (LoadedAs lists) after)

      by_lists : (before : Option (List (List ℕ))) → lists_of st r ≡ before → after ≡ (load st r before).store →
          AreAnswered (lists_of after r)
      by_lists None e is =
          subst AreAnswered (sym (ap (λ s. lists_of s r) is ∙ found_last r st.loaded (variables_loaded st r) e))
          (step-known (LoadedAs (variables_loaded st r)) after known answered)
      by_lists (Some lists) e is =
          subst AreAnswered (sym (ap (λ s. lists_of s r) is ∙ e))
          (step-known (LoadedAs lists) after known (subst (λ reply. IsAnswered st (Load r) reply after) (answered.1
          ∙ ap (λ o. (load st r o).reply) e) answered))
