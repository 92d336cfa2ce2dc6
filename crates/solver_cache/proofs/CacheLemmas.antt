-- A cache that keeps more: what is kept is still right, and what was kept is still kept.
use Rattle.std.proofs.Common.{[], rules, ◌≡◌, Bool, true, false, cond, ℕ, ◌<◌, List, ◌∷◌}
use Rattle.std.proofs.Common.{◌^◌, leb, ◌++◌, length, slice_get, is_some, Option, None, Some, take}
use Rattle.std.proofs.Common.{drop, get_or, true≢false, ◌≤◌, ◌∙◌, ap, refl, sym, subst, arith}
use Rattle.std.specs.Prelude.{◌&&◌, ◌||◌, not}
use Rattle.std.proofs.Math.Path.{fun_ext}
use Rattle.std.proofs.Math.Seq.{take-append_seam, take-length}
use Rattle.std.proofs.lemmas.List.{append-nil, take-append-drop, take-append-le, length-take}
use Rattle.std.proofs.lemmas.Bool.Decides.{nat_tests}
use Rattle.std.proofs.lemmas.List.Folds.{list_all_at, list_any_at}
use Rattle.std.proofs.lemmas.List.Elements.{All-head, All-tail, All-push}
use Rattle.solver_cache.proofs.Words.{All, AreSorted, BeginsWith, Cache, CacheError, Cancelled, Candidates}
use Rattle.solver_cache.proofs.Words.{Dependencies, eq-value, Err, IdSpace, IfErr, is_cached, is_set_queried, IsAnswer}
use Rattle.solver_cache.proofs.Words.{IsCache, IsErrAnd, IsGrowthRefusal, IsLater, IsOnce, IsRefusedOf}
use Rattle.solver_cache.proofs.Words.{IsRefusedOfSets, IsSorted, lacks_candidates, list_any, lookup, Matching}
use Rattle.solver_cache.proofs.Words.{matching, MayAnswer, needs_of, non_matching, NonMatching, Ok, OnErr, OutOfMemory}
use Rattle.solver_cache.proofs.Words.{Provider, Requirement, Result, same_requirement, same_set, sets_of, Single}
use Rattle.solver_cache.proofs.Words.{Sorted, sorted, sorted_of, Store, StoreError, Union, values_of, VersionSetId}
use Rattle.solver_cache.specs.Cache.{list_at}

-- ---- entries

module _ {K V : Type 0} where
  -- what is kept is kept with an entry more
  pub kept_more : (test : K → Bool) (es : List (K × V)) (e : K × V) → is_cached test es ≡ true →
      is_cached test (es ++ e ∷ []) ≡ true
  kept_more test [] e h = cc
  kept_more test (f ∷ es) e h =
      (elim (test f.0) as (λ b. is_some (cond b (Some f.1) (lookup test es)) ≡ true →
      is_some (cond b (Some f.1) (lookup test (es ++ e ∷ []))) ≡ true)
      [ true ↦ λ h. h | false ↦ λ h. kept_more test es e h ]) h

  -- and so is the last one
  pub kept_last : (test : K → Bool) (es : List (K × V)) (key : K) (value : V) → test key ≡ true →
      is_cached test (es ++ (key, value) ∷ []) ≡ true
  kept_last test [] key value h = ap (λ b. is_some (cond b (Some value) None)) h
  kept_last test (f ∷ es) key value h =
      elim (test f.0) as (λ b. is_some (cond b (Some f.1) (lookup test (es ++ (key, value) ∷ []))) ≡ true)
      [ true ↦ refl | false ↦ kept_last test es key value h ]

  -- and it is what is found, where nothing was
  pub found_last : (test : K → Bool) (es : List (K × V)) (key : K) (value : V) → is_cached test es ≡ false →
      test key ≡ true
      → lookup test (es ++ (key, value) ∷ []) ≡ Some value
  found_last test [] key value absent h = ap (λ b. cond b (Some value) None) h
  found_last test (f ∷ es) key value absent h =
      (elim (test f.0) as (λ b. is_some (cond b (Some f.1) (lookup test es)) ≡ false →
      cond b (Some f.1) (lookup test (es ++ (key, value) ∷ [])) ≡ Some value)
      [ true ↦ λ a. cc | false ↦ λ a. found_last test es key value a h ]) absent

  -- what is true of each entry is true of the one that is found
  pub found_right : (same : K → K → Bool) → ((a b : K) → same a b ≡ true → a ≡ b) →
      (P : K → V → Type 0) (key : K) (value : V) (es : List (K × V))
      → All (λ e. P e.0 e.1) es → lookup (same key) es ≡ Some value → P key value
  found_right same is_sameness P key value [] all h = (let no : ⊥ = cc in absurd no)
  found_right same is_sameness P key value (e ∷ es) all h =
      by_test (same key e.0) refl h (found_right same is_sameness P key value es (All-tail (λ e. P e.0 e.1) e es all))
    where
      by_test : (b : Bool) → same key e.0 ≡ b → cond b (Some e.1) (lookup (same key) es) ≡ Some value →
          (lookup (same key) es ≡ Some value → P key value) → P key value
      by_test true t h rest =
          let is : e.1 ≡ value = cc in
          subst (λ v. P key v) is (subst (λ k. P k e.1) (sym (is_sameness key e.0 t))
          (All-head (λ e. P e.0 e.1) e es all))
      by_test false t h rest = rest h

  -- the value of the last entry
  pub value_last : (es : List (K × V)) (key : K) (value : V) →
      slice_get (values_of (es ++ (key, value) ∷ [])) (length es) ≡ Some value
  value_last [] key value = refl
  value_last (e ∷ es) key value = value_last es key value

pub some_of : {X : Type 0} (o : Option X) → is_some o ≡ true → (x : X) × (o ≡ Some x)
some_of None h = cc
some_of (Some x) h = (x, refl)

pub some_is : {X : Type 0} (x y : X) → Some x ≡ Some y → x ≡ y
some_is x y h = cc

-- an answer that is kept, in its place
pub kept_answer : {K V : Type 0} (same : K → K → Bool) → ((a b : K) → same a b ≡ true → a ≡ b) →
    (P : K → V → Type 0) (key : K) (place : ℕ) (es : List (K × V))
    → All (λ e. P e.0 e.1) es → is_cached (same key) es ≡ true → slice_get (values_of es) place ≡ lookup (same key) es
    → (value : V) × (slice_get (values_of es) place ≡ Some value) × P key value
kept_answer same is_sameness P key place es all kept at =
    let some = some_of (lookup (same key) es) kept in
    (some.0, at ∙ some.1, found_right same is_sameness P key some.0 es all some.1)

-- the answers in one place of equal entries
pub same_answer : {K V : Type 0} (es fs : List (K × V)) (place : ℕ) (v w : V) → es ≡ fs →
    slice_get (values_of es) place ≡ Some v
    → slice_get (values_of fs) place ≡ Some w → v ≡ w
same_answer es fs place v w e at there =
    let both : Some v ≡ Some w = sym at ∙ ap (λ l. slice_get (values_of l) place) e ∙ there in
    cc

-- version sets that compare equal are the same
pub sets_same : (v w : VersionSetId) → same_set v w ≡ true → v ≡ w
sets_same v w h = search rules

-- requirements are compared so
pub same_is : (r : Requirement) → eq-value.it r ≡ same_requirement r
same_is r = fun_ext (alike r)
  where
    alike : (r q : Requirement) → eq-value.it r q ≡ same_requirement r q
    alike r q = search rules

pub requirements_same : (r q : Requirement) → same_requirement r q ≡ true → r ≡ q
requirements_same (Single v) (Single w) h = search rules
requirements_same (Union u) (Union w) h = search rules
requirements_same (Single v) (Union w) h = cc
requirements_same (Union u) (Single w) h = cc

-- ---- refusals that were handed on

pub on_err : {T E : Type 0} (P : Type 0) (result : Result T E) → P → OnErr result P
on_err P (Ok v) h = tt
on_err P (Err e) h = h

pub handed_on : {T E : Type 0} (P : E → Type 0) (result : Result T E) (e : E) → IsErrAnd result (λ x. x ≡ e) → P e →
    IfErr result P
handed_on P (Ok v) e h r = absurd h
handed_on P (Err x) e h r = subst P (sym h) r

-- what wasn't asked for may be refused for want of ids
pub refused_unasked : (queried lacks : Bool) (e : StoreError) → queried ≡ false → IsGrowthRefusal lacks e →
    IsGrowthRefusal (not queried && lacks) e
refused_unasked false lacks e h r = r
refused_unasked true lacks e h r = cc

-- ---- later states

pub begins_more : {X : Type 0} (xs : List X) (x : X) → BeginsWith xs (xs ++ x ∷ [])
begins_more xs x = take-append_seam xs (x ∷ [])

pub begins_same : {X : Type 0} (xs : List X) → BeginsWith xs xs
begins_same xs = take-length xs

-- a question that isn't kept
pub once_new : {X : Type 0} (kept : Bool) (old new : X) (Found : X → Type 0) → kept ≡ false → Found new →
    IsOnce kept old Found new
once_new kept old new Found e found = subst (λ b. IsOnce b old Found new) (sym e) found

pub once_kept : {X : Type 0} (kept : Bool) (old : X) (Found : X → Type 0) → kept ≡ true → IsOnce kept old Found old
once_kept kept old Found e = subst (λ b. IsOnce b old Found old) (sym e) refl

module _ {D N S A H : Type 0} (has : H → S → Bool) where
  pub later_same : (c : Cache D N S A H) → IsLater has c c
  later_same c = record {
    provider = refl;
    candidates = begins_same c.candidates;
    matching = begins_same c.matching;
    non_matching = begins_same c.non_matching;
    sorted = begins_same c.sorted;
    dependencies = begins_same c.dependencies;
    hinted = λ s h. h;
  }

  pub later_marked : (c : Cache D N S A H) (hinted : H) → ((s : S) → has c.hinted s ≡ true → has hinted s ≡ true) →
      IsLater has c (record c { hinted = hinted })
  later_marked c hinted more = record {
    provider = refl;
    candidates = begins_same c.candidates;
    matching = begins_same c.matching;
    non_matching = begins_same c.non_matching;
    sorted = begins_same c.sorted;
    dependencies = begins_same c.dependencies;
    hinted = more;
  }

  pub later_asked : (c : Cache D N S A H) (n : N) (answer : Candidates S A) (hinted : H) →
      ((s : S) → has c.hinted s ≡ true → has hinted s ≡ true)
      → IsLater has c (record c { candidates = c.candidates ++ (n, answer) ∷ []; hinted = hinted })
  later_asked c n answer hinted more = record {
    provider = refl;
    candidates = begins_more c.candidates (n, answer);
    matching = begins_same c.matching;
    non_matching = begins_same c.non_matching;
    sorted = begins_same c.sorted;
    dependencies = begins_same c.dependencies;
    hinted = more;
  }

-- ---- what is kept is right

module _ {D N S A H : Type 0} {may : MayAnswer N S A} (p : Provider N S) (c : Cache D N S A H)
    (is : IsCache p may c) where
  pub right_marked : (hinted : H) → IsCache p may (record c { hinted = hinted })
  right_marked hinted = record {
    answers = is.answers;
    fits = is.fits;
    matching = is.matching;
    non_matching = is.non_matching;
    sorted = is.sorted;
    needs = is.needs;
  }

  pub right_asked : (n : N) (answer : Candidates S A) (hinted : H) → IsAnswer p may n answer → p.is_large_name n ≡ false
      → IsCache p may (record c { candidates = c.candidates ++ (n, answer) ∷ []; hinted = hinted })
  right_asked n answer hinted h fit = record {
    answers = All-push (λ e. IsAnswer p may e.0 e.1) c.candidates (n, answer) is.answers h;
    fits = All-push (λ e. p.is_large_name e.0 ≡ false) c.candidates (n, answer) is.fits fit;
    matching = λ k d lt. ((is.matching k d lt).0, kept_more _ c.candidates (n, answer) (is.matching k d lt).1);
    non_matching = λ k d lt. (
      (is.non_matching k d lt).0,
      kept_more _ c.candidates (n, answer)
          (is.non_matching k d lt).1,
    );
    sorted = λ k d lt. (
      (is.sorted k d lt).0,
      λ i v below. kept_more _ c.candidates (n, answer)
          ((is.sorted k d lt).1 i v below),
    );
    needs = is.needs;
  }

  pub right_fetched : (s : S) (answer : Dependencies A) → needs_of answer ≡ p.answers.needs s
      → IsCache p may (record c { dependencies = c.dependencies ++ (s, answer) ∷ [] })
  right_fetched s answer h = record {
    answers = is.answers;
    fits = is.fits;
    matching = is.matching;
    non_matching = is.non_matching;
    sorted = is.sorted;
    needs = All-push (λ e. needs_of e.1 ≡ p.answers.needs e.0) c.dependencies (s, answer) is.needs h;
  }

  pub right_matched : (v : VersionSetId) (list : List S) → list ≡ matching p.universe p.answers v →
      is_set_queried p c v ≡ true
      → IsCache p may (record c { matching = c.matching ++ (v, list) ∷ [] })
  right_matched v list h queried = record {
    answers = is.answers;
    fits = is.fits;
    matching = All-push (λ e. (e.1 ≡ matching p.universe p.answers e.0)
        × (is_set_queried p c e.0 ≡ true)) c.matching (v, list) is.matching (h, queried);
    non_matching = is.non_matching;
    sorted = is.sorted;
    needs = is.needs;
  }

  pub right_unmatched : (v : VersionSetId) (list : List S) → list ≡ non_matching p.universe p.answers v →
      is_set_queried p c v ≡ true
      → IsCache p may (record c { non_matching = c.non_matching ++ (v, list) ∷ [] })
  right_unmatched v list h queried = record {
    answers = is.answers;
    fits = is.fits;
    matching = is.matching;
    non_matching = All-push (λ e. (e.1 ≡ non_matching p.universe p.answers e.0) ×
        (is_set_queried p c e.0 ≡ true)) c.non_matching (v, list) is.non_matching (h, queried);
    sorted = is.sorted;
    needs = is.needs;
  }

  pub right_sorted : (r : Requirement) (list : List S) → list ≡ sorted_of p r →
      All (λ v. is_set_queried p c v ≡ true) (sets_of p.universe r)
      → IsCache p may (record c { sorted = c.sorted ++ (r, list) ∷ [] })
  right_sorted r list h queried = record {
    answers = is.answers;
    fits = is.fits;
    matching = is.matching;
    non_matching = is.non_matching;
    sorted = All-push (λ e. (e.1 ≡ sorted_of p e.0)
        × All (λ v. is_set_queried p c v ≡ true) (sets_of p.universe e.0)) c.sorted (r, list) is.sorted (h, queried);
    needs = is.needs;
  }

  pub right_single : (v : VersionSetId) (list : List S) → list ≡ sorted p.universe p.answers p.same_solvable v →
      is_set_queried p c v ≡ true
      → IsCache p may (record c { sorted = c.sorted ++ (Single v, list) ∷ [] })
  right_single v list h queried =
      right_sorted (Single v) list (h ∙ sym (append-nil (sorted p.universe p.answers p.same_solvable v)))
      (All-push (λ v. is_set_queried p c v ≡ true) [] v (λ k d lt. (let no : ⊥ = omega arith in absurd no)) queried)

  -- the answer that is kept of a package
  pub found_answer : ((a b : N) → p.same_name a b ≡ true → a ≡ b) → (n : N) (place : ℕ) →
      is_cached (p.same_name n) c.candidates ≡ true
      → slice_get (values_of c.candidates) place ≡ lookup (p.same_name n) c.candidates
      → (answer : Candidates S A) × (slice_get (values_of c.candidates) place ≡ Some answer) × IsAnswer p may n answer
  found_answer is_sameness n place kept at =
      kept_answer p.same_name is_sameness (IsAnswer p may) n place c.candidates is.answers kept at

  -- what is kept of a version set, and that its package was asked for
  pub found_matching : (v : VersionSetId) (place : ℕ) → is_cached (same_set v) c.matching ≡ true →
      slice_get (values_of c.matching) place ≡ lookup (same_set v) c.matching
      → (list_at c (Matching, place) ≡ Some (matching p.universe p.answers v)) × (is_set_queried p c v ≡ true)
  found_matching v place kept at =
      let found = kept_answer same_set sets_same (λ v list. (list ≡ matching p.universe p.answers v) ×
      (is_set_queried p c v ≡ true)) v place c.matching is.matching kept at in
      (found.1 ∙ ap Some found.2.0, found.2.1)

  pub found_non_matching : (v : VersionSetId) (place : ℕ) → is_cached (same_set v) c.non_matching ≡ true →
      slice_get (values_of c.non_matching) place ≡ lookup (same_set v) c.non_matching
      → (list_at c (NonMatching, place) ≡ Some (non_matching p.universe p.answers v)) × (is_set_queried p c v ≡ true)
  found_non_matching v place kept at =
      let found = kept_answer same_set sets_same (λ v list. (list ≡ non_matching p.universe p.answers v) ×
      (is_set_queried p c v ≡ true)) v place c.non_matching is.non_matching kept at in
      (found.1 ∙ ap Some found.2.0, found.2.1)

  pub found_sorted : (r : Requirement) (place : ℕ) → is_cached (same_requirement r) c.sorted ≡ true →
      slice_get (values_of c.sorted) place ≡ lookup (same_requirement r) c.sorted
      → (list_at c (Sorted, place) ≡ Some (sorted_of p r))
      × All (λ v. is_set_queried p c v ≡ true) (sets_of p.universe r)
  found_sorted r place kept at =
      let found = kept_answer same_requirement requirements_same (λ r list. (list ≡ sorted_of p r) ×
      All (λ v. is_set_queried p c v ≡ true) (sets_of p.universe r)) r place c.sorted is.sorted kept at in
      (found.1 ∙ ap Some found.2.0, found.2.1)

  pub found_single : (v : VersionSetId) (place : ℕ) → is_cached (same_requirement (Single v)) c.sorted ≡ true
      → slice_get (values_of c.sorted) place ≡ lookup (same_requirement (Single v)) c.sorted
      → (list_at c (Sorted, place) ≡ Some (sorted p.universe p.answers p.same_solvable v))
      × (is_set_queried p c v ≡ true)
  found_single v place kept at =
      let found = found_sorted (Single v) place kept at in (
        found.0 ∙ ap Some (append-nil (sorted p.universe p.answers p.same_solvable v)),
        All-head (λ v. is_set_queried p c v ≡ true) v [] found.1,
      )

-- another list that is the same
pub more_list : {D N S A H : Type 0} (c : Cache D N S A H) (r : Requirement) (list other : List S) → list ≡ other
    → record c { sorted = c.sorted ++ (r, list) ∷ [] } ≡ record c { sorted = c.sorted ++ (r, other) ∷ [] }
more_list c r list other e = ap (λ l. record c { sorted = c.sorted ++ (r, l) ∷ [] }) e

-- one list more after the same
module _ {D N S A H : Type 0} (c mid : Cache D N S A H) (e : c ≡ mid) where
  pub more_matching : (v : VersionSetId) (list : List S) →
      record c { matching = c.matching ++ (v, list) ∷ [] } ≡ record mid { matching = mid.matching ++ (v, list) ∷ [] }
  more_matching v list = ap (λ (x : Cache D N S A H). record x { matching = x.matching ++ (v, list) ∷ [] }) e

  pub more_non_matching : (v : VersionSetId) (list : List S) →
      record c { non_matching = c.non_matching ++ (v, list) ∷ [] } ≡
      record mid { non_matching = mid.non_matching ++ (v, list) ∷ [] }
  more_non_matching v list = ap (λ (x : Cache D N S A H). record x {
    non_matching =
        x.non_matching ++ (v, list) ∷ [];
  }) e

  pub more_sorted : (r : Requirement) (list : List S) → record c { sorted = c.sorted ++ (r, list) ∷ [] }
      ≡ record mid { sorted = mid.sorted ++ (r, list) ∷ [] }
  more_sorted r list = ap (λ (x : Cache D N S A H). record x { sorted = x.sorted ++ (r, list) ∷ [] }) e

-- nothing is kept
pub right_new : {D N S A H : Type 0} {may : MayAnswer N S A} (p : Provider N S) (provider : D) (hinted : H) →
    IsCache {D = D} {N = N} {S = S} {A = A} {H = H} p may (record {
      provider = provider;
      candidates = [];
      matching = [];
      non_matching = [];
      sorted = [];
      dependencies = [];
      hinted = hinted;
    })
right_new p provider hinted = record {
  answers = λ k d lt. (let no : ⊥ = omega arith in absurd no);
  fits = λ k d lt. (let no : ⊥ = omega arith in absurd no);
  matching = λ k d lt. (let no : ⊥ = omega arith in absurd no);
  non_matching = λ k d lt. (let no : ⊥ = omega arith in absurd no);
  sorted = λ k d lt. (let no : ⊥ = omega arith in absurd no);
  needs = λ k d lt. (let no : ⊥ = omega arith in absurd no);
}

-- ---- version sets in turn

-- what is kept is kept behind others
kept_front : {K V : Type 0} (test : K → Bool) (es more : List (K × V)) → is_cached test es ≡ true →
    is_cached test (es ++ more) ≡ true
kept_front test [] more h = cc
kept_front test (e ∷ es) more h =
    (elim (test e.0) as (λ b. is_some (cond b (Some e.1) (lookup test es)) ≡ true →
    is_some (cond b (Some e.1) (lookup test (es ++ more))) ≡ true)
    [ true ↦ λ h. h | false ↦ λ h. kept_front test es more h ]) h

pub kept_later : {K V : Type 0} (test : K → Bool) (es fs : List (K × V)) → BeginsWith es fs →
    is_cached test es ≡ true → is_cached test fs ≡ true
kept_later test es fs begins h =
    subst (λ l. is_cached test l ≡ true) (ap (λ l. l ++ drop (length es) fs) (sym begins) ∙
    take-append-drop (length es) fs) (kept_front test es (drop (length es) fs) h)

pub begins_trans : {X : Type 0} (xs ys zs : List X) → BeginsWith xs ys → BeginsWith ys zs → BeginsWith xs zs
begins_trans xs ys zs first second =
    let shorter : length xs ≤ length ys = omega (arith, length-take (length xs) ys, ap length first) in
    ap (take (length xs)) (sym (take-append-drop (length ys) zs))
    ∙ take-append-le (length xs) (take (length ys) zs) (drop (length ys) zs) (rw second shorter)
    ∙ ap (take (length xs)) second ∙ first

module _ {D N S A H : Type 0} (has : H → S → Bool) where
  pub later_trans : (c d e : Cache D N S A H) → IsLater has c d → IsLater has d e → IsLater has c e
  later_trans c d e first second = record {
    provider = second.provider ∙ first.provider;
    candidates = begins_trans _ _ _ first.candidates second.candidates;
    matching = begins_trans _ _ _ first.matching second.matching;
    non_matching = begins_trans _ _ _ first.non_matching second.non_matching;
    sorted = begins_trans _ _ _ first.sorted second.sorted;
    dependencies = begins_trans _ _ _ first.dependencies second.dependencies;
    hinted = λ s h. second.hinted s (first.hinted s h);
  }

  pub asked_later : (p : Provider N S) (v : VersionSetId) (c d : Cache D N S A H) → IsLater has c d →
      is_set_queried p c v ≡ true → is_set_queried p d v ≡ true
  asked_later p v c d later h = kept_later _ c.candidates d.candidates later.candidates h

  -- one version set more
  pub sorted_push : (p : Provider N S) (may : MayAnswer N S A) (vs : List VersionSetId) (v : VersionSetId)
      (c d e : Cache D N S A H) → AreSorted p may has c vs d → IsSorted p may has d v e
      → AreSorted p may has c (vs ++ v ∷ []) e
  sorted_push p may [] v c d e first next = (e, subst (λ x. IsSorted p may has x v e) first next, refl)
  sorted_push p may (w ∷ vs) v c d e first next = (first.0, first.1, sorted_push p may vs v first.0 d e first.2 next)

-- where no answer can be kept for a package, none can be later
more_used : (large many : Bool) (used later : ℕ) → used ≤ later → (large || (many && leb (2 ^ 32) used)) ≡ true →
    (large || (many && leb (2 ^ 32) later)) ≡ true
more_used true many used later more h = refl
more_used false false used later more h = h
more_used false true used later more h = grind (arith, nat_tests)

pub lacks_later : {D N S A H : Type 0} (has : H → S → Bool) (p : Provider N S) (n : N) (c d : Cache D N S A H) →
    IsLater has c d
    → lacks_candidates p c n ≡ true → lacks_candidates p d n ≡ true
lacks_later has p n c d later h =
    more_used (p.is_large_name n) p.are_names_many (length c.candidates) (length d.candidates)
    (omega (arith, length-take (length c.candidates) d.candidates, ap length later.candidates)) h

-- a growth that may be refused may also be refused where ids are out in more cases
pub refusal_wider : (a b : Bool) (e : StoreError) → (a ≡ true → b ≡ true) → IsGrowthRefusal a e → IsGrowthRefusal b e
refusal_wider a b OutOfMemory h r = r
refusal_wider a b IdSpace h r = h r
refusal_wider a b _ h r = absurd r

module _ {D N S A H : Type 0} (has : H → S → Bool) (p : Provider N S) (old mid new : Cache D N S A H)
    (earlier : IsLater has old mid)
    (later : IsLater has mid new) (vs : List VersionSetId) (i : ℕ) (d : VersionSetId) (lt : i < length vs) where
  abbrev v : VersionSetId
  v = get_or vs i d

  not_asked : is_set_queried p mid v ≡ false → is_set_queried p old v ≡ false
  not_asked h = by_test (is_set_queried p old v) refl
    where
      by_test : (b : Bool) → is_set_queried p old v ≡ b → is_set_queried p old v ≡ false
      by_test true t = absurd (true≢false (sym (asked_later has p v old mid earlier t) ∙ h))
      by_test false t = t

  -- a refusal of one of version sets that were asked for in turn
  pub refused_in_turn : {C : Type 0} (e : CacheError C) →
      IsRefusedOf (is_set_queried p mid (get_or vs i d))
      (lacks_candidates p mid (p.universe.set_name (get_or vs i d))) mid e new
      → IsRefusedOfSets p vs old e new
  refused_in_turn (Cancelled reason) h =
      list_all_at (is_set_queried p old) vs i d lt (not_asked h.0)
  refused_in_turn (Store e) h = refusal_wider _ _ e wider h
    where
      lacks : VersionSetId → Bool
      lacks w = lacks_candidates p new (p.universe.set_name w)

      test : VersionSetId → Bool
      test w = not (is_set_queried p old w) && lacks w

      this : (a b : Bool) → is_set_queried p mid v ≡ a → (b ≡ true → lacks v ≡ true) → (not a && b) ≡ true →
          test v ≡ true
      this true b queried more h = cc
      this false b queried more h = ap (λ a. not a && lacks v) (not_asked queried) ∙ more h

      wider : (not (is_set_queried p mid v) && lacks_candidates p mid (p.universe.set_name v)) ≡ true →
          list_any test vs ≡ true
      wider h = list_any_at test vs i d lt (this _ _ refl (lacks_later has p (p.universe.set_name v) mid new later) h)
