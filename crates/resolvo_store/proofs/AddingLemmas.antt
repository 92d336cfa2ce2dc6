-- Adding clauses: what the list of clauses answers makes a step.
use Rattle.std.proofs.Common.{[], ◌≡◌, ℕ, ◌<◌, ◌-◌, ◌^◌, Bool, true, false, cond, not, List, ◌∷◌, length}
use Rattle.std.proofs.Common.{Option, None, Some, Result, Ok, Err, refl, arith, sym, ◌∙◌, ap, subst}
use Rattle.std.specs.Prelude.{◌&&◌, option_map}
use Rattle.std.proofs.lemmas.Bool.Decides.{nat_tests}
use Rattle.resolvo_store.proofs.Words.{adding, adds_clause, are_clauses_out, are_disjunctions_out, BadLearnt, BadWatch}
use Rattle.resolvo_store.proofs.Words.{Bump, Clause, clause_literals, clause_refusals, ClauseIs, Command, Done, find}
use Rattle.resolvo_store.proofs.Words.{first_refusal, first_watches, HasOutcome, IdSpace, IfErr, IfOk, IfSome}
use Rattle.resolvo_store.proofs.Words.{is_bad_learnt, is_direct, is_learnt_out, is_literal_in, is_none, is_saturate}
use Rattle.resolvo_store.proofs.Words.{is_some, IsAnswered, IsErrAnd, IsGrowthRefusal, IsRefused, IsTrue, knows_clause}
use Rattle.resolvo_store.proofs.Words.{knows_disjunction, knows_literal, knows_pair, knows_requirement, knows_variable}
use Rattle.resolvo_store.proofs.Words.{lacks_ids, Learnt, list_all, lists_of, Lit, MatchOption, may_rewatch}
use Rattle.resolvo_store.proofs.Words.{names_known, nat_le, nat_lt, negates_parent, NegatesParent, NotLoaded, OnErr}
use Rattle.resolvo_store.proofs.Words.{OnOk, option_map_or, outcome, OutOfMemory, Refused, replied, Reply, Requirement}
use Rattle.resolvo_store.proofs.Words.{Requires, Rewatch, Step, Store, stored_of, StoreError, takes_no_memory}
use Rattle.resolvo_store.proofs.Words.{TooManyClauses, two_or_none, UnknownId, values, Watchers, WatchersAre}
use Rattle.resolvo_store.specs.Command.{Disjunction}
use Rattle.resolvo_store.specs.Store.{watched_by}
use Rattle.resolvo_store.specs.Outcome.{with_clause, with_rewatched}
use Rattle.resolvo_store.proofs.RunLemmas.{is_answered}
use Rattle.clauses.specs.declared.clause.Clause.TheVariants as Kind

-- ---- growths

-- where ids are out there is no success
pub growth_fits : {T : Type 0} (out : Bool) (result : Result T StoreError) → (IsTrue out → result ≡ Err IdSpace) →
    OnOk result (out ≡ false)
growth_fits out (Err e) h = tt
growth_fits false (Ok x) h = refl
growth_fits {T} true (Ok x) h = (let no : ◌≡◌ {A = Result T StoreError} (Ok x) (Err IdSpace) = h refl in cc)

-- and a refusal is for want of ids exactly there
pub growth_refusal : (out : Bool) (e : StoreError) → IsGrowthRefusal out e → (IsTrue out → e ≡ IdSpace) →
    e ≡ cond out IdSpace OutOfMemory
growth_refusal true e h k = k refl
growth_refusal false OutOfMemory h k = refl
growth_refusal false IdSpace h k = (let no : false ≡ true = h in cc)
growth_refusal false _ h k = absurd h

-- what is true of a refusal is true of the answer that hands it on
pub err_replied : {T : Type 0} (says : T → Reply) (P : Reply →
    Type 0) (result : Result T StoreError) (e : StoreError) → IsErrAnd result (λ x. x ≡ e) → P (Refused e)
    → P (replied says result)
err_replied says P (Ok answer) e h p = absurd h
err_replied says P (Err x) e h p = subst (λ y. P (Refused y)) (sym h) p

-- of a success what follows of its answer
pub if_ok : {T E : Type 0} {P Q : T → Type 0} (result : Result T E) → ((x : T) → P x → Q x) → IfOk result P →
    IfOk result Q
if_ok (Ok x) f p = f x p
if_ok (Err e) f p = tt

-- where there is nothing to tell, that is what is said
pub always_said : {T E : Type 0} (result : Result T E) → IfOk result (λ _. Done ≡ Done)
always_said (Ok x) = refl
always_said (Err e) = tt

-- what is true of a parent, a requirement and a condition is true of the same ones
pub as_asked : {R : Type 0} (P : ℕ → R → Option ℕ → Type 0) {p q : ℕ} {r s : R} {d e : Option ℕ} → p ≡ q → r ≡ s →
    d ≡ e → P p r d → P q s e
as_asked P {p} {q} {r} {s} {d} {e} a b c h = subst (λ x. P x s e) a (subst (λ x. P p x e) b (subst (λ x. P p r x) c h))

-- ---- tests

-- of two tests that hold both do
pub both : (a b : Bool) → (a && b) ≡ true → (a ≡ true) × (b ≡ true)
both true b h = (refl, h)
both false b h = (let no : false ≡ true = h in cc)

-- a test whose opposite holds doesn't
pub failed : (b : Bool) → not b ≡ true → b ≡ false
failed true h = (let no : false ≡ true = h in cc)
failed false h = refl

-- what is there isn't lacking
pub not_none : {X : Type 0} (o : Option X) → is_some o ≡ true → is_none o ≡ false
not_none None h = (let no : false ≡ true = h in cc)
not_none (Some x) h = refl

-- ---- refusals

-- the first that applies
abbrev pub first_of : List (Bool × StoreError) → Option StoreError
first_of rs = option_map (λ (r : Bool × StoreError). r.1) (find (λ (r : Bool × StoreError). r.0) rs)

-- one that doesn't apply is passed over
pub none_yet : (b : Bool) (e : StoreError) (rs : List (Bool × StoreError)) → b ≡ false →
    first_of ((b, e) ∷ rs) ≡ first_of rs
none_yet false e rs h = refl
none_yet true e rs h = (let no : true ≡ false = h in cc)

-- one that applies is the first
pub found_first : (b : Bool) (e : StoreError) (rs : List (Bool × StoreError)) → b ≡ true →
    first_of ((b, e) ∷ rs) ≡ Some e
found_first true e rs h = refl
found_first false e rs h = (let no : false ≡ true = h in cc)

-- three tests don't hold where the last doesn't
last_fails : (a b d : Bool) → d ≡ false → (a && (b && d)) ≡ false
last_fails true true d h = h
last_fails true false d h = refl
last_fails false b d h = refl

pub ids_alone : (out : Bool) → first_of ((out, IdSpace) ∷ []) ≡ cond out (Some IdSpace) None
ids_alone true = refl
ids_alone false = refl

-- ---- steps

module _ {N S : Type 0} (st : Store N S) where
  -- nothing is unknown: no clause id is left, or nothing is foreseen
  pub first_if_known : (known : Bool) → known ≡ true → first_of (clause_refusals st known)
      ≡ cond (are_clauses_out st) (Some IdSpace) None
  first_if_known known h = none_yet (not known) UnknownId ((are_clauses_out st, IdSpace) ∷ []) (ap not h)
      ∙ ids_alone (are_clauses_out st)

  -- the same of a clause that a command names whole
  pub first_of_direct : (c : Clause N) → is_direct c ≡ true →
      names_known st.provider.universe (length st.origins) c ≡ true
      → first_refusal st (adding c) ≡ cond (are_clauses_out st) (Some IdSpace) None
  first_of_direct Kind.InstallRoot direct known = first_if_known true known
  first_of_direct (Kind.Constrains a b v) direct known =
      first_if_known (knows_pair st a b && st.provider.universe.knows_set v) known
  first_of_direct (Kind.ConstrainsExcluded a b v) direct known =
      first_if_known (knows_pair st a b && st.provider.universe.knows_set v) known
  first_of_direct (Kind.ConstrainsParent a b v) direct known =
      first_if_known (knows_pair st a b && st.provider.universe.knows_set v) known
  first_of_direct (Kind.Lock a b) direct known = first_if_known (knows_pair st a b) known
  first_of_direct (Kind.Excluded a reason) direct known =
      first_if_known (knows_variable st a && st.provider.universe.knows_string reason) known
  first_of_direct (Kind.AnyOf a b) direct known = first_if_known (knows_pair st a b) known
  first_of_direct (Kind.Requires parent d r) direct known = (let no : false ≡ true = direct in cc)
  first_of_direct (Kind.ForbidMultipleInstances a l n) direct known = (let no : false ≡ true = direct in cc)
  first_of_direct (Kind.Learnt id) direct known = (let no : false ≡ true = direct in cc)

  -- it lacks no other ids, takes memory, and adds the clause; and it is no Saturate
  pub direct_adds : (c : Clause N) → is_direct c ≡ true
      → (lacks_ids st (adding c) ≡ false) × (takes_no_memory st (adding c) ≡ false)
      × (adds_clause st c ≡ outcome st (adding c)) × (is_saturate (adding {N = N} {S = S} c) ≡ false)
  direct_adds Kind.InstallRoot direct = (refl, refl, refl, refl)
  direct_adds (Kind.Constrains a b v) direct = (refl, refl, refl, refl)
  direct_adds (Kind.ConstrainsExcluded a b v) direct = (refl, refl, refl, refl)
  direct_adds (Kind.ConstrainsParent a b v) direct = (refl, refl, refl, refl)
  direct_adds (Kind.Lock a b) direct = (refl, refl, refl, refl)
  direct_adds (Kind.Excluded a reason) direct = (refl, refl, refl, refl)
  direct_adds (Kind.AnyOf a b) direct = (refl, refl, refl, refl)
  direct_adds (Kind.Requires parent d r) direct = absurd (let no : false ≡ true = direct in cc)
  direct_adds (Kind.ForbidMultipleInstances a l n) direct = absurd (let no : false ≡ true = direct in cc)
  direct_adds (Kind.Learnt id) direct = absurd (let no : false ≡ true = direct in cc)

  -- nothing is wrong with the literals of a learnt clause
  pub first_of_learnt : (ls : List Lit) → list_all (knows_literal st) ls ≡ true → is_bad_learnt ls ≡ false
      → first_refusal st (Learnt ls) ≡ cond (is_learnt_out st) (Some IdSpace) None
  first_of_learnt ls known good =
      none_yet (not (list_all (knows_literal st) ls)) UnknownId
      ((is_bad_learnt ls, BadLearnt) ∷ (is_learnt_out st, IdSpace) ∷ []) (ap not known)
      ∙ none_yet (is_bad_learnt ls) BadLearnt ((is_learnt_out st, IdSpace) ∷ []) good ∙ ids_alone (is_learnt_out st)

  -- a disjunction that is known is kept
  pub disjunction_known : (d : Option ℕ) → knows_disjunction st d ≡ true → IfSome d (λ i. i < length st.disjunctions)
  disjunction_known None known = tt
  disjunction_known (Some i) known = (let within : i < length st.disjunctions = grind (arith, nat_tests, known) in
      within)

  -- a refusal that is foreseen
  pub step_foreseen : (c : Command N S) (e : StoreError) → first_refusal st c ≡ Some e → Step st c (Refused e) st
  step_foreseen c e first = subst (λ o. MatchOption o (IsAnswered st c (Refused e) st) (λ x. (Refused e ≡ Refused x)
      × (st ≡ st))) (sym first) (refl, refl)

  -- whether a disjunction is kept, where there are as many
  kept_same : (d : Option ℕ) (disjunctions : ℕ) → disjunctions ≡ length st.disjunctions →
      option_map_or (λ x. nat_lt x disjunctions) d true ≡ knows_disjunction st d
  kept_same None disjunctions same = refl
  kept_same (Some x) disjunctions same = ap (nat_lt x) same

  module _ (parent : ℕ) (r : Requirement) (d : Option ℕ) where
    -- whether all is known that a requires clause names
    abbrev pub is_all_known : Bool
    is_all_known = knows_variable st parent && (knows_requirement st.provider.universe r && knows_disjunction st d)

    abbrev is_queue_full : Bool
    is_queue_full = nat_le (2 ^ 32 - 1) (length st.requires)

    pub all_known_is : (disjunctions : ℕ) → disjunctions ≡ length st.disjunctions
        → (nat_lt parent (length st.origins) && (knows_requirement st.provider.universe r && option_map_or
        (λ x. nat_lt x disjunctions) d true)) ≡ is_all_known
    all_known_is disjunctions same =
        ap (λ b. knows_variable st parent && (knows_requirement st.provider.universe r && b))
        (kept_same d disjunctions same)

    -- each of it is known then
    pub each_known : is_all_known ≡ true → (knows_requirement st.provider.universe r ≡ true)
        × (parent < length st.origins) × IfSome d (λ x. x < length st.disjunctions)
    each_known known =
        let parts = both (knows_variable st parent)
        (knows_requirement st.provider.universe r && knows_disjunction st d) known in
        let two = both (knows_requirement st.provider.universe r) (knows_disjunction st d) parts.1 in
        let within : parent < length st.origins = (let test = parts.0 in grind (arith, nat_tests, test)) in
        (two.0, within, disjunction_known d two.1)

    abbrev with_room : List (Bool × StoreError)
    with_room = (is_queue_full, TooManyClauses) ∷ (are_clauses_out st, IdSpace) ∷ []

    abbrev beside_parent : List (Bool × StoreError)
    beside_parent = (negates_parent st parent d, NegatesParent) ∷ with_room

    -- the first refusal of a requires clause, by the first test that applies
    pub first_of_unknown : is_all_known ≡ false → first_refusal st (Requires parent r d) ≡ Some UnknownId
    first_of_unknown known = found_first (not is_all_known) UnknownId
        ((is_none (lists_of st r), NotLoaded) ∷ beside_parent) (ap not known)

    to_loaded : is_all_known ≡ true → first_refusal st (Requires parent r d)
        ≡ first_of ((is_none (lists_of st r), NotLoaded) ∷ beside_parent)
    to_loaded known = none_yet (not is_all_known) UnknownId ((is_none (lists_of st r), NotLoaded) ∷ beside_parent)
        (ap not known)

    pub first_of_unloaded : is_all_known ≡ true → is_some (lists_of st r) ≡ false →
        first_refusal st (Requires parent r d) ≡ Some NotLoaded
    first_of_unloaded known loaded = to_loaded known
        ∙ found_first (is_none (lists_of st r)) NotLoaded beside_parent (none_there (lists_of st r) loaded)
      where
        none_there : {X : Type 0} (o : Option X) → is_some o ≡ false → is_none o ≡ true
        none_there None h = refl
        none_there (Some x) h = (let no : true ≡ false = h in cc)

    to_parent : is_all_known ≡ true → is_some (lists_of st r) ≡ true →
        first_refusal st (Requires parent r d) ≡ first_of beside_parent
    to_parent known loaded = to_loaded known
        ∙ none_yet (is_none (lists_of st r)) NotLoaded beside_parent (not_none (lists_of st r) loaded)

    pub first_of_negating : is_all_known ≡ true → is_some (lists_of st r) ≡ true →
        negates_parent st parent d ≡ true → first_refusal st (Requires parent r d) ≡ Some NegatesParent
    first_of_negating known loaded negates = to_parent known loaded
        ∙ found_first (negates_parent st parent d) NegatesParent with_room negates

    pub first_of_full : is_all_known ≡ true → is_some (lists_of st r) ≡ true → negates_parent st parent d ≡ false →
        is_queue_full ≡ true
        → first_refusal st (Requires parent r d) ≡ Some TooManyClauses
    first_of_full known loaded apart full =
        to_parent known loaded ∙ none_yet (negates_parent st parent d) NegatesParent with_room apart
        ∙ found_first is_queue_full TooManyClauses ((are_clauses_out st, IdSpace) ∷ []) full

  -- a requires clause of what is known and loaded, whose condition doesn't negate its parent, has room in the queue
  pub first_of_requires : (parent : ℕ) (r : Requirement) (disjunction : Option ℕ)
      → (knows_variable st parent && (knows_requirement st.provider.universe r && knows_disjunction st disjunction))
      ≡ true → is_some (lists_of st r) ≡ true
      → negates_parent st parent disjunction ≡ false
      → nat_le (2 ^ 32 - 1) (length st.requires) ≡ false → first_refusal st (Requires parent r disjunction)
      ≡ cond (are_clauses_out st) (Some IdSpace) None
  first_of_requires parent r disjunction known loaded apart room =
      let full : Bool = nat_le (2 ^ 32 - 1) (length st.requires) in
      none_yet (not (knows_variable st parent && (knows_requirement st.provider.universe r && knows_disjunction st
      disjunction))) UnknownId
      ((is_none (lists_of st r), NotLoaded) ∷ (negates_parent st parent disjunction, NegatesParent) ∷ (
        full,
        TooManyClauses,
      ) ∷ (are_clauses_out st, IdSpace) ∷ []) (ap not known)
      ∙ none_yet (is_none (lists_of st r)) NotLoaded ((negates_parent st parent disjunction, NegatesParent) ∷ (
        full,
        TooManyClauses,
      ) ∷ (are_clauses_out st, IdSpace) ∷ []) (not_none (lists_of st r) loaded)
      ∙ none_yet (negates_parent st parent disjunction) NegatesParent
      ((full, TooManyClauses) ∷ (are_clauses_out st, IdSpace) ∷ []) apart
      ∙ none_yet full TooManyClauses ((are_clauses_out st, IdSpace) ∷ []) room ∙ ids_alone (are_clauses_out st)

  -- the literals of a condition that is known
  pub first_of_disjunction : (ls : List Lit) (condition : ℕ) →
      (list_all (knows_literal st) ls && st.provider.universe.knows_condition condition) ≡ true
      → first_refusal st (Disjunction ls condition) ≡ cond (are_disjunctions_out st) (Some IdSpace) None
  first_of_disjunction ls condition known =
      none_yet (not (list_all (knows_literal st) ls && st.provider.universe.knows_condition condition)) UnknownId
      ((are_disjunctions_out st, IdSpace) ∷ []) (ap not known)
      ∙ ids_alone (are_disjunctions_out st)

  -- the score of a name that is known
  pub first_of_bump : (name : N) (amount : ℕ) → st.provider.universe.knows_name name ≡ true
      → first_refusal st (Bump name amount) ≡ cond (st.provider.is_large_name name) (Some IdSpace) None
  first_of_bump name amount known =
      none_yet (not (st.provider.universe.knows_name name)) UnknownId
      ((st.provider.is_large_name name, IdSpace) ∷ []) (ap not known)
      ∙ ids_alone (st.provider.is_large_name name)

  -- a watch of a clause that has the literal
  pub first_of_rewatch : (c : ℕ) (from to : Lit) →
      (knows_clause st c && (knows_literal st from && knows_literal st to)) ≡ true
      → is_literal_in to (clause_literals st c) ≡ true
      → first_refusal st (Rewatch c from to)
      ≡ cond (is_literal_in from (watched_by st c) && not (is_literal_in to (watched_by st c))) None (Some BadWatch)
  first_of_rewatch c from to known has =
      none_yet (not (knows_clause st c && (knows_literal st from && knows_literal st to))) UnknownId
      ((not (may_rewatch st c from to), BadWatch) ∷ []) (ap not known)
      ∙ ap (λ b. first_of ((
        not (is_literal_in from (watched_by st c)
            && (not (is_literal_in to (watched_by st c)) && b)),
        BadWatch,
      ) ∷ [])) has
      ∙ by_tests (is_literal_in from (watched_by st c)) (not (is_literal_in to (watched_by st c)))
    where
      by_tests : (a b : Bool) → first_of ((not (a && (b && true)), BadWatch) ∷ []) ≡ cond (a && b) None (Some BadWatch)
      by_tests true true = refl
      by_tests true false = refl
      by_tests false b = refl

  -- one that isn't the clause's
  pub without_literal : (c : ℕ) (from to : Lit) →
      (knows_clause st c && (knows_literal st from && knows_literal st to)) ≡ true
      → is_literal_in to (clause_literals st c) ≡ false → first_refusal st (Rewatch c from to) ≡ Some BadWatch
  without_literal c from to known none =
      none_yet (not (knows_clause st c && (knows_literal st from && knows_literal st to))) UnknownId
      ((not (may_rewatch st c from to), BadWatch) ∷ []) (ap not known)
      ∙ found_first (not (may_rewatch st c from to)) BadWatch []
      (ap not (last_fails (is_literal_in from (watched_by st c)) (not (is_literal_in to (watched_by st c)))
      (is_literal_in to (clause_literals st c)) none))

  -- a watch was moved
  pub step_rewatched : (c : ℕ) (from to : Lit) (can : Bool) {after : Store N S} →
      first_refusal st (Rewatch c from to) ≡ cond can None (Some BadWatch) → IsTrue can
      → after ≡ with_rewatched st c from to → Step st (Rewatch c from to) Done after
  step_rewatched c from to true {after} first holds made =
      subst (λ o. MatchOption o (IsAnswered st (Rewatch c from to) Done after) (λ e. (Done ≡ Refused e)
      × (after ≡ st))) (sym first) (refl, refl, made)
  step_rewatched c from to false first holds made = (let no : false ≡ true = holds in cc)

  -- it wasn't
  pub step_unmoved : (c : ℕ) (from to : Lit) (can : Bool) (e : StoreError) {after : Store N S} →
      first_refusal st (Rewatch c from to) ≡ cond can None (Some BadWatch)
      → e ≡ cond can OutOfMemory BadWatch → after ≡ st → Step st (Rewatch c from to) (Refused e) after
  step_unmoved c from to can e {after} first is same =
      subst (λ x. Step st (Rewatch c from to) (Refused x) after) (sym is)
      (subst (λ o. MatchOption o (IsAnswered st (Rewatch c from to) (Refused (cond can OutOfMemory BadWatch)) after)
      (λ x. (Refused (cond can OutOfMemory BadWatch) ≡ Refused x) × (after ≡ st))) (sym first) (by_can can))
    where
      by_can : (b : Bool) → MatchOption (cond b None (Some BadWatch))
          (IsAnswered st (Rewatch c from to) (Refused (cond b OutOfMemory BadWatch)) after)
          (λ x. (Refused (cond b OutOfMemory BadWatch) ≡ Refused x) × (after ≡ st))
      by_can true = (refl, same)
      by_can false = (refl, same)

  -- who watches a literal was told
  step_watchers : (l : Lit) (found : List ℕ) → knows_literal st l ≡ true → found ≡ st.watchers l →
      Step st (Watchers l) (WatchersAre found) st
  step_watchers l found known is =
      subst (λ o. MatchOption o (IsAnswered st (Watchers l) (WatchersAre found) st)
      (λ e. (WatchersAre found ≡ Refused e) × (st ≡ st)))
      (sym (none_yet (not (knows_literal st l)) UnknownId [] (ap not known))) (refl, ap WatchersAre is, refl)

  -- there was no memory to tell it
  step_untold : (l : Lit) (e : StoreError) → knows_literal st l ≡ true → e ≡ OutOfMemory →
      Step st (Watchers l) (Refused e) st
  step_untold l e known is =
      subst (λ x. Step st (Watchers l) (Refused x) st) (sym is)
      (subst (λ o. MatchOption o (IsAnswered st (Watchers l) (Refused OutOfMemory) st)
      (λ x. (Refused OutOfMemory ≡ Refused x) × (st ≡ st)))
      (sym (none_yet (not (knows_literal st l)) UnknownId [] (ap not known))) (refl, refl))

  -- who watches it was told, or there was no memory for that
  pub step_asked : {V : Type 0} (items : V → List ℕ) (l : Lit) (result : Result V StoreError) →
      knows_literal st l ≡ true
      → IfOk result (λ v. items v ≡ st.watchers l) → IfErr result (λ e. e ≡ OutOfMemory) →
      Step st (Watchers l) (replied (λ v. WatchersAre (items v)) result) st
  step_asked items l (Ok v) known ok err = step_watchers l (items v) known ok
  step_asked items l (Err e) known ok err = step_untold l e known err

  -- a clause was added
  pub step_clause : (c : Command N S) (id : ℕ) (conflict : Bool) {after : Store N S} → is_saturate c ≡ false →
      first_refusal st c ≡ None → lacks_ids st c ≡ false
      → ClauseIs id conflict ≡ (outcome st c).reply → after ≡ (outcome st c).store →
      Step st c (ClauseIs id conflict) after
  step_clause c id conflict {after} plain none lacks said made =
      subst (λ o. MatchOption o (IsAnswered st c (ClauseIs id conflict) after)
      (λ e. (ClauseIs id conflict ≡ Refused e) × (after ≡ st))) (sym none)
      (is_answered st after c (ClauseIs id conflict) plain (lacks, said, made))

  -- it was refused
  pub step_refused : (c : Command N S) (out : Bool) (e : StoreError) {after : Store N S} → is_saturate c ≡ false →
      first_refusal st c ≡ cond out (Some IdSpace) None → takes_no_memory st c ≡ false
      → e ≡ cond out IdSpace OutOfMemory → after ≡ st → Step st c (Refused e) after
  step_refused c out e {after} plain first memory is same =
      subst (λ x. Step st c (Refused x) after) (sym is)
      (subst (λ o. MatchOption o (IsAnswered st c (Refused (cond out IdSpace OutOfMemory)) after)
      (λ x. (Refused (cond out IdSpace OutOfMemory) ≡ Refused x) × (after ≡ st))) (sym first) (by_out out))
    where
      by_out : (b : Bool) → MatchOption (cond b (Some IdSpace) None)
          (IsAnswered st c (Refused (cond b IdSpace OutOfMemory)) after)
          (λ x. (Refused (cond b IdSpace OutOfMemory) ≡ Refused x) × (after ≡ st))
      by_out true = (refl, same)
      by_out false = is_answered st after c (Refused OutOfMemory) plain (ap not memory, same)

  -- a reply that is no refusal answers a command that nothing refuses
  by_reply : (c : Command N S) (reply : Reply) {after : Store N S} → (IsRefused reply → ⊥) → lacks_ids st c ≡ false →
      reply ≡ (outcome st c).reply
      → after ≡ (outcome st c).store → HasOutcome st c reply after
  by_reply c (Refused e) answered lacks said made = absurd (answered tt)
  by_reply c _ answered lacks said made = (lacks, said, made)

  -- where all that can be foreseen is whether an id is left
  pub step_grown : {T : Type 0} (says : T → Reply) (c : Command N S) (out : Bool) (result : Result T StoreError)
      (after : Store N S)
      → is_saturate c ≡ false → first_refusal st c ≡ cond out (Some IdSpace) None → lacks_ids st c ≡ false →
      takes_no_memory st c ≡ false → (IsRefused (outcome st c).reply → ⊥)
      → IfOk result (λ reply. says reply ≡ (outcome st c).reply) → OnOk result (after ≡ (outcome st c).store) →
      OnErr result (after ≡ st)
      → IfErr result (IsGrowthRefusal out) → (IsTrue out → result ≡ Err IdSpace) → Step st c (replied says result) after
  step_grown says c out (Ok reply) after plain first lacks memory answered said ok err refused ids_out =
      let none : first_refusal st c ≡ None = first
      ∙ ap (λ b. cond b (Some IdSpace) None) (growth_fits out (Ok reply) ids_out) in
      subst (λ o. MatchOption o (IsAnswered st c (says reply) after) (λ e. (says reply ≡ Refused e) × (after ≡ st)))
      (sym none)
      (is_answered st after c (says reply) plain (by_reply c (says reply)
      (λ h. answered (subst (λ r. IsRefused r) said h)) lacks said ok))
  step_grown says c out (Err e) after plain first lacks memory answered said ok err refused ids_out =
      step_refused c out e plain first memory (growth_refusal out e refused (λ h. cc (ids_out h))) err

-- a clause with its watches
pub with_made : {N S : Type 0} (st : Store N S) (clause : Clause N) {watch : Option (List Lit)} →
    watch ≡ first_watches (stored_of st) (values st) clause
    → with_clause st clause (two_or_none watch) ≡ (adds_clause st clause).store
with_made st clause same = ap (λ x. with_clause st clause (two_or_none x)) same
