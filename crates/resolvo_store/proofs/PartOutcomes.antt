-- What calls on the parts of a store leave: the list of clauses, the trackers, the scores.
use Rattle.std.proofs.Common.{[], ◌≡◌, ℕ, ◌-◌, true, List, ◌∷◌}
use Rattle.std.proofs.Common.{map, Option, None, Some, Result, Ok, Err, refl, sym, subst}
use Rattle.std.proofs.Common.{ap, ◌∙◌, ◌⊎◌, inl, inr}
use Rattle.std.specs.Prelude.{Bool, false}
use Rattle.resolvo_store.proofs.Words.{AddFault, adds_clause, AddsEntry, BitClause, bumped, Clause, Clauses, Entry}
use Rattle.resolvo_store.proofs.Words.{forbidding, helper_for, is_direct, IsNew, IsPlain, MayDecide, OnErr, OnOk}
use Rattle.resolvo_store.proofs.Words.{origins_with, pushed, Queue, References, RequiresClause, sets_of, StandsOn}
use Rattle.resolvo_store.proofs.Words.{Store, Tracker, tracking, Trail, VariableOrigin, with_bits, with_bumped}
use Rattle.resolvo_store.proofs.Words.{with_forbidden, with_tracked}
use Rattle.resolvo_store.proofs.SyncedLemmas.{in_step-new}
use Rattle.at_most_once.specs.NameTrackers.{with_tracked as trackers_with}
use Rattle.clauses.specs.declared.clause.Clause.TheVariants as Kind

-- what comes of success, or of failure
pub either : {T E P Q : Type 0} (result : Result T E) → OnOk result P → OnErr result Q → P ⊎ Q
either (Ok x) p q = inl p
either (Err e) p q = inr q

-- what follows from success, and what from failure
pub on_ok : {T E P Q : Type 0} (result : Result T E) → (P → Q) → OnOk result P → OnOk result Q
on_ok (Ok x) more p = more p
on_ok (Err e) more p = p

pub on_err : {T E P Q : Type 0} (result : Result T E) → (P → Q) → OnErr result P → OnErr result Q
on_err (Ok x) more p = p
on_err (Err e) more p = more p

-- an entry was added to the trail, or the trail stays
pub added_or_same : (known : Option Bool) (old new : Trail) (e : Entry) (answer : Result Bool AddFault) →
    AddsEntry known old e answer new
    → ((known ≡ None) × (new ≡ pushed old e)) ⊎ (new ≡ old)
added_or_same (Some b) old new e answer h = inr h.1
added_or_same None old new e (Ok added) h = inl (refl, h.1)
added_or_same None old new e (Err fault) h = inr h.1

-- the list of clauses in a store
abbrev pub list_of : {N S : Type 0} → Store N S → Clauses N
list_of st = record { clauses = st.clauses; watches = st.watches; learnt = st.learnt; watchers = st.watchers }

-- a store with another list of clauses
abbrev pub with_list : {N S : Type 0} → Store N S → Clauses N → Store N S
with_list st cs = record st { clauses = cs.clauses; watches = cs.watches; learnt = cs.learnt; watchers = cs.watchers }

-- clauses that the list adds under a name are those that the store adds
pub forbidden_bits : {N S : Type 0} (name : N) (st : Store N S) (cs : List (BitClause ℕ)) →
    with_list st (with_forbidden name (list_of st) cs) ≡ with_bits name st cs
forbidden_bits name st [] = refl
forbidden_bits name st (c ∷ cs) = forbidden_bits name (adds_clause st (forbidding name c)).store cs

-- a clause that a command names whole is plain
pub plain_direct : {N : Type 0} (c : Clause N) → is_direct c ≡ true → IsPlain c
plain_direct Kind.InstallRoot direct = record { unregistered = λ id. refl; untracked = λ named. refl }
plain_direct (Kind.Constrains a b v) direct = record { unregistered = λ id. refl; untracked = λ named. refl }
plain_direct (Kind.ConstrainsExcluded a aux v) direct = record { unregistered = λ id. refl; untracked = λ named. refl }
plain_direct (Kind.ConstrainsParent a aux v) direct = record { unregistered = λ id. refl; untracked = λ named. refl }
plain_direct (Kind.Lock locked other) direct = record { unregistered = λ id. refl; untracked = λ named. refl }
plain_direct (Kind.Excluded a reason) direct = record { unregistered = λ id. refl; untracked = λ named. refl }
plain_direct (Kind.AnyOf selected other) direct = record { unregistered = λ id. refl; untracked = λ named. refl }
plain_direct (Kind.Requires parent d r) direct = absurd (let no : false ≡ true = direct in cc)
plain_direct (Kind.ForbidMultipleInstances a l n) direct = absurd (let no : false ≡ true = direct in cc)
plain_direct (Kind.Learnt id) direct = absurd (let no : false ≡ true = direct in cc)

-- a new queue, without clauses, may be asked
pub new_may_ask : {N S A Q : Type 0} {has : Q → N → Bool} (queue : Queue N Q) (refs : References N S A)
    (trail : Trail) → IsNew has queue → ((any : References N S A) → StandsOn any queue)
    → trail.floor ≡ 0 → MayDecide has (λ n. 0) refs (record queue { clauses = [] }) trail
new_may_ask {has = has} queue refs trail is stands first =
    subst (λ cs. MayDecide has (λ n. 0) refs (record queue { clauses = cs }) trail) is.clauses (record {
      in_step = in_step-new {has = has} trail first is;
      stands = stands refs;
      named = is.names ∙ sym (ap (map (λ c. map refs.universe.set_name (sets_of refs.universe c.requirement)))
          is.clauses);
      hot = λ n cold. refl;
    })

-- a store that tracks one variable more, by its variables, its list of clauses and its trackers
pub tracked_parts : {N S : Type 0} (st : Store N S) (name : N)
    (v : ℕ) {os : List (VariableOrigin N S)} {cs : Clauses N} {ts : N → Tracker ℕ}
    → os ≡ origins_with st.origins name (helper_for st name v) →
    cs ≡ with_forbidden name (list_of st) (tracking st name v)
    → ts ≡ trackers_with st.provider.same_name name v (helper_for st name v) st.trackers →
    record (with_list st cs) { origins = os; trackers = ts } ≡ with_tracked st name v
tracked_parts st name v {os} {cs} {ts} origins clauses trackers =
    ap (λ o. record (with_list st cs) { origins = o; trackers = ts }) origins
    ∙ ap (λ c. record (with_list st c) {
      origins = origins_with st.origins name (helper_for st name v);
      trackers =
          ts;
    }) clauses
    ∙ ap (λ t. record (with_list st (with_forbidden name (list_of st) (tracking st name v))) {
      origins =
          origins_with st.origins name (helper_for st name v);
      trackers = t;
    }) trackers
    ∙ forbidden_bits name (record st {
      origins = origins_with st.origins name (helper_for st name v);
      trackers = trackers_with st.provider.same_name name v (helper_for st name v) st.trackers;
    }) (tracking st name v)

-- or is as it was
pub tracked_or_same : {N S T E : Type 0} (st : Store N S) (name : N) (v : ℕ) (os : List (VariableOrigin N S))
    (cs : Clauses N) (ts : N → Tracker ℕ) (result : Result T E)
    → OnOk result (os ≡ origins_with st.origins name (helper_for st name v)) →
    OnOk result (cs ≡ with_forbidden name (list_of st) (tracking st name v))
    → OnOk result (ts ≡ trackers_with st.provider.same_name name v (helper_for st name v) st.trackers)
    → OnErr result (os ≡ st.origins) → OnErr result (cs ≡ list_of st) → OnErr result (ts ≡ st.trackers)
    → OnOk result (record (with_list st cs) { origins = os; trackers = ts } ≡ with_tracked st name v)
    × OnErr result (record (with_list st cs) { origins = os; trackers = ts } ≡ st)
tracked_or_same st name v os cs ts (Ok x) origins clauses trackers same_origins same_clauses same_trackers =
    (tracked_parts st name v origins clauses trackers, tt)
tracked_or_same st name v os cs ts (Err e) origins clauses trackers same_origins same_clauses same_trackers = (
  tt,
  ap (λ o. record (with_list st cs) { origins = o; trackers = ts }) same_origins
      ∙ ap (λ c. record (with_list st c) { trackers = ts }) same_clauses
      ∙ ap (λ t. record st { trackers = t }) same_trackers,
)

-- a store in which a score was to be raised, by its scores and its requires clauses
pub bumped_or_same : {N S T E : Type 0} (st : Store N S) (name : N) (amount : ℕ) (scores : N →
    ℕ) {before requires : List RequiresClause} (result : Result T E)
    → st.requires ≡ before → requires ≡ before →
    OnOk result (scores ≡ bumped st.provider.same_name name amount st.scores) → OnErr result (scores ≡ st.scores)
    → OnOk result (record st { scores = scores; requires = requires } ≡ with_bumped st name amount)
    × OnErr result (record st { scores = scores; requires = requires } ≡ st)
bumped_or_same st name amount scores {before} {requires} (Ok x) now same raised left = (
  ap (λ s. record st { scores = s; requires = requires }) raised
      ∙ ap (λ rs. record (with_bumped st name amount) { requires = rs }) (same ∙ sym now),
  tt,
)
bumped_or_same st name amount scores {before} {requires} (Err e) now same raised left = (
  tt,
  ap (λ s. record st { scores = s; requires = requires }) left
      ∙ ap (λ rs. record st { requires = rs }) (same ∙ sym now),
)
