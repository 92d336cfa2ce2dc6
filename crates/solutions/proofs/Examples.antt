-- Solutions in a small ecosystem, and what is none. The solvable 0 is an app, 1 and 2 are versions of a library, 3 is a
-- plugin. The app needs the library, and the plugin where version 2 of the library is picked; it allows no other
-- version.
use Rattle.std.proofs.Common.{◌≡◌, ◌∙◌, ◌||◌, ℕ, zero, suc, Bool, true, false, List, [], ◌∷◌, refl, Option, None}
use Rattle.std.proofs.Common.{Some, if◌then◌else◌, ◌==◌, nat_eq, nat_lt, true≢false, ap, sym, lit<, arith}
use Rattle.std.proofs.lemmas.List.Elements.{All-nil, All-cons, All-head, All-tail}
use Rattle.solutions.proofs.Words.{Alternative, AreEnough, AreNeedsSatisfied, ConditionalRequirement, is_allowed}
use Rattle.solutions.proofs.Words.{is_among, IsDistinct, IsMet, IsSatisfied, IsSolution, IsSpare, Known, Leaf, leaf}
use Rattle.solutions.proofs.Words.{Needs, NoneSpare, NoReasonSpare, Provider, rank, Reason, Single, StringId}
use Rattle.solutions.proofs.Words.{VersionSetId}
use Rattle.solutions.proofs.MeetingLemmas.{not_enough_without}
use Rattle.resolvo_pool.specs.Types.Condition.TheVariants as Cond
use Rattle.solutions.specs.declared.reason.Reason.TheVariants as R

abbrev set : ℕ → VersionSetId
set n = record { 0 = n }

-- a requirement of a version set, always, and under a condition
abbrev pub always : ℕ → ConditionalRequirement
always n = record { condition = None; requirement = Single (set n) }

abbrev under : ℕ → ℕ → ConditionalRequirement
under condition n = record { condition = Some condition; requirement = Single (set n) }

-- the version sets hold 0 the app, 1 each version of the library, 2 its version 2, 3 the plugin
abbrev package_of_set : ℕ → ℕ
package_of_set v = if v == 0 then 0 else (if v == 3 then 2 else 1)

abbrev needs : ℕ → Needs
needs s = if s == 0 then Known (always 1 ∷ under 0 3 ∷ []) (set 2 ∷ []) else Known [] []

-- with this version of the library locked, if any, and these excluded
abbrev ecosystem_with : Option ℕ → List (ℕ × StringId) → Provider ℕ ℕ
ecosystem_with locked excluded = record {
  same_name = nat_eq;
  same_solvable = nat_eq;
  is_large_name = λ _. false;
  is_large_solvable = λ _. false;
  is_large_hint = λ _. false;
  are_names_many = false;
  universe = record {
    knows_string = λ _. false;
    knows_name = λ n. nat_lt n 3;
    knows_solvable = λ s. nat_lt s 4;
    knows_set = λ v. nat_lt v.0 4;
    knows_union = λ _. false;
    knows_condition = λ c. nat_lt c 1;
    solvable_name = λ s. if s == 0 then 0 else (if s == 3 then 2 else 1);
    set_name = λ v. package_of_set v.0;
    union_sets = λ _. [];
    condition = λ _. Cond.Requirement (set 2);
  };
  answers = record {
    candidates = λ n. if n == 0 then 0 ∷ [] else (if n == 1 then 1 ∷ 2 ∷ [] else 3 ∷ []);
    matches = λ v s. if v.0 == 2 then s == 2 else true;
    favored = λ _. None;
    locked = λ n. if n == 1 then locked else None;
    excluded = λ n. if n == 1 then excluded else [];
    order = λ solvables. solvables;
    needs = needs;
  };
}

abbrev pub ecosystem : Provider ℕ ℕ
ecosystem = ecosystem_with None []

abbrev pub requested : List ConditionalRequirement
requested = always 0 ∷ []

-- the app, version 2 and the plugin are a solution
pub all_three : IsSolution ecosystem requested (0 ∷ 2 ∷ 3 ∷ [])
unfolding IsDistinct
all_three =
    let has = is_among ecosystem (0 ∷ 2 ∷ 3 ∷ []) in
    let is_satisfied = IsSatisfied ecosystem has in
    let are_needs_satisfied = λ (s : ℕ). AreNeedsSatisfied ecosystem has (needs s) in
    let is_known = λ (s : ℕ). nat_lt s 4 ≡ true in
    let allows = λ (s : ℕ). is_allowed ecosystem s ≡ true in
    record {
      known = All-cons is_known 0 (2 ∷ 3 ∷ []) refl (All-cons is_known 2 (3 ∷ []) refl
          (All-cons is_known 3 [] refl (All-nil is_known)));
      allowed = All-cons allows 0 (2 ∷ 3 ∷ []) refl (All-cons allows 2 (3 ∷ []) refl
          (All-cons allows 3 [] refl (All-nil allows)));
      one_a_package = ((refl, (refl, tt)), ((refl, tt), (tt, tt)));
      satisfied = All-cons is_satisfied (always 0) [] refl (All-nil is_satisfied);
      needs_satisfied = All-cons are_needs_satisfied 0 (2 ∷ 3 ∷ []) (
        All-cons is_satisfied (always 1) (under 0 3 ∷ []) refl
            (All-cons is_satisfied (under 0 3) [] (refl, λ _. refl) (All-nil is_satisfied)),
        refl,
      )
          (All-cons are_needs_satisfied 2 (3 ∷ []) (All-nil is_satisfied, refl)
          (All-cons are_needs_satisfied 3 [] (All-nil is_satisfied, refl) (All-nil are_needs_satisfied)));
    }

-- without the plugin they aren't, since version 2 is picked
pub no_plugin : IsSolution ecosystem requested (0 ∷ 2 ∷ []) → ⊥
no_plugin s =
    let has = is_among ecosystem (0 ∷ 2 ∷ []) in
    let is_satisfied = IsSatisfied ecosystem has in
    let app = All-head (λ s. AreNeedsSatisfied ecosystem has (needs s)) 0 (2 ∷ []) s.needs_satisfied in
    let plugin = All-head is_satisfied (under 0 3) [] (All-tail is_satisfied (always 1) (under 0 3 ∷ []) app.0) in
    true≢false (sym (plugin.1 (Leaf (set 2), leaf (set 2) refl, refl)))

-- version 1 is none that the app allows
pub old_version : IsSolution ecosystem requested (0 ∷ 1 ∷ []) → ⊥
old_version s =
    let has = is_among ecosystem (0 ∷ 1 ∷ []) in
    true≢false (sym (All-head (λ s. AreNeedsSatisfied ecosystem has (needs s)) 0 (1 ∷ []) s.needs_satisfied).1)

-- version 2 isn't allowed where the library excludes it
pub excluded_version : IsSolution (ecosystem_with None ((2, record { 0 = 0 }) ∷ [])) requested (0 ∷ 2 ∷ 3 ∷ []) → ⊥
excluded_version s =
    let allows = λ (s : ℕ). is_allowed (ecosystem_with None ((2, record { 0 = 0 }) ∷ [])) s ≡ true in
    true≢false (sym (All-head allows 2 (3 ∷ []) (All-tail allows 0 (2 ∷ 3 ∷ []) s.allowed)))

-- nor where version 1 is locked
pub locked_out_version : IsSolution (ecosystem_with (Some 1) []) requested (0 ∷ 2 ∷ 3 ∷ []) → ⊥
locked_out_version s =
    let allows = λ (s : ℕ). is_allowed (ecosystem_with (Some 1) []) s ≡ true in
    true≢false (sym (All-head allows 2 (3 ∷ []) (All-tail allows 0 (2 ∷ 3 ∷ []) s.allowed)))

-- no two versions
pub both_versions : IsSolution ecosystem requested (1 ∷ 2 ∷ []) → ⊥
unfolding IsDistinct
both_versions s = true≢false s.one_a_package.0.0

-- the app is requested
pub nothing : IsSolution ecosystem requested [] → ⊥
nothing s = true≢false (sym (All-head (IsSatisfied ecosystem (is_among ecosystem [])) (always 0) [] s.satisfied))

abbrev and_version_1 : List ℕ
and_version_1 = 0 ∷ 2 ∷ 3 ∷ 1 ∷ []

-- another version beside a solution can be left out
pub version_1_spare : NoneSpare ecosystem requested [] and_version_1 → ⊥
version_1_spare none =
    none 3 1 (omega arith) (
      all_three,
      All-nil (λ (wish : List (Alternative ℕ)). rank ecosystem and_version_1 wish
          ≡ rank ecosystem (0 ∷ 2 ∷ 3 ∷ []) wish),
    )

-- but not where it is wished
abbrev wish : List (Alternative ℕ)
wish = record { solvable = 1; is_picked = true } ∷ []

pub version_1_wished : IsSpare ecosystem requested (wish ∷ []) and_version_1 1 → ⊥
version_1_wished spare =
    let same : 0 ≡ 1 = All-head (λ (wish : List (Alternative ℕ)). rank ecosystem and_version_1 wish
    ≡ rank ecosystem (0 ∷ 2 ∷ 3 ∷ []) wish) wish [] spare.1 in
    absurd (true≢false (ap (λ (n : ℕ). n == 0) same))

-- reasons: the app is requested, and excluded. Each of the two is needed
abbrev app_requested : Reason ℕ ℕ
app_requested = R.Needs None (always 0)

abbrev app_excluded : Reason ℕ ℕ
app_excluded = R.Excluded 0 (record { 0 = 0 })

abbrev two_reasons : List (Reason ℕ ℕ)
two_reasons = app_requested ∷ app_excluded ∷ []

pub both_needed : NoReasonSpare ecosystem two_reasons
both_needed zero below = ([], All-cons (IsMet ecosystem []) app_excluded [] refl (All-nil (IsMet ecosystem [])))
both_needed (suc zero) below = (
  0 ∷ [],
  All-cons (IsMet ecosystem (0 ∷ [])) app_requested [] refl (All-nil (IsMet ecosystem (0 ∷ []))),
)
both_needed (suc (suc place)) below = absurd (omega arith)

pub both_enough : AreEnough ecosystem two_reasons
both_enough picked met =
    let asked = All-head (IsMet ecosystem picked) app_requested (app_excluded ∷ []) met in
    let barred = All-head (IsMet ecosystem picked) app_excluded []
    (All-tail (IsMet ecosystem picked) app_requested (app_excluded ∷ []) met) in
    true≢false (sym asked ∙ ap (λ (b : Bool). (b || false) || false) barred)

-- beside them, that at most one version of the library is picked is spare
pub library_spare : NoReasonSpare ecosystem (app_requested ∷ app_excluded ∷ R.OneVersion 1 ∷ []) → ⊥
library_spare none =
    not_enough_without ecosystem (app_requested ∷ app_excluded ∷ R.OneVersion 1 ∷ []) none 2 (lit< tt) both_enough
