-- Laws for callers that keep what a tracker appended.
use Rattle.std.proofs.Common.{◌≡◌, Bool, false, List, [], ◌++◌, Option, subst}
use Rattle.std.specs.Prelude.{if◌then◌else◌}
use Rattle.std.specs.Cmp.{IsEquivalence}
use Rattle.at_most_once.specs.AtMostOne.{Tracker, BitClause, Adds, more, IsAllowed, IsEncoding}
use Rattle.at_most_once.specs.AtMostOne.{is_tracked, with_variable, new_clauses, with_new}
use Rattle.at_most_once.proofs.AddLaws.{clause_count, has_enough}
use Rattle.at_most_once.proofs.EncodeLaws.{no_helpers, at_most_one, can_be_met}

-- an addition of a variable that is new
pub adds_new : {V : Type 0} (same : V → V → Bool) (t : Tracker V) {cs : List (BitClause V)} (h : Option V) (v : V) →
    is_tracked same t v ≡ false →
    Adds same t cs → IsAllowed same t h v → Adds same (with_new t h v) (cs ++ new_clauses t h v)
adds_new same t {cs} h v new adds asked =
    subst (λ b. Adds same (if b then t else with_new t h v) (cs ++ (if b then [] else new_clauses t h v))) new
    (more h v adds asked)

-- the clauses of any list of additions say it
pub encodes : {V : Type 0} (same : V → V → Bool) → IsEquivalence same → (t : Tracker V) (cs : List (BitClause V)) →
    Adds same t cs → IsEncoding same t cs
encodes same laws t cs adds = record {
  adds = adds;
  says = record {
    apart = no_helpers same laws t cs adds;
    at_most_one = λ x. (at_most_one same laws t cs adds x, can_be_met same laws t cs adds x);
    count = clause_count adds;
    least = has_enough adds;
  };
}

-- and so do those with one addition more, of a variable that is new
pub encodes_more : {V : Type 0} (same : V → V → Bool) → IsEquivalence same →
    (t t' t'' : Tracker V) (cs cs' : List (BitClause V)) (h : Option V) (v : V) →
    is_tracked same t v ≡ false → t' ≡ t → t'' ≡ with_variable same t' h v → cs' ≡ cs ++ new_clauses t' h v →
    IsEncoding same t cs → IsAllowed same t h v → IsEncoding same t'' cs'
encodes_more same laws t t' t'' cs cs' h v new kept tracked appended before asked =
    encodes same laws t'' cs' (rw (tracked, appended, kept)
    (subst (λ b. Adds same (with_variable same t h v) (cs ++ (if b then [] else new_clauses t h v))) new
    (more h v before.adds asked)))
