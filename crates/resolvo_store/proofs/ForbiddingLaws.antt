-- What is tracked in a sound store forbids two of a name. N are the names, S the solvables.
use Rattle.std.proofs.Common.{◌≡◌, ℕ, suc, Bool, true, false, cond, not, List, [], ◌∷◌, ◌++◌, length, refl, sym, ap}
use Rattle.std.proofs.Common.{◌∙◌, arith}
use Rattle.std.specs.Prelude.{◌||◌, nat_eq, if◌then◌else◌}
use Rattle.std.proofs.lemmas.Bool.{eqb-true}
use Rattle.std.proofs.lemmas.Bool.Decides.{nat_tests}
use Rattle.at_most_once.proofs.CallerLaws.{encodes}
use Rattle.resolvo_store.proofs.Words.{AllByRecursion, beq, BitClause, bits, bits_of, Clause, filter, flat_map}
use Rattle.resolvo_store.proofs.Words.{ForbidsTwo, is_forbidding, is_satisfied, IsEquivalence, IsSound, Neg, Pos, Store}
use Rattle.clauses.specs.declared.clause.Clause.TheVariants as Kind
use Rattle.at_most_once.specs.AtMostOne as one

-- equality of numbers is an equivalence
numbers : IsEquivalence nat_eq
numbers = record {
  refl = λ a. (let e : nat_eq a a ≡ true = grind (arith, nat_tests) in e);
  symm = λ a b. (let e : nat_eq a b ≡ nat_eq b a = grind (arith, nat_tests) in e);
  congr = λ a b c h. ap (λ x. nat_eq x c) (eqb-true a b h);
}

-- a clause of a variable and a helper is met by its bit
met_true : (a b : Bool) → (not a || (b || false)) ≡ (not a || beq b true)
met_true true true = refl
met_true true false = refl
met_true false b = refl

met_false : (a b : Bool) → (not a || (not b || false)) ≡ (not a || beq b false)
met_false true true = refl
met_false true false = refl
met_false false b = refl

module _ {N S : Type 0} (st : Store N S) (named : N → Bool) (a : ℕ → Bool) where
  abbrev AreMet : List (Clause N) → Type 0
  AreMet cs = AllByRecursion (λ c. is_satisfied st a c ≡ true) (filter (is_forbidding named) cs)

  abbrev BitsMet : List (Clause N) → Type 0
  BitsMet cs = one.SatisfiesAll one.is_satisfied a (flat_map (bits_of named) cs)

  -- the clauses are met, and so are the bits that are read back of them
  pub bits_met : (cs : List (Clause N)) → AreMet cs → BitsMet cs
  bits_met [] met = tt
  bits_met (Kind.ForbidMultipleInstances x (Pos h) n ∷ cs) met = by_name (named n) (bits_met cs) met
    where
      by_name : (b : Bool) → (AreMet cs → BitsMet cs) →
          AllByRecursion (λ c. is_satisfied st a c ≡ true) (cond b
          (Kind.ForbidMultipleInstances x (Pos h) n ∷ filter (is_forbidding named) cs)
          (filter (is_forbidding named) cs))
          → one.SatisfiesAll one.is_satisfied a ((if b then (x, h, true) ∷ [] else []) ++ flat_map (bits_of named) cs)
      by_name true later all = (sym (met_true (a x) (a h)) ∙ all.0, later all.1)
      by_name false later all = later all
  bits_met (Kind.ForbidMultipleInstances x (Neg h) n ∷ cs) met = by_name (named n) (bits_met cs) met
    where
      by_name : (b : Bool) → (AreMet cs → BitsMet cs) →
          AllByRecursion (λ c. is_satisfied st a c ≡ true) (cond b
          (Kind.ForbidMultipleInstances x (Neg h) n ∷ filter (is_forbidding named) cs)
          (filter (is_forbidding named) cs))
          → one.SatisfiesAll one.is_satisfied a ((if b then (x, h, false) ∷ [] else []) ++ flat_map (bits_of named) cs)
      by_name true later all = (sym (met_false (a x) (a h)) ∙ all.0, later all.1)
      by_name false later all = later all
  bits_met (_ ∷ cs) met = bits_met cs met

  -- and the other way round
  pub clauses_met : (cs : List (Clause N)) → BitsMet cs → AreMet cs
  clauses_met [] met = tt
  clauses_met (Kind.ForbidMultipleInstances x (Pos h) n ∷ cs) met = by_name (named n) (clauses_met cs) met
    where
      by_name : (b : Bool) → (BitsMet cs → AreMet cs) →
          one.SatisfiesAll one.is_satisfied a ((if b then (x, h, true) ∷ [] else []) ++ flat_map (bits_of named) cs)
          → AllByRecursion (λ c. is_satisfied st a c ≡ true) (cond b
          (Kind.ForbidMultipleInstances x (Pos h) n ∷ filter (is_forbidding named) cs)
          (filter (is_forbidding named) cs))
      by_name true later all = (met_true (a x) (a h) ∙ all.0, later all.1)
      by_name false later all = later all
  clauses_met (Kind.ForbidMultipleInstances x (Neg h) n ∷ cs) met = by_name (named n) (clauses_met cs) met
    where
      by_name : (b : Bool) → (BitsMet cs → AreMet cs) →
          one.SatisfiesAll one.is_satisfied a ((if b then (x, h, false) ∷ [] else []) ++ flat_map (bits_of named) cs)
          → AllByRecursion (λ c. is_satisfied st a c ≡ true) (cond b
          (Kind.ForbidMultipleInstances x (Neg h) n ∷ filter (is_forbidding named) cs)
          (filter (is_forbidding named) cs))
      by_name true later all = (met_false (a x) (a h) ∙ all.0, later all.1)
      by_name false later all = later all
  clauses_met (_ ∷ cs) met = clauses_met cs met

-- each of the clauses is one of a variable and a helper
one_each : {N : Type 0} (named : N → Bool) (cs : List (Clause N)) →
    length (filter (is_forbidding named) cs) ≡ length (flat_map (bits_of named) cs)
one_each named [] = refl
one_each named (Kind.ForbidMultipleInstances x (Pos h) n ∷ cs) = by_name (named n) (one_each named cs)
  where
    by_name : (b : Bool) → length (filter (is_forbidding named) cs) ≡ length (flat_map (bits_of named) cs)
        → length (cond b (Kind.ForbidMultipleInstances x (Pos h) n ∷ filter (is_forbidding named) cs)
        (filter (is_forbidding named) cs))
        ≡ length ((if b then (x, h, true) ∷ [] else []) ++ flat_map (bits_of named) cs)
    by_name true e = ap suc e
    by_name false e = e
one_each named (Kind.ForbidMultipleInstances x (Neg h) n ∷ cs) = by_name (named n) (one_each named cs)
  where
    by_name : (b : Bool) → length (filter (is_forbidding named) cs) ≡ length (flat_map (bits_of named) cs)
        → length (cond b (Kind.ForbidMultipleInstances x (Neg h) n ∷ filter (is_forbidding named) cs)
        (filter (is_forbidding named) cs))
        ≡ length ((if b then (x, h, false) ∷ [] else []) ++ flat_map (bits_of named) cs)
    by_name true e = ap suc e
    by_name false e = e
one_each named (_ ∷ cs) = one_each named cs

-- in a sound store at most one variable of each name can be true
pub forbids_two : {N S : Type 0} (st : Store N S) → IsSound st → (name : N) → ForbidsTwo st name
forbids_two st sound name =
    let named = st.provider.same_name name in
    let says = (encodes nat_eq numbers (st.trackers name) (bits st name) (sound.tracked name).adds).says in
    record {
      apart = says.apart;
      at_most_one = λ x. (
        λ can. (says.at_most_one x).0 (can.0, can.1, bits_met st named can.0 st.clauses can.2),
        λ most. (let can = (says.at_most_one x).1 most in (can.0, can.1, clauses_met st named can.0 st.clauses can.2)),
      );
      count = one_each named st.clauses ∙ says.count;
      least = says.least;
    }
