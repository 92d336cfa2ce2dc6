-- What is in a pool stays at its place as the pool grows.
use Rattle.std.proofs.Common.{◌∙◌, ◌≤◌, ◌+◌, ℕ, Bool, true, false, cond, List, [], ◌∷◌, ◌++◌, length, arith}
use Rattle.std.proofs.Common.{ap, refl, sym}
use Rattle.std.specs.Prelude.{bytes_eq}
use Rattle.std.proofs.lemmas.List.{append_assoc, append-nil, length-append}
use Rattle.debian_provider.proofs.Words.{has_same, interned, IsExtended, IsLater, Lists, same_set, Solvable}
use Rattle.debian_provider.proofs.Words.{VersionSetId, with_name, with_solvable, with_string, with_union}
use Rattle.debian_provider.proofs.Words.{with_version_set}

-- LISTS

pub extended_itself : {X : Type 0} (xs : List X) → IsExtended xs xs
extended_itself xs = ([], sym (append-nil xs))

pub extended_twice : {X : Type 0} (xs ys zs : List X) → IsExtended xs ys → IsExtended ys zs → IsExtended xs zs
extended_twice xs ys zs h k = (h.0 ++ k.0, k.1 ∙ ap (λ l. l ++ k.0) h.1 ∙ append_assoc xs h.0 k.0)

pub extended_longer : {X : Type 0} (xs ys : List X) → IsExtended xs ys → length xs ≤ length ys
extended_longer xs ys h = omega (arith, ap length h.1, length-append xs h.0)

extended_if : {X : Type 0} (found : Bool) (xs : List X) (x : X) → IsExtended xs (cond found xs (xs ++ x ∷ []))
extended_if true xs x = extended_itself xs
extended_if false xs x = (x ∷ [], refl)

pub extended_interned : {X : Type 0} (same : X → X → Bool) (xs : List X) (x : X) → IsExtended xs (interned same xs x)
extended_interned same xs x = extended_if (has_same same xs x) xs x

one_more : {X : Type 0} (found : Bool) (xs : List X) (x : X) → length (cond found xs (xs ++ x ∷ [])) ≤ length xs + 1
one_more true xs x = omega arith
one_more false xs x = omega (arith, length-append xs (x ∷ []))

pub interned_one_more : {X : Type 0} (same : X → X → Bool) (xs : List X) (x : X)
    → length (interned same xs x) ≤ length xs + 1
interned_one_more same xs x = one_more (has_same same xs x) xs x

-- POOLS

module _ {N VS V : Type 0} where
  pub later_itself : (p : Lists N VS V) → IsLater p p
  later_itself p = record {
    strings = extended_itself p.strings;
    names = extended_itself p.names;
    solvables = extended_itself p.solvables;
    version_sets = extended_itself p.version_sets;
    unions = extended_itself p.unions;
    conditions = extended_itself p.conditions;
  }

  pub later_twice : (p q r : Lists N VS V) → IsLater p q → IsLater q r → IsLater p r
  later_twice p q r h k = record {
    strings = extended_twice p.strings q.strings r.strings h.strings k.strings;
    names = extended_twice p.names q.names r.names h.names k.names;
    solvables = extended_twice p.solvables q.solvables r.solvables h.solvables k.solvables;
    version_sets = extended_twice p.version_sets q.version_sets r.version_sets h.version_sets k.version_sets;
    unions = extended_twice p.unions q.unions r.unions h.unions k.unions;
    conditions = extended_twice p.conditions q.conditions r.conditions h.conditions k.conditions;
  }

  pub later_with_solvable : (p : Lists N VS V) (solvable : Solvable V) → IsLater p (with_solvable p solvable)
  later_with_solvable p solvable = record {
    strings = extended_itself p.strings;
    names = extended_itself p.names;
    solvables = (solvable ∷ [], refl);
    version_sets = extended_itself p.version_sets;
    unions = extended_itself p.unions;
    conditions = extended_itself p.conditions;
  }

  pub later_with_string : (p : Lists N VS V) (text : List ℕ) → IsLater p (with_string p text)
  later_with_string p text = record {
    strings = extended_interned bytes_eq p.strings text;
    names = extended_itself p.names;
    solvables = extended_itself p.solvables;
    version_sets = extended_itself p.version_sets;
    unions = extended_itself p.unions;
    conditions = extended_itself p.conditions;
  }

  pub later_with_name : (p : Lists N VS V) (same : N → N → Bool) (name : N) → IsLater p (with_name p same name)
  later_with_name p same name = record {
    strings = extended_itself p.strings;
    names = extended_interned same p.names name;
    solvables = extended_itself p.solvables;
    version_sets = extended_itself p.version_sets;
    unions = extended_itself p.unions;
    conditions = extended_itself p.conditions;
  }

  pub later_with_version_set : (p : Lists N VS V) (same : VS → VS → Bool) (name : ℕ) (set : VS)
      → IsLater p (with_version_set p same name set)
  later_with_version_set p same name set = record {
    strings = extended_itself p.strings;
    names = extended_itself p.names;
    solvables = extended_itself p.solvables;
    version_sets = extended_interned (same_set same) p.version_sets (name, set);
    unions = extended_itself p.unions;
    conditions = extended_itself p.conditions;
  }

  pub later_with_union : (p : Lists N VS V) (sets : List VersionSetId) → IsLater p (with_union p sets)
  later_with_union p sets = record {
    strings = extended_itself p.strings;
    names = extended_itself p.names;
    solvables = extended_itself p.solvables;
    version_sets = extended_itself p.version_sets;
    unions = (sets ∷ [], refl);
    conditions = extended_itself p.conditions;
  }
