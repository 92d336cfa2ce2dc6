-- What is in the pool stays in it.
use Rattle.std.proofs.Common.{◌≡◌, ℕ, zero, suc, ◌<◌, ◌≤◌, Bool, true, false, cond}
use Rattle.std.proofs.Common.{List, [], ◌∷◌, ◌++◌, length, arith}
use Rattle.std.proofs.lemmas.Bool.{lt-ltb, ltb-true}
use Rattle.std.proofs.lemmas.List.{length-append}
use Rattle.std.proofs.lemmas.List.Elements.{All-nil, All-push}
use Rattle.debian_provider.proofs.Words.{AreHere, AreKnown, AreSetsHere, has_same, Ids, interned, nat_lt, Vec}
use Rattle.debian_provider.proofs.Words.{VersionSetId}

pub here_still : (pool after : Ids) (solvables : List ℕ) → length pool.solvables ≤ length after.solvables
    → AreHere pool solvables → AreHere after solvables
here_still pool after solvables longer here k d lt =
    lt-ltb _ _ (omega (arith, ltb-true _ _ (here k d lt), longer))

pub here_pushed : (pool : Ids) (solvables : List ℕ) (s : ℕ) → AreHere pool solvables → s < length pool.solvables
    → AreHere pool (solvables ++ s ∷ [])
here_pushed pool solvables s here lt =
    All-push (λ x. nat_lt x (length pool.solvables) ≡ true) solvables s here (lt-ltb _ _ lt)

module _ {A : Type 0} where
  pub known_still : (pool after : Ids) (versions : List (Vec ℕ A)) → length pool.solvables ≤ length after.solvables
      → AreKnown pool versions → AreKnown after versions
  known_still pool after versions longer known name = here_still pool after _ longer (known name)

  pub known_pushed : (pool : Ids) (versions : List (Vec ℕ A)) (new : Vec ℕ A) → AreKnown pool versions
      → AreHere pool new.items → AreKnown pool (versions ++ new ∷ [])
  known_pushed pool [] new known here zero = here
  known_pushed pool [] new known here (suc n) = All-nil (λ s. nat_lt s (length pool.solvables) ≡ true)
  known_pushed pool (v ∷ vs) new known here zero = known zero
  known_pushed pool (v ∷ vs) new known here (suc n) = known_pushed pool vs new (λ m. known (suc m)) here n

  -- if they were pushed
  pub known_if_pushed : (pool : Ids) (pushed : Bool) (versions : List (Vec ℕ A)) (new : Vec ℕ A) → AreKnown pool
      versions
      → AreHere pool new.items → AreKnown pool (cond pushed (versions ++ new ∷ []) versions)
  known_if_pushed pool true versions new known here = known_pushed pool versions new known here
  known_if_pushed pool false versions new known here = known

longer : {X : Type 0} (found : Bool) (xs : List X) (x : X) → length xs ≤ length (cond found xs (xs ++ x ∷ []))
longer true xs x = omega arith
longer false xs x = omega (arith, length-append xs (x ∷ []))

pub interned_longer : {X : Type 0} (same : X → X → Bool) (xs : List X) (x : X)
    → length xs ≤ length (interned same xs x)
interned_longer same xs x = longer (has_same same xs x) xs x

-- the version sets that were in the pool are
pub sets_still : (pool after : Ids) (sets : List VersionSetId) → length pool.version_sets ≤ length after.version_sets
    → AreSetsHere pool sets → AreSetsHere after sets
sets_still pool after sets longer here k d lt = omega (arith, here k d lt, longer)

pub sets_pushed : (pool : Ids) (sets : List VersionSetId) (v : VersionSetId) → AreSetsHere pool sets
    → v.0 < length pool.version_sets → AreSetsHere pool (sets ++ v ∷ [])
sets_pushed pool sets v here lt = All-push (λ (x : VersionSetId). x.0 < length pool.version_sets) sets v here lt
