-- When ids are left for answers.
use Rattle.std.proofs.Common.{◌≡◌, ℕ, ◌<◌, ◌^◌, Bool, true, false, leb, List, get_or, refl, true≢false, arith}
use Rattle.std.specs.Prelude.{◌&&◌, ◌||◌}
use Rattle.std.proofs.lemmas.Bool.Decides.{nat_tests}
use Rattle.std.proofs.lemmas.List.Folds.{list_any_none}
use Rattle.solver_cache.proofs.Words.{All, Cache, is_set_queried, IsCache, list_any, MayAnswer, Provider, VersionSetId}
use Rattle.solver_cache.proofs.CacheLemmas.{some_of, found_right}

-- only names that may be more than 2^32 use up all ids
pub used_up_by_many : (many large : Bool) (count : ℕ) → (many ≡ false → count < 2 ^ 32) →
    (leb (2 ^ 32) count || large) ≡ true
    → (large || (many && leb (2 ^ 32) count)) ≡ true
used_up_by_many many true count few h = refl
used_up_by_many true false count few h = by_test (leb (2 ^ 32) count) h
  where
    by_test : (b : Bool) → (b || false) ≡ true → b ≡ true
    by_test true e = refl
    by_test false e = e
used_up_by_many false false count few h =
    let below : leb (2 ^ 32) count ≡ false = grind (arith, nat_tests, few refl) in
    let no : true ≡ false = (let e : (leb (2 ^ 32) count || false) ≡ false = cc in cc) in
    absurd (true≢false no)

-- where none of two tests passes, the second doesn't
pub second_fails : (a b : Bool) → (a || b) ≡ false → b ≡ false
second_fails true b h = absurd (true≢false h)
second_fails false b h = h

module _ {D N S A H : Type 0} {may : MayAnswer N S A} (p : Provider N S) (c : Cache D N S A H) (is : IsCache p may c)
    (is_sameness : (a b : N) → p.same_name a b ≡ true → a ≡ b) where
  -- a name that was asked for isn't too large
  pub asked_fits : (v : VersionSetId) → is_set_queried p c v ≡ true → p.is_large_name (p.universe.set_name v) ≡ false
  asked_fits v queried =
      let n = p.universe.set_name v in
      let found = some_of _ queried in
      found_right p.same_name is_sameness (λ m answer. p.is_large_name m ≡ false) n found.0 c.candidates is.fits found.1

  -- nor is any of several
  pub all_asked_fit : (vs : List VersionSetId) → All (λ v. is_set_queried p c v ≡ true) vs →
      list_any (λ v. p.is_large_name (p.universe.set_name v)) vs ≡ false
  all_asked_fit vs queried = list_any_none (λ v. p.is_large_name (p.universe.set_name v)) vs
      (λ k d lt. asked_fits (get_or vs k d) (queried k d lt))
