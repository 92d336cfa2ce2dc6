-- Hints that are marked in turn.
use Rattle.std.proofs.Common.{◌≡◌, Bool, true, false, not, ◌||◌, List, [], ◌∷◌, ◌++◌, ◌∙◌, ap, refl, sym}
use Rattle.std.specs.Prelude.{◌&&◌}
use Rattle.std.proofs.lemmas.List.Folds.{list_any-append}
use Rattle.solver_cache.proofs.Words.{list_any, with_hints}

either : (h a b n : Bool) → ((h || (a && n)) || (b && n)) ≡ (h || ((a || b) && n))
either true a b n = refl
either false true true true = refl
either false true true false = refl
either false true false true = refl
either false true false false = refl
either false false b n = refl

or_nothing : (h : Bool) → h ≡ (h || false)
or_nothing true = refl
or_nothing false = refl

wider : (h a b n : Bool) → (h || (a && n)) ≡ true → (h || ((a || b) && n)) ≡ true
wider true a b n e = refl
wider false true b n e = e
wider false false b n e = cc

or_kept : (h b : Bool) → h ≡ true → (h || b) ≡ true
or_kept true b e = refl
or_kept false b e = cc

module _ {S : Type 0} (same : S → S → Bool) (is_large : S → Bool) (hinted : S → Bool) where
  -- no hints
  pub no_hints : (s : S) → hinted s ≡ with_hints same is_large hinted [] s
  no_hints s = or_nothing (hinted s)

  -- one hint more
  pub one_hint : (now later : S → Bool) (done : List S) (x : S) →
      ((s : S) → now s ≡ with_hints same is_large hinted done s)
      → ((s : S) → later s ≡ with_hints same is_large now (x ∷ []) s) → (s : S) →
      later s ≡ with_hints same is_large hinted (done ++ x ∷ []) s
  one_hint now later done x is next s =
      next s ∙ ap (λ b. b || (list_any (same s) (x ∷ []) && not (is_large s))) (is s)
      ∙ either (hinted s) (list_any (same s) done) (list_any (same s) (x ∷ [])) (not (is_large s))
      ∙ ap (λ b. hinted s || (b && not (is_large s))) (sym (list_any-append (same s) done (x ∷ [])))

  -- what was marked is marked
  pub still_marked : (hints : List S) (s : S) → hinted s ≡ true → with_hints same is_large hinted hints s ≡ true
  still_marked hints s h = or_kept (hinted s) _ h

  -- what some hints mark, more hints mark
  pub more_hints : (hints more : List S) (s : S) → with_hints same is_large hinted hints s ≡ true →
      with_hints same is_large hinted (hints ++ more) s ≡ true
  more_hints hints more s h =
      ap (λ b. hinted s || (b && not (is_large s))) (list_any-append (same s) hints more)
      ∙ wider (hinted s) (list_any (same s) hints) (list_any (same s) more) (not (is_large s)) h
