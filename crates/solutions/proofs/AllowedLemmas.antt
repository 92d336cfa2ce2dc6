-- Whether what is found of a package allows a solvable.
use Rattle.std.proofs.Common.{◌≡◌, ◌∙◌, Bool, false, not, ◌&&◌, List, Option, None, Some, ap, refl}
use Rattle.std.proofs.Math.Path.{fun_ext}
use Rattle.solutions.proofs.Words.{Candidates, candidates_of, excluded_of, is_allowed, is_among, is_excluded_by}
use Rattle.solutions.proofs.Words.{is_locked_out_by, list_any, locked_of, option_map, Provider, StringId, unwrap_or}

module _ {N S : Type 0} (p : Provider N S) (s : S) where
  -- these candidates allow it
  abbrev is_allowed_by : List S → List (S × StringId) → Option S → Bool
  is_allowed_by candidates excluded locked =
      is_among p candidates s && (not (is_excluded_by p excluded s) && not (is_locked_out_by p locked s))

  -- what is found of its package decides
  pub found_allows : {A : Type 0} (found : Option (Candidates S A)) (name : N) → name ≡ p.universe.solvable_name s
      → candidates_of found ≡ p.answers.candidates name → excluded_of found ≡ p.answers.excluded name →
      locked_of found ≡ p.answers.locked name
      → is_allowed_by (candidates_of found) (excluded_of found) (locked_of found) ≡ is_allowed p s
  found_allows found name named candidates excluded locked =
      ap (λ c. is_allowed_by c (excluded_of found) (locked_of found)) candidates
      ∙ ap (λ e. is_allowed_by (p.answers.candidates name) e (locked_of found)) excluded
      ∙ ap (is_allowed_by (p.answers.candidates name) (p.answers.excluded name)) locked
      ∙ ap (λ n. is_allowed_by (p.answers.candidates n) (p.answers.excluded n) (p.answers.locked n)) named

  module _ (flips : (t u : S) → p.same_solvable t u ≡ p.same_solvable u t) where
    locked_flipped : (locked : Option S) → unwrap_or (option_map (λ t. not (p.same_solvable t s)) locked) false
        ≡ is_locked_out_by p locked s
    locked_flipped None = refl
    locked_flipped (Some t) = ap not (flips t s)

    -- the same, where the solvable is compared from the other side
    pub flipped : (candidates : List S) (excluded : List (S × StringId)) (locked : Option S)
        → (list_any (λ t. p.same_solvable t s) candidates && (not (list_any (λ e. p.same_solvable e.0 s) excluded)
        && not (unwrap_or (option_map (λ t. not (p.same_solvable t s)) locked) false)))
        ≡ is_allowed_by candidates excluded locked
    flipped candidates excluded locked =
        let among = list_any (λ t. p.same_solvable t s) candidates in
        let out = unwrap_or (option_map (λ t. not (p.same_solvable t s)) locked) false in
        ap (λ f. list_any f candidates && (not (list_any (λ (e : S × StringId). p.same_solvable e.0 s) excluded)
        && not out)) (fun_ext (λ t. flips t s))
        ∙ ap (λ f. is_among p candidates s && (not (list_any f excluded) && not out))
        (fun_ext (λ (e : S × StringId). flips e.0 s))
        ∙ ap (λ b. is_among p candidates s && (not (is_excluded_by p excluded s) && not b)) (locked_flipped locked)
