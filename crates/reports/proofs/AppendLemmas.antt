-- What is appended in turn.
use Rattle.std.proofs.Common.{◌≡◌, ◌∙◌, ℕ, List, [], ◌++◌, ap, append_assoc, sym}
use Rattle.std.proofs.lemmas.List.{append-nil}

pub in_turn : (old between new first second : List ℕ) → between ≡ old ++ first → new ≡ between ++ second
    → new ≡ old ++ (first ++ second)
in_turn old between new first second begun ended =
    ended ∙ ap (λ text. text ++ second) begun ∙ append_assoc old first second

-- what is said is this text
pub as_said : (old new said text : List ℕ) → new ≡ old ++ said → said ≡ text → new ≡ old ++ text
as_said old new said text appended is = appended ∙ ap (λ t. old ++ t) is

-- there is nothing to say
pub nothing_said : (old text : List ℕ) → text ≡ [] → old ≡ old ++ text
nothing_said old text none = sym (ap (λ t. old ++ t) none ∙ append-nil old)
