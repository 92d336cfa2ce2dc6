-- Words are read as literals exactly where each of them is one.
use Rattle.std.proofs.Common.{◌≡◌, ◌∙◌, ℕ, true, false, List, [], ◌∷◌, ◌++◌, Some, refl}
use Rattle.std.specs.Prelude.{Option, None, ◌&&◌, is_some, option_and_then}
use Rattle.decisions.specs.Literals.{Lit}
use Rattle.scripts.specs.Commands.{literal_of, are_literals, with_literals}

literals_read : (ls : List Lit) (ws : List (List ℕ)) → is_some (with_literals ls ws) ≡ are_literals ws
literals_read ls [] = refl
literals_read ls (word ∷ ws) =
    elim (literal_of word) as (λ o. is_some (option_and_then (λ l. with_literals (ls ++ l ∷ []) ws) o)
    ≡ (is_some o && are_literals ws))
    [ None ↦ refl | Some l ↦ literals_read (ls ++ l ∷ []) ws ]

none_there : (o : Option (List Lit)) → is_some o ≡ false → o ≡ None
none_there None h = refl
none_there (Some ls) h = let no : true ≡ false = h in cc

pub some_literals : (ws : List (List ℕ)) → are_literals ws ≡ true → is_some (with_literals [] ws) ≡ true
some_literals ws h = literals_read [] ws ∙ h

pub none_literals : (ws : List (List ℕ)) → are_literals ws ≡ false → with_literals [] ws ≡ None
none_literals ws h = none_there (with_literals [] ws) (literals_read [] ws ∙ h)
