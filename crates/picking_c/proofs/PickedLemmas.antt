-- What a picked answer names.
use Rattle.std.proofs.Common.{◌≡◌, ◌∙◌, ℕ, List, [], ◌∷◌, ◌++◌, refl, ap, true, false}
use Rattle.std.specs.Prelude.{codes, decimal, if◌then◌else◌, nat_lt}
use Rattle.call_texts.specs.Versions.{Named, text_of, versions_in}
use Rattle.call_texts.proofs.NamedLemmas.{NamesNone, best_names_none, names_these, nothing_names_none}
use Rattle.call_texts.proofs.NamedLemmas.{lines_of as their_lines}
use Rattle.example_answers.specs.Answers.{best_line, header, lines_of}
use Rattle.picking_c.specs.Calls.{TellsPicked}

same_lines : (named : List Named) → lines_of text_of named ≡ their_lines named
same_lines [] = refl
same_lines (n ∷ rest) = ap (λ (lines : List ℕ). text_of n ++ (codes "\n" ++ lines)) (same_lines rest)

no_version_behind : (best_up_to wishes : ℕ) → NamesNone (best_line best_up_to wishes)
no_version_behind best_up_to wishes =
    let more = decimal best_up_to ++ (codes " of " ++ (decimal wishes ++ codes " wishes\n")) in
    elim (nat_lt best_up_to wishes) as (λ b. NamesNone (if b then codes "the best by the first " ++ more else []))
    [ true ↦ best_names_none more | false ↦ nothing_names_none ]

pub tells_picked : (answer : List ℕ) → TellsPicked answer (versions_in answer)
tells_picked answer named best_up_to wishes are is =
    let best = best_line best_up_to wishes in
    names_these answer named best are (no_version_behind best_up_to wishes)
    (is ∙ ap (λ (lines : List ℕ). header ++ (lines ++ best)) (same_lines named))
