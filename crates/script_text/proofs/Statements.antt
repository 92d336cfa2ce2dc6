-- What a line says is what was read of it says.
use Rattle.std.specs.Prelude.{if◌then◌else◌}
use Rattle.std.proofs.Common.{◌≡◌, ℕ, List, [], ◌∷◌, Option, refl, sym, ap, ◌∙◌}
use Rattle.script_text.specs.Statements.{MeansWords, IsSkipped, says, words_say, line_says, statement_says}
use Rattle.script_text.specs.Words.{words}
use Rattle.script_text.specs.declared.statement.Line.{Line}
use Rattle.script_text.specs.declared.statement.Line.TheVariants.{Skipped, Unreadable, Says}
use Rattle.script_text.specs.declared.statement.Statement.{Statement}

module _ {T : Type 0} (read : List ℕ → List (List ℕ) → Option T) where
  words_skipped : (ws : List (List ℕ)) → IsSkipped ws → Skipped ≡ words_say read ws
  words_skipped [] h = refl
  words_skipped (word ∷ ws) h = ap (λ comment. if comment then Skipped else says read (read word ws)) (sym h)

  -- what was read of a line says what the line says
  pub meant_by : (line : List ℕ) (said : Line Statement) → MeansWords line said →
      statement_says read said ≡ line_says read line
  meant_by line Unreadable h = ap (λ printed. if printed then words_say read (words line) else Unreadable) (sym h)
  meant_by line Skipped h =
      words_skipped (words line) h.1 ∙ ap (λ printed. if printed then words_say read (words line) else Unreadable)
      (sym h.0)
  meant_by line (Says s) h =
      ap (λ comment. if comment then Skipped else says read (read s.keyword.now (words s.rest.now))) (sym h.1)
      ∙ ap (words_say read) (sym h.2)
      ∙ ap (λ printed. if printed then words_say read (words line) else Unreadable) (sym h.0)
