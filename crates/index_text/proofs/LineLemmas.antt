-- The lines of a text, one by one.
use Rattle.std.proofs.Common.{◌≡◌, ◌∙◌, ℕ, ◌+◌, Bool, true, false, ◌&&◌, List, [], ◌∷◌, ◌++◌, Option, None, Some}
use Rattle.std.proofs.Common.{refl, ap, sym}
use Rattle.std.specs.Prelude.{if◌then◌else◌, ◌==◌, ⊤}
use Rattle.std.specs.List.{list_all}
use Rattle.std.proofs.lemmas.List.Folds.{list_all-append}
use Rattle.index_text.specs.Indexes.{NumberedWords, words_in}
use Rattle.index_text.specs.Printed.{is_said_printed, plain_said}
use Rattle.script_text.proofs.Printing.{both}
use Rattle.script_text.specs.Lines.{is_printed, IsPrinted}
use Rattle.script_text.specs.Statements.{MeansWords}
use Rattle.script_text.specs.Words.{words, words_from, begun_word}
use Rattle.script_text.specs.declared.statement.Line.{Line as TextLine}
use Rattle.script_text.specs.declared.statement.Line.TheVariants.{Skipped, Unreadable, Says}
use Rattle.script_text.specs.declared.statement.Statement.{Statement}

abbrev pub are_printed : List (List ℕ) → Bool
are_printed words = list_all (list_all is_printed) words

and_true : (a b : Bool) → a ≡ true → b ≡ true → (a && b) ≡ true
and_true a b h k = ap (λ x. x && b) h ∙ k

begun_printed : (begun : List ℕ) → IsPrinted begun → are_printed (begun_word begun) ≡ true
begun_printed [] h = refl
begun_printed (b ∷ begun) h = and_true (list_all is_printed (b ∷ begun)) true h refl

at_byte : (begun : List ℕ) (b : ℕ) (ended others : List (List ℕ)) (blank : Bool) → IsPrinted begun
    → are_printed ended ≡ true → are_printed others ≡ true
    → are_printed (if blank then begun_word begun ++ ended else others) ≡ true
at_byte begun b ended others true h e o =
    list_all-append (list_all is_printed) (begun_word begun) ended ∙ and_true _ _ (begun_printed begun h) e
at_byte begun b ended others false h e o = o

one_more : (begun : List ℕ) (b : ℕ) → IsPrinted begun → is_printed b ≡ true → IsPrinted (begun ++ b ∷ [])
one_more begun b h k = list_all-append is_printed begun (b ∷ []) ∙ and_true _ _ h (and_true (is_printed b) true k refl)

-- of printed bytes the words are printed
words_printed : (begun line : List ℕ) → IsPrinted begun → IsPrinted line → are_printed (words_from begun line) ≡ true
words_printed begun [] h k = begun_printed begun h
words_printed begun (b ∷ line) h k =
    at_byte begun b (words_from [] line) (words_from (begun ++ b ∷ []) line) (b == 32) h
    (words_printed [] line refl (both (is_printed b) _ k).1)
    (words_printed (begun ++ b ∷ []) line (one_more begun b h (both (is_printed b) _ k).0) (both (is_printed b) _ k).1)

abbrev pub IsKeywordPrinted : TextLine Statement → Type 0
IsKeywordPrinted (Says said) = IsPrinted said.keyword.now
IsKeywordPrinted _ = ⊤

-- the first word of a line is printed, as the line is
pub keyword_printed : (line : List ℕ) (said : TextLine Statement) → MeansWords line said → IsKeywordPrinted said
keyword_printed line Skipped h = (cc)
keyword_printed line Unreadable h = (cc)
keyword_printed line (Says s) h = (both _ _ (sym (ap are_printed h.2) ∙ words_printed [] line refl h.0)).0

pub said_words : (line : List ℕ) (s : Statement) → MeansWords line (Says s) → words_in line ≡ plain_said (Some s)
said_words line s h = ap (λ p. if p then Some (words line) else None) h.0 ∙ ap Some h.2

-- and they are printed
pub said_printed : (line : List ℕ) (s : Statement) → MeansWords line (Says s) → IsPrinted s.rest.now
    → is_said_printed (Some s) ≡ true
said_printed line s means rest = and_true _ _ (keyword_printed line (Says s) means) rest

-- the line of this number before others, if it says something
abbrev pub before : Option NumberedWords → List NumberedWords → List NumberedWords
before None rest = rest
before (Some line) rest = line ∷ rest
