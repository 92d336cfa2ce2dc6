-- What has a line in an answer is named by it.
use Rattle.std.proofs.Common.{◌≡◌, ◌∙◌, ℕ, ◌+◌, ◌==◌, false, List, [], ◌∷◌, ◌++◌, Some, length, refl, ap, sym}
use Rattle.std.proofs.Common.{append_assoc}
use Rattle.std.specs.Prelude.{All, codes}
use Rattle.std.specs.List.{slice_split}
use Rattle.std.proofs.lemmas.List.Elements.{All-append, All-cons, All-head, All-tail}
use Rattle.std.proofs.lemmas.List.Splits.{slice_split_at, slice_split_none}
use Rattle.call_texts.specs.Versions.{version_at, versions_from, versions_in, Named, AreWords, text_of}
use Rattle.call_texts.specs.Versions.{place_of, places_from}
use Rattle.call_texts.specs.declared.versions.Version.{Version}
use Rattle.call_texts.proofs.VersionLemmas.{version_first, some_part}

-- a text whose first line names no version
abbrev pub NamesNone : List ℕ → Type 0
NamesNone text = (at : ℕ) → versions_from at (slice_split (λ b. b == 10) text) ≡ []

no_feed_in : (named : Named) → AreWords named → All (λ b. (b == 10) ≡ false) (text_of named)
no_feed_in named are =
    All-append (λ b. (b == 10) ≡ false) named.name (32 ∷ named.version) are.name.no_feed
    (All-cons (λ b. (b == 10) ≡ false) 32 named.version refl are.version.no_feed)

two_parts : (named : Named) → AreWords named
    → slice_split (λ b. b == 32) (text_of named) ≡ named.name ∷ named.version ∷ []
two_parts named are =
    slice_split_at (λ b. b == 32) named.name 32 named.version are.name.no_blank refl
    ∙ ap (λ (parts : List (List ℕ)). named.name ∷ parts)
    (slice_split_none (λ b. b == 32) named.version are.version.no_blank)

named_first : (at : ℕ) (named : Named) (rest : List ℕ) → AreWords named
    → versions_from at (slice_split (λ b. b == 10) (text_of named ++ 10 ∷ rest))
    ≡ place_of at named ∷ versions_from (at + (length (text_of named) + 1)) (slice_split (λ b. b == 10) rest)
named_first at named rest are =
    version_first at (text_of named) rest (text_of named ++ 10 ∷ rest) (place_of at named)
    (slice_split_at (λ b. b == 10) (text_of named) 10 rest (no_feed_in named are) refl)
    (ap (version_at at) (sym (two_parts named are)))

-- a line for each
abbrev pub lines_of : List Named → List ℕ
lines_of [] = []
lines_of (named ∷ rest) = text_of named ++ (codes "\n" ++ lines_of rest)

all_named : (at : ℕ) (named : List Named) (rest : List ℕ) → All AreWords named → NamesNone rest
    → versions_from at (slice_split (λ b. b == 10) (lines_of named ++ rest)) ≡ places_from at named
all_named at [] rest are none = none at
all_named at (n ∷ more) rest are none =
    ap (λ (text : List ℕ). versions_from at (slice_split (λ b. b == 10) text))
    (append_assoc (text_of n) (codes "\n" ++ lines_of more) rest)
    ∙ (named_first at n (lines_of more ++ rest) (All-head AreWords n more are)
    ∙ ap (λ (versions : List Version). place_of at n ∷ versions)
    (all_named (at + (length (text_of n) + 1)) more rest (All-tail AreWords n more are) none))

-- an answer with these lines names these, if nothing behind them is named
pub names_these : (answer : List ℕ) (named : List Named) (rest : List ℕ) → All AreWords named → NamesNone rest
    → answer ≡ codes "request:\n" ++ (lines_of named ++ rest) → versions_in answer ≡ places_from 9 named
names_these answer named rest are none is = ap versions_in is ∙ all_named 9 named rest are none

pub nothing_names_none : NamesNone []
nothing_names_none at = refl

best_first : (at : ℕ) (line : List ℕ) (rest : List (List ℕ))
    → versions_from at ((codes "the best by the first " ++ line) ∷ rest) ≡ []
best_first at line [] = refl
best_first at line (next ∷ rest) = refl

-- nor does a line of many words
pub best_names_none : (text : List ℕ) → NamesNone (codes "the best by the first " ++ text)
best_names_none text at =
    let some = some_part (λ b. b == 10) text in rw some.2 (best_first at some.0 some.1)
