-- Lines that were read, one after the other.
use Rattle.std.proofs.Common.{◌≡◌, ◌∙◌, ℕ, ◌+◌, ◌-◌, ◌<◌, List, [], ◌∷◌, length, map, take, drop, arith, Option, None}
use Rattle.std.proofs.Common.{Some, refl, ap, sym, subst}
use Rattle.std.proofs.lemmas.List.{at_drop_more, take_all}
use Rattle.index_text.specs.Index.{versions_of}
use Rattle.example_index.proofs.Words.{AllZip, AreRead, EntryText, Err, IndexFault, IndexText, IsKept, IsLineAdded}
use Rattle.example_index.proofs.Words.{IsNeed, IsRequestAdded, Line, Lists, needs_in, nothing, NumberedWords, Ok}
use Rattle.example_index.proofs.Words.{option_and_then, or_fault, plain_line, Refused, Result, slice_index_or}
use Rattle.example_index.proofs.Words.{SmallIndex, String, Unreadable, version_said, VersionFormat, VersionRange}
use Rattle.example_index.proofs.Words.{VersionText, with_bytes, with_request, with_version, ⊤}

module _ (format : VersionFormat) (K : List VersionText → Type 0) (number : ℕ) (rest : List NumberedWords)
    (all : Result (List VersionText) ℕ) where
  -- a line that was added leaves the others
  pub line_added : (o : Option (List VersionText)) (done : ⊤) → IsLineAdded K o number (Ok done)
      → or_fault number (λ more. versions_of format more rest) o ≡ all → (more : List VersionText) × K more ×
      (versions_of format more rest ≡ all)
  line_added None done h is = absurd h
  line_added (Some more) done h is = (more, h, is)

-- the fault of a line is that of all
pub fault_read : {X T : Type 0} (IsSo : X → T → Type 0) (number : ℕ) (o : Option (List VersionText))
    (K : List VersionText → Type 0) (all : Result X ℕ)
    (fault : IndexFault) → IsLineAdded K o number (Err fault) → (o ≡ None → all ≡ Err number) → AreRead IsSo all
    (Err fault)
fault_read IsSo number None K all (Unreadable n) h is = subst (λ a. AreRead IsSo a (Err (Unreadable n)))
    (sym (is refl)) h.1
fault_read IsSo number (Some more) K all (Unreadable n) h is = let no_more : Some more ≡ None = h.0 in cc
fault_read IsSo number None K (Ok x) (Refused e) h is = tt
fault_read IsSo number (Some more) K (Ok x) (Refused e) h is = tt
fault_read IsSo number None K (Err n) (Refused e) h is = tt
fault_read IsSo number (Some more) K (Err n) (Refused e) h is = tt

-- what lines say from a place on begins with what the line there says
pub versions_step : (format : VersionFormat) (lines : List Line) (i : ℕ) (line : Line) → i < length lines →
    line ≡ slice_index_or lines i line
    → (versions : List VersionText) (all : Result (List VersionText) ℕ)
    → versions_of format versions (map plain_line (drop i lines)) ≡ all
    → or_fault line.number (λ more. versions_of format more (map plain_line (drop (i + 1) lines)))
    (option_and_then (with_version versions) (option_and_then (version_said format) (plain_line line).words)) ≡ all
versions_step format lines i line here is versions all so_far =
    sym (at_drop_more (λ rest. versions_of format versions (map plain_line rest)) lines i line here
    ∙ ap (λ l. versions_of format versions (plain_line l ∷ map plain_line (drop (i + 1) lines))) (sym is)) ∙ so_far

-- a request, and then the versions
module _ {T : Type 0} (format : VersionFormat) (P : IndexText → T → Type 0) (Q : List VersionText → T →
    Type 0) (entries : List EntryText)
    (each : (versions : List VersionText) (done : T) → Q versions done → P
    (record { format = format; request = entries; versions = versions }) done) where
  pub request_read : (versions : Result (List VersionText) ℕ) (result : Result T IndexFault) → AreRead Q versions result
      → AreRead P (with_request format entries versions) result
  request_read (Ok versions) (Ok done) h = each versions done h
  request_read (Ok versions) (Err (Unreadable n)) h = h
  request_read (Ok versions) (Err (Refused e)) h = tt
  request_read (Err number) (Ok done) h = h
  request_read (Err number) (Err (Unreadable n)) h = h
  request_read (Err number) (Err (Refused e)) h = tt

-- of a request that was added there are entries
pub request_is : (index : SmallIndex) (o : Option (List EntryText)) (number : ℕ) (done : ⊤) → IsRequestAdded index o
    number (Ok done)
    → (entries : List EntryText) × (o ≡ Some entries) × AllZip (IsNeed (with_bytes index.pool)) index.request.items
    (needs_in entries)
request_is index None number done h = absurd h
request_is index (Some entries) number done h = (entries, refl, h)

-- nothing is kept of no lines
pub nothing_kept : {A : Type 0} (pool : Lists (String A) VersionRange ℕ) → pool ≡ nothing → IsKept (with_bytes pool)
    [] [] []
nothing_kept pool is = subst (λ p. IsKept (with_bytes p) [] [] []) (sym is) (record {
  versions_are = tt;
  needs_are = tt;
  candidates = λ name. refl;
  favored = λ name. refl;
  locked = λ name. refl;
  excluded = λ name. tt;
})

-- the first line, and the others
pub lines_begin : (lines : List Line) (first : Line) → 0 < length lines → first ≡ slice_index_or lines 0 first
    → map plain_line lines ≡ plain_line first ∷ map plain_line (take (length lines - 1) (drop 1 lines))
lines_begin [] first here is = absurd (omega (arith, here))
lines_begin (line ∷ lines) first here is =
    ap (λ l. plain_line l ∷ map plain_line lines) (sym is)
    ∙ ap (λ l. plain_line first ∷ map plain_line l) (sym (take_all (length (line ∷ lines) - 1) lines (omega arith)))
