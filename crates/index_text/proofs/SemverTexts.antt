-- The words that are SemVer versions.
use Rattle.std.proofs.Common.{◌≡◌, ◌∙◌, ℕ, ◌<◌, Bool, true, ◌&&◌, List, [], ◌∷◌, None, Some}
use Rattle.std.proofs.Common.{Result, Ok, Err, refl, ap, sym, subst, arith, inl, inr}
use Rattle.std.specs.Prelude.{◌==◌}
use Rattle.std.specs.Fmt.{decimal}
use Rattle.std.specs.List.{list_all}
use Rattle.std.specs.Result.{result_ok}
use Rattle.std.specs.Str.{IsAscii, IsUtf8}
use Rattle.std.proofs.lemmas.Bool.{cases_Bool, eqb-true}
use Rattle.std.proofs.lemmas.Bool.Decides.{nat_tests}
use Rattle.std.proofs.lemmas.Fmt.{IsAscii-decimal}
use Rattle.std.proofs.lemmas.List.Splits.{slice_split-cons_yes, slice_split-cons_no}
use Rattle.std.proofs.lemmas.Str.{IsAscii-append, IsUtf8-from_ascii}
use Rattle.std.proofs.lemmas.Str.Ascii.{IsAscii-nil, IsAscii-cons}
use Rattle.index_text.specs.Formats.{semver_of}
use Rattle.script_text.proofs.Printing.{both}
use Rattle.semver.proofs.Grammar.{version_parts-sound}
use Rattle.semver.specs.Grammar.{is_identifier_byte, is_build_identifier, is_pre_identifier, is_pre_release}
use Rattle.semver.specs.Grammar.{is_build, IsValid}
use Rattle.semver.specs.Identifiers.{marked, parts_text}
use Rattle.semver.specs.Order.{parts}
use Rattle.semver.specs.OrderLaws.{parts-shape}
use Rattle.semver.specs.Parse.{Parts, version_parts}
use Rattle.semver.specs.declared.error.Error.{Error}

byte_ascii : (b : ℕ) → is_identifier_byte b ≡ true → b < 128
byte_ascii b h = grind (arith, nat_tests)

all_more : {X : Type 0} (p q : X → Bool) → ((x : X) → p x ≡ true → q x ≡ true) → (xs : List X) → list_all p xs ≡ true
    → list_all q xs ≡ true
all_more p q more [] h = refl
all_more p q more (x ∷ xs) h =
    let two = both (p x) (list_all p xs) h in
    ap (λ b. b && list_all q xs) (more x two.0) ∙ all_more p q more xs two.1

-- a text whose parts have ASCII alone is ASCII
parts_ascii : (text : List ℕ) → list_all (list_all is_identifier_byte) (parts text) ≡ true → IsAscii text
parts_ascii [] h = IsAscii-nil
parts_ascii (b ∷ rest) h = elim (cases_Bool (b == 46)) [
  | inl dot ↦
      let byte : b ≡ 46 = eqb-true b 46 dot in
      let split : parts (b ∷ rest) ≡ [] ∷ parts rest = slice_split-cons_yes (λ (x : ℕ). x == 46) b rest dot in
      IsAscii-cons b rest (omega arith) (parts_ascii rest (sym (ap (list_all (list_all is_identifier_byte)) split) ∙ h))
  | inr other ↦
      let shape = parts-shape rest in
      let split : parts (b ∷ rest) ≡ (b ∷ shape.0) ∷ shape.1 =
      slice_split-cons_no (λ (x : ℕ). x == 46) b rest other ∙ rw shape.2 refl in
      let all = both _ _ (sym (ap (list_all (list_all is_identifier_byte)) split) ∙ h) in
      let first = both _ _ all.0 in
      IsAscii-cons b rest (byte_ascii b first.0) (parts_ascii rest
      (ap (list_all (list_all is_identifier_byte)) shape.2
      ∙ ap (λ t. t && list_all (list_all is_identifier_byte) shape.1) first.1 ∙ all.1))
]

build_bytes : (part : List ℕ) → is_build_identifier part ≡ true → list_all is_identifier_byte part ≡ true
build_bytes part h = (both _ _ h).1

pre_bytes : (part : List ℕ) → is_pre_identifier part ≡ true → list_all is_identifier_byte part ≡ true
pre_bytes part h = build_bytes part (both _ _ h).0

pre_ascii : (mark : ℕ) (text : List ℕ) → mark < 128 → is_pre_release text ≡ true → IsAscii (marked mark text)
pre_ascii mark [] m h = IsAscii-nil
pre_ascii mark (b ∷ rest) m h = IsAscii-cons mark (b ∷ rest) m
    (parts_ascii (b ∷ rest) (all_more is_pre_identifier (list_all is_identifier_byte) pre_bytes (parts (b ∷ rest)) h))

build_ascii : (mark : ℕ) (text : List ℕ) → mark < 128 → is_build text ≡ true → IsAscii (marked mark text)
build_ascii mark [] m h = IsAscii-nil
build_ascii mark (b ∷ rest) m h = IsAscii-cons mark (b ∷ rest) m
    (parts_ascii (b ∷ rest)
    (all_more is_build_identifier (list_all is_identifier_byte) build_bytes (parts (b ∷ rest)) h))

text_ascii : (p : Parts) → IsValid p → IsAscii (parts_text p)
text_ascii p v =
    IsAscii-append (decimal p.0) _ (IsAscii-decimal p.0 v.0) (IsAscii-cons 46 _ (omega arith)
    (IsAscii-append (decimal p.1) _ (IsAscii-decimal p.1 v.1) (IsAscii-cons 46 _ (omega arith)
    (IsAscii-append (decimal p.2) _ (IsAscii-decimal p.2 v.2)
    (IsAscii-append (marked 45 p.3) (marked 43 p.4) (pre_ascii 45 p.3 (omega arith) v.3)
    (build_ascii 43 p.4 (omega arith) v.4))))))

version_utf8 : (word : List ℕ) (p : Parts) → version_parts word ≡ Ok p → IsUtf8 word
version_utf8 word p h =
    let sound = version_parts-sound word p h in
    subst IsUtf8 sound.0 (IsUtf8-from_ascii (parts_text p) (text_ascii p sound.1))

-- a word that isn't UTF-8 is no version
pub semver_none : (word : List ℕ) → (IsUtf8 word → ⊥) → None ≡ semver_of word
unfolding semver_of
semver_none word h = by (version_parts word) refl
  where
    by : (r : Result Parts Error) → version_parts word ≡ r → None ≡ result_ok r
    by (Ok p) e = absurd (h (version_utf8 word p e))
    by (Err f) e = refl

-- what is parsed
pub semver_said : (text word : List ℕ) (p : Parts) → text ≡ word → version_parts text ≡ Ok p → Some p ≡ semver_of word
unfolding semver_of
semver_said text word p same h = sym (ap (λ t. result_ok (version_parts t)) (sym same) ∙ ap result_ok h)

pub semver_refused : (text word : List ℕ) (e : Error) → text ≡ word → version_parts text ≡ Err e → None ≡ semver_of word
unfolding semver_of
semver_refused text word e same h = sym (ap (λ t. result_ok (version_parts t)) (sym same) ∙ ap result_ok h)

-- the text of a version is the word that says it
pub text_of_semver : (word : List ℕ) (version : Parts) → semver_of word ≡ Some version → parts_text version ≡ word
unfolding semver_of
text_of_semver word version h = by (version_parts word) refl h
  where
    by : (r : Result Parts Error) → version_parts word ≡ r → result_ok r ≡ Some version → parts_text version ≡ word
    by (Ok p) e said = (version_parts-sound word version (e ∙ cc said)).0
    by (Err f) e said = cc said
