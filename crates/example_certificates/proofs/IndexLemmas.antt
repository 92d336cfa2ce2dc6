-- What certifies what lines say.
use Rattle.std.proofs.Common.{◌≡◌, ℕ, List, Result, Ok, Err, refl, subst}
use Rattle.index_text.specs.Index.{IndexText, index_of}
use Rattle.index_text.specs.Indexes.{NumberedWords}
use Rattle.resolvo_pool.specs.Functions.{Provider}
use Rattle.resolvo_pool.specs.Texts.{Texts}
use Rattle.example_index.specs.Listed.{AreRead}
use Rattle.example_index.specs.declared.index.SmallIndex.{SmallIndex}
use Rattle.example_answers.specs.Answers.{OfIndex, first_number}
use Rattle.example_answers.proofs.IndexLemmas.{IsSaid}
use Rattle.example_certificates.specs.Certificates.{CertifiesLines, CertifiesRequest}

-- what is so of the index that was read is so of what is said
of_read : (Says : SmallIndex → Type 0) (said : Result IndexText ℕ) (index : SmallIndex)
    → AreRead IsSaid said (Ok index) → Says index → OfIndex Says said
of_read Says (Ok meant) index read says =
    record { meant = meant; index = index; says_index = refl; is_index = read; says = says }
of_read Says (Err number) index read says = absurd read

-- what certifies the request of the index that was read certifies its lines
pub certified_of_read : {N S : Type 0} (functions : SmallIndex → Provider N S) (texts : SmallIndex → Texts N S)
    (lines : List NumberedWords) (index : SmallIndex) (line : ℕ) (text : List ℕ)
    → AreRead IsSaid (index_of lines) (Ok index) → line ≡ first_number lines
    → CertifiesRequest functions texts line index text → CertifiesLines functions texts lines text
certified_of_read functions texts lines index line text read first certifies =
    of_read (λ i. CertifiesRequest functions texts (first_number lines) i text) (index_of lines) index read
    (subst (λ n. CertifiesRequest functions texts n index text) first certifies)
