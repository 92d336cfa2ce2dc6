-- Certificates of "no solution". N are the names, S the solvables, A the allocators.
use Rattle.std.specs.Prelude.{◌≡◌, ℕ, List, ◌++◌}
use Rattle.std.specs.declared.alloc.Global.{Global}
use Rattle.index_text.specs.Index.{index_of}
use Rattle.index_text.specs.Indexes.{NumberedWords}
use Rattle.resolvo_pool.specs.Functions.{Provider}
use Rattle.resolvo_pool.specs.Texts.{Texts}
use Rattle.resolvo_pool.specs.Types.ConditionalRequirement.{ConditionalRequirement}
use Rattle.picking.specs.declared.finding.Refutation.{Refutation}
use Rattle.example_index.specs.declared.index.SmallIndex.{SmallIndex}
use Rattle.example_answers.specs.Answers.{IsRefuted, OfIndex, first_number}
use Rattle.example_certificates.specs.Numbers.{Numbered}
use Rattle.example_certificates.specs.Texts.{certificate_text, learnt_text, stated_text}
use Rattle.example_certificates.specs.declared.part.Part.{Part}

-- the text of some parts, which are reasons with clauses, and of the clauses that this refutation learnt
pub record SaysClauses {N S A : Type 0} (p : Provider N S) (texts : Texts N S) (refutation : Refutation N S A)
    (line : ℕ) (text : List ℕ) : Type 0 where
  pub variables : Numbered S
  pub parts : List (Part N S A)
  pub is : text ≡ certificate_text line (stated_text p.universe texts variables parts
      ++ learnt_text variables.number refutation.learnt.items)

-- the text certifies that there is no solution
pub record IsCertificate {N S : Type 0} (A : Type 0) (p : Provider N S) (texts : Texts N S)
    (requested : List ConditionalRequirement) (line : ℕ) (text : List ℕ) : Type 0 where
  pub refutation : Refutation N S A
  pub is_refuted : IsRefuted p requested refutation.reasons.items
  pub says : SaysClauses p texts refutation line text

module _ {N S : Type 0} (functions : SmallIndex → Provider N S) (texts : SmallIndex → Texts N S) where
  -- of the request of an index, which is in this line
  abbrev pub CertifiesRequest : ℕ → SmallIndex → List ℕ → Type 0
  CertifiesRequest line index text =
      IsCertificate Global (functions index) (texts index) index.request.items line text

  -- of what these lines say
  abbrev pub CertifiesLines : List NumberedWords → List ℕ → Type 0
  CertifiesLines lines text =
      OfIndex (λ index. CertifiesRequest (first_number lines) index text) (index_of lines)
