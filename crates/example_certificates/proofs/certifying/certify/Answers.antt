use Rattle.std.proofs.Common.{◌≡◌, ◌∙◌, ℕ, List, [], ◌++◌, ap, string_bytes}
use Rattle.std.specs.declared.vec.Vec.{Vec}
use Rattle.resolvo_ids.specs.Mapping.{value_at}
use Rattle.resolvo_pool.specs.Provider.{Universe}
use Rattle.resolvo_pool.specs.Texts.{Texts}
use Rattle.solutions.proofs.DecisionLemmas.{answered}
use Rattle.solutions.specs.declared.package_literal.PackageLiteral.{PackageLiteral}
use Rattle.example_certificates.specs.Numbers.{Numbered, numbered}
use Rattle.example_certificates.specs.Texts.{certificate_text, learnt_text, stated_text}
use Rattle.example_certificates.specs.declared.part.Part.{Part}
use Rattle.example_certificates.proofs.certifying.certify.Goals as goal

-- the text of parts, and behind it that of what was learnt, below the first line
joined : {N S A : Type 0} (universe : Universe N S) (texts : Texts N S) (line : ℕ) (variables : Numbered S)
    (given parts : List (Part N S A)) (shown learnt : List (Vec (PackageLiteral S) A))
    (none stated both others text : List ℕ)
    → none ≡ [] → given ≡ parts → stated ≡ none ++ stated_text universe texts variables given
    → shown ≡ learnt → both ≡ stated ++ learnt_text variables.number shown
    → others ≡ both → text ≡ certificate_text line others
    → text ≡ certificate_text line (stated_text universe texts variables parts ++ learnt_text variables.number learnt)
joined universe texts line variables given parts shown learnt none stated both others text empty all said same told
    lent is =
    let first : stated ≡ stated_text universe texts variables parts =
    said ∙ ap (λ b. b ++ stated_text universe texts variables given) empty
    ∙ ap (λ ps. stated_text universe texts variables ps) all in
    is ∙ ap (certificate_text line) (lent ∙ told ∙ ap (λ l. stated ++ learnt_text variables.number l) same
    ∙ ap (λ b. b ++ learnt_text variables.number learnt) first)

pub returns : goal.returns
returns g c =
    let provider = c.args.provider.now in
    let stated = c.in_ok-stated.stated in
    let variables = numbered stated.variables.literals.items
    (g.D.SolvableId.Slots.IdMap.value_at stated.variables.solvables) (value_at stated.variables.sets) in
    answered c.with_first_line.result
    (λ text is. record {
      variables = variables;
      parts = stated.parts.items;
      is = joined (g.D.Interner.universe provider) (g.D.Interner.texts provider) c.args.line variables
          c.deref.result.now stated.parts.items c.deref-2.result.now c.args.refutation.now.learnt.items
          (string_bytes c.new-others.result) (string_bytes c.write_stated.new.text)
          (string_bytes c.write_learnt.new.text) c.deref-3.result.now (string_bytes text) c.new-others.ensures.bytes
          c.deref.ensures.value c.in_ok-write_stated.ensures c.deref-2.ensures.value c.in_ok-write_learnt.ensures
          c.deref-3.ensures is;
    })
    c.with_first_line.ensures
