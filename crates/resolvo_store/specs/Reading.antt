-- What is read of a clause. N are the names, S the solvables.
use Rattle.std.specs.Prelude.{◌≡◌, ℕ, if◌then◌else◌, is_some, slice_get, Option, option_map, IsSomeAnd}
use Rattle.std.specs.declared.string.String.{String}
use Rattle.std.specs.declared.vec.Vec.{Vec}
use Rattle.typed_ids.specs.declared.error.StoreError.{StoreError}
use Rattle.typed_ids.specs.declared.error.StoreError.TheVariants.{OutOfMemory, UnknownId}
use Rattle.providers.specs.Texts.{Texts, IsAppended}
use Rattle.decisions.specs.Literals.{Lit}
use Rattle.clauses.specs.Clauses.{literals_of}
use Rattle.clauses.specs.ClauseTexts.{clause_text}
use Rattle.resolvo_store.specs.Store.{Store, stored_of}

module _ {N S : Type 0} (st : Store N S) (clause : ℕ) where
  -- these are its literals; none are found of an unknown one
  abbrev pub HasLiterals : {A : Type 0} → Option (Vec Lit A) → Type 0
  HasLiterals found = option_map (λ literals. literals.items) found ≡
      option_map (literals_of (stored_of st)) (slice_get st.clauses clause)

  -- it is there, and its text comes after what was there
  abbrev pub IsDisplayed : {A : Type 0} → Texts N S → String A → String A → Type 0
  IsDisplayed texts old new = IsSomeAnd (slice_get st.clauses clause)
      (λ c. IsAppended old new (clause_text st.provider.universe texts st.origins c))

  -- why its text may be refused
  abbrev pub text_refusal : StoreError
  text_refusal = if is_some (slice_get st.clauses clause) then OutOfMemory else UnknownId
