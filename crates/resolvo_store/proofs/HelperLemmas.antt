-- What is refused of a helper variable.
use Rattle.std.proofs.Common.{◌≡◌, true, false, cond, not, [], ◌∷◌, length, None, Some, refl, ◌∙◌, ap}
use Rattle.resolvo_store.proofs.Words.{are_variables_out, first_refusal, Helper, HelperOrigin, IdSpace, is_helper_known}
use Rattle.resolvo_store.proofs.Words.{knows_helper, Store, UnknownId}
use Rattle.resolvo_store.proofs.AddingLemmas.{found_first, none_yet, ids_alone}
use Rattle.resolvo_store.specs.declared.helper_origin.HelperOrigin.TheVariants as Helps

module _ {N S : Type 0} (st : Store N S) where
  -- what it is to stand for is known to the store as to its provider
  pub helper_known_is : (origin : HelperOrigin N) → is_helper_known st.provider.universe origin ≡ knows_helper st origin
  helper_known_is (Helps.AtLeastOne n) = refl
  helper_known_is (Helps.ConstrainsViolation v) = refl
  helper_known_is (Helps.RequiresGate r) = refl

  -- of what is known: no variable is left, or nothing is foreseen
  pub first_of_helper : (origin : HelperOrigin N) → knows_helper st origin ≡ true
      → first_refusal st (Helper origin) ≡ cond (are_variables_out (length st.origins)) (Some IdSpace) None
  first_of_helper origin known =
      none_yet (not (knows_helper st origin)) UnknownId ((are_variables_out (length st.origins), IdSpace) ∷ [])
      (ap not known) ∙ ids_alone (are_variables_out (length st.origins))

  pub first_of_unknown_helper : (origin : HelperOrigin N) → knows_helper st origin ≡ false →
      first_refusal st (Helper origin) ≡ Some UnknownId
  first_of_unknown_helper origin known =
      found_first (not (knows_helper st origin)) UnknownId ((are_variables_out (length st.origins), IdSpace) ∷ [])
      (ap not known)
