-- What entries need and limit, one after the other.
use Rattle.std.proofs.Common.{◌≡◌, ℕ, List, [], ◌∷◌, ◌++◌, Option, None, Some, refl, ap, sym, subst}
use Rattle.index_text.specs.Entries.{Needs}
use Rattle.example_index.proofs.Words.{AllZip, ConditionalRequirement, Entries, EntryText, Excluded, Favored, IsLater}
use Rattle.example_index.proofs.Words.{IsNeed, IsReason, IsSet, IsState, Limits, limits_in, Lists, Locked, needs_in}
use Rattle.example_index.proofs.Words.{needs_of, Offered, StringId, Unknown, VersionIs, VersionRange, VersionSetId}
use Rattle.example_index.proofs.Conditions.{zip_append}
use Rattle.example_index.proofs.Later.{needs_still, sets_still, are_needs_still, still_at}

needs_push : (before : List EntryText) (e : EntryText) → needs_in (before ++ e ∷ []) ≡ needs_in before ++ needs_in
    (e ∷ [])
needs_push [] e = refl
needs_push (Needs need ∷ before) e = ap (λ l. need ∷ l) (needs_push before e)
needs_push (Limits set ∷ before) e = needs_push before e
needs_push (Favored ∷ before) e = needs_push before e
needs_push (Locked ∷ before) e = needs_push before e

limits_push : (before : List EntryText) (e : EntryText) → limits_in (before ++ e ∷ []) ≡ limits_in before ++
    limits_in (e ∷ [])
limits_push [] e = refl
limits_push (Needs need ∷ before) e = limits_push before e
limits_push (Limits set ∷ before) e = ap (λ l. set ∷ l) (limits_push before e)
limits_push (Favored ∷ before) e = limits_push before e
limits_push (Locked ∷ before) e = limits_push before e

module _ (p q : Lists (List ℕ) VersionRange ℕ) (later : IsLater p q) where
  -- what an entry adds comes behind what those before it said
  pub entries_more : (rs rs' more_rs : List ConditionalRequirement) (cs cs' more_cs : List VersionSetId)
      (before : List EntryText) (e : EntryText)
      → rs' ≡ rs ++ more_rs → cs' ≡ cs ++ more_cs → AllZip (IsNeed p) rs (needs_in before) → AllZip (IsSet p) cs
      (limits_in before)
      → AllZip (IsNeed q) more_rs (needs_in (e ∷ [])) → AllZip (IsSet q) more_cs (limits_in (e ∷ []))
      → AllZip (IsNeed q) rs' (needs_in (before ++ e ∷ [])) × AllZip (IsSet q) cs' (limits_in (before ++ e ∷ []))
  entries_more rs rs' more_rs cs cs' more_cs before e r_is c_is r c more_r more_c = (
    subst (λ l. AllZip (IsNeed q) l (needs_in (before ++ e ∷ []))) (sym r_is)
        (subst (AllZip (IsNeed q) (rs ++ more_rs)) (sym (needs_push before e))
        (zip_append (IsNeed q) rs (needs_in before) more_rs (needs_in (e ∷ []))
        (needs_still p q later rs (needs_in before) r) more_r)),
    subst (λ l. AllZip (IsSet q) l (limits_in (before ++ e ∷ []))) (sym c_is)
        (subst (AllZip (IsSet q) (cs ++ more_cs)) (sym (limits_push before e))
        (zip_append (IsSet q) cs (limits_in before) more_cs (limits_in (e ∷ []))
        (sets_still p q later cs (limits_in before) c) more_c)),
  )

  reason_still : (o : Option StringId) (is : VersionIs) → IsReason p.strings o is → IsReason q.strings o is
  reason_still None is h = h
  reason_still (Some string) (Offered entries) h = h
  reason_still (Some string) (Unknown reason) h = h
  reason_still (Some string) (Excluded reason) h = still_at p.strings q.strings string.0 reason later.strings h

  pub state_grown : (found : Entries) (is : VersionIs) → IsState p found is → IsState q found is
  state_grown found is h = record {
    needs = are_needs_still p q later (needs_of found.needs) is h.needs;
    favored = h.favored;
    locked = h.locked;
    excluded = reason_still found.excluded is h.excluded;
  }
