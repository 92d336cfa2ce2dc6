-- Lists that are kept by keys, in a table whose values hold more than the lists.
use Rattle.std.proofs.Common.{◌≡◌, Bool, ℕ, List, [], ◌∷◌, ◌++◌, length, map, slice_get, is_some, Option, None, Some}
use Rattle.std.proofs.Common.{option_map, ◌∙◌, ap, refl, sym}
use Rattle.std.proofs.lemmas.List.{length-map, map-append}
use Rattle.std.proofs.lemmas.Map.Made.{lookup-map_values}
use Rattle.std.proofs.lemmas.Option.{slice_get-map}
use Rattle.indexmap.proofs.MapLemmas.{absent_from_lookup, or_len-absent}
use Rattle.indexmap.proofs.CallerLemmas.{insert_entry-new}
use Rattle.solver_cache.proofs.Words.{IndexMap, insert_entry, insert_index, lookup, values_of}

same_some : {V L : Type 0} (list : V → L) (o : Option V) → is_some (option_map list o) ≡ is_some o
same_some list None = refl
same_some list (Some v) = refl

module _ {K V L : Type 0} (list : V → L) where
  -- the keys with their lists
  abbrev pub lists : List (K × V) → List (K × L)
  lists entries = map (λ e. (e.0, list e.1)) entries

  -- a list is found where an entry is
  pub found : (test : K → Bool) (entries : List (K × V)) →
      is_some (lookup test entries) ≡ is_some (lookup test (lists entries))
  found test entries = sym (ap is_some (lookup-map_values list test entries) ∙ same_some list (lookup test entries))

  at_values : (place : ℕ) (entries : List (K × V)) → slice_get (values_of (lists entries)) place
      ≡ option_map list (slice_get (values_of entries) place)
  at_values place entries =
      slice_get-map (λ (e : K × L). e.1) (lists entries) place
      ∙ ap (option_map (λ (e : K × L). e.1)) (slice_get-map (λ (e : K × V). (e.0, list e.1)) entries place)
      ∙ both (slice_get entries place) ∙ sym (ap (option_map list) (slice_get-map (λ (e : K × V). e.1) entries place))
    where
      both : (o : Option (K × V)) → option_map (λ (e : K × L). e.1) (option_map (λ (e : K × V). (e.0, list e.1)) o) ≡
          option_map list (option_map (λ (e : K × V). e.1) o)
      both None = refl
      both (Some e) = refl

  -- the list at a place
  pub list_at : (place : ℕ) (v : V) (entries : List (K × V)) → slice_get (values_of entries) place ≡ Some v
      → slice_get (values_of (lists entries)) place ≡ Some (list v)
  list_at place v entries at = at_values place entries ∙ ap (option_map list) at

  -- and the list of the key whose place it is
  pub list_found : (test : K → Bool) (place : ℕ) (entries : List (K × V)) →
      slice_get (values_of entries) place ≡ lookup test entries
      → slice_get (values_of (lists entries)) place ≡ lookup test (lists entries)
  list_found test place entries at = at_values place entries ∙ ap (option_map list) at
      ∙ sym (lookup-map_values list test entries)

none_below : {V L : Type 0} (list : V → L) (o : Option V) → option_map list o ≡ None → o ≡ None
none_below list None h = refl
none_below list (Some v) h = cc

module _ {K V L H : Type 0} (list : V → L) (eq : K → K →
    Bool) (key : K) (m : IndexMap K V H) (absent : lookup (eq key) (lists list m.entries) ≡ None) where
  none : lookup (eq key) m.entries ≡ None
  none = none_below list _ (sym (lookup-map_values list (eq key) m.entries) ∙ absent)

  -- a key without a list gets the last place
  pub last_place : insert_index eq m key ≡ length (lists list m.entries)
  last_place = or_len-absent (eq key) m.entries (absent_from_lookup (eq key) m.entries none)
      ∙ sym (length-map m.entries (λ e. (e.0, list e.1)))

  pub list_last : (v : V) → lists list (insert_entry eq m.entries key v) ≡ lists list m.entries ++ (key, list v) ∷ []
  list_last v = ap (lists list) (insert_entry-new eq m key v none)
      ∙ map-append (λ e. (e.0, list e.1)) m.entries ((key, v) ∷ [])
