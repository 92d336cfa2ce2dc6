-- What ids stand for: it is what came into the pool, and stays as the pool grows.
use Rattle.std.proofs.Common.{◌==◌, ◌<◌, get_or, length}
use Rattle.std.proofs.Common.{◌≡◌, ◌∙◌, ℕ, zero, suc, ◌+◌, Bool, true, false, not, ◌||◌, ◌&&◌, cond, List, [], ◌∷◌}
use Rattle.std.proofs.Common.{◌++◌}
use Rattle.std.proofs.Common.{Some, arith, refl, ap, ap₂, sym, subst, add_comm, add-one}
use Rattle.std.specs.Str.{bytes_eq}
use Rattle.std.proofs.lemmas.Bool.{and_from, and_parts, eqb-true, false≢true}
use Rattle.std.proofs.lemmas.List.Folds.{Any-from_list_any}
use Rattle.std.proofs.lemmas.List.Elements.{Contains-append_left}
use Rattle.std.proofs.lemmas.Slice.Eq.{bytes_eq-Decides}
use Rattle.debian_provider.proofs.Words.{Contains, has_same, HasSet, Ids, interned, interned_place, IsEntry, IsExtended}
use Rattle.debian_provider.proofs.Words.{IsLater, IsNamed, IsSet, list_any, Name, NameText, option_map, plain_entry}
use Rattle.debian_provider.proofs.Words.{plain_name, SetText, slice_get, VersionSetId}

-- INTERNED

-- at its place an interned value stands, as it is seen, where equal values are seen as one
module _ {X Y : Type 0} (view : X → Y) (same : X → X → Bool) (x : X)
    (alike : (k : X) → same x k ≡ true → view x ≡ view k) where
  abbrev Stands : List X → ℕ → Type 0
  Stands list place = option_map view (slice_get list place) ≡ Some (view x)

  behind : (b : Bool) (k : X) (ks : List X) (place : ℕ) → Stands (cond b ks (ks ++ x ∷ [])) place
      → Stands (cond b (k ∷ ks) (k ∷ ks ++ x ∷ [])) (suc place)
  behind true k ks place h = h
  behind false k ks place h = h

  stands : (b : Bool) (k : X) (ks : List X) → (b ≡ true → view x ≡ view k)
      → Stands (interned same ks x) (interned_place same ks x)
      → Stands (cond (b || has_same same ks x) (k ∷ ks) (k ∷ ks ++ x ∷ []))
      (cond (not b) (1 + interned_place same ks x) 0)
  stands true k ks h rest = ap Some (sym (h refl))
  stands false k ks h rest = rw (add_comm 1 (interned_place same ks x), add-one)
      (behind (has_same same ks x) k ks (interned_place same ks x) rest)

  pub interned_at : (list : List X) → Stands (interned same list x) (interned_place same list x)
  interned_at [] = refl
  interned_at (k ∷ ks) = stands (same x k) k ks (alike k) (interned_at ks)

-- EQUAL VALUES

pub same_bytes : (xs ys : List ℕ) → bytes_eq xs ys ≡ true → xs ≡ ys
same_bytes xs ys h = (bytes_eq-Decides xs ys).0 h

abbrev pub NameEq : Name → Name → Bool
NameEq a b = bytes_eq a.name.now b.name.now && bytes_eq a.architecture.now b.architecture.now

pub same_names : (a b : Name) → NameEq a b ≡ true → plain_name a ≡ plain_name b
same_names a b h =
    let parts = and_parts _ _ h in
    ap₂ (λ (n c : List ℕ). record { name = n; architecture = c }) (same_bytes a.name.now b.name.now parts.0)
    (same_bytes a.architecture.now b.architecture.now parts.1)

pub equal_names : (a b : Name) → plain_name a ≡ plain_name b → NameEq a b ≡ true
equal_names a b h =
    and_from _ _ ((bytes_eq-Decides a.name.now b.name.now).1 (ap (λ (n : NameText). n.name) h))
    ((bytes_eq-Decides a.architecture.now b.architecture.now).1 (ap (λ (n : NameText). n.architecture) h))

pub apart_names : (a b : Name) → NameEq a b ≡ false → plain_name a ≡ plain_name b → ⊥
apart_names a b differ h = false≢true (sym differ ∙ equal_names a b h)

-- LATER ON

seen_before : {X Y : Type 0} (view : X → Y) (old more : List X) (place : ℕ) (y : Y)
    → option_map view (slice_get old place) ≡ Some y → option_map view (slice_get (old ++ more) place) ≡ Some y
seen_before view [] more place y h = cc
seen_before view (k ∷ ks) more zero y h = h
seen_before view (k ∷ ks) more (suc place) y h = seen_before view ks more place y h

pub seen_still : {X Y : Type 0} (view : X → Y) (old new : List X) (place : ℕ) (y : Y) → IsExtended old new
    → option_map view (slice_get old place) ≡ Some y → option_map view (slice_get new place) ≡ Some y
seen_still view old new place y h at =
    subst (λ l. option_map view (slice_get l place) ≡ Some y) (sym h.1) (seen_before view old h.0 place y at)

module _ (p q : Ids) (later : IsLater p q) where
  pub named_still : (id : ℕ) (name : NameText) → IsNamed p id name → IsNamed q id name
  named_still id name h = seen_still plain_name p.names q.names id name later.names h

  pub entry_still : (v : VersionSetId) (id : ℕ) (set : SetText) → IsEntry p v id set → IsEntry q v id set
  entry_still v id set h = seen_still plain_entry p.version_sets q.version_sets v.0 (id, set) later.version_sets h

  pub set_still : (v : VersionSetId) (name : NameText) (set : SetText) → IsSet p v name set → IsSet q v name set
  set_still v name set h = record {
    id = h.id;
    named = named_still h.id name h.named;
    entry = entry_still v h.id set h.entry;
  }

  -- and where there are more version sets
  pub has_set_still : (sets more : List VersionSetId) → IsExtended sets more → (name : NameText) (set : SetText)
      → HasSet p sets name set → HasSet q more name set
  has_set_still sets more longer name set h = (
    h.0,
    subst (λ l. Contains l h.0) (sym longer.1) (Contains-append_left sets longer.0 h.0 h.1),
    set_still h.0 name set h.2,
  )

-- A VERSION SET OF A NAME

-- within a list it doesn't matter what is said to be behind it
pub default : {X : Type 0} (xs : List X) (k : ℕ) (d e : X) → k < length xs → get_or xs k d ≡ get_or xs k e
default [] k d e lt = absurd (omega arith)
default (x ∷ xs) zero d e lt = refl
default (x ∷ xs) (suc k) d e lt = default xs k d e (omega arith)

module _ (p q : Ids) (later : IsLater p q) (id : ℕ) (name : NameText) (set : SetText) (v : VersionSetId)
    (named : IsNamed p id name) (entry : IsEntry q v id set) where
  pub is_set : IsSet q v name set
  is_set = record { id = id; named = named_still p q later id name named; entry = entry }

  pub has_set : (sets : List VersionSetId) → Contains sets v → HasSet q sets name set
  has_set sets in' = (v, in', is_set)

pub contains_set : (sets : List VersionSetId) (v : VersionSetId) → list_any (λ w. w.0 == v.0) sets ≡ true
    → Contains sets v
contains_set sets v h =
    let found = Any-from_list_any (λ (w : VersionSetId). w.0 == v.0) sets h in
    let id : ℕ → VersionSetId = λ n. record { 0 = n } in
    let same : found.1 ≡ v = ap id (eqb-true found.1.0 v.0 found.4) in
    (found.0, found.2, default sets found.0 v found.1 found.2 ∙ found.3 ∙ same)
