-- What ids stand for in a pool they stand for in it later on.
use Rattle.std.proofs.Common.{◌≡◌, ◌∙◌, ℕ, zero, suc, List, [], ◌∷◌, ◌++◌, ◌+◌, ◌<◌, length, take, map, Bool, true}
use Rattle.std.proofs.Common.{false, Option, None, Some, arith, refl, ap, sym, subst}
use Rattle.std.specs.Prelude.{if◌then◌else◌}
use Rattle.std.proofs.lemmas.List.{append_assoc, append-nil, map-append, take_more}
use Rattle.std.proofs.lemmas.List.Elements.{All-cons, All-nil}
use Rattle.std.proofs.lemmas.Option.{slice_get_within}
use Rattle.resolvo_pool.specs.Dependencies.{Needs, Unknown as Untold}
use Rattle.resolvo_pool.specs.Types.Requirement.{Requirement}
use Rattle.example_index.proofs.Words.{All, AllZip, AreNeeds, binary, bytes_eq, ConditionalRequirement, Excluded}
use Rattle.example_index.proofs.Words.{first_place, Formula, IsCondition, IsConditionOr, IsExtended, IsLater, IsNamed}
use Rattle.example_index.proofs.Words.{IsNeed, IsSet, IsUnion, IsVersion, Known, leaf, Lists, NeedText, Offered}
use Rattle.example_index.proofs.Words.{option_map, Says, SetText, Single, slice_get, slice_index_or, Solvable, String}
use Rattle.example_index.proofs.Words.{string_bytes, Union, Unknown, VersionIs, VersionRange, VersionSetId, VersionText}
use Rattle.example_index.proofs.Words.{with_bytes, with_solvable}

-- ---- lists
pub extended_itself : {X : Type 0} (xs : List X) → IsExtended xs xs
extended_itself xs = ([], sym (append-nil xs))

pub extended_twice : {X : Type 0} (xs ys zs : List X) → IsExtended xs ys → IsExtended ys zs → IsExtended xs zs
extended_twice xs ys zs h k = (h.0 ++ k.0, k.1 ∙ ap (λ l. l ++ k.0) h.1 ∙ append_assoc xs h.0 k.0)

before : {X : Type 0} (old more : List X) (place : ℕ) (x : X) → slice_get old place ≡ Some x
    → slice_get (old ++ more) place ≡ Some x
before [] more place x h = cc
before (k ∷ ks) more zero x h = h
before (k ∷ ks) more (suc place) x h = before ks more place x h

-- what stood at a place stands there
pub still_at : {X : Type 0} (old new : List X) (place : ℕ) (x : X) → IsExtended old new → slice_get old place ≡ Some x
    → slice_get new place ≡ Some x
still_at old new place x h at = subst (λ l. slice_get l place ≡ Some x) (sym h.1) (before old h.0 place x at)

placed_behind : (text x : List ℕ) (b : Bool) (o p : Option ℕ) (n : ℕ) → ((m : ℕ) → o ≡ Some m → p ≡ Some m)
    → (if b then Some 0 else option_map suc o) ≡ Some n → (if b then Some 0 else option_map suc p) ≡ Some n
placed_behind text x true o p n each h = h
placed_behind text x false None p n each h = cc
placed_behind text x false (Some m) p n each h = ap (option_map suc) (each m refl) ∙ h

placed : (text : List ℕ) (old more : List (List ℕ)) (n : ℕ) → first_place text old ≡ Some n → first_place text
    (old ++ more) ≡ Some n
placed text [] more n h = cc
placed text (x ∷ old) more n h =
    placed_behind text x (bytes_eq text x) (first_place text old) (first_place text (old ++ more)) n
    (λ m. placed text old more m) h

pub zip_weaker : {A B : Type 0} (P Q : A → B → Type 0) → ((a : A) (b : B) → P a b → Q a b) → (xs : List A) (ys : List B)
    → AllZip P xs ys → AllZip Q xs ys
zip_weaker P Q each [] [] h = h
zip_weaker P Q each [] (y ∷ ys) h = h
zip_weaker P Q each (x ∷ xs) [] h = h
zip_weaker P Q each (x ∷ xs) (y ∷ ys) h = (each x y h.0, zip_weaker P Q each xs ys h.1)

pub zip_push : {A B : Type 0} (P : A → B → Type 0) (xs : List A) (ys : List B) (x : A) (y : B) → AllZip P xs ys → P x y
    → AllZip P (xs ++ x ∷ []) (ys ++ y ∷ [])
zip_push P [] [] x y h new = (new, h)
zip_push P [] (b ∷ ys) x y h new = absurd h
zip_push P (a ∷ xs) [] x y h new = absurd h
zip_push P (a ∷ xs) (b ∷ ys) x y h new = (h.0, zip_push P xs ys x y h.1 new)

-- ---- pools
module _ {N VS V : Type 0} where
  pub later_itself : (p : Lists N VS V) → IsLater p p
  later_itself p = record {
    strings = extended_itself p.strings;
    names = extended_itself p.names;
    solvables = extended_itself p.solvables;
    version_sets = extended_itself p.version_sets;
    unions = extended_itself p.unions;
    conditions = extended_itself p.conditions;
  }

  pub later_twice : (p q r : Lists N VS V) → IsLater p q → IsLater q r → IsLater p r
  later_twice p q r h k = record {
    strings = extended_twice p.strings q.strings r.strings h.strings k.strings;
    names = extended_twice p.names q.names r.names h.names k.names;
    solvables = extended_twice p.solvables q.solvables r.solvables h.solvables k.solvables;
    version_sets = extended_twice p.version_sets q.version_sets r.version_sets h.version_sets k.version_sets;
    unions = extended_twice p.unions q.unions r.unions h.unions k.unions;
    conditions = extended_twice p.conditions q.conditions r.conditions h.conditions k.conditions;
  }

  pub later_with_solvable : (p : Lists N VS V) (solvable : Solvable V) → IsLater p (with_solvable p solvable)
  later_with_solvable p solvable = record {
    strings = extended_itself p.strings;
    names = extended_itself p.names;
    solvables = (solvable ∷ [], refl);
    version_sets = extended_itself p.version_sets;
    unions = extended_itself p.unions;
    conditions = extended_itself p.conditions;
  }

-- the same with names as bytes
pub later_bytes : {A : Type 0} (p q : Lists (String A) VersionRange ℕ) → IsLater p q → IsLater (with_bytes p)
    (with_bytes q)
later_bytes p q h = record {
  strings = h.strings;
  names = (map string_bytes h.names.0, ap (map string_bytes) h.names.1 ∙ map-append string_bytes p.names h.names.0);
  solvables = h.solvables;
  version_sets = h.version_sets;
  unions = h.unions;
  conditions = h.conditions;
}

module _ (p q : Lists (List ℕ) VersionRange ℕ) (later : IsLater p q) where
  pub named_still : (n : ℕ) (name : List ℕ) → IsNamed p n name → IsNamed q n name
  named_still n name h = subst (λ names. first_place name names ≡ Some n) (sym later.names.1)
      (placed name p.names later.names.0 n h)

  pub set_still : (v : VersionSetId) (set : SetText) → IsSet p v set → IsSet q v set
  set_still v set h = record {
    name = h.name;
    named = named_still h.name set.name h.named;
    is = still_at p.version_sets q.version_sets v.0 (h.name, record { low = set.low; high = set.high })
        later.version_sets h.is;
  }

  pub sets_still : (ids : List VersionSetId) (sets : List SetText) → AllZip (IsSet p) ids sets → AllZip (IsSet q)
      ids sets
  sets_still = zip_weaker (IsSet p) (IsSet q) set_still

  pub union_still : (r : Requirement) (sets : List SetText) → IsUnion p r sets → IsUnion q r sets
  union_still (Single v) sets h = sets_still (v ∷ []) sets h
  union_still (Union u) sets h =
      (h.0, still_at p.unions q.unions u.0 h.0 later.unions h.1, sets_still h.0 sets h.2)

  pub says_still : (i : ℕ) (f : Formula) → Says p i f → Says q i f
  says_still i _ (leaf set at) = leaf set (still_at p.conditions q.conditions i _ later.conditions at)
  says_still i _ (binary o left right f g at l r) =
      binary o left right f g (still_at p.conditions q.conditions i _ later.conditions at)
      (says_still left f l) (says_still right g r)

  pub condition_still : (i : ℕ) (lists : List (List SetText)) → IsCondition p i lists → IsCondition q i lists
  condition_still i lists h =
      (h.0, says_still i h.0 h.1, zip_weaker (AllZip (IsSet p)) (AllZip (IsSet q)) sets_still _ lists h.2)

  pub condition_or_still : (c : Option ℕ) (lists : List (List SetText)) → IsConditionOr p c lists → IsConditionOr q
      c lists
  condition_or_still None lists h = h
  condition_or_still (Some c) lists h = condition_still c lists h

  pub need_still : (c : ConditionalRequirement) (need : NeedText) → IsNeed p c need → IsNeed q c need
  need_still c need h = record {
    union = union_still c.requirement need.union h.union;
    condition = condition_or_still c.condition need.condition h.condition;
  }

  pub needs_still : (cs : List ConditionalRequirement) (needs : List NeedText) → AllZip (IsNeed p) cs needs → AllZip
      (IsNeed q) cs needs
  needs_still = zip_weaker (IsNeed p) (IsNeed q) need_still

  pub are_needs_still : (d : Needs) (is : VersionIs) → AreNeeds p d is → AreNeeds q d is
  are_needs_still (Known requirements constrains) (Offered entries) h =
      (needs_still requirements _ h.0, sets_still constrains _ h.1)
  are_needs_still (Known requirements constrains) (Excluded reason) h = h
  are_needs_still (Known requirements constrains) (Unknown reason) h = h
  are_needs_still (Untold string) (Offered entries) h = h
  are_needs_still (Untold string) (Excluded reason) h = h
  are_needs_still (Untold string) (Unknown reason) h = still_at p.strings q.strings string.0 reason later.strings h

  pub version_still : (s : Solvable ℕ) (x : VersionText) → IsVersion p s x → IsVersion q s x
  version_still s x h = (named_still s.name x.name h.0, h.1)

-- ---- loops
pub map_more : {X Y : Type 0} (f : X → Y) (xs : List X) (i : ℕ) (d : X) → i < length xs
    → map f (take (i + 1) xs) ≡ map f (take i xs) ++ f (slice_index_or xs i d) ∷ []
map_more f xs i d here = ap (map f) (take_more xs i d here) ∙ map-append f (take i xs) (slice_index_or xs i d ∷ [])

-- with the element at the place
pub map_with : {X Y : Type 0} (f : X → Y) (xs : List X) (i : ℕ) (x : X) → i < length xs → x ≡ slice_index_or xs i x
    → map f (take (i + 1) xs) ≡ map f (take i xs) ++ f x ∷ []
map_with f xs i x here is = map_more f xs i x here ∙ ap (λ y. map f (take i xs) ++ f y ∷ []) (sym is)

pub at_end : {X : Type 0} (xs : List X) (x : X) → slice_get (xs ++ x ∷ []) (length xs) ≡ Some x
at_end [] x = refl
at_end (y ∷ xs) x = at_end xs x

pub sets_here : (p : Lists (List ℕ) VersionRange ℕ) (ids : List VersionSetId) (sets : List SetText) → AllZip
    (IsSet p) ids sets
    → All (λ (v : VersionSetId). v.0 < length p.version_sets) ids
sets_here p [] sets h = All-nil (λ (v : VersionSetId). v.0 < length p.version_sets)
sets_here p (v ∷ ids) [] h = absurd h
sets_here p (v ∷ ids) (set ∷ sets) h =
    All-cons (λ (v : VersionSetId). v.0 < length p.version_sets) v ids
    (slice_get_within p.version_sets v.0 (h.0.name, record { low = set.low; high = set.high }) h.0.is)
    (sets_here p ids sets h.1)

place_below : (text : List ℕ) (b : Bool) (o : Option ℕ) (n length_behind : ℕ) →
    ((m : ℕ) → o ≡ Some m → m < length_behind)
    → (if b then Some 0 else option_map suc o) ≡ Some n → n < suc length_behind
place_below text true o n l each h = let e : 0 ≡ n = cc in omega (arith, e)
place_below text false None n l each h = cc
place_below text false (Some m) n l each h = let e : suc m ≡ n = cc in omega (arith, e, each m refl)

-- the id of a name is in the pool
pub named_here : (text : List ℕ) (names : List (List ℕ)) (n : ℕ) → first_place text names ≡ Some n → n < length names
named_here text [] n h = cc
named_here text (x ∷ names) n h =
    place_below text (bytes_eq text x) (first_place text names) n (length names) (λ m. named_here text names m) h
