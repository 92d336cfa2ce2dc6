-- Version sets that compare as equal say the same.
use Rattle.std.proofs.Common.{Bor, ◌≡◌, ◌∙◌, ℕ, Bool, true, ◌&&◌, ◌==◌, List, Option, None, Some, ap, ap₂}
use Rattle.std.proofs.Common.{refl}
use Rattle.std.specs.Str.{bytes_eq}
use Rattle.std.proofs.lemmas.Bool.{and_parts, eqb-true}
use Rattle.debian_text.specs.contracts.relation.OperatorPartialEq.TheImpl.{eq-value as of_operators}
use Rattle.debian_provider.proofs.Words.{Bound, BoundText, Earlier, EarlierOrEqual, Equal, interned, interned_place}
use Rattle.debian_provider.proofs.Words.{Later, LaterOrEqual, Operator, option_eq, option_map, plain_bound, plain_entry}
use Rattle.debian_provider.proofs.Words.{plain_relation, plain_set, Relation, same_set, Set, slice_get}
use Rattle.debian_provider.specs.contracts.set.SetPartialEq.TheImpl.{eq-value as of_sets}
use Rattle.debian_provider.specs.declared.set.Set.TheVariants.{All, Meeting, Spared, Beside}
use Rattle.debian_provider.proofs.Named.{interned_at, same_bytes}
use Rattle.debian_provider.specs.Sets as text

same_options : {A B : Type 0} (view : A → B) (E : A → A → Bool) → ((x y : A) → E x y ≡ true → view x ≡ view y)
    → (a b : Option A) → option_eq E a b ≡ true → option_map view a ≡ option_map view b
same_options view E each None None h = refl
same_options view E each None (Some y) h = cc
same_options view E each (Some x) None h = cc
same_options view E each (Some x) (Some y) h = ap Some (each x y h)

same_operators : (a b : Operator) → of_operators.it a b ≡ true → a ≡ b
same_operators Earlier Earlier h = refl
same_operators EarlierOrEqual EarlierOrEqual h = refl
same_operators Equal Equal h = refl
same_operators LaterOrEqual LaterOrEqual h = refl
same_operators Later Later h = refl
same_operators a b h = cc

abbrev BytesEq : Bor (List ℕ) → Bor (List ℕ) → Bool
BytesEq x y = bytes_eq x.now y.now

abbrev BoundEq : Bound → Bound → Bool
BoundEq a b = of_operators.it a.operator b.operator && BytesEq a.version b.version

same_bounds : (a b : Bound) → BoundEq a b ≡ true → plain_bound a ≡ plain_bound b
same_bounds a b h =
    let parts = and_parts _ _ h in
    ap₂ (λ (o : Operator) (v : List ℕ). record { operator = o; version = v })
    (same_operators a.operator b.operator parts.0) (same_bytes a.version.now b.version.now parts.1)

abbrev RelationEq : Relation → Relation → Bool
RelationEq a b =
    BytesEq a.name b.name && (option_eq BytesEq a.qualifier b.qualifier && option_eq BoundEq a.bound b.bound)

same_relations : (a b : Relation) → RelationEq a b ≡ true → plain_relation a ≡ plain_relation b
same_relations a b h =
    let one = and_parts _ _ h in
    let two = and_parts _ _ one.1 in
    ap (λ (n : List ℕ). record {
      name = n;
      qualifier = option_map (λ q. q.now) a.qualifier;
      bound = option_map plain_bound a.bound;
    }) (same_bytes a.name.now b.name.now one.0)
    ∙ ap (λ (q : Option (List ℕ)). record {
      name = b.name.now;
      qualifier = q;
      bound = option_map plain_bound a.bound;
    }) (same_options (λ q. q.now) BytesEq (λ x y. same_bytes x.now y.now) a.qualifier b.qualifier two.0)
    ∙ ap (λ (o : Option BoundText). record {
      name = b.name.now;
      qualifier = option_map (λ q. q.now) b.qualifier;
      bound = o;
    }) (same_options plain_bound BoundEq same_bounds a.bound b.bound two.1)

same_sets : (a b : Set) → of_sets.it a b ≡ true → plain_set a ≡ plain_set b
same_sets All All h = refl
same_sets (Meeting r a) (Meeting q b) h =
    let parts = and_parts _ _ h in
    ap₂ text.Meeting (same_relations r q parts.0) (same_bytes a.now b.now parts.1)
same_sets (Spared r) (Spared q) h = ap text.Spared (same_relations r q h)
same_sets (Beside v) (Beside w) h =
    ap text.Beside (same_options (λ x. x.now) BytesEq (λ x y. same_bytes x.now y.now) v w h)
same_sets a b h = cc

-- a version set stands at its place
pub entry_at : (sets : List (ℕ × Set)) (name : ℕ) (set : Set)
    → option_map plain_entry (slice_get (interned (same_set of_sets.it) sets (name, set))
    (interned_place (same_set of_sets.it) sets (name, set))) ≡ Some (name, plain_set set)
entry_at sets name set = interned_at plain_entry (same_set of_sets.it) (name, set) (λ k h.
    let parts = and_parts (name == k.0) (of_sets.it set k.1) h in
    ap₂ (λ (n : ℕ) (s : text.SetText). (n, s)) (eqb-true name k.0 parts.0) (same_sets set k.1 parts.1)) sets
