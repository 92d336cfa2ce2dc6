-- What may not be there beside a package, by its conflicts and its name.
use Rattle.std.proofs.Common.{◌≡◌, ◌∙◌, ℕ, zero, suc, ◌<◌, ◌&&◌, not, Bool, true, false, cond, List, [], ◌∷◌}
use Rattle.std.proofs.Common.{◌++◌}
use Rattle.std.proofs.Common.{None, Some, get_or, length, ap, arith, inl, inr, refl, subst, sym}
use Rattle.std.specs.Prelude.{All}
use Rattle.std.specs.Str.{bytes_eq}
use Rattle.std.proofs.lemmas.Bool.{and_from, and_parts, both_ways, cases_order, false_from_ne_true}
use Rattle.std.proofs.lemmas.Bool.{false≢true, or_cases}
use Rattle.std.proofs.lemmas.List.Elements.{All-push, All-weaker}
use Rattle.std.proofs.lemmas.List.Sums.{AllPass-from_list_all}
use Rattle.std.proofs.lemmas.Slice.Eq.{bytes_eq-Decides}
use Rattle.debian_provider.proofs.Words.{Archive, AreLimited, beside, Contains, have_one_name, Ids, is_concerned}
use Rattle.debian_provider.proofs.Words.{is_free_of, is_same, IsEntry, IsFreeFor, IsGrown, IsLater, IsLimit, IsNamed}
use Rattle.debian_provider.proofs.Words.{may_stand_beside, means, name_of, NameText}
use Rattle.debian_provider.proofs.Words.{native_in, PackageText, RelationText, Rules, SetText, Spares, SparesOther}
use Rattle.debian_provider.proofs.Words.{stand_together, VersionSetId}
use Rattle.debian_provider.specs.Sets.{Beside, Spared, has}
use Rattle.debian_provider.proofs.Demands.{four_parts, passes, standing}
use Rattle.debian_provider.proofs.Named.{default, is_set, same_bytes, set_still}

-- CONFLICTS

not_same_back : (a b : List ℕ) → bytes_eq a b ≡ false → bytes_eq b a ≡ false
not_same_back a b apart =
    false_from_ne_true (bytes_eq b a)
    (λ same. both_ways (bytes_eq a b) apart ((bytes_eq-Decides a b).1 (sym (same_bytes b a same))))

not_swapped : (a b : Bool) → not (a && b) ≡ true → not (b && a) ≡ true
not_swapped true true h = h
not_swapped true false h = refl
not_swapped false true h = refl
not_swapped false false h = refl

spared : (native : List ℕ) (one other : PackageText) (r : RelationText) → have_one_name one other ≡ false
    → is_free_of native one r other ≡ true → has native (Spared r) other ≡ true
spared native one other r apart h = elim (or_cases _ _ h) [
  | inl same ↦ absurd (both_ways (have_one_name one other) apart same)
  | inr free ↦ not_swapped (means r other) (is_concerned native other r.qualifier) free
]

pub spares_conflict : (rules : Rules) (one other : PackageText) (own : NameText)
    → bytes_eq other.identity.name one.identity.name ≡ false → (r : RelationText) → IsFreeFor rules one r
    → SparesOther rules one own other (Spared r)
spares_conflict rules one other own apart r free not_own there is_there q in' named =
    let names : q.identity.name ≡ other.identity.name = ap (λ (n : NameText). n.name) named in
    spared (native_in rules) one q r
    (subst (λ (n : List ℕ). bytes_eq one.identity.name n ≡ false) (sym names)
    (not_same_back other.identity.name one.identity.name apart))
    (passes (is_free_of (native_in rules) one r) there q (free there is_there) in')

-- OTHER ARCHITECTURES

stand_at : (native : List ℕ) (there : List PackageText) (i j : ℕ) (d e : PackageText)
    → stand_together native there ≡ true → i < j → j < length there → may_stand_beside native (get_or there i d)
    (get_or there j e) ≡ true
stand_at native [] i j d e h lt in' = absurd (omega arith)
stand_at native (p ∷ rest) i zero d e h lt in' = absurd (omega arith)
stand_at native (p ∷ rest) zero (suc j) d e h lt in' =
    AllPass-from_list_all (may_stand_beside native p) rest (and_parts _ _ h).0 j e (omega arith)
stand_at native (p ∷ rest) (suc i) (suc j) d e h lt in' =
    stand_at native rest i j d e (and_parts _ _ h).1 (omega arith) (omega arith)

not_holds : (b : Bool) → b ≡ true → not b ≡ true → ⊥
not_holds true holds h = false≢true h
not_holds false holds h = false≢true holds

reflexive : (text : List ℕ) → bytes_eq text text ≡ true
reflexive text = (bytes_eq-Decides text text).1 refl

module _ (native : List ℕ) where
  -- what it means that packages of one name stand beside each other
  beside_parts : (p q : PackageText) → have_one_name p q ≡ true → may_stand_beside native p q ≡ true
      → (is_same p.multi_arch ≡ true) × (is_same q.multi_arch ≡ true) × (p.identity.version ≡ q.identity.version)
  beside_parts p q name h = elim (or_cases _ _ h) [
    | inl fails ↦ absurd (not_holds (have_one_name p q) name fails)
    | inr holds ↦ let four = four_parts _ _ _ _ holds in
        (four.0, four.1, same_bytes p.identity.version q.identity.version four.2)
  ]

  beside_has : (one q : PackageText) → is_same one.multi_arch ≡ true → is_same q.multi_arch ≡ true
      → one.identity.version ≡ q.identity.version → has native (beside one) q ≡ true
  beside_has one q same also version =
      subst (λ (b : Bool). has native (Beside (cond b (Some one.identity.version) None)) q ≡ true) (sym same)
      (and_from _ _ also (subst (λ (v : List ℕ). bytes_eq q.identity.version v ≡ true) (sym version)
      (reflexive q.identity.version)))

  beside_at : (there : List PackageText) (one q : PackageText) → stand_together native there ≡ true
      → Contains there one → Contains there q → (one ≡ q → ⊥) → one.identity.name ≡ q.identity.name
      → has native (beside one) q ≡ true
  beside_at there one q h a b apart name =
      let forth : have_one_name one q ≡ true =
      subst (λ (n : List ℕ). bytes_eq one.identity.name n ≡ true) name (reflexive one.identity.name) in
      let back : have_one_name q one ≡ true =
      subst (λ (n : List ℕ). bytes_eq n one.identity.name ≡ true) name (reflexive one.identity.name) in
      elim (cases_order a.0 b.0) [
        | inl same ↦ absurd (apart (sym a.2 ∙ ap (λ k. get_or there k one) same ∙ default there b.0 one q b.1 ∙ b.2))
        | inr other ↦ elim other [
          | inl lt ↦
              let w = beside_parts one q forth (subst (λ x. may_stand_beside native x q ≡ true) a.2
              (subst (λ y. may_stand_beside native (get_or there a.0 one) y ≡ true) b.2
              (stand_at native there a.0 b.0 one q h lt b.1))) in
              beside_has one q w.0 w.1 w.2
          | inr gt ↦
              let w = beside_parts q one back (subst (λ x. may_stand_beside native x one ≡ true) b.2
              (subst (λ y. may_stand_beside native (get_or there b.0 q) y ≡ true) a.2
              (stand_at native there b.0 a.0 q one h gt a.1))) in
              beside_has one q w.1 w.0 (sym w.2)
        ]
      ]

pub spares_beside : (rules : Rules) (one other : PackageText) (own : NameText) → own ≡ name_of (native_in rules) one
    → other.identity.name ≡ one.identity.name → SparesOther rules one own other (beside one)
spares_beside rules one other own is name apart there is_there q in' named =
    beside_at (native_in rules) there one q (standing rules one there is_there) is_there.contains in'
    (λ same. apart (sym named ∙ ap (name_of (native_in rules)) (sym same) ∙ sym is))
    (sym name ∙ sym (ap (λ (n : NameText). n.name) named))

-- LIMITS STAY

module _ (old new : Archive) (grown : IsGrown old new) (one : PackageText) (constrains : List VersionSetId) where
  abbrev InNew : Rules → List VersionSetId → Type 0
  InNew rules more = All (IsLimit rules new.reached.pool one) more

  limit_later : (v : VersionSetId) → IsLimit old.rules old.reached.pool one v → IsLimit old.rules new.reached.pool one v
  limit_later v h = (h.0, h.1, set_still old.reached.pool new.reached.pool grown.later v h.0 h.1 h.2, h.3)

  still : All (IsLimit old.rules old.reached.pool one) constrains → InNew old.rules constrains
  still = All-weaker (IsLimit old.rules old.reached.pool one) (IsLimit old.rules new.reached.pool one) limit_later
      constrains

  pub limited_still : AreLimited old new one constrains constrains
  limited_still h = subst (λ (r : Rules). InNew r constrains) (sym grown.rules) (still h)

  pub limited_more : (v : VersionSetId) → IsLimit old.rules new.reached.pool one v
      → AreLimited old new one constrains (constrains ++ v ∷ [])
  limited_more v more h = subst (λ (r : Rules). InNew r (constrains ++ v ∷ [])) (sym grown.rules)
      (All-push (IsLimit old.rules new.reached.pool one) constrains v (still h) more)

-- a version set of a name that spares what is there beside a package
pub limit_by : (p q : Ids) → IsLater p q → (id : ℕ) (name : NameText) (set : SetText) (v : VersionSetId)
    → IsNamed p id name → IsEntry q v id set → (rules : Rules) (one : PackageText) → Spares rules one name set →
    IsLimit rules q one v
limit_by p q later id name set v named entry rules one spares =
    (name, set, is_set p q later id name set v named entry, spares)
