-- What was read stays so as an archive grows.
use Rattle.std.proofs.Common.{◌≡◌, ◌∙◌, ℕ, ◌<◌, ◌≤◌, List, [], ◌∷◌, ◌++◌, None, Some, Option, length, ap, arith}
use Rattle.std.proofs.Common.{refl, subst, sym}
use Rattle.std.proofs.Common.{inl, inr}
use Rattle.std.specs.Prelude.{All}
use Rattle.std.proofs.lemmas.Bool.{cases_lt}
use Rattle.std.proofs.lemmas.List.{length-append}
use Rattle.std.proofs.lemmas.List.Elements.{All-nil, All-weaker}
use Rattle.debian_provider.proofs.Words.{Archive, AreNamed, AreNeeds, AreRead}
use Rattle.debian_provider.proofs.Words.{Dependencies, Err, Global, Ids, IfOk, IsAnswer, IsDemand, IsGrown, IsLater}
use Rattle.debian_provider.proofs.Words.{IsLimit, IsRead, IsThere, IsWhole, IsWider, Known, Needs, needs_of, Ok}
use Rattle.debian_provider.proofs.Words.{option_and_then, option_map, Package, package_in, PackageText, place_in}
use Rattle.debian_provider.proofs.Words.{plain_package, Result, Rules, slice_get, Unknown, Vec}
use Rattle.debian_provider.proofs.Demands.{demand_later, demands_still}
use Rattle.debian_provider.proofs.Later.{later_twice}
use Rattle.debian_provider.proofs.More.{at_end}
use Rattle.debian_provider.proofs.Named.{seen_still, set_still}
use Rattle.debian_provider.proofs.Versions.{place_still}

module _ (p q : Ids) (later : IsLater p q) where
  package_at : (packages : List Package) (o r : Option ℕ) (one : Package)
      → ((place : ℕ) → o ≡ Some place → r ≡ Some place) → option_and_then (slice_get packages) o ≡ Some one
      → option_and_then (slice_get packages) r ≡ Some one
  package_at packages None r one each h = cc
  package_at packages (Some place) r one each h = ap (option_and_then (slice_get packages)) (each place refl) ∙ h

  pub package_still : (packages : List Package) (s : ℕ) (one : Package) → package_in p packages s ≡ Some one
      → package_in q packages s ≡ Some one
  package_still packages s one h =
      package_at packages (place_in p s) (place_in q s) one (λ place. place_still p q later s place) h

  module _ (rules : Rules) where
    pub needs_still : (one : PackageText) (needs : Needs) → AreNeeds rules p one needs → AreNeeds rules q one needs
    needs_still one (Known requirements constrains) h = (
      All-weaker (IsDemand rules p (IsThere rules one)) (IsDemand rules q (IsThere rules one))
          (demand_later p q later rules (IsThere rules one)) requirements h.0,
      All-weaker (IsLimit rules p one) (IsLimit rules q one)
          (λ v l. (l.0, l.1, set_still p q later v l.0 l.1 l.2, l.3)) constrains h.1,
    )
    needs_still one (Unknown reason) h = h

module _ (old new : Archive) (rules : new.rules ≡ old.rules) (later : IsLater old.reached.pool new.reached.pool) where
  read_still : (s : ℕ) → ((needs : Needs) → option_map needs_of (slice_get old.needs.items s) ≡ Some needs
      → option_map needs_of (slice_get new.needs.items s) ≡ Some needs) → IsRead old s → IsRead new s
  read_still s same h = record {
    one = h.one;
    is = subst (λ (r : Rules). package_in new.reached.pool r.packages.now s ≡ Some h.one) (sym rules)
        (package_still old.reached.pool new.reached.pool later old.rules.packages.now s h.one h.is);
    needs = h.needs;
    at = same h.needs h.at;
    so = subst (λ (r : Rules). AreNeeds r new.reached.pool (plain_package h.one) h.needs) (sym rules)
        (needs_still old.reached.pool new.reached.pool later old.rules (plain_package h.one) h.needs h.so);
  }

pub wider_by : (old new : Archive) → IsGrown old new → IsWider old new
wider_by old new grown = record {
  rules = grown.rules;
  later = grown.later;
  named = grown.named;
  read = λ read s lt.
      let same : (needs : Needs) → option_map needs_of (slice_get old.needs.items s) ≡ Some needs
      → option_map needs_of (slice_get new.needs.items s) ≡ Some needs =
      λ needs at. subst (λ v. option_map needs_of (slice_get v.items s) ≡ Some needs) (sym grown.needs) at in
      read_still old new grown.rules grown.later s same
      (read s (subst (λ v. s < length v.items) grown.needs lt));
  required = λ required.
      subst (λ v. All (IsDemand new.rules new.reached.pool (IsAnswer new.rules)) v.items) (sym grown.requirements)
      (demands_still old new grown.rules grown.later IsAnswer old.requirements.items required);
}

pub wider_twice : (a b c : Archive) → IsWider a b → IsWider b c → IsWider a c
wider_twice a b c h k = record {
  rules = k.rules ∙ h.rules;
  later = later_twice a.reached.pool b.reached.pool c.reached.pool h.later k.later;
  named = λ named. subst (λ (r : Rules). AreNamed r b.reached → AreNamed r c.reached) h.rules k.named (h.named named);
  read = λ read. k.read (h.read read);
  required = λ required. k.required (h.required required);
}

pub whole_by : (old new : Archive) → IsWider old new → length new.reached.pool.solvables ≤ length new.needs.items
    → IsWhole old → IsWhole new
whole_by old new wider closed h = record {
  named = subst (λ (r : Rules). AreNamed r new.reached) (sym wider.rules) (wider.named h.named);
  read = wider.read h.read;
  closed = closed;
  required = wider.required h.required;
}

-- what the next solvable needs was read
module _ (old mid : Archive) (grown : IsGrown old mid) (v : Vec (Dependencies Global) Global) (d : Dependencies Global)
    (pushed : v.items ≡ mid.needs.items ++ d ∷ []) (one : Package)
    (is : package_in old.reached.pool old.rules.packages.now (length old.needs.items) ≡ Some one)
    (so : AreNeeds mid.rules mid.reached.pool (plain_package one) (needs_of d)) where
  abbrev With : Archive
  With = record mid { needs = v }

  longer : v.items ≡ old.needs.items ++ d ∷ []
  longer = pushed ∙ ap (λ (w : Vec (Dependencies Global) Global). w.items ++ d ∷ []) grown.needs

  last : IsRead With (length old.needs.items)
  last = record {
    one = one;
    is = subst (λ (r : Rules). package_in mid.reached.pool r.packages.now (length old.needs.items) ≡ Some one)
        (sym grown.rules) (package_still old.reached.pool mid.reached.pool grown.later old.rules.packages.now
        (length old.needs.items) one is);
    needs = needs_of d;
    at = ap (λ (l : List (Dependencies Global)). option_map needs_of (slice_get l (length old.needs.items))) longer
        ∙ ap (option_map needs_of) (at_end old.needs.items d);
    so = so;
  }

  all : AreRead old → AreRead With
  all read s lt = elim (cases_lt s (length old.needs.items)) [
    | inl below ↦
        let same : (needs : Needs) → option_map needs_of (slice_get old.needs.items s) ≡ Some needs
        → option_map needs_of (slice_get v.items s) ≡ Some needs =
        λ needs at. seen_still needs_of old.needs.items v.items s needs (d ∷ [], longer) at in
        read_still old With grown.rules grown.later s same (read s below)
    | inr past ↦
        let count = length-append old.needs.items (d ∷ []) in
        let e : length old.needs.items ≡ s = omega (arith, ap length longer, count, lt, past) in
        subst (IsRead With) e last
  ]

  pub wider_read : IsWider old With
  wider_read = record {
    rules = grown.rules;
    later = grown.later;
    named = grown.named;
    read = all;
    required = (wider_by old mid grown).required;
  }

-- where nothing was read or required before
pub whole_first : (old new : Archive) → IsWider old new → length new.reached.pool.solvables ≤ length new.needs.items
    → AreNamed old.rules old.reached → old.needs.items ≡ [] → old.requirements.items ≡ [] → IsWhole new
whole_first old new wider closed named unread free = record {
  named = subst (λ (r : Rules). AreNamed r new.reached) (sym wider.rules) (wider.named named);
  read = wider.read (λ s lt. absurd (omega (arith, lt, ap length unread)));
  closed = closed;
  required = wider.required (subst (λ l. All (IsDemand old.rules old.reached.pool (IsAnswer old.rules)) l) (sym free)
      (All-nil (IsDemand old.rules old.reached.pool (IsAnswer old.rules))));
}

pub whole_then : {E : Type 0} (r : Result Archive E) (old : Archive) → IfOk r (IsWider old)
    → IfOk r (λ new. length new.reached.pool.solvables ≤ length new.needs.items) → AreNamed old.rules old.reached
    → old.needs.items ≡ [] → old.requirements.items ≡ [] → IfOk r IsWhole
whole_then (Ok new) old wider closed named unread free = whole_first old new wider closed named unread free
whole_then (Err e) old wider closed named unread free = wider

pub rules_then : {E : Type 0} (r : Result Archive E) (old : Archive) (rules : Rules) → old.rules ≡ rules
    → IfOk r (IsWider old) → IfOk r (λ new. new.rules ≡ rules)
rules_then (Ok new) old rules same wider = wider.rules ∙ same
rules_then (Err e) old rules same wider = wider
