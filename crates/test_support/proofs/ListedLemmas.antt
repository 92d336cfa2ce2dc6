-- One item more of those that are gone over.
use Rattle.std.proofs.Common.{◌≡◌, ℕ, ◌+◌, ◌<◌, ◌==◌, true, false, cond, List, [], ◌∷◌, ◌++◌, length, drop, map, sym}
use Rattle.std.proofs.Common.{ap, ◌∙◌}
use Rattle.std.proofs.lemmas.List.{drop_more, append_assoc}
use Rattle.test_support.specs.declared.listed.Package.{Package}
use Rattle.test_support.specs.Listed.{places_of, package_at}

-- the item at hand and those after it
rest-is : (ps : List Package) (i : ℕ) → i < length ps → drop i ps ≡ package_at ps i ∷ drop (i + 1) ps
rest-is ps i lt = drop_more ps i _ lt

module _ {S : Type 0} (id_of : ℕ → S) where
  pub named_one : (found : List S) (name i : ℕ) (ps : List Package) → i < length ps →
      ((package_at ps i).name == name) ≡ true
      → found ++ map id_of (places_of name i (drop i ps)) ≡ map id_of (places_of name 0 ps)
      → (found ++ id_of i ∷ []) ++ map id_of (places_of name (i + 1) (drop (i + 1) ps))
      ≡ map id_of (places_of name 0 ps)
  named_one found name i ps lt e h =
      append_assoc found (id_of i ∷ []) (map id_of (places_of name (i + 1) (drop (i + 1) ps)))
      ∙ sym (ap (λ b. found ++ map id_of (cond b (i ∷ places_of name (i + 1) (drop (i + 1) ps))
      (places_of name (i + 1) (drop (i + 1) ps)))) e)
      ∙ sym (ap (λ l. found ++ map id_of (places_of name i l)) (rest-is ps i lt)) ∙ h

  pub named_other : (found : List S) (name i : ℕ) (ps : List Package) → i < length ps →
      ((package_at ps i).name == name) ≡ false
      → found ++ map id_of (places_of name i (drop i ps)) ≡ map id_of (places_of name 0 ps)
      → found ++ map id_of (places_of name (i + 1) (drop (i + 1) ps)) ≡ map id_of (places_of name 0 ps)
  named_other found name i ps lt e h =
      sym (ap (λ b. found ++ map id_of (cond b (i ∷ places_of name (i + 1) (drop (i + 1) ps))
      (places_of name (i + 1) (drop (i + 1) ps)))) e)
      ∙ sym (ap (λ l. found ++ map id_of (places_of name i l)) (rest-is ps i lt)) ∙ h
