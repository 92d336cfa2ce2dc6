-- How the lists by which clauses are found grow.
use Rattle.std.proofs.Common.{◌≡◌, ℕ, ◌+◌, ◌<◌, Bool, true, false, eqb, eq-eqb, eqb-true, ◌⊎◌, inl, inr, List, [], ◌∷◌}
use Rattle.std.proofs.Common.{◌++◌, get_or, take, length, Result, Ok, Err, OnOk, OnErr, sym, refl, ap, ◌∙◌, subst}
use Rattle.std.proofs.lemmas.List.{take_more}
use Rattle.resolvo_queue.proofs.Words.{FoundByAll, GainsNumber, IsUpdate, list_at, Lit, SameValues, Stands, variable_of}
use Rattle.resolvo_queue.proofs.Lists.{append_left, stands_cases, stands_last}

module _ (number : ℕ) where
  pub gains_both : (a b c : List (List ℕ)) → GainsNumber number a b → GainsNumber number b c → GainsNumber number a c
  gains_both a b c f g = record {
    kept = λ v n s. g.kept v n (f.kept v n s);
    added = λ v n s. elim (g.added v n s) [ inl h ↦ f.added v n h | inr e ↦ inr e ];
  }

  pub gains_each : (a b : List (List ℕ)) →
      ((x : ℕ) → (list_at b x ≡ list_at a x ++ number ∷ []) ⊎ (list_at b x ≡ list_at a x)) → GainsNumber number a b
  gains_each a b each = record {
    kept = λ x n s. elim (each x) [
      | inl e ↦ subst (Stands n) (sym e) (append_left (list_at a x) (number ∷ []) n s)
      | inr e ↦ subst (Stands n) (sym e) s
    ];
    added = λ x n s. elim (each x) [
      | inl e ↦ stands_cases (list_at a x) number n (subst (Stands n) e s)
      | inr e ↦ inl (subst (Stands n) e s)
    ];
  }

  pub updated_each : (v : ℕ) (a b : List (List ℕ)) → IsUpdate (list_at a) v (list_at a v ++ number ∷ []) (list_at b) →
      (x : ℕ) → (list_at b x ≡ list_at a x ++ number ∷ []) ⊎ (list_at b x ≡ list_at a x)
  updated_each v a b u x = go (eqb x v) refl
    where
      go : (t : Bool) → eqb x v ≡ t → (list_at b x ≡ list_at a x ++ number ∷ []) ⊎ (list_at b x ≡ list_at a x)
      go true e = inl (subst (λ y. list_at b y ≡ list_at a y ++ number ∷ []) (sym (eqb-true x v e)) u.0)
      go false e = inr (u.1 x (λ s. let bad : eqb x v ≡ true = eq-eqb x v s in cc))

  -- a number put to one list, or refused
  pub gains_pushed : {T E : Type 0} (res : Result T E) (v : ℕ) (a b : List (List ℕ)) →
      OnOk res (IsUpdate (list_at a) v (list_at a v ++ number ∷ []) (list_at b)) →
      OnErr res (SameValues (list_at a) (list_at b)) → GainsNumber number a b
  gains_pushed (Ok x) v a b u s = gains_each a b (updated_each v a b u)
  gains_pushed (Err e) v a b u s = gains_each a b (λ x. inr (s x))

  -- one literal more
  pub found_more : (literals : List Lit) (i : ℕ) (l : Lit) (v : ℕ) (a b : List (List ℕ)) → i < length literals →
      l ≡ get_or literals i l → v ≡ variable_of l →
      IsUpdate (list_at a) v (list_at a v ++ number ∷ []) (list_at b) → FoundByAll number (take i literals) a →
      FoundByAll number (take (i + 1) literals) b
  found_more literals i l v a b within read at u found k s = elim (stands_cases (take i literals) l k
      (subst (Stands k) (take_more literals i l within ∙ ap (λ y. take i literals ++ y ∷ []) (sym read)) s)) [
        | inl h ↦ (gains_each a b (updated_each v a b u)).kept (variable_of k) number (found k h)
        | inr e ↦ subst (λ x. Stands number (list_at b x)) (at ∙ ap variable_of (sym e))
            (subst (Stands number) (sym u.0) (stands_last (list_at a v) number))
      ]
