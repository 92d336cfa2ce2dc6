-- Texts that a loop gathers, one for each item of a list.
use Rattle.std.proofs.Common.{◌≡◌, ℕ, ◌+◌, ◌<◌, ◌≤◌, List, [], ◌∷◌, ◌++◌, length, get_or, drop, map, sym, ap, ◌∙◌}
use Rattle.std.proofs.Common.{append_assoc, append-nil}
use Rattle.std.proofs.lemmas.List.{drop_all, drop_more, map_push}

-- what is done and what is left make the whole: at one more, and where nothing is left
module _ {X Y B : Type 0} (f : X → B) (g : Y → B) (done : List X) (ys : List Y) (i : ℕ)
    (h : map f done ++ map g (drop i ys) ≡ map g ys) where
  pub one_more : (new : List X) (x : X) (d : Y) → i < length ys → f x ≡ g (get_or ys i d) → new ≡ done ++ x ∷ []
      → map f new ++ map g (drop (i + 1) ys) ≡ map g ys
  one_more new x d within same e =
      let left : List B = map g (drop (i + 1) ys) in
      let split : map g (drop i ys) ≡ f x ∷ left = ap (map g) (drop_more ys i d within)
      ∙ ap (λ b. b ∷ left) (sym same) in
      ap (λ l. map f l ++ left) e ∙ (ap (λ l. l ++ left) (map_push f done x)
      ∙ (append_assoc (map f done) (f x ∷ []) left ∙ (ap (λ l. map f done ++ l) (sym split) ∙ h)))

  pub none_left : length ys ≤ i → map f done ≡ map g ys
  none_left past = sym (append-nil (map f done)) ∙ (ap (λ l. map f done ++ map g l) (sym (drop_all i ys past)) ∙ h)
