-- Values that a loop gathers, one for each item of a list.
use Rattle.std.proofs.Common.{◌≡◌, ◌∙◌, ℕ, ◌+◌, ◌<◌, ◌≤◌, List, [], ◌∷◌, ◌++◌, length, get_or, drop, map, refl, sym, ap}
use Rattle.std.proofs.Common.{append_assoc, append-nil}
use Rattle.std.proofs.lemmas.List.{drop_all, drop_more, map_push}
use Rattle.example_json.proofs.Words.{array, Data, items_of}

-- what is done and what is left make the whole: at one more, and where nothing is left
module _ {X Y : Type 0} (f : X → Data) (g : Y → Data) (done : List X) (ys : List Y) (i : ℕ)
    (h : map f done ++ map g (drop i ys) ≡ map g ys) where
  pub one_more : (new : List X) (x : X) (d : Y) → i < length ys → f x ≡ g (get_or ys i d) → new ≡ done ++ x ∷ []
      → map f new ++ map g (drop (i + 1) ys) ≡ map g ys
  one_more new x d within same e =
      let left : List Data = map g (drop (i + 1) ys) in
      let split : map g (drop i ys) ≡ f x ∷ left =
      ap (map g) (drop_more ys i d within) ∙ ap (λ b. b ∷ left) (sym same) in
      ap (λ l. map f l ++ left) e ∙ (ap (λ l. l ++ left) (map_push f done x)
      ∙ (append_assoc (map f done) (f x ∷ []) left ∙ (ap (λ l. map f done ++ l) (sym split) ∙ h)))

  pub all_gathered : length ys ≤ i → array (items_of (map f done)) ≡ array (items_of (map g ys))
  all_gathered past =
      ap (λ l. array (items_of l))
      (sym (append-nil (map f done)) ∙ (ap (λ l. map f done ++ map g l) (sym (drop_all i ys past)) ∙ h))

-- the same of a loop that tells what it has taken: at one more, and where it has taken all
module _ {X Y : Type 0} (f : X → Data) (g : Y → Data) (done : List X) (taken : List Y) (h : map f done ≡ map g taken)
  where
    pub one_taken : (new : List X) (x : X) (y : Y) → f x ≡ g y → new ≡ done ++ x ∷ []
        → map f new ≡ map g (taken ++ y ∷ [])
    one_taken new x y same e =
        ap (map f) e ∙ (map_push f done x ∙ (ap (λ l. l ++ f x ∷ []) h
        ∙ (ap (λ d. map g taken ++ d ∷ []) same ∙ sym (map_push g taken y))))

pub map_twice : {X Y Z : Type 0} (g : Y → Z) (f : X → Y) (xs : List X) → map (λ x. g (f x)) xs ≡ map g (map f xs)
map_twice g f [] = refl
map_twice g f (x ∷ xs) = ap (λ l. g (f x) ∷ l) (map_twice g f xs)
