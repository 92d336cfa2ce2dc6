-- What conditions say that are made of others.
use Rattle.std.proofs.Common.{◌≡◌, ℕ, List, [], ◌∷◌, ◌++◌, Some}
use Rattle.resolvo_pool.specs.Types.Condition.TheVariants.{Requirement}
use Rattle.example_index.proofs.Words.{AllZip, And, Binary, binary, Both, crossed, Either, IsCondition, IsSet, Leaf}
use Rattle.example_index.proofs.Words.{leaf, Lists, normal_form, Or, SetText, slice_get, VersionRange, VersionSetId}
use Rattle.example_index.proofs.Later.{zip_push}

pub zip_append : {A B : Type 0} (P : A → B → Type 0) (xs : List A) (ys : List B) (zs : List A) (ws : List B)
    → AllZip P xs ys → AllZip P zs ws → AllZip P (xs ++ zs) (ys ++ ws)
zip_append P [] [] zs ws h k = k
zip_append P [] (y ∷ ys) zs ws h k = absurd h
zip_append P (x ∷ xs) [] zs ws h k = absurd h
zip_append P (x ∷ xs) (y ∷ ys) zs ws h k = (h.0, zip_append P xs ys zs ws h.1 k)

-- one list crossed with a list of one
crossed_one : {A B : Type 0} (P : A → B → Type 0) (xss yss : List (List A)) (ws : List B) (w : B)
    → AllZip (AllZip P) xss (ws ∷ []) → AllZip (AllZip P) yss ((w ∷ []) ∷ []) → AllZip (AllZip P) (crossed xss yss)
    ((ws ++ w ∷ []) ∷ [])
crossed_one P [] yss ws w h k = absurd h
crossed_one P (xs ∷ ys ∷ xss) yss ws w h k = absurd h.1
crossed_one P (xs ∷ []) [] ws w h k = absurd k
crossed_one P (xs ∷ []) (ys ∷ zs ∷ yss) ws w h k = absurd k.1
crossed_one P (xs ∷ []) ([] ∷ []) ws w h k = absurd k.0
crossed_one P (xs ∷ []) ((y ∷ z ∷ ys) ∷ []) ws w h k = absurd k.0.1
crossed_one P (xs ∷ []) ((y ∷ []) ∷ []) ws w h k = (zip_push P xs ws y w h.0 k.0.0, h.1)

module _ (p : Lists (List ℕ) VersionRange ℕ) where
  pub leaf_condition : (id : ℕ) (v : VersionSetId) (set : SetText) → slice_get p.conditions id ≡ Some
      (Requirement v) → IsSet p v set
      → IsCondition p id ((set ∷ []) ∷ [])
  leaf_condition id v set at h = (Leaf v, leaf v at, ((h, tt), tt))

  pub both_conditions : (id left right : ℕ) (sets : List SetText) (set : SetText) → slice_get p.conditions id ≡ Some
      (Binary And left right)
      → IsCondition p left (sets ∷ []) → IsCondition p right ((set ∷ []) ∷ []) → IsCondition p id
      ((sets ++ set ∷ []) ∷ [])
  both_conditions id left right sets set at l r = (
    Both l.0 r.0,
    binary And left right l.0 r.0 at l.1 r.1,
    crossed_one (IsSet p) (normal_form l.0)
        (normal_form r.0) sets set l.2 r.2,
  )

  pub either_condition : (id left right : ℕ) (lists others : List (List SetText)) → slice_get p.conditions id ≡ Some
      (Binary Or left right)
      → IsCondition p left lists → IsCondition p right others → IsCondition p id (lists ++ others)
  either_condition id left right lists others at l r = (
    Either l.0 r.0,
    binary Or left right l.0 r.0 at l.1 r.1,
    zip_append (AllZip (IsSet p)) (normal_form l.0) lists (normal_form r.0) others l.2 r.2,
  )
