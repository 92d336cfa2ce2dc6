-- Rows of trees, and the lists that hold them.
use Rattle.std.proofs.Common.{◌≡◌, ◌∙◌, ℕ, zero, suc, ◌+◌, ◌-◌, ◌<◌, ◌≤◌, List, [], ◌∷◌, ◌++◌, length, map}
use Rattle.std.proofs.Common.{arith, refl, sym, ap, subst, get_or, take, drop}
use Rattle.std.proofs.Math.ListN.{set}
use Rattle.std.specs.List.{All, flat_map}
use Rattle.std.specs.List.Sorted.{IsPermutation}
use Rattle.std.proofs.lemmas.List.{append_assoc, get_or_default, map-append, take_all}
use Rattle.std.proofs.lemmas.List.Elements.{All-append, All-cons, All-head, All-nil, All-tail}
use Rattle.std.proofs.lemmas.List.Sorted.{IsPermutation-refl, IsPermutation-trans}
use Rattle.std.proofs.lemmas.List.Sorted.{IsPermutation-append_comm, IsPermutation-append_left}
use Rattle.std.proofs.lemmas.List.Sorted.{IsPermutation-append_right, IsPermutation-cons, IsPermutation-middle}
use Rattle.report_trees.specs.Growing.{grafted, lines_in, moved_below}
use Rattle.report_trees.specs.declared.row.Row.{Row}

-- what is grafted stands behind the row
pub grafted_is : (rows : List Row) (place : ℕ) (row : Row) (branch : List Row) → place < length rows
    → row ≡ get_or rows place row
    → grafted rows place branch ≡ take (place + 1) rows ++ (map (moved_below row) branch ++ drop (place + 1) rows)
grafted_is [] place row branch below at = absurd (omega arith)
grafted_is (r ∷ rows) zero row branch below at =
    ap (λ x. r ∷ (map (moved_below x) branch ++ rows)) (sym at)
grafted_is (r ∷ rows) (suc place) row branch below at =
    ap (λ x. r ∷ x) (grafted_is rows place row branch (omega arith) at)
    ∙ ap (λ n. take n (r ∷ rows) ++ (map (moved_below row) branch ++ drop n (r ∷ rows)))
    (let e : suc (place + 1) ≡ suc place + 1 = omega arith in e)

pub grafted_from : (rows : List Row) (place : ℕ) (d : Row) (branch : List Row) (i : ℕ) (begun back new : List Row)
    → place < length rows → begun ≡ take (place + 1) rows ++ map (moved_below (get_or rows place d)) (take i branch)
    → length branch ≤ i → back ≡ drop (place + 1) rows → new ≡ begun ++ back → new ≡ grafted rows place branch
grafted_from rows place d branch i begun back new below is past rest all =
    let row : Row = get_or rows place d in
    let front = take (place + 1) rows in
    all ∙ (ap (λ t. begun ++ t) rest ∙ (ap (λ t. t ++ drop (place + 1) rows) is
    ∙ (ap (λ t. (front ++ map (moved_below row) t) ++ drop (place + 1) rows) (take_all i branch past)
    ∙ (append_assoc front (map (moved_below row) branch) (drop (place + 1) rows)
    ∙ sym (grafted_is rows place row branch below (get_or_default rows place d row below))))))

-- an insertion into two lists
pub grafted_left : (xs ys : List Row) (place : ℕ) (branch : List Row) → place < length xs
    → grafted (xs ++ ys) place branch ≡ grafted xs place branch ++ ys
grafted_left [] ys place branch below = absurd (omega arith)
grafted_left (x ∷ xs) ys zero branch below =
    ap (λ t. x ∷ t) (sym (append_assoc (map (moved_below x) branch) xs ys))
grafted_left (x ∷ xs) ys (suc place) branch below = ap (λ t. x ∷ t) (grafted_left xs ys place branch (omega arith))

pub grafted_right : (xs ys : List Row) (place : ℕ) (branch : List Row) → length xs ≤ place
    → grafted (xs ++ ys) place branch ≡ xs ++ grafted ys (place - length xs) branch
grafted_right [] ys place branch past = ap (λ n. grafted ys n branch) (let e : place ≡ place - 0 = omega arith in e)
grafted_right (x ∷ xs) ys zero branch past = absurd (omega arith)
grafted_right (x ∷ xs) ys (suc place) branch past =
    ap (λ t. x ∷ t) (grafted_right xs ys place branch (omega arith))
    ∙ ap (λ n. x ∷ (xs ++ grafted ys n branch))
    (let e : place - length xs ≡ suc place - suc (length xs) = omega arith in e)

-- the rows keep their lines
pub lines_moved : (above : Row) (rows : List Row) → lines_in (map (moved_below above) rows) ≡ lines_in rows
lines_moved above [] = refl
lines_moved above (row ∷ rows) = ap (λ t. row.line ∷ t) (lines_moved above rows)

pub lines_grafted : (rows : List Row) (place : ℕ) (branch : List Row) → place < length rows
    → IsPermutation (lines_in branch ++ lines_in rows) (lines_in (grafted rows place branch))
lines_grafted [] place branch below = absurd (omega arith)
lines_grafted (row ∷ rows) zero branch below =
    let P : List ℕ → Type 0 = λ t. IsPermutation (lines_in branch ++ row.line ∷ lines_in rows) (row.line ∷ t) in
    subst P (sym (map-append (λ (r : Row). r.line) (map (moved_below row) branch) rows
    ∙ ap (λ t. t ++ lines_in rows) (lines_moved row branch)))
    (IsPermutation-middle (lines_in branch) row.line (lines_in rows))
lines_grafted (row ∷ rows) (suc place) branch below =
    IsPermutation-trans _ _ _ (IsPermutation-middle (lines_in branch) row.line (lines_in rows))
    (IsPermutation-cons row.line _ _ (lines_grafted rows place branch (omega arith)))

-- what holds of the lines of all rows holds after a move, and after a graft
pub all_moved : (P : ℕ → Type 0) (above : Row) (rows : List Row) → All (λ row. P row.line) rows
    → All (λ row. P row.line) (map (moved_below above) rows)
all_moved P above [] all = all
all_moved P above (row ∷ rows) all =
    let Q : Row → Type 0 = λ r. P r.line in
    All-cons Q (moved_below above row) (map (moved_below above) rows) (All-head Q row rows all)
    (all_moved P above rows (All-tail Q row rows all))

pub all_grafted : (P : ℕ → Type 0) (rows : List Row) (place : ℕ) (branch : List Row)
    → All (λ row. P row.line) rows → All (λ row. P row.line) branch
    → All (λ row. P row.line) (grafted rows place branch)
all_grafted P [] place branch all others = all
all_grafted P (row ∷ rows) zero branch all others =
    let Q : Row → Type 0 = λ r. P r.line in
    All-cons Q row _ (All-head Q row rows all)
    (All-append Q (map (moved_below row) branch) rows (all_moved P row branch others) (All-tail Q row rows all))
all_grafted P (row ∷ rows) (suc place) branch all others =
    let Q : Row → Type 0 = λ r. P r.line in
    All-cons Q row _ (All-head Q row rows all) (all_grafted P rows place branch (All-tail Q row rows all) others)

-- lists of lists: one is taken out, and one comes in its place
module _ {X : Type 0} (f : List X → List ℕ) where
  pub taken_out : (xss : List (List X)) (place : ℕ) → place < length xss → f [] ≡ []
      → IsPermutation (flat_map f xss) (f (get_or xss place []) ++ flat_map f (set xss place []))
  taken_out [] place below empty = absurd (omega arith)
  taken_out (xs ∷ xss) zero below empty =
      let P : List ℕ → Type 0 = λ t. IsPermutation (f xs ++ flat_map f xss) (f xs ++ (t ++ flat_map f xss)) in
      subst P (sym empty) (IsPermutation-refl _)
  taken_out (xs ∷ xss) (suc place) below empty =
      let rest = flat_map f (set xss place []) in
      let one = f (get_or xss place []) in
      IsPermutation-trans _ _ _ (IsPermutation-append_right (f xs) _ _ (taken_out xss place (omega arith) empty))
      (let P : List ℕ → Type 0 = λ t. IsPermutation t (one ++ (f xs ++ rest)) in
      subst P (append_assoc (f xs) one rest)
      (let Q : List ℕ → Type 0 = λ t. IsPermutation ((f xs ++ one) ++ rest) t in
      subst Q (append_assoc one (f xs) rest)
      (IsPermutation-append_left rest _ _ (IsPermutation-append_comm (f xs) one))))

  pub put_in : (xss : List (List X)) (place : ℕ) (extra : List ℕ) (new : List X) → place < length xss
      → IsPermutation (extra ++ f (get_or xss place [])) (f new)
      → IsPermutation (extra ++ flat_map f xss) (flat_map f (set xss place new))
  put_in [] place extra new below grown = absurd (omega arith)
  put_in (xs ∷ xss) zero extra new below grown =
      let P : List ℕ → Type 0 = λ t. IsPermutation t (f new ++ flat_map f xss) in
      subst P (append_assoc extra (f xs) (flat_map f xss)) (IsPermutation-append_left (flat_map f xss) _ _ grown)
  put_in (xs ∷ xss) (suc place) extra new below grown =
      let rest = flat_map f xss in
      let P : List ℕ → Type 0 = λ t. IsPermutation (extra ++ (f xs ++ rest)) t in
      IsPermutation-trans _ (f xs ++ (extra ++ rest)) _
      (subst P (append_assoc (f xs) extra rest)
      (let Q : List ℕ → Type 0 = λ t. IsPermutation t ((f xs ++ extra) ++ rest) in
      subst Q (append_assoc extra (f xs) rest)
      (IsPermutation-append_left rest _ _ (IsPermutation-append_comm extra (f xs)))))
      (IsPermutation-append_right (f xs) _ _ (put_in xss place extra new (omega arith) grown))

  -- what holds of all in each list holds of all
  pub all_in : (P : ℕ → Type 0) (xss : List (List X)) → f [] ≡ []
      → ((place : ℕ) → place < length xss → All P (f (get_or xss place []))) → All P (flat_map f xss)
  all_in P [] empty each = All-nil P
  all_in P (xs ∷ xss) empty each =
      let here : 0 < suc (length xss) = omega arith in
      All-append P (f xs) (flat_map f xss) (each 0 here)
      (all_in P xss empty (λ place below. each (suc place) (let b : suc place < suc (length xss) = omega arith in b)))
