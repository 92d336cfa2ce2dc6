-- Forests and their rows: a branch comes right below a line.
use Rattle.std.proofs.Common.{◌≡◌, ◌∙◌, ℕ, zero, suc, ◌+◌, ◌-◌, ◌<◌, ◌≤◌, Bool, true, List, ◌∷◌, ◌++◌, length, map}
use Rattle.std.proofs.Common.{Option, None, Some, arith, refl, sym, ap, subst, get_or, inl, inr}
use Rattle.std.specs.List.{All}
use Rattle.std.proofs.lemmas.Bool.{cases_lt}
use Rattle.std.proofs.lemmas.List.{append_assoc, map-append, get_or-append_right, get_or_append_left}
use Rattle.std.proofs.lemmas.List.{length-append}
use Rattle.std.proofs.lemmas.List.Elements.{All-append, All-cons, All-nil}
use Rattle.report_trees.specs.Forests.{AreLed, Forest, all_rows, lines_of, none, rows_of, tree}
use Rattle.report_trees.specs.Growing.{IsOneTree, IsShallow, IsTreeOf, grafted, lines_in, moved_below, parent_or}
use Rattle.report_trees.specs.declared.row.Row.{Row}
use Rattle.report_trees.proofs.RowLemmas.{grafted_left, grafted_right}

-- the trees of both
unfoldable pub joined : Forest → Forest → Forest
joined none others = others
joined (tree line below beside) others = tree line below (joined beside others)

pub rows_joined : (depth : ℕ) (parent : Option ℕ) (forest others : Forest)
    → rows_of depth parent (joined forest others) ≡ rows_of depth parent forest ++ rows_of depth parent others
unfolding joined
rows_joined depth parent none others = refl
rows_joined depth parent (tree line below beside) others =
    let first : Row = record { line = line; depth = depth; parent = parent } in
    ap (λ t. first ∷ (rows_of (depth + 1) (Some line) below ++ t)) (rows_joined depth parent beside others)
    ∙ ap (λ t. first ∷ t) (sym (append_assoc (rows_of (depth + 1) (Some line) below) _ _))

pub lines_of_rows : (depth : ℕ) (parent : Option ℕ) (forest : Forest)
    → lines_in (rows_of depth parent forest) ≡ lines_of forest
lines_of_rows depth parent none = refl
lines_of_rows depth parent (tree line below beside) =
    ap (λ t. line ∷ t) (map-append (λ (r : Row). r.line) (rows_of (depth + 1) (Some line) below) _
    ∙ (ap (λ t. t ++ lines_in (rows_of depth parent beside)) (lines_of_rows (depth + 1) (Some line) below)
    ∙ ap (λ t. lines_of below ++ t) (lines_of_rows depth parent beside)))

pub led_joined : (leads : ℕ → ℕ → Bool) (parent : Option ℕ) (forest others : Forest) → AreLed leads parent forest
    → AreLed leads parent others → AreLed leads parent (joined forest others)
unfolding joined
led_joined leads parent none others led also = also
led_joined leads parent (tree line below beside) others led also =
    (led.0, led.1, led_joined leads parent beside others led.2 also)

-- no row stands deeper than there are rows
deep_in : (top depth : ℕ) (parent : Option ℕ) (forest : Forest) → depth + length (rows_of depth parent forest) ≤ top
    → All (λ row. row.depth < top) (rows_of depth parent forest)
deep_in top depth parent none within = All-nil (λ (row : Row). row.depth < top)
deep_in top depth parent (tree line below beside) within =
    let P : Row → Type 0 = λ row. row.depth < top in
    let under = rows_of (depth + 1) (Some line) below in
    let others = rows_of depth parent beside in
    let both : length (under ++ others) ≡ length under + length others = length-append under others in
    All-cons P _ _ (let here : depth < top = omega arith in here)
    (All-append P under others
    (deep_in top (depth + 1) (Some line) below (omega arith)) (deep_in top depth parent beside (omega arith)))

pub are_shallow : (leads : ℕ → ℕ → Bool) (root : ℕ) (rows : List Row) → IsTreeOf leads root rows → IsShallow rows
are_shallow leads root rows t =
    subst IsShallow (sym t.is) (deep_in (length (all_rows t.forest)) 0 None t.forest (omega arith))

-- rows that come right below another one
pub rows_moved : (above : Row) (depth : ℕ) (parent : Option ℕ) (forest : Forest)
    → map (moved_below above) (rows_of depth parent forest)
    ≡ rows_of (depth + above.depth + 1) (parent_or parent above.line) forest
rows_moved above depth parent none = refl
rows_moved above depth parent (tree line below beside) =
    let deeper : depth + 1 + above.depth + 1 ≡ depth + above.depth + 1 + 1 = omega arith in
    let first : Row = record { line = line; depth = depth + above.depth + 1; parent = parent_or parent above.line } in
    ap (λ t. first ∷ t) (map-append (moved_below above) (rows_of (depth + 1) (Some line) below) _
    ∙ (ap (λ t. t ++ map (moved_below above) (rows_of depth parent beside))
    (rows_moved above (depth + 1) (Some line) below ∙ ap (λ n. rows_of n (Some line) below) deeper)
    ∙ ap (λ t. rows_of (depth + above.depth + 1 + 1) (Some line) below ++ t) (rows_moved above depth parent beside)))

-- a forest with a branch below the row at a place
pub record Grown (leads : ℕ → ℕ → Bool) (depth : ℕ) (parent : Option ℕ) (old : Forest) (place : ℕ) (branch : Forest)
    : Type 0 where
  pub forest : Forest
  pub is : rows_of depth parent forest ≡ grafted (rows_of depth parent old) place (all_rows branch)
  pub led : AreLed leads parent forest
  pub one : (root : ℕ) → IsOneTree root old → IsOneTree root forest

no_rows : (depth : ℕ) (parent : Option ℕ) (forest : Forest) (place : ℕ) → forest ≡ none
    → place < length (rows_of depth parent forest) → ⊥
no_rows depth parent forest place is within =
    let e : length (rows_of depth parent forest) ≡ 0 = ap (λ f. length (rows_of depth parent f)) is in omega arith

module _ (leads : ℕ → ℕ → Bool) (branch : Forest) (depth : ℕ) (parent : Option ℕ) (line : ℕ)
    (below beside : Forest) where
  below_first : AreLed leads parent (tree line below beside) → AreLed leads (Some line) branch
      → Grown leads depth parent (tree line below beside) zero branch
  below_first led branch_led =
      let top : Row = record { line = line; depth = depth; parent = parent } in
      let under = rows_of (depth + 1) (Some line) below in
      let others = rows_of depth parent beside in
      let deeper : 0 + depth + 1 ≡ depth + 1 = omega arith in
      let moved : map (moved_below top) (all_rows branch) ≡ rows_of (depth + 1) (Some line) branch =
      rows_moved top 0 None branch ∙ ap (λ n. rows_of n (Some line) branch) deeper in
      record {
        forest = tree line (joined branch below) beside;
        is = ap (λ t. top ∷ (t ++ others)) (rows_joined (depth + 1) (Some line) branch below)
            ∙ (ap (λ t. top ∷ t) (append_assoc (rows_of (depth + 1) (Some line) branch) under others)
            ∙ ap (λ t. top ∷ (t ++ (under ++ others))) (sym moved));
        led = (led.0, led_joined leads (Some line) branch below branch_led led.1, led.2);
        one = λ root one. one;
      }

  below_row : (place : ℕ) → place < length (rows_of (depth + 1) (Some line) below)
      → AreLed leads parent (tree line below beside) → Grown leads (depth + 1) (Some line) below place branch
      → Grown leads depth parent (tree line below beside) (suc place) branch
  below_row place within led new =
      let top : Row = record { line = line; depth = depth; parent = parent } in
      record {
        forest = tree line new.forest beside;
        is = ap (λ t. top ∷ (t ++ rows_of depth parent beside)) new.is
            ∙ ap (λ t. top ∷ t) (sym (grafted_left (rows_of (depth + 1) (Some line) below) _ place _ within));
        led = (led.0, new.led, led.2);
        one = λ root one. one;
      }

  beside_row : (place : ℕ) → length (rows_of (depth + 1) (Some line) below) ≤ place
      → place - length (rows_of (depth + 1) (Some line) below) < length (rows_of depth parent beside)
      → AreLed leads parent (tree line below beside)
      → Grown leads depth parent beside (place - length (rows_of (depth + 1) (Some line) below)) branch
      → Grown leads depth parent (tree line below beside) (suc place) branch
  beside_row place past within led new =
      let top : Row = record { line = line; depth = depth; parent = parent } in
      let under = rows_of (depth + 1) (Some line) below in
      record {
        forest = tree line below new.forest;
        is = ap (λ t. top ∷ (under ++ t)) new.is
            ∙ ap (λ t. top ∷ t) (sym (grafted_right under (rows_of depth parent beside) place _ past));
        led = (led.0, led.1, new.led);
        one = λ root one. absurd (no_rows depth parent beside _ one.1 within);
      }

pub grows : (leads : ℕ → ℕ → Bool) (branch : Forest) (row : Row) (depth : ℕ) (parent : Option ℕ) (old : Forest)
    (place : ℕ) → place < length (rows_of depth parent old) → row ≡ get_or (rows_of depth parent old) place row
    → AreLed leads (Some row.line) branch → AreLed leads parent old → Grown leads depth parent old place branch
grows leads branch row depth parent none place within at branch_led led = absurd (omega arith)
grows leads branch row depth parent (tree line below beside) zero within at branch_led led =
    below_first leads branch depth parent line below beside led
    (let P : Row → Type 0 = λ r. AreLed leads (Some r.line) branch in subst P at branch_led)
grows leads branch row depth parent (tree line below beside) (suc place) within at branch_led led =
    let under = rows_of (depth + 1) (Some line) below in
    let others = rows_of depth parent beside in
    let both : length (under ++ others) ≡ length under + length others = length-append under others in
    elim (cases_lt place (length under)) [
      | inl here ↦ below_row leads branch depth parent line below beside place here led
          (grows leads branch row (depth + 1) (Some line) below place here
          (at ∙ get_or_append_left under others row place here) branch_led led.1)
      | inr past ↦
          let within_others : place - length under < length others = omega arith in
          beside_row leads branch depth parent line below beside place past within_others led
          (grows leads branch row depth parent beside (place - length under) within_others
          (at ∙ get_or-append_right under others (length under) place row refl past) branch_led led.2)
    ]

-- the tree of a line is led to by a row that leads to the line
branch_is_led : (leads : ℕ → ℕ → Bool) (root line : ℕ) (branch : Forest) → leads line root ≡ true
    → IsOneTree root branch → AreLed leads None branch → AreLed leads (Some line) branch
branch_is_led leads root line none leads_there one led = tt
branch_is_led leads root line (tree first below beside) leads_there one led =
    let P : Forest → Type 0 = λ f. AreLed leads (Some line) f in
    (ap (leads line) one.0 ∙ leads_there, led.1, subst P (sym one.1) tt)

-- a tree with a branch is that of its line
pub grown_tree : (leads : ℕ → ℕ → Bool) (root line : ℕ) (rows branch : List Row) (place : ℕ) (row : Row)
    → IsTreeOf leads root rows → IsTreeOf leads line branch → place < length rows → row ≡ get_or rows place row
    → leads row.line line ≡ true → IsTreeOf leads root (grafted rows place branch)
grown_tree leads root line rows branch place row t b within at leads_there =
    let new : Grown leads 0 None t.forest place b.forest =
    grows leads b.forest row 0 None t.forest place
    (let P : List Row → Type 0 = λ rs. place < length rs in subst P t.is within)
    (let P : List Row → Type 0 = λ rs. row ≡ get_or rs place row in subst P t.is at)
    (branch_is_led leads line row.line b.forest leads_there b.one b.led) t.led in
    record {
      forest = new.forest;
      one = new.one root t.one;
      is = ap (λ rs. grafted rs place branch) t.is
          ∙ (ap (λ bs. grafted (all_rows t.forest) place bs) b.is ∙ sym new.is);
      led = new.led;
    }
