-- How lines grow together.
use Rattle.std.proofs.Common.{◌≡◌, ◌≢◌, ◌∙◌, ℕ, zero, suc, ◌+◌, ◌<◌, ◌≤◌, Bool, true, false, List, [], ◌∷◌, ◌++◌}
use Rattle.std.proofs.Common.{arith, refl, sym, ap, subst, inl, inr, length, map, get_or}
use Rattle.std.proofs.Common.{None, Some, Contains, true≢false}
use Rattle.std.proofs.Math.ListN.{set}
use Rattle.std.specs.List.{All, flat_map, range_with_len}
use Rattle.std.specs.List.Sorted.{IsPermutation}
use Rattle.std.proofs.lemmas.Bool.{cases_lt, cases_eq}
use Rattle.std.proofs.lemmas.List.{get_or-set_same, get_or-set_other, get_or_default, get_or_past, length-set}
use Rattle.std.proofs.lemmas.List.{append-nil}
use Rattle.std.proofs.lemmas.List.{get_or-map, length-map, map-append, map-set}
use Rattle.std.proofs.lemmas.List.FromFn.{map-range_with_len_more}
use Rattle.std.proofs.lemmas.List.Elements.{All-contains_itself, All-map, All-nil, All-weaker}
use Rattle.std.proofs.lemmas.List.Sorted.{IsPermutation-refl, IsPermutation-trans}
use Rattle.report_trees.specs.Forests.{AreLed, Forest, HasOwnRoots, all_rows, lines_of, none, rows_of, tree}
use Rattle.report_trees.specs.Growing.{AreRows, IsGrowing, IsOneTree, IsTreeOf, LeadNotTo, LeadsFrom, grafted}
use Rattle.report_trees.specs.Growing.{lines_in, lists, single_trees}
use Rattle.std.specs.declared.vec.Vec.{Vec}
use Rattle.report_trees.specs.declared.growing.Spot.{Spot}
use Rattle.report_trees.specs.declared.row.Row.{Row}
use Rattle.report_trees.proofs.ForestLemmas.{grown_tree, lines_of_rows}
use Rattle.report_trees.proofs.RowLemmas.{all_grafted, all_in, lines_grafted, put_in, taken_out}

module _ (leads : ℕ → ℕ → Bool) where
  -- no row of another tree leads to the line
  pub stays : (line : ℕ) (trees : List (List Row)) → IsGrowing leads (line + 1) trees
      → ((other : ℕ) → other ≢ line → LeadNotTo leads line (get_or trees other [])) → IsGrowing leads line trees
  stays line trees growing none_leads = record {
    trees_of = growing.trees_of;
    each_once = growing.each_once;
    own_roots = λ root other from apart there.
        elim (cases_lt line root) [
          | inl past ↦ growing.own_roots root other (omega arith) apart there
          | inr here ↦
              let same : line ≡ root = omega arith in
              let P : ℕ → Type 0 = λ l. other ≢ l → LeadNotTo leads l (get_or trees other []) in
              subst P same (none_leads other) apart
        ];
  }

  no_tree : (root : ℕ) → IsTreeOf leads root []
  no_tree root = record { forest = none; one = tt; is = refl; led = tt }

  -- a row of another tree does: the line's tree comes right below it
  module _ (line : ℕ) (trees : List (List Row)) (spot : Spot) (growing : IsGrowing leads (line + 1) trees)
      (within : line < length trees) (found : LeadsFrom leads line trees spot) where
    abbrev with_branch : List Row
    with_branch = grafted (get_or trees spot.tree []) spot.row (get_or trees line [])

    abbrev after : List (List Row)
    after = set (set trees line []) spot.tree with_branch

    at_line : get_or after line [] ≡ []
    at_line =
        let apart : line ≢ spot.tree = λ e. found.other (sym e) in
        get_or-set_other (set trees line []) spot.tree line with_branch [] apart
        ∙ get_or-set_same trees line [] [] within

    at_tree : get_or after spot.tree [] ≡ with_branch
    at_tree =
        let there = found.within in
        let same : length (set trees line []) ≡ length trees = length-set trees line [] in
        get_or-set_same (set trees line []) spot.tree with_branch [] (omega arith)

    at_other : (k : ℕ) → k ≢ line → k ≢ spot.tree → get_or after k [] ≡ get_or trees k []
    at_other k apart others =
        get_or-set_other (set trees line []) spot.tree k with_branch [] others
        ∙ get_or-set_other trees line k [] [] apart

    tree_after : (k : ℕ) → IsTreeOf leads k (get_or after k [])
    tree_after k =
        let P : List Row → Type 0 = λ rows. IsTreeOf leads k rows in
        elim (cases_eq k line) [
          | inl here ↦
              subst P (sym (ap (λ n. get_or after n []) here ∙ at_line)) (no_tree k)
          | inr apart ↦
              elim (cases_eq k spot.tree) [
                | inl there ↦
                    let rows = get_or trees spot.tree [] in
                    let first : Row = record { line = line; depth = 0; parent = None } in
                    let row : Row = get_or rows spot.row first in
                    let Q : ℕ → Type 0 = λ n. IsTreeOf leads n rows in
                    subst P (sym (ap (λ n. get_or after n []) there ∙ at_tree))
                    (grown_tree leads k line rows (get_or trees line []) spot.row row
                    (subst Q (sym there) (growing.trees_of spot.tree)) (growing.trees_of line) found.row_within
                    (get_or_default rows spot.row first row found.row_within) (found.leads_there first))
                | inr others ↦ subst P (sym (at_other k apart others)) (growing.trees_of k)
              ]
        ]

    lines_after : IsPermutation (range_with_len 0 (length after)) (flat_map lines_in after)
    lines_after =
        let same : length after ≡ length trees =
        length-set (set trees line []) spot.tree with_branch ∙ length-set trees line [] in
        let there = found.within in
        let one : length (set trees line []) ≡ length trees = length-set trees line [] in
        let rows = get_or trees spot.tree [] in
        let branch : List ℕ = lines_in (get_or trees line []) in
        let P : List Row → Type 0 = λ t. IsPermutation (branch ++ lines_in t) (lines_in with_branch) in
        let Q : ℕ → Type 0 = λ n. IsPermutation (range_with_len 0 n) (flat_map lines_in after) in
        subst Q (sym same)
        (IsPermutation-trans _ _ _ growing.each_once
        (IsPermutation-trans _ _ _ (taken_out lines_in trees line within refl)
        (put_in lines_in (set trees line []) spot.tree (lines_in (get_or trees line [])) with_branch (omega arith)
        (subst P (sym (get_or-set_other trees line spot.tree [] [] found.other))
        (lines_grafted rows spot.row (get_or trees line []) found.row_within)))))

    -- a tree that was there
    was_there : (root : ℕ) → root ≢ line → get_or after root [] ≢ [] → get_or trees root [] ≢ []
    was_there root apart there empty =
        elim (cases_eq root spot.tree) [
          | inl here ↦
              let none_there : length (get_or trees spot.tree []) ≡ 0 =
              ap length (ap (λ n. get_or trees n []) (sym here) ∙ empty) in
              let some = found.row_within in
              absurd (omega arith)
          | inr others ↦ there (at_other root apart others ∙ empty)
        ]

    own_after : (root other : ℕ) → line ≤ root → other ≢ root → get_or after root [] ≢ []
        → LeadNotTo leads root (get_or after other [])
    own_after root other from apart there =
        let P : List Row → Type 0 = λ rows. LeadNotTo leads root rows in
        elim (cases_eq root line) [
          | inl here ↦ absurd (there (ap (λ n. get_or after n []) here ∙ at_line))
          | inr beside ↦
              let past : line + 1 ≤ root = omega arith in
              let old : (o : ℕ) → o ≢ root → LeadNotTo leads root (get_or trees o []) =
              λ o differs. growing.own_roots root o past differs (was_there root beside there) in
              elim (cases_eq other line) [
                | inl gone ↦
                    subst P (sym (ap (λ n. get_or after n []) gone ∙ at_line))
                    (All-nil (λ (row : Row). leads row.line root ≡ false))
                | inr kept ↦
                    elim (cases_eq other spot.tree) [
                      | inl grown ↦
                          subst P (sym (ap (λ n. get_or after n []) grown ∙ at_tree))
                          (all_grafted (λ l. leads l root ≡ false) (get_or trees spot.tree []) spot.row _
                          (old spot.tree (λ e. apart (grown ∙ e))) (old line (λ e. beside (sym e))))
                      | inr same ↦ subst P (sym (at_other other kept same)) (old other apart)
                    ]
              ]
        ]

    pub attached : IsGrowing leads line after
    attached = record { trees_of = tree_after; each_once = lines_after; own_roots = own_after }

  -- a tree for each line
  abbrev singles : ℕ → ℕ → List (List Row)
  singles from count = map (λ line. record { line = line; depth = 0; parent = None } ∷ []) (range_with_len from count)

  single : (from count k line : ℕ) → from + k ≡ line → IsTreeOf leads line (get_or (singles from count) k [])
  single from zero k line is = no_tree line
  single from (suc count) zero line is =
      record { forest = tree from none none; one = (omega arith, refl); is = refl; led = (tt, tt, tt) }
  single from (suc count) (suc k) line is = single (from + 1) count k line (omega arith)

  lines_single : (from count : ℕ) → flat_map lines_in (singles from count) ≡ range_with_len from count
  lines_single from zero = refl
  lines_single from (suc count) = ap (λ t. from ∷ t) (lines_single (from + 1) count)

  length_single : (from count : ℕ) → length (singles from count) ≡ count
  length_single from zero = refl
  length_single from (suc count) = ap suc (length_single (from + 1) count)

  pub length_of_single : {A : Type 0} (trees : List (Vec Row A)) (count : ℕ) → lists trees ≡ single_trees count
      → length trees ≡ count
  length_of_single {A} trees count is =
      sym (length-map trees (λ (v : Vec Row A). v.items)) ∙ (ap length is ∙ length_single 0 count)

  pub begins : (count from : ℕ) (trees : List (List Row)) → trees ≡ single_trees count → count ≤ from
      → IsGrowing leads from trees
  begins count from trees is past =
      let P : List (List Row) → Type 0 = λ ts. IsGrowing leads from ts in
      let Q : ℕ → Type 0 = λ n. IsPermutation (range_with_len 0 n) (flat_map lines_in (singles 0 count)) in
      subst P (sym is) (record {
        trees_of = λ line. single 0 count line line (omega arith);
        each_once = subst Q (sym (length_single 0 count))
            (let R : List ℕ → Type 0 = λ t. IsPermutation (range_with_len 0 count) t in
            subst R (sym (lines_single 0 count)) (IsPermutation-refl (range_with_len 0 count)));
        own_roots = λ line other from' apart there.
            let all : length (singles 0 count) ≡ count = length_single 0 count in
            absurd (there (get_or_past (singles 0 count) line [] (omega arith)));
      })

  -- the forest of all trees
  record Collected (all : List ℕ) (trees : List (List Row)) : Type 0 where
    forest : Forest
    is : flat_map (λ rows. rows) trees ≡ all_rows forest
    lines : flat_map lines_in trees ≡ lines_of forest
    led : AreLed leads None forest
    own : HasOwnRoots leads all forest

  abbrev LeadHere : List Row → ℕ → List ℕ → Type 0
  LeadHere rows root all = All (λ other. leads other root ≡ true → Contains (lines_in rows) other) all

  with_first : (all : List ℕ) (rows : List Row) (trees : List (List Row)) (root : ℕ) (forest : Forest)
      → IsOneTree root forest → rows ≡ all_rows forest → AreLed leads None forest
      → (rows ≢ [] → LeadHere rows root all) → Collected all trees → Collected all (rows ∷ trees)
  with_first all rows trees root none one is led here rest = record {
    forest = rest.forest;
    is = ap (λ r. r ++ flat_map (λ rs. rs) trees) is ∙ rest.is;
    lines = ap (λ r. lines_in r ++ flat_map lines_in trees) is ∙ rest.lines;
    led = rest.led;
    own = rest.own;
  }
  with_first all rows trees root (tree line below beside) one is led here rest =
      let top : Row = record { line = line; depth = 0; parent = None } in
      let under = rows_of 1 (Some line) below in
      let alone : rows ≡ top ∷ under =
      is ∙ (ap (λ f. top ∷ (under ++ rows_of 0 None f)) one.1 ∙ ap (λ t. top ∷ t) (append-nil under)) in
      let its_lines : lines_in rows ≡ line ∷ lines_of below =
      ap lines_in alone ∙ ap (λ t. line ∷ t) (lines_of_rows 1 (Some line) below) in
      let some : rows ≢ [] = λ empty. (let e : top ∷ under ≡ [] = sym alone ∙ empty in cc) in
      let P : ℕ → List ℕ → Type 0 = λ l ls. All (λ other. leads other l ≡ true → Contains ls other) all in
      record {
        forest = tree line below rest.forest;
        is = ap (λ r. r ++ flat_map (λ rs. rs) trees) alone ∙ ap (λ t. top ∷ (under ++ t)) rest.is;
        lines = ap (λ r. r ++ flat_map lines_in trees) its_lines ∙ ap (λ t. line ∷ (lines_of below ++ t)) rest.lines;
        led = (tt, led.1, rest.led);
        own = (
          subst (λ l. P l (line ∷ lines_of below)) (sym one.0)
              (subst (P root) its_lines (here some)),
          rest.own,
        );
      }

  collected : (all : List ℕ) (from : ℕ) (trees : List (List Row))
      → ((k line : ℕ) → from + k ≡ line → IsTreeOf leads line (get_or trees k []))
      → ((k line : ℕ) → from + k ≡ line → get_or trees k [] ≢ [] → LeadHere (get_or trees k []) line all)
      → Collected all trees
  collected all from [] trees_of here =
      record { forest = none; is = refl; lines = refl; led = tt; own = tt }
  collected all from (rows ∷ trees) trees_of here =
      let t : IsTreeOf leads from rows = trees_of 0 from (omega arith) in
      with_first all rows trees from t.forest t.one t.is t.led (here 0 from (omega arith))
      (collected all (from + 1) trees (λ k line is. trees_of (suc k) line (omega arith))
      (λ k line is. here (suc k) line (omega arith)))

  -- only a tree's own lines lead to its root
  own_lines : (trees : List (List Row)) (line : ℕ) → IsGrowing leads 0 trees → get_or trees line [] ≢ []
      → LeadHere (get_or trees line []) line (flat_map lines_in trees)
  own_lines trees line growing there =
      let own = lines_in (get_or trees line []) in
      let P : ℕ → Type 0 = λ other. leads other line ≡ true → Contains own other in
      all_in lines_in P trees refl (λ place within.
      elim (cases_eq place line) [
        | inl here ↦
            subst (λ (k : ℕ). All P (lines_in (get_or trees k []))) (sym here)
            (All-weaker (Contains own) P (λ other contains leads_there. contains) own (All-contains_itself own))
        | inr apart ↦
            let rows = get_or trees place [] in
            All-map P (λ (row : Row). row.line) rows
            (All-weaker (λ (row : Row). leads row.line line ≡ false) (λ (row : Row). P row.line)
            (λ row no yes. absurd (true≢false (sym yes ∙ no))) rows
            (growing.own_roots line place (let from : 0 ≤ line = omega arith in from) apart there))
      ])

  pub all_grown : (trees : List (List Row)) (rows : List Row) → IsGrowing leads 0 trees
      → rows ≡ flat_map (λ t. t) trees → AreRows leads (length trees) rows
  all_grown trees rows growing are =
      let all = flat_map lines_in trees in
      let c : Collected all trees =
      collected all 0 trees (λ k line is. (let P : ℕ → Type 0 = λ l. IsTreeOf leads l (get_or trees k []) in
      let e : k ≡ line = omega arith in subst P e (growing.trees_of k)))
      (λ k line is there. (let P : ℕ → Type 0 = λ l. LeadHere (get_or trees k []) l all in
      let e : k ≡ line = omega arith in subst P e (own_lines trees k growing there))) in
      record {
        forest = c.forest;
        is_forest = record {
          each_once = (let P : List ℕ → Type 0 = λ t. IsPermutation (range_with_len 0 (length trees)) t in
              subst P c.lines growing.each_once);
          led = c.led;
          own_roots = (let P : List ℕ → Type 0 = λ t. HasOwnRoots leads t c.forest in subst P c.lines c.own);
        };
        is = are ∙ c.is;
      }

-- vectors, and their items
pub items_of_lists : {X A : Type 0} (vectors : List (Vec X A))
    → flat_map (λ v. v.items) vectors ≡ flat_map (λ t. t) (lists vectors)
items_of_lists [] = refl
items_of_lists (v ∷ vectors) = ap (λ t. v.items ++ t) (items_of_lists vectors)

pub list_at : {X A : Type 0} (vectors : List (Vec X A)) (place : ℕ) (seen : Vec X A) → place < length vectors
    → seen ≡ get_or vectors place seen → seen.items ≡ get_or (lists vectors) place []
list_at {X} {A} vectors place seen within is =
    ap (λ v. v.items) is ∙ sym (get_or-map (λ (v : Vec X A). v.items) vectors place seen [] within)

pub other_list_at : {X A : Type 0} (vectors : List (Vec X A)) (line place : ℕ) (gone seen : Vec X A) → place ≢ line
    → place < length (lists vectors) → seen ≡ get_or (set vectors line gone) place seen
    → seen.items ≡ get_or (lists vectors) place []
other_list_at {X} {A} vectors line place gone seen other within is =
    let all : length (set vectors line gone) ≡ length vectors = length-set vectors line gone in
    let same : length (lists vectors) ≡ length vectors = length-map vectors (λ (v : Vec X A). v.items) in
    list_at (set vectors line gone) place seen (omega arith) is
    ∙ (ap (λ t. get_or t place []) (map-set (λ (v : Vec X A). v.items) vectors line gone)
    ∙ get_or-set_other (lists vectors) line place gone.items [] other)

pub one_more : {A : Type 0} (trees : List (Vec Row A)) (single : Vec Row A) (line : ℕ)
    → lists trees ≡ single_trees line → single.items ≡ record { line = line; depth = 0; parent = None } ∷ []
    → lists (trees ++ single ∷ []) ≡ single_trees (line + 1)
one_more {A} trees single line are is =
    map-append (λ (v : Vec Row A). v.items) trees (single ∷ [])
    ∙ (ap (λ t. t ++ single.items ∷ []) are ∙ (ap (λ i. single_trees line ++ i ∷ []) is
    ∙ sym (map-range_with_len_more
    (λ l. (let row : Row = record { line = l; depth = 0; parent = None } in row ∷ [])) 0 line line (omega arith))))

pub attach_is : {A : Type 0} (leads : ℕ → ℕ → Bool) (vectors : List (Vec Row A)) (line : ℕ) (spot : Spot)
    (gone new : Vec Row A) (rows branch : List Row) → gone.items ≡ []
    → rows ≡ get_or (lists vectors) spot.tree [] → branch ≡ get_or (lists vectors) line []
    → new.items ≡ grafted rows spot.row branch → IsGrowing leads (line + 1) (lists vectors) → line < length vectors
    → LeadsFrom leads line (lists vectors) spot
    → IsGrowing leads line (lists (set (set vectors line gone) spot.tree new))
attach_is {A} leads vectors line spot gone new rows branch empty rows_are branch_is is growing within found =
    let items : Vec Row A → List Row = λ v. v.items in
    let same : length (lists vectors) ≡ length vectors = length-map vectors items in
    let P : List (List Row) → Type 0 = λ ts. IsGrowing leads line ts in
    let all = lists vectors in
    subst P (sym (map-set items (set vectors line gone) spot.tree new
    ∙ (ap (λ t. set t spot.tree new.items) (map-set items vectors line gone)
    ∙ (ap (λ x. set (set all line x) spot.tree new.items) empty
    ∙ (ap (λ x. set (set all line []) spot.tree x) is
    ∙ (ap (λ x. set (set all line []) spot.tree (grafted x spot.row branch)) rows_are
    ∙ ap (λ x. set (set all line []) spot.tree (grafted (get_or all spot.tree []) spot.row x)) branch_is))))))
    (attached leads line all spot growing (omega arith) found)

pub grown_from : {A : Type 0} (leads : ℕ → ℕ → Bool) (vectors seen : List (Vec Row A)) (rows : List Row)
    (line count : ℕ)
    → line ≤ 0 → IsGrowing leads line (lists vectors) → length vectors ≡ count → seen ≡ vectors
    → rows ≡ flat_map (λ v. v.items) seen → AreRows leads count rows
grown_from {A} leads vectors seen rows line count done growing same shown are =
    let zero_is : line ≡ 0 = omega arith in
    let P : ℕ → Type 0 = λ n. AreRows leads n rows in
    let Q : ℕ → Type 0 = λ n. IsGrowing leads n (lists vectors) in
    subst P (length-map vectors (λ (v : Vec Row A). v.items) ∙ same)
    (all_grown leads (lists vectors) rows (subst Q zero_is growing)
    (are ∙ (ap (λ vs. flat_map (λ v. v.items) vs) shown ∙ items_of_lists vectors)))
