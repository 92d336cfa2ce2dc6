-- The rows of loaded requirements, by what is kept of them.
use Rattle.std.proofs.Common.{◌≡◌, ℕ, ◌+◌, length-append, Bool, arith, true, false, cond, List, [], ◌∷◌, ◌++◌, map}
use Rattle.std.proofs.Common.{Option, Some, None, refl, ◌∙◌, sym, ap}
use Rattle.std.specs.Prelude.{◌<◌, ◌^◌, vec_len, length, option_map}
use Rattle.std.proofs.Math.Path.{fun_ext}
use Rattle.std.proofs.lemmas.List.{length-map}
use Rattle.std.proofs.lemmas.Map.Made.{lookup-map_values}
use Rattle.clauses.specs.declared.disjunction.Disjunction.{Disjunction}
use Rattle.resolvo_store.proofs.Words.{AllZip, AreFew, Bor, each_same, flat_map, is_some, lists_found, lists_of_loaded}
use Rattle.resolvo_store.proofs.Words.{lists_or_none, Lit, loaded_rows, lookup, option_copied, Requirement, Row, rows}
use Rattle.resolvo_store.proofs.Words.{same_requirement, sets_of, stored_disjunctions, stored_in, Universe, unwrap_or}
use Rattle.resolvo_store.proofs.Words.{Vec, with_entry}
pub use Rattle.resolvo_store.specs.Lists.{items_of}

-- lists have few rows in all
abbrev pub HasFew : List (List ℕ) → Type 0
HasFew lists = length (flat_map (λ list. list) lists) < 2 ^ 40

module _ {A : Type 0} where
  -- a requirement's lists, looked up in what is kept
  pub lookup-kept : (loaded : List (Requirement × Vec (Vec ℕ A) A)) (r : Requirement)
      → lookup (same_requirement r) (lists_of_loaded loaded) ≡ option_map items_of (lookup (same_requirement r) loaded)
  lookup-kept loaded r = lookup-map_values items_of (same_requirement r) loaded

  -- what isn't kept for the abstract store isn't kept
  pub lookup-none : (loaded : List (Requirement × Vec (Vec ℕ A) A)) (r : Requirement) →
      lookup (same_requirement r) (lists_of_loaded loaded) ≡ None → lookup (same_requirement r) loaded ≡ None
  lookup-none loaded r none = by_found (lookup (same_requirement r) loaded) (sym (lookup-kept loaded r) ∙ none)
    where
      by_found : (o : Option (Vec (Vec ℕ A) A)) → option_map items_of o ≡ None → o ≡ None
      by_found None h = refl
      by_found (Some lists) h = (let no : ⊥ = cc in absurd no)

  -- what is kept for it is kept
  pub lookup-some : (loaded : List (Requirement × Vec (Vec ℕ A) A)) (r : Requirement) →
      is_some (lookup (same_requirement r) (lists_of_loaded loaded)) ≡ true →
      is_some (lookup (same_requirement r) loaded) ≡ true
  lookup-some loaded r some = by_found (lookup (same_requirement r) loaded) (ap is_some (sym (lookup-kept loaded r))
      ∙ some)
    where
      by_found : (o : Option (Vec (Vec ℕ A) A)) → is_some (option_map items_of o) ≡ true → is_some o ≡ true
      by_found None h = h
      by_found (Some lists) h = refl

  none_or_items : (o : Option (Vec (Vec ℕ A) A)) → lists_or_none o ≡ unwrap_or (option_map items_of o) []
  none_or_items None = refl
  none_or_items (Some lists) = refl

  found_or_none : (o : Option (Vec (Vec ℕ A) A)) → lists_found o ≡ unwrap_or (option_map items_of o) []
  found_or_none None = refl
  found_or_none (Some lists) = refl

  -- the rows of each requirement are those of the abstract store
  pub rows-kept : {N S : Type 0} (universe : Universe N S) (loaded : List (Requirement × Vec (Vec ℕ A) A))
      → ◌≡◌ {A = Requirement → List Row} (loaded_rows universe loaded)
      (λ r. rows (sets_of universe r) (unwrap_or (lookup (same_requirement r) (lists_of_loaded loaded)) []))
  rows-kept universe loaded = fun_ext (λ r. ap (rows (sets_of universe r))
      (none_or_items (lookup (same_requirement r) loaded) ∙ ap (λ o. unwrap_or o []) (sym (lookup-kept loaded r))))

  -- as many disjunctions are kept as there are
  pub length_disjunctions : (ds : List (Disjunction A)) → length (stored_disjunctions ds) ≡ length ds
  length_disjunctions ds = length-map ds (λ d. record { literals = d.literals.items; condition = d.condition })

  -- the literals of disjunctions are those of the abstract store
  pub disjunctions-kept : (ds : List (Disjunction A)) → map (λ d. d.literals.items) ds
      ≡ map (λ d. d.literals) (stored_disjunctions ds)
  disjunctions-kept [] = refl
  disjunctions-kept (d ∷ ds) = ap (λ ls. d.literals.items ∷ ls) (disjunctions-kept ds)

  -- what clauses refer to by ids is that of the abstract store
  pub literals-kept : (learnt : List (Vec Lit A)) (own : List (List Lit))
      (loaded : List (Requirement × Vec (Vec ℕ A) A)) (disjunctions : List (Disjunction A))
      → map (λ l. l.items) learnt ≡ own
      → stored_in learnt loaded disjunctions ≡ record {
        learnt = own;
        lists =
            λ r. unwrap_or (lookup (same_requirement r) (lists_of_loaded loaded)) [];
        disjunctions =
            map (λ d. d.literals) (stored_disjunctions disjunctions);
      }
  literals-kept learnt own loaded disjunctions same =
      ap (λ ls. record {
        learnt = ls;
        lists = λ r. lists_found (lookup (same_requirement r) loaded);
        disjunctions =
            map (λ d. d.literals.items) disjunctions;
      }) same
      ∙ ap (λ ds. record {
        learnt = own;
        lists = λ r. lists_found (lookup (same_requirement r) loaded);
        disjunctions = ds;
      }) (disjunctions-kept disjunctions)
      ∙ ap (λ lists. record {
        learnt = own;
        lists = lists;
        disjunctions =
            map (λ d. d.literals) (stored_disjunctions disjunctions);
      })
      (fun_ext (λ r. found_or_none (lookup (same_requirement r) loaded)
      ∙ ap (λ o. unwrap_or o []) (sym (lookup-kept loaded r))))

  -- what was found of the lists
  pub items-copied : (o : Option (Bor (Vec (Vec ℕ A) A))) →
      option_map (λ l. items_of l.now) o ≡ option_map items_of (option_copied o)
  items-copied None = refl
  items-copied (Some x) = refl

  -- a clone of lists has the same lists
  pub items-cloned : (lists clone : List (Vec ℕ A)) → AllZip (λ v w. AllZip (λ x y. y ≡ x) v.items w.items
      × (vec_len w ≡ vec_len v)) lists clone
      → map (λ l. l.items) clone ≡ map (λ l. l.items) lists
  items-cloned [] [] same = refl
  items-cloned [] (w ∷ clone) same = absurd same
  items-cloned (v ∷ lists) [] same = absurd same
  items-cloned (v ∷ lists) (w ∷ clone) same =
      ap (λ l. l ∷ map (λ l. l.items) clone) (each_same v.items w.items same.0.0)
      ∙ ap (λ ls. v.items ∷ ls) (items-cloned lists clone same.1)

  -- what is kept once a requirement that had nothing is given its lists
  pub insert-kept : (loaded : List (Requirement × Vec (Vec ℕ A) A)) (r : Requirement) (lists : Vec (Vec ℕ A) A) →
      lookup (same_requirement r) (lists_of_loaded loaded) ≡ None
      → lists_of_loaded (with_entry loaded r lists) ≡ lists_of_loaded loaded ++ (r, items_of lists) ∷ []
  insert-kept [] r lists new = refl
  insert-kept (e ∷ es) r lists new =
      (elim (same_requirement r e.0) as (λ b. cond b (Some (items_of e.1))
      (lookup (same_requirement r) (lists_of_loaded es)) ≡ None
      → lists_of_loaded (cond b ((e.0, lists) ∷ es) (e ∷ with_entry es r lists))
      ≡ lists_of_loaded (e ∷ es) ++ (r, items_of lists) ∷ []) [
        | true ↦ λ h. (let no : ⊥ = cc in absurd no)
        | false ↦ λ h. ap (λ l. (e.0, items_of e.1) ∷ l)
            (insert-kept es r lists h)
      ]) new

  -- ---- few rows

  -- what is loaded has few rows still once a requirement is given lists that have few
  pub few-more : (loaded : List (Requirement × Vec (Vec ℕ A) A)) (r : Requirement) (lists : Vec (Vec ℕ A) A) →
      AreFew loaded → HasFew (items_of lists)
      → AreFew (with_entry loaded r lists)
  few-more loaded r lists few h = λ q. one loaded q (few q)
    where
      Few : Option (Vec (Vec ℕ A) A) → Type 0
      Few o = HasFew (lists_or_none o)

      none : Few None
      none = omega arith

      one : (es : List (Requirement × Vec (Vec ℕ A) A)) (q : Requirement) → Few (lookup (same_requirement q) es)
          → Few (lookup (same_requirement q) (with_entry es r lists))
      one [] q f = (elim (same_requirement q r) as (λ b. Few (cond b (Some lists) None)) [ true ↦ h | false ↦ none ])
      one (e ∷ es) q f = by_test (same_requirement r e.0) (λ k. one es q k)
        where
          Before : Type 0
          Before = Few (lookup (same_requirement q) es)

          After : Type 0
          After = Few (lookup (same_requirement q) (with_entry es r lists))

          replaced : (b : Bool) → Few (cond b (Some e.1) (lookup (same_requirement q) es)) →
              Few (cond b (Some lists) (lookup (same_requirement q) es))
          replaced true k = h
          replaced false k = k

          kept : (b : Bool) → (Before → After) → Few (cond b (Some e.1) (lookup (same_requirement q) es))
              → Few (cond b (Some e.1) (lookup (same_requirement q) (with_entry es r lists)))
          kept true more k = k
          kept false more k = more k

          by_test : (a : Bool) → (Before → After) →
              Few (lookup (same_requirement q) (cond a ((e.0, lists) ∷ es) (e ∷ with_entry es r lists)))
          by_test true more = replaced (same_requirement q e.0) f
          by_test false more = kept (same_requirement q e.0) more f

-- lists of something made of each member are as long
pub length-mapped : {X L Y : Type 0} (members : L → List X) (f : X → Y) (ls : List L)
    → length (flat_map (λ l. map f (members l)) ls) ≡ length (flat_map members ls)
length-mapped members f [] = refl
length-mapped members f (l ∷ ls) =
    length-append (map f (members l)) (flat_map (λ l. map f (members l)) ls)
    ∙ ap (λ n. n + length (flat_map (λ l. map f (members l)) ls)) (length-map (members l) f)
    ∙ ap (λ n. length (members l) + n) (length-mapped members f ls)
    ∙ sym (length-append (members l) (flat_map members ls))
