-- What is counted stays so when more is loaded, and under another function that tells the same false literals.
use Rattle.std.proofs.Common.{◌≡◌, ℕ, zero, suc, ◌<◌, Bool, true, false, cond}
use Rattle.std.proofs.Common.{List, [], ◌∷◌, ◌++◌, length, map, Some, None, IsSome, slice_get, unwrap_or}
use Rattle.std.proofs.Common.{option_map, refl, sym, ap, ◌∙◌, subst, arith}
use Rattle.std.proofs.lemmas.List.{length-append}
use Rattle.std.proofs.lemmas.Option.{none-some, slice_get-map}
use Rattle.falsified_clauses.proofs.Words.{All, Condition, Counted, Counts, Disjunction, group_clause, GroupedClauses}
use Rattle.falsified_clauses.proofs.Words.{GroupKey, IsKnown, KeyedCounters, Lists, lists_found, Lit, literals_of}
use Rattle.falsified_clauses.proofs.Words.{lookup, Parent, Represents, Requirement, row_literals, Rows}
use Rattle.falsified_clauses.proofs.Words.{same_requirement, Vec, with_entry}

-- two functions that say the same of each element of a list
map_same : {X Y : Type 0} (f g : X → Y) (xs : List X) → All (λ x. f x ≡ g x) xs → map f xs ≡ map g xs
map_same f g [] same = refl
map_same f g (x ∷ xs) same =
    let head = same 0 x (omega arith) in
    let rest = map_same f g xs (λ i d l. same (suc i) d (omega (arith, l))) in
    cc

module _ {A : Type 0} (kept : KeyedCounters) (s : Counted A) (counts : Counts kept s) where
  -- lists and disjunctions in which what was known is the same
  pub counts_loaded : (lists : Lists A) (disjunctions : List (Disjunction A))
      → ((key : GroupKey) → IsKnown s.lists s.disjunctions key → IsKnown lists disjunctions key
      × (literals_of s.lists s.disjunctions key ≡ literals_of lists disjunctions key))
      → Counts kept (record s { lists = lists; disjunctions = disjunctions })
  counts_loaded lists disjunctions same =
      let of_groups : List (List Lit) → GroupedClauses = λ groups. record {
        groups = groups;
        clauses = map (group_clause kept.keys) s.clauses;
        is_false = s.is_false;
      } in record {
        represents = subst (λ groups. Represents kept.counters (of_groups groups))
            (map_same (literals_of s.lists s.disjunctions) (literals_of lists disjunctions) kept.keys
            (λ i d l. (same _ (counts.known i d l)).1)) counts.represents;
        grouped = counts.grouped;
        known = λ i d l. (same _ (counts.known i d l)).0;
      }

-- ---- what comes leaves the rest

found_still : {V : Type 0} (es : List (Requirement × V)) (r : Requirement) (v : V) (q : Requirement)
    → lookup (same_requirement r) es ≡ None → IsSome (lookup (same_requirement q) es)
    → lookup (same_requirement q) (with_entry es r v) ≡ lookup (same_requirement q) es
found_still [] r v q new there = absurd (let h : false ≡ true = there in (cc))
found_still (e ∷ es) r v q new there =
    by (same_requirement r e.0) refl (same_requirement q e.0) refl (found_still es r v q)
  where
    by : (b : Bool) → same_requirement r e.0 ≡ b → (t : Bool) → same_requirement q e.0 ≡ t
        → (lookup (same_requirement r) es ≡ None → IsSome (lookup (same_requirement q) es)
        → lookup (same_requirement q) (with_entry es r v) ≡ lookup (same_requirement q) es)
        → lookup (same_requirement q) (cond b ((e.0, v) ∷ es) (e ∷ with_entry es r v))
        ≡ lookup (same_requirement q) (e ∷ es)
    by true eb t et rest =
        absurd (none-some e.1 (sym new ∙ ap (λ x. cond x (Some e.1) (lookup (same_requirement r) es)) eb))
    by false eb true et rest =
        ap (λ x. cond x (Some e.1) (lookup (same_requirement q) (with_entry es r v))) et
        ∙ sym (ap (λ x. cond x (Some e.1) (lookup (same_requirement q) es)) et)
    by false eb false et rest =
        let newer = sym (ap (λ x. cond x (Some e.1) (lookup (same_requirement r) es)) eb) ∙ new in
        let older = subst IsSome (ap (λ x. cond x (Some e.1) (lookup (same_requirement q) es)) et) there in
        ap (λ x. cond x (Some e.1) (lookup (same_requirement q) (with_entry es r v))) et
        ∙ (rest newer older ∙ sym (ap (λ x. cond x (Some e.1) (lookup (same_requirement q) es)) et))

read_left : {X : Type 0} (xs ys : List X) (k : ℕ) → k < length xs → slice_get (xs ++ ys) k ≡ slice_get xs k
read_left [] ys k l = absurd (omega (arith, l))
read_left (x ∷ xs) ys zero l = refl
read_left (x ∷ xs) ys (suc k) l = read_left xs ys k (omega (arith, l))

module _ {A : Type 0} (kept : KeyedCounters) (s : Counted A) (counts : Counts kept s) where
  -- the lists of a requirement that had none
  pub counts_lists : (r : Requirement) (lists : Vec (Vec ℕ A) A) → lookup (same_requirement r) s.lists ≡ None
      → Counts kept (record s { lists = with_entry s.lists r lists })
  counts_lists r lists new = counts_loaded kept s counts (with_entry s.lists r lists) s.disjunctions same
    where
      same : (key : GroupKey) → IsKnown s.lists s.disjunctions key
          → IsKnown (with_entry s.lists r lists) s.disjunctions key
          × (literals_of s.lists s.disjunctions key ≡ literals_of (with_entry s.lists r lists) s.disjunctions key)
      same (Parent parent) is = (tt, refl)
      same (Condition d) is = (is, refl)
      same (Rows q) is =
          let still = found_still s.lists r lists q new is in
          (subst IsSome (sym still) is, ap (λ o. row_literals (lists_found o)) (sym still))

  -- disjunctions at the end
  pub counts_disjunctions : (more : List (Disjunction A))
      → Counts kept (record s { disjunctions = s.disjunctions ++ more })
  counts_disjunctions more = counts_loaded kept s counts s.lists (s.disjunctions ++ more) same
    where
      same : (key : GroupKey) → IsKnown s.lists s.disjunctions key → IsKnown s.lists (s.disjunctions ++ more) key
          × (literals_of s.lists s.disjunctions key ≡ literals_of s.lists (s.disjunctions ++ more) key)
      same (Parent parent) is = (tt, refl)
      same (Rows q) is = (is, refl)
      same (Condition d) is =
          let longer = length-append s.disjunctions more in
          let literals : Disjunction A → List Lit = λ x. x.literals.items in (
            omega (arith, longer, is),
            ap (λ o. unwrap_or o []) (slice_get-map literals s.disjunctions d
                ∙ (ap (option_map literals) (sym (read_left s.disjunctions more d is))
                ∙ sym (slice_get-map literals (s.disjunctions ++ more) d))),
          )
