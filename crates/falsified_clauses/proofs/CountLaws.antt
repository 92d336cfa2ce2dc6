-- What is counted after a key, a clause or a false literal more.
use Rattle.std.proofs.Common.{◌≡◌, ℕ, suc, ◌+◌, ◌*◌, ◌<◌, Bool, not, ◌||◌, ◌&&◌, eqb, List, [], ◌∷◌, ◌++◌}
use Rattle.std.proofs.Common.{length, map, get_or, IsTrue, Some, slice_get, unwrap_or, option_map, Result, IfOk}
use Rattle.std.proofs.Common.{refl, sym, ap, ◌∙◌, subst, arith, inl, inr}
use Rattle.std.proofs.lemmas.Bool.{cases_eq, eq-eqb, ne_eqb}
use Rattle.std.proofs.lemmas.List.{map-append, length-map}
use Rattle.std.proofs.lemmas.List.Elements.{All-push}
use Rattle.std.proofs.lemmas.Option.{slice_get-map}
use Rattle.clause_counters.proofs.ShownLaws.{shows_same}
use Rattle.falsified_clauses.proofs.Words.{AddsClause, AddsGroup, All, Condition, Counted, counted, CounterState}
use Rattle.falsified_clauses.proofs.Words.{Counts, Demand, Disjunction, group_clause, GroupClause, grouped_by}
use Rattle.falsified_clauses.proofs.Words.{GroupedClauses, GroupKey, has_index, HasGroups, IsKnown, IsReady}
use Rattle.falsified_clauses.proofs.Words.{KeepsNumbers, KeyedCounters, keys_of, Lists, Lit, literal_index, literals_of}
use Rattle.falsified_clauses.proofs.Words.{Neg, numbers_in, PlacedDemand, Pos, Represents, same_literal, with_clause}
use Rattle.falsified_clauses.proofs.Words.{with_false, with_group, with_undecided}
use Rattle.falsified_clauses.proofs.KeyLaws.{numbers_pushed}
use Rattle.falsified_clauses.proofs.GroupLaws.{numbers_kept, numbers_there}
use Rattle.clause_counters.specs.GroupedClauses as below

-- ---- nothing

pub counts_none : {A : Type 0} (lists : Lists A) (disjunctions : List (Disjunction A)) (is_false : Lit → Bool)
    (v : CounterState) → Represents v (below.empty is_false)
    → Counts (record { keys = []; counters = v }) (counted lists disjunctions [] is_false)
counts_none lists disjunctions is_false v shows = record {
  represents = shows;
  grouped = λ k d l. absurd (omega (arith, l));
  known = λ k d l. absurd (omega (arith, l));
}

-- ---- more

-- as keys come, clauses keep their groups
clauses_kept : (old new : List GroupKey) → KeepsNumbers old new → (cs : List PlacedDemand)
    → All (λ c. HasGroups old c.demand) cs → map (group_clause new) cs ≡ map (group_clause old) cs
clauses_kept old new keeps [] grouped = refl
clauses_kept old new keeps (c ∷ cs) grouped =
    let head = numbers_kept old new keeps (keys_of c.demand) (grouped 0 c (omega arith)) in
    let rest = clauses_kept old new keeps cs (λ i d l. grouped (suc i) d (omega (arith, l))) in
    let first : List ℕ → List GroupClause =
    λ numbers. (record { groups = numbers; first_of_parent = c.first_of_parent }) ∷ map (group_clause new) cs in
    ap first head ∙ ap (λ more. group_clause old c ∷ more) rest

module _ {A : Type 0} (kept : KeyedCounters) (v : CounterState) (s : Counted A) (counts : Counts kept s) where
  -- the counters keep something else, and show the same
  pub counts_kept : Represents v (grouped_by kept.keys s) → Counts (record { keys = kept.keys; counters = v }) s
  counts_kept shows = record { represents = shows; grouped = counts.grouped; known = counts.known }

  -- the group of a key more
  pub counts_key : (key : GroupKey) → IsKnown s.lists s.disjunctions key
      → Represents v (with_group (literals_of s.lists s.disjunctions key) (grouped_by kept.keys s))
      → Counts (record { keys = kept.keys ++ key ∷ []; counters = v }) s
  counts_key key is shows =
      let literals = literals_of s.lists s.disjunctions in
      let more = kept.keys ++ key ∷ [] in
      let keeps = numbers_pushed kept.keys key in
      let of_groups : List (List Lit) → GroupedClauses = λ groups. record {
        groups = groups;
        clauses = map (group_clause kept.keys) s.clauses;
        is_false = s.is_false;
      } in
      let of_clauses : List GroupClause → GroupedClauses = λ clauses. record {
        groups = map literals more;
        clauses = clauses;
        is_false = s.is_false;
      } in
      let same : with_group (literals key) (grouped_by kept.keys s) ≡ grouped_by more s =
      ap of_groups (sym (map-append literals kept.keys (key ∷ [])))
      ∙ ap of_clauses (sym (clauses_kept kept.keys more keeps s.clauses counts.grouped)) in record {
        represents = subst (Represents v) same shows;
        grouped = λ i d l. numbers_there kept.keys more keeps _ (counts.grouped i d l);
        known = All-push (IsKnown s.lists s.disjunctions) kept.keys key counts.known is;
      }

  -- a clause more, of groups that were prepared
  pub counts_added : (clause : Demand) (first : ℕ) (groups numbers : List ℕ) (number : ℕ)
      → IsReady kept clause groups → numbers ≡ groups → AddsClause kept.counters numbers first number v
      → Counts (record { keys = kept.keys; counters = v }) (with_clause clause first s)
  counts_added clause first groups numbers number ready same adds =
      let more : PlacedDemand = record { demand = clause; first_of_parent = first } in
      let of_clauses : List GroupClause → GroupedClauses = λ clauses. record {
        groups = map (literals_of s.lists s.disjunctions) kept.keys;
        clauses = clauses;
        is_false = s.is_false;
      } in
      let shows = subst (λ ns. Represents v (below.with_clause ns first (grouped_by kept.keys s)))
      (same ∙ ready.numbers) (adds (grouped_by kept.keys s) counts.represents).1 in record {
        represents = subst (Represents v)
            (ap of_clauses (sym (map-append (group_clause kept.keys) s.clauses (more ∷ [])))) shows;
        grouped = All-push (λ (c : PlacedDemand). HasGroups kept.keys c.demand) s.clauses more
            counts.grouped ready.grouped;
        known = counts.known;
      }

  -- the groups of a clause are ready once there is room
  pub ready_is : length v.groups ≡ length kept.counters.groups → IsTrue v.has_room → (clause : Demand)
      (groups : List ℕ) → groups ≡ numbers_in kept.keys clause → HasGroups kept.keys clause
      → IsReady (record { keys = kept.keys; counters = v }) clause groups
  ready_is same room clause groups is has =
      let many : length v.groups ≡ length kept.keys =
      same ∙ (counts.represents.size ∙ length-map kept.keys (literals_of s.lists s.disjunctions)) in record {
        can_add = record {
          within = subst (All (λ group. group < length v.groups)) (sym is)
              (λ i d l. subst (λ n. get_or (numbers_in kept.keys clause) i d < n) (sym many) (has i d l));
          room = room;
        };
        numbers = is;
        grouped = has;
      }

-- ---- the literals of a group

-- a group of the same literals
pub adds_same : {E : Type 0} (old new : CounterState) (is_false : Lit → Bool) (r : Result ℕ E) (ls ms : List Lit) →
    ls ≡ ms
    → IfOk r (λ group. AddsGroup old ls is_false group new) → IfOk r (λ group. AddsGroup old ms is_false group new)
adds_same old new is_false r ls ms same adds =
    subst (λ l. IfOk r (λ group. AddsGroup old l is_false group new)) same adds

-- those of a disjunction
pub disjunction_read : {A : Type 0} (lists : Lists A) (disjunctions : List (Disjunction A)) (d : ℕ)
    (disjunction : Disjunction A) → slice_get disjunctions d ≡ Some disjunction
    → disjunction.literals.items ≡ literals_of lists disjunctions (Condition d)
disjunction_read {A} lists disjunctions d disjunction e =
    let literals : Disjunction A → List Lit = λ x. x.literals.items in
    sym (ap (λ o. unwrap_or o []) (slice_get-map literals disjunctions d ∙ ap (option_map literals) e))

-- ---- false literals

-- whether numbers are equal, read off twice or twice and one
same_half : (v w a b : ℕ) → (v ≡ w → b ≡ a) → (b ≡ a → v ≡ w) → eqb b a ≡ eqb v w
same_half v w a b there back = elim (cases_eq v w) [
  | inl e ↦ eq-eqb b a (there e) ∙ sym (eq-eqb v w e)
  | inr ne ↦ ne_eqb b a (λ e. ne (back e)) ∙ sym (ne_eqb v w ne)
]

-- literals are one exactly if their indexes are
same_index : (l m : Lit) → has_index (literal_index l) m ≡ same_literal l m
same_index (Pos v) (Pos w) = same_half v w (2 * v) (2 * w) (λ e. omega (arith, e)) (λ e. omega (arith, e))
same_index (Neg v) (Neg w) = same_half v w (2 * v + 1) (2 * w + 1) (λ e. omega (arith, e)) (λ e. omega (arith, e))
same_index (Pos v) (Neg w) = ne_eqb (2 * w + 1) (2 * v) (omega arith)
same_index (Neg v) (Pos w) = ne_eqb (2 * w) (2 * v + 1) (omega arith)

module _ {A : Type 0} (keys : List GroupKey) (v : CounterState) (s : Counted A) (l : Lit) where
  pub shows_false : Represents v (below.with_false l (grouped_by keys s)) →
      Represents v (grouped_by keys (with_false l s))
  shows_false shows = shows_same v (below.with_false l (grouped_by keys s)) (with_false l s).is_false
      (λ m. ap (λ b. b || s.is_false m) (same_index l m)) shows

  pub shows_undecided : Represents v (below.with_undecided l (grouped_by keys s))
      → Represents v (grouped_by keys (with_undecided l s))
  shows_undecided shows = shows_same v (below.with_undecided l (grouped_by keys s)) (with_undecided l s).is_false
      (λ m. ap (λ b. not b && s.is_false m) (same_index l m)) shows
