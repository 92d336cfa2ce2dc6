-- What a group more leaves, and a clause more.
use Rattle.std.proofs.Common.{◌≡◌, ℕ, ◌+◌, ◌≤◌, Bool, cond, eqb, List, [], ◌∷◌, ◌++◌, length}
use Rattle.std.proofs.Common.{get_or}
use Rattle.std.proofs.Common.{refl, sym, ap, ◌∙◌, subst, arith}
use Rattle.std.proofs.lemmas.List.{length_push, length-map, map_push}
use Rattle.clause_counters.proofs.Words.{All, AreFlagged, clause_lists, count, counters_in, Group, group_at}
use Rattle.clause_counters.proofs.Words.{GroupClause, GroupedClauses, Link, Lit, literal_at, literal_index}
use Rattle.clause_counters.proofs.Words.{literal_index-injective, literal_index-literal_at, no_group, no_group_clause}
use Rattle.clause_counters.proofs.Words.{numbers_at, once, Represents, Standing, standing_at, Stood, stood_at}
use Rattle.clause_counters.proofs.Words.{with_clause, with_group}
use Rattle.clause_counters.proofs.ListLaws.{pushed_field, pushed_count}
use Rattle.clause_counters.proofs.FlagLaws.{stood_kept}
use Rattle.clause_counters.proofs.ShownLaws.{clauses_kept}

-- a group that comes has no clauses
more_group : (gs : List Group) (left g : ℕ) → (group_at (gs ++ (record { left = left; clauses = 0 }) ∷ []) g).clauses
    ≡ (group_at gs g).clauses
more_group gs left g = pushed_field (λ (x : Group). x.clauses) gs (record { left = left; clauses = 0 }) no_group g refl

-- as many groups are shown as are kept
pub groups_shown : (ps : List Link) (ls : List Standing) (ms : List Link) (gs : List Group)
    (firsts : List ℕ) (has_room : Bool) (s : GroupedClauses)
    → Represents (counters_in ps ls ms gs firsts has_room) s → length gs ≡ length s.groups
groups_shown ps ls ms gs firsts has_room s shows =
    sym (length-map gs (λ (x : Group). x.clauses)) ∙ (sym (length-map (clause_lists gs) (numbers_at ms)) ∙ shows.size)

-- as many clauses are shown as are kept
pub clauses_shown : (ps : List Link) (ls : List Standing) (ms : List Link) (gs : List Group)
    (firsts : List ℕ) (has_room : Bool) (s : GroupedClauses)
    → Represents (counters_in ps ls ms gs firsts has_room) s → length firsts ≡ length s.clauses
clauses_shown ps ls ms gs firsts has_room s shows = ap length shows.firsts
    ∙ length-map s.clauses (λ (x : GroupClause). x.first_of_parent)

pub shows_group : (ps ps' : List Link) (ls ls' : List Standing) (ms : List Link) (gs : List Group)
    (firsts : List ℕ) (has_room : Bool) (s : GroupedClauses) (list : List Lit)
    (n left : ℕ) → n ≡ length gs → Represents (counters_in ps ls ms gs firsts has_room) s
    → ((i g : ℕ) → count g (numbers_at ps' (standing_at ls' i).groups)
    ≡ count g (numbers_at ps (standing_at ls i).groups) + cond (eqb n g) (once i list) 0)
    → ((is_false : ℕ → Bool) → AreFlagged ps ls is_false
    → All (λ l. is_false (literal_index l) ≡ s.is_false l) list → AreFlagged ps' ls' is_false)
    → Represents (counters_in ps' ls' ms (gs ++ (record { left = left; clauses = 0 }) ∷ []) firsts has_room)
    (with_group list s)
shows_group ps ps' ls ls' ms gs firsts has_room s list n left is shows lists flags = record {
  size = length-map (clause_lists (gs ++ (record { left = left; clauses = 0 }) ∷ [])) (numbers_at ms)
      ∙ (length-map (gs ++ (record { left = left; clauses = 0 }) ∷ []) (λ (x : Group). x.clauses)
      ∙ (length_push gs (record { left = left; clauses = 0 })
      ∙ (ap (λ m. m + 1) many ∙ sym (length_push s.groups list))));
  firsts = shows.firsts;
  stands = λ i g. ap (λ (x : Stood). count g x.groups) (stood_kept ps' ls' i) ∙ (lists i g
      ∙ (let old = sym (ap (λ (x : Stood). count g x.groups) (stood_kept ps ls i)) ∙ shows.stands i g in
      let new = pushed_count (λ (ls : List Lit). once i ls) s.groups list [] g refl in
      let same : cond (eqb n g) (once i list) 0 ≡ cond (eqb (length s.groups) g) (once i list) 0 =
      ap (λ m. cond (eqb m g) (once i list) 0) (is ∙ many) in
      omega (arith, old, new, same)));
  joins = λ g c. ap (count c) (clauses_kept ms (gs ++ (record { left = left; clauses = 0 }) ∷ []) g)
      ∙ (ap (λ place. count c (numbers_at ms place)) (more_group gs left g)
      ∙ (sym (ap (count c) (clauses_kept ms gs g)) ∙ shows.joins g c));
  falses = λ l g some. ap (λ (x : Stood). x.is_false) (stood_kept ps' ls' (literal_index l))
      ∙ (flags (λ i. s.is_false (literal_at i)) flagged (λ k d l'. ap s.is_false (back (get_or list k d)))
      (literal_index l) g
      (subst (λ (x : Stood). 1 ≤ count g x.groups) (stood_kept ps' ls' (literal_index l)) some)
      ∙ ap s.is_false (back l));
}
  where
    many : length gs ≡ length s.groups
    many = groups_shown ps ls ms gs firsts has_room s shows

    back : (l : Lit) → literal_at (literal_index l) ≡ l
    back l = literal_index-injective (literal_at (literal_index l)) l (literal_index-literal_at (literal_index l))

    flagged : AreFlagged ps ls (λ i. s.is_false (literal_at i))
    flagged i g some =
        let e : literal_index (literal_at i) ≡ i = literal_index-literal_at i in
        sym (ap (λ (x : Stood). x.is_false) (stood_kept ps ls i))
        ∙ (ap (λ j. (stood_at (counters_in ps ls ms gs firsts has_room) j).is_false) (sym e)
        ∙ shows.falses (literal_at i) g (subst (λ j. 1 ≤ count g
        (stood_at (counters_in ps ls ms gs firsts has_room) j).groups) (sym e)
        (subst (λ (x : Stood). 1 ≤ count g x.groups) (sym (stood_kept ps ls i)) some)))

pub shows_clause : (ps : List Link) (ls : List Standing) (ms ms' : List Link) (gs gs' : List Group)
    (firsts firsts' : List ℕ) (has_room has_room' : Bool) (s : GroupedClauses)
    (list : List ℕ) (first n : ℕ) → n ≡ length firsts → length gs' ≡ length gs
    → firsts' ≡ firsts ++ first ∷ []
    → Represents (counters_in ps ls ms gs firsts has_room) s
    → ((g c : ℕ) → count c (numbers_at ms' (group_at gs' g).clauses)
    ≡ count c (numbers_at ms (group_at gs g).clauses) + cond (eqb n c) (count g list) 0)
    → Represents (counters_in ps ls ms' gs' firsts' has_room') (with_clause list first s)
shows_clause ps ls ms ms' gs gs' firsts firsts' has_room has_room' s list first n is same pushed shows
    lists = record {
      size = length-map (clause_lists gs') (numbers_at ms') ∙ (length-map gs' (λ (x : Group). x.clauses)
          ∙ (same ∙ groups_shown ps ls ms gs firsts has_room s shows));
      firsts = pushed ∙ (ap (λ ps. ps ++ first ∷ []) shows.firsts
          ∙ sym (map_push (λ (x : GroupClause). x.first_of_parent) s.clauses
          (record { groups = list; first_of_parent = first })));
      stands = shows.stands;
      joins = λ g c. ap (count c) (clauses_kept ms' gs' g) ∙ (lists g c
          ∙ (let old = sym (ap (count c) (clauses_kept ms gs g)) ∙ shows.joins g c in
          let new = pushed_count (λ (x : GroupClause). count g x.groups) s.clauses
          (record { groups = list; first_of_parent = first }) no_group_clause c refl in
          let e : cond (eqb n c) (count g list) 0 ≡ cond (eqb (length s.clauses) c) (count g list) 0 =
          ap (λ m. cond (eqb m c) (count g list) 0) (is ∙ clauses_shown ps ls ms gs firsts has_room s shows) in
          omega (arith, old, new, e)));
      falses = shows.falses;
    }
