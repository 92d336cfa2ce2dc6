-- The counters of groups, when a literal becomes false or undecided.
use Rattle.std.proofs.Common.{◌≡◌, ℕ, ◌+◌, ◌<◌, ◌≤◌, Bool, true, false, List, length, get_or, set, map}
use Rattle.std.proofs.Common.{sym, ap, ◌∙◌, subst, inl, inr}
use Rattle.std.proofs.lemmas.Bool.{cases_lt}
use Rattle.std.proofs.lemmas.List.{get_or_past, length-map, map-set, get_or-map}
use Rattle.std.proofs.lemmas.List.Sums.{get_or-le-sum_by}
use Rattle.clause_counters.proofs.Words.{all_places, clause_lists, count, counters_in, CounterState, Group}
use Rattle.clause_counters.proofs.Words.{IsSameButRoom, Link, no_standing, nowhere, numbers_at, open_places, Standing}
use Rattle.clause_counters.proofs.Words.{standing_at, Stood, stood_in, with_flag}
use Rattle.clause_counters.proofs.OpenSums.{open_part, closed_part}

-- the literal is told to be false, or not to be
abbrev pub flagged : Bool → ℕ → List Standing → List Standing
flagged b i ls = set ls i (record (standing_at ls i) { is_false = b })

-- how often a group is in a literal's list
abbrev pub places_at : List Link → List Standing → ℕ → ℕ → ℕ
places_at places ls i g = count g (numbers_at places (standing_at ls i).groups)

-- a literal's places are among all, and among those that aren't false if it isn't
pub of_literal : (places : List Link) (ls : List Standing) (i g : ℕ) → i < length ls
    → places_at places ls i g ≤ all_places places ls g
of_literal places ls i g l = get_or-le-sum_by (λ (x : Standing). count g (numbers_at places x.groups)) ls i
    no_standing l

pub of_open_literal : (places : List Link) (ls : List Standing) (i g : ℕ) → i < length ls
    → (standing_at ls i).is_false ≡ false
    → places_at places ls i g ≤ open_places places ls g
of_open_literal places ls i g =
    open_part (λ (x : Standing). x.is_false) (λ (x : Standing). count g (numbers_at places x.groups)) no_standing ls i

pub closed_literal : (places : List Link) (ls : List Standing) (i g : ℕ) → i < length ls
    → (standing_at ls i).is_false ≡ true
    → open_places places ls g + places_at places ls i g ≤ all_places places ls g
closed_literal places ls i g =
    closed_part (λ (x : Standing). x.is_false) (λ (x : Standing). count g (numbers_at places x.groups)) no_standing ls i

-- a literal that is kept
pub stood_kept : (places : List Link) (ls : List Standing) (i : ℕ)
    → get_or (map (stood_in places) ls) i nowhere ≡ stood_in places (standing_at ls i)
stood_kept places ls i = elim (cases_lt i (length ls)) [
  | inl l ↦ get_or-map (stood_in places) ls i no_standing nowhere l
  | inr past ↦ get_or_past (map (stood_in places) ls) i nowhere
      (subst (λ n. n ≤ i) (sym (length-map ls (stood_in places))) past)
      ∙ ap (stood_in places) (sym (get_or_past ls i no_standing past))
]

-- equal parts make equal wholes
same_parts : (literals literals' : List Stood) (groups groups' : List (List ℕ)) (firsts firsts' : List ℕ)
    (has_room : Bool)
    → literals ≡ literals' → groups ≡ groups' → firsts ≡ firsts'
    → ◌≡◌ {A = CounterState} (record { literals = literals; groups = groups; firsts = firsts; has_room = has_room })
    (record { literals = literals'; groups = groups'; firsts = firsts'; has_room = has_room })
same_parts literals literals' groups groups' firsts firsts' has_room l g p = cc

-- what is kept once a literal was told
pub told_kept : (places : List Link) (ls : List Standing) (members : List Link) (groups new : List Group)
    (firsts firsts' : List ℕ) (has_room has_room' : Bool)
    (b : Bool) (i : ℕ) → clause_lists new ≡ clause_lists groups → firsts' ≡ firsts
    → IsSameButRoom (with_flag b i (counters_in places ls members groups firsts has_room))
    (counters_in places (flagged b i ls) members new firsts' has_room')
told_kept places ls members groups new firsts firsts' has_room has_room' b i lists same =
    let literals : map (stood_in places) (flagged b i ls) ≡ set (map (stood_in places) ls) i
    (record (get_or (map (stood_in places) ls) i nowhere) { is_false = b }) =
    map-set (stood_in places) ls i (record (standing_at ls i) { is_false = b })
    ∙ ap (λ (x : Stood). set (map (stood_in places) ls) i (record x { is_false = b })) (sym (stood_kept places ls i)) in
    let clauses : map (numbers_at members) (clause_lists new) ≡ map (numbers_at members) (clause_lists groups) =
    ap (map (numbers_at members)) lists in
    same_parts _ _ _ _ _ _ has_room' literals clauses same
