-- Wishes as literals, and what their ranks say of all solutions.
use Rattle.std.proofs.Common.{◌≡◌, ◌∙◌, ℕ, ◌+◌, ◌<◌, ◌≤◌, Bool, true, not, List, [], ◌∷◌, ◌++◌, length, map, take}
use Rattle.std.proofs.Common.{min, get_or, ap, sym, subst, if◌then◌else◌, arith}
use Rattle.std.proofs.Common.{inl}
use Rattle.std.specs.Prelude.{slice_index, ◌⊎◌}
use Rattle.std.proofs.lemmas.Bool.{cases_lt}
use mathlib.Core.Logic.{⊎_elim}
use Rattle.std.proofs.lemmas.List.{get_or-map, get_or-take, get_or_append_left, get_or_past, length-map, length-take}
use Rattle.std.proofs.lemmas.List.{map-append, map_more, take-map}
use Rattle.std.proofs.Math.Seq.{get_or-append_seam}
use Rattle.std.proofs.lemmas.List.Elements.{All-get_or, All-nil}
use Rattle.std.proofs.lemmas.Option.{slice_get_within, get_or_from_slice_get}
use Rattle.solutions.proofs.Words.{Alternative, alternatives_of, AreGranted, AreSameUpTo, AreSatisfied}
use Rattle.solutions.proofs.Words.{AreStillSatisfied, AreTrue, before_true, ConditionalRequirement, Fact, first_true}
use Rattle.solutions.proofs.Words.{first_trues, has_true, is_so, is_true, IsBest, IsSolution, IsUnbeaten, Literal}
use Rattle.solutions.proofs.Words.{Picked, Provider, rank, Replayed, truth, Vec, Wish}
use Rattle.solutions.proofs.RankLemmas.{before_taken}

-- numbers that are the same as others, or both larger than the ranks, are unbeaten alike
pub unbeaten_alike : (count : ℕ) (ranks numbers others : List ℕ) → AreSameUpTo (length ranks) ranks numbers others
    → IsUnbeaten count ranks numbers → IsUnbeaten count ranks others
unbeaten_alike count ranks numbers others alike unbeaten place less at = ⊎_elim
    (λ inside.
    let so_far : (before : ℕ) → before < place → slice_index ranks before ≡ slice_index numbers before =
    λ before early. ⊎_elim
    (λ same. at before early ∙ sym same)
    (λ above. let high = above.1 in let equal = at before early in absurd (omega arith))
    (alike before (omega arith)) in
    let here = unbeaten place less so_far in
    ⊎_elim (λ same. subst (λ n. slice_index ranks place ≤ n) same here) (λ above. let high = above.1 in
    omega arith) (alike place inside))
    (λ past. let none : slice_index ranks place ≡ 0 = get_or_past ranks place 0 past in omega arith)
    (cases_lt place (length ranks))

-- the ranks up to the last that isn't 0 decide for all
pub unbeaten_whole : (count n : ℕ) (first ranks others : List ℕ) → first ≡ take (length first) ranks
    → ((place : ℕ) → length first ≤ place → slice_index ranks place ≡ 0)
    → ((place : ℕ) → place < n → place < length first → place < count) → IsUnbeaten count first others →
    IsUnbeaten n ranks others
unbeaten_whole count n first ranks others is rest within unbeaten place less at =
    let same : (k : ℕ) → k < length first → slice_index first k ≡ slice_index ranks k = λ k inside.
    ap (λ l. get_or l k 0) is ∙ get_or-take (length first) ranks k 0 inside in
    ⊎_elim
    (λ inside.
    let here = unbeaten place (within place less inside) (λ before early. same before (omega arith)
    ∙ at before early) in
    subst (λ r. r ≤ slice_index others place) (same place inside) here)
    (λ past. let none = rest place past in omega arith)
    (cases_lt place (length first))

-- a list of literals that are true as alternatives up to a rank are so
same_first : {N S : Type 0} (f : Alternative S → Bool) (holds : Fact N S →
    Bool) (literals : List (Literal N S)) (alternatives : List (Alternative S)) (n : ℕ)
    → map (is_true holds) literals ≡ map f (take (n + 1) alternatives)
    → (first_true holds literals ≡ before_true (map f alternatives))
    ⊎ ((n < first_true holds literals) × (n < before_true (map f alternatives)))
same_first f holds literals alternatives n is =
    let taken : take (n + 1) (map f alternatives) ≡ map (is_true holds) literals = take-map f (n + 1) alternatives
    ∙ sym is in
    subst (λ bs. (before_true bs ≡ before_true (map f alternatives))
    ⊎ ((n < before_true bs) × (n < before_true (map f alternatives)))) taken
    (before_taken (map f alternatives) n)

-- one more list
pub same_more : {N S A : Type 0} (f : Alternative S → Bool) (holds : Fact N S →
    Bool) (i : ℕ) (ranks others : List ℕ) (lists next : List (Vec (Literal N S) A))
    (list : Vec (Literal N S) A) (alternatives : List (Alternative S))
    → length lists ≡ i → next ≡ lists ++ list ∷ [] → slice_index others i ≡ before_true (map f alternatives)
    → map (is_true holds) list.items ≡ map f (take (slice_index ranks i + 1) alternatives)
    → AreSameUpTo i ranks (first_trues holds lists) others → AreSameUpTo (i + 1) ranks (first_trues holds next) others
same_more {N} {S} {A} f holds i ranks others lists next list alternatives count pushed other is so_far place less =
    let test = λ (l : Vec (Literal N S) A). first_true holds l.items in
    let parts : first_trues holds next ≡ first_trues holds lists ++ test list ∷ [] = ap (map test) pushed
    ∙ map-append test lists (list ∷ []) in
    let size : length (first_trues holds lists) ≡ i = length-map lists test ∙ count in
    let Same : ℕ → ℕ → ℕ → Type 0 = λ r m n. (m ≡ n) ⊎ ((r < m) × (r < n)) in
    ⊎_elim
    (λ under.
    let first : slice_index (first_trues holds next) place ≡ slice_index (first_trues holds lists) place =
    ap (λ l. get_or l place 0) parts
    ∙ get_or_append_left (first_trues holds lists) (test list ∷ []) 0 place (omega arith) in
    subst (λ m. Same (slice_index ranks place) m (slice_index others place)) (sym first) (so_far place under))
    (λ over.
    let here : i ≡ place = omega arith in
    let last : slice_index (first_trues holds next) i ≡ test list =
    ap (λ l. get_or l i 0) parts ∙ ap (λ k. get_or (first_trues holds lists ++ test list ∷ []) k 0) (sym size)
    ∙ get_or-append_seam (first_trues holds lists) (test list) [] 0 in
    subst (λ k. Same (slice_index ranks k) (slice_index (first_trues holds next) k) (slice_index others k)) here
    (subst (λ m. Same (slice_index ranks i) m (slice_index others i)) (sym last)
    (subst (λ n. Same (slice_index ranks i) (test list) n) (sym other)
    (same_first f holds list.items alternatives (slice_index ranks i) is))))
    (cases_lt place i)

-- where there are no more wishes
pub same_past : {N S A : Type 0} (holds : Fact N S → Bool) (count n : ℕ) (ranks others : List ℕ)
    (lists : List (Vec (Literal N S) A)) → length lists ≡ count
    → length others ≤ count → AreSameUpTo count ranks (first_trues holds lists) others →
    AreSameUpTo n ranks (first_trues holds lists) others
same_past {N} {S} {A} holds count n ranks others lists is end so_far place less = ⊎_elim
    (λ under. so_far place under)
    (λ over.
    let size : length (first_trues holds lists) ≡ count =
    length-map lists (λ (l : Vec (Literal N S) A). first_true holds l.items) ∙ is in
    inl (get_or_past (first_trues holds lists) place 0 (omega arith) ∙ sym (get_or_past others place 0 (omega arith))))
    (cases_lt place count)

module _ {N S : Type 0} (p : Provider N S) where
  -- each wish has a rank
  pub ranks_length : {A : Type 0} (other : List S) (wishes : List (Wish S A)) →
      length (map (rank p other) (alternatives_of wishes)) ≡ length wishes
  ranks_length {A} other wishes = length-map (alternatives_of wishes) (rank p other)
      ∙ length-map wishes (λ (w : Wish S A). w.alternatives.items)

  -- the rank at a place
  pub rank_at : {A : Type 0} (other : List S) (wishes : List (Wish S A)) (i : ℕ) (wish : Wish S A) →
      i < length wishes → wish ≡ get_or wishes i wish
      → slice_index (map (rank p other) (alternatives_of wishes)) i ≡ rank p other wish.alternatives.items
  rank_at {A} other wishes i wish below is =
      let lists = alternatives_of wishes in
      let size : length lists ≡ length wishes = length-map wishes (λ (w : Wish S A). w.alternatives.items) in
      let items = λ (w : Wish S A). w.alternatives.items in
      get_or-map (rank p other) lists i [] 0 (omega arith)
      ∙ ap (rank p other) (get_or-map items wishes i wish [] below ∙ ap items (sym is))

  -- an alternative as a literal
  pub literal_is_so : (l : Literal N S) (a : Alternative S) → l.fact ≡ Picked a.solvable → l.value ≡ a.is_picked →
      (other : List S)
      → is_true (truth p other) l ≡ is_so p other a
  literal_is_so l a fact value other =
      ap (λ v. if v then truth p other l.fact else not (truth p other l.fact)) value
      ∙ ap (λ b. if a.is_picked then b else not b) (ap (truth p other) fact)

  -- one more of them
  pub literals_more : (alternatives : List (Alternative S)) (i : ℕ) (a : Alternative S)
      (literals next : List (Literal N S)) (l : Literal N S) (other : List S)
      → i < length alternatives → a ≡ get_or alternatives i a → next ≡ literals ++ l ∷ [] →
      is_true (truth p other) l ≡ is_so p other a
      → map (is_true (truth p other)) literals ≡ map (is_so p other) (take i alternatives)
      → map (is_true (truth p other)) next ≡ map (is_so p other) (take (i + 1) alternatives)
  literals_more alternatives i a literals next l other below is pushed alike so_far =
      let yes = is_true (truth p other) in
      let so = is_so p other in
      ap (map yes) pushed ∙ map-append yes literals (l ∷ []) ∙ ap (λ bs. bs ++ yes l ∷ []) so_far
      ∙ ap (λ b. map so (take i alternatives) ++ b ∷ []) (alike ∙ ap so is) ∙ sym (map_more so alternatives i a below)

  module _ (requested : List ConditionalRequirement) (wishes : List (List (Alternative S))) (picked : List S) where
    -- unbeaten by each solution
    pub best_by : (n : ℕ) → IsSolution p requested picked
        → ((other : List S) → IsSolution p requested other →
        IsUnbeaten n (map (rank p picked) wishes) (map (rank p other) wishes))
        → IsBest p requested (take n wishes) picked
    best_by n solution unbeaten = record {
      solution = solution;
      unbeaten = λ place wish at other its same.
          let within : place < length (take n wishes) = slice_get_within (take n wishes) place wish at in
          let size : length (take n wishes) ≡ min n (length wishes) = length-take n wishes in
          let sizes : length (take place (take n wishes)) ≡ min place (length (take n wishes)) =
          length-take place (take n wishes) in
          let below : place < n = omega arith in
          let found : get_or wishes place wish ≡ wish =
          sym (get_or-take n wishes place wish below) ∙ get_or_from_slice_get (take n wishes) place wish wish at in
          let ranked : (choice : List S) (k : ℕ) → k < length wishes →
          slice_index (map (rank p choice) wishes) k ≡ rank p choice (get_or wishes k wish) =
          λ choice k inside. get_or-map (rank p choice) wishes k wish 0 inside in
          let alike : (before : ℕ) → before < place → slice_index (map (rank p picked) wishes) before
          ≡ slice_index (map (rank p other) wishes) before =
          λ before early.
          let taken : get_or (take place (take n wishes)) before wish ≡ get_or wishes before wish =
          get_or-take place (take n wishes) before wish early ∙ get_or-take n wishes before wish (omega arith) in
          let equal = λ (w : List (Alternative S)). rank p picked w ≡ rank p other w in
          ranked picked before (omega arith)
          ∙ subst equal taken (All-get_or equal (take place (take n wishes)) before wish (omega arith) same)
          ∙ sym (ranked other before (omega arith)) in
          let least = unbeaten other its place below alike in
          let one : slice_index (map (rank p picked) wishes) place ≡ rank p picked wish =
          ranked picked place (omega arith) ∙ ap (rank p picked) found in
          let two : slice_index (map (rank p other) wishes) place ≡ rank p other wish =
          ranked other place (omega arith) ∙ ap (rank p other) found in
          omega arith;
    }

    -- unbeaten by the ranks up to the last that isn't 0
    pub best_shown : (count n : ℕ) (first ranks : List ℕ) → first ≡ take (length first) ranks
        → ((place : ℕ) → length first ≤ place → slice_index ranks place ≡ 0) → ranks ≡ map (rank p picked) wishes
        → ((place : ℕ) → place < n → place < length first → place < count)
        → ((other : List S) → IsSolution p requested other → IsUnbeaten count first (map (rank p other) wishes))
        → IsSolution p requested picked → IsBest p requested (take n wishes) picked
    best_shown count n first ranks is rest ranked within unbeaten solution = best_by n solution (λ other its.
        subst (λ rs. IsUnbeaten n rs (map (rank p other) wishes)) ranked
        (unbeaten_whole count n first ranks (map (rank p other) wishes) is rest within (unbeaten other its)))

    -- ranks of 0 can't be beaten
    pub best_granted : (n : ℕ) (ranks : List ℕ) → ranks ≡ map (rank p picked) wishes →
        ((place : ℕ) → place < n → slice_index ranks place ≡ 0)
        → IsSolution p requested picked → IsBest p requested (take n wishes) picked
    best_granted n ranks ranked zeros solution = best_by n solution (λ other its place less at.
        let none : slice_index (map (rank p picked) wishes) place ≡ 0 =
        subst (λ rs. slice_index rs place ≡ 0) ranked (zeros place less) in
        omega arith)

    -- the first wishes whose ranks are 0 are no more than these, where the next rank isn't 0
    pub granted_within : (first count : ℕ) (ranks : List ℕ) → ranks ≡ map (rank p picked) wishes → first ≤ length wishes
        → (count < length ranks → slice_index ranks count ≡ 0 → ⊥) → AreGranted p picked (take first wishes) →
        first ≤ count
    granted_within first count ranks ranked within ends granted = ⊎_elim
        (λ less.
        let size : length ranks ≡ length wishes = ap length ranked ∙ length-map wishes (rank p picked) in
        let taken : length (take first wishes) ≡ min first (length wishes) = length-take first wishes in
        let zero : rank p picked (get_or (take first wishes) count []) ≡ 0 =
        All-get_or (λ (w : List (Alternative S)). rank p picked w ≡ 0) (take first wishes) count []
        (omega arith) granted in
        let same : get_or (take first wishes) count [] ≡ get_or wishes count [] =
        get_or-take first wishes count [] less in
        let at : slice_index ranks count ≡ 0 =
        ap (λ rs. slice_index rs count) ranked ∙ get_or-map (rank p picked) wishes count [] 0 (omega arith)
        ∙ ap (rank p picked) (sym same) ∙ zero in
        absurd (ends (omega arith) at))
        (λ past. past)
        (cases_lt count first)

-- what is settled of all assignments, of solutions
pub unbeaten_solutions : {N S A : Type 0} (p : Provider N S) →
    (requested : List ConditionalRequirement) (wishes : List (List (Alternative S)))
    → (clauses now : List (Vec (Literal N S) A)) (known_now : List (Literal N S)) (answer : Bool) (count : ℕ)
    (ranks : List ℕ) (lists : List (Vec (Literal N S) A))
    → AreStillSatisfied p (IsSolution p requested) [] clauses → Replayed clauses [] now known_now answer
    → ((holds : Fact N S → Bool) → AreSatisfied holds now → AreTrue holds known_now →
    IsUnbeaten count ranks (first_trues holds lists))
    → ((other : List S) → AreSameUpTo (length ranks) ranks (first_trues (truth p other) lists)
    (map (rank p other) wishes))
    → (other : List S) → IsSolution p requested other → IsUnbeaten count ranks (map (rank p other) wishes)
unbeaten_solutions {N} {S} {A} p requested wishes clauses now known_now answer count ranks lists encoded replayed
    settled same other solution =
    let holds = truth p other in
    let met : AreSatisfied holds clauses =
    encoded other solution (All-nil (λ (c : Vec (Literal N S) A). has_true holds c.items ≡ true)) in
    let none : AreTrue holds [] = All-nil (λ l. is_true holds l ≡ true) in
    unbeaten_alike count ranks (first_trues holds lists) (map (rank p other) wishes) (same other)
    (settled holds (replayed.are_satisfied holds met none) (replayed.are_true holds met none))
