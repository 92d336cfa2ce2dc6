-- What clauses watch is theirs: two different ones of their literals, or none; and it stays so as a store grows.
use Rattle.std.proofs.Common.{◌≡◌, ℕ, zero, suc, ◌<◌, Bool, true, false, ◌||◌, cond, nat_eq, List, [], ◌∷◌, ◌++◌}
use Rattle.std.proofs.Common.{length, map, slice_index_or, set, Option, Some, None, refl, sym, subst, ◌∙◌, arith}
use Rattle.std.specs.Prelude.{slice_get, option_map}
use Rattle.std.proofs.lemmas.Bool.{eqb-true, eqb-false}
use Rattle.std.proofs.lemmas.List.Folds.{list_any-append}
use Rattle.std.proofs.lemmas.Map.Views.{list_any-from_Contains}
use Rattle.clauses.proofs.CallerLaws.{first_watches_are_two}
use Rattle.watch_map.proofs.WatchingLaws.{same_is, same_self, same_swap, differ}
use Rattle.watch_map.proofs.ListCallerLaws.{set_watches}
use Rattle.resolvo_store.proofs.Words.{AreTwoOf, AreTwoOrNone, Clause, condition_literals, Contains, first_watches}
use Rattle.resolvo_store.proofs.Words.{flat_map, is_literal_in, IsEquivalence, learnt_literals, Lit, literals_of}
use Rattle.resolvo_store.proofs.Words.{lookup, Neg, Pos, Requirement, rewatched, same_literal, same_requirement}
use Rattle.resolvo_store.proofs.Words.{StoredLiterals, two_or_none, unwrap_or, Values}
use Rattle.clauses.specs.declared.clause.Clause.TheVariants as Kind

-- ---- first watches

-- two different ones of these literals, or none
pub record WatchesOwn (literals watched : List Lit) : Type 0 where
  pub two : AreTwoOrNone watched
  pub own : (l : Lit) → is_literal_in l watched ≡ true → is_literal_in l literals ≡ true

same_literal-equivalence : IsEquivalence same_literal
same_literal-equivalence = record { refl = same_self; symm = same_swap; congr = λ a b c h. rw (same_is a b h) refl }

two_of : (literals : List Lit) (watched : Option (List Lit)) → AreTwoOf literals watched →
    WatchesOwn literals (two_or_none watched)
two_of literals None are = record { two = tt; own = λ l h. (let no : false ≡ true = h in cc) }
two_of literals (Some watched) are =
    subst (WatchesOwn literals) (sym are.2) (record { two = differ are.0 are.1 are.3; own = own })
  where
    own : (l : Lit) → is_literal_in l (are.0 ∷ are.1 ∷ []) ≡ true → is_literal_in l literals ≡ true
    own l h = by_first (same_literal l are.0) refl h
      where
        has : (m : Lit) → Contains literals m → same_literal l m ≡ true → is_literal_in l literals ≡ true
        has m there same = list_any-from_Contains same_literal-equivalence l literals
            (subst (Contains literals) (sym (same_is l m same)) there)

        by_second : (b : Bool) → same_literal l are.1 ≡ b → (b || false) ≡ true → is_literal_in l literals ≡ true
        by_second true e k = has are.1 are.5 e
        by_second false e k = (let no : false ≡ true = k in cc)

        by_first : (b : Bool) → same_literal l are.0 ≡ b → (b || (same_literal l are.1 || false)) ≡ true →
            is_literal_in l literals ≡ true
        by_first true e k = has are.0 are.4 e
        by_first false e k = by_second (same_literal l are.1) refl k

-- a new clause watches two different ones of its literals, or none
pub first_watches_own : {N : Type 0} (k : StoredLiterals) (now : Values) (c : Clause N) →
    WatchesOwn (literals_of k c) (two_or_none (first_watches k now c))
first_watches_own {N} k now c = two_of (literals_of k c) (first_watches k now c) (first_watches_are_two N k now c)

pub two_if_first : {N : Type 0} (k : StoredLiterals) (now : Values) (c : Clause N) {watch : Option (List Lit)} →
    watch ≡ first_watches k now c → AreTwoOrNone (two_or_none watch)
two_if_first k now c watches = subst (λ w. AreTwoOrNone (two_or_none w)) (sym watches) (first_watches_own k now c).two

-- ---- moved watches

or_later : (a b : Bool) → b ≡ true → (a || b) ≡ true
or_later true b h = refl
or_later false b h = h

-- what is one literal, or is among others, is theirs if those are
one_of : (l n : Lit) (theirs : List Lit) (others : Bool) → is_literal_in n theirs ≡ true →
    (others ≡ true → is_literal_in l theirs ≡ true)
    → (same_literal l n || others) ≡ true → is_literal_in l theirs ≡ true
one_of l n theirs others here later h = by_same (same_literal l n) refl h
  where
    by_same : (b : Bool) → same_literal l n ≡ b → (b || others) ≡ true → is_literal_in l theirs ≡ true
    by_same true e t = subst (λ x. is_literal_in x theirs ≡ true) (sym (same_is l n e)) here
    by_same false e t = later t

-- what a clause watches once a watch was moved is theirs
rewatched_among : (from to l : Lit) (theirs ls : List Lit) →
    ((m : Lit) → is_literal_in m ls ≡ true → is_literal_in m theirs ≡ true) → is_literal_in to theirs ≡ true
    → is_literal_in l (rewatched from to ls) ≡ true → is_literal_in l theirs ≡ true
rewatched_among from to l theirs [] all has h = (let no : false ≡ true = h in cc)
rewatched_among from to l theirs (m ∷ ls) all has h =
    let later = rewatched_among from to l theirs ls (λ n t. all n
    (or_later (same_literal n m) (is_literal_in n ls) t)) has in
    (elim (same_literal m from) as (λ b. (same_literal l (cond b to m) || is_literal_in l (rewatched from to ls))
    ≡ true → is_literal_in l theirs ≡ true) [
      | true ↦ λ t. one_of l to theirs (is_literal_in l (rewatched from to ls)) has later t
      | false ↦ λ t. one_of l m theirs (is_literal_in l (rewatched from to ls)) (all m (rw (same_self m) refl)) later t
    ]) h

-- ---- what is theirs stays theirs

module _ {X : Type 0} where
  -- the literals of what stands at a place, none where nothing does
  abbrev pub literals_at : (X → List Lit) → List X → ℕ → List Lit
  literals_at literals cs i = unwrap_or (option_map literals (slice_get cs i)) []

  abbrev pub WatchTheirs : (X → List Lit) → List X → List (List Lit) → Type 0
  WatchTheirs literals cs ws = (i : ℕ) (l : Lit) → is_literal_in l (slice_index_or ws i []) ≡ true →
      is_literal_in l (literals_at literals cs i) ≡ true

  -- where each has the literals that it had
  pub at_grown : (f g : X → List Lit) → ((c : X) (l : Lit) → is_literal_in l (f c) ≡ true →
      is_literal_in l (g c) ≡ true)
      → (cs : List X) (i : ℕ) (l : Lit) → is_literal_in l (literals_at f cs i) ≡ true →
      is_literal_in l (literals_at g cs i) ≡ true
  at_grown f g more cs i l h = by_place (slice_get cs i) h
    where
      by_place : (o : Option X) → is_literal_in l (unwrap_or (option_map f o) []) ≡ true →
          is_literal_in l (unwrap_or (option_map g o) []) ≡ true
      by_place None k = k
      by_place (Some c) k = more c l k

  -- and before others
  pub at_before : (f : X → List Lit) (cs more : List X) (i : ℕ) (l : Lit) → is_literal_in l (literals_at f cs i) ≡ true
      → is_literal_in l (literals_at f (cs ++ more) i) ≡ true
  at_before f [] more i l h = (let no : false ≡ true = h in cc)
  at_before f (c ∷ cs) more zero l h = h
  at_before f (c ∷ cs) more (suc i) l h = at_before f cs more i l h

  pub theirs_grown : (f g : X → List Lit) → ((c : X) (l : Lit) → is_literal_in l (f c) ≡ true →
      is_literal_in l (g c) ≡ true)
      → (cs : List X) (ws : List (List Lit)) → WatchTheirs f cs ws → WatchTheirs g cs ws
  theirs_grown f g more cs ws own i l h = at_grown f g more cs i l (own i l h)

  -- with one more
  pub theirs_pushed : (f : X → List Lit) (cs : List X) (ws : List (List Lit)) (c : X) (w : List Lit) →
      length ws ≡ length cs
      → ((l : Lit) → is_literal_in l w ≡ true → is_literal_in l (f c) ≡ true) → WatchTheirs f cs ws →
      WatchTheirs f (cs ++ c ∷ []) (ws ++ w ∷ [])
  theirs_pushed f [] [] c w e new own zero l h = new l h
  theirs_pushed f [] [] c w e new own (suc i) l h = (let no : false ≡ true = h in cc)
  theirs_pushed f [] (v ∷ ws) c w e new own i l h = absurd (omega (arith, e))
  theirs_pushed f (d ∷ cs) [] c w e new own i l h = absurd (omega (arith, e))
  theirs_pushed f (d ∷ cs) (v ∷ ws) c w e new own zero l h = own zero l h
  theirs_pushed f (d ∷ cs) (v ∷ ws) c w e new own (suc i) l h =
      theirs_pushed f cs ws c w (omega (arith, e)) new (λ j m k. own (suc j) m k) i l h

  -- with another watch at one place
  pub theirs_rewatched : (f : X → List Lit) (cs : List X) (ws : List (List Lit)) (c : ℕ) (from to : Lit) → c < length ws
      → is_literal_in to (literals_at f cs c) ≡ true → WatchTheirs f cs ws →
      WatchTheirs f cs (set ws c (rewatched from to (slice_index_or ws c [])))
  theirs_rewatched f cs ws c from to within has own i l h = by_place (nat_eq i c) refl
    where
      now : List Lit
      now = rewatched from to (slice_index_or ws c [])

      by_place : (b : Bool) → nat_eq i c ≡ b → is_literal_in l (literals_at f cs i) ≡ true
      by_place true e =
          let same = eqb-true i c e in
          let watching : is_literal_in l now ≡ true =
          subst (λ ls. is_literal_in l ls ≡ true) (set_watches ws c now within).0
          (subst (λ j. is_literal_in l (slice_index_or (set ws c now) j []) ≡ true) same h) in
          subst (λ j. is_literal_in l (literals_at f cs j) ≡ true) (sym same)
          (rewatched_among from to l (literals_at f cs c) (slice_index_or ws c []) (own c) has watching)
      by_place false e = own i l (subst (λ ls. is_literal_in l ls ≡ true)
          ((set_watches ws c now within).1 i (eqb-false i c e)) h)

-- ---- literals that clauses have they keep

or_grown : (a b c : Bool) → (b ≡ true → c ≡ true) → (a || b) ≡ true → (a || c) ≡ true
or_grown true b c more h = refl
or_grown false b c more h = more h

or_before : (a b c : Bool) → (a ≡ true → b ≡ true) → (a || c) ≡ true → (b || c) ≡ true
or_before true b c more h = rw (more refl) refl
or_before false b c more h = or_later b c h

-- a list that is found is found before others too
pub found_before : (ls more : List (List Lit)) (id : ℕ) (l : Lit) →
    is_literal_in l (unwrap_or (slice_get ls id) []) ≡ true
    → is_literal_in l (unwrap_or (slice_get (ls ++ more) id) []) ≡ true
found_before [] more zero l h = (let no : false ≡ true = h in cc)
found_before [] more (suc id) l h = (let no : false ≡ true = h in cc)
found_before (x ∷ ls) more zero l h = h
found_before (x ∷ ls) more (suc id) l h = found_before ls more id l h

-- the same of the literals of a disjunction
pub asked_before : (k : StoredLiterals) (more : List (List Lit)) (d : Option ℕ) (l : Lit) →
    is_literal_in l (condition_literals k d) ≡ true
    → is_literal_in l (condition_literals (record k { disjunctions = k.disjunctions ++ more }) d) ≡ true
asked_before k more None l h = h
asked_before k more (Some d) l h = found_before k.disjunctions more d l h

-- so are the candidates of a requirement
pub lists_before : (es : List (Requirement × List (List ℕ))) (e : Requirement
    × List (List ℕ)) (r : Requirement) (l : Lit)
    → is_literal_in l (flat_map (map Pos) (unwrap_or (lookup (same_requirement r) es) [])) ≡ true
    → is_literal_in l (flat_map (map Pos) (unwrap_or (lookup (same_requirement r) (es ++ e ∷ [])) [])) ≡ true
lists_before [] e r l h = (let no : false ≡ true = h in cc)
lists_before (d ∷ es) e r l h =
    (elim (same_requirement r d.0) as (λ b. is_literal_in l
    (flat_map (map Pos) (unwrap_or (cond b (Some d.1) (lookup (same_requirement r) es)) [])) ≡ true
    → is_literal_in l (flat_map (map Pos)
    (unwrap_or (cond b (Some d.1) (lookup (same_requirement r) (es ++ e ∷ []))) [])) ≡ true)
    [ true ↦ λ k. k | false ↦ λ k. lists_before es e r l k ]) h

module _ {N : Type 0} (k : StoredLiterals) where
  -- with more learnt clauses
  pub literals_learnt : (learnt : List (List Lit)) → ((id : ℕ) (l : Lit) →
      is_literal_in l (learnt_literals k id) ≡ true → is_literal_in l (unwrap_or (slice_get learnt id) []) ≡ true)
      → (c : Clause N) (l : Lit) → is_literal_in l (literals_of k c) ≡ true →
      is_literal_in l (literals_of (record k { learnt = learnt }) c) ≡ true
  literals_learnt learnt more Kind.InstallRoot l h = h
  literals_learnt learnt more (Kind.Requires parent d r) l h = h
  literals_learnt learnt more (Kind.ForbidMultipleInstances a m n) l h = h
  literals_learnt learnt more (Kind.Constrains a b v) l h = h
  literals_learnt learnt more (Kind.ConstrainsExcluded a aux v) l h = h
  literals_learnt learnt more (Kind.ConstrainsParent a aux v) l h = h
  literals_learnt learnt more (Kind.Lock locked other) l h = h
  literals_learnt learnt more (Kind.Learnt id) l h = more id l h
  literals_learnt learnt more (Kind.Excluded a reason) l h = h
  literals_learnt learnt more (Kind.AnyOf selected other) l h = h

  -- with more candidates
  pub literals_listed : (lists : Requirement → List (List ℕ))
      → ((r : Requirement) (l : Lit) → is_literal_in l (flat_map (map Pos) (k.lists r)) ≡ true →
      is_literal_in l (flat_map (map Pos) (lists r)) ≡ true)
      → (c : Clause N) (l : Lit) → is_literal_in l (literals_of k c) ≡ true →
      is_literal_in l (literals_of (record k { lists = lists }) c) ≡ true
  literals_listed lists more Kind.InstallRoot l h = h
  literals_listed lists more (Kind.Requires parent d r) l h =
      let terms : List Lit = condition_literals k d in
      or_grown (same_literal l (Neg parent)) (is_literal_in l (terms ++ flat_map (map Pos) (k.lists r)))
      (is_literal_in l (terms ++ flat_map (map Pos) (lists r)))
      (λ t. list_any-append (same_literal l) terms (flat_map (map Pos) (lists r))
      ∙ or_grown (is_literal_in l terms) (is_literal_in l (flat_map (map Pos) (k.lists r)))
      (is_literal_in l (flat_map (map Pos) (lists r))) (more r l)
      (sym (list_any-append (same_literal l) terms (flat_map (map Pos) (k.lists r))) ∙ t)) h
  literals_listed lists more (Kind.ForbidMultipleInstances a m n) l h = h
  literals_listed lists more (Kind.Constrains a b v) l h = h
  literals_listed lists more (Kind.ConstrainsExcluded a aux v) l h = h
  literals_listed lists more (Kind.ConstrainsParent a aux v) l h = h
  literals_listed lists more (Kind.Lock locked other) l h = h
  literals_listed lists more (Kind.Learnt id) l h = h
  literals_listed lists more (Kind.Excluded a reason) l h = h
  literals_listed lists more (Kind.AnyOf selected other) l h = h

  -- with more disjunctions
  pub literals_asked : (disjunctions : List (List Lit))
      → ((d : Option ℕ) (l : Lit) → is_literal_in l (condition_literals k d) ≡ true →
      is_literal_in l (condition_literals (record k { disjunctions = disjunctions }) d) ≡ true)
      → (c : Clause N) (l : Lit) → is_literal_in l (literals_of k c) ≡ true →
      is_literal_in l (literals_of (record k { disjunctions = disjunctions }) c) ≡ true
  literals_asked disjunctions more Kind.InstallRoot l h = h
  literals_asked disjunctions more (Kind.Requires parent d r) l h =
      let terms : List Lit = condition_literals k d in
      let grown : List Lit = condition_literals (record k { disjunctions = disjunctions }) d in
      let listed : List Lit = flat_map (map Pos) (k.lists r) in
      or_grown (same_literal l (Neg parent)) (is_literal_in l (terms ++ listed)) (is_literal_in l (grown ++ listed))
      (λ t. list_any-append (same_literal l) grown listed
      ∙ or_before (is_literal_in l terms) (is_literal_in l grown) (is_literal_in l listed) (more d l)
      (sym (list_any-append (same_literal l) terms listed) ∙ t)) h
  literals_asked disjunctions more (Kind.ForbidMultipleInstances a m n) l h = h
  literals_asked disjunctions more (Kind.Constrains a b v) l h = h
  literals_asked disjunctions more (Kind.ConstrainsExcluded a aux v) l h = h
  literals_asked disjunctions more (Kind.ConstrainsParent a aux v) l h = h
  literals_asked disjunctions more (Kind.Lock locked other) l h = h
  literals_asked disjunctions more (Kind.Learnt id) l h = h
  literals_asked disjunctions more (Kind.Excluded a reason) l h = h
  literals_asked disjunctions more (Kind.AnyOf selected other) l h = h
