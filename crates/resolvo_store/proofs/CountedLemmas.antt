-- What the counters count follows the trail and the registered clauses.
use Rattle.std.proofs.Common.{◌≡◌, ℕ, zero, suc, ◌+◌, ◌-◌, ◌<◌, ◌≤◌, Bool, true, false, not, ◌&&◌, ◌||◌, cond, eqb}
use Rattle.std.proofs.Common.{List, [], ◌∷◌, ◌++◌, length, get_or, map, take, Option, Some, None, option_map, Result}
use Rattle.std.proofs.Common.{Ok, Err, refl, sym, ap, ◌∙◌, subst, arith, le_refl}
use Rattle.std.specs.Prelude.{slice_get}
use Rattle.std.specs.List.{All}
use Rattle.std.proofs.lemmas.Option.{slice_get-map, slice_get-get_or}
use Rattle.std.proofs.lemmas.List.{length-take, take-take, take_all, take_more}
use Rattle.std.proofs.lemmas.List.{length-append, length-map, map_push, take-append-le}
use Rattle.std.proofs.Math.Path.{fun_ext}
use Rattle.std.proofs.lemmas.Bool.{eqb-true, eq-eqb, le-ltb}
use Rattle.decisions.proofs.TrailLemmas.{val-push}
use Rattle.clauses.specs.declared.disjunction.Disjunction.{Disjunction}
use Rattle.falsified_clauses.proofs.Laws.{counts_disjunctions}
use Rattle.resolvo_queue.specs.Scan.First.{first_of}
use Rattle.resolvo_queue.proofs.Falsified.Least.{next_position, position_stays}
use Rattle.resolvo_store.proofs.Words.{AddFault, AddsEntry, AreCounted, Counted, counted, Counting, Counts, Decision}
use Rattle.resolvo_store.proofs.Words.{demand_of, entries_until, Entry, false_by, false_literal, Follows, IsOnce}
use Rattle.resolvo_store.proofs.Words.{IsOneMore, KeyedCounters, known_false, level_of, list_all, Lists, Lit, nat_lt}
use Rattle.resolvo_store.proofs.Words.{Neg, no_false, OnErr, OnOk, placed, placed_in, PlacedDemand, Pos, Position}
use Rattle.resolvo_store.proofs.Words.{Requirement, RequiresClause, same_literal, Trail, val, Vec, with_false}
use Rattle.resolvo_store.proofs.Words.{with_undecided}

-- ---- one entry more, or less

module _ (x v : ℕ) (known : Option Bool) (none : eqb x v ≡ true → known ≡ None) where
  -- the variable's own literals under its new value, and all others as they were
  more_positive : (value : Bool) → (same_literal (cond value (Neg x) (Pos x)) (Pos v) || known_false known)
      ≡ known_false (cond (eqb x v) (Some value) known)
  more_positive true = go (eqb x v) none
    where
      go : (t : Bool) → (t ≡ true → known ≡ None) → known_false known ≡ known_false (cond t (Some true) known)
      go true n = ap known_false (n refl)
      go false n = refl
  more_positive false = go (eqb x v)
    where
      go : (t : Bool) → (t || known_false known) ≡ known_false (cond t (Some false) known)
      go true = refl
      go false = refl

  more_negative : (value : Bool) →
      (same_literal (cond value (Neg x) (Pos x)) (Neg v) || known_false (option_map not known))
      ≡ known_false (option_map not (cond (eqb x v) (Some value) known))
  more_negative true = go (eqb x v)
    where
      go : (t : Bool) → (t || known_false (option_map not known))
          ≡ known_false (option_map not (cond t (Some true) known))
      go true = refl
      go false = refl
  more_negative false = go (eqb x v) none
    where
      go : (t : Bool) → (t ≡ true → known ≡ None) → known_false (option_map not known)
          ≡ known_false (option_map not (cond t (Some false) known))
      go true n = ap (λ o. known_false (option_map not o)) (n refl)
      go false n = refl

  -- and without it
  less_positive : (value : Bool) →
      (not (same_literal (cond value (Neg x) (Pos x)) (Pos v)) && known_false (cond (eqb x v) (Some value) known))
      ≡ known_false known
  less_positive true = sym (more_positive true)
  less_positive false = go (eqb x v) none
    where
      go : (t : Bool) → (t ≡ true → known ≡ None) → (not t && known_false (cond t (Some false) known))
          ≡ known_false known
      go true n = sym (ap known_false (n refl))
      go false n = refl

  less_negative : (value : Bool) →
      (not (same_literal (cond value (Neg x) (Pos x)) (Neg v)) && known_false
      (option_map not (cond (eqb x v) (Some value) known)))
      ≡ known_false (option_map not known)
  less_negative true = go (eqb x v) none
    where
      go : (t : Bool) → (t ≡ true → known ≡ None) →
          (not t && known_false (option_map not (cond t (Some true) known))) ≡ known_false (option_map not known)
      go true n = sym (ap (λ o. known_false (option_map not o)) (n refl))
      go false n = refl
  less_negative false = sym (more_negative false)

module _ (es : List Entry) (e : Entry) (none : val es e.decision.variable ≡ None) where
  own_none : (v : ℕ) → eqb e.decision.variable v ≡ true → val es v ≡ None
  own_none v test = ap (val es) (sym (eqb-true e.decision.variable v test)) ∙ none

  false_more : (l : Lit) → (same_literal (false_literal e.decision) l || false_by es l) ≡ false_by (es ++ e ∷ []) l
  false_more (Pos v) = more_positive e.decision.variable v (val es v) (own_none v) e.decision.value
      ∙ ap known_false (sym (val-push es e v none))
  false_more (Neg v) =
      more_negative e.decision.variable v (val es v) (own_none v) e.decision.value
      ∙ ap (λ o. known_false (option_map not o)) (sym (val-push es e v none))

  false_less : (l : Lit) → (not (same_literal (false_literal e.decision) l) && false_by (es ++ e ∷ []) l)
      ≡ false_by es l
  false_less (Pos v) =
      ap (λ o. not (same_literal (false_literal e.decision) (Pos v)) && known_false o) (val-push es e v none)
      ∙ less_positive e.decision.variable v (val es v) (own_none v) e.decision.value
  false_less (Neg v) =
      ap (λ o. not (same_literal (false_literal e.decision) (Neg v)) && known_false (option_map not o))
      (val-push es e v none)
      ∙ less_negative e.decision.variable v (val es v) (own_none v) e.decision.value

  -- what counts the entry's literal as false counts the entry
  pub counts_more : {A : Type 0} (kept : KeyedCounters) (s : Counted A) →
      Counts kept (with_false (false_literal e.decision) (record s { is_false = false_by es }))
      → Counts kept (record s { is_false = false_by (es ++ e ∷ []) })
  counts_more kept s counts = subst (λ f. Counts kept (record s { is_false = f })) (fun_ext false_more) counts

  -- what counts it as undecided no longer counts the entry
  pub counts_less : {A : Type 0} (kept : KeyedCounters) (s : Counted A) →
      Counts kept (with_undecided (false_literal e.decision) (record s { is_false = false_by (es ++ e ∷ []) }))
      → Counts kept (record s { is_false = false_by es })
  counts_less kept s counts = subst (λ f. Counts kept (record s { is_false = f })) (fun_ext false_less) counts

-- ---- entries of a trail

-- a value that is found is not none
first_test : (b y : Bool) (o : Option Bool) → cond b (Some y) o ≡ None → (b ≡ false) × (o ≡ None)
first_test true y o none = cc
first_test false y o none = (refl, none)

same_entry : (e f : Entry) → Some e ≡ Some f → e ≡ f
same_entry e f same = cc

absent : (es : List Entry) (i : ℕ) (e : Entry) (v : ℕ) → slice_get es i ≡ Some e → val es v ≡ None →
    eqb e.decision.variable v ≡ false
absent [] i e v at none = cc
absent (x ∷ es) zero e v at none =
    ap (λ (d : Entry). eqb d.decision.variable v) (sym (same_entry x e at))
    ∙ (first_test (eqb x.decision.variable v) x.decision.value (val es v) none).0
absent (x ∷ es) (suc i) e v at none =
    absent es i e v at (first_test (eqb x.decision.variable v) x.decision.value (val es v) none).1

apart : (v w : ℕ) → eqb v w ≡ false → eqb w v ≡ false
apart v w test = go (eqb w v) refl
  where
    go : (b : Bool) → eqb w v ≡ b → b ≡ false
    go true e = (let no : false ≡ true = sym test ∙ eq-eqb v w (sym (eqb-true w v e)) in cc)
    go false e = refl

-- the variable of an entry has no value before it
pub none_before : (es : List Entry) (i : ℕ) (e : Entry) → IsOnce es → slice_get es i ≡ Some e →
    val (take i es) e.decision.variable ≡ None
none_before [] i e once at = cc
none_before (x ∷ es) zero e once at = refl
none_before (x ∷ es) (suc i) e once at =
    ap (λ b. cond b (Some x.decision.value) (val (take i es) e.decision.variable))
    (apart e.decision.variable x.decision.variable (absent es i e x.decision.variable at once.0))
    ∙ none_before es i e once.1 at

same_decision : (d e : Decision) → Some d ≡ Some e → d ≡ e
same_decision d e same = cc

-- the decision at an index is counted
pub counts_next : {A : Type 0} (es : List Entry) (i : ℕ) (d : Decision) (kept : KeyedCounters) (s : Counted A) →
    IsOnce es → i < length es
    → slice_get (map (λ (e : Entry). e.decision) es) i ≡ Some d
    → Counts kept (with_false (false_literal d) (record s { is_false = false_by (take i es) }))
    → Counts kept (record s { is_false = false_by (take (i + 1) es) })
counts_next es i d kept s once within is counts =
    let none : Entry = record { decision = d; level = 0 } in
    let e = get_or es i none in
    let at : slice_get es i ≡ Some e = slice_get-get_or es i none within in
    let own : d ≡ e.decision = same_decision d e.decision (sym is
    ∙ (slice_get-map (λ (x : Entry). x.decision) es i ∙ ap (option_map (λ (x : Entry). x.decision)) at)) in
    subst (λ xs. Counts kept (record s { is_false = false_by xs })) (sym (take_more es i none within))
    (counts_more (take i es) e (none_before es i e once at) kept s
    (subst (λ b. Counts kept (with_false (false_literal b) (record s { is_false = false_by (take i es) }))) own counts))

-- and is no longer counted
pub counts_before : {A : Type 0} (es : List Entry) (i : ℕ) (d : Decision) (kept : KeyedCounters) (s : Counted A) →
    IsOnce es → i < length es
    → slice_get (map (λ (e : Entry). e.decision) es) i ≡ Some d
    → Counts kept (with_undecided (false_literal d) (record s { is_false = false_by (take (i + 1) es) }))
    → Counts kept (record s { is_false = false_by (take i es) })
counts_before es i d kept s once within is counts =
    let none : Entry = record { decision = d; level = 0 } in
    let e = get_or es i none in
    let at : slice_get es i ≡ Some e = slice_get-get_or es i none within in
    let own : d ≡ e.decision = same_decision d e.decision (sym is
    ∙ (slice_get-map (λ (x : Entry). x.decision) es i ∙ ap (option_map (λ (x : Entry). x.decision)) at)) in
    counts_less (take i es) e (none_before es i e once at) kept s
    (subst (λ b. Counts kept (with_undecided (false_literal b)
    (record s { is_false = false_by (take i es ++ e ∷ []) }))) own
    (subst (λ xs. Counts kept (with_undecided (false_literal d) (record s { is_false = false_by xs })))
    (take_more es i none within) counts))

-- ---- the level of an entry

entry_level : (es : List Entry) (i : ℕ) (e : Entry) → IsOnce es → slice_get es i ≡ Some e →
    level_of es e.decision.variable ≡ e.level
entry_level [] i e once at = cc
entry_level (x ∷ es) zero e once at =
    let same : x ≡ e = same_entry x e at in
    ap (λ b. cond b x.level (level_of es e.decision.variable))
    (eq-eqb x.decision.variable e.decision.variable (ap (λ (f : Entry). f.decision.variable) same))
    ∙ ap (λ (f : Entry). f.level) same
entry_level (x ∷ es) (suc i) e once at =
    ap (λ b. cond b x.level (level_of es e.decision.variable))
    (apart e.decision.variable x.decision.variable (absent es i e x.decision.variable at once.0))
    ∙ entry_level es i e once.1 at

-- that of a decision's variable
pub decision_level : (es : List Entry) (i : ℕ) (d : Decision) → IsOnce es → i < length es →
    slice_get (map (λ (e : Entry). e.decision) es) i ≡ Some d
    → (e : Entry) × (slice_get es i ≡ Some e) × (level_of es d.variable ≡ e.level)
decision_level es i d once within is =
    let none : Entry = record { decision = d; level = 0 } in
    let e = get_or es i none in
    let at : slice_get es i ≡ Some e = slice_get-get_or es i none within in
    let own : d ≡ e.decision = same_decision d e.decision (sym is
    ∙ (slice_get-map (λ (x : Entry). x.decision) es i ∙ ap (option_map (λ (x : Entry). x.decision)) at)) in
    (e, at, ap (λ (x : Decision). level_of es x.variable) own ∙ entry_level es i e once at)

-- where an entry isn't above the level, not all entries from there on are
some_low : (l : ℕ) (es : List Entry) (i : ℕ) (e : Entry) → slice_get es i ≡ Some e → e.level ≤ l →
    list_all (λ x. nat_lt l x.level) es ≡ false
some_low l [] i e at low = cc
some_low l (x ∷ es) zero e at low =
    let same : x ≡ e = same_entry x e at in
    let no : nat_lt l x.level ≡ false = ap (λ (f : Entry). nat_lt l f.level) same ∙ le-ltb l e.level low in
    ap (λ b. b && list_all (λ (y : Entry). nat_lt l y.level) es) no
some_low l (x ∷ es) (suc i) e at low = go (nat_lt l x.level) (some_low l es i e at low)
  where
    go : (b : Bool) → list_all (λ y. nat_lt l y.level) es ≡ false → (b && list_all (λ y. nat_lt l y.level) es) ≡ false
    go true h = h
    go false h = refl

-- an undo to a level leaves what isn't above it
pub stays_below : (l : ℕ) (es : List Entry) (i : ℕ) (e : Entry) → slice_get es i ≡ Some e → e.level ≤ l →
    i < length (entries_until l es)
stays_below l [] i e at low = cc
stays_below l (x ∷ es) zero e at low =
    let left : length (entries_until l (x ∷ es)) ≡ suc (length (entries_until l es)) =
    ap (λ b. length (cond b [] (x ∷ entries_until l es))) (some_low l (x ∷ es) zero e at low) in
    omega (arith, left)
stays_below l (x ∷ es) (suc i) e at low =
    let rest = stays_below l es i e at low in
    let left : length (entries_until l (x ∷ es)) ≡ suc (length (entries_until l es)) =
    ap (λ b. length (cond b [] (x ∷ entries_until l es))) (some_low l (x ∷ es) (suc i) e at low) in
    omega (arith, rest, left)

-- ---- another trail

-- the counters follow any trail that has the counted entries first
pub follows_on : {A : Type 0} (kept : Counting) (s : Counted A) (es fs : List Entry) (n : ℕ) → Follows kept es s →
    kept.counted ≤ n
    → kept.counted ≤ length fs → take n es ≡ take n fs → Follows kept fs s
follows_on kept s es fs n h within few front = record {
  within = few;
  counts = subst (λ xs. Counts kept.clauses (record s { is_false = false_by xs }))
      (sym (take-take kept.counted n es within) ∙ (ap (take kept.counted) front
      ∙ take-take kept.counted n fs within)) h.counts;
}

-- a trail that grew
pub follows_more : {A : Type 0} (kept : Counting) (s : Counted A) (es fs : List Entry) → Follows kept es s →
    take (length es) fs ≡ es → Follows kept fs s
follows_more kept s es fs h front =
    let within = h.within in
    let long : length es ≤ length fs = (let some = length-take (length es) fs in let same = ap length front in
    omega (arith, some, same)) in
    follows_on kept s es fs (length es) h within (omega (arith, within, long))
    (take_all (length es) es (le_refl (length es)) ∙ sym front)

-- a trail that was cut, but not below what is counted
pub follows_less : {A : Type 0} (kept : Counting) (s : Counted A) (es fs : List Entry) → Follows kept es s →
    kept.counted ≤ length fs
    → fs ≡ take (length fs) es → Follows kept fs s
follows_less kept s es fs h few front =
    follows_on kept s es fs (length fs) h few few (sym front ∙ sym (take_all (length fs) fs (le_refl (length fs))))

-- ---- a trail that grew

pub front_of : (es added : List Entry) → take (length es) (es ++ added) ≡ es
front_of [] added = refl
front_of (x ∷ es) added = ap (λ xs. x ∷ xs) (front_of es added)

-- what was counted before the trail grew
pub front_added : (known : Option Bool) (old new : Trail) (e : Entry) (answer : Result Bool AddFault) →
    AddsEntry known old e answer new
    → take (length old.entries) new.entries ≡ old.entries
front_added known old new e answer adds = go known answer adds
  where
    all : (es : List Entry) → take (length es) es ≡ es
    all [] = refl
    all (x ∷ es) = ap (λ xs. x ∷ xs) (all es)

    same : new ≡ old → take (length old.entries) new.entries ≡ old.entries
    same is = ap (λ (t : Trail). take (length old.entries) t.entries) is ∙ all old.entries

    go : (k : Option Bool) (a : Result Bool AddFault) → AddsEntry k old e a new →
        take (length old.entries) new.entries ≡ old.entries
    go (Some b) a h = same h.1
    go None (Ok added) h = ap (λ (t : Trail). take (length old.entries) t.entries) h.1 ∙ front_of old.entries (e ∷ [])
    go None (Err fault) h = same h.1

-- the whole trail is counted
pub counts_all : {A : Type 0} (kept : Counting) (s : Counted A) (es : List Entry) → kept.counted ≡ length es →
    Follows kept es s
    → Counts kept.clauses (record s { is_false = false_by es })
counts_all kept s es all h = subst (λ xs. Counts kept.clauses (record s { is_false = false_by xs }))
    (ap (λ n. take n es) all ∙ take_all (length es) es (le_refl (length es))) h.counts

pub follows_all : {A : Type 0} (kept : Counting) (s : Counted A) (es : List Entry) → kept.counted ≡ length es
    → Counts kept.clauses (record s { is_false = false_by es }) → Follows kept es s
follows_all kept s es all counts = record {
  within = omega (arith, all);
  counts = subst (λ xs. Counts kept.clauses (record s { is_false = false_by xs }))
      (sym (ap (λ n. take n es) all ∙ take_all (length es) es (le_refl (length es)))) counts;
}

-- ---- one clause more

-- a clause whose parent has this first clause
abbrev at_parent : RequiresClause → ℕ → PlacedDemand
at_parent c first = record { demand = demand_of c; first_of_parent = first }

-- clauses that stand where they did
placed_same : (all more cs : List RequiresClause) → All (λ c. first_of more c.parent ≡ first_of all c.parent) cs →
    map (placed_in more) cs ≡ map (placed_in all) cs
placed_same all more [] same = refl
placed_same all more (c ∷ cs) same =
    ap (λ n. at_parent c n ∷ map (placed_in more) cs) (same 0 c (omega arith))
    ∙ ap (λ xs. placed_in all c ∷ xs) (placed_same all more cs (λ i d l. same (suc i) d (omega (arith, l))))

-- the clauses that are there stay, and the new one stands where the next one was to stand
pub placed_more : (cs : List RequiresClause) (c : RequiresClause) →
    placed (cs ++ c ∷ []) ≡ placed cs ++ placed_in cs c ∷ []
placed_more cs c =
    map_push (placed_in (cs ++ c ∷ [])) cs c
    ∙ (ap (λ xs. xs ++ placed_in (cs ++ c ∷ []) c ∷ []) (placed_same cs (cs ++ c ∷ []) cs
    (λ i d l. ap (λ (p : Position). p.first_of_parent) (position_stays cs c i (get_or cs i d)
    (slice_get-get_or cs i d l))))
    ∙ ap (λ n. placed cs ++ at_parent c n ∷ []) (ap (λ (p : Position). p.first_of_parent) (next_position cs c)))

-- ---- clauses that are counted

module _ {A : Type 0} {lists : Lists A} {disjunctions : List (Disjunction A)} where
  -- what follows the trail still counts the same clauses
  pub keeps_counted : {kept more : Counting} {rs : List RequiresClause} {es fs : List Entry} {loaded : Lists A}
      {ds : List (Disjunction A)} → more.known ≡ kept.known
      → (Follows kept es (counted lists disjunctions (take kept.known (placed rs)) no_false) →
      Follows more fs (counted loaded ds (take kept.known (placed rs)) no_false))
      → AreCounted kept rs es lists disjunctions → AreCounted more rs fs loaded ds
  keeps_counted {kept} {more} {rs} {es} {fs} {loaded} {ds} same f h = record {
    known = subst (λ n. n ≤ length rs) (sym same) h.known;
    follows = subst (λ n. Follows more fs (counted loaded ds (take n (placed rs)) no_false)) (sym same) (f h.follows);
  }

  -- the same clauses under the same entries
  pub counted_still : {kept : Counting} {rs ss : List RequiresClause} {es fs : List Entry} → ss ≡ rs → fs ≡ es
      → AreCounted kept rs es lists disjunctions → AreCounted kept ss fs lists disjunctions
  counted_still {kept} {rs} {ss} {es} {fs} same_clauses same_entries h =
      subst (λ xs. AreCounted kept ss xs lists disjunctions) (sym same_entries)
      (subst (λ cs. AreCounted kept cs es lists disjunctions) (sym same_clauses) h)

  -- no clause, and no entry
  pub none_counted : (kept : Counting) (es : List Entry) → kept.known ≡ 0 → kept.counted ≡ 0
      → ((is_false : Lit → Bool) → Counts kept.clauses (counted lists disjunctions [] is_false)) →
      AreCounted kept [] es lists disjunctions
  none_counted kept es known entries counts = record {
    known = omega (arith, known);
    follows = record {
      within = omega (arith, entries);
      counts = subst (λ n. Counts kept.clauses (counted lists disjunctions (take n (placed []))
          (false_by (take kept.counted es)))) (sym known)
          (counts (false_by (take kept.counted es)));
    };
  }

  -- one clause more is registered
  counted_before : {kept : Counting} {rs : List RequiresClause} {es : List Entry} (one : RequiresClause) →
      AreCounted kept rs es lists disjunctions
      → AreCounted kept (rs ++ one ∷ []) es lists disjunctions
  counted_before {kept} {rs} {es} one h =
      let few = h.known in
      let long : length (rs ++ one ∷ []) ≡ length rs + 1 = length-append rs (one ∷ []) in
      let many : length (placed rs) ≡ length rs = length-map rs (placed_in rs) in
      let front : take kept.known (placed (rs ++ one ∷ [])) ≡ take kept.known (placed rs) =
      ap (take kept.known) (placed_more rs one)
      ∙ take-append-le kept.known (placed rs) (placed_in rs one ∷ []) (omega (arith, few, many)) in
      record {
        known = omega (arith, few, long);
        follows = subst (λ xs. Follows kept es (counted lists disjunctions xs no_false)) (sym front) h.follows;
      }

  -- or that was refused
  pub counted_registered : {T E : Type 0} {kept : Counting} {rs more : List RequiresClause} {es : List Entry}
      (one : RequiresClause) (result : Result T E)
      → OnOk result (more ≡ rs ++ one ∷ []) → OnErr result (more ≡ rs) → AreCounted kept rs es lists disjunctions →
      AreCounted kept more es lists disjunctions
  counted_registered one (Ok x) grown same h = counted_still grown refl (counted_before one h)
  counted_registered one (Err e) grown same h = counted_still same refl h

  -- one clause more is counted
  pub one_counted : (kept : Counting) {more : Counting} {rs : List RequiresClause} {es : List Entry}
      (c : RequiresClause) → slice_get rs kept.known ≡ Some c → kept.known < length rs
      → more.known ≡ kept.known + 1 →
      Follows more es (counted lists disjunctions (take kept.known (placed rs) ++ placed_in rs c ∷ []) no_false)
      → AreCounted more rs es lists disjunctions
  one_counted kept {more} {rs} {es} c at within next h =
      let none : PlacedDemand = placed_in rs c in
      let many : length (placed rs) ≡ length rs = length-map rs (placed_in rs) in
      let here : slice_get (placed rs) kept.known ≡ Some (placed_in rs c) =
      slice_get-map (placed_in rs) rs kept.known ∙ ap (option_map (placed_in rs)) at in
      let own : Some (get_or (placed rs) kept.known none) ≡ Some (placed_in rs c) =
      sym (slice_get-get_or (placed rs) kept.known none (omega (arith, within, many))) ∙ here in
      let same : get_or (placed rs) kept.known none ≡ placed_in rs c = cc in
      let front : take (kept.known + 1) (placed rs) ≡ take kept.known (placed rs) ++ placed_in rs c ∷ [] =
      take_more (placed rs) kept.known none (omega (arith, within, many))
      ∙ ap (λ x. take kept.known (placed rs) ++ x ∷ []) same in
      record {
        known = omega (arith, within, next);
        follows = subst (λ n. Follows more es (counted lists disjunctions (take n (placed rs)) no_false)) (sym next)
            (subst (λ xs. Follows more es (counted lists disjunctions xs no_false)) (sym front) h);
      }

  -- where all clauses are counted
  pub all_counted : {kept : Counting} {rs : List RequiresClause} {es : List Entry} → kept.known ≡ length rs →
      AreCounted kept rs es lists disjunctions
      → Follows kept es (counted lists disjunctions (placed rs) no_false)
  all_counted {kept} {rs} {es} all h =
      let many : length (placed rs) ≡ length rs = length-map rs (placed_in rs) in
      subst (λ xs. Follows kept es (counted lists disjunctions xs no_false))
      (take_all kept.known (placed rs) (omega (arith, all, many))) h.follows

-- ---- nothing more

-- after a disjunction was to be kept
pub follows_disjunction : {A T E : Type 0} (kept : Counting) (es : List Entry) (s : Counted A)
    (more : List (Disjunction A)) (result : Result T E)
    → OnOk result (IsOneMore s.disjunctions more) → OnErr result (more ≡ s.disjunctions) → Follows kept es s →
    Follows kept es (record s { disjunctions = more })
follows_disjunction kept es s more (Ok x) one same h = record {
  within = h.within;
  counts = subst (λ ds. Counts kept.clauses (record s {
    disjunctions = ds;
    is_false =
        false_by (take kept.counted es);
  })) (sym one.grown)
      (counts_disjunctions kept.clauses (record s { is_false = false_by (take kept.counted es) }) h.counts
      (one.disjunction ∷ []));
}
follows_disjunction kept es s more (Err e) one same h =
    subst (λ ds. Follows kept es (record s { disjunctions = ds })) (sym same) h
