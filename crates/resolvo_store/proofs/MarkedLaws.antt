-- The marks of a store: which of them are marks after each command. N are the names, S the solvables.
use Rattle.std.proofs.Common.{◌≡◌, ℕ, ◌+◌, true, List, [], ◌∷◌, ◌++◌, length, map, Result, Ok, Err, refl}
use Rattle.std.proofs.Common.{sym, subst, ap, ◌∙◌, inl, inr, set, arith, append-nil, append_assoc}
use Rattle.std.specs.Prelude.{Option, Some, None, Bool, not, take, drop, slice_get, slice_index_or}
use Rattle.std.proofs.lemmas.List.{map-append}
use Rattle.std.proofs.Math.Seq.{drop-append_seam}
use Rattle.clauses.specs.declared.disjunction.Disjunction.{Disjunction}
use Rattle.watch_map.specs.ClauseList.{with_clause, with_learnt, with_rewatched}
use Rattle.watch_map.proofs.ListCallerLaws.{watched_at, set_watches, watching_within}
use Rattle.watch_map.proofs.MarkLaws.{marks_longer, marks_shorter, marks_grown, marks_watching}
use Rattle.watch_map.proofs.MarkedLists.{marks_added}
use Rattle.resolvo_store.proofs.Words.{AddFault, AddsEntry, AreMarks, bit_watches, can_rewatch, Clause, clause_literals}
use Rattle.resolvo_store.proofs.Words.{Clauses, Entry, HasMarks, is_literal_in, IsTrue, lists_of_loaded, Lit}
use Rattle.resolvo_store.proofs.Words.{literals_of, lookup, Mark, marks_below, none_false_at, none_watched_false, OnErr}
use Rattle.resolvo_store.proofs.Words.{OnOk, Place, Requirement, rewatched, same_requirement, Store}
use Rattle.resolvo_store.proofs.Words.{stored_disjunctions, stored_of, StoredDisjunction, Trail, two_or_none, unwrap_or}
use Rattle.resolvo_store.proofs.Words.{Vec, watch_ends, with_entry, with_forbidden, with_forbidden_one}
use Rattle.resolvo_store.specs.Store.{watched_by}
use Rattle.resolvo_store.proofs.AddingLemmas.{both}
use Rattle.resolvo_store.proofs.PartOutcomes.{list_of, with_list, either}
use Rattle.resolvo_store.proofs.ListLemmas.{items_of, insert-kept}
use Rattle.resolvo_store.proofs.WatchLaws.{at_grown, at_before, found_before, asked_before, lists_before}
use Rattle.resolvo_store.proofs.WatchLaws.{literals_learnt, literals_listed, literals_asked}
use Rattle.clauses.specs.declared.clause.Clause.TheVariants as Kind

-- ---- lists of clauses with more in them

-- a list has more clauses, with their watches, and more literals of learnt ones
pub record HasMore {N : Type 0} (old new : Clauses N) : Type 0 where
  pub clauses : List (Clause N)
  pub more_clauses : new.clauses ≡ old.clauses ++ clauses
  pub watches : List (List Lit)
  pub more_watches : new.watches ≡ old.watches ++ watches
  pub learnt : List (List Lit)
  pub more_learnt : new.learnt ≡ old.learnt ++ learnt

module _ {N : Type 0} where
  more_none : (cs : Clauses N) → HasMore cs cs
  more_none cs = record {
    clauses = [];
    more_clauses = sym (append-nil cs.clauses);
    watches = [];
    more_watches = sym (append-nil cs.watches);
    learnt = [];
    more_learnt = sym (append-nil cs.learnt);
  }

  more_then : (a b c : Clauses N) → HasMore a b → HasMore b c → HasMore a c
  more_then a b c ab bc = record {
    clauses = ab.clauses ++ bc.clauses;
    more_clauses = bc.more_clauses ∙ ap (λ xs. xs ++ bc.clauses) ab.more_clauses ∙
        append_assoc a.clauses ab.clauses bc.clauses;
    watches = ab.watches ++ bc.watches;
    more_watches = bc.more_watches ∙ ap (λ xs. xs ++ bc.watches) ab.more_watches ∙
        append_assoc a.watches ab.watches bc.watches;
    learnt = ab.learnt ++ bc.learnt;
    more_learnt = bc.more_learnt ∙ ap (λ xs. xs ++ bc.learnt) ab.more_learnt ∙
        append_assoc a.learnt ab.learnt bc.learnt;
  }

  more_clause : (cs : Clauses N) (c : Clause N) (watched : Option (List Lit)) → HasMore cs (with_clause cs c watched)
  more_clause cs c watched = record {
    clauses = c ∷ [];
    more_clauses = refl;
    watches = two_or_none watched ∷ [];
    more_watches = refl;
    learnt = [];
    more_learnt = sym (append-nil cs.learnt);
  }

  more_learnt_one : (cs : Clauses N) (ls : List Lit) → HasMore cs (with_learnt cs ls)
  more_learnt_one cs ls = record {
    clauses = Kind.Learnt (length cs.learnt) ∷ [];
    more_clauses = refl;
    watches = two_or_none (watch_ends ls) ∷ [];
    more_watches = refl;
    learnt = ls ∷ [];
    more_learnt = refl;
  }

  more_forbidden : (name : N) (cs : Clauses N) (bits : List (ℕ × ℕ × Bool)) → HasMore cs (with_forbidden name cs bits)
  more_forbidden name cs [] = more_none cs
  more_forbidden name cs (bit ∷ bits) =
      let one = with_forbidden_one name cs bit in
      more_then cs one (with_forbidden name one bits) (more_clause cs _ (bit_watches bit))
      (more_forbidden name one bits)

  -- a list that was to change has more, or is as it was
  grown_or_same : {T E : Type 0} (old more : Clauses N) {new : Clauses N} (result : Result T E) → HasMore old more
      → OnOk result (new ≡ more) → OnErr result (new ≡ old) → HasMore old new
  grown_or_same old more result is ok err = elim (either result ok err) [
    | inl grown ↦ subst (HasMore old) (sym grown) is
    | inr same ↦ subst (HasMore old) (sym same) (more_none old)
  ]

  pub added_or_same : {T E : Type 0} (old : Clauses N) {new : Clauses N} (c : Clause N) (watched : Option (List Lit))
      (result : Result T E)
      → OnOk result (new ≡ with_clause old c watched) → OnErr result (new ≡ old) → HasMore old new
  added_or_same old c watched result ok err =
      grown_or_same old (with_clause old c watched) result (more_clause old c watched) ok err

  pub learnt_or_same : {T E : Type 0} (old : Clauses N) {new : Clauses N} (ls : List Lit) (result : Result T E)
      → OnOk result (new ≡ with_learnt old ls) → OnErr result (new ≡ old) → HasMore old new
  learnt_or_same old ls result ok err = grown_or_same old (with_learnt old ls) result (more_learnt_one old ls) ok err

  pub forbidden_or_same : {T E : Type 0} (old : Clauses N) {new : Clauses N} (name : N) (bits : List (ℕ × ℕ × Bool))
      (result : Result T E)
      → OnOk result (new ≡ with_forbidden name old bits) → OnErr result (new ≡ old) → HasMore old new
  forbidden_or_same old name bits result ok err =
      grown_or_same old (with_forbidden name old bits) result (more_forbidden name old bits) ok err

-- ---- marks of stores

module _ {N S : Type 0} (st : Store N S) (marks : List Mark) (has : HasMarks st marks) where
  -- where clauses were added
  pub marks_more : (cs : Clauses N) (first : ℕ) → first ≡ length st.watches → HasMore (list_of st) cs
      → HasMarks (with_list st cs) (none_watched_false st.trail marks (drop first cs.watches))
  marks_more cs first at is =
      let new = with_list st cs in
      let own : (c : ℕ) (l : Lit) → is_literal_in l (clause_literals st c) ≡ true →
      is_literal_in l (clause_literals new c) ≡ true =
      λ c l h.
      subst (λ ds. is_literal_in l (clause_literals (with_list st (record cs { clauses = ds })) c) ≡ true)
      (sym is.more_clauses)
      (at_before (literals_of (stored_of new)) st.clauses is.clauses c l
      (at_grown (literals_of (stored_of st)) (literals_of (stored_of new))
      (literals_learnt (stored_of st) cs.learnt
      (λ id m k. subst (λ ls. is_literal_in m (unwrap_or (slice_get ls id) []) ≡ true) (sym is.more_learnt)
      (found_before st.learnt is.learnt id m k)))
      st.clauses c l h)) in
      let new_ones : drop first cs.watches ≡ is.watches =
      ap (λ n. drop n cs.watches) at ∙ ap (drop (length st.watches)) is.more_watches ∙
      drop-append_seam st.watches is.watches in
      subst (λ ws. AreMarks (clause_literals new) (watched_by new) st.trail (none_watched_false st.trail marks ws))
      (sym new_ones)
      (subst (λ ws. AreMarks (clause_literals new) (λ c. slice_index_or ws c []) st.trail
      (none_watched_false st.trail marks is.watches)) (sym is.more_watches)
      (marks_added (clause_literals st) (clause_literals new) st.trail st.watches is.watches marks own has))

  -- where one requirement more was loaded
  pub marks_loaded : {A : Type 0} (loaded : List (Requirement × Vec (Vec ℕ A) A)) (r : Requirement)
      (lists : Vec (Vec ℕ A) A) {new : List (Requirement × Vec (Vec ℕ A) A)}
      → lookup (same_requirement r) (lists_of_loaded loaded) ≡ None → st.loaded ≡ lists_of_loaded loaded →
      new ≡ with_entry loaded r lists
      → HasMarks (record st { loaded = lists_of_loaded new }) marks
  marks_loaded loaded r lists fresh kept keeps =
      let entry : Requirement × List (List ℕ) = (r, items_of lists) in
      let after : Store N S = record st { loaded = st.loaded ++ entry ∷ [] } in
      subst (λ ls. HasMarks (record st { loaded = ls }) marks)
      (ap (λ ls. ls ++ entry ∷ []) kept ∙ sym (ap lists_of_loaded keeps ∙ insert-kept loaded r lists fresh))
      (marks_grown (clause_literals st) (watched_by st) st.trail marks has (clause_literals after)
      (at_grown (literals_of (stored_of st)) (literals_of (stored_of after))
      (literals_listed (stored_of st) (stored_of after).lists (λ s l h. lists_before st.loaded entry s l h))
      st.clauses))

  -- where one disjunction more was to be kept
  pub marks_asked : {A T E : Type 0} (disjunctions : List (Disjunction A)) (ls : List Lit) (condition : ℕ)
      (ds : List (Disjunction A)) (result : Result T E)
      → st.disjunctions ≡ stored_disjunctions disjunctions
      → OnOk result (stored_disjunctions ds ≡ stored_disjunctions disjunctions ++
      record { literals = ls; condition = condition } ∷ []) → OnErr result (ds ≡ disjunctions)
      → HasMarks (record st { disjunctions = stored_disjunctions ds }) marks
  marks_asked disjunctions ls condition ds result kept ok err = elim (either result ok err) [
    | inl more ↦ subst (λ es. HasMarks (record st { disjunctions = es }) marks)
        (sym (more ∙ ap (λ es. es ++ one ∷ []) (sym kept))) grown
    | inr same ↦ subst (λ es. HasMarks (record st { disjunctions = es }) marks)
        (kept ∙ ap stored_disjunctions (sym same)) has
  ]
    where
      one : StoredDisjunction
      one = record { literals = ls; condition = condition }

      grown : HasMarks (record st { disjunctions = st.disjunctions ++ one ∷ [] }) marks
      grown =
          let new : Store N S = record st { disjunctions = st.disjunctions ++ one ∷ [] } in
          let more : List (List Lit) = map (λ x. x.literals) st.disjunctions ++ ls ∷ [] in
          marks_grown (clause_literals st) (watched_by st) st.trail marks has (clause_literals new)
          (at_grown (literals_of (stored_of st)) (literals_of (stored_of new))
          (λ c l h. subst (λ es. is_literal_in l (literals_of (record (stored_of st) { disjunctions = es }) c) ≡
          true)
          (sym (map-append (λ x. x.literals) st.disjunctions (one ∷ [])))
          (literals_asked (stored_of st) more (asked_before (stored_of st) (ls ∷ [])) c l h)) st.clauses)

  -- on another trail of the same entries
  pub marks_same : (t : Trail) → t.entries ≡ st.trail →
      HasMarks (record st { trail = t.entries; place = t.place }) marks
  marks_same t same = subst (λ es. AreMarks (clause_literals st) (watched_by st) es marks) (sym same) has

  -- where an entry was to be added
  pub marks_assigned : (known : Option Bool) (old new : Trail) (e : Entry) (answer : Result Bool AddFault) →
      AddsEntry known old e answer new
      → old.entries ≡ st.trail → HasMarks (record st { trail = new.entries; place = new.place }) marks
  marks_assigned (Some b) old new e answer adds same = marks_same new (ap (λ (t : Trail). t.entries) adds.1 ∙ same)
  marks_assigned None old new e (Err fault) adds same = marks_same new (ap (λ (t : Trail). t.entries) adds.1 ∙ same)
  marks_assigned None old new e (Ok added) adds same =
      subst (λ es. AreMarks (clause_literals st) (watched_by st) es marks)
      (sym (ap (λ (t : Trail). t.entries) adds.1 ∙ ap (λ es. es ++ e ∷ []) same))
      (marks_longer (clause_literals st) (watched_by st) st.trail marks has (e ∷ []))

  -- where entries were taken back
  pub marks_cut : (t : Trail) (kept : ℕ) → t.entries ≡ take kept st.trail
      → HasMarks (record st { trail = t.entries; place = t.place }) (marks_below (Place (length t.entries + 1)) marks)
  marks_cut t kept front =
      subst (λ es. AreMarks (clause_literals st) (watched_by st) es (marks_below (Place (length es + 1)) marks))
      (sym front)
      (marks_shorter (clause_literals st) (watched_by st) st.trail marks has kept)

  -- where a clause watches another literal
  pub marks_rewatched : (c : ℕ) (from to : Lit) {cs : Clauses N} → IsTrue (can_rewatch (list_of st) c from to)
      → cs ≡ with_rewatched (list_of st) c from to →
      HasMarks (with_list st cs) (none_false_at st.trail marks (slice_index_or cs.watches c []))
  marks_rewatched c from to can moved =
      let watches = (both (is_literal_in from (watched_by st c)) (not (is_literal_in to (watched_by st c))) can).0 in
      let now = rewatched from to (watched_by st c) in
      let update = set_watches st.watches c now (watching_within st.watches c from watches) in
      subst (λ ds. HasMarks (with_list st ds) (none_false_at st.trail marks (slice_index_or ds.watches c [])))
      (sym moved)
      (subst (λ ws. AreMarks (clause_literals st) (watched_at (set st.watches c now)) st.trail
      (none_false_at st.trail marks ws)) (sym update.0)
      (marks_watching (clause_literals st) (watched_by st) st.trail marks has
      (watched_at (set st.watches c now)) c now update (none_rewatched (watched_by st c))))
    where
      none_rewatched : (ls : List Lit) → rewatched from to ls ≡ [] → ls ≡ []
      none_rewatched [] none = refl
      none_rewatched (l ∷ ls) none = absurd (let long = ap length none in omega (arith, long))
