use Rattle.std.proofs.lemmas.Grind.{common_steps}
use Rattle.std.proofs.Common.{◌≡◌, ◌≤◌, ◌+◌, ◌^◌, [], ◌∷◌, ◌++◌, ◌∙◌, length, length-append, get_or, map, take, refl}
use Rattle.std.proofs.Common.{sym, ap, subst, arith}
use Rattle.std.proofs.lemmas.List.{length-map, map-append, take_more}
use Rattle.variables.proofs.InterningLemmas.{handed_on}
use Rattle.solver_cache.proofs.CacheLemmas.{later_same}
use Rattle.resolvo_store.specs.LoadedLists.{AreSetsLoaded, AreSetsRefused}
use Rattle.resolvo_store.proofs.Words.{BeginsWith, flat_map, IdSpace, interned_variable, lists_of_loaded, OutOfMemory}
use Rattle.resolvo_store.proofs.Words.{sorted_of_set, VersionSetId}
use Rattle.resolvo_store.proofs.CandidateLists.{begins_variables}
use Rattle.resolvo_store.proofs.ListLemmas.{items_of}
use Rattle.resolvo_store.proofs.LoadedSets.{joined, one_more, rows_refused, set_refused, through_later}
use Rattle.resolvo_store.proofs.loaded_lists.load_sets.Invariants.{provided}
use Rattle.resolvo_store.proofs.loaded_lists.load_sets.Goals as goal

abbrev none : VersionSetId
none = record { 0 = 0 }

pub returns-in_err-lists-clause-refused : goal.returns-in_err-lists-clause-refused
returns-in_err-lists-clause-refused g c =
    handed_on _ c.from_residual.result OutOfMemory c.from_residual.ensures.1 (record {
      later = later_same _ _;
      part = (0, refl);
      reason = tt;
    })

-- a set is refused

pub returns-in_err-list-clause-refused : goal.returns-in_err-list-clause-refused
returns-in_err-list-clause-refused g c =
    let has = g.D.SolvableId.Set.IdSet.has in
    let sets = c.args.sets.now in
    let i = c.loop-set.set-index in
    let v = get_or sets i none in
    let old = c.args.cache.now in
    let mid = c.loop-set.cache in
    let new = c.list_in_union.new.cache in
    let p = provided g old.provider in
    let before = c.loop-set.invariant.loaded in
    let e = c.in_err-list.field-0.0 in
    let refused : AreSetsRefused p has mid new c.loop-set.variables c.list_in_union.new.variables (v ∷ []) e =
    subst (λ q. AreSetsRefused (provided g q) has mid new c.loop-set.variables c.list_in_union.new.variables (v ∷ []) e)
    before.later.provider c.in_err-list.ensures.refused in
    handed_on _ c.from_residual-in_err-list.result e c.from_residual-in_err-list.ensures.1
    (set_refused p has old mid new c.args.variables.now c.loop-set.variables c.list_in_union.new.variables
    (take i sets) (items_of c.loop-set.lists) before sets i v none c.loop-set-test.true refl refl e refused)

-- the rows are too many

pub returns-in_err-rows-clause-refused : goal.returns-in_err-rows-clause-refused
returns-in_err-rows-clause-refused g c =
    let has = g.D.SolvableId.Set.IdSet.has in
    let sets = c.args.sets.now in
    let i = c.loop-set.set-index in
    let v = get_or sets i none in
    let old = c.args.cache.now in
    let mid = c.loop-set.cache in
    let new = c.list_in_union.new.cache in
    let p = provided g old.provider in
    let before = c.loop-set.invariant.loaded in
    let list = c.in_ok-list.list in
    let loaded : AreSetsLoaded p has mid new c.loop-set.variables c.list_in_union.new.variables (v ∷ [])
    (list.items ∷ []) =
    subst (λ q. AreSetsLoaded (provided g q) has mid new c.loop-set.variables c.list_in_union.new.variables (v ∷ [])
    (list.items ∷ [])) before.later.provider c.in_ok-list.ensures.loaded in
    let size : c.len.result ≡ length list.items = c.len.ensures ∙ list.ok.0 in
    let many : 2 ^ 40 ≤ length (flat_map (sorted_of_set p) (take i sets)) + length list.items =
    omega (arith, c.in_err-rows.ensures.err.1, c.loop-set.invariant.counted, size) in
    handed_on _ c.from_residual-in_err-rows.result IdSpace
    (rw (← c.in_err-rows.ensures.err.0) c.from_residual-in_err-rows.ensures.1)
    (rows_refused p has old mid new c.args.variables.now c.loop-set.variables c.list_in_union.new.variables
    (take i sets) (items_of c.loop-set.lists) before sets i v none c.loop-set-test.true refl refl list.items loaded
    many)

-- one set more

pub loop-set-preserved : goal.loop-set-preserved
loop-set-preserved g c =
    let has = g.D.SolvableId.Set.IdSet.has in
    let sets = c.args.sets.now in
    let i = c.loop-set.set-index in
    let v = get_or sets i none in
    let done = take i sets in
    let old = c.args.cache.now in
    let mid = c.loop-set.cache in
    let new = c.list_in_union.new.cache in
    let vs = c.loop-set.variables in
    let after = c.list_in_union.new.variables in
    let p = provided g old.provider in
    let before = c.loop-set.invariant in
    let list = c.in_ok-list.list in
    let loaded : AreSetsLoaded p has mid new vs after (v ∷ []) (list.items ∷ []) =
    subst (λ q. AreSetsLoaded (provided g q) has mid new vs after (v ∷ []) (list.items ∷ []))
    before.loaded.later.provider c.in_ok-list.ensures.loaded in
    let size : c.len.result ≡ length list.items = c.len.ensures ∙ list.ok.0 in
    let more : take (i + 1) sets ≡ done ++ v ∷ [] = take_more sets i none c.loop-set-test.true in
    let listed : length list.items ≡ length (sorted_of_set p v) = ap (λ ls. length (get_or ls 0 [])) loaded.of_variables
    ∙ length-map (sorted_of_set p v) (interned_variable p.same_solvable after) in
    let begins : BeginsWith vs after = subst (BeginsWith vs) (sym loaded.interned) (begins_variables p.same_solvable vs
    (flat_map (sorted_of_set p) (v ∷ []))) in
    rw more (record {
      loaded = subst (AreSetsLoaded p has old new c.args.variables.now after (done ++ v ∷ []))
          (sym (ap (map (λ l. l.items)) c.push_reserved.ensures.items
          ∙ map-append (λ l. l.items) c.loop-set.lists.items (list ∷ [])))
          (one_more p has old mid new c.args.variables.now vs after done (items_of c.loop-set.lists) before.loaded
          g.met.D.SolvableId.Eq.laws.refl v list.items loaded);
      through = through_later p has mid new vs after (lists_of_loaded c.args.loaded.now) loaded.later begins
          before.through;
      counted = c.in_ok-rows.ensures.ok.0 ∙ ap (λ n. n + c.len.result) before.counted
          ∙ ap (λ n. length (flat_map (sorted_of_set p) done) + n) (size ∙ listed)
          ∙ sym (length-append (flat_map (sorted_of_set p) done) (sorted_of_set p v))
          ∙ sym (ap length (joined p done v));
      few = c.in_ok-rows.ensures.ok.1;
      count = grind (arith, common_steps);
      room = c.push_reserved.ensures.capacity ∙ before.room;
    })
