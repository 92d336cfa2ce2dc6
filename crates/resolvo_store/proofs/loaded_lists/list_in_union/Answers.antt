use Rattle.std.proofs.Common.{◌≡◌, ℕ, List, ◌∷◌, [], ◌∙◌, true, vec_len, get_or, refl, sym, ap, arith, length}
use Rattle.std.specs.Prelude.{All}
use Rattle.std.proofs.lemmas.List.{get_or-map, length-map}
use Rattle.std.proofs.lemmas.List.Elements.{All-head}
use Rattle.variables.proofs.InterningLemmas.{handed_on}
use Rattle.solver_cache.proofs.CacheLemmas.{later_same, refused_in_turn}
use Rattle.solver_cache.specs.Questions.{refusal_of}
use Rattle.resolvo_store.specs.Store.{Provider, gathered}
use Rattle.resolvo_store.proofs.Words.{is_set_queried, IsFit, IsOfCandidates, OutOfMemory, Requirement}
use Rattle.resolvo_store.proofs.Words.{sets_of, Single, sorted_of}
use Rattle.resolvo_store.proofs.CandidateLists.{none_more, single_loaded}
use Rattle.resolvo_store.proofs.ListLemmas.{items_of}
use Rattle.resolvo_store.proofs.LoadedSets.{of_cache}
use Rattle.resolvo_store.proofs.loaded_lists.list_in_union.Given.{Over}
use Rattle.resolvo_store.proofs.loaded_lists.list_in_union.Goals as goal

-- the provider's functions
abbrev provided : (g : Over) → g.row.D.Denot → Provider g.row.D-NameId.Denot g.row.D-SolvableId.Denot
provided g = gathered g.D.NameId.PartialEq.eq g.D.SolvableId.PartialEq.eq g.D.NameId.Slots.IdMap.is_too_large
    g.D.SolvableId.Slots.IdMap.is_too_large g.D.SolvableId.Set.IdSet.is_too_large g.D.NameId.SolverId.are_many
    g.D.Interner.universe g.D.DependencyProvider.answers

-- where memory is refused

pub returns-in_err-from_slice-in-Some-clause-refused : goal.returns-in_err-from_slice-in-Some-clause-refused
returns-in_err-from_slice-in-Some-clause-refused g c =
    handed_on _ c.from_residual.result OutOfMemory c.from_residual.ensures.1 (record {
      later = later_same _ _;
      part = (0, refl);
      reason = tt;
    })

-- where the cache refuses the candidates

pub returns-in_err-id-in-None-clause-refused : goal.returns-in_err-id-in-None-clause-refused
returns-in_err-id-in-None-clause-refused g c =
    let has = g.D.SolvableId.Set.IdSet.has in
    let old = c.args.cache.now in
    let p = provided g old.provider in
    let new = c.best_list.new.self in
    let e = c.in_err-id-in-None.field-0.0 in
    let refused = c.in_err-id-in-None.ensures.refused in
    handed_on _ c.from_residual-in_err-id-in-None.result (refusal_of e) c.from_residual-in_err-id-in-None.ensures.1
    (record {
      later = refused.later;
      part = (0, refl);
      reason = of_cache p old new (c.args.set ∷ []) _ e (refused_in_turn has p old old new (later_same has old)
          refused.later (c.args.set ∷ []) 0 c.args.set (omega arith) e refused.reason);
    })

-- the copy

pub index-requires : goal.index-requires
index-requires g c =
    let p = provided g c.args.cache.now.provider in
    let came = single_loaded c.args.loaded.now c.args.set c.in-Some.lists.now c.requires.through
    (sym c.in-Some.ensures) in
    let is = All-head (IsOfCandidates p c.args.variables.now) (Single c.args.set, items_of c.in-Some.lists.now) []
    came.candidates in
    let one : vec_len c.in-Some.lists.now ≡ 1 = c.in-Some.lists.now.ok.0
    ∙ sym (length-map c.in-Some.lists.now.items (λ l. l.items)) ∙ ap length is.lists in
    omega (arith, one)

pub returns-in_ok-from_slice-in-Some-clause-loaded : goal.returns-in_ok-from_slice-in-Some-clause-loaded
returns-in_ok-from_slice-in-Some-clause-loaded g c =
    let p = provided g c.args.cache.now.provider in
    let os = c.args.variables.now in
    let entry : Requirement × List (List ℕ) = (Single c.args.set, items_of c.in-Some.lists.now) in
    let came = single_loaded c.args.loaded.now c.args.set c.in-Some.lists.now c.requires.through
    (sym c.in-Some.ensures) in
    let is = All-head (IsOfCandidates p os) entry [] came.candidates in
    let fit = All-head (λ e. IsFit p e.0) entry [] came.fit in
    let one : length c.in-Some.lists.now.items ≡ 1 = sym (length-map c.in-Some.lists.now.items (λ l. l.items))
    ∙ ap length is.lists in
    let copy : c.in_ok-from_slice-in-Some.field-0.items ≡ c.index.result.now.items =
    c.in_ok-from_slice-in-Some.ensures.items ∙ c.deref.ensures.value in
    let first : get_or (items_of c.in-Some.lists.now) 0 [] ≡ c.index.result.now.items =
    get_or-map (λ l. l.items) c.in-Some.lists.now.items 0 c.index.result.now [] (omega (arith, one))
    ∙ sym (ap (λ l. l.items) c.index.ensures) in
    record {
      later = later_same _ _;
      queried = All-head (λ e. All (λ v. is_set_queried p c.args.cache.now v ≡ true) (sets_of p.universe e.0)) entry []
          came.queried;
      names_fit = fit.names;
      interned = none_more p.same_solvable os (sorted_of p (Single c.args.set)) is.have;
      fit = fit.solvables;
      of_variables = ap (λ l. l ∷ []) (copy ∙ sym first ∙ ap (λ ls. get_or ls 0 []) is.lists);
    }
