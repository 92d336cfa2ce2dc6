-- What loads answer while other commands are obeyed.
use Rattle.std.proofs.Common.{◌≡◌, List, ◌∙◌, sym, subst}
use Rattle.resolvo_store.proofs.CandidateLaws.{AreCandidates-step, load_answers, load_again, load_candidates}
use Rattle.resolvo_store.proofs.KeepingLaws.{OnlyGrows-step, lists_stay}
use Rattle.resolvo_store.proofs.KnownLemmas.{IsLawful}
use Rattle.test_store_calls.proofs.Words.{AreCandidates, candidate_variables, Command, IsRefused, Load, LoadedAs}
use Rattle.test_store_calls.proofs.Words.{Provider, Reply, Requirement, Step, Store}

module _ {N S : Type 0} (start loaded between end : Store N S) (r : Requirement) (c : Command N S)
    (before reply after : Reply)
    (lawful : IsLawful start.provider) (first : Step start (Load r) before loaded)
    (second : Step loaded c reply between)
    (third : Step between (Load r) after end) (last_answered : IsRefused after → ⊥) where
  lawful_loaded : IsLawful loaded.provider
  lawful_loaded = subst (λ (p : Provider N S). IsLawful p)
      (sym (OnlyGrows-step start loaded (Load r) before lawful first).provider) lawful

  lawful_between : IsLawful between.provider
  lawful_between = subst (λ (p : Provider N S). IsLawful p)
      (sym (OnlyGrows-step loaded between c reply lawful_loaded second).provider) lawful_loaded

  -- both are answered the same
  pub same_loads : (IsRefused before → ⊥) → before ≡ after
  same_loads answered =
      let found = load_answers start loaded r before first answered in
      let stays = lists_stay (OnlyGrows-step loaded between c reply lawful_loaded second) r found.0 found.2 in
      found.1 ∙ sym (load_again between end r after third last_answered found.0 stays)

  -- and by the candidates' variables
  pub loads_candidates : AreCandidates start → after ≡ LoadedAs (candidate_variables end r)
  loads_candidates are =
      load_candidates between end r after third last_answered lawful_between
      (AreCandidates-step loaded between c reply lawful_loaded
      (AreCandidates-step start loaded (Load r) before lawful are first) second)
