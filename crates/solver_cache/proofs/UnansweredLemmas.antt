-- What refused questions about version sets in turn leave.
use Rattle.std.proofs.Common.{◌≡◌, ℕ, ◌<◌, ◌+◌, Bool, List, [], ◌∷◌, ◌++◌, length, take, drop, get_or, ◌∙◌, ap, refl}
use Rattle.std.proofs.Common.{sym, subst, inl, inr}
use Rattle.std.proofs.lemmas.List.{append-nil, append_assoc, take_more, take-append-drop}
use Rattle.solver_cache.proofs.Words.{AreCutShort, AreSorted, AreStopped, AreUnsorted, Cache, CacheError, Cancelled}
use Rattle.solver_cache.proofs.Words.{is_set_queried, IsRefusedOf, IsUnsorted, MayAnswer, Provider, Store, VersionSetId}

module _ {D N S A H : Type 0} (p : Provider N S) (may : MayAnswer N S A) (has : H → S → Bool) where
  -- nothing changed
  pub none_sorted : (vs : List VersionSetId) (c : Cache D N S A H) → AreUnsorted p may has c vs c
  none_sorted [] c = refl
  none_sorted (v ∷ vs) c = inl (inl (inl (inl refl)))

  -- some were answered before
  unsorted_after : (done vs : List VersionSetId) (c d e : Cache D N S A H) → AreSorted p may has c done d →
      AreUnsorted p may has d vs e
      → AreUnsorted p may has c (done ++ vs) e
  unsorted_after [] vs c d e first rest = subst (λ x. AreUnsorted p may has x vs e) first rest
  unsorted_after (w ∷ done) vs c d e first rest =
      inr (first.0, first.1, unsorted_after done vs first.0 d e first.2 rest)

  stopped_after : (done vs : List VersionSetId) (c d e : Cache D N S A H) → AreSorted p may has c done d →
      AreStopped p may has d vs e
      → AreStopped p may has c (done ++ vs) e
  stopped_after [] vs c d e first rest = subst (λ x. AreStopped p may has x vs e) first rest
  stopped_after (w ∷ done) vs c d e first rest = inr (first.0, first.1, stopped_after done vs first.0 d e first.2 rest)

  -- all were answered
  pub all_sorted : (vs : List VersionSetId) (c d : Cache D N S A H) → AreSorted p may has c vs d →
      AreUnsorted p may has c vs d
  all_sorted vs c d h = subst (λ l. AreUnsorted p may has c l d) (append-nil vs) (unsorted_after vs [] c d d h refl)

  -- the only one was refused
  pub left_of_one : {C : Type 0} (lacks : Bool) (v : VersionSetId) (old new : Cache D N S A H) (e : CacheError C)
      → IsRefusedOf (is_set_queried p old v) lacks old e new → IsUnsorted p may has old v new →
      AreCutShort p may has (v ∷ []) old e new
  left_of_one lacks v old new (Cancelled reason) refused left = inl refused
  left_of_one lacks v old new (Store e) refused left = inl left

  module _ (vs : List VersionSetId) (i : ℕ) (d : VersionSetId) (lt : i < length vs) (old mid new : Cache D N S A H)
      (sorted : AreSorted p may has old (take i vs) mid) where
    abbrev v : VersionSetId
    v = get_or vs i d

    abbrev behind : List VersionSetId
    behind = drop (i + 1) vs

    whole : take i vs ++ v ∷ behind ≡ vs
    whole = sym (append_assoc (take i vs) (v ∷ []) behind) ∙ ap (λ l. l ++ behind) (sym (take_more vs i d lt))
        ∙ take-append-drop (i + 1) vs

    -- one of several was refused
    pub left_in_turn : {C : Type 0} (lacks : Bool) (e : CacheError C) →
        IsRefusedOf (is_set_queried p mid (get_or vs i d)) lacks mid e new
        → IsUnsorted p may has mid (get_or vs i d) new → AreCutShort p may has vs old e new
    left_in_turn lacks (Cancelled reason) refused left =
        subst (λ l. AreStopped p may has old l new) whole (stopped_after (take i vs) (v ∷ behind) old mid new sorted
        (inl refused))
    left_in_turn lacks (Store e) refused left =
        subst (λ l. AreUnsorted p may has old l new) whole (unsorted_after (take i vs)
        (v ∷ behind) old mid new sorted (inl left))
