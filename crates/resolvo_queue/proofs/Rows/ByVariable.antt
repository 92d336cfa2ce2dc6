-- What one more item changes in the lists by variable.
use Rattle.std.proofs.Common.{◌≡◌, ◌≢◌, ℕ, zero, suc, ◌<◌, Bool, true, false, eqb, List, [], ◌∷◌, ◌++◌, map, length}
use Rattle.std.proofs.Common.{get_or, set, sym, ap, refl, ◌∙◌, eq-eqb, eqb-true, get_or-set_same, get_or-set_other}
use Rattle.std.proofs.lemmas.List.{get_or-map, length-map, map-append, map-set}
use Rattle.resolvo_queue.proofs.Words.{IsUpdate, list_at, SameValues}

past_empty : {X : Type 0} (lists : List (List X)) (k : ℕ) → get_or (lists ++ [] ∷ []) k [] ≡ get_or lists k []
past_empty [] zero = refl
past_empty [] (suc k) = refl
past_empty (l ∷ ls) zero = refl
past_empty (l ∷ ls) (suc k) = past_empty ls k

-- one more list that is empty shows nowhere
pub same_with_empty : {V X : Type 0} (f : V → List X) (vs ws : List V) (v : V) →
    ws ≡ vs ++ v ∷ [] → f v ≡ [] → (k : ℕ) → get_or (map f ws) k [] ≡ get_or (map f vs) k []
same_with_empty f vs ws v e h k = rw (e, map-append f vs (v ∷ []), h) (past_empty (map f vs) k)

module _ {V X : Type 0} (f : V → List X) (old : List (List X)) (vs : List V) (i parent : ℕ)
    (before after : V) (same : SameValues (list_at old) (list_at (map f vs))) (at : i ≡ parent) (within : i < length vs)
    (read : before ≡ get_or vs i before) where
  abbrev put : List (List X)
  put = map f (set vs i after)

  elsewhere : (other : ℕ) → other ≢ parent → list_at put other ≡ list_at old other
  elsewhere other ne =
      rw (map-set f vs i after, get_or-set_other (map f vs) i other (f after) [] (λ e. ne (e ∙ at))) (same other)

  here : list_at put parent ≡ f after
  here =
      let within_map : i < length (map f vs) = rw (length-map vs f) within in
      rw (← at, map-set f vs i after) (get_or-set_same (map f vs) i (f after) [] within_map)

  was : list_at old parent ≡ f before
  was = sym (same parent) ∙ rw (← at, read) (get_or-map f vs i before [] within)

  -- an item put after those of its variable
  pub put_after : (c : X) → f after ≡ f before ++ c ∷ [] →
      IsUpdate (list_at old) parent (list_at old parent ++ c ∷ []) (list_at put)
  put_after c e = (here ∙ (e ∙ ap (λ l. l ++ c ∷ []) (sym was)), elsewhere)

  -- a refused one
  pub put_nothing : f after ≡ f before → SameValues (list_at old) (list_at put)
  put_nothing e key = go (eqb key parent) refl
    where
      go : (b : Bool) → eqb key parent ≡ b → list_at put key ≡ list_at old key
      go true h = rw (eqb-true key parent h) (here ∙ (e ∙ sym was))
      go false h = elsewhere key (λ k. let t : eqb key parent ≡ true = eq-eqb key parent k in cc)
