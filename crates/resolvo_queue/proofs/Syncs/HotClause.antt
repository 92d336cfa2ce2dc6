-- A clause that becomes hot: a synced queue stays synced, if the clause's position is among the hot ones once it is
-- queued.
use Rattle.std.proofs.Common.{◌≡◌, ◌≢◌, ℕ, zero, suc, Bool, true, ◌⊎◌, inl, inr, List, [], ◌∷◌}
use Rattle.std.proofs.Common.{set, Some, slice_get, sym, ap, ap₂, refl, ◌∙◌, subst, ◌&&◌, arith}
use Rattle.resolvo_queue.proofs.Words.{are_literals_false, GrowsBy, has, heated, is_possible, IsQueued, KeepsQueued}
use Rattle.resolvo_queue.proofs.Words.{known_at, Lit, may_have_frontier, Position, Queued, Record, Requirement, Row}
use Rattle.resolvo_queue.proofs.Words.{TrackedClause, Values}
use Rattle.resolvo_queue.proofs.Lists.{same_some}
use Rattle.resolvo_queue.proofs.Syncs.Queued.{queued_stays}

-- what stands in a list of which one item was set: that item at its place, elsewhere what stood there
pub set_or_elsewhere : {X : Type 0} (xs : List X) (n : ℕ) (y : X) (m : ℕ) (z : X) → slice_get (set xs n y) m ≡ Some z →
    ((y ≡ z) × (m ≡ n)) ⊎ ((slice_get xs m ≡ Some z) × (m ≢ n))
set_or_elsewhere [] n y m z is = cc
set_or_elsewhere (x ∷ xs) zero y zero z is = inl (same_some y z is, refl)
set_or_elsewhere (x ∷ xs) zero y (suc m) z is = inr (is, λ e. omega (arith, e))
set_or_elsewhere (x ∷ xs) (suc n) y zero z is = inr (is, λ e. omega (arith, e))
set_or_elsewhere (x ∷ xs) (suc n) y (suc m) z is = elim (set_or_elsewhere xs n y m z is) [
  | inl e ↦ inl (e.0, ap suc e.1)
  | inr o ↦ inr (o.0, λ e. o.1 (omega (arith, e)))
]

pub heated_synced : (cs : List TrackedClause) (literals : TrackedClause → List Lit) (rows_of : Requirement → List Row)
    (val : Values) (counted : TrackedClause → Bool)
    (ts : List Record) (New : Position → Type 0) (q q' : Queued) (n : ℕ) (c : TrackedClause) →
    ((d : TrackedClause) → literals (heated d) ≡ literals d) → ((d : TrackedClause) → counted (heated d) ≡ counted d) →
    slice_get cs n ≡ Some c → GrowsBy New q q' → (has q.all c.position ≡ true → has q'.hot c.position ≡ true) →
    KeepsQueued cs literals rows_of val counted ts q →
    KeepsQueued (set cs n (heated c)) literals rows_of val counted ts q'
heated_synced cs literals rows_of val counted ts New q q' n c same_literals same_counted is grows into old = record {
  queued = λ m d at e. elim (set_or_elsewhere cs n (heated c) m d at) [
    | inl new ↦ subst (IsQueued q') new.0 (hot (old.queued n c is
        (sym same ∙ (ap (is_possible literals counted val (known_at ts)) new.0 ∙ e))))
    | inr was ↦ queued_stays New q q' d grows (old.queued m d was.0 e)
  ];
  right = old.right;
}
  where
    same : is_possible literals counted val (known_at ts) (heated c) ≡ is_possible literals counted val (known_at ts) c
    same = ap₂ (λ a ls. a && (are_literals_false val ls && may_have_frontier (known_at ts c.record))) (same_counted c)
        (same_literals c)

    hot : IsQueued q c → IsQueued q' (heated c)
    hot was = record { all = grows.all_kept c.position was.all; hot = λ h. into was.all }
