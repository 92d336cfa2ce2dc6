-- Where two trails agree below the floor, a variable whose value differs stands from the floor on in one of them.
use Rattle.std.proofs.Common.{◌≡◌, ℕ, Bool, true, false, ◌||◌, cond, eqb, List, [], ◌∷◌, ◌++◌}
use Rattle.std.proofs.Common.{take, drop, Some, None, sym, ap, refl, ◌∙◌, take-append-drop}
use Rattle.std.proofs.lemmas.List.Folds.{list_any-append}
use Rattle.resolvo_queue.proofs.Words.{Decision, is_among, option_or, SameElsewhere, Values, values_of, variables_of}

value-append : (xs ys : List Decision) (x : ℕ) → values_of (xs ++ ys) x ≡ option_or (values_of xs x) (values_of ys x)
value-append [] ys x = refl
value-append (d ∷ ds) ys x = go (eqb d.variable x) (value-append ds ys x)
  where
    go : (b : Bool) → values_of (ds ++ ys) x ≡ option_or (values_of ds x) (values_of ys x) →
        cond b (Some d.value) (values_of (ds ++ ys) x)
        ≡ option_or (cond b (Some d.value) (values_of ds x)) (values_of ys x)
    go true h = refl
    go false h = h

no_value : (xs : List Decision) (x : ℕ) → is_among (variables_of xs) x ≡ false → values_of xs x ≡ None
no_value [] x h = refl
no_value (d ∷ ds) x h = go (eqb d.variable x) h (no_value ds x)
  where
    go : (b : Bool) → (b || is_among (variables_of ds) x) ≡ false →
        (is_among (variables_of ds) x ≡ false → values_of ds x ≡ None) → cond b (Some d.value) (values_of ds x) ≡ None
    go true f more = cc
    go false f more = more f

below_only : (n : ℕ) (xs : List Decision) (x : ℕ) → is_among (variables_of (drop n xs)) x ≡ false →
    values_of xs x ≡ option_or (values_of (take n xs) x) None
below_only n xs x h = ap (λ l. values_of l x) (sym (take-append-drop n xs))
    ∙ (value-append (take n xs) (drop n xs) x ∙ ap (option_or (values_of (take n xs) x)) (no_value (drop n xs) x h))

either : (a b : Bool) → (a || b) ≡ false → (a ≡ false) × (b ≡ false)
either true b h = cc
either false b h = (refl, h)

-- the values differ at routed variables alone
pub sync_values : (floor : ℕ) (before now : List Decision) (val : Values) → ((x : ℕ) → val x ≡ values_of now x) →
    take floor before ≡ take floor now →
    SameElsewhere (is_among (variables_of (drop floor before) ++ variables_of (drop floor now))) (values_of before) val
sync_values floor before now val same agree x h =
    let vs : List ℕ = variables_of (drop floor before) in
    let ws : List ℕ = variables_of (drop floor now) in
    let both = either (is_among vs x) (is_among ws x) (sym (list_any-append (λ v. eqb v x) vs ws) ∙ h) in
    below_only floor before x both.0
    ∙ (ap (λ l. option_or (values_of l x) None) agree ∙ (sym (below_only floor now x both.1) ∙ sym (same x)))
