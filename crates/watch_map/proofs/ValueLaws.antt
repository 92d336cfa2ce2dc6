-- Values that only grow, and the values that entries give.
use Rattle.std.proofs.Common.{◌≡◌, ℕ, zero, suc, Bool, true, false, not, cond, ◌⊎◌, inl, inr, List, [], ◌∷◌, ◌++◌}
use Rattle.std.proofs.Common.{take, drop, Option, Some, None, refl, sym, ap, subst, ◌∙◌, nat_eq, eq-eqb, eqb-true}
use Rattle.std.specs.Prelude.{is_some}
use Rattle.std.proofs.lemmas.Bool.{true≢false}
use Rattle.std.proofs.lemmas.List.{take-append-drop}
use Rattle.decisions.proofs.TrailLemmas.{val-push}
use Rattle.watch_map.proofs.Words.{beq, decided_literal, Decision, Entry, Extends, is_false_literal, is_true_literal}
use Rattle.watch_map.proofs.Words.{IsOnce, known_false, known_true, Lit, Neg, option_eq, option_map, Pos}
use Rattle.watch_map.proofs.Words.{refuted_literal, satisfying_value, slice_get, truth, undecided, val, val_before}
use Rattle.watch_map.proofs.Words.{Values, variable_of}
use Rattle.watch_map.proofs.LiteralLists.{by_test}

-- ---- values

pub extends_self : (now : Values) → Extends now now
extends_self now = record { kept = λ x b h. h }

pub extends_on : (a b c : Values) → Extends a b → Extends b c → Extends a c
extends_on a b c ab bc = record { kept = λ x v h. bc.kept x v (ab.kept x v h) }

pub truth_kept : (a b : Values) → Extends a b → (l : Lit) (v : Bool) → truth a l ≡ Some v → truth b l ≡ Some v
truth_kept a b ex (Pos x) v h = ex.kept x v h
truth_kept a b ex (Neg x) v h = by_value (a x) refl h
  where
    by_value : (o : Option Bool) → a x ≡ o → option_map not o ≡ Some v → option_map not (b x) ≡ Some v
    by_value None e k = absurd (let z : None ≡ Some v = k in cc)
    by_value (Some u) e k = ap (option_map not) (ex.kept x u e) ∙ k

known_kept : (f : Option Bool → Bool) → f None ≡ false → (a b : Values) → Extends a b → (l : Lit)
    → f (truth a l) ≡ true → f (truth b l) ≡ true
known_kept f none a b ex l h = by_value (truth a l) refl h
  where
    by_value : (o : Option Bool) → truth a l ≡ o → f o ≡ true → f (truth b l) ≡ true
    by_value None e k = absurd (true≢false (sym k ∙ none))
    by_value (Some u) e k = ap f (truth_kept a b ex l u e) ∙ k

pub true_kept : (a b : Values) → Extends a b → (l : Lit) → is_true_literal a l ≡ true → is_true_literal b l ≡ true
true_kept a b ex l h = known_kept known_true refl a b ex l h

pub false_kept : (a b : Values) → Extends a b → (l : Lit) → is_false_literal a l ≡ true → is_false_literal b l ≡ true
false_kept a b ex l h = known_kept known_false refl a b ex l h

true_or_false : (o : Option Bool) → known_true o ≡ true → known_false o ≡ true → ⊥
true_or_false None t f = (let z : false ≡ true = t in cc)
true_or_false (Some true) t f = (let z : false ≡ true = f in cc)
true_or_false (Some false) t f = (let z : false ≡ true = t in cc)

pub true_is_not_false : (now : Values) (l : Lit) → is_true_literal now l ≡ true → is_false_literal now l ≡ true → ⊥
true_is_not_false now l t f = true_or_false (truth now l) t f

true_or_open : (o : Option Bool) → known_true o ≡ true → undecided o ≡ true → ⊥
true_or_open None t u = (let z : false ≡ true = t in cc)
true_or_open (Some b) t u = (let z : false ≡ true = u in cc)

pub true_is_decided : (now : Values) (l : Lit) → is_true_literal now l ≡ true → undecided (truth now l) ≡ true → ⊥
true_is_decided now l t u = true_or_open (truth now l) t u

none_if_open : (o : Option Bool) → undecided o ≡ true → o ≡ None
none_if_open None u = refl
none_if_open (Some b) u = absurd (let z : false ≡ true = u in cc)

-- the variable of an undecided literal has no value
pub open_variable : (now : Values) (l : Lit) → undecided (truth now l) ≡ true → now (variable_of l) ≡ None
open_variable now (Pos x) u = none_if_open (now x) u
open_variable now (Neg x) u = by_value (now x) refl u
  where
    by_value : (o : Option Bool) → now x ≡ o → undecided (option_map not o) ≡ true → now x ≡ None
    by_value None e k = e
    by_value (Some b) e k = absurd (let z : false ≡ true = k in cc)

-- what is neither true nor false is undecided
pub open_if : (o : Option Bool) → known_true o ≡ false → known_false o ≡ false → undecided o ≡ true
open_if None t f = refl
open_if (Some true) t f = absurd (let z : true ≡ false = t in cc)
open_if (Some false) t f = absurd (let z : true ≡ false = f in cc)

-- what is told of a value by comparing it with true, and by whether there is one
pub compared : (o : Option Bool) → known_true o ≡ option_eq beq o (Some true)
compared None = refl
compared (Some true) = refl
compared (Some false) = refl

pub false_if_not_true : (o : Option Bool) → known_true o ≡ false → is_some o ≡ true → known_false o ≡ true
false_if_not_true None t s = absurd (let z : false ≡ true = s in cc)
false_if_not_true (Some true) t s = absurd (let z : true ≡ false = t in cc)
false_if_not_true (Some false) t s = refl

pub none_not_false : (o : Option Bool) → is_some o ≡ false → known_false o ≡ false
none_not_false None s = refl
none_not_false (Some b) s = absurd (let z : true ≡ false = s in cc)

-- ---- values of entries

pub val_kept : (es fs : List Entry) → Extends (val es) (val (es ++ fs))
val_kept es fs = record { kept = go es }
  where
    go : (gs : List Entry) (x : ℕ) (b : Bool) → val gs x ≡ Some b → val (gs ++ fs) x ≡ Some b
    go [] x b h = absurd (let z : None ≡ Some b = h in cc)
    go (g ∷ gs) x b h = elim (nat_eq g.decision.variable x) as
        (λ t. cond t (Some g.decision.value) (val gs x) ≡ Some b
        → cond t (Some g.decision.value) (val (gs ++ fs) x) ≡ Some b) [ true ↦ λ k. k | false ↦ λ k. go gs x b k ] h

pub val_added : (es : List Entry) (e : Entry) → val es e.decision.variable ≡ None
    → val (es ++ e ∷ []) e.decision.variable ≡ Some e.decision.value
val_added es e none =
    val-push es e e.decision.variable none
    ∙ ap (λ t. cond t (Some e.decision.value) (val es e.decision.variable))
    (eq-eqb e.decision.variable e.decision.variable refl)

-- with one entry more: an old value, or the entry's
pub val_of_more : (es : List Entry) (e : Entry) (x : ℕ) (b : Bool) → val (es ++ e ∷ []) x ≡ Some b
    → (val es x ≡ Some b) ⊎ ((e.decision.variable ≡ x) × (e.decision.value ≡ b))
val_of_more [] e x b h =
    by_test ((None ≡ Some b) ⊎ ((e.decision.variable ≡ x) × (e.decision.value ≡ b))) (nat_eq e.decision.variable x)
    (λ t. let k : Some e.decision.value ≡ Some b = subst (λ s. cond s (Some e.decision.value) None ≡ Some b) t h in
    inr (eqb-true e.decision.variable x t, (let z : e.decision.value ≡ b = cc in z)))
    (λ t. absurd (let k : None ≡ Some b = subst (λ s. cond s (Some e.decision.value) None ≡ Some b) t h in cc))
val_of_more (g ∷ es) e x b h =
    elim (nat_eq g.decision.variable x) as (λ t. cond t (Some g.decision.value) (val (es ++ e ∷ []) x) ≡ Some b
    → (cond t (Some g.decision.value) (val es x) ≡ Some b) ⊎ ((e.decision.variable ≡ x) × (e.decision.value ≡ b))) [
      | true ↦ λ k. inl k
      | false ↦ λ k. val_of_more es e x b k
    ] h

-- the value of an entry of a trail is its variable's
pub val_at : (es : List Entry) (place : ℕ) (e : Entry) → IsOnce es → slice_get es place ≡ Some e
    → val es e.decision.variable ≡ Some e.decision.value
val_at [] place e once h = absurd (let z : None ≡ Some e = h in cc)
val_at (g ∷ es) zero e once h = (let z : g ≡ e = cc in subst
    (λ (y : Entry). cond (nat_eq g.decision.variable y.decision.variable) (Some g.decision.value)
    (val es y.decision.variable) ≡ Some y.decision.value) z
    (rw (eq-eqb g.decision.variable g.decision.variable refl) refl))
val_at (g ∷ es) (suc place) e once h =
    let later = val_at es place e once.1 h in
    by_test (cond (nat_eq g.decision.variable e.decision.variable) (Some g.decision.value)
    (val es e.decision.variable) ≡ Some e.decision.value) (nat_eq g.decision.variable e.decision.variable)
    (λ t. absurd (let same : g.decision.variable ≡ e.decision.variable =
    eqb-true g.decision.variable e.decision.variable t in
    let k : val es g.decision.variable ≡ Some e.decision.value =
    subst (λ x. val es x ≡ Some e.decision.value) (sym same) later in
    let z : None ≡ Some e.decision.value = sym once.0 ∙ k in cc))
    (λ t. rw t later)

-- what the first entries make true all entries do
pub before_extends : (es : List Entry) (place : ℕ) → Extends (val_before place es) (val es)
before_extends es place =
    subst (λ xs. Extends (val_before place es) (val xs)) (take-append-drop place es)
    (val_kept (take place es) (drop place es))

-- ---- the literals of a decision

value_true : (now : Values) (d : Decision) → now d.variable ≡ Some d.value → truth now (decided_literal d) ≡ Some true
value_true now d h = go d.value refl
  where
    go : (b : Bool) → d.value ≡ b → truth now (cond b (Pos d.variable) (Neg d.variable)) ≡ Some true
    go true e = h ∙ ap Some e
    go false e = ap (option_map not) (h ∙ ap Some e)

value_false : (now : Values) (d : Decision) → now d.variable ≡ Some d.value → truth now (refuted_literal d) ≡ Some false
value_false now d h = go d.value refl
  where
    go : (b : Bool) → d.value ≡ b → truth now (cond b (Neg d.variable) (Pos d.variable)) ≡ Some false
    go true e = ap (option_map not) (h ∙ ap Some e)
    go false e = h ∙ ap Some e

pub decided_is_true : (now : Values) (d : Decision) → now d.variable ≡ Some d.value
    → is_true_literal now (decided_literal d) ≡ true
decided_is_true now d h = ap known_true (value_true now d h)

pub refuted_is_false : (now : Values) (d : Decision) → now d.variable ≡ Some d.value
    → is_false_literal now (refuted_literal d) ≡ true
refuted_is_false now d h = ap known_false (value_false now d h)

pub decided_variable : (d : Decision) → variable_of (decided_literal d) ≡ d.variable
decided_variable d = elim d.value as (λ b. variable_of (cond b (Pos d.variable) (Neg d.variable)) ≡ d.variable)
    [ true ↦ refl | false ↦ refl ]

-- what one entry more makes false: what was false, or the literal that it refutes
pub false_of_more : (es : List Entry) (e : Entry) (w : Lit) → is_false_literal (val (es ++ e ∷ [])) w ≡ true
    → (is_false_literal (val es) w ≡ true) ⊎ (w ≡ refuted_literal e.decision)
false_of_more es e (Pos x) h = by_value (val (es ++ e ∷ []) x) refl h
  where
    by_value : (o : Option Bool) → val (es ++ e ∷ []) x ≡ o → known_false o ≡ true
        → (is_false_literal (val es) (Pos x) ≡ true) ⊎ (Pos x ≡ refuted_literal e.decision)
    by_value None q k = absurd (let z : false ≡ true = k in cc)
    by_value (Some true) q k = absurd (let z : false ≡ true = k in cc)
    by_value (Some false) q k = elim (val_of_more es e x false q) [
      | inl old ↦ inl (ap known_false old)
      | inr is ↦ inr (sym (ap (λ b. cond b (Neg e.decision.variable) (Pos e.decision.variable)) is.1 ∙ ap Pos is.0))
    ]
false_of_more es e (Neg x) h = by_value (val (es ++ e ∷ []) x) refl h
  where
    by_value : (o : Option Bool) → val (es ++ e ∷ []) x ≡ o → known_false (option_map not o) ≡ true
        → (is_false_literal (val es) (Neg x) ≡ true) ⊎ (Neg x ≡ refuted_literal e.decision)
    by_value None q k = absurd (let z : false ≡ true = k in cc)
    by_value (Some false) q k = absurd (let z : false ≡ true = k in cc)
    by_value (Some true) q k = elim (val_of_more es e x true q) [
      | inl old ↦ inl (ap (λ o. known_false (option_map not o)) old)
      | inr is ↦ inr (sym (ap (λ b. cond b (Neg e.decision.variable) (Pos e.decision.variable)) is.1 ∙ ap Neg is.0))
    ]

-- a literal is true once its variable has the value that satisfies it
pub true_of : (now : Values) (l : Lit) → now (variable_of l) ≡ Some (satisfying_value l) → is_true_literal now l ≡ true
true_of now (Pos x) h = ap known_true h
true_of now (Neg x) h = ap (λ o. known_true (option_map not o)) h
