use Rattle.std.proofs.Common.{◌≡◌, ℕ, ◌+◌, ◌-◌, ◌<◌, ◌≤◌, Bool, true, false, not, ◌||◌, cond, eqb, List, length, take}
use Rattle.std.proofs.Common.{get_or, refl, sym, ap, ◌∙◌, subst, arith, inl, inr}
use mir.Val.{bool_byte}
use Rattle.std.proofs.lemmas.Bool.{cases_lt, cases_eq, eq-eqb, ne_eqb, eqb-true, false≢true, and_parts}
use Rattle.std.proofs.lemmas.Bool.{false_from_ne_true}
use Rattle.std.proofs.lemmas.List.{get_or_past, get_or_read}
use Rattle.std.proofs.lemmas.List.Folds.{list_any_more}
use Rattle.clause_counters.proofs.Words.{all_places, AreFlagged, count, has_index, initial_flag, is_false_literal}
use Rattle.clause_counters.proofs.Words.{is_newest, IsStanding, Link, link_at, list_any, literal_index, no_standing}
use Rattle.clause_counters.proofs.Words.{numbers_at, once, open_places, placed_once, Pos, Standing, standing_at}
use Rattle.clause_counters.proofs.Words.{values_in, with_place_once}
use Rattle.clause_counters.proofs.FlagLaws.{of_literal}
use Rattle.clause_counters.proofs.CountLaws.{no_term, first_counted}
use Rattle.clause_counters.proofs.PoolLaws.{merged, merged_le, merged_twice, byte_neither, neither_le, moved}
use Rattle.clause_counters.proofs.AddingSteps.{standing_once, lists_once, all_once, open_once, flags_once}
use Rattle.clause_counters.proofs.AddingSteps.{newest_once, places_once, literals_once}
use Rattle.clause_counters.proofs.adding.place_literals.Goals as goal

-- one more of which one is known
once_more : (b has_one : Bool) (i j : ℕ) → (i ≡ j → has_one ≡ b)
    → cond (b || eqb i j) 1 0 ≡ cond b 1 0 + cond (eqb i j) (cond has_one 0 1) 0
once_more b has_one i j same = elim (cases_eq i j) [
  | inl e ↦ ap (λ t. cond (b || t) 1 0) (eq-eqb i j e)
      ∙ (by b ∙ sym (ap (λ t. cond b 1 0 + cond (eqb i j) (cond t 0 1) 0) (same e)
      ∙ ap (λ t. cond b 1 0 + cond t (cond b 0 1) 0) (eq-eqb i j e)))
  | inr ne ↦ ap (λ t. cond (b || t) 1 0) (ne_eqb i j ne)
      ∙ (plain b ∙ sym (ap (λ t. cond b 1 0 + cond t (cond has_one 0 1) 0) (ne_eqb i j ne)))
]
  where
    by : (b : Bool) → cond (b || true) 1 0 ≡ cond b 1 0 + cond b 0 1
    by true = refl
    by false = refl

    plain : (b : Bool) → cond (b || false) 1 0 ≡ cond b 1 0 + 0
    plain true = refl
    plain false = refl

-- no place is of a group that is new
none_newest : (ps : List Link) (ls : List Standing) (group i : ℕ) → IsStanding ps ls → all_places ps ls group ≡ 0
    → is_newest ps (standing_at ls i) group ≡ false
none_newest ps ls group i st new = false_from_ne_true _ (λ e.
    let at = standing_at ls i in
    let parts = and_parts _ _ e in
    let some : at.groups ≡ 0 → ⊥ = λ z. false≢true (sym (ap not (eq-eqb at.groups 0 z)) ∙ parts.0) in
    let is : (link_at ps (at.groups - 1)).value ≡ group = eqb-true _ _ parts.1 in
    let one : 1 ≤ count group (numbers_at ps at.groups) =
    subst (λ n. 1 ≤ count n (numbers_at ps at.groups)) is (first_counted ps st.linked at.groups some) in
    elim (cases_lt i (length ls)) [
      | inl l ↦ (let part = of_literal ps ls i group l in omega (arith, part, one, new))
      | inr past ↦ some (ap (λ (x : Standing). x.groups) (get_or_past ls i no_standing past))
    ])

pub loop-literal-init : goal.loop-literal-init
loop-literal-init g c = record {
  standing = c.requires.standing;
  lists = λ i h. (let none = no_term (eqb c.args.group h) in omega (arith, none));
  newest = λ i. none_newest c.args.places.now.items c.args.literals.now.items c.args.group i c.requires.standing
      c.requires.new;
  all = λ h. omega arith;
  left = λ h. (let none = no_term (eqb c.args.group h) in omega (arith, none));
  flags = λ is_false flagged says. flagged;
  counted = omega arith;
  as_many = refl;
  len = omega arith;
  room = refl;
}

pub loop-literal-preserved : goal.loop-literal-preserved
loop-literal-preserved g c =
    let inv = c.loop-literal.invariant in
    let ps = c.loop-literal.places.items in
    let ls = c.loop-literal.literals.items in
    let list = c.args.list.now in
    let k = c.loop-literal.literal-index in
    let test = c.loop-literal-test.true in
    let lit = c.literal-item.result in
    let i = c.to_index.result in
    let new_flag = c.is_false-new_flag.result in
    let group = c.args.group in
    let at : lit ≡ get_or list k (Pos 0) = get_or_read list k lit test c.literal-item.is (Pos 0) in
    let index : i ≡ literal_index (get_or list k (Pos 0)) = c.to_index.ensures.value ∙ ap literal_index at in
    let reached = c.requires.reached k (Pos 0) test in
    let in' : i < length ls = (let e = inv.as_many in let ok = c.loop-literal.literals.ok.0 in
    omega (arith, index, reached, e, ok)) in
    let flag = initial_flag (standing_at ls i) new_flag in
    let np = c.place-is_left.ensures.places in
    let nl = c.place-is_left.ensures.literals in
    let has_one = is_newest ps (standing_at ls i) group in
    let wp = with_place_once ps ls i group in
    let wl = placed_once ps ls i group new_flag in
    let ps' = c.place-is_left.new.places.items in
    let ls' = c.place-is_left.new.literals.items in
    let step : c.from-left.result ≡ cond has_one 0 (cond flag 0 1) = c.from-left.ensures
    ∙ (ap bool_byte c.place-is_left.ensures.left ∙ byte_neither has_one flag) in
    let any = λ (j : ℕ). list_any_more (has_index j) list k (Pos 0) test
    ∙ ap (λ n. list_any (has_index j) (take k list) || eqb n j) (sym index) in
    record {
      standing = moved IsStanding wp ps' wl ls' np nl (standing_once ps ls inv.standing i in' group new_flag);
      lists = λ j h. moved (λ x y. count h (numbers_at x (standing_at y j).groups) ≡
          count h (numbers_at c.args.places.now.items (standing_at c.args.literals.now.items j).groups)
          + cond (eqb group h) (once j (take (k + 1) list)) 0) wp ps' wl ls' np nl
          (merged_twice (eqb i j) (eqb group h) (count h (numbers_at wp (standing_at wl j).groups))
          (count h (numbers_at ps (standing_at ls j).groups))
          (count h (numbers_at c.args.places.now.items (standing_at c.args.literals.now.items j).groups))
          (once j (take k list)) (once j (take (k + 1) list)) (cond has_one 0 1)
          (lists_once ps ls inv.standing i in' group new_flag j h) (inv.lists j h)
          (ap (λ b. cond b 1 0) (any j)
          ∙ once_more (list_any (has_index j) (take k list)) has_one i j
          (λ e. inv.newest i ∙ ap (λ n. list_any (has_index n) (take k list)) e)));
      newest = λ j. moved (λ x y. is_newest x (standing_at y j) group ≡ list_any (has_index j) (take (k + 1) list))
          wp ps' wl ls' np nl (newest_once ps ls inv.standing i in' group new_flag j
          ∙ (ap (λ b. b || eqb i j) (inv.newest j) ∙ sym (any j)));
      all = λ h. moved (λ x y. all_places x y h ≤ all_places c.args.places.now.items c.args.literals.now.items h +
          cond (eqb group h) (k + 1) 0)
          wp ps' wl ls' np nl
          (merged_le (eqb group h) (all_places wp wl h) (all_places ps ls h)
          (all_places c.args.places.now.items c.args.literals.now.items h) k (k + 1) 1
          (all_once ps ls inv.standing i in' group new_flag h) (inv.all h) refl);
      left = λ h. moved (λ x y. open_places x y h ≡ open_places c.args.places.now.items c.args.literals.now.items h
          + cond (eqb group h) (c.loop-literal.left + c.from-left.result) 0) wp ps' wl ls' np nl
          (merged (eqb group h) (open_places wp wl h) (open_places ps ls h)
          (open_places c.args.places.now.items c.args.literals.now.items h)
          c.loop-literal.left (c.loop-literal.left + c.from-left.result) (cond has_one 0 (cond flag 0 1))
          (open_once ps ls inv.standing i in' group new_flag h) (inv.left h) (ap (λ n. c.loop-literal.left + n) step));
      flags = λ is_false flagged says. moved (λ x y. AreFlagged x y is_false) wp ps' wl ls' np nl
          (flags_once ps ls inv.standing i in' group new_flag is_false (inv.flags is_false flagged says)
          (ap is_false index ∙ (says k (Pos 0) test ∙ (ap (is_false_literal (values_in c.args.values.now)) (sym at)
          ∙ sym c.is_false-new_flag.ensures))));
      counted = (let so_far = inv.counted in let one = neither_le has_one flag in omega (arith, so_far, step, one));
      as_many = c.place-is_left.new.literals.ok.0 ∙ (ap length nl
          ∙ (literals_once ps ls inv.standing i in' group new_flag ∙ (sym c.loop-literal.literals.ok.0 ∙ inv.as_many)));
      len = (let n = c.place-is_left.new.places.ok.0 in let m = ap length np in
          let more = places_once ps ls inv.standing i in' group new_flag in
          let ok = c.loop-literal.places.ok.0 in let so_far = inv.len in omega (arith, n, m, more, ok, so_far));
      room = c.place-is_left.ensures.capacity ∙ inv.room;
    }
