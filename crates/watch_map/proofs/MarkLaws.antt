-- What a mark gives a saturation, what keeps it, and how one is made.
use Rattle.std.proofs.Common.{◌≡◌, ℕ, zero, suc, ◌+◌, ◌-◌, ◌<◌, ◌≤◌, Bool, true, false, not, ◌&&◌, ◌||◌}
use Rattle.std.proofs.Common.{inl, inr, cond, List, [], ◌∷◌, ◌++◌, length, get_or, take, drop, Some, None}
use Rattle.std.proofs.Common.{refl, sym, ap, subst, ◌∙◌, arith, nat_eq, eqb-true, length-append, take_all}
use Rattle.std.proofs.lemmas.Bool.{true≢false, eqb-false, false_from_ne_true}
use Rattle.std.proofs.lemmas.Bool.Decides.{nat_tests}
use Rattle.std.proofs.lemmas.List.{take-append-le, take_more}
use Rattle.std.proofs.lemmas.List.Elements.{All-filter, All-push, filter_passes}
use Rattle.watch_map.proofs.Words.{All, AreMarks, AreUnwatchedTrue, AreWatchesSatisfied, beginning, Entry, filter}
use Rattle.watch_map.proofs.Words.{has_true_beside, HasImplied, is_false, is_false_literal, is_from, is_literal_in}
use Rattle.watch_map.proofs.Words.{is_true, is_true_literal, is_unit, IsMark, IsRemembered, IsSettled, IsUpdate}
use Rattle.watch_map.proofs.Words.{KeepWatchesSatisfied, Level, level_of, Lit, Mark, marks_below, nat_le, Neg}
use Rattle.watch_map.proofs.Words.{newest_mark, none_false_at, not_false_at, Place, Pos, same_literal, Trail, val}
use Rattle.watch_map.proofs.Words.{val_before, Values, variable_of}
use Rattle.watch_map.proofs.WatchingLaws.{same_is}
use Rattle.watch_map.proofs.LiteralLists.{by_test, all_at, any_at, passes_of}
use Rattle.watch_map.proofs.ValueLaws.{true_is_not_false, false_kept, before_extends}
use Rattle.watch_map.proofs.ImplicationLaws.{forces_parts, forces_untrue, forced_longer, forced_take}
use Rattle.watch_map.proofs.OpenClauses.{is_true_kept}
use Rattle.watch_map.proofs.SatisfiedLaws.{met_kept, met_at_start}

-- ---- a true clause

-- is settled
pub true_is_settled : (now : Values) (ls : List Lit) → is_true now ls ≡ true → IsSettled now ls
true_is_settled now ls t =
    let p = passes_of (is_true_literal now) ls t in (
      false_from_ne_true (is_false now ls)
          (λ all. true_is_not_false now p.literal p.passes (all_at (is_false_literal now) ls p.literal all p.within)),
      λ l. false_from_ne_true (is_unit now ls l)
          (λ f. forces_untrue now ls l (forces_parts now ls l f) p.literal p.within p.passes),
    )

-- ---- levels

-- of the first entries a variable has the level that it has, or none
level_before : (es : List Entry) (place x : ℕ) → level_of (take place es) x ≤ level_of es x
level_before [] zero x = omega arith
level_before [] (suc place) x = omega arith
level_before (e ∷ es) zero x = omega arith
level_before (e ∷ es) (suc place) x =
    let rest = level_before es place x in
    elim (nat_eq e.decision.variable x) as
    (λ t. cond t e.level (level_of (take place es) x) ≤ cond t e.level (level_of es x))
    [ true ↦ omega arith | false ↦ rest ]

-- an entry more changes no other variable's level
level_elsewhere : (es : List Entry) (e : Entry) (x : ℕ) → nat_eq e.decision.variable x ≡ false
    → level_of (es ++ e ∷ []) x ≡ level_of es x
level_elsewhere [] e x other = ap (λ t. cond t e.level 0) other
level_elsewhere (g ∷ es) e x other =
    ap (λ n. cond (nat_eq g.decision.variable x) g.level n) (level_elsewhere es e x other)

-- one level is no lower than that of each of the first entries and one more
pub levels_more : (es : List Entry) (place : ℕ) (e : Entry) (level highest : ℕ) → place < length es →
    get_or es place e ≡ e
    → ((x : ℕ) → level_of (take place es) x ≤ level) → level ≤ highest → level_of es e.decision.variable ≤ highest
    → (x : ℕ) → level_of (take (place + 1) es) x ≤ highest
levels_more es place e level highest within at before le own x =
    by_test (level_of (take (place + 1) es) x ≤ highest) (nat_eq e.decision.variable x)
    (λ t.
    let same = eqb-true e.decision.variable x t in
    let here = level_before es (place + 1) x in
    let read : level_of es x ≤ highest = subst (λ y. level_of es y ≤ highest) same own in
    omega (arith, here, read))
    (λ t.
    let more : take (place + 1) es ≡ take place es ++ e ∷ [] =
    take_more es place e within ∙ ap (λ y. take place es ++ y ∷ []) at in
    let other = ap (λ xs. level_of xs x) more ∙ level_elsewhere (take place es) e x t in
    let old = before x in
    omega (arith, other, old, le))

-- a level that none of the first entries is above, nor one of the others
pub levels_split : (es : List Entry) (place x level : ℕ) → level_of (take place es) x ≤ level
    → level_of (drop place es) x ≤ level → level_of es x ≤ level
levels_split [] place x level first others = omega arith
levels_split (e ∷ es) zero x level first others = others
levels_split (e ∷ es) (suc place) x level first others =
    by_head (nat_eq e.decision.variable x) first others (levels_split es place x level)
  where
    by_head : (t : Bool) → cond t e.level (level_of (take place es) x) ≤ level → level_of (drop place es) x ≤ level
        → (level_of (take place es) x ≤ level → level_of (drop place es) x ≤ level → level_of es x ≤ level)
        → cond t e.level (level_of es x) ≤ level
    by_head true m n later = m
    by_head false m n later = later m n

-- a variable of a level above that of the first entries has no value by them
open_above : (es : List Entry) (place level x : ℕ) → level_of (take place es) x ≤ level → level < level_of es x
    → val_before place es x ≡ None
open_above [] zero level x below above = refl
open_above [] (suc place) level x below above = refl
open_above (e ∷ es) zero level x below above = refl
open_above (e ∷ es) (suc place) level x below above =
    by_head (nat_eq e.decision.variable x) below above (open_above es place level x)
  where
    by_head : (t : Bool) → cond t e.level (level_of (take place es) x) ≤ level → level < cond t e.level (level_of es x)
        → (level_of (take place es) x ≤ level → level < level_of es x → val_before place es x ≡ None)
        → cond t (Some e.decision.value) (val_before place es x) ≡ None
    by_head true m n later = absurd (omega (arith, m, n))
    by_head false m n later = later m n

-- ---- marks

module _ (literals watched : ℕ → List Lit) where
  -- any trail has the mark of no entries
  pub beginning_is_mark : (es : List Entry) → IsMark literals watched es beginning
  beginning_is_mark es = record {
    within = omega arith;
    satisfied = met_at_start es (val_before 0 es) watched;
    unwatched = λ c h none. absurd (omega (arith, h));
    levels = λ x. omega arith;
  }

  pub newest_is_mark : (es : List Entry) (marks : List Mark) → AreMarks literals watched es marks
      → IsMark literals watched es (newest_mark marks)
  newest_is_mark es [] are = beginning_is_mark es
  newest_is_mark es (m ∷ ms) are = are (length (m ∷ ms) - 1) beginning (omega arith)

  -- a saturation may begin at one
  pub mark_begins : (es : List Entry) (mark : Mark) → IsMark literals watched es mark
      → AreWatchesSatisfied (val_before mark.place es) (val es) watched
  mark_begins es mark is =
      met_kept (val_before mark.place es) (val_before mark.place es) (val es) watched
      (before_extends es mark.place) is.satisfied

  -- and need not visit the clauses below its bound
  pub mark_unwatched : (es : List Entry) (mark : Mark) → IsMark literals watched es mark
      → AreUnwatchedTrue literals watched mark.clauses (val es)
  mark_unwatched es mark is c h none =
      is_true_kept (val_before mark.place es) (val es) (before_extends es mark.place) (literals c)
      (is.unwatched c h none)

  -- its end is one
  pub mark_made : (es : List Entry) (clauses level : ℕ) → AreWatchesSatisfied (val es) (val es) watched
      → AreUnwatchedTrue literals watched clauses (val es) → ((x : ℕ) → level_of es x ≤ level)
      → IsMark literals watched es (record { place = length es; clauses = clauses; level = level })
  mark_made es clauses level satisfied unwatched levels =
      let whole : take (length es) es ≡ es = take_all (length es) es (omega arith) in
      record {
        within = omega arith;
        satisfied = subst (λ (xs : List Entry). AreWatchesSatisfied (val xs) (val xs) watched) (sym whole) satisfied;
        unwatched = subst (λ (xs : List Entry). AreUnwatchedTrue literals watched clauses (val xs))
            (sym whole) unwatched;
        levels = subst (λ (xs : List Entry). (x : ℕ) → level_of xs x ≤ level) (sym whole) levels;
      }

  -- it stays one on a trail that begins with the same entries
  pub mark_same : (es fs : List Entry) (mark : Mark) → take mark.place fs ≡ take mark.place es → mark.place ≤ length fs
      → IsMark literals watched es mark → IsMark literals watched fs mark
  mark_same es fs mark same within is = record {
    within = within;
    satisfied = subst (λ (xs : List Entry). AreWatchesSatisfied (val xs) (val xs) watched) (sym same) is.satisfied;
    unwatched = subst (λ (xs : List Entry). AreUnwatchedTrue literals watched mark.clauses (val xs))
        (sym same) is.unwatched;
    levels = subst (λ (xs : List Entry). (x : ℕ) → level_of xs x ≤ mark.level) (sym same) is.levels;
  }

  -- with entries behind
  pub mark_longer : (es fs : List Entry) (mark : Mark) → IsMark literals watched es mark →
      IsMark literals watched (es ++ fs) mark
  mark_longer es fs mark is =
      let within = is.within in
      mark_same es (es ++ fs) mark (take-append-le mark.place es fs within)
      (let longer = length-append es fs in omega (arith, within, longer)) is

  -- and where entries are taken back behind it
  pub mark_shorter : (es : List Entry) (kept : ℕ) (mark : Mark) → mark.place ≤ kept → IsMark literals watched es mark
      → IsMark literals watched (take kept es) mark
  mark_shorter es kept mark le is = mark_same es (take kept es) mark (take_of_take es kept mark.place le)
      (long_enough es kept mark.place le is.within) is
    where
      take_of_take : (gs : List Entry) (m place : ℕ) → place ≤ m → take place (take m gs) ≡ take place gs
      take_of_take [] zero zero h = refl
      take_of_take [] zero (suc place) h = absurd (omega (arith, h))
      take_of_take [] (suc m) zero h = refl
      take_of_take [] (suc m) (suc place) h = refl
      take_of_take (g ∷ gs) zero zero h = refl
      take_of_take (g ∷ gs) zero (suc place) h = absurd (omega (arith, h))
      take_of_take (g ∷ gs) (suc m) zero h = refl
      take_of_take (g ∷ gs) (suc m) (suc place) h = ap (λ ys. g ∷ ys) (take_of_take gs m place (omega (arith, h)))

      long_enough : (gs : List Entry) (m place : ℕ) → place ≤ m → place ≤ length gs → place ≤ length (take m gs)
      long_enough [] m place h k = omega (arith, k)
      long_enough (g ∷ gs) zero place h k = omega (arith, h)
      long_enough (g ∷ gs) (suc m) zero h k = omega arith
      long_enough (g ∷ gs) (suc m) (suc place) h k =
          (let later = long_enough gs m place (omega (arith, h)) (omega (arith, k)) in omega (arith, later))

-- it stays one where literals are only added to clauses, who watches nothing watched nothing before, and each clause
-- that
-- has a false watch under the mark's entries watches what it did
pub mark_kept : (literals literals' watched watched' : ℕ → List Lit) (es : List Entry) (mark : Mark)
    → ((c : ℕ) (l : Lit) → is_literal_in l (literals c) ≡ true → is_literal_in l (literals' c) ≡ true)
    → ((c : ℕ) → watched' c ≡ [] → watched c ≡ [])
    → ((c : ℕ) (w : Lit) → is_literal_in w (watched' c) ≡ true → is_false_literal (val_before mark.place es) w ≡ true →
    watched' c ≡ watched c)
    → IsMark literals watched es mark → IsMark literals' watched' es mark
mark_kept literals literals' watched watched' es mark own none same is = record {
  within = is.within;
  satisfied = λ c w there f.
      let alike = same c w there f in
      subst (λ ws. has_true_beside (val_before mark.place es) ws w ≡ true) (sym alike)
      (is.satisfied c w (subst (λ ws. is_literal_in w ws ≡ true) alike there) f);
  unwatched = λ c h gone.
      let p = passes_of (is_true_literal (val_before mark.place es)) (literals c) (is.unwatched c h (none c gone)) in
      any_at (is_true_literal (val_before mark.place es)) (literals' c) p.literal (own c p.literal p.within) p.passes;
  levels = is.levels;
}

-- ---- a saturation

-- what it is given as marks are marks of what it leaves
module _ (literals watched watched' : ℕ → List Lit) (level : ℕ) (a b : Trail) (f : HasImplied literals level a b)
    (keeps : KeepWatchesSatisfied (val a.entries) watched watched')
    (as_many : (c : ℕ) → length (watched' c) ≡ length (watched c)) where
  none_before : (ws vs : List Lit) → length ws ≡ length vs → ws ≡ [] → vs ≡ []
  none_before ws [] e none = refl
  none_before ws (v ∷ vs) e none = absurd (let long = ap length none in omega (arith, e, long))

  pub mark_saturated : (mark : Mark) → IsMark literals watched a.entries mark → IsMark literals watched' b.entries mark
  mark_saturated mark is =
      let before = before_extends a.entries mark.place in
      mark_same literals watched' a.entries b.entries mark (forced_take literals level a b f mark.place is.within)
      (let within = is.within in let longer = forced_longer literals level a b f in omega (arith, within, longer))
      (record {
        within = is.within;
        satisfied = keeps (val_before mark.place a.entries) (val_before mark.place a.entries) before before
            is.satisfied;
        unwatched = λ c h none. is.unwatched c h (none_before (watched' c) (watched c) (as_many c) none);
        levels = is.levels;
      })

  pub marks_saturated : (marks : List Mark) → AreMarks literals watched a.entries marks →
      AreMarks literals watched' b.entries marks
  marks_saturated marks are k d h = mark_saturated (get_or marks k d) (are k d h)

-- with one more, or without it
pub marks_remembered : (literals watched : ℕ → List Lit) (es : List Entry) (mark : Mark) (old new : List Mark)
    → IsMark literals watched es mark → AreMarks literals watched es old → IsRemembered mark old new
    → AreMarks literals watched es new
marks_remembered literals watched es mark old new is are remembered =
    let kept = All-filter (λ m. not (is_from (Place mark.place) m)) (IsMark literals watched es) old are in
    elim remembered [
      | inl more ↦ subst (AreMarks literals watched es) (sym more)
          (All-push (IsMark literals watched es) (marks_below (Place mark.place) old) mark kept is)
      | inr same ↦ subst (AreMarks literals watched es) (sym same) kept
    ]

-- ---- literals that aren't false at a mark

-- by its level a literal isn't false under the mark's entries
not_false_by : (literals watched : ℕ → List Lit) (es : List Entry) (mark : Mark) (l : Lit) →
    IsMark literals watched es mark
    → not (is_false_literal (val es) l && is_from (Level (level_of es (variable_of l))) mark) ≡ true
    → is_false_literal (val_before mark.place es) l ≡ false
not_false_by literals watched es mark l is test =
    false_from_ne_true (is_false_literal (val_before mark.place es) l) (λ f.
    let now : is_false_literal (val es) l ≡ true =
    false_kept (val_before mark.place es) (val es) (before_extends es mark.place) l f in
    let above : mark.level < level_of es (variable_of l) =
    (let t : not (nat_le (level_of es (variable_of l)) mark.level) ≡ true =
    subst (λ b. not (b && nat_le (level_of es (variable_of l)) mark.level) ≡ true) now test in
    grind (arith, nat_tests, t)) in
    undecided_is_not_false l (open_above es mark.place mark.level (variable_of l) (is.levels (variable_of l)) above) f)
  where
    undecided_is_not_false : (m : Lit) → val_before mark.place es (variable_of m) ≡ None →
        is_false_literal (val_before mark.place es) m ≡ true → ⊥
    undecided_is_not_false (Pos x) none f = (let z : false ≡ true = rw none at f in cc)
    undecided_is_not_false (Neg x) none f = (let z : false ≡ true = rw none at f in cc)

-- the marks that are left are marks, and none of these literals is false under the entries of one
pub record IsMarkWithout (literals watched : ℕ → List Lit) (es : List Entry) (ls : List Lit)
    (mark : Mark) : Type 0 where
  pub is_mark : IsMark literals watched es mark
  pub not_false : (l : Lit) → is_literal_in l ls ≡ true → is_false_literal (val_before mark.place es) l ≡ false

module _ (es : List Entry) where
  all_left : (P : Mark → Type 0) (ls : List Lit) (marks : List Mark) → All P marks → All P (none_false_at es marks ls)
  all_left P [] marks all = all
  all_left P (l ∷ ls) marks all = all_left P ls (not_false_at es marks l)
      (All-filter (λ m. not (is_false_literal (val es) l && is_from (Level (level_of es (variable_of l))) m)) P marks
      all)

  pub marks_without : (literals watched : ℕ → List Lit) (ls : List Lit) (marks : List Mark) →
      AreMarks literals watched es marks
      → All (IsMarkWithout literals watched es ls) (none_false_at es marks ls)
  marks_without literals watched [] marks are k d h =
      record { is_mark = are k d h; not_false = λ l there. absurd (let z : false ≡ true = there in cc) }
  marks_without literals watched (l ∷ ls) marks are k d h =
      let test = λ (m : Mark). not (is_false_literal (val es) l && is_from (Level (level_of es (variable_of l))) m) in
      let kept = All-filter test (IsMark literals watched es) marks are in
      let first : All (λ m. is_false_literal (val_before m.place es) l ≡ false) (filter test marks) =
      λ i e within. not_false_by literals watched es (get_or (filter test marks) i e) l (kept i e within)
      (filter_passes test marks i e within) in
      let rest = marks_without literals watched ls (filter test marks) kept k d h in
      let head = all_left (λ m. is_false_literal (val_before m.place es) l ≡ false) ls
      (filter test marks) first k d h in
      let mark = get_or (none_false_at es marks (l ∷ ls)) k d in
      record {
        is_mark = rest.is_mark;
        not_false = λ m there. by_test (is_false_literal (val_before mark.place es) m ≡ false) (same_literal m l)
            (λ same. subst (λ x. is_false_literal (val_before mark.place es) x ≡ false) (sym (same_is m l same)) head)
            (λ apart. rest.not_false m (subst (λ b. (b || is_literal_in m ls) ≡ true) apart there));
      }

-- ---- what others than a saturation do

module _ (literals watched : ℕ → List Lit) (es : List Entry) (marks : List Mark)
    (are : AreMarks literals watched es marks) where
  -- marks stay marks with entries behind
  pub marks_longer : (fs : List Entry) → AreMarks literals watched (es ++ fs) marks
  marks_longer fs k d h = mark_longer literals watched es fs (get_or marks k d) (are k d h)

  -- those that are left are marks where entries are taken back
  pub marks_shorter : (kept : ℕ) → let left = take kept es in
      AreMarks literals watched left (marks_below (Place (length left + 1)) marks)
  marks_shorter kept k d h =
      let left = take kept es in
      let test = λ (m : Mark). not (is_from (Place (length left + 1)) m) in
      let mark = get_or (filter test marks) k d in
      let passes = filter_passes test marks k d h in
      let before : mark.place ≤ length left = grind (arith, nat_tests, passes) in
      let short = length_front kept es in
      mark_shorter literals watched es kept mark (omega (arith, before, short))
      (All-filter test (IsMark literals watched es) marks are k d h)
    where
      length_front : (n : ℕ) (gs : List Entry) → length (take n gs) ≤ n
      length_front zero gs = omega arith
      length_front (suc n) [] = omega arith
      length_front (suc n) (g ∷ gs) = (let rest = length_front n gs in omega (arith, rest))

  -- all stay marks where literals are only added to clauses
  pub marks_grown : (literals' : ℕ → List Lit) →
      ((c : ℕ) (l : Lit) → is_literal_in l (literals c) ≡ true → is_literal_in l (literals' c) ≡ true)
      → AreMarks literals' watched es marks
  marks_grown literals' more k d h =
      mark_kept literals literals' watched watched es
      (get_or marks k d) more (λ c none. none) (λ c w there f. refl) (are k d h)

  -- where each clause watches what it did
  pub marks_alike : (watched' : ℕ → List Lit) → ((c : ℕ) → watched' c ≡ watched c) → AreMarks literals watched' es marks
  marks_alike watched' same k d h =
      mark_kept literals literals watched watched' es
      (get_or marks k d) (λ c l there. there) (λ c none. sym (same c) ∙ none)
      (λ c w there f. same c) (are k d h)

  -- those that are left are marks where a clause watches others, none of which can be false under one
  pub marks_watching : (watched' : ℕ → List Lit) (c : ℕ) (ws : List Lit) → IsUpdate watched c ws watched' →
      (ws ≡ [] → watched c ≡ [])
      → AreMarks literals watched' es (none_false_at es marks ws)
  marks_watching watched' c ws update none k d h =
      let left = none_false_at es marks ws in
      let one = marks_without es literals watched ws marks are k d h in
      mark_kept literals literals watched watched' es (get_or left k d) (λ e l there. there)
      (λ e gone. by_test (watched e ≡ []) (nat_eq e c)
      (λ t. let same = eqb-true e c t in
      subst (λ x. watched x ≡ []) (sym same) (none (sym update.0 ∙ subst (λ x. watched' x ≡ []) same gone)))
      (λ t. sym (update.1 e (eqb-false e c t)) ∙ gone))
      (λ e w there f. by_test (watched' e ≡ watched e) (nat_eq e c)
      (λ t. let same = eqb-true e c t in
      absurd (true≢false (sym f ∙ one.not_false w
      (subst (λ xs. is_literal_in w xs ≡ true) update.0
      (subst (λ x. is_literal_in w (watched' x) ≡ true) same there)))))
      (λ t. update.1 e (eqb-false e c t)))
      one.is_mark
