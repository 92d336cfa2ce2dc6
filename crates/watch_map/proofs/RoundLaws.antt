-- The rounds of a saturation: the next place, the clauses that watch nothing, the end, and what gets smaller.
use Rattle.std.specs.Prelude.{is_some}
use Rattle.std.proofs.Common.{◌≡◌, ◌≢◌, ℕ, ◌+◌, ◌-◌, ◌<◌, ◌≤◌, true, false, List, [], ◌∷◌}
use Rattle.std.proofs.Common.{◌++◌, length, map, get_or, Option, Some, None, refl, sym, ap}
use Rattle.std.proofs.Common.{subst, ◌∙◌, arith, take, take_all, length-append}
use Rattle.std.proofs.lemmas.Bool.{or_left}
use Rattle.std.proofs.lemmas.List.{length-map, get_or_append_left, get_or-map}
use Rattle.std.proofs.lemmas.Option.{slice_get-get_or, slice_get_within, get_or_from_slice_get}
use Rattle.watch_map.proofs.Words.{AreAllSettled, AreSettled, AreTwoOrNone, AreUnwatchedSettled, AreWatched}
use Rattle.watch_map.proofs.Words.{AreWatchesSatisfied, AreWatchesSatisfiedBut, Decision, Entry, HasImplied}
use Rattle.watch_map.proofs.Words.{is_literal_in, IsRearranged, IsSettled, KeepWatchesSatisfied, Lit, MatchOption}
use Rattle.watch_map.proofs.Words.{refuted_literal, same_literal, slice_get, Trail, val, val_before, Values, watched_by}
use Rattle.watch_map.proofs.Words.{Watches, WatchLists, WatchOwn}
use Rattle.watch_map.proofs.WatchingLaws.{same_self}
use Rattle.watch_map.proofs.OpenClauses.{count_open}
use Rattle.watch_map.proofs.ValueLaws.{extends_on}
use Rattle.watch_map.proofs.UnwatchedLaws.{one_more}
use Rattle.watch_map.proofs.ImplicationLaws.{forced_extends, forced_longer, forced_same, forced_before, forced_fewer}
use Rattle.watch_map.proofs.SatisfiedLaws.{met_kept, met_one_more, met_not_false, met_not_forcing}

-- where no conflict was found
pub none_case : {X : Type 0} (A : Type 0) (B : X → Type 0) (o : Option X) → MatchOption o A B → is_some o ≡ false → A
none_case A B None h n = h
none_case A B (Some x) h n = absurd (let z : true ≡ false = n in cc)

-- where one was
pub some_case : {X : Type 0} (A A' : Type 0) (B : X → Type 0) (o : Option X) → MatchOption o A B → is_some o ≡ true
    → MatchOption o A' B
some_case A A' B None h s = absurd (let z : false ≡ true = s in cc)
some_case A A' B (Some x) h s = h

-- ---- the entry at a place

-- the decision that is read at a place is that of the entry that stands there
pub decision_at : (es : List Entry) (ds : List Decision) (place : ℕ) (e : Entry) (d : Decision)
    → ds ≡ map (λ (x : Entry). x.decision) es → slice_get es place ≡ Some e → d ≡ get_or ds place d → d ≡ e.decision
decision_at es ds place e d read at is =
    is ∙ ap (λ xs. get_or xs place d) read
    ∙ get_or-map (λ (x : Entry). x.decision) es place e d (slice_get_within es place e at)
    ∙ ap (λ (x : Entry). x.decision) (get_or_from_slice_get es place e e at)

-- there is one before the end
pub has_entry : (es : List Entry) (place : ℕ) → place < length es → (e : Entry) × (slice_get es place ≡ Some e)
has_entry [] place h = absurd (omega (arith, h))
has_entry (x ∷ es) place h = (get_or (x ∷ es) place x, slice_get-get_or (x ∷ es) place x h)

-- and with entries behind it stands there still
entry_kept : (es fs : List Entry) (place : ℕ) (e : Entry) → slice_get es place ≡ Some e
    → slice_get (es ++ fs) place ≡ Some e
entry_kept es fs place e at =
    let within = slice_get_within es place e at in
    let longer = length-append es fs in
    slice_get-get_or (es ++ fs) place e (omega (arith, within, longer))
    ∙ ap Some (get_or_append_left es fs e place within ∙ get_or_from_slice_get es place e e at)

-- the decisions that were read are as many as the entries
pub as_many_decisions : (ds : List Decision) (es : List Entry)
    → ds ≡ map (λ (e : Entry). e.decision) es → length ds ≡ length es
as_many_decisions ds es e = ap length e ∙ length-map es (λ (x : Entry). x.decision)

-- ---- the next place

-- what is true since the trail was `t` and the watches were `w`: the entries before the place are propagated
pub record IsPropagated (literals : ℕ → List Lit) (level : ℕ) (t : Trail) (w : ℕ → List Lit) (map : WatchLists)
    (watches : Watches) (t' : Trail) (place : ℕ) : Type 0 where
  pub within : place ≤ length t'.entries
  pub watched : AreWatched map watches
  pub rearranged : IsRearranged literals w (watched_by watches)
  pub implied : HasImplied literals level t t'
  pub satisfied : AreWatchesSatisfied (val_before place t'.entries) (val t'.entries) (watched_by watches)
  pub kept : KeepWatchesSatisfied (val t.entries) w (watched_by watches)

pub rearranged_then : (literals a b c : ℕ → List Lit) → IsRearranged literals a b → IsRearranged literals b c
    → IsRearranged literals a c
rearranged_then literals a b c ab bc = record { own = bc.own; as_many = λ d. bc.as_many d ∙ ab.as_many d }

module _ (literals : ℕ → List Lit) (level : ℕ) where
  -- once the literal that the entry at a place makes false was walked, the place after it is reached
  pub place_reached : (a b : Trail) (place : ℕ) (l : Lit) (watched : ℕ → List Lit) → place < length a.entries
      → ((e : Entry) → slice_get a.entries place ≡ Some e → l ≡ refuted_literal e.decision)
      → HasImplied literals level a b
      → AreWatchesSatisfied (val_before place a.entries) (val a.entries) watched →
      AreWatchesSatisfiedBut [] l (val b.entries) watched
      → AreWatchesSatisfied (val_before (place + 1) b.entries) (val b.entries) watched
  place_reached a b place l watched within is_l f met_by_a one =
      let satisfied = met_kept (val_before place a.entries) (val a.entries) (val b.entries) watched
      (forced_extends literals level a b f) met_by_a in
      let has = has_entry a.entries place within in
      let e = has.0 in
      let there : slice_get b.entries place ≡ Some e = subst (λ es. slice_get es place ≡ Some e) (sym f.entries)
      (entry_kept a.entries f.added place e has.1) in
      let as_before = forced_before literals level a b f place (omega (arith, within)) in
      met_one_more b.entries place e (val b.entries) watched there
      (subst (λ (v : Values). AreWatchesSatisfied v (val b.entries) watched) (sym as_before) satisfied)
      (subst (λ x. AreWatchesSatisfiedBut [] x (val b.entries) watched) (is_l e has.1) one)

  -- what is kept by each of two steps is kept by both
  pub keeps_then : (a b : Trail) (w w' w'' : ℕ → List Lit) → HasImplied literals level a b
      → KeepWatchesSatisfied (val a.entries) w w' → KeepWatchesSatisfied (val b.entries) w' w'' →
      KeepWatchesSatisfied (val a.entries) w w''
  keeps_then a b w w' w'' f first second before seen ex ex_seen satisfied =
      let grown = forced_extends literals level a b f in
      second before seen (extends_on before (val a.entries) (val b.entries) ex grown)
      (extends_on seen (val a.entries) (val b.entries) ex_seen grown) (first before seen ex ex_seen satisfied)

  -- what is met at all entries is met at the place behind them
  pub place_kept : (a b : Trail) (watched : ℕ → List Lit) → HasImplied literals level a b
      → AreWatchesSatisfied (val a.entries) (val a.entries) watched
      → AreWatchesSatisfied (val_before (length a.entries) b.entries) (val b.entries) watched
  place_kept a b watched f satisfied =
      let same : val_before (length a.entries) b.entries ≡ val a.entries =
      forced_before literals level a b f (length a.entries) (omega arith)
      ∙ ap val (take_all (length a.entries) a.entries (omega arith)) in
      subst (λ (v : Values). AreWatchesSatisfied v (val b.entries) watched) (sym same)
      (met_kept (val a.entries) (val a.entries) (val b.entries) watched (forced_extends literals level a b f) satisfied)

-- ---- the clauses that watch nothing

module _ (literals : ℕ → List Lit) (level : ℕ) where
  -- one more was visited
  pub one_more_visited : (t a b : Trail) (ids : List ℕ) (index id : ℕ) → HasImplied literals level t a
      → (length a.entries ≡ length t.entries → AreAllSettled literals (take index ids) (val a.entries))
      → HasImplied literals level a b
      → (length b.entries ≡ length a.entries → IsSettled (val b.entries) (literals id))
      → index < length ids → id ≡ get_or ids index id
      → length b.entries ≡ length t.entries → AreAllSettled literals (take (index + 1) ids) (val b.entries)
  one_more_visited t a b ids index id ta before ab here within is same =
      let long = forced_longer literals level t a ta in
      let long_b = forced_longer literals level a b ab in
      let as_b : length b.entries ≡ length a.entries = omega (arith, long, long_b, same) in
      let as_a : length a.entries ≡ length t.entries = omega (arith, long, long_b, same) in
      let old = subst (λ es. AreAllSettled literals (take index ids) (val es))
      (sym (forced_same literals level a b ab as_b)) (before as_a) in
      one_more ids index id within is (λ c. IsSettled (val b.entries) (literals c)) old (here as_b)

-- ---- the end

-- all clauses are settled
pub all_settled : (literals watched : ℕ → List Lit) (clauses : ℕ) (now : Values) → ((c : ℕ) → AreTwoOrNone (watched c))
    → WatchOwn literals watched → AreWatchesSatisfied now now watched → AreUnwatchedSettled literals watched clauses now
    → AreSettled literals clauses now
all_settled literals watched clauses now two own satisfied unwatched c within = go (watched c) refl
  where
    go : (ws : List Lit) → watched c ≡ ws → IsSettled now (literals c)
    go [] e = unwatched c within e
    go (w ∷ ws) e =
        let there : is_literal_in w (watched c) ≡ true = subst (λ xs. is_literal_in w xs ≡ true) (sym e)
        (or_left (same_literal w w) (is_literal_in w ws) (same_self w)) in (
          met_not_false literals watched now two own satisfied c w there,
          met_not_forcing literals watched
              now two own satisfied c w there,
        )

-- ---- what gets smaller

module _ (literals : ℕ → List Lit) (level clauses : ℕ)
    (within : (c : ℕ) (l : Lit) → is_literal_in l (literals c) ≡ true → c < clauses) where
  -- the next place, with what was added
  pub place_smaller : (a b : Trail) (place : ℕ) → HasImplied literals level a b → place < length a.entries
      → count_open literals clauses (val b.entries) + (length b.entries - (place + 1))
      < count_open literals clauses (val a.entries) + (length a.entries - place)
  place_smaller a b place f h =
      let fewer = forced_fewer literals level a b f clauses within in
      let longer = forced_longer literals level a b f in
      omega (arith, fewer, longer, h)

  -- a round that added an entry
  pub round_smaller : (a b d : Trail) → HasImplied literals level a b → HasImplied literals level b d
      → length d.entries ≢ length b.entries
      → count_open literals clauses (val d.entries) < count_open literals clauses (val a.entries)
  round_smaller a b d ab bd ne =
      let fewer_b = forced_fewer literals level a b ab clauses within in
      let longer_b = forced_longer literals level a b ab in
      let fewer_d = forced_fewer literals level b d bd clauses within in
      let longer_d = forced_longer literals level b d bd in
      omega (arith, fewer_b, longer_b, fewer_d, longer_d, ne)
