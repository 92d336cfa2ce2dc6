-- What is kept of lines, with one line more.
use Rattle.std.proofs.Common.{◌≡◌, ◌∙◌, ℕ, suc, ◌<◌, Bool, true, false, ◌&&◌, List, [], ◌∷◌, ◌++◌, length, Option}
use Rattle.std.proofs.Common.{None, Some, arith, refl, ap, sym, subst}
use Rattle.std.specs.Prelude.{◌==◌, if◌then◌else◌}
use Rattle.std.proofs.lemmas.Bool.Decides.{nat_tests}
use Rattle.resolvo_pool.specs.Dependencies.{Needs}
use Rattle.example_index.proofs.Words.{AllZip, AreNeeds, Entries, Excluded, excluded_of, favored_of, is_excluded}
use Rattle.example_index.proofs.Words.{is_favored, is_locked, is_of_package, is_state, IsExcluded, IsKept, IsLater}
use Rattle.example_index.proofs.Words.{IsReason, IsSame, IsState, IsVersion, IsWith, last_where, Lists, locked_of}
use Rattle.example_index.proofs.Words.{marked, Offered, option_map, Package, places_where, slice_get, Solvable}
use Rattle.example_index.proofs.Words.{solvable_name_in, state_at, StringId, Unknown, unwrap_or, VersionIs}
use Rattle.example_index.proofs.Words.{VersionRange, VersionText, with_reason}
use Rattle.example_index.specs.Index.{versions_of}
use Rattle.example_index.proofs.Later.{zip_weaker, zip_push, version_still, are_needs_still, at_end, still_at}
use Rattle.example_index.proofs.Places.{places_same, last_same, get_before}

pub same_itself : (o : Option Package) → IsSame o o
same_itself o = record { versions = refl; favored = refl; locked = refl; excluded = refl }

-- the same is kept where the pool is later on with the same solvables, and all that is said of packages is the same
pub kept_same : (p q : Lists (List ℕ) VersionRange ℕ) → IsLater p q → q.solvables ≡ p.solvables →
    (old new : List Package) (needs : List Needs)
    (versions : List VersionText) → ((m : ℕ) → IsSame (slice_get old m) (slice_get new m)) → IsKept p old needs
    versions → IsKept q new needs versions
kept_same p q later is old new needs versions same kept =
    record {
      versions_are = subst (λ solvables. AllZip (IsVersion q) solvables versions) (sym is)
          (zip_weaker (IsVersion p) (IsVersion q) (version_still p q later) p.solvables versions kept.versions_are);
      needs_are = zip_weaker (λ d v. AreNeeds p d v.is) (λ d v. AreNeeds q d v.is)
          (λ d v. are_needs_still p q later d v.is) needs versions kept.needs_are;
      candidates = λ m. (same m).versions ∙ kept.candidates m
          ∙ ap (λ solvables. places_where (λ s. solvable_name_in (record p { solvables = solvables }) s == m)
          (length versions)) (sym is);
      favored = λ m. (same m).favored ∙ kept.favored m
          ∙ ap (λ solvables. last_where (is_of_package (record p { solvables = solvables }) versions m is_favored)
          (length versions)) (sym is);
      locked = λ m. (same m).locked ∙ kept.locked m
          ∙ ap (λ solvables. last_where (is_of_package (record p { solvables = solvables }) versions m is_locked)
          (length versions)) (sym is);
      excluded = λ m.
          subst (λ solvables. AllZip (IsExcluded q.strings versions) (excluded_of (slice_get new m))
          (places_where (is_of_package (record p { solvables = solvables }) versions m is_excluded)
          (length versions))) (sym is)
          (subst (λ l. AllZip (IsExcluded q.strings versions) l
          (places_where (is_of_package p versions m is_excluded) (length versions)))
          (sym (same m).excluded)
          (zip_weaker (IsExcluded p.strings versions) (IsExcluded q.strings versions)
          (λ e s h. record {
            place_is = h.place_is;
            reason = h.reason;
            line = h.line;
            text = still_at p.strings q.strings e.1.0 h.reason later.strings h.text;
          })
          (excluded_of (slice_get old m)) (places_where (is_of_package p versions m is_excluded) (length versions))
          (kept.excluded m)));
    }

-- a test of the place behind a list, and of those in it
places_next : (f g : ℕ → Bool) (n : ℕ) (b : Bool) → ((s : ℕ) → s < n → f s ≡ g s) → f n ≡ b
    → places_where f (suc n) ≡ (if b then places_where g n ++ n ∷ [] else places_where g n)
places_next f g n b each is =
    ap (λ x. if x then places_where f n ++ n ∷ [] else places_where f n) is
    ∙ ap (λ l. if b then l ++ n ∷ [] else l) (places_same f g n each)

last_next : (f g : ℕ → Bool) (n : ℕ) (b : Bool) → ((s : ℕ) → s < n → f s ≡ g s) → f n ≡ b
    → last_where f (suc n) ≡ (if b then Some n else last_where g n)
last_next f g n b each is =
    ap (λ x. if x then Some n else last_where f n) is ∙ ap (λ l. if b then Some n else l) (last_same f g n each)

length_more : {X : Type 0} (xs : List X) (x : X) → length (xs ++ x ∷ []) ≡ suc (length xs)
length_more [] x = refl
length_more (y ∷ xs) x = ap suc (length_more xs x)

pub same_numbers : (a b : ℕ) → (a == b) ≡ true → a ≡ b
same_numbers a b h = grind (arith, nat_tests, h)

-- what a line says it says in front of others
state_still : (versions : List VersionText) (x : VersionText) (s : ℕ) (is : VersionIs) (o : Option VersionText) →
    slice_get versions s ≡ o
    → option_map (λ (v : VersionText). v.is) o ≡ Some is → state_at (versions ++ x ∷ []) s ≡ Some is
state_still versions x s is None at h = cc
state_still versions x s is (Some v) at h =
    ap (option_map (λ (w : VersionText). w.is)) (still_at versions (versions ++ x ∷ []) s v (x ∷ [], refl) at) ∙ h

-- a mark of this version, if it is of the package
marked_once : (here has : Bool) (n : ℕ) (old new earlier : Option ℕ) → old ≡ earlier
    → (here ≡ true → new ≡ marked has n old) → (here ≡ false → new ≡ old) → new ≡
    (if here && has then Some n else earlier)
marked_once true true n old new earlier is then_new else_old = then_new refl
marked_once true false n old new earlier is then_new else_old = then_new refl ∙ is
marked_once false has n old new earlier is then_new else_old = else_old refl ∙ is

pushed_once : (here : Bool) (n : ℕ) (old new earlier : List ℕ) → old ≡ earlier
    → (here ≡ true → new ≡ old ++ n ∷ []) → (here ≡ false → new ≡ old) → new ≡
    (if here then earlier ++ n ∷ [] else earlier)
pushed_once true n old new earlier is then_new else_old = then_new refl ∙ ap (λ l. l ++ n ∷ []) is
pushed_once false n old new earlier is then_new else_old = else_old refl ∙ is

module _ (p q : Lists (List ℕ) VersionRange ℕ) (later : IsLater p q) (solvable : Solvable ℕ)
    (added : q.solvables ≡ p.solvables ++ solvable ∷ [])
    (versions : List VersionText) (x : VersionText) (count : length p.solvables ≡ length versions) where
  name_before : (s : ℕ) → s < length versions → solvable_name_in q s ≡ solvable_name_in p s
  name_before s h =
      ap (λ list. unwrap_or (option_map (λ (y : Solvable ℕ). y.name) (slice_get list s)) 0) added
      ∙ ap (λ o. unwrap_or (option_map (λ (y : Solvable ℕ). y.name) o) 0)
      (get_before p.solvables solvable s (omega (arith, h, count)))

  name_new : solvable_name_in q (length versions) ≡ solvable.name
  name_new =
      ap (λ list. unwrap_or (option_map (λ (y : Solvable ℕ). y.name) (slice_get list (length versions))) 0) added
      ∙ ap (λ s. unwrap_or (option_map (λ (y : Solvable ℕ). y.name) (slice_get (p.solvables ++ solvable ∷ []) s)) 0)
      (sym count)
      ∙ ap (λ o. unwrap_or (option_map (λ (y : Solvable ℕ). y.name) o) 0) (at_end p.solvables solvable)

  state_before : (s : ℕ) → s < length versions → state_at (versions ++ x ∷ []) s ≡ state_at versions s
  state_before s h = ap (option_map (λ (v : VersionText). v.is)) (get_before versions x s h)

  state_new : state_at (versions ++ x ∷ []) (length versions) ≡ Some x.is
  state_new = ap (option_map (λ (v : VersionText). v.is)) (at_end versions x)

  module _ (name : ℕ) (is_so : VersionIs → Bool) where
    of_before : (s : ℕ) → s < length versions → is_of_package q (versions ++ x ∷ []) name is_so s ≡ is_of_package p
        versions name is_so s
    of_before s h =
        ap (λ m. (m == name) && is_state is_so (state_at (versions ++ x ∷ []) s)) (name_before s h)
        ∙ ap (λ o. (solvable_name_in p s == name) && is_state is_so o) (state_before s h)

    of_new : is_of_package q (versions ++ x ∷ []) name is_so (length versions) ≡ ((solvable.name == name) && is_so x.is)
    of_new =
        ap (λ m. (m == name) && is_state is_so (state_at (versions ++ x ∷ []) (length versions))) name_new
        ∙ ap (λ o. (solvable.name == name) && is_state is_so o) state_new

  -- a version that was excluded still is
  excluded_still : (e : ℕ × StringId) (s : ℕ) → IsExcluded p.strings versions e s → IsExcluded q.strings
      (versions ++ x ∷ []) e s
  excluded_still e s h = record {
    place_is = h.place_is;
    reason = h.reason;
    line = state_still versions x s (Excluded h.reason) (slice_get versions s) refl h.line;
    text = still_at p.strings q.strings e.1.0 h.reason later.strings h.text;
  }

  -- this version is, if its line says so
  excluded_more : (said : Option StringId) (old : List (ℕ × StringId)) (places : List ℕ) (is : VersionIs) → x.is ≡
      is → IsReason q.strings said is
      → AllZip (IsExcluded q.strings (versions ++ x ∷ [])) old places
      → AllZip (IsExcluded q.strings (versions ++ x ∷ [])) (with_reason old (length versions) said)
      (if is_excluded is then places ++ length versions ∷ [] else places)
  excluded_more None old places (Offered entries) is reason h = h
  excluded_more None old places (Excluded text) is reason h = cc
  excluded_more None old places (Unknown text) is reason h = h
  excluded_more (Some string) old places (Offered entries) is reason h = absurd reason
  excluded_more (Some string) old places (Unknown text) is reason h = absurd reason
  excluded_more (Some string) old places (Excluded text) is reason h =
      zip_push (IsExcluded q.strings (versions ++ x ∷ [])) old places (length versions, string) (length versions) h
      (record { place_is = refl; reason = text; line = state_new ∙ ap Some is; text = reason })

  excluded_either : (here : Bool) (said : Option StringId) (old new : List (ℕ × StringId)) (places : List ℕ) →
      IsReason q.strings said x.is
      → (here ≡ true → new ≡ with_reason old (length versions) said) → (here ≡ false → new ≡ old)
      → AllZip (IsExcluded p.strings versions) old places
      → AllZip (IsExcluded q.strings (versions ++ x ∷ [])) new
      (if here && is_excluded x.is then places ++ length versions ∷ [] else places)
  excluded_either true said old new places reason then_new others h =
      subst (λ l. AllZip (IsExcluded q.strings (versions ++ x ∷ [])) l
      (if is_excluded x.is then places ++ length versions ∷ [] else places)) (sym (then_new refl))
      (excluded_more said old places x.is refl reason
      (zip_weaker (IsExcluded p.strings versions) (IsExcluded q.strings (versions ++ x ∷ [])) excluded_still old
      places h))
  excluded_either false said old new places reason then_new others h =
      subst (λ l. AllZip (IsExcluded q.strings (versions ++ x ∷ [])) l places) (sym (others refl))
      (zip_weaker (IsExcluded p.strings versions) (IsExcluded q.strings (versions ++ x ∷ [])) excluded_still old
      places h)

  module _ (old new : List Package) (said : Entries) (needs : List Needs) (need : Needs)
      (kept : IsKept p old needs versions) (is_version : IsVersion q solvable x) (is_state : IsState q said x.is)
      (need_is : AreNeeds q need x.is)
      (with_it : IsWith (slice_get old solvable.name) (slice_get new solvable.name) (length versions) said)
      (same : (m : ℕ) → (solvable.name == m) ≡ false → IsSame (slice_get old m) (slice_get new m)) where
    with_at : (m : ℕ) → (solvable.name == m) ≡ true → IsWith (slice_get old m) (slice_get new m) (length versions) said
    with_at m here = subst (λ k. IsWith (slice_get old k) (slice_get new k) (length versions) said)
        (same_numbers solvable.name m here) with_it

    pub kept_more : IsKept q new (needs ++ need ∷ []) (versions ++ x ∷ [])
    kept_more = record {
      versions_are = subst (λ solvables. AllZip (IsVersion q) solvables (versions ++ x ∷ [])) (sym added)
          (zip_push (IsVersion q) p.solvables versions solvable x
          (zip_weaker (IsVersion p) (IsVersion q) (version_still p q later) p.solvables versions kept.versions_are)
          is_version);
      needs_are = zip_push (λ d v. AreNeeds q d v.is) needs versions need x
          (zip_weaker (λ d v. AreNeeds p d v.is) (λ d v. AreNeeds q d v.is)
          (λ d v. are_needs_still p q later d v.is) needs versions kept.needs_are) need_is;
      candidates = λ m.
          pushed_once (solvable.name == m) (length versions) (versions_of (slice_get old m))
          (versions_of (slice_get new m))
          (places_where (λ s. solvable_name_in p s == m) (length versions)) (kept.candidates m)
          (λ here. (with_at m here).versions) (λ elsewhere. (same m elsewhere).versions)
          ∙ sym (ap (places_where (λ s. solvable_name_in q s == m)) (length_more versions x)
          ∙ places_next (λ s. solvable_name_in q s == m) (λ s. solvable_name_in p s == m) (length versions)
          (solvable.name == m)
          (λ s h. ap (λ k. k == m) (name_before s h)) (ap (λ k. k == m) name_new));
      favored = λ m.
          marked_once (solvable.name == m) (is_favored x.is) (length versions) (favored_of (slice_get old m))
          (favored_of (slice_get new m))
          (last_where (is_of_package p versions m is_favored) (length versions)) (kept.favored m)
          (λ here. (with_at m here).favored ∙ ap (λ b. marked b (length versions) (favored_of (slice_get old m)))
          is_state.favored)
          (λ elsewhere. (same m elsewhere).favored)
          ∙ sym (ap (last_where (is_of_package q (versions ++ x ∷ []) m is_favored)) (length_more versions x)
          ∙ last_next (is_of_package q (versions ++ x ∷ []) m is_favored) (is_of_package p versions m is_favored)
          (length versions)
          ((solvable.name == m) && is_favored x.is) (of_before m is_favored) (of_new m is_favored));
      locked = λ m.
          marked_once (solvable.name == m) (is_locked x.is) (length versions) (locked_of (slice_get old m))
          (locked_of (slice_get new m))
          (last_where (is_of_package p versions m is_locked) (length versions)) (kept.locked m)
          (λ here. (with_at m here).locked ∙ ap (λ b. marked b (length versions) (locked_of (slice_get old m)))
          is_state.locked)
          (λ elsewhere. (same m elsewhere).locked)
          ∙ sym (ap (last_where (is_of_package q (versions ++ x ∷ []) m is_locked)) (length_more versions x)
          ∙ last_next (is_of_package q (versions ++ x ∷ []) m is_locked) (is_of_package p versions m is_locked)
          (length versions)
          ((solvable.name == m) && is_locked x.is) (of_before m is_locked) (of_new m is_locked));
      excluded = λ m.
          subst (AllZip (IsExcluded q.strings (versions ++ x ∷ [])) (excluded_of (slice_get new m)))
          (sym (ap (places_where (is_of_package q (versions ++ x ∷ []) m is_excluded)) (length_more versions x)
          ∙ places_next (is_of_package q (versions ++ x ∷ []) m is_excluded)
          (is_of_package p versions m is_excluded) (length versions)
          ((solvable.name == m) && is_excluded x.is) (of_before m is_excluded) (of_new m is_excluded)))
          (excluded_either (solvable.name == m) said.excluded (excluded_of (slice_get old m))
          (excluded_of (slice_get new m))
          (places_where (is_of_package p versions m is_excluded) (length versions)) is_state.excluded
          (λ here. (with_at m here).excluded) (λ elsewhere. (same m elsewhere).excluded) (kept.excluded m));
    }
