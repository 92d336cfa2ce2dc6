-- What comes into a pool leaves it made of what is in it.
use Rattle.std.proofs.Common.{◌≡◌, ◌∙◌, ◌<◌, ◌≤◌, ℕ, zero, suc, true, false, Bool, cond, List, [], ◌∷◌}
use Rattle.std.proofs.Common.{◌++◌, length, get_or, map, Some, ap, refl, subst, arith, length-append}
use Rattle.std.proofs.lemmas.Option.{slice_get_read}
use Rattle.std.proofs.lemmas.List.Elements.{All-weaker}
use Rattle.std.specs.Prelude.{slice_get}
use Rattle.std.specs.Option.{unwrap_or, option_map}
use Rattle.std.specs.Prelude.{Result, Ok, Err, OnOk, OnErr}
use Rattle.providers.specs.declared.condition.Condition.{Condition}
use Rattle.providers.specs.declared.condition.Condition.TheVariants.{Binary, Requirement}
use Rattle.package_pool.specs.Interned.{has_same, interned}
use Rattle.package_pool.specs.Pool.{Lists, nothing, IsSound, Placed, IsOfItself, IsMadeBelow}

-- what stands at the end, too
pub placed_push : {X : Type 0} (P : ℕ → X → Type 0) (xs : List X) (x : X) → Placed P xs → P (length xs) x →
    Placed P (xs ++ x ∷ [])
placed_push P [] x old new zero y h = subst (λ z. P 0 z) (ap (λ o. unwrap_or o x) h) new
placed_push P [] x old new (suc i) y h = absurd (grind arith)
placed_push P (k ∷ ks) x old new zero y h = old zero y h
placed_push P (k ∷ ks) x old new (suc i) y h = placed_push (λ j. P (suc j)) ks x (λ j z e. old (suc j) z e) new i y h

-- what was read of a list, at a place within it
pub read_at : {X : Type 0} (xs ys : List X) (i j : ℕ) (x : X) → i < length xs → ys ≡ xs → j ≡ i → x ≡ get_or ys j x →
    slice_get xs i ≡ Some x
read_at xs ys i j x within list place read =
    slice_get_read xs (length xs) i x refl within (read ∙ (ap (λ l. get_or l j x) list ∙ ap (λ k. get_or xs k x) place))

pub got_map : {X Y : Type 0} (f : X → Y) (xs : List X) (i : ℕ) (x : X) → slice_get xs i ≡ Some x →
    slice_get (map f xs) i ≡ Some (f x)
got_map f [] i x h = absurd (grind arith)
got_map f (k ∷ ks) zero x h = ap (option_map f) h
got_map f (k ∷ ks) (suc i) x h = got_map f ks i x h

length_either : {X : Type 0} (b : Bool) (xs : List X) (x : X) → length xs ≤ length (cond b xs (xs ++ x ∷ []))
length_either true xs x = omega arith
length_either false xs x = omega (arith, length-append xs (x ∷ []))

module _ {X : Type 0} (eq : X → X → Bool) (xs : List X) (x : X) where
  -- an interning only adds
  pub interned_grows : (new : List X) → new ≡ interned eq xs x → length xs ≤ length new
  interned_grows new h = rw h (length_either (has_same eq xs x) xs x)

  placed_either : (P : ℕ → X → Type 0) (b : Bool) → Placed P xs → P (length xs) x → Placed P (cond b xs (xs ++ x ∷ []))
  placed_either P true old fresh = old
  placed_either P false old fresh = placed_push P xs x old fresh

  pub placed_interned : (P : ℕ → X → Type 0) (new : List X) → new ≡ interned eq xs x → Placed P xs →
      P (length xs) x → Placed P new
  placed_interned P new h old fresh = rw h (placed_either P (has_same eq xs x) old fresh)

  -- the list once an interning ended, with an id or refused
  pub grown_and_placed : {T E : Type 0} (P : ℕ → X → Type 0) (new : List X) (r : Result T E) →
      OnOk r (new ≡ interned eq xs x) → OnErr r (new ≡ xs)
      → Placed P xs → P (length xs) x → (length xs ≤ length new) × Placed P new
  grown_and_placed P new (Ok id) ok err old fresh = (interned_grows new ok, placed_interned P new ok old fresh)
  grown_and_placed P new (Err refusal) ok err old fresh =
      rw err ((let e : length xs ≤ length xs = omega arith in e), old)

module _ {N VS V : Type 0} (p : Lists N VS V) (own : IsOfItself p) where
  made_more : (sets : List (ℕ × VS)) → length p.version_sets ≤ length sets → (i : ℕ) (c : Condition) →
      IsMadeBelow p i c → IsMadeBelow (record p { version_sets = sets }) i c
  made_more sets more i (Binary operator left right) h = h
  made_more sets more i (Requirement v) h = omega arith

  pub own_with_sets : (sets : List (ℕ × VS)) → length p.version_sets ≤ length sets →
      Placed (λ _ set. set.0 < length p.names) sets → IsOfItself (record p { version_sets = sets })
  own_with_sets sets more named =
      record {
        solvables = own.solvables;
        version_sets = named;
        unions = λ i union e. All-weaker (λ v. v.0 < length p.version_sets) (λ v. v.0 < length sets)
            (λ v h. omega arith) union (own.unions i union e);
        conditions = λ i c e. made_more sets more i c (own.conditions i c e);
      }

  pub own_with_conditions : (conditions : List Condition) → Placed (IsMadeBelow p) conditions →
      IsOfItself (record p { conditions = conditions })
  own_with_conditions conditions made =
      record { solvables = own.solvables; version_sets = own.version_sets; unions = own.unions; conditions = made }

pub sound_nothing : {N VS V : Type 0} → IsSound (nothing {N = N} {VS = VS} {V = V})
sound_nothing =
    record {
      fits = record {
        strings = omega arith;
        names = omega arith;
        solvables = omega arith;
        version_sets = omega arith;
        unions = omega arith;
        conditions = omega arith;
      };
      own = record {
        solvables = λ i s e. absurd (grind arith);
        version_sets = λ i s e. absurd (grind arith);
        unions = λ i s e. absurd (grind arith);
        conditions = λ i s e. absurd (grind arith);
      };
    }
