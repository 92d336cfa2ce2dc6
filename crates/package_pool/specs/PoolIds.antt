-- What an interner tells of ids that are kept in a pool. Ids are places in the pool's lists.
use Rattle.std.specs.Prelude.{ℕ, nat_lt, length, List, [], ◌++◌, slice_get, unwrap_or, option_map, codes}
use Rattle.typed_ids.specs.declared.version_set_id.VersionSetId.{VersionSetId}
use Rattle.providers.specs.declared.condition.Condition.TheVariants.{Requirement}
use Rattle.providers.specs.Provider.{Universe}
use Rattle.providers.specs.Texts.{Texts}
use Rattle.package_pool.specs.declared.solvable.Solvable.{Solvable}
use Rattle.package_pool.specs.Pool.{Lists}

module _ {N VS V : Type 0} (p : Lists N VS V) where
  -- the package of a solvable, and of a version set
  abbrev pub solvable_name_in : ℕ → ℕ
  solvable_name_in s = unwrap_or (option_map (λ (x : Solvable V). x.name) (slice_get p.solvables s)) 0

  abbrev pub set_name_in : VersionSetId → ℕ
  set_name_in v = unwrap_or (option_map (λ (x : ℕ × VS). x.0) (slice_get p.version_sets v.0)) 0

  -- the ids that are in use, and how they belong together
  abbrev pub universe_in : Universe ℕ ℕ
  universe_in = record {
    knows_string = λ t. nat_lt t.0 (length p.strings);
    knows_name = λ n. nat_lt n (length p.names);
    knows_solvable = λ s. nat_lt s (length p.solvables);
    knows_set = λ v. nat_lt v.0 (length p.version_sets);
    knows_union = λ u. nat_lt u.0 (length p.unions);
    knows_condition = λ c. nat_lt c (length p.conditions);
    solvable_name = solvable_name_in;
    set_name = set_name_in;
    union_sets = λ u. unwrap_or (slice_get p.unions u.0) [];
    condition = λ c. unwrap_or (slice_get p.conditions c) (Requirement (record { 0 = 0 }));
  }

  -- the text of an entry, by that of its value; nothing where there is no entry
  abbrev pub text_at : {X : Type 0} → (X → List ℕ) → List X → ℕ → List ℕ
  text_at text list place = unwrap_or (option_map text (slice_get list place)) []

  -- of a solvable the text of its name, a blank and that of its payload; of all else its own
  abbrev pub texts_in : (N → List ℕ) → (VS → List ℕ) → (V → List ℕ) → Texts ℕ ℕ
  texts_in of_name of_set of_payload = record {
    solvable = λ s. text_at of_name p.names (solvable_name_in s) ++
        (codes " " ++ text_at (λ (x : Solvable V). of_payload x.payload) p.solvables s);
    name = λ n. text_at of_name p.names n;
    version_set = λ v. text_at (λ (x : ℕ × VS). of_set x.1) p.version_sets v.0;
    string = λ t. unwrap_or (slice_get p.strings t.0) [];
  }
