-- A few packages, and the provider of them: names and solvables are their numbers, a higher version is preferred, and
-- of each version set there is a condition.
use Rattle.std.specs.Prelude.{ℕ, Bool, true, false, ◌==◌, ◌&&◌, ◌||◌, if◌then◌else◌, nat_lt, nat_le, List, [], ◌∷◌}
use Rattle.std.specs.Prelude.{map, length, filter, fold, Option, Some, None, unwrap_or, option_map, slice_get}
use Rattle.std.specs.List.{enumerate_from}
use Rattle.resolvo_ids.specs.Types.VersionSetId.{VersionSetId}
use Rattle.resolvo_pool.specs.Types.Condition.TheVariants.{Requirement}
use Rattle.resolvo_pool.specs.Dependencies.{Known}
use Rattle.resolvo_store.specs.Store.{Provider}

pub record Solvable : Type 0 where
  pub name : ℕ
  pub version : ℕ

-- the versions of a name from low to below high
pub record Range : Type 0 where
  pub name : ℕ
  pub low : ℕ
  pub high : ℕ

pub record Packages : Type 0 where
  pub solvables : List Solvable
  pub sets : List Range
  -- the version sets of each union, by number
  pub unions : List (List ℕ)
  -- how many strings there are
  pub strings : ℕ

module _ (c : Packages) where
  -- the solvables of a name, by number
  abbrev pub named : ℕ → List ℕ
  named n = map (λ (s : ℕ × Solvable). s.0)
      (filter (λ (s : ℕ × Solvable). s.1.name == n) (enumerate_from 0 c.solvables))

  abbrev pub version : ℕ → ℕ
  version s = unwrap_or (option_map (λ x. x.version) (slice_get c.solvables s)) 0

  -- a higher version comes first, and of one version the smaller number
  abbrev pub is_before : ℕ → ℕ → Bool
  is_before s t = nat_lt (version t) (version s) || ((version s == version t) && nat_lt s t)

  abbrev pub inserted : ℕ → List ℕ → List ℕ
  inserted s [] = s ∷ []
  inserted s (t ∷ ts) = if is_before s t then s ∷ t ∷ ts else t ∷ inserted s ts

  abbrev pub is_within : Option Range → ℕ → Bool
  is_within None v = false
  is_within (Some r) v = nat_le r.low v && nat_lt v r.high

  -- a version set by its number
  abbrev pub set_of : ℕ → VersionSetId
  set_of v = record { 0 = v }

  -- the provider of which this solvable is favored, of whatever package
  abbrev pub provider_favoring : Option ℕ → Provider ℕ ℕ
  provider_favoring best = record {
    same_name = λ m n. m == n;
    same_solvable = λ s t. s == t;
    is_large_name = λ n. false;
    is_large_solvable = λ s. false;
    is_large_hint = λ s. false;
    are_names_many = false;
    universe = record {
      knows_string = λ s. nat_lt s.0 c.strings;
      knows_name = λ n. true;
      knows_solvable = λ s. nat_lt s (length c.solvables);
      knows_set = λ v. nat_lt v.0 (length c.sets);
      knows_union = λ u. nat_lt u.0 (length c.unions);
      knows_condition = λ x. nat_lt x (length c.sets);
      solvable_name = λ s. unwrap_or (option_map (λ x. x.name) (slice_get c.solvables s)) 0;
      set_name = λ v. unwrap_or (option_map (λ r. r.name) (slice_get c.sets v.0)) 0;
      union_sets = λ u. map set_of (unwrap_or (slice_get c.unions u.0) []);
      condition = λ x. Requirement (record { 0 = x });
    };
    answers = record {
      candidates = named;
      matches = λ v s. is_within (slice_get c.sets v.0) (version s);
      favored = λ n. best;
      locked = λ n. None;
      excluded = λ n. [];
      order = λ list. fold (λ sorted s. inserted s sorted) [] list;
      needs = λ s. Known [] [];
    };
  }

  -- none is favored
  abbrev pub provider_of : Provider ℕ ℕ
  provider_of = provider_favoring None
