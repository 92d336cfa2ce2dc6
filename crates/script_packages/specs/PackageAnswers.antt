-- What a script's packages know and answer.
use Rattle.std.specs.Prelude.{ℕ, length, List, [], ◌++◌, None, slice_get, unwrap_or, option_map, codes, decimal}
use Rattle.std.specs.String.{string_bytes}
use Rattle.typed_ids.specs.declared.version_set_id.VersionSetId.{VersionSetId}
use Rattle.package_pool.specs.PoolIds.{universe_in, texts_in}
use Rattle.providers.specs.Dependencies.{Known}
use Rattle.providers.specs.Provider.{Universe, Answers}
use Rattle.providers.specs.Texts.{Texts}
use Rattle.script_packages.specs.declared.packages.Packages.{Packages}
use Rattle.script_packages.specs.declared.packages.VersionRange.{VersionRange}
use Rattle.script_packages.specs.Packages.{span_of, listed_numbers, favored_number, is_within}
use Rattle.script_packages.specs.Order.{version_at, best_first}

-- the bounds of a version set
abbrev pub range_at : List (ℕ × VersionRange) → VersionSetId → VersionRange
range_at sets v =
    unwrap_or (option_map (λ (x : ℕ × VersionRange). x.1) (slice_get sets v.0)) (record { low = 0; high = 0 })

-- the ids that the packages know, and how they belong together
abbrev pub universe_of : Packages → Universe ℕ ℕ
universe_of p = universe_in p.pool

-- as >=1, <3
abbrev pub range_text : VersionRange → List ℕ
range_text r = codes ">=" ++ (decimal r.low ++ (codes ", <" ++ decimal r.high))

abbrev pub texts_of : Packages → Texts ℕ ℕ
texts_of p = texts_in p.pool string_bytes range_text decimal

-- what the packages answer
abbrev pub answers_of : Packages → Answers ℕ ℕ
answers_of p = record {
  candidates = λ n. listed_numbers (span_of p.spans (length p.pool.solvables) n);
  matches = λ v s. is_within (range_at p.pool.version_sets v) (version_at p.pool.solvables s);
  favored = λ n. favored_number (span_of p.spans (length p.pool.solvables) n);
  locked = λ n. None;
  excluded = λ n. [];
  order = λ list. best_first p.pool.solvables list;
  needs = λ s. Known [] [];
}
