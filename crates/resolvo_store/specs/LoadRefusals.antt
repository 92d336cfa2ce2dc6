-- Why a load may be refused, as the cache and the variables tell it.
use Rattle.std.specs.Prelude.{◌≡◌, Bool, false}
use Rattle.typed_ids.specs.Refusals.{IsGrowthRefusal}
use Rattle.typed_ids.specs.declared.error.StoreError.{StoreError}
use Rattle.typed_ids.specs.declared.error.StoreError.TheVariants.{Cancelled}

-- the provider cancelled, which is possible only where not all packages were queried; or ids are lacking; or memory was
-- refused
abbrev pub IsLoadRefusal : (queried lacks : Bool) → StoreError → Type 0
IsLoadRefusal queried lacks Cancelled = queried ≡ false
IsLoadRefusal queried lacks e = IsGrowthRefusal lacks e
