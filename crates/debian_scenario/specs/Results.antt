-- Results of reading.
use Rattle.std.specs.Prelude.{◌≡◌, Result, Ok, Err, ⊤}
use Rattle.debian_scenario.specs.declared.fault.ReadError.{ReadError}
use Rattle.debian_scenario.specs.declared.fault.ReadError.TheVariants.{Faulty, OutOfMemory}
use Rattle.debian_scenario.specs.declared.fault.ScenarioFault.{ScenarioFault}

infixl 10 ◌>>=◌
abbrev pub ◌>>=◌ : {A B E : Type 0} → Result A E → (A → Result B E) → Result B E
Ok x >>= f = f x
Err e >>= f = Err e

abbrev pub result_map : {A B E : Type 0} → (A → B) → Result A E → Result B E
result_map f (Ok x) = Ok (f x)
result_map f (Err e) = Err e

abbrev pub result_map_err : {A D E : Type 0} → (D → E) → Result A D → Result A E
result_map_err f (Ok x) = Ok x
result_map_err f (Err e) = Err (f e)

-- this was read where that is meant: what it is, or why it can't be read, if memory was there
abbrev pub IsRead : {A B : Type 0} → (A → B) → Result B ScenarioFault → Result A ReadError → Type 0
IsRead plain meant (Ok x) = meant ≡ Ok (plain x)
IsRead plain meant (Err (Faulty fault)) = meant ≡ Err fault
IsRead plain meant (Err OutOfMemory) = ⊤
