-- What the program says to a scenario.
use Rattle.std.specs.Prelude.{◌≡◌, ◌⊎◌, ◌==◌, ℕ, Bool, true, false, All, Contains, List, Result, Ok, Err, codes}
use Rattle.std.specs.List.{ends_with}
use Rattle.debian_scenario.specs.Packages.{PackageText}
use Rattle.debian_scenario.specs.Requests.{RequestText}
use Rattle.debian_scenario.specs.Scenarios.{ScenarioText, scenario_of}
use Rattle.debian_scenario.specs.declared.fault.ReadError.TheVariants.{Faulty, OutOfMemory}
use Rattle.debian_scenario.specs.declared.fault.ScenarioFault.{ScenarioFault}
use Rattle.debian_directory.specs.Answers.{is_answer, keeps_another, keeps_as_much}
use Rattle.apt_solver.specs.Causes.{HaveCauses}
use Rattle.apt_solver.specs.Difference.{answer_text}
use Rattle.apt_solver.specs.Errors.{SaysFault, none_text, not_answered, unread_text}
use Rattle.apt_solver.specs.Versions.{ChangeInNeed}

-- no answer keeps all that these packages keep, and more
abbrev pub KeepsMost : RequestText → List PackageText → List PackageText → Type 0
KeepsMost request packages there =
    (other : List PackageText) → All (Contains packages) other → is_answer request packages other ≡ true →
    keeps_as_much request packages there other ≡ true → keeps_another request packages there other ≡ true → ⊥

-- the text is the difference between what is installed and some packages that are an answer
pub record SaysAnswer (request : RequestText) (packages : List PackageText) (said : List ℕ) : Type 0 where
  pub there : List PackageText
  pub known : All (Contains packages) there
  pub answers : is_answer request packages there ≡ true
  pub keeps : KeepsMost request packages there
  pub caused : HaveCauses request packages there
  pub changes : ChangeInNeed request packages there
  pub is : said ≡ answer_text request.architecture packages there

-- no packages of the scenario are an answer
abbrev pub HasNoAnswer : RequestText → List PackageText → Type 0
HasNoAnswer request packages =
    (there : List PackageText) → All (Contains packages) there → is_answer request packages there ≡ true → ⊥

-- the text says so, with some reasons
pub record SaysNone (request : RequestText) (packages : List PackageText) (said : List ℕ) : Type 0 where
  pub none : HasNoAnswer request packages
  pub reasons : List ℕ
  pub is : said ≡ none_text reasons

-- an answer, or that there is none
abbrev pub Answers : RequestText → List PackageText → List ℕ → Type 0
Answers request packages said = SaysAnswer request packages said ⊎ SaysNone request packages said

-- or why it isn't answered
abbrev pub IsSaidOf : RequestText → List PackageText → List ℕ → Type 0
IsSaidOf request packages said = Answers request packages said ⊎ SaysFault said

-- it ends with an empty line
abbrev pub is_whole : List ℕ → Bool
is_whole text = ends_with (◌==◌) text (codes "\n\n")

-- what is said to a scenario; or, if its text can't be read, which stanza can't be, and why
abbrev pub IsSaidTo : Result ScenarioText ScenarioFault → List ℕ → Type 0
IsSaidTo (Ok scenario) said = IsSaidOf scenario.request scenario.packages said
IsSaidTo (Err fault) said = (said ≡ unread_text (Faulty fault)) ⊎ (said ≡ unread_text OutOfMemory)

-- what the program says to a text: it reads a whole one, and no other
pub record IsSaid (text said : List ℕ) : Type 0 where
  pub whole : is_whole text ≡ true → IsSaidTo (scenario_of text) said
  pub cut : is_whole text ≡ false → said ≡ not_answered (codes "the scenario doesn't end with an empty line")
