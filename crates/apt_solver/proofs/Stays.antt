-- An archive stays whole.
use Rattle.std.proofs.Common.{◌≡◌, ◌∙◌, List, refl, subst}
use Rattle.debian_scenario.specs.Packages.{PackageText}
use Rattle.debian_directory.specs.declared.rules.Rules.{Rules}
use Rattle.debian_provider.specs.Reading.{IsWhole}
use Rattle.debian_provider.specs.declared.archive.Archive.{Archive}
use Rattle.picking.specs.declared.finding.Answer.{Answer}
use Rattle.apt_solver.specs.Search.{FindsNoSuch, StaysWhole}

pub stays_itself : (a : Archive) → StaysWhole a a
stays_itself a = record { rules = refl; whole = λ whole. whole }

pub stays_twice : (a b c : Archive) → StaysWhole a b → StaysWhole b c → StaysWhole a c
stays_twice a b c first second = record {
  rules = second.rules ∙ first.rules;
  whole = λ whole. second.whole (first.whole whole);
}

pub stays_by : (a b c : Archive) → StaysWhole a b → c.rules ≡ b.rules → (IsWhole b → IsWhole c) → StaysWhole a c
stays_by a b c first rules whole = stays_twice a b c first (record { rules = rules; whole = whole })

-- what was found of the later one is so of the first
pub found_before : {N S A : Type 0} (IsSuch : Rules → List PackageText → Type 0) (old new : Archive)
    → StaysWhole old new → (answer : Answer N S A) → FindsNoSuch IsSuch new.rules answer
    → FindsNoSuch IsSuch old.rules answer
found_before IsSuch old new stays answer found =
    subst (λ (r : Rules). FindsNoSuch IsSuch r answer) stays.rules found
