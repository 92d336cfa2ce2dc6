use Rattle.std.proofs.Common.{◌≡◌, ◌∙◌, Some, refl, sym}
use Rattle.std.proofs.lemmas.Bool.{false≢true, not-false, not-true}
use Rattle.std.proofs.lemmas.Option.{slice_get_past, slice_get_read}
use Rattle.debian_provider.proofs.Words.{name_of, native_in, plain_name, plain_package, slice_get}
use Rattle.debian_provider.proofs.Named.{apart_names, same_names}
use Rattle.debian_provider.proofs.Picks.{pick_may, pick_none, pick_other, pick_yes}
use Rattle.debian_provider.proofs.archive.Archive.is_to_pick.Goals as goal

pub returns-in_default : goal.returns-in_default
returns-in_default c =
    let rules = c.args.self.now.rules in (
      λ h. absurd (false≢true h),
      λ is. absurd (pick_none rules (plain_name c.args.name) c.args.place
          (slice_get_past rules.packages.now c.args.place c.in_default.ensures.lookup.3) is),
    )

pub returns-then-ne : goal.returns-then-ne
returns-then-ne c =
    let rules = c.args.self.now.rules in
    let one = c.in-Some.one.now in
    let got = c.in-Some.ensures.lookup in
    let at : slice_get rules.packages.now c.args.place ≡ Some one =
    slice_get_read rules.packages.now _ c.args.place one refl got.3.0 got.1 in (
      λ h. absurd (false≢true h),
      λ is. absurd (pick_other rules (plain_name c.args.name) c.args.place one at
          (λ named. apart_names c.name_of.result c.args.name (not-true _ (sym c.ne.ensures ∙ c.if-ne.true))
          (c.name_of.ensures ∙ named)) is),
    )

pub returns : goal.returns
returns c =
    let rules = c.args.self.now.rules in
    let one = c.in-Some.one.now in
    let got = c.in-Some.ensures.lookup in
    let at : slice_get rules.packages.now c.args.place ≡ Some one =
    slice_get_read rules.packages.now _ c.args.place one refl got.3.0 got.1 in
    let named : name_of (native_in rules) (plain_package one) ≡ plain_name c.args.name =
    sym c.name_of.ensures ∙ same_names c.name_of.result c.args.name (not-false _ (sym c.ne.ensures ∙ c.if-ne.false))
    in (
      λ h. pick_yes rules (plain_name c.args.name) c.args.place one at named (sym c.may_be_picked.ensures ∙ h),
      λ is. c.may_be_picked.ensures ∙ pick_may rules (plain_name c.args.name) c.args.place one at is,
    )
