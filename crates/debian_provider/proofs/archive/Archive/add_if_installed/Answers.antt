use Rattle.std.proofs.Common.{◌≡◌, ◌∙◌, subst, sym, true}
use Rattle.debian_provider.proofs.Words.{IsWanted, must_stay, NameText, packages_in, plain_package, request_in}
use Rattle.debian_provider.proofs.Offered.{grown_itself}
use Rattle.debian_provider.proofs.Wants.{wanted_stays}
use Rattle.debian_provider.proofs.Wider.{wider_by}
use Rattle.debian_provider.proofs.archive.Archive.add_if_installed.Goals as goal

pub returns-then-not-one : goal.returns-then-not-one
returns-then-not-one c = λ in'. wider_by c.args.self.now c.args.self.now (grown_itself c.args.self.now)

pub returns-then-must_stay : goal.returns-then-must_stay
returns-then-must_stay c = λ in'.
    let rules = c.args.self.now.rules in
    let one = c.args.one.now in
    let must : must_stay (request_in rules) (packages_in rules) (plain_package one) ≡ true =
    sym c.must_stay.ensures ∙ c.if-must_stay.true in
    c.add_wanted.ensures (subst (λ (n : NameText). IsWanted rules n) (sym c.name_of-name.ensures)
    (wanted_stays rules one in' must))

pub returns : goal.returns
returns c = λ in'. wider_by c.args.self.now c.reach.new.self c.in_ok-reach.ensures.grown
