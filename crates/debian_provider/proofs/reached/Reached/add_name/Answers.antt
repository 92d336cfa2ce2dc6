use Rattle.std.proofs.Common.{◌≡◌, arith, length, subst, sym}
use Rattle.debian_provider.proofs.Words.{AreKnown, is_ok}
use Rattle.debian_provider.proofs.Growing.{known_if_pushed, known_still}
use Rattle.debian_provider.proofs.Versions.{name_added}
use Rattle.debian_provider.proofs.reached.Reached.add_name.Goals as goal

pub invariant_of-self-2 : goal.invariant_of-self-2
invariant_of-self-2 c =
    let pool = c.add_versions-added.new.pool in
    let versions = c.args.self.now.versions.items in
    record {
      of_itself = c.tell_sound.ensures.own;
      known = subst (AreKnown pool) (sym c.push.ensures.items)
          (known_if_pushed pool (is_ok c.push.result) versions c.in_ok-id.versions
          (known_still c.args.self.now.pool pool versions c.in_ok-id.ensures.longer c.args.self.now.known)
          c.in_ok-id.ensures.known);
    }

pub returns-clause-added : goal.returns-clause-added
returns-clause-added c =
    let is : c.in_ok-id.id ≡ length c.args.self.now.versions.items =
    omega (arith, c.to_index.ensures.value, c.if-to_index-len.false, c.len.ensures, c.args.self.now.versions.ok.0) in
    name_added c.args.self.now _ c.args.places.now c.in_ok-id.id c.in_ok-id.versions is c.in_ok-id.ensures.names
    c.in_ok-push.ensures.items c.in_ok-id.ensures.at
