use Rattle.std.proofs.Common.{ℕ, List, refl, ◌∙◌, ap, map, rules}
use Rattle.std.proofs.lemmas.Result.{IfOk-weaker, on_ok_weaker}
use Rattle.std.specs.Prelude.{◌≡◌}
use Rattle.package_pool.proofs.InternedLemmas.{place_by_view, interned_by_view}
use Rattle.script_packages.proofs.Words.{bytes_eq, IfOk, interned, Listing, listing_of, Lists, name_number, named, OnOk}
use Rattle.script_packages.proofs.Words.{string_bytes, string_eq, VersionRange}
use Rattle.script_packages.proofs.packages.Packages.name.Goals as goal

pub returns-clause-number : goal.returns-clause-number
returns-clause-number c =
    let l = listing_of c.args.self.now in
    let number : IfOk c.intern_package_name.result (λ n. n ≡ name_number l c.args.name.now) =
    IfOk-weaker c.intern_package_name.result _ _ (λ n h. h
    ∙ (place_by_view string_bytes string_eq bytes_eq (λ x y. refl) c.args.self.now.pool.names c.in_ok-text.text
    ∙ ap (name_number l) c.in_ok-text.ensures.ok)) c.intern_package_name.ensures.id in
    search rules

pub returns-clause-ok : goal.returns-clause-ok
returns-clause-ok c =
    let p = c.args.self.now in
    let seen : Lists _ VersionRange ℕ → Listing = λ pool. record {
      pool = record {
        strings = pool.strings;
        names = map string_bytes pool.names;
        solvables = pool.solvables;
        version_sets = pool.version_sets;
        unions = pool.unions;
        conditions = pool.conditions;
      };
      spans = p.spans;
    } in
    let with_names : List (List ℕ) → Listing = λ names. record (listing_of p) {
      pool =
          record (listing_of p).pool { names = names };
    } in
    let listed : OnOk c.intern_package_name.result (seen c.intern_package_name.new.self
    ≡ named (listing_of p) c.args.name.now) =
    on_ok_weaker c.intern_package_name.result (λ h. ap (λ (pool : Lists _ VersionRange ℕ). seen pool) h
    ∙ ap with_names (interned_by_view string_bytes string_eq bytes_eq (λ x y. refl) p.pool.names c.in_ok-text.text
    ∙ ap (interned bytes_eq (map string_bytes p.pool.names)) c.in_ok-text.ensures.ok))
    c.intern_package_name.ensures.ok in
    search rules
