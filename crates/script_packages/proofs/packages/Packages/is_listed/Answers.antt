use Rattle.std.proofs.Common.{◌≡◌, [], Some, true, map, get_or, length, arith, below_more, ◌∙◌, sym, ap, subst}
use Rattle.std.proofs.lemmas.List.{length-map}
use Rattle.std.proofs.lemmas.Option.{slice_get_within}
use Rattle.script_packages.proofs.Words.{bytes_eq, has_span, listing_of, slice_get, string_bytes}
use Rattle.script_packages.proofs.Names.{name_at, not_below, listed_here, unlisted}
use Rattle.script_packages.proofs.packages.Packages.is_listed.Goals as goal

pub returns-then-not-knows_name : goal.returns-then-not-knows_name
returns-then-not-knows_name c =
    let names = c.args.self.now.pool.names in
    let past = not_below c.from_index-id.result (length names) (sym c.knows_name.ensures ∙ c.if-not-knows_name.true) in
    unlisted (listing_of c.args.self.now) c.args.name.now c.loop-index.index c.loop-index.invariant.within
    c.loop-index.invariant.others
    (omega (arith, past, c.from_index-id.ensures, length-map names string_bytes))

pub returns-then-eq : goal.returns-then-eq
returns-then-eq c =
    let names = c.args.self.now.pool.names in
    let text = c.resolve_package_name.result.now in
    let here : slice_get names c.loop-index.index ≡ Some text =
    subst (λ n. slice_get names n ≡ Some text) c.from_index-id.ensures c.resolve_package_name.ensures in
    let same : bytes_eq c.args.name.now (get_or (map string_bytes names) c.loop-index.index []) ≡ true =
    ap (bytes_eq c.args.name.now) (name_at string_bytes names c.loop-index.index text here ∙ sym c.as_str.ensures.value)
    ∙ (sym c.eq.ensures ∙ c.if-eq.true) in
    let l = listing_of c.args.self.now in
    c.has_span.ensures
    ∙ (ap (has_span l) c.from_index-id.ensures
    ∙ listed_here l c.args.name.now c.loop-index.index c.loop-index.invariant.within c.loop-index.invariant.others
    (omega (arith, slice_get_within names c.loop-index.index text here, length-map names string_bytes)) same)

pub loop-index-preserved : goal.loop-index-preserved
loop-index-preserved c =
    let names = c.args.self.now.pool.names in
    let text = c.resolve_package_name.result.now in
    let here : slice_get names c.loop-index.index ≡ Some text =
    subst (λ n. slice_get names n ≡ Some text) c.from_index-id.ensures c.resolve_package_name.ensures in
    record {
      within = omega (arith, slice_get_within names c.loop-index.index text here, length-map names string_bytes);
      others = below_more _ _ c.loop-index.invariant.others
          (ap (bytes_eq c.args.name.now) (name_at string_bytes names c.loop-index.index text here
          ∙ sym c.as_str.ensures.value)
          ∙ (sym c.eq.ensures ∙ c.if-eq.false));
    }

pub returns : goal.returns
returns c =
    let fits = c.tell_sound.ensures.fits.names in
    unlisted (listing_of c.args.self.now) c.args.name.now c.loop-index.index c.loop-index.invariant.within
    c.loop-index.invariant.others
    (omega (arith, fits, length-map c.args.self.now.pool.names string_bytes))
