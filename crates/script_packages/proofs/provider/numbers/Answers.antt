use Rattle.std.proofs.Common.{◌≡◌, ◌<◌, ◌∷◌, [], ◌++◌, ◌+◌, ◌-◌, ◌∙◌, sym, ap, subst, append_assoc, arith}
use Rattle.script_packages.proofs.Words.{numbers}
use Rattle.script_packages.proofs.Numbering.{numbers_more}
use Rattle.script_packages.proofs.provider.numbers.Goals as goal

pub loop-i-preserved : goal.loop-i-preserved
loop-i-preserved c =
    let found = c.loop-i.found.items in
    let i = c.loop-i.i in
    let end = c.args.span.last + 1 in
    let within : i < end = subst (λ n. i < n + 1) c.to_index-end.ensures.value c.loop-i-test.true in
    let one_more : c.push_reserved.new.self.items ≡ found ++ i ∷ [] =
    c.push_reserved.ensures.items ∙ ap (λ n. found ++ n ∷ []) c.from_index.ensures in
    record {
      listed = ap (λ l. l ++ numbers (i + 1) (end - (i + 1))) one_more
          ∙ append_assoc found (i ∷ []) (numbers (i + 1) (end - (i + 1)))
          ∙ sym (ap (λ l. found ++ l) (numbers_more i end within))
          ∙ c.loop-i.invariant.listed;
      room = omega arith;
    }
