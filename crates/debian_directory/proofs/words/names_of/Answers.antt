use Rattle.std.proofs.Common.{ℕ, List, Bor, ◌==◌, not, length, map, rules, tests, ap, ◌∙◌, sym}
use Rattle.std.specs.Char.{is_ascii_whitespace}
use Rattle.std.proofs.lemmas.Iterator.Consumers.{YieldsList-end, YieldsList-from_filter}
use Rattle.std.proofs.lemmas.Iterator.Splits.{YieldsList-from_slice_split}
use Rattle.debian_directory.specs.Answers.{named}
use Rattle.debian_directory.specs.Plain.{plain_name}
use Rattle.debian_directory.proofs.Lists.{map-push, map_twice}
use Rattle.debian_directory.proofs.words.names_of.Goals as goal

pub loop-word-preserved : goal.loop-word-preserved
loop-word-preserved c =
    ap (map plain_name) c.in_ok-push.ensures.items
    ∙ map-push plain_name (λ (word : Bor (List ℕ)). named c.args.native.now word.now) c.loop-word.names.items
    c.loop-word.yielded c.named.result c.in-Some.word c.loop-word.invariant c.named.ensures

pub returns : goal.returns
returns c =
    let whole =
    YieldsList-end
    (YieldsList-from_filter _ (λ word. not (length word == 0))
    (YieldsList-from_slice_split _ is_ascii_whitespace c.args.words.now (cc) (cc) (cc)
    (λ x b q k. search (rules, tests))) c.filter-word-items.ensures.closure (λ x b q k. search (rules, tests)))
    c.loop-word.yielded _ c.loop-word.yielded_by _ _ c.in-None.is c.next.ensures.steps
    in
    c.loop-word.invariant ∙ sym (map_twice (named c.args.native.now)
    (λ (word : Bor (List ℕ)). word.now) c.loop-word.yielded) ∙ ap (map (named c.args.native.now)) whole.0
