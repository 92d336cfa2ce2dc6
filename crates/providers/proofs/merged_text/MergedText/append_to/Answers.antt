use Rattle.std.proofs.Common.{◌∙◌, ◌++◌, ap, codes, string_bytes}
use Rattle.std.proofs.lemmas.Result.{on_ok_weaker}
use Rattle.std.specs.List.{join_by}
use Rattle.providers.proofs.MergedLemmas.{ascending, merged}
use Rattle.providers.proofs.merged_text.MergedText.append_to.Goals as goal

pub returns-clause-ok : goal.returns-clause-ok
returns-clause-ok g c =
    let in_order = ascending c.args.self.texts.items c.sort_unstable.new.self.items c.dedup.new.self.items
    c.sort_unstable.ensures.permutation c.sort_unstable.ensures.sorted c.dedup.ensures.filtered in
    let name = string_bytes c.args.self.name in
    let blank = string_bytes c.append.new.out in
    let joined = c.deref-2.ensures ∙ (c.in_ok-append_joined.ensures.ok ∙
    ap (λ texts. blank ++ join_by string_bytes (codes " | ") texts) c.deref.ensures.value) in
    on_ok_weaker c.append-2.result (λ h. (
      c.deref-2.result.now,
      h,
      merged name blank _ _ _ in_order c.in_ok-append.ensures.ok joined,
    )) c.append-2.ensures.ok
