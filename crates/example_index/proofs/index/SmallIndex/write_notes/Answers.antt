use Rattle.std.proofs.Common.{◌∙◌, ℕ, ◌-◌, ◌+◌, List, [], ◌∷◌, ◌++◌, Option, arith, ap, drop, get_or, length, refl, sym}
use Rattle.example_index.proofs.Words.{is_noted, notes_from, string_bytes, unwrap_or}
use Rattle.example_index.proofs.NoteLemmas.{continued_more, continued_none, told_all, told_before, told_now, told_rest}
use Rattle.example_index.proofs.index.SmallIndex.write_notes.Goals as goal

pub loop-i-init : goal.loop-i-init
loop-i-init c = record {
  text = continued_none c.args.text.now;
  none = λ _. refl;
  told = ap (λ (noted : List ℕ). string_bytes c.args.text.now ++ notes_from c.args.self.now 20 noted c.args.sets.now)
      c.new-noted.ensures.items;
}

pub returns-then-room-eq0-clause-told : goal.returns-then-room-eq0-clause-told
returns-then-room-eq0-clause-told c =
    let text = string_bytes c.loop-i.text in
    told_rest c.args.self.now c.args.sets.now c.loop-i.i c.loop-i.room c.loop-i.noted.items text _
    c.loop-i.invariant.told (record { 0 = 0 }) c.loop-i-test.true (string_bytes c.push_str.new.self) c.if-room-eq0.true
    (c.in_ok-push_str.ensures.bytes
    ∙ ap (λ (more : List ℕ). text ++ more) (c.deref.ensures ∙ c.in_ok-more_text.ensures))

pub loop-i-preserved-then-is_noted : goal.loop-i-preserved-then-is_noted
loop-i-preserved-then-is_noted c =
    let set = get_or c.args.sets.now c.loop-i.i (record { 0 = 0 }) in
    record {
      text = c.loop-i.invariant.text;
      none = c.loop-i.invariant.none;
      told = told_before c.args.self.now c.args.sets.now c.loop-i.i c.loop-i.room c.loop-i.noted.items
          (string_bytes c.loop-i.text) _ c.loop-i.invariant.told (record { 0 = 0 }) c.loop-i-test.true
          c.if-room-eq0.false
          (sym (ap (λ (noted : List ℕ). is_noted c.args.self.now noted set) c.deref-in-loop-i.ensures.value)
          ∙ sym c.is_noted.ensures ∙ c.if-is_noted.true);
    }

pub loop-i-preserved : goal.loop-i-preserved
loop-i-preserved c =
    let index = c.args.self.now in
    let sets = c.args.sets.now in
    let i = c.loop-i.i in
    let set = get_or sets i (record { 0 = 0 }) in
    let noted = c.loop-i.noted.items in
    let text = string_bytes c.loop-i.text in
    let new = string_bytes c.push_str-in-loop-i.new.self in
    let name = ap (λ (o : Option ℕ). unwrap_or o 0) c.resolve_version_set_package_name.ensures.value in
    record {
      text = continued_more c.args.text.now c.loop-i.text c.push_str-in-loop-i.new.self _ c.loop-i.invariant.text
          c.in_ok-push_str-2.ensures.bytes;
      none = λ empty. absurd (omega (arith, c.loop-i-test.true, ap length empty));
      told = ap (λ (more : List ℕ). new ++ notes_from index (c.loop-i.room - 1) more (drop (i + 1) sets))
          (c.in_ok-push.ensures.items ∙ ap (λ (n : ℕ). noted ++ n ∷ []) (sym name))
          ∙ told_now index sets i c.loop-i.room noted text _ c.loop-i.invariant.told (record { 0 = 0 })
          c.loop-i-test.true new c.if-room-eq0.false
          (sym (ap (λ (noted : List ℕ). is_noted index noted set) c.deref-in-loop-i.ensures.value)
          ∙ sym c.is_noted.ensures ∙ c.if-is_noted.false)
          (c.in_ok-push_str-2.ensures.bytes
          ∙ ap (λ (more : List ℕ). text ++ more) (c.deref-in-loop-i-2.ensures ∙ c.in_ok-note.ensures));
    }

pub returns-clause-told : goal.returns-clause-told
returns-clause-told c =
    told_all c.args.self.now c.args.sets.now c.loop-i.i c.loop-i.room c.loop-i.noted.items
    (string_bytes c.loop-i.text) _ c.loop-i.invariant.told (omega (arith, c.loop-i-test.false, c.loop-i.auto.i-end))
