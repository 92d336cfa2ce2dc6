use Rattle.std.proofs.Common.{◌≡◌, ℕ, List, [], ◌∷◌, ◌++◌, ap, ◌∙◌, append_assoc}
use Rattle.std.specs.Str.{trim_end}
use Rattle.providers.proofs.requirement_text.text_of_set.Goals as goal

-- a name, a blank and a set's text, one put after the other
put_together : (none named blank whole name set : List ℕ) → none ≡ [] → named ≡ none ++ name →
    blank ≡ named ++ 32 ∷ [] → whole ≡ blank ++ set
    → whole ≡ name ++ 32 ∷ set
put_together none named blank whole name set e0 e1 e2 e3 =
    e3 ∙ (ap (λ w. w ++ set) (e2 ∙ ap (λ w. w ++ 32 ∷ []) (e1 ∙ ap (λ w. w ++ name) e0))
    ∙ append_assoc name (32 ∷ []) set)

pub returns-clause-ok : goal.returns-clause-ok
returns-clause-ok g c =
    let texts = g.I.Interner.texts c.args.interner.now in
    c.in_ok-from_str.ensures.ok ∙ (c.trim_end.ensures.trim ∙ (ap trim_end (c.deref.ensures
    ∙ put_together _ _ _ _ (texts.name c.version_set_name.result) (texts.version_set c.args.set)
    c.new-whole.ensures.bytes c.in_ok-display_name.ensures.ok c.in_ok-append.ensures.ok
    c.in_ok-display_version_set.ensures.ok)
    ∙ ap (λ name. trim_end (texts.name name ++ 32 ∷ texts.version_set c.args.set)) c.version_set_name.ensures))
