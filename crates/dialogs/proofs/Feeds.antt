-- Line feeds and lines.
use Rattle.std.specs.Prelude.{if◌then◌else◌}
use Rattle.std.proofs.Common.{◌≡◌, ℕ, ◌+◌, ◌<◌, ◌==◌, false, List, [], ◌∷◌, ◌++◌, take, length, get_or, refl, sym, ap}
use Rattle.std.proofs.Common.{subst, ◌∙◌, append_assoc, append-nil, eq-eqb}
use Rattle.std.proofs.lemmas.Bool.{ne_eqb}
use Rattle.std.proofs.lemmas.List.{take_more}
use Rattle.script_text.specs.Lines.{lines as lines_of, lines_from, without_return, last_line}
use Rattle.dialogs.specs.LineReads.{HasNoFeed, IsFed, whole_lines, whole_lines_from}

no_feed_more : (xs : List ℕ) (b : ℕ) → HasNoFeed xs → b == 10 ≡ false → HasNoFeed (xs ++ b ∷ [])
no_feed_more [] b h e = (e, tt)
no_feed_more (x ∷ xs) b h e = (h.0, no_feed_more xs b h.1 e)

-- one byte more that is no line feed
pub no_feed_next : (text : List ℕ) (i : ℕ) → i < length text → HasNoFeed (take i text) → (get_or text i 0 ≡ 10 → ⊥) →
    HasNoFeed (take (i + 1) text)
no_feed_next text i lt h other =
    subst HasNoFeed (sym (take_more text i 0 lt)) (no_feed_more (take i text) (get_or text i 0) h
    (ne_eqb (get_or text i 0) 10 other))

-- a text with no line feed is the beginning of its last line
lines_unfed : (begun xs : List ℕ) → HasNoFeed xs → lines_from begun xs ≡ last_line (begun ++ xs)
lines_unfed begun [] h = ap last_line (sym (append-nil begun))
lines_unfed begun (b ∷ xs) h =
    ap (λ ends. if ends then without_return begun ∷ lines_from [] xs else lines_from (begun ++ b ∷ []) xs) h.0
    ∙ lines_unfed (begun ++ b ∷ []) xs h.1 ∙ ap last_line (append_assoc begun (b ∷ []) xs)

-- none of its lines is whole
whole_unfed_from : (begun xs : List ℕ) → HasNoFeed xs → whole_lines_from begun xs ≡ []
whole_unfed_from begun [] h = refl
whole_unfed_from begun (b ∷ xs) h =
    ap (λ ends. if ends then without_return begun ∷ whole_lines_from [] xs else whole_lines_from
    (begun ++ b ∷ []) xs) h.0
    ∙ whole_unfed_from (begun ++ b ∷ []) xs h.1

pub whole_unfed : (xs : List ℕ) → HasNoFeed xs → whole_lines xs ≡ []
whole_unfed xs h = whole_unfed_from [] xs h

-- what comes before a line feed is a line
lines_fed_from : (begun xs z : List ℕ) → HasNoFeed xs →
    lines_from begun ((xs ++ 10 ∷ []) ++ z) ≡ without_return (begun ++ xs) ∷ lines_of z
lines_fed_from begun [] z h =
    ap (λ ends. if ends then without_return begun ∷ lines_from [] z else lines_from (begun ++ 10 ∷ []) z)
    (eq-eqb 10 10 refl)
    ∙ ap (λ l. without_return l ∷ lines_of z) (sym (append-nil begun))
lines_fed_from begun (b ∷ xs) z h =
    ap (λ ends. if ends then without_return begun ∷ lines_from [] ((xs ++ 10 ∷ []) ++ z) else lines_from
    (begun ++ b ∷ []) ((xs ++ 10 ∷ []) ++ z)) h.0
    ∙ lines_fed_from (begun ++ b ∷ []) xs z h.1
    ∙ ap (λ l. without_return l ∷ lines_of z) (append_assoc begun (b ∷ []) xs)

whole_fed_from : (begun xs z : List ℕ) → HasNoFeed xs →
    whole_lines_from begun ((xs ++ 10 ∷ []) ++ z) ≡ without_return (begun ++ xs) ∷ whole_lines z
whole_fed_from begun [] z h =
    ap (λ ends. if ends then without_return begun ∷ whole_lines_from [] z else whole_lines_from (begun ++ 10 ∷ []) z)
    (eq-eqb 10 10 refl)
    ∙ ap (λ l. without_return l ∷ whole_lines z) (sym (append-nil begun))
whole_fed_from begun (b ∷ xs) z h =
    ap (λ ends. if ends then without_return begun ∷ whole_lines_from [] ((xs ++ 10 ∷ []) ++ z) else whole_lines_from
    (begun ++ b ∷ []) ((xs ++ 10 ∷ []) ++ z)) h.0
    ∙ whole_fed_from (begun ++ b ∷ []) xs z h.1
    ∙ ap (λ l. without_return l ∷ whole_lines z) (append_assoc begun (b ∷ []) xs)

-- a line with its line feed, and what comes after it
pub lines_fed : (line z : List ℕ) → IsFed line → lines_of (line ++ z) ≡ lines_of line ++ lines_of z
lines_fed line z (begun, is, h) =
    let alone : lines_of line ≡ without_return begun ∷ [] =
    ap lines_of (is ∙ sym (append-nil (begun ++ 10 ∷ []))) ∙ lines_fed_from [] begun [] h in
    ap (λ l. lines_of (l ++ z)) is ∙ lines_fed_from [] begun z h ∙ sym (ap (λ ls. ls ++ lines_of z) alone)

pub whole_fed : (line z : List ℕ) → IsFed line → whole_lines (line ++ z) ≡ lines_of line ++ whole_lines z
whole_fed line z (begun, is, h) =
    let alone : lines_of line ≡ without_return begun ∷ [] =
    ap lines_of (is ∙ sym (append-nil (begun ++ 10 ∷ []))) ∙ lines_fed_from [] begun [] h in
    ap (λ l. whole_lines (l ++ z)) is ∙ whole_fed_from [] begun z h ∙ sym (ap (λ ls. ls ++ whole_lines z) alone)

-- such a line is one line
pub one_fed : (line first : List ℕ) (others : List (List ℕ)) → IsFed line → lines_of line ≡ first ∷ others → others ≡ []
one_fed line first others (begun, is, h) e =
    let alone : lines_of line ≡ without_return begun ∷ [] =
    ap lines_of (is ∙ sym (append-nil (begun ++ 10 ∷ []))) ∙ lines_fed_from [] begun [] h in
    let same : first ∷ others ≡ without_return begun ∷ [] = sym e ∙ alone in cc

last_alone : (xs first : List ℕ) (others : List (List ℕ)) → last_line xs ≡ first ∷ others → others ≡ []
last_alone [] first others e = let bad : [] ≡ first ∷ others = e in cc
last_alone (b ∷ xs) first others e = let same : without_return (b ∷ xs) ∷ [] ≡ first ∷ others = e in cc

-- and so is a line without it
pub one_unfed : (line first : List ℕ) (others : List (List ℕ)) → HasNoFeed line → lines_of line ≡ first ∷ others →
    others ≡ []
one_unfed line first others h e = last_alone line first others (sym (lines_unfed [] line h) ∙ e)

pub fed_not_empty : (line : List ℕ) → IsFed line → lines_of line ≡ [] → ⊥
fed_not_empty line (begun, is, h) e =
    let alone : lines_of line ≡ without_return begun ∷ [] =
    ap lines_of (is ∙ sym (append-nil (begun ++ 10 ∷ []))) ∙ lines_fed_from [] begun [] h in
    let bad : without_return begun ∷ [] ≡ [] = sym alone ∙ e in cc
