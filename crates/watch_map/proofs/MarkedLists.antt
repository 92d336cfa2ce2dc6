-- Marks of a list to which clauses were added.
use Rattle.std.proofs.Common.{◌≡◌, ℕ, true, List, [], ◌∷◌, ◌++◌, length, refl, sym, ap, ◌∙◌, subst, append_assoc}
use Rattle.std.proofs.Common.{append-nil, arith}
use Rattle.watch_map.proofs.Words.{AreMarks, Entry, is_literal_in, Lit, Mark, none_false_at, none_watched_false}
use Rattle.watch_map.proofs.ListCallerLaws.{watched_at, past, pushed_watches}
use Rattle.watch_map.proofs.MarkLaws.{marks_grown, marks_watching}

module _ (literals : ℕ → List Lit) (es : List Entry) where
  watching_more : (ws more : List (List Lit)) (marks : List Mark) → AreMarks literals (watched_at ws) es marks
      → AreMarks literals (watched_at (ws ++ more)) es (none_watched_false es marks more)
  watching_more ws [] marks are = subst (λ vs. AreMarks literals (watched_at vs) es marks) (sym (append-nil ws)) are
  watching_more ws (w ∷ more) marks are =
      subst (λ vs. AreMarks literals (watched_at vs) es (none_watched_false es marks (w ∷ more)))
      (append_assoc ws (w ∷ []) more)
      (watching_more (ws ++ w ∷ []) more (none_false_at es marks w)
      (marks_watching literals (watched_at ws) es marks are (watched_at (ws ++ w ∷ [])) (length ws) w
      (pushed_watches ws w)
      (λ none. past ws (length ws) (omega arith))))

-- those that are left are marks where clauses were added, no watch of which can be false under one; clauses that were
-- there have the literals that they had
pub marks_added : (literals literals' : ℕ → List Lit) (es : List Entry) (ws more : List (List Lit)) (marks : List Mark)
    → ((c : ℕ) (l : Lit) → is_literal_in l (literals c) ≡ true → is_literal_in l (literals' c) ≡ true)
    → AreMarks literals (watched_at ws) es marks →
    AreMarks literals' (watched_at (ws ++ more)) es (none_watched_false es marks more)
marks_added literals literals' es ws more marks grown are =
    marks_grown literals (watched_at (ws ++ more)) es (none_watched_false es marks more)
    (watching_more literals es ws more marks are) literals' grown

-- where there are no marks none is forgotten
none_of_literals : (es : List Entry) (ls : List Lit) → none_false_at es [] ls ≡ []
none_of_literals es [] = refl
none_of_literals es (l ∷ ls) = none_of_literals es ls

pub none_of_clauses : (es : List Entry) (ws : List (List Lit)) → none_watched_false es [] ws ≡ []
none_of_clauses es [] = refl
none_of_clauses es (w ∷ ws) = ap (λ marks. none_watched_false es marks ws) (none_of_literals es w)
    ∙ none_of_clauses es ws
