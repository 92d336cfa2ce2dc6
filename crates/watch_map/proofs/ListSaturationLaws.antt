-- What a saturation leaves of a list of clauses, from what it leaves of its records.
use Rattle.std.proofs.Common.{◌≡◌, ℕ, true, List, map, length, sym, ap, subst, ◌∙◌}
use Rattle.watch_map.proofs.Words.{AreMarks, Entry, is_literal_in, IsRearranged, Lit, Mark, watched_by, Watches}
use Rattle.watch_map.proofs.Words.{WatchOwn}
use Rattle.watch_map.specs.WatchLists.{literals_in}
use Rattle.watch_map.proofs.MarkLaws.{marks_alike}
use Rattle.watch_map.proofs.ListCallerLaws.{watched_at}
use Rattle.watch_map.proofs.ListLaws.{literals_at}

pub own_here : (literals : ℕ → List Lit) (ws : Watches) → WatchOwn literals (watched_at (map literals_in ws))
    → WatchOwn literals (watched_by ws)
own_here literals ws own c l h = own c l (subst (λ ls. is_literal_in l ls ≡ true) (sym (literals_at ws c)) h)

pub rearranged_here : (literals : ℕ → List Lit) (ws ws' : Watches)
    → IsRearranged literals (watched_by ws) (watched_by ws')
    → IsRearranged literals (watched_at (map literals_in ws)) (watched_at (map literals_in ws'))
rearranged_here literals ws ws' is = record {
  own = λ c l h. is.own c l (subst (λ ls. is_literal_in l ls ≡ true) (literals_at ws' c) h);
  as_many = λ c. ap length (literals_at ws' c) ∙ is.as_many c ∙ sym (ap length (literals_at ws c));
}

pub marks_here : (literals : ℕ → List Lit) (ws : Watches) (es : List Entry) (marks : List Mark)
    → AreMarks literals (watched_at (map literals_in ws)) es marks → AreMarks literals (watched_by ws) es marks
marks_here literals ws es marks are =
    marks_alike literals (watched_at (map literals_in ws)) es marks are (watched_by ws) (λ c. sym (literals_at ws c))

pub marks_there : (literals : ℕ → List Lit) (ws : Watches) (es : List Entry) (marks : List Mark)
    → AreMarks literals (watched_by ws) es marks → AreMarks literals (watched_at (map literals_in ws)) es marks
marks_there literals ws es marks are =
    marks_alike literals (watched_by ws) es marks are (watched_at (map literals_in ws)) (literals_at ws)
