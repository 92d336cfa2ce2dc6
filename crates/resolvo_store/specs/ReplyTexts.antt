-- The texts of replies, as their bytes.
use Rattle.std.specs.Prelude.{ℕ, Bool, List, [], ◌∷◌, ◌++◌, flat_map, Option, None, Some, if◌then◌else◌, codes, decimal}
use Rattle.typed_ids.specs.Refusals.{code_of}
use Rattle.decisions.specs.declared.decision.Decision.{Decision}
use Rattle.resolvo_queue.specs.declared.queue_decision.QueueDecision.{QueueDecision}
use Rattle.resolvo_store.specs.Command.{Reply, VariableIs, LoadedAs, DisjunctionIs, ClauseIs}
use Rattle.resolvo_store.specs.Command.{TrackedAs, Assigned, Already, Clash, Undone, Next, Done}
use Rattle.resolvo_store.specs.Command.{WatchersAre, Decided, NoDecision, Falsified, Conflict, Refused}

-- a name, and a number directly after it
abbrev pub field : List ℕ → ℕ → List ℕ
field name n = name ++ decimal n

-- each member after a comma
abbrev pub others_text : List ℕ → List ℕ
others_text vs = flat_map (field (codes ",")) vs

-- the members of a list, joined by commas, or - for none
abbrev pub list_text : List ℕ → List ℕ
list_text [] = codes "-"
list_text (v ∷ vs) = decimal v ++ others_text vs

-- each list after a blank
abbrev pub lists_text : List (List ℕ) → List ℕ
lists_text ls = flat_map (λ l. codes " " ++ list_text l) ls

abbrev pub conflict_text : Bool → List ℕ
conflict_text conflict = if conflict then codes " conflict" else []

-- a clause, and whether it is a conflict
abbrev pub clause_text : ℕ → Bool → List ℕ
clause_text clause conflict = field (codes "clause ") clause ++ conflict_text conflict

-- the lists of a requirement
abbrev pub load_text : List (List ℕ) → List ℕ
load_text lists = codes "loaded" ++ lists_text lists

-- whether a variable is new, and a number
abbrev pub tracked_text : Bool → ℕ → List ℕ
tracked_text new n = if new then field (codes "tracked yes ") n else field (codes "tracked no ") n

abbrev pub truth_text : Bool → List ℕ
truth_text value = if value then codes " true" else codes " false"

-- a variable, its value, and the clause that gave it, each after a blank
abbrev pub assignment_text : Decision → List ℕ
assignment_text d = field (codes " ") d.variable ++ (truth_text d.value ++ field (codes " ") d.derived_from)

abbrev pub undone_text : Option (Decision × ℕ) → List ℕ
undone_text None = codes "undone"
undone_text (Some (d, level)) = codes "undone" ++ (assignment_text d ++ field (codes " ") level)

abbrev pub next_text : Option Decision → List ℕ
next_text None = codes "next none"
next_text (Some d) = codes "next" ++ assignment_text d

-- numbers, each after a blank, or - for none
abbrev pub words_text : List ℕ → List ℕ
words_text [] = codes " -"
words_text (n ∷ ns) = flat_map (field (codes " ")) (n ∷ ns)

-- the clauses that watch a literal
abbrev pub watchers_text : List ℕ → List ℕ
watchers_text clauses = codes "watchers" ++ words_text clauses

abbrev pub decision_text : QueueDecision → List ℕ
decision_text d =
    field (codes "decided ") d.candidate ++
    (field (codes " by ") d.required_by ++ (field (codes " clause ") d.clause_id ++
    (field (codes " score ") d.package_activity ++ field (codes " count ") d.candidate_count)))

-- the words of a reply
abbrev pub reply_words : Reply → List ℕ
reply_words (VariableIs v) = field (codes "variable ") v
reply_words (LoadedAs lists) = load_text lists
reply_words (DisjunctionIs d) = field (codes "disjunction ") d
reply_words (ClauseIs c conflict) = clause_text c conflict
reply_words (TrackedAs new n) = tracked_text new n
reply_words Assigned = codes "assigned"
reply_words Already = codes "already"
reply_words Clash = codes "clash"
reply_words (Undone last) = undone_text last
reply_words (Next decision) = next_text decision
reply_words Done = codes "done"
reply_words (WatchersAre clauses) = watchers_text clauses
reply_words (Decided d) = decision_text d
reply_words NoDecision = codes "no decision"
reply_words (Falsified c) = field (codes "falsified ") c
reply_words (Conflict c) = field (codes "conflict ") c
reply_words (Refused e) = field (codes "refused ") (code_of e)
