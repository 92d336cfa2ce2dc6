-- The trail of decisions: its entries, the values that they give, and what each call makes of it.
use Rattle.std.specs.Prelude.{◌≡◌, ℕ, ◌+◌, ◌<◌, ◌≤◌, ◌-◌, ◌^◌, min, ◌==◌, nat_lt, if◌then◌else◌, Bool, true, false, ⊤}
use Rattle.std.specs.Prelude.{List, [], ◌∷◌, ◌++◌, length, take, slice_get, All}
use Rattle.std.specs.Prelude.{Option, Some, None, is_some, Result, Ok, Err}
use Rattle.std.specs.Bool.{beq}
use Rattle.std.specs.List.{list_all}
use Rattle.std.specs.Option.{option_map_or}
use Rattle.typed_ids.specs.declared.error.StoreError.TheVariants.{OutOfMemory}
use Rattle.decisions.specs.Literals.{Values}
use Rattle.decisions.specs.declared.decision.Decision.{Decision}
use Rattle.decisions.specs.declared.decision_tracker.AddFault.{AddFault}
use Rattle.decisions.specs.declared.decision_tracker.AddFault.TheVariants.{Clash, Store}

-- an entry of the trail: a variable, its value, the clause that gave it, and a level
pub record Entry : Type 0 where
  pub decision : Decision
  pub level : ℕ

-- the entries, the oldest first; the place: how many of them the search has propagated; and the floor: how few of them
-- there were at the least since the floor was last taken
pub record Trail : Type 0 where
  pub entries : List Entry
  pub place : ℕ
  pub floor : ℕ

-- the value of each variable: that of its entry, undecided if there is none
abbrev pub val : List Entry → Values
val [] x = None
val (e ∷ es) x = if e.decision.variable == x then Some e.decision.value else val es x

-- the level of each variable: that of its entry, 0 if there is none
abbrev pub level_of : List Entry → ℕ → ℕ
level_of [] x = 0
level_of (e ∷ es) x = if e.decision.variable == x then e.level else level_of es x

-- the clause that gave each variable its value: that of its entry, none if there is none
abbrev pub clause_of : List Entry → ℕ → Option ℕ
clause_of [] x = None
clause_of (e ∷ es) x = if e.decision.variable == x then Some e.decision.derived_from else clause_of es x

-- the newest entry
abbrev pub newest : List Entry → Option Entry
newest es = slice_get es (length es - 1)

-- the level of the newest entry, 0 if there is none
abbrev pub top_level : List Entry → ℕ
top_level es = option_map_or (λ e. e.level) (newest es) 0

-- each variable has one entry at most
abbrev pub IsOnce : List Entry → Type 0
IsOnce [] = ⊤
IsOnce (e ∷ es) = (val es e.decision.variable ≡ None) × IsOnce es

-- the entry's level is in range
abbrev pub HasLevel : Entry → Type 0
HasLevel e = (1 ≤ e.level) × (e.level < 2 ^ 31)

-- each variable at most once, and levels in range
pub record IsTrail (es : List Entry) : Type 0 where
  pub once : IsOnce es
  pub levels : All HasLevel es

-- the place and the floor are within the entries
pub record IsWithin (t : Trail) : Type 0 where
  pub place : t.place ≤ length t.entries
  pub floor : t.floor ≤ length t.entries

-- no entry, and so none propagated
abbrev pub empty_trail : Trail
empty_trail = record { entries = []; place = 0; floor = 0 }

-- an entry is added
abbrev pub pushed : Trail → Entry → Trail
pushed t e = record { entries = t.entries ++ e ∷ []; place = t.place; floor = t.floor }

-- no more entries are left than these: the place and the floor don't stay above their number
abbrev pub cut_to : Trail → List Entry → Trail
cut_to t kept = record { entries = kept; place = min t.place (length kept); floor = min t.floor (length kept) }

-- the newest entry is taken back
abbrev pub undo_last : Trail → Trail
undo_last t = cut_to t (take (length t.entries - 1) t.entries)

-- the entries without the longest tail whose levels are all above l
abbrev pub entries_until : ℕ → List Entry → List Entry
entries_until l [] = []
entries_until l (e ∷ es) = if list_all (λ x. nat_lt l x.level) (e ∷ es) then [] else e ∷ entries_until l es

-- the newest entries are taken back while their levels are above l
abbrev pub undo_until : ℕ → Trail → Trail
undo_until l t = cut_to t (entries_until l t.entries)

-- the entry that is propagated next
abbrev pub next_entry : Trail → Option Entry
next_entry t = slice_get t.entries t.place

-- the next entry, if there is one, is propagated
abbrev pub propagated : Trail → Trail
propagated t =
    record { entries = t.entries; place = if is_some (next_entry t) then t.place + 1 else t.place; floor = t.floor }

-- the floor is taken
abbrev pub floor_taken : Trail → Trail
floor_taken t = record { entries = t.entries; place = t.place; floor = length t.entries }

-- what adding an entry answers and leaves, by what is known of its variable
abbrev pub AddsEntry : Option Bool → Trail → Entry → Result Bool AddFault → Trail → Type 0
AddsEntry (Some known) old e answer new =
    (answer ≡ (if beq known e.decision.value then Ok false else Err Clash)) × (new ≡ old)
AddsEntry None old e (Ok added) new = (added ≡ true) × (new ≡ pushed old e)
AddsEntry None old e (Err fault) new = (fault ≡ Store OutOfMemory) × (new ≡ old)
