-- How a clause is stored: the record's kind says what it requires, and whether there is a disjunction.
use Rattle.std.specs.Prelude.{◌≡◌, refl, Some, None}
use Rattle.providers.specs.declared.requirement.Requirement.TheVariants.{Single, Union}
use Rattle.clauses.specs.declared.clause.Clause.{Clause}
use Rattle.clauses.specs.declared.clause.Clause.TheVariants as Is
use Rattle.watch_map.specs.declared.stored_clause.ClauseRecord.{ClauseRecord}
use Rattle.watch_map.specs.declared.stored_clause.ClauseRecord.TheVariants as Rec

-- the clause of a record
abbrev pub recorded_clause : {N : Type 0} → ClauseRecord N → Clause N
recorded_clause Rec.InstallRoot = Is.InstallRoot
recorded_clause (Rec.RequiresSet parent set) = Is.Requires parent None (Single set)
recorded_clause (Rec.RequiresSetOr parent disjunction set) = Is.Requires parent (Some disjunction) (Single set)
recorded_clause (Rec.RequiresUnion parent union) = Is.Requires parent None (Union union)
recorded_clause (Rec.RequiresUnionOr parent disjunction union) = Is.Requires parent (Some disjunction) (Union union)
recorded_clause (Rec.ForbidMultipleInstances candidate literal name) = Is.ForbidMultipleInstances candidate literal name
recorded_clause (Rec.Constrains parent forbidden set) = Is.Constrains parent forbidden set
recorded_clause (Rec.ConstrainsExcluded candidate aux set) = Is.ConstrainsExcluded candidate aux set
recorded_clause (Rec.ConstrainsParent parent aux set) = Is.ConstrainsParent parent aux set
recorded_clause (Rec.Lock locked other) = Is.Lock locked other
recorded_clause (Rec.Learnt id) = Is.Learnt id
recorded_clause (Rec.Excluded candidate reason) = Is.Excluded candidate reason
recorded_clause (Rec.AnyOf selected other) = Is.AnyOf selected other

-- the record of a clause
abbrev pub record_for : {N : Type 0} → Clause N → ClauseRecord N
record_for Is.InstallRoot = Rec.InstallRoot
record_for (Is.Requires parent None (Single set)) = Rec.RequiresSet parent set
record_for (Is.Requires parent (Some disjunction) (Single set)) = Rec.RequiresSetOr parent disjunction set
record_for (Is.Requires parent None (Union union)) = Rec.RequiresUnion parent union
record_for (Is.Requires parent (Some disjunction) (Union union)) = Rec.RequiresUnionOr parent disjunction union
record_for (Is.ForbidMultipleInstances candidate literal name) = Rec.ForbidMultipleInstances candidate literal name
record_for (Is.Constrains parent forbidden set) = Rec.Constrains parent forbidden set
record_for (Is.ConstrainsExcluded candidate aux set) = Rec.ConstrainsExcluded candidate aux set
record_for (Is.ConstrainsParent parent aux set) = Rec.ConstrainsParent parent aux set
record_for (Is.Lock locked other) = Rec.Lock locked other
record_for (Is.Learnt id) = Rec.Learnt id
record_for (Is.Excluded candidate reason) = Rec.Excluded candidate reason
record_for (Is.AnyOf selected other) = Rec.AnyOf selected other

-- a record comes back
pub record_comes_back : {N : Type 0} (r : ClauseRecord N) → record_for (recorded_clause r) ≡ r
record_comes_back Rec.InstallRoot = refl
record_comes_back (Rec.RequiresSet parent set) = refl
record_comes_back (Rec.RequiresSetOr parent disjunction set) = refl
record_comes_back (Rec.RequiresUnion parent union) = refl
record_comes_back (Rec.RequiresUnionOr parent disjunction union) = refl
record_comes_back (Rec.ForbidMultipleInstances candidate literal name) = refl
record_comes_back (Rec.Constrains parent forbidden set) = refl
record_comes_back (Rec.ConstrainsExcluded candidate aux set) = refl
record_comes_back (Rec.ConstrainsParent parent aux set) = refl
record_comes_back (Rec.Lock locked other) = refl
record_comes_back (Rec.Learnt id) = refl
record_comes_back (Rec.Excluded candidate reason) = refl
record_comes_back (Rec.AnyOf selected other) = refl
