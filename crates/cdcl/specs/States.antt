-- Cited by the clauses of `Search`: what keeps a search right, and what its parts give.
use Rattle.std.specs.Prelude.{◌≡◌, ◌≢◌, ℕ, ◌+◌, ◌<◌, ◌≤◌, ◌||◌, ℤ, IsTrue, IsFalse, List, [], ◌++◌, length, slice_get, slice_index, take, Option, Some, None}
use Rattle.cnf_core.specs.Deriving.{EachDerived, forces, has_no_value, is_conflict, is_false, known}
use Rattle.cnf_core.specs.Licensing.{BringsNew}
use Rattle.cocoon_num.specs.Lists.{each}
use Rattle.cnf_core.specs.Literals.{Names, has_literal, same}
use Rattle.cnf_core.specs.Trails.{literal_at}
use Rattle.cnf_core.specs.TrailViews.{not_true, room, trues}
use Rattle.cnf_core.specs.declared.clauses.Cnf.{Cnf}
use Rattle.cnf_core.specs.declared.lit.Lit.{Lit}
use Rattle.cdcl.specs.Searching.{IsClosed, IsConflictAt, IsReasoned, IsTotal}
use Rattle.cdcl.specs.Watching.{AreWatched, IsLookedAt, IsWatched, IsWatching, list_of}
use Rattle.cdcl.specs.declared.propagation.Visit.{Visit}
use Rattle.cdcl.specs.declared.propagation.Visit.TheVariants.{Conflict, Forces, Kept, Moved}
use Rattle.cdcl.specs.declared.search.Search.{Search}
use Rattle.cdcl.specs.declared.watches.Pair.{Pair}

-- the clauses that are given, then those that were learned
abbrev pub clauses_of : Cnf → Search → List (List ℤ)
clauses_of cnf s = known cnf s.steps.items

pub record IsSound (cnf : Cnf) (s : Search) : Type 0 where
  pub same_room : room s.trail ≡ cnf.vars
  pub derived : EachDerived cnf s.steps.items
  pub new : (k : ℕ) → k < length s.steps.items → BringsNew cnf s.steps.items k
  pub reasoned : IsReasoned (clauses_of cnf s) (trues s.trail) s.reasons.items s.starts.items

-- the clauses that have watched literals keep the watch invariant
abbrev pub HasWatches : Cnf → Search → Type 0
HasWatches cnf s = IsWatched cnf.vars (clauses_of cnf s) (trues s.trail) s.propagated s.starts.items s.watches

-- and all clauses have some
pub record IsReady (cnf : Cnf) (s : Search) : Type 0 where
  pub count : length s.watches.pairs.items ≡ length (clauses_of cnf s)
  pub watched : HasWatches cnf s

-- nothing was decided or learned
pub record IsUndecided (s : Search) : Type 0 where
  pub steps : s.steps.items ≡ []
  pub starts : s.starts.items ≡ []

-- before any decision, and before anything was propagated, this many clauses have watched literals
pub record IsBegun (cnf : Cnf) (s : Search) (number : ℕ) : Type 0 where
  pub count : length s.watches.pairs.items ≡ number
  pub watched : HasWatches cnf s
  pub steps : s.steps.items ≡ []
  pub starts : s.starts.items ≡ []
  pub propagated : s.propagated ≡ 0

-- the next clause can watch these
abbrev pub WatchesNext : Cnf → Search → Pair → Type 0
WatchesNext cnf s pair = (clause : List ℤ) × (slice_get (clauses_of cnf s) (length s.watches.pairs.items) ≡ Some clause)
    × IsWatching (trues s.trail) s.propagated s.starts.items clause pair

pub record IsSameButWatches (old new : Search) : Type 0 where
  pub steps : new.steps.items ≡ old.steps.items
  pub trues : trues new.trail ≡ trues old.trail
  pub starts : new.starts.items ≡ old.starts.items
  pub propagated : new.propagated ≡ old.propagated

abbrev pub SameSteps : (old new : Search) → Type 0
SameSteps old new = new.steps.items ≡ old.steps.items

-- what becomes of a clause that watches this literal besides one that is false
abbrev pub VisitsClause : (trues clause : List ℤ) (other : ℤ) → Visit → Type 0
VisitsClause trues clause other Kept = IsTrue (has_literal trues other)
VisitsClause trues clause other (Moved pair) = (pair.first.number ≡ other) × (pair.second.number ≢ other)
    × IsTrue (has_literal clause pair.second.number) × IsFalse (is_false trues pair.second.number) × IsFalse (has_literal trues other)
VisitsClause trues clause other (Forces lit) = (lit.number ≡ other) × IsTrue (forces trues clause other)
VisitsClause trues clause other Conflict = IsTrue (is_conflict trues clause)

-- the clause of this number has the literal
abbrev pub Inside : (clauses : List (List ℤ)) (number : ℕ) → ℤ → Type 0
Inside clauses number l = (clause : List ℤ) × (slice_get clauses number ≡ Some clause) × IsTrue (has_literal clause l)

-- the clause of this number watches a literal, and besides it another, of which this becomes
pub record IsVisit (cnf : Cnf) (s : Search) (number : ℕ) (off : ℤ) (visit : Visit) : Type 0 where
  pub pair : Pair
  pub other : ℤ
  pub clause : List ℤ
  pub at : slice_get s.watches.pairs.items number ≡ Some pair
  pub watched : AreWatched pair off other
  pub known : slice_get (clauses_of cnf s) number ≡ Some clause
  pub visits : VisitsClause (trues s.trail) clause other visit

-- what becomes of the clause of this number where this literal is false
abbrev pub VisitsNumber : Cnf → Search → (number : ℕ) (off : ℤ) → Visit → Type 0
VisitsNumber cnf s number off Kept = (pair : Pair) (b : ℤ) → slice_get s.watches.pairs.items number ≡ Some pair → AreWatched pair off b → IsTrue (has_literal (trues s.trail) b)
VisitsNumber cnf s number off (Moved pair) = IsVisit cnf s number off (Moved pair)
VisitsNumber cnf s number off (Forces lit) = IsVisit cnf s number off (Forces lit)
VisitsNumber cnf s number off Conflict = IsVisit cnf s number off Conflict

-- at this place is another literal than this one, which is not false; or there is none
abbrev pub ReplacesAt : (trues lits : List ℤ) (other : ℤ) → Option ℕ → Type 0
ReplacesAt trues lits other (Some place) = (place < length lits) × (literal_at lits place ≢ other) × IsFalse (is_false trues (literal_at lits place))
ReplacesAt trues lits other None = IsTrue (each (λ m. same other m || is_false trues m) lits)

-- more literals are true, after those of before
pub record IsLonger (old new : Search) : Type 0 where
  pub more : List ℤ
  pub trues : trues new.trail ≡ trues old.trail ++ more
  pub fewer : not_true new.trail + length more ≤ not_true old.trail

-- the next place of the list, once the clause at a place was visited
abbrev pub PropagatesClause : Cnf → (old new : Search) (off : ℤ) (at number : ℕ) → Option ℕ → Type 0
PropagatesClause cnf old new off at number (Some next) = IsLookedAt (trues new.trail) new.watches off next
    × (length (list_of new.watches off) + at + 1 ≤ length (list_of old.watches off) + next)
PropagatesClause cnf old new off at number None = IsConflictAt (clauses_of cnf new) (trues new.trail) number

-- the number of a conflict, or each clause that watches the literal was visited
abbrev pub PropagatesLiteral : Cnf → Search → (off : ℤ) → Option ℕ → Type 0
PropagatesLiteral cnf s off (Some number) = IsConflictAt (clauses_of cnf s) (trues s.trail) number
PropagatesLiteral cnf s off None = IsLookedAt (trues s.trail) s.watches off (length (list_of s.watches off))

-- the number of a conflict, or all was propagated, and nothing is forced any more
abbrev pub Settled : Cnf → Search → Option ℕ → Type 0
Settled cnf s (Some number) = IsConflictAt (clauses_of cnf s) (trues s.trail) number
Settled cnf s None = (s.propagated ≡ length (trues s.trail)) × IsClosed (clauses_of cnf s) (trues s.trail)

-- the number of a conflict before any decision, or each clause is watched
abbrev pub Begins : Cnf → Search → Option ℕ → Type 0
Begins cnf s (Some number) = IsConflictAt (clauses_of cnf s) (trues s.trail) number
Begins cnf s None = IsReady cnf s

-- the number of a conflict, or nothing is forced any more and each variable has a value
abbrev pub IsNextConflict : Cnf → Search → Option ℕ → Type 0
IsNextConflict cnf s (Some number) = IsConflictAt (clauses_of cnf s) (trues s.trail) number
IsNextConflict cnf s None = IsClosed (clauses_of cnf s) (trues s.trail) × IsTotal cnf.vars (trues s.trail)

-- the literal names a variable that has no value
abbrev pub CanDecide : (vars : ℕ) → (trues : List ℤ) → Lit → Type 0
CanDecide vars trues lit = Names vars lit.number × IsTrue (has_no_value trues lit.number)

-- a literal without a value, or each variable has one
abbrev pub Decides : (vars : ℕ) → (trues : List ℤ) → Option Lit → Type 0
Decides vars trues (Some lit) = CanDecide vars trues lit
Decides vars trues None = IsTotal vars trues

-- nothing but the trail is cut back, to the start of this level
pub record Backtracks (old new : Search) (level : ℕ) : Type 0 where
  pub steps : new.steps.items ≡ old.steps.items
  pub trues : trues new.trail ≡ take (slice_index old.starts.items level) (trues old.trail)
  pub starts : new.starts.items ≡ take level old.starts.items
