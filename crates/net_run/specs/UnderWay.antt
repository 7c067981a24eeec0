-- Cited by the private clauses of `standing` and `following`: what becomes of the copies under way.
use Rattle.std.specs.Prelude.{ℕ, ◌+◌, List, [], ◌∷◌, ◌++◌, Some}
use Rattle.p4_ir.specs.NetOf.{end_of}
use Rattle.p4_ir.specs.NetTree.{NetData}
use Rattle.net_run.specs.Ends.{behind, End, ends_from, onward}
use Rattle.net_run.specs.RunCounts.{runs_from, runs_onward}
use Rattle.net_run.specs.declared.standing.Standing.{Standing}

-- the ends of one copy
abbrev pub copy_ends : NetData → Standing → List End
copy_ends net c = behind c.choices.items (onward (ends_from net c.visits) (Some (end_of c.at)) c.bytes.items)

-- how many runs it makes
abbrev pub copy_runs : NetData → Standing → ℕ
copy_runs net c = runs_onward (runs_from net c.visits) (Some (end_of c.at)) c.bytes.items

-- the ends of all on a stack, those of the last first
abbrev pub stack_ends : NetData → List Standing → List End
stack_ends net [] = []
stack_ends net (c ∷ cs) = stack_ends net cs ++ copy_ends net c

abbrev pub stack_runs : NetData → List Standing → ℕ
stack_runs net [] = 0
stack_runs net (c ∷ cs) = copy_runs net c + stack_runs net cs
