-- Cited by the clauses of running: what statements make of what registers hold.
use Rattle.std.specs.Prelude.{ℕ, ◌%◌, ◌^◌, nat_le, List, [], ◌∷◌, length, if◌then◌else◌, slice_get, slice_set, Some, None}
use Rattle.row_search.specs.GroupsLaid.{looked_up}
use Rattle.row_search.specs.Keyed.{keyed}
use Rattle.p4_run.specs.Held.{Held}
use Rattle.p4_run.specs.Meaning.{number_by, truth_by}
use Rattle.p4_run.specs.declared.running.Way.{Way}
use Rattle.p4_run.specs.declared.running.Way.TheVariants.{Proceeds, Returned}
use Rattle.p4_run.specs.declared.stmt_codes.Application.{Application}
use Rattle.p4_run.specs.declared.stmt_codes.StmtCode.{StmtCode, fold-StmtCode}
use Rattle.p4_run.specs.declared.stmt_codes.StmtCode.TheOpen.{StmtCode-F}

-- a run goes on, or has ended, with what is held then
pub data Ran : Type 0 where
  goes_on ended : Held → Ran

abbrev pub ran : Way → Held → Ran
ran Proceeds h = goes_on h
ran Returned h = ended h

-- what is held then
abbrev pub left : Ran → Held
left (goes_on h) = h
left (ended h) = h

-- the rest is run unless the statement returned
abbrev pub then_on : Ran → (Held → Ran) → Ran
then_on (goes_on h) rest = rest h
then_on (ended h) rest = ended h

-- the meta fields after a table was applied
abbrev pub applied_to : Application → List ℕ → List ℕ
applied_to a meta = if nat_le a.meta_count (length meta) then slice_set meta a.result (looked_up a.rows (keyed meta a.keys.items)) else meta

-- the same after the table at an index, where there is one
abbrev pub applied_at : List Application → ℕ → List ℕ → List ℕ
applied_at tables i meta = elim (slice_get tables i) [ None ↦ meta | Some a ↦ applied_to a meta ]

-- what a statement makes of what is held, with some tables
abbrev pub Effect : Type 0
Effect = List Application → Held → Ran

-- statements one after another
abbrev pub stmts_by : List Effect → Effect
stmts_by [] tables h = goes_on h
stmts_by (f ∷ fs) tables h = then_on (f tables h) (stmts_by fs tables)

-- one level, with each statement inside already seen
abbrev pub effect_step : StmtCode-F Effect → Effect
effect_step (StmtCode-F.SetMeta i n) = λ tables h. goes_on (record h { meta = slice_set h.meta i (number_by n h % 2 ^ 64) })
effect_step (StmtCode-F.SetField i n) = λ tables h. goes_on (record h { fields = slice_set h.fields i (number_by n h % 2 ^ 64) })
effect_step (StmtCode-F.Apply i) = λ tables h. goes_on (record h { meta = applied_at tables i h.meta })
effect_step (StmtCode-F.If t first) = λ tables h. if truth_by t h then stmts_by first.items tables h else goes_on h
effect_step (StmtCode-F.IfElse t first second) = λ tables h. if truth_by t h then stmts_by first.items tables h else stmts_by second.items tables h
effect_step (StmtCode-F.Verdict n) = λ tables h. goes_on (record h { verdict = n })
effect_step (StmtCode-F.EgressPort n) = λ tables h. goes_on (record h { egress_port = number_by n h % 2 ^ 16 })
effect_step (StmtCode-F.Group n) = λ tables h. goes_on (record h { group = number_by n h % 2 ^ 16 })
effect_step StmtCode-F.Return = λ tables h. ended h

abbrev pub stmt_by : StmtCode → Effect
stmt_by = fold-StmtCode Effect effect_step
