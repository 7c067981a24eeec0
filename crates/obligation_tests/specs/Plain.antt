-- Cited by clauses of this program: what tables and environments have for a node of a term.
use Rattle.std.specs.Prelude.{◌≡◌, ℕ, List, length, map, Option, Some, None, slice_get}
use Rattle.cocoon_num.specs.declared.bits.Bits.{Bits}
use Rattle.cocoon_num.specs.declared.fun_table.FunRow.{FunRow}
use Rattle.cocoon_num.specs.declared.fun_table.FunTable.{FunTable}
use Rattle.bv_terms.specs.declared.eval.Env.{Env}
use Rattle.bv_terms.specs.declared.node.Node.{Node}
use Rattle.bv_terms.specs.declared.node.Node.TheVariants.{Input, Apply}
use Rattle.bv_terms.specs.Environments.{RowFits}
use Rattle.bv_terms.specs.Fitting.{CanStand, MasksFit}
use Rattle.bv_terms.specs.WithRows.{table_of}

-- there is a number of this index, and it has the width
abbrev pub HasNumber : List Bits → ℕ → ℕ → Type 0
HasNumber numbers i w = (b : Bits) × (slice_get numbers i ≡ Some b) × (b.width ≡ w)

-- the row is for arguments of these widths, with a result of the width
abbrev pub RowStands : List ℕ → ℕ → FunRow → Type 0
RowStands widths w row = RowFits (length widths) w row × MasksFit widths row

-- there is a table, and it is one for these widths
abbrev pub HasFitting : Option FunTable → List ℕ → ℕ → Type 0
HasFitting (Some t) widths w = CanStand (Some t) widths w
HasFitting None widths w = ⊥

-- the environment has the input or the function of a node
abbrev pub CoversNode : Env → (ℕ → ℕ) → Node → Type 0
CoversNode env width (Input i w) = HasNumber env.inputs i w
CoversNode env width (Apply f args w) = HasFitting (table_of env.tables f) (map width args) w
CoversNode env width node = Unit {0}
