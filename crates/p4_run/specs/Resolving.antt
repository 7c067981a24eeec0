-- Cited by the clauses of resolving: what an expression is resolved to has its type, and gives its value in all registers
-- that fit the program.
use Rattle.std.specs.Prelude.{◌≡◌, ℕ, ◌<◌, ◌^◌, Bool, true, List, Some}
use Rattle.cocoon_num.specs.Values.{number, truth}
use Rattle.p4_ir.specs.P4Kinds.{p4_sort, widths_fit}
use Rattle.p4_ir.specs.P4Tree.{P4Expr, Program, program_layout, TableRows}
use Rattle.p4_ir.specs.Program.{program_of}
use Rattle.p4_ir.specs.Switch.{p4_value}
use Rattle.p4_run.specs.Held.{Held}
use Rattle.p4_run.specs.Meaning.{Numbers, Truths}
use Rattle.p4_run.specs.Operating.{Gives, sort_of}
use Rattle.p4_run.specs.Places.{starts_from}
use Rattle.p4_run.specs.Controls.{running_in, within_in}
use Rattle.p4_run.specs.RegisterStates.{state_at, Suits}
use Rattle.p4_run.specs.declared.resolved.Resolved.{Resolved}
use Rattle.p4_run.specs.declared.expr_resolving.Names.{Names}

-- the program that names are resolved in, which declares widths that may be declared
abbrev pub program_at : Names → Program
program_at names = program_of names.program.now

pub record AreNames (names : Names) : Type 0 where
  pub widths : widths_fit (program_at names) ≡ true
  pub starts : names.starts.now ≡ starts_from 0 (program_layout (program_at names))

pub record Means (p : Program) (in_ingress : Bool) (e : P4Expr) (made : Resolved) : Type 0 where
  pub sort : p4_sort (within_in p in_ingress) e ≡ Some (sort_of made)
  pub value : (rows : List TableRows) (r : Held) → Suits p in_ingress r
      → Gives r made (p4_value (running_in p rows in_ingress r.own) (state_at (program_layout p) r) e)

-- the numbers are those that the expression gives, of a width
pub record GivesNumbers (p : Program) (in_ingress : Bool) (e : P4Expr) (w : ℕ) (n : Numbers) : Type 0 where
  pub value : (rows : List TableRows) (r : Held) → Suits p in_ingress r
      → p4_value (running_in p rows in_ingress r.own) (state_at (program_layout p) r) e ≡ Some (number w (n r))
  pub fits : (r : Held) → Suits p in_ingress r → n r < 2 ^ w

-- the truth values are those that the expression gives
abbrev pub GivesTruths : Program → Bool → P4Expr → Truths → Type 0
GivesTruths p in_ingress e t =
    (rows : List TableRows) (r : Held) → Suits p in_ingress r
    → p4_value (running_in p rows in_ingress r.own) (state_at (program_layout p) r) e ≡ Some (truth (t r))
