-- Cited by the clauses of statements and blocks: what was lowered so far, with the variables in scope and the forks.
use Rattle.std.specs.Prelude.{ℕ, suc, Bool, true, false, List, [], ◌∷◌, ◌++◌, map}
use Rattle.cocoon_num.specs.Tree.{Design}
use Rattle.cocoon_syntax.specs.TreeOf.{block_of, stmt_of}
use Rattle.p4_ir.specs.P4Tree as tree
use Rattle.p4_ir.specs.P4Tree.{p_port, set_meta}
use Rattle.p4_ir.specs.declared.program.P4Stmt.{P4Stmt}
use Rattle.lowering.specs.Lower.{Lowered, LoweredAll, Variable, a_field, var_name}
use Rattle.lowering.specs.LowerBlock.{LoweredBlock, ports_kept, second_of, send_code}
use Rattle.lowering.specs.LowerBlock as block
use Rattle.lowering.specs.LowerSites.{LoweredSites}
use Rattle.lower_code.specs.Growth.{SoFar, grown, so_far}
use Rattle.lower_code.specs.Variables.{variables_of}
use Rattle.lower_code.specs.declared.blocks.Frame.{Frame}
use Rattle.lower_code.specs.declared.blocks.Site.{Site}
use Rattle.lower_code.specs.declared.made.Lowering.{Lowering}

-- the fork
abbrev pub site_of : Site → block.Site
site_of s = record {
  number = s.number;
  vars = variables_of s.variables.items;
  x = s.name.now;
  width = s.width;
  body = block_of (map stmt_of s.body.now);
}

pub record BlockSoFar : Type 0 where
  pub lowered : SoFar
  pub vars : List Variable
  pub sites : List block.Site

abbrev pub block_so_far : Design → Lowering → List P4Stmt → Frame → BlockSoFar
block_so_far d l code f = record { lowered = so_far d l code; vars = variables_of f.variables.items; sites = map site_of f.sites.items }

-- then a block
abbrev pub with_block : BlockSoFar → LoweredBlock → BlockSoFar
with_block s b = record { lowered = grown s.lowered b.code b.made b.next; vars = b.vars; sites = s.sites ++ b.sites }

-- then a block whose variables end with it
abbrev pub in_branch : BlockSoFar → LoweredBlock → BlockSoFar
in_branch s b = record { lowered = grown s.lowered b.code b.made b.next; vars = s.vars; sites = s.sites ++ b.sites }

-- then an expression, and code with its value
abbrev pub with_effect : SoFar → (tree.P4Expr → List tree.P4Stmt) → Lowered → SoFar
with_effect s f r = grown s (r.code ++ f r.expr) r.made r.next

-- then expressions, and that the packet leaves
abbrev pub with_send : SoFar → LoweredAll → SoFar
with_send s r = grown s (r.code ++ send_code r.exprs) r.made r.next

-- then, where it is used, the port in a field of its own
abbrev pub port_kept : Bool → SoFar → SoFar
port_kept false s = s
port_kept true s = grown s (set_meta s.next.field p_port ∷ []) (a_field (var_name s.next.var) s.next.field 16 ∷ [])
    (record { app = s.next.app; var = suc s.next.var; field = suc s.next.field; site = s.next.site })

-- what variables are read as after that
abbrev pub port_vars : Bool → ℕ → List Variable → List Variable
port_vars false j vars = vars
port_vars true j vars = ports_kept j vars

-- then the blocks of forks
abbrev pub with_sites : SoFar → LoweredSites → SoFar
with_sites s r = grown s r.code r.made r.next
