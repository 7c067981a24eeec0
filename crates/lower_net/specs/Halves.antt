-- Cited by private clauses of `program`: the code of each control, with what it needs.
use Rattle.std.specs.Prelude.{◌≡◌, ℕ, List, ◌∷◌, ◌++◌, [], codes, length, map}
use Rattle.cocoon_num.specs.Tree.{Design, HeaderDecl}
use Rattle.cocoon_types.specs.Design.{functions}
use Rattle.p4_ir.specs.P4Tree as tree
use Rattle.p4_ir.specs.P4Tree.{Program}
use Rattle.p4_ir.specs.Program.{block_of, stmt_of}
use Rattle.lowering.specs.Log.{tables_in}
use Rattle.lowering.specs.Lower.{Callees, Counts, Made}
use Rattle.lowering.specs.LowerBlock.{LoweredBlock, Site}
use Rattle.lowering.specs.LowerSites.{LoweredSites, lower_sites}
use Rattle.lowering.specs.Whole.{SwitchRole, role_lowered}
use Rattle.lowering.specs.SwitchProgram.{fields_in, p4_header}
use Rattle.lower_code.specs.Blocks.{site_of}
use Rattle.lower_code.specs.Growth.{counts_of, made_in}
use Rattle.lower_code.specs.Scopes.{design_in}
use Rattle.lower_code.specs.declared.functions.Scope.{Scope}
use Rattle.lower_net.specs.declared.net_declarations.Ingress.{Ingress}
use Rattle.lower_net.specs.declared.switch_program.Half.{Half}

-- all functions of the design are seen, and the port is that of the role
pub record SeesAll (s : Scope) (i : Ingress) : Type 0 where
  pub functions : s.before ≡ length (functions (design_in s))
  pub port : s.port.now ≡ i.port.now

pub record HalfParts : Type 0 where
  pub code : List tree.P4Stmt
  pub made : List Made
  pub next : Counts
  pub sites : List Site

abbrev pub half_of : Design → Half → HalfParts
half_of d h = record { code = map stmt_of h.code.items; made = made_in d h.to.made.items; next = counts_of h.to.counts; sites = map site_of h.sites.items }

abbrev pub of_block : LoweredBlock → HalfParts
of_block b = record { code = b.code; made = b.made; next = b.next; sites = b.sites }

abbrev pub ingress_half : SwitchRole → ℕ → HalfParts
ingress_half r s = of_block (role_lowered r s)

abbrev pub of_sites : LoweredSites → HalfParts
of_sites x = record { code = x.code; made = x.made; next = x.next; sites = [] }

abbrev pub egress_half : Callees → Counts → List Site → HalfParts
egress_half c n sites = of_sites (lower_sites c n sites)

-- the program of both
abbrev pub program_with : List HeaderDecl → HalfParts → HalfParts → Program
program_with headers ingress egress = record {
  headers = map p4_header headers;
  meta = record { name = codes "site"; width = 8 } ∷ fields_in (ingress.made ++ egress.made);
  ingress = record { tables = tables_in ingress.made; body = block_of ingress.code };
  egress = record { tables = tables_in egress.made; body = block_of egress.code };
}
