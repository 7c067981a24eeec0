use Rattle.std.proofs.Common.{map, ap, ◌∙◌}
use Rattle.p4_ir.specs.Program.{block_of, stmt_of, table_of}
use Rattle.lower_net.proofs.switch_program.control.Goals as goal

pub returns : goal.returns
returns c = λ d i. record {
  tables = (ap (map table_of) c.from-tables.ensures ∙ c.in_ok-tables.ensures d) i;
  body = block_of (map stmt_of (c.from-body.ensures i));
}
