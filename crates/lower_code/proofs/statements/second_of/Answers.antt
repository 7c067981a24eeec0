use Rattle.std.proofs.Common.{sym, ◌∙◌}
use Rattle.p4_ir.specs.Program.{expr_of}
use Rattle.lower_code.proofs.BeforeLast.{last_of_two}
use Rattle.lower_code.proofs.statements.second_of.Goals as goal

pub returns-in-Some : goal.returns-in-Some
returns-in-Some c =
    sym (last_of_two expr_of c.args.exprs.items c.pop.new.self.items c.in-Some.last (sym c.truncate.ensures.items ∙ c.in-Some.ensures.items))
