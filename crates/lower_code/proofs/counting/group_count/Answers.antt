use Rattle.std.proofs.Common.{sym}
use Rattle.lower_code.specs.Scopes.{design_in, functions_before}
use Rattle.lower_code.proofs.FoundCounts.{count_at, no_count_at}
use Rattle.lower_code.proofs.counting.group_count.Goals as goal

pub returns-in-Some : goal.returns-in-Some
returns-in-Some c =
    sym (count_at 0 (design_in c.args.scope.now) c.args.scope.now.before c.args.name.now c.in-Some.field-0 c.requires (sym c.in-Some.ensures)).group

pub returns-in-None : goal.returns-in-None
returns-in-None c =
    sym (no_count_at 0 (functions_before (design_in c.args.scope.now) c.args.scope.now.before) c.args.name.now (sym c.in-None.ensures)).1
