use Rattle.std.proofs.Common.{◌≡◌, ◌∙◌, ℕ, Bool, ap, sym}
use Rattle.std.proofs.Math.Path.{fun_ext}
use Rattle.std.proofs.lemmas.Result.{on_ok_weaker}
use Rattle.cocoon_syntax.specs.TreeOf.{expr_of, exprs_of, name_of}
use Rattle.form_rules.specs.Following.{Holding, at_choice, names_of}
use Rattle.form_rules.specs.Steps.{finder_of}
use Rattle.form_rules.proofs.Running.{one_step, same_move}
use Rattle.form_rules.proofs.Resolving.{meets_as, binds_as, sets_as, field_as, hides_as}
use Rattle.form_rules.proofs.resolve.push_condition.Goals as goal

pub returns : goal.returns
returns c =
    on_ok_weaker c.push_move.result (same_move _ _ _ _ (meets_as (names_of c.args.scope.now) (expr_of c.args.condition.now) c.in_ok-condition.condition c.in_ok-condition.ensures)) c.push_move.ensures
