use Rattle.std.proofs.Common.{◌≡◌, ◌∙◌, ℕ, Bool, ap, sym}
use Rattle.std.proofs.Math.Path.{fun_ext}
use Rattle.std.proofs.lemmas.Result.{on_ok_weaker}
use Rattle.cocoon_syntax.specs.TreeOf.{expr_of, exprs_of, name_of}
use Rattle.form_rules.specs.Following.{Holding, at_choice, names_of}
use Rattle.form_rules.specs.Steps.{finder_of}
use Rattle.form_rules.proofs.Found.{found_move, found_branch, found_fork, found_send}
use Rattle.form_rules.proofs.Running.{one_step, same_move}
use Rattle.form_rules.proofs.Resolving.{meets_as, binds_as, sets_as, field_as, hides_as}
use Rattle.form_rules.proofs.resolve.push_move.Goals as goal

pub returns : goal.returns
returns c k t = one_step k _ _ _ t c.in_ok-push.ensures.items ∙ ap (finder_of k c.args.steps.now.items) (found_move k c.args.step t)
