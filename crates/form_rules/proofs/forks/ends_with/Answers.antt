use Rattle.std.proofs.Common.{◌≡◌, ◌==◌, length, false, rules, sym, ◌∙◌}
use Rattle.form_rules.proofs.ExprFacts.{ends-known}
use Rattle.form_rules.proofs.forks.ends_with.Goals as goal
use Rattle.form_rules.proofs.forks.ends_with.Goals.{then-is_variable, else-is_variable}

pub returns-then-not-is_empty : goal.returns-then-not-is_empty
returns-then-not-is_empty c =
    elim c.if-is_variable.branch [
      | then-is_variable w ↦
          let some : (length c.in-Some.others.now == 0) ≡ false = search rules in
          ends-known c.args.variable.now c.args.args.now c.in-Some.others.now c.in-Some.last.now c.mentions_in.result c.in-Some.ensures.cases.0 (sym c.is_variable.ensures ∙ w.if-is_variable.true) some c.mentions_in.ensures
      | else-is_variable w ↦ search rules
    ]
