use Rattle.std.proofs.Common.{◌≡◌, true, Some, Bor, option_map, rules}
use Rattle.cocoon_num.specs.Names.{same_name}
use Rattle.cocoon_num.specs.Tree.{name}
use Rattle.cocoon_syntax.specs.TreeOf.{expr_of, name_of, param_of}
use Rattle.cocoon_syntax.specs.declared.decl.Param.{Param}
use Rattle.cocoon_types.specs.SameTrees.{same_expr}
use Rattle.form_rules.proofs.ExprFacts.{own-known}
use Rattle.form_rules.proofs.sends.is_own_out.Goals as goal
use Rattle.form_rules.proofs.sends.is_own_out.Goals.{then-is_same, else-is_same}

pub returns-then-is_variable : goal.returns-then-is_variable
returns-then-is_variable c =
    elim c.if-is_same.branch [
      | then-is_same w ↦
          let own : option_map (λ (p : Bor Param). param_of p.now) c.args.sender.now.own ≡ Some (param_of c.in-Some-Some.own.now) = search rules in
          let role : same_name c.args.role.now.text c.args.sender.now.out.now ≡ true = search rules in
          let first : same_expr (expr_of c.in-Some-Some.first.now) (name 0 c.in-Some-Some.own.now.name.text) ≡ true = search rules in
          own-known c.args.sender.now.out.now (option_map (λ (p : Bor Param). param_of p.now) c.args.sender.now.own) (param_of c.in-Some-Some.own.now) (name_of c.args.role.now) c.args.args.now c.in-Some-Some.rest.now c.in-Some-Some.first.now own c.in-Some-Some.ensures.cases.0 role first
      | else-is_same w ↦ search rules
    ]
