use Rattle.std.proofs.Common.{◌≡◌, ◌-◌, subst, ◌∙◌, rules, arith, true, false}
use Rattle.cocoon_num.specs.Names.{same_name}
use Rattle.cocoon_syntax.specs.TreeOf.{design_of, function_of}
use Rattle.cocoon_num.specs.Tree.{FunctionDecl}
use Rattle.role_values.proofs.FunctionSteps.{find_here, find_past}
use Rattle.role_values.proofs.functions.find.Goals as goal

pub returns-then-is_same : goal.returns-then-is_same
returns-then-is_same c =
    let r = function_of c.function.result.now in
    let yes : same_name c.args.name.now c.function.result.now.name.text ≡ true = search rules in
    record {
      within = omega arith;
      gives = λ g ns h.
          let same : r ≡ g = cc in
          c.loop-at.invariant.same ns
          ∙ find_here (design_of c.args.checked.now) c.args.defs.now (c.loop-at.at - 1) c.loop-at.at g c.args.name.now ns (omega arith) h
          (subst (λ (z : FunctionDecl). same_name c.args.name.now z.name.text ≡ true) same yes);
    }

pub loop-at-preserved : goal.loop-at-preserved
loop-at-preserved c =
    let no : same_name c.args.name.now c.function.result.now.name.text ≡ false = search rules in
    record {
      within = omega arith;
      same = λ ns.
          c.loop-at.invariant.same ns
          ∙ find_past (design_of c.args.checked.now) c.args.defs.now (c.loop-at.at - 1) c.loop-at.at (function_of c.function.result.now) c.args.name.now ns (omega arith) c.function.ensures no;
    }
