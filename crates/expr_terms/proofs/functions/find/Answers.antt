use Rattle.std.proofs.Common.{◌≡◌, ◌-◌, sym, ◌∙◌, rules, arith, true, false}
use Rattle.cocoon_num.specs.Names.{same_name}
use Rattle.cocoon_syntax.specs.TreeOf.{design_of, function_of}
use Rattle.expr_terms.proofs.Found.{find_here, find_past}
use Rattle.expr_terms.proofs.functions.find.Goals as goal

pub returns-then-is_same : goal.returns-then-is_same
returns-then-is_same c =
    let same : same_name c.args.name.now c.function.result.now.name.text ≡ true = search rules in
    sym (c.loop-at.invariant.same
    ∙ find_here (design_of c.args.checked.now) (c.loop-at.at - 1) c.loop-at.at (function_of c.function.result.now) c.args.name.now (omega arith) c.function.ensures same)

pub loop-at-preserved : goal.loop-at-preserved
loop-at-preserved c =
    let other : same_name c.args.name.now c.function.result.now.name.text ≡ false = search rules in
    record {
      within = omega arith;
      same = c.loop-at.invariant.same
          ∙ find_past (design_of c.args.checked.now) (c.loop-at.at - 1) c.loop-at.at (function_of c.function.result.now) c.args.name.now (omega arith) c.function.ensures other;
    }
