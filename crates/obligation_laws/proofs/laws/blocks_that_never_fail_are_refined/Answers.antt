use Rattle.cocoon_num.specs.Tree.{Design}
use Rattle.cocoon_types.specs.Rules.{WellFormed}
use Rattle.sound_types.specs.Literals.{DesignLiteralsFit}
use Rattle.obligation_laws.proofs.Refining.{design_refines, is_bounded, is_contained}
use Rattle.obligation_laws.proofs.RunsFound.{Known}
use Rattle.obligation_laws.proofs.laws.blocks_that_never_fail_are_refined.Goals as goal

pub returns : goal.returns
returns c =
    let known : (d : Design) → WellFormed d → DesignLiteralsFit d → Known d = λ d w l. record {
      rules = w;
      literals = l;
      taken = c.runs_are_taken.ensures;
      roles = c.declarations_are_typed.ensures.roles d w l;
      sound = c.expressions_have_values.ensures.by_definitions d;
      have = c.runs_have_leaves.ensures.inlined d;
      are = c.leaves_are_runs.ensures.one_body d;
      wide = c.leaves_have_widths.ensures.one_body d w l;
    } in
    record {
      block = λ d w l above block at first never. (is_contained d (known d w l) above block at first never, is_bounded d (known d w l) above block at first never);
      design = λ d w l. design_refines d (known d w l);
    }
