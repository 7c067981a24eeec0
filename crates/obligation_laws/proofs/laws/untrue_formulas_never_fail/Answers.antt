use Rattle.cocoon_num.specs.Tree.{Design}
use Rattle.cocoon_types.specs.Rules.{WellFormed}
use Rattle.sound_types.specs.Literals.{DesignLiteralsFit}
use Rattle.obligation_laws.proofs.Owed.{all_never_fail, behind_never_fails}
use Rattle.obligation_laws.proofs.RunsFound.{Known}
use Rattle.obligation_laws.proofs.laws.untrue_formulas_never_fail.Goals as goal

pub returns : goal.returns
returns c =
    let known : (d : Design) → WellFormed d → DesignLiteralsFit d → Known d = λ d w l. record {
      rules = w;
      literals = l;
      taken = c.runs_are_taken.ensures;
      roles = c.declarations_are_typed.ensures.roles d w l;
      sound = c.expressions_have_values.ensures.by_definitions d;
      have = c.runs_have_leaves.ensures.inlined d;
      are = c.leaves_are_runs.ensures.one_body d;
      wide = c.leaves_have_widths.ensures.one_body d w l;
    } in
    record { behind = λ d w l. behind_never_fails d (known d w l); all = λ d w l. all_never_fail d (known d w l) }
