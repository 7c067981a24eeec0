use Rattle.cocoon_num.specs.Tree.{Design}
use Rattle.cocoon_resolve.specs.Resolved.{WasRead}
use Rattle.cocoon_types.specs.Rules.{WellFormed}
use Rattle.sound_types.specs.Literals.{DesignLiteralsFit}
use Rattle.failure_reading.proofs.Beginnings.{Laws, begin_fits, begin_short, has_failure, not_none}
use Rattle.failure_reading.proofs.laws.true_formulas_are_failures.Goals as goal

pub returns : goal.returns
returns c =
    let cited : (d : Design) → WasRead d → WellFormed d → DesignLiteralsFit d → Laws d = λ d read rules literals. record {
      rules = rules;
      literals = literals;
      typed = c.declarations_are_typed.ensures.roles d rules literals;
      definitions = λ tables. c.tables_are_definitions.ensures.definitions d tables rules;
      stands = λ tables. c.tables_are_definitions.ensures.stands d tables rules;
      stay_true = c.formulas_stay_true.ensures d;
      applies_ = c.formulas_apply_declared_functions.ensures d rules literals;
      exact_ = c.formulas_are_failures.ensures read.0 d read.1;
      ends = c.leaves_end_by_role.ensures.inlined d;
      shown = c.leaves_have_values.ensures.inlined d;
      some = λ above block. c.levels_keep_roles.ensures.bounds d above block rules;
      related = λ above block defs. c.segments_are_hops.ensures.related d above block defs;
    } in
    record {
      fits = λ d read rules literals tables o ins h. begin_fits d (cited d read rules literals) tables o ins h;
      short = λ d read rules literals tables o ins h. begin_short d (cited d read rules literals) tables o ins h;
      fails = λ d read rules literals tables o ins h can. has_failure d (cited d read rules literals) tables o ins h can;
      found = λ d read rules literals tables o ins h can. not_none d (cited d read rules literals) tables o ins h can;
    }
