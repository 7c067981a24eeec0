use Rattle.std.proofs.Common.{[], ◌+◌, map, take}
use Rattle.cocoon_num.specs.Tree.{Param}
use Rattle.cocoon_syntax.specs.TreeOf.{param_of}
use Rattle.cocoon_types.specs.RuleParts.{param_names}
use Rattle.cocoon_types.specs.Rules.{twice}
use Rattle.name_rules.proofs.AmongFacts.{taken-twice}
use Rattle.name_rules.proofs.AgainFacts.{notes-again, seen-again}
use Rattle.name_rules.proofs.again.note_params.Goals as goal

pub loop-param-init : goal.loop-param-init
loop-param-init c = record { kept = c.new-table.ensures; notes = c.among_laws.ensures.none twice c.args.noted.now }

pub loop-param-preserved : goal.loop-param-preserved
loop-param-preserved c = record {
  kept = seen-again c.note_again.new.table (param_names (map param_of (take c.loop-param.param-index c.args.params.now))) (param_names (map param_of (take (c.loop-param.param-index + 1) c.args.params.now))) (param_of c.param-item.result).name (taken-twice (λ (p : Param). p.name) param_of c.args.params.now c.loop-param.param-index c.param-item.result c.loop-param-test.true c.param-item.is) (c.in_ok-note_again.ensures.kept (param_names (map param_of (take c.loop-param.param-index c.args.params.now))) c.loop-param.invariant.kept);
  notes = notes-again c.among_laws.ensures twice [] (param_names (map param_of (take c.loop-param.param-index c.args.params.now))) (param_names (map param_of (take (c.loop-param.param-index + 1) c.args.params.now))) (param_of c.param-item.result).name c.args.noted.now c.loop-param.noted c.note_again.new.noted (taken-twice (λ (p : Param). p.name) param_of c.args.params.now c.loop-param.param-index c.param-item.result c.loop-param-test.true c.param-item.is) c.loop-param.invariant.notes (c.in_ok-note_again.ensures.notes (param_names (map param_of (take c.loop-param.param-index c.args.params.now))) c.loop-param.invariant.kept);
}
