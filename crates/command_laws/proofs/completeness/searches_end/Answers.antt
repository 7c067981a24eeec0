use Rattle.command_laws.proofs.Ending.{ends_well}
use Rattle.command_laws.proofs.completeness.searches_end.Goals as goal

pub returns : goal.returns
returns c = ends_well (record {
  one_tree = c.one_tree.ensures;
  one_defs_tree = c.one_definitions_tree.ensures;
  one_fault = c.one_fault.ensures.designs;
  one_defs_fault = c.one_fault.ensures.definitions;
  no_fault = c.trees_have_no_fault.ensures.designs;
  no_defs_fault = c.trees_have_no_fault.ensures.definitions;
  one_rule = c.one_first_fault.ensures;
  no_rule = c.first_or_well_formed.ensures.never_both;
  one_limit = c.one_first_over.ensures;
  no_limit = c.within_is_not_over.ensures;
  one_net = c.one_lowering.ensures.one;
  one_over = c.one_lowering.ensures.one_limit;
  one_step = c.one_step.ensures;
  one_reading = c.one_reading.ensures;
  one_wiring = c.one_wiring.ensures;
  one_difference = c.one_first_difference.ensures;
  same_report = c.one_report.ensures;
  no_over = c.one_lowering.ensures.no_limit;
  no_failure = c.failing_obligations_fail.ensures.fails;
  no_refuted = c.failing_obligations_fail.ensures.refutes;
}) c.calls_keep_more.ensures
