use Rattle.std.proofs.Common.{[], map, take}
use Rattle.cocoon_syntax.specs.TreeOf.{param_of}
use Rattle.cocoon_types.specs.Noting.{Notes}
use Rattle.cocoon_types.specs.RuleParts.{param_names, repeated}
use Rattle.cocoon_types.specs.Rules.{twice}
use Rattle.cocoon_types.specs.Among.{among}
use Rattle.name_rules.specs.Among.{Seen}
use Rattle.name_rules.proofs.again.note_params.Given as goal

abbrev pub invariant-loop-param : goal.invariant-loop-param
invariant-loop-param l = record {
  kept : Seen l.table (param_names (map param_of (take l.param-index l.params)));
  notes : Notes (among twice (repeated [] (param_names (map param_of (take l.param-index l.params))))) l.fn.noted l.noted;
}
