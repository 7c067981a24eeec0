use Rattle.std.proofs.Common.{[], map, take}
use Rattle.cocoon_syntax.specs.TreeOf.{header_of}
use Rattle.cocoon_types.specs.Noting.{Notes}
use Rattle.cocoon_types.specs.RuleParts.{repeated}
use Rattle.cocoon_types.specs.Rules.{twice}
use Rattle.cocoon_types.specs.Among.{among}
use Rattle.name_rules.specs.Among.{Seen, header_names}
use Rattle.name_rules.proofs.again.note_headers.Given as goal

abbrev pub invariant-loop-header : goal.invariant-loop-header
invariant-loop-header l = record {
  kept : Seen l.table (header_names (map header_of (take l.header-index l.headers)));
  notes : Notes (among twice (repeated [] (header_names (map header_of (take l.header-index l.headers))))) l.fn.noted l.noted;
}
