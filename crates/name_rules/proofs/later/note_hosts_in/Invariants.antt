use Rattle.std.proofs.Common.{◌≡◌, ◌||◌, map, take}
use Rattle.std.specs.Prelude.{flat_map}
use Rattle.cocoon_syntax.specs.TreeOf.{decl_of}
use Rattle.cocoon_types.specs.Noting.{Notes}
use Rattle.cocoon_types.specs.Rules.{twice}
use Rattle.cocoon_types.specs.Among.{among}
use Rattle.name_rules.specs.Among.{any_at, later, host_places}
use Rattle.name_rules.proofs.later.note_hosts_in.Given as goal

abbrev pub invariant-loop-decl : goal.invariant-loop-decl
invariant-loop-decl l = record {
  by_now : l.by_now ≡ (l.fn.found || any_at (flat_map host_places (map decl_of (take l.decl-index l.decls))));
  notes : Notes (among twice (later l.fn.found (flat_map host_places (map decl_of (take l.decl-index l.decls))))) l.fn.noted l.noted;
}
