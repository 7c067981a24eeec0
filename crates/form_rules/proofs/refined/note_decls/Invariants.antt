use Rattle.std.proofs.Common.{map, take}
use Rattle.std.specs.Prelude.{flat_map, filter_map}
use Rattle.cocoon_syntax.specs.TreeOf.{decl_of, design_of}
use Rattle.cocoon_types.specs.Design.{as_role}
use Rattle.cocoon_types.specs.Noting.{Notes}
use Rattle.cocoon_types.specs.Rules.{header_changed}
use Rattle.cocoon_types.specs.Among.{among}
use Rattle.form_rules.specs.Parts.{changed}
use Rattle.form_rules.proofs.refined.note_decls.Given as goal

abbrev pub invariant-loop-decl : goal.invariant-loop-decl
invariant-loop-decl l = Notes (among header_changed (flat_map (changed (design_of l.design) l.above) (filter_map as_role (map decl_of (take l.decl-index l.decls))))) l.fn.noted l.noted
