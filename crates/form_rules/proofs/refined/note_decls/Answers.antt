use Rattle.cocoon_syntax.specs.TreeOf.{decl_of, design_of}
use Rattle.cocoon_types.specs.Design.{as_role}
use Rattle.cocoon_types.specs.Rules.{header_changed}
use Rattle.form_rules.specs.Parts.{changed}
use Rattle.form_rules.proofs.Joined.{picked-noted}
use Rattle.form_rules.proofs.refined.note_decls.Goals as goal

pub loop-decl-init : goal.loop-decl-init
loop-decl-init c = c.among_laws.ensures.none header_changed c.args.noted.now

pub loop-decl-preserved : goal.loop-decl-preserved
loop-decl-preserved c =
    picked-noted c.among_laws.ensures header_changed (changed (design_of c.args.design.now) c.args.above) as_role decl_of c.args.decls.now c.loop-decl.decl-index c.decl-item.result
    c.args.noted.now c.loop-decl.noted c.note_decl.new.noted c.loop-decl-test.true c.decl-item.is c.loop-decl.invariant c.note_decl.ensures
