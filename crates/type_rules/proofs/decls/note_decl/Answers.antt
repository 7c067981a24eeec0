use Rattle.std.proofs.Common.{subst, sym}
use Rattle.cocoon_syntax.specs.TreeOf.{decl_of, design_of, host_of}
use Rattle.cocoon_types.specs.Noting.{Notes}
use Rattle.type_rules.specs.Tests.{in_decl}
use Rattle.type_rules.proofs.DeclParts.{decl_site, host_in}
use Rattle.type_rules.proofs.decls.note_decl.Goals as goal

pub returns-in-Host : goal.returns-in-Host
returns-in-Host c = λ w.
    let d = design_of c.args.design.now in
    subst (λ x. Notes (in_decl (decl_site w d (decl_of x))) c.args.noted.now c.args.noted.now) (sym c.in-Host.is)
    (host_in c.noting_laws.ensures w d (host_of c.in-Host.field-0) c.args.noted.now)
