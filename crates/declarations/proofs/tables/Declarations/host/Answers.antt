use Rattle.std.proofs.Common.{◌∙◌, sym, ap}
use Rattle.std.specs.Prelude.{option_and_then}
use Rattle.cocoon_syntax.specs.TreeOf.{design_of}
use Rattle.cocoon_types.specs.Design.{as_host}
use Rattle.declarations.specs.Declares.{fetch}
use Rattle.declarations.proofs.ReaderFacts.{kind-read}
use Rattle.declarations.proofs.tables.Declarations.host.Goals as goal

pub returns-in_err-self : goal.returns-in_err-self
returns-in_err-self c = rw c.from_residual.ensures (ap (option_and_then (fetch as_host (design_of c.args.design.now))) (sym c.in_err-self.was) ∙ kind-read as_host (design_of c.args.design.now) c.args.self.now.decls.host c.requires.decls.host)

pub returns : goal.returns
returns c = c.host_at.ensures ∙ ap (option_and_then (fetch as_host (design_of c.args.design.now))) (sym c.in_ok-self.was) ∙ kind-read as_host (design_of c.args.design.now) c.args.self.now.decls.host c.requires.decls.host
