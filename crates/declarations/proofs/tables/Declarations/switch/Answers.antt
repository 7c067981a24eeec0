use Rattle.std.proofs.Common.{◌∙◌, sym, ap}
use Rattle.std.specs.Prelude.{option_and_then}
use Rattle.cocoon_syntax.specs.TreeOf.{design_of}
use Rattle.cocoon_types.specs.Design.{as_switch}
use Rattle.declarations.specs.Declares.{fetch}
use Rattle.declarations.proofs.ReaderFacts.{kind-read}
use Rattle.declarations.proofs.tables.Declarations.switch.Goals as goal

pub returns-in_err-self : goal.returns-in_err-self
returns-in_err-self c = rw c.from_residual.ensures (ap (option_and_then (fetch as_switch (design_of c.args.design.now))) (sym c.in_err-self.was) ∙ kind-read as_switch (design_of c.args.design.now) c.args.self.now.decls.switch c.requires.decls.switch)

pub returns : goal.returns
returns c = c.switch_at.ensures ∙ ap (option_and_then (fetch as_switch (design_of c.args.design.now))) (sym c.in_ok-self.was) ∙ kind-read as_switch (design_of c.args.design.now) c.args.self.now.decls.switch c.requires.decls.switch
