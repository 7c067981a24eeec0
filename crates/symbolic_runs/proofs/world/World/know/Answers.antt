use Rattle.cocoon_syntax.specs.TreeOf.{design_of}
use Rattle.symbolic_runs.proofs.world.World.know.Goals as goal

pub returns : goal.returns
returns c =
    let w = c.args.self.now in
    let d = design_of w.checked.now in
    let rules = c.design-design.ensures.resolves.rules in
    let literals = c.code_literals_fit.ensures.designs w.checked.now in
    record {
      sizes = c.requires;
      wide = c.terms_have_widths.ensures d rules literals;
      roles = λ name r is. c.declarations_are_typed.ensures.roles d rules literals w.level name r is;
    }
