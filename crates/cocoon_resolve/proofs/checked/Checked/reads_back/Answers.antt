use Rattle.std.proofs.Common.{◌≤◌, sym, subst, ◌∙◌}
use Rattle.cocoon_syntax.specs.TreeOf.{design_of}
use Rattle.cocoon_types.specs.Design.{last_level}
use Rattle.cocoon_resolve.specs.Readers.{ReadsBack}
use Rattle.cocoon_resolve.proofs.Rows.{says}
use Rattle.cocoon_resolve.proofs.checked.Checked.reads_back.Goals as goal

pub returns : goal.returns
returns c = subst (λ d. ReadsBack (design_of d) c.args.role c.args.level c.reads_back.result) c.self.view_is
    (λ name r k e. c.reads_back.ensures ∙ says (design_of c.self.inside.design) c.self.inside.bodies c.args.level c.args.role name r c.self.invariant.read_back
    (subst (λ d. c.args.level ≤ last_level (design_of d)) (sym c.self.view_is) c.requires.level) k e)
