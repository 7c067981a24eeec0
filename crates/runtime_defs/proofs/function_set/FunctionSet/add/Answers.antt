use Rattle.std.proofs.Common.{sym}
use Rattle.cocoon_syntax.specs.TreeOf.{design_of}
use Rattle.runtime_defs.proofs.Members.{holds-more, holds-unknown}
use Rattle.runtime_defs.proofs.function_set.FunctionSet.add.Goals as goal

pub returns-in_ok-set_flag : goal.returns-in_ok-set_flag
returns-in_ok-set_flag c = λ fs h. holds-more (design_of c.args.checked.now) fs c.args.self.now.flags.items c.set_flag.new.flags.items c.args.function.now c.in-Some.number
    (sym c.in-Some.ensures) c.in_ok-set_flag.ensures.there c.in_ok-set_flag.ensures.others h

pub returns-in_default : goal.returns-in_default
returns-in_default c = λ fs h. holds-unknown (design_of c.args.checked.now) fs c.args.self.now.flags.items c.args.function.now (sym c.in_default.ensures) h
