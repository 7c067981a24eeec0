use Rattle.cocoon_syntax.specs.TreeOf.{design_of}
use Rattle.runtime_defs.proofs.Shapes.{shapes-fit}
use Rattle.runtime_defs.proofs.defs.Defs.from_tables.Goals as goal

pub new-requires : goal.new-requires
new-requires c = shapes-fit (design_of c.args.checked.now) c.args.tables.items c.keeps_rules.ensures c.requires
