use Rattle.std.proofs.Common.{map, []}
use Rattle.cocoon_syntax.specs.TreeOf.{decl_of}
use Rattle.declarations.specs.Places.{placed_from}
use Rattle.declarations.proofs.TableFacts.{holds-placed}
use Rattle.declarations.proofs.decl_table.DeclTable.new.Goals as goal

pub returns : goal.returns
returns c = holds-placed c.append_blocks.new.self c.args.design.now c.deref.result.now c.deref-2.result.now c.deref.ensures.value c.deref-2.ensures.value
    (c.in_ok-append_blocks.ensures (placed_from 0 0 (map decl_of c.deref.result.now)) (c.in_ok-append_level.ensures [] c.empty-table.ensures))
