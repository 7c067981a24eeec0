use Rattle.std.proofs.Common.{map, refl, rules}
use Rattle.p4_ir.specs.Program.{header_of}
use Rattle.p4_emit.specs.Printed.{each_text, member_text}
use Rattle.p4_emit.proofs.Printing.{sets_out, walk_step, walk_end}
use Rattle.p4_emit.proofs.print.push_members.Goals as goal

pub loop-header-init : goal.loop-header-init
loop-header-init c = sets_out _ _

pub loop-header-preserved : goal.loop-header-preserved
loop-header-preserved c = walk_step (λ ys. each_text member_text (map header_of ys)) (λ y. member_text (header_of y)) (λ y ys. refl) c.args.headers.now c.loop-header.header-index c.header-item.result c.header-item.result (search rules) (search rules) c.loop-header.invariant c.push_member.ensures

pub returns : goal.returns
returns c = walk_end (λ ys. each_text member_text (map header_of ys)) refl c.args.headers.now c.loop-header.header-index (search rules) c.loop-header.invariant
