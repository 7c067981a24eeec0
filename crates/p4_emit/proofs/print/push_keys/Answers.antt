use Rattle.std.proofs.Common.{get_or, refl, rules}
use Rattle.p4_ir.specs.Program.{program_of}
use Rattle.p4_emit.specs.Printed.{each_text, key_text}
use Rattle.p4_emit.proofs.Printing.{sets_out, walk_step, walk_end}
use Rattle.p4_emit.proofs.print.push_keys.Goals as goal

pub loop-key-init : goal.loop-key-init
loop-key-init c = sets_out _ _

pub loop-key-preserved : goal.loop-key-preserved
loop-key-preserved c =
    walk_step (λ ys. each_text (key_text (program_of c.args.program.now) c.args.exact) ys) (key_text (program_of c.args.program.now) c.args.exact) (λ y ys. refl)
    c.args.keys.now c.loop-key.key-index (get_or c.args.keys.now c.loop-key.key-index 0) 0 (search rules) refl c.loop-key.invariant c.push_key.ensures

pub returns : goal.returns
returns c = walk_end (λ ys. each_text (key_text (program_of c.args.program.now) c.args.exact) ys) refl c.args.keys.now c.loop-key.key-index (search rules) c.loop-key.invariant
