use Rattle.std.proofs.Common.{ap, ◌∙◌, ◌++◌, ◌∷◌, []}
use Rattle.bit_blast.specs.Emitted.{listed}
use Rattle.bit_blast.proofs.Emitting.{emit-ready, emit-start, emit-step}
use Rattle.bit_blast.proofs.emit.emit.Goals as goal

pub node_bits-requires : goal.node_bits-requires
node_bits-requires c =
    emit-ready c.args.terms.now c.args.order.now c.loop-term.term-index _ c.loop-term.gates c.loop-term.table c.node.result.now c.node.ensures.arena c.requires c.loop-term.invariant
    c.loop-term-test.true c.node.ensures.node

pub loop-term-preserved : goal.loop-term-preserved
loop-term-preserved c =
    emit-step c.args.terms.now c.args.order.now c.loop-term.term-index _ c.loop-term.gates c.loop-term.table c.node.result.now c.node.ensures.arena c.requires c.loop-term.invariant
    c.loop-term-test.true c.node.ensures.node c.node_bits.new.self _ c.in_ok-bits.bits c.in_ok-bits.ensures c.in_ok-insert.ensures.updates

pub loop-term-init : goal.loop-term-init
loop-term-init c =
    emit-start c.args.terms.now c.new-gates.result c.add.new.self _ c.new-gates.ensures.clauses c.new-gates.ensures.next
    (c.in_ok-add.ensures.listed ∙ ap (λ x. listed c.new-gates.result ++ (x ∷ []) ∷ []) c.constant.ensures) c.in_ok-add.ensures.next c.new.ensures.empty
