use Rattle.std.proofs.Common.{arith, subst, sym}
use Rattle.bv_terms.specs.Arenas.{inputs_in, term_at}
use Rattle.bv_terms.specs.Copies.{AreInputs}
use Rattle.bv_terms.proofs.Copies.{copy-few, copy-first, copy-inputs, own-can, own-step, own-there, step-few}
use Rattle.bv_terms.proofs.InputLists.{names-apart}
use Rattle.bv_terms.proofs.copying.copy.Goals as goal

pub loop-at-init : goal.loop-at-init
loop-at-init c =
    copy-first c.args.from.now c.args.to.now c.args.id c.in_ok-needed.needed.items c.len-at.result c.in_ok-ids.ids c.new-inputs.result.items c.in_ok-needed.ensures c.requires
    (omega (arith, c.len-at.ensures, c.in_ok-needed.needed.ok.0)) c.new-inputs.ensures.items

pub node-node-requires : goal.node-node-requires
node-node-requires c =
    own-there c.args.from.now c.args.to.now c.loop-at.to c.args.id c.in_ok-needed.needed.items c.loop-at.at c.loop-at.ids c.loop-at.inputs.items c.loop-at.invariant c.loop-at-test.true
    c.index-own.result.now c.index-own.ensures

pub width-width-requires : goal.width-width-requires
width-width-requires c =
    own-there c.args.from.now c.args.to.now c.loop-at.to c.args.id c.in_ok-needed.needed.items c.loop-at.at c.loop-at.ids c.loop-at.inputs.items c.loop-at.invariant c.loop-at-test.true
    c.index-own.result.now c.index-own.ensures

pub copy_node-requires : goal.copy_node-requires
copy_node-requires c =
    own-can c.args.from.now c.args.to.now c.loop-at.to c.args.id c.in_ok-needed.needed.items c.loop-at.at c.loop-at.ids c.loop-at.inputs.items c.loop-at.invariant c.loop-at-test.true
    c.index-own.result.now c.width-width.result c.node-node.result.now c.index-own.ensures c.node-node.ensures.node c.width-width.ensures

pub returns-in_err-next-clause-few : goal.returns-in_err-next-clause-few
returns-in_err-next-clause-few c =
    step-few c.args.from.now c.args.to.now c.loop-at.to c.args.id c.in_ok-needed.needed.items c.loop-at.at c.loop-at.ids c.loop-at.inputs.items c.loop-at.invariant c.loop-at-test.true
    c.copy_node.new.to c.copy_node.ensures.few

pub loop-at-preserved : goal.loop-at-preserved
loop-at-preserved c =
    own-step c.args.from.now c.args.to.now c.loop-at.to c.args.id c.in_ok-needed.needed.items c.loop-at.at c.loop-at.ids c.loop-at.inputs.items c.loop-at.invariant c.loop-at-test.true
    c.copy_node.new.to c.set.new.self c.in_ok-next.next c.copy_node.new.inputs.items c.node-node.result.now c.index-own.result.now c.index-own.ensures c.node-node.ensures.node
    c.in_ok-next.ensures.put c.copy_node.ensures.kept c.copy_node.ensures.few c.in_ok-next.ensures.listed c.in_ok-next.ensures.more c.in_ok-set.ensures

pub returns-in_err-set-clause-few : goal.returns-in_err-set-clause-few
returns-in_err-set-clause-few c =
    step-few c.args.from.now c.args.to.now c.loop-at.to c.args.id c.in_ok-needed.needed.items c.loop-at.at c.loop-at.ids c.loop-at.inputs.items c.loop-at.invariant c.loop-at-test.true
    c.copy_node.new.to c.copy_node.ensures.few

pub returns-clause-inputs : goal.returns-clause-inputs
returns-clause-inputs c =
    subst (AreInputs (term_at c.args.from.now c.args.id)) (sym c.from.ensures)
    (copy-inputs c.args.from.now c.args.to.now c.loop-at.to c.args.id c.in_ok-needed.needed.items c.loop-at.at c.loop-at.ids c.loop-at.inputs.items c.loop-at.invariant (let l = c.loop-at-test.false in omega arith))

pub returns-clause-apart : goal.returns-clause-apart
returns-clause-apart c =
    names-apart (term_at c.args.from.now c.args.id) (inputs_in c.args.to.now) c.from.result
    (subst (AreInputs (term_at c.args.from.now c.args.id)) (sym c.from.ensures)
    (copy-inputs c.args.from.now c.args.to.now c.loop-at.to c.args.id c.in_ok-needed.needed.items c.loop-at.at c.loop-at.ids c.loop-at.inputs.items c.loop-at.invariant (let l = c.loop-at-test.false in omega arith)))

pub returns-clause-few : goal.returns-clause-few
returns-clause-few c = copy-few c.args.from.now c.args.to.now c.loop-at.to c.args.id c.in_ok-needed.needed.items c.loop-at.at c.loop-at.ids c.loop-at.inputs.items c.loop-at.invariant
