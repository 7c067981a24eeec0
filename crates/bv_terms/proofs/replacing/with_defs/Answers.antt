use Rattle.std.proofs.Common.{arith}
use Rattle.bv_terms.proofs.Replaced.{own-can, own-step, own-there, replace-first}
use Rattle.bv_terms.proofs.replacing.with_defs.Goals as goal

pub loop-at-init : goal.loop-at-init
loop-at-init c =
    replace-first c.args.tables.now c.args.terms.now c.args.goal c.in_ok-needed.needed.items c.len-at.result c.in_ok-ids.ids c.in_ok-needed.ensures c.requires.there c.requires.tables
    (omega (arith, c.len-at.ensures, c.in_ok-needed.needed.ok.0))

pub node-requires : goal.node-requires
node-requires c =
    own-there c.args.tables.now c.args.terms.now c.loop-at.terms c.args.goal c.in_ok-needed.needed.items c.loop-at.at c.loop-at.ids c.loop-at.invariant c.loop-at-test.true
    c.index-own.result.now c.index-own.ensures

pub width-requires : goal.width-requires
width-requires c =
    own-there c.args.tables.now c.args.terms.now c.loop-at.terms c.args.goal c.in_ok-needed.needed.items c.loop-at.at c.loop-at.ids c.loop-at.invariant c.loop-at-test.true
    c.index-own.result.now c.index-own.ensures

pub choose-requires : goal.choose-requires
choose-requires c =
    own-can c.args.tables.now c.args.terms.now c.loop-at.terms c.args.goal c.in_ok-needed.needed.items c.loop-at.at c.loop-at.ids c.loop-at.invariant c.loop-at-test.true
    c.index-own.result.now c.width.result c.node.result.now c.in_ok-node.node c.index-own.ensures c.node.ensures.node c.in_ok-node.ensures c.width.ensures

pub loop-at-preserved : goal.loop-at-preserved
loop-at-preserved c =
    own-step c.args.tables.now c.args.terms.now c.loop-at.terms c.args.goal c.in_ok-needed.needed.items c.loop-at.at c.loop-at.ids c.loop-at.invariant c.loop-at-test.true
    c.choose.new.terms c.set.new.self c.in_ok-next.next c.index-own.result.now c.node.result.now c.in_ok-node.node c.index-own.ensures c.node.ensures.node c.in_ok-node.ensures
    c.in_ok-next.ensures.made c.choose.ensures.grown c.in_ok-set.ensures
