use Rattle.std.proofs.Common.{◌<◌, length, arith}
use Rattle.std.proofs.lemmas.List.Elements.{recursion_from_All}
use Rattle.bv_terms.specs.Rebuilt.{StandsFrom}
use Rattle.bv_terms.proofs.Substituting.{range-can, range-first, range-last, range-step}
use Rattle.bv_terms.proofs.arena.Terms.substitute_from.Goals as goal

pub loop-own-init : goal.loop-own-init
loop-own-init c =
    range-first c.args.self.now c.args.from.now c.args.to.now c.args.first c.in_ok-ids.ids c.new-all.result.items c.count-last.ensures.arena
    (recursion_from_All (StandsFrom c.args.self.now c.args.first) c.args.from.now c.requires.inputs) c.in_ok-ids.ensures c.new-all.ensures.items

pub rebuild-requires-clause-can : goal.rebuild-requires-clause-can
rebuild-requires-clause-can c =
    range-can c.args.self.now c.loop-own.self c.args.from.now c.args.to.now c.args.first c.loop-own.own c.loop-own.ids c.loop-own.all.items c.loop-own.invariant
    (let l = c.loop-own-test.true in let e = c.count-last.ensures.count in omega arith)

pub loop-own-preserved : goal.loop-own-preserved
loop-own-preserved c =
    range-step c.args.self.now c.loop-own.self c.args.from.now c.args.to.now c.args.first c.loop-own.own c.loop-own.ids c.loop-own.all.items c.loop-own.invariant
    (let l = c.loop-own-test.true in let e = c.count-last.ensures.count in omega arith)
    c.rebuild.new.self c.in_ok-table.table c.set.new.self c.in_ok-next.next c.push.new.self.items
    (record {
      table_ = c.in_ok-table.ensures;
      inside = recursion_from_All (λ t. t < length c.args.self.now) c.args.to.now c.requires.terms;
      widths = c.requires.widths;
    })
    c.rebuild.ensures.kept c.rebuild.ensures.few c.in_ok-next.ensures.rebuilt c.in_ok-set.ensures c.in_ok-push.ensures.items

pub returns-clause-terms : goal.returns-clause-terms
returns-clause-terms c =
    range-last c.args.self.now c.loop-own.self c.args.from.now c.args.to.now c.args.first c.loop-own.own c.loop-own.ids c.loop-own.all.items c.loop-own.invariant
    (let l = c.loop-own-test.false in let e = c.count-last.ensures.count in omega arith)
