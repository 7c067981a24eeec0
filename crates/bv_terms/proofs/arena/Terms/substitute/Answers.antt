use Rattle.std.proofs.Common.{◌<◌, length, arith}
use Rattle.std.proofs.lemmas.List.Elements.{recursion_from_All}
use Rattle.bv_terms.proofs.Substituting.{at-can, at-few, at-now, at-step, substitute-few, substitute-first}
use Rattle.bv_terms.proofs.arena.Terms.substitute.Goals as goal

pub loop-at-init : goal.loop-at-init
loop-at-init c =
    substitute-first c.args.self.now c.args.from.now c.args.to.now c.args.id c.in_ok-needed.needed.items c.len-at.result c.in_ok-ids.ids c.in_ok-needed.ensures c.requires.there
    (omega (arith, c.len-at.ensures, c.in_ok-needed.needed.ok.0))

pub rebuild-requires-clause-there : goal.rebuild-requires-clause-there
rebuild-requires-clause-there c =
    at-now c.args.self.now c.loop-at.self c.args.from.now c.args.to.now c.args.id c.in_ok-needed.needed.items c.loop-at.at c.loop-at.ids c.loop-at.invariant c.loop-at-test.true
    c.index.result.now c.index.ensures

pub rebuild-requires-clause-can : goal.rebuild-requires-clause-can
rebuild-requires-clause-can c =
    at-can c.args.self.now c.loop-at.self c.args.from.now c.args.to.now c.args.id c.in_ok-needed.needed.items c.loop-at.at c.loop-at.ids c.loop-at.invariant c.loop-at-test.true
    c.index.result.now c.index.ensures

pub loop-at-preserved : goal.loop-at-preserved
loop-at-preserved c =
    at-step c.args.self.now c.loop-at.self c.args.from.now c.args.to.now c.args.id c.in_ok-needed.needed.items c.loop-at.at c.loop-at.ids c.loop-at.invariant c.loop-at-test.true
    c.rebuild.new.self c.in_ok-table.table c.set.new.self c.in_ok-next.next c.index.result.now c.index-in-loop-at.result.now
    (record {
      table_ = c.in_ok-table.ensures;
      inside = recursion_from_All (λ t. t < length c.args.self.now) c.args.to.now c.requires.terms;
      widths = c.requires.widths;
    })
    c.rebuild.ensures.kept c.rebuild.ensures.few c.index.ensures c.index-in-loop-at.ensures c.in_ok-next.ensures.rebuilt c.in_ok-set.ensures

pub returns-in_err-next-clause-few : goal.returns-in_err-next-clause-few
returns-in_err-next-clause-few c =
    at-few c.args.self.now c.loop-at.self c.args.from.now c.args.to.now c.args.id c.in_ok-needed.needed.items c.loop-at.at c.loop-at.ids c.loop-at.invariant c.loop-at-test.true
    c.rebuild.new.self c.rebuild.ensures.few

pub returns-in_err-set-clause-few : goal.returns-in_err-set-clause-few
returns-in_err-set-clause-few c =
    at-few c.args.self.now c.loop-at.self c.args.from.now c.args.to.now c.args.id c.in_ok-needed.needed.items c.loop-at.at c.loop-at.ids c.loop-at.invariant c.loop-at-test.true
    c.rebuild.new.self c.rebuild.ensures.few

pub returns-clause-few : goal.returns-clause-few
returns-clause-few c =
    substitute-few c.args.self.now c.loop-at.self c.args.from.now c.args.to.now c.args.id c.in_ok-needed.needed.items c.loop-at.at c.loop-at.ids c.loop-at.invariant
