use Rattle.bv_terms.specs.Rebuilt.{name_in}
use Rattle.bv_terms.proofs.Members.{map-more}
use Rattle.bv_terms.proofs.substitute.all_renamed.Goals as goal

pub loop-part-preserved : goal.loop-part-preserved
loop-part-preserved c =
    map-more (name_in c.args.ids.now) c.args.parts.now c.loop-part.part-index c.loop-part.others.items c.push.new.self.items c.renamed.result
    c.loop-part-test.true c.loop-part.invariant c.in_ok-push.ensures.items c.renamed.ensures
