use Rattle.std.proofs.Common.{◌≡◌, ◌∙◌, ap, arith, false, sym, true}
use Rattle.std.proofs.lemmas.List.{get_or_read}
use Rattle.cdcl.specs.Marks.{is_marked}
use Rattle.cdcl.proofs.Counting.{count-set, one}
use Rattle.cdcl.proofs.analysis.Analysis.mark.Goals as goal

pub invariant_of-self : goal.invariant_of-self
invariant_of-self c =
    let a = c.args.self.now in
    let marks = a.marks.items in
    let unmarked : is_marked marks c.args.place ≡ false = sym (get_or_read marks c.args.place c.index.result.now c.requires.within c.index.ensures false) ∙ c.if-index.false in
    record { counted = omega (arith, a.counted, count-set a.floor marks c.args.place true c.if-place-self.true c.requires.within, ap one unmarked) }
