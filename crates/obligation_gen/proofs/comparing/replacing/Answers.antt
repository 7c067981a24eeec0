use Rattle.obligation_gen.proofs.InputTerms.{numbered_below}
use Rattle.obligation_gen.proofs.Pairing.{ready}
use Rattle.obligation_gen.proofs.comparing.replacing.Goals as goal

pub stand_ins-requires-clause-args : goal.stand_ins-requires-clause-args
stand_ins-requires-clause-args c = numbered_below c.args.terms.now c.count-count.ensures.arena c.args.tree.now.args c.requires.of.args c.requires.are.args

pub stand_ins-requires-clause-fields : goal.stand_ins-requires-clause-fields
stand_ins-requires-clause-fields c = numbered_below c.args.terms.now c.count-count.ensures.arena c.args.tree.now.fields c.requires.of.fields c.requires.are.fields

pub stand_ins-requires-clause-choices : goal.stand_ins-requires-clause-choices
stand_ins-requires-clause-choices c = numbered_below c.args.terms.now c.count-count.ensures.arena c.args.old.now.choices c.requires.old_of.choices c.requires.are.old_.choices

pub returns-clause-made : goal.returns-clause-made
returns-clause-made c = λ d ot t o l h.
    ready d c.args.terms.now c.stand_ins.new.terms c.args.old_tree.now c.args.old.now c.args.tree.now c.args.leaf.now ot o t l (record { inputs = c.in_ok-inputs.inputs; terms = c.in_ok-stand_ins.stand_ins }) h
    c.in_ok-stand_ins.ensures.kept.kept c.in_ok-inputs.ensures (c.in_ok-stand_ins.ensures.made d t o l h.args h.fields h.old_ h.leaf_)
