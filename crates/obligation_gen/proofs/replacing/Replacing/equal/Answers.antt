use Rattle.std.proofs.Common.{◌≡◌, sym, ap, ◌∙◌}
use Rattle.std.proofs.lemmas.Result.{IfOk-weaker}
use Rattle.bv_terms.specs.declared.node.TermOp.TheVariants as op
use Rattle.bv_terms.specs.Arenas.{term_at}
use Rattle.bv_terms.specs.TermTrees.{binary, width}
use Rattle.expr_terms.proofs.Making.{keeps_on, longer}
use Rattle.obligation_gen.specs.Replacing.{replacing_in}
use Rattle.obligation_gen.proofs.KnownTerms.{knows_on}
use Rattle.obligation_gen.proofs.LargeCounts.{always}
use Rattle.obligation_gen.proofs.replacing.Replacing.equal.Goals as goal

pub replaced-requires-clause-there : goal.replaced-requires-clause-there
replaced-requires-clause-there c = c.requires.there.0

pub binary-requires-clause-operands : goal.binary-requires-clause-operands
binary-requires-clause-operands c = (c.in_ok-old.ensures.made.there, longer c.args.terms.now c.replaced.new.terms c.in_ok-old.ensures.kept c.args.sent c.requires.there.1)

pub binary-requires-clause-widths : goal.binary-requires-clause-widths
binary-requires-clause-widths c = ap width c.in_ok-old.ensures.made.term ∙ c.requires.widths ∙ sym (ap width (c.in_ok-old.ensures.kept.kept.terms c.args.sent c.requires.there.1))

pub returns-clause-made : goal.returns-clause-made
returns-clause-made c =
    IfOk-weaker c.binary.result _ _
    (λ id p. record {
      there = p.there;
      term = p.term ∙ (λ j. binary op.Equal (c.in_ok-old.ensures.made.term j) (c.in_ok-old.ensures.kept.kept.terms c.args.sent c.requires.there.1 j));
    }) c.binary.ensures.put

pub returns-clause-kept : goal.returns-clause-kept
returns-clause-kept c =
    keeps_on c.args.terms.now c.replaced.new.terms c.binary.new.self c.replaced.ensures.kept (record { kept = c.binary.ensures.kept; inputs = c.binary.ensures.few.inputs })

pub returns-clause-knows : goal.returns-clause-knows
returns-clause-knows c =
    always c.binary.result _
    (knows_on c.replaced.new.terms c.binary.new.self (replacing_in c.args.terms.now c.args.self.now) c.replaced.new.self c.binary.ensures.kept c.in_ok-old.ensures.knows)
