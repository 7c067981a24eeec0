use Rattle.std.proofs.Common.{suc, drop, map, subst, sym}
use Rattle.std.proofs.lemmas.Bool.{ltb-true}
use Rattle.cocoon_num.specs.Tree as tree
use Rattle.cocoon_syntax.specs.TreeOf.{param_of}
use Rattle.cocoon_types.specs.Design.{widths_of}
use Rattle.cocoon_types.specs.Noting.{Notes}
use Rattle.cocoon_types.specs.Rules.{wrong_width}
use Rattle.cocoon_types.specs.TypeRules.{wrong_args}
use Rattle.type_rules.specs.Tests.{fails_among, fails_if}
use Rattle.type_rules.specs.Typed.{sort_of}
use Rattle.type_rules.proofs.CallTests.{other_notes, width_at}
use Rattle.type_rules.proofs.calls.Args.add.Goals as goal

pub returns-in-Some-clause-wrong : goal.returns-in-Some-clause-wrong
returns-in-Some-clause-wrong c = λ s x h.
    subst (λ ws. Notes (fails_among wrong_width (wrong_args s ws (tree.expr x tree.no_exprs))) c.args.self.now.wrong c.note_if.new.noted)
    (sym (width_at c.args.params.now c.args.index c.in-Some.param.now (ltb-true _ _ (sym c.in-Some.ensures.lookup.0)) c.in-Some.ensures.lookup.1))
    (other_notes c.noting_laws.ensures c.args.arg.at c.in-Some.param.now.width (sort_of c.args.arg.sort)
    (drop (suc c.args.index) (widths_of (map param_of c.args.params.now))) s x c.args.self.now.wrong c.note_if.new.noted h.at h.sort
    (subst (λ b. Notes (fails_if wrong_width b c.args.arg.at) c.args.self.now.wrong c.note_if.new.noted) c.is_other.ensures c.note_if.ensures))
