use Rattle.std.proofs.Common.{true}
use Rattle.cocoon_syntax.specs.TreeOf.{design_of, expr_of}
use Rattle.type_rules.specs.Typed.{scope_of}
use Rattle.type_rules.proofs.StmtParts.{assume_in, filter_in}
use Rattle.type_rules.proofs.plain.note_test.Goals as goal

pub returns : goal.returns
returns c = record {
  filter = λ w.
      let s = scope_of w (design_of c.args.design.now) c.args.vars.now true in
      let x = expr_of c.args.condition.now in
      filter_in c.noting_laws.ensures s c.args.ended c.args.at x (c.note_expr-condition.ensures.noted w) (c.note_condition.ensures.filter s x (c.note_expr-condition.ensures.typed w));
  assume = λ w.
      let s = scope_of w (design_of c.args.design.now) c.args.vars.now true in
      let x = expr_of c.args.condition.now in
      assume_in c.noting_laws.ensures s c.args.ended c.args.at x (c.note_expr-condition.ensures.noted w) (c.note_condition.ensures.assume s x (c.note_expr-condition.ensures.typed w));
}
