use Rattle.std.proofs.Common.{sym, subst}
use Rattle.std.proofs.lemmas.Result.{IfOk-weaker}
use Rattle.bv_terms.specs.Arenas.{term_at}
use Rattle.bv_terms.specs.TermTrees.{IsTerm}
use Rattle.cocoon_syntax.specs.TreeOf.{design_of}
use Rattle.query_laws.specs.Queries.{asked}
use Rattle.rounds.proofs.Queries.{refused, says}
use Rattle.rounds.proofs.asking.ask.Goals as goal

pub returns-in-Err : goal.returns-in-Err
returns-in-Err c =
    let d = design_of c.args.checked.now in
    let formula = term_at c.args.terms.now c.args.formula in
    IfOk-weaker c.refused.result _ _
    (λ s h. refused d c.args.level formula c.args.instances.now c.in_ok-own.own c.in_ok-own.ensures c.args.conflicts c.in-Err.fault c.in-Err.ensures.fault s h)
    c.refused.ensures

pub returns : goal.returns
returns c =
    let d = design_of c.args.checked.now in
    let rules = c.design-design.ensures.resolves.rules in
    let literals = c.code_literals_fit.ensures.designs c.args.checked.now in
    let level = c.args.level in
    let formula = term_at c.args.terms.now c.args.formula in
    let is = c.args.instances.now in
    let own = c.in_ok-own.own in
    let query = c.in_ok-own.ensures in
    says d level formula is own query c.requires.stands c.requires.fit
    (record {
      can = c.queries_are_goals.ensures.flat d rules literals level formula c.requires.stands is c.requires.fit query.asked_;
      over = c.asked_goals_apply_declared_functions.ensures d rules literals level formula c.requires.stands is c.requires.fit;
      certified = λ cert same it.
          c.refuted_formulas_are_never_true.ensures.certified d rules literals level formula c.requires.stands cert
          (subst (λ xs. IsTerm (asked d level formula xs)) (sym same) query.asked_) it;
      reads_back = c.clauses_mean_the_goal.ensures.reads;
      holds = c.satisfying_is_making_hold.ensures;
    }) c.in-Ok.made.0 c.in-Ok.ensures.clauses c.in-Ok.ensures.named c.in-Ok.made.1 c.in-Ok.ensures.inputs c.count-count.ensures.arena
    c.args.conflicts c.in_ok-answer.answer c.in_ok-answer.ensures c.said_by.result c.said_by.ensures
