use Rattle.std.proofs.Common.{sym, subst}
use Rattle.std.specs.Option.{IfSome}
use Rattle.std.proofs.lemmas.Result.{IfOk-weaker}
use Rattle.bv_terms.specs.Arenas.{term_at}
use Rattle.bit_blast.specs.Goals.{IsGoal}
use Rattle.cocoon_syntax.specs.TreeOf.{design_of}
use Rattle.rounds.specs.Short.{IsMapped}
use Rattle.rounds.proofs.Guesses.{if_solved, query-kept}
use Rattle.rounds.proofs.guessing.guess.Goals as goal

pub found_short-requires-clause-goal : goal.found_short-requires-clause-goal
found_short-requires-clause-goal c = record { there = c.in_ok-own.ensures.there; goal = subst IsGoal (sym c.in_ok-own.ensures.term) c.in_ok-own.ensures.goal_ }

pub tried-requires : goal.tried-requires
tried-requires c =
    let terms = c.found_short.new.terms in
    let q = query-kept (design_of c.args.checked.now) c.args.level (term_at c.args.terms.now c.args.formula) c.args.instances.now c.in_ok-own.own terms c.in_ok-inputs.ensures.kept c.in_ok-own.ensures in
    record {
      part = record { there = q.there; goal = subst IsGoal (sym q.term) q.goal_ };
      inputs = subst (λ o. IfSome o (λ f. IsMapped terms f.0)) c.in-Some.is c.in_ok-inputs.ensures.mapped;
    }

pub returns-in-Some : goal.returns-in-Some
returns-in-Some c =
    let d = design_of c.args.checked.now in
    let rules = c.design-design.ensures.resolves.rules in
    let literals = c.code_literals_fit.ensures.designs c.args.checked.now in
    let level = c.args.level in
    let formula = term_at c.args.terms.now c.args.formula in
    let is = c.args.instances.now in
    let terms = c.found_short.new.terms in
    let q = query-kept d level formula is c.in_ok-own.own terms c.in_ok-inputs.ensures.kept c.in_ok-own.ensures in
    let can = c.queries_are_goals.ensures.flat d rules literals level formula c.requires.stands is c.requires.fit q.asked_ in
    let over = c.asked_goals_apply_declared_functions.ensures d rules literals level formula c.requires.stands is c.requires.fit in
    IfOk-weaker c.tried.result _ _
    (if_solved d level formula is _ q c.requires.stands c.requires.fit can over c.in-Some.inputs
    (subst (λ o. IfSome o (λ f. IsMapped terms f.0)) c.in-Some.is c.in_ok-inputs.ensures.mapped) c.in-Some.assignment)
    c.tried.ensures
