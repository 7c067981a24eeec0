use Rattle.std.proofs.Common.{◌≡◌, ◌∙◌, subst, sym, true}
use Rattle.std.specs.List.{All}
use Rattle.std.proofs.lemmas.Option.{none-some, same_Some}
use Rattle.cnf_core.specs.Clauses.{literals}
use Rattle.cnf_core.specs.Literals.{Names, has_literal}
use Rattle.cnf_core.specs.TrailViews.{trues}
use Rattle.cdcl.specs.States.{VisitsClause, clauses_of}
use Rattle.cdcl.proofs.Trailing.{at-some, known-named}
use Rattle.cdcl.proofs.search.Search.visit_number.Goals as goal

pub visit_clause-requires-clause-named : goal.visit_clause-requires-clause-named
visit_clause-requires-clause-named c =
    let cnf = c.args.cnf.now in
    let s = c.args.self.now in
    subst (λ v. All (Names v) (literals c.in-Some.clause.now)) (sym c.requires.sound.same_room)
    (at-some (All (Names cnf.vars)) (clauses_of cnf s) c.args.number (literals c.in-Some.clause.now) (known-named cnf s.steps.items c.requires.named c.requires.sound.derived) (sym c.in-Some.ensures))

pub visit_clause-requires-clause-inside : goal.visit_clause-requires-clause-inside
visit_clause-requires-clause-inside c =
    let inside = c.requires.inside in
    subst (λ ls. has_literal ls c.args.other.number ≡ true) (same_Some inside.0 (literals c.in-Some.clause.now) (sym inside.1 ∙ sym c.in-Some.ensures)) inside.2

pub returns-in-Some : goal.returns-in-Some
returns-in-Some c = λ clause e. subst (λ ls. VisitsClause (trues c.args.self.now.trail) ls c.args.other.number c.visit_clause.result)
    (same_Some (literals c.in-Some.clause.now) clause (c.in-Some.ensures ∙ e)) c.visit_clause.ensures

pub returns-in-None : goal.returns-in-None
returns-in-None c = absurd (none-some c.requires.inside.0 (c.in-None.ensures ∙ c.requires.inside.1))
