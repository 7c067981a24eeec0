use Rattle.std.proofs.Common.{sym, subst}
use Rattle.std.specs.Option.{IfSome}
use Rattle.bv_terms.specs.Arenas.{term_at}
use Rattle.cocoon_syntax.specs.TreeOf.{design_of}
use Rattle.query_laws.specs.Certified.{AllFit}
use Rattle.rounds.specs.Steps.{IsSolved}
use Rattle.rounds.proofs.searching.next_round.Goals as goal

pub guess-requires-clause-fit : goal.guess-requires-clause-fit
guess-requires-clause-fit c =
    subst (AllFit (design_of c.args.checked.now) c.args.level) (sym c.deref.ensures.value) c.requires.within.progress.fit

pub satisfied_round-requires-clause-solved : goal.satisfied_round-requires-clause-solved
satisfied_round-requires-clause-solved c =
    let d = design_of c.args.checked.now in
    let formula = term_at c.args.terms.now c.args.formula in
    let found = subst (λ is. IfSome c.in_ok-found.found (IsSolved d c.args.level formula is)) c.deref.ensures.value c.in_ok-found.ensures in
    subst (λ o. IfSome o (IsSolved d c.args.level formula c.args.instances.items)) c.in-Some.is found
