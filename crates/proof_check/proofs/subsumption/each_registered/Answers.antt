use Rattle.std.proofs.Common.{map, subst, sym}
use Rattle.std.specs.List.{All}
use Rattle.std.proofs.lemmas.List.Elements.{All-map}
use Rattle.cnf_core.specs.Clauses.{literals}
use Rattle.cnf_core.specs.Literals.{Names}
use Rattle.proof_check.specs.Hinted.{AllNamed}
use Rattle.proof_check.proofs.subsumption.each_registered.Goals as goal

pub register-requires-clause-named : goal.register-requires-clause-named
register-requires-clause-named c = subst (λ cs. AllNamed c.args.cnf.now.vars (map literals cs)) (sym c.items.ensures)
    (All-map (All (Names c.args.cnf.now.vars)) literals c.args.cnf.now.clauses c.requires.named.1)
