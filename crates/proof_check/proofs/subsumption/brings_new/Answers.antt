use Rattle.std.proofs.Common.{arith, subst}
use Rattle.cnf_core.specs.Clauses.{literals}
use Rattle.cnf_core.specs.Literals.{index_of}
use Rattle.cnf_core.specs.TrailViews.{room}
use Rattle.proof_check.specs.KnownClauses.{clauses_of}
use Rattle.proof_check.specs.Registering.{Registers, tops_of}
use Rattle.cnf_core.proofs.LiteralFacts.{index_of-below}
use Rattle.proof_check.proofs.Hinting.{named-literal}
use Rattle.proof_check.proofs.Subsumed.{tops-more}
use Rattle.proof_check.proofs.subsumption.brings_new.Goals as goal

pub add-requires : goal.add-requires
add-requires c =
    let clause = literals c.args.clause.now in
    let vars = room c.args.trail.now in
    let named = named-literal {vars = vars} clause c.requires.proper.named c.in-Some.top.number c.in-Some.ensures.1 in
    omega (arith, index_of-below c.in-Some.top.number vars named.1, c.requires.registered.indexed)

pub returns-in_ok-add-in-Some-clause-registered : goal.returns-in_ok-add-in-Some-clause-registered
returns-in_ok-add-in-Some-clause-registered c = λ _.
    let cs = clauses_of c.args.known.now in
    let vars = room c.args.trail.now in
    subst (λ fs. Registers vars fs c.add.new.self) (tops-more cs (literals c.args.clause.now) (index_of c.in-Some.top.number) c.in-Some.ensures.2)
    (c.in_ok-add-in-Some.ensures vars (tops_of cs) c.requires.registered)
