use Rattle.std.proofs.Common.{◌∙◌, subst}
use Rattle.std.proofs.Math.ListN.{length-set}
use Rattle.std.specs.List.{All}
use Rattle.cnf_core.specs.Literals.{Names}
use Rattle.cnf_core.specs.Trails.{IsApart, numbers}
use Rattle.cnf_core.specs.TrailViews.{trues}
use Rattle.cnf_core.proofs.Placing.{apart-pop, named-pop, numbers-push, placed-less}
use Rattle.cnf_core.proofs.trail.Trail.pop.Goals as goal

pub invariant_of-self : goal.invariant_of-self
invariant_of-self c =
    let t = c.args.self.now in
    let less = numbers c.pop.new.self.items in
    let whole = numbers-push c.pop.new.self.items t.lits.items c.in-Some.lit c.in-Some.ensures.items in
    record {
      few = t.few;
      sized = length-set t.places.items c.index.result 0 ∙ t.sized;
      placed = placed-less (trues t) t.places.items c.in-Some.lit.number less c.index.result t.placed whole c.index.ensures;
      named = named-pop t.vars less c.in-Some.lit.number (subst (All (Names t.vars)) whole t.named);
      apart = apart-pop less c.in-Some.lit.number (subst IsApart whole t.apart);
    }
