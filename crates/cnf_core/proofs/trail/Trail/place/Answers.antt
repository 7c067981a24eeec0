use Rattle.std.proofs.Common.{arith}
use Rattle.cnf_core.specs.TrailViews.{trues}
use Rattle.cnf_core.proofs.Placing.{in-range, place-read}
use Rattle.cnf_core.proofs.trail.Trail.place.Goals as goal

pub index-requires-2 : goal.index-requires-2
index-requires-2 c =
    let t = c.args.self.now in
    omega (arith, c.index.ensures, in-range (trues t) t.places.items c.args.lit.number t.placed c.requires, t.places.ok.0)

pub overflow_sub-result : goal.overflow_sub-result
overflow_sub-result c = let t = c.args.self.now in
    (place-read (trues t) t.places.items c.args.lit.number c.index.result c.index-2.result.now t.placed c.requires c.index.ensures c.index-2.ensures).0

pub returns-clause-within : goal.returns-clause-within
returns-clause-within c = let t = c.args.self.now in
    (place-read (trues t) t.places.items c.args.lit.number c.index.result c.index-2.result.now t.placed c.requires c.index.ensures c.index-2.ensures).1

pub returns-clause-literal : goal.returns-clause-literal
returns-clause-literal c = let t = c.args.self.now in
    (place-read (trues t) t.places.items c.args.lit.number c.index.result c.index-2.result.now t.placed c.requires c.index.ensures c.index-2.ensures).2
