use Rattle.std.proofs.Common.{◌≡◌, [], ◌∷◌, ◌++◌, map, take, rules, sym, subst, ◌∙◌}
use Rattle.std.proofs.lemmas.List.{take_all}
use Rattle.numbering.specs.NumberPlaces.{HasPlaces}
use Rattle.numbering.proofs.NumberFacts.{place_is}
use Rattle.p4_ir.specs.NetOf.{group_of}
use Rattle.p4_run.proofs.FaultSteps.{numbers_taken}
use Rattle.p4_run.proofs.GroupSteps.{group_numbers}
use Rattle.p4_run.proofs.places.group_places.Goals as goal

pub loop-group-preserved : goal.loop-group-preserved
loop-group-preserved c =
    let gs = c.items-group-items.result.now in
    let i = c.loop-group.group-index in
    let numbers = group_numbers (map group_of (take i gs)) in
    let own : c.from.result ≡ c.group-item.result.number = search rules in
    subst (HasPlaces c.append.new.self) (sym (numbers_taken gs i c.group-item.result c.loop-group-test.true c.group-item.is))
    (subst (λ n. HasPlaces c.append.new.self (numbers ++ n ∷ [])) own (c.in_ok-append.ensures numbers c.loop-group.invariant))

pub returns : goal.returns
returns c = λ n.
    let gs = c.items-group-items.result.now in
    place_is c.loop-group.places (group_numbers (map group_of c.args.rows.now.groups))
    (subst (λ xs. HasPlaces c.loop-group.places (group_numbers (map group_of xs))) (take_all c.loop-group.group-index gs c.loop-group-test.false ∙ c.items-group-items.ensures) c.loop-group.invariant) n
