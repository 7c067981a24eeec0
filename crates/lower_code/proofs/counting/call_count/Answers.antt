use Rattle.std.proofs.Common.{◌≡◌, Some, rules, slice_get, sym, ◌∙◌}
use Rattle.lower_code.specs.Scopes.{design_in, functions_before}
use Rattle.lower_code.proofs.FoundCounts.{count_at, no_count_at}
use Rattle.lower_code.proofs.counting.call_count.Goals as goal

pub returns-in-Some-known_at : goal.returns-in-Some-known_at
returns-in-Some-known_at c =
    let f = count_at c.args.part (design_in c.args.scope.now) c.args.scope.now.before c.args.name.now c.in-Some.number c.requires.functions (sym c.in-Some.ensures) in
    let has : slice_get c.args.known.now c.in-Some.number ≡ Some (Some c.in-Some-known_at.count) = search rules in
    c.requires.known c.in-Some.number c.in-Some-known_at.count f.function f.is has ∙ sym f.call

pub returns-in-None : goal.returns-in-None
returns-in-None c =
    sym (no_count_at c.args.part (functions_before (design_in c.args.scope.now) c.args.scope.now.before) c.args.name.now (sym c.in-None.ensures)).0
