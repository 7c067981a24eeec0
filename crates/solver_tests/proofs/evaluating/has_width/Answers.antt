use Rattle.std.proofs.Common.{rules, ◌<◌, get_or, length}
use Rattle.std.proofs.lemmas.Option.{slice_get-get_or}
use Rattle.solver_tests.proofs.evaluating.has_width.Goals as goal

pub returns : goal.returns
returns c = λ same.
    let numbers = c.args.numbers.now in
    let within : c.args.index < length numbers = search rules in
    (get_or numbers c.args.index c.index-numbers-index.result, slice_get-get_or numbers c.args.index c.index-numbers-index.result within, search rules)
