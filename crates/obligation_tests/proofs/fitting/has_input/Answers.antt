use Rattle.std.proofs.Common.{rules, ◌<◌, get_or, length}
use Rattle.std.proofs.lemmas.Option.{slice_get-get_or}
use Rattle.obligation_tests.proofs.fitting.has_input.Goals as goal

pub returns : goal.returns
returns c = λ same.
    let numbers = c.args.inputs.now in
    let within : c.args.input < length numbers = search rules in
    (get_or numbers c.args.input c.index-inputs-input.result, slice_get-get_or numbers c.args.input c.index-inputs-input.result within, search rules)
