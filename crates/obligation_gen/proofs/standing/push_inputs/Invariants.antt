use Rattle.std.proofs.Common.{◌++◌, List, map, take}
use Rattle.bv_terms.specs.TermTrees.{Term}
use Rattle.expr_terms.specs.Variables.{MakesAll}
use Rattle.obligation_gen.specs.ShownTrees.{ShowsInputs}
use Rattle.obligation_laws.specs.States.{NewInput, input_term}
use Rattle.obligation_gen.proofs.standing.push_inputs.Given as goal

abbrev pub invariant-loop-input : goal.invariant-loop-input
invariant-loop-input l =
    (is : List NewInput) (ts : List Term) → ShowsInputs l.terms l.inputs is → MakesAll l.terms l.fn.into.items ts
    → MakesAll l.terms l.into.items (ts ++ map input_term (take l.input-index is))
