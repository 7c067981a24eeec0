use Rattle.std.proofs.Common.{◌≡◌, ◌++◌, List, [], map, sym, ap, subst, ◌∙◌, refl}
use Rattle.std.proofs.lemmas.List.{append_assoc}
use Rattle.bv_terms.specs.TermTrees.{Term}
use Rattle.expr_terms.specs.Variables.{MakesAll}
use Rattle.obligation_gen.specs.ShownTrees.{ShowsInputs}
use Rattle.obligation_laws.specs.Formulas.{read_back}
use Rattle.obligation_laws.specs.States.{input_term}
use Rattle.obligation_gen.proofs.InputTerms.{makes_none}
use Rattle.obligation_gen.proofs.standing.stand_ins.Goals as goal

pub returns-clause-made : goal.returns-clause-made
returns-clause-made c = λ d of old_of leaf_of args fields old leaf.
    let a = c.args.terms.now in
    let empty : MakesAll a c.new-all.result.items [] = subst (λ xs. MakesAll a xs []) (sym c.new-all.ensures.items) (makes_none a) in
    let first = c.in_ok-push_inputs.ensures of.args [] (subst (λ xs. ShowsInputs a xs of.args) (sym c.items.ensures) args) empty in
    let second = c.in_ok-push_inputs-2.ensures of.fields (map input_term of.args) (subst (λ xs. ShowsInputs a xs of.fields) (sym c.items-2.ensures) fields) first in
    let third =
    c.in_ok-push_read_back.ensures.made d old_of.choices old_of.end leaf_of.end (map input_term of.args ++ map input_term of.fields)
    (subst (λ xs. ShowsInputs a xs old_of.choices) (sym c.items-3.ensures) old.choices) old.end leaf.end second in
    subst (MakesAll c.push_read_back.new.terms c.push_read_back.new.into.items) (append_assoc (map input_term of.args) (map input_term of.fields) (map (read_back old_of.end leaf_of.end) old_of.choices)) third
