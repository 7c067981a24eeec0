use Rattle.std.proofs.Common.{option_map, Bor, subst, ap, ◌∙◌}
use Rattle.cocoon_syntax.specs.TreeOf.{function_of}
use Rattle.cocoon_syntax.specs.declared.decl.FunctionDecl.{FunctionDecl}
use Rattle.cocoon_types.specs.TypeRules.{found_widths}
use Rattle.type_rules.specs.Typed.{AreArgs}
use Rattle.type_rules.proofs.calls.note_call.Goals as goal

pub returns-in-Some-clause-typed : goal.returns-in-Some-clause-typed
returns-in-Some-clause-typed c = λ s at es hc hf ha.
    let here = hf ∙ ap (option_map (λ (g : Bor FunctionDecl). function_of g.now)) c.in-Some.is in
    c.note_values.ensures.typed s at es hc here (subst (λ f. AreArgs c.args.args.now s (found_widths f) es) here ha)
