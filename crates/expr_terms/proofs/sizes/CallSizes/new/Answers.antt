use Rattle.std.proofs.Common.{◌≡◌, ℕ, ◌+◌, ◌<◌, List, [], ◌∷◌, Option, Some, None, length, rules, sym, ap, subst, ◌∙◌, arith}
use Rattle.std.specs.Prelude.{slice_get}
use Rattle.std.proofs.lemmas.List.{length-append}
use Rattle.std.proofs.lemmas.Option.{slice_get_within}
use Rattle.cocoon_syntax.specs.TreeOf.{design_of, function_of}
use Rattle.cocoon_types.specs.Design.{functions}
use Rattle.expr_terms.specs.Knowing.{KnowsFirst}
use Rattle.expr_terms.specs.Sizes.{IsCount, body_nodes, call_nodes, functions_before}
use Rattle.expr_terms.proofs.Counts.{all_known, knows_more, none_known, none_there}
use Rattle.expr_terms.proofs.sizes.CallSizes.new.Goals as goal

pub functions-init : goal.functions-init
functions-init c = let d = design_of c.args.checked.now in subst (KnowsFirst d) (sym c.new-sizes.ensures.items) (none_known d)

pub functions-preserved : goal.functions-preserved
functions-preserved c =
    let d = design_of c.args.checked.now in
    let sizes = c.functions.sizes.items in
    let f = function_of c.in-Some.function.now in
    let few = c.in-Some.ensures.few in
    let count : c.len.result ≡ length sizes = search rules in
    let at : slice_get (functions d) (length sizes) ≡ Some f = ap (slice_get (functions d)) (sym count) ∙ sym c.in-Some.ensures.is in
    let is : IsCount (body_nodes (call_nodes (functions_before d (length sizes))) f.body) c.body_count-size.result =
    subst (λ (xs : List (Option ℕ)). IsCount (body_nodes (call_nodes (functions_before d (length xs))) f.body) c.body_count-size.result) c.deref.ensures.value c.body_count-size.ensures in
    subst (KnowsFirst d) (sym c.in_ok-push.ensures.items) (knows_more d sizes f c.body_count-size.result c.functions.invariant at (omega (arith, few, count)) is)

pub functions-smaller : goal.functions-smaller
functions-smaller c =
    let d = design_of c.args.checked.now in
    let sizes = c.functions.sizes.items in
    let count : c.len.result ≡ length sizes = search rules in
    let at : slice_get (functions d) (length sizes) ≡ Some (function_of c.in-Some.function.now) = ap (slice_get (functions d)) (sym count) ∙ sym c.in-Some.ensures.is in
    let within : length sizes < length (functions d) = slice_get_within (functions d) (length sizes) (function_of c.in-Some.function.now) at in
    let more : length c.push.new.self.items ≡ length sizes + 1 = ap length c.in_ok-push.ensures.items ∙ length-append sizes (c.body_count-size.result ∷ []) in
    omega (arith, within, more)

pub returns : goal.returns
returns c =
    let d = design_of c.args.checked.now in
    let sizes = c.functions.sizes.items in
    let count : c.len.result ≡ length sizes = search rules in
    let none : c.function_at.result ≡ None = search rules in
    all_known d sizes c.functions.invariant (ap (slice_get (functions d)) (sym count) ∙ none_there _ c.function_at.result (slice_get (functions d) c.len.result) c.function_at.ensures.is none)
