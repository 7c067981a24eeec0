use Rattle.std.proofs.Common.{◌≡◌, ℕ, ◌+◌, List, [], ◌∷◌, ◌++◌, drop, get_or, sym, ap, subst, ◌∙◌}
use Rattle.bv_terms.specs.Arenas.{inputs_in}
use Rattle.expr_terms.proofs.Lists.{from_any}
use Rattle.obligation_gen.proofs.NewInputs.{Made, one_made}
use Rattle.obligation_gen.proofs.inputs.new_inputs.Goals as goal

pub loop-width-preserved : goal.loop-width-preserved
loop-width-preserved c =
    let old = c.args.terms.now in
    let now = c.loop-width.terms in
    let new = c.input.new.self in
    let ws = c.args.widths.now in
    let i = c.loop-width.width-index in
    let numbers = c.loop-width.made.numbers.items in
    let terms = c.loop-width.made.terms.items in
    let id = c.in_ok-input.field-0 in
    let put = c.in_ok-input.ensures.put in
    let first : c.push.new.self.items ≡ numbers ++ inputs_in now ∷ [] = c.in_ok-push.ensures.items ∙ ap (λ n. numbers ++ n ∷ []) c.input_count.ensures in
    subst (λ (p : List ℕ × List ℕ). Made old new p.0 p.1 (drop (i + 1) ws) ws) (λ j. (sym {A = List ℕ} first j, sym {A = List ℕ} c.in_ok-push-2.ensures.items j))
    (one_made old now new numbers terms (drop i ws) ws (drop (i + 1) ws) (get_or ws i 0) id (from_any ws i 0 c.loop-width-test.true) c.input.ensures.kept c.loop-width.invariant put.node_ put.there put.term c.in_ok-input.ensures.more.inputs)
