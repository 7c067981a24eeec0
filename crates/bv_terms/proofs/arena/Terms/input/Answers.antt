use Rattle.std.proofs.Common.{◌≡◌, ◌++◌, ◌∷◌, [], length, ap, subst, sym, ◌∙◌, arith}
use Rattle.bv_terms.specs.Arenas.{IsKept}
use Rattle.bv_terms.proofs.ArenaFacts.{input-whole, input-put, input-more, input-keeps, inputs-few, stays-kept}
use Rattle.bv_terms.proofs.arena.Terms.input.Goals as goal

pub overflow_cast-input : goal.overflow_cast-input
overflow_cast-input c =
    let e = c.self.invariant.input_count in
    let l = inputs-few c.self.inside.nodes.items in
    let s = c.self.invariant.arena.small in
    omega (arith, c.len-input.ensures, c.self.inside.inputs.ok.0)

pub invariant_of-self-2 : goal.invariant_of-self-2
invariant_of-self-2 c =
    let n : c.len-input.result ≡ length c.self.inside.inputs.items = omega (arith, c.len-input.ensures, c.self.inside.inputs.ok.0) in
    input-whole c.self.inside.nodes.items c.push.new.nodes.items c.self.inside.widths.items c.push.new.widths.items c.self.inside.inputs.items c.push_reserved.new.self.items
    c.args.width c.len-input.result c.in_ok-id.id c.self.inside.numbers c.push.new.numbers c.in_ok-key.key c.self.invariant c.requires n c.in_ok-id.ensures.at
    c.in_ok-key.ensures c.in_ok-id.ensures.numbers c.in_ok-id.ensures.nodes c.in_ok-id.ensures.widths
    (c.push_reserved.ensures.items ∙ ap (λ xs. xs ++ c.in_ok-id.id ∷ []) c.in_ok-reserve.ensures.items) c.in_ok-id.ensures.small

pub returns-clause-put : goal.returns-clause-put
returns-clause-put c =
    let n : c.len-input.result ≡ length c.self.inside.inputs.items = omega (arith, c.len-input.ensures, c.self.inside.inputs.ok.0) in
    input-put c.args.self.now c.self.inside.nodes.items c.push.new.nodes.items c.self.inside.widths.items c.self.inside.inputs.items c.args.width c.len-input.result c.in_ok-id.id
    c.self.inside.numbers c.self.view_is c.self.invariant n c.in_ok-id.ensures.at c.in_ok-id.ensures.nodes

pub returns-clause-more : goal.returns-clause-more
returns-clause-more c =
    input-more c.args.self.now c.self.inside.nodes.items c.push.new.nodes.items _ c.args.width c.in_ok-id.id c.self.view_is c.in_ok-id.ensures.at c.in_ok-id.ensures.nodes

pub returns-clause-kept : goal.returns-clause-kept
returns-clause-kept c = input-keeps c.args.self.now c.self.inside.nodes.items c.push.new.nodes.items _ c.self.view_is c.in_ok-id.ensures.nodes

pub invariant_of-self-in_err-id : goal.invariant_of-self-in_err-id
invariant_of-self-in_err-id c =
    subst (λ is. IsKept c.push.new.nodes.items c.push.new.widths.items is c.push.new.numbers) (sym c.in_ok-reserve.ensures.items)
    (stays-kept c.self.inside.nodes.items c.push.new.nodes.items c.self.inside.widths.items c.push.new.widths.items c.self.inside.inputs.items
    c.self.inside.numbers c.push.new.numbers c.in_err-id.ensures.refused c.self.invariant)
