use Rattle.std.proofs.Common.{◌≡◌, Some, None, ap, subst, sym, ◌∙◌}
use Rattle.bv_terms.specs.Arenas.{IsPut}
use Rattle.bv_terms.specs.Keys.{number_of, node_key}
use Rattle.bv_terms.proofs.ArenaFacts.{pushed-put, pushed-kept, pushed-whole, stays-nodes, there-put}
use Rattle.bv_terms.proofs.arena.Terms.put.Goals as goal

pub returns-in-Some-clause-put : goal.returns-in-Some-clause-put
returns-in-Some-clause-put c =
    let found : number_of c.self.inside.numbers (node_key c.args.node) ≡ Some c.in-Some.id
    = ap (number_of c.self.inside.numbers) (sym c.in_ok-key.ensures) ∙ sym c.number.ensures ∙ c.in-Some.is in
    let it = there-put c.self.inside.nodes.items c.args.self.now c.self.inside.numbers c.args.node c.in-Some.id c.self.view_is c.self.invariant.arena c.self.invariant.numbers_ found in
    subst (λ ns. IsPut c.args.self.now ns c.args.node c.in-Some.id) c.self.view_is it

pub invariant_of-self : goal.invariant_of-self
invariant_of-self c =
    let none : number_of c.self.inside.numbers (node_key c.args.node) ≡ None
    = ap (number_of c.self.inside.numbers) (sym c.in_ok-key.ensures) ∙ sym c.number.ensures ∙ c.in_default.is in
    pushed-whole c.push.result c.args.self.now c.self.inside.nodes.items c.push.new.nodes.items c.args.node c.self.inside.widths.items c.push.new.widths.items
    c.self.inside.inputs.items c.args.width c.self.inside.numbers c.push.new.numbers c.in_ok-key.key c.self.view_is c.self.invariant c.requires.follows c.requires.width c.requires.no_input
    none c.in_ok-key.ensures c.push.ensures.at c.push.ensures.nodes c.push.ensures.widths c.push.ensures.numbers c.push.ensures.small c.push.ensures.refused

pub returns-clause-put : goal.returns-clause-put
returns-clause-put c = pushed-put c.push.result c.args.self.now c.self.inside.nodes.items c.push.new.nodes.items c.args.node c.self.view_is c.push.ensures.at c.push.ensures.nodes

pub returns-clause-kept : goal.returns-clause-kept
returns-clause-kept c =
    pushed-kept c.push.result c.args.self.now c.self.inside.nodes.items c.push.new.nodes.items c.args.node c.self.view_is c.push.ensures.nodes
    (stays-nodes c.push.result c.self.inside.nodes.items c.push.new.nodes.items c.self.inside.widths.items c.push.new.widths.items c.self.inside.numbers c.push.new.numbers c.push.ensures.refused)
