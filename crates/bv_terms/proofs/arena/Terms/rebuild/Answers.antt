use Rattle.std.proofs.Common.{◌≡◌, ℕ, sym, ◌∙◌, Some}
use Rattle.bv_terms.specs.declared.node.Node.TheVariants.{Input}
use Rattle.bv_terms.specs.Rebuilt.{name_in}
use Rattle.bv_terms.proofs.ReplaceFacts.{rebuild-puts}
use Rattle.bv_terms.proofs.arena.Terms.rebuild.Goals as goal

pub put-requires : goal.put-requires
put-requires c =
    let same : c.node.result.now ≡ c.node-2.result.now = (let p : Some c.node.result.now ≡ Some c.node-2.result.now = sym c.node.ensures.node ∙ c.node-2.ensures.node in cc) in
    let other : (i w : ℕ) → c.node-2.result.now ≡ Input i w → ⊥ = λ i w e. c.in_default.not-Input i w (same ∙ e) in
    let a = rebuild-puts c.args.self.now (name_in c.args.ids.now) c.args.own c.node-2.result.now c.in_ok-node.node c.width.result c.node.ensures.arena
    c.node-2.ensures.node (c.requires.can c.node-2.result.now c.node-2.ensures.node) other c.in_ok-node.ensures c.width.ensures in
    record { follows = a.follows; width = a.width; no_input = a.no_input }
