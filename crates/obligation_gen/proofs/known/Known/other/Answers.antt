use Rattle.std.proofs.Common.{◌≡◌, ℕ, Some, List, rules, sym, ap, subst, ◌∙◌}
use Rattle.std.specs.Prelude.{unwrap_or}
use Rattle.std.specs.List.{AllByRecursion}
use Rattle.std.proofs.lemmas.Result.{IfOk-weaker}
use Rattle.bv_terms.specs.declared.node.Node.{Node}
use Rattle.bv_terms.specs.declared.node.Node.TheVariants.{Input}
use Rattle.bv_terms.specs.Arenas.{IsPut, parts}
use Rattle.bv_terms.specs.Rebuilt.{IsReplaced, name_in}
use Rattle.bv_terms.proofs.ReplaceFacts.{can-rebuild, keeps-none, rebuild-puts}
use Rattle.obligation_gen.specs.Replacing.{replacing_in}
use Rattle.obligation_gen.specs.Sent.{sent_at}
use Rattle.obligation_gen.proofs.KnownTerms.{input_becomes, parts_known, put_replaced}
use Rattle.obligation_gen.proofs.known.Known.other.Goals as goal

pub returns-in-Input-clause-becomes : goal.returns-in-Input-clause-becomes
returns-in-Input-clause-becomes c =
    let by = c.args.by.now in
    let is : c.unwrap_or.result ≡ unwrap_or (sent_at c.in-Input.input by.inputs.items by.terms.items) c.args.own = search rules in
    input_becomes c.args.terms.now c.node.ensures.arena by c.requires.stand c.args.own c.in-Input.input c.in-Input.field-1 c.unwrap_or.result (c.node.ensures.node ∙ ap Some c.in-Input.is) is

pub put-requires : goal.put-requires
put-requires c =
    let a = c.args.terms.now in
    let R = replacing_in a c.args.by.now in
    let name = name_in c.args.self.now.ids in
    let node = c.node-2.result.now in
    let same : c.node.result.now ≡ node = (let p : Some c.node.result.now ≡ Some node = sym c.node.ensures.node ∙ c.node-2.ensures.node in cc) in
    let done = parts_known a R c.args.self.now node c.requires.knows (c.requires.parts node c.node-2.ensures.node) in
    let can = can-rebuild a a R name c.args.own node c.node.ensures.arena (keeps-none a) c.node-2.ensures.node done in
    let put = rebuild-puts a name c.args.own node c.in_ok-node.node c.width.result c.node.ensures.arena c.node-2.ensures.node can (λ i w e. c.in_default.not-Input i w (same ∙ e)) c.in_ok-node.ensures c.width.ensures in
    record { follows = put.follows; width = put.width; no_input = put.no_input }

pub returns : goal.returns
returns c =
    let a = c.args.terms.now in
    let R = replacing_in a c.args.by.now in
    let name = name_in c.args.self.now.ids in
    let node = c.node-2.result.now in
    let same : c.node.result.now ≡ node = (let p : Some c.node.result.now ≡ Some node = sym c.node.ensures.node ∙ c.node-2.ensures.node in cc) in
    let done = parts_known a R c.args.self.now node c.requires.knows (c.requires.parts node c.node-2.ensures.node) in
    record {
      becomes = IfOk-weaker c.put.result _ _ (λ id p.
          put_replaced a c.put.new.self R name c.args.own node id c.node.ensures.arena c.put.ensures.kept c.node-2.ensures.node (λ i w e. c.in_default.not-Input i w (same ∙ e)) done
          (subst (λ (n : Node). IsPut a c.put.new.self n id) c.in_ok-node.ensures p)) c.put.ensures.put;
      kept = record { kept = c.put.ensures.kept; inputs = c.put.ensures.few.inputs };
    }
