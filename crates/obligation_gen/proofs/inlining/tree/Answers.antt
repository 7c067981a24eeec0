use Rattle.std.proofs.Common.{◌≡◌, ℕ, ◌+◌, List, length, map, sym, ap, subst, ◌∙◌}
use Rattle.std.specs.Prelude.{flat_map}
use Rattle.cocoon_resolve.specs.Readers.{all_widths}
use Rattle.cocoon_syntax.specs.TreeOf.{param_of, role_of}
use Rattle.cocoon_types.specs.Design.{widths_of}
use Rattle.bv_terms.specs.Arenas.{KeepsTerms, inputs_in}
use Rattle.bv_terms.proofs.ReplaceFacts.{keeps-both}
use Rattle.role_values.specs.DeclaredWidths.{AllDeclared}
use Rattle.obligation_laws.specs.States.{input_term, inputs_from}
use Rattle.obligation_laws.specs.Leaves.{begins, hops, leaf_of}
use Rattle.symbolic_runs.specs.Reading.{state_of, world_in}
use Rattle.expr_terms.specs.Variables.{MakesAll}
use Rattle.obligation_gen.specs.Bodies.{design_in, new_in}
use Rattle.obligation_gen.specs.ShownTrees.{ShowsInputs, ShowsLeaves}
use Rattle.obligation_gen.proofs.Growing.{inputs_on, makes_all_on}
use Rattle.obligation_gen.proofs.Roots.{Rooted, can_enter, fields_wide, rooted_next, rooted_tree}
use Rattle.obligation_gen.proofs.inlining.tree.Goals as goal

pub param_widths-requires : goal.param_widths-requires
param_widths-requires c =
    let r = role_of c.args.role.now in
    subst (λ ps. AllDeclared (widths_of (map param_of ps))) (sym c.deref.ensures.value)
    (c.role_params_are_declared.ensures (design_in c.args.hops.now) c.design-design.ensures.resolves c.args.hops.now.world.level r.name.text r c.requires.role)

pub new_inputs-requires : goal.new_inputs-requires
new_inputs-requires c =
    let r = role_of c.args.role.now in
    let same : c.deref-2.result.now ≡ widths_of r.params = c.deref-2.ensures.value ∙ c.in_ok-widths.ensures ∙ ap (λ ps. widths_of (map param_of ps)) c.deref.ensures.value in
    subst AllDeclared (sym same) (c.role_params_are_declared.ensures (design_in c.args.hops.now) c.design-design.ensures.resolves c.args.hops.now.world.level r.name.text r c.requires.role)

pub new_inputs-requires-2 : goal.new_inputs-requires-2
new_inputs-requires-2 c = subst AllDeclared (sym c.field_widths.ensures) (c.fields_are_declared.ensures (design_in c.args.hops.now) c.design-design.ensures.resolves)

pub begin-requires-clause-role : goal.begin-requires-clause-role
begin-requires-clause-role c =
    let r = role_of c.args.role.now in
    let first = inputs_in c.args.terms.now in
    let ws = c.deref-2.result.now in
    let same : ws ≡ widths_of r.params = c.deref-2.ensures.value ∙ c.in_ok-widths.ensures ∙ ap (λ ps. widths_of (map param_of ps)) c.deref.ensures.value in
    can_enter c.args.hops.now.world c.new_inputs-2.new.terms r c.bytes-name.result.now c.in_ok-args.args.terms.items first ws c.bytes-name.ensures c.requires.role same
    (makes_all_on c.new_inputs.new.terms c.new_inputs-2.new.terms c.in_ok-args.args.terms.items (map input_term (inputs_from first ws)) c.new_inputs-2.ensures.kept c.in_ok-args.ensures.terms)

pub begin-requires-clause-widths : goal.begin-requires-clause-widths
begin-requires-clause-widths c =
    fields_wide c.new_inputs-2.new.terms c.in_ok-fields.fields.terms.items (inputs_in c.new_inputs.new.terms) c.field_widths.result.now (all_widths (design_in c.args.hops.now).headers) c.field_widths.ensures c.in_ok-fields.ensures.terms

pub returns-in_err-state-clause-kept : goal.returns-in_err-state-clause-kept
returns-in_err-state-clause-kept c =
    let two = keeps-both c.args.terms.now c.new_inputs.new.terms c.new_inputs-2.new.terms c.new_inputs.ensures.kept c.new_inputs-2.ensures.kept in
    keeps-both c.args.terms.now c.new_inputs-2.new.terms c.begin.new.terms two c.begin.ensures.kept

pub returns-in_err-leaves-clause-kept : goal.returns-in_err-leaves-clause-kept
returns-in_err-leaves-clause-kept c =
    let two = keeps-both c.args.terms.now c.new_inputs.new.terms c.new_inputs-2.new.terms c.new_inputs.ensures.kept c.new_inputs-2.ensures.kept in
    let three = keeps-both c.args.terms.now c.new_inputs-2.new.terms c.begin.new.terms two c.begin.ensures.kept in
    keeps-both c.args.terms.now c.begin.new.terms c.hop.new.terms three c.hop.ensures.kept

pub returns-clause-kept : goal.returns-clause-kept
returns-clause-kept c =
    let two = keeps-both c.args.terms.now c.new_inputs.new.terms c.new_inputs-2.new.terms c.new_inputs.ensures.kept c.new_inputs-2.ensures.kept in
    let three = keeps-both c.args.terms.now c.new_inputs-2.new.terms c.begin.new.terms two c.begin.ensures.kept in
    keeps-both c.args.terms.now c.begin.new.terms c.hop.new.terms three c.hop.ensures.kept

-- what is known at the end
rooted : (c : goal.After-drop-widths-2) → Rooted (design_in c.args.hops.now) c.hop.new.terms (world_in c.args.hops.now.world) (all_widths (design_in c.args.hops.now).headers) (new_in c.args.hops.now) c.args.bodies
    (inputs_in c.args.terms.now) (role_of c.args.role.now) c.from.result c.from-2.result c.from-3.result
rooted c =
    let h = c.args.hops.now in
    let d = design_in h in
    let r = role_of c.args.role.now in
    let a = c.args.terms.now in
    let n1 = c.new_inputs.new.terms in
    let n2 = c.new_inputs-2.new.terms in
    let n3 = c.begin.new.terms in
    let n4 = c.hop.new.terms in
    let first = inputs_in a in
    let ws = c.deref-2.result.now in
    let vs = c.field_widths.result.now in
    let own : ws ≡ widths_of r.params = c.deref-2.ensures.value ∙ c.in_ok-widths.ensures ∙ ap (λ ps. widths_of (map param_of ps)) c.deref.ensures.value in
    let all : vs ≡ all_widths d.headers = c.field_widths.ensures in
    let last : KeepsTerms n2 n4 = keeps-both n2 n3 n4 c.begin.ensures.kept c.hop.ensures.kept in
    let args = inputs_on n1 n4 c.in_ok-args.args.numbers.items (inputs_from first ws) (keeps-both n1 n2 n4 c.new_inputs-2.ensures.kept last) c.in_ok-args.ensures.inputs in
    let fields = inputs_on n2 n4 c.in_ok-fields.fields.numbers.items (inputs_from (inputs_in n1) vs) last c.in_ok-fields.ensures.inputs in
    let values : MakesAll n2 c.in_ok-args.args.terms.items (map input_term (inputs_from first ws)) =
    makes_all_on n1 n2 c.in_ok-args.args.terms.items (map input_term (inputs_from first ws)) c.new_inputs-2.ensures.kept c.in_ok-args.ensures.terms in
    record {
      role = c.requires.role;
      second = inputs_in n1;
      third = inputs_in n3;
      second_is = c.in_ok-args.ensures.next ∙ ap (λ xs. first + length xs) own;
      third_is = c.begin.ensures.inputs ∙ c.in_ok-fields.ensures.next ∙ ap (λ xs. inputs_in n1 + length xs) all;
      args_ = subst (λ (p : List ℕ × List ℕ). ShowsInputs n4 p.0 (inputs_from first p.1)) (λ j. (sym c.from.ensures j, own j)) args;
      fields_ = subst (λ (p : List ℕ × List ℕ). ShowsInputs n4 p.0 (inputs_from (inputs_in n1) p.1)) (λ j. (sym c.from-2.ensures j, all j)) fields;
      state = state_of n3 c.in_ok-state.state;
      state_is = c.in_ok-state.ensures.begins
          ∙ (λ j. begins (world_in h.world) (record { role = c.bytes-name.ensures j; values = values.terms j }) (c.in_ok-fields.ensures.terms.terms j))
          ∙ (λ j. begins (world_in h.world) (record { role = r.name.text; values = map input_term (inputs_from first (own j)) }) (map input_term (inputs_from (inputs_in n1) (all j))));
      leaves_ = subst (λ ls. ShowsLeaves d n4 ls (flat_map (leaf_of (new_in h)) (hops (world_in h.world) (new_in h) c.args.bodies (state_of n3 c.in_ok-state.state) (inputs_in n3)).0)) (sym c.from-3.ensures) c.in_ok-leaves.ensures.leaves;
    }

pub returns-clause-tree : goal.returns-clause-tree
returns-clause-tree c =
    rooted_tree (design_in c.args.hops.now) c.hop.new.terms (world_in c.args.hops.now.world) (all_widths (design_in c.args.hops.now).headers) (new_in c.args.hops.now) c.args.bodies
    (inputs_in c.args.terms.now) (role_of c.args.role.now) c.from.result c.from-2.result c.from-3.result (rooted c)

pub returns-clause-next : goal.returns-clause-next
unfolding rooted
returns-clause-next c =
    rooted_next (design_in c.args.hops.now) c.hop.new.terms (world_in c.args.hops.now.world) (all_widths (design_in c.args.hops.now).headers) (new_in c.args.hops.now) c.args.bodies
    (inputs_in c.args.terms.now) (role_of c.args.role.now) c.from.result c.from-2.result c.from-3.result (rooted c) (inputs_in c.hop.new.terms) c.in_ok-leaves.ensures.next
