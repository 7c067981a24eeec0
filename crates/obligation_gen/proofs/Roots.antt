-- Trees from their roots: the inputs of parameters and fields, and the leaves behind them.
use Rattle.std.proofs.Common.{◌≡◌, ℕ, ◌+◌, List, [], length, map, Bool, Option, Some, None, sym, ap, subst, ◌∙◌, arith}
use Rattle.std.specs.Prelude.{flat_map}
use Rattle.std.specs.List.{AllZip}
use Rattle.cocoon_num.specs.Tree.{Param, Role, Design}
use Rattle.cocoon_syntax.specs.TreeOf.{design_of}
use Rattle.cocoon_types.specs.Design.{role_at, widths_of}
use Rattle.bv_terms.specs.declared.node.Node.{Node}
use Rattle.obligation_laws.specs.Shown.{HasWidth}
use Rattle.expr_terms.specs.Variables.{MakesAll, terms_at}
use Rattle.obligation_laws.specs.States.{NewInput, State, TermWorld, input_term, inputs_from}
use Rattle.obligation_laws.specs.Following.{Followed}
use Rattle.obligation_laws.specs.Leaves as laws
use Rattle.obligation_laws.specs.Leaves.{begins, entry_of, hops, leaf_of, params_of, tree_of, tree_with}
use Rattle.symbolic_runs.specs.Fitting.{CanEnter}
use Rattle.symbolic_runs.specs.declared.world.World.{World}
use Rattle.obligation_gen.specs.declared.tree.Leaf.{Leaf}
use Rattle.obligation_gen.specs.ShownTrees.{ShowsInputs, ShowsLeaves, ShowsTree}
use Rattle.obligation_gen.proofs.NewInputs.{count_is, inputs_wide}

abbrev args_of : ℕ → List Param → List NewInput
args_of first ps = inputs_from first (widths_of ps)

abbrev fields_of : ℕ → List Param → List ℕ → List NewInput
fields_of first ps ws = inputs_from (first + length (args_of first ps)) ws

abbrev start_of : TermWorld → List ℕ → ℕ → List Param → List ℕ → State
start_of T role first ps ws = begins T (entry_of role (args_of first ps)) (map input_term (fields_of first ps ws))

abbrev led_of : TermWorld → (List ℕ → Bool) → ℕ → List ℕ → ℕ → List Param → List ℕ → Followed
led_of T new bodies role first ps ws = hops T new bodies (start_of T role first ps ws) (first + length (args_of first ps) + length (fields_of first ps ws))

-- the tree, where these are the parameters of its role
abbrev tree_at : TermWorld → List ℕ → (List ℕ → Bool) → ℕ → List ℕ → ℕ → List Param → laws.Tree
tree_at T ws new bodies role first ps = tree_with new (args_of first ps) (fields_of first ps ws) (led_of T new bodies role first ps ws)

tree_is : (T : TermWorld) (ws : List ℕ) (new : List ℕ → Bool) (bodies : ℕ) (role : List ℕ) (first : ℕ) (r : Role) → T.role role ≡ Some r → tree_of T ws new bodies role first ≡ tree_at T ws new bodies role first r.params
tree_is T ws new bodies role first r e =
    ap (λ (o : Option Role). tree_at T ws new bodies role first (elim o as (λ x. List Param) [ None ↦ [] | Some x ↦ x.params ])) e

fields_are : (first : ℕ) (ps : List Param) (ws : List ℕ) (n : ℕ) → n ≡ first + length (widths_of ps) → inputs_from n ws ≡ fields_of first ps ws
fields_are first ps ws n e = let c = count_is first (widths_of ps) in ap (λ k. inputs_from k ws) (let q : n ≡ first + length (args_of first ps) = omega (arith, e, c) in q)

next_is : (first : ℕ) (ps : List Param) (ws : List ℕ) (n m : ℕ) → n ≡ first + length (widths_of ps) → m ≡ n + length ws → m ≡ first + length (args_of first ps) + length (fields_of first ps ws)
next_is first ps ws n m e h =
    let c = count_is first (widths_of ps) in
    let k = count_is (first + length (args_of first ps)) ws in
    omega (arith, e, h, c, k)

-- What is known where a tree was made: the state in which its ways began, and the leaves behind it.
pub record Rooted (d : Design) (nodes : List Node) (T : TermWorld) (ws : List ℕ) (new : List ℕ → Bool) (bodies first : ℕ) (r : Role) (args fields : List ℕ) (leaves : List Leaf) : Type 0 where
  pub role : T.role r.name.text ≡ Some r
  -- the inputs after the parameters, and after the fields
  pub second : ℕ
  pub third : ℕ
  pub second_is : second ≡ first + length (widths_of r.params)
  pub third_is : third ≡ second + length ws
  pub args_ : ShowsInputs nodes args (inputs_from first (widths_of r.params))
  pub fields_ : ShowsInputs nodes fields (inputs_from second ws)
  pub state : State
  pub state_is : state ≡ begins T (record { role = r.name.text; values = map input_term (inputs_from first (widths_of r.params)) }) (map input_term (inputs_from second ws))
  pub leaves_ : ShowsLeaves d nodes leaves (flat_map (leaf_of new) (hops T new bodies state third).0)

led_is : (d : Design) (nodes : List Node) (T : TermWorld) (ws : List ℕ) (new : List ℕ → Bool) (bodies first : ℕ) (r : Role) (args fields : List ℕ) (leaves : List Leaf)
    → (k : Rooted d nodes T ws new bodies first r args fields leaves) → hops T new bodies k.state k.third ≡ led_of T new bodies r.name.text first r.params ws
led_is d nodes T ws new bodies first r args fields leaves k =
    let fs = fields_are first r.params ws k.second k.second_is in
    let n = next_is first r.params ws k.second k.third k.second_is k.third_is in
    ap (λ s. hops T new bodies s k.third) k.state_is
    ∙ (λ j. hops T new bodies (begins T (entry_of r.name.text (args_of first r.params)) (map input_term (fs j))) (n j))

pub rooted_tree : (d : Design) (nodes : List Node) (T : TermWorld) (ws : List ℕ) (new : List ℕ → Bool) (bodies first : ℕ) (r : Role) (args fields : List ℕ) (leaves : List Leaf)
    → Rooted d nodes T ws new bodies first r args fields leaves
    → ShowsTree d nodes (record { args = args; fields = fields; leaves = leaves }) (tree_of T ws new bodies r.name.text first)
rooted_tree d nodes T ws new bodies first r args fields leaves k =
    subst (ShowsTree d nodes (record { args = args; fields = fields; leaves = leaves })) (sym (tree_is T ws new bodies r.name.text first r k.role)) (record {
      args = k.args_;
      fields = subst (ShowsInputs nodes fields) (fields_are first r.params ws k.second k.second_is) k.fields_;
      leaves = subst (λ (z : Followed). ShowsLeaves d nodes leaves (flat_map (leaf_of new) z.0)) (led_is d nodes T ws new bodies first r args fields leaves k) k.leaves_;
    })

pub rooted_next : (d : Design) (nodes : List Node) (T : TermWorld) (ws : List ℕ) (new : List ℕ → Bool) (bodies first : ℕ) (r : Role) (args fields : List ℕ) (leaves : List Leaf)
    → (k : Rooted d nodes T ws new bodies first r args fields leaves) → (last : ℕ) → last ≡ (hops T new bodies k.state k.third).1 → last ≡ (tree_of T ws new bodies r.name.text first).next
rooted_next d nodes T ws new bodies first r args fields leaves k last e =
    e ∙ ap (λ (z : Followed). z.1) (led_is d nodes T ws new bodies first r args fields leaves k) ∙ ap (λ (t : laws.Tree). t.next) (sym (tree_is T ws new bodies r.name.text first r k.role))

-- ---- what the first state asks

pub can_enter : (w : World) (n : List Node) (r : Role) (name values : List ℕ) (first : ℕ) (ws : List ℕ) → name ≡ r.name.text → role_at w.level (design_of w.checked.now) r.name.text ≡ Some r
    → ws ≡ widths_of r.params → MakesAll n values (map input_term (inputs_from first ws)) → CanEnter w n name values
can_enter w n r name values first ws same declared widths made = record {
  there = made.there;
  fits = record {
    role = r;
    declared = ap (role_at w.level (design_of w.checked.now)) same ∙ declared;
    values = subst (AllZip HasWidth (widths_of r.params)) (sym made.terms) (subst (λ vs. AllZip HasWidth vs (map input_term (inputs_from first ws))) widths (inputs_wide first ws));
  };
}

pub fields_wide : (n : List Node) (ids : List ℕ) (first : ℕ) (ws : List ℕ) (all : List ℕ) → ws ≡ all → MakesAll n ids (map input_term (inputs_from first ws)) → AllZip HasWidth all (terms_at n ids)
fields_wide n ids first ws all same made = subst (AllZip HasWidth all) (sym made.terms) (subst (λ vs. AllZip HasWidth vs (map input_term (inputs_from first ws))) same (inputs_wide first ws))
