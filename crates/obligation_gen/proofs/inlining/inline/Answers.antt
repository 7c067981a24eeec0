use Rattle.std.proofs.Common.{◌≡◌, suc, ◌-◌, sym, ap, subst, ◌∙◌, arith}
use Rattle.cocoon_resolve.specs.Readers.{all_widths}
use Rattle.cocoon_syntax.specs.TreeOf.{design_of, role_of}
use Rattle.cocoon_types.specs.Design.{role_at}
use Rattle.cocoon_types.specs.Limits.{reported}
use Rattle.bv_terms.specs.Arenas.{inputs_in}
use Rattle.refinement.specs.Segments.{is_new}
use Rattle.obligation_laws.specs.Counts.{leaf_count}
use Rattle.obligation_laws.specs.States.{term_world}
use Rattle.obligation_laws.specs.Leaves as laws
use Rattle.obligation_laws.specs.Leaves.{tree_of}
use Rattle.obligation_gen.specs.ShownTrees.{ShowsTree}
use Rattle.obligation_gen.proofs.RoleNames.{few_enough, role_named, too_many}
use Rattle.obligation_gen.proofs.inlining.inline.Goals as goal

pub returns-then-leaves-gt-MOST_LEAVES-clause-paths : goal.returns-then-leaves-gt-MOST_LEAVES-clause-paths
returns-then-leaves-gt-MOST_LEAVES-clause-paths c = λ name n.
    let d = design_of c.args.checked.now in
    let r = role_of c.role-declared.result.now in
    let same : r.name.text ≡ name = role_named c.args.level d name r (c.role-declared.ensures name n) in
    let up : suc (c.args.level - 1) ≡ c.args.level = let l = c.requires.level.0 in omega (arith, l) in
    let counted : c.in_ok-leaves.leaves ≡ reported (leaf_count (role_at c.args.level d) (is_new (c.args.level - 1) d) c.args.within name) =
    c.in_ok-leaves.ensures ∙ (λ j. reported (leaf_count (role_at (up j) d) (is_new (c.args.level - 1) d) c.args.within ((c.bytes.ensures ∙ same) j))) in
    (counted, too_many c.in_ok-leaves.leaves (leaf_count (role_at c.args.level d) (is_new (c.args.level - 1) d) c.args.within name) counted c.if-leaves-gt-MOST_LEAVES.true)

pub tree-requires-clause-role : goal.tree-requires-clause-role
tree-requires-clause-role c =
    let d = design_of c.args.checked.now in
    let r = role_of c.role-declared.result.now in
    let name = c.requires.role.name in
    let found = c.role-declared.ensures name c.requires.role.number in
    ap (role_at c.args.level d) (role_named c.args.level d name r found) ∙ found

pub returns-in_err-tree-clause-unmade : goal.returns-in_err-tree-clause-unmade
returns-in_err-tree-clause-unmade c = λ name n over.
    let d = design_of c.args.checked.now in
    let r = role_of c.role-declared.result.now in
    let same : r.name.text ≡ name = role_named c.args.level d name r (c.role-declared.ensures name n) in
    let up : suc (c.args.level - 1) ≡ c.args.level = let l = c.requires.level.0 in omega (arith, l) in
    let counted : c.in_ok-leaves.leaves ≡ reported (leaf_count (role_at c.args.level d) (is_new (c.args.level - 1) d) c.args.within name) =
    c.in_ok-leaves.ensures ∙ (λ j. reported (leaf_count (role_at (up j) d) (is_new (c.args.level - 1) d) c.args.within ((c.bytes.ensures ∙ same) j))) in
    let few = few_enough c.in_ok-leaves.leaves (leaf_count (role_at c.args.level d) (is_new (c.args.level - 1) d) c.args.within name) counted (omega (arith, c.if-leaves-gt-MOST_LEAVES.false)) in
    absurd (omega (arith, few, over))

pub returns-clause-tree : goal.returns-clause-tree
returns-clause-tree c = λ name n.
    let d = design_of c.args.checked.now in
    let r = role_of c.role-declared.result.now in
    let same : r.name.text ≡ name = role_named c.args.level d name r (c.role-declared.ensures name n) in
    let up : suc (c.args.level - 1) ≡ c.args.level = let l = c.requires.level.0 in omega (arith, l) in
    let first = inputs_in c.args.terms.now in
    let path : tree_of (term_world c.args.level d) (all_widths d.headers) (is_new (c.args.level - 1) d) c.args.within r.name.text first ≡ laws.inlined (c.args.level - 1) d name c.args.within first =
    λ j. tree_of (term_world (sym up j) d) (all_widths d.headers) (is_new (c.args.level - 1) d) c.args.within (same j) first in
    subst (ShowsTree d c.tree.new.terms c.in_ok-tree.field-0) path c.in_ok-tree.ensures.tree

pub returns-clause-next : goal.returns-clause-next
returns-clause-next c = λ name n.
    let d = design_of c.args.checked.now in
    let r = role_of c.role-declared.result.now in
    let same : r.name.text ≡ name = role_named c.args.level d name r (c.role-declared.ensures name n) in
    let up : suc (c.args.level - 1) ≡ c.args.level = let l = c.requires.level.0 in omega (arith, l) in
    let first = inputs_in c.args.terms.now in
    let path : tree_of (term_world c.args.level d) (all_widths d.headers) (is_new (c.args.level - 1) d) c.args.within r.name.text first ≡ laws.inlined (c.args.level - 1) d name c.args.within first =
    λ j. tree_of (term_world (sym up j) d) (all_widths d.headers) (is_new (c.args.level - 1) d) c.args.within (same j) first in
    c.in_ok-tree.ensures.next ∙ ap (λ (t : laws.Tree). t.next) path

pub returns-clause-few : goal.returns-clause-few
returns-clause-few c = λ name n.
    let d = design_of c.args.checked.now in
    let r = role_of c.role-declared.result.now in
    let same : r.name.text ≡ name = role_named c.args.level d name r (c.role-declared.ensures name n) in
    let up : suc (c.args.level - 1) ≡ c.args.level = let l = c.requires.level.0 in omega (arith, l) in
    let counted : c.in_ok-leaves.leaves ≡ reported (leaf_count (role_at c.args.level d) (is_new (c.args.level - 1) d) c.args.within name) =
    c.in_ok-leaves.ensures ∙ (λ j. reported (leaf_count (role_at (up j) d) (is_new (c.args.level - 1) d) c.args.within ((c.bytes.ensures ∙ same) j))) in
    few_enough c.in_ok-leaves.leaves (leaf_count (role_at c.args.level d) (is_new (c.args.level - 1) d) c.args.within name) counted (omega (arith, c.if-leaves-gt-MOST_LEAVES.false))

pub returns-clause-unmade : goal.returns-clause-unmade
returns-clause-unmade c = λ name n over.
    let d = design_of c.args.checked.now in
    let r = role_of c.role-declared.result.now in
    let same : r.name.text ≡ name = role_named c.args.level d name r (c.role-declared.ensures name n) in
    let up : suc (c.args.level - 1) ≡ c.args.level = let l = c.requires.level.0 in omega (arith, l) in
    let counted : c.in_ok-leaves.leaves ≡ reported (leaf_count (role_at c.args.level d) (is_new (c.args.level - 1) d) c.args.within name) =
    c.in_ok-leaves.ensures ∙ (λ j. reported (leaf_count (role_at (up j) d) (is_new (c.args.level - 1) d) c.args.within ((c.bytes.ensures ∙ same) j))) in
    let few = few_enough c.in_ok-leaves.leaves (leaf_count (role_at c.args.level d) (is_new (c.args.level - 1) d) c.args.within name) counted (omega (arith, c.if-leaves-gt-MOST_LEAVES.false)) in
    absurd (omega (arith, few, over))
