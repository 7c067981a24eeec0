use Rattle.std.proofs.Common.{◌≡◌, ◌+◌, ◌<◌, ◌≤◌, ℕ, List, Option, Some, None, length, get_or, sym, ap, subst, ◌∙◌}
use Rattle.std.proofs.lemmas.Result.{IfOk-weaker}
use Rattle.bv_terms.specs.declared.node.Node.{Node}
use Rattle.bv_terms.specs.TermTrees as term
use Rattle.bv_terms.specs.TermTrees.{width}
use Rattle.obligation_gen.specs.declared.tree.Leaf.{Leaf}
use Rattle.expr_terms.proofs.Making.{keeps_on, keeps_self}
use Rattle.obligation_gen.specs.Becoming.{Remembers}
use Rattle.obligation_gen.specs.Sent.{role_in}
use Rattle.obligation_gen.specs.declared.last.Last.{Last}
use Rattle.obligation_gen.proofs.KnownTerms.{remembers_on}
use Rattle.obligation_gen.proofs.Gathering.{Gathered, none_gathered, none_left, one_gathered, one_passed, paired_now, some_left, truth_on}
use Rattle.obligation_gen.proofs.comparing.any_part.Goals.{then-role+in_ok-part+in_ok-either, else-role}
use Rattle.obligation_gen.proofs.comparing.any_part.Goals as goal

pub loop-old-init : goal.loop-old-init
loop-old-init c = record {
  gathered = none_gathered c.args.terms.now c.args.old_tree.now c.args.tree.now c.args.leaf.now (keeps_self c.args.terms.now);
  remembers = c.in_ok-last.ensures c.args.terms.now;
}

pub part-requires-clause-paired : goal.part-requires-clause-paired
part-requires-clause-paired c =
    let leaves = c.args.old_tree.now.leaves in
    let i = c.loop-old.old-index in
    let old = c.old-item.result in
    let is : old ≡ get_or leaves i old = c.old-item.is ∙ ap (λ xs. get_or xs i old) c.items-old-items.ensures in
    let l : i < length leaves = subst (λ (xs : List Leaf). i < length xs) c.items-old-items.ensures c.loop-old-test.true in
    let same : role_in old.end ≡ role_in c.args.leaf.now.end = sym c.role.ensures ∙ c.if-role.true ∙ c.role-in-loop-old.ensures in
    paired_now c.args.terms.now c.loop-old.terms c.args.old_tree.now c.args.tree.now c.args.leaf.now c.requires c.loop-old.invariant.gathered.kept.kept i old l is same

pub either-requires-clause-any : goal.either-requires-clause-any
either-requires-clause-any c = truth_on c.loop-old.terms c.part.new.terms c.loop-old.any c.part.ensures.kept.kept c.loop-old.invariant.gathered.truth

pub returns-in_err-part-clause-kept : goal.returns-in_err-part-clause-kept
returns-in_err-part-clause-kept c = keeps_on c.args.terms.now c.loop-old.terms c.part.new.terms c.loop-old.invariant.gathered.kept c.part.ensures.kept

pub returns-in_err-either-clause-kept : goal.returns-in_err-either-clause-kept
returns-in_err-either-clause-kept c =
    keeps_on c.args.terms.now c.part.new.terms c.either.new.terms (keeps_on c.args.terms.now c.loop-old.terms c.part.new.terms c.loop-old.invariant.gathered.kept c.part.ensures.kept) c.either.ensures.kept

pub loop-old-preserved : goal.loop-old-preserved
loop-old-preserved c =
    let start = c.args.terms.now in
    let leaves = c.args.old_tree.now.leaves in
    let i = c.loop-old.old-index in
    let old = c.old-item.result in
    let is : old ≡ get_or leaves i old = c.old-item.is ∙ ap (λ xs. get_or xs i old) c.items-old-items.ensures in
    let l : i < length leaves = subst (λ (xs : List Leaf). i < length xs) c.items-old-items.ensures c.loop-old-test.true in
    elim c.if-role.branch [
      | then-role+in_ok-part+in_ok-either w ↦
          record {
            gathered = subst (λ (p : Option ℕ × List Node). Gathered start p.1 c.args.old_tree.now c.args.tree.now c.args.leaf.now p.0 (i + 1)) (λ j. (sym w.any-is j, sym w.terms-is j))
                (one_gathered start c.loop-old.terms w.part.new.terms w.either.new.terms c.args.old_tree.now c.args.tree.now c.args.leaf.now c.loop-old.any i old w.in_ok-part.part w.in_ok-either.field-0 c.loop-old.invariant.gathered l is
                (sym c.role.ensures ∙ w.if-role.true ∙ c.role-in-loop-old.ensures) w.part.ensures.kept (λ d ot t o lf h. w.in_ok-part.ensures.made d ot t o lf h) w.either.ensures.kept w.in_ok-either.ensures.made w.in_ok-either.ensures.truth);
            remembers = subst (λ (p : List Node × Last). Remembers p.0 p.1) (λ j. (sym w.terms-is j, sym w.last-is j))
                (remembers_on w.part.new.terms w.either.new.terms w.part.new.last w.either.ensures.kept.kept w.in_ok-part.ensures.remembers);
          }
      | else-role w ↦
          record {
            gathered = subst (λ (p : Option ℕ × List Node). Gathered start p.1 c.args.old_tree.now c.args.tree.now c.args.leaf.now p.0 (i + 1)) (λ j. (sym w.any-is j, sym w.terms-is j))
                (one_passed start c.loop-old.terms c.args.old_tree.now c.args.tree.now c.args.leaf.now c.loop-old.any i old c.loop-old.invariant.gathered l is
                (λ same. w.if-role.false (c.role.ensures ∙ same ∙ sym c.role-in-loop-old.ensures)));
            remembers = subst (λ (p : List Node × Last). Remembers p.0 p.1) (λ j. (sym w.terms-is j, sym w.last-is j)) c.loop-old.invariant.remembers;
          }
    ]

pub returns-in-Some-clause-made : goal.returns-in-Some-clause-made
returns-in-Some-clause-made c = λ d old_of of leaf_of h.
    some_left c.args.terms.now c.loop-old.terms c.args.old_tree.now c.args.tree.now c.args.leaf.now c.loop-old.any c.loop-old.old-index c.in-Some.any c.loop-old.invariant.gathered
    (subst (λ (xs : List Leaf). length xs ≤ c.loop-old.old-index) c.items-old-items.ensures c.loop-old-test.false) c.in-Some.is d old_of of leaf_of h

pub returns-clause-made : goal.returns-clause-made
returns-clause-made c = λ d old_of of leaf_of h.
    IfOk-weaker c.constant.result _ _
    (λ id p. record {
      there = p.there;
      term = p.term ∙ (λ j. term.constant (c.new-in-None.ensures.width j) (c.new-in-None.ensures.value j))
          ∙ none_left c.args.terms.now c.loop-old.terms c.args.old_tree.now c.args.tree.now c.args.leaf.now c.loop-old.any c.loop-old.old-index c.loop-old.invariant.gathered
          (subst (λ (xs : List Leaf). length xs ≤ c.loop-old.old-index) c.items-old-items.ensures c.loop-old-test.false) c.in-None.is d old_of of leaf_of h;
    }) c.constant.ensures.put

pub part-requires-clause-remembers : goal.part-requires-clause-remembers
part-requires-clause-remembers c = c.loop-old.invariant.remembers

pub returns-clause-truth : goal.returns-clause-truth
returns-clause-truth c = IfOk-weaker c.constant.result _ _ (λ id p. (p.there, ap width p.term ∙ c.new-in-None.ensures.width)) c.constant.ensures.put

pub returns-clause-kept : goal.returns-clause-kept
returns-clause-kept c =
    keeps_on c.args.terms.now c.loop-old.terms c.constant.new.self c.loop-old.invariant.gathered.kept (record { kept = c.constant.ensures.kept; inputs = c.constant.ensures.few.inputs })
