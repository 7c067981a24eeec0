use Rattle.std.proofs.Common.{◌≡◌, ◌+◌, ◌<◌, ◌≤◌, length, take, sym, ap, subst, ◌∙◌, arith}
use Rattle.cocoon_syntax.specs.TreeOf.{design_of}
use Rattle.bv_terms.specs.Arenas.{term_at}
use Rattle.expr_terms.specs.Scopes.{Takes}
use Rattle.expr_terms.specs.Variables.{Keeps, MakesAll, terms_at}
use Rattle.expr_terms.proofs.Making.{keeps_on, keeps_self, terms_on}
use Rattle.fun_instances.specs.AssumptionTerms.{assumption_term}
use Rattle.query_laws.specs.Tuples.{most_instances}
use Rattle.pattern_instances.specs.Found.{tuple_ids}
use Rattle.pattern_instances.proofs.Making.{all-made, enough-made, first-made, more-made, said_after, takes-at, takes-on}
use Rattle.pattern_instances.proofs.instances.add_instances.Goals as goal

pub loop-at-init : goal.loop-at-init
loop-at-init c = record {
  made = λ a is. first-made c.args.terms.now c.args.made.now.items c.requires.there c.requires.few;
  kept = keeps_self c.args.terms.now;
}

pub assumption_term-requires-clause-takes : goal.assumption_term-requires-clause-takes
assumption_term-requires-clause-takes c = λ a is.
    let old = c.args.terms.now in
    let mid = c.loop-at.terms in
    let v = c.index-tuples-at.result in
    subst (Takes mid a.params) (sym c.deref.ensures.value)
    (takes-on old mid a.params v.items c.loop-at.invariant.kept
    (takes-at (Takes old a.params) c.args.tuples.now (c.requires.takes a is) c.loop-at.at v c.loop-at-test.true c.index-tuples-at.is))

pub returns-in_err-assumption_term-clause-kept : goal.returns-in_err-assumption_term-clause-kept
returns-in_err-assumption_term-clause-kept c =
    keeps_on c.args.terms.now c.loop-at.terms c.assumption_term.new.terms c.loop-at.invariant.kept (record { kept = c.assumption_term.ensures.kept; inputs = c.assumption_term.ensures.inputs })

pub returns-in_err-push-clause-kept : goal.returns-in_err-push-clause-kept
returns-in_err-push-clause-kept c =
    keeps_on c.args.terms.now c.loop-at.terms c.assumption_term.new.terms c.loop-at.invariant.kept (record { kept = c.assumption_term.ensures.kept; inputs = c.assumption_term.ensures.inputs })

pub loop-at-preserved : goal.loop-at-preserved
loop-at-preserved c =
    let d = design_of c.args.checked.now in
    let old = c.args.terms.now in
    let mid = c.loop-at.terms in
    let new = c.assumption_term.new.terms in
    let ids = c.loop-at.made.items in
    let id = c.in_ok-assumption_term.field-0 in
    let vs = c.args.tuples.now in
    let i = c.loop-at.at in
    let v = c.index-tuples-at.result in
    let before = terms_at old c.args.made.now.items in
    let last : Keeps mid new = record { kept = c.assumption_term.ensures.kept; inputs = c.assumption_term.ensures.inputs } in
    let small : length ids < most_instances = (let e = c.len.ensures in let l = c.if-len-lt-MOST_INSTANCES.true in let s = c.loop-at.made.ok.0 in omega (arith, e, l, s)) in
    record {
      made = λ a is.
          let takes = takes-at (Takes old a.params) vs (c.requires.takes a is) i v c.loop-at-test.true c.index-tuples-at.is in
          let says : term_at new id ≡ assumption_term d a (terms_at old v.items) =
          c.in_ok-assumption_term.ensures.term a is ∙ ap (λ xs. assumption_term d a (terms_at mid xs)) c.deref.ensures.value ∙ ap (assumption_term d a) (terms_on old mid v.items c.loop-at.invariant.kept takes.there) in
          subst (λ xs. MakesAll new xs (said_after d a old before (take (i + 1) (tuple_ids vs)))) (sym c.in_ok-push.ensures.items)
          (more-made d a old before mid new ids id vs i v c.loop-at-test.true c.index-tuples-at.is last (c.loop-at.invariant.made a is) small c.in_ok-assumption_term.ensures.there says);
      kept = keeps_on old mid new c.loop-at.invariant.kept last;
    }

pub returns-else-len-lt-MOST_INSTANCES-clause-made : goal.returns-else-len-lt-MOST_INSTANCES-clause-made
returns-else-len-lt-MOST_INSTANCES-clause-made c = λ a is.
    let old = c.args.terms.now in
    let many : most_instances ≤ length c.loop-at.made.items = (let e = c.len.ensures in let l = c.if-len-lt-MOST_INSTANCES.false in let s = c.loop-at.made.ok.0 in omega (arith, e, l, s)) in
    enough-made (design_of c.args.checked.now) a old (terms_at old c.args.made.now.items) c.loop-at.terms c.loop-at.made.items c.args.tuples.now c.loop-at.at many (c.loop-at.invariant.made a is)

pub returns-else-len-lt-MOST_INSTANCES-clause-kept : goal.returns-else-len-lt-MOST_INSTANCES-clause-kept
returns-else-len-lt-MOST_INSTANCES-clause-kept c = c.loop-at.invariant.kept

pub returns-after-loop-at-clause-made : goal.returns-after-loop-at-clause-made
returns-after-loop-at-clause-made c = λ a is.
    let old = c.args.terms.now in
    all-made (design_of c.args.checked.now) a old (terms_at old c.args.made.now.items) c.loop-at.terms c.loop-at.made.items c.args.tuples.now c.loop-at.at
    (let l = c.loop-at-test.false in omega (arith, l)) (c.loop-at.invariant.made a is)

pub returns-after-loop-at-clause-kept : goal.returns-after-loop-at-clause-kept
returns-after-loop-at-clause-kept c = c.loop-at.invariant.kept
