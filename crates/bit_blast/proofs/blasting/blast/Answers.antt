use Rattle.std.proofs.Common.{ap, ◌∙◌, ◌+◌, subst, sym}
use Rattle.bv_terms.specs.Arenas.{term_at}
use Rattle.bit_blast.specs.Counts.{total_clauses}
use Rattle.bit_blast.specs.Orders.{IsWalked, terms_of}
use Rattle.bit_blast.proofs.InputFacts.{few-enough, goal-is, goal-walked, too-many, well-named}
use Rattle.bit_blast.proofs.blasting.blast.Goals as goal

pub assemble-requires : goal.assemble-requires
assemble-requires c =
    subst (IsWalked c.args.terms.now c.args.goal) (sym c.deref-2.ensures.value)
    (goal-walked c.args.terms.now c.args.goal c.in_ok-order.order.items c.count.ensures.arena c.requires.there c.requires.truth c.requires.unapplied c.in_ok-order.ensures)

pub returns-then-count-gt-MOST_CLAUSES-clause-fault : goal.returns-then-count-gt-MOST_CLAUSES-clause-fault
returns-then-count-gt-MOST_CLAUSES-clause-fault c =
    too-many c.args.terms.now c.args.goal c.in_ok-order.order.items c.in_ok-count.count
    (goal-walked c.args.terms.now c.args.goal c.in_ok-order.order.items c.count.ensures.arena c.requires.there c.requires.truth c.requires.unapplied c.in_ok-order.ensures)
    (c.in_ok-count.ensures ∙ ap (λ o. total_clauses (terms_of c.args.terms.now o) + 2) c.deref.ensures.value) c.if-count-gt-MOST_CLAUSES.true

pub returns-clause-named : goal.returns-clause-named
returns-clause-named c =
    well-named c.in_ok-assemble.field-0.0 (term_at c.args.terms.now c.args.goal) (goal-is c.args.terms.now c.args.goal c.count.ensures.arena c.requires.there c.requires.truth c.requires.unapplied)
    c.in_ok-assemble.ensures.small c.in_ok-assemble.ensures.clauses

pub returns-clause-few : goal.returns-clause-few
returns-clause-few c =
    few-enough c.args.terms.now c.args.goal c.in_ok-order.order.items c.in_ok-count.count
    (goal-walked c.args.terms.now c.args.goal c.in_ok-order.order.items c.count.ensures.arena c.requires.there c.requires.truth c.requires.unapplied c.in_ok-order.ensures)
    (c.in_ok-count.ensures ∙ ap (λ o. total_clauses (terms_of c.args.terms.now o) + 2) c.deref.ensures.value) c.if-count-gt-MOST_CLAUSES.false
