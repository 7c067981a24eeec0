use Rattle.cocoon_syntax.specs.TreeOf.{design_of}
use Rattle.bv_terms.specs.Values.{values_of}
use Rattle.failure_reading.proofs.Read.{begins_by, by_over, by_refuted, fits, none_over, none_refuted, not_fitting}
use Rattle.failure_reading.proofs.reading.failure.Goals as goal

pub returns-then-not-all_within-clause-none : goal.returns-then-not-all_within-clause-none
returns-then-not-all_within-clause-none c = λ none begins.
    absurd (not_fitting (design_of c.args.checked.now) c.args.obligation.now (values_of c.args.values.now.inputs.now c.args.values.now.values.now) c.in_ok-begin.begin c.in_ok-begin.ensures.is
    _ c.if-not-all_within.true _ _ c.field_widths.ensures c.items.ensures c.all_within.ensures begins)

pub refuted-requires-clause-begin : goal.refuted-requires-clause-begin
refuted-requires-clause-begin c =
    fits (design_of c.args.checked.now) c.args.obligation.now c.in_ok-begin.begin c.in_ok-begin.ensures.role c.know_block.ensures.role
    _ _ c.field_widths.ensures c.items.ensures (c.all_within.ensures.0 c.if-not-all_within.false)

pub refuted-requires-clause-refined : goal.refuted-requires-clause-refined
refuted-requires-clause-refined c = c.know_block.ensures.refined c.in_ok-begin.begin c.in_ok-begin.ensures.role

pub returns-in-Contained-clause-fails : goal.returns-in-Contained-clause-fails
returns-in-Contained-clause-fails c =
    by_refuted (design_of c.args.checked.now) c.args.obligation.now c.in_ok-begin.begin c.in_ok-begin.ensures.role c.args.defs c.in-Contained.is
    c.refuted.result c.refuted.ensures.fails c.refuted.ensures.begins

pub returns-in-Contained-clause-begins : goal.returns-in-Contained-clause-begins
returns-in-Contained-clause-begins c =
    begins_by (design_of c.args.checked.now) c.args.obligation.now (values_of c.args.values.now.inputs.now c.args.values.now.values.now)
    c.in_ok-begin.begin c.in_ok-begin.ensures.is c.args.defs c.refuted.result c.refuted.ensures.begins

pub returns-in-Contained-clause-none : goal.returns-in-Contained-clause-none
returns-in-Contained-clause-none c =
    none_refuted (design_of c.args.checked.now) c.args.obligation.now (values_of c.args.values.now.inputs.now c.args.values.now.values.now)
    c.in_ok-begin.begin c.in_ok-begin.ensures.is c.args.defs c.in-Contained.is c.refuted.result c.refuted.ensures.none

pub over-requires-clause-begin : goal.over-requires-clause-begin
over-requires-clause-begin c =
    fits (design_of c.args.checked.now) c.args.obligation.now c.in_ok-begin.begin c.in_ok-begin.ensures.role c.know_block.ensures.role
    _ _ c.field_widths.ensures c.items.ensures (c.all_within.ensures.0 c.if-not-all_within.false)

pub over-requires-clause-refined : goal.over-requires-clause-refined
over-requires-clause-refined c = c.know_block.ensures.refined c.in_ok-begin.begin c.in_ok-begin.ensures.role

pub returns-in-Bounded-clause-fails : goal.returns-in-Bounded-clause-fails
returns-in-Bounded-clause-fails c =
    by_over (design_of c.args.checked.now) c.args.obligation.now c.in_ok-begin.begin c.in_ok-begin.ensures.role c.args.defs c.in-Bounded.is
    c.over.result c.over.ensures.fails c.over.ensures.begins

pub returns-in-Bounded-clause-begins : goal.returns-in-Bounded-clause-begins
returns-in-Bounded-clause-begins c =
    begins_by (design_of c.args.checked.now) c.args.obligation.now (values_of c.args.values.now.inputs.now c.args.values.now.values.now)
    c.in_ok-begin.begin c.in_ok-begin.ensures.is c.args.defs c.over.result c.over.ensures.begins

pub returns-in-Bounded-clause-none : goal.returns-in-Bounded-clause-none
returns-in-Bounded-clause-none c =
    none_over (design_of c.args.checked.now) c.args.obligation.now (values_of c.args.values.now.inputs.now c.args.values.now.values.now)
    c.in_ok-begin.begin c.in_ok-begin.ensures.is c.args.defs c.in-Bounded.is c.over.result c.over.ensures.none
