use Rattle.std.proofs.Common.{ap, ap₂, ◌∙◌}
use Rattle.std.proofs.lemmas.Result.{IfOk-weaker}
use Rattle.declarations.specs.NameNumbers.{firsts}
use Rattle.lower_rows.specs.FirstRows.{is_some_true}
use Rattle.lower_rows.specs.Grouping.{lists_of, said_true}
use Rattle.lower_rows.specs.Sets.{grouped_with, row_args}
use Rattle.lower_rows.proofs.Distinct.{firsts-distinct}
use Rattle.lower_rows.proofs.Gathered.{table-gathered}
use Rattle.lower_rows.proofs.table_groups.table_groups.Goals as goal

pub returns : goal.returns
returns c =
    let rows = c.items-rows.result.now in
    let ns = firsts (row_args rows) in
    let holds = c.in_ok-args.ensures in
    let lists = ap lists_of c.deref.ensures.value ∙ holds.lists in
    let members = ap lists_of c.deref-2.ensures.value ∙ c.in_ok-members.ensures ∙ c.in_ok-sets.ensures ns holds (firsts-distinct (row_args rows)) in
    IfOk-weaker c.with_members.result _ _
    (λ groups h. h ∙ ap₂ grouped_with lists members
    ∙ table-gathered c.args.table.now rows c.items-rows.ensures (said_true c.in_ok-first.first) (λ x. ap is_some_true (c.in_ok-first.ensures x)) c.requires)
    c.with_members.ensures
