use Rattle.row_search.proofs.grouped.ordered.Goals as goal

pub returns : goal.returns
returns c = record { many = c.in_ok-in_order.ensures.many; answers = c.in_ok-in_order.ensures.answers }
