use Rattle.row_search.proofs.laid.plain.Goals as goal

pub returns : goal.returns
returns c = record { many = c.in_ok-new.ensures.many; answers = c.in_ok-new.ensures.answers }
