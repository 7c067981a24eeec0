use Rattle.row_search.proofs.laid.known.Goals as goal

pub returns : goal.returns
returns c = record { many = c.in_ok-new.ensures.count; answers = c.in_ok-new.ensures.answers }
