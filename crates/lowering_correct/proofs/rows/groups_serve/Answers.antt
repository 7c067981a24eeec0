use Rattle.lowering_correct.proofs.Made.{found-runs}
use Rattle.lowering_correct.proofs.Members.{groups-serve, members-fit}
use Rattle.lowering_correct.proofs.rows.groups_serve.Goals as goal

pub returns-clause-groups : goal.returns-clause-groups
returns-clause-groups c = groups-serve

pub returns-clause-members : goal.returns-clause-members
returns-clause-members c = members-fit

pub returns-clause-forks : goal.returns-clause-forks
returns-clause-forks c d places defs made w z s f g m h b l =
    let runs = found-runs d f g w h b in
    (groups-serve d places defs made f g w z s m runs, members-fit d places defs made f g w z l m runs)
