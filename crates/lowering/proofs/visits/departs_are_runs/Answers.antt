use Rattle.lowering.proofs.Runs as runs
use Rattle.lowering.proofs.visits.departs_are_runs.Goals as goal

pub returns-clause-taken : goal.returns-clause-taken
returns-clause-taken c w r fill role has s p low fits_p packet fits cs to sent =
    runs.taken_as (record { bodies = c.runs_are_visits.ensures.bodies; copies = c.runs_are_visits.ensures.copies }) w r fill role has s p low fits_p packet fits cs to sent

pub returns-clause-runs : goal.returns-clause-runs
returns-clause-runs c w r fill role has s p low fits_p packet fits cs to sent =
    runs.runs_as (record { bodies = c.runs_are_visits.ensures.bodies; copies = c.runs_are_visits.ensures.copies }) w r fill role has s p low fits_p packet fits c.runs_are_taken.ensures cs to sent
