use Rattle.lowering_correct.proofs.Followed.{follow}
use Rattle.lowering_correct.proofs.whole.visits_are_followed.Goals as goal

pub returns : goal.returns
returns c = follow (record {
  first = c.found_first.ensures;
  ingress = c.ingress_is.ensures;
  groups = c.groups_serve.ensures.groups;
  members = c.groups_serve.ensures.members;
  logs = c.logs_are_made.ensures;
  tables = c.tables_serve.ensures;
  forms = c.forks_are.ensures.forks;
  names = c.forks_are.ensures.names;
  functions = c.functions_fit.ensures;
  fit = c.roles_fit.ensures.visits;
  departures = c.roles_fit.ensures.departures;
  runs = c.departs_are_runs.ensures.runs;
  served = c.forks_are_served.ensures;
  depart = c.switches_depart.ensures.departs;
  entered = c.starts_fit.ensures.packets;
})
