use Rattle.lowering.proofs.Laws.{Laws}
use Rattle.lowering.proofs.SwitchVisits as visits
use Rattle.lowering.proofs.visits.switches_depart.Goals as goal

pub returns-clause-layout : goal.returns-clause-layout
returns-clause-layout c r s = visits.layout_is r s

pub returns-clause-departs : goal.returns-clause-departs
returns-clause-departs c r fill s rows h tag port bytes cs fits =
    let laws : Laws = record {
      placed = c.all_numbered.ensures.placed;
      forks = c.all_numbered.ensures.forks;
      copies = c.all_numbered.ensures.copies;
      fields = c.all_numbered.ensures.fields;
      settles = c.sites_settle.ensures;
      lists = c.lists_run.ensures;
      ingress = c.ingress_ends.ensures;
      copy = c.copy_ends.ensures;
    } in
    visits.departs_as laws r fill s rows h tag port bytes cs fits
