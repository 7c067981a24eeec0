use Rattle.lowering_correct.proofs.RolesFit as laws
use Rattle.lowering_correct.proofs.types.roles_fit.Goals as goal

pub returns-clause-visits : goal.returns-clause-visits
returns-clause-visits c d es h parts is fill defs s port l m packet fits =
    laws.visit_fits d es parts fill s port packet (record { defined = h; parts_are = is; defs_are = defs; switch_fits = l; port_fits = m; packet_fits = fits })

pub returns-clause-exits : goal.returns-clause-exits
returns-clause-exits c d es h parts is fill defs s port l m packet fits =
    laws.visit_exits d es parts fill s port packet (record { defined = h; parts_are = is; defs_are = defs; switch_fits = l; port_fits = m; packet_fits = fits })

pub returns-clause-departures : goal.returns-clause-departures
returns-clause-departures c d es h parts is fill defs s port l m packet fits choices to sent e =
    laws.visit_departs d es parts fill s port packet (record { defined = h; parts_are = is; defs_are = defs; switch_fits = l; port_fits = m; packet_fits = fits }) choices to sent e
