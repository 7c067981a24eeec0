use Rattle.lowering_fits.proofs.Programs as laws
use Rattle.lowering_fits.proofs.kinds.programs_are_kinded.Goals as goal

pub returns : goal.returns
returns c d w l wide params spelled parts is s fits few_tables few_sites few_made =
    laws.programs_are_kinded d w l wide params spelled parts is s fits (c.logs_are_made.ensures d parts s w is) few_tables few_sites few_made
