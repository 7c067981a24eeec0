use Rattle.cocoon_syntax.specs.TreeOf.{design_of}
use Rattle.runtime_defs.proofs.Places.{first_rows_there, fits_design}
use Rattle.runtime_defs.proofs.lookup_tables.tables_of.Goals as goal

pub returns-clause-fits : goal.returns-clause-fits
returns-clause-fits c = fits_design (design_of c.args.checked.now) c.args.lookups.now c.in_ok-tables.tables.items c.requires c.in_ok-tables.ensures

pub returns-clause-rows : goal.returns-clause-rows
returns-clause-rows c = first_rows_there (design_of c.args.checked.now) c.args.lookups.now c.in_ok-tables.tables.items c.in_ok-tables.ensures
