use Rattle.std.proofs.Common.{refl, ◌∙◌, ap}
use Rattle.std.specs.Prelude.{Err}
use Rattle.command_reports.specs.Report.{all, a_prefix, nothing}
use Rattle.command_reports.proofs.printing.put.Goals as goal

pub returns-in-Ok : goal.returns-in-Ok
returns-in-Ok g c = all refl c.in-Ok.ensures.ok

pub returns-in-Err-Failed : goal.returns-in-Err-Failed
returns-in-Err-Failed g c = a_prefix refl (c.put.ensures.failed (c.in-Err-Failed.is ∙ ap Err c.in-Err-Failed.field-0-is)) (c.put.ensures.prefix (c.in-Err-Failed.is ∙ ap Err c.in-Err-Failed.field-0-is))

pub returns-in-Err-NoMemory : goal.returns-in-Err-NoMemory
returns-in-Err-NoMemory g c = nothing refl (c.put.ensures.no_memory (c.in-Err-NoMemory.is ∙ ap Err c.in-Err-NoMemory.field-0-is)).0
