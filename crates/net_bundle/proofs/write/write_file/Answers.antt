use Rattle.std.proofs.Common.{◌∙◌, refl, rules}
use Rattle.net_bundle.specs.NetFileOf.{file_made}
use Rattle.net_bundle.proofs.InOrder.{one_counted, one_stops, one_left}
use Rattle.net_bundle.proofs.write.write_file.Goals as goal

pub returns-in-Err-clause-refused : goal.returns-in-Err-clause-refused
returns-in-Err-clause-refused g c =
    one_stops c.args.out.now (file_made c.args.file c.args.bytes.now) _ _ c.in-Err.fault _ c.requires.fit
    (one_left c.args.out.now (file_made c.args.file c.args.bytes.now) _ _ _ _ (c.as_str.ensures.value ∙ c.in_ok-name.ensures) refl c.in-Err.ensures.err)
    c.in-Err.ensures.never_too_long c.fault_at.ensures.failed c.fault_at.ensures.memory

pub returns-in-Err-clause-failed : goal.returns-in-Err-clause-failed
returns-in-Err-clause-failed g c =
    one_counted g.F.Folder.last_write_fault _ _ c.args.file c.in-Err.fault _
    (search rules) (λ e. (c.in-Err.ensures.no_memory (search rules)).1) c.in-Err.ensures.never_too_long c.fault_at.ensures.failed c.fault_at.ensures.memory
