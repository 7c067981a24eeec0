use Rattle.std.proofs.Common.{◌∙◌, map, option_map, subst, sym, ap, inl, refl}
use Rattle.net_bundle.specs.Bundle.{all_switch_files, last_files}
use Rattle.net_bundle.specs.NetFileOf.{made_of}
use Rattle.net_bundle.specs.Writing.{AllFit, NotWritten, with_files}
use Rattle.net_bundle.specs.declared.fault.BundleFault.TheVariants.{NoMemory}
use Rattle.net_bundle.proofs.Fitting.{switches_fit}
use Rattle.net_bundle.proofs.Held.{held}
use Rattle.net_bundle.proofs.InParts.{none_written, stops_first, stops_second, told, written_both}
use Rattle.net_bundle.proofs.InTurn.{both_fit, last_stop, switches_stop}
use Rattle.net_bundle.proofs.write.write_bundle.Goals as goal

pub returns-in_err-shared-clause-refused : goal.returns-in_err-shared-clause-refused
returns-in_err-shared-clause-refused g c = told _ _ NoMemory c.from_residual.ensures.1 (inl refl)

pub keep_switches-requires : goal.keep_switches-requires
keep_switches-requires g c = record { fits = switches_fit (g.N.WritableNet.net c.args.net.now) c.requires.fits; shared = c.in_ok-shared.ensures }

pub returns-in_err-kept-clause-refused : goal.returns-in_err-kept-clause-refused
returns-in_err-kept-clause-refused g c =
    told _ _ c.in_err-kept.field-0.0 c.from_residual-in_err-kept.ensures.1
    (none_written c.args.out.now _ _ _ (switches_stop c.args.design.now (g.N.WritableNet.net c.args.net.now) _ _ c.in_err-kept.ensures.refused))

pub returns-in_err-last-clause-refused : goal.returns-in_err-last-clause-refused
returns-in_err-last-clause-refused g c =
    told _ _ c.in_err-last.field-0.0 c.from_residual-in_err-last.ensures.1
    (none_written c.args.out.now _ _ _ (last_stop c.args.design.now (g.N.WritableNet.net c.args.net.now) _ _ c.in_ok-kept.ensures.fit c.in_err-last.ensures.refused))

pub write_switches-requires : goal.write_switches-requires
write_switches-requires g c = record { fits = switches_fit (g.N.WritableNet.net c.args.net.now) c.requires.fits; shared = c.in_ok-shared.ensures; fit = c.in_ok-kept.ensures.fit }

pub returns-in_err-write_switches-clause-refused : goal.returns-in_err-write_switches-clause-refused
returns-in_err-write_switches-clause-refused g c =
    told _ _ c.in_err-write_switches.field-0.0 c.from_residual-in_err-write_switches.ensures.1
    (stops_first c.args.out.now _ _ _ _ _ (both_fit (all_switch_files (g.N.WritableNet.net c.args.net.now).switches) (last_files c.args.design.now (g.N.WritableNet.net c.args.net.now) (option_map (λ x. x.now) c.args.certificates)) c.in_ok-kept.ensures.fit c.in_ok-last.ensures.fit) c.in_err-write_switches.ensures.refused)

pub write_files-requires : goal.write_files-requires
write_files-requires g c = record { fit = subst AllFit (sym (ap (map made_of) c.deref.ensures.value ∙ c.in_ok-last.ensures.files)) c.in_ok-last.ensures.fit }

pub returns-in_err-write_files-clause-refused : goal.returns-in_err-write_files-clause-refused
returns-in_err-write_files-clause-refused g c =
    let made = ap (map made_of) c.deref.ensures.value ∙ c.in_ok-last.ensures.files in
    told _ _ c.in_err-write_files.field-0.0 c.from_residual-in_err-write_files.ensures.1
    (stops_second c.args.out.now _ _ _ _ _ _ (both_fit (all_switch_files (g.N.WritableNet.net c.args.net.now).switches) (last_files c.args.design.now (g.N.WritableNet.net c.args.net.now) (option_map (λ x. x.now) c.args.certificates)) c.in_ok-kept.ensures.fit c.in_ok-last.ensures.fit) c.in_ok-write_switches.ensures.written
    (subst (λ fs. NotWritten c.args.out.now fs (g.F.Folder.content c.write_switches.new.folder) (g.F.Folder.content c.write_files.new.folder) c.in_err-write_files.field-0.0) made c.in_err-write_files.ensures.refused))

pub returns-clause-written : goal.returns-clause-written
returns-clause-written g c =
    written_both c.args.out.now (all_switch_files (g.N.WritableNet.net c.args.net.now).switches) (last_files c.args.design.now (g.N.WritableNet.net c.args.net.now) (option_map (λ x. x.now) c.args.certificates))
    (g.F.Folder.content c.args.folder.now) (g.F.Folder.content c.write_switches.new.folder) (g.F.Folder.content c.write_files.new.folder) c.in_ok-write_switches.ensures.written
    (c.in_ok-write_files.ensures.written ∙ ap (λ fs. with_files c.args.out.now fs (g.F.Folder.content c.write_switches.new.folder)) (ap (map made_of) c.deref.ensures.value ∙ c.in_ok-last.ensures.files))

pub returns-clause-holds : goal.returns-clause-holds
returns-clause-holds g c =
    held _ _ c.args.out.now c.args.design.now (g.N.WritableNet.net c.args.net.now) (option_map (λ x. x.now) c.args.certificates) c.requires.fits
    (record { switches = c.in_ok-kept.ensures.readable; network = c.in_ok-last.ensures.readable })
    (written_both c.args.out.now (all_switch_files (g.N.WritableNet.net c.args.net.now).switches) (last_files c.args.design.now (g.N.WritableNet.net c.args.net.now) (option_map (λ x. x.now) c.args.certificates))
    (g.F.Folder.content c.args.folder.now) (g.F.Folder.content c.write_switches.new.folder) (g.F.Folder.content c.write_files.new.folder) c.in_ok-write_switches.ensures.written
    (c.in_ok-write_files.ensures.written ∙ ap (λ fs. with_files c.args.out.now fs (g.F.Folder.content c.write_switches.new.folder)) (ap (map made_of) c.deref.ensures.value ∙ c.in_ok-last.ensures.files)))

pub returns-clause-fit : goal.returns-clause-fit
returns-clause-fit g c = both_fit (all_switch_files (g.N.WritableNet.net c.args.net.now).switches) (last_files c.args.design.now (g.N.WritableNet.net c.args.net.now) (option_map (λ x. x.now) c.args.certificates)) c.in_ok-kept.ensures.fit c.in_ok-last.ensures.fit
