use Rattle.std.proofs.Common.{IfErr, subst, ◌∙◌}
use Rattle.command_reports.specs.FileNames.{bundle_in, names_in}
use Rattle.command_reports.specs.declared.files.CommandFile.TheVariants.{Case, Definitions, Packets}
use Rattle.cocoon_cli.specs.Shell.{HasNet, LacksNet, ReadsNot}
use Rattle.command_answers.proofs.Counted.{passed}
use Rattle.cocoon_cli.proofs.Readings.{all_read, no_case, no_definitions, no_design, no_net, no_packets, still_has, still_lacks}
use Rattle.cocoon_cli.proofs.reading.read_all.Goals as goal

pub returns-in_err-design-clause-refused : goal.returns-in_err-design-clause-refused
returns-in_err-design-clause-refused g c =
    let ns = names_in c.args.names.now in
    let before = g.F.Folder.content c.args.folder.now in
    let r = c.in_err-design.field-0.0 in
    passed (λ answer. IfErr answer (ReadsNot ns before)) _ r c.from_residual.ensures.1 (no_design ns before r c.in_err-design.ensures.refused)

pub returns-in_err-definitions-clause-refused : goal.returns-in_err-definitions-clause-refused
returns-in_err-definitions-clause-refused g c =
    let ns = names_in c.args.names.now in
    let before = g.F.Folder.content c.args.folder.now in
    let x = c.in_ok-design.design.items in
    let r = c.in_err-definitions.field-0.0 in
    passed (λ answer. IfErr answer (ReadsNot ns before)) _ r c.from_residual-in_err-definitions.ensures.1
    (no_definitions ns before x r c.in_ok-design.ensures.read (still_lacks ns Definitions r _ before c.in_ok-design.ensures.same c.in_err-definitions.ensures.refused))

pub returns-in_err-case-clause-refused : goal.returns-in_err-case-clause-refused
returns-in_err-case-clause-refused g c =
    let ns = names_in c.args.names.now in
    let before = g.F.Folder.content c.args.folder.now in
    let x = c.in_ok-design.design.items in
    let y = c.in_ok-definitions.definitions.items in
    let r = c.in_err-case.field-0.0 in
    let one = c.in_ok-design.ensures.same in
    let two = c.in_ok-definitions.ensures.same ∙ one in
    passed (λ answer. IfErr answer (ReadsNot ns before)) _ r c.from_residual-in_err-case.ensures.1
    (no_case ns before x y r c.in_ok-design.ensures.read (still_has ns Definitions y _ before one c.in_ok-definitions.ensures.read) (still_lacks ns Case r _ before two c.in_err-case.ensures.refused))

pub returns-in_err-packets-clause-refused : goal.returns-in_err-packets-clause-refused
returns-in_err-packets-clause-refused g c =
    let ns = names_in c.args.names.now in
    let before = g.F.Folder.content c.args.folder.now in
    let x = c.in_ok-design.design.items in
    let y = c.in_ok-definitions.definitions.items in
    let z = c.in_ok-case.case.items in
    let r = c.in_err-packets.field-0.0 in
    let one = c.in_ok-design.ensures.same in
    let two = c.in_ok-definitions.ensures.same ∙ one in
    let three = c.in_ok-case.ensures.same ∙ two in
    passed (λ answer. IfErr answer (ReadsNot ns before)) _ r c.from_residual-in_err-packets.ensures.1
    (no_packets ns before x y z r c.in_ok-design.ensures.read (still_has ns Definitions y _ before one c.in_ok-definitions.ensures.read) (still_has ns Case z _ before two c.in_ok-case.ensures.read)
    (still_lacks ns Packets r _ before three c.in_err-packets.ensures.refused))

pub returns-in_err-net-clause-refused : goal.returns-in_err-net-clause-refused
returns-in_err-net-clause-refused g c =
    let ns = names_in c.args.names.now in
    let before = g.F.Folder.content c.args.folder.now in
    let x = c.in_ok-design.design.items in
    let y = c.in_ok-definitions.definitions.items in
    let z = c.in_ok-case.case.items in
    let w = c.in_ok-packets.packets.items in
    let r = c.in_err-net.field-0.0 in
    let one = c.in_ok-design.ensures.same in
    let two = c.in_ok-definitions.ensures.same ∙ one in
    let three = c.in_ok-case.ensures.same ∙ two in
    let four = c.in_ok-packets.ensures.same ∙ three in
    passed (λ answer. IfErr answer (ReadsNot ns before)) _ r c.from_residual-in_err-net.ensures.1
    (no_net ns before x y z w r (record {
      design = c.in_ok-design.ensures.read;
      definitions = still_has ns Definitions y _ before one c.in_ok-definitions.ensures.read;
      case = still_has ns Case z _ before two c.in_ok-case.ensures.read;
      packets = still_has ns Packets w _ before three c.in_ok-packets.ensures.read;
    }) (subst (λ content. LacksNet content (bundle_in ns) r) four c.in_err-net.ensures.refused))

pub returns-clause-all : goal.returns-clause-all
returns-clause-all g c =
    let ns = names_in c.args.names.now in
    let before = g.F.Folder.content c.args.folder.now in
    let y = c.in_ok-definitions.definitions.items in
    let z = c.in_ok-case.case.items in
    let w = c.in_ok-packets.packets.items in
    let one = c.in_ok-design.ensures.same in
    let two = c.in_ok-definitions.ensures.same ∙ one in
    let three = c.in_ok-case.ensures.same ∙ two in
    let four = c.in_ok-packets.ensures.same ∙ three in
    all_read ns before _ (record {
      design = c.in_ok-design.ensures.read;
      definitions = still_has ns Definitions y _ before one c.in_ok-definitions.ensures.read;
      case = still_has ns Case z _ before two c.in_ok-case.ensures.read;
      packets = still_has ns Packets w _ before three c.in_ok-packets.ensures.read;
    }) (subst (λ content. HasNet content (bundle_in ns) c.in_ok-net.net) four c.in_ok-net.ensures.read)
