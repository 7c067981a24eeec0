use Rattle.command_reports.proofs.design_texts.read_checked.Goals as goal

pub resolve-requires : goal.resolve-requires
resolve-requires c = (c.args.text.now, c.in_ok-design.ensures.reads)
