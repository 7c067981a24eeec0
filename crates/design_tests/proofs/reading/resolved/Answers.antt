use Rattle.design_tests.proofs.reading.resolved.Goals as goal

pub resolve-requires : goal.resolve-requires
resolve-requires c = (c.args.text.now, c.requires)
