use Rattle.obligation_tests.proofs.texts.resolved.Goals as goal

pub resolve-requires : goal.resolve-requires
resolve-requires c = (c.args.text.now, c.requires)
