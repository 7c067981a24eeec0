use Rattle.command_answers.proofs.Generating.{written_back}
use Rattle.command_answers.proofs.generate.write_in.Goals as goal

pub returns-in-Ok-clause-reads : goal.returns-in-Ok-clause-reads
returns-in-Ok-clause-reads c =
    written_back c.written_reads_back.ensures _ _ c.args.design.now _ _ _ c.bytes_in.ensures c.in-Ok.ensures.written c.in-Ok.ensures.fit c.in-Ok.ensures.holds
