use Rattle.std.proofs.Common.{refl}
use Rattle.std.proofs.lemmas.Result.{IfErr-weaker, IfOk-weaker}
use Rattle.shared_net.specs.Shared.{shared_of}
use Rattle.command_answers.specs.Commands.{generated_name}
use Rattle.command_answers.proofs.Generating.{not_unread}
use Rattle.command_answers.proofs.generate.read_back.Goals as goal

pub returns-clause-same : goal.returns-clause-same
returns-clause-same c =
    IfOk-weaker c.read_from.result _ _ (λ read reads. (c.one_reading.ensures _ generated_name).one_network _ _ reads c.in_ok-write_in.ensures.reads) c.read_from.ensures.reads

pub returns-clause-refused : goal.returns-clause-refused
returns-clause-refused c =
    IfErr-weaker c.read_from.result _ _ (λ r h. not_unread c.one_reading.ensures _ (shared_of c.args.net.now) _ r c.in_ok-write_in.ensures.reads h) c.read_from.ensures.refused
