use Rattle.std.proofs.Common.{ap, ◌∙◌, rules}
use Rattle.std.specs.FinMap as map
use Rattle.cocoon_io.proofs.Held.{placed}
use Rattle.cocoon_io.proofs.honest_folder.HonestFolder.place_file.Goals as goal

pub returns-clause-ok : goal.returns-clause-ok
returns-clause-ok c =
    placed c.self.inside.files c.insert.new.self c.args.name.now c.args.bytes.now c.in_ok-key.key c.in_ok-value.value c.in_ok-insert.ensures.updates (search rules) (search rules)
    ∙ ap (λ m. map.insert m c.args.name.now c.args.bytes.now) c.self.view_is
