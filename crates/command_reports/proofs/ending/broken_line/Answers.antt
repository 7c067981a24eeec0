use Rattle.std.proofs.Common.{ap, ◌∙◌}
use Rattle.std.specs.Prelude.{Vec, ℕ}
use Rattle.std.specs.declared.alloc.Global.{Global}
use Rattle.command_reports.proofs.Lines.{broken}
use Rattle.command_reports.proofs.ending.broken_line.Goals as goal

pub returns : goal.returns
returns c =
    broken c.args.number c.args.values.now c.into_bytes-line.result.items c.push_list.new.line.items c.push.new.self.items
    (ap (λ (v : Vec ℕ Global). v.items) c.into_bytes-line.ensures.value ∙ c.in_ok-format.ensures.ok) c.in_ok-push_list.ensures c.in_ok-push.ensures.items
