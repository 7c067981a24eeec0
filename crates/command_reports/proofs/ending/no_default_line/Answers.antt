use Rattle.std.proofs.Common.{ap, refl, ◌∙◌}
use Rattle.std.specs.Prelude.{Vec, ℕ}
use Rattle.std.specs.declared.alloc.Global.{Global}
use Rattle.command_reports.proofs.Lines.{no_default}
use Rattle.command_reports.proofs.ending.no_default_line.Goals as goal

pub returns : goal.returns
returns c =
    no_default c.args.file.now c.args.file.now c.args.name.now c.into_bytes-line.result.items c.extend_from_slice.new.self.items c.push.new.self.items refl
    (ap (λ (v : Vec ℕ Global). v.items) c.into_bytes-line.ensures.value ∙ c.in_ok-format.ensures.ok) c.in_ok-extend_from_slice.ensures.items c.in_ok-push.ensures.items
