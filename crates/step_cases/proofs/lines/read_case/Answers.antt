use Rattle.std.proofs.Common.{map}
use Rattle.text_lines.specs.LineOf.{line_of}
use Rattle.cocoon_syntax.specs.TreeOf.{design_of}
use Rattle.step_cases.proofs.Fitting.{can_run}
use Rattle.step_cases.proofs.Reading.{is_case}
use Rattle.step_cases.proofs.lines.read_case.Goals as goal

pub returns-clause-runs : goal.returns-clause-runs
returns-clause-runs c =
    can_run c.args.level (design_of c.args.checked.now) (map line_of c.in_ok-lines.lines.filled.items) c.in_ok-lines.lines.count _ c.in_ok-location.ensures.0 c.in_ok-fields.ensures.0
    c.in_ok-location.ensures.1 c.in_ok-fields.ensures.1 c.in_ok-location.ensures.2 c.in_ok-fields.ensures.2

pub returns-clause-read : goal.returns-clause-read
returns-clause-read c =
    let at = c.in_ok-location.ensures.0 in
    let fields = c.in_ok-fields.ensures.0 in
    let choices = c.in_ok-choices.ensures.0 in (
      record { at = at; fields = fields; choices = choices },
      is_case c.args.level (design_of c.args.checked.now) c.args.bytes.now _ c.in_ok-lines.lines.count at fields choices
          c.in_ok-lines.ensures.filled c.in_ok-lines.ensures.count
          c.in_ok-location.ensures.1 c.in_ok-fields.ensures.1 c.in_ok-choices.ensures.1 c.in_ok-no_fourth_line.ensures,
      record { at = c.in_ok-location.ensures.2; fields = c.in_ok-fields.ensures.2; choices = c.in_ok-choices.ensures.2 },
    )
