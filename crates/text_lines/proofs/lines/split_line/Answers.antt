use Rattle.std.proofs.Common.{◌∙◌, ◌+◌, ◌∷◌, ap, drop, sym}
use Rattle.text_lines.specs.Lines.{line_bytes}
use Rattle.text_lines.proofs.Splitting.{line_splits}
use Rattle.text_lines.proofs.lines.split_line.Goals as goal

pub returns-clause-lines : goal.returns-clause-lines
returns-clause-lines c =
    let text = c.args.text.now in
    let len = c.len_before-len.result in
    line_splits text len c.requires c.len_before-len.ensures.is
    ∙ ap (λ line. line ∷ line_bytes (drop (len + 1) text)) (sym c.prefix.ensures)
    ∙ ap (λ bs. c.prefix.result.now ∷ line_bytes bs) (sym c.behind.ensures)
