-- Cited by `split_lines`, and by all that takes its lines: the line of the definitions that one of the code stands for.
use Rattle.text_lines.specs.Lines.{Line as line}
use Rattle.text_lines.specs.declared.lines.Line.{Line}

abbrev pub line_of : Line → line
line_of l = record { number = l.number; bytes = l.bytes.now }
