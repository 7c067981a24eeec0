use Rattle.std.proofs.Common.{List, ℕ, ◌∙◌, sym, subst}
use Rattle.cocoon_syntax.specs.TreeOf.{design_of}
use Rattle.role_meaning.proofs.Sent.{flat_sent}
use Rattle.text_lines.specs.Printing.{Prints}
use Rattle.failures.specs.FailureTexts.{numbers_line}
use Rattle.failures.proofs.leading_lines.push_packet.Goals as goal

pub returns : goal.returns
returns c =
    subst (λ (ns : List ℕ). Prints c.args.out.now (numbers_line c.args.word.now ns) c.push_line.new.out) (c.items.ensures ∙ sym (flat_sent (design_of c.args.checked.now) c.args.packet.now c.requires)) c.push_line.ensures
