use Rattle.std.proofs.Common.{◌+◌, ◌≤◌, length, drop, option_map, length-drop, sym, ap, ◌∙◌, arith}
use Rattle.cocoon_num.specs.Tokens as tokens
use Rattle.lexing.proofs.Runs.{comment_goes_on, counted, stays_open}
use Rattle.lexing.proofs.bytes.comment_len.Goals as goal

pub loop-len-preserved : goal.loop-len-preserved
loop-len-preserved c =
    let len = c.loop-len.len in
    let text = c.args.text.now in
    record {
      within = omega arith;
      rest = c.loop-len.invariant.rest ∙ ap (λ end. option_map (λ n. len + n) end) (comment_goes_on text len (omega arith) (sym c.if-ends_comment.ensures)) ∙ counted len (tokens.comment_end (drop (len + 1) text));
    }

pub returns-clause-is : goal.returns-clause-is
returns-clause-is c =
    let len = c.loop-len.len in
    let text = c.args.text.now in
    let short : length (drop len text) ≤ 1 = omega (arith, length-drop len text) in
    sym (c.loop-len.invariant.rest ∙ ap (λ end. option_map (λ n. len + n) end) (stays_open (drop len text) short))
