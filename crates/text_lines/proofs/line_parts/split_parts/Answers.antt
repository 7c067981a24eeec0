use Rattle.std.proofs.Common.{rules, ◌∙◌, ◌+◌, ◌∷◌, [], ap, append-nil, drop, map, sym}
use Rattle.text_lines.specs.Lines.{parts_of}
use Rattle.text_lines.proofs.Splitting.{last_part, one_more, part_splits}
use Rattle.text_lines.proofs.line_parts.split_parts.Goals as goal

pub returns-then-len-rest : goal.returns-then-len-rest
returns-then-len-rest c =
    sym (append-nil (map (λ p. p.now) c.push.new.self.items))
    ∙ one_more _ _ c.prefix.result _ [] _ c.in_ok-push.ensures.items c.loop-parts.invariant
    (last_part c.loop-parts.rest.now c.len_before-len.result c.len_before-len.ensures.is c.if-len-rest.true ∙ ap (λ p. p ∷ []) (sym c.prefix.ensures))

pub loop-parts-preserved : goal.loop-parts-preserved
loop-parts-preserved c =
    let rest = c.loop-parts.rest.now in
    let len = c.len_before-len.result in
    one_more _ _ c.prefix.result _ (parts_of c.behind-rest.result.now) _ c.in_ok-push.ensures.items c.loop-parts.invariant
    (part_splits rest len c.len_before-len.ensures.is (search rules)
    ∙ ap (λ p. p ∷ parts_of (drop (len + 1) rest)) (sym c.prefix.ensures)
    ∙ ap (λ bs. c.prefix.result.now ∷ parts_of bs) (sym c.behind-rest.ensures))
