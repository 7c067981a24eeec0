use Rattle.std.proofs.Common.{sym, ap, ◌∙◌}
use Rattle.std.proofs.lemmas.Result.{IfOk-weaker}
use Rattle.bv_terms.specs.Arenas.{parts, term_at}
use Rattle.query_laws.specs.Patterns.{pattern_of}
use Rattle.pattern_instances.proofs.Places.{parts-there, same-pattern}
use Rattle.pattern_instances.proofs.patterns.pattern_of.Goals as goal

pub pattern_at-requires : goal.pattern_at-requires
pattern_at-requires c =
    parts-there c.args.terms.now c.node.ensures.arena c.args.term c.requires c.node.result.now c.node.ensures.node c.items.result.now (ap parts c.in-Apply.is ∙ sym c.items.ensures)

pub returns-in-Apply : goal.returns-in-Apply
returns-in-Apply c =
    IfOk-weaker c.pattern_at.result _ _
    (λ found h. h ∙ same-pattern (term_at c.args.terms.now) c.args.count _ _ _ c.items.result.now c.node.result.now c.in-Apply.is c.items.ensures
    ∙ ap (pattern_of c.args.count) (sym (c.node.ensures.arena.made c.args.term c.node.result.now c.node.ensures.node))) (c.pattern_at.ensures 0)
