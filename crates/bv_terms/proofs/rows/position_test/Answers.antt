use Rattle.std.proofs.Common.{subst, sym, ◌≤◌}
use Rattle.bv_terms.specs.Arenas.{term_at}
use Rattle.bv_terms.proofs.Growing.{grows-both}
use Rattle.bv_terms.proofs.Widths.{is-width}
use Rattle.bv_terms.proofs.rows.position_test.Goals as goal

pub new-requires-clause-wide : goal.new-requires-clause-wide
new-requires-clause-wide c =
    subst (λ w. 1 ≤ w) (sym c.width-width.ensures) (is-width (term_at c.args.terms.now c.args.arg) (c.count.ensures.arena.terms c.args.arg c.requires.there)).0

pub new-requires-clause-narrow : goal.new-requires-clause-narrow
new-requires-clause-narrow c =
    subst (λ w. w ≤ 128) (sym c.width-width.ensures) (is-width (term_at c.args.terms.now c.args.arg) (c.count.ensures.arena.terms c.args.arg c.requires.there)).1

pub returns-clause-grown : goal.returns-clause-grown
returns-clause-grown c =
    grows-both _ _ _ (grows-both _ _ _ c.number.ensures.grown c.joined.ensures.grown) (grows-both _ _ _ c.number-2.ensures.grown c.joined-2.ensures.grown)
