use Rattle.std.proofs.Common.{◌≡◌, length, map, sym, ◌∙◌}
use Rattle.std.proofs.lemmas.List.{length-map}
use Rattle.p4_ir.specs.NetOf.{key_row_of}
use Rattle.p4_ir.specs.Switch.{table_result}
use Rattle.row_search.proofs.PartFacts.{made_keyed, part_is}
use Rattle.row_search.proofs.parted.laid_part.Goals as goal

pub new-requires : goal.new-requires
new-requires c = made_keyed c.args.count c.args.part c.args.numbers.now c.args.rows.now c.in_ok-placed.placed.rows c.in_ok-placed.ensures.rows c.requires.rows

pub returns-clause-place : goal.returns-clause-place
returns-clause-place c =
    let rows = map key_row_of c.args.rows.now in
    let none : c.in_ok-placed.placed.default ≡ length rows = c.in_ok-placed.ensures.none ∙ sym (length-map c.args.rows.now key_row_of) in
    λ xs l.
    c.in_ok-laid.ensures.answers xs l
    ∙ (λ k. table_result (c.in_ok-placed.ensures.rows k) (none k) xs)
    ∙ part_is c.args.part 0 (length rows) c.args.numbers.now rows xs
