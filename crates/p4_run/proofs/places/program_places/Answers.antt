use Rattle.std.proofs.Common.{◌≡◌, [], ◌++◌, map, sym, ◌∙◌, subst}
use Rattle.std.proofs.lemmas.List.{map-append}
use Rattle.numbering.specs.NumberPlaces.{HasPlaces}
use Rattle.p4_ir.specs.Loading.{all_tables}
use Rattle.p4_ir.specs.P4Kinds.{numbers_of}
use Rattle.p4_ir.specs.P4Tree.{P4Table}
use Rattle.p4_ir.specs.Program.{program_of, table_of}
use Rattle.p4_run.proofs.places.program_places.Goals as goal

pub returns : goal.returns
returns c =
    let p = c.args.program.now in
    let ingress = numbers_of (map table_of c.items.result.now) in
    let egress = numbers_of (map table_of c.items-2.result.now) in
    let both : ingress ++ egress ≡ numbers_of (all_tables (program_of p)) =
    (λ i. numbers_of (map table_of (c.items.ensures i)) ++ numbers_of (map table_of (c.items-2.ensures i)))
    ∙ sym (map-append (λ (t : P4Table). t.number) (map table_of p.ingress.tables) (map table_of p.egress.tables)) in
    subst (HasPlaces c.append_tables-2.new.places) both
    (c.in_ok-append_tables-2.ensures ingress (c.in_ok-append_tables.ensures [] c.new-places.ensures))
