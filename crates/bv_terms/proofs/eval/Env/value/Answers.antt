use Rattle.std.proofs.Common.{map, ap, sym, ◌∙◌, length}
use Rattle.std.proofs.lemmas.List.{length-map}
use Rattle.bv_terms.specs.Evaluated.{numbers_in, width_in}
use Rattle.bv_terms.proofs.EvalFacts.{parts-there}
use Rattle.bv_terms.proofs.eval.Env.value.Goals as goal

pub input-requires : goal.input-requires
input-requires c = rw c.in-Input.is at c.requires.has

pub look-requires : goal.look-requires
look-requires c =
    let h = rw c.in-Apply.is at c.requires.has in (
      map (width_in c.args.values.now) c.in-Apply.args,
      h,
      ap length (c.deref.ensures.value ∙ c.in_ok-arguments-in-Apply.ensures ∙ ap (numbers_in c.args.values.now) c.items.ensures)
          ∙ length-map _ _ ∙ sym (length-map _ _),
    )

pub part-requires : goal.part-requires
part-requires c = (parts-there c.args.values.now c.args.node.now _ c.in-Not.is c.requires.there).0

pub part-requires-in-Binary : goal.part-requires-in-Binary
part-requires-in-Binary c = (parts-there c.args.values.now c.args.node.now _ c.in-Binary.is c.requires.there).0

pub part-requires-in-Binary-2 : goal.part-requires-in-Binary-2
part-requires-in-Binary-2 c = (parts-there c.args.values.now c.args.node.now _ c.in-Binary.is c.requires.there).1.0

pub part-requires-in-Pick-2 : goal.part-requires-in-Pick-2
part-requires-in-Pick-2 c = (parts-there c.args.values.now c.args.node.now _ c.in-Pick.is c.requires.there).1.0
