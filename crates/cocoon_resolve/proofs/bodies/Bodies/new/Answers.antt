use Rattle.std.proofs.Common.{◌≡◌, ℕ, ◌≤◌, arith, length, ◌∷◌, [], ◌++◌, ◌+◌, map, sym, ap, subst, ◌∙◌}
use Rattle.std.proofs.lemmas.List.{length-map}
use Rattle.cocoon_syntax.specs.TreeOf.{decl_of, design_of, refine_of}
use Rattle.cocoon_types.specs.Design.{decls_to}
use Rattle.cocoon_resolve.specs.Kept.{HoldsRow, HoldsRows}
use Rattle.cocoon_resolve.proofs.Rows.{row-first, row-more, row-none, rows-first, rows-more}
use Rattle.cocoon_resolve.proofs.bodies.Bodies.new.Goals as goal

-- the row of level 0
at-first : (c : goal.After-deref-block-items) → HoldsRow (design_of c.args.design.now) (decls_to 0 (design_of c.args.design.now)) c.note_level.new.row.items
at-first c = row-first (design_of c.args.design.now) c.note_level.new.row.items
    (subst (λ ds. HoldsRow (design_of c.args.design.now) (map decl_of ds) c.note_level.new.row.items) c.deref.ensures.value
    (c.in_ok-note_level.ensures [] (row-none (design_of c.args.design.now) c.new-row.result.items)))

pub loop-block-init : goal.loop-block-init
loop-block-init c = record {
  row = at-first c;
  rows = rows-first (design_of c.args.design.now) c.in_ok-copy_of.field-0 c.push.new.self.items
      (subst (λ row. HoldsRow (design_of c.args.design.now) (decls_to 0 (design_of c.args.design.now)) row) (sym (c.in_ok-copy_of.ensures ∙ c.deref-2.ensures.value)) (at-first c))
      (c.in_ok-push.ensures.items ∙ ap (λ l. l ++ c.in_ok-copy_of.field-0 ∷ []) c.new-rows.ensures.items);
}

-- the row of one level more
at-next : (c : goal.In_ok-push-2) → HoldsRow (design_of c.args.design.now) (decls_to (c.loop-block.block-index + 1) (design_of c.args.design.now)) c.note_level-in-loop-block.new.row.items
at-next c = row-more (design_of c.args.design.now) refine_of c.deref-block-items.result.now c.loop-block.block-index c.block-item.result c.note_level-in-loop-block.new.row.items
    (ap (map refine_of) (sym c.deref-block-items.ensures.value)) c.loop-block-test.true c.block-item.is
    (subst (λ ds. HoldsRow (design_of c.args.design.now) (decls_to c.loop-block.block-index (design_of c.args.design.now) ++ map decl_of ds) c.note_level-in-loop-block.new.row.items) c.deref-in-loop-block.ensures.value
    (c.in_ok-note_level-2.ensures (decls_to c.loop-block.block-index (design_of c.args.design.now)) c.loop-block.invariant.row))

pub loop-block-preserved : goal.loop-block-preserved
loop-block-preserved c = record {
  row = at-next c;
  rows = subst (HoldsRows (c.loop-block.block-index + 1) (design_of c.args.design.now)) (sym c.in_ok-push-2.ensures.items)
      (rows-more c.loop-block.block-index (design_of c.args.design.now) c.in_ok-copy_of-2.field-0 c.loop-block.rows.items c.loop-block.invariant.rows
      (subst (λ row. HoldsRow (design_of c.args.design.now) (decls_to (c.loop-block.block-index + 1) (design_of c.args.design.now)) row) (sym (c.in_ok-copy_of-2.ensures ∙ c.deref-in-loop-block-2.ensures.value)) (at-next c)));
}

pub returns : goal.returns
returns c = subst (λ n. HoldsRows n (design_of c.args.design.now) c.loop-block.rows.items)
    (at-end c.loop-block.block-index (length c.deref-block-items.result.now) c.loop-block-test.false c.loop-block.auto.block-index-end
    ∙ ap length c.deref-block-items.ensures.value ∙ sym (length-map c.args.design.now.refines.items refine_of))
    c.loop-block.invariant.rows
  where
    at-end : (i n : ℕ) → n ≤ i → i ≤ n → i ≡ n
    at-end i n h l = omega arith
