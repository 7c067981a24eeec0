use Rattle.refinement.proofs.AllLevels.{one_or_more}
use Rattle.sound_types.proofs.Members.{at_place}
use Rattle.obligation_laws.specs.Obligations.{old_tree, refined_tree}
use Rattle.obligation_laws.proofs.Untrue.{role_of}
use Rattle.obligation_laws.proofs.Fitting.{formula_fits, new_role, part_fits}
use Rattle.obligation_laws.proofs.form_laws.formulas_fit.Goals as goal

pub returns : goal.returns
returns c = record {
  formulas = λ d w l above block at role first n leaf there.
      let tree = refined_tree above d block role first in
      let r = new_role above d role block.within first (one_or_more d w above block at) leaf (at_place tree.leaves n leaf there) in
      formula_fits (old_tree above d block role first) tree leaf (c.leaves_have_widths.ensures.inlined d w l above role r.0 r.1 block.within first n leaf there).cond;
  parts = λ d w l above block at role first n m leaf old there old_there same.
      let tree = refined_tree above d block role first in
      let olds = old_tree above d block role first in
      let r = new_role above d role block.within first (one_or_more d w above block at) leaf (at_place tree.leaves n leaf there) in
      let q = role_of above d role tree.next old (at_place olds.leaves m old old_there) in
      part_fits d w above block at role first tree.next r.0 r.1 leaf (c.leaves_have_widths.ensures.inlined d w l above role r.0 r.1 block.within first n leaf there)
      old m old_there (c.leaves_have_widths.ensures.one_body d w l above role q.0 q.1 tree.next m old old_there) same;
}
