use Rattle.std.proofs.Common.{[], ◌++◌, map, refl, subst}
use Rattle.cocoon_syntax.specs.TreeOf.{decl_of, design_of, refine_of}
use Rattle.cocoon_types.specs.Design.{all_decls}
use Rattle.form_rules.specs.BodyFaults.{is_body_fault}
use Rattle.form_rules.specs.Walked.{Walked, block_decls, in_roles, role_names_in}
use Rattle.form_rules.proofs.RoleFacts.{of-bodies}
use Rattle.form_rules.proofs.WalkFacts.{level-more, whole}
use Rattle.form_rules.proofs.bodies.note_bodies.Goals as goal

pub returns : goal.returns
returns c =
    let d = design_of c.args.design.now in
    let start = c.args.noted.now in
    let none : Walked d c.new-seen.result [] start start = record { names = c.new-seen.ensures; noted = c.noting_laws.ensures.nothing (in_roles d []) start (λ f. refl) } in
    let first = subst (λ l. Walked d c.note_level.new.seen (role_names_in (map decl_of l)) start c.note_level.new.noted) c.deref.ensures.value (c.in_ok-note_level.ensures [] start none) in
    let all = subst (λ l. Walked d c.note_blocks.new.seen (role_names_in d.decls ++ role_names_in (block_decls (map refine_of l))) start c.note_blocks.new.noted) c.deref-2.ensures.value
    (c.in_ok-note_blocks.ensures (role_names_in d.decls) start first) in
    let walked = level-more d c.note_blocks.new.seen [] d.decls (block_decls d.refines) (all_decls d) (whole d) all in
    c.noting_laws.ensures.alike (in_roles d (role_names_in (all_decls d))) (is_body_fault d) start c.note_blocks.new.noted (of-bodies d) walked.noted
