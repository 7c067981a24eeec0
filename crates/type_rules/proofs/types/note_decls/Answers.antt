use Rattle.std.proofs.Common.{◌++◌, ◌<◌, ◌≤◌, length, map, rules, refl, subst, sym}
use Rattle.std.specs.Prelude.{option_to_list}
use Rattle.std.proofs.lemmas.List.{drop_all}
use Rattle.cocoon_syntax.specs.TreeOf.{decl_of, design_of}
use Rattle.cocoon_types.specs.Design.{as_function}
use Rattle.cocoon_types.specs.Noting.{Notes}
use Rattle.cocoon_types.specs.Sites.{sites_of}
use Rattle.type_rules.specs.Tests.{in_decls}
use Rattle.type_rules.proofs.DeclSteps.{decls_step}
use Rattle.type_rules.proofs.types.note_decls.Goals as goal

pub loop-decl-init : goal.loop-decl-init
loop-decl-init c = λ level before. (before, λ last h. h)

pub loop-decl-preserved : goal.loop-decl-preserved
loop-decl-preserved c = λ level before.
    let within : c.loop-decl.decl-index < length c.args.decls.now = search rules in
    let held = c.loop-decl.invariant level before in (
      held.0 ++ option_to_list (as_function (decl_of c.decl-item.result)),
      λ last h.
          held.1 last (decls_step c.noting_laws.ensures (design_of c.args.design.now) level held.0 c.args.decls.now c.loop-decl.decl-index c.decl-item.result within c.decl-item.is
          (c.in_ok-note_decl.ensures (held.0, level)) h),
    )

pub returns : goal.returns
returns c = λ level before.
    let all : length c.args.decls.now ≤ c.loop-decl.decl-index = search rules in
    let held = c.loop-decl.invariant level before in
    held.1 c.loop-decl.noted
    (subst (λ xs. Notes (in_decls (sites_of (design_of c.args.design.now) level held.0 (map decl_of xs))) c.loop-decl.noted c.loop-decl.noted) (sym (drop_all c.loop-decl.decl-index c.args.decls.now all))
    (c.noting_laws.ensures.nothing _ c.loop-decl.noted (λ f. refl)))
