use Rattle.std.proofs.Common.{◌++◌, ◌<◌, ◌≤◌, length, map, rules, refl, subst, sym}
use Rattle.std.specs.Prelude.{option_to_list}
use Rattle.std.proofs.lemmas.List.{drop_all}
use Rattle.cocoon_syntax.specs.TreeOf.{decl_of, design_of}
use Rattle.cocoon_types.specs.Design.{as_function, functions}
use Rattle.cocoon_types.specs.Noting.{Notes}
use Rattle.cocoon_types.specs.Sites.{sites_of}
use Rattle.name_rules.specs.Tests.{in_decls}
use Rattle.name_rules.proofs.DeclSteps.{count_more, decls_step, longer, moved}
use Rattle.name_rules.proofs.uses.note_decls.Goals as goal

pub loop-decl-init : goal.loop-decl-init
loop-decl-init c = record {
  level = refl;
  count = refl;
  noted = λ before after same all. (before, same, all, λ last h. h);
}

pub loop-decl-preserved : goal.loop-decl-preserved
loop-decl-preserved c =
    let within : c.loop-decl.decl-index < length c.args.decls.now = search rules in
    let x = c.decl-item.result in
    let i = c.loop-decl.decl-index in
    let ds = c.args.decls.now in
    record {
      level = c.loop-decl.invariant.level;
      count = count_more ds i x c.loop-decl.point.functions _ _ within c.decl-item.is c.in_ok-point.ensures c.loop-decl.invariant.count;
      noted = λ before after same all.
          let held = c.loop-decl.invariant.noted before after same all in (
            held.0 ++ option_to_list (as_function (decl_of x)),
            longer c.loop-decl.point.functions _ held.0 (option_to_list (as_function (decl_of x))) held.1 c.in_ok-point.ensures,
            moved ds i x (functions (design_of c.args.design.now)) held.0 after within c.decl-item.is held.2,
            λ last h.
                held.3 last
                (decls_step c.noting_laws.ensures (design_of c.args.design.now) c.loop-decl.point c.args.start.level held.0 after ds i x within c.decl-item.is
                c.loop-decl.invariant.level held.1 held.2 c.in_ok-note_decl.ensures h),
          );
    }

pub returns-clause-noted : goal.returns-clause-noted
returns-clause-noted c = λ before after same all.
    let end : length c.args.decls.now ≤ c.loop-decl.decl-index = search rules in
    let held = c.loop-decl.invariant.noted before after same all in
    held.3 c.loop-decl.noted
    (subst (λ xs. Notes (in_decls (sites_of (design_of c.args.design.now) c.args.start.level held.0 (map decl_of xs))) c.loop-decl.noted c.loop-decl.noted) (sym (drop_all c.loop-decl.decl-index c.args.decls.now end))
    (c.noting_laws.ensures.nothing _ c.loop-decl.noted (λ f. refl)))
