use Rattle.std.proofs.Common.{◌≡◌, ℕ, List, length, map, option_map, IfOk, sym, ap, subst, ◌∙◌, arith}
use Rattle.cocoon_num.specs.Tree.{HeaderDecl}
use Rattle.cocoon_syntax.specs.declared.decl.Design.{Design as Node}
use Rattle.cocoon_syntax.specs.TreeOf.{design_of, header_of}
use Rattle.cocoon_types.specs.Design.{functions, role_at}
use Rattle.role_meaning.specs.declared.place.Led.{Led}
use Rattle.role_meaning.specs.Located.{loc_of}
use Rattle.role_values.specs.ByTables.{context_by}
use Rattle.role_values.specs.FittingRuns.{fitting_go}
use Rattle.role_values.specs.Flat.{packet_of}
use Rattle.cocoon_resolve.specs.Readers.{all_widths}
use Rattle.role_values.specs.DeclaredWidths.{AllDeclared}
use Rattle.role_meaning.proofs.leading.lead_by_tables.Goals as goal

pub run_role-requires-clause-ready : goal.run_role-requires-clause-ready
run_role-requires-clause-ready c =
    let d = design_of c.args.checked.now in
    let headers : map header_of c.deref.result.now ≡ d.headers = ap (map header_of) (c.deref.ensures.value ∙ ap (λ (n : Node). n.headers.items) c.design-design.ensures.is) in
    let resolves = c.design-design.ensures.resolves in
    record {
      functions = record {
        params = c.declared_widths.ensures.functions d resolves;
        before = (let same : length c.tables.result.now ≡ length (functions d) = ap length c.tables.ensures.are ∙ c.requires.count in omega (arith, same));
        shapes = c.tables.ensures.shapes;
      };
      widths = subst (λ hs. AllDeclared (all_widths hs)) (sym headers) (c.declared_widths.ensures.fields d resolves);
      params = c.declared_widths.ensures.roles d resolves c.args.level;
    }

pub returns-clause-leads : goal.returns-clause-leads
returns-clause-leads c =
    let d = design_of c.args.checked.now in
    let tables = c.args.defs.now in
    let headers : map header_of c.deref.result.now ≡ d.headers = ap (map header_of) (c.deref.ensures.value ∙ ap (λ (n : Node). n.headers.items) c.design-design.ensures.is) in
    let P : List HeaderDecl → ℕ → Type 0 = λ hs n. IfOk c.run_role.result (λ led. option_map (λ (r : Led). (loc_of d r.to, packet_of hs r.packet.fields, r.rest.now)) led
    ≡ fitting_go (record { context = context_by hs tables d n; role = role_at c.args.level d }) (loc_of d c.args.at.now) (packet_of hs c.args.packet.now.fields) c.args.choices.now) in
    subst (λ hs. P hs (length (functions d))) headers (subst (P (map header_of c.deref.result.now)) (ap length c.tables.ensures.are ∙ c.requires.count) c.run_role.ensures.leads)
