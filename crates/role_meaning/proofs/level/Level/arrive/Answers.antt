use Rattle.std.proofs.Common.{◌≡◌, true, Option, Some, IfSome, option_map, sym, ap, subst, ◌∙◌, Bor}
use Rattle.std.proofs.lemmas.Result.{IfOk-weaker}
use Rattle.cocoon_resolve.specs.Readers.{HasRole}
use Rattle.cocoon_syntax.specs.declared.decl.Role.{Role as Node}
use Rattle.cocoon_syntax.specs.TreeOf.{design_of, role_of}
use Rattle.cocoon_types.specs.Design.{role_at}
use Rattle.declarations.proofs.ReaderFacts.{role-none}
use Rattle.declarations.specs.Declares.{role_number}
use Rattle.role_meaning.specs.Levels.{design_at, world_at}
use Rattle.role_meaning.specs.Located.{loc_of}
use Rattle.role_meaning.specs.declared.place.Loc.{Loc}
use Rattle.role_meaning.proofs.Guards.{arrived_is, entered_words, latest, not_arrived, role_name_of}
use Rattle.role_meaning.proofs.level.Level.arrive.Goals as goal

pub returns-in_default-clause-arrives : goal.returns-in_default-clause-arrives
returns-in_default-clause-arrives c =
    let l = c.args.self.now in
    not_arrived (world_at l) c.args.name.now c.args.values.now
    (role-none c.names-names.result.now.decls.roles (design_at l) c.names-names.ensures.decls.roles l.number c.args.name.now (sym c.role_of.ensures ∙ c.in_default.is))

pub admits-requires-clause-params : goal.admits-requires-clause-params
admits-requires-clause-params c =
    let l = c.args.self.now in
    let r = c.in-Some-role.role.now in
    let number : role_number (design_at l) c.args.name.now ≡ Some c.in-Some.number = sym c.role_of.ensures ∙ c.in-Some.is in
    let at : role_at l.number (design_at l) c.args.name.now ≡ Some (role_of r) =
    latest (λ (b : Bor Node). role_of b.now) (design_of c.design.result.now) (design_at l) l.number c.args.name.now c.in-Some.number c.role.result c.in-Some-role.role (ap design_of c.design.ensures.is) number c.role.ensures c.in-Some-role.is in
    c.requires.params c.args.name.now (role_of r) at

pub located-requires : goal.located-requires
located-requires c =
    let l = c.args.self.now in
    let r = c.in-Some-role.role.now in
    let number : role_number (design_at l) c.args.name.now ≡ Some c.in-Some.number = sym c.role_of.ensures ∙ c.in-Some.is in
    let at : role_at l.number (design_at l) c.args.name.now ≡ Some (role_of r) =
    latest (λ (b : Bor Node). role_of b.now) (design_of c.design.result.now) (design_at l) l.number c.args.name.now c.in-Some.number c.role.result c.in-Some-role.role (ap design_of c.design.ensures.is) number c.role.ensures c.in-Some-role.is in
    entered_words (world_at l) (role_of r) c.args.values.now (c.requires.params c.args.name.now (role_of r) at) (sym c.in_ok-admits.ensures ∙ c.if-branch.true)

pub returns-then-branch-clause-arrives : goal.returns-then-branch-clause-arrives
returns-then-branch-clause-arrives c =
    let l = c.args.self.now in
    let d = design_at l in
    let ns = c.args.values.now in
    let r = c.in-Some-role.role.now in
    let number : role_number d c.args.name.now ≡ Some c.in-Some.number = sym c.role_of.ensures ∙ c.in-Some.is in
    let at : role_at l.number d c.args.name.now ≡ Some (role_of r) =
    latest (λ (b : Bor Node). role_of b.now) (design_of c.design.result.now) d l.number c.args.name.now c.in-Some.number c.role.result c.in-Some-role.role (ap design_of c.design.ensures.is) number c.role.ensures c.in-Some-role.is in
    IfOk-weaker c.located.result _ _
    (λ found h.
    ap (option_map (loc_of d)) h ∙ ap (λ x. Some (record { role = x; values = ns })) (role_name_of d c.args.name.now c.in-Some.number number)
    ∙ sym (arrived_is (world_at l) c.args.name.now ns (role_of r) true at (sym c.if-branch.true ∙ c.in_ok-admits.ensures)))
    c.located.ensures

pub returns-then-branch-clause-role : goal.returns-then-branch-clause-role
returns-then-branch-clause-role c =
    let l = c.args.self.now in
    let d = design_at l in
    let r = c.in-Some-role.role.now in
    let number : role_number d c.args.name.now ≡ Some c.in-Some.number = sym c.role_of.ensures ∙ c.in-Some.is in
    let at : role_at l.number d c.args.name.now ≡ Some (role_of r) =
    latest (λ (b : Bor Node). role_of b.now) (design_of c.design.result.now) d l.number c.args.name.now c.in-Some.number c.role.result c.in-Some-role.role (ap design_of c.design.ensures.is) number c.role.ensures c.in-Some-role.is in
    let has : HasRole d c.in-Some.number l.number = record { name = c.args.name.now; number = number; latest = role_of r; declared = at } in
    IfOk-weaker c.located.result _ _ (λ found h. subst (λ (o : Option Loc). IfSome o (λ x. HasRole d x.role l.number)) (sym h) has) c.located.ensures
