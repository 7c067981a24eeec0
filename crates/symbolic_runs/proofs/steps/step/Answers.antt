use Rattle.std.proofs.Common.{◌≡◌, ℕ, List, [], ◌∷◌, map, OnOk, rules, sym, subst}
use Rattle.cocoon_num.specs.Tree.{assume, filter, havoc_field, havoc_var, let_, send, set_field}
use Rattle.cocoon_syntax.specs.declared.stmt.StmtKind as kinds
use Rattle.cocoon_syntax.specs.TreeOf.{expr_of, exprs_of, name_of, stmt_of}
use Rattle.bv_terms.specs.Arenas.{inputs_in}
use Rattle.obligation_laws.specs.Following.{follow}
use Rattle.symbolic_runs.specs.Fitting.{CanDo}
use Rattle.symbolic_runs.specs.Reading.{Follows, state_of, world_in}
use Rattle.symbolic_runs.proofs.Stepping.{as_stmt, declared_width}
use Rattle.symbolic_runs.proofs.steps.step.Goals as goal

pub set_field-requires-clause-can : goal.set_field-requires-clause-can
set_field-requires-clause-can c =
    let is : stmt_of c.args.stmt.now ≡ set_field c.args.stmt.now.at (name_of c.in-SetField.header) (name_of c.in-SetField.field) (expr_of c.in-SetField.value) = search (rules, kinds.the_lemmas, c.in-SetField.is) in
    as_stmt c.args.world.now c.args.terms.now c.args.state.now (set_field c.args.stmt.now.at (name_of c.in-SetField.header) (name_of c.in-SetField.field) (expr_of c.in-SetField.value)) (set_field 0 (name_of c.in-SetField.header) (name_of c.in-SetField.field) (expr_of c.in-SetField.value)) (λ scope h. h) (subst (CanDo c.args.world.now c.args.terms.now c.args.state.now) is c.requires.can)

pub choose_field-requires : goal.choose_field-requires
choose_field-requires c =
    let is : stmt_of c.args.stmt.now ≡ havoc_field c.args.stmt.now.at (name_of c.in-HavocField.header) (name_of c.in-HavocField.field) = search (rules, kinds.the_lemmas, c.in-HavocField.is) in
    as_stmt c.args.world.now c.args.terms.now c.args.state.now (havoc_field c.args.stmt.now.at (name_of c.in-HavocField.header) (name_of c.in-HavocField.field)) (havoc_field 0 (name_of c.in-HavocField.header) (name_of c.in-HavocField.field)) (λ scope h. h) (subst (CanDo c.args.world.now c.args.terms.now c.args.state.now) is c.requires.can)
