use Rattle.std.proofs.Common.{◌≡◌, ℕ, suc, ◌+◌, ◌≤◌, List, [], ◌∷◌, map, length, true, false, Some, sym, ap, subst, ◌∙◌, arith}
use Rattle.std.specs.List.{AllZip}
use Rattle.std.proofs.lemmas.Result.{on_ok_weaker}
use Rattle.cocoon_num.specs.Sorts.{bits_sort, truth_sort}
use Rattle.cocoon_num.specs.Tree.{HeaderDecl, Param}
use Rattle.cocoon_resolve.specs.Readers.{all_widths}
use Rattle.cocoon_syntax.specs.TreeOf.{design_of, expr_of, exprs_of, header_of, name_of}
use Rattle.cocoon_types.specs.Design.{widths_of}
use Rattle.bv_terms.specs.Arenas.{inputs_in}
use Rattle.bv_terms.specs.TermTrees as term
use Rattle.bv_terms.proofs.ReplaceFacts.{keeps-both}
use Rattle.obligation_laws.specs.Shown.{HasWidth}
use Rattle.expr_terms.specs.Variables.{Makes, MakesAll, terms_at}
use Rattle.obligation_laws.specs.States.{choice_width, guard_term, input_term, where_true, with_choice, with_field, with_variable}
use Rattle.obligation_laws.specs.Following.{chosen_as, next_input, term_at}
use Rattle.symbolic_runs.specs.Fitting.{CanEnter}
use Rattle.symbolic_runs.specs.Reading.{Reads, state_of, world_in}
use Rattle.symbolic_runs.proofs.Growing.{makes_on}
use Rattle.symbolic_runs.proofs.Standing.{follows_one, reads_on}
use Rattle.symbolic_runs.proofs.Stepping.{reads_self, can_require, is_truth, truth_wide, fields_many, chosen_fits, stands_as, unsent_code}
use Rattle.symbolic_runs.proofs.steps.set_field.Goals as goal

pub term-requires-clause-can : goal.term-requires-clause-can
term-requires-clause-can c =
    let can = c.requires.can in
    (bits_sort can.typed.0, record { vars = can.vars; unsent = can.unsent; typed = can.typed.2; stands = can.stands })

pub set_field-requires : goal.set_field-requires
set_field-requires c =
    let w = c.args.world.now in
    let a = c.args.terms.now in
    let s = c.args.state.now in
    let can = c.requires.can in
    let headers : map header_of c.deref.result.now ≡ (design_of w.checked.now).headers = ap (map header_of) c.deref.ensures.value ∙ ap (λ x. (design_of x).headers) c.design.ensures.is in
    subst (λ hs. length (all_widths hs) ≤ length s.fields.items) (sym headers) (fields_many w can.vars a s (state_of a s) (reads_self a s can.stands.there) can.stands.fits)

pub returns-clause-follows : goal.returns-clause-follows
returns-clause-follows c =
    let w = c.args.world.now in
    let a = c.args.terms.now in
    let b = c.term.new.terms in
    let s = c.args.state.now in
    let t = state_of a s in
    let u = term_at (world_in w) t (expr_of c.args.expr.now) in
    let r : Reads b s t = reads_on a b s t c.term.ensures.kept (reads_self a s c.requires.can.stands.there) in
    let headers : map header_of c.deref.result.now ≡ (design_of w.checked.now).headers = ap (map header_of) c.deref.ensures.value ∙ ap (λ x. (design_of x).headers) c.design.ensures.is in
    follows_one b c.set_field.new.self (with_field (design_of w.checked.now).headers c.args.header.now.text c.args.field.now.text u t) (inputs_in a)
    (subst (λ (p : List HeaderDecl × List ℕ × List ℕ). Reads b c.set_field.new.self (with_field p.0 p.1 p.2 u t)) (λ j. (headers j, c.bytes-header.ensures j, c.bytes-field.ensures j))
    (c.set_field.ensures b t u r c.in_ok-term.ensures.made))
    c.term.ensures.inputs
