use Rattle.std.proofs.Common.{◌≡◌, ℕ, suc, ◌+◌, ◌≤◌, List, [], ◌∷◌, map, length, true, false, Some, sym, ap, subst, ◌∙◌, arith}
use Rattle.std.specs.List.{AllZip}
use Rattle.std.proofs.lemmas.Result.{on_ok_weaker}
use Rattle.cocoon_num.specs.Sorts.{bits_sort, truth_sort}
use Rattle.cocoon_num.specs.Tree.{HeaderDecl, Param}
use Rattle.cocoon_resolve.specs.Readers.{all_widths}
use Rattle.cocoon_syntax.specs.TreeOf.{design_of, expr_of, exprs_of, header_of, name_of}
use Rattle.cocoon_types.specs.Design.{widths_of}
use Rattle.bv_terms.specs.Arenas.{inputs_in}
use Rattle.bv_terms.specs.TermTrees as term
use Rattle.bv_terms.proofs.ReplaceFacts.{keeps-both}
use Rattle.obligation_laws.specs.Shown.{HasWidth}
use Rattle.expr_terms.specs.Variables.{Makes, MakesAll, terms_at}
use Rattle.obligation_laws.specs.States.{choice_width, guard_term, input_term, where_true, with_choice, with_field, with_variable}
use Rattle.obligation_laws.specs.Following.{chosen_as, next_input, term_at}
use Rattle.symbolic_runs.specs.Fitting.{CanEnter}
use Rattle.symbolic_runs.specs.Reading.{Reads, state_of, world_in}
use Rattle.symbolic_runs.proofs.Growing.{makes_on}
use Rattle.symbolic_runs.proofs.Standing.{follows_one, reads_on}
use Rattle.symbolic_runs.proofs.Stepping.{reads_self, can_require, is_truth, truth_wide, fields_many, chosen_fits, stands_as, unsent_code}
use Rattle.symbolic_runs.proofs.steps.bind_value.Goals as goal

pub term-requires-clause-can : goal.term-requires-clause-can
term-requires-clause-can c =
    let can = c.requires.can.1 in
    (bits_sort c.requires.can.0, record { vars = can.vars; unsent = can.unsent; typed = can.typed.1; stands = can.stands })

pub returns-clause-follows : goal.returns-clause-follows
returns-clause-follows c =
    let a = c.args.terms.now in
    let b = c.term.new.terms in
    let s = c.args.state.now in
    let t = state_of a s in
    let u = term_at (world_in c.args.world.now) t (expr_of c.args.expr.now) in
    let r : Reads b s t = reads_on a b s t c.term.ensures.kept (reads_self a s c.requires.can.1.stands.there) in
    on_ok_weaker c.bind.result
    (λ h. follows_one b c.bind.new.self (with_variable c.args.name.now.text u t) (inputs_in a)
    (subst (λ x. Reads b c.bind.new.self (with_variable x u t)) c.bytes.ensures (h b t u r c.in_ok-term.ensures.made))
    c.term.ensures.inputs)
    c.bind.ensures
