use Rattle.std.proofs.Common.{◌≡◌, ℕ, suc, ◌+◌, ◌≤◌, List, [], ◌∷◌, map, length, true, false, Some, sym, ap, subst, ◌∙◌, arith}
use Rattle.std.specs.List.{AllZip}
use Rattle.std.proofs.lemmas.Result.{on_ok_weaker}
use Rattle.cocoon_num.specs.Sorts.{bits_sort, truth_sort}
use Rattle.cocoon_num.specs.Tree.{HeaderDecl, Param}
use Rattle.cocoon_resolve.specs.Readers.{all_widths}
use Rattle.cocoon_syntax.specs.TreeOf.{design_of, expr_of, exprs_of, header_of, name_of}
use Rattle.cocoon_types.specs.Design.{widths_of}
use Rattle.bv_terms.specs.Arenas.{inputs_in}
use Rattle.bv_terms.specs.TermTrees as term
use Rattle.bv_terms.proofs.ReplaceFacts.{keeps-both}
use Rattle.obligation_laws.specs.Shown.{HasWidth}
use Rattle.expr_terms.specs.Variables.{Makes, MakesAll, terms_at}
use Rattle.obligation_laws.specs.States.{choice_width, guard_term, input_term, where_true, with_choice, with_field, with_variable}
use Rattle.obligation_laws.specs.Following.{chosen_as, next_input, term_at}
use Rattle.symbolic_runs.specs.Fitting.{CanEnter}
use Rattle.symbolic_runs.specs.Reading.{Reads, state_of, world_in}
use Rattle.symbolic_runs.proofs.Growing.{makes_on}
use Rattle.symbolic_runs.proofs.Standing.{follows_one, reads_on}
use Rattle.symbolic_runs.proofs.Stepping.{reads_self, can_require, is_truth, truth_wide, fields_many, chosen_fits, chosen_part, stands_as, unsent_code}
use Rattle.symbolic_runs.proofs.Standing.{unsent_read}
use Rattle.symbolic_runs.proofs.steps.enter_fork.Goals as goal

pub term-requires-clause-can : goal.term-requires-clause-can
term-requires-clause-can c =
    let w = c.args.world.now in
    let a = c.args.terms.now in
    let b = c.choose.new.terms in
    let s = c.args.state.now in
    let t = state_of a s in
    let can = c.requires.can in
    let n = inputs_in a in
    let i = next_input n c.args.width in
    let x = name_of c.args.name.now in
    let z = chosen_as x.text i t in
    let two = c.bind.new.self in
    let r : Reads b two z = subst (λ y. Reads b two (chosen_as y i t)) c.bytes.ensures
    (c.in_ok-bind.ensures b (with_choice i t) (input_term i) (c.in_ok-term.ensures.reads t (reads_self a s can.stands.there)) c.in_ok-term.ensures.made) in
    let none = unsent_read a s can.unsent in
    let vars : List Param = record { name = x; width = c.args.width } ∷ can.vars in (
      truth_sort,
      record {
        vars = vars;
        unsent = unsent_code b two z r none;
        typed = can.typed.1;
        stands = stands_as w b vars two z r (chosen_fits w c.requires.ready can.vars x c.args.width n t none can.stands.fits);
      },
    )

pub require-requires-clause-there : goal.require-requires-clause-there
require-requires-clause-there c = (chosen_part c.args.world.now c.requires.ready c.args.terms.now c.choose.new.terms c.term.new.terms c.args.state.now c.bind.new.self (name_of c.args.name.now) c.args.width (expr_of c.args.condition.now) c.in_ok-part.part
    c.requires.can
    (subst (λ y. Reads c.choose.new.terms c.bind.new.self (chosen_as y (next_input (inputs_in c.args.terms.now) c.args.width) (state_of c.args.terms.now c.args.state.now))) c.bytes.ensures
    (c.in_ok-bind.ensures c.choose.new.terms (with_choice (next_input (inputs_in c.args.terms.now) c.args.width) (state_of c.args.terms.now c.args.state.now)) (input_term (next_input (inputs_in c.args.terms.now) c.args.width))
    (c.in_ok-term.ensures.reads (state_of c.args.terms.now c.args.state.now) (reads_self c.args.terms.now c.args.state.now c.requires.can.stands.there)) c.in_ok-term.ensures.made))
    c.term.ensures.kept c.in_ok-part.ensures.made).can.0

pub require-requires-clause-truths : goal.require-requires-clause-truths
require-requires-clause-truths c = (chosen_part c.args.world.now c.requires.ready c.args.terms.now c.choose.new.terms c.term.new.terms c.args.state.now c.bind.new.self (name_of c.args.name.now) c.args.width (expr_of c.args.condition.now) c.in_ok-part.part
    c.requires.can
    (subst (λ y. Reads c.choose.new.terms c.bind.new.self (chosen_as y (next_input (inputs_in c.args.terms.now) c.args.width) (state_of c.args.terms.now c.args.state.now))) c.bytes.ensures
    (c.in_ok-bind.ensures c.choose.new.terms (with_choice (next_input (inputs_in c.args.terms.now) c.args.width) (state_of c.args.terms.now c.args.state.now)) (input_term (next_input (inputs_in c.args.terms.now) c.args.width))
    (c.in_ok-term.ensures.reads (state_of c.args.terms.now c.args.state.now) (reads_self c.args.terms.now c.args.state.now c.requires.can.stands.there)) c.in_ok-term.ensures.made))
    c.term.ensures.kept c.in_ok-part.ensures.made).can.1

pub returns-clause-enters : goal.returns-clause-enters
returns-clause-enters c =
    let part = chosen_part c.args.world.now c.requires.ready c.args.terms.now c.choose.new.terms c.term.new.terms c.args.state.now c.bind.new.self (name_of c.args.name.now) c.args.width (expr_of c.args.condition.now) c.in_ok-part.part
    c.requires.can
    (subst (λ y. Reads c.choose.new.terms c.bind.new.self (chosen_as y (next_input (inputs_in c.args.terms.now) c.args.width) (state_of c.args.terms.now c.args.state.now))) c.bytes.ensures
    (c.in_ok-bind.ensures c.choose.new.terms (with_choice (next_input (inputs_in c.args.terms.now) c.args.width) (state_of c.args.terms.now c.args.state.now)) (input_term (next_input (inputs_in c.args.terms.now) c.args.width))
    (c.in_ok-term.ensures.reads (state_of c.args.terms.now c.args.state.now) (reads_self c.args.terms.now c.args.state.now c.requires.can.stands.there)) c.in_ok-term.ensures.made))
    c.term.ensures.kept c.in_ok-part.ensures.made in
    on_ok_weaker c.require.result (λ h. h _ _ part.reads part.made) c.require.ensures.reads

pub returns-clause-kept : goal.returns-clause-kept
returns-clause-kept c =
    let b1 = c.choose.new.terms in
    let b2 = c.term.new.terms in
    let b3 = c.require.new.terms in
    keeps-both c.args.terms.now b1 b3 c.choose.ensures.kept (keeps-both b1 b2 b3 c.term.ensures.kept c.require.ensures.kept)

pub returns-in_err-part-clause-kept : goal.returns-in_err-part-clause-kept
returns-in_err-part-clause-kept c = keeps-both c.args.terms.now c.choose.new.terms c.term.new.terms c.choose.ensures.kept c.term.ensures.kept
