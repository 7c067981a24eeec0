use Rattle.std.proofs.Common.{◌≡◌, ℕ, suc, ◌+◌, ◌≤◌, List, [], ◌∷◌, map, length, true, false, Some, sym, ap, subst, ◌∙◌, arith}
use Rattle.std.specs.List.{AllZip}
use Rattle.std.proofs.lemmas.Result.{on_ok_weaker}
use Rattle.cocoon_num.specs.Sorts.{bits_sort, truth_sort}
use Rattle.cocoon_num.specs.Tree.{HeaderDecl, Param}
use Rattle.cocoon_resolve.specs.Readers.{all_widths}
use Rattle.cocoon_syntax.specs.TreeOf.{design_of, expr_of, exprs_of, header_of, name_of}
use Rattle.cocoon_types.specs.Design.{widths_of}
use Rattle.bv_terms.specs.Arenas.{inputs_in}
use Rattle.bv_terms.specs.TermTrees as term
use Rattle.bv_terms.proofs.ReplaceFacts.{keeps-both}
use Rattle.obligation_laws.specs.Shown.{HasWidth}
use Rattle.expr_terms.specs.Variables.{Makes, MakesAll, terms_at}
use Rattle.obligation_laws.specs.States.{choice_width, guard_term, input_term, where_true, with_choice, with_field, with_variable}
use Rattle.obligation_laws.specs.Following.{chosen_as, next_input, term_at}
use Rattle.symbolic_runs.specs.Fitting.{CanEnter}
use Rattle.symbolic_runs.specs.Reading.{Reads, state_of, world_in}
use Rattle.symbolic_runs.proofs.Growing.{makes_on}
use Rattle.symbolic_runs.proofs.Standing.{follows_one, reads_on}
use Rattle.symbolic_runs.proofs.Stepping.{reads_self, can_require, is_truth, truth_wide, fields_many, chosen_fits, stands_as, unsent_code}
use Rattle.symbolic_runs.proofs.steps.require.Goals as goal

pub term-requires-clause-can : goal.term-requires-clause-can
term-requires-clause-can c = (truth_sort, is_truth c.args.world.now c.args.terms.now c.args.state.now (expr_of c.args.condition.now) c.requires.can)

pub require-requires-clause-there : goal.require-requires-clause-there
require-requires-clause-there c =
    let w = c.args.world.now in
    let a = c.args.terms.now in
    let b = c.term.new.terms in
    let s = c.args.state.now in
    let e = expr_of c.args.condition.now in
    let t = state_of a s in
    let can = c.requires.can in
    (can_require b s t (term_at (world_in w) t e) c.in_ok-part.part (reads_on a b s t c.term.ensures.kept (reads_self a s can.stands.there)) can.stands.fits.condition c.in_ok-part.ensures.made (truth_wide w c.requires.ready a s e can)).0

pub require-requires-clause-truths : goal.require-requires-clause-truths
require-requires-clause-truths c =
    let w = c.args.world.now in
    let a = c.args.terms.now in
    let b = c.term.new.terms in
    let s = c.args.state.now in
    let e = expr_of c.args.condition.now in
    let t = state_of a s in
    let can = c.requires.can in
    (can_require b s t (term_at (world_in w) t e) c.in_ok-part.part (reads_on a b s t c.term.ensures.kept (reads_self a s can.stands.there)) can.stands.fits.condition c.in_ok-part.ensures.made (truth_wide w c.requires.ready a s e can)).1

pub returns-clause-follows : goal.returns-clause-follows
returns-clause-follows c =
    let w = c.args.world.now in
    let a = c.args.terms.now in
    let b = c.term.new.terms in
    let s = c.args.state.now in
    let t = state_of a s in
    let u = term_at (world_in w) t (expr_of c.args.condition.now) in
    let r : Reads b s t = reads_on a b s t c.term.ensures.kept (reads_self a s c.requires.can.stands.there) in
    on_ok_weaker c.require.result
    (λ h. follows_one c.require.new.terms c.require.new.self (where_true u t) (inputs_in a) (h t u r c.in_ok-part.ensures.made) (c.require.ensures.inputs ∙ c.term.ensures.inputs))
    c.require.ensures.reads

pub returns-clause-kept : goal.returns-clause-kept
returns-clause-kept c = keeps-both c.args.terms.now c.term.new.terms c.require.new.terms c.term.ensures.kept c.require.ensures.kept
