use Rattle.std.proofs.Common.{◌≡◌, ℕ, suc, ◌+◌, ◌≤◌, List, [], ◌∷◌, map, length, true, false, Some, sym, ap, subst, ◌∙◌, arith}
use Rattle.std.specs.List.{AllZip}
use Rattle.std.proofs.lemmas.Result.{on_ok_weaker}
use Rattle.cocoon_num.specs.Sorts.{bits_sort, truth_sort}
use Rattle.cocoon_num.specs.Tree.{HeaderDecl, Param}
use Rattle.cocoon_resolve.specs.Readers.{all_widths}
use Rattle.cocoon_syntax.specs.TreeOf.{design_of, expr_of, exprs_of, header_of, name_of}
use Rattle.cocoon_types.specs.Design.{widths_of}
use Rattle.bv_terms.specs.Arenas.{inputs_in}
use Rattle.bv_terms.specs.TermTrees as term
use Rattle.bv_terms.proofs.ReplaceFacts.{keeps-both}
use Rattle.obligation_laws.specs.Shown.{HasWidth}
use Rattle.expr_terms.specs.Variables.{Makes, MakesAll, terms_at}
use Rattle.obligation_laws.specs.States.{choice_width, guard_term, input_term, where_true, with_choice, with_field, with_variable}
use Rattle.obligation_laws.specs.Following.{chosen_as, next_input, term_at}
use Rattle.symbolic_runs.specs.Fitting.{CanEnter}
use Rattle.symbolic_runs.specs.Reading.{Reads, state_of, world_in}
use Rattle.symbolic_runs.proofs.Growing.{makes_on}
use Rattle.symbolic_runs.proofs.Standing.{follows_one, reads_on}
use Rattle.symbolic_runs.proofs.Stepping.{reads_self, can_require, is_truth, truth_wide, fields_many, chosen_fits, stands_as, unsent_code}
use Rattle.symbolic_runs.proofs.steps.branches.Goals as goal

pub term-requires-clause-can : goal.term-requires-clause-can
term-requires-clause-can c = (truth_sort, is_truth c.args.world.now c.args.terms.now c.args.first.now (expr_of c.args.condition.now) c.requires.can)

pub opposite-requires : goal.opposite-requires
opposite-requires c = c.in_ok-part.ensures.made.there

pub second_branch-requires-clause-unsent : goal.second_branch-requires-clause-unsent
second_branch-requires-clause-unsent c = c.requires.can.unsent

pub second_branch-requires-clause-there : goal.second_branch-requires-clause-there
second_branch-requires-clause-there c =
    let w = c.args.world.now in
    let a = c.args.terms.now in
    let b1 = c.term.new.terms in
    let b2 = c.opposite.new.terms in
    let s = c.args.first.now in
    let e = expr_of c.args.condition.now in
    let t = state_of a s in
    let can = c.requires.can in
    let u = term_at (world_in w) t e in
    let other : Makes b2 c.in_ok-other.other (term.not_ u) = record { there = c.in_ok-other.ensures.made.there; term = c.in_ok-other.ensures.made.term ∙ ap term.not_ c.in_ok-part.ensures.made.term } in
    let kept = keeps-both a b1 b2 c.term.ensures.kept c.opposite.ensures.kept in
    (can_require b2 s t (term.not_ u) c.in_ok-other.other (reads_on a b2 s t kept (reads_self a s can.stands.there)) can.stands.fits.condition other (truth_wide w c.requires.ready a s e can)).0

pub second_branch-requires-clause-truths : goal.second_branch-requires-clause-truths
second_branch-requires-clause-truths c =
    let w = c.args.world.now in
    let a = c.args.terms.now in
    let b1 = c.term.new.terms in
    let b2 = c.opposite.new.terms in
    let s = c.args.first.now in
    let e = expr_of c.args.condition.now in
    let t = state_of a s in
    let can = c.requires.can in
    let u = term_at (world_in w) t e in
    let other : Makes b2 c.in_ok-other.other (term.not_ u) = record { there = c.in_ok-other.ensures.made.there; term = c.in_ok-other.ensures.made.term ∙ ap term.not_ c.in_ok-part.ensures.made.term } in
    let kept = keeps-both a b1 b2 c.term.ensures.kept c.opposite.ensures.kept in
    (can_require b2 s t (term.not_ u) c.in_ok-other.other (reads_on a b2 s t kept (reads_self a s can.stands.there)) can.stands.fits.condition other (truth_wide w c.requires.ready a s e can)).1

pub begin_branch-requires-clause-there : goal.begin_branch-requires-clause-there
begin_branch-requires-clause-there c =
    let w = c.args.world.now in
    let a = c.args.terms.now in
    let b1 = c.term.new.terms in
    let b2 = c.opposite.new.terms in
    let b3 = c.second_branch.new.terms in
    let s = c.args.first.now in
    let e = expr_of c.args.condition.now in
    let t = state_of a s in
    let can = c.requires.can in
    let u = term_at (world_in w) t e in
    let later = keeps-both b1 b2 b3 c.opposite.ensures.kept c.second_branch.ensures.kept in
    (can_require b3 s t u c.in_ok-part.part (reads_on a b3 s t (keeps-both a b1 b3 c.term.ensures.kept later) (reads_self a s can.stands.there)) can.stands.fits.condition
    (makes_on b1 b3 c.in_ok-part.part u later c.in_ok-part.ensures.made) (truth_wide w c.requires.ready a s e can)).0

pub begin_branch-requires-clause-truths : goal.begin_branch-requires-clause-truths
begin_branch-requires-clause-truths c =
    let w = c.args.world.now in
    let a = c.args.terms.now in
    let b1 = c.term.new.terms in
    let b2 = c.opposite.new.terms in
    let b3 = c.second_branch.new.terms in
    let s = c.args.first.now in
    let e = expr_of c.args.condition.now in
    let t = state_of a s in
    let can = c.requires.can in
    let u = term_at (world_in w) t e in
    let later = keeps-both b1 b2 b3 c.opposite.ensures.kept c.second_branch.ensures.kept in
    (can_require b3 s t u c.in_ok-part.part (reads_on a b3 s t (keeps-both a b1 b3 c.term.ensures.kept later) (reads_self a s can.stands.there)) can.stands.fits.condition
    (makes_on b1 b3 c.in_ok-part.part u later c.in_ok-part.ensures.made) (truth_wide w c.requires.ready a s e can)).1

pub returns-clause-first : goal.returns-clause-first
returns-clause-first c =
    let w = c.args.world.now in
    let a = c.args.terms.now in
    let b1 = c.term.new.terms in
    let b2 = c.opposite.new.terms in
    let b3 = c.second_branch.new.terms in
    let s = c.args.first.now in
    let t = state_of a s in
    let u = term_at (world_in w) t (expr_of c.args.condition.now) in
    let later = keeps-both b1 b2 b3 c.opposite.ensures.kept c.second_branch.ensures.kept in
    c.in_ok-begin_branch.ensures.begins t u (reads_on a b3 s t (keeps-both a b1 b3 c.term.ensures.kept later) (reads_self a s c.requires.can.stands.there))
    (makes_on b1 b3 c.in_ok-part.part u later c.in_ok-part.ensures.made)

pub returns-clause-second : goal.returns-clause-second
returns-clause-second c =
    let w = c.args.world.now in
    let a = c.args.terms.now in
    let b1 = c.term.new.terms in
    let b2 = c.opposite.new.terms in
    let b3 = c.second_branch.new.terms in
    let b4 = c.begin_branch.new.terms in
    let s = c.args.first.now in
    let t = state_of a s in
    let u = term_at (world_in w) t (expr_of c.args.condition.now) in
    let other : Makes b2 c.in_ok-other.other (term.not_ u) = record { there = c.in_ok-other.ensures.made.there; term = c.in_ok-other.ensures.made.term ∙ ap term.not_ c.in_ok-part.ensures.made.term } in
    let kept = keeps-both a b1 b2 c.term.ensures.kept c.opposite.ensures.kept in
    reads_on b3 b4 c.in_ok-second.second _ c.begin_branch.ensures.kept
    (c.in_ok-second.ensures.begins t (term.not_ u) (reads_on a b2 s t kept (reads_self a s c.requires.can.stands.there)) other)

pub returns-clause-kept : goal.returns-clause-kept
returns-clause-kept c =
    let b1 = c.term.new.terms in
    let b2 = c.opposite.new.terms in
    let b3 = c.second_branch.new.terms in
    let b4 = c.begin_branch.new.terms in
    keeps-both c.args.terms.now b1 b4 c.term.ensures.kept (keeps-both b1 b2 b4 c.opposite.ensures.kept (keeps-both b2 b3 b4 c.second_branch.ensures.kept c.begin_branch.ensures.kept))

pub returns-in_err-other-clause-kept : goal.returns-in_err-other-clause-kept
returns-in_err-other-clause-kept c = keeps-both c.args.terms.now c.term.new.terms c.opposite.new.terms c.term.ensures.kept c.opposite.ensures.kept

pub returns-in_err-second-clause-kept : goal.returns-in_err-second-clause-kept
returns-in_err-second-clause-kept c =
    let b1 = c.term.new.terms in
    let b2 = c.opposite.new.terms in
    let b3 = c.second_branch.new.terms in
    keeps-both c.args.terms.now b1 b3 c.term.ensures.kept (keeps-both b1 b2 b3 c.opposite.ensures.kept c.second_branch.ensures.kept)

pub returns-in_err-begin_branch-clause-kept : goal.returns-in_err-begin_branch-clause-kept
returns-in_err-begin_branch-clause-kept c =
    let b1 = c.term.new.terms in
    let b2 = c.opposite.new.terms in
    let b3 = c.second_branch.new.terms in
    let b4 = c.begin_branch.new.terms in
    keeps-both c.args.terms.now b1 b4 c.term.ensures.kept (keeps-both b1 b2 b4 c.opposite.ensures.kept (keeps-both b2 b3 b4 c.second_branch.ensures.kept c.begin_branch.ensures.kept))
