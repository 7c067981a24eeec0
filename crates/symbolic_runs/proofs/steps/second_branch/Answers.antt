use Rattle.std.proofs.Common.{◌≡◌, ℕ, suc, ◌+◌, ◌≤◌, List, [], ◌∷◌, map, length, true, false, Some, sym, ap, subst, ◌∙◌, arith}
use Rattle.std.specs.List.{AllZip}
use Rattle.std.proofs.lemmas.Result.{on_ok_weaker}
use Rattle.cocoon_num.specs.Sorts.{bits_sort, truth_sort}
use Rattle.cocoon_num.specs.Tree.{HeaderDecl, Param}
use Rattle.cocoon_resolve.specs.Readers.{all_widths}
use Rattle.cocoon_syntax.specs.TreeOf.{design_of, expr_of, exprs_of, header_of, name_of}
use Rattle.cocoon_types.specs.Design.{widths_of}
use Rattle.bv_terms.specs.Arenas.{inputs_in}
use Rattle.bv_terms.specs.TermTrees as term
use Rattle.bv_terms.proofs.ReplaceFacts.{keeps-both}
use Rattle.obligation_laws.specs.Shown.{HasWidth}
use Rattle.expr_terms.specs.Variables.{Makes, MakesAll, terms_at}
use Rattle.obligation_laws.specs.States.{choice_width, guard_term, input_term, where_true, with_choice, with_field, with_variable}
use Rattle.obligation_laws.specs.Following.{chosen_as, next_input, term_at}
use Rattle.symbolic_runs.specs.Fitting.{CanEnter}
use Rattle.symbolic_runs.specs.Reading.{Reads, state_of, world_in}
use Rattle.symbolic_runs.proofs.Growing.{makes_on}
use Rattle.symbolic_runs.proofs.Standing.{follows_one, reads_on}
use Rattle.symbolic_runs.proofs.Stepping.{reads_self, can_require, is_truth, truth_wide, fields_many, chosen_fits, stands_as, unsent_code}
use Rattle.symbolic_runs.proofs.steps.second_branch.Goals as goal

pub returns-clause-begins : goal.returns-clause-begins
returns-clause-begins c = λ t u r m. c.in_ok-begin_branch.ensures.begins t u (c.in_ok-second.ensures.reads c.args.terms.now t r) m
