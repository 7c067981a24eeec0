use Rattle.std.proofs.Common.{◌≡◌, ℕ, List, [], ◌∷◌, map, Some, sym, ap, subst, ◌∙◌}
use Rattle.std.specs.List.{AllZip}
use Rattle.cocoon_num.specs.Tree.{Exprs}
use Rattle.cocoon_syntax.specs.TreeOf.{design_of, expr_of, exprs_of, name_of}
use Rattle.cocoon_types.specs.Design.{widths_of}
use Rattle.bv_terms.specs.Arenas.{inputs_in}
use Rattle.bv_terms.proofs.ReplaceFacts.{keeps-both}
use Rattle.obligation_laws.specs.Shown.{HasWidth}
use Rattle.obligation_laws.specs.TermOf.{term_context, terms_of}
use Rattle.expr_terms.specs.Variables.{MakesAll, terms_at}
use Rattle.obligation_laws.specs.States.{Place, guard_term, where_true}
use Rattle.obligation_laws.specs.Following.{sends_to}
use Rattle.symbolic_runs.specs.Fitting.{CanEnter}
use Rattle.symbolic_runs.specs.Reading.{Reads, state_of, world_in}
use Rattle.symbolic_runs.proofs.Standing.{follows_one}
use Rattle.symbolic_runs.proofs.Stepping.{SentBy, sent_by}
use Rattle.symbolic_runs.proofs.steps.send.Goals as goal

pub values-requires-clause-can : goal.values-requires-clause-can
values-requires-clause-can c =
    let can = c.requires.can in
    record { vars = can.vars; unsent = can.unsent; widths = widths_of can.typed.0.params; typed = can.typed.2; stands = can.stands }

pub guard-requires-clause-can : goal.guard-requires-clause-can
guard-requires-clause-can c =
    let w = c.args.world.now in
    subst (λ (p : List ℕ × List ℕ). CanEnter w c.values.new.terms p.0 p.1) (λ j. (sym c.bytes-role.ensures j, sym c.deref.ensures.value j))
    (sent_by w c.requires.ready c.args.terms.now c.values.new.terms c.args.state.now (name_of c.args.role.now) (exprs_of (map expr_of c.args.args.now)) c.in_ok-values.values.items c.requires.can c.values.ensures.kept c.in_ok-values.ensures.made).can

pub require-requires-clause-there : goal.require-requires-clause-there
require-requires-clause-there c =
    let w = c.args.world.now in
    let by = sent_by w c.requires.ready c.args.terms.now c.values.new.terms c.args.state.now (name_of c.args.role.now) (exprs_of (map expr_of c.args.args.now)) c.in_ok-values.values.items c.requires.can c.values.ensures.kept c.in_ok-values.ensures.made in
    (by.part c.guard.new.terms c.in_ok-guard.guard c.bytes-role.result.now c.deref.result.now c.bytes-role.ensures c.deref.ensures.value c.guard.ensures.kept c.in_ok-guard.ensures.made).can.0

pub require-requires-clause-truths : goal.require-requires-clause-truths
require-requires-clause-truths c =
    let w = c.args.world.now in
    let by = sent_by w c.requires.ready c.args.terms.now c.values.new.terms c.args.state.now (name_of c.args.role.now) (exprs_of (map expr_of c.args.args.now)) c.in_ok-values.values.items c.requires.can c.values.ensures.kept c.in_ok-values.ensures.made in
    (by.part c.guard.new.terms c.in_ok-guard.guard c.bytes-role.result.now c.deref.result.now c.bytes-role.ensures c.deref.ensures.value c.guard.ensures.kept c.in_ok-guard.ensures.made).can.1

pub returns-clause-follows : goal.returns-clause-follows
returns-clause-follows c =
    let w = c.args.world.now in
    let a = c.args.terms.now in
    let z = c.require.new.terms in
    let t = state_of a c.args.state.now in
    let us = terms_of (term_context (design_of w.checked.now)) t.vars t.fields (exprs_of (map expr_of c.args.args.now)) in
    let by = sent_by w c.requires.ready a c.values.new.terms c.args.state.now (name_of c.args.role.now) (exprs_of (map expr_of c.args.args.now)) c.in_ok-values.values.items c.requires.can c.values.ensures.kept c.in_ok-values.ensures.made in
    let part = by.part c.guard.new.terms c.in_ok-guard.guard c.bytes-role.result.now c.deref.result.now c.bytes-role.ensures c.deref.ensures.value c.guard.ensures.kept c.in_ok-guard.ensures.made in
    let at : Place = record { role = c.args.role.now.text; values = us } in
    let required : Reads z c.require.new.self (where_true (guard_term (world_in w) at) t) = c.in_ok-require.ensures.reads t (guard_term (world_in w) at) part.reads part.made in
    follows_one z c.send.new.self (sends_to (world_in w) at t) (inputs_in a)
    (subst (λ x. Reads z c.send.new.self (record (where_true (guard_term (world_in w) at) t) { sent = Some (record { role = x; values = us }) })) c.bytes-role.ensures
    (c.send.ensures z (where_true (guard_term (world_in w) at) t) us required (part.values z c.require.ensures.kept)))
    (c.require.ensures.inputs ∙ c.guard.ensures.inputs ∙ c.values.ensures.inputs)

pub returns-clause-kept : goal.returns-clause-kept
returns-clause-kept c =
    let b1 = c.values.new.terms in
    let b2 = c.guard.new.terms in
    let b3 = c.require.new.terms in
    keeps-both c.args.terms.now b1 b3 c.values.ensures.kept (keeps-both b1 b2 b3 c.guard.ensures.kept c.require.ensures.kept)

pub returns-in_err-guard-clause-kept : goal.returns-in_err-guard-clause-kept
returns-in_err-guard-clause-kept c = keeps-both c.args.terms.now c.values.new.terms c.guard.new.terms c.values.ensures.kept c.guard.ensures.kept

pub returns-in_err-require-clause-kept : goal.returns-in_err-require-clause-kept
returns-in_err-require-clause-kept c =
    let b1 = c.values.new.terms in
    let b2 = c.guard.new.terms in
    let b3 = c.require.new.terms in
    keeps-both c.args.terms.now b1 b3 c.values.ensures.kept (keeps-both b1 b2 b3 c.guard.ensures.kept c.require.ensures.kept)
