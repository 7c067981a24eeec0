use Rattle.std.proofs.Common.{◌≡◌, ◌-◌, ◌+◌, ◌<◌, ◌≤◌, ◌++◌, ℕ, suc, length, rules, sym, ap, subst, ◌∙◌, arith}
use Rattle.cocoon_syntax.specs.TreeOf.{design_of}
use Rattle.bv_terms.specs.Arenas.{inputs_in}
use Rattle.bv_terms.proofs.ReplaceFacts.{keeps-both, keeps-none}
use Rattle.obligation_laws.specs.Obligations.{Owed, of_blocks}
use Rattle.obligation_gen.specs.Shown.{ShowsObligations}
use Rattle.obligation_gen.proofs.LargeCounts.{next_level}
use Rattle.obligation_gen.proofs.Roles.{Owing, all_shown, left_behind, no_level, none_owing, one_level}
use Rattle.obligation_gen.proofs.making.of_levels.Goals as goal

pub loop-level-init : goal.loop-level-init
loop-level-init c =
    let d = design_of c.args.checked.now in
    let start = c.args.terms.now in
    let whole = left_behind d 0 (inputs_in start) in
    subst (λ xs. Owing d start start xs whole whole) (sym c.new-all.ensures.items) (none_owing d start whole (keeps-none start))

pub of_block-requires : goal.of_block-requires
of_block-requires c =
    let l = c.loop-level.auto.level in
    let m = c.loop-level-test.true in
    let n = c.levels-level-end.ensures in
    (omega (arith, l), omega (arith, m, n))

pub returns-in_err-more-clause-kept : goal.returns-in_err-more-clause-kept
returns-in_err-more-clause-kept c = keeps-both c.args.terms.now c.loop-level.terms c.of_block.new.terms c.loop-level.invariant.kept c.of_block.ensures.kept

pub returns-in_err-append-clause-kept : goal.returns-in_err-append-clause-kept
returns-in_err-append-clause-kept c = keeps-both c.args.terms.now c.loop-level.terms c.of_block.new.terms c.loop-level.invariant.kept c.of_block.ensures.kept

pub loop-level-preserved : goal.loop-level-preserved
loop-level-preserved c =
    let d = design_of c.args.checked.now in
    let start = c.args.terms.now in
    let now = c.loop-level.terms in
    let new = c.of_block.new.terms in
    let level = c.loop-level.level in
    let whole = left_behind d 0 (inputs_in start) in
    let done = c.loop-level.all.items in
    let more = c.in_ok-more.more.items in
    let items : c.append.new.self.items ≡ done ++ more = search rules in
    let a = c.loop-level.auto.level in
    let b = c.loop-level-test.true in
    let n = c.levels-level-end.ensures in
    let within : level - 1 < length d.refines = omega (arith, a, b, n) in
    subst (λ xs. Owing d start new xs (left_behind d (level + 1 - 1) (inputs_in new)) whole) (sym items)
    (subst (λ k. Owing d start new (done ++ more) (left_behind d k (inputs_in new)) whole) (next_level level a)
    (one_level d start now new done more (level - 1) whole within c.loop-level.invariant c.of_block.ensures.kept c.in_ok-more.ensures.owed c.in_ok-more.ensures.next))

pub returns-clause-owed : goal.returns-clause-owed
returns-clause-owed c =
    let d = design_of c.args.checked.now in
    let start = c.args.terms.now in
    let now = c.loop-level.terms in
    let k = c.loop-level.level - 1 in
    let b = c.loop-level-test.false in
    let n = c.levels-level-end.ensures in
    let past : length d.refines ≤ k = omega (arith, b, n) in
    subst (λ i. ShowsObligations d now c.loop-level.all.items (of_blocks 0 d d.refines i).0) c.requires
    (all_shown d start now c.loop-level.all.items (left_behind d k (inputs_in now)) (left_behind d 0 (inputs_in start)) c.loop-level.invariant (ap (λ (z : Owed). z.0) (no_level d k (inputs_in now) past)))

pub returns-clause-kept : goal.returns-clause-kept
returns-clause-kept c = c.loop-level.invariant.kept
