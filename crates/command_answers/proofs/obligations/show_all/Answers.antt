use Rattle.std.proofs.Common.{◌≤◌, IfErr, length, arith, rules, subst, sym}
use Rattle.cocoon_syntax.specs.TreeOf.{design_of}
use Rattle.cert_text.specs.Keeping.{AreShown}
use Rattle.command_answers.specs.Refining.{IsUnshown, NotAll, SaysOne}
use Rattle.command_answers.proofs.Counted.{passed}
use Rattle.command_answers.proofs.Kept.{all_shown, is_owed, next_at, none_shown, not_decided, not_shown, one_more}
use Rattle.command_answers.proofs.obligations.show_all.Goals as goal

pub show_one-requires-clause-owed : goal.show_one-requires-clause-owed
show_one-requires-clause-owed c =
    let d = design_of c.args.checked.now in
    let nodes = c.args.terms.now in
    let o = c.index-obligations-index.result in
    is_owed d nodes o c.loop-index.index (next_at d nodes c.args.obligations.now c.loop-index.index o c.requires.shown c.loop-index-test.true c.index-obligations-index.is c.loop-index.invariant.earlier)

pub loop-index-init : goal.loop-index-init
loop-index-init c = none_shown (design_of c.args.checked.now) c.args.terms.now c.args.obligations.now _ (search rules)

pub returns-in_err-shown-clause-refused : goal.returns-in_err-shown-clause-refused
returns-in_err-shown-clause-refused c =
    let d = design_of c.args.checked.now in
    let nodes = c.args.terms.now in
    let o = c.index-obligations-index.result in
    let k = c.loop-index.index in
    let n = next_at d nodes c.args.obligations.now k o c.requires.shown c.loop-index-test.true c.index-obligations-index.is c.loop-index.invariant.earlier in
    let r = c.in_err-shown.field-0.0 in
    passed (λ x. IfErr x (NotAll d c.args.rounds)) _ r c.from_residual-in_err-shown.ensures.1 (not_decided d nodes o c.args.rounds k r n c.in_err-shown.ensures.refused)

pub returns-in-Ended-clause-decided : goal.returns-in-Ended-clause-decided
returns-in-Ended-clause-decided c =
    let d = design_of c.args.checked.now in
    let nodes = c.args.terms.now in
    let o = c.index-obligations-index.result in
    let k = c.loop-index.index in
    let n = next_at d nodes c.args.obligations.now k o c.requires.shown c.loop-index-test.true c.index-obligations-index.is c.loop-index.invariant.earlier in
    let told = subst (SaysOne d nodes o c.args.conflicts c.args.rounds c.in_ok-number.number) c.in-Ended.is c.in_ok-shown.ensures.decided in
    not_shown d nodes o c.args.conflicts c.args.rounds k c.in-Ended.answer n (subst (λ m. IsUnshown d nodes o c.args.conflicts c.args.rounds m c.in-Ended.answer) c.in_ok-number.ensures told)

pub loop-index-preserved : goal.loop-index-preserved
loop-index-preserved c =
    let d = design_of c.args.checked.now in
    let nodes = c.args.terms.now in
    let os = c.args.obligations.now in
    let o = c.index-obligations-index.result in
    let k = c.loop-index.index in
    let less = c.loop-index-test.true in
    let is = c.index-obligations-index.is in
    let n = next_at d nodes os k o c.requires.shown less is c.loop-index.invariant.earlier in
    let told = subst (SaysOne d nodes o c.args.conflicts c.args.rounds c.in_ok-number.number) c.in-Cert.is c.in_ok-shown.ensures.decided in
    one_more d nodes os o k c.loop-index.certs.items _ c.in-Cert.cert less is n c.loop-index.invariant told c.in_ok-keep-in-Cert.ensures

pub returns-clause-decided : goal.returns-clause-decided
returns-clause-decided c =
    let d = design_of c.args.checked.now in
    let nodes = c.args.terms.now in
    let os = c.args.obligations.now in
    let done : length os ≤ c.loop-index.index = (let no = c.loop-index-test.false in omega (arith, no)) in
    subst (AreShown d nodes os) (sym c.from.ensures) (all_shown d nodes os c.loop-index.index c.loop-index.certs.items done c.loop-index.invariant)
