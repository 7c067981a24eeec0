use Rattle.std.proofs.Common.{rules, List, ℕ, ◌≡◌, ◌+◌, ◌&&◌, ◌∷◌, [], true, false, codes, slice_get, refl, map, Err}
use Rattle.std.proofs.lemmas.Bool.{and_parts}
use Rattle.cocoon_num.specs.Names.{same_name}
use Rattle.p4_texts.specs.Machine as machine
use Rattle.p4_texts.specs.TreeOf.{block_of, stmt_of}
use Rattle.p4_parse.specs.Phrases.{else_at, is_mark}
use Rattle.p4_parse.specs.Tails.{after_if, after_name, block_ended, braced_goals, braced_then, guarded_then, if_goals, nothing}
use Rattle.p4_parse.proofs.TreeForms as forms
use Rattle.p4_parse.proofs.StmtPhrases as phrases
use Rattle.std.proofs.Common.{arith}
use Rattle.p4_parse.proofs.stmts.+stmt.Goals as goal

pub block-stmts-preserved : goal.block-stmts-preserved
block-stmts-preserved t c =
    record { is = phrases.one_more c.args.source.now c.args.pos c.stmts.next c.in_ok-stmt.after c.stmts.stmts.items _ c.in_ok-stmt.stmt (search rules) c.stmts.invariant.is c.in_ok-stmt.ensures }

pub block-returns : goal.block-returns
block-returns t c =
    let m : is_mark (codes "}") (slice_get c.args.source.now c.stmts.next) ≡ true = search rules in
    phrases.all_read block_ended c.args.source.now c.args.pos c.stmts.next c.stmts.stmts (block_of (map stmt_of c.stmts.stmts.items)) c.stmts.invariant.is m (λ ks. refl)

pub conditional-returns-in_err-second : goal.conditional-returns-in_err-second
conditional-returns-in_err-second t c =
    let ts = c.args.source.now in
    let end = c.in_ok-condition.end in
    let h : else_at (slice_get ts end) (slice_get ts (end + 1)) ≡ true = search rules in
    let e : c.from_residual-in_err-second.result ≡ Err c.in_err-second.field-0.0 = search rules in
    phrases.tail_fails braced_then ts c.args.pos (end + 1) if_goals braced_goals after_if _ c.in_err-second.field-0.0 e (λ i r. phrases.else_refused guarded_then ts c.args.pos _ end i c.in_ok-condition.ensures h r) c.in_err-second.ensures

pub conditional-returns-then-has_else : goal.conditional-returns-then-has_else
conditional-returns-then-has_else t c =
    let ts = c.args.source.now in
    let end = c.in_ok-condition.end in
    let h : else_at (slice_get ts end) (slice_get ts (end + 1)) ≡ true = search rules in
    phrases.if_else_read ts c.args.pos c.in_ok-condition.condition c.in_ok-condition.first c.in_ok-second.second end c.in_ok-second.last _ c.in_ok-condition.ensures h c.in_ok-second.ensures (forms.if_else_is c.in_ok-condition.condition c.in_ok-condition.first c.in_ok-second.second)

pub conditional-returns : goal.conditional-returns
conditional-returns t c =
    let ts = c.args.source.now in
    let end = c.in_ok-condition.end in
    let h : else_at (slice_get ts end) (slice_get ts (end + 1)) ≡ false = search rules in
    phrases.if_read ts c.args.pos c.in_ok-condition.condition c.in_ok-condition.first end _ c.in_ok-condition.ensures h (forms.if_is c.in_ok-condition.condition c.in_ok-condition.first)

pub stmt-returns-in_err-name : goal.stmt-returns-in_err-name
stmt-returns-in_err-name t c =
    let e : c.from_residual.result ≡ Err c.in_err-name.field-0.0 = search rules in
    phrases.stmt_fails (List ℕ) c.args.source.now c.args.pos _ c.in_err-name.field-0.0 e c.requires.within c.requires.goes_on c.in_err-name.ensures.no_name

pub stmt-returns-then-stands_after : goal.stmt-returns-then-stands_after
stmt-returns-then-stands_after t c =
    let ts = c.args.source.now in
    let p = c.args.pos in
    let x = c.in_ok-name.name in
    let q = c.in_ok-name.next in
    let m : (is_mark (codes "(") (slice_get ts q) && same_name (codes "if") x) ≡ true = search rules in
    let b = and_parts (is_mark (codes "(") (slice_get ts q)) (same_name (codes "if") x) m in
    let d = c.in_ok-name.ensures.phrase.are in
    let a = c.in_ok-name.ensures.phrase.after in
    phrases.tail_moved ts p (q + 1) (machine.stmts ∷ []) if_goals nothing after_if _ (omega (arith, a)) (phrases.if_before ts p x q d b.0 b.1) (phrases.if_goes ts p x q d b.0 b.1) c.conditional.ensures

pub stmt-returns : goal.stmt-returns
stmt-returns t c =
    let ts = c.args.source.now in
    let p = c.args.pos in
    let x = c.in_ok-name.name in
    let q = c.in_ok-name.next in
    let d = c.in_ok-name.ensures.phrase.are in
    let a = c.in_ok-name.ensures.phrase.after in
    phrases.tail_moved ts p q (machine.stmts ∷ []) (machine.after_first x ∷ []) nothing (after_name x) _ (omega (arith, a)) d (phrases.name_goes ts p x q d) c.simple.ensures
