-- Sends and rows, part by part.
use Rattle.std.specs.Prelude.{◌≡◌, ℕ, suc, ◌+◌, true, List, map, slice_get, Result, Ok, Some, codes}
use Rattle.std.proofs.Common.{Vec, Global, ◌∙◌, ap, subst}
use Rattle.cocoon_num.specs.Tokens.{Kind}
use Rattle.cocoon_num.specs.Tree.{Name, send, a_row, Pattern}
use Rattle.cocoon_syntax.specs.TreeOf.{const_of, entry_of, expr_of, exprs_of, pattern_of, stmt_of}
use Rattle.cocoon_syntax.specs.declared.defs.Const.{Const as CodeConst}
use Rattle.cocoon_syntax.specs.declared.defs.Entry.{Entry as CodeEntry}
use Rattle.cocoon_syntax.specs.declared.defs.Pattern.{Pattern as CodePattern}
use Rattle.cocoon_syntax.specs.declared.expr.Expr.{Expr as CodeExpr}
use Rattle.cocoon_syntax.specs.declared.stmt.Stmt.{Stmt as CodeStmt}
use Rattle.parsing.specs.PlainParser.{Outcome, good, bad, after, marked, named, name_at, is_mark, exprs_from, send_from, commas_from, pattern_from, const_from, row_from}
use Rattle.cocoon_text.specs.ExprPhrases.{then_mark}
use Rattle.cocoon_text.specs.Agrees.{Agrees, AgreesDeep, with_mark}
use Rattle.parsing.specs.Joins.{Makes}
use Rattle.parsing.specs.declared.stop.Stop.{Stop}
use Rattle.cocoon_text.proofs.Eventually.{Eventually, by_one, at_once, eventual_read, agrees_as, agrees_made, agrees_marked, after_read, then_same, two_marks}

pub sent : (ts : List Kind) (i at : ℕ) (x : Name) (read one two : Result (Vec CodeExpr Global × ℕ) Stop) (result : Result (CodeStmt × ℕ) Stop) → at ≡ i → name_at (i + 1) (slice_get ts (i + 1)) ≡ Some x → is_mark (codes "[") (slice_get ts (i + 2)) ≡ true →
    AgreesDeep (λ n. exprs_from ts n (i + 3)) (λ v. exprs_of (map expr_of v.items)) read → one ≡ with_mark ts (codes "]") read → two ≡ with_mark ts (codes ";") one → Makes (λ v. exprs_of (map expr_of v.items)) stmt_of (λ xs. send at x xs) two result → AgreesDeep (λ n. send_from ts (exprs_from ts n) i) stmt_of result
unfolding send_from named marked
sent ts i at x read one two result s w t p q r e =
    let args : Vec CodeExpr Global → _ = λ v. exprs_of (map expr_of v.items) in
    agrees_as (λ n. rw (w, t) (two_marks ts (codes "]") (codes ";") (exprs_from ts n (i + 3)) (λ xs j. good (send i x xs) j)))
    (agrees_made (λ n. then_mark ts (codes ";") (then_mark ts (codes "]") (exprs_from ts n (i + 3)))) args stmt_of (λ xs. send i x xs) two result
    (agrees_marked ts (codes ";") (λ n. then_mark ts (codes "]") (exprs_from ts n (i + 3))) args one two
    (agrees_marked ts (codes "]") (λ n. exprs_from ts n (i + 3)) args read one p q) r)
    (subst (λ z. Makes args stmt_of (λ xs. send z x xs) two result) s e))

abbrev pub patterns_at : List Kind → ℕ → ℕ → Outcome (List Pattern)
patterns_at ts n i = commas_from ts (λ m. pattern_from ts) n i

row_same : (ts : List Kind) (n i : ℕ) (x : Name) → name_at (i + 1) (slice_get ts (i + 1)) ≡ Some x → is_mark (codes "(") (slice_get ts (i + 2)) ≡ true →
    row_from ts n i ≡ after (then_mark ts (codes "=") (then_mark ts (codes ")") (patterns_at ts n (i + 3)))) (λ ps j. after (const_from ts j) (λ v k. marked ts (codes ";") k (good (a_row x ps v) (suc k))))
unfolding row_from named marked
row_same ts n i x w t = rw (w, t) (two_marks ts (codes ")") (codes "=") (patterns_at ts n (i + 3)) (λ ps j. after (const_from ts j) (λ v k. marked ts (codes ";") k (good (a_row x ps v) (suc k)))))

pub row_fails : (ts : List Kind) (i : ℕ) (x : Name) → name_at (i + 1) (slice_get ts (i + 1)) ≡ Some x → is_mark (codes "(") (slice_get ts (i + 2)) ≡ true → (k : ℕ) → Eventually (λ n. then_mark ts (codes "=") (then_mark ts (codes ")") (patterns_at ts n (i + 3)))) (bad k) → Eventually (λ n. row_from ts n i) (bad k)
unfolding after
row_fails ts i x w t k p = by_one p (λ n e. row_same ts n i x w t ∙ ap (λ z. after z (λ ps j. after (const_from ts j) (λ v k. marked ts (codes ";") k (good (a_row x ps v) (suc k))))) e)

pub row_agrees : (ts : List Kind) (i : ℕ) (x : Name) (ps : Vec CodePattern Global) {j : ℕ} (read one : Result (CodeConst × ℕ) Stop) (result : Result (CodeEntry × ℕ) Stop) → name_at (i + 1) (slice_get ts (i + 1)) ≡ Some x → is_mark (codes "(") (slice_get ts (i + 2)) ≡ true →
    AgreesDeep (λ n. then_mark ts (codes "=") (then_mark ts (codes ")") (patterns_at ts n (i + 3)))) (λ v. map pattern_of v.items) (Ok (ps, j)) → Agrees (const_from ts j) const_of read → one ≡ with_mark ts (codes ";") read →
    Makes const_of entry_of (λ v. a_row x (map pattern_of ps.items) v) one result → AgreesDeep (λ n. row_from ts n i) entry_of result
row_agrees ts i x ps {j = j} read one result w t p q r e = agrees_as (λ n. row_same ts n i x w t)
    (after_read (λ n ps j. after (const_from ts j) (λ v k. marked ts (codes ";") k (good (a_row x ps v) (suc k)))) entry_of (eventual_read (λ v. map pattern_of v.items) p)
    (agrees_as (λ n. then_same ts (codes ";") (const_from ts j) (λ v k. good (a_row x (map pattern_of ps.items) v) k))
    (agrees_made (λ n. then_mark ts (codes ";") (const_from ts j)) const_of entry_of (λ v. a_row x (map pattern_of ps.items) v) one result
    (agrees_marked ts (codes ";") (λ n. const_from ts j) const_of read one (at_once q) r) e)))
