-- Statements, and what follows their first tokens. Private clauses of `stmts` cite it.
use Rattle.std.specs.Prelude.{◌≡◌, ℕ, ◌<◌, ◌≤◌, List, [], ◌∷◌, ◌++◌, length, drop, Vec, Result, Ok, Err, codes}
use Rattle.std.specs.Global.{Global}
use Rattle.cocoon_num.specs.Tokens.{Kind, a_name, literal, mark}
use Rattle.cocoon_num.specs.declared.bits.Bits.{Bits}
use Rattle.p4_texts.specs.Machine.{Goals, an_expr, any_literal, any_name, stmts, stmts_or_else, stuck, the_mark, to_close, to_semicolon}
use Rattle.p4_texts.specs.Written.{StmtText, BlockText, block_then, expr_then, stmt_then}
use Rattle.p4_texts.specs.TreeOf.{body_of, expr_of, stmt_of}
use Rattle.p4_parse.specs.Phrases.{Refused}
use Rattle.p4_texts.specs.declared.written.WrittenExpr.{WrittenExpr}
use Rattle.p4_texts.specs.declared.written.WrittenStmt.{WrittenStmt}
use Rattle.parsing.specs.declared.stop.Stop.{Stop}
use Rattle.parsing.specs.declared.stop.Stop.TheVariants.{Unexpected, NoMemory}

-- the rest of a statement, after these tokens: the goals are met, and statements may follow
pub record ReadTail (gs : Goals) (before : List Kind → List Kind) (ts : List Kind) (pos : ℕ) (s : StmtText) (next : ℕ) : Type 0 where
  pub after : pos < next
  pub within : next ≤ length ts
  pub are : before (drop pos ts) ≡ stmt_then s (drop next ts)
  pub goes : (hs : Goals) → stuck (gs ++ hs) (drop pos ts) ≡ stuck (stmts ∷ hs) (drop next ts)

abbrev pub TailAt : Goals → (List Kind → List Kind) → List Kind → ℕ → Result (WrittenStmt × ℕ) Stop → Type 0
TailAt gs before ts pos (Ok found) = ReadTail gs before ts pos (stmt_of found.0) found.1
TailAt gs before ts pos (Err (Unexpected i)) = Refused gs ts pos i
TailAt gs before ts pos (Err NoMemory) = Unit {0}

abbrev pub nothing : List Kind → List Kind
nothing ks = ks

abbrev pub after_name : List ℕ → List Kind → List Kind
after_name x ks = a_name x ∷ ks

abbrev pub after_dot : List ℕ → List Kind → List Kind
after_dot x ks = a_name x ∷ mark (codes ".") ∷ ks

abbrev pub after_names : List ℕ → List ℕ → List Kind → List Kind
after_names x y ks = a_name x ∷ mark (codes ".") ∷ a_name y ∷ ks

abbrev pub after_if : List Kind → List Kind
after_if ks = a_name (codes "if") ∷ mark (codes "(") ∷ ks

abbrev pub if_goals : Goals
if_goals = an_expr to_close ∷ the_mark (codes "{") ∷ stmts ∷ stmts_or_else ∷ []

-- E) { .. }
abbrev pub guarded_goals : Goals
guarded_goals = an_expr to_close ∷ the_mark (codes "{") ∷ stmts ∷ []

abbrev pub guarded_then : WrittenExpr × Vec WrittenStmt Global → List Kind → List Kind
guarded_then p ks = expr_then (expr_of p.0) (mark (codes ")") ∷ mark (codes "{") ∷ block_then (body_of p.1.items) (mark (codes "}") ∷ ks))

-- { .. }
abbrev pub braced_goals : Goals
braced_goals = the_mark (codes "{") ∷ stmts ∷ []

abbrev pub braced_then : Vec WrittenStmt Global → List Kind → List Kind
braced_then b ks = mark (codes "{") ∷ block_then (body_of b.items) (mark (codes "}") ∷ ks)

abbrev pub block_ended : Vec WrittenStmt Global → List Kind → List Kind
block_ended b ks = block_then (body_of b.items) (mark (codes "}") ∷ ks)

-- E;
abbrev pub value_then : WrittenExpr → List Kind → List Kind
value_then e ks = expr_then (expr_of e) (mark (codes ";") ∷ ks)

-- = E;
abbrev pub assignment_goals : Goals
assignment_goals = the_mark (codes "=") ∷ an_expr to_semicolon ∷ []

abbrev pub assignment_then : WrittenExpr → List Kind → List Kind
assignment_then e ks = mark (codes "=") ∷ expr_then (expr_of e) (mark (codes ";") ∷ ks)

-- = LITERAL;
abbrev pub verdict_goals : Goals
verdict_goals = the_mark (codes "=") ∷ any_literal ∷ the_mark (codes ";") ∷ []

abbrev pub verdict_then : Bits → List Kind → List Kind
verdict_then b ks = mark (codes "=") ∷ literal b.width b.value ∷ mark (codes ";") ∷ ks

-- ();
abbrev pub call_goals : Goals
call_goals = the_mark (codes "(") ∷ the_mark (codes ")") ∷ the_mark (codes ";") ∷ []

abbrev pub call_tokens : List Kind
call_tokens = mark (codes "(") ∷ mark (codes ")") ∷ mark (codes ";") ∷ []

-- .NAME = E;
abbrev pub setting_goals : Goals
setting_goals = the_mark (codes ".") ∷ any_name ∷ the_mark (codes "=") ∷ an_expr to_semicolon ∷ []

abbrev pub setting_then : List ℕ × WrittenExpr → List Kind → List Kind
setting_then p ks = mark (codes ".") ∷ a_name p.0 ∷ mark (codes "=") ∷ expr_then (expr_of p.1) (mark (codes ";") ∷ ks)

-- statements so far
pub record SoFar (ts : List Kind) (pos : ℕ) (b : BlockText) (next : ℕ) : Type 0 where
  pub within : next ≤ length ts
  pub forward : pos ≤ next
  pub are : drop pos ts ≡ block_then b (drop next ts)
  pub goes : (hs : Goals) → stuck (stmts ∷ hs) (drop pos ts) ≡ stuck (stmts ∷ hs) (drop next ts)
