-- How large statements are: the measure by which resolving them ends.
use Rattle.std.proofs.Common.{◌≡◌, ℕ, zero, suc, ◌+◌, ◌<◌, ◌≤◌, List, [], ◌∷◌, length, map, get_or, ap, arith}
use Rattle.p4_ir.specs.P4Tree.{P4Stmt, p_if, p_if_else, P4Block, p_done, p_then}
use Rattle.p4_ir.specs.Program.{block_of, stmt_of}
use Rattle.p4_ir.specs.declared.program.P4Stmt.{P4Stmt as ProgramStmt}

abbrev mutual
  pub stmt_size : P4Stmt → ℕ
  stmt_size (p_if e first) = suc (block_size first)
  stmt_size (p_if_else e first second) = suc (block_size first + block_size second)
  stmt_size _ = 0

  pub block_size : P4Block → ℕ
  block_size p_done = 0
  block_size (p_then first rest) = stmt_size first + block_size rest

pub one_of : (stmts : List ProgramStmt) (i : ℕ) (x : ProgramStmt) → i < length stmts → x ≡ get_or stmts i x → stmt_size (stmt_of x) ≤ block_size (block_of (map stmt_of stmts))
one_of [] i x l e = absurd (omega arith)
one_of (s ∷ stmts) zero x l e =
    let same : stmt_size (stmt_of x) ≡ stmt_size (stmt_of s) = ap (λ (y : ProgramStmt). stmt_size (stmt_of y)) e in
    omega arith
one_of (s ∷ stmts) (suc i) x l e =
    let rest : stmt_size (stmt_of x) ≤ block_size (block_of (map stmt_of stmts)) = one_of stmts i x (omega arith) e in
    omega arith
