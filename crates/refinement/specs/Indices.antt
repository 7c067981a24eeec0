-- Cited by the clause of the law `statements_differ`: the token indices of a body's statements.
use Rattle.std.specs.Prelude.{ℕ, List, [], ◌∷◌, ◌++◌}
use Rattle.cocoon_num.specs.Tree.{Stmt, if_, fork, Block, no_stmts, stmt}
use Rattle.cocoon_types.specs.RuleParts.{stmt_at}

abbrev mutual
  -- that of a statement, and those of the statements in its blocks
  pub stmt_indices : Stmt → List ℕ
  stmt_indices (if_ at e first second) = at ∷ block_indices first ++ block_indices second
  stmt_indices (fork at x width e body) = at ∷ block_indices body
  stmt_indices s = stmt_at s ∷ []

  -- those of a block, in the order of the text
  pub block_indices : Block → List ℕ
  block_indices no_stmts = []
  block_indices (stmt first rest) = stmt_indices first ++ block_indices rest
