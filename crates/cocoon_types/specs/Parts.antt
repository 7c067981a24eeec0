-- The parts of an expression, itself among them, and the expressions of a list. They are those of the grammar in the
-- section "Texts" of docs/LANGUAGE.md.
use Rattle.std.specs.Prelude.{ℕ, List, [], ◌∷◌, ◌++◌, length}
use Rattle.cocoon_num.specs.Tree.{Expr, call, unary, binary, slice, pick, Exprs, no_exprs, expr}

abbrev mutual
  -- an expression and all its parts
  pub parts : Expr → List Expr
  parts (call at f es) = call at f es ∷ parts_of es
  parts (unary at op a) = unary at op a ∷ parts a
  parts (binary at op a b) = binary at op a b ∷ parts a ++ parts b
  parts (slice at a high low) = slice at a high low ∷ parts a
  parts (pick at c a b) = pick at c a b ∷ parts c ++ parts a ++ parts b
  parts e = e ∷ []

  -- the same of some expressions
  pub parts_of : Exprs → List Expr
  parts_of no_exprs = []
  parts_of (expr e es) = parts e ++ parts_of es

-- the expressions as a list
abbrev pub list_of : Exprs → List Expr
list_of no_exprs = []
list_of (expr e es) = e ∷ list_of es

-- how many there are
abbrev pub count_of : Exprs → ℕ
count_of es = length (list_of es)
