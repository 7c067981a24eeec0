-- Expressions and parameters that are the same as trees, token indices aside.
use Rattle.std.specs.Prelude.{◌==◌, ◌&&◌, Bool, true, false, not, List, [], ◌∷◌, if◌then◌else◌}
use Rattle.cocoon_num.specs.Values.{UnaryOp, flip, not_}
use Rattle.cocoon_num.specs.Tree.{Expr, name, field, lit, true_or_false, call, unary, binary, slice, pick, Exprs, no_exprs, expr, Param}
use Rattle.cocoon_num.specs.Names.{same_name}
use Rattle.cocoon_num.specs.Tokens.{same_kind}
use Rattle.cocoon_num.specs.Reads.{operator}

-- the two truth values are one
abbrev pub same_truth : Bool → Bool → Bool
same_truth b c = if b then c else not c

-- the two operators are one
abbrev pub same_unary : UnaryOp → UnaryOp → Bool
same_unary flip flip = true
same_unary not_ not_ = true
same_unary _ _ = false

abbrev mutual
  -- the same tree, token indices aside; no two operators are written alike
  pub same_expr : Expr → Expr → Bool
  same_expr (name at x) e = elim e [ name at' y ↦ same_name x y | _ ↦ false ]
  same_expr (field at h f) e = elim e [ field at' i g ↦ same_name h.text i.text && same_name f.text g.text | _ ↦ false ]
  same_expr (lit at w n) e = elim e [ lit at' v m ↦ (w == v) && (n == m) | _ ↦ false ]
  same_expr (true_or_false at b) e = elim e [ true_or_false at' c ↦ same_truth b c | _ ↦ false ]
  same_expr (call at f es) e = elim e [ call at' g ds ↦ same_name f.text g.text && same_exprs es ds | _ ↦ false ]
  same_expr (unary at op a) e = elim e [ unary at' o b ↦ same_unary op o && same_expr a b | _ ↦ false ]
  same_expr (binary at op a b) e = elim e [
    | binary at' o c d ↦ same_kind (operator op) (operator o) && same_expr a c && same_expr b d
    | _ ↦ false
  ]
  same_expr (slice at a h l) e = elim e [ slice at' b i m ↦ same_expr a b && (h == i) && (l == m) | _ ↦ false ]
  same_expr (pick at c a b) e = elim e [ pick at' d x y ↦ same_expr c d && same_expr a x && same_expr b y | _ ↦ false ]

  -- the same of some expressions
  pub same_exprs : Exprs → Exprs → Bool
  same_exprs no_exprs ds = elim ds [ no_exprs ↦ true | expr d more ↦ false ]
  same_exprs (expr e es) ds = elim ds [ no_exprs ↦ false | expr d more ↦ same_expr e d && same_exprs es more ]

-- the same names and widths
abbrev pub same_params : List Param → List Param → Bool
same_params [] [] = true
same_params (p ∷ ps) (q ∷ qs) = same_name p.name.text q.name.text && (p.width == q.width) && same_params ps qs
same_params _ _ = false
