-- The statement that a value of the code stands for, by its kind.
use Rattle.std.specs.Prelude.{◌≡◌, ℕ, map, Vec}
use Rattle.std.proofs.Common.{rules}
use Rattle.std.specs.declared.alloc.Global.{Global}
use Rattle.cocoon_num.specs.Tree as tree
use Rattle.cocoon_syntax.specs.declared.expr.Expr.{Expr}
use Rattle.cocoon_syntax.specs.declared.name.Name.{Name}
use Rattle.cocoon_syntax.specs.declared.stmt.Stmt.{Stmt}
use Rattle.cocoon_syntax.specs.declared.stmt.StmtKind.{the_lemmas}
use Rattle.cocoon_syntax.specs.declared.stmt.StmtKind.TheVariants.{Let, SetField, If, Filter, HavocVar, HavocField, Assume, Fork, Send}
use Rattle.cocoon_syntax.specs.TreeOf.{block_of, expr_of, exprs_of, name_of, stmt_of}

pub seen_let : (s : Stmt) (x : Name) (w : ℕ) (e : Expr) → s.kind ≡ Let x w e → stmt_of s ≡ tree.let_ s.at (name_of x) w (expr_of e)
seen_let s x w e h = search (rules, the_lemmas, h)

pub seen_set : (s : Stmt) (g f : Name) (e : Expr) → s.kind ≡ SetField g f e → stmt_of s ≡ tree.set_field s.at (name_of g) (name_of f) (expr_of e)
seen_set s g f e h = search (rules, the_lemmas, h)

pub seen_if : (s : Stmt) (e : Expr) (a b : Vec Stmt Global) → s.kind ≡ If e a b → stmt_of s ≡ tree.if_ s.at (expr_of e) (block_of (map stmt_of a.items)) (block_of (map stmt_of b.items))
seen_if s e a b h = search (rules, the_lemmas, h)

pub seen_filter : (s : Stmt) (e : Expr) → s.kind ≡ Filter e → stmt_of s ≡ tree.filter s.at (expr_of e)
seen_filter s e h = search (rules, the_lemmas, h)

pub seen_havoc_var : (s : Stmt) (x : Name) (w : ℕ) → s.kind ≡ HavocVar x w → stmt_of s ≡ tree.havoc_var s.at (name_of x) w
seen_havoc_var s x w h = search (rules, the_lemmas, h)

pub seen_havoc_field : (s : Stmt) (g f : Name) → s.kind ≡ HavocField g f → stmt_of s ≡ tree.havoc_field s.at (name_of g) (name_of f)
seen_havoc_field s g f h = search (rules, the_lemmas, h)

pub seen_assume : (s : Stmt) (e : Expr) → s.kind ≡ Assume e → stmt_of s ≡ tree.assume s.at (expr_of e)
seen_assume s e h = search (rules, the_lemmas, h)

pub seen_fork : (s : Stmt) (x : Name) (w : ℕ) (e : Expr) (b : Vec Stmt Global) → s.kind ≡ Fork x w e b → stmt_of s ≡ tree.fork s.at (name_of x) w (expr_of e) (block_of (map stmt_of b.items))
seen_fork s x w e b h = search (rules, the_lemmas, h)

pub seen_send : (s : Stmt) (r : Name) (es : Vec Expr Global) → s.kind ≡ Send r es → stmt_of s ≡ tree.send s.at (name_of r) (exprs_of (map expr_of es.items))
seen_send s r es h = search (rules, the_lemmas, h)
