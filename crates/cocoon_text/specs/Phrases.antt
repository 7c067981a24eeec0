-- The phrases of statements and declarations for which the parser has functions of its own. Private clauses of `stmts` and
-- `decls` cite it.
use Rattle.std.specs.Prelude.{◌≡◌, ◌+◌, ℕ, suc, Bool, List, map, Vec, Option, option_map, slice_get, Result, Ok, Err, if◌then◌else◌, codes}
use Rattle.std.specs.Global.{Global}
use Rattle.cocoon_num.specs.Tokens.{Kind}
use Rattle.cocoon_num.specs.Tree.{Name, Expr, Stmt, Block, no_stmts, Param, ResultKind, havoc_field, havoc_var, Decl, Refine, HeaderDecl}
use Rattle.cocoon_num.specs.Reads.{of_expr}
use Rattle.parsing.specs.PlainParser.{Outcome, body_from, expr_from, params_from, result_from, role_body_from, good, bad, after, is_keyword, marked, reserved, named, numbered, path_from, param_from, closes, ends_decls}
use Rattle.cocoon_syntax.specs.TreeOf.{block_of, body_of, expr_of, name_of, param_of, result_of, stmt_of}
use Rattle.cocoon_syntax.specs.declared.name.Name.{Name as CodeName}
use Rattle.cocoon_syntax.specs.declared.expr.Expr.{Expr as CodeExpr}
use Rattle.cocoon_syntax.specs.declared.decl.Param.{Param as CodeParam}
use Rattle.cocoon_syntax.specs.declared.decl.ResultKind.{ResultKind as CodeResultKind}
use Rattle.cocoon_syntax.specs.declared.stmt.Stmt.{Stmt as CodeStmt}
use Rattle.cocoon_text.specs.ExprPhrases.{then_mark}
use Rattle.parsing.specs.declared.stop.Stop.{Stop}
use Rattle.parsing.specs.declared.stop.Stop.TheVariants.{Unexpected, NoMemory}
use Rattle.cocoon_text.specs.declared.decls.Until.{Until}
use Rattle.cocoon_text.specs.declared.decls.Until.TheVariants.{Brace, Refine as UntilRefine}

-- `= a;`
abbrev pub assigned_from : List Kind → (ℕ → Outcome Expr) → ℕ → Outcome Expr
assigned_from ts e i = marked ts (codes "=") i (then_mark ts (codes ";") (e (i + 1)))

-- `(a)`
abbrev pub tested_from : List Kind → (ℕ → Outcome Expr) → ℕ → Outcome Expr
tested_from ts e i = marked ts (codes "(") i (then_mark ts (codes ")") (e (i + 1)))

-- `(a) { .. }`, and the rest of an `if`
pub record Guarded : Type 0 where
  pub condition : Expr
  pub body : Block

abbrev pub guarded_of : CodeExpr × Vec CodeStmt Global → Guarded
guarded_of p = record { condition = expr_of p.0; body = block_of (map stmt_of p.1.items) }

abbrev pub guarded_from : List Kind → (ℕ → Outcome Expr) → (ℕ → Outcome Block) → ℕ → Outcome Guarded
guarded_from ts e b i = after (tested_from ts e i) (λ x j. after (b j) (λ a k. good (record { condition = x; body = a }) k))

abbrev pub otherwise_from : List Kind → (ℕ → Outcome Block) → ℕ → Outcome Block
otherwise_from ts b i = if is_keyword (codes "else") (slice_get ts i) then b (suc i) else good no_stmts i

-- `(x: bit<N> | a)`
pub record Choosing : Type 0 where
  pub variable : Param
  pub condition : Expr

abbrev pub choosing_of : CodeParam × CodeExpr → Choosing
choosing_of p = record { variable = param_of p.0; condition = expr_of p.1 }

abbrev pub choosing_from : List Kind → (ℕ → Outcome Expr) → ℕ → Outcome Choosing
choosing_from ts e i = marked ts (codes "(") i (after (then_mark ts (codes "|") (param_from ts (i + 1))) (λ x j. after (then_mark ts (codes ")") (e j)) (λ c k. good (record { variable = x; condition = c }) k)))

-- a havoc of a field, from its first token on
abbrev pub havoc_field_from : List Kind → ℕ → Outcome Stmt
havoc_field_from ts i = after (path_from ts (suc i)) (λ p j. marked ts (codes ";") j (good (havoc_field i p.header p.field) (suc j)))

-- a havoc of a variable, from its first token on
abbrev pub havoc_variable_from : List Kind → ℕ → Outcome Stmt
havoc_variable_from ts i = after (param_from ts (suc i)) (λ p j. marked ts (codes ";") j (good (havoc_var i p.name p.width) (suc j)))

-- a name and its parameters, between and before these marks
pub record Head : Type 0 where
  pub name : Name
  pub params : List Param

abbrev pub head_of : CodeName × Vec CodeParam Global → Head
head_of p = record { name = name_of p.0; params = map param_of p.1.items }

abbrev pub head_from : List Kind → ℕ → List ℕ → List ℕ → List ℕ → ℕ → Outcome Head
head_from ts n left right last i = named ts i (λ x. marked ts left (i + 1) (after (then_mark ts last (then_mark ts right (params_from ts n (i + 2)))) (λ ps j. good (record { name = x; params = ps }) j)))

-- what a function gives, and its value
pub record Answer : Type 0 where
  pub kind : ResultKind
  pub body : Option Expr

abbrev pub answer_of : CodeResultKind × Option CodeExpr → Answer
answer_of p = record { kind = result_of p.0; body = option_map expr_of p.1 }

abbrev pub answer_from : List Kind → ℕ → ℕ → Outcome Answer
answer_from ts n i = after (result_from ts i) (λ r j. after (body_from ts n j) (λ b k. good (record { kind = r; body = b }) k))

-- the guard of a role, and its body
pub record Duty : Type 0 where
  pub guard : Expr
  pub body : Option Block

abbrev pub duty_of : CodeExpr × Option (Vec CodeStmt Global) → Duty
duty_of p = record { guard = expr_of p.0; body = option_map body_of p.1 }

abbrev pub duty_from : List Kind → ℕ → ℕ → Outcome Duty
duty_from ts n i = after (expr_from ts n of_expr i) (λ e j. after (role_body_from ts n j) (λ b k. good (record { guard = e; body = b }) k))

-- the test on what stands after the declarations of a level
abbrev pub stops_of : Until → List Kind → ℕ → Bool
stops_of Brace = closes
stops_of UntilRefine = ends_decls

-- what follows the two names of a host or a switch, in brackets after the token at i
abbrev pub paired : List Kind → ℕ → (Name → Name → Outcome Decl) → Outcome Decl
paired ts i f = marked ts (codes "(") (i + 1) (named ts (i + 2) (λ x. marked ts (codes ",") (i + 3) (named ts (i + 4) (λ y. marked ts (codes ")") (i + 5) (f x y)))))

-- the two names, or a token with which there are none
abbrev pub PairAt : List Kind → ℕ → Result (CodeName × CodeName) Stop → Type 0
PairAt ts i (Ok pair) = (f : Name → Name → Outcome Decl) → paired ts i f ≡ f (name_of pair.0) (name_of pair.1)
PairAt ts i (Err (Unexpected k)) = (f : Name → Name → Outcome Decl) → paired ts i f ≡ bad k
PairAt ts i (Err NoMemory) = Unit {0}

-- what follows the ports of a switch
abbrev pub counted : List Kind → ℕ → (ℕ → Outcome Decl) → Outcome Decl
counted ts i f = reserved ts (codes "ports") i (numbered ts (i + 1) (λ p. marked ts (codes ";") (i + 2) (f p)))

-- their number, or a token with which there is none
abbrev pub PortsAt : List Kind → ℕ → Result ℕ Stop → Type 0
PortsAt ts i (Ok ports) = (f : ℕ → Outcome Decl) → counted ts i f ≡ f ports
PortsAt ts i (Err (Unexpected k)) = (f : ℕ → Outcome Decl) → counted ts i f ≡ bad k
PortsAt ts i (Err NoMemory) = Unit {0}

-- what follows the bound of a refinement
abbrev pub limited : List Kind → ℕ → (ℕ → Outcome Refine) → Outcome Refine
limited ts i f = reserved ts (codes "within") i (numbered ts (i + 1) (λ n. marked ts (codes "{") (i + 2) (f n)))

-- the bound, or a token with which there is none
abbrev pub LimitAt : List Kind → ℕ → Result ℕ Stop → Type 0
LimitAt ts i (Ok limit) = (f : ℕ → Outcome Refine) → limited ts i f ≡ f limit
LimitAt ts i (Err (Unexpected k)) = (f : ℕ → Outcome Refine) → limited ts i f ≡ bad k
LimitAt ts i (Err NoMemory) = Unit {0}

-- a refinement with these declarations, and a header with these fields
abbrev pub refinement : ℕ → List Name → ℕ → List Decl → Refine
refinement at roles within decls = record { at = at; roles = roles; within = within; decls = decls }

abbrev pub headed : Name → List Param → HeaderDecl
headed x fields = record { name = x; fields = fields }
