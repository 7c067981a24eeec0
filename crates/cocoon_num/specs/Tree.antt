-- The trees of design texts and definitions texts, with lists where the code has vectors. `at` is the token index of
-- a node's first token; of an expression it is the token index that the grammar gives, brackets apart. It follows
-- the grammar in the section "Texts" of docs/LANGUAGE.md. Optional headers are absent.
use Rattle.std.specs.Prelude.{ℕ, Bool, List, Option}
use Rattle.cocoon_num.specs.Values.{Value, UnaryOp, BinaryOp}

pub record Name : Type 0 where
  pub at : ℕ
  pub text : List ℕ

mutual
  pub data Expr : Type 0 where
    name : (at : ℕ) (text : List ℕ) → Expr
    field : (at : ℕ) (header field : Name) → Expr
    lit : (at width n : ℕ) → Expr
    true_or_false : (at : ℕ) (b : Bool) → Expr
    call : (at : ℕ) (f : Name) (args : Exprs) → Expr
    unary : (at : ℕ) (op : UnaryOp) (a : Expr) → Expr
    binary : (at : ℕ) (op : BinaryOp) (a b : Expr) → Expr
    slice : (at : ℕ) (a : Expr) (high low : ℕ) → Expr
    pick : (at : ℕ) (c a b : Expr) → Expr

  pub data Exprs : Type 0 where
    no_exprs : Exprs
    expr : (first : Expr) (rest : Exprs) → Exprs

mutual
  pub data Stmt : Type 0 where
    let_ : (at : ℕ) (x : Name) (width : ℕ) (e : Expr) → Stmt
    set_field : (at : ℕ) (header field : Name) (e : Expr) → Stmt
    if_ : (at : ℕ) (e : Expr) (first second : Block) → Stmt
    filter : (at : ℕ) (e : Expr) → Stmt
    havoc_var : (at : ℕ) (x : Name) (width : ℕ) → Stmt
    havoc_field : (at : ℕ) (header field : Name) → Stmt
    assume : (at : ℕ) (e : Expr) → Stmt
    fork : (at : ℕ) (x : Name) (width : ℕ) (e : Expr) (body : Block) → Stmt
    send : (at : ℕ) (role : Name) (args : Exprs) → Stmt

  pub data Block : Type 0 where
    no_stmts : Block
    stmt : (first : Stmt) (rest : Block) → Block

pub record Param : Type 0 where
  pub name : Name
  pub width : ℕ

pub data ResultKind : Type 0 where
  of_width : (width : ℕ) → ResultKind
  of_truth : ResultKind

pub record FunctionDecl : Type 0 where
  pub name : Name
  pub params : List Param
  pub result : ResultKind
  pub body : Option Expr

pub record AssumeDecl : Type 0 where
  pub at : ℕ
  pub params : List Param
  pub body : Expr

pub record Role : Type 0 where
  pub name : Name
  pub params : List Param
  pub guard : Expr
  pub body : Option Block

pub record HostDecl : Type 0 where
  pub at : ℕ
  pub entry : Name
  pub sink : Name

pub record SwitchDecl : Type 0 where
  pub at : ℕ
  pub into : Name
  pub out : Name
  pub ports : ℕ

pub data Decl : Type 0 where
  a_function : FunctionDecl → Decl
  an_assumption : AssumeDecl → Decl
  a_role : Role → Decl
  a_host : HostDecl → Decl
  a_switch : SwitchDecl → Decl

pub record Refine : Type 0 where
  pub at : ℕ
  pub roles : List Name
  pub within : ℕ
  pub decls : List Decl

pub record HeaderDecl : Type 0 where
  pub name : Name
  pub fields : List Param

pub record Design : Type 0 where
  pub headers : List HeaderDecl
  pub decls : List Decl
  pub refines : List Refine

-- ---- definitions

pub data Pattern : Type 0 where
  literal : (width n : ℕ) → Pattern
  masked : (width n mask_width mask : ℕ) → Pattern
  any : Pattern

pub data Entry : Type 0 where
  a_default : (f : Name) (value : Value) → Entry
  a_row : (f : Name) (patterns : List Pattern) (value : Value) → Entry

abbrev pub DefsText : Type 0
DefsText = List Entry

-- ---- token indices

abbrev pub token_index : Expr → ℕ
token_index (name at x) = at
token_index (field at h f) = at
token_index (lit at w n) = at
token_index (true_or_false at b) = at
token_index (call at f es) = at
token_index (unary at op a) = at
token_index (binary at op a b) = at
token_index (slice at a h l) = at
token_index (pick at c a b) = at
