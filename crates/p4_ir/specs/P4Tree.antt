-- Programs of the P4-16 subset, and the rows that tables are filled with. Meta fields, headers and fields are named
-- by their numbers, from 0. It follows "Lowering and the P4 text" in docs/FORMATS.md. Optional headers, tags and versions
-- of rows are absent.
use Rattle.std.specs.Prelude.{ℕ, Bool, List, map, slice_get, Some, None}
use Rattle.cocoon_num.specs.Values.{UnaryOp, BinaryOp}
use Rattle.cocoon_num.specs.Packets.{Layout}

pub data P4Expr : Type 0 where
  p_lit : (width n : ℕ) → P4Expr
  p_truth : (b : Bool) → P4Expr
  p_meta : (i : ℕ) → P4Expr
  p_field : (header field : ℕ) → P4Expr
  p_port p_rid : P4Expr
  p_unary : (op : UnaryOp) (a : P4Expr) → P4Expr
  -- any operator; the kind rules shut `implies` out
  p_binary : (op : BinaryOp) (a b : P4Expr) → P4Expr
  p_slice : (a : P4Expr) (high low : ℕ) → P4Expr
  p_pick : (c a b : P4Expr) → P4Expr

mutual
  pub data P4Stmt : Type 0 where
    set_meta : (i : ℕ) (e : P4Expr) → P4Stmt
    set_header : (header field : ℕ) (e : P4Expr) → P4Stmt
    apply_table : (number : ℕ) → P4Stmt
    p_if : (e : P4Expr) (first : P4Block) → P4Stmt
    p_if_else : (e : P4Expr) (first second : P4Block) → P4Stmt
    verdict : (n : ℕ) → P4Stmt
    egress_port : (e : P4Expr) → P4Stmt
    group : (e : P4Expr) → P4Stmt
    p_return : P4Stmt

  pub data P4Block : Type 0 where
    p_done : P4Block
    p_then : (first : P4Stmt) (rest : P4Block) → P4Block

pub record P4Field : Type 0 where
  pub name : List ℕ
  pub width : ℕ

-- the name is what follows `ht_` and `h_`, and those of its fields what follows `f_`
pub record P4Header : Type 0 where
  pub name : List ℕ
  pub fields : List P4Field

-- a table with meta fields as its keys and its result
pub record P4Table : Type 0 where
  pub number : ℕ
  pub exact : Bool
  pub keys : List ℕ
  pub result : ℕ

pub record Control : Type 0 where
  pub tables : List P4Table
  pub body : P4Block

pub record Program : Type 0 where
  pub headers : List P4Header
  pub meta : List P4Field
  pub ingress : Control
  pub egress : Control

-- ---- rows

pub record KeyRow : Type 0 where
  pub values : List ℕ
  pub masks : List ℕ
  pub result : ℕ

pub record TableRows : Type 0 where
  pub number : ℕ
  pub otherwise : ℕ
  pub rows : List KeyRow

pub record Group : Type 0 where
  pub number : ℕ
  pub members : List ℕ

pub record RowsFile : Type 0 where
  pub tables : List TableRows
  pub groups : List Group

-- ---- widths

abbrev pub field_widths : List P4Field → List ℕ
field_widths fields = map (λ (f : P4Field). f.width) fields

abbrev pub program_layout : Program → Layout
program_layout p = map (λ (h : P4Header). field_widths h.fields) p.headers

-- the width of a meta field
abbrev pub meta_width : Program → ℕ → ℕ
meta_width p i = elim (slice_get p.meta i) [ Some f ↦ f.width | None ↦ 0 ]
