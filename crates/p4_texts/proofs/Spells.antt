-- What the goals stand for: for each the trees of its tokens, and the tokens, before those that follow.
use Rattle.std.specs.Prelude.{◌≡◌, ℕ, ◌+◌, Bool, List, [], ◌∷◌, ◌++◌, length, codes, refl}
use Rattle.std.proofs.Common.{ap}
use Rattle.cocoon_num.specs.Tokens.{Kind, a_name, plain, literal, mark}
use Rattle.p4_ir.specs.P4Text.{binary_mark, match_kind}
use Rattle.p4_ir.specs.Program.{binary_of}
use Rattle.p4_ir.specs.declared.program.P4Binary.{P4Binary}
use Rattle.p4_texts.specs.Machine.{Follow, to_semicolon, to_close, to_operator, to_colon, Goal, exactly, any_name, any_plain, any_literal, an_expr, after_expr, opened, stmts, stmts_or_else, after_else, after_first, dotted, after_meta, after_header, fields, headers, tables, first_key, first_match, keys, Goals, fixed}
use Rattle.p4_texts.specs.Written.{ExprText, w_slice, BlockText, FieldText, HeaderText, KeysText, TableText, RestText, expr_then, block_then, field_then, each_then, header_then, key_then, keys_then, table_then, rest_then, Lines}

-- ---- slices

pub record Bits : Type 0 where
  pub high : ℕ
  pub low : ℕ

abbrev pub slices_then : List Bits → List Kind → List Kind
slices_then [] ks = ks
slices_then (s ∷ ss) ks = mark (codes "[") ∷ plain s.high ∷ mark (codes ":") ∷ plain s.low ∷ mark (codes "]") ∷ slices_then ss ks

abbrev pub with_slices : ExprText → List Bits → ExprText
with_slices e [] = e
with_slices e (s ∷ ss) = with_slices (w_slice e s.high s.low) ss

pub sliced : (e : ExprText) (ss : List Bits) (ks : List Kind) → expr_then (with_slices e ss) ks ≡ expr_then e (slices_then ss ks)
sliced e [] ks = refl
sliced e (s ∷ ss) ks = sliced (w_slice e s.high s.low) ss ks

-- ---- what follows an expression

pub data Operation : Type 0 where
  with_right : (op : P4Binary) (b : ExprText) → Operation
  with_sides : (a b : ExprText) → Operation

abbrev pub operation_then : Operation → List Kind → List Kind
operation_then (with_right op b) ks = mark (binary_mark (binary_of op)) ∷ expr_then b (mark (codes ")") ∷ ks)
operation_then (with_sides a b) ks = mark (codes "?") ∷ expr_then a (mark (codes ":") ∷ expr_then b (mark (codes ")") ∷ ks))

abbrev pub After : Follow → Type 0
After to_semicolon = Unit {0}
After to_close = Unit {0}
After to_colon = Unit {0}
After to_operator = Operation

abbrev pub after_then : (f : Follow) → After f → List Kind → List Kind
after_then to_semicolon v ks = mark (codes ";") ∷ ks
after_then to_close v ks = mark (codes ")") ∷ ks
after_then to_colon v ks = mark (codes ":") ∷ ks
after_then to_operator v ks = operation_then v ks

-- ---- what follows an `if` and its block

pub data Otherwise : Type 0 where
  goes_on : (b : BlockText) → Otherwise
  has_else : (second b : BlockText) → Otherwise

abbrev pub otherwise_then : Otherwise → List Kind → List Kind
otherwise_then (goes_on b) ks = block_then b (mark (codes "}") ∷ ks)
otherwise_then (has_else c b) ks = a_name (codes "else") ∷ mark (codes "{") ∷ block_then c (mark (codes "}") ∷ block_then b (mark (codes "}") ∷ ks))

-- ---- parts of a phrase

-- the rest of an expression after these tokens
pub record RestOfExpr (before : List Kind → List Kind) : Type 0 where
  pub whole : ExprText
  pub part : List Kind → List Kind
  pub is : (ks : List Kind) → before (part ks) ≡ expr_then whole ks

-- the rest of statements up to `}`
pub record RestOfBlock (before : List Kind → List Kind) : Type 0 where
  pub whole : BlockText
  pub part : List Kind → List Kind
  pub is : (ks : List Kind) → before (part ks) ≡ block_then whole (mark (codes "}") ∷ ks)

pub record RestOfElse : Type 0 where
  pub whole : Otherwise
  pub part : List Kind → List Kind
  pub is : (ks : List Kind) → a_name (codes "else") ∷ part ks ≡ otherwise_then whole ks

pub record LiteralText : Type 0 where
  pub width : ℕ
  pub n : ℕ

pub record ExprAndAfter (f : Follow) : Type 0 where
  pub expr : ExprText
  pub then : After f

pub record SlicesAndAfter (f : Follow) : Type 0 where
  pub slices : List Bits
  pub then : After f

pub record MoreKeys : Type 0 where
  pub exact : Bool
  pub names : List (List ℕ)

pub record HeadersAndRest (n : ℕ) : Type 0 where
  pub headers : List HeaderText
  pub rest : RestText
  pub lines : Lines (length headers + n) rest

-- ---- goals

abbrev pub after_name : List ℕ → List Kind → List Kind
after_name x ks = a_name x ∷ ks

abbrev pub after_dot : List ℕ → List Kind → List Kind
after_dot x ks = a_name x ∷ mark (codes ".") ∷ ks

abbrev pub after_names : List ℕ → List ℕ → List Kind → List Kind
after_names x y ks = a_name x ∷ mark (codes ".") ∷ a_name y ∷ ks

abbrev pub after_open : List Kind → List Kind
after_open ks = mark (codes "(") ∷ ks

abbrev pub Tree : Goal → Type 0
Tree (exactly k) = Unit {0}
Tree any_name = List ℕ
Tree any_plain = ℕ
Tree any_literal = LiteralText
Tree (an_expr f) = ExprAndAfter f
Tree (after_expr f) = SlicesAndAfter f
Tree opened = RestOfExpr after_open
Tree stmts = BlockText
Tree stmts_or_else = Otherwise
Tree after_else = RestOfElse
Tree (after_first x) = RestOfBlock (after_name x)
Tree (dotted x) = RestOfBlock (after_dot x)
Tree (after_meta y) = RestOfBlock (after_names (codes "m") y)
Tree (after_header y) = RestOfBlock (after_names (codes "h") y)
Tree fields = List FieldText
Tree (headers n) = HeadersAndRest n
Tree tables = List TableText
Tree first_key = KeysText
Tree first_match = MoreKeys
Tree (keys b) = List (List ℕ)

abbrev pub spell : (g : Goal) → Tree g → List Kind → List Kind
spell (exactly k) t ks = k ∷ ks
spell any_name t ks = a_name t ∷ ks
spell any_plain t ks = plain t ∷ ks
spell any_literal t ks = literal t.width t.n ∷ ks
spell (an_expr f) t ks = expr_then t.expr (after_then f t.then ks)
spell (after_expr f) t ks = slices_then t.slices (after_then f t.then ks)
spell opened t ks = t.part ks
spell stmts t ks = block_then t (mark (codes "}") ∷ ks)
spell stmts_or_else t ks = otherwise_then t ks
spell after_else t ks = t.part ks
spell (after_first x) t ks = t.part ks
spell (dotted x) t ks = t.part ks
spell (after_meta y) t ks = t.part ks
spell (after_header y) t ks = t.part ks
spell fields t ks = each_then field_then t (mark (codes "}") ∷ ks)
spell (headers n) t ks = each_then header_then t.headers (rest_then t.rest ks)
spell tables t ks = each_then table_then t (a_name (codes "apply") ∷ ks)
spell first_key t ks = keys_then t (mark (codes "}") ∷ ks)
spell first_match t ks = match_kind t.exact ∷ mark (codes ";") ∷ each_then (key_then t.exact) t.names (mark (codes "}") ∷ ks)
spell (keys b) t ks = each_then (key_then b) t (mark (codes "}") ∷ ks)

abbrev pub Trees : Goals → Type 0
Trees [] = Unit {0}
Trees (g ∷ gs) = Tree g × Trees gs

abbrev pub spells : (gs : Goals) → Trees gs → List Kind → List Kind
spells [] ts ks = ks
spells (g ∷ gs) ts ks = spell g ts.0 (spells gs ts.1 ks)

-- ---- two lists of goals

pub record Split (gs hs : Goals) (ts : Trees (gs ++ hs)) : Type 0 where
  pub first : Trees gs
  pub second : Trees hs
  pub is : (ks : List Kind) → spells (gs ++ hs) ts ks ≡ spells gs first (spells hs second ks)

pub split : (gs hs : Goals) (ts : Trees (gs ++ hs)) → Split gs hs ts
split [] hs ts = record { first = tt; second = ts; is = λ ks. refl }
split (g ∷ gs) hs ts =
    let s = split gs hs ts.1 in
    record { first = (ts.0, s.first); second = s.second; is = λ ks. ap (spell g ts.0) (s.is ks) }

-- those of fixed tokens
pub fixed_spells : (js : List Kind) (ts : Trees (fixed js)) (ks : List Kind) → spells (fixed js) ts ks ≡ js ++ ks
fixed_spells [] ts ks = refl
fixed_spells (j ∷ js) ts ks = ap (λ z. j ∷ z) (fixed_spells js ts.1 ks)
