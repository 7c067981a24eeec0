-- Cited by the clauses of the parser. What its parts answer: a tree and the index of the token after it, or the index of the
-- token at which the plain reader is stuck. An answer that is out of memory says nothing.
use Rattle.std.specs.Prelude.{◌≡◌, ℕ, ◌+◌, ◌<◌, ◌≤◌, Bool, false, not, List, [], ◌∷◌, ◌++◌, length, map, drop, slice_get, slice_range, ⊤, Option, Some, None, Result, Ok, Err, if◌then◌else◌, codes}
use Rattle.cocoon_num.specs.Names.{same_name}
use Rattle.cocoon_num.specs.Tokens.{Kind, a_name, plain, literal, mark}
use Rattle.cocoon_num.specs.declared.bits.Bits.{Bits}
use Rattle.p4_ir.specs.declared.program.P4Binary.{P4Binary}
use Rattle.p4_ir.specs.declared.program.P4Binary.TheVariants as op
use Rattle.p4_parse.specs.Kinds.{kind_of, mark_text}
use Rattle.p4_parse.specs.declared.token.Mark.{Mark}
use Rattle.p4_parse.specs.declared.token.Token.{Token}
use Rattle.p4_texts.specs.Machine.{Follow, Goals, an_expr, any_name, any_plain, opened, stuck, the_mark, to_close, to_colon}
use Rattle.p4_texts.specs.Written.{ExprText, expr_then}
use Rattle.p4_texts.specs.TreeOf.{expr_of}
use Rattle.p4_texts.specs.declared.written.WrittenExpr.{WrittenExpr}
use Rattle.parsing.specs.declared.stop.Stop.{Stop}
use Rattle.parsing.specs.declared.stop.Stop.TheVariants.{Unexpected, NoMemory}

-- ---- tokens

-- the kind of a token of a text
abbrev pub kind_at : List ℕ → Token → Kind
kind_at text t = kind_of t.kind (slice_range text t.start t.end)

-- the kinds of tokens of a text
abbrev pub kinds_at : List ℕ → List Token → List Kind
kinds_at text tokens = map (kind_at text) tokens

-- the kind of a mark
abbrev pub mark_kind : Mark → Kind
mark_kind m = mark (mark_text m)

abbrev pub is_mark : List ℕ → Option Kind → Bool
is_mark m (Some (mark x)) = same_name m x
is_mark m _ = false

abbrev pub is_word : List ℕ → Option Kind → Bool
is_word w (Some (a_name x)) = same_name w x
is_word w _ = false

-- `else`, which is no name of a table
abbrev pub else_at : Option Kind → Option Kind → Bool
else_at o p = if is_word (codes "else") o then not (is_mark (codes ".") p) else false

abbrev pub name_in : Option Kind → Option (List ℕ)
name_in (Some (a_name x)) = Some x
name_in _ = None

abbrev pub plain_in : Option Kind → Option ℕ
plain_in (Some (plain n)) = Some n
plain_in _ = None

-- the literal of a width
pub record Literal : Type 0 where
  pub width : ℕ
  pub n : ℕ

abbrev pub literal_in : Option Kind → Option Literal
literal_in (Some (literal w n)) = Some (record { width = w; n = n })
literal_in _ = None

abbrev pub literal_of : Bits → Literal
literal_of b = record { width = b.width; n = b.value }

-- the text of the mark that a token is
abbrev pub mark_in : Option Kind → Option (List ℕ)
mark_in (Some (mark x)) = Some x
mark_in _ = None

-- the operators, by their marks
pub record Sign : Type 0 where
  pub text : List ℕ
  pub op : P4Binary

abbrev pub sign : List ℕ → P4Binary → Sign
sign text op = record { text = text; op = op }

abbrev pub signs : List Sign
signs =
    sign (codes "+") op.Add ∷ sign (codes "-") op.Sub ∷ sign (codes "&") op.BitAnd ∷ sign (codes "|") op.BitOr ∷ sign (codes "^") op.BitXor ∷ sign (codes "++") op.Concat ∷ sign (codes "==") op.Equal ∷ sign (codes "!=") op.Unequal ∷ sign (codes "<") op.Less ∷ sign (codes "<=") op.LessEqual ∷ sign (codes ">") op.Greater ∷ sign (codes ">=") op.GreaterEqual ∷ sign (codes "&&") op.And ∷ sign (codes "||") op.Or ∷ []

abbrev pub among : List Sign → List ℕ → Option P4Binary
among [] m = None
among (s ∷ ss) m = if same_name s.text m then Some s.op else among ss m

-- the operator that a token is
abbrev pub operator_at : Option (List ℕ) → Option P4Binary
operator_at None = None
operator_at (Some m) = among signs m

-- ---- answers

-- so many goals are met by the tokens from one index up to another, which are those of the tree
pub record Read {A : Type 0} (gs : Goals) (tokens : A → List Kind → List Kind) (ts : List Kind) (pos : ℕ) (x : A) (next : ℕ) : Type 0 where
  pub after : pos < next
  pub within : next ≤ length ts
  pub are : drop pos ts ≡ tokens x (drop next ts)
  pub goes : (hs : Goals) → stuck (gs ++ hs) (drop pos ts) ≡ stuck hs (drop next ts)

-- the reader is stuck at this token
pub record Refused (gs : Goals) (ts : List Kind) (pos i : ℕ) : Type 0 where
  pub within : i ≤ length ts
  pub there : (hs : Goals) → stuck (gs ++ hs) (drop pos ts) ≡ Some (drop i ts)

abbrev pub Phrase : {A : Type 0} → Goals → (A → List Kind → List Kind) → List Kind → ℕ → Result (A × ℕ) Stop → Type 0
Phrase gs tokens ts pos (Ok found) = Read gs tokens ts pos found.0 found.1
Phrase gs tokens ts pos (Err (Unexpected i)) = Refused gs ts pos i
Phrase gs tokens ts pos (Err NoMemory) = Unit {0}

-- the same of fixed tokens
abbrev pub Fixed : Goals → List Kind → List Kind → ℕ → Result ℕ Stop → Type 0
Fixed gs ks ts pos (Ok next) = Read gs (λ (x : ⊤) rest. ks ++ rest) ts pos tt next
Fixed gs ks ts pos (Err (Unexpected i)) = Refused gs ts pos i
Fixed gs ks ts pos (Err NoMemory) = Unit {0}

-- where none is read, no name stands there
abbrev pub NoName : {A : Type 0} → ℕ → Option Kind → Result (A × ℕ) Stop → Type 0
NoName pos o (Ok found) = Unit {0}
NoName pos o (Err (Unexpected i)) = (name_in o ≡ None) × (i ≡ pos)
NoName pos o (Err NoMemory) = Unit {0}

-- an expression, whatever follows
pub record ReadExpr (ts : List Kind) (pos : ℕ) (e : ExprText) (next : ℕ) : Type 0 where
  pub after : pos < next
  pub within : next ≤ length ts
  pub are : drop pos ts ≡ expr_then e (drop next ts)

pub record RefusedExpr (ts : List Kind) (pos i : ℕ) : Type 0 where
  pub within : i ≤ length ts
  pub there : (f : Follow) (hs : Goals) → stuck (an_expr f ∷ hs) (drop pos ts) ≡ Some (drop i ts)

abbrev pub ExprAt : List Kind → ℕ → Result (WrittenExpr × ℕ) Stop → Type 0
ExprAt ts pos (Ok found) = ReadExpr ts pos (expr_of found.0) found.1
ExprAt ts pos (Err (Unexpected i)) = RefusedExpr ts pos i
ExprAt ts pos (Err NoMemory) = Unit {0}

-- what stands in brackets, after the first
pub record ReadOpened (ts : List Kind) (pos : ℕ) (e : ExprText) (next : ℕ) : Type 0 where
  pub after : pos < next
  pub within : next ≤ length ts
  pub are : mark (codes "(") ∷ drop pos ts ≡ expr_then e (drop next ts)

abbrev pub OpenedAt : List Kind → ℕ → Result (WrittenExpr × ℕ) Stop → Type 0
OpenedAt ts pos (Ok found) = ReadOpened ts pos (expr_of found.0) found.1
OpenedAt ts pos (Err (Unexpected i)) = Refused (opened ∷ []) ts pos i
OpenedAt ts pos (Err NoMemory) = Unit {0}

-- [H:L]
abbrev pub range_goals : Goals
range_goals = the_mark (codes "[") ∷ any_plain ∷ the_mark (codes ":") ∷ any_plain ∷ the_mark (codes "]") ∷ []

abbrev pub range_then : ℕ × ℕ → List Kind → List Kind
range_then p ks = mark (codes "[") ∷ plain p.0 ∷ mark (codes ":") ∷ plain p.1 ∷ mark (codes "]") ∷ ks

-- .NAME
abbrev pub dotted_goals : Goals
dotted_goals = the_mark (codes ".") ∷ any_name ∷ []

abbrev pub dotted_then : List ℕ → List Kind → List Kind
dotted_then x ks = mark (codes ".") ∷ a_name x ∷ ks

-- .NAME.NAME
abbrev pub path_goals : Goals
path_goals = the_mark (codes ".") ∷ any_name ∷ the_mark (codes ".") ∷ any_name ∷ []

abbrev pub path_then : List ℕ × List ℕ → List Kind → List Kind
path_then p ks = mark (codes ".") ∷ a_name p.0 ∷ mark (codes ".") ∷ a_name p.1 ∷ ks

-- ? A : B)
abbrev pub sides_goals : Goals
sides_goals = the_mark (codes "?") ∷ an_expr to_colon ∷ an_expr to_close ∷ []

pub record Sides : Type 0 where
  pub first : ExprText
  pub second : ExprText

abbrev pub sides_of : WrittenExpr × WrittenExpr → Sides
sides_of p = record { first = expr_of p.0; second = expr_of p.1 }

abbrev pub sides_then : WrittenExpr × WrittenExpr → List Kind → List Kind
sides_then p ks = mark (codes "?") ∷ expr_then (expr_of p.0) (mark (codes ":") ∷ expr_then (expr_of p.1) (mark (codes ")") ∷ ks))

-- ---- parts of answers

-- what was read, and the mark after it
abbrev pub with_mark : {A : Type 0} → List Kind → List ℕ → Result (A × ℕ) Stop → Result (A × ℕ) Stop
with_mark ts m (Ok found) = if is_mark m (slice_get ts found.1) then Ok (found.0, found.1 + 1) else Err (Unexpected found.1)
with_mark ts m (Err stop) = Err stop
