-- Which tree a text of a design or of definitions has: the grammar, one case for each production. A phrase goes from
-- the token with index i up to, but not with, the token with index j. A chain is a part and what follows it, and
-- groups to the left; brackets leave no node. It follows the section "Texts" of docs/LANGUAGE.md; every production
-- there has its case. Those of optional headers are absent.
use Rattle.std.specs.Prelude.{◌≡◌, ℕ, suc, ◌+◌, true, false, List, [], ◌∷◌, Option, Some, None, Ok, IsTrue, slice_get, codes}
use Rattle.cocoon_num.specs.Values.{Value, number, truth, flip, not_, BinaryOp, add, sub, bits_and, bits_or, bits_xor, concat, equal, unequal, less, less_equal, greater, greater_equal, and_, or_, implies}
use Rattle.cocoon_num.specs.Tree.{Name, Expr, name, field, lit, true_or_false, call, unary, binary, slice, pick, Exprs, no_exprs, expr, Stmt, let_, set_field, if_, filter, havoc_var, havoc_field, assume, fork, send, Block, no_stmts, stmt, Param, ResultKind, of_width, of_truth, FunctionDecl, AssumeDecl, Role, HostDecl, SwitchDecl, Decl, a_function, an_assumption, a_role, a_host, a_switch, Refine, HeaderDecl, Design, Pattern, literal as pattern_literal, masked, any, Entry, a_default, a_row, DefsText, token_index}
use Rattle.cocoon_num.specs.Tokens.{Kind, a_name, keyword, plain, literal, mark, finish, Token, lex, kinds, language, is_shallow, language_bounds}

-- the token with this index
abbrev pub Is : List Kind → ℕ → Kind → Type 0
Is ts i k = slice_get ts i ≡ Some k

abbrev pub Mark : List Kind → ℕ → List ℕ → Type 0
Mark ts i text = Is ts i (mark text)

abbrev pub Reserved : List Kind → ℕ → List ℕ → Type 0
Reserved ts i text = Is ts i (keyword text)

-- a name with its token index
abbrev pub Named : List Kind → ℕ → Name → Type 0
Named ts i n = Is ts i (a_name n.text) × (n.at ≡ i)

-- ---- lists

-- some phrases, one after another
pub data Many {A : Type 0} (P : ℕ → A → ℕ → Type 0) : ℕ → List A → ℕ → Type 0 where
  no_more : {i : ℕ} → Many P i [] i
  one_more : {i j k : ℕ} {x : A} {xs : List A} → P i x j → Many P j xs k → Many P i (x ∷ xs) k

-- one or more phrases with commas between
pub data Commas {A : Type 0} (ts : List Kind) (P : ℕ → A → ℕ → Type 0) : ℕ → List A → ℕ → Type 0 where
  last : {i j : ℕ} {x : A} → P i x j → Commas ts P i (x ∷ []) j
  then_comma : {i j k : ℕ} {x : A} {xs : List A} → P i x j → Mark ts j (codes ",") → Commas ts P (suc j) xs k
      → Commas ts P i (x ∷ xs) k

-- ---- expressions

-- the levels of operators, from the one that groups last on
pub data Level : Type 0 where
  of_expr of_or of_and of_cmp of_cat of_bit of_sum of_unary of_post of_prim : Level

-- of which phrases a chain is made
abbrev pub part : Level → Option Level
part of_or = Some of_and
part of_and = Some of_cmp
part of_cat = Some of_bit
part of_bit = Some of_sum
part of_sum = Some of_unary
part of_post = Some of_prim
part _ = None

-- by which operators
abbrev pub IsChain : Level → BinaryOp → Type 0
IsChain of_or or_ = Unit {0}
IsChain of_and and_ = Unit {0}
IsChain of_cat concat = Unit {0}
IsChain of_bit bits_and = Unit {0}
IsChain of_bit bits_or = Unit {0}
IsChain of_bit bits_xor = Unit {0}
IsChain of_sum add = Unit {0}
IsChain of_sum sub = Unit {0}
IsChain _ _ = ⊥

abbrev pub IsComparison : BinaryOp → Type 0
IsComparison equal = Unit {0}
IsComparison unequal = Unit {0}
IsComparison less = Unit {0}
IsComparison less_equal = Unit {0}
IsComparison greater = Unit {0}
IsComparison greater_equal = Unit {0}
IsComparison _ = ⊥

abbrev pub operator : BinaryOp → Kind
operator add = mark (codes "+")
operator sub = mark (codes "-")
operator bits_and = mark (codes "&")
operator bits_or = mark (codes "|")
operator bits_xor = mark (codes "^")
operator concat = mark (codes "++")
operator equal = mark (codes "==")
operator unequal = mark (codes "!=")
operator less = mark (codes "<")
operator less_equal = mark (codes "<=")
operator greater = mark (codes ">")
operator greater_equal = mark (codes ">=")
operator and_ = keyword (codes "and")
operator or_ = keyword (codes "or")
operator implies = mark (codes "=>")

-- a field of the packet: pkt.h.f
abbrev pub FieldAt : List Kind → ℕ → Name → Name → ℕ → Type 0
FieldAt ts i h f j =
    Reserved ts i (codes "pkt") × Mark ts (i + 1) (codes ".") × Named ts (i + 2) h × Mark ts (i + 3) (codes ".")
    × Named ts (i + 4) f × (j ≡ i + 5)

mutual
  pub data ExprAt (ts : List Kind) : Level → ℕ → Expr → ℕ → Type 0 where
    -- or [ "=>" expr ]
    no_implication : {i j : ℕ} {a : Expr} → ExprAt ts of_or i a j → ExprAt ts of_expr i a j
    an_implication : {i j k : ℕ} {a b : Expr} → ExprAt ts of_or i a j → Is ts j (operator implies)
        → ExprAt ts of_expr (suc j) b k → ExprAt ts of_expr i (binary (token_index a) implies a b) k
    -- a part, and what follows it in the chain
    a_chain : {l m : Level} {i j k : ℕ} {a b : Expr} → part l ≡ Some m → ExprAt ts m i a j → RestAt ts l a j b k
        → ExprAt ts l i b k
    -- cat [ comparison cat ]
    no_comparison : {i j : ℕ} {a : Expr} → ExprAt ts of_cat i a j → ExprAt ts of_cmp i a j
    a_comparison : {op : BinaryOp} {i j k : ℕ} {a b : Expr} → IsComparison op → ExprAt ts of_cat i a j
        → Is ts j (operator op) → ExprAt ts of_cat (suc j) b k → ExprAt ts of_cmp i (binary (token_index a) op a b) k
    -- ( "~" | "not" ) unary | post
    a_flip : {i j : ℕ} {a : Expr} → Mark ts i (codes "~") → ExprAt ts of_unary (suc i) a j
        → ExprAt ts of_unary i (unary i flip a) j
    a_not : {i j : ℕ} {a : Expr} → Reserved ts i (codes "not") → ExprAt ts of_unary (suc i) a j
        → ExprAt ts of_unary i (unary i not_ a) j
    no_unary : {i j : ℕ} {a : Expr} → ExprAt ts of_post i a j → ExprAt ts of_unary i a j
    -- prim
    a_variable : {i : ℕ} {x : List ℕ} → Is ts i (a_name x) → ExprAt ts of_prim i (name i x) (suc i)
    a_call : {i j : ℕ} {f : Name} {es : Exprs} → Named ts i f
        → Mark ts (i + 1) (codes "(") → ExprsAt ts (i + 2) es j → Mark ts j (codes ")")
        → ExprAt ts of_prim i (call i f es) (suc j)
    a_field : {i j : ℕ} {h f : Name} → FieldAt ts i h f j → ExprAt ts of_prim i (field i h f) j
    a_literal : {i width n : ℕ} → Is ts i (literal width n) → ExprAt ts of_prim i (lit i width n) (suc i)
    a_true : {i : ℕ} → Reserved ts i (codes "true") → ExprAt ts of_prim i (true_or_false i true) (suc i)
    a_false : {i : ℕ} → Reserved ts i (codes "false") → ExprAt ts of_prim i (true_or_false i false) (suc i)
    in_brackets : {i j : ℕ} {a : Expr} → Mark ts i (codes "(") → ExprAt ts of_expr (suc i) a j → Mark ts j (codes ")")
        → ExprAt ts of_prim i a (suc j)
    a_pick : {i j k l : ℕ} {c a b : Expr}
        → Mark ts i (codes "(") → ExprAt ts of_expr (suc i) c j → Mark ts j (codes "?") → ExprAt ts of_expr (suc j) a k → Mark ts k (codes ":") → ExprAt ts of_expr (suc k) b l → Mark ts l (codes ")")
        → ExprAt ts of_prim i (pick (token_index c) c a b) (suc l)

  -- What follows the parts so far, which are grouped to the left as the first expression: nothing, or an operator, a
  -- part and what follows them. Together they are the last expression.
  pub data RestAt (ts : List Kind) : Level → Expr → ℕ → Expr → ℕ → Type 0 where
    no_part : {l : Level} {j : ℕ} {a : Expr} → RestAt ts l a j a j
    a_part : {l m : Level} {op : BinaryOp} {j k n : ℕ} {a b c : Expr} → part l ≡ Some m → IsChain l op
        → Is ts j (operator op) → ExprAt ts m (suc j) b k → RestAt ts l (binary (token_index a) op a b) k c n
        → RestAt ts l a j c n
    a_slice : {j n high low : ℕ} {a c : Expr}
        → Mark ts j (codes "[") → Is ts (j + 1) (plain high) → Mark ts (j + 2) (codes ":") → Is ts (j + 3) (plain low) → Mark ts (j + 4) (codes "]")
        → RestAt ts of_post (slice (token_index a) a high low) (j + 5) c n → RestAt ts of_post a j c n

  -- one or more expressions with commas between
  pub data ExprsAt (ts : List Kind) : ℕ → Exprs → ℕ → Type 0 where
    last_expr : {i j : ℕ} {a : Expr} → ExprAt ts of_expr i a j → ExprsAt ts i (expr a no_exprs) j
    more_exprs : {i j k : ℕ} {a : Expr} {es : Exprs} → ExprAt ts of_expr i a j → Mark ts j (codes ",")
        → ExprsAt ts (suc j) es k → ExprsAt ts i (expr a es) k

-- an expression of any form
abbrev pub WholeExpr : List Kind → ℕ → Expr → ℕ → Type 0
WholeExpr ts i a j = ExprAt ts of_expr i a j

-- ---- types, parameters

-- bit<N>
abbrev pub BitsAt : List Kind → ℕ → ℕ → ℕ → Type 0
BitsAt ts i width j = Reserved ts i (codes "bit") × Mark ts (i + 1) (codes "<") × Is ts (i + 2) (plain width)
    × Mark ts (i + 3) (codes ">") × (j ≡ i + 4)

-- x: bit<N>
abbrev pub ParamAt : List Kind → ℕ → Param → ℕ → Type 0
ParamAt ts i p j = Named ts i p.name × Mark ts (i + 1) (codes ":") × BitsAt ts (i + 2) p.width j

abbrev pub ParamsAt : List Kind → ℕ → List Param → ℕ → Type 0
ParamsAt ts = Commas ts (ParamAt ts)

-- ---- statements

mutual
  pub data StmtAt (ts : List Kind) : ℕ → Stmt → ℕ → Type 0 where
    a_let : {i j k : ℕ} {p : Param} {e : Expr} → Reserved ts i (codes "let") → ParamAt ts (suc i) p j
        → Mark ts j (codes "=") → WholeExpr ts (suc j) e k → Mark ts k (codes ";")
        → StmtAt ts i (let_ i p.name p.width e) (suc k)
    a_setting : {i j k : ℕ} {h f : Name} {e : Expr} → FieldAt ts i h f j → Mark ts j (codes "=")
        → WholeExpr ts (suc j) e k → Mark ts k (codes ";") → StmtAt ts i (set_field i h f e) (suc k)
    an_if : {i j k : ℕ} {e : Expr} {a : Block} → Reserved ts i (codes "if")
        → Mark ts (i + 1) (codes "(") → WholeExpr ts (i + 2) e j → Mark ts j (codes ")") → BlockAt ts (suc j) a k
        → StmtAt ts i (if_ i e a no_stmts) k
    an_if_else : {i j k l : ℕ} {e : Expr} {a b : Block} → Reserved ts i (codes "if")
        → Mark ts (i + 1) (codes "(") → WholeExpr ts (i + 2) e j → Mark ts j (codes ")") → BlockAt ts (suc j) a k
        → Reserved ts k (codes "else") → BlockAt ts (suc k) b l → StmtAt ts i (if_ i e a b) l
    a_filter : {i j : ℕ} {e : Expr} → Reserved ts i (codes "filter") → WholeExpr ts (suc i) e j → Mark ts j (codes ";")
        → StmtAt ts i (filter i e) (suc j)
    a_havoc : {i j : ℕ} {p : Param} → Reserved ts i (codes "havoc") → ParamAt ts (suc i) p j → Mark ts j (codes ";")
        → StmtAt ts i (havoc_var i p.name p.width) (suc j)
    a_field_havoc : {i j : ℕ} {h f : Name} → Reserved ts i (codes "havoc") → FieldAt ts (suc i) h f j
        → Mark ts j (codes ";") → StmtAt ts i (havoc_field i h f) (suc j)
    an_assume : {i j : ℕ} {e : Expr} → Reserved ts i (codes "assume") → WholeExpr ts (suc i) e j → Mark ts j (codes ";")
        → StmtAt ts i (assume i e) (suc j)
    a_fork : {i j k l : ℕ} {p : Param} {e : Expr} {b : Block} → Reserved ts i (codes "fork")
        → Mark ts (i + 1) (codes "(") → ParamAt ts (i + 2) p j → Mark ts j (codes "|") → WholeExpr ts (suc j) e k → Mark ts k (codes ")")
        → BlockAt ts (suc k) b l → StmtAt ts i (fork i p.name p.width e b) l
    a_send : {i j : ℕ} {r : Name} {es : Exprs} → Reserved ts i (codes "send") → Named ts (i + 1) r
        → Mark ts (i + 2) (codes "[") → ExprsAt ts (i + 3) es j → Mark ts j (codes "]") → Mark ts (j + 1) (codes ";")
        → StmtAt ts i (send i r es) (j + 2)

  pub data StmtsAt (ts : List Kind) : ℕ → Block → ℕ → Type 0 where
    no_stmt : {i : ℕ} → StmtsAt ts i no_stmts i
    one_stmt : {i j k : ℕ} {s : Stmt} {b : Block} → StmtAt ts i s j → StmtsAt ts j b k → StmtsAt ts i (stmt s b) k

  pub data BlockAt (ts : List Kind) : ℕ → Block → ℕ → Type 0 where
    a_block : {i j : ℕ} {b : Block} → Mark ts i (codes "{") → StmtsAt ts (suc i) b j → Mark ts j (codes "}")
        → BlockAt ts i b (suc j)

-- ---- declarations

pub data ResultAt (ts : List Kind) : ℕ → ResultKind → ℕ → Type 0 where
  a_width : {i j width : ℕ} → BitsAt ts i width j → ResultAt ts i (of_width width) j
  a_truth : {i : ℕ} → Reserved ts i (codes "bool") → ResultAt ts i of_truth (suc i)

-- [ "=" expr ] ";"
pub data BodyAt (ts : List Kind) : ℕ → Option Expr → ℕ → Type 0 where
  without_body : {i : ℕ} → Mark ts i (codes ";") → BodyAt ts i None (suc i)
  with_body : {i j : ℕ} {e : Expr} → Mark ts i (codes "=") → WholeExpr ts (suc i) e j → Mark ts j (codes ";")
      → BodyAt ts i (Some e) (suc j)

-- ";" or "=" block
pub data RoleBodyAt (ts : List Kind) : ℕ → Option Block → ℕ → Type 0 where
  no_block : {i : ℕ} → Mark ts i (codes ";") → RoleBodyAt ts i None (suc i)
  its_block : {i j : ℕ} {b : Block} → Mark ts i (codes "=") → BlockAt ts (suc i) b j → RoleBodyAt ts i (Some b) j

-- parameters or none
pub data OptionalParamsAt (ts : List Kind) : ℕ → List Param → ℕ → Type 0 where
  no_params : {i : ℕ} → OptionalParamsAt ts i [] i
  some_params : {i j : ℕ} {ps : List Param} → ParamsAt ts i ps j → OptionalParamsAt ts i ps j

pub data DeclAt (ts : List Kind) : ℕ → Decl → ℕ → Type 0 where
  the_function : {i j k l : ℕ} {d : FunctionDecl} → Reserved ts i (codes "function") → Named ts (i + 1) d.name
      → Mark ts (i + 2) (codes "(") → ParamsAt ts (i + 3) d.params j → Mark ts j (codes ")")
      → Mark ts (j + 1) (codes ":") → ResultAt ts (j + 2) d.result k → BodyAt ts k d.body l
      → DeclAt ts i (a_function d) l
  the_assumption : {i j k : ℕ} {d : AssumeDecl} → Reserved ts i (codes "assume") → d.at ≡ i
      → Mark ts (i + 1) (codes "(") → OptionalParamsAt ts (i + 2) d.params j → Mark ts j (codes ")")
      → WholeExpr ts (suc j) d.body k → Mark ts k (codes ";") → DeclAt ts i (an_assumption d) (suc k)
  the_role : {i j k l : ℕ} {d : Role} → Reserved ts i (codes "role") → Named ts (i + 1) d.name
      → Mark ts (i + 2) (codes "[") → ParamsAt ts (i + 3) d.params j → Mark ts j (codes "]")
      → Mark ts (j + 1) (codes "|") → WholeExpr ts (j + 2) d.guard k → RoleBodyAt ts k d.body l
      → DeclAt ts i (a_role d) l
  the_host : {i : ℕ} {d : HostDecl} → Reserved ts i (codes "host") → d.at ≡ i
      → Mark ts (i + 1) (codes "(") → Named ts (i + 2) d.entry → Mark ts (i + 3) (codes ",") → Named ts (i + 4) d.sink → Mark ts (i + 5) (codes ")")
      → Mark ts (i + 6) (codes ";") → DeclAt ts i (a_host d) (i + 7)
  the_switch : {i : ℕ} {d : SwitchDecl} → Reserved ts i (codes "switch") → d.at ≡ i
      → Mark ts (i + 1) (codes "(") → Named ts (i + 2) d.into → Mark ts (i + 3) (codes ",") → Named ts (i + 4) d.out → Mark ts (i + 5) (codes ")")
      → Reserved ts (i + 6) (codes "ports") → Is ts (i + 7) (plain d.ports) → Mark ts (i + 8) (codes ";")
      → DeclAt ts i (a_switch d) (i + 9)

abbrev pub NameAt : List Kind → ℕ → Name → ℕ → Type 0
NameAt ts i n j = Named ts i n × (j ≡ suc i)

pub data RefineAt (ts : List Kind) : ℕ → Refine → ℕ → Type 0 where
  the_block : {i j k : ℕ} {d : Refine} → Reserved ts i (codes "refine") → d.at ≡ i
      → Commas ts (NameAt ts) (suc i) d.roles j
      → Reserved ts j (codes "within") → Is ts (j + 1) (plain d.within)
      → Mark ts (j + 2) (codes "{") → Many (DeclAt ts) (j + 3) d.decls k → Mark ts k (codes "}")
      → RefineAt ts i d (suc k)

-- x: bit<N>;
pub data HeaderFieldAt (ts : List Kind) : ℕ → Param → ℕ → Type 0 where
  the_field : {i j : ℕ} {p : Param} → ParamAt ts i p j → Mark ts j (codes ";") → HeaderFieldAt ts i p (suc j)

pub data HeaderAt (ts : List Kind) : ℕ → HeaderDecl → ℕ → Type 0 where
  the_header : {i j : ℕ} {d : HeaderDecl} {p : Param} {ps : List Param} → Reserved ts i (codes "header")
      → Named ts (i + 1) d.name
      → Mark ts (i + 2) (codes "{") → d.fields ≡ p ∷ ps → Many (HeaderFieldAt ts) (i + 3) d.fields j → Mark ts j (codes "}")
      → HeaderAt ts i d (suc j)

-- the whole design, up to the end of the text
pub record DesignAt (ts : List Kind) (d : Design) : Type 0 where
  pub first_header : HeaderDecl
  pub more_headers : List HeaderDecl
  pub after_headers : ℕ
  pub after_decls : ℕ
  pub after_refines : ℕ
  pub packet : Reserved ts 0 (codes "packet")
  pub opens : Mark ts 1 (codes "{")
  pub some_header : d.headers ≡ first_header ∷ more_headers
  pub headers : Many (HeaderAt ts) 2 d.headers after_headers
  pub closes : Mark ts after_headers (codes "}")
  pub decls : Many (DeclAt ts) (suc after_headers) d.decls after_decls
  pub refines : Many (RefineAt ts) after_decls d.refines after_refines
  pub ends : Is ts after_refines finish

-- ---- definitions

pub data ConstAt (ts : List Kind) : ℕ → Value → ℕ → Type 0 where
  const_number : {i width n : ℕ} → Is ts i (literal width n) → ConstAt ts i (number width n) (suc i)
  const_true : {i : ℕ} → Reserved ts i (codes "true") → ConstAt ts i (truth true) (suc i)
  const_false : {i : ℕ} → Reserved ts i (codes "false") → ConstAt ts i (truth false) (suc i)

pub data PatternAt (ts : List Kind) : ℕ → Pattern → ℕ → Type 0 where
  one_number : {i width n : ℕ} → Is ts i (literal width n) → PatternAt ts i (pattern_literal width n) (suc i)
  under_mask : {i width n mask_width mask : ℕ} → Is ts i (literal width n) → Mark ts (i + 1) (codes "&&&")
      → Is ts (i + 2) (literal mask_width mask) → PatternAt ts i (masked width n mask_width mask) (i + 3)
  any_number : {i : ℕ} → Mark ts i (codes "_") → PatternAt ts i any (suc i)

pub data EntryAt (ts : List Kind) : ℕ → Entry → ℕ → Type 0 where
  the_default : {i j : ℕ} {f : Name} {v : Value} → Reserved ts i (codes "default") → Named ts (i + 1) f
      → Mark ts (i + 2) (codes "=") → ConstAt ts (i + 3) v j → Mark ts j (codes ";")
      → EntryAt ts i (a_default f v) (suc j)
  the_row : {i j k : ℕ} {f : Name} {ps : List Pattern} {v : Value} → Reserved ts i (codes "define") → Named ts (i + 1) f
      → Mark ts (i + 2) (codes "(") → Commas ts (PatternAt ts) (i + 3) ps j → Mark ts j (codes ")")
      → Mark ts (j + 1) (codes "=") → ConstAt ts (j + 2) v k → Mark ts k (codes ";")
      → EntryAt ts i (a_row f ps v) (suc k)

abbrev pub DefsAt : List Kind → DefsText → Type 0
DefsAt ts entries = (j : ℕ) × Many (EntryAt ts) 0 entries j × Is ts j finish

-- ---- texts

-- a text of a design, and its tree
pub record Reads (text : List ℕ) (design : Design) : Type 0 where
  pub tokens : List Token
  pub tokens_are : lex language text ≡ Ok tokens
  pub shallow : IsTrue (is_shallow language_bounds (kinds tokens))
  pub reads : DesignAt (kinds tokens) design

-- a text of definitions, and its tree
pub record ReadsDefs (text : List ℕ) (entries : DefsText) : Type 0 where
  pub tokens : List Token
  pub tokens_are : lex language text ≡ Ok tokens
  pub shallow : IsTrue (is_shallow language_bounds (kinds tokens))
  pub reads : DefsAt (kinds tokens) entries
