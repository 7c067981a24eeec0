-- How long the texts of expressions and of statements are at least.
use Rattle.std.proofs.Common.{◌≡◌, ℕ, zero, suc, ◌+◌, ◌*◌, ◌≤◌, List, [], ◌∷◌, ◌++◌, length, replicate, codes, decimal, Bool, true, false, if◌then◌else◌, ap, ◌∙◌, arith}
use Rattle.std.proofs.lemmas.List.{length-append, length-replicate}
use Rattle.cocoon_num.specs.Values.{UnaryOp, flip, not_, BinaryOp, implies, or_}
use Rattle.cocoon_num.specs.Tree.{Param, ResultKind, of_width, of_truth}
use Rattle.p4_ir.specs.P4Tree.{P4Expr, p_lit, p_unary, p_binary, p_slice, p_pick, P4Stmt, set_meta, set_header, apply_table, p_if, p_if_else, p_return, P4Field, Program}
use Rattle.p4_ir.specs.Program.{block_of}
use Rattle.p4_emit.specs.Printed.{binary_text, block_text, bounds_text, each_text, expr_text, if_text, meta_member_text, meta_text, new_line, set_text, stmt_text, unary_text, end_text, else_text}
use Rattle.p4_emit.specs.Printed as emitted
use Rattle.lowering.specs.Lower.{FieldName, Made, a_field, a_group, a_table, fields_from, kept, key_name, p_operation, result_name, sets, site_name, var_name}
use Rattle.lowering.specs.SwitchProgram.{field_text, fields_in}
use Rattle.lowering.specs.LowerBlock.{if_stmt}
use Rattle.lowering.specs.LowerSites.{is_return, with_return}

-- ---- lists

of_three : (a b c : List ℕ) → length (a ++ (b ++ c)) ≡ length a + (length b + length c)
of_three a b c = length-append a (b ++ c) ∙ ap (λ n. length a + n) (length-append b c)

-- within some marks
in_two : (o x y : List ℕ) → length x + length y + (2 + length o) ≤ length (codes "(" ++ (x ++ (o ++ (y ++ codes ")"))))
in_two o x y =
    let a : length (x ++ (o ++ (y ++ codes ")"))) ≡ length x + (length o + length (y ++ codes ")")) = of_three x o (y ++ codes ")") in
    let b : length (y ++ codes ")") ≡ length y + 1 = length-append y (codes ")") in
    omega arith

in_three : (x y z : List ℕ) → length x + length y + length z + 8 ≤ length (codes "(" ++ (x ++ (codes " ? " ++ (y ++ (codes " : " ++ (z ++ codes ")"))))))
in_three x y z =
    let a : length (x ++ (codes " ? " ++ (y ++ (codes " : " ++ (z ++ codes ")"))))) ≡ length x + (3 + length (y ++ (codes " : " ++ (z ++ codes ")"))))
    = of_three x (codes " ? ") (y ++ (codes " : " ++ (z ++ codes ")"))) in
    let b : length (y ++ (codes " : " ++ (z ++ codes ")"))) ≡ length y + (3 + length (z ++ codes ")")) = of_three y (codes " : ") (z ++ codes ")") in
    let c : length (z ++ codes ")") ≡ length z + 1 = length-append z (codes ")") in
    omega arith

before_bounds : (x : List ℕ) (high low : ℕ) → length x + 3 ≤ length (x ++ bounds_text high low)
before_bounds x high low =
    let last = decimal low ++ codes "]" in
    let a : length (x ++ bounds_text high low) ≡ length x + (1 + length (decimal high ++ (codes ":" ++ last))) = of_three x (codes "[") (decimal high ++ (codes ":" ++ last)) in
    let b : length (decimal high ++ (codes ":" ++ last)) ≡ length (decimal high) + (1 + length last) = of_three (decimal high) (codes ":") last in
    let c : length last ≡ length (decimal low) + 1 = length-append (decimal low) (codes "]") in
    omega arith

after_two : (x : List ℕ) (a b : ℕ) → length x + 2 ≤ length (a ∷ b ∷ x ++ codes ")")
after_two x a b = let h : length (x ++ codes ")") ≡ length x + 1 = length-append x (codes ")") in omega arith

in_set : (t x : List ℕ) → length x + 4 ≤ length (t ++ (codes " = " ++ (x ++ codes ";")))
in_set t x =
    let a : length (t ++ (codes " = " ++ (x ++ codes ";"))) ≡ length t + (3 + length (x ++ codes ";")) = of_three t (codes " = ") (x ++ codes ";") in
    let b : length (x ++ codes ";") ≡ length x + 1 = length-append x (codes ";") in
    omega arith

in_if : (x : List ℕ) → length x + 1 ≤ length (codes "if (" ++ (x ++ codes ") {"))
in_if x = let a : length (x ++ codes ") {") ≡ length x + 3 = length-append x (codes ") {") in omega arith

-- ---- expressions

abbrev pub expr_length : Program → P4Expr → ℕ
expr_length p e = length (expr_text p e)

pub unary_long : (p : Program) (op : UnaryOp) (a : P4Expr) → expr_length p a + 2 ≤ expr_length p (p_unary op a)
unary_long p flip a = after_two (expr_text p a) 40 126
unary_long p not_ a = after_two (expr_text p a) 40 33

binary_long : (p : Program) (op : BinaryOp) (a b : P4Expr) → expr_length p a + expr_length p b + (2 + length (binary_text op)) ≤ expr_length p (p_binary op a b)
binary_long p op a b = in_two (binary_text op) (expr_text p a) (expr_text p b)

pub operation_long : (p : Program) (op : BinaryOp) (a b : P4Expr) → expr_length p a + expr_length p b + 4 ≤ expr_length p (p_operation op a b)
operation_long p implies a b =
    let h : expr_length p (p_unary not_ a) + expr_length p b + 6 ≤ expr_length p (p_binary or_ (p_unary not_ a) b) = binary_long p or_ (p_unary not_ a) b in
    let k : expr_length p a + 2 ≤ expr_length p (p_unary not_ a) = unary_long p not_ a in
    omega arith
operation_long p op a b =
    let h : expr_length p a + expr_length p b + (2 + length (binary_text op)) ≤ expr_length p (p_binary op a b) = binary_long p op a b in
    omega arith

pub slice_long : (p : Program) (a : P4Expr) (high low : ℕ) → expr_length p a + 3 ≤ expr_length p (p_slice a high low)
slice_long p a high low = before_bounds (expr_text p a) high low

pub pick_long : (p : Program) (c a b : P4Expr) → expr_length p c + expr_length p a + expr_length p b + 8 ≤ expr_length p (p_pick c a b)
pick_long p c a b = in_three (expr_text p c) (expr_text p a) (expr_text p b)

pub kept_long : (p : Program) (k : ResultKind) (e : P4Expr) → expr_length p e ≤ expr_length p (kept k e)
kept_long p (of_width w) e = omega arith
kept_long p of_truth e =
    let h : expr_length p e + expr_length p (p_lit 1 1) + expr_length p (p_lit 1 0) + 8 ≤ expr_length p (p_pick e (p_lit 1 1) (p_lit 1 0)) = pick_long p e (p_lit 1 1) (p_lit 1 0) in
    omega arith

-- of some expressions, with a line more for each
abbrev pub all_length : Program → List P4Expr → ℕ
all_length p [] = 0
all_length p (e ∷ es) = (8 + expr_length p e) + all_length p es

-- ---- code

-- blanks before each line of a control, and of the blocks in it
abbrev pub indent : (depth : ℕ) → ℕ
indent zero = 4
indent (suc d) = indent d + 2

indented : (d : ℕ) → 4 ≤ indent d
indented zero = omega arith
indented (suc d) = let h : 4 ≤ indent d = indented d in omega arith

-- of code at this depth
abbrev pub code_length : Program → (depth : ℕ) → List P4Stmt → ℕ
code_length p d code = length (block_text p (indent d) (block_of code))

-- of a statement with its line feed and the blanks before it
abbrev line_length : Program → (depth : ℕ) → P4Stmt → ℕ
line_length p d x = length (new_line (indent d)) + length (stmt_text p (indent d) x)

first_line : (p : Program) (d : ℕ) (x : P4Stmt) (code : List P4Stmt) → code_length p d (x ∷ code) ≡ line_length p d x + code_length p d code
first_line p d x code =
    let h : code_length p d (x ∷ code) ≡ length (new_line (indent d)) + (length (stmt_text p (indent d) x) + code_length p d code) = of_three (new_line (indent d)) (stmt_text p (indent d) x) (block_text p (indent d) (block_of code)) in
    omega arith

pub code_more : (p : Program) (d : ℕ) (xs ys : List P4Stmt) → code_length p d (xs ++ ys) ≡ code_length p d xs + code_length p d ys
code_more p d [] ys = omega arith
code_more p d (x ∷ xs) ys =
    let r : code_length p d (xs ++ ys) ≡ code_length p d xs + code_length p d ys = code_more p d xs ys in
    let a : code_length p d (x ∷ (xs ++ ys)) ≡ line_length p d x + code_length p d (xs ++ ys) = first_line p d x (xs ++ ys) in
    let b : code_length p d (x ∷ xs) ≡ line_length p d x + code_length p d xs = first_line p d x xs in
    omega arith

-- a statement at the head
pub one_long : (p : Program) (d : ℕ) (x : P4Stmt) (code : List P4Stmt) → length (stmt_text p (indent d) x) + 5 + code_length p d code ≤ code_length p d (x ∷ code)
one_long p d x code =
    let h : code_length p d (x ∷ code) ≡ line_length p d x + code_length p d code = first_line p d x code in
    let k : length (replicate {A = ℕ} (indent d) 32) ≡ indent d = length-replicate {A = ℕ} (indent d) 32 in
    let l : 4 ≤ indent d = indented d in
    omega arith

pub set_long : (p : Program) (d i : ℕ) (e : P4Expr) (code : List P4Stmt) → expr_length p e + 9 + code_length p d code ≤ code_length p d (set_meta i e ∷ code)
set_long p d i e code =
    let h : expr_length p e + 4 ≤ length (stmt_text p (indent d) (set_meta i e)) = in_set (meta_text p i) (expr_text p e) in
    let k : length (stmt_text p (indent d) (set_meta i e)) + 5 + code_length p d code ≤ code_length p d (set_meta i e ∷ code) = one_long p d (set_meta i e) code in
    omega arith

pub set_header_long : (p : Program) (d h f : ℕ) (e : P4Expr) → expr_length p e + 9 ≤ code_length p d (set_header h f e ∷ [])
set_header_long p d h f e =
    let a : expr_length p e + 4 ≤ length (stmt_text p (indent d) (set_header h f e)) = in_set (emitted.field_text p h f) (expr_text p e) in
    let b : length (stmt_text p (indent d) (set_header h f e)) + 5 + 0 ≤ code_length p d (set_header h f e ∷ []) = one_long p d (set_header h f e) [] in
    omega arith

pub apply_long : (p : Program) (d n : ℕ) → 1 ≤ code_length p d (apply_table n ∷ [])
apply_long p d n = let h : length (stmt_text p (indent d) (apply_table n)) + 5 + 0 ≤ code_length p d (apply_table n ∷ []) = one_long p d (apply_table n) [] in omega arith

-- fields that are set to expressions
pub sets_long : (p : Program) (d i : ℕ) (es : List P4Expr) → all_length p es ≤ code_length p d (sets i es)
sets_long p d i [] = omega arith
sets_long p d i (e ∷ es) =
    let r : all_length p es ≤ code_length p d (sets (suc i) es) = sets_long p d (suc i) es in
    let h : expr_length p e + 9 + code_length p d (sets (suc i) es) ≤ code_length p d (set_meta i e ∷ sets (suc i) es) = set_long p d i e (sets (suc i) es) in
    omega arith

-- ---- code with the meta fields that are made for it

-- a line for each field
abbrev pub fields_length : List Made → ℕ
fields_length [] = 0
fields_length (a_field x i w ∷ ms) = 11 + fields_length ms
fields_length (a_table t f ps ∷ ms) = fields_length ms
fields_length (a_group t f ps ∷ ms) = fields_length ms

pub fields_more : (ms more : List Made) → fields_length (ms ++ more) ≡ fields_length ms + fields_length more
fields_more [] more = omega arith
fields_more (a_field x i w ∷ ms) more = let r = fields_more ms more in omega arith
fields_more (a_table t f ps ∷ ms) more = fields_more ms more
fields_more (a_group t f ps ∷ ms) more = fields_more ms more

-- fields of parameters
pub params_long : (named : ℕ → FieldName) (j i : ℕ) (ps : List Param) (more : List Made) → fields_length (fields_from named j i ps ++ more) ≡ 11 * length ps + fields_length more
params_long named j i [] more = omega arith
params_long named j i (p ∷ ps) more = let r = params_long named (suc j) (suc i) ps more in omega arith

abbrev pub whole_length : Program → (depth : ℕ) → List P4Stmt → List Made → ℕ
whole_length p d code made = code_length p d code + fields_length made

pub whole_more : (p : Program) (d : ℕ) (xs ys : List P4Stmt) (ms more : List Made) → whole_length p d (xs ++ ys) (ms ++ more) ≡ whole_length p d xs ms + whole_length p d ys more
whole_more p d xs ys ms more =
    let a : code_length p d (xs ++ ys) ≡ code_length p d xs + code_length p d ys = code_more p d xs ys in
    let b : fields_length (ms ++ more) ≡ fields_length ms + fields_length more = fields_more ms more in
    omega arith

-- a line that declares a field
named_long : (x : FieldName) → 1 ≤ length (field_text x)
named_long site_name = omega arith
named_long (key_name app i) = omega arith
named_long (result_name app) = omega arith
named_long (var_name j) = omega arith

member_long : (name : List ℕ) (w : ℕ) → 1 ≤ length name → 11 ≤ length (meta_member_text (record { name = name; width = w }))
unfolding meta_member_text
member_long name w h =
    let last = name ++ codes ";" in
    let a : length (decimal w ++ (codes "> " ++ last)) ≡ length (decimal w) + (2 + length last) = of_three (decimal w) (codes "> ") last in
    let b : length last ≡ length name + 1 = length-append name (codes ";") in
    omega arith

pub members_long : (ms : List Made) → fields_length ms ≤ length (each_text meta_member_text (fields_in ms))
members_long [] = omega arith
members_long (a_field x i w ∷ ms) =
    let f : P4Field = record { name = field_text x; width = w } in
    let r : fields_length ms ≤ length (each_text meta_member_text (fields_in ms)) = members_long ms in
    let h : 11 ≤ length (meta_member_text f) = member_long (field_text x) w (named_long x) in
    let k : length (meta_member_text f ++ each_text meta_member_text (fields_in ms)) ≡ length (meta_member_text f) + length (each_text meta_member_text (fields_in ms)) = length-append (meta_member_text f) (each_text meta_member_text (fields_in ms)) in
    omega arith
members_long (a_table t f ps ∷ ms) = members_long ms
members_long (a_group t f ps ∷ ms) = members_long ms

-- ---- branches

if_text_long : (p : Program) (e : P4Expr) → expr_length p e + 1 ≤ length (if_text p e)
unfolding if_text
if_text_long p e = in_if (expr_text p e)

two_of : (x a b : List ℕ) → length x + length a ≤ length (x ++ (a ++ b))
two_of x a b = let h : length (x ++ (a ++ b)) ≡ length x + (length a + length b) = of_three x a b in omega arith

three_of : (x a o b c : List ℕ) → length x + length a + length b ≤ length (x ++ (a ++ (o ++ (b ++ c))))
three_of x a o b c =
    let h : length (x ++ (a ++ (o ++ (b ++ c)))) ≡ length x + (length a + length (o ++ (b ++ c))) = of_three x a (o ++ (b ++ c)) in
    let k : length (o ++ (b ++ c)) ≡ length o + (length b + length c) = of_three o b c in
    omega arith

pub if_long : (p : Program) (d : ℕ) (e : P4Expr) (first second : List P4Stmt)
    → (2 + expr_length p e) + (code_length p (suc d) first + code_length p (suc d) second) ≤ code_length p d (if_stmt e first second ∷ [])
if_long p d e first [] =
    let c : expr_length p e + 1 ≤ length (if_text p e) = if_text_long p e in
    let h : length (if_text p e) + code_length p (suc d) first ≤ length (stmt_text p (indent d) (p_if e (block_of first)))
    = two_of (if_text p e) (block_text p (indent d + 2) (block_of first)) (end_text (indent d)) in
    let k : length (stmt_text p (indent d) (p_if e (block_of first))) + 5 + 0 ≤ code_length p d (p_if e (block_of first) ∷ []) = one_long p d (p_if e (block_of first)) [] in
    omega arith
if_long p d e first (x ∷ second) =
    let c : expr_length p e + 1 ≤ length (if_text p e) = if_text_long p e in
    let s = p_if_else e (block_of first) (block_of (x ∷ second)) in
    let h : length (if_text p e) + code_length p (suc d) first + code_length p (suc d) (x ∷ second) ≤ length (stmt_text p (indent d) s)
    = three_of (if_text p e) (block_text p (indent d + 2) (block_of first)) (else_text (indent d)) (block_text p (indent d + 2) (block_of (x ∷ second))) (end_text (indent d)) in
    let k : length (stmt_text p (indent d) s) + 5 + 0 ≤ code_length p d (s ∷ []) = one_long p d s [] in
    omega arith

-- with a `return;` at its end
pub return_long : (p : Program) (d : ℕ) (code : List P4Stmt) → code_length p d code ≤ code_length p d (with_return code)
return_long p d [] = omega arith
return_long p d (x ∷ []) = by (is_return x)
  where
    by : (b : Bool) → code_length p d (x ∷ []) ≤ code_length p d (if b then x ∷ [] else x ∷ p_return ∷ [])
    by true = omega arith
    by false = let h : code_length p d (x ∷ p_return ∷ []) ≡ code_length p d (x ∷ []) + code_length p d (p_return ∷ []) = code_more p d (x ∷ []) (p_return ∷ []) in omega arith
return_long p d (x ∷ y ∷ ys) =
    let r : code_length p d (y ∷ ys) ≤ code_length p d (with_return (y ∷ ys)) = return_long p d (y ∷ ys) in
    let a : code_length p d (x ∷ y ∷ ys) ≡ line_length p d x + code_length p d (y ∷ ys) = first_line p d x (y ∷ ys) in
    let b : code_length p d (x ∷ with_return (y ∷ ys)) ≡ line_length p d x + code_length p d (with_return (y ∷ ys)) = first_line p d x (with_return (y ∷ ys)) in
    omega arith
