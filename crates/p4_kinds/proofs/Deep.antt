-- No token of a program's text is deep where none of its two bodies is.
use Rattle.std.proofs.Common.{◌≡◌, ℕ, suc, ◌-◌, ◌≤◌, ◌<◌, List, [], ◌∷◌, ◌++◌, Bool, true, false, ◌&&◌, Option, Some, None, refl, ap, ap₂, sym, subst, ◌∙◌, arith, append_assoc}
use Rattle.std.specs.Prelude.{codes, slice_get, flat_map, nat_le, nat_lt, is_some, if◌then◌else◌}
use Rattle.std.proofs.lemmas.Bool.{le-leb, ltb-true}
use Rattle.std.proofs.lemmas.List.{append-nil}
use Rattle.cocoon_num.specs.Values.{UnaryOp, flip, not_, BinaryOp, add, sub, bits_and, bits_or, bits_xor, concat, equal, unequal, less, less_equal, greater, greater_equal, and_, or_, implies}
use Rattle.cocoon_num.specs.Tokens.{Kind, a_name, plain, mark, literal, finish, brackets_after, operators_after, none_deep, is_shallow}
use Rattle.p4_ir.specs.P4Tree.{P4Expr, p_lit, p_truth, p_meta, p_field, p_port, p_rid, p_unary, p_binary, p_slice, p_pick, P4Stmt, set_meta, set_header, apply_table, p_if, p_if_else, verdict, egress_port, group, p_return, P4Block, p_done, p_then, P4Field, P4Header, P4Table, Control, Program, meta_width}
use Rattle.p4_ir.specs.P4Kinds.{is_implies}
use Rattle.p4_ir.specs.P4Text.{p4_bounds, said, optional_tokens, meta_tokens, expr_tokens, stmt_tokens, block_tokens, unary_mark, binary_mark, header_type, header_name, field_name, table_name, action_name, in_parentheses, in_braces, assignment, declared, architecture, header_tokens, member_tokens, meta_member_tokens, match_kind, table_tokens, control_tokens, program_tokens}
use Rattle.p4_ir.specs.Program.{binary_of}
use Rattle.p4_ir.specs.declared.program.P4Binary.{P4Binary}
use Rattle.p4_ir.specs.declared.program.P4Binary.TheVariants.{Add, Sub, BitAnd, BitOr, BitXor, Concat, Equal, Unequal, Less, LessEqual, Greater, GreaterEqual, And, Or}
use Rattle.p4_kinds.specs.declared.depth.Depth.{Depth}
use Rattle.p4_kinds.specs.Depths.{opened, closed, operated, ended, by_operator, after_expr, after_condition, after_stmt, after_block, is_shallow_body}

-- no operator of the code is `implies`
pub no_implication : (op : P4Binary) → is_implies (binary_of op) ≡ false
no_implication Add = refl
no_implication Sub = refl
no_implication BitAnd = refl
no_implication BitOr = refl
no_implication BitXor = refl
no_implication Concat = refl
no_implication Equal = refl
no_implication Unequal = refl
no_implication Less = refl
no_implication LessEqual = refl
no_implication Greater = refl
no_implication GreaterEqual = refl
no_implication And = refl
no_implication Or = refl

-- ---- from some counts on

abbrev run : Option Depth → List Kind → Bool
run None ks = false
run (Some d) ks = none_deep p4_bounds d.brackets d.operators ks

-- so many brackets are open, and no count is over its bound
abbrev Level : ℕ → Option Depth → Type 0
Level n None = Unit {0}
Level n (Some d) = (d.brackets ≡ n) × (n ≤ 512) × (d.operators ≤ 1024)

few_brackets : (n : ℕ) (d : Depth) → Level n (Some d) → nat_le d.brackets 512 ≡ true
few_brackets n d h = le-leb d.brackets 512 (omega (arith, h.0, h.1))

few_operators : (n : ℕ) (d : Depth) → Level n (Some d) → nat_le d.operators 1024 ≡ true
few_operators n d h = le-leb d.operators 1024 h.2

level_where : (n : ℕ) (t : Bool) (d : Depth) → (t ≡ true → Level n (Some d)) → Level n (if t then Some d else None)
level_where n true d h = h refl
level_where n false d h = tt

below : (a b : ℕ) → nat_lt a b ≡ true → a < b
below a b h = ltb-true a b h

level_opened : (n : ℕ) (d : Option Depth) → Level n d → Level (suc n) (opened d)
level_opened n None h = tt
level_opened n (Some d) h =
    level_where (suc n) (nat_lt d.brackets 512) (record { brackets = suc d.brackets; operators = d.operators })
    (λ t. (ap suc h.0, omega (arith, h.0, below d.brackets 512 t), h.2))

level_closed : (n : ℕ) (d : Option Depth) → Level (suc n) d → Level n (closed d)
level_closed n None h = tt
level_closed n (Some d) h = (omega (arith, h.0), omega (arith, h.1), h.2)

level_operated : (n : ℕ) (d : Option Depth) → Level n d → Level n (operated d)
level_operated n None h = tt
level_operated n (Some d) h =
    level_where n (nat_lt d.operators 1024) (record { brackets = d.brackets; operators = suc d.operators })
    (λ t. (h.0, h.1, omega (arith, below d.operators 1024 t)))

level_ended : (n : ℕ) (d : Option Depth) → Level n d → Level n (ended d)
level_ended n None h = tt
level_ended n (Some d) h = (h.0, h.1, omega arith)

level_by : (op : BinaryOp) (n : ℕ) (d : Option Depth) → Level n d → Level n (by_operator op d)
level_by op n d h = chosen (is_implies op)
  where
    chosen : (t : Bool) → Level n (if t then d else operated d)
    chosen true = h
    chosen false = level_operated n d h

-- ---- token by token

-- what these tokens make of one depth is another
record Goes (ks : List Kind) (d e : Option Depth) : Type 0 where
  runs : (ls : List Kind) → run d (ks ++ ls) ≡ run e ls

nothing : {d : Option Depth} → Goes [] d d
nothing = record { runs = λ ls. refl }

joined : {ks ls : List Kind} {d e f : Option Depth} → Goes ks d e → Goes ls e f → Goes (ks ++ ls) d f
joined {ks} {ls} {d} {e} {f} a b = record { runs = λ ms. ap (run d) (append_assoc ks ls ms) ∙ a.runs (ls ++ ms) ∙ b.runs ms }

goes_as : {ks ls : List Kind} {d e : Option Depth} → ks ≡ ls → Goes ks d e → Goes ls d e
goes_as {d = d} {e = e} h g = subst (λ ks. Goes ks d e) h g

stuck : (ks : List Kind) → Goes ks None None
stuck ks = record { runs = λ ls. refl }

both : (t u r : Bool) → t ≡ true → u ≡ true → (t && u && r) ≡ r
both t u r e f = ap₂ (λ x y. x && y && r) e f

where_true : (t : Bool) (e : Depth) (ls : List Kind) → (t && run (Some e) ls) ≡ run (if t then Some e else None) ls
where_true true e ls = refl
where_true false e ls = refl

-- a token that changes neither count
silent : (k : Kind) → ((b : ℕ) → brackets_after b k ≡ b) → ((o : ℕ) → operators_after p4_bounds.operators o k ≡ o) → (n : ℕ) (d : Option Depth) → Level n d → Goes (k ∷ []) d d
silent k kb ko n None h = stuck (k ∷ [])
silent k kb ko n (Some d) h = record {
  runs = λ ls.
      ap₂ (λ b o. nat_le b 512 && nat_le o 1024 && none_deep p4_bounds b o ls) (kb d.brackets) (ko d.operators)
      ∙ both (nat_le d.brackets 512) (nat_le d.operators 1024) (none_deep p4_bounds d.brackets d.operators ls) (few_brackets n d h) (few_operators n d h);
}

an_operator : (k : Kind) → ((b : ℕ) → brackets_after b k ≡ b) → ((o : ℕ) → operators_after p4_bounds.operators o k ≡ suc o) → (n : ℕ) (d : Option Depth) → Level n d → Goes (k ∷ []) d (operated d)
an_operator k kb ko n None h = stuck (k ∷ [])
an_operator k kb ko n (Some d) h = record {
  runs = λ ls.
      ap₂ (λ b o. nat_le b 512 && nat_le o 1024 && none_deep p4_bounds b o ls) (kb d.brackets) (ko d.operators)
      ∙ ap (λ t. t && nat_le (suc d.operators) 1024 && none_deep p4_bounds d.brackets (suc d.operators) ls) (few_brackets n d h)
      ∙ where_true (nat_lt d.operators 1024) (record { brackets = d.brackets; operators = suc d.operators }) ls;
}

and_true : (t r : Bool) → (t && true && r) ≡ (t && r)
and_true true r = refl
and_true false r = refl

parenthesis : (n : ℕ) (d : Option Depth) → Level n d → Goes (mark (codes "(") ∷ []) d (opened d)
parenthesis n None h = stuck _
parenthesis n (Some d) h = record {
  runs = λ ls.
      ap (λ t. nat_lt d.brackets 512 && t && none_deep p4_bounds (suc d.brackets) d.operators ls) (few_operators n d h)
      ∙ and_true (nat_lt d.brackets 512) (none_deep p4_bounds (suc d.brackets) d.operators ls)
      ∙ where_true (nat_lt d.brackets 512) (record { brackets = suc d.brackets; operators = d.operators }) ls;
}

bracket : (n : ℕ) (d : Option Depth) → Level n d → Goes (mark (codes "[") ∷ []) d (operated (opened d))
bracket n None h = stuck _
bracket n (Some d) h = record { runs = λ ls. by_brackets (nat_lt d.brackets 512) ls }
  where
    by_brackets : (t : Bool) (ls : List Kind) → (t && nat_lt d.operators 1024 && none_deep p4_bounds (suc d.brackets) (suc d.operators) ls)
        ≡ run (operated (if t then Some (record { brackets = suc d.brackets; operators = d.operators }) else None)) ls
    by_brackets true ls = where_true (nat_lt d.operators 1024) (record { brackets = suc d.brackets; operators = suc d.operators }) ls
    by_brackets false ls = refl

brace : (n : ℕ) (d : Option Depth) → Level n d → Goes (mark (codes "{") ∷ []) d (ended (opened d))
brace n None h = stuck _
brace n (Some d) h = record { runs = λ ls. by_brackets (nat_lt d.brackets 512) ls }
  where
    by_brackets : (t : Bool) (ls : List Kind) → (t && true && none_deep p4_bounds (suc d.brackets) 0 ls)
        ≡ run (ended (if t then Some (record { brackets = suc d.brackets; operators = d.operators }) else None)) ls
    by_brackets true ls = refl
    by_brackets false ls = refl

closing : (k : Kind) → ((b : ℕ) → brackets_after b k ≡ b - 1) → ((o : ℕ) → operators_after p4_bounds.operators o k ≡ o) → (n : ℕ) (d : Option Depth) → Level (suc n) d → Goes (k ∷ []) d (closed d)
closing k kb ko n None h = stuck (k ∷ [])
closing k kb ko n (Some d) h = record {
  runs = λ ls.
      ap₂ (λ b o. nat_le b 512 && nat_le o 1024 && none_deep p4_bounds b o ls) (kb d.brackets) (ko d.operators)
      ∙ both (nat_le (d.brackets - 1) 512) (nat_le d.operators 1024) (none_deep p4_bounds (d.brackets - 1) d.operators ls)
      (le-leb (d.brackets - 1) 512 (omega (arith, h.0, h.1))) (few_operators (suc n) d h);
}

end_brace : (n : ℕ) (d : Option Depth) → Level (suc n) d → Goes (mark (codes "}") ∷ []) d (ended (closed d))
end_brace n None h = stuck _
end_brace n (Some d) h = record {
  runs = λ ls.
      both (nat_le (d.brackets - 1) 512) true (none_deep p4_bounds (d.brackets - 1) 0 ls) (le-leb (d.brackets - 1) 512 (omega (arith, h.0, h.1))) refl;
}

semicolon : (n : ℕ) (d : Option Depth) → Level n d → Goes (mark (codes ";") ∷ []) d (ended d)
semicolon n None h = stuck _
semicolon n (Some d) h = record {
  runs = λ ls. both (nat_le d.brackets 512) true (none_deep p4_bounds d.brackets 0 ls) (few_brackets n d h) refl;
}

named : (text : List ℕ) (n : ℕ) (d : Option Depth) → Level n d → Goes (a_name text ∷ []) d d
named text n d h = silent (a_name text) (λ b. refl) (λ o. refl) n d h

numbered : (m n : ℕ) (d : Option Depth) → Level n d → Goes (plain m ∷ []) d d
numbered m n d h = silent (plain m) (λ b. refl) (λ o. refl) n d h

a_literal : (w m n : ℕ) (d : Option Depth) → Level n d → Goes (literal w m ∷ []) d d
a_literal w m n d h = silent (literal w m) (λ b. refl) (λ o. refl) n d h

dot : (n : ℕ) (d : Option Depth) → Level n d → Goes (mark (codes ".") ∷ []) d d
dot n d h = silent (mark (codes ".")) (λ b. refl) (λ o. refl) n d h

sets : (n : ℕ) (d : Option Depth) → Level n d → Goes (mark (codes "=") ∷ []) d d
sets n d h = silent (mark (codes "=")) (λ b. refl) (λ o. refl) n d h

colon : (n : ℕ) (d : Option Depth) → Level n d → Goes (mark (codes ":") ∷ []) d (operated d)
colon n d h = an_operator (mark (codes ":")) (λ b. refl) (λ o. refl) n d h

asks : (n : ℕ) (d : Option Depth) → Level n d → Goes (mark (codes "?") ∷ []) d (operated d)
asks n d h = an_operator (mark (codes "?")) (λ b. refl) (λ o. refl) n d h

close : (n : ℕ) (d : Option Depth) → Level (suc n) d → Goes (mark (codes ")") ∷ []) d (closed d)
close n d h = closing (mark (codes ")")) (λ b. refl) (λ o. refl) n d h

close_bracket : (n : ℕ) (d : Option Depth) → Level (suc n) d → Goes (mark (codes "]") ∷ []) d (closed d)
close_bracket n d h = closing (mark (codes "]")) (λ b. refl) (λ o. refl) n d h

-- ---- names of fields

meta_goes : (o : Option P4Field) (n : ℕ) (d : Option Depth) → Level n d → Goes (optional_tokens (λ (f : P4Field). said (codes "m.") ++ a_name f.name ∷ []) o) d d
meta_goes None n d h = nothing
meta_goes (Some f) n d h = joined (named (codes "m") n d h) (joined (dot n d h) (named f.name n d h))

field_goes : (d : P4Header) (o : Option P4Field) (n : ℕ) (e : Option Depth) → Level n e
    → Goes (optional_tokens (λ (x : P4Field). said (codes "h.") ++ header_name d.name ∷ said (codes ".") ++ field_name x.name ∷ []) o) e e
field_goes d None n e h = nothing
field_goes d (Some x) n e h =
    joined (named (codes "h") n e h) (joined (dot n e h) (joined (named (codes "h_" ++ d.name) n e h) (joined (dot n e h) (named (codes "f_" ++ x.name) n e h))))

header_goes : (o : Option P4Header) (f n : ℕ) (d : Option Depth) → Level n d
    → Goes (optional_tokens (λ (d : P4Header). optional_tokens (λ (x : P4Field). said (codes "h.") ++ header_name d.name ∷ said (codes ".") ++ field_name x.name ∷ []) (slice_get d.fields f)) o) d d
header_goes None f n d h = nothing
header_goes (Some x) f n d h = field_goes x (slice_get x.fields f) n d h

-- ---- expressions

unary_goes : (op : UnaryOp) (n : ℕ) (d : Option Depth) → Level n d → Goes (mark (unary_mark op) ∷ []) d (operated d)
unary_goes flip n d h = an_operator (mark (codes "~")) (λ b. refl) (λ o. refl) n d h
unary_goes not_ n d h = an_operator (mark (codes "!")) (λ b. refl) (λ o. refl) n d h

binary_goes : (op : BinaryOp) (n : ℕ) (d : Option Depth) → Level n d → Goes (mark (binary_mark op) ∷ []) d (by_operator op d)
binary_goes add n d h = an_operator (mark (codes "+")) (λ b. refl) (λ o. refl) n d h
binary_goes sub n d h = an_operator (mark (codes "-")) (λ b. refl) (λ o. refl) n d h
binary_goes bits_and n d h = an_operator (mark (codes "&")) (λ b. refl) (λ o. refl) n d h
binary_goes bits_or n d h = an_operator (mark (codes "|")) (λ b. refl) (λ o. refl) n d h
binary_goes bits_xor n d h = an_operator (mark (codes "^")) (λ b. refl) (λ o. refl) n d h
binary_goes concat n d h = an_operator (mark (codes "++")) (λ b. refl) (λ o. refl) n d h
binary_goes equal n d h = an_operator (mark (codes "==")) (λ b. refl) (λ o. refl) n d h
binary_goes unequal n d h = an_operator (mark (codes "!=")) (λ b. refl) (λ o. refl) n d h
binary_goes less n d h = an_operator (mark (codes "<")) (λ b. refl) (λ o. refl) n d h
binary_goes less_equal n d h = an_operator (mark (codes "<=")) (λ b. refl) (λ o. refl) n d h
binary_goes greater n d h = an_operator (mark (codes ">")) (λ b. refl) (λ o. refl) n d h
binary_goes greater_equal n d h = an_operator (mark (codes ">=")) (λ b. refl) (λ o. refl) n d h
binary_goes and_ n d h = an_operator (mark (codes "&&")) (λ b. refl) (λ o. refl) n d h
binary_goes or_ n d h = an_operator (mark (codes "||")) (λ b. refl) (λ o. refl) n d h
binary_goes implies n d h = silent (mark []) (λ b. refl) (λ o. refl) n d h

expr_level : (e : P4Expr) (n : ℕ) (d : Option Depth) → Level n d → Level n (after_expr e d)
expr_level (p_lit w m) n d h = h
expr_level (p_truth b) n d h = h
expr_level (p_meta i) n d h = h
expr_level (p_field x f) n d h = h
expr_level p_port n d h = h
expr_level p_rid n d h = h
expr_level (p_unary op a) n d h = level_closed n _ (expr_level a (suc n) _ (level_operated (suc n) _ (level_opened n d h)))
expr_level (p_binary op a b) n d h = level_closed n _ (expr_level b (suc n) _ (level_by op (suc n) _ (expr_level a (suc n) _ (level_opened n d h))))
expr_level (p_slice a high low) n d h = level_closed n _ (level_operated (suc n) _ (level_operated (suc n) _ (level_opened n _ (expr_level a n d h))))
expr_level (p_pick c a b) n d h =
    level_closed n _ (expr_level b (suc n) _ (level_operated (suc n) _ (expr_level a (suc n) _ (level_operated (suc n) _ (expr_level c (suc n) _ (level_opened n d h))))))

pick_order : (c a b : List Kind) → (mark (codes "(") ∷ []) ++ (c ++ ((mark (codes "?") ∷ []) ++ (a ++ ((mark (codes ":") ∷ []) ++ (b ++ (mark (codes ")") ∷ [])))))) ≡ in_parentheses (c ++ mark (codes "?") ∷ a ++ mark (codes ":") ∷ b)
pick_order c a b = simp append_assoc

expr_goes : (p : Program) (e : P4Expr) (n : ℕ) (d : Option Depth) → Level n d → Goes (expr_tokens p e) d (after_expr e d)
expr_goes p (p_lit w m) n d h = a_literal w m n d h
expr_goes p (p_truth true) n d h = named (codes "true") n d h
expr_goes p (p_truth false) n d h = named (codes "false") n d h
expr_goes p (p_meta i) n d h = meta_goes (slice_get p.meta i) n d h
expr_goes p (p_field x f) n d h = header_goes (slice_get p.headers x) f n d h
expr_goes p p_port n d h = named (codes "port") n d h
expr_goes p p_rid n d h = named (codes "rid") n d h
expr_goes p (p_unary op a) n d h =
    let o = level_opened n d h in
    let m = level_operated (suc n) (opened d) o in
    joined (parenthesis n d h) (joined (joined (unary_goes op (suc n) (opened d) o) (expr_goes p a (suc n) (operated (opened d)) m)) (close n (after_expr a (operated (opened d))) (expr_level a (suc n) _ m)))
expr_goes p (p_binary op a b) n d h =
    let o = level_opened n d h in
    let x = expr_level a (suc n) (opened d) o in
    let m = level_by op (suc n) (after_expr a (opened d)) x in
    joined (parenthesis n d h) (joined (joined (expr_goes p a (suc n) (opened d) o) (joined (binary_goes op (suc n) _ x) (expr_goes p b (suc n) _ m))) (close n _ (expr_level b (suc n) _ m)))
expr_goes p (p_slice a high low) n d h =
    let x = expr_level a n d h in
    let o = level_operated (suc n) (opened (after_expr a d)) (level_opened n (after_expr a d) x) in
    let m = level_operated (suc n) _ o in
    joined (expr_goes p a n d h) (joined (bracket n (after_expr a d) x) (joined (numbered high (suc n) _ o) (joined (colon (suc n) _ o) (joined (numbered low (suc n) _ m) (close_bracket n _ m)))))
expr_goes p (p_pick c a b) n d h =
    let o = level_opened n d h in
    let x = expr_level c (suc n) (opened d) o in
    let q = level_operated (suc n) (after_expr c (opened d)) x in
    let y = expr_level a (suc n) _ q in
    let m = level_operated (suc n) _ y in
    goes_as (pick_order (expr_tokens p c) (expr_tokens p a) (expr_tokens p b))
    (joined (parenthesis n d h) (joined (expr_goes p c (suc n) (opened d) o) (joined (asks (suc n) _ x) (joined (expr_goes p a (suc n) _ q)
    (joined (colon (suc n) _ y) (joined (expr_goes p b (suc n) _ m) (close n _ (expr_level b (suc n) _ m))))))))

-- ---- statements

inner : (n : ℕ) (d : Option Depth) → Level n d → Level (suc n) (ended (opened d))
inner n d h = level_ended (suc n) _ (level_opened n d h)

condition_level : (e : P4Expr) (n : ℕ) (d : Option Depth) → Level n d → Level n (after_condition e d)
condition_level e n d h = level_closed n _ (expr_level e (suc n) _ (level_opened n d h))

-- after the brace at the end of a block
outer : (n : ℕ) (d : Option Depth) → Level (suc n) d → Level n (ended (closed d))
outer n d h = level_ended n _ (level_closed n d h)

mutual
  stmt_level : (s : P4Stmt) (n : ℕ) (d : Option Depth) → Level n d → Level n (after_stmt s d)
  stmt_level (set_meta i e) n d h = level_ended n _ (expr_level e n d h)
  stmt_level (set_header x f e) n d h = level_ended n _ (expr_level e n d h)
  stmt_level (apply_table t) n d h = level_ended n _ (level_closed n _ (level_opened n d h))
  stmt_level (p_if e first) n d h = outer n _ (block_level first (suc n) _ (inner n _ (condition_level e n d h)))
  stmt_level (p_if_else e first second) n d h =
      outer n _ (block_level second (suc n) _ (inner n _ (outer n _ (block_level first (suc n) _ (inner n _ (condition_level e n d h))))))
  stmt_level (verdict v) n d h = level_ended n d h
  stmt_level (egress_port e) n d h = level_ended n _ (expr_level e n d h)
  stmt_level (group e) n d h = level_ended n _ (expr_level e n d h)
  stmt_level p_return n d h = level_ended n d h

  block_level : (b : P4Block) (n : ℕ) (d : Option Depth) → Level n d → Level n (after_block b d)
  block_level p_done n d h = h
  block_level (p_then first rest) n d h = block_level rest n _ (stmt_level first n d h)

condition_goes : (p : Program) (e : P4Expr) (n : ℕ) (d : Option Depth) → Level n d → Goes (in_parentheses (expr_tokens p e)) d (after_condition e d)
condition_goes p e n d h =
    let o = level_opened n d h in
    joined (parenthesis n d h) (joined (expr_goes p e (suc n) (opened d) o) (close n _ (expr_level e (suc n) _ o)))

assignment_order : (to e : List Kind) → to ++ ((mark (codes "=") ∷ []) ++ (e ++ (mark (codes ";") ∷ []))) ≡ assignment to e
assignment_order to e = simp append_assoc

assigns : (n : ℕ) {to e : List Kind} {d f : Option Depth} → Level n d → Level n f → Goes to d d → Goes e d f → Goes (assignment to e) d (ended f)
assigns n {to} {e} {d} {f} h k a b = goes_as (assignment_order to e) (joined a (joined (sets n d h) (joined b (semicolon n f k))))

in_braces_goes : {ks : List Kind} {e : Option Depth} (n : ℕ) (d : Option Depth) → Level n d → Level (suc n) e → Goes ks (ended (opened d)) e → Goes (in_braces ks) d (ended (closed e))
in_braces_goes {ks} {e} n d h k g = joined (brace n d h) (joined g (end_brace n e k))

else_order : (c a b : List Kind) → (a_name (codes "if") ∷ []) ++ (c ++ (a ++ ((a_name (codes "else") ∷ []) ++ b))) ≡ a_name (codes "if") ∷ c ++ a ++ a_name (codes "else") ∷ b
else_order c a b = simp append_assoc

mutual
  stmt_goes : (p : Program) (s : P4Stmt) (n : ℕ) (d : Option Depth) → Level n d → Goes (stmt_tokens p s) d (after_stmt s d)
  stmt_goes p (set_meta i e) n d h = assigns n h (expr_level e n d h) (meta_goes (slice_get p.meta i) n d h) (expr_goes p e n d h)
  stmt_goes p (set_header x f e) n d h = assigns n h (expr_level e n d h) (header_goes (slice_get p.headers x) f n d h) (expr_goes p e n d h)
  stmt_goes p (apply_table t) n d h =
      joined (named _ n d h) (joined (dot n d h) (joined (named (codes "apply") n d h)
      (joined (parenthesis n d h) (joined (close n (opened d) (level_opened n d h)) (semicolon n _ (level_closed n _ (level_opened n d h)))))))
  stmt_goes p (p_if e first) n d h =
      let c = condition_level e n d h in
      joined (named (codes "if") n d h) (joined (condition_goes p e n d h) (in_braces_goes n _ c (block_level first (suc n) _ (inner n _ c)) (block_goes p first (suc n) _ (inner n _ c))))
  stmt_goes p (p_if_else e first second) n d h =
      let c = condition_level e n d h in
      let b = outer n _ (block_level first (suc n) _ (inner n _ c)) in
      goes_as (else_order (in_parentheses (expr_tokens p e)) (in_braces (block_tokens p first)) (in_braces (block_tokens p second)))
      (joined (named (codes "if") n d h) (joined (condition_goes p e n d h)
      (joined (in_braces_goes n _ c (block_level first (suc n) _ (inner n _ c)) (block_goes p first (suc n) _ (inner n _ c)))
      (joined (named (codes "else") n _ b) (in_braces_goes n _ b (block_level second (suc n) _ (inner n _ b)) (block_goes p second (suc n) _ (inner n _ b)))))))
  stmt_goes p (verdict v) n d h = assigns n h h (named (codes "verdict") n d h) (a_literal 8 v n d h)
  stmt_goes p (egress_port e) n d h = assigns n h (expr_level e n d h) (named (codes "egress_port") n d h) (expr_goes p e n d h)
  stmt_goes p (group e) n d h = assigns n h (expr_level e n d h) (named (codes "group") n d h) (expr_goes p e n d h)
  stmt_goes p p_return n d h = joined (named (codes "return") n d h) (semicolon n d h)

  block_goes : (p : Program) (b : P4Block) (n : ℕ) (d : Option Depth) → Level n d → Goes (block_tokens p b) d (after_block b d)
  block_goes p p_done n d h = nothing
  block_goes p (p_then first rest) n d h = joined (stmt_goes p first n d h) (block_goes p rest n _ (stmt_level first n d h))

-- ---- declarations

abbrev at : ℕ → ℕ → Option Depth
at n o = Some (record { brackets = n; operators = o })

-- tokens that are there: give `λ ls. refl`
fixed : (ks : List Kind) (d e : Option Depth) → ((ls : List Kind) → run d (ks ++ ls) ≡ run e ls) → Goes ks d e
fixed ks d e h = record { runs = h }

each_goes : {A : Type 0} (f : A → List Kind) (d : Option Depth) → ((x : A) → Goes (f x) d d) → (xs : List A) → Goes (flat_map f xs) d d
each_goes f d h [] = nothing
each_goes f d h (x ∷ xs) = joined (h x) (each_goes f d h xs)

low : (n o : ℕ) → n ≤ 512 → o ≤ 1024 → Level n (at n o)
low n o h k = (refl, h, k)

header_declared : (x : P4Header) → Goes (header_tokens x) (at 0 0) (at 0 0)
header_declared x =
    joined (fixed (a_name (codes "header") ∷ header_type x.name ∷ mark (codes "{") ∷ []) (at 0 0) (at 1 0) (λ ls. refl))
    (joined (each_goes (λ (f : P4Field). declared f.width (field_name f.name) ++ mark (codes ";") ∷ []) (at 1 0) (λ f. fixed _ (at 1 0) (at 1 0) (λ ls. refl)) x.fields)
    (fixed (mark (codes "}") ∷ []) (at 1 0) (at 0 0) (λ ls. refl)))

in_struct : {A : Type 0} (f : A → List Kind) (o : ℕ) → o ≤ 1024 → ((x : A) → Goes (f x) (at 1 0) (at 1 0)) → (xs : List A) → Goes (in_braces (flat_map f xs)) (at 0 o) (at 0 0)
in_struct f o k h xs = in_braces_goes 0 (at 0 o) (low 0 o (omega arith) k) (low 1 0 (omega arith) (omega arith)) (each_goes f (at 1 0) h xs)

key_goes : (p : Program) (exact : Bool) (i : ℕ) → Goes (meta_tokens p i ++ mark (codes ":") ∷ match_kind exact ∷ mark (codes ";") ∷ []) (at 3 0) (at 3 0)
key_goes p true i = joined (meta_goes (slice_get p.meta i) 3 (at 3 0) (low 3 0 (omega arith) (omega arith))) (fixed _ (at 3 0) (at 3 0) (λ ls. refl))
key_goes p false i = joined (meta_goes (slice_get p.meta i) 3 (at 3 0) (low 3 0 (omega arith) (omega arith))) (fixed _ (at 3 0) (at 3 0) (λ ls. refl))

inner_order : (k a d : List Kind) → (a_name (codes "key") ∷ mark (codes "=") ∷ []) ++ (k ++ ((a_name (codes "actions") ∷ mark (codes "=") ∷ []) ++ (a ++ d)))
    ≡ a_name (codes "key") ∷ mark (codes "=") ∷ k ++ a_name (codes "actions") ∷ mark (codes "=") ∷ a ++ d
inner_order k a d = simp append_assoc

table_order : (n : ℕ) (p b t : List Kind) → (a_name (codes "action") ∷ action_name n ∷ []) ++ (p ++ (b ++ ((a_name (codes "table") ∷ table_name n ∷ []) ++ t)))
    ≡ a_name (codes "action") ∷ action_name n ∷ p ++ b ++ a_name (codes "table") ∷ table_name n ∷ t
table_order n p b t = simp append_assoc

abbrev key_tokens : Program → Bool → ℕ → List Kind
key_tokens p exact i = meta_tokens p i ++ mark (codes ":") ∷ match_kind exact ∷ mark (codes ";") ∷ []

abbrev default_tokens : Program → P4Table → List Kind
default_tokens p t = assignment (a_name (codes "default_action") ∷ []) (action_name t.number ∷ in_parentheses (literal (meta_width p t.result) 0 ∷ []))

table_goes : (p : Program) (t : P4Table) → Goes (table_tokens p t) (at 1 0) (at 1 0)
table_goes p t =
    goes_as (table_order t.number (in_parentheses (declared (meta_width p t.result) (a_name (codes "v")))) (in_braces (assignment (meta_tokens p t.result) (a_name (codes "v") ∷ []))) _)
    (joined (fixed (a_name (codes "action") ∷ action_name t.number ∷ []) (at 1 0) (at 1 0) (λ ls. refl))
    (joined (fixed (in_parentheses (declared (meta_width p t.result) (a_name (codes "v")))) (at 1 0) (at 1 2) (λ ls. refl))
    (joined (in_braces_goes 1 (at 1 2) (low 1 2 (omega arith) (omega arith)) two
    (assigns 2 two two (meta_goes (slice_get p.meta t.result) 2 (at 2 0) two) (fixed (a_name (codes "v") ∷ []) (at 2 0) (at 2 0) (λ ls. refl))))
    (joined (fixed (a_name (codes "table") ∷ table_name t.number ∷ []) (at 1 0) (at 1 0) (λ ls. refl))
    (in_braces_goes 1 (at 1 0) (low 1 0 (omega arith) (omega arith)) two
    (goes_as (inner_order (in_braces (flat_map (key_tokens p t.exact) t.keys)) (in_braces (action_name t.number ∷ mark (codes ";") ∷ [])) (default_tokens p t))
    (joined (fixed (a_name (codes "key") ∷ mark (codes "=") ∷ []) (at 2 0) (at 2 0) (λ ls. refl))
    (joined (in_braces_goes 2 (at 2 0) two (low 3 0 (omega arith) (omega arith)) (each_goes (key_tokens p t.exact) (at 3 0) (key_goes p t.exact) t.keys))
    (joined (fixed (a_name (codes "actions") ∷ mark (codes "=") ∷ []) (at 2 0) (at 2 0) (λ ls. refl))
    (joined (fixed (in_braces (action_name t.number ∷ mark (codes ";") ∷ [])) (at 2 0) (at 2 0) (λ ls. refl))
    (fixed (default_tokens p t) (at 2 0) (at 2 0) (λ ls. refl))))))))))))
  where
    two : Level 2 (at 2 0)
    two = low 2 0 (omega arith) (omega arith)

-- the second, where the first is there
abbrev also : Option Depth → Option Depth → Option Depth
also None e = None
also (Some d) e = e

also_goes : (a : Option Depth) {ks : List Kind} {d e : Option Depth} → Goes ks d e → Goes ks (also a d) (also a e)
also_goes None g = stuck _
also_goes (Some x) g = g

out_of_two : (d : Option Depth) → Level 2 d → ended (closed (ended (closed d))) ≡ also d (at 0 0)
out_of_two None h = refl
out_of_two (Some d) h = ap (λ b. at (b - 1 - 1) 0) h.0

control_goes : (p : Program) (c : Control) (begin : List ℕ) (o : ℕ) → o ≤ 1024 → Goes (said begin) (at 2 0) (at 2 0) → Goes (control_tokens p c begin) (at 0 o) (also (after_block c.body (at 2 0)) (at 0 0))
control_goes p c begin o k g =
    subst (λ e. Goes (control_tokens p c begin) (at 0 o) e) (out_of_two (after_block c.body (at 2 0)) inside)
    (in_braces_goes 0 (at 0 o) (low 0 o (omega arith) k) (level_ended 1 _ (level_closed 1 _ inside))
    (joined (each_goes (table_tokens p) (at 1 0) (table_goes p) c.tables)
    (joined (fixed (a_name (codes "apply") ∷ []) (at 1 0) (at 1 0) (λ ls. refl))
    (in_braces_goes 1 (at 1 0) (low 1 0 (omega arith) (omega arith)) inside (joined g (block_goes p c.body 2 (at 2 0) (low 2 0 (omega arith) (omega arith))))))))
  where
    inside : Level 2 (after_block c.body (at 2 0))
    inside = block_level c.body 2 (at 2 0) (low 2 0 (omega arith) (omega arith))

program_order : (a h s1 m s2 mm s3 ex s4 s5 c1 s6 c2 s7 dep s8 fin : List Kind)
    → a ++ (h ++ (s1 ++ (m ++ (s2 ++ (mm ++ (s3 ++ (ex ++ (s4 ++ (s5 ++ (c1 ++ (s6 ++ (c2 ++ (s7 ++ (dep ++ (s8 ++ fin)))))))))))))))
    ≡ a ++ h ++ s1 ++ m ++ s2 ++ mm ++ s3 ++ ex ++ s4 ++ s5 ++ c1 ++ s6 ++ c2 ++ s7 ++ dep ++ s8 ++ fin
program_order a h s1 m s2 mm s3 ex s4 s5 c1 s6 c2 s7 dep s8 fin = simp append_assoc

program_goes : (p : Program) → Goes (program_tokens p) (at 0 0) (also (after_block p.ingress.body (at 2 0)) (also (after_block p.egress.body (at 2 0)) (at 0 0)))
program_goes p =
    goes_as (program_order architecture (flat_map header_tokens p.headers) (said (codes "struct Headers")) (in_braces (flat_map member_tokens p.headers)) (said (codes "struct Meta")) (in_braces (flat_map meta_member_tokens p.meta))
    (said (codes "parser Prs(packet_in b, out Headers h, inout Meta m) { state start {")) (flat_map (λ (d : P4Header). said (codes "b.extract(h.") ++ header_name d.name ∷ said (codes ");")) p.headers) (said (codes "transition accept; } }"))
    (said (codes "control Ing(inout Headers h, inout Meta m, in bit<16> port, out bit<8> verdict, out bit<16> egress_port, out bit<16> group)")) (control_tokens p p.ingress (codes "verdict = 8w0; egress_port = 16w0; group = 16w0;"))
    (said (codes "control Egr(inout Headers h, inout Meta m, in bit<64> rid, out bit<8> verdict, out bit<16> egress_port)")) (control_tokens p p.egress (codes "verdict = 8w0; egress_port = 16w0;"))
    (said (codes "control Dep(packet_out b, in Headers h) { apply {")) (flat_map (λ (d : P4Header). said (codes "b.emit(h.") ++ header_name d.name ∷ said (codes ");")) p.headers) (said (codes "} } CocoonSwitch(Prs(), Ing(), Egr(), Dep()) main;")) (finish ∷ []))
    (joined (fixed architecture (at 0 0) (at 0 0) (λ ls. refl))
    (joined (each_goes header_tokens (at 0 0) header_declared p.headers)
    (joined (fixed (said (codes "struct Headers")) (at 0 0) (at 0 0) (λ ls. refl))
    (joined (in_struct member_tokens 0 (omega arith) (λ d. fixed (member_tokens d) (at 1 0) (at 1 0) (λ ls. refl)) p.headers)
    (joined (fixed (said (codes "struct Meta")) (at 0 0) (at 0 0) (λ ls. refl))
    (joined (in_struct meta_member_tokens 0 (omega arith) (λ f. fixed (meta_member_tokens f) (at 1 0) (at 1 0) (λ ls. refl)) p.meta)
    (joined (fixed (said (codes "parser Prs(packet_in b, out Headers h, inout Meta m) { state start {")) (at 0 0) (at 2 0) (λ ls. refl))
    (joined (each_goes (λ (d : P4Header). said (codes "b.extract(h.") ++ header_name d.name ∷ said (codes ");")) (at 2 0) (λ d. fixed _ (at 2 0) (at 2 0) (λ ls. refl)) p.headers)
    (joined (fixed (said (codes "transition accept; } }")) (at 2 0) (at 0 0) (λ ls. refl))
    (joined (fixed (said (codes "control Ing(inout Headers h, inout Meta m, in bit<16> port, out bit<8> verdict, out bit<16> egress_port, out bit<16> group)")) (at 0 0) (at 0 8) (λ ls. refl))
    (joined (control_goes p p.ingress (codes "verdict = 8w0; egress_port = 16w0; group = 16w0;") 8 (omega arith) (fixed _ (at 2 0) (at 2 0) (λ ls. refl)))
    (also_goes (after_block p.ingress.body (at 2 0))
    (joined (fixed (said (codes "control Egr(inout Headers h, inout Meta m, in bit<64> rid, out bit<8> verdict, out bit<16> egress_port)")) (at 0 0) (at 0 6) (λ ls. refl))
    (joined (control_goes p p.egress (codes "verdict = 8w0; egress_port = 16w0;") 6 (omega arith) (fixed _ (at 2 0) (at 2 0) (λ ls. refl)))
    (also_goes (after_block p.egress.body (at 2 0))
    (joined (fixed (said (codes "control Dep(packet_out b, in Headers h) { apply {")) (at 0 0) (at 2 0) (λ ls. refl))
    (joined (each_goes (λ (d : P4Header). said (codes "b.emit(h.") ++ header_name d.name ∷ said (codes ");")) (at 2 0) (λ d. fixed _ (at 2 0) (at 2 0) (λ ls. refl)) p.headers)
    (joined (fixed (said (codes "} } CocoonSwitch(Prs(), Ing(), Egr(), Dep()) main;")) (at 2 0) (at 0 0) (λ ls. refl))
    (fixed (finish ∷ []) (at 0 0) (at 0 0) (λ ls. refl))))))))))))))))))))

there : (a b : Option Depth) → run (also a (also b (at 0 0))) [] ≡ (is_some a && is_some b)
there None b = refl
there (Some x) None = refl
there (Some x) (Some y) = refl

pub program_shallow : (p : Program) → is_shallow p4_bounds (program_tokens p) ≡ (is_shallow_body p.ingress.body && is_shallow_body p.egress.body)
program_shallow p =
    ap (none_deep p4_bounds 0 0) (sym (append-nil (program_tokens p))) ∙ (program_goes p).runs [] ∙ there (after_block p.ingress.body (at 2 0)) (after_block p.egress.body (at 2 0))
