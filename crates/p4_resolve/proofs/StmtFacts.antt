-- Values, the pieces of statements that have one, and blocks.
use Rattle.std.proofs.Common.{◌≡◌, ℕ, suc, ◌+◌, ◌<◌, ◌≤◌, ◌==◌, ◌&&◌, ◌||◌, Bool, true, false, not, List, [], ◌∷◌, ◌++◌, length, drop, get_or, Option, Some, None, codes, refl, sym, ap, subst, ◌∙◌, arith}
use Rattle.std.specs.Prelude.{decimal}
use Rattle.std.proofs.Math.Nat.{add_assoc}
use Rattle.std.proofs.lemmas.Bool.{and_parts}
use Rattle.std.proofs.lemmas.Bool.Decides.{nat_tests}
use Rattle.std.proofs.lemmas.List.{at_drop_more, at_drop_all}
use Rattle.cocoon_num.specs.Lists.{each, has_number}
use Rattle.cocoon_num.specs.Names.{same_name}
use Rattle.cocoon_num.specs.Sorts.{Sort, are_same, bits_sort, has_sort, truth_sort}
use Rattle.cocoon_num.specs.Tokens.{Kind, a_name, mark, plain}
use Rattle.p4_ir.specs.P4Kinds.{Within, field_sort, is_empty, meta_sort, p4_sort}
use Rattle.p4_ir.specs.P4Text.{binary_mark}
use Rattle.p4_ir.specs.P4Tree.{P4Block, P4Expr, P4Stmt, p_done, p_then}
use Rattle.p4_ir.specs.Program as ir
use Rattle.p4_ir.specs.Program.{binary_of}
use Rattle.p4_texts.specs.KindFaults.{Piece, block_pieces, fixed, stmt_keeps, stmt_pieces}
use Rattle.p4_texts.specs.Meant.{block_meant, expr_meant, field_at, header_at, meta_at, number_in, stmt_meant}
use Rattle.p4_texts.specs.Written.{BlockText, ExprText, ProgramText, w_lit, w_truth, w_meta, w_field, w_port, w_rid, w_unary, w_binary, w_slice, w_pick, w_apply, w_set_meta, w_set_field, w_egress_port, w_group, w_if, w_if_else, condition_then, expr_then, stmt_then}
use Rattle.p4_texts.specs.TreeOf.{body_of, stmt_of}
use Rattle.p4_texts.specs.declared.written.WrittenStmt.{WrittenStmt}
use Rattle.p4_resolve.specs.Judged.{Breaks, Passes, Rest, StopsBy, index}
use Rattle.p4_resolve.specs.Numbered.{is_small}
use Rattle.p4_resolve.specs.StmtForms.{BlockKeeps, ValueKeeps, condition_piece, value_fits}
use Rattle.p4_resolve.specs.Typed.{expr_count}
use Rattle.p4_resolve.specs.declared.fault.KindFault.{KindFault}
use Rattle.p4_resolve.proofs.PieceFacts.{all_passed, one_stopped, passed, started, stopped_by, then_after}

pub none_differs : (s : Option Sort) → are_same s None ≡ false
none_differs None = refl
none_differs (Some s) = refl

pub and_true : (b : Bool) → (b && true) ≡ b
and_true true = refl
and_true false = refl

pub and_swap : (a b : Bool) → (a && b) ≡ (b && a)
and_swap true true = refl
and_swap true false = refl
and_swap false true = refl
and_swap false false = refl

-- the tokens of an expression, and those after it
pub count_then : (e : ExprText) (ks : List Kind) → length (expr_then e ks) ≡ expr_count e + length ks
count_then (w_lit w n) ks = omega arith
count_then (w_truth true) ks = omega arith
count_then (w_truth false) ks = omega arith
count_then (w_meta x) ks = omega arith
count_then (w_field h f) ks = omega arith
count_then w_port ks = omega arith
count_then w_rid ks = omega arith
count_then (w_unary op a) ks = let h = count_then a (mark (codes ")") ∷ ks) in omega (arith, h)
count_then (w_binary op a b) ks =
    let g = count_then a (mark (binary_mark (binary_of op)) ∷ expr_then b (mark (codes ")") ∷ ks)) in
    let h = count_then b (mark (codes ")") ∷ ks) in
    omega (arith, g, h)
count_then (w_slice a high low) ks =
    let h = count_then a (mark (codes "[") ∷ plain high ∷ mark (codes ":") ∷ plain low ∷ mark (codes "]") ∷ ks) in omega (arith, h)
count_then (w_pick c a b) ks =
    let f = count_then c (mark (codes "?") ∷ expr_then a (mark (codes ":") ∷ expr_then b (mark (codes ")") ∷ ks))) in
    let g = count_then a (mark (codes ":") ∷ expr_then b (mark (codes ")") ∷ ks)) in
    let h = count_then b (mark (codes ")") ∷ ks) in
    omega (arith, f, g, h)

-- the token after so many, twice
ends_after : (at begin mid before count behind : ℕ) → begin ≡ index (at + before) → mid ≡ index (begin + count) → index (mid + behind) ≡ index (at + (before + (count + behind)))
ends_after at begin mid before count behind b m =
    ap (λ i. index (i + behind)) m ∙ then_after (begin + count) behind ∙ ap index (add_assoc begin count behind)
    ∙ ap (λ i. index (i + (count + behind))) b ∙ then_after (at + before) (count + behind) ∙ ap index (add_assoc at before (count + behind))

-- a piece that is one value, with as many other tokens
pub value_passes : (t : ProgramText) (c : Within) (wanted : Option Sort) (allowed : Bool) (e : ExprText) (x : Piece) (at begin : ℕ) (made : P4Expr) (mid end before behind : ℕ) → ValueKeeps t c wanted allowed e begin made mid
    → begin ≡ index (at + before) → end ≡ index (mid + behind) → length x.tokens ≡ before + (expr_count e + behind) → x.keeps ≡ value_fits c wanted allowed (expr_meant t e) → Passes at (x ∷ []) end
value_passes t c wanted allowed e x at begin made mid end before behind v b d n k =
    passed at (x ∷ []) at end x [] (started at (x ∷ [])) (k ∙ v.fits) (d ∙ ends_after at begin mid before (expr_count e) behind b v.ends ∙ ap (λ l. index (at + l)) (sym n))

-- a piece that is a whole statement
pub one_passes : (x : Piece) (at end : ℕ) → x.keeps ≡ true → end ≡ index (at + length x.tokens) → Passes at (x ∷ []) end
one_passes x at end k e = passed at (x ∷ []) at end x [] (started at (x ∷ [])) k e

pub value_stops : (x : Piece) (at : ℕ) (fits : Bool) (fault : KindFault) → x.keeps ≡ fits → Breaks at fits fault → StopsBy at (x ∷ []) fault
value_stops x at fits fault e b = stopped_by at (x ∷ []) at x [] fault (started at (x ∷ [])) (subst (λ k. Breaks at k fault) (sym e) b)

-- ---- statements with a value

pub meta_fits : (t : ProgramText) (d : Within) (x : List ℕ) (e : ExprText) (s : Option Sort) → s ≡ meta_sort d.program (meta_at t x) → stmt_keeps t d (w_set_meta x e) ≡ value_fits d s true (expr_meant t e)
meta_fits t d x e s h = sym (and_true (are_same s (p4_sort d (expr_meant t e))) ∙ ap (λ s. are_same s (p4_sort d (expr_meant t e))) h)

pub meta_count : (x : List ℕ) (e : ExprText) → length (stmt_then (w_set_meta x e) []) ≡ 4 + (expr_count e + 1)
meta_count x e = let h = count_then e (mark (codes ";") ∷ []) in omega (arith, h)

pub field_fits : (t : ProgramText) (d : Within) (x y : List ℕ) (e : ExprText) (s : Option Sort) → s ≡ field_sort d.program (header_at t x) (field_at t (header_at t x) y) → stmt_keeps t d (w_set_field x y e) ≡ value_fits d s true (expr_meant t e)
field_fits t d x y e s h = sym (and_true (are_same s (p4_sort d (expr_meant t e))) ∙ ap (λ s. are_same s (p4_sort d (expr_meant t e))) h)

pub field_count : (x y : List ℕ) (e : ExprText) → length (stmt_then (w_set_field x y e) []) ≡ 6 + (expr_count e + 1)
field_count x y e = let h = count_then e (mark (codes ";") ∷ []) in omega (arith, h)

pub port_fits : (t : ProgramText) (d : Within) (e : ExprText) → stmt_keeps t d (w_egress_port e) ≡ value_fits d (Some (bits_sort 16)) true (expr_meant t e)
port_fits t d e = sym (and_true (has_sort (bits_sort 16) (p4_sort d (expr_meant t e))))

pub port_count : (e : ExprText) → length (stmt_then (w_egress_port e) []) ≡ 2 + (expr_count e + 1)
port_count e = let h = count_then e (mark (codes ";") ∷ []) in omega (arith, h)

pub group_fits : (t : ProgramText) (d : Within) (e : ExprText) (b : Bool) → b ≡ d.in_ingress → stmt_keeps t d (w_group e) ≡ value_fits d (Some (bits_sort 16)) b (expr_meant t e)
group_fits t d e b h = and_swap d.in_ingress (has_sort (bits_sort 16) (p4_sort d (expr_meant t e))) ∙ ap (λ i. has_sort (bits_sort 16) (p4_sort d (expr_meant t e)) && i) (sym h)

pub group_count : (e : ExprText) → length (stmt_then (w_group e) []) ≡ 2 + (expr_count e + 1)
group_count e = let h = count_then e (mark (codes ";") ∷ []) in omega (arith, h)

pub condition_count : (e : ExprText) → length (condition_then e []) ≡ 2 + (expr_count e + 2)
condition_count e = let h = count_then e (mark (codes ")") ∷ mark (codes "{") ∷ []) in omega (arith, h)

-- ---- statements with blocks

abbrev pub brace : Piece
brace = fixed (mark (codes "}") ∷ [])

abbrev pub else_brace : Piece
else_brace = fixed (mark (codes "}") ∷ a_name (codes "else") ∷ mark (codes "{") ∷ [])

pub if_pieces : (t : ProgramText) (d : Within) (e : ExprText) (a : BlockText) → stmt_pieces t d (w_if e a) ≡ (condition_piece t d e true ∷ []) ++ (block_pieces t d a ++ (brace ∷ []))
if_pieces t d e a = ap (λ b. let x : Piece = record { tokens = condition_then e []; keeps = b } in x ∷ (block_pieces t d a ++ (brace ∷ []))) (sym (and_true (has_sort truth_sort (p4_sort d (expr_meant t e)))))

pub if_else_pieces : (t : ProgramText) (d : Within) (e : ExprText) (a b : BlockText) (filled : Bool) → filled ≡ not (is_empty (block_meant t b))
    → stmt_pieces t d (w_if_else e a b) ≡ (condition_piece t d e filled ∷ []) ++ (block_pieces t d a ++ (else_brace ∷ (block_pieces t d b ++ (brace ∷ []))))
if_else_pieces t d e a b filled h =
    ap (λ f. let x : Piece = record { tokens = condition_then e []; keeps = has_sort truth_sort (p4_sort d (expr_meant t e)) && f } in x ∷ (block_pieces t d a ++ (else_brace ∷ (block_pieces t d b ++ (brace ∷ []))))) (sym h)

pub if_passes : (t : ProgramText) (d : Within) (e : ExprText) (a : BlockText) (at opens close end : ℕ) → Passes at (condition_piece t d e true ∷ []) opens → Passes opens (block_pieces t d a) close → end ≡ index (close + 1) → Passes at (stmt_pieces t d (w_if e a)) end
if_passes t d e a at opens close end c b h =
    let all : List Piece = (condition_piece t d e true ∷ []) ++ (block_pieces t d a ++ (brace ∷ [])) in
    let opened = all_passed at all at opens (condition_piece t d e true ∷ []) (block_pieces t d a ++ (brace ∷ [])) (started at all) c in
    let closed = all_passed at all opens close (block_pieces t d a) (brace ∷ []) opened b in
    subst (λ ps. Passes at ps end) (sym (if_pieces t d e a)) (passed at all close end brace [] closed refl h)

pub if_condition_stops : (t : ProgramText) (d : Within) (e : ExprText) (a : BlockText) (at : ℕ) (fault : KindFault) → StopsBy at (condition_piece t d e true ∷ []) fault → StopsBy at (stmt_pieces t d (w_if e a)) fault
if_condition_stops t d e a at fault s =
    subst (λ ps. StopsBy at ps fault) (sym (if_pieces t d e a)) (one_stopped at _ at (condition_piece t d e true ∷ []) (block_pieces t d a ++ (brace ∷ [])) fault (started at _) s)

pub if_block_stops : (t : ProgramText) (d : Within) (e : ExprText) (a : BlockText) (at opens : ℕ) (fault : KindFault) → Passes at (condition_piece t d e true ∷ []) opens → StopsBy opens (block_pieces t d a) fault → StopsBy at (stmt_pieces t d (w_if e a)) fault
if_block_stops t d e a at opens fault c s =
    let all : List Piece = (condition_piece t d e true ∷ []) ++ (block_pieces t d a ++ (brace ∷ [])) in
    let opened = all_passed at all at opens (condition_piece t d e true ∷ []) (block_pieces t d a ++ (brace ∷ [])) (started at all) c in
    subst (λ ps. StopsBy at ps fault) (sym (if_pieces t d e a)) (one_stopped at all opens (block_pieces t d a) (brace ∷ []) fault opened s)

-- what follows the condition of an `if` with an `else`, and what follows its first block
abbrev pub else_rest : ProgramText → Within → BlockText → BlockText → List Piece
else_rest t d a b = block_pieces t d a ++ (else_brace ∷ (block_pieces t d b ++ (brace ∷ [])))

abbrev pub else_all : ProgramText → Within → ExprText → BlockText → BlockText → Bool → List Piece
else_all t d e a b filled = (condition_piece t d e filled ∷ []) ++ else_rest t d a b

pub else_opened : (t : ProgramText) (d : Within) (e : ExprText) (a b : BlockText) (filled : Bool) (at opens : ℕ) → Passes at (condition_piece t d e filled ∷ []) opens → Rest at (else_all t d e a b filled) opens (else_rest t d a b)
else_opened t d e a b filled at opens c = all_passed at (else_all t d e a b filled) at opens (condition_piece t d e filled ∷ []) (else_rest t d a b) (started at (else_all t d e a b filled)) c

pub else_other : (t : ProgramText) (d : Within) (e : ExprText) (a b : BlockText) (filled : Bool) (at opens close other : ℕ) → Passes at (condition_piece t d e filled ∷ []) opens → Passes opens (block_pieces t d a) close → other ≡ index (close + 3)
    → Rest at (else_all t d e a b filled) other (block_pieces t d b ++ (brace ∷ []))
else_other t d e a b filled at opens close other c x h =
    passed at (else_all t d e a b filled) close other else_brace (block_pieces t d b ++ (brace ∷ []))
    (all_passed at (else_all t d e a b filled) opens close (block_pieces t d a) (else_brace ∷ (block_pieces t d b ++ (brace ∷ []))) (else_opened t d e a b filled at opens c) x) refl h

pub else_passes : (t : ProgramText) (d : Within) (e : ExprText) (a b : BlockText) (filled : Bool) (at opens close other last end : ℕ) → filled ≡ not (is_empty (block_meant t b)) → Passes at (condition_piece t d e filled ∷ []) opens → Passes opens (block_pieces t d a) close → other ≡ index (close + 3)
    → Passes other (block_pieces t d b) last → end ≡ index (last + 1) → Passes at (stmt_pieces t d (w_if_else e a b)) end
else_passes t d e a b filled at opens close other last end f c x h y k =
    subst (λ ps. Passes at ps end) (sym (if_else_pieces t d e a b filled f))
    (passed at (else_all t d e a b filled) last end brace [] (all_passed at (else_all t d e a b filled) other last (block_pieces t d b) (brace ∷ []) (else_other t d e a b filled at opens close other c x h) y) refl k)

pub else_condition_stops : (t : ProgramText) (d : Within) (e : ExprText) (a b : BlockText) (filled : Bool) (at : ℕ) (fault : KindFault) → filled ≡ not (is_empty (block_meant t b)) → StopsBy at (condition_piece t d e filled ∷ []) fault → StopsBy at (stmt_pieces t d (w_if_else e a b)) fault
else_condition_stops t d e a b filled at fault f s =
    subst (λ ps. StopsBy at ps fault) (sym (if_else_pieces t d e a b filled f)) (one_stopped at (else_all t d e a b filled) at (condition_piece t d e filled ∷ []) (else_rest t d a b) fault (started at (else_all t d e a b filled)) s)

pub else_first_stops : (t : ProgramText) (d : Within) (e : ExprText) (a b : BlockText) (filled : Bool) (at opens : ℕ) (fault : KindFault) → filled ≡ not (is_empty (block_meant t b)) → Passes at (condition_piece t d e filled ∷ []) opens → StopsBy opens (block_pieces t d a) fault
    → StopsBy at (stmt_pieces t d (w_if_else e a b)) fault
else_first_stops t d e a b filled at opens fault f c s =
    subst (λ ps. StopsBy at ps fault) (sym (if_else_pieces t d e a b filled f)) (one_stopped at (else_all t d e a b filled) opens (block_pieces t d a) (else_brace ∷ (block_pieces t d b ++ (brace ∷ []))) fault (else_opened t d e a b filled at opens c) s)

pub else_second_stops : (t : ProgramText) (d : Within) (e : ExprText) (a b : BlockText) (filled : Bool) (at opens close other : ℕ) (fault : KindFault) → filled ≡ not (is_empty (block_meant t b)) → Passes at (condition_piece t d e filled ∷ []) opens → Passes opens (block_pieces t d a) close
    → other ≡ index (close + 3) → StopsBy other (block_pieces t d b) fault → StopsBy at (stmt_pieces t d (w_if_else e a b)) fault
else_second_stops t d e a b filled at opens close other fault f c x h s =
    subst (λ ps. StopsBy at ps fault) (sym (if_else_pieces t d e a b filled f)) (one_stopped at (else_all t d e a b filled) other (block_pieces t d b) (brace ∷ []) fault (else_other t d e a b filled at opens close other c x h) s)

-- ---- blocks

pub filled_is : (t : ProgramText) (ss : List WrittenStmt) (b : Bool) → b ≡ not (length ss == 0) → b ≡ not (is_empty (block_meant t (body_of ss)))
filled_is t [] b h = h
filled_is t (s ∷ ss) b h = h ∙ ap not (more (length ss))
  where
    more : (n : ℕ) → (suc n == 0) ≡ false
    more n = grind (arith, nat_tests)

abbrev pub block_after : List P4Stmt → P4Block → P4Block
block_after [] b = b
block_after (s ∷ ss) b = p_then s (block_after ss b)

pub record Begun (t : ProgramText) (d : Within) (at : ℕ) (ss : List WrittenStmt) (made : List P4Stmt) (next i : ℕ) : Type 0 where
  pub rest : Rest at (block_pieces t d (body_of ss)) next (block_pieces t d (body_of (drop i ss)))
  pub same : block_after made (block_meant t (body_of (drop i ss))) ≡ block_meant t (body_of ss)

after_push : (made : List P4Stmt) (s : P4Stmt) (b : P4Block) → block_after (made ++ s ∷ []) b ≡ block_after made (p_then s b)
after_push [] s b = refl
after_push (m ∷ made) s b = ap (p_then m) (after_push made s b)

after_done : (made : List P4Stmt) → block_after made p_done ≡ ir.block_of made
after_done [] = refl
after_done (m ∷ made) = ap (p_then m) (after_done made)

pub begun : (t : ProgramText) (d : Within) (at : ℕ) (ss : List WrittenStmt) (made : List P4Stmt) → made ≡ [] → Begun t d at ss made at 0
begun t d at ss made e = rw e (record { rest = started at (block_pieces t d (body_of ss)); same = refl })

left : (t : ProgramText) (d : Within) (at : ℕ) (ss : List WrittenStmt) (made : List P4Stmt) (next i : ℕ) (s : WrittenStmt) → i < length ss → s ≡ get_or ss i s → Begun t d at ss made next i
    → Rest at (block_pieces t d (body_of ss)) next (stmt_pieces t d (stmt_of s) ++ block_pieces t d (body_of (drop (i + 1) ss)))
left t d at ss made next i s h e r =
    subst (λ rs. Rest at (block_pieces t d (body_of ss)) next rs)
    (at_drop_more (λ xs. block_pieces t d (body_of xs)) ss i s h ∙ ap (λ x. stmt_pieces t d (stmt_of x) ++ block_pieces t d (body_of (drop (i + 1) ss))) (sym e)) r.rest

pub one_more : (t : ProgramText) (d : Within) (at : ℕ) (ss : List WrittenStmt) (made more : List P4Stmt) (next end i : ℕ) (s : WrittenStmt) (m : P4Stmt) → i < length ss → s ≡ get_or ss i s → Begun t d at ss made next i
    → m ≡ stmt_meant t (stmt_of s) → Passes next (stmt_pieces t d (stmt_of s)) end → more ≡ made ++ m ∷ [] → Begun t d at ss more end (i + 1)
one_more t d at ss made more next end i s m h e r is p k = record {
  rest = all_passed at (block_pieces t d (body_of ss)) next end (stmt_pieces t d (stmt_of s)) (block_pieces t d (body_of (drop (i + 1) ss))) (left t d at ss made next i s h e r) p;
  same = ap (λ ms. block_after ms (block_meant t (body_of (drop (i + 1) ss)))) k ∙ after_push made m (block_meant t (body_of (drop (i + 1) ss)))
      ∙ ap (λ x. block_after made (p_then x (block_meant t (body_of (drop (i + 1) ss))))) is
      ∙ sym (at_drop_more (λ xs. block_after made (block_meant t (body_of xs))) ss i s h ∙ ap (λ x. block_after made (p_then (stmt_meant t (stmt_of x)) (block_meant t (body_of (drop (i + 1) ss))))) (sym e))
      ∙ r.same;
}

pub one_stops : (t : ProgramText) (d : Within) (at : ℕ) (ss : List WrittenStmt) (made : List P4Stmt) (next i : ℕ) (s : WrittenStmt) (fault : KindFault) → i < length ss → s ≡ get_or ss i s → Begun t d at ss made next i
    → StopsBy next (stmt_pieces t d (stmt_of s)) fault → StopsBy at (block_pieces t d (body_of ss)) fault
one_stops t d at ss made next i s fault h e r x =
    one_stopped at (block_pieces t d (body_of ss)) next (stmt_pieces t d (stmt_of s)) (block_pieces t d (body_of (drop (i + 1) ss))) fault (left t d at ss made next i s h e r) x

pub all_done : (t : ProgramText) (d : Within) (at : ℕ) (ss : List WrittenStmt) (made : List P4Stmt) (next i : ℕ) → length ss ≤ i → Begun t d at ss made next i → BlockKeeps t d (body_of ss) at (ir.block_of made) next
all_done t d at ss made next i h r = record {
  is = sym (after_done made) ∙ sym (at_drop_all (λ xs. block_after made (block_meant t (body_of xs))) ss i h) ∙ r.same;
  passes = subst (λ rs. Rest at (block_pieces t d (body_of ss)) next rs) (at_drop_all (λ xs. block_pieces t d (body_of xs)) ss i h) r.rest;
}

-- ---- tables that are applied

-- a table with so large a number is not there
no_large : (ns : List ℕ) (n : ℕ) → each is_small ns ≡ true → is_small n ≡ false → has_number n ns ≡ false
no_large [] n h s = refl
no_large (m ∷ ns) n h s = let p = and_parts (is_small m) (each is_small ns) h in by (n == m) refl p.0 (no_large ns n p.1 s)
  where
    by : (b : Bool) → (n == m) ≡ b → is_small m ≡ true → has_number n ns ≡ false → (b || has_number n ns) ≡ false
    by false e k r = r
    by true e k r = let same : n ≡ m = grind (arith, nat_tests) in absurd (let x : false ≡ true = sym s ∙ ap is_small same ∙ k in cc)

pub too_large : (t : ProgramText) (d : Within) (x : List ℕ) → each is_small d.tables ≡ true → is_small (number_in x) ≡ false → stmt_keeps t d (w_apply x) ≡ false
too_large t d x h s = ap (λ b. b && same_name x (116 ∷ decimal (number_in x))) (no_large d.tables (number_in x) h s)
