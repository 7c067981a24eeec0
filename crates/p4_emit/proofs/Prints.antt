-- The printed text of each part has its tokens.
use Rattle.std.proofs.Common.{◌≡◌, ℕ, zero, suc, ◌+◌, ◌^◌, ◌≤◌, ◌<◌, List, [], ◌∷◌, ◌++◌, true, false, Option, Some, None, refl, ap, sym, subst, ◌∙◌, arith, append_assoc}
use Rattle.std.specs.Prelude.{codes, decimal, slice_get}
use Rattle.cocoon_num.specs.Values.{UnaryOp, flip, not_, BinaryOp, add, sub, bits_and, bits_or, bits_xor, concat, equal, unequal, less, less_equal, greater, greater_equal, and_, or_, implies}
use Rattle.cocoon_num.specs.Tokens.{Kind, a_name, plain, literal, mark}
use Rattle.p4_ir.specs.P4Tree.{P4Expr, p_lit, p_truth, p_meta, p_field, p_port, p_rid, p_unary, p_binary, p_slice, p_pick, P4Stmt, set_meta, set_header, apply_table, p_if, p_if_else, verdict, egress_port, group, p_return, P4Block, p_done, p_then, P4Field, P4Header, Program}
use Rattle.p4_ir.specs.P4Kinds.{is_implies}
use Rattle.std.proofs.lemmas.List.{append-nil}
use Rattle.p4_ir.specs.P4Text.{said, optional_tokens, table_name, action_name, meta_tokens, field_tokens, expr_tokens, stmt_tokens, block_tokens, unary_mark, binary_mark}
use Rattle.text_lines.specs.Printing.{new_line, literal_text}
use Rattle.p4_emit.specs.Printed.{optional_text, meta_text, field_text, unary_text, binary_text, expr_text, verdict_text, egress_port_text, group_text, if_text, else_text, end_text, stmt_text, block_text}
use Rattle.text_lines.proofs.Joins as joins
use Rattle.p4_emit.proofs.P4Seams.{p4_seams, is_clear, word_spells}
use Rattle.text_lines.proofs.Seams.{word_clear, all_word_bytes, is_name}
use Rattle.text_lines.proofs.DecimalNumbers.{plain_spells, literal_spells, decimal_clear, decimal_word}

-- ---- P4 texts

abbrev pub Part : List ℕ → List Kind → Type 0
Part s ks = joins.Part p4_seams s ks

abbrev pub Lines : List ℕ → List Kind → Type 0
Lines s ks = joins.Lines p4_seams s ks

pub opens : (s : List ℕ) {ks : List Kind} {t : List ℕ} {ls : List Kind} → joins.head_of p4_seams s ≡ (Some ks, true, true) → Part t ls → Part (s ++ t) (ks ++ ls)
opens s e h = joins.opens p4_seams s e h

pub follows : {s t : List ℕ} {ks ls : List Kind} → Part s ks → Lines t ls → Part (s ++ t) (ks ++ ls)
follows a b = joins.follows p4_seams a b

pub after : {s t : List ℕ} {ks ls : List Kind} → Lines s ks → Lines t ls → Lines (s ++ t) (ks ++ ls)
after a b = joins.after p4_seams a b

pub line : (n : ℕ) {t : List ℕ} {ls : List Kind} → Part t ls → Lines (new_line n ++ t) ls
line n h = joins.line p4_seams n h

pub leads : (s : List ℕ) {ks : List Kind} {t : List ℕ} {ls : List Kind} → joins.lead_of p4_seams s ≡ (Some ks, true, true) → Part t ls → Lines (s ++ t) (ks ++ ls)
leads s e h = joins.leads p4_seams s e h

pub between : (s : List ℕ) {ks : List Kind} {t : List ℕ} {ls : List Kind} → joins.middle_of p4_seams s ≡ (Some ks, true) → Lines t ls → Lines (s ++ t) (ks ++ ls)
between s e h = joins.between p4_seams s e h

pub ends : (s : List ℕ) {ks : List Kind} → joins.middle_of p4_seams s ≡ (Some ks, true) → Lines s ks
ends s e = joins.ends p4_seams s e

pub whole : (s : List ℕ) {ks : List Kind} → joins.word_of p4_seams s ≡ (Some ks, true) → Part s ks
whole s e = joins.whole p4_seams s e

pub reads_as : {s : List ℕ} {ks ls : List Kind} → Part s ks → ks ≡ ls → Part s ls
reads_as {s} h e = subst (λ ms. Part s ms) e h

pub lines_as : {s : List ℕ} {ks ls : List Kind} → Lines s ks → ks ≡ ls → Lines s ls
lines_as {s} h e = subst (λ ms. Lines s ms) e h

pub lines_part : {s : List ℕ} {ks : List Kind} → Lines s ks → Part s ks
lines_part h = joins.lines_part p4_seams h

pub no_lines : Lines [] []
no_lines = joins.no_lines p4_seams

-- ---- names and numbers

abbrev pub Each : {A : Type 0} → (A → Type 0) → List A → Type 0
Each P [] = Unit {0}
Each P (x ∷ xs) = P x × Each P xs

abbrev pub IfThere : {A : Type 0} → (A → Type 0) → Option A → Type 0
IfThere P None = Unit {0}
IfThere P (Some x) = P x

pub each_found : {A : Type 0} (P : A → Type 0) (xs : List A) (i : ℕ) → Each P xs → IfThere P (slice_get xs i)
each_found P [] i h = tt
each_found P (x ∷ xs) zero h = h.0
each_found P (x ∷ xs) (suc i) h = each_found P xs i h.1

pub record FieldFits (f : P4Field) : Type 0 where
  pub name : all_word_bytes f.name ≡ true
  pub width : f.width < 2 ^ 32

pub record HeaderFits (h : P4Header) : Type 0 where
  pub name : all_word_bytes h.name ≡ true
  pub fields : Each FieldFits h.fields

pub record MetaFits (f : P4Field) : Type 0 where
  pub name : is_name f.name ≡ true
  pub width : f.width < 2 ^ 32

pub record NamesFit (p : Program) : Type 0 where
  pub headers : Each HeaderFits p.headers
  pub meta : Each MetaFits p.meta

pub word_part : (w : List ℕ) → is_name w ≡ true → Part w (a_name w ∷ [])
word_part w h = record { spells = word_spells w h; clear = word_clear p4_seams w h }

pub plain_part : (n : ℕ) → n < 2 ^ 32 → Part (decimal n) (plain n ∷ [])
plain_part n h = record { spells = plain_spells p4_seams n h; clear = subst (λ s. is_clear s ≡ true) (append-nil (decimal n)) (decimal_clear p4_seams n [] (omega arith)) }

pub literal_part : (w n : ℕ) → 1 ≤ w → w ≤ 128 → n < 2 ^ w → Part (literal_text w n) (literal w n ∷ [])
literal_part w n low high fits = record { spells = literal_spells p4_seams w n low high high fits; clear = decimal_clear p4_seams w (119 ∷ decimal n) (omega arith) }

empty_part : Part [] []
empty_part = record { spells = record { are = refl }; clear = refl }

found_meta : (o : Option P4Field) → IfThere MetaFits o → Part (optional_text (λ (f : P4Field). codes "m." ++ f.name) o) (optional_tokens (λ (f : P4Field). said (codes "m.") ++ a_name f.name ∷ []) o)
found_meta None h = empty_part
found_meta (Some f) h = opens (codes "m.") refl (word_part f.name h.name)

pub meta_part : (p : Program) (i : ℕ) → NamesFit p → Part (meta_text p i) (meta_tokens p i)
meta_part p i h = found_meta (slice_get p.meta i) (each_found MetaFits p.meta i h.meta)

found_field : (d : P4Header) (o : Option P4Field) → all_word_bytes d.name ≡ true → IfThere FieldFits o → Part (optional_text (λ (x : P4Field). codes "h.h_" ++ (d.name ++ (codes ".f_" ++ x.name))) o) (optional_tokens (λ (x : P4Field). said (codes "h.") ++ a_name (codes "h_" ++ d.name) ∷ said (codes ".") ++ a_name (codes "f_" ++ x.name) ∷ []) o)
found_field d None n h = empty_part
found_field d (Some x) n h =
    opens (codes "h.") refl
    (follows (word_part (codes "h_" ++ d.name) n) (leads (codes ".") refl (word_part (codes "f_" ++ x.name) h.name)))

found_header : (o : Option P4Header) (f : ℕ) → IfThere HeaderFits o →
    Part (optional_text (λ (d : P4Header). optional_text (λ (x : P4Field). codes "h.h_" ++ (d.name ++ (codes ".f_" ++ x.name))) (slice_get d.fields f)) o)
    (optional_tokens (λ (d : P4Header). optional_tokens (λ (x : P4Field). said (codes "h.") ++ a_name (codes "h_" ++ d.name) ∷ said (codes ".") ++ a_name (codes "f_" ++ x.name) ∷ []) (slice_get d.fields f)) o)
found_header None f h = empty_part
found_header (Some d) f h = found_field d (slice_get d.fields f) h.name (each_found FieldFits d.fields f h.fields)

field_part : (p : Program) (h f : ℕ) → NamesFit p → Part (field_text p h f) (field_tokens p h f)
field_part p h f n = found_header (slice_get p.headers h) f (each_found HeaderFits p.headers h n.headers)

-- ---- expressions

abbrev pub ExprFits : P4Expr → Type 0
ExprFits (p_lit w n) = (1 ≤ w) × (w ≤ 128) × (n < 2 ^ w)
ExprFits (p_truth b) = Unit {0}
ExprFits (p_meta i) = Unit {0}
ExprFits (p_field h f) = Unit {0}
ExprFits p_port = Unit {0}
ExprFits p_rid = Unit {0}
ExprFits (p_unary op a) = ExprFits a
ExprFits (p_binary op a b) = (is_implies op ≡ false) × ExprFits a × ExprFits b
ExprFits (p_slice a high low) = ExprFits a × (high < 2 ^ 32) × (low < 2 ^ 32)
ExprFits (p_pick c a b) = ExprFits c × ExprFits a × ExprFits b

close : Lines (codes ")") (mark (codes ")") ∷ [])
close = ends (codes ")") refl

operator : (op : BinaryOp) (t : List ℕ) (ls : List Kind) → is_implies op ≡ false → Part t ls → Lines (binary_text op ++ t) (mark (binary_mark op) ∷ ls)
operator add t ls i h = leads (codes " + ") refl h
operator sub t ls i h = leads (codes " - ") refl h
operator bits_and t ls i h = leads (codes " & ") refl h
operator bits_or t ls i h = leads (codes " | ") refl h
operator bits_xor t ls i h = leads (codes " ^ ") refl h
operator concat t ls i h = leads (codes " ++ ") refl h
operator equal t ls i h = leads (codes " == ") refl h
operator unequal t ls i h = leads (codes " != ") refl h
operator less t ls i h = leads (codes " < ") refl h
operator less_equal t ls i h = leads (codes " <= ") refl h
operator greater t ls i h = leads (codes " > ") refl h
operator greater_equal t ls i h = leads (codes " >= ") refl h
operator and_ t ls i h = leads (codes " && ") refl h
operator or_ t ls i h = leads (codes " || ") refl h
operator implies t ls i h = cc

unary : (op : UnaryOp) (t : List ℕ) (ls : List Kind) → Part t ls → Part (unary_text op ++ t) (mark (codes "(") ∷ mark (unary_mark op) ∷ ls)
unary flip t ls h = opens (codes "(~") refl h
unary not_ t ls h = opens (codes "(!") refl h

pub expr_part : (p : Program) → NamesFit p → (e : P4Expr) → ExprFits e → Part (expr_text p e) (expr_tokens p e)
expr_part p n (p_lit w m) f = literal_part w m f.0 f.1 f.2
expr_part p n (p_truth true) f = whole (codes "true") refl
expr_part p n (p_truth false) f = whole (codes "false") refl
expr_part p n (p_meta i) f = meta_part p i n
expr_part p n (p_field h g) f = field_part p h g n
expr_part p n p_port f = whole (codes "port") refl
expr_part p n p_rid f = whole (codes "rid") refl
expr_part p n (p_unary op a) f = unary op _ _ (follows (expr_part p n a f) close)
expr_part p n (p_binary op a b) f =
    reads_as (opens (codes "(") refl (follows (expr_part p n a f.1) (operator op _ _ f.0 (follows (expr_part p n b f.2) close))))
    (simp append_assoc)
expr_part p n (p_slice a high low) f =
    follows (expr_part p n a f.0) (leads (codes "[") refl (follows (plain_part high f.1) (leads (codes ":") refl (follows (plain_part low f.2) (ends (codes "]") refl)))))
expr_part p n (p_pick c a b) f =
    reads_as (opens (codes "(") refl (follows (expr_part p n c f.0) (leads (codes " ? ") refl (follows (expr_part p n a f.1) (leads (codes " : ") refl (follows (expr_part p n b f.2) close))))))
    (simp append_assoc)

-- ---- statements

abbrev mutual
  pub StmtFits : P4Stmt → Type 0
  StmtFits (set_meta i e) = ExprFits e
  StmtFits (set_header h f e) = ExprFits e
  StmtFits (apply_table n) = n < 2 ^ 32
  StmtFits (p_if e first) = ExprFits e × BlockFits first
  StmtFits (p_if_else e first second) = ExprFits e × BlockFits first × BlockFits second
  StmtFits (verdict n) = n < 2 ^ 8
  StmtFits (egress_port e) = ExprFits e
  StmtFits (group e) = ExprFits e
  StmtFits p_return = Unit {0}

  pub BlockFits : P4Block → Type 0
  BlockFits p_done = Unit {0}
  BlockFits (p_then first rest) = StmtFits first × BlockFits rest

pub semicolon : Lines (codes ";") (mark (codes ";") ∷ [])
semicolon = ends (codes ";") refl

pub brace : Lines (codes "}") (mark (codes "}") ∷ [])
brace = ends (codes "}") refl

-- X = E;
assigns : {s t : List ℕ} {ks ls : List Kind} → Part s ks → Part t ls → Part (s ++ (codes " = " ++ (t ++ codes ";"))) (ks ++ (mark (codes "=") ∷ (ls ++ mark (codes ";") ∷ [])))
assigns a b = follows a (leads (codes " = ") refl (follows b semicolon))

pub table_part : (n : ℕ) → n < 2 ^ 32 → Part (codes "t" ++ decimal n) (table_name n ∷ [])
table_part n h = word_part (codes "t" ++ decimal n) (decimal_word n (omega arith))

pub action_part : (n : ℕ) → n < 2 ^ 32 → Part (codes "a" ++ decimal n) (action_name n ∷ [])
action_part n h = word_part (codes "a" ++ decimal n) (decimal_word n (omega arith))

regroup : (e f : List Kind) (c o r : Kind) (y : List Kind) → ((e ++ c ∷ []) ++ (o ∷ (f ++ r ∷ []))) ++ y ≡ e ++ (c ∷ o ∷ (f ++ r ∷ y))
regroup e f c o r y = append_assoc (e ++ c ∷ []) (o ∷ (f ++ r ∷ [])) y ∙ append_assoc e (c ∷ []) ((o ∷ (f ++ r ∷ [])) ++ y) ∙ ap (λ z. e ++ (c ∷ o ∷ z)) (append_assoc f (r ∷ []) y)

if_then : (p : Program) → NamesFit p → (e : P4Expr) → ExprFits e → {t : List ℕ} {ls : List Kind} → Lines t ls → Part (if_text p e ++ t) (a_name (codes "if") ∷ mark (codes "(") ∷ (expr_tokens p e ++ (mark (codes ")") ∷ mark (codes "{") ∷ ls)))
unfolding if_text
if_then p n e f {t} {ls} h =
    let after_it = opens (codes "if (") refl (follows (expr_part p n e f) (between (codes ") {") refl h)) in
    subst (λ s. Part s (a_name (codes "if") ∷ mark (codes "(") ∷ (expr_tokens p e ++ (mark (codes ")") ∷ mark (codes "{") ∷ ls)))) (ap (λ s. codes "if (" ++ s) (sym (append_assoc (expr_text p e) (codes ") {") t))) after_it

else_then : (d : ℕ) {t : List ℕ} {ls : List Kind} → Lines t ls → Lines (else_text d ++ t) (mark (codes "}") ∷ a_name (codes "else") ∷ mark (codes "{") ∷ ls)
unfolding else_text
else_then d {t} {ls} h =
    let after_it = line d (lines_part (between (codes "} else {") refl h)) in
    subst (λ s. Lines s (mark (codes "}") ∷ a_name (codes "else") ∷ mark (codes "{") ∷ ls)) (sym (append_assoc (new_line d) (codes "} else {") t)) after_it

at_end : (d : ℕ) → Lines (end_text d) (mark (codes "}") ∷ [])
unfolding end_text
at_end d = line d (lines_part brace)

verdict_part : (v : ℕ) → v < 2 ^ 8 → Part (verdict_text v) (a_name (codes "verdict") ∷ mark (codes "=") ∷ literal 8 v ∷ mark (codes ";") ∷ [])
unfolding verdict_text
verdict_part v f = assigns (whole (codes "verdict") refl) (literal_part 8 v (omega arith) (omega arith) f)

mutual
  unfolding egress_port_text group_text

  pub stmt_part : (p : Program) → NamesFit p → (d : ℕ) (s : P4Stmt) → StmtFits s → Part (stmt_text p d s) (stmt_tokens p s)
  stmt_part p n d (set_meta i e) f = reads_as (assigns (meta_part p i n) (expr_part p n e f)) (simp append_assoc)
  stmt_part p n d (set_header h g e) f = reads_as (assigns (field_part p h g n) (expr_part p n e f)) (simp append_assoc)
  stmt_part p n d (apply_table t) f = follows (table_part t f) (ends (codes ".apply();") refl)
  stmt_part p n d (p_if e first) f = reads_as (if_then p n e f.0 (after (block_lines p n (d + 2) first f.1) (at_end d))) (simp append_assoc)
  stmt_part p n d (p_if_else e first second) f =
      reads_as (if_then p n e f.0 (after (block_lines p n (d + 2) first f.1) (else_then d (after (block_lines p n (d + 2) second f.2) (at_end d)))))
      (ap (λ z. a_name (codes "if") ∷ mark (codes "(") ∷ z) (sym (regroup (expr_tokens p e) (block_tokens p first) (mark (codes ")")) (mark (codes "{")) (mark (codes "}")) (a_name (codes "else") ∷ mark (codes "{") ∷ (block_tokens p second ++ mark (codes "}") ∷ [])))))
  stmt_part p n d (verdict v) f = verdict_part v f
  stmt_part p n d (egress_port e) f = assigns (whole (codes "egress_port") refl) (expr_part p n e f)
  stmt_part p n d (group e) f = assigns (whole (codes "group") refl) (expr_part p n e f)
  stmt_part p n d p_return f = whole (codes "return;") refl

  pub block_lines : (p : Program) → NamesFit p → (d : ℕ) (b : P4Block) → BlockFits b → Lines (block_text p d b) (block_tokens p b)
  block_lines p n d p_done f = no_lines
  block_lines p n d (p_then first rest) f = line d (follows (stmt_part p n d first f.0) (block_lines p n d rest f.1))
