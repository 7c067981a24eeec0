-- Each derivation of a text of a design or of definitions is read, and so two derivations give one tree.
use Rattle.std.specs.Prelude.{◌≡◌, ℕ, suc, ◌+◌, true, false, List, slice_get, Option, Ok, codes, refl}
use Rattle.std.proofs.Common.{sym, subst}
use Rattle.std.proofs.Math.Numerals.{add-one}
use Rattle.cocoon_num.specs.Values.{Value}
use Rattle.cocoon_num.specs.Tree.{Name, Expr, Exprs, Stmt, let_, set_field, if_, havoc_var, havoc_field, fork, send, Block, no_stmts, Param, ResultKind, FunctionDecl, AssumeDecl, Role, HostDecl, SwitchDecl, Decl, a_function, an_assumption, a_role, a_host, a_switch, Refine, HeaderDecl, Design, Pattern, Entry, a_default, a_row, DefsText}
use Rattle.cocoon_num.specs.Tokens.{Kind, plain, finish, Token, Lexed, kinds}
use Rattle.cocoon_num.specs.Reads.{Is, Mark, Reserved, Named, Many, no_more, one_more, Commas, last, then_comma, of_expr, ExprAt, FieldAt, BitsAt, ParamAt, ParamsAt, StmtAt, a_let, a_setting, an_if, an_if_else, a_filter, a_havoc, a_field_havoc, an_assume, a_fork, a_send, StmtsAt, no_stmt, one_stmt, BlockAt, a_block, ResultAt, a_width, a_truth, BodyAt, without_body, with_body, RoleBodyAt, no_block, its_block, OptionalParamsAt, no_params, some_params, DeclAt, the_function, the_assumption, the_role, the_host, the_switch, NameAt, RefineAt, the_block, HeaderFieldAt, the_field, HeaderAt, the_header, DesignAt, ConstAt, const_number, const_true, const_false, PatternAt, one_number, under_mask, any_number, EntryAt, the_default, the_row, DefsAt, Reads, ReadsDefs}
use Rattle.parsing.specs.PlainParser.{Outcome, is_mark, is_keyword, bits_from, param_from, params_from, let_from, setting_from, if_from, havoc_from, fork_from, send_from, stmt_from, stmts_from, block_from, result_from, body_from, role_body_from, optional_params_from, function_from, assumption_from, role_from, host_from, switch_from, decl_from, closes, finishes, ends_decls, name_from, refine_from, header_field_from, header_from, design_from, const_from, pattern_from, default_from, row_from, entry_from, defs_from}
use Rattle.parsing.proofs.Enough.{same_tree, Enough, always, later, ends_at, chain, marks, reserved_words, names, numbers, many_read, some_read, commas_read}
use Rattle.parsing.proofs.ReadsExprs.{EndExpr, path_read, expr_read, exprs_read, at_closed, at_square, at_semicolon, at_equals}

-- ---- types, parameters

bits_read : (ts : List Kind) (i : ℕ) {width j : ℕ} → BitsAt ts i width j → Enough (λ n. bits_from ts i) width j
unfolding bits_from
bits_read ts i {j = j} t = ends_at j (sym t.4) (reserved_words _ _ _ t.0 (marks _ _ _ t.1 (numbers _ _ _ t.2 (marks _ _ _ t.3 (always _ _)))))

param_read : (ts : List Kind) (i : ℕ) {p : Param} {j : ℕ} → ParamAt ts i p j → Enough (λ n. param_from ts i) p j
unfolding param_from
param_read ts i {p = p} t = names _ _ _ p.name t.0 (marks _ _ _ t.1 (chain _ (bits_read _ _ t.2) (always _ _)))

params_read : (ts : List Kind) {i : ℕ} {ps : List Param} {j : ℕ} → ParamsAt ts i ps j → is_mark (codes ",") (slice_get ts j) ≡ false → Enough (λ n. params_from ts n i) ps j
params_read ts d c = commas_read ts (λ n. param_from ts) (λ k. Unit {0}) tt (λ i x j d e. param_read ts i d) d tt c

-- ---- statements

let_read : (ts : List Kind) (E : ℕ → ℕ → Outcome Expr) (i : ℕ) {p : Param} (j : ℕ) {x : Expr} {k : ℕ} → ParamAt ts (suc i) p j → Mark ts j (codes "=") → Enough (λ n. E n (suc j)) x k → Mark ts k (codes ";") → Enough (λ n. let_from ts (E n) i) (let_ i p.name p.width x) (suc k)
unfolding let_from
let_read ts E i j p t x s = chain _ (param_read _ _ p) (marks _ _ _ t (chain _ x (marks _ _ _ s (always _ _))))

setting_read : (ts : List Kind) (E : ℕ → ℕ → Outcome Expr) (i : ℕ) {h f : Name} (j : ℕ) {x : Expr} {k : ℕ} → FieldAt ts i h f j → Mark ts j (codes "=") → Enough (λ n. E n (suc j)) x k → Mark ts k (codes ";") → Enough (λ n. setting_from ts (E n) i) (set_field i h f x) (suc k)
unfolding setting_from
setting_read ts E i j p t x s = chain _ (path_read _ _ p) (marks _ _ _ t (chain _ x (marks _ _ _ s (always _ _))))

if_read : (ts : List Kind) (E : ℕ → ℕ → Outcome Expr) (B : ℕ → ℕ → Outcome Block) (i : ℕ) {x : Expr} (j : ℕ) {a : Block} {k : ℕ} → Mark ts (i + 1) (codes "(") → Enough (λ n. E n (i + 2)) x j → Mark ts j (codes ")") → Enough (λ n. B n (suc j)) a k → is_keyword (codes "else") (slice_get ts k) ≡ false → Enough (λ n. if_from ts (E n) (B n) i) (if_ i x a no_stmts) k
unfolding if_from
if_read ts E B i j t x c a e = marks _ _ _ t (chain _ x (marks _ _ _ c (chain _ a (rw e (always _ _)))))

if_else_read : (ts : List Kind) (E : ℕ → ℕ → Outcome Expr) (B : ℕ → ℕ → Outcome Block) (i : ℕ) {x : Expr} (j : ℕ) {a : Block} (k : ℕ) {b : Block} {l : ℕ} → Mark ts (i + 1) (codes "(") → Enough (λ n. E n (i + 2)) x j → Mark ts j (codes ")") → Enough (λ n. B n (suc j)) a k → Reserved ts k (codes "else") → Enough (λ n. B n (suc k)) b l → Enough (λ n. if_from ts (E n) (B n) i) (if_ i x a b) l
unfolding if_from
if_else_read ts E B i j k t x c a e b = marks _ _ _ t (chain _ x (marks _ _ _ c (chain _ a (rw e (chain _ b (always _ _))))))

havoc_read : (ts : List Kind) (i : ℕ) {p : Param} (j : ℕ) → ParamAt ts (suc i) p j → Mark ts j (codes ";") → Enough (λ n. havoc_from ts i) (havoc_var i p.name p.width) (suc j)
unfolding havoc_from
havoc_read ts i j p s = rw p.0.0 (chain _ (param_read _ _ p) (marks _ _ _ s (always _ _)))

field_havoc_read : (ts : List Kind) (i : ℕ) {h f : Name} (j : ℕ) → FieldAt ts (suc i) h f j → Mark ts j (codes ";") → Enough (λ n. havoc_from ts i) (havoc_field i h f) (suc j)
unfolding havoc_from
field_havoc_read ts i j p s = rw p.0 (chain _ (path_read _ _ p) (marks _ _ _ s (always _ _)))

fork_read : (ts : List Kind) (E : ℕ → ℕ → Outcome Expr) (B : ℕ → ℕ → Outcome Block) (i : ℕ) {p : Param} (j : ℕ) {x : Expr} (k : ℕ) {a : Block} {l : ℕ} → Mark ts (i + 1) (codes "(") → ParamAt ts (i + 2) p j → Mark ts j (codes "|") → Enough (λ n. E n (suc j)) x k → Mark ts k (codes ")") → Enough (λ n. B n (suc k)) a l → Enough (λ n. fork_from ts (E n) (B n) i) (fork i p.name p.width x a) l
unfolding fork_from
fork_read ts E B i j k t p m x c a = marks _ _ _ t (chain _ (param_read _ _ p) (marks _ _ _ m (chain _ x (marks _ _ _ c (chain _ a (always _ _))))))

send_read : (ts : List Kind) (E : ℕ → ℕ → Outcome Exprs) (i : ℕ) {r : Name} {xs : Exprs} (j : ℕ) → Named ts (i + 1) r → Mark ts (i + 2) (codes "[") → Enough (λ n. E n (i + 3)) xs j → Mark ts j (codes "]") → Mark ts (j + 1) (codes ";") → Enough (λ n. send_from ts (E n) i) (send i r xs) (j + 2)
unfolding send_from
send_read ts E i {r = r} j n t x c s = names _ _ _ r n (marks _ _ _ t (chain _ x (marks _ _ _ c (marks _ _ _ s (always _ _)))))

-- no statement begins with "}" or "else"
abbrev NoStmt : Option Kind → Type 0
NoStmt k = (is_mark (codes "}") k ≡ false) × (is_keyword (codes "else") k ≡ false)

stmt_first : {ts : List Kind} {i : ℕ} {s : Stmt} {j : ℕ} → StmtAt ts i s j → NoStmt (slice_get ts i)
stmt_first (a_let t p m x s) = rw t (refl, refl)
stmt_first (a_setting p m x s) = rw p.0 (refl, refl)
stmt_first (an_if t m x c a) = rw t (refl, refl)
stmt_first (an_if_else t m x c a e b) = rw t (refl, refl)
stmt_first (a_filter t x s) = rw t (refl, refl)
stmt_first (a_havoc t p s) = rw t (refl, refl)
stmt_first (a_field_havoc t p s) = rw t (refl, refl)
stmt_first (an_assume t x s) = rw t (refl, refl)
stmt_first (a_fork t m p b x c a) = rw t (refl, refl)
stmt_first (a_send t n m xs c s) = rw t (refl, refl)

stmts_first : {ts : List Kind} {i : ℕ} {b : Block} {j : ℕ} → StmtsAt ts i b j → Mark ts j (codes "}") → is_keyword (codes "else") (slice_get ts i) ≡ false
stmts_first no_stmt c = rw c refl
stmts_first (one_stmt d ds) c = (stmt_first d).1

mutual
  stmt_read : {ts : List Kind} {i : ℕ} {s : Stmt} {j : ℕ} → StmtAt ts i s j → is_keyword (codes "else") (slice_get ts j) ≡ false → Enough (λ n. stmt_from ts n i) s j
  stmt_read {ts} (a_let t p m x s) e = later (rw t (let_read _ _ _ _ p m (expr_read x (rw s at_semicolon)) s))
  stmt_read {ts} (a_setting p m x s) e = later (rw p.0 (setting_read _ _ _ _ p m (expr_read x (rw s at_semicolon)) s))
  stmt_read {ts} (an_if t m x c a) e = later (rw t (if_read _ _ _ _ _ m (expr_read x (rw c at_closed)) c (block_read a) e))
  stmt_read {ts} (an_if_else t m x c a w b) e = later (rw t (if_else_read _ _ _ _ _ _ m (expr_read x (rw c at_closed)) c (block_read a) w (block_read b)))
  stmt_read {ts} (a_filter t x s) e = later (rw t (chain _ (expr_read x (rw s at_semicolon)) (marks _ _ _ s (always _ _))))
  stmt_read {ts} (a_havoc t p s) e = later (rw t (havoc_read _ _ _ p s))
  stmt_read {ts} (a_field_havoc t p s) e = later (rw t (field_havoc_read _ _ _ p s))
  stmt_read {ts} (an_assume t x s) e = later (rw t (chain _ (expr_read x (rw s at_semicolon)) (marks _ _ _ s (always _ _))))
  stmt_read {ts} (a_fork t m p b x c a) e = later (rw t (fork_read _ _ _ _ _ _ m p b (expr_read x (rw c at_closed)) c (block_read a)))
  stmt_read {ts} (a_send t n m xs c s) e = later (rw t (send_read _ _ _ _ n m (exprs_read xs (rw c at_square) (rw c refl)) c s))

  stmts_read : {ts : List Kind} {i : ℕ} {b : Block} {j : ℕ} → StmtsAt ts i b j → Mark ts j (codes "}") → Enough (λ n. stmts_from ts n i) b j
  stmts_read {ts} no_stmt c = later (rw c (always _ _))
  stmts_read {ts} (one_stmt d ds) c = later (rw (stmt_first d).0 (chain _ (stmt_read d (stmts_first ds c)) (chain _ (stmts_read ds c) (always _ _))))

  block_read : {ts : List Kind} {i : ℕ} {b : Block} {j : ℕ} → BlockAt ts i b j → Enough (λ n. block_from ts n i) b j
  block_read {ts} (a_block t d c) = later (marks _ _ _ t (chain _ (stmts_read d c) (marks _ _ _ c (always _ _))))

-- ---- declarations

result_read : (ts : List Kind) {i : ℕ} {r : ResultKind} {j : ℕ} → ResultAt ts i r j → Enough (λ n. result_from ts i) r j
unfolding result_from
result_read ts (a_width t) = rw t.0 (chain _ (bits_read _ _ t) (always _ _))
result_read ts (a_truth t) = rw t (always _ _)

body_read : (ts : List Kind) {i : ℕ} {b : Option Expr} {j : ℕ} → BodyAt ts i b j → Enough (λ n. body_from ts n i) b j
unfolding body_from
body_read ts (without_body t) = rw t (always _ _)
body_read ts (with_body t x s) = rw t (marks _ _ _ t (chain _ (expr_read x (rw s at_semicolon)) (marks _ _ _ s (always _ _))))

role_body_read : (ts : List Kind) {i : ℕ} {b : Option Block} {j : ℕ} → RoleBodyAt ts i b j → Enough (λ n. role_body_from ts n i) b j
unfolding role_body_from
role_body_read ts (no_block t) = rw t (always _ _)
role_body_read ts (its_block t d) = rw t (marks _ _ _ t (chain _ (block_read d) (always _ _)))

role_body_end : {ts : List Kind} {i : ℕ} {b : Option Block} {j : ℕ} → RoleBodyAt ts i b j → EndExpr (slice_get ts i)
role_body_end (no_block t) = rw t at_semicolon
role_body_end (its_block t d) = rw t at_equals

params_first : {ts : List Kind} {i : ℕ} {ps : List Param} {j : ℕ} → ParamsAt ts i ps j → is_mark (codes ")") (slice_get ts i) ≡ false
params_first (last d) = rw d.0.0 refl
params_first (then_comma d t ds) = rw d.0.0 refl

optional_params_read : (ts : List Kind) {i : ℕ} {ps : List Param} {j : ℕ} → OptionalParamsAt ts i ps j → Mark ts j (codes ")") → Enough (λ n. optional_params_from ts n i) ps j
unfolding optional_params_from
optional_params_read ts no_params c = rw c (always _ _)
optional_params_read ts (some_params d) c = rw (params_first d) (params_read ts d (rw c refl))

function_read : (ts : List Kind) (i : ℕ) {d : FunctionDecl} (j : ℕ) {k l : ℕ} → Named ts (i + 1) d.name → Mark ts (i + 2) (codes "(") → ParamsAt ts (i + 3) d.params j → Mark ts j (codes ")") → Mark ts (j + 1) (codes ":") → ResultAt ts (j + 2) d.result k → BodyAt ts k d.body l → Enough (λ n. function_from ts n i) (a_function d) l
unfolding function_from
function_read ts i {d = d} j f t ps c m r b = names _ _ _ d.name f (marks _ _ _ t (chain _ (params_read ts ps (rw c refl)) (marks _ _ _ c (marks _ _ _ m (chain _ (result_read ts r) (chain _ (body_read ts b) (always _ _)))))))

assumption_read : (ts : List Kind) (i : ℕ) {d : AssumeDecl} (j : ℕ) {k : ℕ} → d.at ≡ i → Mark ts (i + 1) (codes "(") → OptionalParamsAt ts (i + 2) d.params j → Mark ts j (codes ")") → ExprAt ts of_expr (suc j) d.body k → Mark ts k (codes ";") → Enough (λ n. assumption_from ts n i) (an_assumption d) (suc k)
unfolding assumption_from
assumption_read ts i {d = d} j {k = k} e t ps c x s =
    subst (λ at. Enough (λ n. assumption_from ts n i) (an_assumption (record { at = at; params = d.params; body = d.body })) (suc k)) (sym e)
    (marks _ _ _ t (chain _ (optional_params_read ts ps c) (marks _ _ _ c (chain _ (expr_read x (rw s at_semicolon)) (marks _ _ _ s (always _ _))))))

role_read : (ts : List Kind) (i : ℕ) {d : Role} (j : ℕ) {k l : ℕ} → Named ts (i + 1) d.name → Mark ts (i + 2) (codes "[") → ParamsAt ts (i + 3) d.params j → Mark ts j (codes "]") → Mark ts (j + 1) (codes "|") → ExprAt ts of_expr (j + 2) d.guard k → RoleBodyAt ts k d.body l → Enough (λ n. role_from ts n i) (a_role d) l
unfolding role_from
role_read ts i {d = d} j f t ps c m x b = names _ _ _ d.name f (marks _ _ _ t (chain _ (params_read ts ps (rw c refl)) (marks _ _ _ c (marks _ _ _ m (chain _ (expr_read x (role_body_end b)) (chain _ (role_body_read ts b) (always _ _)))))))

host_read : (ts : List Kind) (i : ℕ) {d : HostDecl} → d.at ≡ i → Mark ts (i + 1) (codes "(") → Named ts (i + 2) d.entry → Mark ts (i + 3) (codes ",") → Named ts (i + 4) d.sink → Mark ts (i + 5) (codes ")") → Mark ts (i + 6) (codes ";") → Enough (λ n. host_from ts i) (a_host d) (i + 7)
unfolding host_from
host_read ts i {d = d} e t x m y c s =
    subst (λ at. Enough (λ n. host_from ts i) (a_host (record { at = at; entry = d.entry; sink = d.sink })) (i + 7)) (sym e)
    (marks _ _ _ t (names _ _ _ d.entry x (marks _ _ _ m (names _ _ _ d.sink y (marks _ _ _ c (marks _ _ _ s (always _ _)))))))

switch_read : (ts : List Kind) (i : ℕ) {d : SwitchDecl} → d.at ≡ i → Mark ts (i + 1) (codes "(") → Named ts (i + 2) d.into → Mark ts (i + 3) (codes ",") → Named ts (i + 4) d.out → Mark ts (i + 5) (codes ")") → Reserved ts (i + 6) (codes "ports") → Is ts (i + 7) (plain d.ports) → Mark ts (i + 8) (codes ";") → Enough (λ n. switch_from ts i) (a_switch d) (i + 9)
unfolding switch_from
switch_read ts i {d = d} e t x m y c w p s =
    subst (λ at. Enough (λ n. switch_from ts i) (a_switch (record { at = at; into = d.into; out = d.out; ports = d.ports })) (i + 9)) (sym e)
    (marks _ _ _ t (names _ _ _ d.into x (marks _ _ _ m (names _ _ _ d.out y (marks _ _ _ c (reserved_words _ _ _ w (numbers _ _ _ p (marks _ _ _ s (always _ _)))))))))

decl_read : (ts : List Kind) (i : ℕ) (d : Decl) (j : ℕ) → DeclAt ts i d j → Enough (λ n. decl_from ts n i) d j
unfolding decl_from
decl_read ts i _ _ (the_function t f m ps c o r b) = rw t (function_read ts i _ f m ps c o r b)
decl_read ts i _ _ (the_assumption t e m ps c x s) = rw t (assumption_read ts i _ e m ps c x s)
decl_read ts i _ _ (the_role t f m ps c o x b) = rw t (role_read ts i _ f m ps c o x b)
decl_read ts i _ _ (the_host t e m x o y c s) = rw t (host_read ts i e m x o y c s)
decl_read ts i _ _ (the_switch t e m x o y c w p s) = rw t (switch_read ts i e m x o y c w p s)

decl_closes : (ts : List Kind) (i : ℕ) (d : Decl) (j : ℕ) → DeclAt ts i d j → closes ts i ≡ false
decl_closes ts i _ _ (the_function t f m ps c o r b) = rw t refl
decl_closes ts i _ _ (the_assumption t e m ps c x s) = rw t refl
decl_closes ts i _ _ (the_role t f m ps c o x b) = rw t refl
decl_closes ts i _ _ (the_host t e m x o y c s) = rw t refl
decl_closes ts i _ _ (the_switch t e m x o y c w p s) = rw t refl

decl_ends : (ts : List Kind) (i : ℕ) (d : Decl) (j : ℕ) → DeclAt ts i d j → ends_decls ts i ≡ false
decl_ends ts i _ _ (the_function t f m ps c o r b) = rw t refl
decl_ends ts i _ _ (the_assumption t e m ps c x s) = rw t refl
decl_ends ts i _ _ (the_role t f m ps c o x b) = rw t refl
decl_ends ts i _ _ (the_host t e m x o y c s) = rw t refl
decl_ends ts i _ _ (the_switch t e m x o y c w p s) = rw t refl

-- ---- a whole design

name_read : (ts : List Kind) (i : ℕ) (x : Name) (j : ℕ) → NameAt ts i x j → Unit {0} → Enough (λ n. name_from ts i) x j
unfolding name_from
name_read ts i x j t e = ends_at j (sym t.1) (names _ _ _ x t.0 (always _ _))

refine_read : (ts : List Kind) (i : ℕ) (d : Refine) (j : ℕ) → RefineAt ts i d j → Enough (λ n. refine_from ts n i) d j
unfolding refine_from
refine_read ts i d _ (the_block {k = k} t e rs w n m ds c) =
    subst (λ at. Enough (λ n. refine_from ts n i) (record { at = at; roles = d.roles; within = d.within; decls = d.decls }) (suc k)) (sym e)
    (reserved_words _ _ _ t (chain _ (commas_read ts (λ n. name_from ts) (λ k. Unit {0}) tt (name_read ts) rs tt (rw w refl)) (reserved_words _ _ _ w (numbers _ _ _ n (marks _ _ _ m
    (chain _ (many_read (decl_from ts) (closes ts) (decl_read ts) (decl_closes ts) ds (rw c refl)) (marks _ _ _ c (always _ _))))))))

refine_finishes : (ts : List Kind) (i : ℕ) (d : Refine) (j : ℕ) → RefineAt ts i d j → finishes ts i ≡ false
refine_finishes ts i d _ (the_block t e rs w n m ds c) = rw t refl

header_field_read : (ts : List Kind) (i : ℕ) (p : Param) (j : ℕ) → HeaderFieldAt ts i p j → Enough (λ n. header_field_from ts i) p j
unfolding header_field_from
header_field_read ts i p _ (the_field t s) = chain _ (param_read _ _ t) (marks _ _ _ s (always _ _))

header_field_closes : (ts : List Kind) (i : ℕ) (p : Param) (j : ℕ) → HeaderFieldAt ts i p j → closes ts i ≡ false
header_field_closes ts i p _ (the_field t s) = rw t.0.0 refl

header_read : (ts : List Kind) (i : ℕ) (d : HeaderDecl) (j : ℕ) → HeaderAt ts i d j → Enough (λ n. header_from ts n i) d j
unfolding header_from
header_read ts i d _ (the_header t h m e fs c) =
    reserved_words _ _ _ t (names _ _ _ d.name h (marks _ _ _ m (chain _ (some_read (λ n. header_field_from ts) (closes ts) (header_field_read ts) (header_field_closes ts) e fs (rw c refl)) (marks _ _ _ c (always _ _)))))

header_closes : (ts : List Kind) (i : ℕ) (d : HeaderDecl) (j : ℕ) → HeaderAt ts i d j → closes ts i ≡ false
header_closes ts i d _ (the_header t h m e fs c) = rw t refl

refines_first : (ts : List Kind) {i : ℕ} {rs : List Refine} {j : ℕ} → Many (RefineAt ts) i rs j → Is ts j finish → ends_decls ts i ≡ true
refines_first ts no_more e = rw e refl
refines_first ts (one_more (the_block t a rs w n m ds c) more) e = rw t refl

pub design_read : (ts : List Kind) (x : Design) (d : DesignAt ts x) → Enough (λ n. design_from ts n) x d.after_refines
unfolding design_from
design_read ts x d =
    reserved_words _ _ _ d.packet (marks _ _ _ d.opens (chain _ (some_read (header_from ts) (closes ts) (header_read ts) (header_closes ts) d.some_header d.headers (rw d.closes refl)) (marks _ _ _ d.closes
    (chain _ (many_read (decl_from ts) (ends_decls ts) (decl_read ts) (decl_ends ts) d.decls (refines_first ts d.refines d.ends))
    (chain _ (many_read (refine_from ts) (finishes ts) (refine_read ts) (refine_finishes ts) d.refines (rw d.ends refl)) (rw d.ends (always _ _)))))))

-- ---- definitions

const_read : (ts : List Kind) {i : ℕ} {v : Value} {j : ℕ} → ConstAt ts i v j → Enough (λ n. const_from ts i) v j
unfolding const_from
const_read ts (const_number t) = rw t (always _ _)
const_read ts (const_true t) = rw t (always _ _)
const_read ts (const_false t) = rw t (always _ _)

-- a number with no mask ends before a token that is no "&&&"
abbrev NoMask : Option Kind → Type 0
NoMask k = is_mark (codes "&&&") k ≡ false

pattern_read : (ts : List Kind) (i : ℕ) (p : Pattern) (j : ℕ) → PatternAt ts i p j → NoMask (slice_get ts j) → Enough (λ n. pattern_from ts i) p j
unfolding pattern_from
pattern_read ts i _ _ (one_number t) e = rw (t, add-one, e) (always _ _)
pattern_read ts i _ _ (under_mask t m u) e = rw (t, m, u) (always _ _)
pattern_read ts i _ _ (any_number t) e = rw t (always _ _)

default_read : (ts : List Kind) (i : ℕ) {f : Name} {v : Value} (j : ℕ) → Named ts (i + 1) f → Mark ts (i + 2) (codes "=") → ConstAt ts (i + 3) v j → Mark ts j (codes ";") → Enough (λ n. default_from ts i) (a_default f v) (suc j)
unfolding default_from
default_read ts i {f = f} j x m v s = names _ _ _ f x (marks _ _ _ m (chain _ (const_read ts v) (marks _ _ _ s (always _ _))))

row_read : (ts : List Kind) (i : ℕ) {f : Name} {ps : List Pattern} {v : Value} (j k : ℕ) → Named ts (i + 1) f → Mark ts (i + 2) (codes "(") → Commas ts (PatternAt ts) (i + 3) ps j → Mark ts j (codes ")") → Mark ts (j + 1) (codes "=") → ConstAt ts (j + 2) v k → Mark ts k (codes ";") → Enough (λ n. row_from ts n i) (a_row f ps v) (suc k)
unfolding row_from
row_read ts i {f = f} j k x m ps c e v s =
    names _ _ _ f x (marks _ _ _ m (chain _ (commas_read ts (λ n. pattern_from ts) NoMask refl (pattern_read ts) ps (rw c refl) (rw c refl)) (marks _ _ _ c (marks _ _ _ e (chain _ (const_read ts v) (marks _ _ _ s (always _ _)))))))

entry_read : (ts : List Kind) (i : ℕ) (x : Entry) (j : ℕ) → EntryAt ts i x j → Enough (λ n. entry_from ts n i) x j
unfolding entry_from
entry_read ts i _ _ (the_default t f m v s) = rw t (default_read ts i _ f m v s)
entry_read ts i _ _ (the_row t f m ps c e v s) = rw t (row_read ts i _ _ f m ps c e v s)

entry_finishes : (ts : List Kind) (i : ℕ) (x : Entry) (j : ℕ) → EntryAt ts i x j → finishes ts i ≡ false
entry_finishes ts i _ _ (the_default t f m v s) = rw t refl
entry_finishes ts i _ _ (the_row t f m ps c e v s) = rw t refl

pub defs_read : (ts : List Kind) (x : DefsText) (d : DefsAt ts x) → Enough (λ n. defs_from ts n) x d.0
unfolding defs_from
defs_read ts x d = many_read (entry_from ts) (finishes ts) (entry_read ts) (entry_finishes ts) d.1 (rw d.2 refl)

-- ---- one tree

same_tokens : {r : Lexed} {a b : List Token} → r ≡ Ok a → r ≡ Ok b → a ≡ b
same_tokens p q = cc

pub one_design : (text : List ℕ) (x y : Design) → Reads text x → Reads text y → x ≡ y
one_design text x y d e =
    same_tree (design_read (kinds e.tokens) x (subst (λ ts. DesignAt (kinds ts) x) (same_tokens d.tokens_are e.tokens_are) d.reads)) (design_read (kinds e.tokens) y e.reads)

pub one_defs : (text : List ℕ) (x y : DefsText) → ReadsDefs text x → ReadsDefs text y → x ≡ y
one_defs text x y d e =
    same_tree (defs_read (kinds e.tokens) x (subst (λ ts. DefsAt (kinds ts) x) (same_tokens d.tokens_are e.tokens_are) d.reads)) (defs_read (kinds e.tokens) y e.reads)
