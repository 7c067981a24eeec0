-- The reading of statements, declarations, a whole design and definitions is exact.
use Rattle.std.specs.Prelude.{◌≡◌, ℕ, zero, suc, ◌+◌, ◌≤◌, ◌||◌, Bool, true, false, List, [], ◌∷◌, ◌++◌, length, slice_get, Option, Some, None, if◌then◌else◌, codes, refl}
use Rattle.std.proofs.Common.{◌∙◌, ap, subst, arith}
use Rattle.cocoon_num.specs.Names.{same_name}
use Rattle.cocoon_num.specs.Values.{number, truth}
use Rattle.cocoon_num.specs.Tree.{Expr, let_, set_field, if_, filter, havoc_var, havoc_field, assume, fork, send, no_stmts, stmt, of_width, of_truth, Decl, a_function, an_assumption, a_role, a_host, a_switch, Refine, HeaderDecl, literal as pattern_literal, masked, any, a_default, a_row}
use Rattle.cocoon_num.specs.Tokens.{Kind, a_name, keyword, plain, literal, mark, finish}
use Rattle.cocoon_num.specs.Reads.{Is, Mark, Reserved, Many, of_expr, ExprAt, BitsAt, ParamAt, ParamsAt, StmtAt, a_let, a_setting, an_if, an_if_else, a_filter, a_havoc, a_field_havoc, an_assume, a_fork, a_send, StmtsAt, no_stmt, one_stmt, BlockAt, a_block, ResultAt, a_width, a_truth, BodyAt, without_body, with_body, RoleBodyAt, no_block, its_block, OptionalParamsAt, no_params, some_params, DeclAt, the_function, the_assumption, the_role, the_host, the_switch, NameAt, RefineAt, the_block, HeaderFieldAt, the_field, HeaderAt, the_header, DesignAt, ConstAt, const_number, const_true, const_false, PatternAt, one_number, under_mask, any_number, EntryAt, the_default, the_row}
use Rattle.parsing.specs.PlainParser.{Outcome, good, bad, taken, is_mark, is_keyword, is_finish, expr_from, exprs_from, bits_from, param_from, params_from, ended, let_from, setting_from, if_from, havoc_from, fork_from, send_from, stmt_from, stmts_from, block_from, result_from, body_from, role_body_from, optional_params_from, function_from, assumption_from, role_from, host_from, switch_from, decl_from, name_from, refine_from, header_field_from, header_from, design_from, const_of, const_from, Literal, literal_of, pattern_from, default_from, row_from, entry_from, defs_from}
use Rattle.parsing.proofs.Exact.{Justifies, Ends, Exact, text_is, as_well, done, stopped, stops, by_token, takes, either, either_mark, either_reserved_word, after_token, mark_then, reserved_word_then, name_then, number_then, phrase_then, no_depth, some_name, some_number, many_exact, some_exact, commas_exact}
use Rattle.parsing.proofs.ExactExprs.{true_token, a_path, path_exact, expr_exact, exprs_exact}

-- ---- types, parameters

abbrev pub a_type : List Kind
a_type = keyword (codes "bit") ∷ mark (codes "<") ∷ some_number ∷ mark (codes ">") ∷ []

pub bits_exact : (p : ℕ) → Exact (λ us. BitsAt us p) (λ us. bits_from us p) p a_type
unfolding bits_from
bits_exact p = reserved_word_then (codes "bit") (p + 1) (omega arith) (mark_then (codes "<") (p + 2) (omega arith) (number_then _ (p + 3) (omega arith) (λ width. mark_then (codes ">") (p + 4) (omega arith) (done width (p + 4) (p + 4) refl (λ us d c b a. (a, b, c, d, refl))))))

abbrev pub a_param : List Kind
a_param = some_name ∷ mark (codes ":") ∷ a_type

pub param_exact : (p : ℕ) → Exact (λ us. ParamAt us p) (λ us. param_from us p) p a_param
unfolding param_from
param_exact p = name_then _ (p + 1) (omega arith) (λ x. mark_then (codes ":") (p + 2) (omega arith) (phrase_then _ [] (bits_exact (p + 2)) (λ width j. done (record { name = x; width = width }) j j refl (λ us c b a. (a, b, c)))))

pub params_exact : (n p : ℕ) → Exact (λ us. ParamsAt us p) (λ us. params_from us n p) p a_param
params_exact n p = commas_exact (λ us m. param_from us) (λ m. param_exact) n p

-- ---- statements

abbrev pub its_end : List Kind
its_end = keyword (codes "true") ∷ mark (codes ";") ∷ []

ended_exact : {A : Type 0} {P : List Kind → A → ℕ → Type 0} (n p : ℕ) (f : Expr → A) → ((us : List Kind) (x : Expr) (k : ℕ) → ExprAt us of_expr p x k → Mark us k (codes ";") → P us (f x) (suc k)) → Exact P (λ us. ended us (expr_from us n of_expr) p f) p its_end
ended_exact n p f h = phrase_then _ (mark (codes ";") ∷ []) (expr_exact n p) (λ x k. mark_then (codes ";") (suc k) refl (done (f x) (suc k) (suc k) refl (λ us s d. h us x k d s)))

let_exact : (n p : ℕ) → Exact (λ us s k. Reserved us p (codes "let") → StmtAt us p s k) (λ us. let_from us (expr_from us n of_expr) p) (suc p) (a_param ++ (mark (codes "=") ∷ its_end))
unfolding let_from
let_exact n p = phrase_then _ (mark (codes "=") ∷ its_end) (param_exact (suc p)) (λ x j. mark_then (codes "=") (suc j) refl (ended_exact n (suc j) (λ e. let_ p x.name x.width e) (λ us e k d s m x t. a_let t x m d s)))

abbrev pub a_statement : List Kind
a_statement = a_path ++ (mark (codes "=") ∷ its_end)

setting_exact : (n p : ℕ) → Exact (λ us. StmtAt us p) (λ us. setting_from us (expr_from us n of_expr) p) p a_statement
unfolding setting_from
setting_exact n p = phrase_then _ (mark (codes "=") ∷ its_end) (path_exact p) (λ x j. mark_then (codes "=") (suc j) refl (ended_exact n (suc j) (λ e. set_field p x.header x.field e) (λ us e k d s m x. a_setting x m d s)))

havoc_exact : (p : ℕ) → Exact (λ us s k. Reserved us p (codes "havoc") → StmtAt us p s k) (λ us. havoc_from us p) (suc p) (a_path ++ (mark (codes ";") ∷ []))
unfolding havoc_from
havoc_exact p = either (is_keyword (codes "pkt"))
    (phrase_then _ (mark (codes ";") ∷ []) (path_exact (suc p)) (λ x j. mark_then (codes ";") (suc j) refl (done (havoc_field p x.header x.field) (suc j) (suc j) refl (λ us s x t. a_field_havoc t x s))))
    (phrase_then _ (mark (codes ";") ∷ []) (param_exact (suc p)) (λ x j. mark_then (codes ";") (suc j) refl (done (havoc_var p x.name x.width) (suc j) (suc j) refl (λ us s x t. a_havoc t x s))))

send_exact : (n p : ℕ) → Exact (λ us s k. Reserved us p (codes "send") → StmtAt us p s k) (λ us. send_from us (exprs_from us n) p) (p + 1) (some_name ∷ mark (codes "[") ∷ keyword (codes "true") ∷ mark (codes "]") ∷ mark (codes ";") ∷ [])
unfolding send_from
send_exact n p = name_then _ (p + 2) (omega arith) (λ r. mark_then (codes "[") (p + 3) (omega arith) (phrase_then _ (mark (codes "]") ∷ mark (codes ";") ∷ []) (exprs_exact n (p + 3)) (λ xs j. mark_then (codes "]") (j + 1) (omega arith) (mark_then (codes ";") (j + 2) (omega arith)
    (done (send p r xs) (j + 2) (j + 2) refl (λ us s c xs o r t. a_send t r o xs c s))))))

abbrev pub braces : List Kind
braces = mark (codes "{") ∷ mark (codes "}") ∷ []

block_ends : (p : ℕ) → Ends (λ us. BlockAt us p) p braces
block_ends p us a = (no_stmts, subst (λ z. BlockAt us p no_stmts z) (let e : suc (suc p) ≡ p + 2 = omega arith in e) (a_block a.0 no_stmt a.1.0))

stmts_ends : (p : ℕ) → Ends (λ us. StmtsAt us p) p []
stmts_ends p = (done {P = λ us. StmtsAt us p} no_stmts p p refl (λ us. no_stmt)).ends

-- the reading of statements to a depth
record Depth (n : ℕ) : Type 0 where
  one : (p : ℕ) → Exact (λ us. StmtAt us p) (λ us. stmt_from us n p) p a_statement
  some : (p : ℕ) → Exact (λ us. StmtsAt us p) (λ us. stmts_from us n p) p []
  block : (p : ℕ) → Exact (λ us. BlockAt us p) (λ us. block_from us n p) p braces

if_exact : {n : ℕ} → Depth n → (p : ℕ) → Exact (λ us s k. Reserved us p (codes "if") → StmtAt us p s k) (λ us. if_from us (expr_from us n of_expr) (block_from us n) p) (p + 1) (mark (codes "(") ∷ keyword (codes "true") ∷ mark (codes ")") ∷ braces)
unfolding if_from
if_exact {n} d p = mark_then (codes "(") (p + 2) (omega arith) (phrase_then _ (mark (codes ")") ∷ braces) (expr_exact n (p + 2)) (λ x j. mark_then (codes ")") (suc j) refl (phrase_then _ [] (d.block (suc j)) (λ a k. either_reserved_word (codes "else") (suc k) refl
    (phrase_then _ [] (d.block (suc k)) (λ b l. done (if_ p x a b) l l refl (λ us b w a c x o t. an_if_else t o x c a w b)))
    (done (if_ p x a no_stmts) k k refl (λ us a c x o t. an_if t o x c a))))))

fork_exact : {n : ℕ} → Depth n → (p : ℕ) → Exact (λ us s k. Reserved us p (codes "fork") → StmtAt us p s k) (λ us. fork_from us (expr_from us n of_expr) (block_from us n) p) (p + 1) (mark (codes "(") ∷ (a_param ++ (mark (codes "|") ∷ keyword (codes "true") ∷ mark (codes ")") ∷ braces)))
unfolding fork_from
fork_exact {n} d p = mark_then (codes "(") (p + 2) (omega arith) (phrase_then _ (mark (codes "|") ∷ keyword (codes "true") ∷ mark (codes ")") ∷ braces) (param_exact (p + 2)) (λ x j. mark_then (codes "|") (suc j) refl (phrase_then _ (mark (codes ")") ∷ braces) (expr_exact n (suc j)) (λ e k. mark_then (codes ")") (suc k) refl
    (phrase_then _ [] (d.block (suc k)) (λ a l. done (fork p x.name x.width e a) l l refl (λ us b c e m x o t. a_fork t o x m e c b)))))))

filter_exact : (n p : ℕ) → Exact (λ us s k. Reserved us p (codes "filter") → StmtAt us p s k) (λ us. ended us (expr_from us n of_expr) (suc p) (λ x. filter p x)) (suc p) its_end
filter_exact n p = ended_exact n (suc p) (λ x. filter p x) (λ us x k d s t. a_filter t d s)

stmt_step : {n : ℕ} → Depth n → (p : ℕ) → Exact (λ us. StmtAt us p) (λ us. stmt_from us (suc n) p) p a_statement
stmt_step {n} d p =
    either_reserved_word (codes "let") (suc p) refl (let_exact n p)
    (either (is_keyword (codes "pkt")) (setting_exact n p)
    (either_reserved_word (codes "if") (p + 1) (omega arith) (if_exact d p)
    (either_reserved_word (codes "filter") (suc p) refl (filter_exact n p)
    (either_reserved_word (codes "havoc") (suc p) refl (havoc_exact p)
    (either_reserved_word (codes "assume") (suc p) refl (ended_exact n (suc p) (λ x. assume p x) (λ us x k d s t. an_assume t d s))
    (either_reserved_word (codes "fork") (p + 1) (omega arith) (fork_exact d p)
    (either_reserved_word (codes "send") (p + 1) (omega arith) (send_exact n p)
    (stops p a_statement (setting_exact n p).ends))))))))

stmts_step : {n : ℕ} → Depth n → (p : ℕ) → Exact (λ us. StmtsAt us p) (λ us. stmts_from us (suc n) p) p []
stmts_step d p = either (is_mark (codes "}")) (done no_stmts p p refl (λ us. no_stmt)) (phrase_then _ [] (d.one p) (λ s j. phrase_then _ [] (d.some j) (λ b k. done (stmt s b) k k refl (λ us ds d. one_stmt d ds))))

block_step : {n : ℕ} → Depth n → (p : ℕ) → Exact (λ us. BlockAt us p) (λ us. block_from us (suc n) p) p braces
block_step d p = mark_then (codes "{") (suc p) refl (phrase_then _ (mark (codes "}") ∷ []) (d.some (suc p)) (λ b j. mark_then (codes "}") (suc j) refl (done b (suc j) (suc j) refl (λ us c ds o. a_block o ds c))))

depth : (n : ℕ) → Depth n
depth zero = record { one = λ p. no_depth p a_statement (setting_exact zero p).ends; some = λ p. no_depth p [] (stmts_ends p); block = λ p. no_depth p braces (block_ends p) }
depth (suc n) = let d = depth n in record { one = stmt_step d; some = stmts_step d; block = block_step d }

pub block_exact : (n p : ℕ) → Exact (λ us. BlockAt us p) (λ us. block_from us n p) p braces
block_exact n p = (depth n).block p

-- ---- declarations

pub result_exact : (p : ℕ) → Exact (λ us. ResultAt us p) (λ us. result_from us p) p a_type
unfolding result_from
result_exact p = either_reserved_word (codes "bool") (suc p) refl (done of_truth (suc p) (suc p) refl (λ us t. a_truth t)) (phrase_then _ [] (bits_exact p) (λ width j. done (of_width width) j j refl (λ us b. a_width b)))

abbrev pub a_body : List Kind
a_body = mark (codes "=") ∷ its_end

pub body_exact : (n p : ℕ) → Exact (λ us. BodyAt us p) (λ us. body_from us n p) p a_body
unfolding body_from
body_exact n p = either_mark (codes ";") (suc p) refl (done None (suc p) (suc p) refl (λ us t. without_body t)) (mark_then (codes "=") (suc p) refl (ended_exact n (suc p) (λ e. Some e) (λ us x k d s t. with_body t d s)))

abbrev pub a_role_body : List Kind
a_role_body = mark (codes "=") ∷ braces

pub role_body_exact : (n p : ℕ) → Exact (λ us. RoleBodyAt us p) (λ us. role_body_from us n p) p a_role_body
unfolding role_body_from
role_body_exact n p = either_mark (codes ";") (suc p) refl (done None (suc p) (suc p) refl (λ us t. no_block t)) (mark_then (codes "=") (suc p) refl (phrase_then _ [] (block_exact n (suc p)) (λ b j. done (Some b) j j refl (λ us d t. its_block t d))))

pub optional_params_exact : (n p : ℕ) → Exact (λ us. OptionalParamsAt us p) (λ us. optional_params_from us n p) p []
unfolding optional_params_from
optional_params_exact n p = either (is_mark (codes ")")) (done [] p p refl (λ us. no_params)) (as_well (λ us x k d. some_params d) (params_exact n p))

function_exact : (n p : ℕ) → Exact (λ us d k. Reserved us p (codes "function") → DeclAt us p d k) (λ us. function_from us n p) (p + 1) (some_name ∷ mark (codes "(") ∷ (a_param ++ (mark (codes ")") ∷ mark (codes ":") ∷ (a_type ++ a_body))))
unfolding function_from
function_exact n p = name_then _ (p + 2) (omega arith) (λ f. mark_then (codes "(") (p + 3) (omega arith) (phrase_then _ (mark (codes ")") ∷ mark (codes ":") ∷ (a_type ++ a_body)) (params_exact n (p + 3)) (λ ps j. mark_then (codes ")") (j + 1) (omega arith) (mark_then (codes ":") (j + 2) (omega arith)
    (phrase_then _ a_body (result_exact (j + 2)) (λ r k. phrase_then _ [] (body_exact n k) (λ b l. done (a_function (record { name = f; params = ps; result = r; body = b })) l l refl (λ us b r m c ps o f t. the_function t f o ps c m r b))))))))

assumption_exact : (n p : ℕ) → Exact (λ us d k. Reserved us p (codes "assume") → DeclAt us p d k) (λ us. assumption_from us n p) (p + 1) (mark (codes "(") ∷ mark (codes ")") ∷ its_end)
unfolding assumption_from
assumption_exact n p = mark_then (codes "(") (p + 2) (omega arith) (phrase_then _ (mark (codes ")") ∷ its_end) (optional_params_exact n (p + 2)) (λ ps j. mark_then (codes ")") (suc j) refl
    (ended_exact n (suc j) (λ e. an_assumption (record { at = p; params = ps; body = e })) (λ us x k d s c ps o t. the_assumption t refl o ps c d s))))

role_exact : (n p : ℕ) → Exact (λ us d k. Reserved us p (codes "role") → DeclAt us p d k) (λ us. role_from us n p) (p + 1) (some_name ∷ mark (codes "[") ∷ (a_param ++ (mark (codes "]") ∷ mark (codes "|") ∷ keyword (codes "true") ∷ a_role_body)))
unfolding role_from
role_exact n p = name_then _ (p + 2) (omega arith) (λ r. mark_then (codes "[") (p + 3) (omega arith) (phrase_then _ (mark (codes "]") ∷ mark (codes "|") ∷ keyword (codes "true") ∷ a_role_body) (params_exact n (p + 3)) (λ ps j. mark_then (codes "]") (j + 1) (omega arith) (mark_then (codes "|") (j + 2) (omega arith)
    (phrase_then _ a_role_body (expr_exact n (j + 2)) (λ e k. phrase_then _ [] (role_body_exact n k) (λ b l. done (a_role (record { name = r; params = ps; guard = e; body = b })) l l refl (λ us b e m c ps o r t. the_role t r o ps c m e b))))))))

abbrev pub a_pair : List Kind
a_pair = mark (codes "(") ∷ some_name ∷ mark (codes ",") ∷ some_name ∷ mark (codes ")") ∷ []

host_exact : (p : ℕ) → Exact (λ us d k. Reserved us p (codes "host") → DeclAt us p d k) (λ us. host_from us p) (p + 1) (a_pair ++ (mark (codes ";") ∷ []))
unfolding host_from
host_exact p = mark_then (codes "(") (p + 2) (omega arith) (name_then _ (p + 3) (omega arith) (λ x. mark_then (codes ",") (p + 4) (omega arith) (name_then _ (p + 5) (omega arith) (λ y. mark_then (codes ")") (p + 6) (omega arith) (mark_then (codes ";") (p + 7) (omega arith)
    (done (a_host (record { at = p; entry = x; sink = y })) (p + 7) (p + 7) refl (λ us s c y m x o t. the_host t refl o x m y c s)))))))

switch_exact : (p : ℕ) → Exact (λ us d k. Reserved us p (codes "switch") → DeclAt us p d k) (λ us. switch_from us p) (p + 1) (a_pair ++ (keyword (codes "ports") ∷ some_number ∷ mark (codes ";") ∷ []))
unfolding switch_from
switch_exact p = mark_then (codes "(") (p + 2) (omega arith) (name_then _ (p + 3) (omega arith) (λ x. mark_then (codes ",") (p + 4) (omega arith) (name_then _ (p + 5) (omega arith) (λ y. mark_then (codes ")") (p + 6) (omega arith) (reserved_word_then (codes "ports") (p + 7) (omega arith)
    (number_then _ (p + 8) (omega arith) (λ n. mark_then (codes ";") (p + 9) (omega arith) (done (a_switch (record { at = p; into = x; out = y; ports = n })) (p + 9) (p + 9) refl (λ us s n w c y m x o t. the_switch t refl o x m y c w n s)))))))))

abbrev pub a_declaration : List Kind
a_declaration = keyword (codes "host") ∷ (a_pair ++ (mark (codes ";") ∷ []))

decl_ends : (p : ℕ) → Ends (λ us. DeclAt us p) p a_declaration
decl_ends p = after_token (λ us. DeclAt us p) (p + 1) (keyword (codes "host")) (a_pair ++ (mark (codes ";") ∷ [])) (omega arith) (host_exact p).ends

pub decl_exact : (n p : ℕ) → Exact (λ us. DeclAt us p) (λ us. decl_from us n p) p a_declaration
unfolding decl_from
decl_exact n p =
    either_reserved_word (codes "function") (p + 1) (omega arith) (function_exact n p)
    (either_reserved_word (codes "assume") (p + 1) (omega arith) (assumption_exact n p)
    (either_reserved_word (codes "role") (p + 1) (omega arith) (role_exact n p)
    (either_reserved_word (codes "host") (p + 1) (omega arith) (host_exact p)
    (either_reserved_word (codes "switch") (p + 1) (omega arith) (switch_exact p)
    (stops p a_declaration (decl_ends p))))))

-- ---- a whole design

pub name_exact : (p : ℕ) → Exact (λ us. NameAt us p) (λ us. name_from us p) p (some_name ∷ [])
unfolding name_from
name_exact p = name_then _ (suc p) refl (λ x. done x (suc p) (suc p) refl (λ us t. (t, refl)))

abbrev pub a_refinement : List Kind
a_refinement = keyword (codes "refine") ∷ some_name ∷ keyword (codes "within") ∷ some_number ∷ braces

pub refine_exact : (n p : ℕ) → Exact (λ us. RefineAt us p) (λ us. refine_from us n p) p a_refinement
unfolding refine_from
refine_exact n p = reserved_word_then (codes "refine") (suc p) refl (phrase_then _ (keyword (codes "within") ∷ some_number ∷ braces) (commas_exact (λ us m. name_from us) (λ m. name_exact) n (suc p)) (λ rs j. reserved_word_then (codes "within") (j + 1) (omega arith) (number_then _ (j + 2) (omega arith) (λ w. mark_then (codes "{") (j + 3) (omega arith)
    (phrase_then _ (mark (codes "}") ∷ []) (many_exact decl_from (is_mark (codes "}")) decl_exact n (j + 3)) (λ ds k. mark_then (codes "}") (suc k) refl (done (record { at = p; roles = rs; within = w; decls = ds }) (suc k) (suc k) refl (λ us c ds o m w rs t. the_block t refl rs w m o ds c))))))))

pub header_field_exact : (p : ℕ) → Exact (λ us. HeaderFieldAt us p) (λ us. header_field_from us p) p (a_param ++ (mark (codes ";") ∷ []))
unfolding header_field_from
header_field_exact p = phrase_then _ (mark (codes ";") ∷ []) (param_exact p) (λ x j. mark_then (codes ";") (suc j) refl (done x (suc j) (suc j) refl (λ us s d. the_field d s)))

-- one phrase at least
abbrev SomeAt : {A : Type 0} → (ℕ → A → ℕ → Type 0) → ℕ → List A → ℕ → Type 0
SomeAt {A} P p xs k = (y : A) × (ys : List A) × (xs ≡ y ∷ ys) × Many P p xs k

abbrev pub a_header : List Kind
a_header = keyword (codes "header") ∷ some_name ∷ mark (codes "{") ∷ (a_param ++ (mark (codes ";") ∷ mark (codes "}") ∷ []))

pub header_exact : (n p : ℕ) → Exact (λ us. HeaderAt us p) (λ us. header_from us n p) p a_header
unfolding header_from
header_exact n p = reserved_word_then (codes "header") (p + 1) (omega arith) (name_then _ (p + 2) (omega arith) (λ h. mark_then (codes "{") (p + 3) (omega arith)
    (phrase_then _ (mark (codes "}") ∷ []) (some_exact {Q = λ us. SomeAt (HeaderFieldAt us) (p + 3)} (λ us m. header_field_from us) (is_mark (codes "}")) (λ m. header_field_exact) n (p + 3) (λ us x xs k d. (x, xs, refl, d))) (λ fs j.
    mark_then (codes "}") (suc j) refl (done (record { name = h; fields = fs }) (suc j) (suc j) refl (λ us c s o h t. the_header t h o s.2 s.3 c))))))

abbrev pub a_design : List Kind
a_design = keyword (codes "packet") ∷ mark (codes "{") ∷ (a_header ++ (mark (codes "}") ∷ []))

-- a design, if the text ends where it does
pub design_exact : (n : ℕ) → Exact (λ us x k. Is us k finish → DesignAt us x) (λ us. design_from us n) 0 a_design
unfolding design_from
design_exact n = reserved_word_then (codes "packet") 1 refl (mark_then (codes "{") 2 refl (phrase_then _ (mark (codes "}") ∷ []) (some_exact {Q = λ us. SomeAt (HeaderAt us) 2} header_from (is_mark (codes "}")) header_exact n 2 (λ us x xs k d. (x, xs, refl, d))) (λ hs i. mark_then (codes "}") (suc i) refl
    (phrase_then _ [] (many_exact decl_from (λ o. is_keyword (codes "refine") o || is_finish o) decl_exact n (suc i)) (λ ds j. phrase_then _ [] (many_exact refine_from is_finish refine_exact n j) (λ rs k. ending i j k hs ds rs))))))
  where
    ending : (i j k : ℕ) (hs : List HeaderDecl) (ds : List Decl) (rs : List Refine) → Exact (λ us x l. Many (RefineAt us) j rs k → Many (DeclAt us) (suc i) ds j → Mark us i (codes "}") → SomeAt (HeaderAt us) 2 hs i → Mark us 1 (codes "{") → Reserved us 0 (codes "packet") → Is us l finish → DesignAt us x)
        (λ us. if is_finish (slice_get us k) then good (record { headers = hs; decls = ds; refines = rs }) k else bad k) k []
    ending i j k hs ds rs = let whole = done (record { headers = hs; decls = ds; refines = rs }) k k refl (λ us d c b a o t e.
        record { first_header = a.0; more_headers = a.1; after_headers = i; after_decls = j; after_refines = k; packet = t; opens = o; some_header = a.2; headers = a.3; closes = b; decls = c; refines = d; ends = e }) in either is_finish whole (stops k [] whole.ends)

-- ---- definitions

pub const_exact : (p : ℕ) → Exact (λ us. ConstAt us p) (λ us. const_from us p) p true_token
unfolding const_from
const_exact p = by_token (λ us. const_of p) p closing over
  where
    closing : Ends (λ us. ConstAt us p) p true_token
    closing us a = (truth true, subst (λ z. ConstAt us p (truth true) z) (let e : suc p ≡ p + 1 = omega arith in e) (const_true a.0))

    no : (ts : List Kind) → p ≤ length ts → Justifies (λ us. ConstAt us p) (λ us. bad p) ts p (bad p)
    no = stopped p true_token closing

    by_reserved_word : (x : List ℕ) (b c : Bool) → same_name x (codes "true") ≡ b → same_name x (codes "false") ≡ c → (ts : List Kind) → p ≤ length ts → slice_get ts p ≡ Some (keyword x) →
        Justifies (λ us. ConstAt us p) (λ us. if b then good (truth true) (suc p) else if c then good (truth false) (suc p) else bad p) ts p (if b then good (truth true) (suc p) else if c then good (truth false) (suc p) else bad p)
    by_reserved_word x true c e f ts h t = takes (suc p) (keyword (codes "true")) refl refl (done (truth true) (suc p) (suc p) refl (λ us t. const_true t)) ts (t ∙ ap (λ z. Some (keyword z)) (text_is x (codes "true") e))
    by_reserved_word x false true e f ts h t = takes (suc p) (keyword (codes "false")) refl refl (done (truth false) (suc p) (suc p) refl (λ us t. const_false t)) ts (t ∙ ap (λ z. Some (keyword z)) (text_is x (codes "false") f))
    by_reserved_word x false false e f ts h t = no ts h

    over : (k : Option Kind) (ts : List Kind) → p ≤ length ts → slice_get ts p ≡ k → Justifies (λ us. ConstAt us p) (λ us. const_of p k) ts p (const_of p k)
    over None ts h t = no ts h
    over (Some (a_name x)) ts h t = no ts h
    over (Some (keyword x)) ts h t = by_reserved_word x (same_name x (codes "true")) (same_name x (codes "false")) refl refl ts h t
    over (Some (plain m)) ts h t = no ts h
    over (Some (literal w m)) ts h t = takes (suc p) (literal w m) refl refl (done (number w m) (suc p) (suc p) refl (λ us t. const_number t)) ts t
    over (Some (mark m)) ts h t = no ts h
    over (Some finish) ts h t = no ts h

abbrev pub some_literal : Kind
some_literal = literal 1 1

literal_then : {A : Type 0} {P : List Kind → A → ℕ → Type 0} (F : List Kind → Literal → Outcome A) {p : ℕ} (q : ℕ) {v : List Kind} → q ≡ suc p → ((x : Literal) → Exact (λ us y j. Is us p (literal x.width x.n) → P us y j) (λ us. F us x) q v) → Exact P (λ us. taken (literal_of (slice_get us p)) p (F us)) p (some_literal ∷ v)
literal_then {A} {P} F {p} q {v} e f = by_token (λ us o. taken (literal_of o) p (F us)) p close over
  where
    close : Ends P p (some_literal ∷ v)
    close = after_token P q some_literal v e (f (record { width = 1; n = 1 })).ends

    over : (o : Option Kind) (ts : List Kind) → p ≤ length ts → slice_get ts p ≡ o → Justifies P (λ us. taken (literal_of o) p (F us)) ts p (taken (literal_of o) p (F ts))
    over None ts h t = stopped p (some_literal ∷ v) close ts h
    over (Some (a_name x)) ts h t = stopped p (some_literal ∷ v) close ts h
    over (Some (keyword x)) ts h t = stopped p (some_literal ∷ v) close ts h
    over (Some (plain n)) ts h t = stopped p (some_literal ∷ v) close ts h
    over (Some (literal w n)) ts h t = takes q (literal w n) e refl (f (record { width = w; n = n })) ts t
    over (Some (mark x)) ts h t = stopped p (some_literal ∷ v) close ts h
    over (Some finish) ts h t = stopped p (some_literal ∷ v) close ts h

pub pattern_exact : (p : ℕ) → Exact (λ us. PatternAt us p) (λ us. pattern_from us p) p (some_literal ∷ [])
unfolding pattern_from
pattern_exact p = either_mark (codes "_") (suc p) refl (done any (suc p) (suc p) refl (λ us t. any_number t))
    (literal_then _ (p + 1) (omega arith) (λ x. either_mark (codes "&&&") (p + 2) (omega arith)
    (literal_then _ (p + 3) (omega arith) (λ m. done (masked x.width x.n m.width m.n) (p + 3) (p + 3) refl (λ us u m t. under_mask t m u)))
    (done (pattern_literal x.width x.n) (suc p) (p + 1) (omega arith) (λ us t. one_number t))))

default_exact : (p : ℕ) → Exact (λ us x k. Reserved us p (codes "default") → EntryAt us p x k) (λ us. default_from us p) (p + 1) (some_name ∷ mark (codes "=") ∷ its_end)
unfolding default_from
default_exact p = name_then _ (p + 2) (omega arith) (λ f. mark_then (codes "=") (p + 3) (omega arith) (phrase_then _ (mark (codes ";") ∷ []) (const_exact (p + 3)) (λ v j. mark_then (codes ";") (suc j) refl (done (a_default f v) (suc j) (suc j) refl (λ us s v m f t. the_default t f m v s)))))

row_exact : (n p : ℕ) → Exact (λ us x k. Reserved us p (codes "define") → EntryAt us p x k) (λ us. row_from us n p) (p + 1) (some_name ∷ mark (codes "(") ∷ some_literal ∷ mark (codes ")") ∷ mark (codes "=") ∷ its_end)
unfolding row_from
row_exact n p = name_then _ (p + 2) (omega arith) (λ f. mark_then (codes "(") (p + 3) (omega arith) (phrase_then _ (mark (codes ")") ∷ mark (codes "=") ∷ its_end) (commas_exact (λ us m. pattern_from us) (λ m. pattern_exact) n (p + 3)) (λ ps j. mark_then (codes ")") (j + 1) (omega arith) (mark_then (codes "=") (j + 2) (omega arith)
    (phrase_then _ (mark (codes ";") ∷ []) (const_exact (j + 2)) (λ v k. mark_then (codes ";") (suc k) refl (done (a_row f ps v) (suc k) (suc k) refl (λ us s v m c ps o f t. the_row t f o ps c m v s))))))))

abbrev pub an_entry : List Kind
an_entry = keyword (codes "default") ∷ some_name ∷ mark (codes "=") ∷ its_end

entry_ends : (p : ℕ) → Ends (λ us. EntryAt us p) p an_entry
entry_ends p = after_token (λ us. EntryAt us p) (p + 1) (keyword (codes "default")) (some_name ∷ mark (codes "=") ∷ its_end) (omega arith) (default_exact p).ends

pub entry_exact : (n p : ℕ) → Exact (λ us. EntryAt us p) (λ us. entry_from us n p) p an_entry
unfolding entry_from
entry_exact n p = either_reserved_word (codes "default") (p + 1) (omega arith) (default_exact p) (either_reserved_word (codes "define") (p + 1) (omega arith) (row_exact n p) (stops p an_entry (entry_ends p)))

pub defs_exact : (n : ℕ) → Exact (λ us. Many (EntryAt us) 0) (λ us. defs_from us n) 0 []
unfolding defs_from
defs_exact n = many_exact entry_from is_finish entry_exact n 0
