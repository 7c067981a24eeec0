-- Cited by the clauses of the walks: which faults of the second phase stand at each part of a design.
use Rattle.std.specs.Prelude.{ℕ, ◌==◌, ◌%◌, ◌&&◌, ◌||◌, Bool, not, List, [], ◌++◌, flat_map, Option, option_to_list}
use Rattle.std.specs.List.{list_any}
use Rattle.cocoon_num.specs.Tree.{Name, Expr, Stmt, Block, ResultKind, of_width, of_truth, FunctionDecl, SwitchDecl, Decl, Refine, HeaderDecl, Design, token_index}
use Rattle.cocoon_num.specs.Sorts.{Sort, is_declared_width}
use Rattle.cocoon_num.specs.Lists.{has_number}
use Rattle.cocoon_num.specs.Packets.{total}
use Rattle.cocoon_types.specs.Design.{as_switch, widths_of}
use Rattle.cocoon_types.specs.RuleParts.{unless, unless_named}
use Rattle.cocoon_types.specs.Typing.{Scope, sort_of}
use Rattle.cocoon_types.specs.Sites.{ExprSite, StmtSite, DeclSite, decl_sites, sites_from, params_of, parts_at, bound_by, stmts_at, stmts_in, stmts_of_decl, exprs_of_stmt, exprs_of_decl}
use Rattle.cocoon_types.specs.Rules.{Rule, zero_count, too_wide, header_width, wrong_width, not_bool, wrong_count, bad_slice, after_send, packet_in_guard}
use Rattle.cocoon_types.specs.TypeRules.{is_other, wide_params, wide_result, wide_in_expr, wrong_in_expr, wrong_in_stmt, wrong_result, not_bool_in_expr, not_bool_in_stmt, not_bool_in_decl, wrong_count_in_expr, wrong_count_in_stmt, bad_slices, after_sends, packet_used}
use Rattle.cocoon_types.specs.FirstFault.{Fault, rank}
use Rattle.cocoon_types.specs.Noting.{is_held}

-- the fault of a rule at a token index, where a test holds
abbrev pub fails_if : Rule → Bool → ℕ → Fault → Bool
fails_if rule fails at f = (rank f.rule == rank rule) && (fails && (f.at == at))

-- the fault that is held, where a test holds
abbrev pub held_if : Bool → Option Fault → Fault → Bool
held_if tested held f = tested && is_held held f

-- those of a rule at some token indices
abbrev pub fails_among : Rule → List ℕ → Fault → Bool
fails_among rule ats f = (rank f.rule == rank rule) && has_number f.at ats

-- the token indices at which a rule of the phase fails at an expression, its parts aside
abbrev pub expr_fails : Rule → ExprSite → List ℕ
expr_fails too_wide site = wide_in_expr site
expr_fails wrong_width site = wrong_in_expr site
expr_fails not_bool site = not_bool_in_expr site
expr_fails wrong_count site = wrong_count_in_expr site
expr_fails bad_slice site = bad_slices site
expr_fails packet_in_guard site = packet_used site
expr_fails rule site = []

-- the fault stands at an expression
abbrev pub at_expr : ExprSite → Fault → Bool
at_expr site f = has_number f.at (expr_fails f.rule site)

-- it stands at an expression or at a part of it
abbrev pub in_expr : Scope → Expr → Fault → Bool
in_expr s e f = list_any (λ site. at_expr site f) (parts_at s e)

-- it stands at one of some expressions or at a part of one
abbrev pub in_exprs : Scope → List Expr → Fault → Bool
in_exprs s es f = list_any (λ e. in_expr s e f) es

-- ---- statements

-- the token indices at which a rule of the phase fails at a statement itself
abbrev pub stmt_fails : Rule → StmtSite → List ℕ
stmt_fails too_wide site = wide_params (bound_by site.s)
stmt_fails wrong_width site = wrong_in_stmt site
stmt_fails not_bool site = not_bool_in_stmt site
stmt_fails wrong_count site = wrong_count_in_stmt site
stmt_fails after_send site = after_sends site
stmt_fails rule site = []

-- the fault stands at a statement
abbrev pub at_stmt : StmtSite → Fault → Bool
at_stmt site f = has_number f.at (stmt_fails f.rule site)

-- it stands at a statement or in an expression of it
abbrev pub with_exprs : StmtSite → Fault → Bool
with_exprs site f = at_stmt site f || list_any (λ x. at_expr x f) (exprs_of_stmt site)

-- it stands in a statement, its blocks included, or in the rest of a block
abbrev pub in_stmt : Scope → (ended : Bool) → Stmt → Fault → Bool
in_stmt s ended a f = list_any (λ site. with_exprs site f) (stmts_at s ended a)

abbrev pub in_block : Scope → (ended : Bool) → Block → Fault → Bool
in_block s ended b f = list_any (λ site. with_exprs site f) (stmts_in s ended b)

-- ---- declarations, blocks, headers

-- the ports of a declaration of switches are none
abbrev pub no_ports : Decl → List ℕ
no_ports d = flat_map (λ (s : SwitchDecl). unless (not (s.ports == 0)) s.at) (option_to_list (as_switch d))

-- the token indices at which a rule of the phase fails at a declaration itself
abbrev pub decl_fails : Rule → DeclSite → List ℕ
decl_fails zero_count site = no_ports site.decl
decl_fails too_wide site = wide_params (params_of site.decl) ++ wide_result site
decl_fails wrong_width site = wrong_result site
decl_fails not_bool site = not_bool_in_decl site
decl_fails rule site = []

-- the fault stands at a declaration
abbrev pub at_decl : DeclSite → Fault → Bool
at_decl site f = has_number f.at (decl_fails f.rule site)

-- it stands at a declaration, or in an expression or a statement of it
abbrev pub in_decl : DeclSite → Fault → Bool
in_decl site f =
    (at_decl site f || list_any (λ x. at_expr x f) (exprs_of_decl site))
    || list_any (λ x. with_exprs x f) (stmts_of_decl site)

-- it stands at a block of refinements itself
abbrev pub at_block : Refine → Fault → Bool
at_block b f = (rank f.rule == rank zero_count) && has_number f.at (unless (not (b.within == 0)) b.at)

-- it stands at a header
abbrev pub at_header : HeaderDecl → Fault → Bool
at_header h f =
    ((rank f.rule == rank too_wide) && has_number f.at (wide_params h.fields))
    || ((rank f.rule == rank header_width)
    && has_number f.at (unless_named (total (widths_of h.fields) % 8 == 0) h.name))

-- it stands anywhere in a design
abbrev pub in_design : Design → Fault → Bool
in_design d f =
    (list_any (λ h. at_header h f) d.headers || list_any (λ b. at_block b f) d.refines)
    || list_any (λ s. in_decl s f) (decl_sites d)

-- it stands in an expression, or the expression is of another type than this, which is the fault of a rule
abbrev pub expr_or_other : Scope → Rule → Sort → Expr → Fault → Bool
expr_or_other s rule t e f = in_expr s e f || fails_if rule (is_other t (sort_of s e)) (token_index e) f

-- the result of a function, where it is of a width that may not be declared
abbrev pub wide_kind : Name → ResultKind → List ℕ
wide_kind x kind = elim kind [ of_width w ↦ unless_named (is_declared_width w) x | of_truth ↦ [] ]

-- it stands in one of some declarations, or of blocks of refinements
abbrev pub in_decls : List DeclSite → Fault → Bool
in_decls sites f = list_any (λ s. in_decl s f) sites

-- it stands at one of some blocks or in a declaration of one; they are numbered from a level on
abbrev pub in_blocks : Design → (level : ℕ) → (before : List FunctionDecl) → List Refine → Fault → Bool
in_blocks d level before bs f = list_any (λ b. at_block b f) bs || in_decls (sites_from d level before bs) f

-- it stands at one of some headers
abbrev pub in_headers : List HeaderDecl → Fault → Bool
in_headers hs f = list_any (λ h. at_header h f) hs
