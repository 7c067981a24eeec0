-- In a design that keeps the rules no rule fails at any declaration, statement or expression.
use Rattle.std.proofs.Common.{◌≡◌, []}
use Rattle.std.specs.Prelude.{flat_map}
use Rattle.cocoon_num.specs.Tree.{Design}
use Rattle.cocoon_types.specs.NameRules.{unknown_in_expr, unknown_in_stmt, late_in_expr, unknown_role_in_stmt}
use Rattle.cocoon_types.specs.Rules.{WellFormed, unknown_name, late_function, unknown_role, too_wide, wrong_width, not_bool, wrong_count, bad_slice, packet_in_guard}
use Rattle.cocoon_types.specs.Sites.{ExprSite, StmtSite, DeclSite, decl_sites, bound_by, stmts_of_decl, all_stmts, exprs_of_stmt, exprs_of_decl, all_exprs}
use Rattle.cocoon_types.specs.TypeRules.{wide_params, wide_in_expr, wrong_in_expr, wrong_in_stmt, wrong_result, not_bool_in_expr, not_bool_in_stmt, not_bool_in_decl, wrong_count_in_expr, wrong_count_in_stmt, bad_slices, packet_used}
use Rattle.sound_types.specs.Literals.{DesignLiteralsFit, literal_fits}
use Rattle.sound_types.proofs.Members.{In, in_left, in_right, in_flat, none_at, all_at}
use Rattle.sound_types.proofs.Options.{nil_left, nil_right}
use Rattle.sound_types.proofs.Typing.{IsFaultless}

-- no rule fails at the statement, nor at an expression in it
pub record IsFaultlessStmt (site : StmtSite) : Type 0 where
  pub known : unknown_in_stmt site ≡ []
  pub role : unknown_role_in_stmt site ≡ []
  pub narrow : wide_params (bound_by site.s) ≡ []
  pub values : wrong_in_stmt site ≡ []
  pub truths : not_bool_in_stmt site ≡ []
  pub count : wrong_count_in_stmt site ≡ []
  pub exprs : (x : ExprSite) → In x (exprs_of_stmt site) → IsFaultless x

-- no rule fails at the declaration, nor at an expression or a statement in it
pub record IsFaultlessDecl (site : DeclSite) : Type 0 where
  pub result : wrong_result site ≡ []
  pub truths : not_bool_in_decl site ≡ []
  pub exprs : (x : ExprSite) → In x (exprs_of_decl site) → IsFaultless x
  pub stmts : (x : StmtSite) → In x (stmts_of_decl site) → IsFaultlessStmt x

faultless_expr : (d : Design) → WellFormed d → DesignLiteralsFit d → (x : ExprSite) → In x (all_exprs d) → IsFaultless x
faultless_expr d w l x i = record {
  known = none_at unknown_in_expr (all_exprs d) (nil_left _ _ (w unknown_name)) x i;
  before = none_at late_in_expr (all_exprs d) (w late_function) x i;
  narrow = none_at wide_in_expr (all_exprs d) (nil_right _ _ (w too_wide)) x i;
  operands = none_at wrong_in_expr (all_exprs d) (nil_left _ _ (nil_left _ _ (w wrong_width))) x i;
  truths = none_at not_bool_in_expr (all_exprs d) (nil_left _ _ (nil_left _ _ (w not_bool))) x i;
  count = none_at wrong_count_in_expr (all_exprs d) (nil_left _ _ (w wrong_count)) x i;
  bounds = none_at bad_slices (all_exprs d) (w bad_slice) x i;
  packet = none_at packet_used (all_exprs d) (w packet_in_guard) x i;
  literal = all_at (λ (site : ExprSite). literal_fits site.e) (all_exprs d) l x i;
}

faultless_stmt : (d : Design) → WellFormed d → DesignLiteralsFit d → (x : StmtSite) → In x (all_stmts d) → IsFaultlessStmt x
faultless_stmt d w l x i = record {
  known = none_at unknown_in_stmt (all_stmts d) (nil_right _ _ (w unknown_name)) x i;
  role = none_at unknown_role_in_stmt (all_stmts d) (nil_left _ _ (w unknown_role)) x i;
  narrow = none_at (λ (s : StmtSite). wide_params (bound_by s.s)) (all_stmts d) (nil_right _ _ (nil_left _ _ (w too_wide))) x i;
  values = none_at wrong_in_stmt (all_stmts d) (nil_right _ _ (nil_left _ _ (w wrong_width))) x i;
  truths = none_at not_bool_in_stmt (all_stmts d) (nil_right _ _ (nil_left _ _ (w not_bool))) x i;
  count = none_at wrong_count_in_stmt (all_stmts d) (nil_right _ _ (w wrong_count)) x i;
  exprs = λ e j. faultless_expr d w l e (in_right e (flat_map exprs_of_decl (decl_sites d)) (flat_map exprs_of_stmt (all_stmts d)) (in_flat exprs_of_stmt x (all_stmts d) e i j));
}

pub faultless_decl : (d : Design) → WellFormed d → DesignLiteralsFit d → (x : DeclSite) → In x (decl_sites d) → IsFaultlessDecl x
faultless_decl d w l x i = record {
  result = none_at wrong_result (decl_sites d) (nil_right _ _ (w wrong_width)) x i;
  truths = none_at not_bool_in_decl (decl_sites d) (nil_right _ _ (w not_bool)) x i;
  exprs = λ e j. faultless_expr d w l e (in_left e (flat_map exprs_of_decl (decl_sites d)) (flat_map exprs_of_stmt (all_stmts d)) (in_flat exprs_of_decl x (decl_sites d) e i j));
  stmts = λ s j. faultless_stmt d w l s (in_flat stmts_of_decl x (decl_sites d) s i j);
}
