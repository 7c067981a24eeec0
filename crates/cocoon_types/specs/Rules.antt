-- The rules that a design keeps. For each rule there is the list of the token indices at which it fails; a design is well
-- formed where none of them fails anywhere. It follows the section "Rules of a design" of docs/LANGUAGE.md. All of its
-- rules are there; optional headers, which are absent, would add some. The lists may name a token more than once.
use Rattle.std.specs.Prelude.{◌≡◌, ℕ, List, [], ◌++◌, flat_map, is_some}
use Rattle.cocoon_num.specs.Tree.{HeaderDecl, Design}
use Rattle.cocoon_types.specs.Design.{host_decl, switch_decl}
use Rattle.cocoon_types.specs.Sites.{StmtSite, DeclSite, decl_sites, params_of, bound_by, all_stmts, all_exprs}
use Rattle.cocoon_types.specs.RuleParts.{unless, each_block}
use Rattle.cocoon_types.specs.NameRules.{twice_at, unknown_in_expr, unknown_in_stmt, late_in_expr, unknown_role_in_stmt, unknown_role_in_decl, not_refinable_in, sink_refined_at}
use Rattle.cocoon_types.specs.TypeRules.{zero_counts, wide_params, wide_result, wide_in_expr, header_widths, wrong_in_expr, wrong_in_stmt, wrong_result, not_bool_in_expr, not_bool_in_stmt, not_bool_in_decl, wrong_count_in_expr, wrong_count_in_stmt, bad_slices, after_sends, packet_used}
use Rattle.cocoon_types.specs.FormRules.{sink_forms, changed_in, guard_forms, not_switch_forms, not_wires, last_choices, fork_forms, hidden_above}

-- the rules, by phases: names, types, forms
pub data Rule : Type 0 where
  twice unknown_name late_function unknown_role not_refinable sink_refined no_host no_switch : Rule
  zero_count too_wide header_width wrong_width not_bool wrong_count bad_slice after_send packet_in_guard : Rule
  sink_form header_changed guard_form not_switch_form not_wire last_choice fork_form hidden_choice : Rule

-- the token indices at which a rule fails
abbrev pub fails_at : Rule → Design → List ℕ
fails_at twice d = twice_at d
fails_at unknown_name d = flat_map unknown_in_expr (all_exprs d) ++ flat_map unknown_in_stmt (all_stmts d)
fails_at late_function d = flat_map late_in_expr (all_exprs d)
fails_at unknown_role d = flat_map unknown_role_in_stmt (all_stmts d) ++ flat_map unknown_role_in_decl (decl_sites d)
fails_at not_refinable d = each_block (not_refinable_in d) d
fails_at sink_refined d = sink_refined_at d
fails_at no_host d = unless (is_some (host_decl d)) 0
fails_at no_switch d = unless (is_some (switch_decl d)) 0
fails_at zero_count d = zero_counts d
fails_at too_wide d =
    flat_map (λ (h : HeaderDecl). wide_params h.fields) d.headers
    ++ flat_map (λ (s : DeclSite). wide_params (params_of s.decl)) (decl_sites d) ++ flat_map wide_result (decl_sites d)
    ++ flat_map (λ (s : StmtSite). wide_params (bound_by s.s)) (all_stmts d) ++ flat_map wide_in_expr (all_exprs d)
fails_at header_width d = header_widths d
fails_at wrong_width d =
    flat_map wrong_in_expr (all_exprs d) ++ flat_map wrong_in_stmt (all_stmts d) ++ flat_map wrong_result (decl_sites d)
fails_at not_bool d =
    flat_map not_bool_in_expr (all_exprs d) ++ flat_map not_bool_in_stmt (all_stmts d) ++ flat_map not_bool_in_decl (decl_sites d)
fails_at wrong_count d = flat_map wrong_count_in_expr (all_exprs d) ++ flat_map wrong_count_in_stmt (all_stmts d)
fails_at bad_slice d = flat_map bad_slices (all_exprs d)
fails_at after_send d = flat_map after_sends (all_stmts d)
fails_at packet_in_guard d = flat_map packet_used (all_exprs d)
fails_at sink_form d = sink_forms d
fails_at header_changed d = each_block (changed_in d) d
fails_at guard_form d = guard_forms d
fails_at not_switch_form d = not_switch_forms d
fails_at not_wire d = not_wires d
fails_at last_choice d = last_choices d
fails_at fork_form d = fork_forms d
fails_at hidden_choice d = each_block (hidden_above d) d

-- every rule holds
abbrev pub WellFormed : Design → Type 0
WellFormed d = (rule : Rule) → fails_at rule d ≡ []
