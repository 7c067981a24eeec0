-- The faults of the second phase are those that stand at headers, blocks, declarations, statements and expressions.
use Rattle.std.proofs.Common.{◌≡◌, ℕ, suc, ◌==◌, ◌%◌, ◌||◌, Bool, true, false, not, List, [], ◌∷◌, ◌++◌, map, length, Option, Some, None, refl, sym, ap, ◌∙◌, arith}
use Rattle.std.proofs.Math.Bool.{or-false}
use Rattle.std.specs.Prelude.{filter_map, option_to_list}
use Rattle.std.specs.List.{cons_option}
use Rattle.std.specs.List.{list_any, flat_map}
use Rattle.std.proofs.lemmas.List.{append-nil, map-append, take_all}
use Rattle.cocoon_num.specs.Tree.{FunctionDecl, SwitchDecl, Decl, Refine, HeaderDecl, Design}
use Rattle.cocoon_num.specs.Lists.{has_number}
use Rattle.cocoon_num.specs.Packets.{total}
use Rattle.cocoon_types.specs.Design.{as_function, as_switch, all_decls, widths_of}
use Rattle.cocoon_types.specs.Rules.{Rule, zero_count, too_wide, header_width, wrong_width, not_bool, wrong_count, bad_slice, after_send, packet_in_guard}
use Rattle.cocoon_types.specs.RuleParts.{unless, unless_named}
use Rattle.cocoon_types.specs.Sites.{ExprSite, StmtSite, DeclSite, sites_of, sites_from, decl_sites, params_of, bound_by, stmts_of_decl, all_stmts, exprs_of_stmt, exprs_of_decl, all_exprs}
use Rattle.cocoon_types.specs.TypeRules.{wide_params, wide_result, wide_in_expr, wrong_in_expr, wrong_in_stmt, wrong_result, not_bool_in_expr, not_bool_in_stmt, not_bool_in_decl, wrong_count_in_expr, wrong_count_in_stmt, bad_slices, after_sends, packet_used}
use Rattle.cocoon_types.specs.FirstFault.{is_fault_of}
use Rattle.type_rules.specs.Tests.{no_ports, in_design}
use Rattle.type_rules.proofs.Membership.{number-append, number-flat_map, any-append, any-flat_map, any-same}

-- ---- truth values and lists

any-none : {A : Type 0} (p : A → Bool) → ((x : A) → p x ≡ false) → (xs : List A) → list_any p xs ≡ false
any-none p h [] = refl
any-none p h (x ∷ xs) = λ i. h x i || any-none p h xs i

pub swap_middle : (a b c d : Bool) → ((a || b) || (c || d)) ≡ ((a || c) || (b || d))
swap_middle true b c d = refl
swap_middle false true true d = refl
swap_middle false true false d = refl
swap_middle false false true d = refl
swap_middle false false false d = refl

any-or : {A : Type 0} (p q : A → Bool) (xs : List A) → list_any (λ x. p x || q x) xs ≡ (list_any p xs || list_any q xs)
any-or p q [] = refl
any-or p q (x ∷ xs) = ap (λ b. (p x || q x) || b) (any-or p q xs) ∙ swap_middle (p x) (q x) (list_any p xs) (list_any q xs)

-- ---- one rule, by what it gives of expressions, statements and declarations

module _ (n : ℕ) (E : ExprSite → List ℕ) (S : StmtSite → List ℕ) (D : DeclSite → List ℕ) where
  abbrev expr_has : ExprSite → Bool
  expr_has x = has_number n (E x)

  abbrev stmt_has : StmtSite → Bool
  stmt_has y = has_number n (S y) || list_any expr_has (exprs_of_stmt y)

  abbrev decl_has : DeclSite → Bool
  decl_has site = (has_number n (D site) || list_any expr_has (exprs_of_decl site)) || list_any stmt_has (stmts_of_decl site)

  -- statements, with their expressions
  stmts_have : (ys : List StmtSite) → list_any stmt_has ys ≡ (has_number n (flat_map S ys) || list_any expr_has (flat_map exprs_of_stmt ys))
  stmts_have ys =
      any-or (λ y. has_number n (S y)) (λ y. list_any expr_has (exprs_of_stmt y)) ys
      ∙ (λ i. sym (number-flat_map n S ys) i || sym (any-flat_map expr_has exprs_of_stmt ys) i)

  regroup : (d e s t : Bool) → ((d || e) || (s || t)) ≡ ((d || (e || t)) || s)
  regroup true e s t = refl
  regroup false true s t = refl
  regroup false false true true = refl
  regroup false false true false = refl
  regroup false false false true = refl
  regroup false false false false = refl

  -- declarations, with all that is in them
  decls_have : (sites : List DeclSite) → list_any decl_has sites
      ≡ ((has_number n (flat_map D sites) || has_number n (flat_map E (flat_map exprs_of_decl sites ++ flat_map exprs_of_stmt (flat_map stmts_of_decl sites)))) || has_number n (flat_map S (flat_map stmts_of_decl sites)))
  decls_have sites =
      any-or (λ x. has_number n (D x) || list_any expr_has (exprs_of_decl x)) (λ x. list_any stmt_has (stmts_of_decl x)) sites
      ∙ (λ i. any-or (λ x. has_number n (D x)) (λ x. list_any expr_has (exprs_of_decl x)) sites i || sym (any-flat_map stmt_has stmts_of_decl sites) i)
      ∙ (λ i. (sym (number-flat_map n D sites) i || sym (any-flat_map expr_has exprs_of_decl sites) i) || stmts_have (flat_map stmts_of_decl sites) i)
      ∙ regroup (has_number n (flat_map D sites)) (list_any expr_has (flat_map exprs_of_decl sites)) (has_number n (flat_map S (flat_map stmts_of_decl sites))) (list_any expr_has (flat_map exprs_of_stmt (flat_map stmts_of_decl sites)))
      ∙ ap (λ b. (has_number n (flat_map D sites) || b) || has_number n (flat_map S (flat_map stmts_of_decl sites)))
      (sym (number-flat_map n E (flat_map exprs_of_decl sites ++ flat_map exprs_of_stmt (flat_map stmts_of_decl sites)) ∙ any-append expr_has (flat_map exprs_of_decl sites) (flat_map exprs_of_stmt (flat_map stmts_of_decl sites))))

-- nothing is given of any
flat-none : {A : Type 0} (n : ℕ) (xs : List A) → has_number n (flat_map (λ x. []) xs) ≡ false
flat-none n [] = refl
flat-none n (x ∷ xs) = flat-none n xs

flat-same : {A B : Type 0} (g h : A → List B) → ((x : A) → g x ≡ h x) → (xs : List A) → flat_map g xs ≡ flat_map h xs
flat-same g h e [] = refl
flat-same g h e (x ∷ xs) = λ i. e x i ++ flat-same g h e xs i

-- ---- switches among declarations

decls_in_of : (d : Design) (level : ℕ) (before : List FunctionDecl) (ds : List Decl) → map (λ (s : DeclSite). s.decl) (sites_of d level before ds) ≡ ds
decls_in_of d level before [] = refl
decls_in_of d level before (x ∷ xs) = ap (λ l. x ∷ l) (decls_in_of d level (before ++ option_to_list (as_function x)) xs)

decls_in_from : (d : Design) (level : ℕ) (before : List FunctionDecl) (bs : List Refine)
    → map (λ (s : DeclSite). s.decl) (sites_from d level before bs) ≡ flat_map (λ (b : Refine). b.decls) bs
decls_in_from d level before [] = refl
decls_in_from d level before (b ∷ bs) =
    map-append (λ (s : DeclSite). s.decl) (sites_of d level before b.decls) (sites_from d (suc level) (before ++ filter_map as_function b.decls) bs)
    ∙ (λ i. decls_in_of d level before b.decls i ++ decls_in_from d (suc level) (before ++ filter_map as_function b.decls) bs i)

every_decl : (d : Design) → map (λ (s : DeclSite). s.decl) (decl_sites d) ≡ all_decls d
every_decl d =
    map-append (λ (s : DeclSite). s.decl) (sites_of d 0 [] d.decls) (sites_from d 1 (filter_map as_function d.decls) d.refines)
    ∙ (λ i. decls_in_of d 0 [] d.decls i ++ decls_in_from d 1 (filter_map as_function d.decls) d.refines i)
    ∙ ap (λ l. d.decls ++ flat_map (λ (b : Refine). b.decls) l) (sym (take_all (length d.refines) d.refines (omega arith)))

abbrev ports : SwitchDecl → List ℕ
ports s = unless (not (s.ports == 0)) s.at

switches_of : (ds : List Decl) → flat_map no_ports ds ≡ flat_map ports (filter_map as_switch ds)
switches_of [] = refl
switches_of (x ∷ xs) = by (as_switch x) (switches_of xs)
  where
    by : (o : Option SwitchDecl) → flat_map no_ports xs ≡ flat_map ports (filter_map as_switch xs)
        → flat_map ports (option_to_list o) ++ flat_map no_ports xs ≡ flat_map ports (cons_option o (filter_map as_switch xs))
    by None rest = rest
    by (Some s) rest = λ i. append-nil (ports s) i ++ rest i

flat-map : {A B C : Type 0} (g : B → List C) (h : A → B) (xs : List A) → flat_map (λ x. g (h x)) xs ≡ flat_map g (map h xs)
flat-map g h [] = refl
flat-map g h (x ∷ xs) = ap (λ l. g (h x) ++ l) (flat-map g h xs)

switches : (d : Design) → flat_map (λ (s : DeclSite). no_ports s.decl) (decl_sites d) ≡ flat_map ports (filter_map as_switch (all_decls d))
switches d = flat-map no_ports (λ (s : DeclSite). s.decl) (decl_sites d) ∙ ap (flat_map no_ports) (every_decl d) ∙ switches_of (all_decls d)

-- ---- the rules, one by one

-- neither at a header nor at a block
decls_only : (p : HeaderDecl → Bool) (q : Refine → Bool) (d : Design) (x : Bool) → ((h : HeaderDecl) → p h ≡ false) → ((b : Refine) → q b ≡ false)
    → ((list_any p d.headers || list_any q d.refines) || x) ≡ x
decls_only p q d x hp hq = λ i. (any-none p hp d.headers i || any-none q hq d.refines i) || x

three : (a b c : Bool) → ((a || b) || c) ≡ ((c || a) || b)
three true true true = refl
three true true false = refl
three true false true = refl
three true false false = refl
three false true true = refl
three false true false = refl
three false false true = refl
three false false false = refl

five : (h p r b x : Bool) → ((((h || p) || r) || b) || x) ≡ (h || (((p || r) || x) || b))
five true p r b x = refl
five false true r b x = refl
five false false true b x = refl
five false false false true true = refl
five false false false true false = refl
five false false false false true = refl
five false false false false false = refl

no_exprs_have : (n : ℕ) (xs : List ExprSite) → has_number n (flat_map (λ (x : ExprSite). []) xs) ≡ false
no_exprs_have n xs = flat-none n xs

-- a rule that is not of the phase
not_of_phase : (d : Design) (n : ℕ) → ((list_any (λ (h : HeaderDecl). false) d.headers || list_any (λ (b : Refine). false) d.refines) || list_any (decl_has n (λ x. []) (λ x. []) (λ x. [])) (decl_sites d)) ≡ false
not_of_phase d n =
    decls_only (λ h. false) (λ b. false) d _ (λ h. refl) (λ b. refl)
    ∙ decls_have n (λ x. []) (λ x. []) (λ x. []) (decl_sites d)
    ∙ (λ i. (flat-none n (decl_sites d) i || flat-none n (all_exprs d) i) || flat-none n (all_stmts d) i)

-- widths that may not be declared, and numbers that are put together
abbrev in_headers : Design → List ℕ
in_headers d = flat_map (λ (h : HeaderDecl). wide_params h.fields) d.headers

abbrev in_params : Design → List ℕ
in_params d = flat_map (λ (s : DeclSite). wide_params (params_of s.decl)) (decl_sites d)

abbrev in_results : Design → List ℕ
in_results d = flat_map wide_result (decl_sites d)

abbrev in_bound : Design → List ℕ
in_bound d = flat_map (λ (s : StmtSite). wide_params (bound_by s.s)) (all_stmts d)

abbrev in_sums : Design → List ℕ
in_sums d = flat_map wide_in_expr (all_exprs d)

wide_decls : (n : ℕ) (sites : List DeclSite) → has_number n (flat_map (λ (s : DeclSite). wide_params (params_of s.decl) ++ wide_result s) sites)
    ≡ (has_number n (flat_map (λ (s : DeclSite). wide_params (params_of s.decl)) sites) || has_number n (flat_map wide_result sites))
wide_decls n sites =
    number-flat_map n (λ (s : DeclSite). wide_params (params_of s.decl) ++ wide_result s) sites
    ∙ any-same (λ s. has_number n (wide_params (params_of s.decl) ++ wide_result s)) (λ s. has_number n (wide_params (params_of s.decl)) || has_number n (wide_result s)) (λ s. number-append n (wide_params (params_of s.decl)) (wide_result s)) sites
    ∙ any-or (λ s. has_number n (wide_params (params_of s.decl))) (λ s. has_number n (wide_result s)) sites
    ∙ (λ i. sym (number-flat_map n (λ (s : DeclSite). wide_params (params_of s.decl)) sites) i || sym (number-flat_map n wide_result sites) i)

wide_headers : (n : ℕ) (hs : List HeaderDecl) → list_any (λ (h : HeaderDecl). has_number n (wide_params h.fields) || false) hs ≡ has_number n (flat_map (λ (h : HeaderDecl). wide_params h.fields) hs)
wide_headers n hs =
    any-same (λ h. has_number n (wide_params h.fields) || false) (λ h. has_number n (wide_params h.fields)) (λ h. or-false (has_number n (wide_params h.fields))) hs
    ∙ sym (number-flat_map n (λ (h : HeaderDecl). wide_params h.fields) hs)

wide_of_phase : (d : Design) (n : ℕ) → has_number n (in_headers d ++ in_params d ++ in_results d ++ in_bound d ++ in_sums d)
    ≡ ((list_any (λ (h : HeaderDecl). has_number n (wide_params h.fields) || false) d.headers || list_any (λ (b : Refine). false) d.refines)
    || list_any (decl_has n wide_in_expr (λ y. wide_params (bound_by y.s)) (λ s. wide_params (params_of s.decl) ++ wide_result s)) (decl_sites d))
wide_of_phase d n =
    number-append n (in_headers d ++ in_params d ++ in_results d ++ in_bound d) (in_sums d)
    ∙ ap (λ b. b || has_number n (in_sums d)) (number-append n (in_headers d ++ in_params d ++ in_results d) (in_bound d)
    ∙ ap (λ b. b || has_number n (in_bound d)) (number-append n (in_headers d ++ in_params d) (in_results d)
    ∙ ap (λ b. b || has_number n (in_results d)) (number-append n (in_headers d) (in_params d))))
    ∙ five (has_number n (in_headers d)) (has_number n (in_params d)) (has_number n (in_results d)) (has_number n (in_bound d)) (has_number n (in_sums d))
    ∙ sym ((λ i. (wide_headers n d.headers i || any-none (λ (b : Refine). false) (λ b. refl) d.refines i)
    || decls_have n wide_in_expr (λ y. wide_params (bound_by y.s)) (λ s. wide_params (params_of s.decl) ++ wide_result s) (decl_sites d) i)
    ∙ (λ i. or-false (has_number n (in_headers d)) i || ((wide_decls n (decl_sites d) i || has_number n (in_sums d)) || has_number n (in_bound d))))

pub of_phase : (d : Design) (rule : Rule) (n : ℕ) → is_fault_of 2 d (record { rule = rule; at = n }) ≡ in_design d (record { rule = rule; at = n })
of_phase d zero_count n =
    number-append n (flat_map (λ (b : Refine). unless (not (b.within == 0)) b.at) d.refines) (flat_map ports (filter_map as_switch (all_decls d)))
    ∙ (λ i. number-flat_map n (λ (b : Refine). unless (not (b.within == 0)) b.at) d.refines i || has_number n (sym (switches d) i))
    ∙ sym ((λ i. (any-none (λ (h : HeaderDecl). false) (λ h. refl) d.headers i || list_any (λ (b : Refine). has_number n (unless (not (b.within == 0)) b.at)) d.refines)
    || decls_have n (λ x. []) (λ x. []) (λ (s : DeclSite). no_ports s.decl) (decl_sites d) i)
    ∙ (λ i. list_any (λ (b : Refine). has_number n (unless (not (b.within == 0)) b.at)) d.refines
    || ((has_number n (flat_map (λ (s : DeclSite). no_ports s.decl) (decl_sites d)) || flat-none n (all_exprs d) i) || flat-none n (all_stmts d) i))
    ∙ ap (λ b. list_any (λ (b : Refine). has_number n (unless (not (b.within == 0)) b.at)) d.refines || b)
    (or-false (has_number n (flat_map (λ (s : DeclSite). no_ports s.decl) (decl_sites d)) || false) ∙ or-false (has_number n (flat_map (λ (s : DeclSite). no_ports s.decl) (decl_sites d)))))
of_phase d wrong_width n =
    number-append n (flat_map wrong_in_expr (all_exprs d) ++ flat_map wrong_in_stmt (all_stmts d)) (flat_map wrong_result (decl_sites d))
    ∙ ap (λ b. b || has_number n (flat_map wrong_result (decl_sites d))) (number-append n (flat_map wrong_in_expr (all_exprs d)) (flat_map wrong_in_stmt (all_stmts d)))
    ∙ three (has_number n (flat_map wrong_in_expr (all_exprs d))) (has_number n (flat_map wrong_in_stmt (all_stmts d))) (has_number n (flat_map wrong_result (decl_sites d)))
    ∙ sym (decls_only (λ h. false) (λ b. false) d _ (λ h. refl) (λ b. refl) ∙ decls_have n wrong_in_expr wrong_in_stmt wrong_result (decl_sites d))
of_phase d not_bool n =
    number-append n (flat_map not_bool_in_expr (all_exprs d) ++ flat_map not_bool_in_stmt (all_stmts d)) (flat_map not_bool_in_decl (decl_sites d))
    ∙ ap (λ b. b || has_number n (flat_map not_bool_in_decl (decl_sites d))) (number-append n (flat_map not_bool_in_expr (all_exprs d)) (flat_map not_bool_in_stmt (all_stmts d)))
    ∙ three (has_number n (flat_map not_bool_in_expr (all_exprs d))) (has_number n (flat_map not_bool_in_stmt (all_stmts d))) (has_number n (flat_map not_bool_in_decl (decl_sites d)))
    ∙ sym (decls_only (λ h. false) (λ b. false) d _ (λ h. refl) (λ b. refl) ∙ decls_have n not_bool_in_expr not_bool_in_stmt not_bool_in_decl (decl_sites d))
of_phase d wrong_count n =
    number-append n (flat_map wrong_count_in_expr (all_exprs d)) (flat_map wrong_count_in_stmt (all_stmts d))
    ∙ sym (decls_only (λ h. false) (λ b. false) d _ (λ h. refl) (λ b. refl) ∙ decls_have n wrong_count_in_expr wrong_count_in_stmt (λ x. []) (decl_sites d)
    ∙ (λ i. (flat-none n (decl_sites d) i || has_number n (flat_map wrong_count_in_expr (all_exprs d))) || has_number n (flat_map wrong_count_in_stmt (all_stmts d))))
of_phase d bad_slice n =
    sym (decls_only (λ h. false) (λ b. false) d _ (λ h. refl) (λ b. refl) ∙ decls_have n bad_slices (λ x. []) (λ x. []) (decl_sites d)
    ∙ (λ i. (flat-none n (decl_sites d) i || has_number n (flat_map bad_slices (all_exprs d))) || flat-none n (all_stmts d) i)
    ∙ or-false (has_number n (flat_map bad_slices (all_exprs d))))
of_phase d packet_in_guard n =
    sym (decls_only (λ h. false) (λ b. false) d _ (λ h. refl) (λ b. refl) ∙ decls_have n packet_used (λ x. []) (λ x. []) (decl_sites d)
    ∙ (λ i. (flat-none n (decl_sites d) i || has_number n (flat_map packet_used (all_exprs d))) || flat-none n (all_stmts d) i)
    ∙ or-false (has_number n (flat_map packet_used (all_exprs d))))
of_phase d after_send n =
    sym (decls_only (λ h. false) (λ b. false) d _ (λ h. refl) (λ b. refl) ∙ decls_have n (λ x. []) after_sends (λ x. []) (decl_sites d)
    ∙ (λ i. (flat-none n (decl_sites d) i || flat-none n (all_exprs d) i) || has_number n (flat_map after_sends (all_stmts d))))
of_phase d header_width n =
    number-flat_map n (λ (h : HeaderDecl). unless_named (total (widths_of h.fields) % 8 == 0) h.name) d.headers
    ∙ sym (or-false (list_any (λ (h : HeaderDecl). has_number n (unless_named (total (widths_of h.fields) % 8 == 0) h.name)) d.headers || list_any (λ (b : Refine). false) d.refines)
    ∙ ap (λ b. list_any (λ (h : HeaderDecl). has_number n (unless_named (total (widths_of h.fields) % 8 == 0) h.name)) d.headers || b) (any-none (λ (b : Refine). false) (λ b. refl) d.refines)
    ∙ or-false (list_any (λ (h : HeaderDecl). has_number n (unless_named (total (widths_of h.fields) % 8 == 0) h.name)) d.headers))
    ∙ sym (ap (λ b. (list_any (λ (h : HeaderDecl). has_number n (unless_named (total (widths_of h.fields) % 8 == 0) h.name)) d.headers || list_any (λ (b : Refine). false) d.refines) || b)
    (decls_have n (λ x. []) (λ x. []) (λ x. []) (decl_sites d) ∙ (λ i. (flat-none n (decl_sites d) i || flat-none n (all_exprs d) i) || flat-none n (all_stmts d) i)))
of_phase d too_wide n = wide_of_phase d n
of_phase d rule n = sym (not_of_phase d n)
