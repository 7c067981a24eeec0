-- The faults of the first phase are those that the passes note.
use Rattle.std.proofs.Common.{◌≡◌, ℕ, ◌==◌, ◌||◌, Bool, true, false, List, [], ◌++◌, refl, sym, ap, ap₂, ◌∙◌}
use Rattle.std.specs.Prelude.{flat_map, drop}
use Rattle.std.proofs.lemmas.List.Folds.{list_any-append}
use Rattle.cocoon_num.specs.Tree.{Design, Refine}
use Rattle.cocoon_num.specs.Lists.{has_number}
use Rattle.cocoon_types.specs.NameRules.{roles_again, bound_again, hosts_at, twice_at, unknown_role_in_stmt, unknown_role_in_decl}
use Rattle.cocoon_types.specs.Rules.{Rule, twice, unknown_name, late_function, unknown_role, not_refinable, sink_refined, no_host, no_switch, fails_at}
use Rattle.cocoon_types.specs.RuleParts.{repeated, role_names, each_block}
use Rattle.cocoon_types.specs.Design.{decls_to}
use Rattle.cocoon_types.specs.Sites.{all_stmts, decl_sites}
use Rattle.cocoon_types.specs.FirstFault.{Fault, is_fault_of}
use Rattle.cocoon_types.specs.Among.{among}
use Rattle.name_rules.specs.Uses.{is_use_fault}
use Rattle.name_rules.specs.Among.{header_names, repeated_fields, design_functions, params_twice, hosts_twice, switches_twice, twice_declared, is_list_fault}
use Rattle.name_rules.proofs.RedeclaredFacts.{outside-is, blocks-are}

has-append : (n : ℕ) (xs ys : List ℕ) → has_number n (xs ++ ys) ≡ has_number n xs || has_number n ys
has-append n xs ys = list_any-append (λ m. n == m) xs ys

-- names that stand twice: variables, which the walk over statements notes, stand among the others
apart : (n : ℕ) (a b r q h i s : List ℕ) → has_number n (a ++ b ++ r ++ q ++ h ++ i ++ s) ≡ has_number n (a ++ (r ++ q) ++ (h ++ i) ++ s) || has_number n b
apart n a b r q h i s =
    has-append n (a ++ b ++ r ++ q ++ h ++ i) s
    ∙ ap (λ t. t || has_number n s) (has-append n (a ++ b ++ r ++ q ++ h) i
    ∙ ap (λ t. t || has_number n i) (has-append n (a ++ b ++ r ++ q) h
    ∙ ap (λ t. t || has_number n h) (has-append n (a ++ b ++ r) q
    ∙ ap (λ t. t || has_number n q) (has-append n (a ++ b) r
    ∙ ap (λ t. t || has_number n r) (has-append n a b)))))
    ∙ moved (has_number n a) (has_number n b) (has_number n r) (has_number n q) (has_number n h) (has_number n i) (has_number n s)
    ∙ ap (λ t. t || has_number n b) (sym (has-append n (a ++ (r ++ q) ++ (h ++ i)) s
    ∙ ap (λ t. t || has_number n s) (has-append n (a ++ (r ++ q)) (h ++ i)
    ∙ ap₂ (λ t u. t || u) (has-append n a (r ++ q) ∙ ap (λ t. has_number n a || t) (has-append n r q)) (has-append n h i))))
  where
    moved : (a b r q h i s : Bool) → (((((a || b) || r) || q) || h) || i) || s ≡ (((a || (r || q)) || (h || i)) || s) || b
    moved true b r q h i s = refl
    moved false true true q h i s = refl
    moved false true false true h i s = refl
    moved false true false false true i s = refl
    moved false true false false false true s = refl
    moved false true false false false false true = refl
    moved false true false false false false false = refl
    moved false false true q h i s = refl
    moved false false false true h i s = refl
    moved false false false false true i s = refl
    moved false false false false false true s = refl
    moved false false false false false false true = refl
    moved false false false false false false false = refl

twice-apart : (d : Design) (n : ℕ) → has_number n (twice_at d) ≡ has_number n (twice_declared d) || has_number n (flat_map bound_again (all_stmts d))
twice-apart d n =
    let names = repeated [] (header_names d.headers) ++ flat_map repeated_fields d.headers ++ repeated [] (design_functions d) ++ params_twice d in
    let level_0 = roles_again [] [] (role_names d.decls) in
    let blocks = each_block (λ above b. roles_again b.roles (role_names (decls_to above d)) (role_names b.decls)) d in
    apart n names (flat_map bound_again (all_stmts d)) level_0 blocks (drop 1 (hosts_at d.decls)) (flat_map (λ (b : Refine). hosts_at b.decls) d.refines) (switches_twice d)
    ∙ ap (λ l. has_number n (names ++ l ++ hosts_twice d ++ switches_twice d) || has_number n (flat_map bound_again (all_stmts d))) (sym (ap₂ (◌++◌) (outside-is d) (blocks-are d)))

-- a fault of the first phase
abbrev pub noted : Design → Fault → Bool
noted d f = (among twice (twice_declared d) f || is_list_fault d f) || is_use_fault d f

or_false : (a : Bool) → a || false ≡ a
or_false true = refl
or_false false = refl

two : (a b : Bool) → a || b ≡ (a || false) || (((b || false) || false) || false)
two true b = refl
two false true = refl
two false false = refl

pub of_phase : (d : Design) (rule : Rule) (n : ℕ) → is_fault_of 1 d (record { rule = rule; at = n }) ≡ noted d (record { rule = rule; at = n })
of_phase d twice n = twice-apart d n ∙ two (has_number n (twice_declared d)) (has_number n (flat_map bound_again (all_stmts d)))
of_phase d unknown_name n = by (has_number n (fails_at unknown_name d))
  where
    by : (a : Bool) → a ≡ (a || false) || false
    by true = refl
    by false = refl
of_phase d late_function n = by (has_number n (fails_at late_function d))
  where
    by : (a : Bool) → a ≡ a || false
    by true = refl
    by false = refl
of_phase d unknown_role n =
    has-append n (flat_map unknown_role_in_stmt (all_stmts d)) (flat_map unknown_role_in_decl (decl_sites d))
    ∙ by (has_number n (flat_map unknown_role_in_stmt (all_stmts d))) (has_number n (flat_map unknown_role_in_decl (decl_sites d)))
  where
    by : (a b : Bool) → a || b ≡ ((((b || false) || false) || false) || false) || a
    by true true = refl
    by true false = refl
    by false true = refl
    by false false = refl
of_phase d not_refinable n = by (has_number n (fails_at not_refinable d))
  where
    by : (a : Bool) → a ≡ (((a || false) || false) || false) || false
    by true = refl
    by false = refl
of_phase d sink_refined n = by (has_number n (fails_at sink_refined d))
  where
    by : (a : Bool) → a ≡ ((a || false) || false) || false
    by true = refl
    by false = refl
of_phase d no_host n = by (has_number n (fails_at no_host d))
  where
    by : (a : Bool) → a ≡ (a || false) || false
    by true = refl
    by false = refl
of_phase d no_switch n = by (has_number n (fails_at no_switch d))
  where
    by : (a : Bool) → a ≡ a || false
    by true = refl
    by false = refl
of_phase d rule n = refl
