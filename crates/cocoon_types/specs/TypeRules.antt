-- The rules on types, the second phase of "Rules of a design" in docs/LANGUAGE.md: for each the token indices at which it
-- fails.
use Rattle.std.specs.Prelude.{ℕ, ◌+◌, ◌%◌, ◌==◌, ◌&&◌, ◌||◌, Bool, true, false, not, nat_le, nat_lt, List, [], ◌∷◌, ◌++◌, flat_map, filter_map, length, Option, Some, None, is_some}
use Rattle.std.specs.List.{list_all}
use Rattle.cocoon_num.specs.Values.{flip, not_, BinaryOp, concat, and_, or_, implies}
use Rattle.cocoon_num.specs.Tree.{Name, Expr, field, call, unary, binary, slice, pick, Exprs, expr, let_, set_field, if_, filter, assume, fork, send, Param, of_width, of_truth, FunctionDecl, Role, SwitchDecl, a_function, an_assumption, a_role, Refine, HeaderDecl, Design, token_index}
use Rattle.cocoon_num.specs.Names.{named}
use Rattle.cocoon_num.specs.Packets.{total}
use Rattle.cocoon_num.specs.Sorts.{is_declared_width, Sort, bits_sort, truth_sort, has_sort, are_same}
use Rattle.cocoon_types.specs.Design.{as_switch, all_decls, widths_of, field_width}
use Rattle.cocoon_types.specs.Parts.{list_of, count_of}
use Rattle.cocoon_types.specs.Typing.{Scope, with_var, function_named, result_sort, sort_of}
use Rattle.cocoon_types.specs.Sites.{ExprSite, StmtSite, DeclSite, inner}
use Rattle.cocoon_types.specs.RuleParts.{unless, unless_named, stmt_at, roles_of}

-- ---- counts and widths

-- blocks `within 0` and switches with no ports
abbrev pub zero_counts : Design → List ℕ
zero_counts d =
    flat_map (λ (b : Refine). unless (not (b.within == 0)) b.at) d.refines
    ++ flat_map (λ (s : SwitchDecl). unless (not (s.ports == 0)) s.at) (filter_map as_switch (all_decls d))

-- parameters, fields or variables of another width than 1 to 64
abbrev pub wide_params : List Param → List ℕ
wide_params ps = flat_map (λ (p : Param). unless_named (is_declared_width p.width) p.name) ps

-- a function's result of another width
abbrev pub wide_result : DeclSite → List ℕ
wide_result site = elim site.decl [
  | a_function f ↦ elim f.result [ of_width w ↦ unless_named (is_declared_width w) f.name | of_truth ↦ [] ]
  | _ ↦ []
]

-- the widths of both sum to more than 128
abbrev pub too_wide_sum : Option Sort → Option Sort → Bool
too_wide_sum (Some (bits_sort v)) (Some (bits_sort w)) = nat_lt 128 (v + w)
too_wide_sum _ _ = false

-- a `++` that is too wide
abbrev pub wide_in_expr : ExprSite → List ℕ
wide_in_expr site = elim site.e [
  | binary at op a b ↦ elim op [ concat ↦ unless (not (too_wide_sum (sort_of site.scope a) (sort_of site.scope b))) at | _ ↦ [] ]
  | _ ↦ []
]

-- headers that fill no whole bytes
abbrev pub header_widths : Design → List ℕ
header_widths d = flat_map (λ (h : HeaderDecl). unless_named (total (widths_of h.fields) % 8 == 0) h.name) d.headers

-- ---- types of operands

-- an operator of truth values
abbrev pub is_logical : BinaryOp → Bool
is_logical op = elim op [ and_ ↦ true | or_ ↦ true | implies ↦ true | _ ↦ false ]

-- both have a type
abbrev pub both_typed : Option Sort → Option Sort → Bool
both_typed a b = is_some a && is_some b

-- both are numbers, of the same width
abbrev pub are_like : Option Sort → Option Sort → Bool
are_like (Some (bits_sort v)) (Some (bits_sort w)) = v == w
are_like _ _ = false

-- the type is there and is not this one
abbrev pub is_other : Sort → Option Sort → Bool
is_other s t = is_some t && not (has_sort s t)

-- an expression with a type that is not this one
abbrev pub unless_is : Scope → Sort → Expr → List ℕ
unless_is s t e = unless (not (is_other t (sort_of s e))) (token_index e)

-- an expression with a type that is no number's
abbrev pub unless_number : Scope → Expr → List ℕ
unless_number s e = unless (not (has_sort truth_sort (sort_of s e))) (token_index e)

-- all of these expressions have types
abbrev pub all_typed : Scope → Exprs → Bool
all_typed s es = list_all (λ e. is_some (sort_of s e)) (list_of es)

-- values of other types than their parameters, as far as there are both
abbrev pub wrong_args : Scope → List ℕ → Exprs → List ℕ
wrong_args s (w ∷ ws) (expr e es) = unless_is s (bits_sort w) e ++ wrong_args s ws es
wrong_args s _ _ = []

-- the widths of the parameters of a function that is found
abbrev pub found_widths : Option FunctionDecl → List ℕ
found_widths f = elim f [ None ↦ [] | Some d ↦ widths_of d.params ]

-- token indices, where a test holds
abbrev pub where_ : Bool → List ℕ → List ℕ
where_ true ats = ats
where_ false ats = []

-- operands that are no numbers or of two widths, sides of a `?` of two types, arguments of another type
abbrev pub wrong_in_expr : ExprSite → List ℕ
wrong_in_expr site = elim site.e [
  | unary at op a ↦ elim op [ flip ↦ unless_number site.scope a | not_ ↦ [] ]
  | binary at op a b ↦ where_ (both_typed (sort_of site.scope a) (sort_of site.scope b)) (elim op [
    | concat ↦ unless_number site.scope a ++ unless_number site.scope b
    | other ↦ unless (is_logical other || are_like (sort_of site.scope a) (sort_of site.scope b)) at
  ])
  | slice at a high low ↦ unless_number site.scope a
  | pick at c a b ↦ where_ (is_some (sort_of site.scope c) && both_typed (sort_of site.scope a) (sort_of site.scope b)) (unless (are_same (sort_of site.scope a) (sort_of site.scope b)) (token_index a))
  | call at f es ↦ where_ (all_typed site.scope es && (length (found_widths (function_named site.scope f.text)) == count_of es)) (wrong_args site.scope (found_widths (function_named site.scope f.text)) es)
  | _ ↦ []
]

-- the role's first declaration, against which each `send` to it is tested
abbrev pub first_role : Design → List ℕ → Option Role
first_role d r = named (λ (x : Role). x.name) r (roles_of d)

-- the widths of the parameters of a role that is found
abbrev pub role_widths : Option Role → List ℕ
role_widths r = elim r [ None ↦ [] | Some d ↦ widths_of d.params ]

-- a value that has not the field's type
abbrev pub unless_field : Scope → Name → Name → Expr → List ℕ
unless_field s h f e = elim (field_width s.design.headers h.text f.text) [ None ↦ [] | Some w ↦ unless_is s (bits_sort w) e ]

-- values of another type than the variable, field or parameter that takes them
abbrev pub wrong_in_stmt : StmtSite → List ℕ
wrong_in_stmt site = elim site.s [
  | let_ at x w e ↦ unless_is site.scope (bits_sort w) e
  | set_field at h f e ↦ unless_field site.scope h f e
  | send at r es ↦ where_ (length (role_widths (first_role site.scope.design r.text)) == count_of es) (wrong_args site.scope (role_widths (first_role site.scope.design r.text)) es)
  | _ ↦ []
]

-- a body of another type than the function's result
abbrev pub wrong_result : DeclSite → List ℕ
wrong_result site = elim site.decl [
  | a_function f ↦ elim f.body [ None ↦ [] | Some e ↦ unless_is (inner site) (result_sort f.result) e ]
  | _ ↦ []
]

-- operands of `not`, `and`, `or` and `=>`, and conditions of a `?`, that are no truth values
abbrev pub not_bool_in_expr : ExprSite → List ℕ
not_bool_in_expr site = elim site.e [
  | unary at op a ↦ elim op [ flip ↦ [] | not_ ↦ unless_is site.scope truth_sort a ]
  | binary at op a b ↦ where_ (is_logical op && both_typed (sort_of site.scope a) (sort_of site.scope b)) (unless_is site.scope truth_sort a ++ unless_is site.scope truth_sort b)
  | pick at c a b ↦ where_ (both_typed (sort_of site.scope a) (sort_of site.scope b)) (unless_is site.scope truth_sort c)
  | _ ↦ []
]

-- conditions of statements that are no truth values
abbrev pub not_bool_in_stmt : StmtSite → List ℕ
not_bool_in_stmt site = elim site.s [
  | if_ at e a b ↦ unless_is site.scope truth_sort e
  | filter at e ↦ unless_is site.scope truth_sort e
  | assume at e ↦ unless_is site.scope truth_sort e
  | fork at x w e b ↦ unless_is (with_var x w site.scope) truth_sort e
  | _ ↦ []
]

-- assumptions and guards that are no truth values
abbrev pub not_bool_in_decl : DeclSite → List ℕ
not_bool_in_decl site = elim site.decl [
  | an_assumption a ↦ unless_is (inner site) truth_sort a.body
  | a_role r ↦ unless_is (inner site) truth_sort r.guard
  | _ ↦ []
]

-- a call with another number of values than parameters
abbrev pub wrong_count_in_expr : ExprSite → List ℕ
wrong_count_in_expr site = elim site.e [
  | call at f es ↦ elim (function_named site.scope f.text) [ None ↦ [] | Some d ↦ where_ (all_typed site.scope es) (unless_named (length d.params == count_of es) f) ]
  | _ ↦ []
]

-- a `send` with another number of values than parameters
abbrev pub wrong_count_in_stmt : StmtSite → List ℕ
wrong_count_in_stmt site = elim site.s [
  | send at r es ↦ elim (first_role site.scope.design r.text) [ None ↦ [] | Some d ↦ unless (length d.params == count_of es) at ]
  | _ ↦ []
]

-- a slice of a number of this width with bounds outside of it
abbrev pub bad_bounds : Option Sort → ℕ → ℕ → Bool
bad_bounds (Some (bits_sort w)) high low = not (nat_le low high && nat_lt high w)
bad_bounds _ high low = false

-- slices out of bounds
abbrev pub bad_slices : ExprSite → List ℕ
bad_slices site = elim site.e [ slice at a high low ↦ unless (not (bad_bounds (sort_of site.scope a) high low)) at | _ ↦ [] ]

-- ---- statements after one that ends, and `pkt` outside of bodies

-- a statement after one that ends
abbrev pub after_sends : StmtSite → List ℕ
after_sends site = unless (not site.ended) (stmt_at site.s)

-- `pkt` where there is no packet
abbrev pub packet_used : ExprSite → List ℕ
packet_used site = elim site.e [ field at h f ↦ unless site.scope.packet at | _ ↦ [] ]
