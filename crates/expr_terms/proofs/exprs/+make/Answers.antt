use Rattle.std.proofs.Common.{◌≡◌, ℕ, ◌+◌, ◌<◌, ◌≤◌, List, [], ◌∷◌, ◌++◌, map, take, drop, Some, None, option_map, IfOk, rules, refl, sym, ap, subst, ◌∙◌, arith}
use Rattle.std.specs.Prelude.{slice_get}
use Rattle.std.proofs.lemmas.List.{drop_all}
use Rattle.cocoon_num.specs.Tree.{expr, no_exprs, binary, call, field, name, pick, slice, unary, FunctionDecl}
use Rattle.cocoon_syntax.specs.declared.expr.ExprKind as kinds
use Rattle.cocoon_syntax.specs.TreeOf.{binary_of, expr_of, exprs_of, function_of, name_of, param_of, unary_of}
use Rattle.cocoon_types.specs.Design.{functions}
use Rattle.bv_terms.specs.TermTrees as term
use Rattle.bv_terms.specs.TermTrees.{IsWidth}
use Rattle.obligation_laws.specs.TermOf.{args_of, bind_terms, call_in, field_term, variable_term}
use Rattle.role_values.proofs.Sizes.{all_nodes, body_nodes, nodes, one_of, option_nodes, weight, weight_with}
use Rattle.sound_types.proofs.Members.{at_place}
use Rattle.expr_terms.specs.Finds.{body_term, called}
use Rattle.expr_terms.specs.Scopes.{CanCall, CanMake, CanMakeAll, CanMakeBody, Takes, design_in, headers_in, term_in, terms_in}
use Rattle.expr_terms.specs.Sizes.{functions_before}
use Rattle.expr_terms.specs.Variables.{AreThere, Keeps, Makes, MakesAll, terms_at, variables_of}
use Rattle.expr_terms.proofs.Calls.{body_can, body_sees}
use Rattle.expr_terms.proofs.Found.{CallsAt, calls_at, none_called}
use Rattle.expr_terms.proofs.FunctionWidths.{args_are_narrow, result_is_wide}
use Rattle.expr_terms.proofs.Lists.{from}
use Rattle.expr_terms.proofs.Making.{BothMade, args_of_call, binary_made, binary_operands, both_made, call_made, can_all_on, can_call, can_on, ends, first_of_binary, found_takes, goes_on, head_of, keeps_on, keeps_self, makes_on, part_of_slice, part_of_unary, parts_of_pick, pick_made, pick_operands, second_is, second_of_binary, slice_made, slice_operand, there_more, there_on, unary_made}
use Rattle.expr_terms.proofs.exprs.+make.Goals as goal

-- ---- names

pub make-named-requires : goal.make-named-requires
make-named-requires t c =
    c.variable_named.ensures.there c.args.terms.now c.requires.typed.sees.variables

pub make-named-requires-in-Field : goal.make-named-requires-in-Field
make-named-requires-in-Field t c =
    c.field.ensures.there c.args.terms.now c.requires.typed.sees.fields_there

pub make-returns-in-Name-clause-made : goal.make-returns-in-Name-clause-made
make-returns-in-Name-clause-made t c =
    let s = c.args.scope.now in
    let n = c.args.terms.now in
    let vars = c.args.variables.now in
    let fields = c.args.fields.now in
    let at = c.args.expr.now.at in
    let is : expr_of c.args.expr.now ≡ name at c.in-Name.name = search (rules, kinds.the_lemmas, c.in-Name.is) in
    subst (λ z. IfOk c.named.result (λ id. Makes c.named.new.terms id z))
    (sym (c.variable_named.ensures.found n) ∙ ap (variable_term (variables_of n vars)) c.bytes.ensures ∙ ap (term_in s n vars fields) (sym is))
    c.named.ensures.made

pub make-returns-in-Field-clause-made : goal.make-returns-in-Field-clause-made
make-returns-in-Field-clause-made t c =
    let s = c.args.scope.now in
    let n = c.args.terms.now in
    let vars = c.args.variables.now in
    let fields = c.args.fields.now in
    let at = c.args.expr.now.at in
    let ts = terms_at n fields in
    let is : expr_of c.args.expr.now ≡ field at (name_of c.in-Field.header) (name_of c.in-Field.name) = search (rules, kinds.the_lemmas, c.in-Field.is) in
    subst (λ z. IfOk c.named-in-Field.result (λ id. Makes c.named-in-Field.new.terms id z))
    (sym (c.field.ensures.found n) ∙ (λ j. field_term (headers_in s) ts (c.bytes-header.ensures j) (c.bytes-name.ensures j)) ∙ ap (term_in s n vars fields) (sym is))
    c.named-in-Field.ensures.made

-- ---- calls in expressions

pub make-make_all-requires : goal.make-make_all-requires
make-make_all-requires t c =
    let s = c.args.scope.now in
    let n = c.args.terms.now in
    let vars = c.args.variables.now in
    let fields = c.args.fields.now in
    let at = c.args.expr.now.at in
    let es = exprs_of (map expr_of c.in-Call.args.items) in
    let f = name_of c.in-Call.function in
    let is : expr_of c.args.expr.now ≡ call at f es = search (rules, kinds.the_lemmas, c.in-Call.is) in
    let can : CanMake s n vars fields (call at f es) = subst (CanMake s n vars fields) is c.requires.typed in
    let size : nodes (expr_of c.args.expr.now) ≡ 1 + all_nodes (exprs_of (map expr_of c.deref.result.now)) = ap nodes is ∙ (λ j. 1 + all_nodes (exprs_of (map expr_of (sym c.deref.ensures.value j)))) in (
      search (rules, size),
      (c.requires.seen, subst (λ xs. CanMakeAll s n vars fields (exprs_of (map expr_of xs))) (sym c.deref.ensures.value) (args_of_call s n vars fields at f es can)),
    )

pub make-call-requires : goal.make-call-requires
make-call-requires t c =
    let s = c.args.scope.now in
    let n = c.args.terms.now in
    let vars = c.args.variables.now in
    let fields = c.args.fields.now in
    let at = c.args.expr.now.at in
    let es = exprs_of (map expr_of c.in-Call.args.items) in
    let f = name_of c.in-Call.function in
    let is : expr_of c.args.expr.now ≡ call at f es = search (rules, kinds.the_lemmas, c.in-Call.is) in
    let can : CanMake s n vars fields (call at f es) = subst (CanMake s n vars fields) is c.requires.typed in
    let a = c.make_all.new.terms in
    let ids = c.in_ok-args-in-Call.args.items in
    let made : MakesAll a ids (terms_in s n vars fields es) = subst (λ xs. MakesAll a ids (terms_in s n vars fields (exprs_of (map expr_of xs)))) c.deref.ensures.value c.in_ok-args-in-Call.ensures.made in
    let size : nodes (expr_of c.args.expr.now) ≡ 1 + all_nodes es = ap nodes is in (
      search (rules, size),
      (c.requires.seen, subst (λ (p : List ℕ × List ℕ). CanCall s a p.0 p.1) (λ j. (sym c.bytes-in-Call.ensures j, sym c.deref-in-Call.ensures.value j)) (can_call s n a vars fields at f es ids c.requires.seen can made)),
    )

pub make-returns-in_ok-args-in-Call-clause-made : goal.make-returns-in_ok-args-in-Call-clause-made
make-returns-in_ok-args-in-Call-clause-made t c =
    let s = c.args.scope.now in
    let n = c.args.terms.now in
    let vars = c.args.variables.now in
    let fields = c.args.fields.now in
    let at = c.args.expr.now.at in
    let es = exprs_of (map expr_of c.in-Call.args.items) in
    let f = name_of c.in-Call.function in
    let is : expr_of c.args.expr.now ≡ call at f es = search (rules, kinds.the_lemmas, c.in-Call.is) in
    let can : CanMake s n vars fields (call at f es) = subst (CanMake s n vars fields) is c.requires.typed in
    let a = c.make_all.new.terms in
    let ids = c.in_ok-args-in-Call.args.items in
    let made : MakesAll a ids (terms_in s n vars fields es) = subst (λ xs. MakesAll a ids (terms_in s n vars fields (exprs_of (map expr_of xs)))) c.deref.ensures.value c.in_ok-args-in-Call.ensures.made in
    subst (λ z. IfOk c.call.result (λ id. Makes c.call.new.terms id z))
    ((λ j. call_in (functions_before (design_in s) s.before) (c.bytes-in-Call.ensures j) (terms_at a (c.deref-in-Call.ensures.value j)))
    ∙ call_made s n a vars fields at f es ids made ∙ ap (term_in s n vars fields) (sym is))
    c.call.ensures.made

pub make-returns-in_ok-args-in-Call-clause-kept : goal.make-returns-in_ok-args-in-Call-clause-kept
make-returns-in_ok-args-in-Call-clause-kept t c =
    keeps_on c.args.terms.now c.make_all.new.terms c.call.new.terms c.make_all.ensures.kept c.call.ensures.kept

-- ---- operators

pub make-make-requires : goal.make-make-requires
make-make-requires t c =
    let s = c.args.scope.now in
    let n = c.args.terms.now in
    let vars = c.args.variables.now in
    let fields = c.args.fields.now in
    let at = c.args.expr.now.at in
    let x = expr_of c.deref-in-Unary.result.now in
    let op = unary_of c.in-Unary.field-0 in
    let is : expr_of c.args.expr.now ≡ unary at op x = search (rules, kinds.the_lemmas, c.in-Unary.is) in
    let small : nodes (x) < nodes (expr_of c.args.expr.now) = subst (λ e. nodes (x) < nodes e) (sym is) (omega arith) in
    (search (rules, small), (c.requires.seen, part_of_unary s n vars fields at op x (subst (CanMake s n vars fields) is c.requires.typed)))

pub make-not-requires : goal.make-not-requires
make-not-requires t c =
    c.in_ok-a-in-Unary.ensures.made.there

pub make-returns-in_ok-a-in-Unary-clause-made : goal.make-returns-in_ok-a-in-Unary-clause-made
make-returns-in_ok-a-in-Unary-clause-made t c =
    let s = c.args.scope.now in
    let n = c.args.terms.now in
    let vars = c.args.variables.now in
    let fields = c.args.fields.now in
    let at = c.args.expr.now.at in
    let x = expr_of c.deref-in-Unary.result.now in
    let op = unary_of c.in-Unary.field-0 in
    let is : expr_of c.args.expr.now ≡ unary at op x = search (rules, kinds.the_lemmas, c.in-Unary.is) in
    subst (λ z. IfOk c.not.result (λ id. Makes c.not.new.terms id z))
    (unary_made s n c.make.new.terms vars fields at op x c.in_ok-a-in-Unary.a c.in_ok-a-in-Unary.ensures.made ∙ ap (term_in s n vars fields) (sym is))
    c.not.ensures.made

pub make-returns-in_ok-a-in-Unary-clause-kept : goal.make-returns-in_ok-a-in-Unary-clause-kept
make-returns-in_ok-a-in-Unary-clause-kept t c =
    keeps_on c.args.terms.now c.make.new.terms c.not.new.terms c.make.ensures.kept c.not.ensures.kept

pub make-make-requires-in-Binary : goal.make-make-requires-in-Binary
make-make-requires-in-Binary t c =
    let s = c.args.scope.now in
    let n = c.args.terms.now in
    let vars = c.args.variables.now in
    let fields = c.args.fields.now in
    let at = c.args.expr.now.at in
    let x = expr_of c.deref-in-Binary.result.now in
    let y = expr_of c.in-Binary.b.value in
    let is : expr_of c.args.expr.now ≡ binary at (binary_of c.in-Binary.op) x y = search (rules, kinds.the_lemmas, c.in-Binary.is) in
    let small : nodes (x) < nodes (expr_of c.args.expr.now) = subst (λ e. nodes (x) < nodes e) (sym is) (omega arith) in
    (search (rules, small), (c.requires.seen, first_of_binary s n vars fields at (binary_of c.in-Binary.op) x y (subst (CanMake s n vars fields) is c.requires.typed)))

pub make-make-requires-in-Binary-2 : goal.make-make-requires-in-Binary-2
make-make-requires-in-Binary-2 t c =
    let s = c.args.scope.now in
    let n = c.args.terms.now in
    let vars = c.args.variables.now in
    let fields = c.args.fields.now in
    let at = c.args.expr.now.at in
    let op = binary_of c.in-Binary.op in
    let x = expr_of c.deref-in-Binary.result.now in
    let y = expr_of c.deref-in-Binary-2.result.now in
    let is : expr_of c.args.expr.now ≡ binary at op x y = search (rules, kinds.the_lemmas, c.in-Binary.is) in
    let can : CanMake s n vars fields (binary at op x y) = subst (CanMake s n vars fields) is c.requires.typed in
    let small : nodes (y) < nodes (expr_of c.args.expr.now) = subst (λ e. nodes (y) < nodes e) (sym is) (omega arith) in
    (search (rules, small), (c.requires.seen, can_on s n c.make-in-Binary.new.terms vars fields y c.make-in-Binary.ensures.kept (second_of_binary s n vars fields at op x y can)))

pub make-returns-in_err-b-in-Binary-clause-kept : goal.make-returns-in_err-b-in-Binary-clause-kept
make-returns-in_err-b-in-Binary-clause-kept t c =
    keeps_on c.args.terms.now c.make-in-Binary.new.terms c.make-in-Binary-2.new.terms c.make-in-Binary.ensures.kept c.make-in-Binary-2.ensures.kept

pub make-binary-requires-clause-operands : goal.make-binary-requires-clause-operands
make-binary-requires-clause-operands t c =
    let s = c.args.scope.now in
    let n = c.args.terms.now in
    let vars = c.args.variables.now in
    let fields = c.args.fields.now in
    let at = c.args.expr.now.at in
    let op = binary_of c.in-Binary.op in
    let x = expr_of c.deref-in-Binary.result.now in
    let y = expr_of c.deref-in-Binary-2.result.now in
    let is : expr_of c.args.expr.now ≡ binary at op x y = search (rules, kinds.the_lemmas, c.in-Binary.is) in
    let can : CanMake s n vars fields (binary at op x y) = subst (CanMake s n vars fields) is c.requires.typed in
    let m = c.make-in-Binary-2.new.terms in
    let i = c.in_ok-a-in-Binary.a in
    let j = c.in_ok-b-in-Binary.b in
    let both : BothMade s n m vars fields x y i j =
    both_made s n c.make-in-Binary.new.terms m vars fields x y i j c.requires.typed.sees c.make-in-Binary.ensures.kept c.make-in-Binary-2.ensures.kept c.in_ok-a-in-Binary.ensures.made c.in_ok-b-in-Binary.ensures.made in
    (both.first.there, both.second.there)

pub make-binary-requires-clause-widths : goal.make-binary-requires-clause-widths
make-binary-requires-clause-widths t c =
    let s = c.args.scope.now in
    let n = c.args.terms.now in
    let vars = c.args.variables.now in
    let fields = c.args.fields.now in
    let at = c.args.expr.now.at in
    let op = binary_of c.in-Binary.op in
    let x = expr_of c.deref-in-Binary.result.now in
    let y = expr_of c.deref-in-Binary-2.result.now in
    let is : expr_of c.args.expr.now ≡ binary at op x y = search (rules, kinds.the_lemmas, c.in-Binary.is) in
    let can : CanMake s n vars fields (binary at op x y) = subst (CanMake s n vars fields) is c.requires.typed in
    let m = c.make-in-Binary-2.new.terms in
    let i = c.in_ok-a-in-Binary.a in
    let j = c.in_ok-b-in-Binary.b in
    let both : BothMade s n m vars fields x y i j =
    both_made s n c.make-in-Binary.new.terms m vars fields x y i j c.requires.typed.sees c.make-in-Binary.ensures.kept c.make-in-Binary-2.ensures.kept c.in_ok-a-in-Binary.ensures.made c.in_ok-b-in-Binary.ensures.made in
    binary_operands s n m vars fields at op x y i j c.requires.seen can both.first both.second

pub make-returns-in_ok-b-in-Binary-clause-made : goal.make-returns-in_ok-b-in-Binary-clause-made
make-returns-in_ok-b-in-Binary-clause-made t c =
    let s = c.args.scope.now in
    let n = c.args.terms.now in
    let vars = c.args.variables.now in
    let fields = c.args.fields.now in
    let at = c.args.expr.now.at in
    let op = binary_of c.in-Binary.op in
    let x = expr_of c.deref-in-Binary.result.now in
    let y = expr_of c.deref-in-Binary-2.result.now in
    let is : expr_of c.args.expr.now ≡ binary at op x y = search (rules, kinds.the_lemmas, c.in-Binary.is) in
    let can : CanMake s n vars fields (binary at op x y) = subst (CanMake s n vars fields) is c.requires.typed in
    let m = c.make-in-Binary-2.new.terms in
    let i = c.in_ok-a-in-Binary.a in
    let j = c.in_ok-b-in-Binary.b in
    let both : BothMade s n m vars fields x y i j =
    both_made s n c.make-in-Binary.new.terms m vars fields x y i j c.requires.typed.sees c.make-in-Binary.ensures.kept c.make-in-Binary-2.ensures.kept c.in_ok-a-in-Binary.ensures.made c.in_ok-b-in-Binary.ensures.made in
    subst (λ z. IfOk c.binary.result (λ id. Makes c.binary.new.terms id z))
    (binary_made s n m vars fields at op x y i j both ∙ ap (term_in s n vars fields) (sym is))
    c.binary.ensures.made

pub make-returns-in_ok-b-in-Binary-clause-kept : goal.make-returns-in_ok-b-in-Binary-clause-kept
make-returns-in_ok-b-in-Binary-clause-kept t c =
    let n = c.args.terms.now in
    let a = c.make-in-Binary.new.terms in
    let b = c.make-in-Binary-2.new.terms in
    keeps_on n b c.binary.new.terms (keeps_on n a b c.make-in-Binary.ensures.kept c.make-in-Binary-2.ensures.kept) c.binary.ensures.kept

pub make-make-requires-in-Slice : goal.make-make-requires-in-Slice
make-make-requires-in-Slice t c =
    let s = c.args.scope.now in
    let n = c.args.terms.now in
    let vars = c.args.variables.now in
    let fields = c.args.fields.now in
    let at = c.args.expr.now.at in
    let x = expr_of c.deref-in-Slice.result.now in
    let high = c.in-Slice.high in
    let low = c.in-Slice.low in
    let is : expr_of c.args.expr.now ≡ slice at x high low = search (rules, kinds.the_lemmas, c.in-Slice.is) in
    let can : CanMake s n vars fields (slice at x high low) = subst (CanMake s n vars fields) is c.requires.typed in
    let small : nodes (x) < nodes (expr_of c.args.expr.now) = subst (λ e. nodes (x) < nodes e) (sym is) (omega arith) in
    (search (rules, small), (c.requires.seen, part_of_slice s n vars fields at x high low can))

pub make-slice-requires-clause-operand : goal.make-slice-requires-clause-operand
make-slice-requires-clause-operand t c =
    c.in_ok-a-in-Slice.ensures.made.there

pub make-slice-requires-clause-places : goal.make-slice-requires-clause-places
make-slice-requires-clause-places t c =
    let s = c.args.scope.now in
    let n = c.args.terms.now in
    let vars = c.args.variables.now in
    let fields = c.args.fields.now in
    let at = c.args.expr.now.at in
    let x = expr_of c.deref-in-Slice.result.now in
    let high = c.in-Slice.high in
    let low = c.in-Slice.low in
    let is : expr_of c.args.expr.now ≡ slice at x high low = search (rules, kinds.the_lemmas, c.in-Slice.is) in
    let can : CanMake s n vars fields (slice at x high low) = subst (CanMake s n vars fields) is c.requires.typed in
    slice_operand s n c.make-in-Slice.new.terms vars fields at x high low c.in_ok-a-in-Slice.a c.requires.seen can c.in_ok-a-in-Slice.ensures.made

pub make-returns-in_ok-a-in-Slice-clause-made : goal.make-returns-in_ok-a-in-Slice-clause-made
make-returns-in_ok-a-in-Slice-clause-made t c =
    let s = c.args.scope.now in
    let n = c.args.terms.now in
    let vars = c.args.variables.now in
    let fields = c.args.fields.now in
    let at = c.args.expr.now.at in
    let x = expr_of c.deref-in-Slice.result.now in
    let high = c.in-Slice.high in
    let low = c.in-Slice.low in
    let is : expr_of c.args.expr.now ≡ slice at x high low = search (rules, kinds.the_lemmas, c.in-Slice.is) in
    let can : CanMake s n vars fields (slice at x high low) = subst (CanMake s n vars fields) is c.requires.typed in
    subst (λ z. IfOk c.slice.result (λ id. Makes c.slice.new.terms id z))
    (slice_made s n c.make-in-Slice.new.terms vars fields at x high low c.in_ok-a-in-Slice.a c.in_ok-a-in-Slice.ensures.made ∙ ap (term_in s n vars fields) (sym is))
    c.slice.ensures.made

pub make-returns-in_ok-a-in-Slice-clause-kept : goal.make-returns-in_ok-a-in-Slice-clause-kept
make-returns-in_ok-a-in-Slice-clause-kept t c =
    keeps_on c.args.terms.now c.make-in-Slice.new.terms c.slice.new.terms c.make-in-Slice.ensures.kept c.slice.ensures.kept

pub make-make-requires-in-Pick : goal.make-make-requires-in-Pick
make-make-requires-in-Pick t c =
    let s = c.args.scope.now in
    let n = c.args.terms.now in
    let vars = c.args.variables.now in
    let fields = c.args.fields.now in
    let at = c.args.expr.now.at in
    let x = expr_of c.deref-in-Pick.result.now in
    let a = expr_of c.in-Pick.a.value in
    let b = expr_of c.in-Pick.b.value in
    let is : expr_of c.args.expr.now ≡ pick at x a b = search (rules, kinds.the_lemmas, c.in-Pick.is) in
    let cans = parts_of_pick s n vars fields at x a b (subst (CanMake s n vars fields) is c.requires.typed) in
    let small : nodes (x) < nodes (expr_of c.args.expr.now) = subst (λ e. nodes (x) < nodes e) (sym is) (omega arith) in
    (search (rules, small), (c.requires.seen, cans.0))

pub make-make-requires-in-Pick-2 : goal.make-make-requires-in-Pick-2
make-make-requires-in-Pick-2 t c =
    let s = c.args.scope.now in
    let n = c.args.terms.now in
    let vars = c.args.variables.now in
    let fields = c.args.fields.now in
    let at = c.args.expr.now.at in
    let x = expr_of c.deref-in-Pick.result.now in
    let a = expr_of c.deref-in-Pick-2.result.now in
    let b = expr_of c.in-Pick.b.value in
    let is : expr_of c.args.expr.now ≡ pick at x a b = search (rules, kinds.the_lemmas, c.in-Pick.is) in
    let cans = parts_of_pick s n vars fields at x a b (subst (CanMake s n vars fields) is c.requires.typed) in
    let small : nodes (a) < nodes (expr_of c.args.expr.now) = subst (λ e. nodes (a) < nodes e) (sym is) (omega arith) in
    (search (rules, small), (c.requires.seen, can_on s n c.make-in-Pick.new.terms vars fields a c.make-in-Pick.ensures.kept cans.1))

pub make-make-requires-in-Pick-3 : goal.make-make-requires-in-Pick-3
make-make-requires-in-Pick-3 t c =
    let s = c.args.scope.now in
    let n = c.args.terms.now in
    let vars = c.args.variables.now in
    let fields = c.args.fields.now in
    let at = c.args.expr.now.at in
    let x = expr_of c.deref-in-Pick.result.now in
    let a = expr_of c.deref-in-Pick-2.result.now in
    let b = expr_of c.deref-in-Pick-3.result.now in
    let is : expr_of c.args.expr.now ≡ pick at x a b = search (rules, kinds.the_lemmas, c.in-Pick.is) in
    let cans = parts_of_pick s n vars fields at x a b (subst (CanMake s n vars fields) is c.requires.typed) in
    let one = c.make-in-Pick.new.terms in
    let two = c.make-in-Pick-2.new.terms in
    let kept : Keeps n two = keeps_on n one two c.make-in-Pick.ensures.kept c.make-in-Pick-2.ensures.kept in
    let small : nodes (b) < nodes (expr_of c.args.expr.now) = subst (λ e. nodes (b) < nodes e) (sym is) (omega arith) in
    (search (rules, small), (c.requires.seen, can_on s n two vars fields b kept cans.2))

pub make-returns-in_err-a-in-Pick-clause-kept : goal.make-returns-in_err-a-in-Pick-clause-kept
make-returns-in_err-a-in-Pick-clause-kept t c =
    keeps_on c.args.terms.now c.make-in-Pick.new.terms c.make-in-Pick-2.new.terms c.make-in-Pick.ensures.kept c.make-in-Pick-2.ensures.kept

pub make-returns-in_err-b-in-Pick-clause-kept : goal.make-returns-in_err-b-in-Pick-clause-kept
make-returns-in_err-b-in-Pick-clause-kept t c =
    let n = c.args.terms.now in
    let one = c.make-in-Pick.new.terms in
    let two = c.make-in-Pick-2.new.terms in
    let kept : Keeps n two = keeps_on n one two c.make-in-Pick.ensures.kept c.make-in-Pick-2.ensures.kept in
    keeps_on n two c.make-in-Pick-3.new.terms kept c.make-in-Pick-3.ensures.kept

pub make-pick-requires-clause-operands : goal.make-pick-requires-clause-operands
make-pick-requires-clause-operands t c =
    let s = c.args.scope.now in
    let n = c.args.terms.now in
    let vars = c.args.variables.now in
    let fields = c.args.fields.now in
    let at = c.args.expr.now.at in
    let x = expr_of c.deref-in-Pick.result.now in
    let a = expr_of c.deref-in-Pick-2.result.now in
    let b = expr_of c.deref-in-Pick-3.result.now in
    let is : expr_of c.args.expr.now ≡ pick at x a b = search (rules, kinds.the_lemmas, c.in-Pick.is) in
    let cans = parts_of_pick s n vars fields at x a b (subst (CanMake s n vars fields) is c.requires.typed) in
    let one = c.make-in-Pick.new.terms in
    let two = c.make-in-Pick-2.new.terms in
    let kept : Keeps n two = keeps_on n one two c.make-in-Pick.ensures.kept c.make-in-Pick-2.ensures.kept in
    let m = c.make-in-Pick-3.new.terms in
    let k = c.in_ok-condition-in-Pick.condition in
    let i = c.in_ok-a-in-Pick.a in
    let j = c.in_ok-b-in-Pick.b in
    let chosen : Makes m k (term_in s n vars fields x) = makes_on one m k (term_in s n vars fields x) (keeps_on one two m c.make-in-Pick-2.ensures.kept c.make-in-Pick-3.ensures.kept) c.in_ok-condition-in-Pick.ensures.made in
    let first : Makes two i (term_in s n vars fields a) = second_is s n one vars fields a i c.make-in-Pick.ensures.kept c.requires.typed.sees two c.in_ok-a-in-Pick.ensures.made in
    let both : BothMade s n m vars fields a b i j = both_made s n two m vars fields a b i j c.requires.typed.sees kept c.make-in-Pick-3.ensures.kept first c.in_ok-b-in-Pick.ensures.made in
    (chosen.there, both.first.there, both.second.there)

pub make-pick-requires-clause-choice : goal.make-pick-requires-clause-choice
make-pick-requires-clause-choice t c =
    let s = c.args.scope.now in
    let n = c.args.terms.now in
    let vars = c.args.variables.now in
    let fields = c.args.fields.now in
    let at = c.args.expr.now.at in
    let x = expr_of c.deref-in-Pick.result.now in
    let a = expr_of c.deref-in-Pick-2.result.now in
    let b = expr_of c.deref-in-Pick-3.result.now in
    let is : expr_of c.args.expr.now ≡ pick at x a b = search (rules, kinds.the_lemmas, c.in-Pick.is) in
    let cans = parts_of_pick s n vars fields at x a b (subst (CanMake s n vars fields) is c.requires.typed) in
    let one = c.make-in-Pick.new.terms in
    let two = c.make-in-Pick-2.new.terms in
    let kept : Keeps n two = keeps_on n one two c.make-in-Pick.ensures.kept c.make-in-Pick-2.ensures.kept in
    let m = c.make-in-Pick-3.new.terms in
    let k = c.in_ok-condition-in-Pick.condition in
    let i = c.in_ok-a-in-Pick.a in
    let j = c.in_ok-b-in-Pick.b in
    let chosen : Makes m k (term_in s n vars fields x) = makes_on one m k (term_in s n vars fields x) (keeps_on one two m c.make-in-Pick-2.ensures.kept c.make-in-Pick-3.ensures.kept) c.in_ok-condition-in-Pick.ensures.made in
    let first : Makes two i (term_in s n vars fields a) = second_is s n one vars fields a i c.make-in-Pick.ensures.kept c.requires.typed.sees two c.in_ok-a-in-Pick.ensures.made in
    let both : BothMade s n m vars fields a b i j = both_made s n two m vars fields a b i j c.requires.typed.sees kept c.make-in-Pick-3.ensures.kept first c.in_ok-b-in-Pick.ensures.made in
    (pick_operands s n m vars fields at x a b k i j c.requires.seen (subst (CanMake s n vars fields) is c.requires.typed) chosen both.first both.second).0

pub make-pick-requires-clause-widths : goal.make-pick-requires-clause-widths
make-pick-requires-clause-widths t c =
    let s = c.args.scope.now in
    let n = c.args.terms.now in
    let vars = c.args.variables.now in
    let fields = c.args.fields.now in
    let at = c.args.expr.now.at in
    let x = expr_of c.deref-in-Pick.result.now in
    let a = expr_of c.deref-in-Pick-2.result.now in
    let b = expr_of c.deref-in-Pick-3.result.now in
    let is : expr_of c.args.expr.now ≡ pick at x a b = search (rules, kinds.the_lemmas, c.in-Pick.is) in
    let cans = parts_of_pick s n vars fields at x a b (subst (CanMake s n vars fields) is c.requires.typed) in
    let one = c.make-in-Pick.new.terms in
    let two = c.make-in-Pick-2.new.terms in
    let kept : Keeps n two = keeps_on n one two c.make-in-Pick.ensures.kept c.make-in-Pick-2.ensures.kept in
    let m = c.make-in-Pick-3.new.terms in
    let k = c.in_ok-condition-in-Pick.condition in
    let i = c.in_ok-a-in-Pick.a in
    let j = c.in_ok-b-in-Pick.b in
    let chosen : Makes m k (term_in s n vars fields x) = makes_on one m k (term_in s n vars fields x) (keeps_on one two m c.make-in-Pick-2.ensures.kept c.make-in-Pick-3.ensures.kept) c.in_ok-condition-in-Pick.ensures.made in
    let first : Makes two i (term_in s n vars fields a) = second_is s n one vars fields a i c.make-in-Pick.ensures.kept c.requires.typed.sees two c.in_ok-a-in-Pick.ensures.made in
    let both : BothMade s n m vars fields a b i j = both_made s n two m vars fields a b i j c.requires.typed.sees kept c.make-in-Pick-3.ensures.kept first c.in_ok-b-in-Pick.ensures.made in
    (pick_operands s n m vars fields at x a b k i j c.requires.seen (subst (CanMake s n vars fields) is c.requires.typed) chosen both.first both.second).1

pub make-returns-in_ok-b-in-Pick-clause-made : goal.make-returns-in_ok-b-in-Pick-clause-made
make-returns-in_ok-b-in-Pick-clause-made t c =
    let s = c.args.scope.now in
    let n = c.args.terms.now in
    let vars = c.args.variables.now in
    let fields = c.args.fields.now in
    let at = c.args.expr.now.at in
    let x = expr_of c.deref-in-Pick.result.now in
    let a = expr_of c.deref-in-Pick-2.result.now in
    let b = expr_of c.deref-in-Pick-3.result.now in
    let is : expr_of c.args.expr.now ≡ pick at x a b = search (rules, kinds.the_lemmas, c.in-Pick.is) in
    let cans = parts_of_pick s n vars fields at x a b (subst (CanMake s n vars fields) is c.requires.typed) in
    let one = c.make-in-Pick.new.terms in
    let two = c.make-in-Pick-2.new.terms in
    let kept : Keeps n two = keeps_on n one two c.make-in-Pick.ensures.kept c.make-in-Pick-2.ensures.kept in
    let m = c.make-in-Pick-3.new.terms in
    let k = c.in_ok-condition-in-Pick.condition in
    let i = c.in_ok-a-in-Pick.a in
    let j = c.in_ok-b-in-Pick.b in
    let chosen : Makes m k (term_in s n vars fields x) = makes_on one m k (term_in s n vars fields x) (keeps_on one two m c.make-in-Pick-2.ensures.kept c.make-in-Pick-3.ensures.kept) c.in_ok-condition-in-Pick.ensures.made in
    let first : Makes two i (term_in s n vars fields a) = second_is s n one vars fields a i c.make-in-Pick.ensures.kept c.requires.typed.sees two c.in_ok-a-in-Pick.ensures.made in
    let both : BothMade s n m vars fields a b i j = both_made s n two m vars fields a b i j c.requires.typed.sees kept c.make-in-Pick-3.ensures.kept first c.in_ok-b-in-Pick.ensures.made in
    subst (λ z. IfOk c.pick.result (λ id. Makes c.pick.new.terms id z))
    (pick_made s n m vars fields at x a b k i j chosen both ∙ ap (term_in s n vars fields) (sym is))
    c.pick.ensures.made

pub make-returns-in_ok-b-in-Pick-clause-kept : goal.make-returns-in_ok-b-in-Pick-clause-kept
make-returns-in_ok-b-in-Pick-clause-kept t c =
    let n = c.args.terms.now in
    let one = c.make-in-Pick.new.terms in
    let two = c.make-in-Pick-2.new.terms in
    let kept : Keeps n two = keeps_on n one two c.make-in-Pick.ensures.kept c.make-in-Pick-2.ensures.kept in
    let m = c.make-in-Pick-3.new.terms in
    keeps_on n m c.pick.new.terms (keeps_on n two m kept c.make-in-Pick-3.ensures.kept) c.pick.ensures.kept

-- ---- some expressions

pub make_all-loop-expr-init : goal.make_all-loop-expr-init
make_all-loop-expr-init t c =
    let s = c.args.scope.now in
    let n = c.args.terms.now in
    let none = c.new-made.ensures.items in
    record {
      kept = keeps_self n;
      there = subst (AreThere n) (sym none) (λ k d l. absurd (omega (arith, l)));
      can = c.requires.typed;
      terms = ap (λ ids. terms_at n ids ++ terms_in s n c.args.variables.now c.args.fields.now (exprs_of (map expr_of c.args.exprs.now))) none;
    }

pub make_all-make-requires : goal.make_all-make-requires
make_all-make-requires t c =
    let s = c.args.scope.now in
    let n = c.args.terms.now in
    let m = c.loop-expr.terms in
    let vars = c.args.variables.now in
    let fields = c.args.fields.now in
    let xs = c.args.exprs.now in
    let x = c.expr-item.result in
    let i = c.loop-expr.expr-index in
    let rest = exprs_of (map expr_of (drop (i + 1) xs)) in
    let next : exprs_of (map expr_of (drop i xs)) ≡ expr (expr_of x) rest = ap (λ ys. exprs_of (map expr_of ys)) (from xs i x c.loop-expr-test.true c.expr-item.is) in
    let parts = head_of s m vars fields (expr_of x) rest (subst (CanMakeAll s m vars fields) next c.loop-expr.invariant.can) in
    let small : nodes (expr_of x) ≤ all_nodes (exprs_of (map expr_of xs)) = one_of expr_of xs i x c.loop-expr-test.true c.expr-item.is in
    (search (rules, small), (c.requires.seen, parts.0))

pub make_all-returns-in_err-make-clause-kept : goal.make_all-returns-in_err-make-clause-kept
make_all-returns-in_err-make-clause-kept t c =
    keeps_on c.args.terms.now c.loop-expr.terms c.make.new.terms c.loop-expr.invariant.kept c.make.ensures.kept

pub make_all-returns-in_err-push-clause-kept : goal.make_all-returns-in_err-push-clause-kept
make_all-returns-in_err-push-clause-kept t c =
    keeps_on c.args.terms.now c.loop-expr.terms c.make.new.terms c.loop-expr.invariant.kept c.make.ensures.kept

pub make_all-loop-expr-preserved : goal.make_all-loop-expr-preserved
make_all-loop-expr-preserved t c =
    let s = c.args.scope.now in
    let n = c.args.terms.now in
    let m = c.loop-expr.terms in
    let vars = c.args.variables.now in
    let fields = c.args.fields.now in
    let xs = c.args.exprs.now in
    let x = c.expr-item.result in
    let i = c.loop-expr.expr-index in
    let rest = exprs_of (map expr_of (drop (i + 1) xs)) in
    let next : exprs_of (map expr_of (drop i xs)) ≡ expr (expr_of x) rest = ap (λ ys. exprs_of (map expr_of ys)) (from xs i x c.loop-expr-test.true c.expr-item.is) in
    let parts = head_of s m vars fields (expr_of x) rest (subst (CanMakeAll s m vars fields) next c.loop-expr.invariant.can) in
    let k = c.make.new.terms in
    let ids = c.loop-expr.made.items in
    let id = c.in_ok-make.field-0 in
    let more : c.push.new.self.items ≡ ids ++ id ∷ [] = c.in_ok-push.ensures.items in
    record {
      kept = keeps_on n m k c.loop-expr.invariant.kept c.make.ensures.kept;
      there = subst (AreThere k) (sym more) (there_more k ids id (there_on m k ids c.make.ensures.kept c.loop-expr.invariant.there) c.in_ok-make.ensures.made.there);
      can = can_all_on s m k vars fields rest c.make.ensures.kept parts.1;
      terms = ap (λ ys. terms_at k ys ++ terms_in s k vars fields rest) more
          ∙ goes_on s n m k vars fields ids id (expr_of x) (exprs_of (map expr_of xs)) (exprs_of (map expr_of (drop i xs))) rest next c.make.ensures.kept c.loop-expr.invariant.there c.loop-expr.invariant.can.sees
          c.in_ok-make.ensures.made c.loop-expr.invariant.terms;
    }

pub make_all-returns-clause-made : goal.make_all-returns-clause-made
make_all-returns-clause-made t c =
    let s = c.args.scope.now in
    let xs = c.args.exprs.now in
    let i = c.loop-expr.expr-index in
    let none : exprs_of (map expr_of (drop i xs)) ≡ no_exprs = ap (λ ys. exprs_of (map expr_of ys)) (drop_all i xs c.loop-expr-test.false) in
    record {
      there = c.loop-expr.invariant.there;
      terms = ends s c.args.terms.now c.loop-expr.terms c.args.variables.now c.args.fields.now c.loop-expr.made.items (exprs_of (map expr_of xs)) (exprs_of (map expr_of (drop i xs))) none c.loop-expr.invariant.terms;
    }

-- ---- functions

pub call-find-requires : goal.call-find-requires
call-find-requires t c =
    c.requires.seen.before

pub call-call_function-requires : goal.call-call_function-requires
call-call_function-requires t c =
    let s = c.args.scope.now in
    let n = c.args.terms.now in
    let d = design_in s in
    let f : CallsAt d s.before c.args.name.now c.in-Some.number = calls_at d s.before c.args.name.now c.in-Some.number c.requires.seen.before (sym c.in-Some.ensures) in (
      search rules,
      (c.requires.seen, (f.within, found_takes s n c.args.name.now c.args.args.now c.requires.seen c.requires.can c.in-Some.number f.function f.is f.name)),
    )

pub call-returns-in-Some-clause-made : goal.call-returns-in-Some-clause-made
call-returns-in-Some-clause-made t c =
    let s = c.args.scope.now in
    let n = c.args.terms.now in
    let d = design_in s in
    let f : CallsAt d s.before c.args.name.now c.in-Some.number = calls_at d s.before c.args.name.now c.in-Some.number c.requires.seen.before (sym c.in-Some.ensures) in
    subst (λ z. IfOk c.call_function.result (λ id. Makes c.call_function.new.terms id z)) (sym (f.call (terms_at n c.args.args.now))) (c.call_function.ensures.made f.function f.is)

pub call-returns-in-None-clause-made : goal.call-returns-in-None-clause-made
call-returns-in-None-clause-made t c =
    let s = c.args.scope.now in
    let n = c.args.terms.now in
    subst (λ z. IfOk c.named.result (λ id. Makes c.named.new.terms id z))
    (sym ((none_called (functions_before (design_in s) s.before) c.args.name.now (sym c.in-None.ensures)).0 (terms_at n c.args.args.now)))
    c.named.ensures.made

pub call_function-make_body-requires : goal.call_function-make_body-requires
call_function-make_body-requires t c =
    let s = c.args.scope.now in
    let n = c.args.terms.now in
    let d = design_in s in
    let fs = functions d in
    let r = function_of c.function-function.result.now in
    let at : slice_get fs c.args.number ≡ Some r = c.function-function.ensures in
    let takes : Takes n r.params c.args.args.now = c.requires.takes r at in
    let e = expr_of c.in-Some.body in
    let is : r.body ≡ Some e = ap (option_map expr_of) c.in-Some.is in
    let bound : variables_of n c.in_ok-bound-in-Some.bound.items ≡ bind_terms r.params (terms_at n c.args.args.now) =
    c.in_ok-bound-in-Some.ensures.bound n ∙ ap (λ ps. bind_terms (map param_of ps) (terms_at n c.args.args.now)) c.deref.ensures.value in
    let more : weight (take c.args.number fs) + body_nodes r ≤ weight (take s.before fs) = weight_with fs c.args.number s.before r at c.requires.within in
    let size : body_nodes r ≡ nodes e = ap option_nodes is in
    let small : weight (take c.args.number fs) + nodes e ≤ weight (take s.before fs) = omega (arith, more, size) in (
      search (rules, small),
      (c.requires.seen, (c.requires.within, subst (λ vs. CanMakeBody s n c.args.number vs e) (sym c.deref-in-Some.ensures.value) (body_can s n c.args.number c.in_ok-bound-in-Some.bound.items c.args.args.now r e c.requires.seen at is takes bound (c.in_ok-bound-in-Some.ensures.there n takes.there)))),
    )

pub call_function-result_bits-requires : goal.call_function-result_bits-requires
call_function-result_bits-requires t c =
    let s = c.args.scope.now in
    let n = c.args.terms.now in
    let d = design_in s in
    let fs = functions d in
    let r = function_of c.function-function.result.now in
    let at : slice_get fs c.args.number ≡ Some r = c.function-function.ensures in
    let takes : Takes n r.params c.args.args.now = c.requires.takes r at in
    result_is_wide d c.requires.seen.rules r (at_place fs c.args.number r at)

pub call_function-apply-requires-clause-there : goal.call_function-apply-requires-clause-there
call_function-apply-requires-clause-there t c =
    let s = c.args.scope.now in
    let n = c.args.terms.now in
    let d = design_in s in
    let fs = functions d in
    let r = function_of c.function-function.result.now in
    let at : slice_get fs c.args.number ≡ Some r = c.function-function.ensures in
    let takes : Takes n r.params c.args.args.now = c.requires.takes r at in
    takes.there

pub call_function-apply-requires-clause-narrow : goal.call_function-apply-requires-clause-narrow
call_function-apply-requires-clause-narrow t c =
    let s = c.args.scope.now in
    let n = c.args.terms.now in
    let d = design_in s in
    let fs = functions d in
    let r = function_of c.function-function.result.now in
    let at : slice_get fs c.args.number ≡ Some r = c.function-function.ensures in
    let takes : Takes n r.params c.args.args.now = c.requires.takes r at in
    args_are_narrow d c.requires.seen.rules r (at_place fs c.args.number r at) n c.args.args.now takes.widths

pub call_function-apply-requires-clause-width : goal.call_function-apply-requires-clause-width
call_function-apply-requires-clause-width t c =
    let s = c.args.scope.now in
    let n = c.args.terms.now in
    let d = design_in s in
    let fs = functions d in
    let r = function_of c.function-function.result.now in
    let at : slice_get fs c.args.number ≡ Some r = c.function-function.ensures in
    let takes : Takes n r.params c.args.args.now = c.requires.takes r at in
    subst IsWidth (sym c.result_bits.ensures) (result_is_wide d c.requires.seen.rules r (at_place fs c.args.number r at))

pub call_function-returns-in_ok-bound-in-Some-clause-made : goal.call_function-returns-in_ok-bound-in-Some-clause-made
call_function-returns-in_ok-bound-in-Some-clause-made t c =
    λ g h.
    let s = c.args.scope.now in
    let n = c.args.terms.now in
    let d = design_in s in
    let fs = functions d in
    let r = function_of c.function-function.result.now in
    let at : slice_get fs c.args.number ≡ Some r = c.function-function.ensures in
    let takes : Takes n r.params c.args.args.now = c.requires.takes r at in
    let e = expr_of c.in-Some.body in
    let is : r.body ≡ Some e = ap (option_map expr_of) c.in-Some.is in
    let bound : variables_of n c.in_ok-bound-in-Some.bound.items ≡ bind_terms r.params (terms_at n c.args.args.now) =
    c.in_ok-bound-in-Some.ensures.bound n ∙ ap (λ ps. bind_terms (map param_of ps) (terms_at n c.args.args.now)) c.deref.ensures.value in
    let same : r ≡ g = cc in
    let ts = terms_at n c.args.args.now in
    subst (λ z. IfOk c.make_body.result (λ id. Makes c.make_body.new.terms id z))
    (ap (λ vs. body_term d c.args.number vs e) (ap (variables_of n) c.deref-in-Some.ensures.value ∙ bound)
    ∙ ap (called d c.args.number r ts) (sym is) ∙ ap (λ (x : FunctionDecl). called d c.args.number x ts x.body) same)
    c.make_body.ensures.made

pub call_function-returns-in-None-clause-made : goal.call_function-returns-in-None-clause-made
call_function-returns-in-None-clause-made t c =
    λ g h.
    let s = c.args.scope.now in
    let n = c.args.terms.now in
    let d = design_in s in
    let fs = functions d in
    let r = function_of c.function-function.result.now in
    let at : slice_get fs c.args.number ≡ Some r = c.function-function.ensures in
    let takes : Takes n r.params c.args.args.now = c.requires.takes r at in
    let none : r.body ≡ None = ap (option_map expr_of) c.in-None.is in
    let same : r ≡ g = cc in
    let ts = terms_at n c.args.args.now in
    subst (λ z. IfOk c.apply.result (λ id. Makes c.apply.new.terms id z))
    (ap (term.apply c.args.number (args_of ts)) c.result_bits.ensures
    ∙ ap (called d c.args.number r ts) (sym none) ∙ ap (λ (x : FunctionDecl). called d c.args.number x ts x.body) same)
    c.apply.ensures.made

pub make_body-make-requires : goal.make_body-make-requires
make_body-make-requires t c =
    let s = c.args.scope.now in
    let few = c.requires.seen.before in
    let within = c.requires.within in (
      search rules,
      (record { rules = c.requires.seen.rules; literals = c.requires.seen.literals; before = omega (arith, few, within) }, body_sees s _ c.args.terms.now c.args.number c.args.bound.now (expr_of c.args.body.now) c.requires.typed refl refl),
    )
