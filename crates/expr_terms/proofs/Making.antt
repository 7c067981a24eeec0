-- What is kept of terms that were made, and when a part of an expression can be made.
use Rattle.std.proofs.Common.{◌≡◌, ℕ, zero, suc, ◌+◌, ◌<◌, ◌≤◌, List, [], ◌∷◌, ◌++◌, map, take, drop, length, reverse, All, get_or, Some, refl, sym, ap, subst, ◌∙◌, arith}
use Rattle.std.specs.Prelude.{slice_get}
use Rattle.std.specs.List.{AllZip}
use Rattle.std.proofs.lemmas.List.{append_assoc, append-nil, length-append, map-append, reverse-append, take-append-drop}
use Rattle.std.proofs.lemmas.List.Elements.{All-append}
use Rattle.cocoon_num.specs.Sorts.{bits_sort, truth_sort}
use Rattle.cocoon_num.specs.Tree.{Expr, binary, call, pick, slice, unary, Exprs, no_exprs, expr, FunctionDecl, Name}
use Rattle.cocoon_num.specs.Values.{BinaryOp, UnaryOp}
use Rattle.cocoon_types.specs.Design.{functions, widths_of}
use Rattle.bv_terms.specs.declared.node.Node.{Node}
use Rattle.bv_terms.specs.Arenas.{term_at, width_at}
use Rattle.bv_terms.specs.TermTrees as term
use Rattle.bv_terms.specs.TermTrees.{Term, width}
use Rattle.sound_types.proofs.Declared.{names_differ}
use Rattle.sound_types.proofs.Members.{In, at_place, in_left}
use Rattle.obligation_laws.specs.Shown.{FitsScope, HasWidth, WidthsFit, sort_width}
use Rattle.obligation_laws.specs.TermOf.{TermEnv, binary_term, call_in, term_of, terms_of}
use Rattle.obligation_laws.specs.TypedExprs.{TypedAll}
use Rattle.obligation_laws.proofs.InFunctions.{HoldsOf}
use Rattle.obligation_laws.proofs.OperatorTerms.{operands_fit, slice_fits}
use Rattle.obligation_laws.proofs.ExprWidths.{IsWide, SeesWidths, first_calls_wide, term_width, term_widths}
use Rattle.expr_terms.specs.Scopes.{CanCall, CanMake, CanMakeAll, IsSeen, Sees, Takes, context_in, design_in, term_in, terms_in}
use Rattle.expr_terms.specs.Sizes.{functions_before}
use Rattle.expr_terms.specs.Variables.{AreThere, Keeps, Makes, MakesAll, VariablesThere, terms_at, variable_of, variables_of}
use Rattle.expr_terms.specs.declared.functions.Scope.{Scope}
use Rattle.expr_terms.specs.declared.variables.Variable.{Variable}

-- ---- arenas that grow

pub keeps_self : (n : List Node) → Keeps n n
keeps_self n = record { kept = record { grown = ([], sym (append-nil n)); terms = λ k l. refl }; inputs = refl }

pub longer : (n m : List Node) → Keeps n m → (k : ℕ) → k < length n → k < length m
longer n m h k l =
    let more = h.kept.grown.0 in
    let size : length m ≡ length n + length more = ap length h.kept.grown.1 ∙ length-append n more in
    omega (arith, size, l)

pub keeps_on : (a b c : List Node) → Keeps a b → Keeps b c → Keeps a c
keeps_on a b c h k = record {
  kept = record {
    grown = (h.kept.grown.0 ++ k.kept.grown.0, k.kept.grown.1 ∙ ap (λ n. n ++ k.kept.grown.0) h.kept.grown.1 ∙ append_assoc a h.kept.grown.0 k.kept.grown.0);
    terms = λ i l. k.kept.terms i (longer a b h i l) ∙ h.kept.terms i l;
  };
  inputs = k.inputs ∙ h.inputs;
}

pub makes_on : (a b : List Node) (id : ℕ) (t : Term) → Keeps a b → Makes a id t → Makes b id t
makes_on a b id t h m = record { there = longer a b h id m.there; term = h.kept.terms id m.there ∙ m.term }

pub there_on : (a b : List Node) (ids : List ℕ) → Keeps a b → AreThere a ids → AreThere b ids
there_on a b ids h all = λ k d l. longer a b h (get_or ids k d) (all k d l)

variables_on : (a b : List Node) (vs : List Variable) → Keeps a b → VariablesThere a vs → VariablesThere b vs
variables_on a b vs h all = λ k d l. longer a b h (get_or vs k d).term (all k d l)

same_map : {A B : Type 0} (f g : A → B) (P : A → Type 0) → ((x : A) → P x → f x ≡ g x) → (xs : List A) → All P xs → map f xs ≡ map g xs
same_map f g P h [] all = refl
same_map f g P h (x ∷ xs) all = λ j. h x (all 0 x (omega arith)) j ∷ same_map f g P h xs (λ k d l. all (suc k) d (omega (arith, l))) j

pub terms_on : (a b : List Node) (ids : List ℕ) → Keeps a b → AreThere a ids → terms_at b ids ≡ terms_at a ids
terms_on a b ids h all = same_map (term_at b) (term_at a) (λ k. k < length a) (λ k l. h.kept.terms k l) ids all

all_one : {A : Type 0} (P : A → Type 0) (x : A) → P x → All P (x ∷ [])
all_one P x p zero d l = p
all_one P x p (suc k) d l = absurd (omega (arith, l))

all_reverse : {A : Type 0} (P : A → Type 0) (xs : List A) → All P xs → All P (reverse xs)
all_reverse P [] all = all
all_reverse P (x ∷ xs) all =
    subst (All P) (sym (reverse-append (x ∷ []) xs))
    (All-append P (reverse xs) (x ∷ []) (all_reverse P xs (λ k d l. all (suc k) d (omega (arith, l)))) (all_one P x (all 0 x (omega arith))))

pub variables_kept : (a b : List Node) (vs : List Variable) → Keeps a b → VariablesThere a vs → variables_of b vs ≡ variables_of a vs
variables_kept a b vs h all =
    same_map (variable_of b) (variable_of a) (λ (v : Variable). v.term < length a) (λ v l. ap (λ t. (v.name.now, t)) (h.kept.terms v.term l)) (reverse vs)
    (all_reverse (λ (v : Variable). v.term < length a) vs all)

pub sees_on : (s : Scope) (a b : List Node) (vars : List Variable) (fields : List ℕ) → Keeps a b → Sees s a vars fields → Sees s b vars fields
sees_on s a b vars fields h sees = record {
  scope = sees.scope;
  design = sees.design;
  functions = sees.functions;
  headers = sees.headers;
  fits = subst (λ (p : TermEnv × List Term). FitsScope sees.scope p.0 p.1) (λ j. (sym (variables_kept a b vars h sees.variables) j, sym (terms_on a b fields h sees.fields_there) j)) sees.fits;
  variables = variables_on a b vars h sees.variables;
  fields_there = there_on a b fields h sees.fields_there;
}

pub term_on : (s : Scope) (a b : List Node) (vars : List Variable) (fields : List ℕ) (e : Expr) → Keeps a b → Sees s a vars fields → term_in s b vars fields e ≡ term_in s a vars fields e
term_on s a b vars fields e h sees = λ j. term_of (context_in s) (variables_kept a b vars h sees.variables j) (terms_on a b fields h sees.fields_there j) e

pub all_on : (s : Scope) (a b : List Node) (vars : List Variable) (fields : List ℕ) (es : Exprs) → Keeps a b → Sees s a vars fields → terms_in s b vars fields es ≡ terms_in s a vars fields es
all_on s a b vars fields es h sees = λ j. terms_of (context_in s) (variables_kept a b vars h sees.variables j) (terms_on a b fields h sees.fields_there j) es

pub can_on : (s : Scope) (a b : List Node) (vars : List Variable) (fields : List ℕ) (e : Expr) → Keeps a b → CanMake s a vars fields e → CanMake s b vars fields e
unfolding sees_on
can_on s a b vars fields e h can = record { sees = sees_on s a b vars fields h can.sees; sort = can.sort; typed = can.typed }

pub can_all_on : (s : Scope) (a b : List Node) (vars : List Variable) (fields : List ℕ) (es : Exprs) → Keeps a b → CanMakeAll s a vars fields es → CanMakeAll s b vars fields es
unfolding sees_on
can_all_on s a b vars fields es h can = record { sees = sees_on s a b vars fields h can.sees; widths = can.widths; typed = can.typed }

-- ---- widths

sees_widths : (s : Scope) (n : List Node) (vars : List Variable) (fields : List ℕ) → IsSeen s → (sees : Sees s n vars fields) → SeesWidths sees.scope (context_in s) (variables_of n vars) (terms_at n fields)
sees_widths s n vars fields seen sees = record {
  scope = sees.fits;
  headers = sees.headers;
  calls = subst (λ fs. HoldsOf IsWide fs (context_in s).call) (sym sees.functions) (first_calls_wide (design_in s) seen.rules seen.literals s.before);
}

pub made_width : (s : Scope) (n : List Node) (vars : List Variable) (fields : List ℕ) (e : Expr) → IsSeen s → (can : CanMake s n vars fields e) → HasWidth (sort_width can.sort) (term_in s n vars fields e)
made_width s n vars fields e seen can = term_width can.sees.scope (context_in s) (variables_of n vars) (terms_at n fields) (sees_widths s n vars fields seen can.sees) e can.sort can.typed

pub made_widths : (s : Scope) (n : List Node) (vars : List Variable) (fields : List ℕ) (es : Exprs) → IsSeen s → (can : CanMakeAll s n vars fields es) → AllZip HasWidth can.widths (terms_in s n vars fields es)
made_widths s n vars fields es seen can = term_widths can.sees.scope (context_in s) (variables_of n vars) (terms_at n fields) (sees_widths s n vars fields seen can.sees) es can.widths can.typed

-- ---- parts of expressions

pub part_of_unary : (s : Scope) (n : List Node) (vars : List Variable) (fields : List ℕ) (at : ℕ) (op : UnaryOp) (a : Expr) → CanMake s n vars fields (unary at op a) → CanMake s n vars fields a
part_of_unary s n vars fields at op a can = record { sees = can.sees; sort = can.typed.0; typed = can.typed.1 }

pub first_of_binary : (s : Scope) (n : List Node) (vars : List Variable) (fields : List ℕ) (at : ℕ) (op : BinaryOp) (a b : Expr) → CanMake s n vars fields (binary at op a b) → CanMake s n vars fields a
first_of_binary s n vars fields at op a b can = record { sees = can.sees; sort = can.typed.0; typed = can.typed.2 }

pub second_of_binary : (s : Scope) (n : List Node) (vars : List Variable) (fields : List ℕ) (at : ℕ) (op : BinaryOp) (a b : Expr) → CanMake s n vars fields (binary at op a b) → CanMake s n vars fields b
second_of_binary s n vars fields at op a b can = record { sees = can.sees; sort = can.typed.1; typed = can.typed.3 }

pub binary_widths : (s : Scope) (n : List Node) (vars : List Variable) (fields : List ℕ) (at : ℕ) (op : BinaryOp) (a b : Expr) → IsSeen s → CanMake s n vars fields (binary at op a b)
    → WidthsFit op (width (term_in s n vars fields a)) (width (term_in s n vars fields b))
unfolding first_of_binary second_of_binary
binary_widths s n vars fields at op a b seen can =
    operands_fit op can.typed.0 can.typed.1 can.sort (width (term_in s n vars fields a)) (width (term_in s n vars fields b)) can.typed.4
    (made_width s n vars fields a seen (first_of_binary s n vars fields at op a b can)) (made_width s n vars fields b seen (second_of_binary s n vars fields at op a b can))

pub part_of_slice : (s : Scope) (n : List Node) (vars : List Variable) (fields : List ℕ) (at : ℕ) (a : Expr) (high low : ℕ) → CanMake s n vars fields (slice at a high low) → CanMake s n vars fields a
part_of_slice s n vars fields at a high low can = record { sees = can.sees; sort = can.typed.0; typed = can.typed.1 }

pub slice_places : (s : Scope) (n : List Node) (vars : List Variable) (fields : List ℕ) (at : ℕ) (a : Expr) (high low : ℕ) → IsSeen s → CanMake s n vars fields (slice at a high low)
    → (low ≤ high) × (high < width (term_in s n vars fields a))
unfolding part_of_slice
slice_places s n vars fields at a high low seen can =
    slice_fits can.typed.0 can.sort high low (width (term_in s n vars fields a)) can.typed.2 (made_width s n vars fields a seen (part_of_slice s n vars fields at a high low can))

pub parts_of_pick : (s : Scope) (n : List Node) (vars : List Variable) (fields : List ℕ) (at : ℕ) (x a b : Expr) → CanMake s n vars fields (pick at x a b)
    → CanMake s n vars fields x × CanMake s n vars fields a × CanMake s n vars fields b
parts_of_pick s n vars fields at x a b can = (
  record { sees = can.sees; sort = truth_sort; typed = can.typed.0 },
  record { sees = can.sees; sort = can.sort; typed = can.typed.1 },
  record { sees = can.sees; sort = can.sort; typed = can.typed.2 },
)

pub pick_widths : (s : Scope) (n : List Node) (vars : List Variable) (fields : List ℕ) (at : ℕ) (x a b : Expr) → IsSeen s → CanMake s n vars fields (pick at x a b)
    → (width (term_in s n vars fields x) ≡ 1) × (width (term_in s n vars fields a) ≡ width (term_in s n vars fields b))
pick_widths s n vars fields at x a b seen can =
    let xc : CanMake s n vars fields x = record { sees = can.sees; sort = truth_sort; typed = can.typed.0 } in
    let ac : CanMake s n vars fields a = record { sees = can.sees; sort = can.sort; typed = can.typed.1 } in
    let bc : CanMake s n vars fields b = record { sees = can.sees; sort = can.sort; typed = can.typed.2 } in
    (made_width s n vars fields x seen xc, made_width s n vars fields a seen ac ∙ sym (made_width s n vars fields b seen bc))

pub args_of_call : (s : Scope) (n : List Node) (vars : List Variable) (fields : List ℕ) (at : ℕ) (f : Name) (es : Exprs) → CanMake s n vars fields (call at f es) → CanMakeAll s n vars fields es
args_of_call s n vars fields at f es can = record { sees = can.sees; widths = widths_of can.typed.0.params; typed = can.typed.2 }

pub can_call : (s : Scope) (n m : List Node) (vars : List Variable) (fields : List ℕ) (at : ℕ) (f : Name) (es : Exprs) (ids : List ℕ) → IsSeen s → CanMake s n vars fields (call at f es) → MakesAll m ids (terms_in s n vars fields es)
    → CanCall s m f.text ids
unfolding args_of_call
can_call s n m vars fields at f es ids seen can made = record {
  function = can.typed.0;
  number = can.typed.1.number;
  is = ap (λ fs. slice_get fs can.typed.1.number) (sym can.sees.functions) ∙ can.typed.1.there;
  name = can.typed.1.name;
  takes = record {
    there = made.there;
    widths = subst (AllZip HasWidth (widths_of can.typed.0.params)) (sym made.terms) (made_widths s n vars fields es seen (args_of_call s n vars fields at f es can));
  };
}

pub head_of : (s : Scope) (n : List Node) (vars : List Variable) (fields : List ℕ) (e : Expr) (es : Exprs) → CanMakeAll s n vars fields (expr e es) → CanMake s n vars fields e × CanMakeAll s n vars fields es
head_of s n vars fields e es can = by can.widths can.typed
  where
    by : (ws : List ℕ) → TypedAll can.sees.scope ws (expr e es) → CanMake s n vars fields e × CanMakeAll s n vars fields es
    by [] h = absurd h
    by (w ∷ ws) h = (record { sees = can.sees; sort = bits_sort w; typed = h.0 }, record { sees = can.sees; widths = ws; typed = h.1 })

-- the function that is found is the one that takes these terms
pub found_takes : (s : Scope) (n : List Node) (f : List ℕ) (ids : List ℕ) → IsSeen s → CanCall s n f ids → (k : ℕ) (x : FunctionDecl) → slice_get (functions (design_in s)) k ≡ Some x → f ≡ x.name.text
    → (g : FunctionDecl) → slice_get (functions (design_in s)) k ≡ Some g → Takes n g.params ids
found_takes s n f ids seen can k x is name g at =
    let d = design_in s in
    let fs = functions d in
    let own : In can.function fs = subst (In can.function) (take-append-drop s.before fs) (in_left can.function (take s.before fs) (drop s.before fs) (at_place (take s.before fs) can.number can.function can.is)) in
    let same : can.function ≡ x = names_differ d seen.rules can.function x own (at_place fs k x is) (sym can.name ∙ name) in
    let there : x ≡ g = cc in
    subst (λ (y : FunctionDecl). Takes n y.params ids) (same ∙ there) can.takes

-- ---- terms of parts together

pub second_is : (s : Scope) (a b : List Node) (vars : List Variable) (fields : List ℕ) (e : Expr) (id : ℕ) → Keeps a b → Sees s a vars fields → (c : List Node) → Makes c id (term_in s b vars fields e) → Makes c id (term_in s a vars fields e)
second_is s a b vars fields e id h sees c m = record { there = m.there; term = m.term ∙ term_on s a b vars fields e h sees }

pub binary_operands : (s : Scope) (n m : List Node) (vars : List Variable) (fields : List ℕ) (at : ℕ) (op : BinaryOp) (a b : Expr) (i j : ℕ) → IsSeen s → CanMake s n vars fields (binary at op a b)
    → Makes m i (term_in s n vars fields a) → Makes m j (term_in s n vars fields b) → WidthsFit op (width_at m i) (width_at m j)
binary_operands s n m vars fields at op a b i j seen can p q =
    subst (λ (x : Term × Term). WidthsFit op (width x.0) (width x.1)) (λ k. (sym p.term k, sym q.term k)) (binary_widths s n vars fields at op a b seen can)

pub slice_operand : (s : Scope) (n m : List Node) (vars : List Variable) (fields : List ℕ) (at : ℕ) (a : Expr) (high low i : ℕ) → IsSeen s → CanMake s n vars fields (slice at a high low)
    → Makes m i (term_in s n vars fields a) → (low ≤ high) × (high < width_at m i)
slice_operand s n m vars fields at a high low i seen can p =
    let l = slice_places s n vars fields at a high low seen can in
    (l.0, subst (λ t. high < width t) (sym p.term) l.1)

pub pick_operands : (s : Scope) (n m : List Node) (vars : List Variable) (fields : List ℕ) (at : ℕ) (x a b : Expr) (k i j : ℕ) → IsSeen s → CanMake s n vars fields (pick at x a b)
    → Makes m k (term_in s n vars fields x) → Makes m i (term_in s n vars fields a) → Makes m j (term_in s n vars fields b) → (width_at m k ≡ 1) × (width_at m i ≡ width_at m j)
pick_operands s n m vars fields at x a b k i j seen can o p q =
    let w = pick_widths s n vars fields at x a b seen can in
    (ap width o.term ∙ w.0, ap width p.term ∙ w.1 ∙ sym (ap width q.term))

-- ---- wholes by their parts

pub unary_made : (s : Scope) (n a : List Node) (vars : List Variable) (fields : List ℕ) (at : ℕ) (op : UnaryOp) (x : Expr) (i : ℕ) → Makes a i (term_in s n vars fields x)
    → term.not_ (term_at a i) ≡ term_in s n vars fields (unary at op x)
unary_made s n a vars fields at op x i p = ap term.not_ p.term

pub slice_made : (s : Scope) (n a : List Node) (vars : List Variable) (fields : List ℕ) (at : ℕ) (x : Expr) (high low i : ℕ) → Makes a i (term_in s n vars fields x)
    → term.slice (term_at a i) high low ≡ term_in s n vars fields (slice at x high low)
slice_made s n a vars fields at x high low i p = ap (λ t. term.slice t high low) p.term

pub call_made : (s : Scope) (n a : List Node) (vars : List Variable) (fields : List ℕ) (at : ℕ) (f : Name) (es : Exprs) (ids : List ℕ) → MakesAll a ids (terms_in s n vars fields es)
    → call_in (functions_before (design_in s) s.before) f.text (terms_at a ids) ≡ term_in s n vars fields (call at f es)
call_made s n a vars fields at f es ids p = ap (call_in (functions_before (design_in s) s.before) f.text) p.terms

-- both operands of a binary operator, the first of which was made before
pub record BothMade (s : Scope) (n b : List Node) (vars : List Variable) (fields : List ℕ) (x y : Expr) (i j : ℕ) : Type 0 where
  pub first : Makes b i (term_in s n vars fields x)
  pub second : Makes b j (term_in s n vars fields y)

pub both_made : (s : Scope) (n a b : List Node) (vars : List Variable) (fields : List ℕ) (x y : Expr) (i j : ℕ) → Sees s n vars fields → Keeps n a → Keeps a b
    → Makes a i (term_in s n vars fields x) → Makes b j (term_in s a vars fields y) → BothMade s n b vars fields x y i j
both_made s n a b vars fields x y i j sees h k p q = record {
  first = makes_on a b i (term_in s n vars fields x) k p;
  second = second_is s n a vars fields y j h sees b q;
}

pub binary_made : (s : Scope) (n b : List Node) (vars : List Variable) (fields : List ℕ) (at : ℕ) (op : BinaryOp) (x y : Expr) (i j : ℕ) → BothMade s n b vars fields x y i j
    → binary_term op (term_at b i) (term_at b j) ≡ term_in s n vars fields (binary at op x y)
binary_made s n b vars fields at op x y i j p = λ m. binary_term op (p.first.term m) (p.second.term m)

pub pick_made : (s : Scope) (n c : List Node) (vars : List Variable) (fields : List ℕ) (at : ℕ) (x a b : Expr) (k i j : ℕ) → Makes c k (term_in s n vars fields x) → BothMade s n c vars fields a b i j
    → term.pick (term_at c k) (term_at c i) (term_at c j) ≡ term_in s n vars fields (pick at x a b)
pick_made s n c vars fields at x a b k i j p q = λ m. term.pick (p.term m) (q.first.term m) (q.second.term m)

-- ---- some expressions

pub ends : (s : Scope) (n m : List Node) (vars : List Variable) (fields : List ℕ) (ids : List ℕ) (es none : Exprs) → none ≡ no_exprs → terms_at m ids ++ terms_in s m vars fields none ≡ terms_in s n vars fields es
    → terms_at m ids ≡ terms_in s n vars fields es
ends s n m vars fields ids es none e h = sym (append-nil (terms_at m ids)) ∙ ap (λ xs. terms_at m ids ++ terms_in s m vars fields xs) (sym e) ∙ h

-- one term more
pub goes_on : (s : Scope) (n m k : List Node) (vars : List Variable) (fields : List ℕ) (ids : List ℕ) (id : ℕ) (x : Expr) (all left rest : Exprs) → left ≡ expr x rest → Keeps m k → AreThere m ids → Sees s m vars fields
    → Makes k id (term_in s m vars fields x) → terms_at m ids ++ terms_in s m vars fields left ≡ terms_in s n vars fields all
    → terms_at k (ids ++ id ∷ []) ++ terms_in s k vars fields rest ≡ terms_in s n vars fields all
goes_on s n m k vars fields ids id x all left rest e h there sees made is =
    ap (λ ts. ts ++ terms_in s k vars fields rest) (map-append (term_at k) ids (id ∷ []))
    ∙ (λ j. (terms_on m k ids h there j ++ made.term j ∷ []) ++ all_on s m k vars fields rest h sees j)
    ∙ append_assoc (terms_at m ids) (term_in s m vars fields x ∷ []) (terms_in s m vars fields rest)
    ∙ ap (λ xs. terms_at m ids ++ terms_in s m vars fields xs) (sym e) ∙ is

pub there_more : (k : List Node) (ids : List ℕ) (id : ℕ) → AreThere k ids → id < length k → AreThere k (ids ++ id ∷ [])
there_more k ids id all l = All-append (λ x. x < length k) ids (id ∷ []) all (all_one (λ x. x < length k) id l)
