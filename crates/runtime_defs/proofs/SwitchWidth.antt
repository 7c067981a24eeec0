-- In a design that keeps the rules the function of the switch roles' guards takes one number of 16 bits.
use Rattle.std.proofs.Common.{◌≡◌, ℕ, suc, ◌==◌, ◌&&◌, ◌||◌, Bool, true, false, not, List, [], ◌∷◌, ◌++◌, length, map, filter, take, reverse, Option, Some, None, is_some, arith, append_assoc, cond, refl, sym, ap, subst, ◌∙◌}
use Rattle.std.specs.Prelude.{filter_map, flat_map, is_none, option_map, option_to_list}
use Rattle.std.specs.List.{list_all}
use Rattle.std.proofs.lemmas.List.{reverse-append, take_all}
use Rattle.cocoon_num.specs.Names.{same_name, named}
use Rattle.cocoon_num.specs.Lists.{first_of}
use Rattle.cocoon_num.specs.Sorts.{bits_sort}
use Rattle.cocoon_num.specs.Tree.{Name, Param, Expr, name, field, lit, true_or_false, call, unary, binary, slice, pick, Exprs, no_exprs, expr, FunctionDecl, Role, Decl, a_function, an_assumption, a_role, a_host, a_switch, Refine, SwitchDecl, Design, token_index}
use Rattle.cocoon_num.specs.Values.{and_, less, BinaryOp, fits_width}
use Rattle.cocoon_types.specs.DefsRules.{guard_call}
use Rattle.cocoon_types.specs.Design.{all_decls, as_function, as_role, functions, last_level, role_at, switch_decl, widths_of}
use Rattle.cocoon_types.specs.FormRules.{declared_as, guard_function, guards_by, host_guard, is_runtime, switch_declared, switch_guard, switch_sends, two_ports}
use Rattle.cocoon_types.specs.LastLevel.{called, of_host}
use Rattle.cocoon_types.specs.Parts.{parts, parts_of}
use Rattle.cocoon_types.specs.RuleParts.{roles_of, unless, unless_named}
use Rattle.cocoon_types.specs.Rules.{WellFormed, guard_form, not_switch_form, wrong_count, wrong_width}
use Rattle.cocoon_types.specs.SameTrees.{same_expr, same_exprs}
use Rattle.cocoon_types.specs.Sites.{ExprSite, all_exprs, all_stmts, exprs_of_decl, exprs_of_stmt, parts_at, sites_from, sites_of}
use Rattle.cocoon_types.specs.TypeRules.{all_typed, found_widths, is_other, unless_is, where_, wrong_args, wrong_count_in_expr, wrong_in_expr, wrong_in_stmt}
use Rattle.cocoon_types.specs.Typing.{Scope, function_named, sort_of}
use Rattle.runtime_defs.specs.Guards.{fits_params, switch_function}
use Rattle.runtime_defs.specs.Places.{all_fit_widths}
use Rattle.runtime_defs.proofs.Distinct.{nil-both}
use Rattle.runtime_defs.proofs.Looking.{both-true, number-is}
use Rattle.runtime_defs.proofs.Numbers.{same-refl, same-true}

-- ---- the form of the guard

-- one variable in place of all arguments
pub record IsVar (s : List ℕ) (es : Exprs) : Type 0 where
  at : ℕ
  is : es ≡ expr (name at s) no_exprs

is-var : (s : Name) (es : Exprs) → same_exprs es (expr (name 0 s.text) no_exprs) ≡ true → IsVar s.text es
is-var s no_exprs h = absurd cc
is-var s (expr (name at y) no_exprs) h =
    let same : same_name y s.text ≡ true = (both-true (same_name y s.text) true h).0 in
    record { at = at; is = ap (λ x. expr (name at x) no_exprs) (same-true y s.text same) }
is-var s (expr (name at y) (expr e es)) h = absurd (refused (same_name y s.text) h)
  where
    refused : (b : Bool) → (b && false) ≡ true → ⊥
    refused true k = cc
    refused false k = cc
is-var s (expr (field at g f) es) h = absurd cc
is-var s (expr (lit at w n) es) h = absurd cc
is-var s (expr (true_or_false at b) es) h = absurd cc
is-var s (expr (call at f ds) es) h = absurd cc
is-var s (expr (unary at op a) es) h = absurd cc
is-var s (expr (binary at op a b) es) h = absurd cc
is-var s (expr (slice at a i l) es) h = absurd cc
is-var s (expr (pick at c a b) es) h = absurd cc

-- a call of a function at one variable
pub record IsCall (s : List ℕ) (e : Expr) : Type 0 where
  at : ℕ
  function : Name
  args : Exprs
  is : e ≡ call at function args
  var : IsVar s args

is-call : (s : Name) (g : Name) (e : Expr) → same_expr e (call 0 g (expr (name 0 s.text) no_exprs)) ≡ true → IsCall s.text e
is-call s g (call at f es) h =
    record { at = at; function = f; args = es; is = refl; var = is-var s es (both-true (same_name f.text g.text) (same_exprs es (expr (name 0 s.text) no_exprs)) h).1 }
is-call s g (name at y) h = absurd cc
is-call s g (field at i f) h = absurd cc
is-call s g (lit at w n) h = absurd cc
is-call s g (true_or_false at b) h = absurd cc
is-call s g (unary at op a) h = absurd cc
is-call s g (binary at op a b) h = absurd cc
is-call s g (slice at a i l) h = absurd cc
is-call s g (pick at c a b) h = absurd cc

-- such a call and a condition
pub record IsGuard (s : List ℕ) (e : Expr) : Type 0 where
  pub at : ℕ
  pub op : BinaryOp
  pub call_part : Expr
  pub rest : Expr
  pub is : e ≡ binary at op call_part rest
  pub call_is : IsCall s call_part

is-guard : (s : Name) (g : Name) (c : Expr) (e : Expr) → same_expr e (binary 0 and_ (call 0 g (expr (name 0 s.text) no_exprs)) c) ≡ true → IsGuard s.text e
is-guard s g c (binary at op a b) h =
    let two = both-true (_ && same_expr a (call 0 g (expr (name 0 s.text) no_exprs))) (same_expr b c) h in
    record { at = at; op = op; call_part = a; rest = b; is = refl; call_is = is-call s g a (both-true _ (same_expr a (call 0 g (expr (name 0 s.text) no_exprs))) two.0).1 }
is-guard s g c (name at y) h = absurd cc
is-guard s g c (field at i f) h = absurd cc
is-guard s g c (lit at w n) h = absurd cc
is-guard s g c (true_or_false at b) h = absurd cc
is-guard s g c (call at f es) h = absurd cc
is-guard s g c (unary at op a) h = absurd cc
is-guard s g c (slice at a i l) h = absurd cc
is-guard s g c (pick at k a b) h = absurd cc

-- ---- the rules at the call

flat-map-append : {A B : Type 0} (f : A → List B) (xs ys : List A) → flat_map f (xs ++ ys) ≡ flat_map f xs ++ flat_map f ys
flat-map-append f [] ys = refl
flat-map-append f (x ∷ xs) ys = ap (λ zs. f x ++ zs) (flat-map-append f xs ys) ∙ sym (append_assoc (f x) (flat_map f xs) (flat_map f ys))

abbrev site : Scope → Expr → ExprSite
site s e = record { scope = s; e = e }

-- what is nothing at all parts of such a guard is nothing at its call
at-call : (F : ExprSite → List ℕ) (s : Scope) (x : List ℕ) (e : Expr) (g : IsGuard x e) → flat_map F (parts_at s e) ≡ [] → F (site s g.call_part) ≡ []
at-call F s x e g h =
    let whole : flat_map F (parts_at s (binary g.at g.op g.call_part g.rest)) ≡ [] = ap (λ e. flat_map F (parts_at s e)) (sym g.is) ∙ h in
    let after = (nil-both (F (site s (binary g.at g.op g.call_part g.rest))) (flat_map F (map (site s) (parts g.call_part ++ parts g.rest))) whole).1 in
    let here : flat_map F (map (site s) (parts (call g.call_is.at g.call_is.function g.call_is.args) ++ parts g.rest)) ≡ [] = ap (λ a. flat_map F (map (site s) (parts a ++ parts g.rest))) (sym g.call_is.is) ∙ after in
    ap (λ a. F (site s a)) g.call_is.is ∙ (nil-both (F (site s (call g.call_is.at g.call_is.function g.call_is.args))) (flat_map F (map (site s) (parts_of g.call_is.args ++ parts g.rest))) here).0

-- the first variable in scope has 16 bits
record FirstShort (sc : Scope) (x : List ℕ) : Type 0 where
  pub param : Param
  pub others : List Param
  pub vars_are : sc.vars ≡ param ∷ others
  pub name_is : param.name.text ≡ x
  pub short : param.width ≡ 16

first-found : (p : Param) (ps : List Param) (x : List ℕ) → p.name.text ≡ x → named (λ (q : Param). q.name) x (p ∷ ps) ≡ Some p
first-found p ps x h = ap (λ c. cond c (Some p) (named (λ (q : Param). q.name) x ps)) (ap (same_name x) h ∙ same-refl x)

short-sort : (sc : Scope) (x : List ℕ) (at : ℕ) → FirstShort sc x → sort_of sc (name at x) ≡ Some (bits_sort 16)
short-sort sc x at f =
    ap (λ o. option_map bits_sort (option_map (λ (q : Param). q.width) o)) (ap (named (λ (q : Param). q.name) x) f.vars_are ∙ first-found f.param f.others x f.name_is)
    ∙ ap (λ w. Some (bits_sort w)) f.short

unless-true : (b : Bool) (at : ℕ) → unless b at ≡ [] → b ≡ true
unless-true true at h = refl
unless-true false at h = absurd cc

where-true : (b : Bool) (ats : List ℕ) → b ≡ true → where_ b ats ≡ [] → ats ≡ []
where-true true ats h k = k
where-true false ats h k = absurd cc

one-typed : (sc : Scope) (x : List ℕ) (at : ℕ) → FirstShort sc x → all_typed sc (expr (name at x) no_exprs) ≡ true
one-typed sc x at f = ap (λ o. is_some o && true) (short-sort sc x at f)

one-param : (sc : Scope) (x : List ℕ) (at i : ℕ) (f : Name) (g : FunctionDecl) → FirstShort sc x → function_named sc f.text ≡ Some g → wrong_count_in_expr (site sc (call at f (expr (name i x) no_exprs))) ≡ [] → length g.params ≡ 1
one-param sc x at i f g v h k =
    let es = expr (name i x) no_exprs in
    let found = sym (ap (λ (o : Option FunctionDecl). elim o [ None ↦ [] | Some d ↦ where_ (all_typed sc es) (unless_named (length d.params == 1) f) ]) h) ∙ k in
    number-is (length g.params) 1 (unless-true (length g.params == 1) f.at (where-true (all_typed sc es) (unless_named (length g.params == 1) f) (one-typed sc x i v) found))

not-not : (b : Bool) → not (not b) ≡ true → b ≡ true
not-not true h = refl
not-not false h = absurd cc

one-width : (sc : Scope) (x : List ℕ) (i : ℕ) (g : FunctionDecl) (q : Param) → FirstShort sc x → wrong_args sc (q.width ∷ []) (expr (name i x) no_exprs) ≡ [] → q.width ≡ 16
one-width sc x i g q v h =
    let only = (nil-both (unless_is sc (bits_sort q.width) (name i x)) [] h).0 in
    let is = unless-true (not (is_other (bits_sort q.width) (sort_of sc (name i x)))) i only in
    number-is q.width 16 (not-not (q.width == 16) (ap (λ o. not (is_other (bits_sort q.width) o)) (sym (short-sort sc x i v)) ∙ is))

widths-one : (sc : Scope) (x : List ℕ) (at i : ℕ) (f : Name) (g : FunctionDecl) (ps : List Param) → g.params ≡ ps → length ps ≡ 1 → FirstShort sc x → function_named sc f.text ≡ Some g
    → wrong_in_expr (site sc (call at f (expr (name i x) no_exprs))) ≡ [] → widths_of ps ≡ 16 ∷ []
widths-one sc x at i f g [] p l v h k = absurd (omega (arith, l))
widths-one sc x at i f g (q ∷ []) p l v h k =
    let es = expr (name i x) no_exprs in
    let widths : found_widths (function_named sc f.text) ≡ q.width ∷ [] = ap found_widths h ∙ ap widths_of p in
    let test : (all_typed sc es && (length (found_widths (function_named sc f.text)) == 1)) ≡ true = ap (λ ws. all_typed sc es && (length ws == 1)) widths ∙ ap (λ b. b && true) (one-typed sc x i v) in
    let args = where-true (all_typed sc es && (length (found_widths (function_named sc f.text)) == 1)) (wrong_args sc (found_widths (function_named sc f.text)) es) test k in
    ap (λ w. w ∷ []) (one-width sc x i g q v (ap (λ ws. wrong_args sc ws es) (sym widths) ∙ args))
widths-one sc x at i f g (q ∷ r ∷ ps) p l v h k = absurd (omega (arith, l))

-- the rules at a guard of this form
pub record Keeps (d : Design) (ps : List Param) (e : Expr) (F : ExprSite → List ℕ) : Type 0 where
  pub scope : Scope
  pub design_is : scope.design ≡ d
  pub vars_are : scope.vars ≡ ps ++ []
  pub none : flat_map F (parts_at scope e) ≡ []

-- ---- the rules at all guards

abbrev KeepsAt : Design → (ExprSite → List ℕ) → Role → Type 0
KeepsAt d F r = Keeps d r.params r.guard F

abbrev AllR : (Role → Type 0) → List Role → Type 0
AllR P [] = Unit {0}
AllR P (r ∷ rs) = P r × AllR P rs

abbrev RoleOf : (Role → Type 0) → Decl → Type 0
RoleOf P (a_role r) = P r
RoleOf P _ = Unit {0}

abbrev AllRoles : (Role → Type 0) → List Decl → Type 0
AllRoles P [] = Unit {0}
AllRoles P (d ∷ ds) = RoleOf P d × AllRoles P ds

all-append : (P : Role → Type 0) (ds es : List Decl) → AllRoles P ds → AllRoles P es → AllRoles P (ds ++ es)
all-append P [] es h k = k
all-append P (d ∷ ds) es h k = (h.0, all-append P ds es h.1 k)

decl-keeps : (F : ExprSite → List ℕ) (d : Design) (before : List FunctionDecl) (level : ℕ) (x : Decl)
    → flat_map F (exprs_of_decl (record { scope = record { design = d; vars = []; before = before; level = level; packet = false }; decl = x })) ≡ [] → RoleOf (KeepsAt d F) x
decl-keeps F d before level (a_function f) h = tt
decl-keeps F d before level (an_assumption a) h = tt
decl-keeps F d before level (a_role r) h = record { scope = record { design = d; vars = r.params ++ []; before = before; level = level; packet = false }; design_is = refl; vars_are = refl; none = h }
decl-keeps F d before level (a_host x) h = tt
decl-keeps F d before level (a_switch s) h = tt

sites-keep : (F : ExprSite → List ℕ) (d : Design) (level : ℕ) (before : List FunctionDecl) (ds : List Decl) → flat_map F (flat_map exprs_of_decl (sites_of d level before ds)) ≡ [] → AllRoles (KeepsAt d F) ds
sites-keep F d level before [] h = tt
sites-keep F d level before (x ∷ ds) h =
    let here = exprs_of_decl (record { scope = record { design = d; vars = []; before = before; level = level; packet = false }; decl = x }) in
    let rest = flat_map exprs_of_decl (sites_of d level (before ++ option_to_list (as_function x)) ds) in
    let both = nil-both (flat_map F here) (flat_map F rest) (sym (flat-map-append F here rest) ∙ h) in
    (decl-keeps F d before level x both.0, sites-keep F d level (before ++ option_to_list (as_function x)) ds both.1)

from-keep : (F : ExprSite → List ℕ) (d : Design) (level : ℕ) (before : List FunctionDecl) (bs : List Refine) → flat_map F (flat_map exprs_of_decl (sites_from d level before bs)) ≡ []
    → AllRoles (KeepsAt d F) (flat_map (λ (b : Refine). b.decls) bs)
from-keep F d level before [] h = tt
from-keep F d level before (b ∷ bs) h =
    let xs = sites_of d level before b.decls in
    let ys = sites_from d (suc level) (before ++ filter_map as_function b.decls) bs in
    let both = nil-both (flat_map F (flat_map exprs_of_decl xs)) (flat_map F (flat_map exprs_of_decl ys))
    (sym (flat-map-append F (flat_map exprs_of_decl xs) (flat_map exprs_of_decl ys)) ∙ ap (flat_map F) (sym (flat-map-append exprs_of_decl xs ys)) ∙ h) in
    all-append (KeepsAt d F) b.decls (flat_map (λ (c : Refine). c.decls) bs) (sites-keep F d level before b.decls both.0) (from-keep F d (suc level) (before ++ filter_map as_function b.decls) bs both.1)

all-keep : (F : ExprSite → List ℕ) (d : Design) → flat_map F (all_exprs d) ≡ [] → AllRoles (KeepsAt d F) (all_decls d)
all-keep F d h =
    let xs = sites_of d 0 [] d.decls in
    let ys = sites_from d 1 (filter_map as_function d.decls) d.refines in
    let decls = flat_map exprs_of_decl (xs ++ ys) in
    let one = (nil-both (flat_map F decls) (flat_map F (flat_map exprs_of_stmt (all_stmts d))) (sym (flat-map-append F decls (flat_map exprs_of_stmt (all_stmts d))) ∙ h)).0 in
    let both = nil-both (flat_map F (flat_map exprs_of_decl xs)) (flat_map F (flat_map exprs_of_decl ys))
    (sym (flat-map-append F (flat_map exprs_of_decl xs) (flat_map exprs_of_decl ys)) ∙ ap (flat_map F) (sym (flat-map-append exprs_of_decl xs ys)) ∙ one) in
    let whole : take (length d.refines) d.refines ≡ d.refines = take_all (length d.refines) d.refines (omega arith) in
    subst (λ bs. AllRoles (KeepsAt d F) (d.decls ++ flat_map (λ (b : Refine). b.decls) bs)) (sym whole)
    (all-append (KeepsAt d F) d.decls (flat_map (λ (b : Refine). b.decls) d.refines) (sites-keep F d 0 [] d.decls both.0) (from-keep F d 1 (filter_map as_function d.decls) d.refines both.1))

only-roles : (P : Role → Type 0) (ds : List Decl) → AllRoles P ds → AllR P (filter_map as_role ds)
only-roles P [] h = tt
only-roles P (a_function f ∷ ds) h = only-roles P ds h.1
only-roles P (an_assumption a ∷ ds) h = only-roles P ds h.1
only-roles P (a_role r ∷ ds) h = (h.0, only-roles P ds h.1)
only-roles P (a_host x ∷ ds) h = only-roles P ds h.1
only-roles P (a_switch s ∷ ds) h = only-roles P ds h.1

-- ---- a role at the last level

both-lists : (P : Role → Type 0) (rs ss : List Role) → AllR P rs → AllR P ss → AllR P (rs ++ ss)
both-lists P [] ss h k = k
both-lists P (r ∷ rs) ss h k = (h.0, both-lists P rs ss h.1 k)

two-lists : (P : Role → Type 0) (rs ss : List Role) → AllR P (rs ++ ss) → AllR P rs × AllR P ss
two-lists P [] ss h = (tt, h)
two-lists P (r ∷ rs) ss h = let rest = two-lists P rs ss h.1 in ((h.0, rest.0), rest.1)

turned-list : (P : Role → Type 0) (rs : List Role) → AllR P rs → AllR P (reverse rs)
turned-list P [] h = tt
turned-list P (r ∷ rs) h = subst (AllR P) (sym (reverse-append (r ∷ []) rs)) (both-lists P (reverse rs) (r ∷ []) (turned-list P rs h.1) (h.0, tt))

abbrev role-name : Role → Name
role-name r = r.name

named-has : (P : Role → Type 0) (x : List ℕ) (rs : List Role) (r : Role) → AllR (λ (s : Role). same_name x s.name.text ≡ true → P s) rs → named role-name x rs ≡ Some r → P r
named-has P x [] r h k = absurd cc
named-has P x (s ∷ rs) r h k = by (same_name x s.name.text) refl (named-has P x rs r h.1) k
  where
    by : (b : Bool) → same_name x s.name.text ≡ b → (named role-name x rs ≡ Some r → P r) → cond b (Some s) (named role-name x rs) ≡ Some r → P r
    by true e ih g = let same : s ≡ r = cc in subst P same (h.0 e)
    by false e ih g = ih g

-- what holds of the declarations of a role holds of the one at the last level
at-last : (P : Role → Type 0) (d : Design) (x : List ℕ) (r : Role) → AllR (λ (s : Role). same_name x s.name.text ≡ true → P s) (roles_of d) → role_at (last_level d) d x ≡ Some r → P r
at-last P d x r h k = named-has P x (reverse (roles_of d)) r (turned-list (λ (s : Role). same_name x s.name.text ≡ true → P s) (roles_of d) h) k

kept-of : (p : Role → Bool) (P : Role → Type 0) (rs : List Role) → AllR P (filter p rs) → AllR (λ (s : Role). p s ≡ true → P s) rs
kept-of p P [] h = tt
kept-of p P (r ∷ rs) h = by (p r) refl (kept-of p P rs)
  where
    none : (b : Bool) → b ≡ false → b ≡ true → ⊥
    none true x y = cc
    none false x y = cc

    by : (b : Bool) → p r ≡ b → (AllR P (filter p rs) → AllR (λ (s : Role). p s ≡ true → P s) rs) → (p r ≡ true → P r) × AllR (λ (s : Role). p s ≡ true → P s) rs
    by true e ih = let is = subst (AllR P) (ap (λ b. cond b (r ∷ filter p rs) (filter p rs)) e) h in ((λ k. is.0), ih is.1)
    by false e ih = ((λ k. absurd (none (p r) e k)), ih (subst (AllR P) (ap (λ b. cond b (r ∷ filter p rs) (filter p rs)) e) h))

-- ---- the forms of switch roles

-- the guard and the parameters of a switch role
record HasForm (d : Design) (ports : ℕ) (r : Role) : Type 0 where
  guard : switch_guard d ports r.params r.guard ≡ true
  params : two_ports r ≡ true

guards-fit : (fits : List Param → Expr → Bool) (test : Role → Bool) (rs : List Role) → flat_map (λ (x : Role). unless (fits x.params x.guard && test x) (token_index x.guard)) rs ≡ [] → AllR (λ (r : Role). fits r.params r.guard ≡ true) rs
guards-fit fits test [] h = tt
guards-fit fits test (r ∷ rs) h =
    let both = nil-both (unless (fits r.params r.guard && test r) (token_index r.guard)) (flat_map (λ (x : Role). unless (fits x.params x.guard && test x) (token_index x.guard)) rs) h in
    ((both-true (fits r.params r.guard) (test r) (unless-true (fits r.params r.guard && test r) (token_index r.guard) both.0)).0, guards-fit fits test rs both.1)

guards-by : (fits : List Param → Expr → Bool) (function : Expr → List ℕ) (rs : List Role) → guards_by fits function rs ≡ [] → AllR (λ (r : Role). fits r.params r.guard ≡ true) rs
guards-by fits function [] h = tt
guards-by fits function (r ∷ rs) h = guards-fit fits (λ (x : Role). not (fits r.params r.guard) || same_name (function r.guard) (function x.guard)) (r ∷ rs) h

ports-fit : (rs : List Role) → flat_map (λ (r : Role). unless_named (two_ports r) r.name) rs ≡ [] → AllR (λ (r : Role). two_ports r ≡ true) rs
ports-fit [] h = tt
ports-fit (r ∷ rs) h =
    let both = nil-both (unless_named (two_ports r) r.name) (flat_map (λ (r : Role). unless_named (two_ports r) r.name) rs) h in
    (unless-true (two_ports r) r.name.at both.0, ports-fit rs both.1)

forms-of : (d : Design) (ports : ℕ) (rs : List Role) → AllR (λ (r : Role). switch_guard d ports r.params r.guard ≡ true) rs → AllR (λ (r : Role). two_ports r ≡ true) rs → AllR (HasForm d ports) rs
forms-of d ports [] g p = tt
forms-of d ports (r ∷ rs) g p = (record { guard = g.0; params = p.0 }, forms-of d ports rs g.1 p.1)

abbrev declared-twice : Design → SwitchDecl → List Role
declared-twice d s = declared_as s.into.text (roles_of d) ++ (declared_as s.out.text (roles_of d) ++ [])

declared-both : (d : Design) (s : SwitchDecl) → switch_decl d ≡ Some s → switch_declared d ≡ declared-twice d s
declared-both d s h = ap (λ (o : Option SwitchDecl). flat_map (λ (n : Name). declared_as n.text (roles_of d)) (elim o [ None ↦ [] | Some s ↦ s.into ∷ s.out ∷ [] ])) h

all-forms : (d : Design) (s : SwitchDecl) → WellFormed d → switch_decl d ≡ Some s → AllR (HasForm d s.ports) (declared-twice d s)
all-forms d s w h =
    let guards = (nil-both (of_host d (λ h e s. guards_by (host_guard d) called (declared_as h.entry.text (roles_of d) ++ declared_as h.sink.text (roles_of d))))
    (elim (switch_decl d) [ None ↦ [] | Some s ↦ guards_by (switch_guard d s.ports) guard_function (switch_declared d) ]) (w guard_form)).1 in
    let fits = guards-by (switch_guard d s.ports) guard_function (switch_declared d)
    (sym (ap (λ (o : Option SwitchDecl). elim o [ None ↦ [] | Some s ↦ guards_by (switch_guard d s.ports) guard_function (switch_declared d) ]) h) ∙ guards) in
    let ports = ports-fit (switch_declared d) (nil-both (flat_map (λ (r : Role). unless_named (two_ports r) r.name) (switch_declared d)) (elim (switch_decl d) [ None ↦ [] | Some s ↦ switch_sends d s ]) (w not_switch_form)).0 in
    subst (AllR (HasForm d s.ports)) (declared-both d s h) (forms-of d s.ports (switch_declared d) fits ports)

-- ---- one switch role

-- what is known of a declaration of a switch role
record Known (d : Design) (ports : ℕ) (r : Role) : Type 0 where
  form : HasForm d ports r
  count : KeepsAt d wrong_count_in_expr r
  width : KeepsAt d wrong_in_expr r

known-all : (d : Design) (ports : ℕ) (x : List ℕ) (rs : List Role) → AllR (λ (r : Role). same_name x r.name.text ≡ true → HasForm d ports r) rs → AllR (KeepsAt d wrong_count_in_expr) rs → AllR (KeepsAt d wrong_in_expr) rs
    → AllR (λ (r : Role). same_name x r.name.text ≡ true → Known d ports r) rs
known-all d ports x [] f c w = tt
known-all d ports x (r ∷ rs) f c w = ((λ h. record { form = f.0 h; count = c.0; width = w.0 }), known-all d ports x rs f.1 c.1 w.1)

first-short : (s p : Param) (sc : Scope) → (s.width == 16) ≡ true → sc.vars ≡ (s ∷ p ∷ []) ++ [] → FirstShort sc s.name.text
first-short s p sc h v = record { param = s; others = p ∷ []; vars_are = v; name_is = refl; short = number-is s.width 16 h }

-- the function of its guard
record Takes (d : Design) (r : Role) : Type 0 where
  function : FunctionDecl
  named_is : named (λ (x : FunctionDecl). x.name) (guard_function r.guard) (functions d) ≡ Some function
  widths : widths_of function.params ≡ 16 ∷ []
  only : guard_call r.guard ≡ guard_function r.guard ∷ []

there-is : (d : Design) (f : List ℕ) → is_runtime d f ≡ true → (g : FunctionDecl) × (named (λ (x : FunctionDecl). x.name) f (functions d) ≡ Some g)
there-is d f h = by (named (λ (x : FunctionDecl). x.name) f (functions d)) refl h
  where
    by : (o : Option FunctionDecl) → named (λ (x : FunctionDecl). x.name) f (functions d) ≡ o → elim o [ None ↦ false | Some x ↦ is_none x.body ] ≡ true → (g : FunctionDecl) × (named (λ (x : FunctionDecl). x.name) f (functions d) ≡ Some g)
    by None e k = absurd cc
    by (Some g) e k = (g, e)

function-of : (s : List ℕ) (e : Expr) (g : IsGuard s e) → guard_function e ≡ g.call_is.function.text
function-of s e g = ap guard_function g.is ∙ ap called g.call_is.is

call-of : (s : List ℕ) (e : Expr) (g : IsGuard s e) → guard_call e ≡ guard_function e ∷ []
call-of s e g = ap guard_call g.is ∙ ap (λ a. called a ∷ []) g.call_is.is ∙ ap (λ x. x ∷ []) (sym (function-of s e g))

takes-by : (d : Design) (ports : ℕ) (r : Role) (ps : List Param) → r.params ≡ ps → switch_guard d ports ps r.guard ≡ true → two_ports r ≡ true → KeepsAt d wrong_count_in_expr r → KeepsAt d wrong_in_expr r → Takes d r
takes-by d ports r [] e g t c w = absurd cc
takes-by d ports r (s ∷ []) e g t c w = absurd cc
takes-by d ports r (s ∷ p ∷ q ∷ ps) e g t c w = absurd cc
takes-by d ports r (s ∷ p ∷ []) e g t c w =
    let both = both-true (is_runtime d (guard_function r.guard)) _ g in
    let form = is-guard s.name (record { at = 0; text = guard_function r.guard }) (binary 0 less (name 0 p.name.text) (lit 0 16 ports)) r.guard both.1 in
    let found = there-is d (guard_function r.guard) both.0 in
    let widths : list_all (λ w. w == 16) (widths_of (s ∷ p ∷ [])) ≡ true = ap (λ ps. list_all (λ w. w == 16) (widths_of ps)) (sym e) ∙ (both-true (length r.params == 2) (list_all (λ w. w == 16) (widths_of r.params)) t).1 in
    let short : (s.width == 16) ≡ true = (both-true (s.width == 16) (list_all (λ w. w == 16) (widths_of (p ∷ []))) widths).0 in
    let f = form.call_is.function in
    let i = form.call_is.var.at in
    let args : form.call_part ≡ call form.call_is.at f (expr (name i s.name.text) no_exprs) = form.call_is.is ∙ ap (call form.call_is.at f) form.call_is.var.is in
    let cv = first-short s p c.scope short (c.vars_are ∙ ap (λ ps. ps ++ []) e) in
    let wv = first-short s p w.scope short (w.vars_are ∙ ap (λ ps. ps ++ []) e) in
    let cf : function_named c.scope f.text ≡ Some found.0 = ap (λ (x : Design). named (λ (y : FunctionDecl). y.name) f.text (functions x)) c.design_is
    ∙ ap (λ n. named (λ (y : FunctionDecl). y.name) n (functions d)) (sym (function-of s.name.text r.guard form)) ∙ found.1 in
    let wf : function_named w.scope f.text ≡ Some found.0 = ap (λ (x : Design). named (λ (y : FunctionDecl). y.name) f.text (functions x)) w.design_is
    ∙ ap (λ n. named (λ (y : FunctionDecl). y.name) n (functions d)) (sym (function-of s.name.text r.guard form)) ∙ found.1 in
    let ck = ap (λ a. wrong_count_in_expr (site c.scope a)) (sym args) ∙ at-call wrong_count_in_expr c.scope s.name.text r.guard form c.none in
    let wk = ap (λ a. wrong_in_expr (site w.scope a)) (sym args) ∙ at-call wrong_in_expr w.scope s.name.text r.guard form w.none in
    record {
      function = found.0;
      named_is = found.1;
      widths = widths-one w.scope s.name.text form.call_is.at i f found.0 found.0.params refl (one-param c.scope s.name.text form.call_is.at i f found.0 cv cf ck) wv wf wk;
      only = call-of s.name.text r.guard form;
    }

role-takes : (d : Design) (s : SwitchDecl) → WellFormed d → switch_decl d ≡ Some s → (x : List ℕ) → AllR (HasForm d s.ports) (declared_as x (roles_of d)) → (r : Role) → role_at (last_level d) d x ≡ Some r → Takes d r
role-takes d s w h x f r k =
    let counts = only-roles (KeepsAt d wrong_count_in_expr) (all_decls d) (all-keep wrong_count_in_expr d (nil-both (flat_map wrong_count_in_expr (all_exprs d)) _ (w wrong_count)).0) in
    let widths = only-roles (KeepsAt d wrong_in_expr) (all_decls d) (all-keep wrong_in_expr d (nil-both (flat_map wrong_in_expr (all_exprs d)) _ (nil-both (flat_map wrong_in_expr (all_exprs d) ++ flat_map wrong_in_stmt (all_stmts d)) _ (w wrong_width)).0).0) in
    let forms = kept-of (λ (r : Role). same_name x r.name.text) (HasForm d s.ports) (roles_of d) f in
    let known = at-last (Known d s.ports) d x r (known-all d s.ports x (roles_of d) forms counts widths) k in
    takes-by d s.ports r r.params refl known.form.guard known.form.params known.count known.width

-- ---- the function

takes-fits : (d : Design) (f : List ℕ) (r : Role) (rest : List (List ℕ)) (n : ℕ) → Takes d r → first_of (guard_call r.guard ++ rest) ≡ Some f → fits_params d f (n ∷ []) ≡ fits_width 16 n
takes-fits d f r rest n t h =
    let same : guard_function r.guard ≡ f = some-same (sym (ap (λ xs. first_of (xs ++ rest)) t.only) ∙ h) in
    ap (λ o. elim o [ None ↦ false | Some x ↦ all_fit_widths (widths_of x.params) (n ∷ []) ]) (ap (λ x. named (λ (x : FunctionDecl). x.name) x (functions d)) (sym same) ∙ t.named_is)
    ∙ ap (λ ws. all_fit_widths ws (n ∷ [])) t.widths ∙ behind (fits_width 16 n)
  where
    some-same : {a b : List ℕ} → Some a ≡ Some b → a ≡ b
    some-same e = cc

    behind : (b : Bool) → (b && true) ≡ b
    behind true = refl
    behind false = refl

abbrev guard-calls : List Role → List (List ℕ)
guard-calls rs = flat_map (λ (r : Role). guard_call r.guard) rs

abbrev roles-at : Design → List Name → List Role
roles-at d ns = filter_map (λ (n : Name). role_at (last_level d) d n.text) ns

first-takes : (d : Design) (f : List ℕ) (x : Name) (ns : List Name) (n : ℕ) → ((r : Role) → role_at (last_level d) d x.text ≡ Some r → Takes d r) → (first_of (guard-calls (roles-at d ns)) ≡ Some f → fits_params d f (n ∷ []) ≡ fits_width 16 n)
    → first_of (guard-calls (roles-at d (x ∷ ns))) ≡ Some f → fits_params d f (n ∷ []) ≡ fits_width 16 n
first-takes d f x ns n t ih h = by (role_at (last_level d) d x.text) refl
  where
    step : (o : Option Role) → role_at (last_level d) d x.text ≡ o → roles-at d (x ∷ ns) ≡ (elim o [ None ↦ roles-at d ns | Some r ↦ r ∷ roles-at d ns ])
    step None e = rw e refl
    step (Some r) e = rw e refl

    by : (o : Option Role) → role_at (last_level d) d x.text ≡ o → fits_params d f (n ∷ []) ≡ fits_width 16 n
    by None e = ih (sym (ap (λ rs. first_of (guard-calls rs)) (step None e)) ∙ h)
    by (Some r) e = takes-fits d f r (guard-calls (roles-at d ns)) n (t r e) (sym (ap (λ rs. first_of (guard-calls rs)) (step (Some r) e)) ∙ h)

no-roles : (f : List ℕ) (A : Type 0) → first_of (guard-calls []) ≡ Some f → A
no-roles f A h = absurd cc

-- the function of the switch roles' guards takes one number of 16 bits
pub switch-fits : (d : Design) → WellFormed d → (f : List ℕ) → switch_function d ≡ Some f → (n : ℕ) → fits_params d f (n ∷ []) ≡ fits_width 16 n
switch-fits d w f h n = by (switch_decl d) refl
  where
    by : (o : Option SwitchDecl) → switch_decl d ≡ o → fits_params d f (n ∷ []) ≡ fits_width 16 n
    by None e = no-roles f _ (sym (ap (λ (o : Option SwitchDecl). first_of (guard-calls (roles-at d (elim o [ None ↦ [] | Some s ↦ s.into ∷ s.out ∷ [] ])))) e) ∙ h)
    by (Some s) e =
        let found = sym (ap (λ (o : Option SwitchDecl). first_of (guard-calls (roles-at d (elim o [ None ↦ [] | Some s ↦ s.into ∷ s.out ∷ [] ])))) e) ∙ h in
        let forms = two-lists (HasForm d s.ports) (declared_as s.into.text (roles_of d)) (declared_as s.out.text (roles_of d) ++ []) (all-forms d s w e) in
        let outs = (two-lists (HasForm d s.ports) (declared_as s.out.text (roles_of d)) [] forms.1).0 in
        first-takes d f s.into (s.out ∷ []) n (role-takes d s w e s.into.text forms.0)
        (first-takes d f s.out [] n (role-takes d s w e s.out.text outs) (no-roles f _)) found
