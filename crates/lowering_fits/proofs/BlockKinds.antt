-- The code of a block keeps the kind rules, and the blocks of its forks have what theirs needs.
use Rattle.std.proofs.Common.{◌≡◌, ◌⊎◌, inl, inr, ℕ, suc, ◌<◌, ◌^◌, ◌&&◌, ◌||◌, List, [], ◌∷◌, ◌++◌, reverse, Bool, true, false, cond, Some, None, if◌then◌else◌, option_map, option_and_then, refl, sym, ap, subst, ◌∙◌}
use Rattle.cocoon_num.specs.Names.{same_name, named}
use Rattle.cocoon_num.specs.Sorts.{bits_sort, truth_sort, has_sort, is_declared_width, unary_sort}
use Rattle.cocoon_num.specs.Tokens.{kept_if}
use Rattle.cocoon_num.specs.Tree.{Name, Param, Expr, name, field, lit, true_or_false, call, unary, binary, slice, pick, Exprs, no_exprs, expr, FunctionDecl, Stmt, let_, set_field, if_, filter, havoc_var, havoc_field, assume, fork, send, Block, no_stmts, stmt, Role, Design}
use Rattle.cocoon_num.specs.Values.{not_}
use Rattle.cocoon_types.specs.Design.{functions, role_at, widths_of}
use Rattle.cocoon_types.specs.Parts.{parts_of}
use Rattle.cocoon_types.specs.Typing.{args_fit, function_named, result_sort, sorts_of, with_var}
use Rattle.p4_ir.specs.P4Kinds.{Within, field_sort, meta_sort, p4_sort, stmt_fits}
use Rattle.p4_ir.specs.P4Tree.{P4Expr, p_lit, p_truth, p_meta, p_port, p_unary, P4Stmt, set_meta, set_header, verdict, egress_port, group, p_return, p_if, p_then, p_done}
use Rattle.lowering.specs.Lower.{Callees, Counts, Lowered, LoweredAll, Made, a_field, Variable, before_last_from, params_before_last, lower_expr, lower_exprs, then_called, var_name, variable_expr, header_place, field_place}
use Rattle.lowering.specs.LowerBlock.{LoweredBlock, Site, copy_code, filter_code, for_port, forked, fork_args, fork_function, before_last_after, if_stmt, in_block, in_expr, in_exprs, in_stmt, lower_block, lower_stmt, ports_kept, send_code}
use Rattle.lowering.specs.LowerSites.{IsStill, PortOnly}
use Rattle.lowering.proofs.Settled.{stmt_vars}
use Rattle.sound_types.specs.WellTyped.{HasType, IsTyped, IsTypedStmt, scope_at}
use Rattle.sound_types.proofs.Bodies.{after_scope, after_vars}
use Rattle.sound_types.proofs.Options.{both_true, true_both, if_there, same_text, then_there}
use Rattle.sound_types.proofs.Values.{AllFine}
use Rattle.lowering_fits.specs.WideLiterals.{wide_block, wide_expr, wide_exprs, wide_stmt}
use Rattle.lowering_fits.proofs.ExprKinds.{CallPiece, MadeOk, Piece, Ready, SortsAt, VarsOk, code_both, code_fits, code_one, has_of, kinded, kinded_all, lit_sort, made_left, made_right, same_of}
use Rattle.sound_types.proofs.Expressions.{Any}
use Rattle.lowering_correct.proofs.Fitting.{all_fine, before_last_fits, before_last_name, before_last_part, widths_args, widths_fine}
use Rattle.lowering_correct.proofs.ForkCalls.{EndsWith, IsForkCall}
use Rattle.lowering_correct.proofs.Formed.{Formed, FormedStmt, one_more}
use Rattle.lowering_fits.proofs.Logged.{Logged, declared_both, logged_both, logged_none, named_both}
use Rattle.lowering_correct.proofs.Taking.{left_in, right_in}

-- ---- sites

-- the block of a fork, and how its variables are read in egress
pub record SiteOk (d : Design) (i : ℕ) (own exit : List ℕ) (out : Within) (site : Site) : Type 0 where
  pub params : List Param
  pub x : Name
  pub x_is : site.x ≡ x.text
  pub read : VarsOk out params site.vars (λ y. in_block y site.body ≡ true)
  pub declared : is_declared_width site.width ≡ true
  pub typed : IsTyped (scope_at d i (one_more x site.width params) true) site.body
  pub formed : Formed (reverse (functions d)) own exit true (one_more x site.width params) site.body
  pub wide : wide_block site.body ≡ true

abbrev pub SitesOk : (d : Design) (i : ℕ) (own exit : List ℕ) → Within → List Site → Type 0
SitesOk d i own exit out [] = Unit {0}
SitesOk d i own exit out (x ∷ xs) = SiteOk d i own exit out x × SitesOk d i own exit out xs

sites_both : (d : Design) (i : ℕ) (own exit : List ℕ) (out : Within) (xs ys : List Site) → SitesOk d i own exit out xs → SitesOk d i own exit out ys → SitesOk d i own exit out (xs ++ ys)
sites_both d i own exit out [] ys h g = g
sites_both d i own exit out (x ∷ xs) ys h g = (h.0, sites_both d i own exit out xs ys h.1 g)

-- their numbers have eight bits
abbrev pub SmallSites : List Site → Type 0
SmallSites [] = Unit {0}
SmallSites (x ∷ xs) = (x.number < 2 ^ 8) × SmallSites xs

small_left : (xs ys : List Site) → SmallSites (xs ++ ys) → SmallSites xs
small_left [] ys h = tt
small_left (x ∷ xs) ys h = (h.0, small_left xs ys h.1)

small_right : (xs ys : List Site) → SmallSites (xs ++ ys) → SmallSites ys
small_right [] ys h = h
small_right (x ∷ xs) ys h = small_right xs ys h.1

-- ---- variables

pub extend : (c : Within) (ps : List Param) (vars : List Variable) (V : List ℕ → Type 0) (x : Name) (w : ℕ) (e : P4Expr) → p4_sort c e ≡ Some (bits_sort w) → VarsOk c ps vars V
    → VarsOk c (one_more x w ps) (record { name = x.text; expr = e } ∷ vars) V
extend c ps vars V x w e h read y v wanted is = by_test (same_name y x.text) is
  where
    by_test : (b : Bool) → option_map (λ (q : Param). q.width) (cond b (Some (record { name = x; width = w })) (named (λ (q : Param). q.name) y ps)) ≡ Some v
        → p4_sort c (if b then e else variable_expr vars y) ≡ Some (bits_sort v)
    by_test true k = let same : w ≡ v = cc in h ∙ ap (λ z. Some (bits_sort z)) same
    by_test false k = read y v wanted k

-- what a variable is read as
abbrev HowRead : (port : List ℕ) → List ℕ → P4Expr → Type 0
HowRead port y e = (e ≡ p_truth false) ⊎ (IsStill e ⊎ ((y ≡ port) × (e ≡ p_port)))

how_read : (port : List ℕ) (vars : List Variable) → PortOnly port vars → (y : List ℕ) → HowRead port y (variable_expr vars y)
how_read port [] h y = inl refl
how_read port (b ∷ vars) h y = by_test (how_read port vars h.1 y) (same_name y b.name) refl
  where
    by_test : HowRead port y (variable_expr vars y) → (t : Bool) → same_name y b.name ≡ t → HowRead port y (if t then b.expr else variable_expr vars y)
    by_test rest true is = elim h.0 [ inl s ↦ inr (inl s) | inr p ↦ inr (inr (same_text y b.name is ∙ p.0, p.1)) ]
    by_test rest false is = rest

kept_expr : (j : ℕ) (vars : List Variable) (y : List ℕ) → variable_expr (ports_kept j vars) y ≡ for_port j (variable_expr vars y)
kept_expr j [] y = refl
kept_expr j (b ∷ vars) y = by_test (kept_expr j vars y) (same_name y b.name)
  where
    by_test : variable_expr (ports_kept j vars) y ≡ for_port j (variable_expr vars y) → (t : Bool)
        → (if t then for_port j b.expr else variable_expr (ports_kept j vars) y) ≡ for_port j (if t then b.expr else variable_expr vars y)
    by_test rest true = refl
    by_test rest false = rest

still_sort : (c out : Within) (e : P4Expr) → out.program ≡ c.program → IsStill e → p4_sort out e ≡ p4_sort c e
still_sort c out (p_lit w n) h s = refl
still_sort c out (p_meta i) h s = ap (λ p. meta_sort p i) h
still_sort c out e h s = absurd s

still_same : (j : ℕ) (e : P4Expr) → IsStill e → for_port j e ≡ e
still_same j (p_lit w n) s = refl
still_same j (p_meta i) s = refl
still_same j e s = absurd s

no_truth : (c : Within) (e : P4Expr) (w : ℕ) → e ≡ p_truth false → p4_sort c e ≡ Some (bits_sort w) → ⊥
no_truth c e w is h = let k : Some truth_sort ≡ Some (bits_sort w) = ap (p4_sort c) (sym is) ∙ h in absurd (cc)

port_width : (c : Within) (e : P4Expr) (w : ℕ) → c.in_ingress ≡ true → e ≡ p_port → p4_sort c e ≡ Some (bits_sort w) → 16 ≡ w
port_width c e w i is h = let k : Some (bits_sort 16) ≡ Some (bits_sort w) = ap (λ b. kept_if b (bits_sort 16)) (sym i) ∙ ap (p4_sort c) (sym is) ∙ h in cc

-- with the port kept in a field
kept_read : (c out : Within) (ps : List Param) (vars : List Variable) (V W : List ℕ → Type 0) (port : List ℕ) (j : ℕ) → out.program ≡ c.program → c.in_ingress ≡ true → PortOnly port vars
    → meta_sort c.program j ≡ Some (bits_sort 16) → ((y : List ℕ) → W y → V y) → VarsOk c ps vars V → VarsOk out ps (ports_kept j vars) W
kept_read c out ps vars V W port j same ingress only at wants read y w wanted is =
    let e = variable_expr vars y in
    let h = read y w (wants y wanted) is in
    ap (p4_sort out) (kept_expr j vars y) ∙ (elim (how_read port vars only y) [
      | inl t ↦ absurd (no_truth c e w t h)
      | inr r ↦ elim r [
        | inl s ↦ ap (p4_sort out) (still_same j e s) ∙ still_sort c out e same s ∙ h
        | inr p ↦ ap (λ z. p4_sort out (for_port j z)) p.1 ∙ ap (λ z. meta_sort z j) same ∙ at ∙ ap (λ z. Some (bits_sort z)) (port_width c e w ingress p.1 h)
      ]
    ])

-- where the port is not used
unkept_read : (c out : Within) (ps : List Param) (vars : List Variable) (V : List ℕ → Type 0) (port : List ℕ) (body : Block) → out.program ≡ c.program → PortOnly port vars → in_block port body ≡ false
    → ((y : List ℕ) → in_block y body ≡ true → V y) → VarsOk c ps vars V → VarsOk out ps vars (λ y. in_block y body ≡ true)
unkept_read c out ps vars V port body same only unused wants read y w wanted is =
    let e = variable_expr vars y in
    let h = read y w (wants y wanted) is in
    elim (how_read port vars only y) [
      | inl t ↦ absurd (no_truth c e w t h)
      | inr r ↦ elim r [
        | inl s ↦ still_sort c out e same s ∙ h
        | inr p ↦ absurd (clash (in_block port body) (ap (λ z. in_block z body) (sym p.0) ∙ wanted) unused)
      ]
    ]
  where
    clash : (b : Bool) → b ≡ true → b ≡ false → ⊥
    clash b p q = let k : true ≡ false = sym p ∙ q in absurd (cc)

-- ---- blocks

-- what the lowering of the ingress role's body, or of the block of a fork, stands in
pub record Stage (d : Design) (i : ℕ) (own exit : List ℕ) (c out : Within) (k : Callees) : Type 0 where
  pub ready : (ps : List Param) → Ready Any (scope_at d i ps true) c k
  pub groups : (f : List ℕ) (g : FunctionDecl) → named (λ (x : FunctionDecl). x.name) f (reverse (functions d)) ≡ Some g → (es : List P4Expr) (n : Counts)
      → CallPiece c (widths_of (params_before_last g.params)) (bits_sort 16) es n (k.group f es n)
  pub exits : (x : Role) → role_at i d exit ≡ Some x → widths_of x.params ≡ 16 ∷ 16 ∷ []
  pub found_same : (f : List ℕ) (g h : FunctionDecl) → named (λ (x : FunctionDecl). x.name) f (functions d) ≡ Some g → named (λ (x : FunctionDecl). x.name) f (reverse (functions d)) ≡ Some h → g ≡ h
  pub site_field : meta_sort c.program 0 ≡ Some (bits_sort 8)
  pub same : out.program ≡ c.program

pub record BlockPiece (d : Design) (i : ℕ) (own exit : List ℕ) (c out : Within) (ps : List Param) (vars : List Variable) (V : List ℕ → Type 0) (n : Counts) (b : LoweredBlock) (after : List Param) : Type 0 where
  pub logged : Logged n b.made b.next
  pub kinds : MadeOk c b.made → VarsOk c ps vars V → SmallSites b.sites → (code_fits c b.code ≡ true) × VarsOk c after b.vars V × SitesOk d i own exit out b.sites

-- outside of the blocks of forks: in ingress, and no variable but the port is read from the port
abbrev pub Outside : Bool → Within → (port : List ℕ) → List Variable → Type 0
Outside inside c port vars = inside ≡ false → (c.in_ingress ≡ true) × PortOnly port vars

field_logged : (n k : Counts) (made : List Made) (w : ℕ) → Logged n made k → is_declared_width w ≡ true
    → Logged n (made ++ (a_field (var_name k.var) k.field w ∷ [])) (record { app = k.app; var = suc k.var; field = suc k.field; site = k.site })
field_logged n k made w h d = record {
  declared = declared_both made (a_field (var_name k.var) k.field w ∷ []) h.declared (d, tt);
  names = named_both n.app n.var (Some 0) made (a_field (var_name k.var) k.field w ∷ []) k.app k.var k.app (suc k.var) h.names (refl, refl, (refl, refl, refl));
}

filter_fits : (c : Within) (e : P4Expr) → p4_sort c e ≡ Some truth_sort → code_fits c (filter_code e) ≡ true
filter_fits c e h = code_one c (p_if (p_unary not_ e) (p_then p_return p_done)) [] (true_both (has_sort truth_sort (p4_sort c (p_unary not_ e))) true (has_of (p4_sort c (p_unary not_ e)) truth_sort (ap (option_and_then (unary_sort not_)) h)) refl) refl

if_fits : (c : Within) (e : P4Expr) (a b : List P4Stmt) → p4_sort c e ≡ Some truth_sort → code_fits c a ≡ true → code_fits c b ≡ true → stmt_fits c (if_stmt e a b) ≡ true
if_fits c e a [] h f g = true_both (has_sort truth_sort (p4_sort c e)) (code_fits c a) (has_of (p4_sort c e) truth_sort h) f
if_fits c e a (x ∷ b) h f g =
    true_both ((has_sort truth_sort (p4_sort c e) && code_fits c a) && true) (code_fits c (x ∷ b))
    (true_both (has_sort truth_sort (p4_sort c e) && code_fits c a) true (true_both (has_sort truth_sort (p4_sort c e)) (code_fits c a) (has_of (p4_sort c e) truth_sort h) f) refl) g

copy_fits : (c : Within) (q : ℕ) (e : P4Expr) → c.in_ingress ≡ true → meta_sort c.program 0 ≡ Some (bits_sort 8) → q < 2 ^ 8 → p4_sort c e ≡ Some (bits_sort 16) → code_fits c (copy_code q e) ≡ true
copy_fits c q e ingress at small h =
    code_one c (set_meta 0 (p_lit 8 q)) (group e ∷ verdict 2 ∷ p_return ∷ []) (same_of (meta_sort c.program 0) (p4_sort c (p_lit 8 q)) (bits_sort 8) at (lit_sort c 8 q refl small))
    (code_one c (group e) (verdict 2 ∷ p_return ∷ []) (true_both c.in_ingress (has_sort (bits_sort 16) (p4_sort c e)) ingress (has_of (p4_sort c e) (bits_sort 16) h))
    (code_one c (verdict 2) (p_return ∷ []) (ap (λ b. b && true) ingress) refl))

send_fits : (c : Within) (es : List P4Expr) → SortsAt c (16 ∷ 16 ∷ []) es → code_fits c (send_code es) ≡ true
send_fits c [] h = absurd h
send_fits c (a ∷ []) h = absurd h.1
send_fits c (a ∷ b ∷ []) h =
    code_one c (verdict 1) (egress_port b ∷ p_return ∷ []) refl (code_one c (egress_port b) (p_return ∷ []) (has_of (p4_sort c b) (bits_sort 16) h.1.0) refl)
send_fits c (a ∷ b ∷ e ∷ es) h = absurd h.1.1

before_last_wide : (e : Expr) (es : Exprs) → wide_exprs (expr e es) ≡ true → wide_exprs (before_last_after e es) ≡ true
before_last_wide e no_exprs h = refl
before_last_wide e (expr a es) h = let both = both_true (wide_expr e) (wide_exprs (expr a es)) h in true_both (wide_expr e) (wide_exprs (before_last_after a es)) both.0 (before_last_wide a es both.1)

-- the lowering of a fork's arguments, and of its group
group_lowered : (d : Design) (i : ℕ) (own exit : List ℕ) (c out : Within) (k : Callees) (V : List ℕ → Type 0) → Stage d i own exit c out k → (ps : List Param) (vars : List Variable) (x : Name) (w : ℕ) (e : Expr)
    → IsForkCall (reverse (functions d)) x.text w e → HasType (with_var x w (scope_at d i ps true)) truth_sort e → wide_expr e ≡ true → ((y : List ℕ) → in_expr y e ≡ true → V y) → (n : Counts)
    → (r : Lowered) → r ≡ then_called (lower_exprs k vars n (fork_args e)) (k.group (fork_function e)) → Piece c ps vars V n r.made r.code r.next (p4_sort c r.expr ≡ Some (bits_sort 16))
group_lowered d i own exit c out k V g ps vars x w e calls h wide wanted n r is =
    subst (λ z. Piece c ps vars V n z.made z.code z.next (p4_sort c z.expr ≡ Some (bits_sort 16))) (sym is) (by_call e calls h wide wanted)
  where
    by_args : (at : ℕ) (f : Name) (u : FunctionDecl) → named (λ (y : FunctionDecl). y.name) f.text (reverse (functions d)) ≡ Some u → (qs : List Param) → u.params ≡ qs → (es : Exprs)
        → args_fit (widths_of qs) (sorts_of (with_var x w (scope_at d i ps true)) es) ≡ true → EndsWith x.text es → AllFine Any (parts_of es) → wide_exprs es ≡ true → ((y : List ℕ) → in_exprs y es ≡ true → V y)
        → (a : LoweredAll) → a ≡ lower_exprs k vars n (fork_args (call at f es)) → (z : Lowered) → z ≡ k.group f.text a.exprs a.next
        → Piece c ps vars V n (a.made ++ z.made) (a.code ++ z.code) z.next (p4_sort c z.expr ≡ Some (bits_sort 16))
    by_args at f u named_is qs are no_exprs fit ends fine wides wants a ais z zis = absurd ends
    by_args at f u named_is [] are (expr b es) fit ends fine wides wants a ais z zis = absurd (cc)
    by_args at f u named_is (p ∷ rest) are (expr b es) fit ends fine wides wants a ais z zis =
        let s = scope_at d i ps true in
        let args : Piece c ps vars V n a.made a.code a.next (SortsAt c (widths_of (before_last_from p rest)) a.exprs) =
        subst (λ y. Piece c ps vars V n y.made y.code y.next (SortsAt c (widths_of (before_last_from p rest)) y.exprs)) (sym ais)
        (kinded_all Any s c k V (g.ready ps) vars (before_last_after b es) (widths_of (before_last_from p rest)) (λ y j. fine y (before_last_part b es y j)) (before_last_wide b es wides) (before_last_fits x w s p rest b es ends fit) (λ y j. wants y (before_last_name b es y j)) n) in
        let own : CallPiece c (widths_of (params_before_last u.params)) (bits_sort 16) a.exprs a.next z =
        subst (CallPiece c (widths_of (params_before_last u.params)) (bits_sort 16) a.exprs a.next) (sym zis) (g.groups f.text u named_is a.exprs a.next) in record {
          logged = logged_both n a.next z.next a.made z.made args.logged own.logged;
          kinds = λ ok read.
              let p' = args.kinds (made_left c a.made z.made ok) read in
              let q' = own.kinds (made_right c a.made z.made ok) (subst (λ ys. SortsAt c (widths_of (params_before_last ys)) a.exprs) (sym are) p'.1) in
              (code_both c a.code z.code p'.0 q'.0, q'.1);
        }

    by_call : (q : Expr) → IsForkCall (reverse (functions d)) x.text w q → HasType (with_var x w (scope_at d i ps true)) truth_sort q → wide_expr q ≡ true → ((y : List ℕ) → in_expr y q ≡ true → V y)
        → Piece c ps vars V n (then_called (lower_exprs k vars n (fork_args q)) (k.group (fork_function q))).made (then_called (lower_exprs k vars n (fork_args q)) (k.group (fork_function q))).code
        (then_called (lower_exprs k vars n (fork_args q)) (k.group (fork_function q))).next (p4_sort c (then_called (lower_exprs k vars n (fork_args q)) (k.group (fork_function q))).expr ≡ Some (bits_sort 16))
    by_call (call at f es) u t wides wants =
        let s = with_var x w (scope_at d i ps true) in
        let found = then_there (λ (y : FunctionDecl). if args_fit (widths_of y.params) (sorts_of s es) then Some (result_sort y.result) else None) (function_named s f.text) truth_sort t.0 in
        let fit = if_there (args_fit (widths_of found.0.params) (sorts_of s es)) (result_sort found.0.result) truth_sort found.2 in
        let same = call_same u.at at u.callee f u.values es (sym u.call_is) in
        let named_is : named (λ (y : FunctionDecl). y.name) f.text (reverse (functions d)) ≡ Some u.function = subst (λ y. named (λ (z : FunctionDecl). z.name) y.text (reverse (functions d)) ≡ Some u.function) same.0 u.function_is in
        let one : found.0 ≡ u.function = g.found_same f.text found.0 u.function found.1 named_is in
        let a = lower_exprs k vars n (fork_args (call at f es)) in
        by_args at f u.function named_is u.function.params refl es (subst (λ (y : FunctionDecl). args_fit (widths_of y.params) (sorts_of s es) ≡ true) one fit.0) (subst (EndsWith x.text) same.1 u.values_end)
        (λ y l. all_fine (call at f es) t.1 y (inr l)) wides wants a refl (k.group f.text a.exprs a.next) refl
      where
        call_same : (p q : ℕ) (f g : Name) (xs ys : Exprs) → call p f xs ≡ call q g ys → (f ≡ g) × (xs ≡ ys)
        call_same p q f g xs ys e = (cc, cc)
    by_call (name at y) u t wides wants = let z : name at y ≡ call u.at u.callee u.values = u.call_is in absurd (cc)
    by_call (field at y f) u t wides wants = let z : field at y f ≡ call u.at u.callee u.values = u.call_is in absurd (cc)
    by_call (lit at v m) u t wides wants = let z : lit at v m ≡ call u.at u.callee u.values = u.call_is in absurd (cc)
    by_call (true_or_false at b) u t wides wants = let z : true_or_false at b ≡ call u.at u.callee u.values = u.call_is in absurd (cc)
    by_call (unary at op b) u t wides wants = let z : unary at op b ≡ call u.at u.callee u.values = u.call_is in absurd (cc)
    by_call (binary at op b f) u t wides wants = let z : binary at op b f ≡ call u.at u.callee u.values = u.call_is in absurd (cc)
    by_call (slice at b high low) u t wides wants = let z : slice at b high low ≡ call u.at u.callee u.values = u.call_is in absurd (cc)
    by_call (pick at b f l) u t wides wants = let z : pick at b f l ≡ call u.at u.callee u.values = u.call_is in absurd (cc)

-- a fork that is reached outside of the blocks of forks
fork_piece : (d : Design) (i : ℕ) (own exit : List ℕ) (c out : Within) (k : Callees) (V : List ℕ → Type 0) → Stage d i own exit c out k → (ps : List Param) (vars : List Variable) (x : Name) (w : ℕ) (body : Block) (n : Counts) (r : Lowered)
    → c.in_ingress ≡ true → PortOnly k.port vars → is_declared_width w ≡ true → IsTyped (scope_at d i (one_more x w ps) true) body → Formed (reverse (functions d)) own exit true (one_more x w ps) body → wide_block body ≡ true
    → ((y : List ℕ) → in_block y body ≡ true → V y) → Piece c ps vars V n r.made r.code r.next (p4_sort c r.expr ≡ Some (bits_sort 16)) → (saves : Bool) → in_block k.port body ≡ saves
    → BlockPiece d i own exit c out ps vars V n (forked x.text w body saves vars r) ps
fork_piece d i own exit c out k V g ps vars x w body n r ingress only declared typed formed wide wants piece true saves =
    let last : List Made = a_field (var_name r.next.var) r.next.field 16 ∷ [] in
    let logged = field_logged n r.next r.made 16 piece.logged refl in record {
      logged = record { declared = logged.declared; names = logged.names };
      kinds = λ ok read small.
          let p = piece.kinds (made_left c r.made last ok) read in
          let at = (made_right c r.made last ok).0 in (
            code_both c r.code (set_meta r.next.field p_port ∷ copy_code r.next.site r.expr) p.0
                (code_one c (set_meta r.next.field p_port) (copy_code r.next.site r.expr) (same_of (meta_sort c.program r.next.field) (p4_sort c p_port) (bits_sort 16) at (ap (λ b. kept_if b (bits_sort 16)) ingress))
                (copy_fits c r.next.site r.expr ingress g.site_field small.0 p.1)),
            read,
            (
              record {
                params = ps;
                x = x;
                x_is = refl;
                declared = declared;
                typed = typed;
                formed = formed;
                wide = wide;
                read = kept_read c out ps vars V (λ y. in_block y body ≡ true) k.port r.next.field g.same ingress only at wants read;
              },
              tt,
            ),
          );
    }
fork_piece d i own exit c out k V g ps vars x w body n r ingress only declared typed formed wide wants piece false saves = record {
  logged = record { declared = piece.logged.declared; names = piece.logged.names };
  kinds = λ ok read small.
      let p = piece.kinds ok read in (
        code_both c r.code (copy_code r.next.site r.expr) p.0 (copy_fits c r.next.site r.expr ingress g.site_field small.0 p.1),
        read,
        (
          record {
            params = ps;
            x = x;
            x_is = refl;
            declared = declared;
            typed = typed;
            formed = formed;
            wide = wide;
            read = unkept_read c out ps vars V k.port body g.same only saves wants read;
          },
          tt,
        ),
      );
}

-- the variables in scope after a block
abbrev pub block_vars : Block → List Param → List Param
block_vars no_stmts ps = ps
block_vars (stmt first rest) ps = block_vars rest (after_vars first ps)

mutual
  pub stmt_kinds : (d : Design) (i : ℕ) (own exit : List ℕ) (c out : Within) (k : Callees) (V : List ℕ → Type 0) → Stage d i own exit c out k → (inside : Bool) (st : Stmt) (ps : List Param) → IsTypedStmt (scope_at d i ps true) st
      → FormedStmt (reverse (functions d)) own exit inside ps st → wide_stmt st ≡ true → (vars : List Variable) → Outside inside c k.port vars → ((y : List ℕ) → in_stmt y st ≡ true → V y) → (n : Counts)
      → BlockPiece d i own exit c out ps vars V n (lower_stmt k vars n st) (after_vars st ps)
  stmt_kinds d i own exit c out k V g inside (let_ at x w e) ps h f wide vars outside wanted n =
      let r = lower_expr k vars n e in
      let last : List Made = a_field (var_name r.next.var) r.next.field w ∷ [] in
      let piece = kinded Any (scope_at d i ps true) c k V (g.ready ps) vars e (bits_sort w) (all_fine e h.1.1) wide h.1.0 wanted n in
      let logged = field_logged n r.next r.made w piece.logged h.0 in record {
        logged = record { declared = logged.declared; names = logged.names };
        kinds = λ ok read small.
            let p = piece.kinds (made_left c r.made last ok) read in
            let at' = (made_right c r.made last ok).0 in (
              code_both c r.code (set_meta r.next.field r.expr ∷ []) p.0 (code_one c (set_meta r.next.field r.expr) [] (same_of (meta_sort c.program r.next.field) (p4_sort c r.expr) (bits_sort w) at' p.1) refl),
              extend c ps vars V x w (p_meta r.next.field) at' read,
              tt,
            );
      }
  stmt_kinds d i own exit c out k V g inside (set_field at x f' e) ps h f wide vars outside wanted n =
      let r = lower_expr k vars n e in
      let ready = g.ready ps in
      let piece = kinded Any (scope_at d i ps true) c k V ready vars e (bits_sort h.0) (all_fine e h.2.1) wide h.2.0 wanted n in
      let to = set_header (header_place k.headers x.text) (field_place k.headers x.text f'.text) r.expr in record {
        logged = piece.logged;
        kinds = λ ok read small.
            let p = piece.kinds ok read in (
              code_both c r.code (to ∷ []) p.0
                  (code_one c to [] (same_of (field_sort c.program (header_place k.headers x.text) (field_place k.headers x.text f'.text)) (p4_sort c r.expr) (bits_sort h.0)
                  (ap (λ hs. field_sort c.program (header_place hs x.text) (field_place hs x.text f'.text)) ready.headers_are ∙ ready.fields x.text f'.text h.0 refl h.1) p.1) refl),
              read,
              tt,
            );
      }
  stmt_kinds d i own exit c out k V g inside (if_ at e x y) ps h f wide vars outside wanted n =
      let w = both_true (wide_expr e && wide_block x) (wide_block y) wide in
      let v = both_true (wide_expr e) (wide_block x) w.0 in
      let r = lower_expr k vars n e in
      let a = lower_block k vars r.next x in
      let b = lower_block k vars a.next y in
      let piece = kinded Any (scope_at d i ps true) c k V (g.ready ps) vars e truth_sort (all_fine e h.0.1) v.0 h.0.0 (λ z j. wanted z (left_in (in_expr z e || in_block z x) (in_block z y) (left_in (in_expr z e) (in_block z x) j))) n in
      let first = block_kinds d i own exit c out k V g inside x ps h.1 f.0 v.1 vars outside (λ z j. wanted z (left_in (in_expr z e || in_block z x) (in_block z y) (right_in (in_expr z e) (in_block z x) j))) r.next in
      let second = block_kinds d i own exit c out k V g inside y ps h.2 f.1 w.1 vars outside (λ z j. wanted z (right_in (in_expr z e || in_block z x) (in_block z y) j)) a.next in record {
        logged = logged_both n r.next b.next r.made (a.made ++ b.made) piece.logged (logged_both r.next a.next b.next a.made b.made first.logged second.logged);
        kinds = λ ok read small.
            let more = made_right c r.made (a.made ++ b.made) ok in
            let p = piece.kinds (made_left c r.made (a.made ++ b.made) ok) read in
            let q = first.kinds (made_left c a.made b.made more) read (small_left a.sites b.sites small) in
            let s = second.kinds (made_right c a.made b.made more) read (small_right a.sites b.sites small) in (
              code_both c r.code (if_stmt r.expr a.code b.code ∷ []) p.0 (code_one c (if_stmt r.expr a.code b.code) [] (if_fits c r.expr a.code b.code p.1 q.0 s.0) refl),
              read,
              sites_both d i own exit out a.sites b.sites q.2 s.2,
            );
      }
  stmt_kinds d i own exit c out k V g inside (filter at e) ps h f wide vars outside wanted n =
      let r = lower_expr k vars n e in
      let piece = kinded Any (scope_at d i ps true) c k V (g.ready ps) vars e truth_sort (all_fine e h.1) wide h.0 wanted n in record {
        logged = piece.logged;
        kinds = λ ok read small. let p = piece.kinds ok read in (code_both c r.code (filter_code r.expr) p.0 (filter_fits c r.expr p.1), read, tt);
      }
  stmt_kinds d i own exit c out k V g inside (havoc_var at x w) ps h f wide vars outside wanted n = absurd f
  stmt_kinds d i own exit c out k V g inside (havoc_field at x f') ps h f wide vars outside wanted n = absurd f
  stmt_kinds d i own exit c out k V g inside (assume at e) ps h f wide vars outside wanted n = absurd f
  stmt_kinds d i own exit c out k V g inside (fork at x w e b) ps h f wide vars outside wanted n =
      let v = both_true (wide_expr e) (wide_block b) wide in
      let there = outside f.0 in
      let r = then_called (lower_exprs k vars n (fork_args e)) (k.group (fork_function e)) in
      fork_piece d i own exit c out k V g ps vars x w b n r there.0 there.1 h.0 h.2 f.3 v.1 (λ y j. wanted y (right_in (in_expr y e) (in_block y b) j))
      (group_lowered d i own exit c out k V g ps vars x w e f.2 h.1 v.0 (λ y j. wanted y (left_in (in_expr y e) (in_block y b) j)) n r refl) (in_block k.port b) refl
  stmt_kinds d i own exit c out k V g inside (send at r es) ps h f wide vars outside wanted n =
      let s = scope_at d i ps true in
      let ws = widths_of h.0.params in
      let sixteen : ws ≡ 16 ∷ 16 ∷ [] = g.exits h.0 (ap (role_at i d) (sym f.role_is) ∙ h.1) in
      let a = lower_exprs k vars n es in
      let piece = kinded_all Any s c k V (g.ready ps) vars es ws (widths_fine s ws es h.2) wide (widths_args s ws es h.2) wanted n in record {
        logged = piece.logged;
        kinds = λ ok read small. let p = piece.kinds ok read in (code_both c a.code (send_code a.exprs) p.0 (send_fits c a.exprs (subst (λ z. SortsAt c z a.exprs) sixteen p.1)), read, tt);
      }

  pub block_kinds : (d : Design) (i : ℕ) (own exit : List ℕ) (c out : Within) (k : Callees) (V : List ℕ → Type 0) → Stage d i own exit c out k → (inside : Bool) (b : Block) (ps : List Param) → IsTyped (scope_at d i ps true) b
      → Formed (reverse (functions d)) own exit inside ps b → wide_block b ≡ true → (vars : List Variable) → Outside inside c k.port vars → ((y : List ℕ) → in_block y b ≡ true → V y) → (n : Counts)
      → BlockPiece d i own exit c out ps vars V n (lower_block k vars n b) (block_vars b ps)
  block_kinds d i own exit c out k V g inside no_stmts ps h f wide vars outside wanted n = record { logged = logged_none n; kinds = λ ok read small. (refl, read, tt) }
  block_kinds d i own exit c out k V g inside (stmt first rest) ps h f wide vars outside wanted n =
      let w = both_true (wide_stmt first) (wide_block rest) wide in
      let a = lower_stmt k vars n first in
      let b = lower_block k a.vars a.next rest in
      let one = stmt_kinds d i own exit c out k V g inside first ps h.0 f.0 w.0 vars outside (λ y j. wanted y (left_in (in_stmt y first) (in_block y rest) j)) n in
      let more = block_kinds d i own exit c out k V g inside rest (after_vars first ps) (subst (λ t. IsTyped t rest) (after_scope first (scope_at d i ps true)) h.1) f.1 w.1 a.vars
      (λ e. let t = outside e in (t.0, stmt_vars k first vars n t.1)) (λ y j. wanted y (right_in (in_stmt y first) (in_block y rest) j)) a.next in record {
        logged = logged_both n a.next b.next a.made b.made one.logged more.logged;
        kinds = λ ok read small.
            let p = one.kinds (made_left c a.made b.made ok) read (small_left a.sites b.sites small) in
            let q = more.kinds (made_right c a.made b.made ok) p.1 (small_right a.sites b.sites small) in
            (code_both c a.code b.code p.0 q.0, q.1, sites_both d i own exit out a.sites b.sites p.2 q.2);
      }
