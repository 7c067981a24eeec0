-- The lowering of a call has the type of the function's result, and its code keeps the kind rules.
use Rattle.std.proofs.Common.{◌≡◌, inl, inr, ℕ, suc, ◌==◌, List, [], ◌∷◌, ◌++◌, reverse, Bool, true, false, cond, Option, Some, None, if◌then◌else◌, option_map, refl, sym, ap, subst, ◌∙◌}
use Rattle.std.proofs.lemmas.List.{append-nil, append_assoc, reverse-append}
use Rattle.cocoon_num.specs.Lists.{has_number}
use Rattle.cocoon_num.specs.Names.{same_name, named}
use Rattle.cocoon_num.specs.Sorts.{Sort, bits_sort, truth_sort, is_declared_width, pick_sort, work_sort}
use Rattle.cocoon_num.specs.Tree.{Param, Expr, FunctionDecl, HeaderDecl, Design, ResultKind, of_width, of_truth}
use Rattle.cocoon_num.specs.Values.{compares, equal, with_both, with_all}
use Rattle.cocoon_types.specs.Design.{functions, widths_of}
use Rattle.cocoon_types.specs.Typing.{result_sort}
use Rattle.p4_ir.specs.P4Kinds.{Within, meta_sort, p4_sort}
use Rattle.p4_ir.specs.P4Tree.{P4Expr, p_lit, p_meta, p_binary, P4Table, apply_table, set_meta}
use Rattle.lowering.specs.Lower.{Counts, FieldName, Lowered, Made, a_field, a_table, a_group, after_args, by_group, by_table, callees, closed, fields_from, params_before_last, kept, key_name, kind_width, lower_call, lower_expr, lower_group, numbers_from, past, read_back, result_name, sets, var_name, variable_expr, variables_from}
use Rattle.lowering_fits.specs.WideLiterals.{if_some, wide_expr}
use Rattle.sound_types.specs.WellTyped.{scope_at}
use Rattle.sound_types.proofs.Functions.{AreTypedBodies, IsNameOf, IsTypedBody, NamesDiffer}
use Rattle.sound_types.proofs.Members.{In, in_either, in_left, in_right, named_there}
use Rattle.sound_types.proofs.Options.{same_self, same_text, text_self}
use Rattle.sound_types.proofs.Variables.{width_among}
use Rattle.lowering_fits.proofs.ExprKinds.{CallPiece, MadeOk, Piece, Ready, SortsAt, VarsOk, code_both, code_fits, code_one, kinded, made_left, made_right, same_of}
use Rattle.lowering_fits.proofs.Logged.{ParamsDeclared, declared_both, fields_declared, keys_named, named_both, vars_named}
use Rattle.lowering_correct.proofs.Taking.{some_same}

-- ---- fields that are made for parameters

-- they have the parameters' widths
abbrev FieldsFor : Within → ℕ → List Param → Type 0
FieldsFor c i [] = Unit {0}
FieldsFor c i (p ∷ ps) = (meta_sort c.program i ≡ Some (bits_sort p.width)) × FieldsFor c (suc i) ps

fields_for : (c : Within) (called : ℕ → FieldName) (j i : ℕ) (ps : List Param) → MadeOk c (fields_from called j i ps) → FieldsFor c i ps
fields_for c called j i [] h = tt
fields_for c called j i (p ∷ ps) h = (h.0, fields_for c called (suc j) (suc i) ps h.1)

sets_fit : (c : Within) (i : ℕ) (ps : List Param) (es : List P4Expr) → FieldsFor c i ps → SortsAt c (widths_of ps) es → code_fits c (sets i es) ≡ true
sets_fit c i [] [] h g = refl
sets_fit c i [] (e ∷ es) h g = absurd g
sets_fit c i (p ∷ ps) [] h g = absurd g
sets_fit c i (p ∷ ps) (e ∷ es) h g = code_one c (set_meta i e) (sets (suc i) es) (same_of (meta_sort c.program i) (p4_sort c e) (bits_sort p.width) h.0 g.0) (sets_fit c (suc i) ps es h.1 g.1)

-- parameters are read from them
params_read : (c : Within) (V : List ℕ → Type 0) (i : ℕ) (ps : List Param) → FieldsFor c i ps → VarsOk c ps (variables_from i ps) V
params_read c V i [] h x w v e = absurd (cc)
params_read c V i (p ∷ ps) h x w v e = by_test (params_read c V (suc i) ps h.1 x w v) (same_name x p.name.text) e
  where
    by_test : (width_among ps x ≡ Some w → p4_sort c (variable_expr (variables_from (suc i) ps) x) ≡ Some (bits_sort w)) → (b : Bool)
        → option_map (λ (q : Param). q.width) (cond b (Some p) (named (λ (q : Param). q.name) x ps)) ≡ Some w
        → p4_sort c (if b then p_meta i else variable_expr (variables_from (suc i) ps) x) ≡ Some (bits_sort w)
    by_test rest true k = let same : p.width ≡ w = cc in h.0 ∙ ap (λ y. Some (bits_sort y)) same
    by_test rest false k = rest k

-- ---- results

pub equal_sort : (c : Within) (a b : P4Expr) (w : ℕ) → p4_sort c a ≡ Some (bits_sort w) → p4_sort c b ≡ Some (bits_sort w) → p4_sort c (p_binary equal a b) ≡ Some truth_sort
equal_sort c a b w p q = (λ i. with_both (work_sort (compares (λ x y. x == y))) (p i) (q i)) ∙ ap (λ t. if t then Some truth_sort else None) (same_self w)

read_sort : (c : Within) (k : ResultKind) (i : ℕ) → meta_sort c.program i ≡ Some (bits_sort (kind_width k)) → p4_sort c (read_back k i) ≡ Some (result_sort k)
read_sort c (of_width w) i h = h
read_sort c of_truth i h = equal_sort c (p_meta i) (p_lit 1 1) 1 h refl

kept_sort : (c : Within) (k : ResultKind) (e : P4Expr) → p4_sort c e ≡ Some (result_sort k) → p4_sort c (kept k e) ≡ Some (bits_sort (kind_width k))
kept_sort c (of_width w) e h = h
kept_sort c of_truth e h = ap (λ o. with_all pick_sort o (Some (bits_sort 1)) (Some (bits_sort 1))) h

-- ---- a call by a table

-- a function's parameters and its result have declared widths
pub record IsDeclaredFunction (g : FunctionDecl) : Type 0 where
  pub params : ParamsDeclared g.params
  pub result : is_declared_width (kind_width g.result) ≡ true

before_last_declared : (ps : List Param) → ParamsDeclared ps → ParamsDeclared (params_before_last ps)
before_last_declared [] h = tt
before_last_declared (p ∷ []) h = tt
before_last_declared (p ∷ q ∷ ps) h = (h.0, before_last_declared (q ∷ ps) h.1)

table_end : (c : Within) (n : ℕ) → has_number n c.tables ≡ true → code_fits c (apply_table n ∷ []) ≡ true
table_end c n h = code_one c (apply_table n) [] h refl

by_table_piece : (c : Within) (g : FunctionDecl) → IsDeclaredFunction g → (es : List P4Expr) (n : Counts) → CallPiece c (widths_of g.params) (result_sort g.result) es n (by_table g es n)
by_table_piece c g d es n =
    let i = past n.field g.params in
    let t : P4Table = record { number = n.app; exact = false; keys = numbers_from n.field g.params; result = i } in
    let rest : List Made = a_field (result_name n.app) i (kind_width g.result) ∷ a_table t g.name.text g.params ∷ [] in
    let first = fields_from (key_name n.app) 0 n.field g.params in record {
      logged = record {
        declared = declared_both first rest (fields_declared (key_name n.app) 0 n.field g.params d.params) (d.result, tt);
        names = keys_named n.app n.var 0 n.field g.params rest (suc n.app) n.var (λ m. (refl, (refl, refl, refl)));
      };
      kinds = λ ok sorts.
          let fields = fields_for c (key_name n.app) 0 n.field g.params (made_left c first rest ok) in
          let own = made_right c first rest ok in (
            code_both c (sets n.field es) (apply_table n.app ∷ []) (sets_fit c n.field g.params es fields sorts) (table_end c n.app own.1.0),
            read_sort c g.result i own.0,
          );
    }

by_group_piece : (c : Within) (g : FunctionDecl) → IsDeclaredFunction g → (es : List P4Expr) (n : Counts) → CallPiece c (widths_of (params_before_last g.params)) (bits_sort 16) es n (by_group g es n)
by_group_piece c g d es n =
    let ps = params_before_last g.params in
    let i = past n.field ps in
    let t : P4Table = record { number = n.app; exact = true; keys = numbers_from n.field ps; result = i } in
    let rest : List Made = a_field (result_name n.app) i 16 ∷ a_group t g.name.text ps ∷ [] in
    let first = fields_from (key_name n.app) 0 n.field ps in record {
      logged = record {
        declared = declared_both first rest (fields_declared (key_name n.app) 0 n.field ps (before_last_declared g.params d.params)) (refl, tt);
        names = keys_named n.app n.var 0 n.field ps rest (suc n.app) n.var (λ m. (refl, (refl, refl, refl)));
      };
      kinds = λ ok sorts.
          let fields = fields_for c (key_name n.app) 0 n.field ps (made_left c first rest ok) in
          let own = made_right c first rest ok in
          (code_both c (sets n.field es) (apply_table n.app ∷ []) (sets_fit c n.field ps es fields sorts) (table_end c n.app own.1.0), own.0);
    }

either_piece : (c : Within) (ws : List ℕ) (t : Sort) (es : List P4Expr) (n : Counts) (b : Bool) (x y : Lowered) → (b ≡ true → CallPiece c ws t es n x) → (b ≡ false → CallPiece c ws t es n y) → CallPiece c ws t es n (cond b x y)
either_piece c ws t es n true x y f g = f refl
either_piece c ws t es n false x y f g = g refl

-- the group of the first function of the name
pub group_piece : (c : Within) (fs : List FunctionDecl) (f : List ℕ) (g : FunctionDecl) → ((h : FunctionDecl) → In h fs → IsDeclaredFunction h) → named (λ (x : FunctionDecl). x.name) f fs ≡ Some g
    → (es : List P4Expr) (n : Counts) → CallPiece c (widths_of (params_before_last g.params)) (bits_sort 16) es n (lower_group fs f es n)
group_piece c [] f g d is es n = absurd (cc)
group_piece c (h ∷ fs) f g d is es n = by_test (λ k. group_piece c fs f g (λ x i. d x (inr i)) k es n) (same_name f h.name.text) is
  where
    by_test : (named (λ (x : FunctionDecl). x.name) f fs ≡ Some g → CallPiece c (widths_of (params_before_last g.params)) (bits_sort 16) es n (lower_group fs f es n)) → (b : Bool)
        → cond b (Some h) (named (λ (x : FunctionDecl). x.name) f fs) ≡ Some g
        → CallPiece c (widths_of (params_before_last g.params)) (bits_sort 16) es n (if b then by_group h es n else lower_group fs f es n)
    by_test rest true k = subst (λ x. CallPiece c (widths_of (params_before_last x.params)) (bits_sort 16) es n (by_group h es n)) (some_same h g k) (by_group_piece c h (d h (inl refl)) es n)
    by_test rest false k = rest k

-- ---- a call of a body

closed_piece : (c : Within) (g : FunctionDecl) → IsDeclaredFunction g → (es : List P4Expr) (n : Counts) (r : Lowered)
    → Piece c g.params (variables_from n.field g.params) (λ x. Unit {0}) (after_args g n) r.made r.code r.next (p4_sort c r.expr ≡ Some (result_sort g.result))
    → CallPiece c (widths_of g.params) (result_sort g.result) es n (closed g es n r)
closed_piece c g d es n r piece =
    let first = fields_from var_name n.var n.field g.params in
    let last : List Made = a_field (var_name r.next.var) r.next.field (kind_width g.result) ∷ [] in
    let after = after_args g n in
    record {
      logged = record {
        declared = declared_both first (r.made ++ last) (fields_declared var_name n.var n.field g.params d.params) (declared_both r.made last piece.logged.declared (d.result, tt));
        names = named_both n.app n.var (Some 0) first (r.made ++ last) n.app (past n.var g.params) r.next.app (suc r.next.var) (vars_named n.app n.var n.field g.params)
            (named_both n.app (past n.var g.params) (Some 0) r.made last r.next.app r.next.var r.next.app (suc r.next.var) piece.logged.names (refl, refl, (refl, refl, refl)));
      };
      kinds = λ ok sorts.
          let fields = fields_for c var_name n.var n.field g.params (made_left c first (r.made ++ last) ok) in
          let more = made_right c first (r.made ++ last) ok in
          let inner = piece.kinds (made_left c r.made last more) (params_read c (λ x. Unit {0}) n.field g.params fields) in
          let own = made_right c r.made last more in (
            code_both c (sets n.field es) (r.code ++ (set_meta r.next.field (kept g.result r.expr) ∷ [])) (sets_fit c n.field g.params es fields sorts)
                (code_both c r.code (set_meta r.next.field (kept g.result r.expr) ∷ []) inner.0
                (code_one c (set_meta r.next.field (kept g.result r.expr)) []
                (same_of (meta_sort c.program r.next.field) (p4_sort c (kept g.result r.expr)) (bits_sort (kind_width g.result)) own.0 (kept_sort c g.result r.expr inner.1)) refl)),
            read_sort c g.result r.next.field own.0,
          );
    }

-- ---- all functions

-- calls of these functions
abbrev pub CallsOf : Within → List FunctionDecl → (List ℕ → List P4Expr → Counts → Lowered) → Type 0
CallsOf c fs a = (g : FunctionDecl) → In g fs → (es : List P4Expr) (n : Counts) → CallPiece c (widths_of g.params) (result_sort g.result) es n (a g.name.text es n)

-- the lowering of a function's call, by its body
abbrev lowered_by : List HeaderDecl → List FunctionDecl → FunctionDecl → List P4Expr → Counts → Option Expr → Lowered
lowered_by headers earlier d es n body = elim body [
  | None ↦ by_table d es n
  | Some e ↦ closed d es n (lower_expr (record { headers = headers; call = lower_call headers earlier; group = lower_group earlier; port = [] }) (variables_from n.field d.params) (after_args d n) e)
]

-- what is asked of the functions of a design
pub record FunctionsOk (d : Design) : Type 0 where
  pub differ : NamesDiffer d
  pub declared : (g : FunctionDecl) → In g (functions d) → IsDeclaredFunction g
  pub wide : (g : FunctionDecl) → In g (functions d) → if_some wide_expr g.body ≡ true

ready_before : (d : Design) → NamesDiffer d → (c : Within) (hs : List HeaderDecl) → hs ≡ d.headers → (before : List FunctionDecl) → ((h : FunctionDecl) → In h before → In h (functions d)) → CallsOf c before (lower_call hs (reverse before))
    → (vars : List Param) → Ready (IsNameOf before) (scope_at d 0 vars false) c (callees hs (reverse before) [])
ready_before d differ c hs are before within calls vars = record {
  headers_are = are;
  fields = λ h f w no there. absurd (cc);
  calls = λ f g at found es n.
      let t = named_there (λ (x : FunctionDecl). x.name) f (functions d) g found in
      let one : at.0 ≡ g = differ at.0 g (within at.0 at.1) t.0 (sym at.2 ∙ t.1) in
      subst (λ x. CallPiece c (widths_of g.params) (result_sort g.result) es n (lower_call hs (reverse before) x es n)) (sym t.1) (calls g (subst (λ x. In x before) one at.1) es n);
}

own_piece : (d : Design) → FunctionsOk d → (c : Within) (before : List FunctionDecl) → ((h : FunctionDecl) → In h before → In h (functions d)) → CallsOf c before (lower_call d.headers (reverse before))
    → (g : FunctionDecl) → In g (functions d) → IsTypedBody d before g → (es : List P4Expr) (n : Counts) (o : Option Expr) → g.body ≡ o
    → CallPiece c (widths_of g.params) (result_sort g.result) es n (lowered_by d.headers (reverse before) g es n o)
own_piece d ok c before within calls g at typed es n None is = by_table_piece c g (ok.declared g at) es n
own_piece d ok c before within calls g at typed es n (Some e) is =
    let k = typed e is in
    let wide : wide_expr e ≡ true = ap (if_some wide_expr) (sym is) ∙ ok.wide g at in
    let ready = ready_before d ok.differ c d.headers refl before within calls g.params in
    let vars = variables_from n.field g.params in
    closed_piece c g (ok.declared g at) es n (lower_expr (callees d.headers (reverse before) []) vars (after_args g n) e)
    (kinded (IsNameOf before) (scope_at d 0 g.params false) c (callees d.headers (reverse before) []) (λ x. Unit {0}) ready vars e (result_sort g.result) k.1 wide k.0 (λ x i. tt) (after_args g n))

one_more_call : (d : Design) → FunctionsOk d → (c : Within) (before : List FunctionDecl) (g : FunctionDecl) → ((h : FunctionDecl) → In h before → In h (functions d)) → In g (functions d) → IsTypedBody d before g
    → CallsOf c before (lower_call d.headers (reverse before)) → CallsOf c (before ++ g ∷ []) (lower_call d.headers (g ∷ reverse before))
one_more_call d ok c before g within at typed calls x i es n =
    either_piece c (widths_of x.params) (result_sort x.result) es n (same_name x.name.text g.name.text) (lowered_by d.headers (reverse before) g es n g.body) (lower_call d.headers (reverse before) x.name.text es n)
    (λ same.
    let one : g ≡ x = sym (ok.differ x g there at (same_text x.name.text g.name.text same)) in
    subst (λ (y : FunctionDecl). CallPiece c (widths_of y.params) (result_sort y.result) es n (lowered_by d.headers (reverse before) g es n g.body)) one
    (own_piece d ok c before within calls g at typed es n g.body refl))
    (λ other. elim (in_either x before (g ∷ []) i) [
      | inl k ↦ calls x k es n
      | inr k ↦ elim k [
        | inl e ↦ absurd (clash (same_name x.name.text g.name.text) (ap (λ (y : FunctionDecl). same_name y.name.text g.name.text) e ∙ text_self g.name.text) other)
        | inr m ↦ absurd m
      ]
    ])
  where
    clash : (b : Bool) → b ≡ true → b ≡ false → ⊥
    clash b p q = let k : true ≡ false = sym p ∙ q in absurd (cc)

    there : In x (functions d)
    there = elim (in_either x before (g ∷ []) i) [
      | inl k ↦ within x k
      | inr k ↦ elim k [ inl e ↦ subst (λ y. In y (functions d)) (sym e) at | inr m ↦ absurd m ]
    ]

calls_more : (d : Design) → FunctionsOk d → (c : Within) (before fs : List FunctionDecl) → before ++ fs ≡ functions d → AreTypedBodies d before fs → CallsOf c before (lower_call d.headers (reverse before))
    → CallsOf c (before ++ fs) (lower_call d.headers (reverse (before ++ fs)))
calls_more d ok c before [] all typed calls = subst (λ fs. CallsOf c fs (lower_call d.headers (reverse fs))) (sym (append-nil before)) calls
calls_more d ok c before (g ∷ rest) all typed calls =
    let same : (before ++ g ∷ []) ++ rest ≡ before ++ g ∷ rest = append_assoc before (g ∷ []) rest in
    let turned : reverse (before ++ g ∷ []) ≡ g ∷ reverse before = reverse-append before (g ∷ []) in
    let within : (h : FunctionDecl) → In h before → In h (functions d) = λ h i. subst (In h) all (in_left h before (g ∷ rest) i) in
    let at : In g (functions d) = subst (In g) all (in_right g before (g ∷ rest) (inl refl)) in
    let more = one_more_call d ok c before g within at typed.0 calls in
    subst (λ fs. CallsOf c fs (lower_call d.headers (reverse fs))) same
    (calls_more d ok c (before ++ g ∷ []) rest (same ∙ all) typed.1 (subst (λ fs. CallsOf c (before ++ g ∷ []) (lower_call d.headers fs)) (sym turned) more))

pub all_calls : (d : Design) → FunctionsOk d → (c : Within) → AreTypedBodies d [] (functions d) → CallsOf c (functions d) (lower_call d.headers (reverse (functions d)))
all_calls d ok c typed = calls_more d ok c [] (functions d) refl typed (λ g none. absurd none)
