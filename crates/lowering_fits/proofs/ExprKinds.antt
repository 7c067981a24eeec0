-- The lowering of an expression has the type of the expression, and its code keeps the kind rules.
use Rattle.std.proofs.Common.{◌≡◌, inl, inr, ℕ, zero, suc, ◌<◌, ◌^◌, ◌&&◌, ◌||◌, nat_le, nat_lt, List, [], ◌∷◌, ◌++◌, map, Bool, true, false, cond, Option, Some, None, if◌then◌else◌, option_map, option_and_then, refl, ap, ◌∙◌}
use Rattle.std.specs.Prelude.{slice_get}
use Rattle.std.proofs.lemmas.Bool.{lt-ltb}
use Rattle.cocoon_num.specs.Lists.{has_number}
use Rattle.cocoon_num.specs.Names.{same_name, named}
use Rattle.cocoon_num.specs.Sorts.{Sort, bits_sort, truth_sort, has_sort, are_same, same_sort, unary_sort, binary_sort, slice_sort, pick_sort}
use Rattle.cocoon_num.specs.Tokens.{kept_if}
use Rattle.cocoon_num.specs.Tree.{Param, Expr, name, field, lit, true_or_false, call, unary, binary, slice, pick, Exprs, no_exprs, expr, FunctionDecl, HeaderDecl}
use Rattle.cocoon_num.specs.Values.{BinaryOp, add, sub, bits_and, bits_or, bits_xor, concat, equal, unequal, less, less_equal, greater, greater_equal, and_, or_, implies, not_, with_both, with_all}
use Rattle.cocoon_types.specs.Design.{field_width, widths_of}
use Rattle.cocoon_types.specs.Parts.{parts, parts_of}
use Rattle.cocoon_types.specs.Typing.{Scope, args_fit, function_named, result_sort, sort_of, sorts_of, var_width}
use Rattle.p4_ir.specs.P4Kinds.{Within, block_fits, field_sort, is_implies, meta_sort, p4_sort, stmt_fits}
use Rattle.p4_ir.specs.P4Tree.{P4Expr, p_lit, p_field, p_unary, p_binary, p_slice, p_pick, P4Stmt, P4Field, P4Header}
use Rattle.p4_ir.specs.Program.{block_of}
use Rattle.lowering.specs.Lower.{Callees, Counts, Lowered, Made, a_field, a_table, a_group, Variable, lower_expr, lower_exprs, p_operation, variable_expr, header_place, field_place, place_in}
use Rattle.lowering.specs.LowerBlock.{in_expr, in_exprs}
use Rattle.lowering.specs.SwitchProgram.{p4_field, p4_header}
use Rattle.lowering_fits.specs.WideLiterals.{wide_expr, wide_exprs}
use Rattle.sound_types.proofs.Members.{in_left, in_right}
use Rattle.sound_types.proofs.Options.{both_true, true_both, then_there, both_there, all_there, if_there, map_there, same_self, text_self}
use Rattle.sound_types.proofs.Values.{AllFine, has_sort_there}
use Rattle.sound_types.proofs.Variables.{width_among}
use Rattle.lowering_fits.proofs.Logged.{Logged, logged_both, logged_none}
use Rattle.lowering_correct.proofs.Taking.{left_in, right_in}

-- ---- what was made is there

-- a field has its width, and a table's number is one of the control's
abbrev pub MadeOk : Within → List Made → Type 0
MadeOk c [] = Unit {0}
MadeOk c (a_field x i w ∷ ms) = (meta_sort c.program i ≡ Some (bits_sort w)) × MadeOk c ms
MadeOk c (a_table t f ps ∷ ms) = (has_number t.number c.tables ≡ true) × MadeOk c ms
MadeOk c (a_group t f ps ∷ ms) = (has_number t.number c.tables ≡ true) × MadeOk c ms

pub made_left : (c : Within) (xs ys : List Made) → MadeOk c (xs ++ ys) → MadeOk c xs
made_left c [] ys h = tt
made_left c (a_field x i w ∷ xs) ys h = (h.0, made_left c xs ys h.1)
made_left c (a_table t f ps ∷ xs) ys h = (h.0, made_left c xs ys h.1)
made_left c (a_group t f ps ∷ xs) ys h = (h.0, made_left c xs ys h.1)

pub made_right : (c : Within) (xs ys : List Made) → MadeOk c (xs ++ ys) → MadeOk c ys
made_right c [] ys h = h
made_right c (a_field x i w ∷ xs) ys h = made_right c xs ys h.1
made_right c (a_table t f ps ∷ xs) ys h = made_right c xs ys h.1
made_right c (a_group t f ps ∷ xs) ys h = made_right c xs ys h.1

-- ---- code

abbrev pub code_fits : Within → List P4Stmt → Bool
code_fits c xs = block_fits c (block_of xs)

pub code_both : (c : Within) (xs ys : List P4Stmt) → code_fits c xs ≡ true → code_fits c ys ≡ true → code_fits c (xs ++ ys) ≡ true
code_both c [] ys h g = g
code_both c (x ∷ xs) ys h g =
    let both = both_true (stmt_fits c x) (code_fits c xs) h in true_both (stmt_fits c x) (code_fits c (xs ++ ys)) both.0 (code_both c xs ys both.1 g)

pub code_one : (c : Within) (x : P4Stmt) (xs : List P4Stmt) → stmt_fits c x ≡ true → code_fits c xs ≡ true → code_fits c (x ∷ xs) ≡ true
code_one c x xs h g = true_both (stmt_fits c x) (code_fits c xs) h g

pub sort_self : (t : Sort) → same_sort t t ≡ true
sort_self (bits_sort w) = same_self w
sort_self truth_sort = refl

pub same_of : (x y : Option Sort) (t : Sort) → x ≡ Some t → y ≡ Some t → are_same x y ≡ true
same_of x y t p q = (λ i. are_same (p i) (q i)) ∙ sort_self t

pub has_of : (x : Option Sort) (t : Sort) → x ≡ Some t → has_sort t x ≡ true
has_of x t p = ap (has_sort t) p ∙ sort_self t

-- ---- variables and values

-- the variables that are wanted are read as numbers of their widths
abbrev pub VarsOk : Within → List Param → List Variable → (List ℕ → Type 0) → Type 0
VarsOk c ps vars V = (x : List ℕ) (w : ℕ) → V x → width_among ps x ≡ Some w → p4_sort c (variable_expr vars x) ≡ Some (bits_sort w)

-- expressions are numbers of these widths
abbrev pub SortsAt : Within → List ℕ → List P4Expr → Type 0
SortsAt c [] [] = Unit {0}
SortsAt c (w ∷ ws) (e ∷ es) = (p4_sort c e ≡ Some (bits_sort w)) × SortsAt c ws es
SortsAt c _ _ = ⊥

-- what lowering gives: what was made follows on, and, where it is there and variables are read so, the code keeps the kind
-- rules and the rest holds
pub record Piece (c : Within) (ps : List Param) (vars : List Variable) (V : List ℕ → Type 0) (n : Counts) (made : List Made) (code : List P4Stmt) (next : Counts) (R : Type 0) : Type 0 where
  pub logged : Logged n made next
  pub kinds : MadeOk c made → VarsOk c ps vars V → (code_fits c code ≡ true) × R

pub none_made : (c : Within) (ps : List Param) (vars : List Variable) (V : List ℕ → Type 0) (n : Counts) (R : Type 0) → (VarsOk c ps vars V → R) → Piece c ps vars V n [] [] n R
none_made c ps vars V n R f = record { logged = logged_none n; kinds = λ ok read. (refl, f read) }

pub joined : (c : Within) (ps : List Param) (vars : List Variable) (V : List ℕ → Type 0) (n k m : Counts) (xs ys : List Made) (a b : List P4Stmt) (P Q R : Type 0)
    → Piece c ps vars V n xs a k P → Piece c ps vars V k ys b m Q → (P → Q → R) → Piece c ps vars V n (xs ++ ys) (a ++ b) m R
joined c ps vars V n k m xs ys a b P Q R h g f = record {
  logged = logged_both n k m xs ys h.logged g.logged;
  kinds = λ ok read.
      let p = h.kinds (made_left c xs ys ok) read in
      let q = g.kinds (made_right c xs ys ok) read in (code_both c a b p.0 q.0, f p.1 q.1);
}

pub turned : (c : Within) (ps : List Param) (vars : List Variable) (V : List ℕ → Type 0) (n k : Counts) (xs : List Made) (a : List P4Stmt) (P R : Type 0) → Piece c ps vars V n xs a k P → (P → R) → Piece c ps vars V n xs a k R
turned c ps vars V n k xs a P R h f = record { logged = h.logged; kinds = λ ok read. let p = h.kinds ok read in (p.0, f p.1) }

-- a call of a function, over arguments of its parameters' widths
pub record CallPiece (c : Within) (ws : List ℕ) (t : Sort) (es : List P4Expr) (n : Counts) (r : Lowered) : Type 0 where
  pub logged : Logged n r.made r.next
  pub kinds : MadeOk c r.made → SortsAt c ws es → (code_fits c r.code ≡ true) × (p4_sort c r.expr ≡ Some t)

-- ---- fields

place_sort : (ps : List Param) (f : List ℕ) (w : ℕ) → width_among ps f ≡ Some w → option_map (λ (x : P4Field). bits_sort x.width) (slice_get (map p4_field ps) (place_in ps f)) ≡ Some (bits_sort w)
place_sort [] f w h = absurd (cc)
place_sort (p ∷ ps) f w h = by_test (place_sort ps f w) (same_name f p.name.text) h
  where
    by_test : (width_among ps f ≡ Some w → option_map (λ (x : P4Field). bits_sort x.width) (slice_get (map p4_field ps) (place_in ps f)) ≡ Some (bits_sort w)) → (b : Bool)
        → option_map (λ (q : Param). q.width) (cond b (Some p) (named (λ (q : Param). q.name) f ps)) ≡ Some w
        → option_map (λ (x : P4Field). bits_sort x.width) (slice_get (map p4_field (p ∷ ps)) (if b then zero else suc (place_in ps f))) ≡ Some (bits_sort w)
    by_test rest true k = let e : p.width ≡ w = cc in ap (λ v. Some (bits_sort v)) e
    by_test rest false k = rest k

abbrev sort_at : List P4Header → ℕ → ℕ → Option Sort
sort_at hs h f = option_and_then (λ (d : P4Header). option_map (λ (x : P4Field). bits_sort x.width) (slice_get d.fields f)) (slice_get hs h)

pub field_is : (hs : List HeaderDecl) (h f : List ℕ) (w : ℕ) → field_width hs h f ≡ Some w → sort_at (map p4_header hs) (header_place hs h) (field_place hs h f) ≡ Some (bits_sort w)
field_is [] h f w e = absurd (cc)
field_is (d ∷ hs) h f w e = by_test (field_is hs h f w) (same_name h d.name.text) e
  where
    by_test : (field_width hs h f ≡ Some w → sort_at (map p4_header hs) (header_place hs h) (field_place hs h f) ≡ Some (bits_sort w)) → (b : Bool)
        → option_and_then (λ (x : HeaderDecl). width_among x.fields f) (cond b (Some d) (named (λ (x : HeaderDecl). x.name) h hs)) ≡ Some w
        → sort_at (map p4_header (d ∷ hs)) (if b then zero else suc (header_place hs h)) (if b then place_in d.fields f else field_place hs h f) ≡ Some (bits_sort w)
    by_test rest true k = place_sort d.fields f w k
    by_test rest false k = rest k

-- ---- operators

same_work : (c : Within) (a b : P4Expr) (op : BinaryOp) (u v t : Sort) → is_implies op ≡ false → p4_sort c a ≡ Some u → p4_sort c b ≡ Some v → binary_sort op u v ≡ Some t → p4_sort c (p_binary op a b) ≡ Some t
same_work c a b op u v t i p q h = ap (λ x. if x then None else with_both (binary_sort op) (p4_sort c a) (p4_sort c b)) i ∙ (λ k. with_both (binary_sort op) (p k) (q k)) ∙ h

implied : (c : Within) (a b : P4Expr) (u v t : Sort) → p4_sort c a ≡ Some u → p4_sort c b ≡ Some v → binary_sort implies u v ≡ Some t → p4_sort c (p_binary or_ (p_unary not_ a) b) ≡ Some t
implied c a b (bits_sort x) v t p q h = absurd (cc)
implied c a b truth_sort (bits_sort x) t p q h = absurd (cc)
implied c a b truth_sort truth_sort t p q h = (λ k. with_both (binary_sort or_) (option_and_then (unary_sort not_) (p k)) (q k)) ∙ h

operation_sort : (c : Within) (a b : P4Expr) (op : BinaryOp) (u v t : Sort) → p4_sort c a ≡ Some u → p4_sort c b ≡ Some v → binary_sort op u v ≡ Some t → p4_sort c (p_operation op a b) ≡ Some t
operation_sort c a b add u v t p q h = same_work c a b add u v t refl p q h
operation_sort c a b sub u v t p q h = same_work c a b sub u v t refl p q h
operation_sort c a b bits_and u v t p q h = same_work c a b bits_and u v t refl p q h
operation_sort c a b bits_or u v t p q h = same_work c a b bits_or u v t refl p q h
operation_sort c a b bits_xor u v t p q h = same_work c a b bits_xor u v t refl p q h
operation_sort c a b concat u v t p q h = same_work c a b concat u v t refl p q h
operation_sort c a b equal u v t p q h = same_work c a b equal u v t refl p q h
operation_sort c a b unequal u v t p q h = same_work c a b unequal u v t refl p q h
operation_sort c a b less u v t p q h = same_work c a b less u v t refl p q h
operation_sort c a b less_equal u v t p q h = same_work c a b less_equal u v t refl p q h
operation_sort c a b greater u v t p q h = same_work c a b greater u v t refl p q h
operation_sort c a b greater_equal u v t p q h = same_work c a b greater_equal u v t refl p q h
operation_sort c a b and_ u v t p q h = same_work c a b and_ u v t refl p q h
operation_sort c a b or_ u v t p q h = same_work c a b or_ u v t refl p q h
operation_sort c a b implies u v t p q h = implied c a b u v t p q h

pub lit_sort : (c : Within) (w n : ℕ) → nat_le 1 w && nat_le w 128 ≡ true → n < 2 ^ w → p4_sort c (p_lit w n) ≡ Some (bits_sort w)
lit_sort c w n wide fits = ap (λ b. kept_if b (bits_sort w)) (true_both (nat_le 1 w && nat_le w 128) (nat_lt n (2 ^ w)) wide (lt-ltb n (2 ^ w) fits))

-- ---- expressions

-- what the lowering of expressions needs of calls and fields
pub record Ready (P : List ℕ → Type 0) (s : Scope) (c : Within) (k : Callees) : Type 0 where
  pub headers_are : k.headers ≡ s.design.headers
  pub fields : (h f : List ℕ) (w : ℕ) → s.packet ≡ true → field_width s.design.headers h f ≡ Some w → field_sort c.program (header_place s.design.headers h) (field_place s.design.headers h f) ≡ Some (bits_sort w)
  pub calls : (f : List ℕ) (g : FunctionDecl) → P f → function_named s f ≡ Some g → (es : List P4Expr) (n : Counts) → CallPiece c (widths_of g.params) (result_sort g.result) es n (k.call f es n)

if_packet : (b : Bool) (o : Option Sort) (t : Sort) → (if b then o else None) ≡ Some t → (b ≡ true) × (o ≡ Some t)
if_packet true o t h = (refl, h)
if_packet false o t h = absurd (cc)

mutual
  pub kinded : (P : List ℕ → Type 0) (s : Scope) (c : Within) (k : Callees) (V : List ℕ → Type 0) → Ready P s c k → (vars : List Variable) (e : Expr) (t : Sort) → AllFine P (parts e) → wide_expr e ≡ true
      → sort_of s e ≡ Some t → ((x : List ℕ) → in_expr x e ≡ true → V x) → (n : Counts)
      → Piece c s.vars vars V n (lower_expr k vars n e).made (lower_expr k vars n e).code (lower_expr k vars n e).next (p4_sort c (lower_expr k vars n e).expr ≡ Some t)
  kinded P s c k V ready vars (name at x) t fine wide h wanted n =
      let m = map_there bits_sort (var_width s x) t h in
      none_made c s.vars vars V n (p4_sort c (variable_expr vars x) ≡ Some t) (λ read. read x m.0 (wanted x (text_self x)) m.1 ∙ ap Some m.2)
  kinded P s c k V ready vars (field at x f) t fine wide h wanted n =
      let b = if_packet s.packet (option_map bits_sort (field_width s.design.headers x.text f.text)) t h in
      let m = map_there bits_sort (field_width s.design.headers x.text f.text) t b.1 in
      none_made c s.vars vars V n (p4_sort c (p_field (header_place k.headers x.text) (field_place k.headers x.text f.text)) ≡ Some t)
      (λ read. ap (λ hs. field_sort c.program (header_place hs x.text) (field_place hs x.text f.text)) ready.headers_are ∙ ready.fields x.text f.text m.0 b.0 m.1 ∙ ap Some m.2)
  kinded P s c k V ready vars (lit at w x) t fine wide h wanted n =
      none_made c s.vars vars V n (p4_sort c (p_lit w x) ≡ Some t) (λ read. lit_sort c w x wide (fine (lit at w x) (inl refl)) ∙ h)
  kinded P s c k V ready vars (true_or_false at b) t fine wide h wanted n = none_made c s.vars vars V n (Some truth_sort ≡ Some t) (λ read. h)
  kinded P s c k V ready vars (call at f es) t fine wide h wanted n =
      let d = then_there (λ (g : FunctionDecl). if args_fit (widths_of g.params) (sorts_of s es) then Some (result_sort g.result) else None) (function_named s f.text) t h in
      let i = if_there (args_fit (widths_of d.0.params) (sorts_of s es)) (result_sort d.0.result) t d.2 in
      let a = lower_exprs k vars n es in
      let args = kinded_all P s c k V ready vars es (widths_of d.0.params) (λ x j. fine x (inr j)) wide i.0 wanted n in
      let r = k.call f.text a.exprs a.next in
      let own = ready.calls f.text d.0 (fine (call at f es) (inl refl)) d.1 a.exprs a.next in record {
        logged = logged_both n a.next r.next a.made r.made args.logged own.logged;
        kinds = λ ok read.
            let p = args.kinds (made_left c a.made r.made ok) read in
            let q = own.kinds (made_right c a.made r.made ok) p.1 in (code_both c a.code r.code p.0 q.0, q.1 ∙ ap Some i.1);
      }
  kinded P s c k V ready vars (unary at op a) t fine wide h wanted n =
      let d = then_there (unary_sort op) (sort_of s a) t h in
      let r = lower_expr k vars n a in
      turned c s.vars vars V n r.next r.made r.code (p4_sort c r.expr ≡ Some d.0) (p4_sort c (p_unary op r.expr) ≡ Some t)
      (kinded P s c k V ready vars a d.0 (λ x i. fine x (inr i)) wide d.1 wanted n) (λ p. ap (option_and_then (unary_sort op)) p ∙ d.2)
  kinded P s c k V ready vars (binary at op a b) t fine wide h wanted n =
      let d = both_there (binary_sort op) (sort_of s a) (sort_of s b) t h in
      let w = both_true (wide_expr a) (wide_expr b) wide in
      let x = lower_expr k vars n a in
      let y = lower_expr k vars x.next b in
      joined c s.vars vars V n x.next y.next x.made y.made x.code y.code (p4_sort c x.expr ≡ Some d.0) (p4_sort c y.expr ≡ Some d.1) (p4_sort c (p_operation op x.expr y.expr) ≡ Some t)
      (kinded P s c k V ready vars a d.0 (λ z i. fine z (inr (in_left z (parts a) (parts b) i))) w.0 d.2 (λ z i. wanted z (left_in (in_expr z a) (in_expr z b) i)) n)
      (kinded P s c k V ready vars b d.1 (λ z i. fine z (inr (in_right z (parts a) (parts b) i))) w.1 d.3 (λ z i. wanted z (right_in (in_expr z a) (in_expr z b) i)) x.next)
      (λ p q. operation_sort c x.expr y.expr op d.0 d.1 t p q d.4)
  kinded P s c k V ready vars (slice at a high low) t fine wide h wanted n =
      let d = then_there (λ u. slice_sort u high low) (sort_of s a) t h in
      let r = lower_expr k vars n a in
      turned c s.vars vars V n r.next r.made r.code (p4_sort c r.expr ≡ Some d.0) (p4_sort c (p_slice r.expr high low) ≡ Some t)
      (kinded P s c k V ready vars a d.0 (λ x i. fine x (inr i)) wide d.1 wanted n) (λ p. ap (option_and_then (λ u. slice_sort u high low)) p ∙ d.2)
  kinded P s c k V ready vars (pick at e a b) t fine wide h wanted n =
      let d = all_there pick_sort (sort_of s e) (sort_of s a) (sort_of s b) t h in
      let w = both_true (wide_expr e && wide_expr a) (wide_expr b) wide in
      let v = both_true (wide_expr e) (wide_expr a) w.0 in
      let z = lower_expr k vars n e in
      let x = lower_expr k vars z.next a in
      let y = lower_expr k vars x.next b in
      joined c s.vars vars V n z.next y.next z.made (x.made ++ y.made) z.code (x.code ++ y.code) (p4_sort c z.expr ≡ Some d.0) ((p4_sort c x.expr ≡ Some d.1) × (p4_sort c y.expr ≡ Some d.2)) (p4_sort c (p_pick z.expr x.expr y.expr) ≡ Some t)
      (kinded P s c k V ready vars e d.0 (λ q i. fine q (inr (in_left q (parts e ++ parts a) (parts b) (in_left q (parts e) (parts a) i)))) v.0 d.3
      (λ q i. wanted q (left_in (in_expr q e || in_expr q a) (in_expr q b) (left_in (in_expr q e) (in_expr q a) i))) n)
      (joined c s.vars vars V z.next x.next y.next x.made y.made x.code y.code (p4_sort c x.expr ≡ Some d.1) (p4_sort c y.expr ≡ Some d.2) ((p4_sort c x.expr ≡ Some d.1) × (p4_sort c y.expr ≡ Some d.2))
      (kinded P s c k V ready vars a d.1 (λ q i. fine q (inr (in_left q (parts e ++ parts a) (parts b) (in_right q (parts e) (parts a) i)))) v.1 d.4
      (λ q i. wanted q (left_in (in_expr q e || in_expr q a) (in_expr q b) (right_in (in_expr q e) (in_expr q a) i))) z.next)
      (kinded P s c k V ready vars b d.2 (λ q i. fine q (inr (in_right q (parts e ++ parts a) (parts b) i))) w.1 d.5
      (λ q i. wanted q (right_in (in_expr q e || in_expr q a) (in_expr q b) i)) x.next) (λ p q. (p, q)))
      (λ p q. (λ i. with_all pick_sort (p i) (q.0 i) (q.1 i)) ∙ d.6)

  pub kinded_all : (P : List ℕ → Type 0) (s : Scope) (c : Within) (k : Callees) (V : List ℕ → Type 0) → Ready P s c k → (vars : List Variable) (es : Exprs) (ws : List ℕ) → AllFine P (parts_of es) → wide_exprs es ≡ true
      → args_fit ws (sorts_of s es) ≡ true → ((x : List ℕ) → in_exprs x es ≡ true → V x) → (n : Counts)
      → Piece c s.vars vars V n (lower_exprs k vars n es).made (lower_exprs k vars n es).code (lower_exprs k vars n es).next (SortsAt c ws (lower_exprs k vars n es).exprs)
  kinded_all P s c k V ready vars no_exprs [] fine wide h wanted n = none_made c s.vars vars V n (SortsAt c [] []) (λ read. tt)
  kinded_all P s c k V ready vars no_exprs (w ∷ ws) fine wide h wanted n = absurd (cc)
  kinded_all P s c k V ready vars (expr e es) [] fine wide h wanted n = absurd (cc)
  kinded_all P s c k V ready vars (expr e es) (w ∷ ws) fine wide h wanted n =
      let both = both_true (has_sort (bits_sort w) (sort_of s e)) (args_fit ws (sorts_of s es)) h in
      let v = both_true (wide_expr e) (wide_exprs es) wide in
      let x = lower_expr k vars n e in
      let y = lower_exprs k vars x.next es in
      joined c s.vars vars V n x.next y.next x.made y.made x.code y.code (p4_sort c x.expr ≡ Some (bits_sort w)) (SortsAt c ws y.exprs) (SortsAt c (w ∷ ws) (x.expr ∷ y.exprs))
      (kinded P s c k V ready vars e (bits_sort w) (λ a i. fine a (in_left a (parts e) (parts_of es) i)) v.0 (has_sort_there (bits_sort w) (sort_of s e) both.0) (λ z i. wanted z (left_in (in_expr z e) (in_exprs z es) i)) n)
      (kinded_all P s c k V ready vars es ws (λ a i. fine a (in_right a (parts e) (parts_of es) i)) v.1 both.1 (λ z i. wanted z (right_in (in_expr z e) (in_exprs z es) i)) x.next)
      (λ p q. (p, q))
