-- Along a visit of a body of the ingress role's form, expressions have values of the kinds that their places ask for; a visit
-- that leaves, leaves for the egress role at the own switch.
use Rattle.std.proofs.Common.{◌≡◌, ◌⊎◌, inl, inr, ℕ, ◌<◌, ◌^◌, ◌||◌, List, [], ◌∷◌, reverse, Bool, true, false, cond, Option, Some, None, if◌then◌else◌, option_map, option_and_then, refl, sym, ap, subst, ◌∙◌}
use Rattle.cocoon_num.specs.Names.{same_name, named}
use Rattle.cocoon_num.specs.PacketForms.{FieldsFit, PacketFits}
use Rattle.cocoon_num.specs.Packets.{Packet}
use Rattle.cocoon_num.specs.Sorts.{Sort, bits_sort, truth_sort, has_sort, unary_sort, binary_sort, slice_sort, pick_sort}
use Rattle.cocoon_num.specs.Tree.{Name, Param, Expr, name, field, lit, true_or_false, call, unary, binary, slice, pick, Exprs, no_exprs, expr, FunctionDecl, Stmt, let_, set_field, if_, filter, havoc_var, havoc_field, assume, fork, send, Block, no_stmts, stmt, Role, Design}
use Rattle.cocoon_num.specs.Values.{Value, number, truth, as_number, with_both, with_all}
use Rattle.cocoon_types.specs.Design.{functions, layout, read_field, role_at, widths_of, write_field}
use Rattle.cocoon_types.specs.Parts.{parts, parts_of}
use Rattle.cocoon_types.specs.Typing.{Scope, args_fit, call_sort, function_named, result_sort, sort_of, sorts_of, with_var}
use Rattle.cocoon_types.specs.Val.{Context, Env, bound, numbers, value, variable}
use Rattle.lowering.specs.Agrees.{EitherOf, FitAll, GroupTakesIn, Takes, TakesAll, TakesIn}
use Rattle.lowering.specs.Ends.{Fits, FitsAll, Onward}
use Rattle.lowering.specs.Lower.{before_last_from, params_before_last}
use Rattle.lowering.specs.LowerBlock.{fork_args, fork_function, before_last_after, in_block, in_expr, in_exprs, in_stmt}
use Rattle.lowering.specs.Visit.{Forked, Visit, on, leaves, copies, nothing, back_in, then_visit, visit, visit_all, where_true, with_number, with_numbers, with_value}
use Rattle.lowering_correct.proofs.ForkCalls.{EndsWith, IsForkCall, is_variable}
use Rattle.lowering.specs.Sends.{IsExit}
use Rattle.sound_types.specs.Literals.{LiteralsFit, literal_fits}
use Rattle.sound_types.specs.Matching.{HasValue, IsOfSort, Matches}
use Rattle.sound_types.specs.WellTyped.{HasType, HaveWidths, IsDeclared, IsTyped, IsTypedStmt, scope_at}
use Rattle.sound_types.proofs.Bodies.{after_scope, after_vars}
use Rattle.sound_types.proofs.Expressions.{Any, fine}
use Rattle.sound_types.proofs.Fields.{field_value, written_fits}
use Rattle.sound_types.proofs.Functions.{HaveValues, NamesDiffer}
use Rattle.sound_types.proofs.Members.{In, all_at, in_either, in_left, in_right, in_reverse, reverse_in, named_there}
use Rattle.sound_types.proofs.Options.{both_true, true_both, if_there, same_self, same_text, text_self, then_there}
use Rattle.sound_types.proofs.Values.{AllFine, Sees, sound, sounds, value_there}
use Rattle.sound_types.proofs.Variables.{variable_value}
use Rattle.lowering_correct.proofs.Formed.{Formed, FormedStmt, IsNew, one_more}
use Rattle.lowering_correct.proofs.Taking.{Accepts, by_name, fit_all, left_in, right_in, takes, takes_all, takes_in}

-- ---- what expressions see

pub all_fine : (e : Expr) → LiteralsFit e → AllFine Any (parts e)
all_fine e h a i = fine a (all_at literal_fits (parts e) h a i)

-- what a body of a level is visited in: all functions of the design have values
pub record Setting (d : Design) (i : ℕ) (own out : List ℕ) (a : List ℕ → List ℕ → Option Value) : Type 0 where
  pub have : HaveValues (functions d) a
  pub differ : NamesDiffer d
  pub ports : (x : Role) → role_at i d out ≡ Some x → widths_of x.params ≡ 16 ∷ 16 ∷ []

abbrev pub context_of : Design → (List ℕ → List ℕ → Option Value) → Context
context_of d a = record { headers = d.headers; apply = a }

sees : (d : Design) (i : ℕ) (a : List ℕ → List ℕ → Option Value) → HaveValues (functions d) a → (vars : List Param) (env : Env) (packet : Packet) → Matches (scope_at d i vars true) env packet
    → Sees Any (scope_at d i vars true) (context_of d a) env packet
sees d i a have vars env packet m = record {
  variables = variable_value vars env m.variables;
  fields = λ h f w there e. field_value d.headers packet (m.packet_fits there) h f w e;
  calls = λ f g any e ns fit.
      let t = named_there (λ (x : FunctionDecl). x.name) f (functions d) g e in
      subst (λ x. HasValue (result_sort g.result) (a x ns)) (sym t.1) (have g t.0 ns fit);
}

accepts : (d : Design) → NamesDiffer d → (i : ℕ) (vars : List Param) → Accepts Any (scope_at d i vars true) (TakesIn (reverse (functions d)))
accepts d differ i vars f g any e ns fit =
    let t = named_there (λ (x : FunctionDecl). x.name) f (functions d) g e in
    takes_in d (reverse (functions d)) f g differ (λ x j. in_reverse x (functions d) j) (reverse_in g (functions d) t.0) t.1 ns fit

value_is_number : (w : ℕ) (r : Option Value) → HasValue (bits_sort w) r → (n : ℕ) × (r ≡ Some (number w n)) × (n < 2 ^ w)
value_is_number w None h = absurd h
value_is_number w (Some (number v n)) h = (n, ap (λ y. Some (number y n)) h.0, h.1)
value_is_number w (Some (truth b)) h = absurd h

truth_value : (r : Option Value) → HasValue truth_sort r → (b : Bool) × (r ≡ Some (truth b))
truth_value None h = absurd h
truth_value (Some (number v n)) h = absurd h
truth_value (Some (truth b)) h = (b, refl)

-- values of a body, and what they pass to functions
record Valued (d : Design) (a : List ℕ → List ℕ → Option Value) (W : List ℕ → Type 0) (env : Env) (packet : Packet) (e : Expr) (t : Sort) : Type 0 where
  taken : Takes (TakesIn (reverse (functions d))) W (context_of d a) env packet e
  has : HasValue t (value (context_of d a) env packet e)

valued : (d : Design) (i : ℕ) (own out : List ℕ) (a : List ℕ → List ℕ → Option Value) → Setting d i own out a → (W : List ℕ → Type 0) (vars : List Param) (env : Env) (packet : Packet)
    → Matches (scope_at d i vars true) env packet → (e : Expr) (t : Sort) → HasType (scope_at d i vars true) t e → ((x : List ℕ) → in_expr x e ≡ true → W x) → Valued d a W env packet e t
valued d i own out a g W vars env packet m e t h wanted =
    let s = scope_at d i vars true in
    let see = sees d i a g.have vars env packet m in record {
      taken = takes (TakesIn (reverse (functions d))) W Any s (context_of d a) env packet see (accepts d g.differ i vars) e t (all_fine e h.1) h.0 wanted;
      has = sound Any s (context_of d a) env packet see e t (all_fine e h.1) h.0;
    }

record ValuedAll (d : Design) (a : List ℕ → List ℕ → Option Value) (W : List ℕ → Type 0) (env : Env) (packet : Packet) (es : Exprs) (ws : List ℕ) : Type 0 where
  taken : TakesAll (TakesIn (reverse (functions d))) W (context_of d a) env packet es
  ns : List ℕ
  are : numbers (context_of d a) env packet es ≡ Some ns
  fit : FieldsFit ws ns

valued_all : (d : Design) (i : ℕ) (own out : List ℕ) (a : List ℕ → List ℕ → Option Value) → Setting d i own out a → (W : List ℕ → Type 0) (vars : List Param) (env : Env) (packet : Packet)
    → Matches (scope_at d i vars true) env packet → (es : Exprs) (ws : List ℕ) → AllFine Any (parts_of es) → args_fit ws (sorts_of (scope_at d i vars true) es) ≡ true → ((x : List ℕ) → in_exprs x es ≡ true → W x)
    → ValuedAll d a W env packet es ws
valued_all d i own out a g W vars env packet m es ws fine h wanted =
    let s = scope_at d i vars true in
    let see = sees d i a g.have vars env packet m in
    let ns = sounds Any s (context_of d a) env packet see es ws fine h in record {
      taken = takes_all (TakesIn (reverse (functions d))) W Any s (context_of d a) env packet see (accepts d g.differ i vars) es ws fine h wanted;
      ns = ns.0;
      are = ns.1;
      fit = ns.2;
    }

-- expressions of given widths
pub widths_args : (s : Scope) (ws : List ℕ) (es : Exprs) → HaveWidths s ws es → args_fit ws (sorts_of s es) ≡ true
widths_args s [] no_exprs h = refl
widths_args s [] (expr e es) h = absurd h
widths_args s (w ∷ ws) no_exprs h = absurd h
widths_args s (w ∷ ws) (expr e es) h = true_both (has_sort (bits_sort w) (sort_of s e)) (args_fit ws (sorts_of s es)) (ap (has_sort (bits_sort w)) h.0.0 ∙ same_self w) (widths_args s ws es h.1)

pub widths_fine : (s : Scope) (ws : List ℕ) (es : Exprs) → HaveWidths s ws es → AllFine Any (parts_of es)
widths_fine s [] no_exprs h a i = absurd i
widths_fine s [] (expr e es) h a i = absurd h
widths_fine s (w ∷ ws) no_exprs h a i = absurd h
widths_fine s (w ∷ ws) (expr e es) h a i = elim (in_either a (parts e) (parts_of es) i) [ inl k ↦ all_fine e h.0.1 a k | inr k ↦ widths_fine s ws es h.1 a k ]

-- ---- a fork's arguments do not need its variable

either_not : (a b : Bool) → (a || b) ≡ false → (a ≡ false) × (b ≡ false)
either_not true b h = absurd (cc)
either_not false b h = (refl, h)

turned_not : (x y : List ℕ) → same_name x y ≡ false → same_name y x ≡ false
turned_not x y h = by_test (same_name y x) refl
  where
    by_test : (b : Bool) → same_name y x ≡ b → b ≡ false
    by_test true is =
        let e : same_name x y ≡ true = ap (λ z. same_name x z) (same_text y x is) ∙ text_self x in
        let c : true ≡ false = sym e ∙ h in absurd (cc)
    by_test false is = refl

mutual
  sort_without : (x : Name) (w : ℕ) (s : Scope) (e : Expr) → in_expr x.text e ≡ false → sort_of (with_var x w s) e ≡ sort_of s e
  sort_without x w s (name at y) h =
      ap (λ b. option_map bits_sort (option_map (λ (p : Param). p.width) (cond b (Some (record { name = x; width = w })) (named (λ (p : Param). p.name) y s.vars)))) (turned_not x.text y h)
  sort_without x w s (field at y f) h = refl
  sort_without x w s (lit at v n) h = refl
  sort_without x w s (true_or_false at b) h = refl
  sort_without x w s (call at f es) h = ap (call_sort (function_named s f.text)) (sorts_without x w s es h)
  sort_without x w s (unary at op a) h = ap (option_and_then (unary_sort op)) (sort_without x w s a h)
  sort_without x w s (binary at op a b) h =
      let k = either_not (in_expr x.text a) (in_expr x.text b) h in
      (λ j. with_both (binary_sort op) (sort_without x w s a k.0 j) (sort_without x w s b k.1 j))
  sort_without x w s (slice at a high low) h = ap (option_and_then (λ t. slice_sort t high low)) (sort_without x w s a h)
  sort_without x w s (pick at c a b) h =
      let k = either_not (in_expr x.text c || in_expr x.text a) (in_expr x.text b) h in
      let l = either_not (in_expr x.text c) (in_expr x.text a) k.0 in
      (λ j. with_all pick_sort (sort_without x w s c l.0 j) (sort_without x w s a l.1 j) (sort_without x w s b k.1 j))

  sorts_without : (x : Name) (w : ℕ) (s : Scope) (es : Exprs) → in_exprs x.text es ≡ false → sorts_of (with_var x w s) es ≡ sorts_of s es
  sorts_without x w s no_exprs h = refl
  sorts_without x w s (expr e es) h =
      let k = either_not (in_expr x.text e) (in_exprs x.text es) h in (λ j. sort_without x w s e k.0 j ∷ sorts_without x w s es k.1 j)

pub before_last_fits : (x : Name) (w : ℕ) (s : Scope) (p : Param) (ps : List Param) (e : Expr) (es : Exprs) → EndsWith x.text (expr e es) → args_fit (widths_of (p ∷ ps)) (sorts_of (with_var x w s) (expr e es)) ≡ true
    → args_fit (widths_of (before_last_from p ps)) (sorts_of s (before_last_after e es)) ≡ true
before_last_fits x w s p [] e no_exprs ends h = refl
before_last_fits x w s p (q ∷ ps) e no_exprs ends h = let both = both_true (has_sort (bits_sort p.width) (sort_of (with_var x w s) e)) false h in absurd (cc)
before_last_fits x w s p [] e (expr a es) ends h = let both = both_true (has_sort (bits_sort p.width) (sort_of (with_var x w s) e)) false h in absurd (cc)
before_last_fits x w s p (q ∷ ps) e (expr a es) ends h =
    let both = both_true (has_sort (bits_sort p.width) (sort_of (with_var x w s) e)) (args_fit (widths_of (q ∷ ps)) (sorts_of (with_var x w s) (expr a es))) h in
    true_both (has_sort (bits_sort p.width) (sort_of s e)) (args_fit (widths_of (before_last_from q ps)) (sorts_of s (before_last_after a es)))
    (ap (has_sort (bits_sort p.width)) (sym (sort_without x w s e ends.0)) ∙ both.0) (before_last_fits x w s q ps a es ends.1 both.1)

pub before_last_part : (e : Expr) (es : Exprs) (a : Expr) → In a (parts_of (before_last_after e es)) → In a (parts_of (expr e es))
before_last_part e no_exprs a i = absurd i
before_last_part e (expr b es) a i = elim (in_either a (parts e) (parts_of (before_last_after b es)) i) [
  | inl k ↦ in_left a (parts e) (parts_of (expr b es)) k
  | inr k ↦ in_right a (parts e) (parts_of (expr b es)) (before_last_part b es a k)
]

either_of : (a b : Bool) → (a || b) ≡ true → (a ≡ true) ⊎ (b ≡ true)
either_of true b h = inl refl
either_of false b h = inr h

pub before_last_name : (e : Expr) (es : Exprs) (x : List ℕ) → in_exprs x (before_last_after e es) ≡ true → in_exprs x (expr e es) ≡ true
before_last_name e no_exprs x h = absurd (cc)
before_last_name e (expr b es) x h = elim (either_of (in_expr x e) (in_exprs x (before_last_after b es)) h) [
  | inl k ↦ left_in (in_expr x e) (in_exprs x (expr b es)) k
  | inr k ↦ right_in (in_expr x e) (in_exprs x (expr b es)) (before_last_name b es x k)
]

-- what a fork's function takes before the choice
groups_in : (d : Design) (fs : List FunctionDecl) (f : List ℕ) (g : FunctionDecl) → NamesDiffer d → ((h : FunctionDecl) → In h fs → In h (functions d)) → In g fs → f ≡ g.name.text
    → (ns : List ℕ) → FieldsFit (widths_of (params_before_last g.params)) ns → GroupTakesIn fs f ns
groups_in d [] f g differ within i is ns fit = absurd i
groups_in d (h ∷ fs) f g differ within i is ns fit =
    by_name (same_name f h.name.text) (FitAll (params_before_last h.params) ns) (GroupTakesIn fs f ns)
    (λ same.
    let one : g ≡ h = differ g h (within g i) (within h (inl refl)) (sym is ∙ same_text f h.name.text same) in
    subst (λ (x : FunctionDecl). FitAll (params_before_last x.params) ns) one (fit_all (params_before_last g.params) ns fit))
    (λ other. elim i [
      | inl e ↦ absurd (clash (same_name f h.name.text) (ap (λ x. same_name x h.name.text) (is ∙ ap (λ (x : FunctionDecl). x.name.text) e) ∙ text_self h.name.text) other)
      | inr k ↦ groups_in d fs f g differ (λ x j. within x (inr j)) k is ns fit
    ])
  where
    clash : (b : Bool) → b ≡ true → b ≡ false → ⊥
    clash b p q = let k : true ≡ false = sym p ∙ q in absurd (cc)

-- ---- a point of a visit

-- the variables are in scope, and the parameter of the own switch still has its number
pub record Here (d : Design) (i : ℕ) (own : List ℕ) (s : ℕ) (vars : List Param) (env : Env) (packet : Packet) : Type 0 where
  pub matches : Matches (scope_at d i vars true) env packet
  pub own_width : ℕ
  pub own_in : option_map (λ (p : Param). p.width) (named (λ (p : Param). p.name) own vars) ≡ Some own_width
  pub own_is : variable env own ≡ Some (number 16 s)

-- a fork that is reached
pub record AtFork (d : Design) (i : ℕ) (own out : List ℕ) (s : ℕ) (f : Forked) (env : Env) (packet : Packet) : Type 0 where
  pub vars : List Param
  pub x : Name
  pub name_is : f.x ≡ x.text
  pub here : Here d i own s vars env packet
  pub declared : IsDeclared f.width
  pub new : IsNew x vars
  pub condition : IsForkCall (reverse (functions d)) x.text f.width f.e
  pub typed : IsTyped (scope_at d i (one_more x f.width vars) true) f.body
  pub formed : Formed (reverse (functions d)) own out true (one_more x f.width vars) f.body

-- a visit that goes on does so as is said, one that leaves, leaves for the egress role
abbrev pub VisitOk : (d : Design) (i : ℕ) (own out : List ℕ) (s : ℕ) → (Env → Packet → Type 0) → Visit → Type 0
VisitOk d i own out s K (on env packet) = K env packet
VisitOk d i own out s K (leaves to packet) = IsExit out (layout d) s to packet
VisitOk d i own out s K (copies f env packet) = AtFork d i own out s f env packet
VisitOk d i own out s K nothing = Unit {0}

abbrev pub PacketOnly : Design → Env → Packet → Type 0
PacketOnly d env packet = PacketFits (layout d) packet

clash_some : {A : Type 0} (o : Option A) (a : A) → o ≡ Some a → o ≡ None → ⊥
clash_some o a p q = let k : Some a ≡ None = sym p ∙ q in absurd (cc)

pub here_more : (d : Design) (i : ℕ) (own : List ℕ) (s : ℕ) (vars : List Param) (env : Env) (packet : Packet) (x : Name) (w : ℕ) (v : Value) → IsOfSort (bits_sort w) v → IsNew x vars → Here d i own s vars env packet
    → Here d i own s (one_more x w vars) (bound x.text v env) packet
here_more d i own s vars env packet x w v h new at = by_test (same_name own x.text) refl
  where
    by_test : (b : Bool) → same_name own x.text ≡ b → Here d i own s (one_more x w vars) (bound x.text v env) packet
    by_test true is =
        absurd (clash_some (option_map (λ (p : Param). p.width) (named (λ (p : Param). p.name) own vars)) at.own_width at.own_in
        (ap (λ z. option_map (λ (p : Param). p.width) (named (λ (p : Param). p.name) z vars)) (same_text own x.text is) ∙ new))
    by_test false is = record {
      matches = record { variables = (refl, h, at.matches.variables); packet_fits = at.matches.packet_fits };
      own_width = at.own_width;
      own_in = ap (λ b. option_map (λ (p : Param). p.width) (cond b (Some (record { name = x; width = w })) (named (λ (p : Param). p.name) own vars))) is ∙ at.own_in;
      own_is = ap (λ b. if b then Some v else variable env own) is ∙ at.own_is;
    }

back_ok : (d : Design) (i : ℕ) (own out : List ℕ) (s : ℕ) (vars : List Param) (env : Env) (packet : Packet) → Here d i own s vars env packet → (v : Visit) → VisitOk d i own out s (PacketOnly d) v
    → VisitOk d i own out s (Here d i own s vars) (back_in env v)
back_ok d i own out s vars env packet at (on inner after) h = record {
  matches = record { variables = at.matches.variables; packet_fits = λ e. h };
  own_width = at.own_width;
  own_in = at.own_in;
  own_is = at.own_is;
}
back_ok d i own out s vars env packet at (leaves to sent) h = h
back_ok d i own out s vars env packet at (copies f inner sent) h = h
back_ok d i own out s vars env packet at nothing h = tt

then_ok : (d : Design) (i : ℕ) (own out : List ℕ) (s : ℕ) (K L : Env → Packet → Type 0) (v : Visit) (f : Env → Packet → Visit) → VisitOk d i own out s K v
    → ((env : Env) (packet : Packet) → K env packet → VisitOk d i own out s L (f env packet)) → VisitOk d i own out s L (then_visit v f)
then_ok d i own out s K L (on env packet) f h g = g env packet h
then_ok d i own out s K L (leaves to packet) f h g = h
then_ok d i own out s K L (copies x env packet) f h g = h
then_ok d i own out s K L nothing f h g = tt

onward : (d : Design) (i : ℕ) (own out : List ℕ) (s : ℕ) (K L : Env → Packet → Type 0) (v : Visit) → VisitOk d i own out s K v → ((env : Env) (packet : Packet) → K env packet → L env packet) → Onward v L
onward d i own out s K L (on env packet) h g = g env packet h
onward d i own out s K L (leaves to packet) h g = tt
onward d i own out s K L (copies x env packet) h g = tt
onward d i own out s K L nothing h g = tt

-- one of two visits, by a truth value
where_ok : (P : Visit → Type 0) (o : Option Value) (b : Bool) (x y : Visit) → o ≡ Some (truth b) → P x → P y → P (where_true o x y)
where_ok P o b x y is p q = subst (λ v. P (where_true v x y)) (sym is) (by_case b)
  where
    by_case : (c : Bool) → P (where_true (Some (truth c)) x y)
    by_case true = p
    by_case false = q

-- the second value of a send, where the first is the own switch
own_number : (d : Design) (a : List ℕ → List ℕ → Option Value) (env : Env) (packet : Packet) (own : List ℕ) (s : ℕ) (e b : Expr) (ns : List ℕ) → is_variable own e ≡ true → variable env own ≡ Some (number 16 s)
    → numbers (context_of d a) env packet (expr e (expr b no_exprs)) ≡ Some ns → FieldsFit (16 ∷ 16 ∷ []) ns → (p : ℕ) × (ns ≡ s ∷ p ∷ []) × (p < 2 ^ 16)
own_number d a env packet own s e b [] is own_is given fit = absurd fit
own_number d a env packet own s e b (n ∷ []) is own_is given fit = absurd fit.1
own_number d a env packet own s e b (n ∷ p ∷ []) is own_is given fit = (p, ap (λ m. m ∷ p ∷ []) (first e is given), fit.1.0)
  where
    heads : (x y : Option (List ℕ)) (m : ℕ) → with_both (λ l ls. Some (l ∷ ls)) (Some m) y ≡ Some (n ∷ p ∷ []) → n ≡ m
    heads x None m h = absurd (cc)
    heads x (Some ls) m h = cc

    first : (x : Expr) → is_variable own x ≡ true → numbers (context_of d a) env packet (expr x (expr b no_exprs)) ≡ Some (n ∷ p ∷ []) → n ≡ s
    first (name at y) k h =
        let v : variable env y ≡ Some (number 16 s) = ap (variable env) (sym (same_text own y k)) ∙ own_is in
        heads None (numbers (context_of d a) env packet (expr b no_exprs)) s
        (ap (λ o. with_both (λ l ls. Some (l ∷ ls)) (option_and_then as_number o) (numbers (context_of d a) env packet (expr b no_exprs))) (sym v) ∙ h)
    first (field at y f) k h = absurd (cc)
    first (lit at w m) k h = absurd (cc)
    first (true_or_false at c) k h = absurd (cc)
    first (call at f es) k h = absurd (cc)
    first (unary at op c) k h = absurd (cc)
    first (binary at op c f) k h = absurd (cc)
    first (slice at c high low) k h = absurd (cc)
    first (pick at c f g) k h = absurd (cc)
own_number d a env packet own s e b (n ∷ p ∷ q ∷ ns) is own_is given fit = absurd fit.1.1

-- ---- one statement, and a block

mutual
  pub visit_ok : (d : Design) (i : ℕ) (own out : List ℕ) (s : ℕ) (a : List ℕ → List ℕ → Option Value) → Setting d i own out a → (inside : Bool) (st : Stmt) (vars : List Param) → IsTypedStmt (scope_at d i vars true) st
      → FormedStmt (reverse (functions d)) own out inside vars st → (env : Env) (packet : Packet) → Here d i own s vars env packet
      → VisitOk d i own out s (Here d i own s (after_vars st vars)) (visit (context_of d a) st env packet)
  visit_ok d i own out s a g inside (let_ at x w e) vars h k env packet m =
      let v = value_is_number w (value (context_of d a) env packet e) (valued d i own out a g Any vars env packet m.matches e (bits_sort w) h.1 (λ y j. tt)).has in
      subst (λ o. VisitOk d i own out s (Here d i own s (one_more x w vars)) (with_value o (λ u. on (bound x.text u env) packet))) (sym v.1)
      (here_more d i own s vars env packet x w (number w v.0) (refl, v.2) k m)
  visit_ok d i own out s a g inside (set_field at x f e) vars h k env packet m =
      let v = value_is_number h.0 (value (context_of d a) env packet e) (valued d i own out a g Any vars env packet m.matches e (bits_sort h.0) h.2 (λ y j. tt)).has in
      subst (λ o. VisitOk d i own out s (Here d i own s vars) (with_value o (λ u. with_number u (λ n. on env (write_field d.headers packet x.text f.text n))))) (sym v.1)
      (record {
        matches = record { variables = m.matches.variables; packet_fits = λ t. written_fits d.headers packet (m.matches.packet_fits t) x.text f.text h.0 v.0 v.2 h.1 };
        own_width = m.own_width;
        own_in = m.own_in;
        own_is = m.own_is;
      })
  visit_ok d i own out s a g inside (if_ at e x y) vars h k env packet m =
      let b = truth_value (value (context_of d a) env packet e) (valued d i own out a g Any vars env packet m.matches e truth_sort h.0 (λ z j. tt)).has in
      back_ok d i own out s vars env packet m (where_true (value (context_of d a) env packet e) (visit_all (context_of d a) x env packet) (visit_all (context_of d a) y env packet))
      (where_ok (VisitOk d i own out s (PacketOnly d)) (value (context_of d a) env packet e) b.0 (visit_all (context_of d a) x env packet) (visit_all (context_of d a) y env packet) b.1
      (visit_all_ok d i own out s a g inside x vars h.1 k.0 env packet m) (visit_all_ok d i own out s a g inside y vars h.2 k.1 env packet m))
  visit_ok d i own out s a g inside (filter at e) vars h k env packet m =
      let b = truth_value (value (context_of d a) env packet e) (valued d i own out a g Any vars env packet m.matches e truth_sort h (λ z j. tt)).has in
      where_ok (VisitOk d i own out s (Here d i own s vars)) (value (context_of d a) env packet e) b.0 (on env packet) nothing b.1 m tt
  visit_ok d i own out s a g inside (havoc_var at x w) vars h k env packet m = absurd k
  visit_ok d i own out s a g inside (havoc_field at x f) vars h k env packet m = absurd k
  visit_ok d i own out s a g inside (assume at e) vars h k env packet m = absurd k
  visit_ok d i own out s a g inside (fork at x w e b) vars h k env packet m = record {
    vars = vars;
    x = x;
    name_is = refl;
    here = m;
    declared = h.0;
    new = k.1;
    condition = k.2;
    typed = h.2;
    formed = k.3;
  }
  visit_ok d i own out s a g inside (send at r es) vars h k env packet m =
      let ws : widths_of h.0.params ≡ 16 ∷ 16 ∷ [] = g.ports h.0 (ap (role_at i d) (sym k.role_is) ∙ h.1) in
      let sc = scope_at d i vars true in
      let wide : HaveWidths sc (16 ∷ 16 ∷ []) es = subst (λ xs. HaveWidths sc xs es) ws h.2 in
      let v = valued_all d i own out a g Any vars env packet m.matches es (16 ∷ 16 ∷ []) (widths_fine sc (16 ∷ 16 ∷ []) es wide) (widths_args sc (16 ∷ 16 ∷ []) es wide) (λ y j. tt) in
      let two = own_number d a env packet own s k.switch k.port v.ns k.is_own m.own_is (ap (numbers (context_of d a) env packet) (sym k.values_are) ∙ v.are) v.fit in
      subst (λ o. VisitOk d i own out s (Here d i own s vars) (with_numbers o (λ ns. leaves (record { role = r.text; values = ns }) packet))) (sym v.are)
      (record { port = two.0; role_is = k.role_is; values_are = two.1; port_fits = two.2; packet_fits = m.matches.packet_fits refl })

  pub visit_all_ok : (d : Design) (i : ℕ) (own out : List ℕ) (s : ℕ) (a : List ℕ → List ℕ → Option Value) → Setting d i own out a → (inside : Bool) (b : Block) (vars : List Param) → IsTyped (scope_at d i vars true) b
      → Formed (reverse (functions d)) own out inside vars b → (env : Env) (packet : Packet) → Here d i own s vars env packet
      → VisitOk d i own out s (PacketOnly d) (visit_all (context_of d a) b env packet)
  visit_all_ok d i own out s a g inside no_stmts vars h k env packet m = m.matches.packet_fits refl
  visit_all_ok d i own out s a g inside (stmt first rest) vars h k env packet m =
      then_ok d i own out s (Here d i own s (after_vars first vars)) (PacketOnly d) (visit (context_of d a) first env packet) (λ more sent. visit_all (context_of d a) rest more sent)
      (visit_ok d i own out s a g inside first vars h.0 k.0 env packet m)
      (λ more sent at. visit_all_ok d i own out s a g inside rest (after_vars first vars) (subst (λ t. IsTyped t rest) (after_scope first (scope_at d i vars true)) h.1) k.1 more sent at)

-- ---- what lowering asks of expressions

-- the numbers of a fork's group, where one may stand
abbrev pub GroupsOf : Design → Bool → (List ℕ → List ℕ → Type 0) → Type 0
GroupsOf d inside G = inside ≡ false → (f ns : List ℕ) → GroupTakesIn (reverse (functions d)) f ns → G f ns

record BeforeLastValued (d : Design) (a : List ℕ → List ℕ → Option Value) (W : List ℕ → Type 0) (env : Env) (packet : Packet) (e : Expr) : Type 0 where
  taken : TakesAll (TakesIn (reverse (functions d))) W (context_of d a) env packet (fork_args e)
  ns : List ℕ
  are : numbers (context_of d a) env packet (fork_args e) ≡ Some ns
  group : GroupTakesIn (reverse (functions d)) (fork_function e) ns

before_last_valued : (d : Design) (i : ℕ) (own out : List ℕ) (a : List ℕ → List ℕ → Option Value) → Setting d i own out a → (W : List ℕ → Type 0) (vars : List Param) (env : Env) (packet : Packet)
    → Matches (scope_at d i vars true) env packet → (x : Name) (w : ℕ) (e : Expr) → IsForkCall (reverse (functions d)) x.text w e → HasType (with_var x w (scope_at d i vars true)) truth_sort e
    → ((y : List ℕ) → in_expr y e ≡ true → W y) → BeforeLastValued d a W env packet e
before_last_valued d i own out a g W vars env packet m x w e k h wanted = by_call e k h wanted
  where
    by_args : (at : ℕ) (f : Name) (h : FunctionDecl) → In h (functions d) → f.text ≡ h.name.text → (ps : List Param) → h.params ≡ ps → (es : Exprs) → args_fit (widths_of ps) (sorts_of (with_var x w (scope_at d i vars true)) es) ≡ true
        → EndsWith x.text es → AllFine Any (parts_of es) → ((y : List ℕ) → in_exprs y es ≡ true → W y) → BeforeLastValued d a W env packet (call at f es)
    by_args at f h j is ps are no_exprs fit ends fines wants = absurd ends
    by_args at f h j is [] are (expr b es) fit ends fines wants = absurd (cc)
    by_args at f h j is (p ∷ ps) are (expr b es) fit ends fines wants =
        let s = scope_at d i vars true in
        let v = valued_all d i own out a g W vars env packet m (before_last_after b es) (widths_of (before_last_from p ps)) (λ y l. fines y (before_last_part b es y l)) (before_last_fits x w s p ps b es ends fit) (λ y l. wants y (before_last_name b es y l)) in record {
          taken = v.taken;
          ns = v.ns;
          are = v.are;
          group = groups_in d (reverse (functions d)) f.text h g.differ (λ y l. in_reverse y (functions d) l) (reverse_in h (functions d) j) is v.ns
              (subst (λ qs. FieldsFit (widths_of (params_before_last qs)) v.ns) (sym are) v.fit);
        }

    by_call : (c : Expr) → IsForkCall (reverse (functions d)) x.text w c → HasType (with_var x w (scope_at d i vars true)) truth_sort c → ((y : List ℕ) → in_expr y c ≡ true → W y) → BeforeLastValued d a W env packet c
    by_call (call at f es) q t wants =
        let s = with_var x w (scope_at d i vars true) in
        let found = then_there (λ (y : FunctionDecl). if args_fit (widths_of y.params) (sorts_of s es) then Some (result_sort y.result) else None) (function_named s f.text) truth_sort t.0 in
        let fit = if_there (args_fit (widths_of found.0.params) (sorts_of s es)) (result_sort found.0.result) truth_sort found.2 in
        let there = named_there (λ (y : FunctionDecl). y.name) f.text (functions d) found.0 found.1 in
        let same : q.values ≡ es = args_same q.at at q.callee f q.values es (sym q.call_is) in
        by_args at f found.0 there.0 there.1 found.0.params refl es fit.0 (subst (EndsWith x.text) same q.values_end) (λ y l. all_fine (call at f es) t.1 y (inr l)) wants
      where
        args_same : (p q : ℕ) (f g : Name) (xs ys : Exprs) → call p f xs ≡ call q g ys → xs ≡ ys
        args_same p q f g xs ys e = cc
    by_call (name at y) q t wants = let e : name at y ≡ call q.at q.callee q.values = q.call_is in absurd (cc)
    by_call (field at y f) q t wants = let e : field at y f ≡ call q.at q.callee q.values = q.call_is in absurd (cc)
    by_call (lit at v n) q t wants = let e : lit at v n ≡ call q.at q.callee q.values = q.call_is in absurd (cc)
    by_call (true_or_false at b) q t wants = let e : true_or_false at b ≡ call q.at q.callee q.values = q.call_is in absurd (cc)
    by_call (unary at op b) q t wants = let e : unary at op b ≡ call q.at q.callee q.values = q.call_is in absurd (cc)
    by_call (binary at op b f) q t wants = let e : binary at op b f ≡ call q.at q.callee q.values = q.call_is in absurd (cc)
    by_call (slice at b high low) q t wants = let e : slice at b high low ≡ call q.at q.callee q.values = q.call_is in absurd (cc)
    by_call (pick at b f l) q t wants = let e : pick at b f l ≡ call q.at q.callee q.values = q.call_is in absurd (cc)

two_numbers : (ws ns : List ℕ) → ws ≡ 16 ∷ 16 ∷ [] → FieldsFit ws ns → (n m : ℕ) × (ns ≡ n ∷ m ∷ [])
two_numbers ws [] is fit = absurd (subst (λ xs. FieldsFit xs []) is fit)
two_numbers ws (n ∷ []) is fit = absurd (subst (λ xs. FieldsFit xs (n ∷ [])) is fit).1
two_numbers ws (n ∷ m ∷ []) is fit = (n, m, refl)
two_numbers ws (n ∷ m ∷ l ∷ ns) is fit = absurd (subst (λ xs. FieldsFit xs (n ∷ m ∷ l ∷ ns)) is fit).1.1

either_case : (b : Bool) (A B : Type 0) → A → B → EitherOf b A B
either_case true A B x y = x
either_case false A B x y = y

mutual
  pub fits : (d : Design) (i : ℕ) (own out : List ℕ) (s : ℕ) (a : List ℕ → List ℕ → Option Value) → Setting d i own out a → (inside : Bool) (G : List ℕ → List ℕ → Type 0) → GroupsOf d inside G → (W : List ℕ → Type 0)
      → (st : Stmt) (vars : List Param) → IsTypedStmt (scope_at d i vars true) st → FormedStmt (reverse (functions d)) own out inside vars st → (env : Env) (packet : Packet) → Here d i own s vars env packet
      → ((y : List ℕ) → in_stmt y st ≡ true → W y) → Fits (TakesIn (reverse (functions d))) G W (context_of d a) st env packet
  fits d i own out s a g inside G groups W (let_ at x w e) vars h k env packet m wanted =
      let v = valued d i own out a g W vars env packet m.matches e (bits_sort w) h.1 wanted in
      let n = value_is_number w (value (context_of d a) env packet e) v.has in (v.taken, n.0, n.1)
  fits d i own out s a g inside G groups W (set_field at x f e) vars h k env packet m wanted =
      let v = valued d i own out a g W vars env packet m.matches e (bits_sort h.0) h.2 wanted in
      let n = value_is_number h.0 (value (context_of d a) env packet e) v.has in
      let u = value_there (bits_sort h.0) (read_field d.headers packet x.text f.text) (field_value d.headers packet (m.matches.packet_fits refl) x.text f.text h.0 h.1) in
      (v.taken, h.0, n.0, u.0, n.1, u.1)
  fits d i own out s a g inside G groups W (if_ at e x y) vars h k env packet m wanted =
      let v = valued d i own out a g W vars env packet m.matches e truth_sort h.0 (λ z j. wanted z (left_in (in_expr z e || in_block z x) (in_block z y) (left_in (in_expr z e) (in_block z x) j))) in
      let b = truth_value (value (context_of d a) env packet e) v.has in (
        v.taken,
        b.0,
        b.1,
        either_case b.0 (FitsAll (TakesIn (reverse (functions d))) G W (context_of d a) x env packet) (FitsAll (TakesIn (reverse (functions d))) G W (context_of d a) y env packet)
            (fits_all d i own out s a g inside G groups W x vars h.1 k.0 env packet m (λ z j. wanted z (left_in (in_expr z e || in_block z x) (in_block z y) (right_in (in_expr z e) (in_block z x) j))))
            (fits_all d i own out s a g inside G groups W y vars h.2 k.1 env packet m (λ z j. wanted z (right_in (in_expr z e || in_block z x) (in_block z y) j))),
      )
  fits d i own out s a g inside G groups W (filter at e) vars h k env packet m wanted =
      let v = valued d i own out a g W vars env packet m.matches e truth_sort h wanted in
      let b = truth_value (value (context_of d a) env packet e) v.has in (v.taken, b.0, b.1)
  fits d i own out s a g inside G groups W (havoc_var at x w) vars h k env packet m wanted = absurd k
  fits d i own out s a g inside G groups W (havoc_field at x f) vars h k env packet m wanted = absurd k
  fits d i own out s a g inside G groups W (assume at e) vars h k env packet m wanted = absurd k
  fits d i own out s a g inside G groups W (fork at x w e b) vars h k env packet m wanted =
      let v = before_last_valued d i own out a g W vars env packet m.matches x w e k.2 h.1 (λ y j. wanted y (left_in (in_expr y e) (in_block y b) j)) in
      (v.taken, v.ns, v.are, groups k.0 (fork_function e) v.ns v.group)
  fits d i own out s a g inside G groups W (send at r es) vars h k env packet m wanted =
      let sc = scope_at d i vars true in
      let ws = widths_of h.0.params in
      let v = valued_all d i own out a g W vars env packet m.matches es ws (widths_fine sc ws es h.2) (widths_args sc ws es h.2) wanted in
      let two = two_numbers ws v.ns (g.ports h.0 (ap (role_at i d) (sym k.role_is) ∙ h.1)) v.fit in
      (v.taken, two.0, two.1, v.are ∙ ap Some two.2)

  pub fits_all : (d : Design) (i : ℕ) (own out : List ℕ) (s : ℕ) (a : List ℕ → List ℕ → Option Value) → Setting d i own out a → (inside : Bool) (G : List ℕ → List ℕ → Type 0) → GroupsOf d inside G → (W : List ℕ → Type 0)
      → (b : Block) (vars : List Param) → IsTyped (scope_at d i vars true) b → Formed (reverse (functions d)) own out inside vars b → (env : Env) (packet : Packet) → Here d i own s vars env packet
      → ((y : List ℕ) → in_block y b ≡ true → W y) → FitsAll (TakesIn (reverse (functions d))) G W (context_of d a) b env packet
  fits_all d i own out s a g inside G groups W no_stmts vars h k env packet m wanted = tt
  fits_all d i own out s a g inside G groups W (stmt first rest) vars h k env packet m wanted = (
    fits d i own out s a g inside G groups W first vars h.0 k.0 env packet m (λ y j. wanted y (left_in (in_stmt y first) (in_block y rest) j)),
    onward d i own out s (Here d i own s (after_vars first vars)) (λ more sent. FitsAll (TakesIn (reverse (functions d))) G W (context_of d a) rest more sent) (visit (context_of d a) first env packet)
        (visit_ok d i own out s a g inside first vars h.0 k.0 env packet m)
        (λ more sent at. fits_all d i own out s a g inside G groups W rest (after_vars first vars) (subst (λ t. IsTyped t rest) (after_scope first (scope_at d i vars true)) h.1) k.1 more sent at
        (λ y j. wanted y (right_in (in_stmt y first) (in_block y rest) j))),
  )
