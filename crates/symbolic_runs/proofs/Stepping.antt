-- What single statements make of a state that stands.
use Rattle.std.proofs.Common.{◌≡◌, inl, inr, ℕ, suc, ◌+◌, ◌-◌, ◌<◌, ◌≤◌, List, [], ◌∷◌, ◌++◌, map, drop, length, reverse, All, Bool, true, false, Option, Some, None, option_map, Result, Ok, Err, IfOk, refl, sym, ap, subst, ◌∙◌, arith}
use Rattle.std.proofs.lemmas.Bool.Decides.{nat_tests}
use Rattle.std.specs.Prelude.{Vec, is_some}
use Rattle.std.specs.declared.alloc.Global.{Global}
use Rattle.std.specs.List.{AllZip}
use Rattle.std.proofs.lemmas.List.{length-append, length-map, length-reverse}
use Rattle.std.proofs.lemmas.Result.{IfOk-weaker}
use Rattle.cocoon_num.specs.Sorts.{Sort, bits_sort, truth_sort, is_declared_width}
use Rattle.cocoon_num.specs.Tree.{Block, Design, Expr, Exprs, Name, Param, Role, Stmt, assume, filter, fork, havoc_field, havoc_var, if_, let_, no_stmts, send, set_field, stmt}
use Rattle.cocoon_num.specs.declared.NoMemory.{NoMemory}
use Rattle.cocoon_resolve.specs.Readers.{all_widths}
use Rattle.cocoon_syntax.specs.TreeOf.{design_of}
use Rattle.cocoon_types.specs.Design.{role_at, widths_of}
use Rattle.cocoon_types.specs.Typing.{Scope}
use Rattle.bv_terms.specs.declared.node.Node.{Node}
use Rattle.bv_terms.specs.Arenas.{KeepsTerms, inputs_in, term_at, width_at}
use Rattle.bv_terms.proofs.ReplaceFacts.{keeps-both}
use Rattle.bv_terms.specs.TermTrees.{IsWidth, Term}
use Rattle.sound_types.specs.WellTyped as typing
use Rattle.sound_types.specs.WellTyped.{scope_at}
use Rattle.sound_types.proofs.Members.{In, in_either}
use Rattle.obligation_laws.specs.Shown.{AreVariables, FitsScope, HasWidth}
use Rattle.obligation_laws.specs.TermOf.{TermEnv, bind_terms, no_term, term_context, term_of, terms_of}
use Rattle.obligation_laws.proofs.ExprWidths.{params_are}
use Rattle.expr_terms.specs.Scopes.{AreTyped, IsTyped}
use Rattle.expr_terms.specs.Variables.{AreThere, Keeps, Makes, MakesAll, VariablesThere, terms_at, variable_of, variables_of}
use Rattle.expr_terms.specs.declared.variables.Variable.{Variable}
use Rattle.obligation_laws.specs.States as tree
use Rattle.obligation_laws.specs.States.{TermWorld, input_term, where_true, with_variable}
use Rattle.obligation_laws.specs.Following as following
use Rattle.obligation_laws.specs.Following.{Followed, all_back_to, chosen_as, follow, follow_all, has_sent, in_branch, next_input, one, sends_to, then_those, those_sent}
use Rattle.symbolic_runs.specs.Fitting.{CanDo, CanEnter, CanFollow, FitsBy, FitsPlace, FitsState, HaveTerms, IsOfType, IsReady, Stands}
use Rattle.symbolic_runs.specs.Reading.{Follows, IsThere, Reads, cut_to, forked, place_of, state_of, states_of, world_in}
use Rattle.symbolic_runs.specs.declared.states.Place.{Place}
use Rattle.symbolic_runs.specs.declared.states.State.{State}
use Rattle.symbolic_runs.specs.declared.world.World.{World}
use Rattle.symbolic_runs.proofs.Fitting.{Held, block_held, expr_wide, exprs_wide, guard_wide, only, unsent}
use Rattle.symbolic_runs.proofs.Growing.{head_all, longer, makes_on, one_all, tail_all, there_on, terms_on}
use Rattle.symbolic_runs.proofs.Standing.{follows_one, reads_on, unsent_read}

-- ---- states

pub reads_self : (a : List Node) (s : State) → IsThere a s → Reads a s (state_of a s)
reads_self a s t = record { there = t; is = refl }

none_placed : (a : List Node) (o : Option Place) → option_map (place_of a) o ≡ None → o ≡ None
none_placed a None e = refl
none_placed a (Some at) e = absurd (cc)

-- a state that reads as one that has not sent has not
pub unsent_code : (a : List Node) (s : State) (t : tree.State) → Reads a s t → t.sent ≡ None → s.sent ≡ None
unsent_code a s t r e = none_placed a s.sent (ap (λ (z : tree.State). z.sent) r.is ∙ e)

pub stands_as : (w : World) (a : List Node) (vars : List Param) (s : State) (t : tree.State) → Reads a s t → FitsState w.level (design_of w.checked.now) vars t → Stands w a vars s
stands_as w a vars s t r f = record { there = r.there; fits = subst (FitsState w.level (design_of w.checked.now) vars) (sym r.is) f }

-- a list of one state
pub finish : (r : Result (Vec State Global) NoMemory) (b : List Node) (s : State) (f : Followed) → IfOk r (λ v. v.items ≡ s ∷ []) → Follows b (s ∷ []) f → IfOk r (λ v. Follows b v.items f)
finish r b s f h k = IfOk-weaker r _ _ (λ v e. subst (λ ss. Follows b ss f) (sym e) k) h

-- one more part of a condition can be made
pub can_require : (b : List Node) (s : State) (t : tree.State) (u : Term) (id : ℕ) → Reads b s t → HasWidth 1 t.cond → Makes b id u → HasWidth 1 u
    → ((s.condition < length b) × (id < length b)) × ((width_at b s.condition ≡ 1) × (width_at b id ≡ 1))
can_require b s t u id r c m h = (
  (r.there.condition, m.there),
  (subst (HasWidth 1) (sym (ap (λ (z : tree.State). z.cond) r.is)) c, subst (HasWidth 1) (sym m.term) h),
)

-- the fields are as many as are declared
pub fields_many : (w : World) (vars : List Param) (b : List Node) (s : State) (t : tree.State) → Reads b s t → FitsState w.level (design_of w.checked.now) vars t
    → length (all_widths (design_of w.checked.now).headers) ≤ length s.fields.items
fields_many w vars b s t r f =
    let many : length t.fields ≡ length s.fields.items = sym (ap (λ (z : tree.State). length z.fields) r.is) ∙ length-map s.fields.items (term_at b) in
    let l = long (all_widths (design_of w.checked.now).headers) t.fields f.fields in
    omega (arith, many, l)
  where
    long : (ws : List ℕ) (ts : List Term) → AllZip HasWidth ws ts → length ws ≤ length ts
    long [] ts h = omega arith
    long (v ∷ ws) [] h = absurd h
    long (v ∷ ws) (u ∷ ts) h = let l = long ws ts h.1 in omega (arith, l)

-- ---- terms of expressions

pub typed_in : (w : World) (a : List Node) (s : State) (sort : Sort) (e : Expr) → IsOfType w a s sort e → IsTyped (design_of w.checked.now) a s.variables.items s.fields.items e
typed_in w a s sort e can =
    let d = design_of w.checked.now in
    record {
      scope = scope_at d w.level can.vars true;
      sort = sort;
      design = refl;
      typed = can.typed;
      fits = record {
        variables = subst (λ o. FitsBy w.level d can.vars (state_of a s).vars o) (unsent_read a s can.unsent) can.stands.fits.place;
        fields_fit = λ x. can.stands.fits.fields;
      };
      variables = can.stands.there.variables;
      fields_there = can.stands.there.fields;
    }

pub all_typed_in : (w : World) (a : List Node) (s : State) (es : Exprs) → HaveTerms w a s es → AreTyped (design_of w.checked.now) a s.variables.items s.fields.items es
all_typed_in w a s es can =
    let d = design_of w.checked.now in
    record {
      scope = scope_at d w.level can.vars true;
      widths = can.widths;
      design = refl;
      typed = can.typed;
      fits = record {
        variables = subst (λ o. FitsBy w.level d can.vars (state_of a s).vars o) (unsent_read a s can.unsent) can.stands.fits.place;
        fields_fit = λ x. can.stands.fits.fields;
      };
      variables = can.stands.there.variables;
      fields_there = can.stands.there.fields;
    }

same_role : (o : Option Role) (r q : Role) → o ≡ Some r → o ≡ Some q → r ≡ q
same_role o r q h k = let e : Some r ≡ Some q = sym h ∙ k in cc

-- the guard of a role at values of its parameters
pub guard_typed : (w : World) (ready : IsReady w) (a : List Node) (role ids : List ℕ) (r : Role) (bound : List Variable) → CanEnter w a role ids → role_at w.level (design_of w.checked.now) role ≡ Some r
    → variables_of a bound ≡ bind_terms r.params (terms_at a ids) → VariablesThere a bound → IsTyped (design_of w.checked.now) a bound [] r.guard
guard_typed w ready a role ids r bound can is reads there =
    let d = design_of w.checked.now in
    let at = can.fits in
    let same : at.role ≡ r = same_role (role_at w.level d role) at.role r at.declared is in
    let wide : AllZip HasWidth (widths_of r.params) (terms_at a ids) = subst (λ (q : Role). AllZip HasWidth (widths_of q.params) (terms_at a ids)) same at.values in
    record {
      scope = scope_at d w.level r.params false;
      sort = truth_sort;
      design = refl;
      typed = (ready.roles role r is).guard;
      fits = record { variables = subst (AreVariables r.params) (sym reads) (params_are r.params (terms_at a ids) wide); fields_fit = λ x. absurd (cc) };
      variables = there;
      fields_there = λ k d l. absurd (omega (arith, l));
    }

-- ---- conditions

pub is_truth : (w : World) (a : List Node) (s : State) (e : Expr) → CanDo w a s (filter 0 e) → IsOfType w a s truth_sort e
is_truth w a s e can = record { vars = can.vars; unsent = can.unsent; typed = can.typed; stands = can.stands }

pub truth_wide : (w : World) (ready : IsReady w) (a : List Node) (s : State) (e : Expr) → CanDo w a s (filter 0 e) → HasWidth 1 (following.term_at (world_in w) (state_of a s) e)
truth_wide w ready a s e can =
    expr_wide (design_of w.checked.now) w.level ready.wide ready.roles can.vars (state_of a s) (unsent_read a s can.unsent) can.stands.fits truth_sort e can.typed

-- ---- branches

branch_fits : (w : World) (ready : IsReady w) (vars : List Param) (t : tree.State) (u : Term) (b : Bool) → t.sent ≡ None → FitsState w.level (design_of w.checked.now) vars t → FitsState w.level (design_of w.checked.now) vars (in_branch b u t)
branch_fits w ready vars t u true p f =
    let d = design_of w.checked.now in
    unsent d w.level ready.wide ready.roles vars (in_branch true u t) p (subst (λ o. FitsBy w.level d vars t.vars o) p f.place) f.fields f.condition
branch_fits w ready vars t u false p f =
    let d = design_of w.checked.now in
    unsent d w.level ready.wide ready.roles vars (in_branch false u t) p (subst (λ o. FitsBy w.level d vars t.vars o) p f.place) f.fields f.condition

-- a branch can be followed from where it begins
pub can_branch : (w : World) (ready : IsReady w) (a b : List Node) (s c : State) (u : Term) (x : Bool) (vars : List Param) (block : Block) → s.sent ≡ None → Stands w a vars s
    → typing.IsTyped (scope_at (design_of w.checked.now) w.level vars true) block → Reads b c (in_branch x u (state_of a s)) → CanFollow w b (c ∷ []) block
can_branch w ready a b s c u x vars block none stands typed r = record {
  vars = vars;
  typed = typed;
  stand = one_all (Stands w b vars) c (stands_as w b vars c (in_branch x u (state_of a s)) r (branch_fits w ready vars (state_of a s) u x (unsent_read a s none) stands.fits));
}

Ends : TermEnv → tree.State → Type 0
Ends V t = (more : TermEnv) × (t.vars ≡ more ++ V)

past : {A : Type 0} (xs ys : List A) → drop (length xs) (xs ++ ys) ≡ ys
past [] ys = refl
past (x ∷ xs) ys = past xs ys

pub dropped : {A : Type 0} (xs ys : List A) (n : ℕ) → n ≡ length xs → drop n (xs ++ ys) ≡ ys
dropped xs ys n e = ap (λ k. drop k (xs ++ ys)) e ∙ past xs ys

cut_back : (V : TermEnv) (n : ℕ) → n ≡ length V → (t : tree.State) → Ends V t → cut_to n t ≡ tree.back_to V t
unfolding Ends
cut_back V n e t h =
    let many : length t.vars - n ≡ length h.0 = (let l : length t.vars ≡ length h.0 + length V = ap length h.1 ∙ length-append h.0 V in omega (arith, l, e)) in
    let is : drop (length t.vars - n) t.vars ≡ V = ap (drop (length t.vars - n)) h.1 ∙ dropped h.0 V (length t.vars - n) many in
    λ j. record t { vars = is j }

cut_all : (V : TermEnv) (n : ℕ) → n ≡ length V → (ts : List tree.State) → ((t : tree.State) → In t ts → Ends V t) → map (cut_to n) ts ≡ map (tree.back_to V) ts
cut_all V n e [] h = refl
cut_all V n e (t ∷ ts) h = λ j. cut_back V n e t (h t (inl refl)) j ∷ cut_all V n e ts (λ u i. h u (inr i)) j

-- where a branch leads, it keeps the variables before it
branch_ends : (w : World) (ready : IsReady w) (vars : List Param) (t : tree.State) (u : Term) (b : Bool) → t.sent ≡ None → FitsState w.level (design_of w.checked.now) vars t → (block : Block)
    → typing.IsTyped (scope_at (design_of w.checked.now) w.level vars true) block → (n : ℕ)
    → (z : tree.State) → In z (follow_all (world_in w) block (one (in_branch b u t) n)).0 → Ends t.vars z
unfolding Ends
branch_ends w ready vars t u b p f block typed n z i =
    let d = design_of w.checked.now in
    (block_held d w.level ready.wide ready.roles t.vars block vars typed (in_branch b u t ∷ [])
    (only d w.level ready.wide ready.roles t.vars vars (in_branch b u t) (record { fits = branch_fits w ready vars t u b p f; ends = ([], vars_same b) })) n z i).ends
  where
    vars_same : (b : Bool) → (in_branch b u t).vars ≡ t.vars
    vars_same true = refl
    vars_same false = refl

-- both branches, without their variables
pub if_back : (w : World) (ready : IsReady w) (vars : List Param) (t : tree.State) (u : Term) → t.sent ≡ None → FitsState w.level (design_of w.checked.now) vars t → (first second : Block)
    → typing.IsTyped (scope_at (design_of w.checked.now) w.level vars true) first
    → typing.IsTyped (scope_at (design_of w.checked.now) w.level vars true) second → (n count : ℕ) → count ≡ length t.vars
    → map (cut_to count) (then_those (follow_all (world_in w) first (one (in_branch true u t) n)) (λ m. follow_all (world_in w) second (one (in_branch false u t) m))).0
    ≡ (all_back_to t.vars (then_those (follow_all (world_in w) first (one (in_branch true u t) n)) (λ m. follow_all (world_in w) second (one (in_branch false u t) m)))).0
if_back w ready vars t u p f first second h k n count e =
    let A = follow_all (world_in w) first (one (in_branch true u t) n) in
    let B = follow_all (world_in w) second (one (in_branch false u t) A.1) in
    cut_all t.vars count e (A.0 ++ B.0)
    (λ z i. elim (in_either z A.0 B.0 i) [
      | inl j ↦ branch_ends w ready vars t u true p f first h n z j
      | inr j ↦ branch_ends w ready vars t u false p f second k A.1 z j
    ])

pub variables_counted : (a : List Node) (vs : List Variable) → length vs ≡ length (variables_of a vs)
variables_counted a vs = sym (length-map (reverse vs) (variable_of a) ∙ length-reverse vs)

-- ---- choices

pub chosen_fits : (w : World) (ready : IsReady w) (vars : List Param) (x : Name) (width n : ℕ) (t : tree.State) → t.sent ≡ None → FitsState w.level (design_of w.checked.now) vars t
    → FitsState w.level (design_of w.checked.now) (record { name = x; width = width } ∷ vars) (chosen_as x.text (next_input n width) t)
chosen_fits w ready vars x width n t p f =
    let d = design_of w.checked.now in
    unsent d w.level ready.wide ready.roles (record { name = x; width = width } ∷ vars) (chosen_as x.text (next_input n width) t) p
    (refl, refl, subst (λ o. FitsBy w.level d vars t.vars o) p f.place) f.fields f.condition

pub forked_fits : (w : World) (ready : IsReady w) (vars : List Param) (x : Name) (width n : ℕ) (e : Expr) (t : tree.State) → t.sent ≡ None → FitsState w.level (design_of w.checked.now) vars t
    → FitsState w.level (design_of w.checked.now) (record { name = x; width = width } ∷ vars) (forked (world_in w) x.text width e t n)
forked_fits w ready vars x width n e t p f =
    let d = design_of w.checked.now in
    unsent d w.level ready.wide ready.roles (record { name = x; width = width } ∷ vars) (forked (world_in w) x.text width e t n) p
    (refl, refl, subst (λ o. FitsBy w.level d vars t.vars o) p f.place) f.fields f.condition

-- the condition of a fork in the state where its variable is chosen
pub record ChosenPart (w : World) (b c : List Node) (s : State) (z : tree.State) (e : Expr) (id : ℕ) : Type 0 where
  pub reads : Reads c s z
  pub made : Makes c id (following.term_at (world_in w) z e)
  pub can : ((s.condition < length c) × (id < length c)) × ((width_at c s.condition ≡ 1) × (width_at c id ≡ 1))

pub chosen_part : (w : World) (ready : IsReady w) (a b c : List Node) (s two : State) (x : Name) (width : ℕ) (e : Expr) (id : ℕ) → CanDo w a s (fork 0 x width e no_stmts)
    → Reads b two (chosen_as x.text (next_input (inputs_in a) width) (state_of a s)) → KeepsTerms b c → Makes c id (following.term_at (world_in w) (state_of b two) e)
    → ChosenPart w b c two (chosen_as x.text (next_input (inputs_in a) width) (state_of a s)) e id
chosen_part w ready a b c s two x width e id can r kept made =
    let d = design_of w.checked.now in
    let t = state_of a s in
    let n = inputs_in a in
    let z = chosen_as x.text (next_input n width) t in
    let none = unsent_read a s can.unsent in
    let there = reads_on b c two z kept r in
    let part : Makes c id (following.term_at (world_in w) z e) = subst (λ y. Makes c id (following.term_at (world_in w) y e)) r.is made in
    let wide = expr_wide d w.level ready.wide ready.roles (record { name = x; width = width } ∷ can.vars) z none (chosen_fits w ready can.vars x width n t none can.stands.fits) truth_sort e can.typed.1 in
    record { reads = there; made = part; can = can_require c two z (following.term_at (world_in w) z e) id there can.stands.fits.condition part wide }

-- ---- statements

pub not_some : (o : Option Place) → is_some o ≡ false → o ≡ None
not_some None e = refl
not_some (Some at) e = absurd (cc)

sent_elim : (f : tree.State → ℕ → Followed) (t : tree.State) (n : ℕ) (o : Option tree.Place) → t.sent ≡ o → following.unless_sent f t n ≡ elim o as (λ x. Followed) [ None ↦ f t n | Some at ↦ one t n ]
sent_elim f t n o e = ap (λ (o : Option tree.Place). elim o as (λ x. Followed) [ None ↦ f t n | Some at ↦ one t n ]) e

-- a state that has sent stays
pub sent_stays : (f : tree.State → ℕ → Followed) (a : List Node) (s : State) (n : ℕ) → is_some s.sent ≡ true → following.unless_sent f (state_of a s) n ≡ one (state_of a s) n
sent_stays f a s n e = by s.sent e refl
  where
    by : (o : Option Place) → is_some o ≡ true → s.sent ≡ o → following.unless_sent f (state_of a s) n ≡ one (state_of a s) n
    by None h k = absurd (cc)
    by (Some at) h k = sent_elim f (state_of a s) n (Some (place_of a at)) (ap (option_map (place_of a)) k)

-- any other is followed
pub unsent_goes : (f : tree.State → ℕ → Followed) (a : List Node) (s : State) (n : ℕ) → s.sent ≡ None → following.unless_sent f (state_of a s) n ≡ f (state_of a s) n
unsent_goes f a s n e = sent_elim f (state_of a s) n None (unsent_read a s e)

pub if_condition : (w : World) (a : List Node) (s : State) (e : Expr) (first second : Block) → CanDo w a s (if_ 0 e first second) → CanDo w a s (filter 0 e)
if_condition w a s e first second can = record { vars = can.vars; unsent = can.unsent; typed = can.typed.0; stands = can.stands }

pub fork_condition : (w : World) (a : List Node) (s : State) (x : Name) (width : ℕ) (e : Expr) (body : Block) → CanDo w a s (fork 0 x width e body) → CanDo w a s (fork 0 x width e no_stmts)
fork_condition w a s x width e body can = record { vars = can.vars; unsent = can.unsent; typed = (can.typed.0, can.typed.1, tt); stands = can.stands }

pub same_if : (w : World) (a : List Node) (s : State) (at : ℕ) (e : Expr) (first second : Block) → CanDo w a s (if_ at e first second) → CanDo w a s (if_ 0 e first second)
same_if w a s at e first second can = record { vars = can.vars; unsent = can.unsent; typed = can.typed; stands = can.stands }

pub same_fork : (w : World) (a : List Node) (s : State) (at : ℕ) (x : Name) (width : ℕ) (e : Expr) (body : Block) → CanDo w a s (fork at x width e body) → CanDo w a s (fork 0 x width e body)
same_fork w a s at x width e body can = record { vars = can.vars; unsent = can.unsent; typed = can.typed; stands = can.stands }

-- what an `if` makes of a state, from where its branches begin
pub if_is : (w : World) (ready : IsReady w) (a b : List Node) (s one_way other : State) (e : Expr) (first second : Block) (count : ℕ) → CanDo w a s (if_ 0 e first second)
    → Reads b one_way (in_branch true (following.term_at (world_in w) (state_of a s) e) (state_of a s)) → Reads b other (in_branch false (following.term_at (world_in w) (state_of a s) e) (state_of a s))
    → inputs_in b ≡ inputs_in a → count ≡ length s.variables.items
    → (
      map (cut_to count) (then_those (follow_all (world_in w) first (states_of b (one_way ∷ []), inputs_in b)) (λ m. follow_all (world_in w) second (states_of b (other ∷ []), m))).0,
      (then_those (follow_all (world_in w) first (states_of b (one_way ∷ []), inputs_in b)) (λ m. follow_all (world_in w) second (states_of b (other ∷ []), m))).1,
    )
    ≡ follow (world_in w) (if_ 0 e first second) (state_of a s) (inputs_in a)
if_is w ready a b s one_way other e first second count can y z same many =
    let t = state_of a s in
    let u = following.term_at (world_in w) t e in
    let n = inputs_in a in
    let both : Followed = then_those (follow_all (world_in w) first (one (in_branch true u t) n)) (λ m. follow_all (world_in w) second (one (in_branch false u t) m)) in
    let begun : then_those (follow_all (world_in w) first (states_of b (one_way ∷ []), inputs_in b)) (λ m. follow_all (world_in w) second (states_of b (other ∷ []), m)) ≡ both =
    (λ j. then_those (follow_all (world_in w) first (y.is j ∷ [], same j)) (λ m. follow_all (world_in w) second (z.is j ∷ [], m))) in
    ap (λ (f : Followed). (map (cut_to count) f.0, f.1)) begun
    ∙ ap (λ zs. (zs, both.1)) (if_back w ready can.vars t u (unsent_read a s can.unsent) can.stands.fits first second can.typed.1 can.typed.2 n count (many ∙ variables_counted a s.variables.items))

-- the body of a fork can be followed from where it begins
pub can_fork : (w : World) (ready : IsReady w) (a b : List Node) (s c : State) (x : Name) (width : ℕ) (e : Expr) (body : Block) → CanDo w a s (fork 0 x width e body)
    → Reads b c (forked (world_in w) x.text width e (state_of a s) (inputs_in a)) → CanFollow w b (c ∷ []) body
can_fork w ready a b s c x width e body can r =
    let vars : List Param = record { name = x; width = width } ∷ can.vars in
    record {
      vars = vars;
      typed = can.typed.2;
      stand = one_all (Stands w b vars) c (stands_as w b vars c (forked (world_in w) x.text width e (state_of a s) (inputs_in a)) r (forked_fits w ready can.vars x width (inputs_in a) e (state_of a s) (unsent_read a s can.unsent) can.stands.fits));
    }

-- what a fork makes of a state, from where its body begins
pub fork_is : (w : World) (a b : List Node) (s c : State) (x : Name) (width : ℕ) (e : Expr) (body : Block) → Reads b c (forked (world_in w) x.text width e (state_of a s) (inputs_in a)) → inputs_in b ≡ inputs_in a + 1
    → those_sent (follow_all (world_in w) body (states_of b (c ∷ []), inputs_in b)) ≡ follow (world_in w) (fork 0 x width e body) (state_of a s) (inputs_in a)
fork_is w a b s c x width e body r same =
    let one_more : inputs_in b ≡ suc (inputs_in a) = omega (arith, same) in
    λ j. those_sent (follow_all (world_in w) body (r.is j ∷ [], one_more j))

pub can_one : (w : World) (a : List Node) (s : State) (rest : List State) (x : Block) → CanFollow w a (s ∷ rest) x → CanFollow w a (s ∷ []) x
can_one w a s rest x can = record { vars = can.vars; typed = can.typed; stand = one_all (Stands w a can.vars) s (head_all (Stands w a can.vars) s rest can.stand) }

pub can_rest : (w : World) (a : List Node) (s : State) (rest : List State) (x : Block) → CanFollow w a (s ∷ rest) x → CanFollow w a rest x
can_rest w a s rest x can = record { vars = can.vars; typed = can.typed; stand = tail_all (Stands w a can.vars) s rest can.stand }

pub first_there : (w : World) (a : List Node) (s : State) (x : Block) → CanFollow w a (s ∷ []) x → IsThere a s
first_there w a s x can = (head_all (Stands w a can.vars) s [] can.stand).there

width_bounds : (w : ℕ) → is_declared_width w ≡ true → (1 ≤ w) × (w ≤ 64)
width_bounds w h = (grind (arith, nat_tests, h), grind (arith, nat_tests, h))

-- a width that may be declared
pub declared_width : (w : ℕ) → is_declared_width w ≡ true → IsWidth w
declared_width w h = let l = width_bounds w h in ((let a = l.0 in omega arith), (let b = l.1 in omega (arith, b)))

-- ---- terms that were made

pub made_ok : (r : Result ℕ NoMemory) (b : List Node) (u v : Term) → IfOk r (λ id. id < length b) → IfOk r (λ id. term_at b id ≡ v) → v ≡ u → IfOk r (λ id. Makes b id u)
made_ok (Ok id) b u v p q e = record { there = p; term = q ∙ e }
made_ok (Err x) b u v p q e = tt

pub all_made_ok : (r : Result (Vec ℕ Global) NoMemory) (b : List Node) (us vs : List Term) → IfOk r (λ ids. AreThere b ids.items) → IfOk r (λ ids. terms_at b ids.items ≡ vs) → vs ≡ us → IfOk r (λ ids. MakesAll b ids.items us)
all_made_ok (Ok ids) b us vs p q e = record { there = p; terms = q ∙ e }
all_made_ok (Err x) b us vs p q e = tt

-- the guard of a role that is declared
pub guard_is : (w : World) (role : List ℕ) (values : List Term) (r : Role) → role_at w.level (design_of w.checked.now) role ≡ Some r
    → tree.guard_term (world_in w) (record { role = role; values = values }) ≡ term_of (term_context (design_of w.checked.now)) (bind_terms r.params values) [] r.guard
guard_is w role values r e =
    ap (λ (o : Option Role). elim o as (λ x. Term) [ None ↦ no_term | Some r ↦ term_of (term_context (design_of w.checked.now)) (bind_terms r.params values) [] r.guard ]) e

-- the same statement but for where it stands
pub as_stmt : (w : World) (a : List Node) (s : State) (x y : Stmt) → ((scope : Scope) → typing.IsTypedStmt scope x → typing.IsTypedStmt scope y) → CanDo w a s x → CanDo w a s y
as_stmt w a s x y f can = record { vars = can.vars; unsent = can.unsent; typed = f (scope_at (design_of w.checked.now) w.level can.vars true) can.typed; stands = can.stands }

-- ---- sending

-- a place sent to, and the guard there
pub record GuardMade (w : World) (c : List Node) (s : State) (t : tree.State) (at : tree.Place) (ids : List ℕ) (id : ℕ) : Type 0 where
  pub reads : Reads c s t
  pub made : Makes c id (tree.guard_term (world_in w) at)
  pub can : ((s.condition < length c) × (id < length c)) × ((width_at c s.condition ≡ 1) × (width_at c id ≡ 1))
  pub values : (z : List Node) → KeepsTerms c z → MakesAll z ids at.values

pub record SentBy (w : World) (b : List Node) (s : State) (t : tree.State) (role : List ℕ) (us : List Term) (ids : List ℕ) : Type 0 where
  pub can : CanEnter w b role ids
  pub part : (c : List Node) (id : ℕ) (name values : List ℕ) → name ≡ role → values ≡ ids → KeepsTerms b c
      → Makes c id (tree.guard_term (world_in w) (record { role = name; values = terms_at b values })) → GuardMade w c s t (record { role = role; values = us }) ids id

all_makes_on : (a b : List Node) (ids : List ℕ) (us : List Term) → KeepsTerms a b → MakesAll a ids us → MakesAll b ids us
all_makes_on a b ids us h m = record { there = there_on a b ids h m.there; terms = terms_on a b ids h m.there ∙ m.terms }

pub sent_by : (w : World) (ready : IsReady w) (a b : List Node) (s : State) (r : Name) (es : Exprs) (ids : List ℕ) → CanDo w a s (send 0 r es) → KeepsTerms a b
    → MakesAll b ids (terms_of (term_context (design_of w.checked.now)) (state_of a s).vars (state_of a s).fields es)
    → SentBy w b s (state_of a s) r.text (terms_of (term_context (design_of w.checked.now)) (state_of a s).vars (state_of a s).fields es) ids
sent_by w ready a b s r es ids can kept made =
    let d = design_of w.checked.now in
    let t = state_of a s in
    let us = terms_of (term_context d) t.vars t.fields es in
    let none = unsent_read a s can.unsent in
    let wide : AllZip HasWidth (widths_of can.typed.0.params) us = exprs_wide d w.level ready.wide ready.roles can.vars t none can.stands.fits (widths_of can.typed.0.params) es can.typed.2 in
    let at : tree.Place = record { role = r.text; values = us } in
    let fits : FitsPlace w.level d at = record { role = can.typed.0; declared = can.typed.1; values = wide } in
    record {
      can = record { there = made.there; fits = subst (λ ts. FitsPlace w.level d (record { role = r.text; values = ts })) (sym made.terms) fits };
      part = λ c id name values e f h m.
          let guard : Makes c id (tree.guard_term (world_in w) at) =
          subst (λ p. Makes c id (tree.guard_term (world_in w) p)) (λ j. record { role = e j; values = (ap (terms_at b) f ∙ made.terms) j }) m in
          let reads = reads_on a c s t (keeps-both a b c kept h) (reads_self a s can.stands.there) in
          record {
            reads = reads;
            made = guard;
            can = can_require c s t (tree.guard_term (world_in w) at) id reads can.stands.fits.condition guard (guard_wide d w.level ready.wide ready.roles at fits);
            values = λ z k. all_makes_on b z ids us (keeps-both b c z h k) made;
          };
    }

pub choice_fits : (w : World) (vars : List Param) (i : tree.NewInput) (t : tree.State) → FitsState w.level (design_of w.checked.now) vars t → FitsState w.level (design_of w.checked.now) vars (tree.with_choice i t)
choice_fits w vars i t f = record { fields = f.fields; condition = f.condition; place = f.place }
