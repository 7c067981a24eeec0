-- What a state reads as after one of its parts changed.
use Rattle.std.proofs.Common.{◌≡◌, ℕ, zero, suc, ◌<◌, List, [], ◌∷◌, ◌++◌, map, reverse, set, length, All, get_or, Bool, Option, Some, None, option_map, refl, sym, ap, subst, ◌∙◌, arith}
use Rattle.std.specs.Prelude.{Vec, slice_get}
use Rattle.std.specs.declared.alloc.Global.{Global}
use Rattle.std.proofs.lemmas.List.{map-append, reverse-append}
use Rattle.std.proofs.lemmas.List.Elements.{All-append, All-cons}
use Rattle.cocoon_num.specs.Tree.{HeaderDecl}
use Rattle.bv_terms.specs.declared.node.Node.{Node}
use Rattle.bv_terms.specs.declared.node.Node.TheVariants.{Binary, Input}
use Rattle.bv_terms.specs.declared.node.TermOp.TheVariants.{And}
use Rattle.bv_terms.specs.Arenas.{IsPut, KeepsTerms, term_at}
use Rattle.bv_terms.specs.TermTrees.{Term}
use Rattle.expr_terms.specs.Variables.{AreThere, Makes, MakesAll, VariablesThere, terms_at, variable_of, variables_of}
use Rattle.expr_terms.specs.declared.variables.Variable.{Variable}
use Rattle.obligation_laws.specs.States as tree
use Rattle.obligation_laws.specs.States.{where_true, with_branch, with_choice, with_field, with_variable}
use Rattle.symbolic_runs.specs.Places as places
use Rattle.symbolic_runs.specs.Reading.{IsInput, IsThere, PlaceThere, Reads, input_of, place_of, state_of}
use Rattle.symbolic_runs.specs.declared.states.Choice.{Choice}
use Rattle.symbolic_runs.specs.declared.states.Place.{Place}
use Rattle.symbolic_runs.specs.declared.states.State.{State}
use Rattle.symbolic_runs.proofs.Growing.{head_all, inputs_on, one_all, state_on, state_there, tail_all}
use Rattle.symbolic_runs.proofs.Places.{set_at, set_none}

-- ---- variables

pub bound_reads : (a : List Node) (s : State) (vs : Vec Variable Global) (v : Variable) (t : tree.State) (u : Term) → vs.items ≡ s.variables.items ++ v ∷ [] → Reads a s t → Makes a v.term u
    → Reads a (record s { variables = vs }) (with_variable v.name.now u t)
bound_reads a s vs v t u e r m =
    let xs = s.variables.items in
    let vars : variables_of a vs.items ≡ (v.name.now, u) ∷ t.vars =
    ap (variables_of a) e ∙ ap (map (variable_of a)) (reverse-append xs (v ∷ [])) ∙ (λ j. (v.name.now, m.term j) ∷ (r.is j).vars) in
    record {
      there = record {
        variables = subst (VariablesThere a) (sym e) (All-append (λ (x : Variable). x.term < length a) xs (v ∷ []) r.there.variables (one_all (λ (x : Variable). x.term < length a) v m.there));
        fields = r.there.fields;
        condition = r.there.condition;
        choices = r.there.choices;
        sent = r.there.sent;
      };
      is = λ j. record (r.is j) { vars = vars j };
    }

-- ---- fields

terms_set : (a : List Node) (ids : List ℕ) (k id : ℕ) → terms_at a (set ids k id) ≡ set (terms_at a ids) k (term_at a id)
terms_set a [] zero id = refl
terms_set a [] (suc k) id = refl
terms_set a (i ∷ ids) zero id = refl
terms_set a (i ∷ ids) (suc k) id = ap (λ ts. term_at a i ∷ ts) (terms_set a ids k id)

set_all : (P : ℕ → Type 0) (ids : List ℕ) (k id : ℕ) → All P ids → P id → All P (set ids k id)
set_all P [] zero id all p = all
set_all P [] (suc k) id all p = all
set_all P (i ∷ ids) zero id all p = All-cons P id ids p (tail_all P i ids all)
set_all P (i ∷ ids) (suc k) id all p = All-cons P i (set ids k id) (head_all P i ids all) (set_all P ids k id (tail_all P i ids all) p)

pub field_reads : (a : List Node) (s : State) (fs : Vec ℕ Global) (hs : List HeaderDecl) (h f : List ℕ) (p id : ℕ) (t : tree.State) (u : Term) → places.place_of hs h f ≡ Some p
    → fs.items ≡ set s.fields.items p id → Reads a s t → Makes a id u → Reads a (record s { fields = fs }) (with_field hs h f u t)
field_reads a s fs hs h f p id t u found e r m =
    let ids = s.fields.items in
    let fields : terms_at a fs.items ≡ tree.set_term hs t.fields h f u =
    ap (terms_at a) e ∙ terms_set a ids p id ∙ (λ j. set (r.is j).fields p (m.term j)) ∙ set_at hs t.fields h f u p found in
    record {
      there = record {
        variables = r.there.variables;
        fields = subst (AreThere a) (sym e) (set_all (λ k. k < length a) ids p id r.there.fields m.there);
        condition = r.there.condition;
        choices = r.there.choices;
        sent = r.there.sent;
      };
      is = λ j. record (r.is j) { fields = fields j };
    }

pub no_field_reads : (a : List Node) (s : State) (hs : List HeaderDecl) (h f : List ℕ) (t : tree.State) (u : Term) → places.place_of hs h f ≡ None → Reads a s t → Reads a s (with_field hs h f u t)
no_field_reads a s hs h f t u none r = record { there = r.there; is = r.is ∙ (λ j. record t { fields = set_none hs t.fields h f u none j }) }

-- ---- conditions and branches

pub required_reads : (a b : List Node) (s : State) (part id : ℕ) (t : tree.State) (u : Term) → KeepsTerms a b → IsPut a b (Binary And s.condition part) id → Reads a s t → Makes a part u
    → Reads b (record s { condition = id }) (where_true u t)
required_reads a b s part id t u h put r m =
    let k = state_there a b s h r.there in
    let cond : term_at b id ≡ tree.and_with t.cond u = put.term ∙ (λ j. tree.and_with (r.is j).cond (m.term j)) in
    let is : state_of b s ≡ t = state_on a b s h r.there ∙ r.is in
    record {
      there = record { variables = k.variables; fields = k.fields; condition = put.there; choices = k.choices; sent = k.sent };
      is = λ j. record (is j) { cond = cond j };
    }

pub branch_reads : (a : List Node) (s : State) (bs : Vec Bool Global) (x : Bool) (t : tree.State) → bs.items ≡ s.way.items ++ x ∷ [] → Reads a s t → Reads a (record s { way = bs }) (with_branch x t)
branch_reads a s bs x t e r =
    let way : bs.items ≡ t.way ++ x ∷ [] = e ∙ (λ j. (r.is j).way ++ x ∷ []) in
    record {
      there = record { variables = r.there.variables; fields = r.there.fields; condition = r.there.condition; choices = r.there.choices; sent = r.there.sent };
      is = λ j. record (r.is j) { way = way j };
    }

-- ---- choices

pub chosen_reads : (a b : List Node) (s : State) (cs : Vec Choice Global) (c : Choice) (id : ℕ) (t : tree.State) → KeepsTerms a b → IsPut a b (Input c.input c.width) id → cs.items ≡ s.choices.items ++ c ∷ [] → Reads a s t
    → Reads b (record s { choices = cs }) (with_choice (input_of c) t)
chosen_reads a b s cs c id t h put e r =
    let k = state_there a b s h r.there in
    let xs = s.choices.items in
    let choices : map input_of cs.items ≡ t.choices ++ input_of c ∷ [] = ap (map input_of) e ∙ map-append input_of xs (c ∷ []) ∙ (λ j. (r.is j).choices ++ input_of c ∷ []) in
    let is : state_of b s ≡ t = state_on a b s h r.there ∙ r.is in
    record {
      there = record {
        variables = k.variables;
        fields = k.fields;
        condition = k.condition;
        choices = subst (All (IsInput b)) (sym e) (All-append (IsInput b) xs (c ∷ []) k.choices (one_all (IsInput b) c (id, put.node_)));
        sent = k.sent;
      };
      is = λ j. record (is j) { choices = choices j };
    }

-- ---- sending

pub sent_reads : (a : List Node) (s : State) (at : Place) (t : tree.State) (us : List Term) → Reads a s t → MakesAll a at.values.items us
    → Reads a (record s { sent = Some at }) (record t { sent = Some (record { role = at.role.now; values = us }) })
sent_reads a s at t us r m = record {
  there = record { variables = r.there.variables; fields = r.there.fields; condition = r.there.condition; choices = r.there.choices; sent = m.there };
  is = λ j. record (r.is j) { sent = Some (record { role = at.role.now; values = m.terms j }) };
}

-- ---- copies

pub copy_reads : (a : List Node) (s c : State) (t : tree.State) → s.sent ≡ None → c.variables.items ≡ s.variables.items → c.fields.items ≡ s.fields.items → c.condition ≡ s.condition
    → c.choices.items ≡ s.choices.items → c.way.items ≡ s.way.items → c.sent ≡ None → Reads a s t → Reads a c t
copy_reads a s c t none vars fields condition choices way sent r = record {
  there = record {
    variables = subst (VariablesThere a) (sym vars) r.there.variables;
    fields = subst (AreThere a) (sym fields) r.there.fields;
    condition = subst (λ k. k < length a) (sym condition) r.there.condition;
    choices = subst (All (IsInput a)) (sym choices) r.there.choices;
    sent = subst (PlaceThere a) (sym sent) tt;
  };
  is = (λ j. record {
    vars = variables_of a (vars j);
    fields = terms_at a (fields j);
    cond = term_at a (condition j);
    choices = map input_of (choices j);
    way = way j;
    sent = option_map (place_of a) ((sent ∙ sym none) j);
  }) ∙ r.is;
}
