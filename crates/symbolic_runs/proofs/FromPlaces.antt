-- Bodies of roles, from the places that states have sent to.
use Rattle.std.proofs.Common.{◌≡◌, ℕ, List, [], ◌∷◌, map, All, true, Option, Some, None, option_map, Result, Ok, Err, OnOk, length, ◌<◌, refl, sym, ap, subst, ◌∙◌, arith}
use Rattle.std.specs.List.{AllZip}
use Rattle.cocoon_num.specs.Tree.{Block, Design, Param, Role}
use Rattle.cocoon_syntax.specs.TreeOf.{design_of}
use Rattle.cocoon_types.specs.Design.{role_at, widths_of}
use Rattle.bv_terms.specs.declared.node.Node.{Node}
use Rattle.bv_terms.specs.Arenas.{KeepsTerms, inputs_in, term_at}
use Rattle.bv_terms.specs.TermTrees.{Term}
use Rattle.cocoon_resolve.specs.Readers.{all_widths}
use Rattle.sound_types.specs.WellTyped.{IsTyped, scope_at}
use Rattle.obligation_laws.specs.Shown.{HasWidth}
use Rattle.obligation_laws.specs.TermOf.{bind_terms}
use Rattle.obligation_laws.proofs.ExprWidths.{params_are}
use Rattle.expr_terms.specs.Variables.{AreThere, Makes, VariablesThere, terms_at, variables_of}
use Rattle.obligation_laws.specs.States as tree
use Rattle.obligation_laws.specs.States.{TermWorld, guard_term}
use Rattle.obligation_laws.specs.Following.{Followed, follow_all, has_sent, one, those_sent}
use Rattle.obligation_laws.proofs.Followings.{passed, some_place}
use Rattle.obligation_laws.proofs.Statements.{block_vars}
use Rattle.sound_types.proofs.Members.{In}
use Rattle.obligation_laws.specs.Leaves.{begins, entered, follow_body}
use Rattle.symbolic_runs.specs.Entering.{IsBodyAt, NoBodyAt}
use Rattle.symbolic_runs.specs.Fitting.{CanFollow, FitsBy, FitsPlace, FitsState, IsReady, Stands}
use Rattle.symbolic_runs.specs.Reading.{Follows, IsInput, IsThere, PlaceThere, Reads, from_place, input_of, place_of, state_of, states_of, values_at, world_in}
use Rattle.symbolic_runs.specs.declared.states.Place.{Place}
use Rattle.symbolic_runs.specs.declared.states.State.{State}
use Rattle.symbolic_runs.specs.declared.world.World.{World}
use Rattle.symbolic_runs.proofs.Fitting.{block_held, guard_wide}
use Rattle.symbolic_runs.proofs.Growing.{one_all, terms_on, there_on}
use Rattle.symbolic_runs.proofs.Standing.{held_all, stand_all}
use Rattle.symbolic_runs.proofs.Stepping.{stands_as}

-- ---- what comes of a place

pub from_none : (T : TermWorld) (t : tree.State) (n : ℕ) → t.sent ≡ None → from_place T t n ≡ ([], n)
from_none T t n e = ap (λ (o : Option tree.Place). elim o as (λ x. Followed) [ None ↦ ([], n) | Some at ↦ follow_body T at t n ]) e

pub from_some : (T : TermWorld) (t : tree.State) (n : ℕ) (at : tree.Place) → t.sent ≡ Some at → from_place T t n ≡ follow_body T at t n
from_some T t n at e = ap (λ (o : Option tree.Place). elim o as (λ x. Followed) [ None ↦ ([], n) | Some at ↦ follow_body T at t n ]) e

pub role_none : (T : TermWorld) (t : tree.State) (n : ℕ) (at : tree.Place) → T.role at.role ≡ None → follow_body T at t n ≡ ([], n)
role_none T t n at e =
    ap (λ (o : Option Role). elim o as (λ x. Followed) [ None ↦ ([], n) | Some r ↦ elim r.body [ None ↦ ([], n) | Some b ↦ those_sent (follow_all T b (one (entered r at t) n)) ] ]) e

with_body : (T : TermWorld) (t : tree.State) (n : ℕ) (at : tree.Place) (r : Role) → T.role at.role ≡ Some r → (o : Option Block) → r.body ≡ o
    → follow_body T at t n ≡ elim o as (λ x. Followed) [ None ↦ ([], n) | Some b ↦ those_sent (follow_all T b (one (entered r at t) n)) ]
with_body T t n at r e o h =
    ap (λ (o : Option Role). elim o as (λ x. Followed) [ None ↦ ([], n) | Some r ↦ elim r.body [ None ↦ ([], n) | Some b ↦ those_sent (follow_all T b (one (entered r at t) n)) ] ]) e
    ∙ ap (λ (o : Option Block). elim o as (λ x. Followed) [ None ↦ ([], n) | Some b ↦ those_sent (follow_all T b (one (entered r at t) n)) ]) h

pub body_none : (T : TermWorld) (t : tree.State) (n : ℕ) (at : tree.Place) (r : Role) → T.role at.role ≡ Some r → r.body ≡ None → follow_body T at t n ≡ ([], n)
body_none T t n at r e h = with_body T t n at r e None h

pub body_some : (T : TermWorld) (t : tree.State) (n : ℕ) (at : tree.Place) (r : Role) (b : Block) → T.role at.role ≡ Some r → r.body ≡ Some b
    → follow_body T at t n ≡ those_sent (follow_all T b (one (entered r at t) n))
body_some T t n at r b e h = with_body T t n at r e (Some b) h

-- ---- where a body begins

values_read : (a : List Node) (o : Option Place) (at : tree.Place) → option_map (place_of a) o ≡ Some at → terms_at a (values_at o) ≡ at.values
values_read a None at e = absurd (cc)
values_read a (Some p) at e = let same : place_of a p ≡ at = cc in ap (λ (q : tree.Place). q.values) same

pub values_there : (a : List Node) (o : Option Place) → PlaceThere a o → AreThere a (values_at o)
values_there a None h = λ k d l. absurd (omega (arith, l))
values_there a (Some p) h = h

-- it has the parameters alone
pub entered_reads : (a : List Node) (s e : State) (t : tree.State) (at : tree.Place) (r : Role) → Reads a s t → t.sent ≡ Some at
    → variables_of a e.variables.items ≡ bind_terms r.params (terms_at a (values_at s.sent)) → VariablesThere a e.variables.items
    → e.fields ≡ s.fields → e.condition ≡ s.condition → e.choices ≡ s.choices → e.way ≡ s.way → e.sent ≡ None → Reads a e (entered r at t)
entered_reads a s e t at r h to vars there fields condition choices way sent =
    let values : terms_at a (values_at s.sent) ≡ at.values = values_read a s.sent at (ap (λ (z : tree.State). z.sent) h.is ∙ to) in
    record {
      there = record {
        variables = there;
        fields = subst (λ v. AreThere a v.items) (sym fields) h.there.fields;
        condition = subst (λ k. k < length a) (sym condition) h.there.condition;
        choices = subst (λ v. All (IsInput a) v.items) (sym choices) h.there.choices;
        sent = subst (PlaceThere a) (sym sent) tt;
      };
      is =
          (λ j. record {
            vars = (vars ∙ ap (bind_terms r.params) values) j;
            fields = terms_at a (fields j).items;
            cond = term_at a (condition j);
            choices = map input_of (choices j).items;
            way = (way j).items;
            sent = option_map (place_of a) (sent j);
          })
          ∙ (λ j. record (h.is j) { vars = bind_terms r.params at.values; sent = None });
    }

pub entered_can : (w : World) (ready : IsReady w) (a : List Node) (s e : State) (at : tree.Place) (r : Role) (b : Block) → Stands w a [] s → (state_of a s).sent ≡ Some at
    → role_at w.level (design_of w.checked.now) at.role ≡ Some r → r.body ≡ Some b → Reads a e (entered r at (state_of a s)) → CanFollow w a (e ∷ []) b
entered_can w ready a s e at r b h to is body reads =
    let d = design_of w.checked.now in
    let place : FitsPlace w.level d at = subst (λ o. FitsBy w.level d [] (state_of a s).vars o) to h.fits.place in
    let found : Some place.role ≡ Some r = sym place.declared ∙ is in
    let same : place.role ≡ r = cc in
    let wide : AllZip HasWidth (widths_of r.params) at.values = subst (λ (q : Role). AllZip HasWidth (widths_of q.params) at.values) same place.values in
    record {
      vars = r.params;
      typed = (ready.roles at.role r is).body b body;
      stand = one_all (Stands w a r.params) e (stands_as w a r.params e (entered r at (state_of a s)) reads (record { fields = h.fits.fields; condition = h.fits.condition; place = params_are r.params at.values wide }));
    }

-- ---- where ways begin

pub begun : (w : World) (a b : List Node) (s : State) (place : Place) (role values fields : List ℕ) → KeepsTerms a b → s.variables.items ≡ [] → s.choices.items ≡ [] → s.way.items ≡ [] → s.fields.items ≡ fields → AreThere a fields
    → s.sent ≡ Some place → place.role.now ≡ role → place.values.items ≡ values → AreThere a values → Makes b s.condition (guard_term (world_in w) (record { role = role; values = terms_at a values }))
    → Reads b s (begins (world_in w) (record { role = role; values = terms_at a values }) (terms_at a fields))
begun w a b s place role values fields kept vars choices way is there sent named valued values_there made =
    let fs : terms_at b s.fields.items ≡ terms_at a fields = ap (terms_at b) is ∙ terms_on a b fields kept there in
    let vs : terms_at b place.values.items ≡ terms_at a values = ap (terms_at b) valued ∙ terms_on a b values kept values_there in
    let at : option_map (place_of b) s.sent ≡ Some (record { role = role; values = terms_at a values }) = ap (option_map (place_of b)) sent ∙ (λ j. Some (record { role = named j; values = vs j })) in
    record {
      there = record {
        variables = subst (VariablesThere b) (sym vars) (λ k d l. absurd (omega (arith, l)));
        fields = subst (AreThere b) (sym is) (there_on a b fields kept there);
        condition = made.there;
        choices = subst (All (IsInput b)) (sym choices) (λ k d l. absurd (omega (arith, l)));
        sent = subst (PlaceThere b) (sym sent) (subst (AreThere b) (sym valued) (there_on a b values kept values_there));
      };
      is = λ j. record {
        vars = variables_of b (vars j);
        fields = fs j;
        cond = made.term j;
        choices = map input_of (choices j);
        way = way j;
        sent = at j;
      };
    }

pub begun_stands : (w : World) (ready : IsReady w) (b : List Node) (s : State) (at : tree.Place) (fields : List Term) → Reads b s (begins (world_in w) at fields) → FitsPlace w.level (design_of w.checked.now) at
    → AllZip HasWidth (all_widths (design_of w.checked.now).headers) fields → Stands w b [] s
begun_stands w ready b s at fields r fits wide =
    stands_as w b [] s (begins (world_in w) at fields) r (record { fields = wide; condition = guard_wide (design_of w.checked.now) w.level ready.wide ready.roles at fits; place = fits })

-- ---- bodies that are found

pub not_sent : (w : World) (o : Option Place) → o ≡ None → NoBodyAt w o
not_sent w o e = λ a t n h. from_none (world_in w) t n (h ∙ ap (option_map (place_of a)) e)

pub no_role : (w : World) (o : Option Place) (at : Place) → o ≡ Some at → role_at w.level (design_of w.checked.now) at.role.now ≡ None → NoBodyAt w o
no_role w o at e none = λ a t n h.
    from_some (world_in w) t n (place_of a at) (h ∙ ap (option_map (place_of a)) e) ∙ role_none (world_in w) t n (place_of a at) none

pub no_body : (w : World) (o : Option Place) (at : Place) (r : Role) → o ≡ Some at → role_at w.level (design_of w.checked.now) at.role.now ≡ Some r → r.body ≡ None → NoBodyAt w o
no_body w o at r e is none = λ a t n h.
    from_some (world_in w) t n (place_of a at) (h ∙ ap (option_map (place_of a)) e) ∙ body_none (world_in w) t n (place_of a at) r is none

pub body_from : (w : World) (a : List Node) (s : State) (n : ℕ) (r : Role) (b : Block) → (found : IsBodyAt w s.sent r b)
    → from_place (world_in w) (state_of a s) n ≡ those_sent (follow_all (world_in w) b (one (entered r (place_of a found.place) (state_of a s)) n))
body_from w a s n r b found =
    from_some (world_in w) (state_of a s) n (place_of a found.place) (ap (option_map (place_of a)) found.is)
    ∙ body_some (world_in w) (state_of a s) n (place_of a found.place) r b found.declared found.body

-- after a body all have sent, so their variables play no part
pub sent_stand : (w : World) (ready : IsReady w) (a b : List Node) (e : State) (body : Block) (after : List State) (can : CanFollow w a (e ∷ []) body)
    → Follows b after (those_sent (follow_all (world_in w) body (states_of a (e ∷ []), inputs_in a))) → All (Stands w b []) after
sent_stand w ready a b e body after can f =
    stand_all w ready b [] after f.there
    (λ t i.
    let j = passed has_sent (follow_all (world_in w) body (states_of a (e ∷ []), inputs_in a)).0 t (subst (In t) f.are i) in
    let to = some_place t.sent j.1 in
    let held = block_held (design_of w.checked.now) w.level ready.wide ready.roles [] body can.vars can.typed (states_of a (e ∷ [])) (held_all w ready a can.vars (e ∷ []) can.stand) (inputs_in a) t j.0 in
    record {
      fields = held.fits.fields;
      condition = held.fits.condition;
      place = subst (λ o. FitsBy w.level (design_of w.checked.now) [] t.vars o) (sym to.1) (subst (λ o. FitsBy w.level (design_of w.checked.now) (block_vars body can.vars) t.vars o) to.1 held.fits.place);
    })

pub on_ok : {T E P : Type 0} (r : Result T E) → P → OnOk r P
on_ok (Ok x) p = p
on_ok (Err e) p = tt

-- what comes of the body that was found
pub record Followed_body (w : World) (ready : IsReady w) (a : List Node) (s e : State) (b : Block) : Type 0 where
  pub can : CanFollow w a (e ∷ []) b
  pub is : those_sent (follow_all (world_in w) b (states_of a (e ∷ []), inputs_in a)) ≡ from_place (world_in w) (state_of a s) (inputs_in a)

pub followed_body : (w : World) (ready : IsReady w) (a : List Node) (s e : State) (r : Role) (b : Block) → Stands w a [] s → (found : IsBodyAt w s.sent r b)
    → Reads a e (entered r (place_of a found.place) (state_of a s)) → Followed_body w ready a s e b
followed_body w ready a s e r b stands found reads =
    let at = place_of a found.place in
    record {
      can = entered_can w ready a s e at r b stands (ap (option_map (place_of a)) found.is) found.declared found.body reads;
      is = (λ j. those_sent (follow_all (world_in w) b (reads.is j ∷ [], inputs_in a))) ∙ sym (body_from w a s (inputs_in a) r b found);
    }
