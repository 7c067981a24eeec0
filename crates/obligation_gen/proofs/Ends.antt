-- Leaves, of ways that have sent.
use Rattle.std.proofs.Common.{◌≡◌, ℕ, zero, suc, List, [], ◌∷◌, All, map, Bool, true, false, Option, Some, None, option_map, IfSome, rules, refl, sym, ap, subst, ◌∙◌, arith}
use Rattle.std.specs.Option.{IsSome}
use Rattle.cocoon_num.specs.Tree.{Design}
use Rattle.cocoon_syntax.specs.TreeOf.{design_of}
use Rattle.bv_terms.specs.declared.node.Node.{Node}
use Rattle.bv_terms.specs.Arenas.{term_at}
use Rattle.declarations.specs.Declares.{Declares, role_number}
use Rattle.declarations.specs.declared.tables.Declarations.{Declarations}
use Rattle.declarations.proofs.ReaderFacts.{role-none}
use Rattle.expr_terms.specs.Variables.{AreThere, terms_at}
use Rattle.obligation_laws.specs.States.{NewInput}
use Rattle.obligation_laws.specs.Leaves as laws
use Rattle.obligation_laws.specs.Leaves.{end_at, leaf_of}
use Rattle.symbolic_runs.specs.Fitting.{FitsBy, Stands}
use Rattle.symbolic_runs.specs.Reading.{IsInput, IsThere, PlaceThere, input_of, place_of, state_of}
use Rattle.symbolic_runs.specs.declared.states.Choice.{Choice}
use Rattle.symbolic_runs.specs.declared.states.Place.{Place}
use Rattle.symbolic_runs.specs.declared.states.State.{State}
use Rattle.symbolic_runs.specs.declared.world.World.{World}
use Rattle.obligation_gen.specs.declared.tree.End.{End}
use Rattle.obligation_gen.specs.declared.tree.End.TheVariants.{Sent, Inside}
use Rattle.obligation_gen.specs.Bodies.{IsDeclared}
use Rattle.obligation_gen.specs.ShownTrees.{HasInput, ShowsEnd, ShowsInputs, ShowsLeaf, ShowsLeaves}

-- ---- roles

-- a role that is declared at a level has a number
pub is_numbered : (t : Declarations) (d : Design) → Declares t d → (level : ℕ) (x : List ℕ) → IsDeclared d level x → role_number d x ≡ None → ⊥
is_numbered t d h level x k e = let q : Some k.0 ≡ None = sym k.1 ∙ role-none t.decls.roles d h.decls.roles level x e in cc

pub numbered : (t : Declarations) (d : Design) → Declares t d → (level : ℕ) (x : List ℕ) → IsDeclared d level x → (o : Option ℕ) → o ≡ role_number d x → IsSome o
numbered t d h level x k None e = absurd (is_numbered t d h level x k (sym e))
numbered t d h level x k (Some n) e = search (rules)

-- the place that a state has sent to
pub place_declared : (w : World) (nodes : List Node) (s : State) → Stands w nodes [] s → IfSome s.sent (λ at. IsDeclared (design_of w.checked.now) w.level at.role.now)
place_declared w nodes s h = by s.sent h.fits.place
  where
    by : (o : Option Place) → FitsBy w.level (design_of w.checked.now) [] (state_of nodes s).vars (option_map (place_of nodes) o)
        → IfSome o (λ at. IsDeclared (design_of w.checked.now) w.level at.role.now)
    by None k = tt
    by (Some at) k = (k.role, k.declared)

-- ---- ends

pub shows_inside : (d : Design) (nodes : List Node) (new : Bool) (role : ℕ) (name values fields : List ℕ) → new ≡ true → role_number d name ≡ Some role → AreThere nodes values → AreThere nodes fields
    → ShowsEnd d nodes (Inside role values fields) (end_at new (record { role = name; values = terms_at nodes values }) (terms_at nodes fields))
shows_inside d nodes new role name values fields e n v f =
    subst (λ b. ShowsEnd d nodes (Inside role values fields) (end_at b (record { role = name; values = terms_at nodes values }) (terms_at nodes fields))) (sym e)
    (record { role_ = n; values_ = record { there = v; terms = refl }; fields_ = record { there = f; terms = refl } })

pub shows_sent : (d : Design) (nodes : List Node) (new : Bool) (role : ℕ) (name values fields : List ℕ) → new ≡ false → role_number d name ≡ Some role → AreThere nodes values → AreThere nodes fields
    → ShowsEnd d nodes (Sent role values fields) (end_at new (record { role = name; values = terms_at nodes values }) (terms_at nodes fields))
shows_sent d nodes new role name values fields e n v f =
    subst (λ b. ShowsEnd d nodes (Sent role values fields) (end_at b (record { role = name; values = terms_at nodes values }) (terms_at nodes fields))) (sym e)
    (record { role_ = n; values_ = record { there = v; terms = refl }; fields_ = record { there = f; terms = refl } })

-- ---- leaves

map_there : (nodes : List Node) (cs : List Choice) → All (IsInput nodes) cs → All (HasInput nodes) (map input_of cs)
map_there nodes [] all k d l = absurd (omega (arith, l))
map_there nodes (c ∷ cs) all zero d l = all 0 c (omega arith)
map_there nodes (c ∷ cs) all (suc k) d l = map_there nodes cs (λ j e m. all (suc j) e (omega (arith, m))) k d (omega (arith, l))

map_numbers : (cs : List Choice) → map (λ (c : Choice). c.input) cs ≡ map (λ (i : NewInput). i.number) (map input_of cs)
map_numbers [] = refl
map_numbers (c ∷ cs) = ap (λ ns. c.input ∷ ns) (map_numbers cs)

shows_choices : (nodes : List Node) (ids : List ℕ) (cs : List Choice) → ids ≡ map (λ (c : Choice). c.input) cs → All (IsInput nodes) cs → ShowsInputs nodes ids (map input_of cs)
shows_choices nodes ids cs e all = record { numbers_ = e ∙ map_numbers cs; there = map_there nodes cs all }

-- the leaf of a state that has sent
pub shows_leaf : (d : Design) (nodes : List Node) (new : List ℕ → Bool) (s : State) (at : Place) (choices : List ℕ) (e : End) → s.sent ≡ Some at → IsThere nodes s → choices ≡ map (λ (c : Choice). c.input) s.choices.items
    → (AreThere nodes at.values.items → AreThere nodes s.fields.items → ShowsEnd d nodes e (end_at (new at.role.now) (place_of nodes at) (terms_at nodes s.fields.items)))
    → ShowsLeaves d nodes (record { cond = s.condition; choices = choices; end = e } ∷ []) (leaf_of new (state_of nodes s))
shows_leaf d nodes new s at choices e is there same shown =
    let values : AreThere nodes at.values.items = subst (PlaceThere nodes) is there.sent in
    let one : ShowsLeaf d nodes (record { cond = s.condition; choices = choices; end = e })
    (record { cond = term_at nodes s.condition; choices = map input_of s.choices.items; way = s.way.items; end = end_at (new at.role.now) (place_of nodes at) (terms_at nodes s.fields.items) }) =
    record {
      cond = record { there = there.condition; term = refl };
      choices = shows_choices nodes choices s.choices.items same there.choices;
      end = shown values there.fields;
    } in
    subst (λ (o : Option Place). ShowsLeaves d nodes (record { cond = s.condition; choices = choices; end = e } ∷ [])
    (elim (option_map (place_of nodes) o) as (λ x. List laws.Leaf) [
      | None ↦ []
      | Some p ↦ record { cond = term_at nodes s.condition; choices = map input_of s.choices.items; way = s.way.items; end = end_at (new p.role) p (terms_at nodes s.fields.items) } ∷ []
    ]))
    (sym is) (one, tt)

pub shows_none : (d : Design) (nodes : List Node) (new : List ℕ → Bool) (s : State) → s.sent ≡ None → ShowsLeaves d nodes [] (leaf_of new (state_of nodes s))
shows_none d nodes new s is =
    subst (λ (o : Option Place). ShowsLeaves d nodes []
    (elim (option_map (place_of nodes) o) as (λ x. List laws.Leaf) [
      | None ↦ []
      | Some p ↦ record { cond = term_at nodes s.condition; choices = map input_of s.choices.items; way = s.way.items; end = end_at (new p.role) p (terms_at nodes s.fields.items) } ∷ []
    ]))
    (sym is) tt
