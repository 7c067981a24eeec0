-- Leaves of trees and runs of bodies.
use Rattle.std.proofs.Common.{◌≡◌, inl, inr, ℕ, zero, suc, ◌+◌, ◌≤◌, List, [], ◌∷◌, ◌++◌, length, map, Bool, true, false, Option, Some, None, option_and_then, refl, sym, ap, subst, ◌∙◌, arith}
use Rattle.std.specs.Prelude.{flat_map}
use Rattle.std.specs.List.{AllZip}
use Rattle.cocoon_num.specs.Packets.{Packet}
use Rattle.cocoon_num.specs.Tree.{Role, Design}
use Rattle.cocoon_num.specs.Values.{truth}
use Rattle.cocoon_resolve.specs.Readers.{all_widths}
use Rattle.cocoon_types.specs.Design.{role_at, widths_of}
use Rattle.cocoon_types.specs.Runs.{Loc, World, world}
use Rattle.cocoon_types.specs.Tables.{Defs}
use Rattle.refinement.specs.Ways.{Arrival, body_by, go_by, if_new, on_true}
use Rattle.bv_terms.specs.TermValues.{Functions, Inputs}
use Rattle.role_values.specs.Flat.{packet_of}
use Rattle.sound_types.proofs.Members.{In, at_place, flat_in, in_flat}
use Rattle.obligation_laws.specs.Shown.{HasNumber, functions_by, numbers_of}
use Rattle.obligation_laws.proofs.Typings.{in_place}
use Rattle.obligation_laws.specs.States.{NewInput, Place, State, guard_term, input_term, inputs_from, term_world}
use Rattle.obligation_laws.specs.Leaves.{Leaf, Tree, begins, end_at, entry_of, hops, leaf_of, params_of, tree_of}
use Rattle.obligation_laws.specs.LeafRuns.{IsItsRun, LeavesAreRuns, RunsHaveLeaves, first_loc, first_packet}
use Rattle.obligation_laws.specs.Meant.{AllFit, IsOne, arrives, given}
use Rattle.obligation_laws.proofs.Finding.{hops_found}
use Rattle.obligation_laws.proofs.Hopping.{arrive, hops_in, hops_lead}
use Rattle.obligation_laws.proofs.Leading.{some_there, was_true}
use Rattle.obligation_laws.proofs.Meaning.{AtFits, Fits, GuardShown, Holds, guard_shown, loc_at, packet_at}
use Rattle.obligation_laws.specs.LeafForms.{Ascend}
use Rattle.obligation_laws.proofs.Numbering.{Fill, filled_fit, numbered_from, numbered_wider, put, put_fit, put_given, put_kept}
use Rattle.obligation_laws.proofs.TruthValues.{holds as bit_holds, is_one}

-- ---- inputs

have_inputs : (F : Functions) (ins : Inputs) (first : ℕ) (ws : List ℕ) → AllFit ins (inputs_from first ws) → AllZip (HasNumber F ins) ws (map input_term (inputs_from first ws))
have_inputs F ins first [] h = tt
have_inputs F ins first (w ∷ ws) h = ((refl, h.0), have_inputs F ins (suc first) ws h.1)

are_given : (F : Functions) (ins : Inputs) (is : List NewInput) → numbers_of F ins (map input_term is) ≡ given ins is
are_given F ins [] = refl
are_given F ins (i ∷ is) = ap (λ ns. ins i.number ∷ ns) (are_given F ins is)

-- a state that has sent, as a leaf
abbrev made : (List ℕ → Bool) → State → Place → Leaf
made new t to = record { cond = t.cond; choices = t.choices; way = t.way; end = end_at (new to.role) to t.fields }

made_is : (new : List ℕ → Bool) (t : State) (to : Place) → t.sent ≡ Some to → leaf_of new t ≡ made new t to ∷ []
made_is new t to p = ap (λ (o : Option Place). elim o as (λ x. List Leaf) [ None ↦ [] | Some at ↦ made new t at ∷ [] ]) p

module _ (d : Design) (defs : Defs) (level : ℕ) (new : List ℕ → Bool) (bodies : ℕ) (role : List ℕ) (first : ℕ) where
  abbrev F : Functions
  F = functions_by d defs

  abbrev tree : Tree
  tree = tree_of (term_world level d) (all_widths d.headers) new bodies role first

  abbrev at : Place
  at = entry_of role tree.args

  abbrev start : State
  start = begins (term_world level d) at (map input_term tree.fields)

  -- the number of the first choice
  abbrev next : ℕ
  next = first + length tree.args + length tree.fields

  abbrev run : Loc → Packet → List ℕ → Option Arrival
  run = hops_in (world level d defs) new bodies

  args_fit : (ins : Inputs) (r : Role) → role_at level d role ≡ Some r → AllFit ins tree.args → AtFits d defs ins level at
  args_fit ins r is f =
      (r, is, subst (λ (o : Option Role). AllZip (HasNumber F ins) (widths_of (elim o as (λ x. List _) [ None ↦ [] | Some x ↦ x.params ])) at.values) is (have_inputs F ins first (widths_of (params_of (term_world level d) role)) f))

  guard_is : (ins : Inputs) (r : Role) → Holds d defs ins level → role_at level d role ≡ Some r → AllFit ins tree.args → GuardShown d defs ins level at
  guard_is ins r holds is f = guard_shown d defs ins level holds at (args_fit ins r is f)

  start_fits : (ins : Inputs) (r : Role) → Holds d defs ins level → role_at level d role ≡ Some r → AllFit ins tree.args → AllFit ins tree.fields → Fits d defs ins level [] start
  start_fits ins r holds is f g =
      let b = guard_is ins r holds is f in
      record {
        fields = have_inputs F ins (first + length tree.args) (all_widths d.headers) g;
        cond = (b.truth_, b.term);
        place = (args_fit ins r is f, λ one. b.is ∙ ap (λ x. Some (truth x)) (bit_holds F ins (guard_term (term_world level d) at) b.truth_ b.term one));
      }

  loc_is : (ins : Inputs) → loc_at d defs ins level at ≡ first_loc ins role tree
  loc_is ins = ap (λ ns. record { role = role; values = ns }) (are_given F ins tree.args)

  packet_is : (ins : Inputs) → packet_at d defs ins level start ≡ first_packet ins d.headers tree
  packet_is ins = ap (packet_of d.headers) (are_given F ins tree.fields)

  ran : (ins : Inputs) (cs : List ℕ) → run (loc_at d defs ins level at) (packet_at d defs ins level start) cs ≡ run (first_loc ins role tree) (first_packet ins d.headers tree) cs
  ran ins cs = λ k. run (loc_is ins k) (packet_is ins k) cs

  arrival_is : (ins : Inputs) (t : State) (to : Place) (rest : List ℕ) → arrive (loc_at d defs ins level to) (packet_at d defs ins level t) rest t.way ≡ arrives F ins d.headers (made new t to) rest
  arrival_is ins t to rest = by (new to.role)
    where
      by : (b : Bool) → arrive (loc_at d defs ins level to) (packet_at d defs ins level t) rest t.way ≡ arrives F ins d.headers (record { cond = t.cond; choices = t.choices; way = t.way; end = end_at b to t.fields }) rest
      by true = refl
      by false = refl

  -- where a run is, the first guard is true
  entered_true : (ins : Inputs) (r : Role) → Holds d defs ins level → role_at level d role ≡ Some r → AllFit ins tree.args → 1 ≤ bodies → (packet : Packet) (cs : List ℕ) (led : Arrival)
      → run (loc_at d defs ins level at) packet cs ≡ Some led → IsOne F ins start.cond
  entered_true ins r holds is f l packet cs led h = by bodies l h
    where
      W : World
      W = world level d defs

      by : (k : ℕ) → 1 ≤ k → hops_in (world level d defs) new k (loc_at d defs ins level at) packet cs ≡ Some led → IsOne F ins (guard_term (term_world level d) at)
      by zero l g = absurd (omega (arith, l))
      by (suc k) l g =
          let b = guard_is ins r holds is f in
          let from = loc_at d defs ins level at in
          let a = some_there (λ (x : Arrival). if_new (new x.to.role) x (hops_in (world level d defs) new k)) (go_by (world level d defs) from packet cs) led g in
          let body = option_and_then (λ (x : Role). body_by (world level d defs) x x.body from packet cs) (role_at level d role) in
          is_one F ins (guard_term (term_world level d) at) b.truth_ b.term (was_true b.truth_ body a.0 (sym (ap (λ o. on_true o body) b.is) ∙ a.1)).0

  its_run : (ins : Inputs) (r : Role) → Holds d defs ins level → role_at level d role ≡ Some r → 1 ≤ bodies → AllFit ins tree.args → AllFit ins tree.fields
      → (t : State) → In t (hops (term_world level d) new bodies start next).0 → (to : Place) → t.sent ≡ Some to → AllFit ins t.choices
      → IsItsRun F ins d.headers (run (first_loc ins role tree) (first_packet ins d.headers tree)) (made new t to)
  its_run ins r holds is l f g t i to sent fit =
      let h = hops_lead d defs ins level holds new bodies start at refl next t i in
      let same : h.to ≡ to = let e : Some h.to ≡ Some to = sym h.sent ∙ sent in cc in
      let starts = start_fits ins r holds is f g in
      let fits : AllFit ins h.chosen = subst (AllFit ins) h.chosen_is fit in
      record {
        runs = λ one rest.
            let k = h.sound starts fits one in
            sym (ran ins (given ins t.choices ++ rest))
            ∙ ap (λ cs. run (loc_at d defs ins level at) (packet_at d defs ins level start) (given ins cs ++ rest)) h.chosen_is
            ∙ k.1 rest
            ∙ (λ j. Some (arrive (loc_at d defs ins level (same j)) (packet_at d defs ins level t) rest (sym h.way_is j)))
            ∙ ap Some (arrival_is ins t to rest);
        only = λ rest led went way.
            let went' : run (loc_at d defs ins level at) (packet_at d defs ins level start) (given ins h.chosen ++ rest) ≡ Some led =
            ap (λ cs. run (loc_at d defs ins level at) (packet_at d defs ins level start) (given ins cs ++ rest)) (sym h.chosen_is) ∙ ran ins (given ins t.choices ++ rest) ∙ went in
            h.back starts fits (entered_true ins r holds is f l (packet_at d defs ins level start) (given ins h.chosen ++ rest) led went') rest led [] [] went' (ap (λ w. w ++ []) (way ∙ h.way_is));
      }

  pub leaves_are : ((ins : Inputs) → Holds d defs ins level) → (r : Role) → role_at level d role ≡ Some r → 1 ≤ bodies → LeavesAreRuns F d.headers role tree run
  leaves_are holds r is l = λ ins f g n leaf there fit.
      let led = hops (term_world level d) new bodies start next in
      let t = flat_in (leaf_of new) leaf led.0 (at_place (flat_map (leaf_of new) led.0) n leaf there) in
      let h = hops_lead d defs ins level (holds ins) new bodies start at refl next t.0 t.1 in
      let one : In leaf (made new t.0 h.to ∷ []) = subst (In leaf) (made_is new t.0 h.to h.sent) t.2 in
      elim one [
        | inl same ↦
            subst (IsItsRun F ins d.headers (run (first_loc ins role tree) (first_packet ins d.headers tree))) (sym same)
            (its_run ins r (holds ins) is l f g t.0 t.1 h.to h.sent (subst (λ (x : Leaf). AllFit ins x.choices) same fit))
        | inr none ↦ absurd none
      ]

  pub runs_have : ((ins : Inputs) → Holds d defs ins level) → (r : Role) → role_at level d role ≡ Some r → 1 ≤ bodies → RunsHaveLeaves F d.headers role tree run
  runs_have holds r is l = λ ins f g cs led went.
      let all = hops (term_world level d) new bodies start next in
      let found = hops_found d defs level new bodies start at refl next (first_loc ins role tree) (first_packet ins d.headers tree) cs led refl went in
      let t = found.state in
      let chosen = found.found.chosen in
      let used = found.found.used in
      let inputs : Inputs = put chosen used ins in
      let numbers = found.found.numbers in
      let args_before : Ascend first next tree.args = numbered_wider first (first + length tree.args) first next tree.args (omega arith) (omega arith) (numbered_from first (widths_of (params_of (term_world level d) role))) in
      let fields_before : Ascend (first + length tree.args) next tree.fields = numbered_from (first + length tree.args) (all_widths d.headers) in
      let same_args = put_kept ins first next all.1 tree.args chosen used args_before numbers in
      let same_fields = put_kept ins (first + length tree.args) next all.1 tree.fields chosen used fields_before numbers in
      let put_in : given inputs chosen ≡ used = put_given ins next all.1 chosen used numbers found.found.fill in
      let fit : AllFit inputs t.choices = subst (AllFit inputs) (sym found.found.chosen_is) (filled_fit inputs chosen (subst (Fill chosen) (sym put_in) found.found.fill)) in
      let uses : cs ≡ given inputs t.choices ++ led.rest = found.found.used_is ∙ ap (λ ns. ns ++ led.rest) (sym put_in) ∙ ap (λ c. given inputs c ++ led.rest) (sym found.found.chosen_is) in
      let leaf = made new t found.to in
      let inside = in_flat (leaf_of new) t all.0 leaf found.within (subst (In leaf) (sym (made_is new t found.to found.sent)) (inl refl)) in
      let place = in_place leaf (flat_map (leaf_of new) all.0) inside in
      let its = its_run inputs r (holds inputs) is l (put_fit ins first next all.1 tree.args chosen used args_before numbers f) (put_fit ins (first + length tree.args) next all.1 tree.fields chosen used fields_before numbers g) t found.within found.to found.sent fit in
      let goes : run (first_loc inputs role tree) (first_packet inputs d.headers tree) (given inputs t.choices ++ led.rest) ≡ Some led =
      (λ k. run (record { role = role; values = same_args k }) (packet_of d.headers (same_fields k)) (sym uses k)) ∙ went in
      let one = its.only led.rest led goes (sym found.found.way_is) in
      let ends : arrives F inputs d.headers leaf led.rest ≡ led = let e : Some (arrives F inputs d.headers leaf led.rest) ≡ Some led = sym (its.runs one led.rest) ∙ goes in cc in
      record { number = place.0; leaf = leaf; there = place.1; inputs = inputs; same_args = same_args; same_fields = same_fields; fit = fit; used = uses; true_ = one; ends = ends }
