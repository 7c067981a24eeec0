-- A run of a refined role has a leaf, with inputs at which the leaf's runs begin as the run does.
use Rattle.std.proofs.Common.{◌≡◌, ℕ, zero, suc, ◌≤◌, List, [], Option, Some, None, sym, ap, subst, ◌∙◌, arith}
use Rattle.std.specs.Prelude.{slice_get}
use Rattle.cocoon_num.specs.PacketForms.{FieldsFit, PacketFits}
use Rattle.cocoon_num.specs.Packets.{Packet}
use Rattle.cocoon_num.specs.Tree.{DefsText, Param, Refine, Role, Design}
use Rattle.cocoon_resolve.specs.Readers.{all_widths}
use Rattle.cocoon_types.specs.Design.{layout, role_at, widths_of}
use Rattle.cocoon_types.specs.Rules.{WellFormed}
use Rattle.cocoon_types.specs.Runs.{Loc, world}
use Rattle.cocoon_types.specs.Tables.{Defs, defs_of}
use Rattle.cocoon_types.specs.Taken.{RunsAreTaken}
use Rattle.cocoon_types.specs.Val.{context}
use Rattle.refinement.specs.Segments.{is_new}
use Rattle.refinement.specs.Ways.{Arrival, go_by, hops_by, if_new}
use Rattle.refinement.proofs.AllLevels.{one_or_more}
use Rattle.bv_terms.specs.TermValues.{Inputs}
use Rattle.role_values.specs.Flat.{packet_of}
use Rattle.sound_types.specs.Defined.{HasDefinitions}
use Rattle.sound_types.specs.Literals.{DesignLiteralsFit}
use Rattle.sound_types.specs.Soundness.{IsSound}
use Rattle.sound_types.proofs.Members.{In, at_place}
use Rattle.obligation_laws.specs.Shown.{functions_by}
use Rattle.obligation_laws.specs.LeafForms.{LeafFits}
use Rattle.obligation_laws.specs.LeafRuns.{LeavesAreRuns, RunsHaveLeaves, first_loc, first_packet}
use Rattle.obligation_laws.specs.Leaves.{Leaf, body_tree, inlined, params_of}
use Rattle.obligation_laws.specs.Meant.{AllFit, IsOne, arrives, given}
use Rattle.obligation_laws.specs.States.{term_world}
use Rattle.obligation_laws.proofs.Leading.{some_there}
use Rattle.obligation_laws.proofs.TreesTogether.{RolesTyped}
use Rattle.obligation_laws.proofs.Starting.{flat, flat_fits, flat_packet, ran_at, same_fit, started}

pub params_there : (level : ℕ) (d : Design) (role : List ℕ) (r : Role) → role_at level d role ≡ Some r → params_of (term_world level d) role ≡ r.params
params_there level d role r is = ap (λ (o : Option Role). elim o as (λ x. List Param) [ None ↦ [] | Some x ↦ x.params ]) is

-- what is known of a design, beside its rules
pub record Known (d : Design) : Type 0 where
  pub rules : WellFormed d
  pub literals : DesignLiteralsFit d
  pub taken : RunsAreTaken
  pub roles : RolesTyped d
  pub sound : (es : DefsText) → HasDefinitions d es → IsSound d (context d (defs_of d es))
  pub have : (es : DefsText) → HasDefinitions d es → (above within : ℕ) → 1 ≤ within → (role : List ℕ) (r : Role) → role_at (suc above) d role ≡ Some r → (first : ℕ)
      → RunsHaveLeaves (functions_by d (defs_of d es)) d.headers role (inlined above d role within first) (hops_by above d (defs_of d es) within)
  pub are : (es : DefsText) → HasDefinitions d es → (level : ℕ) (role : List ℕ) (r : Role) → role_at level d role ≡ Some r → (first : ℕ)
      → LeavesAreRuns (functions_by d (defs_of d es)) d.headers role (body_tree level d role first) (go_by (world level d (defs_of d es)))
  pub wide : (level : ℕ) (role : List ℕ) (r : Role) → role_at level d role ≡ Some r → (first n : ℕ) (leaf : Leaf) → slice_get (body_tree level d role first).leaves n ≡ Some leaf → LeafFits level d leaf

-- a leaf of the run, and inputs at which it is true, takes the run's choices and ends as the run does
pub record RunFound (d : Design) (above : ℕ) (block : Refine) (role : List ℕ) (first : ℕ) (es : DefsText) (ns : List ℕ) (packet : Packet) (led : Arrival) : Type 0 where
  pub declared : (r : Role) × (role_at (suc above) d role ≡ Some r)
  pub inputs : Inputs
  pub leaf : Leaf
  pub within : In leaf (inlined above d role block.within first).leaves
  pub args_fit : AllFit inputs (inlined above d role block.within first).args
  pub fields_fit : AllFit inputs (inlined above d role block.within first).fields
  pub choices_fit : AllFit inputs leaf.choices
  pub true_ : IsOne (functions_by d (defs_of d es)) inputs leaf.cond
  pub from_is : first_loc inputs role (inlined above d role block.within first) ≡ record { role = role; values = ns }
  pub packet_is : first_packet inputs d.headers (inlined above d role block.within first) ≡ packet
  pub ends : arrives (functions_by d (defs_of d es)) inputs d.headers leaf led.rest ≡ led

first_ran : (above : ℕ) (d : Design) (defs : Defs) (bodies : ℕ) → 1 ≤ bodies → (from : Loc) (packet : Packet) (cs : List ℕ) (led : Arrival) → hops_by above d defs bodies from packet cs ≡ Some led
    → (a : Arrival) × (go_by (world (suc above) d defs) from packet cs ≡ Some a)
first_ran above d defs zero l from packet cs led h = absurd (omega (arith, l))
first_ran above d defs (suc n) l from packet cs led h =
    let m = some_there (λ (a : Arrival). if_new (is_new above d a.to.role) a (hops_by above d defs n)) (go_by (world (suc above) d defs) from packet cs) led h in
    (m.0, m.1)

pub run_found : (d : Design) → Known d → (above : ℕ) (block : Refine) → slice_get d.refines above ≡ Some block → (role : List ℕ) (first : ℕ) (es : DefsText) → HasDefinitions d es
    → (ns : List ℕ) (packet : Packet) (cs : List ℕ) (led : Arrival) → PacketFits (layout d) packet
    → hops_by above d (defs_of d es) block.within (record { role = role; values = ns }) packet cs ≡ Some led
    → RunFound d above block role first es ns packet led
run_found d known above block at role first es h ns packet cs led fits ran =
    let defs = defs_of d es in
    let tree = inlined above d role block.within first in
    let from : Loc = record { role = role; values = ns } in
    let some = one_or_more d known.rules above block at in
    let a = first_ran above d defs block.within some from packet cs led ran in
    let r = ran_at (world (suc above) d defs) from packet cs a.0 a.1 in
    let params = params_there (suc above) d role r.0 r.1 in
    let s = started first (widths_of (params_of (term_world (suc above) d) role)) (all_widths d.headers) ns (flat packet)
    (subst (λ ps. FieldsFit (widths_of ps) ns) (sym params) r.2) (flat_fits d.headers packet fits) in
    let packet_is : packet_of d.headers (given s.inputs tree.fields) ≡ packet = ap (packet_of d.headers) s.fields_are ∙ flat_packet d.headers packet fits in
    let ran' : hops_by above d defs block.within (first_loc s.inputs role tree) (first_packet s.inputs d.headers tree) cs ≡ Some led =
    (λ k. hops_by above d defs block.within (record { role = role; values = s.args_are k }) (packet_is k) cs) ∙ ran in
    let found = known.have es h above block.within some role r.0 r.1 first s.inputs s.args_fit s.fields_fit cs led ran' in
    record {
      declared = (r.0, r.1);
      inputs = found.inputs;
      leaf = found.leaf;
      within = at_place tree.leaves found.number found.leaf found.there;
      args_fit = same_fit found.inputs s.inputs tree.args found.same_args s.args_fit;
      fields_fit = same_fit found.inputs s.inputs tree.fields found.same_fields s.fields_fit;
      choices_fit = found.fit;
      true_ = found.true_;
      from_is = λ j. record { role = role; values = (found.same_args ∙ s.args_are) j };
      packet_is = ap (packet_of d.headers) found.same_fields ∙ packet_is;
      ends = found.ends;
    }
