-- The failure that begins with the values of an obligation's inputs.
use Rattle.std.proofs.Common.{◌≡◌, ◌↔◌, pow_mono, true, ℕ, suc, ◌+◌, ◌<◌, ◌≤◌, ◌^◌, List, [], ◌∷◌, All, Option, Some, length, map, refl, sym, ap, subst, ◌∙◌, arith}
use Rattle.std.specs.Prelude.{slice_get}
use Rattle.std.specs.List.{AllByRecursion}
use Rattle.std.proofs.lemmas.List.Elements.{All-from_recursion}
use Rattle.bv_terms.specs.Arenas.{term_at}
use Rattle.bv_terms.specs.TermTrees.{IsTerm, Term}
use Rattle.bv_terms.specs.TermValues.{Inputs}
use Rattle.bv_terms.specs.declared.node.Node.{Node}
use Rattle.query_laws.specs.Broken.{IsMeantTrue}
use Rattle.query_laws.specs.Candidates.{MakeTrue}
use Rattle.cocoon_num.specs.PacketForms.{FieldsFit}
use Rattle.cocoon_num.specs.Tree.{DefsText, Design, Refine, Role}
use Rattle.cocoon_num.specs.declared.fun_table.FunTable.{FunTable}
use Rattle.cocoon_resolve.specs.Readers.{all_widths, field_widths}
use Rattle.cocoon_types.specs.Design.{role_at}
use Rattle.cocoon_types.specs.RuleParts.{has_name}
use Rattle.cocoon_types.specs.Rules.{WellFormed}
use Rattle.cocoon_types.specs.Tables.{Defs, defs_of}
use Rattle.declarations.specs.Declares.{role_number}
use Rattle.runtime_defs.specs.Printable.{FitsDesign, IsMasked}
use Rattle.obligation_laws.specs.FailingRuns as exact
use Rattle.obligation_laws.specs.Shown.{functions_by}
use Rattle.failures.specs.Failures.{Failure}
use Rattle.failures.specs.Found.{BeginFits, BeginsSo, CanFail, NoneBegins, defined}
use Rattle.obligation_laws.proofs.Fitting.{new_role}
use Rattle.query_laws.specs.LeafTerms as applies
use Rattle.obligation_gen.specs.ShownTrees.{HasInput, ShowsInputs, ShowsLeaves}
use Rattle.obligation_gen.specs.declared.tree.Leaf.{Leaf as CodeLeaf}
use Rattle.obligation_laws.specs.LeafShown.{LeafShown}
use Rattle.obligation_gen.specs.Shown.{ShowsObligation, kind_in}
use Rattle.obligation_gen.specs.declared.obligation.Obligation.{Obligation}
use Rattle.obligation_laws.specs.Formulas.{formula}
use Rattle.obligation_laws.specs.Obligations as laws
use Rattle.obligation_laws.specs.Obligations.{all_obligations, old_tree, refined_tree}
use Rattle.refinement.specs.Assumptions.{AreDefinitions, Meets}
use Rattle.refinement.specs.Owed.{Given}
use Rattle.refinement.specs.Segments.{is_new}
use Rattle.role_meaning.proofs.Bridges.{packet_fits}
use Rattle.role_meaning.proofs.Guards.{role_name_of}
use Rattle.role_values.specs.Flat.{packet_of}
use Rattle.runtime_defs.specs.Stands.{Stands}
use Rattle.sound_types.specs.Defined.{HasDefinitions}
use Rattle.sound_types.specs.Literals.{DesignLiteralsFit}
use Rattle.sound_types.specs.WellTyped.{IsTypedRole}
use Rattle.sound_types.proofs.Members.{In, at_place}
use Rattle.obligation_laws.specs.LeafForms.{EndsBy}
use Rattle.obligation_laws.specs.LeafRuns.{first_packet}
use Rattle.obligation_laws.specs.Leaves.{Leaf, Tree, inlined}
use Rattle.obligation_laws.specs.Meant.{AllFit, IsOne, given}
use Rattle.obligation_laws.specs.States.{NewInput, inputs_from}
use Rattle.failure_reading.specs.Witnesses.{AreShort, Fails, GoesBy, HasFailure, IsTrueFor, begin_of, choices_of}
use Rattle.failure_reading.proofs.Failing as failing
use Rattle.failure_reading.proofs.Failing.{Related}
use Rattle.failure_reading.proofs.Inputs.{all_fit, member}
use Rattle.failure_reading.proofs.Narrow.{AllNarrow, LeafNarrow, leaf_narrow}
use Rattle.failure_reading.proofs.Owned.{Owned, owned}

-- ---- numbers of inputs

given_fit : (ins : Inputs) (first : ℕ) (ws : List ℕ) → AllFit ins (inputs_from first ws) → FieldsFit ws (given ins (inputs_from first ws))
given_fit ins first [] h = tt
given_fit ins first (w ∷ ws) h = (h.0, given_fit ins (suc first) ws h.1)

map_given : (ins : Inputs) (is : List NewInput) → map ins (map (λ (i : NewInput). i.number) is) ≡ given ins is
map_given ins [] = refl
map_given ins (i ∷ is) = λ k. ins i.number ∷ map_given ins is k

numbers_are : (ins : Inputs) (nodes : List Node) (numbers : List ℕ) (is : List NewInput) → ShowsInputs nodes numbers is → map ins numbers ≡ given ins is
numbers_are ins nodes numbers is h = ap (map ins) h.numbers_ ∙ map_given ins is

-- numbers of inputs that have 64 bits or fewer
short : (ins : Inputs) (is : List NewInput) → AllNarrow is → AllFit ins is → AllByRecursion (λ n. n < 2 ^ 64) (given ins is)
short ins [] l h = tt
short ins (i ∷ is) l h =
    let most = pow_mono {i = i.width} {j = 64} l.0 in
    let own = h.0 in
    (omega (arith, most, own), short ins is l.1 h.1)

are_short : (ins : Inputs) (is : List NewInput) (numbers : List ℕ) → AllNarrow is → AllFit ins is → given ins is ≡ numbers → All (λ n. n < 2 ^ 64) numbers
are_short ins is numbers l h e = subst (All (λ n. n < 2 ^ 64)) e (All-from_recursion (λ n. n < 2 ^ 64) (given ins is) (short ins is l h))

-- ---- the laws that are cited

pub record Laws (d : Design) : Type 0 where
  pub rules : WellFormed d
  pub literals : DesignLiteralsFit d
  pub definitions : (tables : List (Option FunTable)) → FitsDesign d tables → AreDefinitions d (defined d tables)
  pub stands : (tables : List (Option FunTable)) → FitsDesign d tables → All IsMasked tables → Stands d tables (defined d tables)
  pub stay_true : (tables : List (Option FunTable)) → FitsDesign d tables → (t : Term) → applies.Stands d 1 t → IsTerm t
      → (ins : Inputs) → MakeTrue tables ins t → IsMeantTrue d tables ins t
  pub applies_ : (n : ℕ) (o : laws.Obligation) → slice_get (all_obligations d) n ≡ Some o → applies.Stands d 1 o.formula
  pub typed : (level : ℕ) (name : List ℕ) (r : Role) → role_at level d name ≡ Some r → IsTypedRole d level r
  pub exact_ : (es : DefsText) → HasDefinitions d es → (above : ℕ) (block : Refine) → slice_get d.refines above ≡ Some block
      → (role : List ℕ) → has_name role block.roles ≡ true → (first n : ℕ) (leaf : Leaf) → slice_get (refined_tree above d block role first).leaves n ≡ Some leaf
      → (ins : Inputs) → AllFit ins (refined_tree above d block role first).args → AllFit ins (refined_tree above d block role first).fields → AllFit ins leaf.choices
      → IsOne (functions_by d (defs_of d es)) ins (formula (old_tree above d block role first) (refined_tree above d block role first) leaf)
      ↔ exact.Fails d (defs_of d es) ins above block role (refined_tree above d block role first) leaf
  pub ends : (above : ℕ) (role : List ℕ) (within first n : ℕ) (leaf : Leaf) → slice_get (inlined above d role within first).leaves n ≡ Some leaf → EndsBy (is_new above d) leaf.end
  pub shown : (es : DefsText) → HasDefinitions d es → (ins : Inputs) (above : ℕ) (role : List ℕ) (r : Role) → role_at (suc above) d role ≡ Some r → (within first n : ℕ) (leaf : Leaf)
      → slice_get (inlined above d role within first).leaves n ≡ Some leaf → AllFit ins (inlined above d role within first).args → AllFit ins (inlined above d role within first).fields → AllFit ins leaf.choices
      → LeafShown d (defs_of d es) ins (suc above) leaf
  pub some : (above : ℕ) (block : Refine) → slice_get d.refines above ≡ Some block → 1 ≤ block.within
  pub related : (above : ℕ) (block : Refine) (defs : Defs) → Related above d block defs

-- ---- an obligation whose formula is true

choices_are : (d : Design) (nodes : List Node) (ins : Inputs) (leaves : List CodeLeaf) (leaf : Leaf) → ShowsLeaves d nodes leaves (leaf ∷ []) → map ins (choices_of leaves) ≡ given ins leaf.choices
choices_are d nodes ins [] leaf h = absurd h
choices_are d nodes ins (l ∷ leaves) leaf h = numbers_are ins nodes l.choices leaf.choices h.0.choices

module _ (d : Design) (cited : Laws d) (tables : List (Option FunTable)) (o : Obligation) (ins : Inputs) (h : IsTrueFor d tables o ins) where
  abbrev owed : laws.Obligation
  owed = h.owed.owed

  abbrev shown : ShowsObligation d h.nodes o h.owed.owed
  shown = h.owed.shown

  abbrev t : Term
  t = term_at h.nodes o.formula

  own : Owned d owed
  own = owned d h.owed.number owed h.owed.there

  fit : (is : List NewInput) → ((i : NewInput) → In i is → HasInput h.nodes i) → AllFit ins is
  fit is here = all_fit h.nodes h.arena o.formula shown.formula_.there ins h.true_.fit h.others is here

  choice_there : (leaves : List CodeLeaf) → ShowsLeaves d h.nodes leaves (owed.leaf ∷ []) → (i : NewInput) → In i owed.leaf.choices → HasInput h.nodes i
  choice_there [] s i m = absurd s
  choice_there (l ∷ leaves) s i m = member (HasInput h.nodes) owed.leaf.choices s.0.choices.there i m

  abbrev tree : Tree
  tree = refined_tree own.above d own.block own.role own.first

  args_fit : AllFit ins tree.args
  args_fit = subst (λ (x : laws.Obligation). AllFit ins x.args) own.is (fit owed.args (member (HasInput h.nodes) owed.args shown.args.there))

  fields_fit : AllFit ins tree.fields
  fields_fit = subst (λ (x : laws.Obligation). AllFit ins x.fields) own.is (fit owed.fields (member (HasInput h.nodes) owed.fields shown.fields.there))

  choices_fit : AllFit ins own.leaf.choices
  choices_fit = subst (λ (x : laws.Obligation). AllFit ins x.leaf.choices) own.is (fit owed.leaf.choices (choice_there o.tree.leaves shown.own))

  -- where the run begins
  args_same : given ins tree.args ≡ map ins o.tree.args
  args_same = ap (λ (x : laws.Obligation). given ins x.args) (sym own.is) ∙ sym (numbers_are ins h.nodes o.tree.args owed.args shown.args)

  fields_same : given ins tree.fields ≡ map ins o.tree.fields
  fields_same = ap (λ (x : laws.Obligation). given ins x.fields) (sym own.is) ∙ sym (numbers_are ins h.nodes o.tree.fields owed.fields shown.fields)

  choices_same : given ins own.leaf.choices ≡ map ins (choices_of o.tree.leaves)
  choices_same = ap (λ (x : laws.Obligation). given ins x.leaf.choices) (sym own.is) ∙ sym (choices_are d h.nodes ins o.tree.leaves owed.leaf shown.own)

  some : 1 ≤ own.block.within
  some = cited.some own.above own.block own.at

  declared : (r : Role) × (role_at (suc own.above) d own.role ≡ Some r)
  declared = new_role own.above d own.role own.block.within own.first some own.leaf (at_place tree.leaves own.place own.leaf own.there)

  role_is : role_number d own.role ≡ Some o.role
  role_is = ap (λ (x : laws.Obligation). role_number d x.role) (sym own.is) ∙ shown.role_

  level_is : o.level ≡ suc own.above
  level_is = shown.level_ ∙ ap (λ (x : laws.Obligation). x.level) own.is

  packet_numbers : FieldsFit (field_widths d) (given ins tree.fields)
  packet_numbers = given_fit ins (own.first + length tree.args) (all_widths d.headers) fields_fit

  pub begin_fits : BeginFits o.level d (begin_of ins o)
  begin_fits = record {
    role = record { name = own.role; number = role_is; latest = declared.0; declared = ap (λ l. role_at l d own.role) level_is ∙ declared.1 };
    fields = subst (FieldsFit (field_widths d)) fields_same packet_numbers;
  }

  -- its inputs have 64 bits or fewer
  narrow : LeafNarrow tree own.leaf
  narrow = leaf_narrow d cited.rules (suc own.above) (cited.typed (suc own.above)) (is_new own.above d) own.block.within own.role own.first own.leaf (at_place tree.leaves own.place own.leaf own.there)

  pub begin_short : AreShort (begin_of ins o)
  begin_short = record {
    values = are_short ins tree.args (map ins o.tree.args) narrow.args args_fit args_same;
    fields = are_short ins tree.fields (map ins o.tree.fields) narrow.fields fields_fit fields_same;
    choices = are_short ins own.leaf.choices (map ins (choices_of o.tree.leaves)) narrow.choices choices_fit choices_same;
  }

  -- ---- the failure

  module _ (can : CanFail o.level d tables) where
    are : AreDefinitions d (defined d tables)
    are = cited.definitions tables can.fit

    abbrev es : DefsText
    es = are.entries

    abbrev defs : Defs
    defs = defs_of d are.entries

    has : HasDefinitions d are.entries
    has = record { rules = cited.rules; literals = cited.literals; fits = are.fit; values_fit = are.values_fit }

    stands : Stands d tables (defs_of d are.entries)
    stands = subst (Stands d tables) are.are (cited.stands tables can.fit can.masked)

    -- the formula is true under the definitions
    holds : IsOne (functions_by d defs) ins owed.formula
    holds =
        let is = shown.formula_.term in
        subst (IsOne (functions_by d defs) ins) is
        (cited.stay_true tables can.fit t (subst (applies.Stands d 1) (sym is) (cited.applies_ h.owed.number owed h.owed.there))
        (h.arena.terms o.formula shown.formula_.there) ins h.true_ es has stands)

    fails_here : exact.Fails d defs ins own.above own.block own.role tree own.leaf
    fails_here =
        (cited.exact_ es has own.above own.block own.at own.role own.refined own.first own.place own.leaf own.there ins args_fit fields_fit choices_fit).0
        (subst (λ (x : laws.Obligation). IsOne (functions_by d defs) ins x.formula) own.is holds)

    leaf_shown : LeafShown d defs ins (suc own.above) own.leaf
    leaf_shown = cited.shown es has ins own.above own.role declared.0 declared.1 own.block.within own.first own.place own.leaf own.there args_fit fields_fit choices_fit

    here : Given (suc own.above) d defs (first_packet ins d.headers tree)
    here = record {
      defined = subst (AreDefinitions d) are.are are;
      meets = subst (λ l. Meets l d defs) level_is (can.met es has stands);
      fits = packet_fits d.headers (given ins tree.fields) packet_numbers;
    }

    ends : EndsBy (is_new own.above d) own.leaf.end
    ends = cited.ends own.above own.role own.block.within own.first own.place own.leaf own.there

    abbrev failure : Failure
    failure = failing.failure own.above d own.block defs ins own.role tree own.leaf fails_here own.refined some (cited.related own.above own.block defs) ends leaf_shown.role leaf_shown.declared here

    begins : BeginsSo d tables (begin_of ins o) failure
    begins = record {
      defs = sym are.are;
      at = λ k. record { role = sym (role_name_of d own.role o.role role_is) k; values = args_same k };
      packet = ap (packet_of d.headers) fields_same;
      choices = choices_same;
    }

    pub has_failure : HasFailure d tables o owed.leaf.way (begin_of ins o)
    has_failure = record {
      failure = failure;
      begins = begins;
      fails = record {
        above = own.above;
        block = own.block;
        behind = level_is;
        there = own.at;
        fails = failing.fails own.above d own.block defs ins own.role tree own.leaf fails_here own.refined some (cited.related own.above own.block defs) ends leaf_shown.role leaf_shown.declared here
            (kind_in o.kind) (shown.kind_ ∙ ap (λ (x : laws.Obligation). x.kind) own.is);
      };
      along = record {
        above = own.above;
        block = own.block;
        behind = level_is;
        there = own.at;
        fails = subst (λ way. GoesBy way own.above d own.block failure) (sym (ap (λ (x : laws.Obligation). x.leaf.way) own.is)) fails_here.runs;
      };
    }

    pub not_none : NoneBegins (Fails (kind_in o.kind)) o.level d tables (begin_of ins o) → ⊥
    not_none none = none has_failure.failure has_failure.begins has_failure.fails
