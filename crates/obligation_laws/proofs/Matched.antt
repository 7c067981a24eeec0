-- A run of the body above that sends what a leaf sends makes a part true.
use Rattle.std.proofs.Common.{◌≡◌, ◌⊎◌, inl, inr, ℕ, zero, suc, ◌+◌, ◌==◌, List, [], ◌∷◌, ◌++◌, length, take, drop, map, true, false, Option, Some, None, if◌then◌else◌, refl, sym, ap, subst, ◌∙◌, arith}
use Rattle.std.specs.Prelude.{slice_get}
use Rattle.std.specs.List.{AllZip}
use Rattle.std.proofs.lemmas.List.{append-nil}
use Rattle.cocoon_num.specs.Names.{same_name}
use Rattle.cocoon_num.specs.PacketForms.{FieldsFit}
use Rattle.cocoon_num.specs.Packets.{Packet}
use Rattle.cocoon_num.specs.Sorts.{bits_sort}
use Rattle.cocoon_num.specs.Tree.{DefsText, HeaderDecl, Param, Refine, Role, Design}
use Rattle.cocoon_num.specs.Values.{number, truth}
use Rattle.cocoon_resolve.specs.Readers.{all_widths, reads_back}
use Rattle.cocoon_types.specs.Design.{role_at, widths_of}
use Rattle.cocoon_types.specs.Runs.{Go, Loc, World, world}
use Rattle.cocoon_types.specs.Tables.{defs_of}
use Rattle.cocoon_types.specs.Taken.{Reached, RunsAreTaken, go}
use Rattle.refinement.specs.Plain.{plainly}
use Rattle.refinement.specs.Ways.{Arrival, go_by}
use Rattle.refinement.proofs.Ways.{same_go}
use Rattle.bv_terms.specs.Replacements.{Replacing, replaced}
use Rattle.bv_terms.specs.declared.node.TermOp.TheVariants as ops
use Rattle.bv_terms.specs.TermTrees as term
use Rattle.bv_terms.specs.TermTrees.{Term}
use Rattle.bv_terms.specs.TermValues.{Functions, Inputs, number_in, operated, term_number, term_value}
use Rattle.role_values.specs.Flat.{packet_of}
use Rattle.sound_types.specs.Defined.{HasDefinitions}
use Rattle.sound_types.specs.Matching.{IsOfSort}
use Rattle.sound_types.proofs.Members.{In, at_place}
use Rattle.sound_types.proofs.Options.{same_self, text_self}
use Rattle.obligation_laws.specs.Shown.{HasNumber, HasWidth, functions_by, numbers_of}
use Rattle.obligation_laws.specs.LeafRuns.{HasLeaf, RunsHaveLeaves, first_loc, first_packet}
use Rattle.obligation_laws.specs.Leaves.{Leaf, Tree, body_tree, end_fields, end_role, end_values, inlined, params_of}
use Rattle.obligation_laws.specs.Meant.{AllFit, IsOne, arrives, given}
use Rattle.obligation_laws.specs.States.{NewInput, inputs_from, term_world}
use Rattle.obligation_laws.proofs.Meaning.{Holds}
use Rattle.obligation_laws.proofs.TruthValues.{chain_holds}
use Rattle.obligation_laws.specs.MadeOf.{AllMade, Have, LeafMade, OfInputs, OneOf}
use Rattle.obligation_laws.proofs.MadeLeaves.{leaf_made}
use Rattle.obligation_laws.proofs.Replaced.{Standing, of_width, replaced_value, values_of}
use Rattle.obligation_laws.proofs.Starting.{Started, flat, started}
use Rattle.obligation_laws.proofs.Together.{holds_of}
use Rattle.obligation_laws.specs.Formulas.{chain, equals, part, read_back, replacing}
use Rattle.obligation_laws.proofs.Chains.{AllOne}
use Rattle.obligation_laws.proofs.Parts as parts
use Rattle.obligation_laws.proofs.Parts.{Beside, OldLeaf, widths_kept}
use Rattle.obligation_laws.proofs.RunsFound.{Known, params_there}
use Rattle.obligation_laws.proofs.Untrue.{old_leaf}
use Rattle.obligation_laws.specs.ReadBackLeaves.{IsReadBack, Other}
use Rattle.obligation_laws.proofs.Relating.{all_map, made_map}
use Rattle.obligation_laws.proofs.Agreeing.{Agree, made_both, read_back_number, same_value}

-- ---- leaves

leaf_map : (P Q : OfInputs) → ((n w : ℕ) → P n w → Q n w) → (leaf : Leaf) → LeafMade P leaf → LeafMade Q leaf
leaf_map P Q f leaf h = record { cond = made_map P Q f leaf.cond h.cond; values = all_map P Q f (end_values leaf.end) h.values; fields = all_map P Q f (end_fields leaf.end) h.fields }

all_both : (P Q : OfInputs) (ts : List Term) → AllMade P ts → AllMade Q ts → AllMade (λ n w. P n w × Q n w) ts
all_both P Q [] h k = tt
all_both P Q (t ∷ ts) h k = (made_both P Q t h.0 k.0, all_both P Q ts h.1 k.1)

leaf_both : (P Q : OfInputs) (leaf : Leaf) → LeafMade P leaf → LeafMade Q leaf → LeafMade (λ n w. P n w × Q n w) leaf
leaf_both P Q leaf h k = record { cond = made_both P Q leaf.cond h.cond k.cond; values = all_both P Q (end_values leaf.end) h.values k.values; fields = all_both P Q (end_fields leaf.end) h.fields k.fields }

-- each of these choices agrees, or is not named
abbrev Settled : Inputs → Inputs → Leaf → List NewInput → Type 0
Settled a b leaf [] = Unit {0}
Settled a b leaf (i ∷ is) = ((a i.number ≡ b i.number) ⊎ LeafMade (Other i) leaf) × Settled a b leaf is

-- the other inputs agree, so all that are named do
settle : (a b : Inputs) (leaf : Leaf) (is : List NewInput) → Settled a b leaf is → LeafMade (λ n w. Agree a b n w ⊎ OneOf is n w) leaf → LeafMade (Agree a b) leaf
settle a b leaf [] s h = leaf_map (λ n w. Agree a b n w ⊎ OneOf [] n w) (Agree a b) (λ n w k. elim k [ inl e ↦ e | inr none ↦ absurd none ]) leaf h
settle a b leaf (i ∷ is) s h = settle a b leaf is s.1 (elim s.0 [
  | inl e ↦ leaf_map (λ n w. Agree a b n w ⊎ OneOf (i ∷ is) n w) (λ n w. Agree a b n w ⊎ OneOf is n w)
      (λ n w k. elim k [ inl q ↦ inl q | inr q ↦ elim q [ inl z ↦ inl (ap a z.0 ∙ e ∙ ap b (sym z.0)) | inr z ↦ inr z ] ]) leaf h
  | inr o ↦ leaf_map (λ n w. (Agree a b n w ⊎ OneOf (i ∷ is) n w) × Other i n w) (λ n w. Agree a b n w ⊎ OneOf is n w)
      (λ n w k. elim k.0 [ inl q ↦ inl q | inr q ↦ elim q [ inl z ↦ absurd (k.1 z.0) | inr z ↦ inr z ] ]) leaf
      (leaf_both (λ n w. Agree a b n w ⊎ OneOf (i ∷ is) n w) (Other i) leaf h o)
])

-- ---- lists of numbers

head_same : (x y : ℕ) (xs ys : List ℕ) → ◌≡◌ {A = List ℕ} (x ∷ xs) (y ∷ ys) → x ≡ y
head_same x y xs ys h = cc

tail_same : (x y : ℕ) (xs ys : List ℕ) → ◌≡◌ {A = List ℕ} (x ∷ xs) (y ∷ ys) → xs ≡ ys
tail_same x y xs ys h = cc

given_agree : (P : OfInputs) (a b : Inputs) (is : List NewInput) → given a is ≡ given b is → Have (λ n w. Agree a b n w ⊎ P n w) is
given_agree P a b [] h = tt
given_agree P a b (i ∷ is) h = (inl (head_same (a i.number) (b i.number) (given a is) (given b is) h), given_agree P a b is (tail_same (a i.number) (b i.number) (given a is) (given b is) h))

one_of : (i : NewInput) (all : List NewInput) → In i all → OneOf all i.number i.width
one_of i [] h = h
one_of i (j ∷ all) h = elim h [ inl e ↦ inl (ap (λ (x : NewInput). x.number) e, ap (λ (x : NewInput). x.width) e) | inr k ↦ inr (one_of i all k) ]

all_of : (a b : Inputs) (all is : List NewInput) → ((i : NewInput) → In i is → In i all) → Have (λ n w. Agree a b n w ⊎ OneOf all n w) is
all_of a b all [] h = tt
all_of a b all (i ∷ is) h = (inr (one_of i all (h i (inl refl))), all_of a b all is (λ j k. h j (inr k)))

fit_fields : (ins : Inputs) (first : ℕ) (ws : List ℕ) → AllFit ins (inputs_from first ws) → FieldsFit ws (given ins (inputs_from first ws))
fit_fields ins first [] h = tt
fit_fields ins first (w ∷ ws) h = (h.0, fit_fields ins (suc first) ws h.1)

both_parts : (n : ℕ) (ns : List ℕ) → take n ns ++ drop n ns ≡ ns
both_parts zero ns = refl
both_parts (suc n) [] = refl
both_parts (suc n) (x ∷ ns) = ap (λ xs. x ∷ xs) (both_parts n ns)

left_over : (ps : List Param) (ws ns : List ℕ) → length ns ≡ length (widths_of ps ++ ws) → length (drop (length ps) ns) ≡ length ws
left_over [] ws ns h = h
left_over (p ∷ ps) ws [] h = absurd (let z : 0 ≡ suc (length (widths_of ps ++ ws)) = h in omega (arith, z))
left_over (p ∷ ps) ws (n ∷ ns) h = left_over ps ws ns (let z : suc (length ns) ≡ suc (length (widths_of ps ++ ws)) = h in omega (arith, z))

no_numbers : (ns : List ℕ) → length ns ≡ 0 → [] ≡ ns
no_numbers [] h = refl
no_numbers (n ∷ ns) h = absurd (let z : suc (length ns) ≡ 0 = h in omega (arith, z))

flat_again : (hs : List HeaderDecl) (ns : List ℕ) → length ns ≡ length (all_widths hs) → flat (packet_of hs ns) ≡ ns
flat_again [] ns h = no_numbers ns h
flat_again (d ∷ hs) ns h =
    let n = length d.fields in
    ap (λ xs. take n ns ++ xs) (flat_again hs (drop n ns) (left_over d.fields (all_widths hs) ns h)) ∙ both_parts n ns

as_many : (R : ℕ → Term → Type 0) (F : Functions) (ins : Inputs) (ws : List ℕ) (ts : List Term) → AllZip R ws ts → length (numbers_of F ins ts) ≡ length ws
as_many R F ins [] [] h = refl
as_many R F ins [] (t ∷ ts) h = absurd h
as_many R F ins (w ∷ ws) [] h = absurd h
as_many R F ins (w ∷ ws) (t ∷ ts) h = ap suc (as_many R F ins ws ts h.1)

-- ---- truth

chain_one : (F : Functions) (ins : Inputs) (t : Term) (us : List Term) → IsOne F ins t → AllOne F ins us → IsOne F ins (chain ops.And t us)
chain_one F ins t [] h k = h
chain_one F ins t (u ∷ us) h k = chain_one F ins (term.binary ops.And t u) us (chain_holds F ins t u h k.0) k.1

ones_join : (F : Functions) (ins : Inputs) (ts us : List Term) → AllOne F ins ts → AllOne F ins us → AllOne F ins (ts ++ us)
ones_join F ins [] us h k = k
ones_join F ins (t ∷ ts) us h k = (h.0, ones_join F ins ts us h.1 k)

-- numbers of a width that are the same are equal
equal_one : (F : Functions) (ins : Inputs) (w : ℕ) (t u : Term) → HasNumber F ins w t → HasNumber F ins w u → number_in (term_value F ins t) ≡ number_in (term_value F ins u) → IsOne F ins (term.binary ops.Equal t u)
equal_one F ins w t u h k e =
    let n = number_in (term_value F ins u) in
    (λ i. operated ops.Equal ((of_width w (term_value F ins t) h ∙ ap (number w) e) i) (of_width w (term_value F ins u) k i))
    ∙ ap (λ b. term_number (if b then Some (truth (n == n)) else None)) (same_self w)
    ∙ ap (λ b. term_number (Some (truth b))) (same_self n)

equals_one : (F : Functions) (ins a : Inputs) (r : Replacing) (ws : List ℕ) (ts us : List Term) → AllZip (HasNumber F (values_of F ins r)) ws ts → AllMade (Standing r (HasNumber F ins)) ts → AllMade (Agree (values_of F ins r) a) ts
    → AllZip (HasNumber F ins) ws us → numbers_of F a ts ≡ numbers_of F ins us → AllOne F ins (equals r ts us)
equals_one F ins a r [] [] [] h m g k e = tt
equals_one F ins a r [] [] (u ∷ us) h m g k e = absurd k
equals_one F ins a r [] (t ∷ ts) us h m g k e = absurd h
equals_one F ins a r (w ∷ ws) [] us h m g k e = absurd h
equals_one F ins a r (w ∷ ws) (t ∷ ts) [] h m g k e = absurd k
equals_one F ins a r (w ∷ ws) (t ∷ ts) (u ∷ us) h m g k e =
    let v = replaced_value F ins r t m.0 in
    let first = head_same (number_in (term_value F a t)) (number_in (term_value F ins u)) (numbers_of F a ts) (numbers_of F ins us) e in
    let later = tail_same (number_in (term_value F a t)) (number_in (term_value F ins u)) (numbers_of F a ts) (numbers_of F ins us) e in (
      equal_one F ins w (replaced r t) u (subst (IsOfSort (bits_sort w)) (sym v) h.0) k.0 (ap number_in v ∙ ap number_in (same_value F (values_of F ins r) a t g.0) ∙ first),
      equals_one F ins a r ws ts us h.1 m.1 g.1 k.1 later,
    )

-- ---- runs of the body above

reached_there : (o : Option Arrival) (to : Loc) (sent : Packet) (rest : List ℕ) → plainly o ≡ Some (to, sent, rest) → (a : Arrival) × (o ≡ Some a) × (a.to ≡ to) × (a.sent ≡ sent)
reached_there None to sent rest h = absurd (cc)
reached_there (Some a) to sent rest h =
    let e : ◌≡◌ {A = Reached} (Some (a.to, a.sent, a.rest)) (Some (to, sent, rest)) = h in
    (a, refl, ap (λ (x : Reached). elim x as (λ y. Loc) [ None ↦ to | Some r ↦ r.0 ]) e, ap (λ (x : Reached). elim x as (λ y. Packet) [ None ↦ sent | Some r ↦ r.1 ]) e)

went_by : (w : World) → RunsAreTaken → (from : Loc) (packet : Packet) (cs : List ℕ) (to : Loc) (sent : Packet) → Go w from packet cs to sent → (a : Arrival) × (go_by w from packet cs ≡ Some a) × (a.to ≡ to) × (a.sent ≡ sent)
went_by w taken from packet cs to sent g =
    reached_there (go_by w from packet cs) to sent [] (same_go w from packet cs ∙ ap (λ xs. go w from packet xs) (sym (append-nil cs)) ∙ taken.takes w from packet cs to sent g [])

-- beside what is known, that runs of one body have leaves, and that their choices are read back
pub record Further (d : Design) : Type 0 where
  pub known : Known d
  pub have_one : (es : DefsText) → HasDefinitions d es → (level : ℕ) (role : List ℕ) (r : Role) → role_at level d role ≡ Some r → (first : ℕ)
      → RunsHaveLeaves (functions_by d (defs_of d es)) d.headers role (body_tree level d role first) (go_by (world level d (defs_of d es)))
  pub reads : (level : ℕ) (role : List ℕ) (r : Role) → role_at level d role ≡ Some r → reads_back d r ≡ true → (first n : ℕ) (leaf : Leaf) → slice_get (body_tree level d role first).leaves n ≡ Some leaf
      → (m : ℕ) (i : NewInput) → slice_get leaf.choices m ≡ Some i → IsReadBack leaf i

-- an old leaf whose part is true
pub record Matched (d : Design) (es : DefsText) (ins : Inputs) (above : ℕ) (role : List ℕ) (next : ℕ) (tree : Tree) (leaf : Leaf) : Type 0 where
  pub old : Leaf
  pub within : In old (body_tree above d role next).leaves
  pub same : same_name (end_role leaf.end) (end_role old.end) ≡ true
  pub true_ : IsOne (functions_by d (defs_of d es)) ins (part (body_tree above d role next) old tree leaf)

module _ (d : Design) (further : Further d) (above : ℕ) (block : Refine) (at : slice_get d.refines above ≡ Some block) (role : List ℕ) (first next : ℕ)
    (es : DefsText) (h : HasDefinitions d es) (r : Role) (is : role_at (suc above) d role ≡ Some r) (q : Role) (old_is : role_at above d role ≡ Some q) (back : reads_back d q ≡ true)
    (ins : Inputs) (leaf : Leaf) (it : Beside d (defs_of d es) ins (suc above) (inlined above d role block.within first) leaf) where
  abbrev F : Functions
  F = functions_by d (defs_of d es)

  abbrev tree : Tree
  tree = inlined above d role block.within first

  abbrev old_tree : Tree
  old_tree = body_tree above d role next

  abbrev from : Loc
  from = first_loc ins role tree

  abbrev packet : Packet
  packet = first_packet ins d.headers tree

  abbrev to : Loc
  to = (arrives F ins d.headers leaf []).to

  abbrev sent : Packet
  sent = (arrives F ins d.headers leaf []).sent

  widths : widths_of (params_of (term_world above d) role) ≡ widths_of (params_of (term_world (suc above) d) role)
  widths =
      ap widths_of (params_there above d role q old_is) ∙ widths_kept d further.known.rules above block at role q r old_is is
      ∙ ap widths_of (sym (params_there (suc above) d role r is))

  begun : Started (body_tree above d role next).args (body_tree above d role next).fields (given ins tree.args) (given ins tree.fields)
  begun =
      started next (widths_of (params_of (term_world above d) role)) (all_widths d.headers) (given ins tree.args) (given ins tree.fields)
      (subst (λ ws. FieldsFit ws (given ins tree.args)) (sym widths) (fit_fields ins first (widths_of (params_of (term_world (suc above) d) role)) it.args))
      (fit_fields ins (first + length tree.args) (all_widths d.headers) it.fields)

  module _ (cs : List ℕ) (g : Go (world above d (defs_of d es)) from packet cs to sent) where
    ran : (a : Arrival) × (go_by (world above d (defs_of d es)) from packet cs ≡ Some a) × (a.to ≡ to) × (a.sent ≡ sent)
    ran = went_by (world above d (defs_of d es)) further.known.taken from packet cs to sent g

    found : HasLeaf F begun.inputs d.headers old_tree cs ran.0
    found =
        further.have_one es h above role q old_is next begun.inputs begun.args_fit begun.fields_fit cs ran.0
        ((λ k. go_by (world above d (defs_of d es)) (record { role = role; values = begun.args_are k }) (packet_of d.headers (begun.fields_are k)) cs) ∙ ran.1)

    abbrev old : Leaf
    old = found.leaf

    inside : In old old_tree.leaves
    inside = at_place old_tree.leaves found.number found.leaf found.there

    to_is : (arrives F found.inputs d.headers found.leaf ran.0.rest).to ≡ to
    to_is = ap (λ (x : Arrival). x.to) found.ends ∙ ran.2

    same_role : same_name (end_role leaf.end) (end_role old.end) ≡ true
    same_role = ap (same_name (end_role leaf.end)) (ap (λ (x : Loc). x.role) to_is) ∙ text_self (end_role leaf.end)

    values_are : numbers_of F found.inputs (end_values old.end) ≡ numbers_of F ins (end_values leaf.end)
    values_are = ap (λ (x : Loc). x.values) to_is

    o : OldLeaf d (defs_of d es) ins above leaf old
    o = old_leaf d further.known above block at role first next es h r is ins leaf it old inside q old_is same_role

    fields_are : numbers_of F found.inputs (end_fields old.end) ≡ numbers_of F ins (end_fields leaf.end)
    fields_are =
        sym (flat_again d.headers (numbers_of F found.inputs (end_fields old.end)) (as_many HasWidth F found.inputs (all_widths d.headers) (end_fields old.end) o.fields))
        ∙ ap flat (ap (λ (x : Arrival). x.sent) found.ends ∙ ran.3)
        ∙ flat_again d.headers (numbers_of F ins (end_fields leaf.end)) (as_many (HasNumber F ins) F ins (all_widths d.headers) (end_fields leaf.end) it.shown.fields)

    abbrev given_by : Replacing
    given_by = replacing old_tree old tree leaf

    abbrev olds : Inputs
    olds = values_of F ins given_by

    -- what is shown of the part of an old leaf, at this one
    abbrev hold_all : (level : ℕ) (i : Inputs) → Holds d (defs_of d es) i level
    hold_all = holds_of d es h (further.known.sound es h) further.known.roles

    args_agree : given olds old_tree.args ≡ given found.inputs old_tree.args
    args_agree =
        parts.from_same d (defs_of d es) hold_all further.known.taken above role block.within first next widths (further.known.are es h above role q old_is next) ins leaf it old inside q old_is o
        ∙ sym begun.args_are ∙ sym found.same_args

    fields_agree : given olds old_tree.fields ≡ given found.inputs old_tree.fields
    fields_agree =
        parts.packet_same d (defs_of d es) hold_all further.known.taken above role block.within first next widths (further.known.are es h above role q old_is next) ins leaf it old inside q old_is o
        ∙ sym begun.fields_are ∙ sym found.same_fields

    settled : (all : List NewInput) → ((m : ℕ) (i : NewInput) → slice_get all m ≡ Some i → IsReadBack old i) → given olds all ≡ numbers_of F ins (map (read_back old.end leaf.end) all) → Settled olds found.inputs old all
    settled [] reads e = tt
    settled (i ∷ all) reads e =
        let rb = read_back old.end leaf.end i in
        let first = head_same (olds i.number) (number_in (term_value F ins rb)) (given olds all) (numbers_of F ins (map (read_back old.end leaf.end) all)) e in
        let later = tail_same (olds i.number) (number_in (term_value F ins rb)) (given olds all) (numbers_of F ins (map (read_back old.end leaf.end) all)) e in (
          elim (reads 0 i refl) [
            | inl s ↦ inl (first ∙ read_back_number F found.inputs ins old.end leaf.end values_are fields_are i s)
            | inr u ↦ inr u
          ],
          settled all (λ m. reads (suc m)) later,
        )

    agreed : LeafMade (Agree olds found.inputs) old
    agreed =
        settle olds found.inputs old old.choices
        (settled old.choices (further.reads above role q old_is back next found.number old found.there)
        (parts.choices_same d (defs_of d es) hold_all further.known.taken above role block.within first next widths (further.known.are es h above role q old_is next) ins leaf it old inside q old_is o))
        (leaf_made (λ n w. Agree olds found.inputs n w ⊎ OneOf old.choices n w) d above (λ x. false) 1 role next old inside
        (given_agree (OneOf old.choices) olds found.inputs old_tree.args args_agree) (given_agree (OneOf old.choices) olds found.inputs old_tree.fields fields_agree)
        (all_of olds found.inputs old.choices old.choices (λ i k. k)))

    by_number : LeafMade (Standing given_by (HasNumber F ins)) old
    by_number = parts.by_number d (defs_of d es) hold_all further.known.taken above role block.within first next widths (further.known.are es h above role q old_is next) ins leaf it old inside q old_is o

    cond_one : IsOne F ins (replaced given_by old.cond)
    cond_one = replaced_value F ins given_by old.cond by_number.cond ∙ same_value F olds found.inputs old.cond agreed.cond ∙ found.true_

    values_one : AllOne F ins (equals given_by (end_values old.end) (end_values leaf.end))
    values_one =
        equals_one F ins found.inputs given_by (widths_of o.role.params) (end_values old.end) (end_values leaf.end)
        (parts.old_values d (defs_of d es) hold_all further.known.taken above role block.within first next widths (further.known.are es h above role q old_is next) ins leaf it old inside q old_is o)
        by_number.values agreed.values o.sent values_are

    fields_one : AllOne F ins (equals given_by (end_fields old.end) (end_fields leaf.end))
    fields_one =
        equals_one F ins found.inputs given_by (all_widths d.headers) (end_fields old.end) (end_fields leaf.end)
        (parts.old_shown d (defs_of d es) hold_all further.known.taken above role block.within first next widths (further.known.are es h above role q old_is next) ins leaf it old inside q old_is o).fields
        by_number.fields agreed.fields it.shown.fields fields_are

    pub matched : Matched d es ins above role next (inlined above d role block.within first) leaf
    matched = record {
      old = old;
      within = inside;
      same = same_role;
      true_ = chain_one F ins (replaced given_by old.cond) (equals given_by (end_values old.end) (end_values leaf.end) ++ equals given_by (end_fields old.end) (end_fields leaf.end)) cond_one
          (ones_join F ins (equals given_by (end_values old.end) (end_values leaf.end)) (equals given_by (end_fields old.end) (end_fields leaf.end)) values_one fields_one);
    }
