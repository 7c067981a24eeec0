-- Cited by the clauses of the laws of this crate and by those of code that makes obligations: the term that is true where a
-- leaf of a refined role fails. It follows the section "Formulas" of docs/CLAUSES.md.
use Rattle.std.specs.Prelude.{ℕ, suc, List, [], ◌∷◌, ◌++◌, map, filter, if◌then◌else◌, Option, Some, None, option_map, option_and_then, unwrap_or, slice_get}
use Rattle.cocoon_num.specs.Names.{same_name}
use Rattle.bv_terms.specs.declared.node.TermOp.{TermOp}
use Rattle.bv_terms.specs.declared.node.TermOp.TheVariants as ops
use Rattle.bv_terms.specs.Replacements.{Replacing, beside, replaced}
use Rattle.bv_terms.specs.TermTrees as term
use Rattle.bv_terms.specs.TermTrees.{Term}
use Rattle.bv_terms.specs.Walks.{same_term}
use Rattle.obligation_laws.specs.States.{NewInput, input_term}
use Rattle.obligation_laws.specs.Leaves.{End, sent_to, inside, Leaf, Tree, end_fields, end_role, end_values}

-- ---- chains

-- some terms, joined from the left behind a first one
abbrev pub chain : TermOp → Term → List Term → Term
chain op t [] = t
chain op t (u ∷ us) = chain op (term.binary op t u) us

-- one of some terms is true; where there is none, that is false
abbrev pub any_of : List Term → Term
any_of [] = term.constant 1 0
any_of (t ∷ ts) = chain ops.Or t ts

-- ---- choices that are read back

-- the position of a choice among some terms: the least at which it stands alone
abbrev pub position : NewInput → List Term → Option ℕ
position i [] = None
position i (t ∷ ts) = if same_term t (input_term i) then Some 0 else option_map suc (position i ts)

-- what is sent at the position that a choice has among old terms
abbrev pub sent_at : NewInput → (old sent : List Term) → Option Term
sent_at i old sent = option_and_then (slice_get sent) (position i old)

-- What stands for a choice of an old leaf: the value sent at its position, or else the field there. A choice that stands
-- alone nowhere is read nowhere: 0 stands for it.
abbrev pub read_back : (old sent : End) → NewInput → Term
read_back old sent i = elim (sent_at i (end_values old) (end_values sent)) [
  | Some t ↦ t
  | None ↦ unwrap_or (sent_at i (end_fields old) (end_fields sent)) (term.constant i.width 0)
]

-- ---- parts

-- the inputs of a leaf of a tree: the parameters, the fields and its choices
abbrev pub leaf_inputs : Tree → Leaf → List NewInput
leaf_inputs tree leaf = tree.args ++ (tree.fields ++ leaf.choices)

-- what stands for those of an old leaf, beside a leaf of the refined role: its parameters and fields, and what is read back
abbrev pub stand_ins : (old : Leaf) → Tree → Leaf → List Term
stand_ins old tree leaf =
    map input_term tree.args ++ (map input_term tree.fields ++ map (read_back old.end leaf.end) old.choices)

abbrev pub replacing : (old_tree : Tree) (old : Leaf) → Tree → Leaf → Replacing
replacing old_tree old tree leaf =
    beside (map (λ (i : NewInput). i.number) (leaf_inputs old_tree old)) (stand_ins old tree leaf)

-- old terms, with their inputs replaced, equal those that are sent
abbrev pub equals : Replacing → (old sent : List Term) → List Term
equals r (t ∷ ts) (u ∷ us) = term.binary ops.Equal (replaced r t) u ∷ equals r ts us
equals r ts us = []

-- the old leaf is true, and sends what the leaf sends: each value, and each field of the packet
abbrev pub part : (old_tree : Tree) (old : Leaf) → Tree → Leaf → Term
part old_tree old tree leaf =
    let r = replacing old_tree old tree leaf in
    chain ops.And (replaced r old.cond)
    (equals r (end_values old.end) (end_values leaf.end) ++ equals r (end_fields old.end) (end_fields leaf.end))

-- ---- formulas

-- the old leaves that send to a role
abbrev pub sending_to : (role : List ℕ) → List Leaf → List Leaf
sending_to role leaves = filter (λ (old : Leaf). same_name role (end_role old.end)) leaves

-- a part for each old leaf that sends to the same role
abbrev pub parts : (old_tree : Tree) → Tree → Leaf → List Term
parts old_tree tree leaf =
    map (λ old. part old_tree old tree leaf) (sending_to (end_role leaf.end) old_tree.leaves)

-- A leaf fails where it is true and none of its parts is; one that ends inside fails where it is true.
abbrev pub formula : (old_tree : Tree) → Tree → Leaf → Term
formula old_tree tree leaf = elim leaf.end [
  | sent_to role values fields ↦ term.binary ops.And leaf.cond (term.not_ (any_of (parts old_tree tree leaf)))
  | inside role values fields ↦ leaf.cond
]
