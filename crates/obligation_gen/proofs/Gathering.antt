-- Leaves that are compared, and their parts one after another.
use Rattle.std.proofs.Common.{◌≡◌, ℕ, zero, suc, ◌+◌, ◌<◌, ◌≤◌, ◌==◌, Bool, true, false, List, [], ◌∷◌, ◌++◌, drop, map, length, get_or, Option, Some, None, option_map, if◌then◌else◌, IfSome, inl, inr, refl, sym, ap, subst, ◌∙◌, arith}
use Rattle.std.specs.Prelude.{filter, slice_get}
use Rattle.std.specs.List.{AllZip}
use Rattle.std.proofs.Math.ListN.{drop_of_length-le}
use Rattle.std.proofs.lemmas.Bool.{cases_Bool}
use Rattle.cocoon_num.specs.Names.{same_name}
use Rattle.cocoon_num.specs.Tree.{Design}
use Rattle.bv_terms.specs.declared.node.Node.{Node}
use Rattle.bv_terms.specs.declared.node.TermOp.TheVariants as ops
use Rattle.bv_terms.specs.Arenas.{KeepsTerms, term_at, width_at}
use Rattle.bv_terms.specs.Replacements.{replaced}
use Rattle.bv_terms.specs.TermTrees as term
use Rattle.bv_terms.specs.TermTrees.{Term, width}
use Rattle.declarations.specs.Declares.{role_number}
use Rattle.obligation_laws.specs.Shown.{HasWidth}
use Rattle.expr_terms.specs.Variables.{Keeps, Makes, MakesAll, terms_at}
use Rattle.expr_terms.proofs.Making.{keeps_on}
use Rattle.obligation_laws.specs.FormulaForms.{PartFits}
use Rattle.obligation_gen.specs.ShownTrees.{ShowsEnd, ShowsLeaf, ShowsLeaves}
use Rattle.obligation_gen.specs.declared.tree.End.{End}
use Rattle.obligation_gen.specs.declared.tree.End.TheVariants.{Sent, Inside}
use Rattle.obligation_gen.specs.declared.tree.Leaf.{Leaf}
use Rattle.obligation_gen.specs.declared.tree.Tree.{Tree}
use Rattle.obligation_gen.proofs.Growing.{inputs_on, leaf_on}
use Rattle.obligation_laws.specs.Formulas.{any_of, chain, part, parts, sending_to}
use Rattle.obligation_laws.specs.Leaves as laws
use Rattle.symbolic_runs.proofs.Growing.{longer}
use Rattle.obligation_laws.specs.Leaves.{sent_to, inside, end_role}
use Rattle.obligation_gen.specs.Compared.{AreCompared, ArePaired, Compared, IsTruth, Paired}
use Rattle.obligation_gen.specs.Parts.{either, parts_of, with_parts}
use Rattle.obligation_gen.specs.Sent.{role_in}
use Rattle.sound_types.proofs.Options.{same_text}
use Rattle.obligation_gen.proofs.RoleNumbers.{one_name, same_itself}

-- ---- roles

-- the roles of two ends are the same if and only if their numbers are
pub numbered : (d : Design) (nodes : List Node) (e : End) (of : laws.End) → ShowsEnd d nodes e of → role_number d (end_role of) ≡ Some (role_in e)
numbered d nodes (Sent role values fields) (sent_to r vs fs) h = h.role_
numbered d nodes (Inside role values fields) (inside r vs fs) h = h.role_
numbered d nodes (Sent role values fields) (inside r vs fs) h = absurd h
numbered d nodes (Inside role values fields) (sent_to r vs fs) h = absurd h

-- ---- leaves

-- the old leaf at an index, and what it shows
pub record LeafAt (d : Design) (nodes : List Node) (leaves : List Leaf) (of : List laws.Leaf) (i : ℕ) (leaf : Leaf) : Type 0 where
  pub leaf_of : laws.Leaf
  pub at : slice_get of i ≡ Some leaf_of
  pub rest : drop i of ≡ leaf_of ∷ drop (i + 1) of
  pub shows : ShowsLeaf d nodes leaf leaf_of

pub leaf_at : (d : Design) (nodes : List Node) (leaves : List Leaf) (of : List laws.Leaf) (i : ℕ) (leaf : Leaf) → ShowsLeaves d nodes leaves of → i < length leaves → leaf ≡ get_or leaves i leaf → LeafAt d nodes leaves of i leaf
leaf_at d nodes [] of i leaf h l e = absurd (omega (arith, l))
leaf_at d nodes (x ∷ leaves) [] i leaf h l e = absurd h
leaf_at d nodes (x ∷ leaves) (y ∷ of) zero leaf h l e = record { leaf_of = y; at = refl; rest = refl; shows = subst (λ z. ShowsLeaf d nodes z y) (sym e) h.0 }
leaf_at d nodes (x ∷ leaves) (y ∷ of) (suc i) leaf h l e =
    let r = leaf_at d nodes leaves of i leaf h.1 (omega (arith, l)) e in
    let next : suc (i + 1) ≡ suc i + 1 = omega arith in
    record { leaf_of = r.leaf_of; at = r.at; rest = r.rest ∙ ap (λ n. r.leaf_of ∷ drop n (y ∷ of)) next; shows = r.shows }

-- ---- what is shown stays

-- beside one old leaf
pub paired : (d : Design) (a b : List Node) (old_tree tree : Tree) (leaf : Leaf) (old_of of : laws.Tree) (leaf_of : laws.Leaf) → AreCompared d a old_tree tree leaf old_of of leaf_of → KeepsTerms a b
    → (i : ℕ) (old : Leaf) (at : LeafAt d a old_tree.leaves old_of.leaves i old) → role_in old.end ≡ role_in leaf.end
    → ArePaired d b old_tree old tree leaf old_of at.leaf_of of leaf_of
paired d a b old_tree tree leaf old_of of leaf_of h k i old at e = record {
  old_args = inputs_on a b old_tree.args old_of.args k h.old_.args;
  old_fields = inputs_on a b old_tree.fields old_of.fields k h.old_.fields;
  old_ = leaf_on d a b old at.leaf_of k at.shows;
  args = inputs_on a b tree.args of.args k h.args;
  fields = inputs_on a b tree.fields of.fields k h.fields;
  leaf_ = leaf_on d a b leaf leaf_of k h.leaf_;
  fits =
      h.fits i at.leaf_of at.at
      (one_name d (end_role leaf_of.end) (end_role at.leaf_of.end) (role_in leaf.end) (numbered d a leaf.end leaf_of.end h.leaf_.end) (numbered d a old.end at.leaf_of.end at.shows.end ∙ ap Some e));
}

-- ---- parts

-- the parts of the first old leaves are joined
pub record Gathered (start now : List Node) (old_tree tree : Tree) (leaf : Leaf) (any : Option ℕ) (index : ℕ) : Type 0 where
  pub kept : Keeps start now
  pub truth : IfSome any (IsTruth now)
  pub made : (d : Design) (old_of of : laws.Tree) (leaf_of : laws.Leaf) → AreCompared d start old_tree tree leaf old_of of leaf_of
      → with_parts (option_map (term_at now) any) (parts_of old_of of leaf_of (drop index old_of.leaves)) ≡ any_of (parts old_of of leaf_of)

pub none_gathered : (start : List Node) (old_tree tree : Tree) (leaf : Leaf) → Keeps start start → Gathered start start old_tree tree leaf None 0
none_gathered start old_tree tree leaf k = record { kept = k; truth = tt; made = λ d old_of of leaf_of h. refl }

either_of : (any : Option Term) (t : Term) (ts : List Term) → with_parts (Some (either any t)) ts ≡ with_parts any (t ∷ ts)
either_of None t ts = refl
either_of (Some any) t ts = refl

any_on : (a b : List Node) (any : Option ℕ) → KeepsTerms a b → IfSome any (IsTruth a) → option_map (term_at b) any ≡ option_map (term_at a) any
any_on a b None k h = refl
any_on a b (Some id) k h = ap Some (k.terms id h.0)

-- the leaf sends to another role
pub one_passed : (start now : List Node) (old_tree tree : Tree) (leaf : Leaf) (any : Option ℕ) (index : ℕ) (old : Leaf) → Gathered start now old_tree tree leaf any index
    → index < length old_tree.leaves → old ≡ get_or old_tree.leaves index old → (role_in old.end ≡ role_in leaf.end → ⊥) → Gathered start now old_tree tree leaf any (index + 1)
one_passed start now old_tree tree leaf any index old g l is other = record {
  kept = g.kept;
  truth = g.truth;
  made = λ d old_of of leaf_of h.
      let at = leaf_at d start old_tree.leaves old_of.leaves index old h.old_.leaves l is in
      let no : same_name (end_role leaf_of.end) (end_role at.leaf_of.end) ≡ false = apart d old_of of leaf_of h at in
      let left = drop (index + 1) old_of.leaves in
      let same : parts_of old_of of leaf_of (drop index old_of.leaves) ≡ parts_of old_of of leaf_of left =
      ap (parts_of old_of of leaf_of) at.rest
      ∙ ap (λ b. map (λ o. part old_of o of leaf_of) (if b then at.leaf_of ∷ sending_to (end_role leaf_of.end) left else sending_to (end_role leaf_of.end) left)) no in
      ap (with_parts (option_map (term_at now) any)) (sym same) ∙ g.made d old_of of leaf_of h;
}
  where
    apart : (d : Design) (old_of of : laws.Tree) (leaf_of : laws.Leaf) → AreCompared d start old_tree tree leaf old_of of leaf_of → (at : LeafAt d start old_tree.leaves old_of.leaves index old)
        → same_name (end_role leaf_of.end) (end_role at.leaf_of.end) ≡ false
    apart d old_of of leaf_of h at = elim (cases_Bool (same_name (end_role leaf_of.end) (end_role at.leaf_of.end))) [
      | inl s ↦
          let name = same_text (end_role leaf_of.end) (end_role at.leaf_of.end) s in
          let both : Some (role_in old.end) ≡ Some (role_in leaf.end) =
          sym (numbered d start old.end at.leaf_of.end at.shows.end) ∙ ap (role_number d) (sym name) ∙ numbered d start leaf.end leaf_of.end h.leaf_.end in
          let number : role_in old.end ≡ role_in leaf.end = cc in
          absurd (other number)
      | inr s ↦ s
    ]

-- one part more
pub one_gathered : (start now mid new : List Node) (old_tree tree : Tree) (leaf : Leaf) (any : Option ℕ) (index : ℕ) (old : Leaf) (id both : ℕ) → Gathered start now old_tree tree leaf any index
    → index < length old_tree.leaves → old ≡ get_or old_tree.leaves index old → role_in old.end ≡ role_in leaf.end
    → Keeps now mid
    → ((d : Design) (old_of of : laws.Tree) (o leaf_of : laws.Leaf) → ArePaired d now old_tree old tree leaf old_of o of leaf_of → Makes mid id (part old_of o of leaf_of))
    → Keeps mid new → Makes new both (either (option_map (term_at mid) any) (term_at mid id)) → IsTruth new both
    → Gathered start new old_tree tree leaf (Some both) (index + 1)
one_gathered start now mid new old_tree tree leaf any index old id both g l is same first made second joined truth = record {
  kept = keeps_on start mid new (keeps_on start now mid g.kept first) second;
  truth = truth;
  made = λ d old_of of leaf_of h.
      let at = leaf_at d start old_tree.leaves old_of.leaves index old h.old_.leaves l is in
      let number : role_in old.end ≡ role_in leaf.end = same in
      let pair = paired d start now old_tree tree leaf old_of of leaf_of h g.kept.kept index old at number in
      let p = part old_of at.leaf_of of leaf_of in
      let name : end_role leaf_of.end ≡ end_role at.leaf_of.end =
      one_name d (end_role leaf_of.end) (end_role at.leaf_of.end) (role_in leaf.end) (numbered d start leaf.end leaf_of.end h.leaf_.end)
      (numbered d start old.end at.leaf_of.end at.shows.end ∙ ap Some number) in
      let yes : same_name (end_role leaf_of.end) (end_role at.leaf_of.end) ≡ true = ap (same_name (end_role leaf_of.end)) (sym name) ∙ same_itself (end_role leaf_of.end) in
      let left = drop (index + 1) old_of.leaves in
      let more : parts_of old_of of leaf_of (drop index old_of.leaves) ≡ p ∷ parts_of old_of of leaf_of left =
      ap (parts_of old_of of leaf_of) at.rest
      ∙ ap (λ b. map (λ o. part old_of o of leaf_of) (if b then at.leaf_of ∷ sending_to (end_role leaf_of.end) left else sending_to (end_role leaf_of.end) left)) yes in
      let joined_is : term_at new both ≡ either (option_map (term_at now) any) p =
      joined.term ∙ (λ j. either (any_on now mid any first.kept g.truth j) ((made d old_of of at.leaf_of leaf_of pair).term j)) in
      ap (λ t. with_parts (Some t) (parts_of old_of of leaf_of left)) joined_is
      ∙ either_of (option_map (term_at now) any) p (parts_of old_of of leaf_of left)
      ∙ ap (with_parts (option_map (term_at now) any)) (sym more) ∙ g.made d old_of of leaf_of h;
}

-- the lists have as many leaves
pub as_many : (d : Design) (nodes : List Node) (leaves : List Leaf) (of : List laws.Leaf) → ShowsLeaves d nodes leaves of → length of ≡ length leaves
as_many d nodes [] [] h = refl
as_many d nodes [] (y ∷ of) h = absurd h
as_many d nodes (x ∷ leaves) [] h = absurd h
as_many d nodes (x ∷ leaves) (y ∷ of) h = ap suc (as_many d nodes leaves of h.1)

-- all parts are joined
pub all_gathered : (start now : List Node) (old_tree tree : Tree) (leaf : Leaf) (any : Option ℕ) (index : ℕ) → Gathered start now old_tree tree leaf any index → length old_tree.leaves ≤ index
    → (d : Design) (old_of of : laws.Tree) (leaf_of : laws.Leaf) → AreCompared d start old_tree tree leaf old_of of leaf_of → with_parts (option_map (term_at now) any) [] ≡ any_of (parts old_of of leaf_of)
all_gathered start now old_tree tree leaf any index g e d old_of of leaf_of h =
    let many = as_many d start old_tree.leaves old_of.leaves h.old_.leaves in
    let none : drop index old_of.leaves ≡ [] = drop_of_length-le old_of.leaves (omega (arith, many, e)) in
    ap (λ ls. with_parts (option_map (term_at now) any) (parts_of old_of of leaf_of ls)) (sym none) ∙ g.made d old_of of leaf_of h

-- the last term, if there is one
pub some_left : (start now : List Node) (old_tree tree : Tree) (leaf : Leaf) (any : Option ℕ) (index id : ℕ) → Gathered start now old_tree tree leaf any index → length old_tree.leaves ≤ index → any ≡ Some id
    → (d : Design) (old_of of : laws.Tree) (leaf_of : laws.Leaf) → AreCompared d start old_tree tree leaf old_of of leaf_of → Makes now id (any_of (parts old_of of leaf_of))
some_left start now old_tree tree leaf any index id g e is d old_of of leaf_of h = record {
  there = (subst (λ (o : Option ℕ). IfSome o (IsTruth now)) is g.truth).0;
  term = ap (λ o. with_parts (option_map (term_at now) o) []) (sym is) ∙ all_gathered start now old_tree tree leaf any index g e d old_of of leaf_of h;
}

pub none_left : (start now : List Node) (old_tree tree : Tree) (leaf : Leaf) (any : Option ℕ) (index : ℕ) → Gathered start now old_tree tree leaf any index → length old_tree.leaves ≤ index → any ≡ None
    → (d : Design) (old_of of : laws.Tree) (leaf_of : laws.Leaf) → AreCompared d start old_tree tree leaf old_of of leaf_of → term.constant 1 0 ≡ any_of (parts old_of of leaf_of)
none_left start now old_tree tree leaf any index g e is d old_of of leaf_of h =
    ap (λ o. with_parts (option_map (term_at now) o) []) (sym is) ∙ all_gathered start now old_tree tree leaf any index g e d old_of of leaf_of h

pub truth_on : (a b : List Node) (any : Option ℕ) → KeepsTerms a b → IfSome any (IsTruth a) → IfSome any (IsTruth b)
truth_on a b None k h = tt
truth_on a b (Some id) k h = (longer a b k id h.0, ap width (k.terms id h.0) ∙ h.1)

-- an old leaf that sends to the same role
pub paired_now : (start now : List Node) (old_tree tree : Tree) (leaf : Leaf) → Compared start old_tree tree leaf → KeepsTerms start now → (index : ℕ) (old : Leaf) → index < length old_tree.leaves
    → old ≡ get_or old_tree.leaves index old → role_in old.end ≡ role_in leaf.end → Paired now old_tree old tree leaf
paired_now start now old_tree tree leaf p k index old l is same =
    let at = leaf_at p.design start old_tree.leaves p.old_of.leaves index old p.are.old_.leaves l is in
    record {
      design = p.design;
      old_tree_of = p.old_of;
      old_of = at.leaf_of;
      of = p.of;
      leaf_of = p.leaf_of;
      are = paired p.design start now old_tree tree leaf p.old_of p.of p.leaf_of p.are k index old at same;
    }
