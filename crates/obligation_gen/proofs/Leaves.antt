-- Obligations of leaves, one after another.
use Rattle.std.proofs.Common.{◌≡◌, ℕ, zero, suc, ◌+◌, ◌<◌, ◌≤◌, List, [], ◌∷◌, ◌++◌, take, drop, map, length, get_or, Some, refl, sym, ap, subst, ◌∙◌, arith}
use Rattle.std.specs.Prelude.{slice_get}
use Rattle.std.specs.List.{AllZip}
use Rattle.std.proofs.Math.ListN.{drop_of_length-le}
use Rattle.std.proofs.lemmas.List.{append_assoc, append-nil}
use Rattle.cocoon_num.specs.Tree.{Design}
use Rattle.bv_terms.specs.declared.node.Node.{Node}
use Rattle.bv_terms.specs.Arenas.{KeepsTerms, inputs_in}
use Rattle.declarations.specs.Declares.{role_number}
use Rattle.expr_terms.specs.Variables.{Keeps}
use Rattle.expr_terms.proofs.Making.{keeps_on}
use Rattle.obligation_gen.specs.ShownTrees.{ShowsEnd, ShowsLeaf, ShowsLeaves}
use Rattle.obligation_gen.specs.declared.tree.End.TheVariants.{Sent, Inside}
use Rattle.obligation_gen.specs.declared.tree.Leaf.{Leaf}
use Rattle.obligation_gen.specs.declared.tree.Tree.{Tree}
use Rattle.obligation_gen.proofs.Growing.{inputs_on, leaves_on, zip_append}
use Rattle.obligation_gen.specs.Compared.{AreCompared}
use Rattle.obligation_laws.specs.Obligations as owed
use Rattle.obligation_laws.specs.Leaves as laws
use Rattle.obligation_laws.specs.Leaves.{sent_to, inside}
use Rattle.symbolic_runs.proofs.Growing.{makes_on}
use Rattle.obligation_gen.specs.Refined.{AreComparable}
use Rattle.obligation_gen.specs.Shown.{ShowsObligation, ShowsObligations}
use Rattle.obligation_gen.specs.declared.obligation.Obligation.{Obligation}

-- ---- what is shown stays

pub tree_on : (d : Design) (a b : List Node) (old tree : Tree) (old_of of : laws.Tree) → KeepsTerms a b → AreComparable d a old tree old_of of → AreComparable d b old tree old_of of
tree_on d a b old tree old_of of k h = record {
  old_ = record {
    args = inputs_on a b old.args old_of.args k h.old_.args;
    fields = inputs_on a b old.fields old_of.fields k h.old_.fields;
    leaves = leaves_on d a b old.leaves old_of.leaves k h.old_.leaves;
  };
  tree_ = record {
    args = inputs_on a b tree.args of.args k h.tree_.args;
    fields = inputs_on a b tree.fields of.fields k h.tree_.fields;
    leaves = leaves_on d a b tree.leaves of.leaves k h.tree_.leaves;
  };
  conds = h.conds;
  fits = h.fits;
}

obligation_on : (d : Design) (a b : List Node) (o : Obligation) (of : owed.Obligation) → KeepsTerms a b → ShowsObligation d a o of → ShowsObligation d b o of
obligation_on d a b o of k s = record {
  level_ = s.level_;
  role_ = s.role_;
  leaf_ = s.leaf_;
  kind_ = s.kind_;
  formula_ = makes_on a b o.formula of.formula k s.formula_;
  args = inputs_on a b o.tree.args of.args k s.args;
  fields = inputs_on a b o.tree.fields of.fields k s.fields;
  own = leaves_on d a b o.tree.leaves (of.leaf ∷ []) k s.own;
}

pub obligations_on : (d : Design) (a b : List Node) (os : List Obligation) (of : List owed.Obligation) → KeepsTerms a b → ShowsObligations d a os of → ShowsObligations d b os of
obligations_on d a b [] [] k s = tt
obligations_on d a b [] (p ∷ of) k s = absurd s
obligations_on d a b (o ∷ os) [] k s = absurd s
obligations_on d a b (o ∷ os) (p ∷ of) k s = (obligation_on d a b o p k s.0, obligations_on d a b os of k s.1)

-- some, and then others
pub shown_both : (d : Design) (a b : List Node) (os ps : List Obligation) (of more : List owed.Obligation) → KeepsTerms a b → ShowsObligations d a os of → ShowsObligations d b ps more → ShowsObligations d b (os ++ ps) (of ++ more)
shown_both d a b os ps of more k s t = zip_append (ShowsObligation d b) os of ps more (obligations_on d a b os of k s) t

-- ---- what is owed

pub sent_kind : (d : Design) (nodes : List Node) (role : ℕ) (values fields : List ℕ) (of : laws.End) → ShowsEnd d nodes (Sent role values fields) of → owed.contained ≡ owed.kind_of of
sent_kind d nodes role values fields (sent_to r vs fs) h = refl
sent_kind d nodes role values fields (inside r vs fs) h = absurd h

pub inside_kind : (d : Design) (nodes : List Node) (role : ℕ) (values fields : List ℕ) (of : laws.End) → ShowsEnd d nodes (Inside role values fields) of → owed.bounded ≡ owed.kind_of of
inside_kind d nodes role values fields (inside r vs fs) h = refl
inside_kind d nodes role values fields (sent_to r vs fs) h = absurd h

-- ---- the leaf of a number

pub leaf_shown : (d : Design) (nodes : List Node) (leaves : List Leaf) (of : List laws.Leaf) (n : ℕ) (leaf : Leaf) (l : laws.Leaf) → ShowsLeaves d nodes leaves of → n < length leaves → leaf ≡ get_or leaves n leaf → slice_get of n ≡ Some l
    → ShowsLeaf d nodes leaf l
leaf_shown d nodes [] of n leaf l h m e at = absurd (omega (arith, m))
leaf_shown d nodes (x ∷ leaves) [] n leaf l h m e at = absurd h
leaf_shown d nodes (x ∷ leaves) (y ∷ of) zero leaf l h m e at = let same : y ≡ l = cc in subst (ShowsLeaf d nodes leaf) same (subst (λ z. ShowsLeaf d nodes z y) (sym e) h.0)
leaf_shown d nodes (x ∷ leaves) (y ∷ of) (suc n) leaf l h m e at = leaf_shown d nodes leaves of n leaf l h.1 (omega (arith, m)) e at

pub some_leaf : (d : Design) (nodes : List Node) (leaves : List Leaf) (of : List laws.Leaf) (n : ℕ) → ShowsLeaves d nodes leaves of → n < length leaves → (l : laws.Leaf) × (slice_get of n ≡ Some l)
some_leaf d nodes [] of n h m = absurd (omega (arith, m))
some_leaf d nodes (x ∷ leaves) [] n h m = absurd h
some_leaf d nodes (x ∷ leaves) (y ∷ of) zero h m = (y, refl)
some_leaf d nodes (x ∷ leaves) (y ∷ of) (suc n) h m = some_leaf d nodes leaves of n h.1 (omega (arith, m))

pub as_many : (d : Design) (nodes : List Node) (leaves : List Leaf) (of : List laws.Leaf) → ShowsLeaves d nodes leaves of → length of ≡ length leaves
as_many d nodes [] [] h = refl
as_many d nodes [] (y ∷ of) h = absurd h
as_many d nodes (x ∷ leaves) [] h = absurd h
as_many d nodes (x ∷ leaves) (y ∷ of) h = ap suc (as_many d nodes leaves of h.1)

-- the leaf is compared
pub compared : (d : Design) (nodes : List Node) (old tree : Tree) (old_of of : laws.Tree) (n : ℕ) (leaf : Leaf) (l : laws.Leaf) → AreComparable d nodes old tree old_of of → n < length tree.leaves → leaf ≡ get_or tree.leaves n leaf
    → slice_get of.leaves n ≡ Some l → AreCompared d nodes old tree leaf old_of of l
compared d nodes old tree old_of of n leaf l h m e at = record {
  old_ = h.old_;
  args = h.tree_.args;
  fields = h.tree_.fields;
  leaf_ = leaf_shown d nodes tree.leaves of.leaves n leaf l h.tree_.leaves m e at;
  cond = h.conds n l at;
  fits = λ k o there same. h.fits n k l o at there same;
}

-- ---- one after another

-- the obligations of the first leaves
pub record Listed (start now : List Node) (level role : ℕ) (old tree : Tree) (all : List Obligation) (n : ℕ) : Type 0 where
  pub kept : Keeps start now
  pub made : (d : Design) (name : List ℕ) (old_of of : laws.Tree) → AreComparable d start old tree old_of of → role_number d name ≡ Some role
      → (done : List owed.Obligation) × ShowsObligations d now all done
      × (done ++ owed.of_leaves level name old_of of n (drop n of.leaves) ≡ owed.of_leaves level name old_of of 0 of.leaves)

pub none_listed : (start : List Node) (level role : ℕ) (old tree : Tree) → Keeps start start → Listed start start level role old tree [] 0
none_listed start level role old tree k = record { kept = k; made = λ d name old_of of h r. ([], tt, refl) }

dropped : (of : List laws.Leaf) (n : ℕ) (l : laws.Leaf) → slice_get of n ≡ Some l → drop n of ≡ l ∷ drop (suc n) of
dropped [] n l e = absurd (cc)
dropped (x ∷ of) zero l e = let same : x ≡ l = cc in ap (λ y. y ∷ of) same
dropped (x ∷ of) (suc n) l e = dropped of n l e

pub one_listed : (start now new : List Node) (level role : ℕ) (old tree : Tree) (all : List Obligation) (n : ℕ) (o : Obligation) → Listed start now level role old tree all n → n < length tree.leaves → Keeps now new
    → ((d : Design) (name : List ℕ) (old_of of : laws.Tree) (l : laws.Leaf) → AreComparable d now old tree old_of of → role_number d name ≡ Some role → slice_get of.leaves n ≡ Some l
    → ShowsObligation d new o (owed.obligation_of level name old_of of n l))
    → Listed start new level role old tree (all ++ o ∷ []) (n + 1)
one_listed start now new level role old tree all n o g m step made = record {
  kept = keeps_on start now new g.kept step;
  made = λ d name old_of of h r.
      let p = g.made d name old_of of h r in
      let l = some_leaf d start tree.leaves of.leaves n h.tree_.leaves m in
      let one = owed.obligation_of level name old_of of n l.0 in
      let shown = made d name old_of of l.0 (tree_on d start now old tree old_of of g.kept.kept h) r l.1 in
      let next : suc n ≡ n + 1 = omega arith in (
        p.0 ++ one ∷ [],
        shown_both d now new all (o ∷ []) p.0 (one ∷ []) step.kept p.1 (shown, tt),
        append_assoc p.0 (one ∷ []) (owed.of_leaves level name old_of of (n + 1) (drop (n + 1) of.leaves))
            ∙ (λ j. p.0 ++ one ∷ owed.of_leaves level name old_of of (sym next j) (drop (sym next j) of.leaves))
            ∙ ap (λ ls. p.0 ++ owed.of_leaves level name old_of of n ls) (sym (dropped of.leaves n l.0 l.1)) ∙ p.2,
      );
}

pub all_listed : (start now : List Node) (level role : ℕ) (old tree : Tree) (all : List Obligation) (n : ℕ) → Listed start now level role old tree all n → length tree.leaves ≤ n
    → (d : Design) (name : List ℕ) (old_of of : laws.Tree) → AreComparable d start old tree old_of of → role_number d name ≡ Some role
    → ShowsObligations d now all (owed.of_leaves level name old_of of 0 of.leaves)
all_listed start now level role old tree all n g e d name old_of of h r =
    let p = g.made d name old_of of h r in
    let many = as_many d start tree.leaves of.leaves h.tree_.leaves in
    let none : drop n of.leaves ≡ [] = drop_of_length-le of.leaves (omega (arith, many, e)) in
    subst (ShowsObligations d now all) (sym (append-nil p.0) ∙ ap (λ ls. p.0 ++ owed.of_leaves level name old_of of n ls) (sym none) ∙ p.2) p.1
