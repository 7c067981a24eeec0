-- Where an obligation comes from.
use Rattle.std.proofs.Common.{◌≡◌, inl, inr, ℕ, suc, ◌+◌, List, [], ◌∷◌, Option, Some, None, refl, sym, ap, subst, ◌∙◌, arith}
use Rattle.std.specs.Prelude.{slice_get}
use Rattle.cocoon_num.specs.Tree.{Name, Refine, Design}
use Rattle.refinement.specs.Ways.{Way}
use Rattle.sound_types.proofs.Members.{In, at_place, in_either}
use Rattle.obligation_laws.specs.Leaves.{Leaf, Tree}
use Rattle.obligation_laws.specs.Failing.{NeverFails, NeverTrue, NoRunFails}
use Rattle.obligation_laws.specs.Obligations.{Kind, Obligation, Owed, all_obligations, kind_of, obligation_of, obligations_behind, of_block, of_blocks, of_leaves, of_role, of_roles, old_tree, refined_tree}
use Rattle.obligation_laws.proofs.RunsFound.{Known}
use Rattle.obligation_laws.proofs.Untrue.{never_fails}

from_leaf : (level : ℕ) (role : List ℕ) (old tree : Tree) (k : ℕ) (leaves : List Leaf) (o : Obligation) → In o (of_leaves level role old tree k leaves)
    → (leaf : Leaf) × In leaf leaves × (n : ℕ) × (o ≡ obligation_of level role old tree n leaf)
from_leaf level role old tree k [] o i = absurd i
from_leaf level role old tree k (l ∷ leaves) o i = elim i [
  | inl e ↦ (l, inl refl, k, e)
  | inr j ↦ let r = from_leaf level role old tree (suc k) leaves o j in (r.0, inr r.1, r.2, r.3)
]

from_role : (above : ℕ) (d : Design) (block : Refine) (rs : List Name) (n : ℕ) (o : Obligation) → In o (of_roles above d block rs n).0 → (role : List ℕ) × (first : ℕ) × In o (of_role above d block role first).0
from_role above d block [] n o i = absurd i
from_role above d block (r ∷ rs) n o i =
    let one = of_role above d block r.text n in
    elim (in_either o one.0 (of_roles above d block rs one.1).0 i) [
      | inl j ↦ (r.text, n, j)
      | inr j ↦ from_role above d block rs one.1 o j
    ]

-- of a block of the list, behind a level that is counted from the first one's
pub record FromBlock (d : Design) (bs : List Refine) (above : ℕ) (o : Obligation) : Type 0 where
  pub number : ℕ
  pub block : Refine
  pub there : slice_get bs number ≡ Some block
  pub level : ℕ
  pub counted : level ≡ number + above
  pub first : ℕ
  pub within : In o (of_block level d block first).0

from_block : (d : Design) (bs : List Refine) (above n : ℕ) (o : Obligation) → In o (of_blocks above d bs n).0 → FromBlock d bs above o
from_block d [] above n o i = absurd i
from_block d (b ∷ bs) above n o i =
    let one = of_block above d b n in
    elim (in_either o one.0 (of_blocks (suc above) d bs one.1).0 i) [
      | inl j ↦ record { number = 0; block = b; there = refl; level = above; counted = omega arith; first = n; within = j }
      | inr j ↦
          let r = from_block d bs (suc above) one.1 o j in
          let c = r.counted in
          record { number = suc r.number; block = r.block; there = r.there; level = r.level; counted = omega (arith, c); first = r.first; within = r.within }
    ]

same_block : (d : Design) (above other : ℕ) (block b : Refine) (role : List ℕ) (way : Way) (k : Kind) → slice_get d.refines above ≡ Some block → above ≡ other → slice_get d.refines other ≡ Some b
    → NoRunFails above d block role way k → NoRunFails other d b role way k
same_block d above other block b role way k at e is h =
    let same : Some block ≡ Some b = sym at ∙ ap (slice_get d.refines) e ∙ is in
    let blocks : block ≡ b = cc in
    subst (λ x. NoRunFails x d b role way k) e (subst (λ (x : Refine). NoRunFails above d x role way k) blocks h)

block_never_fails : (d : Design) → Known d → (above : ℕ) (block : Refine) → slice_get d.refines above ≡ Some block → (first : ℕ) (o : Obligation) → In o (of_block above d block first).0
    → NeverTrue o.level d o.formula → NeverFails d o
block_never_fails d known above block at first o i =
    let r = from_role above d block block.roles first o i in
    let tree = refined_tree above d block r.0 r.1 in
    let old = old_tree above d block r.0 r.1 in
    let l = from_leaf (suc above) r.0 old tree 0 tree.leaves o r.2 in
    subst (λ (x : Obligation). NeverTrue x.level d x.formula → NeverFails d x) (sym l.3)
    (λ never other b level is.
    same_block d above other block b r.0 l.0.way (kind_of l.0.end) at (let e : suc above ≡ suc other = level in omega (arith, e)) is
    (never_fails d known above block at r.0 r.1 tree.next l.0 l.1 never))

pub behind_never_fails : (d : Design) → Known d → (above first n : ℕ) (o : Obligation) → slice_get (obligations_behind above d first).0 n ≡ Some o → NeverTrue o.level d o.formula → NeverFails d o
behind_never_fails d known above first n o is = by (slice_get d.refines above) refl (at_place (obligations_behind above d first).0 n o is)
  where
    by : (x : Option Refine) → slice_get d.refines above ≡ x → In o (elim x as (λ y. Owed) [ None ↦ ([], first) | Some b ↦ of_block above d b first ]).0 → NeverTrue o.level d o.formula → NeverFails d o
    by None at i = absurd i
    by (Some b) at i = block_never_fails d known above b at first o i

pub all_never_fail : (d : Design) → Known d → (n : ℕ) (o : Obligation) → slice_get (all_obligations d) n ≡ Some o → NeverTrue o.level d o.formula → NeverFails d o
all_never_fail d known n o is =
    let r = from_block d d.refines 0 0 o (at_place (all_obligations d) n o is) in
    let c = r.counted in
    let e : r.number ≡ r.level = omega (arith, c) in
    block_never_fails d known r.level r.block (ap (slice_get d.refines) (sym e) ∙ r.there) r.first o r.within
