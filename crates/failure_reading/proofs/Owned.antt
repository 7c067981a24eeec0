-- Where an obligation of a design comes from.
use Rattle.std.proofs.Common.{◌≡◌, inl, inr, ℕ, suc, ◌+◌, ◌||◌, Bool, true, false, List, [], ◌∷◌, Some, refl, sym, ap, ◌∙◌, arith}
use Rattle.std.specs.Prelude.{slice_get}
use Rattle.cocoon_num.specs.Names.{same_name}
use Rattle.cocoon_num.specs.Tree.{Name, Refine, Design}
use Rattle.cocoon_types.specs.RuleParts.{has_name}
use Rattle.obligation_laws.proofs.Typings.{in_place}
use Rattle.obligation_laws.specs.Obligations.{Obligation, all_obligations, obligation_of, of_blocks, of_leaves, of_role, of_roles, old_tree, refined_tree}
use Rattle.sound_types.proofs.Members.{In, at_place, in_either}
use Rattle.sound_types.proofs.Options.{text_self}
use Rattle.obligation_laws.specs.Leaves.{Leaf, Tree}

-- It is of a leaf of a role that the block behind a level refines.
pub record Owned (d : Design) (o : Obligation) : Type 0 where
  pub above : ℕ
  pub block : Refine
  pub at : slice_get d.refines above ≡ Some block
  pub role : List ℕ
  pub refined : has_name role block.roles ≡ true
  pub first : ℕ
  pub place : ℕ
  pub leaf : Leaf
  pub there : slice_get (refined_tree above d block role first).leaves place ≡ Some leaf
  pub number : ℕ
  pub is : o ≡ obligation_of (suc above) role (old_tree above d block role first) (refined_tree above d block role first) number leaf

from_leaf : (level : ℕ) (role : List ℕ) (old tree : Tree) (k : ℕ) (leaves : List Leaf) (o : Obligation) → In o (of_leaves level role old tree k leaves)
    → (leaf : Leaf) × In leaf leaves × (n : ℕ) × (o ≡ obligation_of level role old tree n leaf)
from_leaf level role old tree k [] o i = absurd i
from_leaf level role old tree k (l ∷ leaves) o i = elim i [
  | inl e ↦ (l, inl refl, k, e)
  | inr j ↦ let r = from_leaf level role old tree (suc k) leaves o j in (r.0, inr r.1, r.2, r.3)
]

or_first : (a b : Bool) → a ≡ true → (a || b) ≡ true
or_first true b h = refl
or_first false b h = absurd (cc)

or_second : (a b : Bool) → b ≡ true → (a || b) ≡ true
or_second true b h = refl
or_second false b h = h

from_role : (above : ℕ) (d : Design) (block : Refine) (rs : List Name) (n : ℕ) (o : Obligation) → In o (of_roles above d block rs n).0
    → (role : List ℕ) × (has_name role rs ≡ true) × (first : ℕ) × In o (of_role above d block role first).0
from_role above d block [] n o i = absurd i
from_role above d block (r ∷ rs) n o i =
    let one = of_role above d block r.text n in
    elim (in_either o one.0 (of_roles above d block rs one.1).0 i) [
      | inl j ↦ (r.text, or_first (same_name r.text r.text) (has_name r.text rs) (text_self r.text), n, j)
      | inr j ↦ let q = from_role above d block rs one.1 o j in (q.0, or_second (same_name q.0 r.text) (has_name q.0 rs) q.1, q.2, q.3)
    ]

-- of a block of a list, behind a level that is counted from the first one's
record FromBlock (d : Design) (bs : List Refine) (above : ℕ) (o : Obligation) : Type 0 where
  number : ℕ
  block : Refine
  there : slice_get bs number ≡ Some block
  level : ℕ
  counted : level ≡ number + above
  first : ℕ
  within : In o (of_roles level d block block.roles first).0

from_block : (d : Design) (bs : List Refine) (above n : ℕ) (o : Obligation) → In o (of_blocks above d bs n).0 → FromBlock d bs above o
from_block d [] above n o i = absurd i
from_block d (b ∷ bs) above n o i =
    let one = of_roles above d b b.roles n in
    elim (in_either o one.0 (of_blocks (suc above) d bs one.1).0 i) [
      | inl j ↦ record { number = 0; block = b; there = refl; level = above; counted = omega arith; first = n; within = j }
      | inr j ↦
          let r = from_block d bs (suc above) one.1 o j in
          let c = r.counted in
          record { number = suc r.number; block = r.block; there = r.there; level = r.level; counted = omega (arith, c); first = r.first; within = r.within }
    ]

pub owned : (d : Design) (n : ℕ) (o : Obligation) → slice_get (all_obligations d) n ≡ Some o → Owned d o
owned d n o is =
    let b = from_block d d.refines 0 0 o (at_place (all_obligations d) n o is) in
    let c = b.counted in
    let e : b.number ≡ b.level = omega (arith, c) in
    let r = from_role b.level d b.block b.block.roles b.first o b.within in
    let tree = refined_tree b.level d b.block r.0 r.2 in
    let l = from_leaf (suc b.level) r.0 (old_tree b.level d b.block r.0 r.2) tree 0 tree.leaves o r.3 in
    let p = in_place l.0 tree.leaves l.1 in
    record {
      above = b.level;
      block = b.block;
      at = ap (slice_get d.refines) (sym e) ∙ b.there;
      role = r.0;
      refined = r.1;
      first = r.2;
      place = p.0;
      leaf = l.0;
      there = p.1;
      number = l.2;
      is = l.3;
    }
