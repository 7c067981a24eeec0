-- A block all of whose leaves never fail is contained and bounded.
use Rattle.std.proofs.Common.{◌≡◌, inl, inr, ℕ, zero, suc, ◌+◌, ◌&&◌, ◌||◌, List, [], ◌∷◌, ◌++◌, Bool, true, false, Some, refl, sym, ap, subst, ◌∙◌, arith}
use Rattle.std.specs.Prelude.{All, not, slice_get}
use Rattle.std.proofs.lemmas.List.Elements.{All-head, All-tail}
use Rattle.cocoon_num.specs.Names.{same_name}
use Rattle.cocoon_num.specs.Packets.{Packet}
use Rattle.cocoon_num.specs.Tree.{Name, Refine, Design}
use Rattle.cocoon_resolve.specs.Readers.{all_widths}
use Rattle.cocoon_types.specs.RuleParts.{has_name}
use Rattle.cocoon_types.specs.Runs.{Go, Loc, world}
use Rattle.cocoon_types.specs.Tables.{Defs, defs_of}
use Rattle.refinement.specs.Owed.{Contained, Given, Refines, Within}
use Rattle.refinement.specs.Segments.{IsNew, IsOld, IsRefined, Segment, is_new, is_old}
use Rattle.refinement.specs.Ways.{Arrival, Way, hops_by}
use Rattle.refinement.proofs.Hops.{segment_takes}
use Rattle.refinement.proofs.Lists.{all_front}
use Rattle.sound_types.specs.Defined.{HasDefinitions}
use Rattle.sound_types.proofs.Members.{In}
use Rattle.sound_types.proofs.Options.{same_text}
use Rattle.obligation_laws.proofs.Typings.{in_place}
use Rattle.obligation_laws.specs.LeafForms.{EndsBy}
use Rattle.obligation_laws.specs.Leaves.{End, sent_to, inside, Leaf, Tree, end_role}
use Rattle.obligation_laws.specs.States.{term_world}
use Rattle.obligation_laws.proofs.Ascending.{tree_ends}
use Rattle.obligation_laws.specs.Failing.{IsKept, NeverFails}
use Rattle.obligation_laws.specs.Obligations.{Obligation, all_obligations, kind_of, obligation_of, of_block, of_blocks, of_leaves, of_role, of_roles, old_tree, refined_tree}
use Rattle.obligation_laws.proofs.RunsFound.{Known, run_found}

-- ---- members of lists

all_back : {A : Type 0} (P : A → Type 0) (xs ys : List A) → All P (xs ++ ys) → All P ys
all_back P [] ys h = h
all_back P (x ∷ xs) ys h = all_back P xs ys (All-tail P x (xs ++ ys) h)

all_in : {A : Type 0} (P : A → Type 0) (xs : List A) → All P xs → (x : A) → In x xs → P x
all_in P [] h x i = absurd i
all_in P (y ∷ xs) h x i = elim i [
  | inl e ↦ subst P (sym e) (All-head P y xs h)
  | inr k ↦ all_in P xs (All-tail P y xs h) x k
]

pub listed : (x : List ℕ) (ns : List Name) → has_name x ns ≡ true → (n : Name) × In n ns × (x ≡ n.text)
listed x [] h = absurd (cc)
listed x (n ∷ ns) h = by (listed x ns) (same_name x n.text) refl h
  where
    by : (has_name x ns ≡ true → (m : Name) × In m ns × (x ≡ m.text)) → (b : Bool) → same_name x n.text ≡ b → (b || has_name x ns) ≡ true → (m : Name) × In m (n ∷ ns) × (x ≡ m.text)
    by later true e g = (n, inl refl, same_text x n.text e)
    by later false e g = let r = later g in (r.0, inr r.1, r.2)

-- ---- obligations of a list

leaf_owed : (P : Obligation → Type 0) (level : ℕ) (role : List ℕ) (old tree : Tree) (k : ℕ) (leaves : List Leaf) → All P (of_leaves level role old tree k leaves)
    → (leaf : Leaf) → In leaf leaves → (n : ℕ) × P (obligation_of level role old tree n leaf)
leaf_owed P level role old tree k [] h leaf i = absurd i
leaf_owed P level role old tree k (l ∷ leaves) h leaf i =
    let here = obligation_of level role old tree k l in
    let rest = of_leaves level role old tree (suc k) leaves in
    elim i [
      | inl e ↦ (k, subst (λ x. P (obligation_of level role old tree k x)) (sym e) (All-head P here rest h))
      | inr j ↦ leaf_owed P level role old tree (suc k) leaves (All-tail P here rest h) leaf j
    ]

role_owed : (P : Obligation → Type 0) (above : ℕ) (d : Design) (block : Refine) (rs : List Name) (n : ℕ) → All P (of_roles above d block rs n).0
    → (r : Name) → In r rs → (first : ℕ) × All P (of_role above d block r.text first).0
role_owed P above d block [] n h r i = absurd i
role_owed P above d block (q ∷ rs) n h r i =
    let one = of_role above d block q.text n in
    elim i [
      | inl e ↦ (n, subst (λ (x : Name). All P (of_role above d block x.text n).0) (sym e) (all_front P one.0 (of_roles above d block rs one.1).0 h))
      | inr k ↦ role_owed P above d block rs one.1 (all_back P one.0 (of_roles above d block rs one.1).0 h) r k
    ]

block_owed : (P : Obligation → Type 0) (d : Design) (bs : List Refine) (above n : ℕ) → All P (of_blocks above d bs n).0
    → (k : ℕ) (b : Refine) → slice_get bs k ≡ Some b → (level : ℕ) → level ≡ k + above → (at : ℕ) × All P (of_block level d b at).0
block_owed P d [] above n h k b e level same = absurd (cc)
block_owed P d (c ∷ bs) above n h zero b e level same =
    let one = of_block above d c n in
    let is : c ≡ b = cc in
    let here : above ≡ level = omega (arith, same) in
    (n, subst (λ x. All P (of_block x d b n).0) here (subst (λ (x : Refine). All P (of_block above d x n).0) is (all_front P one.0 (of_blocks (suc above) d bs one.1).0 h)))
block_owed P d (c ∷ bs) above n h (suc k) b e level same =
    let one = of_block above d c n in
    block_owed P d bs (suc above) one.1 (all_back P one.0 (of_blocks (suc above) d bs one.1).0 h) k b e level (omega (arith, same))

-- ---- an old role and a new one

new_old : (a b : Bool) → (a && not b) ≡ true → b ≡ true → ⊥
new_old true true h k = absurd (cc)
new_old true false h k = absurd (cc)
new_old false b h k = absurd (cc)

not_both : (above : ℕ) (d : Design) (at : Loc) → IsNew above d at → IsOld above d at → ⊥
not_both above d at n o = new_old _ (is_old above d at.role) n o

differ : (b : Bool) → b ≡ true → b ≡ false → ⊥
differ true h k = absurd (cc)
differ false h k = absurd (cc)

module _ (d : Design) (known : Known d) (above : ℕ) (block : Refine) (at : slice_get d.refines above ≡ Some block) (first : ℕ) (never : All (NeverFails d) (of_block above d block first).0) where
  -- a run of a role that is listed has not failed, and it ended inside if and only if it led to a new role
  abbrev KeptBy : Defs → (from : Loc) (packet : Packet) (led : Arrival) → Type 0
  KeptBy defs from packet led = (e : End) × EndsBy (is_new above d) e × (end_role e ≡ led.to.role) × IsKept above d defs (kind_of e) from packet led

  kept_run : (defs : Defs) (from : Loc) (packet : Packet) (cs : List ℕ) (led : Arrival) → Given (suc above) d defs packet → IsRefined block from
      → hops_by above d defs block.within from packet cs ≡ Some led → KeptBy defs from packet led
  kept_run defs from packet cs led g is_listed ran =
      let es = g.defined.entries in
      let h : HasDefinitions d es = record { rules = known.rules; literals = known.literals; fits = g.defined.fit; values_fit = g.defined.values_fit } in
      let name = listed from.role block.roles is_listed in
      let owed = role_owed (NeverFails d) above d block block.roles first never name.0 name.1 in
      let role = name.0.text in
      let ran' : hops_by above d (defs_of d es) block.within (record { role = role; values = from.values }) packet cs ≡ Some led =
      (λ k. hops_by above d (sym g.defined.are k) block.within (record { role = sym name.2 k; values = from.values }) packet cs) ∙ ran in
      let found = run_found d known above block at role owed.0 es h from.values packet cs led g.fits ran' in
      let tree = refined_tree above d block role owed.0 in
      let one = leaf_owed (NeverFails d) (suc above) role (old_tree above d block role owed.0) tree 0 tree.leaves owed.1 found.leaf found.within in
      let p = in_place found.leaf tree.leaves found.within in (
        found.leaf.end,
        tree_ends (term_world (suc above) d) (all_widths d.headers) (is_new above d) block.within role owed.0 p.0 found.leaf p.1,
        ap (λ (x : Arrival). x.to.role) found.ends,
        one.1 above block refl at defs from packet cs led g name.2 ran (ap (λ (x : Arrival). x.way) (sym found.ends)),
      )

  pub is_contained : Contained above d block
  is_contained defs from packet cs n to sent g l s old =
      let t = segment_takes known.taken above d defs block from packet cs n to sent s block.within l (λ new. absurd (not_both above d to new old)) [] in
      let led : Arrival = record { to = to; sent = sent; rest = []; way = t.0 } in
      let k = kept_run defs from packet (cs ++ []) led g (refined n s) t.1 in
      by k.0 t.0 k.3
    where
      refined : (n : ℕ) → Segment above d block defs from packet cs n to sent → IsRefined block from
      refined zero s = absurd s
      refined (suc n) s = s.0

      by : (e : End) (way : Way) → IsKept above d defs (kind_of e) from packet (record { to = to; sent = sent; rest = []; way = way }) → (choices : List ℕ) × Go (world above d defs) from packet choices to sent
      by (sent_to x values fields) way k = k
      by (inside x values fields) way k = absurd k

  pub is_bounded : Within above d block
  is_bounded defs from packet cs to sent g s new =
      let t = segment_takes known.taken above d defs block from packet cs block.within to sent s block.within (omega arith) (λ e. refl) [] in
      let led : Arrival = record { to = to; sent = sent; rest = []; way = t.0 } in
      let k = kept_run defs from packet (cs ++ []) led g (refined block.within s) t.1 in
      by k.0 led k.1 k.2 k.3
    where
      refined : (n : ℕ) → Segment above d block defs from packet cs n to sent → IsRefined block from
      refined zero s = absurd s
      refined (suc n) s = s.0

      by : (e : End) (led : Arrival) → EndsBy (is_new above d) e → end_role e ≡ to.role → IsKept above d defs (kind_of e) from packet led → ⊥
      by (sent_to x values fields) led ends e k = differ (is_new above d x) (ap (is_new above d) e ∙ new) ends
      by (inside x values fields) led ends e k = k

-- in a design all of whose leaves never fail every block is
pub design_refines : (d : Design) → Known d → All (NeverFails d) (all_obligations d) → Refines d
design_refines d known never = record {
  contained = λ above block at. let o = owed above block at in is_contained d known above block at o.0 o.1;
  bounded = λ above block at. let o = owed above block at in is_bounded d known above block at o.0 o.1;
}
  where
    owed : (above : ℕ) (block : Refine) → slice_get d.refines above ≡ Some block → (first : ℕ) × All (NeverFails d) (of_block above d block first).0
    owed above block at = block_owed (NeverFails d) d d.refines 0 0 never above block at above (omega arith)
