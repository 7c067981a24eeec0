-- Numbers of the inputs of leaves, and the kinds of their ends.
use Rattle.std.proofs.Common.{◌≡◌, inl, inr, ℕ, zero, suc, ◌+◌, ◌≤◌, List, [], ◌∷◌, ◌++◌, length, map, Bool, true, false, Option, Some, None, if◌then◌else◌, refl, sym, ap, subst, ◌∙◌, arith}
use Rattle.std.specs.Prelude.{flat_map, slice_get}
use Rattle.std.proofs.lemmas.List.{append-nil, append_assoc}
use Rattle.cocoon_num.specs.Tree.{Role, Stmt, let_, set_field, if_, filter, havoc_var, havoc_field, assume, fork, send, Block, no_stmts, stmt}
use Rattle.cocoon_types.specs.Design.{widths_of}
use Rattle.sound_types.proofs.Members.{In, at_place, flat_in, in_either, map_in}
use Rattle.obligation_laws.specs.States as states
use Rattle.obligation_laws.specs.States.{NewInput, Place, State, TermWorld, choice_width, input_term, inputs_from, where_true}
use Rattle.obligation_laws.specs.Following.{Followed, chosen_as, each, follow, follow_all, has_sent, in_branch, next_input, one, term_at, those_sent, unless_sent}
use Rattle.obligation_laws.specs.LeafForms.{Ascend, EndsBy}
use Rattle.obligation_laws.specs.Leaves.{Leaf, Tree, at_new, begins, end_at, entered, entry_of, follow_body, hops, leaf_of, onward, params_of, tree_of}
use Rattle.obligation_laws.proofs.Followings.{passed}
use Rattle.obligation_laws.proofs.Growing.{Grows, block_grows, each_grows, followed_grows, hop_grows}
use Rattle.obligation_laws.proofs.Numbering.{numbered_from, numbered_join, numbered_wider}

-- a state has the choices of another, and then some with numbers in this range
pub record Adds (s t : State) (first last : ℕ) : Type 0 where
  pub chosen : List NewInput
  pub chosen_is : t.choices ≡ s.choices ++ chosen
  pub numbers : Ascend first last chosen

nothing : (s t : State) (first last : ℕ) → t.choices ≡ s.choices → first ≤ last → Adds s t first last
nothing s t first last same l = record { chosen = []; chosen_is = same ∙ sym (append-nil s.choices); numbers = l }

one_more : (s t : State) (i : NewInput) (last : ℕ) → t.choices ≡ s.choices ++ i ∷ [] → suc i.number ≤ last → Adds s t i.number last
one_more s t i last same l = record { chosen = i ∷ []; chosen_is = same; numbers = (omega arith, l) }

wider : (s t : State) (first last low high : ℕ) → low ≤ first → last ≤ high → Adds s t first last → Adds s t low high
wider s t first last low high l k a = record { chosen = a.chosen; chosen_is = a.chosen_is; numbers = numbered_wider first last low high a.chosen l k a.numbers }

join : (s m t : State) (first mid last : ℕ) → Adds s m first mid → Adds m t mid last → Adds s t first last
join s m t first mid last a b = record {
  chosen = a.chosen ++ b.chosen;
  chosen_is = b.chosen_is ∙ ap (λ x. x ++ b.chosen) a.chosen_is ∙ append_assoc s.choices a.chosen b.chosen;
  numbers = numbered_join first mid last a.chosen b.chosen a.numbers b.numbers;
}

-- a state that is one of a list with one state
of_one : (u s : State) (first last : ℕ) (t : State) → In s (u ∷ []) → Adds s t first last → Adds u t first last
of_one u s first last t i a = elim i [ inl same ↦ subst (λ z. Adds z t first last) same a | inr l ↦ absurd l ]

straight : (s z t : State) (n : ℕ) → z.choices ≡ s.choices → In t (z ∷ []) → Adds s t n n
straight s z t n same i = elim i [ inl e ↦ subst (λ y. Adds s y n n) (sym e) (nothing s z n n same (omega arith)) | inr l ↦ absurd l ]

chooses : (s z t : State) (c : NewInput) → z.choices ≡ s.choices ++ c ∷ [] → In t (z ∷ []) → Adds s t c.number (suc c.number)
chooses s z t c same i = elim i [ inl e ↦ subst (λ y. Adds s y c.number (suc c.number)) (sym e) (one_more s z c (suc c.number) same (omega arith)) | inr l ↦ absurd l ]

abbrev AllAdd : (State → ℕ → Followed) → Type 0
AllAdd f = (s : State) (n : ℕ) (t : State) → In t (f s n).0 → Adds s t n (f s n).1

abbrev FromOne : List State → State → (first last : ℕ) → Type 0
FromOne ss t first last = (s : State) × In s ss × Adds s t first last

each_adds : (f : State → ℕ → Followed) → Grows f → AllAdd f → (ss : List State) (n : ℕ) (t : State) → In t (each f ss n).0 → FromOne ss t n (each f ss n).1
each_adds f g h [] n t i = absurd i
each_adds f g h (s ∷ ss) n t i = elim (in_either t (f s n).0 (each f ss (f s n).1).0 i) [
  | inl k ↦ (s, inl refl, wider s t n (f s n).1 n (each f ss (f s n).1).1 (omega arith) (each_grows f g ss (f s n).1) (h s n t k))
  | inr k ↦
      let r = each_adds f g h ss (f s n).1 t k in
      (r.0, inr r.1, wider r.0 t (f s n).1 (each f ss (f s n).1).1 n (each f ss (f s n).1).1 (g s n) (omega arith) r.2)
]

unless_adds : (f : State → ℕ → Followed) → AllAdd f → AllAdd (unless_sent f)
unless_adds f h s n t i = by s.sent i
  where
    by : (o : Option Place) → In t (elim o as (λ x. Followed) [ None ↦ f s n | Some at ↦ one s n ]).0 → Adds s t n (elim o as (λ x. Followed) [ None ↦ f s n | Some at ↦ one s n ]).1
    by None j = h s n t j
    by (Some at) j = straight s s t n refl j

-- behind a branch
back_adds : (s u t : State) (first last : ℕ) → u.choices ≡ s.choices → Adds u t first last → Adds s (states.back_to s.vars t) first last
back_adds s u t first last same a = record { chosen = a.chosen; chosen_is = a.chosen_is ∙ ap (λ x. x ++ a.chosen) same; numbers = a.numbers }

mutual
  stmt_adds : (w : TermWorld) (x : Stmt) → AllAdd (follow w x)
  stmt_adds w (let_ at x width e) s n t i = straight s (states.with_variable x.text (term_at w s e) s) t n refl i
  stmt_adds w (set_field at h f e) s n t i = straight s (states.with_field w.context.headers h.text f.text (term_at w s e) s) t n refl i
  stmt_adds w (if_ at e first second) s n t i =
      let yes = in_branch true (term_at w s e) s in
      let other = in_branch false (term_at w s e) s in
      let A = follow_all w first (one yes n) in
      let B = follow_all w second (one other A.1) in
      let l = block_grows w first (yes ∷ []) n in
      let k = block_grows w second (other ∷ []) A.1 in
      let m = map_in (states.back_to s.vars) t (A.0 ++ B.0) i in
      subst (λ z. Adds s z n B.1) (sym m.2) (elim (in_either m.0 A.0 B.0 m.1) [
        | inl j ↦ let r = block_adds w first (yes ∷ []) n m.0 j in back_adds s yes m.0 n B.1 refl (wider yes m.0 n A.1 n B.1 (omega arith) k (of_one yes r.0 n A.1 m.0 r.1 r.2))
        | inr j ↦ let r = block_adds w second (other ∷ []) A.1 m.0 j in back_adds s other m.0 n B.1 refl (wider other m.0 A.1 B.1 n B.1 l (omega arith) (of_one other r.0 A.1 B.1 m.0 r.1 r.2))
      ])
  stmt_adds w (filter at e) s n t i = straight s (where_true (term_at w s e) s) t n refl i
  stmt_adds w (havoc_var at x width) s n t i = chooses s (chosen_as x.text (next_input n width) s) t (next_input n width) refl i
  stmt_adds w (havoc_field at h f) s n t i =
      let c = next_input n (choice_width w.context.headers h.text f.text) in
      chooses s (states.with_choice c (states.with_field w.context.headers h.text f.text (input_term c) s)) t c refl i
  stmt_adds w (assume at e) s n t i = straight s (where_true (term_at w s e) s) t n refl i
  stmt_adds w (fork at x width e body) s n t i =
      let c = next_input n width in
      let z = chosen_as x.text c s in
      let y = where_true (term_at w z e) z in
      let all = follow_all w body (one y (suc n)) in
      let r = block_adds w body (y ∷ []) (suc n) t (passed has_sent all.0 t i).0 in
      join s y t n (suc n) all.1 (one_more s y c (suc n) refl (omega arith)) (of_one y r.0 (suc n) all.1 t r.1 r.2)
  stmt_adds w (send at r es) s n t i = elim i [ inl e ↦ subst (λ y. Adds s y n n) (sym e) (nothing s _ n n refl (omega arith)) | inr l ↦ absurd l ]

  block_adds : (w : TermWorld) (b : Block) (ss : List State) (n : ℕ) (t : State) → In t (follow_all w b (ss, n)).0 → FromOne ss t n (follow_all w b (ss, n)).1
  block_adds w no_stmts ss n t i = (t, i, nothing t t n n refl (omega arith))
  block_adds w (stmt x rest) ss n t i =
      let f = unless_sent (follow w x) in
      let mids = each f ss n in
      let m = block_adds w rest mids.0 mids.1 t i in
      let s = each_adds f (followed_grows w x) (unless_adds (follow w x) (stmt_adds w x)) ss n m.0 m.1 in
      (s.0, s.1, join s.0 m.0 t n mids.1 (follow_all w rest (mids.0, mids.1)).1 s.2 m.2)

-- ---- bodies

abbrev AddsAll : State → State → ℕ → Followed → Type 0
AddsAll s t n r = In t r.0 → Adds s t n r.1

body_adds : (w : TermWorld) (at : Place) → AllAdd (follow_body w at)
body_adds w at s n t i = by_role (w.role at.role) i
  where
    by_body : (r : Role) (o : Option Block) → AddsAll s t n (elim o as (λ x. Followed) [ None ↦ ([], n) | Some b ↦ those_sent (follow_all w b (one (entered r at s) n)) ])
    by_body r None j = absurd j
    by_body r (Some b) j =
        let u = entered r at s in
        let all = follow_all w b (one u n) in
        let r = block_adds w b (u ∷ []) n t (passed has_sent all.0 t j).0 in
        let a = of_one u r.0 n all.1 t r.1 r.2 in
        record { chosen = a.chosen; chosen_is = a.chosen_is; numbers = a.numbers }

    by_role : (o : Option Role) → AddsAll s t n (elim o as (λ x. Followed) [ None ↦ ([], n) | Some r ↦ elim r.body [ None ↦ ([], n) | Some b ↦ those_sent (follow_all w b (one (entered r at s) n)) ] ])
    by_role None j = absurd j
    by_role (Some r) j = by_body r r.body j

onward_adds : (new : List ℕ → Bool) (f : State → ℕ → Followed) → AllAdd f → AllAdd (onward new f)
onward_adds new f h s n t i = by (at_new new s) i
  where
    by : (b : Bool) → In t (if b then f s n else one s n).0 → Adds s t n (if b then f s n else one s n).1
    by true j = h s n t j
    by false j = straight s s t n refl j

abbrev then_hops : TermWorld → (List ℕ → Bool) → ℕ → State → ℕ → Place → Followed
then_hops w new k s n at = each (onward new (hops w new k)) (follow_body w at s n).0 (follow_body w at s n).1

hops_add : (w : TermWorld) (new : List ℕ → Bool) (k : ℕ) → AllAdd (hops w new k)
hops_add w new zero s n t i = straight s s t n refl i
hops_add w new (suc k) s n t i = by (onward_adds new (hops w new k) (hops_add w new k)) s.sent i
  where
    by : AllAdd (onward new (hops w new k)) → (o : Option Place) → In t (elim o as (λ x. Followed) [ None ↦ ([], n) | Some at ↦ then_hops w new k s n at ]).0
        → Adds s t n (elim o as (λ x. Followed) [ None ↦ ([], n) | Some at ↦ then_hops w new k s n at ]).1
    by later None j = absurd j
    by later (Some at) j =
        let led = follow_body w at s n in
        let m = each_adds (onward new (hops w new k)) (hop_grows w new k) later led.0 led.1 t j in
        join s m.0 t n led.1 (then_hops w new k s n at).1 (body_adds w at s n m.0 m.1) m.2

-- ---- trees

leaf_from : (new : List ℕ → Bool) (t : State) (leaf : Leaf) → In leaf (leaf_of new t) → (leaf.choices ≡ t.choices) × EndsBy new leaf.end
leaf_from new t leaf i = by t.sent i
  where
    ends : (b : Bool) (at : Place) → new at.role ≡ b → EndsBy new (end_at b at t.fields)
    ends true at e = e
    ends false at e = e

    by : (o : Option Place)
        → In leaf (elim o as (λ x. List Leaf) [ None ↦ [] | Some at ↦ record { cond = t.cond; choices = t.choices; way = t.way; end = end_at (new at.role) at t.fields } ∷ [] ])
        → (leaf.choices ≡ t.choices) × EndsBy new leaf.end
    by None j = absurd j
    by (Some at) j = elim j [
      | inl same ↦ (ap (λ (x : Leaf). x.choices) same, subst (λ (x : Leaf). EndsBy new x.end) (sym same) (ends (new at.role) at refl))
      | inr l ↦ absurd l
    ]

module _ (w : TermWorld) (widths : List ℕ) (new : List ℕ → Bool) (bodies : ℕ) (role : List ℕ) (first : ℕ) where
  abbrev tree : Tree
  tree = tree_of w widths new bodies role first

  abbrev start : State
  start = begins w (entry_of role tree.args) (map input_term tree.fields)

  abbrev next : ℕ
  next = first + length tree.args + length tree.fields

  pub tree_ends : (n : ℕ) (leaf : Leaf) → slice_get tree.leaves n ≡ Some leaf → EndsBy new leaf.end
  tree_ends n leaf there =
      let led = hops w new bodies start next in
      let t = flat_in (leaf_of new) leaf led.0 (at_place (flat_map (leaf_of new) led.0) n leaf there) in
      (leaf_from new t.0 leaf t.2).1

  pub tree_ascends : (n : ℕ) (leaf : Leaf) → slice_get tree.leaves n ≡ Some leaf → Ascend first tree.next (tree.args ++ (tree.fields ++ leaf.choices))
  tree_ascends n leaf there =
      let led = hops w new bodies start next in
      let t = flat_in (leaf_of new) leaf led.0 (at_place (flat_map (leaf_of new) led.0) n leaf there) in
      let a = hops_add w new bodies start next t.0 t.1 in
      let choices : Ascend next led.1 leaf.choices = subst (Ascend next led.1) (sym a.chosen_is ∙ sym (leaf_from new t.0 leaf t.2).0) a.numbers in
      numbered_join first (first + length tree.args) led.1 tree.args (tree.fields ++ leaf.choices) (numbered_from first (widths_of (params_of w role)))
      (numbered_join (first + length tree.args) next led.1 tree.fields leaf.choices (numbered_from (first + length tree.args) widths) choices)
