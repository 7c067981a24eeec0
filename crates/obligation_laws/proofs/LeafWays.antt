-- Different leaves of a tree have different ways.
use Rattle.std.proofs.Common.{◌≡◌, inl, inr, ℕ, zero, suc, List, [], ◌∷◌, ◌++◌, map, Bool, true, false, Option, Some, None, cond, if◌then◌else◌, refl, sym, ap, subst, ◌∙◌}
use Rattle.std.specs.Prelude.{filter}
use Rattle.std.proofs.lemmas.List.{append-nil, append_assoc}
use Rattle.cocoon_num.specs.Tree.{Role, Stmt, let_, set_field, if_, filter as filter_stmt, havoc_var, havoc_field, assume, fork, send, Block, no_stmts, stmt}
use Rattle.refinement.specs.Ways.{Way}
use Rattle.sound_types.proofs.Members.{In, flat_in, in_either, map_in}
use Rattle.obligation_laws.specs.States as states
use Rattle.obligation_laws.specs.States.{Place, State, TermWorld, choice_width, input_term, where_true}
use Rattle.obligation_laws.specs.Following.{Followed, chosen_as, each, follow, follow_all, has_sent, in_branch, next_input, one, sends_to, term_at, those_sent, unless_sent}
use Rattle.obligation_laws.specs.Leaves.{Leaf, at_new, begins, end_at, entered, follow_body, hops, leaf_of, onward, tree_of}
use Rattle.obligation_laws.proofs.Followings.{passed}

-- ---- ways that part

-- they take different branches somewhere
abbrev pub Part : Way → Way → Type 0
Part [] w = ⊥
Part (b ∷ v) [] = ⊥
Part (true ∷ v) (true ∷ w) = Part v w
Part (false ∷ v) (false ∷ w) = Part v w
Part (true ∷ v) (false ∷ w) = Unit {0}
Part (false ∷ v) (true ∷ w) = Unit {0}

part_more : (v w x y : Way) → Part v w → Part (v ++ x) (w ++ y)
part_more [] w x y h = absurd h
part_more (b ∷ v) [] x y h = absurd h
part_more (true ∷ v) (true ∷ w) x y h = part_more v w x y h
part_more (false ∷ v) (false ∷ w) x y h = part_more v w x y h
part_more (true ∷ v) (false ∷ w) x y h = tt
part_more (false ∷ v) (true ∷ w) x y h = tt

part_behind : (u v w : Way) → Part v w → Part (u ++ v) (u ++ w)
part_behind [] v w h = h
part_behind (true ∷ u) v w h = part_behind u v w h
part_behind (false ∷ u) v w h = part_behind u v w h

part_self : (v : Way) → Part v v → ⊥
part_self [] h = h
part_self (true ∷ v) h = part_self v h
part_self (false ∷ v) h = part_self v h

-- ---- states

-- a state comes of another: its way begins with that of the other
abbrev pub From : State → State → Type 0
From s t = (way : Way) × (t.way ≡ s.way ++ way)

from_same : (s t : State) → t.way ≡ s.way → From s t
from_same s t h = ([], h ∙ sym (append-nil s.way))

from_join : (s m t : State) → From s m → From m t → From s t
from_join s m t a b = (a.0 ++ b.0, b.1 ∙ ap (λ x. x ++ b.0) a.1 ∙ append_assoc s.way a.0 b.0)

part_from : (s t u v : State) → Part s.way t.way → From s u → From t v → Part u.way v.way
part_from s t u v h a b = subst (λ x. Part x v.way) (sym a.1) (subst (Part (s.way ++ a.0)) (sym b.1) (part_more s.way t.way a.0 b.0 h))

abbrev pub AllFrom : State → List State → Type 0
AllFrom s ts = (t : State) → In t ts → From s t

abbrev pub FromSome : List State → List State → Type 0
FromSome ss ts = (t : State) → In t ts → (s : State) × In s ss × From s t

-- the ways of any two part
abbrev pub Differ : List State → Type 0
Differ [] = Unit {0}
Differ (s ∷ ss) = ((t : State) → In t ss → Part s.way t.way) × Differ ss

differ_join : (ss ts : List State) → Differ ss → Differ ts → ((s t : State) → In s ss → In t ts → Part s.way t.way) → Differ (ss ++ ts)
differ_join [] ts h k cross = k
differ_join (s ∷ ss) ts h k cross = (
  λ t i. elim (in_either t ss ts i) [ inl j ↦ h.0 t j | inr j ↦ cross s t (inl refl) j ],
  differ_join ss ts h.1 k (λ a b i j. cross a b (inr i) j),
)

differ_filter : (p : State → Bool) (ss : List State) → Differ ss → Differ (filter p ss)
differ_filter p [] h = tt
differ_filter p (s ∷ ss) h = by (differ_filter p ss h.1) (p s)
  where
    by : Differ (filter p ss) → (b : Bool) → Differ (cond b (s ∷ filter p ss) (filter p ss))
    by later true = (λ t i. h.0 t (passed p ss t i).0, later)
    by later false = later

differ_back : (s : State) (ss : List State) → Differ ss → Differ (map (states.back_to s.vars) ss)
differ_back s [] h = tt
differ_back s (t ∷ ts) h = (λ u i. let m = map_in (states.back_to s.vars) u ts i in subst (λ (x : State). Part t.way x.way) (sym m.2) (h.0 m.0 m.1), differ_back s ts h.1)

-- two of them with the same way are the same
pub differ_same : (ss : List State) → Differ ss → (t u : State) → In t ss → In u ss → t.way ≡ u.way → t ≡ u
differ_same [] h t u i j e = absurd i
differ_same (s ∷ ss) h t u i j e = elim i [
  | inl p ↦ elim j [
    | inl q ↦ p ∙ sym q
    | inr q ↦ absurd (part_self u.way (subst (λ x. Part x u.way) (ap (λ (x : State). x.way) (sym p) ∙ e) (h.0 u q)))
  ]
  | inr p ↦ elim j [
    | inl q ↦ absurd (part_self t.way (subst (λ x. Part x t.way) (ap (λ (x : State). x.way) (sym q) ∙ sym e) (h.0 t p)))
    | inr q ↦ differ_same ss h.1 t u p q e
  ]
]

-- ---- following

-- what comes of a state, comes of it by ways that part
abbrev pub Parting : (State → ℕ → Followed) → Type 0
Parting f = (s : State) (n : ℕ) → AllFrom s (f s n).0 × Differ (f s n).0

only : (s t : State) → t.way ≡ s.way → AllFrom s (t ∷ []) × Differ (t ∷ [])
only s t h = (λ u i. elim i [ inl same ↦ subst (From s) (sym same) (from_same s t h) | inr l ↦ absurd l ], (λ u i. absurd i, tt))

each_parts : (f : State → ℕ → Followed) → Parting f → (ss : List State) → Differ ss → (n : ℕ) → FromSome ss (each f ss n).0 × Differ (each f ss n).0
each_parts f p [] h n = (λ t i. absurd i, tt)
each_parts f p (s ∷ ss) h n =
    let a = p s n in
    let b = each_parts f p ss h.1 (f s n).1 in (
      λ t i. elim (in_either t (f s n).0 (each f ss (f s n).1).0 i) [
        | inl j ↦ (s, inl refl, a.0 t j)
        | inr j ↦ let r = b.0 t j in (r.0, inr r.1, r.2)
      ],
      differ_join (f s n).0 (each f ss (f s n).1).0 a.1 b.1 (λ t u i j. let r = b.0 u j in part_from s r.0 t u (h.0 r.0 r.1) (a.0 t i) r.2),
    )

unless_parts : (f : State → ℕ → Followed) → Parting f → Parting (unless_sent f)
unless_parts f p s n = by s.sent
  where
    by : (o : Option Place) → AllFrom s (elim o as (λ x. Followed) [ None ↦ f s n | Some at ↦ one s n ]).0 × Differ (elim o as (λ x. Followed) [ None ↦ f s n | Some at ↦ one s n ]).0
    by None = p s n
    by (Some at) = only s s refl

-- what comes of one state
of_one : (u : State) (ts : List State) → FromSome (u ∷ []) ts → AllFrom u ts
of_one u ts h t i = let r = h t i in elim r.1 [ inl same ↦ subst (λ z. From z t) same r.2 | inr l ↦ absurd l ]

branched : (s u t : State) (b : Bool) → u.way ≡ s.way ++ b ∷ [] → From u t → From s (states.back_to s.vars t)
branched s u t b e a = (b ∷ a.0, a.1 ∙ ap (λ x. x ++ a.0) e ∙ append_assoc s.way (b ∷ []) a.0)

mutual
  stmt_parts : (w : TermWorld) (x : Stmt) → Parting (follow w x)
  stmt_parts w (let_ at x width e) s n = only s (states.with_variable x.text (term_at w s e) s) refl
  stmt_parts w (set_field at h f e) s n = only s (states.with_field w.context.headers h.text f.text (term_at w s e) s) refl
  stmt_parts w (if_ at e first second) s n =
      let yes = in_branch true (term_at w s e) s in
      let other = in_branch false (term_at w s e) s in
      let A = follow_all w first (one yes n) in
      let B = follow_all w second (one other A.1) in
      let a = block_parts w first (yes ∷ []) (only yes yes refl).1 n in
      let b = block_parts w second (other ∷ []) (only other other refl).1 A.1 in
      let af = of_one yes A.0 a.0 in
      let bf = of_one other B.0 b.0 in (
        λ t i. let m = map_in (states.back_to s.vars) t (A.0 ++ B.0) i in
            subst (From s) (sym m.2) (elim (in_either m.0 A.0 B.0 m.1) [
              | inl j ↦ branched s yes m.0 true refl (af m.0 j)
              | inr j ↦ branched s other m.0 false refl (bf m.0 j)
            ]),
        differ_back s (A.0 ++ B.0) (differ_join A.0 B.0 a.1 b.1 (λ t u i j. part_from yes other t u (part_behind s.way (true ∷ []) (false ∷ []) tt) (af t i) (bf u j))),
      )
  stmt_parts w (filter_stmt at e) s n = only s (where_true (term_at w s e) s) refl
  stmt_parts w (havoc_var at x width) s n = only s (chosen_as x.text (next_input n width) s) refl
  stmt_parts w (havoc_field at h f) s n =
      let c = next_input n (choice_width w.context.headers h.text f.text) in
      only s (states.with_choice c (states.with_field w.context.headers h.text f.text (input_term c) s)) refl
  stmt_parts w (assume at e) s n = only s (where_true (term_at w s e) s) refl
  stmt_parts w (fork at x width e body) s n =
      let z = chosen_as x.text (next_input n width) s in
      let y = where_true (term_at w z e) z in
      let all = follow_all w body (one y (suc n)) in
      let b = block_parts w body (y ∷ []) (only y y refl).1 (suc n) in
      let f = of_one y all.0 b.0 in
      (λ t i. from_join s y t (from_same s y refl) (f t (passed has_sent all.0 t i).0), differ_filter has_sent all.0 b.1)
  stmt_parts w (send at r es) s n = only s (sends_to w (record { role = r.text; values = _ }) s) refl

  block_parts : (w : TermWorld) (b : Block) (ss : List State) → Differ ss → (n : ℕ) → FromSome ss (follow_all w b (ss, n)).0 × Differ (follow_all w b (ss, n)).0
  block_parts w no_stmts ss h n = (λ t i. (t, i, from_same t t refl), h)
  block_parts w (stmt x rest) ss h n =
      let f = unless_sent (follow w x) in
      let a = each_parts f (unless_parts (follow w x) (stmt_parts w x)) ss h n in
      let b = block_parts w rest (each f ss n).0 a.1 (each f ss n).1 in
      (λ t i. let m = b.0 t i in let r = a.0 m.0 m.1 in (r.0, r.1, from_join r.0 m.0 t r.2 m.2), b.1)

-- ---- bodies

abbrev Kept : State → Followed → Type 0
Kept s r = AllFrom s r.0 × Differ r.0

body_parts : (w : TermWorld) (at : Place) → Parting (follow_body w at)
body_parts w at s n = by_role (w.role at.role)
  where
    by_body : (r : Role) (o : Option Block) → Kept s (elim o as (λ x. Followed) [ None ↦ ([], n) | Some b ↦ those_sent (follow_all w b (one (entered r at s) n)) ])
    by_body r None = (λ t i. absurd i, tt)
    by_body r (Some b) =
        let u = entered r at s in
        let all = follow_all w b (one u n) in
        let k = block_parts w b (u ∷ []) (only u u refl).1 n in
        (λ t i. let a = of_one u all.0 k.0 t (passed has_sent all.0 t i).0 in (a.0, a.1), differ_filter has_sent all.0 k.1)

    by_role : (o : Option Role) → Kept s (elim o as (λ x. Followed) [ None ↦ ([], n) | Some r ↦ elim r.body [ None ↦ ([], n) | Some b ↦ those_sent (follow_all w b (one (entered r at s) n)) ] ])
    by_role None = (λ t i. absurd i, tt)
    by_role (Some r) = by_body r r.body

onward_parts : (new : List ℕ → Bool) (f : State → ℕ → Followed) → Parting f → Parting (onward new f)
onward_parts new f p s n = by (at_new new s)
  where
    by : (b : Bool) → AllFrom s (if b then f s n else one s n).0 × Differ (if b then f s n else one s n).0
    by true = p s n
    by false = only s s refl

hops_part : (w : TermWorld) (new : List ℕ → Bool) (k : ℕ) → Parting (hops w new k)
hops_part w new zero s n = only s s refl
hops_part w new (suc k) s n = by (onward_parts new (hops w new k) (hops_part w new k)) s.sent
  where
    by : Parting (onward new (hops w new k)) → (o : Option Place)
        → AllFrom s (elim o as (λ x. Followed) [ None ↦ ([], n) | Some at ↦ each (onward new (hops w new k)) (follow_body w at s n).0 (follow_body w at s n).1 ]).0
        × Differ (elim o as (λ x. Followed) [ None ↦ ([], n) | Some at ↦ each (onward new (hops w new k)) (follow_body w at s n).0 (follow_body w at s n).1 ]).0
    by later None = (λ t i. absurd i, tt)
    by later (Some at) =
        let b = body_parts w at s n in
        let e = each_parts (onward new (hops w new k)) later (follow_body w at s n).0 b.1 (follow_body w at s n).1 in
        (λ t i. let r = e.0 t i in from_join s r.0 t (b.0 r.0 r.1) r.2, e.1)

-- ---- leaves

leaf_way : (new : List ℕ → Bool) (t : State) (leaf : Leaf) → In leaf (leaf_of new t) → leaf.way ≡ t.way
leaf_way new t leaf i = by t.sent i
  where
    by : (o : Option Place)
        → In leaf (elim o as (λ x. List Leaf) [ None ↦ [] | Some at ↦ record { cond = t.cond; choices = t.choices; way = t.way; end = end_at (new at.role) at t.fields } ∷ [] ])
        → leaf.way ≡ t.way
    by None j = absurd j
    by (Some at) j = elim j [ inl same ↦ ap (λ (x : Leaf). x.way) same | inr l ↦ absurd l ]

abbrev leaves_by : (List ℕ → Bool) → State → Option Place → List Leaf
leaves_by new t o = elim o as (λ x. List Leaf) [ None ↦ [] | Some at ↦ record { cond = t.cond; choices = t.choices; way = t.way; end = end_at (new at.role) at t.fields } ∷ [] ]

one_leaf : (new : List ℕ → Bool) (t : State) (a b : Leaf) → In a (leaf_of new t) → In b (leaf_of new t) → a ≡ b
one_leaf new t a b i j = by t.sent i j
  where
    by : (o : Option Place) → In a (leaves_by new t o) → In b (leaves_by new t o) → a ≡ b
    by None k l = absurd k
    by (Some at) k l = elim k [ inl p ↦ elim l [ inl q ↦ p ∙ sym q | inr n ↦ absurd n ] | inr n ↦ absurd n ]

pub one_way : (w : TermWorld) (widths : List ℕ) (new : List ℕ → Bool) (bodies : ℕ) (role : List ℕ) (first : ℕ) (a b : Leaf)
    → In a (tree_of w widths new bodies role first).leaves → In b (tree_of w widths new bodies role first).leaves → a.way ≡ b.way → a ≡ b
one_way w widths new bodies role first a b i j e =
    let led = hops w new bodies (begins w _ _) _ in
    let t = flat_in (leaf_of new) a led.0 i in
    let u = flat_in (leaf_of new) b led.0 j in
    let same = differ_same led.0 (hops_part w new bodies _ _).1 t.0 u.0 t.1 u.1 (sym (leaf_way new t.0 a t.2) ∙ e ∙ leaf_way new u.0 b u.2) in
    one_leaf new t.0 a b t.2 (subst (λ z. In b (leaf_of new z)) (sym same) u.2)
