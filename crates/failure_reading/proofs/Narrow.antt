-- The inputs of a leaf have 64 bits or fewer.
use Rattle.std.proofs.Common.{◌≡◌, inl, inr, ℕ, zero, suc, ◌+◌, ◌≤◌, List, [], ◌∷◌, ◌++◌, length, map, Bool, true, false, Option, Some, None, if◌then◌else◌, refl, sym, ap, subst, ◌∙◌, arith}
use Rattle.std.specs.Prelude.{flat_map, option_map}
use Rattle.std.proofs.lemmas.Bool.Decides.{nat_tests}
use Rattle.std.proofs.lemmas.List.{append-nil, append_assoc}
use Rattle.cocoon_num.specs.Names.{named}
use Rattle.cocoon_num.specs.Sorts.{is_declared_width}
use Rattle.cocoon_num.specs.Tree.{Param, Role, a_role, HeaderDecl, Stmt, let_, set_field, if_, filter, havoc_var, havoc_field, assume, fork, send, Block, no_stmts, stmt, Design}
use Rattle.cocoon_resolve.specs.Readers.{all_widths}
use Rattle.cocoon_types.specs.Design.{field_width, role_at, widths_of}
use Rattle.cocoon_types.specs.RuleParts.{unless_named}
use Rattle.cocoon_types.specs.Rules.{WellFormed, too_wide}
use Rattle.cocoon_types.specs.Sites.{DeclSite, after_stmt, decl_sites, params_of as declared_params}
use Rattle.cocoon_types.specs.TypeRules.{wide_params}
use Rattle.cocoon_types.specs.Typing.{Scope, with_var}
use Rattle.obligation_laws.specs.TermOf.{term_context, terms_of}
use Rattle.sound_types.specs.WellTyped.{IsTyped, IsTypedRole, IsTypedStmt, scope_at}
use Rattle.sound_types.proofs.Levels.{role_in, role_stands, site_at}
use Rattle.sound_types.proofs.Members.{In, flat_in, in_either, map_in, named_there, none_at}
use Rattle.sound_types.proofs.Options.{map_there, nil_left, nil_right, passes, then_there}
use Rattle.obligation_laws.specs.States as states
use Rattle.obligation_laws.specs.States.{NewInput, Place, State, TermWorld, choice_width, input_term, inputs_from, term_world, where_true}
use Rattle.obligation_laws.specs.Following.{Followed, chosen_as, each, follow, follow_all, has_sent, in_branch, next_input, one, sends_to, term_at, those_sent, unless_sent}
use Rattle.obligation_laws.specs.Leaves.{Leaf, Tree, at_new, begins, end_at, entered, entry_of, follow_body, hops, leaf_of, onward, params_of, tree_of}
use Rattle.obligation_laws.proofs.Followings.{passed}

-- ---- widths that are declared

abbrev pub IsNarrow : NewInput → Type 0
IsNarrow i = i.width ≤ 64

abbrev pub AllNarrow : List NewInput → Type 0
AllNarrow [] = Unit {0}
AllNarrow (i ∷ is) = IsNarrow i × AllNarrow is

-- the inputs of a leaf of a tree are
pub record LeafNarrow (tree : Tree) (leaf : Leaf) : Type 0 where
  pub args : AllNarrow tree.args
  pub fields : AllNarrow tree.fields
  pub choices : AllNarrow leaf.choices

abbrev NarrowWidths : List ℕ → Type 0
NarrowWidths [] = Unit {0}
NarrowWidths (w ∷ ws) = (w ≤ 64) × NarrowWidths ws

declared : (w : ℕ) → is_declared_width w ≡ true → w ≤ 64
declared w h = grind (arith, nat_tests, h)

first_declared : (p : Param) (ps : List Param) → wide_params (p ∷ ps) ≡ [] → p.width ≤ 64
first_declared p ps h = declared p.width (passes (is_declared_width p.width) p.name.at (nil_left (unless_named (is_declared_width p.width) p.name) (wide_params ps) h))

later_declared : (p : Param) (ps : List Param) → wide_params (p ∷ ps) ≡ [] → wide_params ps ≡ []
later_declared p ps h = nil_right (unless_named (is_declared_width p.width) p.name) (wide_params ps) h

params_narrow : (ps : List Param) → wide_params ps ≡ [] → NarrowWidths (widths_of ps)
params_narrow [] h = tt
params_narrow (p ∷ ps) h = (first_declared p ps h, params_narrow ps (later_declared p ps h))

widths_join : (vs ws : List ℕ) → NarrowWidths vs → NarrowWidths ws → NarrowWidths (vs ++ ws)
widths_join [] ws h k = k
widths_join (v ∷ vs) ws h k = (h.0, widths_join vs ws h.1 k)

headers_narrow : (hs : List HeaderDecl) → flat_map (λ (h : HeaderDecl). wide_params h.fields) hs ≡ [] → NarrowWidths (all_widths hs)
headers_narrow [] h = tt
headers_narrow (d ∷ hs) h =
    let more = flat_map (λ (x : HeaderDecl). wide_params x.fields) hs in
    widths_join (widths_of d.fields) (all_widths hs) (params_narrow d.fields (nil_left (wide_params d.fields) more h)) (headers_narrow hs (nil_right (wide_params d.fields) more h))

inputs_narrow : (first : ℕ) (ws : List ℕ) → NarrowWidths ws → AllNarrow (inputs_from first ws)
inputs_narrow first [] h = tt
inputs_narrow first (w ∷ ws) h = (h.0, inputs_narrow (suc first) ws h.1)

narrow_join : (is js : List NewInput) → AllNarrow is → AllNarrow js → AllNarrow (is ++ js)
narrow_join [] js h k = k
narrow_join (i ∷ is) js h k = (h.0, narrow_join is js h.1 k)

-- the rule on widths, part by part
header_params : (d : Design) → WellFormed d → flat_map (λ (h : HeaderDecl). wide_params h.fields) d.headers ≡ []
header_params d w = nil_left _ _ (nil_left _ _ (nil_left _ _ (nil_left _ _ (w too_wide))))

role_params : (d : Design) → WellFormed d → (level : ℕ) (name : List ℕ) (r : Role) → role_at level d name ≡ Some r → wide_params r.params ≡ []
role_params d w level name r is =
    let at = role_stands level d r (role_in level d name r is).0 in
    none_at (λ (x : DeclSite). wide_params (declared_params x.decl)) (decl_sites d) (nil_right _ _ (nil_left _ _ (nil_left _ _ (nil_left _ _ (w too_wide))))) (site_at d at.level at.before (a_role r)) at.at

param_in : (ps : List Param) → wide_params ps ≡ [] → (p : Param) → In p ps → p.width ≤ 64
param_in [] h p i = absurd i
param_in (q ∷ ps) h p i = elim i [ inl e ↦ subst (λ (x : Param). x.width ≤ 64) (sym e) (first_declared q ps h) | inr k ↦ param_in ps (later_declared q ps h) p k ]

field_narrow : (d : Design) → WellFormed d → (h f : List ℕ) (w : ℕ) → field_width d.headers h f ≡ Some w → w ≤ 64
field_narrow d rules h f w e =
    let header = then_there (λ (x : HeaderDecl). option_map (λ (p : Param). p.width) (named (λ (p : Param). p.name) f x.fields)) (named (λ (x : HeaderDecl). x.name) h d.headers) w e in
    let param = map_there (λ (p : Param). p.width) (named (λ (p : Param). p.name) f header.0.fields) w header.2 in
    let own = none_at (λ (x : HeaderDecl). wide_params x.fields) d.headers (header_params d rules) header.0 (named_there (λ (x : HeaderDecl). x.name) h d.headers header.0 header.1).0 in
    subst (λ n. n ≤ 64) param.2 (param_in header.0.fields own param.0 (named_there (λ (p : Param). p.name) f header.0.fields param.0 param.1).0)

-- ---- choices

-- a state has the choices of another, and then some that are narrow
record Adds (s t : State) : Type 0 where
  chosen : List NewInput
  chosen_is : t.choices ≡ s.choices ++ chosen
  narrow : AllNarrow chosen

module _ (d : Design) (rules : WellFormed d) (level : ℕ) (typed : (name : List ℕ) (r : Role) → role_at level d name ≡ Some r → IsTypedRole d level r) where
  abbrev T : TermWorld
  T = term_world level d

  nothing : (s t : State) → t.choices ≡ s.choices → Adds s t
  nothing s t same = record { chosen = []; chosen_is = same ∙ sym (append-nil s.choices); narrow = tt }

  one_more : (s t : State) (i : NewInput) → t.choices ≡ s.choices ++ i ∷ [] → i.width ≤ 64 → Adds s t
  one_more s t i same l = record { chosen = i ∷ []; chosen_is = same; narrow = (l, tt) }

  join : (s m t : State) → Adds s m → Adds m t → Adds s t
  join s m t a b = record {
    chosen = a.chosen ++ b.chosen;
    chosen_is = b.chosen_is ∙ ap (λ x. x ++ b.chosen) a.chosen_is ∙ append_assoc s.choices a.chosen b.chosen;
    narrow = narrow_join a.chosen b.chosen a.narrow b.narrow;
  }

  -- behind a branch
  back : (s u t : State) → u.choices ≡ s.choices → Adds u t → Adds s (states.back_to s.vars t)
  back s u t same a = record { chosen = a.chosen; chosen_is = a.chosen_is ∙ ap (λ x. x ++ a.chosen) same; narrow = a.narrow }

  only : (s z t : State) → Adds s z → In t (z ∷ []) → Adds s t
  only s z t a i = elim i [ inl e ↦ subst (Adds s) (sym e) a | inr l ↦ absurd l ]

  of_one : (u s t : State) → In s (u ∷ []) → Adds s t → Adds u t
  of_one u s t i a = elim i [ inl same ↦ subst (λ z. Adds z t) same a | inr l ↦ absurd l ]

  abbrev AllAdd : (State → ℕ → Followed) → Type 0
  AllAdd f = (s : State) (n : ℕ) (t : State) → In t (f s n).0 → Adds s t

  abbrev FromOne : List State → State → Type 0
  FromOne ss t = (s : State) × In s ss × Adds s t

  each_adds : (f : State → ℕ → Followed) → AllAdd f → (ss : List State) (n : ℕ) (t : State) → In t (each f ss n).0 → FromOne ss t
  each_adds f h [] n t i = absurd i
  each_adds f h (s ∷ ss) n t i = elim (in_either t (f s n).0 (each f ss (f s n).1).0 i) [
    | inl k ↦ (s, inl refl, h s n t k)
    | inr k ↦ let r = each_adds f h ss (f s n).1 t k in (r.0, inr r.1, r.2)
  ]

  same : (s : State) → Adds s s
  same s = nothing s s refl

  unless_adds : (f : State → ℕ → Followed) → AllAdd f → AllAdd (unless_sent f)
  unless_adds f h s n t i = by s.sent i
    where
      by : (o : Option Place) → In t (elim o as (λ x. Followed) [ None ↦ f s n | Some at ↦ one s n ]).0 → Adds s t
      by None j = h s n t j
      by (Some at) j = only s s t (same s) j

  chosen_width : (h f : List ℕ) → choice_width d.headers h f ≤ 64
  chosen_width h f = by (field_width d.headers h f) refl
    where
      by : (o : Option ℕ) → field_width d.headers h f ≡ o → (elim o as (λ x. ℕ) [ None ↦ 1 | Some w ↦ w ]) ≤ 64
      by None e = omega arith
      by (Some w) e = field_narrow d rules h f w e

  mutual
    stmt_adds : (x : Stmt) (c : Scope) → IsTypedStmt c x → AllAdd (follow T x)
    stmt_adds (let_ at x width e) c h s n t i = let z = states.with_variable x.text (term_at T s e) s in only s z t (nothing s z refl) i
    stmt_adds (set_field at x f e) c h s n t i = let z = states.with_field d.headers x.text f.text (term_at T s e) s in only s z t (nothing s z refl) i
    stmt_adds (if_ at e first second) c h s n t i =
        let yes = in_branch true (term_at T s e) s in
        let other = in_branch false (term_at T s e) s in
        let A = follow_all T first (one yes n) in
        let B = follow_all T second (one other A.1) in
        let m = map_in (states.back_to s.vars) t (A.0 ++ B.0) i in
        subst (Adds s) (sym m.2) (elim (in_either m.0 A.0 B.0 m.1) [
          | inl j ↦ let r = block_adds first c h.1 (yes ∷ []) n m.0 j in back s yes m.0 refl (of_one yes r.0 m.0 r.1 r.2)
          | inr j ↦ let r = block_adds second c h.2 (other ∷ []) A.1 m.0 j in back s other m.0 refl (of_one other r.0 m.0 r.1 r.2)
        ])
    stmt_adds (filter at e) c h s n t i = let z = where_true (term_at T s e) s in only s z t (nothing s z refl) i
    stmt_adds (havoc_var at x width) c h s n t i =
        let j = next_input n width in
        let z = chosen_as x.text j s in
        only s z t (one_more s z j refl (declared width h)) i
    stmt_adds (havoc_field at x f) c h s n t i =
        let j = next_input n (choice_width d.headers x.text f.text) in
        let z = states.with_choice j (states.with_field d.headers x.text f.text (input_term j) s) in
        only s z t (one_more s z j refl (chosen_width x.text f.text)) i
    stmt_adds (assume at e) c h s n t i = let z = where_true (term_at T s e) s in only s z t (nothing s z refl) i
    stmt_adds (fork at x width e body) c h s n t i =
        let j = next_input n width in
        let z = chosen_as x.text j s in
        let y = where_true (term_at T z e) z in
        let all = follow_all T body (one y (suc n)) in
        let r = block_adds body (with_var x width c) h.2 (y ∷ []) (suc n) t (passed has_sent all.0 t i).0 in
        join s y t (one_more s y j refl (declared width h.0)) (of_one y r.0 t r.1 r.2)
    stmt_adds (send at r es) c h s n t i =
        let z = sends_to T (record { role = r.text; values = terms_of (term_context d) s.vars s.fields es }) s in
        only s z t (nothing s z refl) i

    block_adds : (b : Block) (c : Scope) → IsTyped c b → (ss : List State) (n : ℕ) (t : State) → In t (follow_all T b (ss, n)).0 → FromOne ss t
    block_adds no_stmts c h ss n t i = (t, i, same t)
    block_adds (stmt x rest) c h ss n t i =
        let f = unless_sent (follow T x) in
        let mids = each f ss n in
        let m = block_adds rest (after_stmt x c) h.1 mids.0 mids.1 t i in
        let s = each_adds f (unless_adds (follow T x) (stmt_adds x c h.0)) ss n m.0 m.1 in
        (s.0, s.1, join s.0 m.0 t s.2 m.2)

  -- ---- bodies

  body_adds : (at : Place) → AllAdd (follow_body T at)
  body_adds at s n t i = by_role (role_at level d at.role) refl i
    where
      by_body : (r : Role) → IsTypedRole d level r → (o : Option Block) → r.body ≡ o
          → In t (elim o as (λ x. Followed) [ None ↦ ([], n) | Some b ↦ those_sent (follow_all T b (one (entered r at s) n)) ]).0 → Adds s t
      by_body r h None e j = absurd j
      by_body r h (Some b) e j =
          let u = entered r at s in
          let all = follow_all T b (one u n) in
          let q = block_adds b (scope_at d level r.params true) (h.body b e) (u ∷ []) n t (passed has_sent all.0 t j).0 in
          join s u t (nothing s u refl) (of_one u q.0 t q.1 q.2)

      by_role : (o : Option Role) → role_at level d at.role ≡ o
          → In t (elim o as (λ x. Followed) [ None ↦ ([], n) | Some r ↦ elim r.body [ None ↦ ([], n) | Some b ↦ those_sent (follow_all T b (one (entered r at s) n)) ] ]).0 → Adds s t
      by_role None e j = absurd j
      by_role (Some r) e j = by_body r (typed at.role r e) r.body refl j

  onward_adds : (new : List ℕ → Bool) (f : State → ℕ → Followed) → AllAdd f → AllAdd (onward new f)
  onward_adds new f h s n t i = by (at_new new s) i
    where
      by : (b : Bool) → In t (if b then f s n else one s n).0 → Adds s t
      by true j = h s n t j
      by false j = only s s t (same s) j

  hops_add : (new : List ℕ → Bool) (k : ℕ) → AllAdd (hops T new k)
  hops_add new zero s n t i = only s s t (same s) i
  hops_add new (suc k) s n t i = by (onward_adds new (hops T new k) (hops_add new k)) s.sent i
    where
      by : AllAdd (onward new (hops T new k)) → (o : Option Place)
          → In t (elim o as (λ x. Followed) [ None ↦ ([], n) | Some at ↦ each (onward new (hops T new k)) (follow_body T at s n).0 (follow_body T at s n).1 ]).0 → Adds s t
      by later None j = absurd j
      by later (Some at) j =
          let led = follow_body T at s n in
          let m = each_adds (onward new (hops T new k)) later led.0 led.1 t j in
          join s m.0 t (body_adds at s n m.0 m.1) m.2

  -- ---- leaves

  leaf_from : (new : List ℕ → Bool) (t : State) (leaf : Leaf) → In leaf (leaf_of new t) → leaf.choices ≡ t.choices
  leaf_from new t leaf i = by t.sent i
    where
      by : (o : Option Place)
          → In leaf (elim o as (λ x. List Leaf) [ None ↦ [] | Some at ↦ record { cond = t.cond; choices = t.choices; way = t.way; end = end_at (new at.role) at t.fields } ∷ [] ])
          → leaf.choices ≡ t.choices
      by None j = absurd j
      by (Some at) j = elim j [ inl e ↦ ap (λ (x : Leaf). x.choices) e | inr l ↦ absurd l ]

  choices_narrow : (new : List ℕ → Bool) (bodies : ℕ) (role : List ℕ) (first : ℕ) (leaf : Leaf) → In leaf (tree_of T (all_widths d.headers) new bodies role first).leaves → AllNarrow leaf.choices
  choices_narrow new bodies role first leaf i =
      let tree = tree_of T (all_widths d.headers) new bodies role first in
      let s = begins T (entry_of role tree.args) (map input_term tree.fields) in
      let n = first + length tree.args + length tree.fields in
      let led = hops T new bodies s n in
      let t = flat_in (leaf_of new) leaf led.0 i in
      let a = hops_add new bodies s n t.0 t.1 in
      subst AllNarrow (sym a.chosen_is ∙ sym (leaf_from new t.0 leaf t.2)) a.narrow

  args_narrow : (role : List ℕ) (first : ℕ) → AllNarrow (inputs_from first (widths_of (params_of T role)))
  args_narrow role first = inputs_narrow first (widths_of (params_of T role)) (by (role_at level d role) refl)
    where
      by : (o : Option Role) → role_at level d role ≡ o → NarrowWidths (widths_of (elim o as (λ x. List Param) [ None ↦ [] | Some r ↦ r.params ]))
      by None e = tt
      by (Some r) e = params_narrow r.params (role_params d rules level role r e)

  pub leaf_narrow : (new : List ℕ → Bool) (bodies : ℕ) (role : List ℕ) (first : ℕ) (leaf : Leaf) → In leaf (tree_of T (all_widths d.headers) new bodies role first).leaves
      → LeafNarrow (tree_of T (all_widths d.headers) new bodies role first) leaf
  leaf_narrow new bodies role first leaf i =
      let tree = tree_of T (all_widths d.headers) new bodies role first in
      record {
        args = args_narrow role first;
        fields = inputs_narrow (first + length tree.args) (all_widths d.headers) (headers_narrow d.headers (header_params d rules));
        choices = choices_narrow new bodies role first leaf i;
      }
