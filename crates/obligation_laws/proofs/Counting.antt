-- The number of leaves.
use Rattle.std.proofs.Common.{◌≡◌, inl, inr, ℕ, zero, suc, ◌+◌, List, [], ◌∷◌, ◌++◌, length, map, Bool, true, false, cond, Option, Some, None, is_some, if◌then◌else◌, option_map, refl, sym, ap, ◌∙◌}
use Rattle.std.specs.Prelude.{filter, filter_map, flat_map}
use Rattle.std.proofs.lemmas.List.{append-nil, append_assoc, length-append, map-append}
use Rattle.cocoon_num.specs.Tree.{Role, Stmt, let_, set_field, if_, filter as filter_stmt, havoc_var, havoc_field, assume, fork, send, Block, no_stmts, stmt}
use Rattle.sound_types.proofs.Members.{In}
use Rattle.obligation_laws.specs.States as states
use Rattle.obligation_laws.specs.States.{Place, State, TermWorld, where_true}
use Rattle.obligation_laws.specs.Following.{Followed, chosen_as, each, follow, follow_all, has_sent, in_branch, next_input, one, term_at, those_sent, unless_sent}
use Rattle.obligation_laws.specs.Leaves.{Leaf, at_new, end_at, entered, follow_body, hops, leaf_of, onward}
use Rattle.obligation_laws.proofs.Followings.{passed, some_place}
use Rattle.obligation_laws.proofs.Hopping.{new_at}
use Rattle.obligation_laws.specs.Counts.{WayEnd, ends, ends_in, leaf_count, sends_of, sum_of, those_ended, unless_ended}

-- how a state's way ends
abbrev pub end_role : State → WayEnd
end_role s = option_map (λ (at : Place). at.role) s.sent

abbrev pub ends_of : List State → List WayEnd
ends_of ss = map end_role ss

flat_append : {A B : Type 0} (f : A → List B) (xs ys : List A) → flat_map f (xs ++ ys) ≡ flat_map f xs ++ flat_map f ys
flat_append f [] ys = refl
flat_append f (x ∷ xs) ys = ap (λ zs. f x ++ zs) (flat_append f xs ys) ∙ sym (append_assoc (f x) (flat_map f xs) (flat_map f ys))

flat_flat : {A B C : Type 0} (f : B → List C) (g : A → List B) (xs : List A) → flat_map f (flat_map g xs) ≡ flat_map (λ x. flat_map f (g x)) xs
flat_flat f g [] = refl
flat_flat f g (x ∷ xs) = flat_append f (g x) (flat_map g xs) ∙ ap (λ zs. flat_map f (g x) ++ zs) (flat_flat f g xs)

flat_same : {A B : Type 0} (f g : A → List B) → ((x : A) → f x ≡ g x) → (xs : List A) → flat_map f xs ≡ flat_map g xs
flat_same f g h [] = refl
flat_same f g h (x ∷ xs) = λ k. h x k ++ flat_same f g h xs k

each_ends : (f : State → ℕ → Followed) (g : WayEnd → List WayEnd) → ((s : State) (n : ℕ) → ends_of (f s n).0 ≡ g (end_role s)) → (ss : List State) (n : ℕ) → ends_of (each f ss n).0 ≡ flat_map g (ends_of ss)
each_ends f g h [] n = refl
each_ends f g h (s ∷ ss) n = map-append end_role (f s n).0 (each f ss (f s n).1).0 ∙ (λ k. h s n k ++ each_ends f g h ss (f s n).1 k)

unless_ends : (f : State → ℕ → Followed) (es : List WayEnd) (s : State) (n : ℕ) → (s.sent ≡ None → ends_of (f s n).0 ≡ es) → ends_of (unless_sent f s n).0 ≡ unless_ended es (end_role s)
unless_ends f es s n h = by s.sent refl
  where
    by : (o : Option Place) → s.sent ≡ o → ends_of (elim o as (λ x. Followed) [ None ↦ f s n | Some at ↦ one s n ]).0 ≡ unless_ended es (option_map (λ (at : Place). at.role) o)
    by None p = h p
    by (Some at) p = ap (λ (o : Option Place). option_map (λ (at : Place). at.role) o ∷ []) p

sent_ends : (ss : List State) → ends_of (filter has_sent ss) ≡ those_ended (ends_of ss)
sent_ends [] = refl
sent_ends (s ∷ ss) = by s.sent refl (sent_ends ss)
  where
    by : (o : Option Place) → s.sent ≡ o → ends_of (filter has_sent ss) ≡ those_ended (ends_of ss)
        → ends_of (cond (is_some o) (s ∷ filter has_sent ss) (filter has_sent ss)) ≡ unless_ended [] (option_map (λ (at : Place). at.role) o) ++ those_ended (ends_of ss)
    by None p h = h
    by (Some at) p h = λ k. option_map (λ (at : Place). at.role) (p k) ∷ h k

back_ends : (vars : _) (ss : List State) → ends_of (map (states.back_to vars) ss) ≡ ends_of ss
back_ends vars [] = refl
back_ends vars (s ∷ ss) = ap (λ es. end_role s ∷ es) (back_ends vars ss)

all_stay : (es : List WayEnd) → es ≡ flat_map (unless_ended (None ∷ [])) es
all_stay [] = refl
all_stay (None ∷ es) = ap (λ x. None ∷ x) (all_stay es)
all_stay (Some r ∷ es) = ap (λ x. Some r ∷ x) (all_stay es)

then_ends : (xs more : List WayEnd) (e : WayEnd) → flat_map (unless_ended more) (unless_ended xs e) ≡ unless_ended (flat_map (unless_ended more) xs) e
then_ends xs more None = refl
then_ends xs more (Some r) = refl

-- from a state that has not sent
from_one : (es : List WayEnd) (s : State) → s.sent ≡ None → flat_map (unless_ended es) (ends_of (s ∷ [])) ≡ es
from_one es s p = ap (λ (o : Option Place). unless_ended es (option_map (λ (at : Place). at.role) o) ++ []) p ∙ append-nil es

mutual
  stmt_ends : (w : TermWorld) (x : Stmt) (s : State) → s.sent ≡ None → (n : ℕ) → ends_of (follow w x s n).0 ≡ ends x
  stmt_ends w (let_ at x width e) s p n = ap (λ (o : Option Place). option_map (λ (at : Place). at.role) o ∷ []) p
  stmt_ends w (set_field at h f e) s p n = ap (λ (o : Option Place). option_map (λ (at : Place). at.role) o ∷ []) p
  stmt_ends w (if_ at e first second) s p n =
      let yes = in_branch true (term_at w s e) s in
      let other = in_branch false (term_at w s e) s in
      let A = follow_all w first (one yes n) in
      let B = follow_all w second (one other A.1) in
      back_ends s.vars (A.0 ++ B.0) ∙ map-append end_role A.0 B.0
      ∙ (λ k. (block_ends w first (yes ∷ []) n ∙ from_one (ends_in first) yes p) k ++ (block_ends w second (other ∷ []) A.1 ∙ from_one (ends_in second) other p) k)
  stmt_ends w (filter_stmt at e) s p n = ap (λ (o : Option Place). option_map (λ (at : Place). at.role) o ∷ []) p
  stmt_ends w (havoc_var at x width) s p n = ap (λ (o : Option Place). option_map (λ (at : Place). at.role) o ∷ []) p
  stmt_ends w (havoc_field at h f) s p n = ap (λ (o : Option Place). option_map (λ (at : Place). at.role) o ∷ []) p
  stmt_ends w (assume at e) s p n = ap (λ (o : Option Place). option_map (λ (at : Place). at.role) o ∷ []) p
  stmt_ends w (fork at x width e body) s p n =
      let chosen = chosen_as x.text (next_input n width) s in
      let y = where_true (term_at w chosen e) chosen in
      sent_ends (follow_all w body (one y (suc n))).0 ∙ ap those_ended (block_ends w body (y ∷ []) (suc n) ∙ from_one (ends_in body) y p)
  stmt_ends w (send at r es) s p n = refl

  block_ends : (w : TermWorld) (b : Block) (ss : List State) (n : ℕ) → ends_of (follow_all w b (ss, n)).0 ≡ flat_map (unless_ended (ends_in b)) (ends_of ss)
  block_ends w no_stmts ss n = all_stay (ends_of ss)
  block_ends w (stmt x rest) ss n =
      let f = unless_sent (follow w x) in
      block_ends w rest (each f ss n).0 (each f ss n).1
      ∙ ap (flat_map (unless_ended (ends_in rest))) (each_ends f (unless_ended (ends x)) (λ s m. unless_ends (follow w x) (ends x) s m (λ p. stmt_ends w x s p m)) ss n)
      ∙ flat_flat (unless_ended (ends_in rest)) (unless_ended (ends x)) (ends_of ss)
      ∙ flat_same (λ e. flat_map (unless_ended (ends_in rest)) (unless_ended (ends x) e)) (unless_ended (flat_map (unless_ended (ends_in rest)) (ends x))) (then_ends (ends x) (ends_in rest)) (ends_of ss)

-- ---- leaves

roles_there : (es : List WayEnd) → filter_map (λ e. e) (those_ended es) ≡ filter_map (λ e. e) es
roles_there [] = refl
roles_there (None ∷ es) = roles_there es
roles_there (Some r ∷ es) = ap (λ rs. r ∷ rs) (roles_there es)

body_ends : (w : TermWorld) (at : Place) (s : State) (n : ℕ) → filter_map (λ e. e) (ends_of (follow_body w at s n).0) ≡ sends_of w.role at.role
body_ends w at s n = by_role (w.role at.role)
  where
    by_body : (r : Role) (o : Option Block) → filter_map (λ e. e) (ends_of (elim o as (λ x. Followed) [ None ↦ ([], n) | Some b ↦ those_sent (follow_all w b (one (entered r at s) n)) ]).0)
        ≡ (elim o as (λ x. List (List ℕ)) [ None ↦ [] | Some b ↦ filter_map (λ e. e) (ends_in b) ])
    by_body r None = refl
    by_body r (Some b) =
        let u = entered r at s in
        ap (filter_map (λ e. e)) (sent_ends (follow_all w b (one u n)).0 ∙ ap those_ended (block_ends w b (u ∷ []) n ∙ from_one (ends_in b) u refl)) ∙ roles_there (ends_in b)

    by_role : (o : Option Role) → filter_map (λ e. e) (ends_of (elim o as (λ x. Followed) [ None ↦ ([], n) | Some r ↦ elim r.body [ None ↦ ([], n) | Some b ↦ those_sent (follow_all w b (one (entered r at s) n)) ] ]).0)
        ≡ (elim o as (λ x. List (List ℕ)) [ None ↦ [] | Some r ↦ elim r.body [ None ↦ [] | Some b ↦ filter_map (λ e. e) (ends_in b) ] ])
    by_role None = refl
    by_role (Some r) = by_body r r.body

-- the leaves of some states
abbrev leaf_number : (List ℕ → Bool) → List State → ℕ
leaf_number new ss = length (flat_map (leaf_of new) ss)

leaves_join : (new : List ℕ → Bool) (xs ys : List State) → leaf_number new (xs ++ ys) ≡ leaf_number new xs + leaf_number new ys
leaves_join new xs ys = ap length (flat_append (leaf_of new) xs ys) ∙ length-append (flat_map (leaf_of new) xs) (flat_map (leaf_of new) ys)

-- one leaf of a state that has sent
leaf_one : (new : List ℕ → Bool) (s : State) (at : Place) → s.sent ≡ Some at → leaf_number new (s ∷ []) ≡ 1
leaf_one new s at p = leaf_form s.sent refl
  where
    leaf_form : (o : Option Place) → s.sent ≡ o → length (flat_map (leaf_of new) (s ∷ [])) ≡ 1
    leaf_form None q = absurd (let e : None ≡ Some at = sym q ∙ p in cc)
    leaf_form (Some to) q = ap (λ (x : Option Place). length (elim x as (λ y. List Leaf) [ None ↦ [] | Some z ↦ record { cond = s.cond; choices = s.choices; way = s.way; end = end_at (new z.role) z s.fields } ∷ [] ] ++ [])) q

abbrev AllSent : List State → Type 0
AllSent ss = (s : State) → In s ss → (at : Place) × (s.sent ≡ Some at)

sent_first : (s : State) (ss : List State) (at : Place) → s.sent ≡ Some at → filter_map (λ e. e) (ends_of (s ∷ ss)) ≡ at.role ∷ filter_map (λ e. e) (ends_of ss)
sent_first s ss at p = ap (λ (o : Option Place). filter_map (λ e. e) (option_map (λ (x : Place). x.role) o ∷ ends_of ss)) p

body_sent : (w : TermWorld) (at : Place) (s : State) (n : ℕ) → AllSent (follow_body w at s n).0
body_sent w at s n = by_role (w.role at.role)
  where
    by_body : (r : Role) (o : Option Block) → AllSent (elim o as (λ x. Followed) [ None ↦ ([], n) | Some b ↦ those_sent (follow_all w b (one (entered r at s) n)) ]).0
    by_body r None t i = absurd i
    by_body r (Some b) t i = some_place t.sent (passed has_sent (follow_all w b (one (entered r at s) n)).0 t i).1

    by_role : (o : Option Role) → AllSent (elim o as (λ x. Followed) [ None ↦ ([], n) | Some r ↦ elim r.body [ None ↦ ([], n) | Some b ↦ those_sent (follow_all w b (one (entered r at s) n)) ] ]).0
    by_role None t i = absurd i
    by_role (Some r) t i = by_body r r.body t i

counted_each : (w : TermWorld) (new : List ℕ → Bool) (k : ℕ) → ((s : State) (at : Place) → s.sent ≡ Some at → (n : ℕ) → leaf_number new (hops w new k s n).0 ≡ leaf_count w.role new k at.role)
    → (ss : List State) → AllSent ss → (n : ℕ)
    → leaf_number new (each (onward new (hops w new k)) ss n).0 ≡ sum_of (map (λ r. if new r then leaf_count w.role new k r else 1) (filter_map (λ e. e) (ends_of ss)))
counted_each w new k one_ [] all n = refl
counted_each w new k one_ (s ∷ ss) all n =
    let at = all s (inl refl) in
    let f = onward new (hops w new k) in
    let here : leaf_number new (f s n).0 ≡ (if new at.0.role then leaf_count w.role new k at.0.role else 1) = by_new (at_new new s) at.0 at.1 (new_at new s at.0 at.1) (one_ s at.0 at.1 n) in
    leaves_join new (f s n).0 (each f ss (f s n).1).0
    ∙ (λ j. here j + counted_each w new k one_ ss (λ t i. all t (inr i)) (f s n).1 j)
    ∙ sym (ap (λ rs. sum_of (map (λ r. if new r then leaf_count w.role new k r else 1) rs)) (sent_first s ss at.0 at.1))
  where
    by_new : (b : Bool) (at : Place) → s.sent ≡ Some at → b ≡ new at.role → leaf_number new (hops w new k s n).0 ≡ leaf_count w.role new k at.role
        → leaf_number new (if b then hops w new k s n else one s n).0 ≡ (if new at.role then leaf_count w.role new k at.role else 1)
    by_new true at p e h = h ∙ ap (λ b. if b then leaf_count w.role new k at.role else 1) e
    by_new false at p e h = leaf_one new s at p ∙ ap (λ b. if b then leaf_count w.role new k at.role else 1) e

pub hops_counted : (w : TermWorld) (new : List ℕ → Bool) (k : ℕ) (s : State) (at : Place) → s.sent ≡ Some at → (n : ℕ) → length (flat_map (leaf_of new) (hops w new k s n).0) ≡ leaf_count w.role new k at.role
hops_counted w new zero s at p n = leaf_one new s at p
hops_counted w new (suc k) s at p n =
    let led = follow_body w at s n in
    ap (λ (o : Option Place). leaf_number new (elim o as (λ x. Followed) [ None ↦ ([], n) | Some to ↦ each (onward new (hops w new k)) (follow_body w to s n).0 (follow_body w to s n).1 ]).0) p
    ∙ counted_each w new k (hops_counted w new k) led.0 (body_sent w at s n) led.1
    ∙ ap (λ rs. sum_of (map (λ r. if new r then leaf_count w.role new k r else 1) rs)) (body_ends w at s n)
