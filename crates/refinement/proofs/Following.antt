-- The heart of it: a run follows a path of its body. With other choices, of which each that differs occurs neither in a
-- condition of the path nor in what it sends, the body runs along the same path and sends the same.
use Rattle.std.proofs.Common.{◌≡◌, ◌⊎◌, inl, inr, ℕ, suc, ◌+◌, ◌≤◌, ◌<◌, ◌^◌, ◌==◌, ◌&&◌, ◌||◌, List, [], ◌∷◌, ◌++◌, map, length, reverse, not, Bool, true, false, cond, Option, Some, None, is_some, option_map, option_and_then, refl, sym, ap, subst, ◌∙◌, arith}
use Rattle.std.specs.Prelude.{filter as list_filter, flat_map}
use Rattle.std.proofs.lemmas.List.{append_assoc, reverse-append}
use Rattle.std.proofs.lemmas.Bool.Decides.{nat_tests}
use Rattle.cocoon_num.specs.PacketForms.{PacketFits}
use Rattle.cocoon_num.specs.Packets.{Packet}
use Rattle.cocoon_num.specs.Sorts.{bits_sort, Sort}
use Rattle.cocoon_num.specs.Tree.{Name, Expr, Exprs, no_exprs, expr, Stmt, let_, set_field, if_, filter, havoc_var, havoc_field, assume, fork, send, Block, no_stmts, stmt, Role, Design}
use Rattle.cocoon_num.specs.Values.{as_number, FitsWidth, number, truth, Value, with_both}
use Rattle.cocoon_types.specs.Design.{field_width, layout, write_field}
use Rattle.cocoon_types.specs.Parts.{list_of, parts, parts_of}
use Rattle.cocoon_types.specs.ReadBack.{all_replaced, choice, chooses, is_choice_at, leaves, meets, occurs, Path, paths, paths_in, replaced, unless_sent, Var, with_field_as, with_var_as}
use Rattle.cocoon_types.specs.Runs.{back_to, CanStand, Does, DoesAll, End, falls, Loc, sends, World}
use Rattle.cocoon_types.specs.Sites.{after_stmt}
use Rattle.cocoon_types.specs.Typing.{Scope, with_var}
use Rattle.cocoon_types.specs.Val.{bound, Context, Env, numbers, value}
use Rattle.refinement.specs.Indices.{block_indices, stmt_indices}
use Rattle.sound_types.specs.Ends.{after_block}
use Rattle.sound_types.specs.Matching.{Binds, HasValue, IsOfSort, Matches}
use Rattle.sound_types.specs.Soundness.{IsSound}
use Rattle.sound_types.specs.WellTyped.{HasType, IsTyped, IsTypedStmt}
use Rattle.sound_types.proofs.Fields.{written_fits}
use Rattle.sound_types.proofs.Members.{In, in_flat, in_left, in_map, in_right}
use Rattle.refinement.proofs.Beside.{PacketBy, set_by_width, VarsBy}
use Rattle.refinement.proofs.Counts.{count_append, count_of, length_append, map_append, parted}
use Rattle.std.proofs.lemmas.List.Folds.{list_any-append}
use Rattle.refinement.proofs.Same.{AllClear, choice_value, Held, held_value, IsClear, NoneOf, same_numbers, same_value}

-- the numbers of a choice differ
abbrev pub differ : (f g : ℕ → ℕ) → ℕ → Bool
differ f g c = not (f c == g c)

-- each number of the second is that of the first, or 0
abbrev pub IsTried : (f g : ℕ → ℕ) → Type 0
IsTried f g = (c : ℕ) → (g c ≡ f c) ⊎ (g c ≡ 0)

-- the values of a path that sends are clear
abbrev pub SentClear : (ℕ → Bool) → Option (List Expr) → Type 0
SentClear f None = Unit {0}
SentClear f (Some es) = AllClear f es

-- a value that is sent and is a choice is the number of that
abbrev pub ArgsAre : (ℕ → ℕ) → List Expr → List ℕ → Type 0
ArgsAre s [] [] = Unit {0}
ArgsAre s (e ∷ es) (n ∷ ns) = ((c : ℕ) → is_choice_at c e ≡ true → n ≡ s c) × ArgsAre s es ns
ArgsAre s _ _ = ⊥

-- a path has sent if its run has
abbrev pub EndsAs : Path → End → Type 0
EndsAs p (falls env packet) = p.sent ≡ None
EndsAs p (sends to packet) = (es : List Expr) × (p.sent ≡ Some es)

-- ---- small facts

there : (t : Sort) (o : Option Value) → HasValue t o → (v : Value) × (o ≡ Some v) × IsOfSort t v
there t None h = absurd h
there t (Some v) h = (v, refl, h)

number_there : (w : ℕ) (o : Option Value) → HasValue (bits_sort w) o → (n : ℕ) × (o ≡ Some (number w n)) × (n < 2 ^ w)
number_there w None h = absurd h
number_there w (Some (truth b)) h = absurd h
number_there w (Some (number v n)) h = (n, ap (λ x. Some (number x n)) h.0, h.1)

kept_by : {A : Type 0} (b : Bool) (x y : A) (rest : List A) → ((x ≡ y) × (b ≡ true)) ⊎ In x rest → In x (cond b (y ∷ rest) rest)
kept_by true x y rest h = elim h [ inl q ↦ inl q.0 | inr l ↦ inr l ]
kept_by false x y rest h = elim h [ inl q ↦ absurd (no q.1) | inr l ↦ l ]
  where
    no : false ≡ true → ⊥
    no e = cc

in_kept : {A : Type 0} (f : A → Bool) (x : A) (xs : List A) → In x xs → f x ≡ true → In x (list_filter f xs)
in_kept f x [] h k = absurd h
in_kept f x (y ∷ xs) h k = kept_by (f y) x y (list_filter f xs) (elim h [ inl q ↦ inl (q, ap f (sym q) ∙ k) | inr l ↦ inr (in_kept f x xs l k) ])

has_sent : (p : Path) → (es : List Expr) × (p.sent ≡ Some es) → is_some p.sent ≡ true
has_sent p h = ap (λ (o : Option (List Expr)). is_some o) h.1

is_none : (f : Path → List Path) (p q : Path) → p.sent ≡ None → In q (f p) → In q (unless_sent f p)
is_none f p q h k = subst (λ (o : Option (List Expr)). In q (elim o [ None ↦ f p | Some es ↦ p ∷ [] ])) (sym h) k

is_sent : (f : Path → List Path) (p : Path) → (es : List Expr) × (p.sent ≡ Some es) → In p (unless_sent f p)
is_sent f p h = subst (λ (o : Option (List Expr)). In p (elim o [ None ↦ f p | Some es ↦ p ∷ [] ])) (sym h.1) (inl refl)

fits_tried : (w : ℕ) (f g : ℕ → ℕ) → IsTried f g → (c n : ℕ) → FitsWidth w n → n ≡ f c → FitsWidth w (g c)
fits_tried w f g tried c n h e = elim (tried c) [
  | inl q ↦ subst (FitsWidth w) (e ∙ sym q) h
  | inr q ↦ subst (FitsWidth w) (sym q) (omega (arith, h))
]

not_self : (b : Bool) → b ≡ true → ((b && true) || false) ≡ false → ⊥
not_self true h k = cc
not_self false h k = cc

choice_self : (at : ℕ) → (at == at) ≡ true
choice_self at = grind arith

equal_by : (b : Bool) (x y : ℕ) → (x == y) ≡ b → (not b ≡ true → ⊥) → x ≡ y
equal_by true x y e h = grind (arith, e)
equal_by false x y e h = absurd (h refl)

made_clear : (f g : ℕ → ℕ) (at : ℕ) → IsClear (differ f g) (choice at) → f at ≡ g at
made_clear f g at clear = equal_by (f at == g at) (f at) (g at) refl (λ q. not_self (at == at) (choice_self at) (clear at q))

and_yes : (b : Bool) → (b && true) ≡ true → b ≡ true
and_yes true h = refl
and_yes false h = absurd (cc)

same_choice : (c at : ℕ) → is_choice_at c (choice at) ≡ true → c ≡ at
same_choice c at q = let e = and_yes (c == at) q in grind (arith, e)

-- what is held of a choice that is made
made_held : (f g : ℕ → ℕ) (w n at : ℕ) → n ≡ f at → Held (differ f g) f (choice at) (number w n) (number w (g at))
made_held f g w n at e = (
  λ clear. ap (number w) (e ∙ made_clear f g at clear),
  λ c q. ap Some (e ∙ ap f (sym (same_choice c at q))),
)

args_are : (f : ℕ → Bool) (s : ℕ → ℕ) (c : Context) (p : Path) (env es : Env) (packet other : Packet) → VarsBy (Held f s) p.vars env es → PacketBy (Held f s) c.headers p.fields packet other
    → (xs : Exprs) (ns : List ℕ) → numbers c env packet xs ≡ Some ns → ArgsAre s (list_of (all_replaced p xs)) ns
args_are f s c p env es packet other vars fields no_exprs [] h = tt
args_are f s c p env es packet other vars fields no_exprs (n ∷ ns) h = absurd (cc)
args_are f s c p env es packet other vars fields (expr e xs) ns h =
    let both = both_there (option_and_then as_number (value c env packet e)) (numbers c env packet xs) ns h in
    let v = then_there as_number (value c env packet e) both.0 both.2 in
    subst (ArgsAre s (list_of (all_replaced p (expr e xs)))) both.4
    ((λ k q. (let t : Some (both.0) ≡ Some (s k) = sym v.2 ∙ choice_value f s c p env es packet other vars fields e v.0 v.1 k q in cc)), args_are f s c p env es packet other vars fields xs both.1 both.3)
  where
    then_there : {A B : Type 0} (g : A → Option B) (o : Option A) (b : B) → option_and_then g o ≡ Some b → (a : A) × (o ≡ Some a) × (g a ≡ Some b)
    then_there g None b h = absurd (cc)
    then_there g (Some a) b h = (a, refl, h)

    both_there : (x : Option ℕ) (y : Option (List ℕ)) (zs : List ℕ) → with_both (λ n ns. Some (n ∷ ns)) x y ≡ Some zs → (n : ℕ) × (ns : List ℕ) × (x ≡ Some n) × (y ≡ Some ns) × (n ∷ ns ≡ zs)
    both_there None y zs h = absurd (cc)
    both_there (Some n) None zs h = absurd (cc)
    both_there (Some n) (Some ns) zs h = (n, ns, refl, refl, cc)

-- ---- a run and a path of its body

module _ (d : Design) (apply : List ℕ → List ℕ → Option Value) (role : List ℕ → Option Role) (sound : IsSound d (record { headers = d.headers; apply = apply })) where
  abbrev w : World
  w = record { context = record { headers = d.headers; apply = apply }; role = role }

  -- what holds of two runs where a path stands
  abbrev pub Beside : (f g : ℕ → ℕ) → Path → Scope → Env → Packet → Env → Packet → Type 0
  Beside f g p sc env packet es other =
      VarsBy (Held (differ f g) f) p.vars env es × PacketBy (Held (differ f g) f) d.headers p.fields packet other
      × Binds sc.vars es × PacketFits (layout d) other

  -- and where it has ended
  abbrev pub Ended : (f g : ℕ → ℕ) → Path → Scope → End → End → Type 0
  Ended f g p sc (falls env packet) (falls es other) = Beside f g p sc env packet es other
  Ended f g p sc (sends to packet) (sends at other) =
      (at ≡ to) × ((es : List Expr) → p.sent ≡ Some es → ArgsAre f es to.values)
      × PacketBy (Held (differ f g) f) d.headers p.fields packet other × PacketFits (layout d) other
  Ended f g p sc _ _ = ⊥

  -- one of these paths is that of a run, which makes these choices; with others, of which those that differ occur neither
  -- in its conditions nor in what it sends, the run goes along it too
  pub record Follows (found : List Path) (indices : List ℕ) (does : Env → Packet → List ℕ → End → Type 0) (p : Path) (sc sc' : Scope) (env : Env) (packet : Packet) (cs : List ℕ) (end : End) : Type 0 where
    pub path : Path
    pub made : List ℕ
    pub among : In path found
    pub choices : path.choices ≡ reverse made ++ p.choices
    pub count : length made ≡ length cs
    pub part : (c : ℕ) → count_of c made ≤ count_of c indices
    pub ended : EndsAs path end
    pub before : (f : ℕ → Bool) → AllClear f path.conditions → AllClear f p.conditions
    pub runs : (f g : ℕ → ℕ) → cs ≡ map f made → IsTried f g → (es : Env) (other : Packet) → Beside f g p sc env packet es other
        → AllClear (differ f g) path.conditions → SentClear (differ f g) path.sent → (end' : End) × does es other (map g made) end' × Ended f g path sc' end end'

  abbrev FollowsStmt : Stmt → Path → Scope → Env → Packet → List ℕ → End → Type 0
  FollowsStmt s p sc env packet cs end = Follows (paths s p) (stmt_indices s) (Does w s) p sc (after_stmt s sc) env packet cs end

  abbrev FollowsAll : Block → Path → Scope → Env → Packet → List ℕ → End → Type 0
  FollowsAll b p sc env packet cs end = Follows (paths_in b p) (block_indices b) (DoesAll w b) p sc (after_block b sc) env packet cs end

  matches : (f g : ℕ → ℕ) (p : Path) (sc : Scope) (env : Env) (packet : Packet) (es : Env) (other : Packet) → sc.design ≡ d → Beside f g p sc env packet es other → Matches sc es other
  matches f g p sc env packet es other e h = record { variables = h.2; packet_fits = λ q. subst (λ x. PacketFits (layout x) other) (sym e) h.3 }

  -- the value of a well-typed expression beside another run
  typed_number : (f g : ℕ → ℕ) (p : Path) (sc : Scope) (env : Env) (packet : Packet) (es : Env) (other : Packet) → sc.design ≡ d → Beside f g p sc env packet es other
      → (width : ℕ) (e : Expr) → HasType sc (bits_sort width) e → (n : ℕ) × (value w.context es other e ≡ Some (number width n)) × (n < 2 ^ width)
  typed_number f g p sc env packet es other same h width e typed =
      number_there width (value w.context es other e) (sound.values sc es other same (matches f g p sc env packet es other same h) (bits_sort width) e typed)

  -- a condition is as it was
  still : (f g : ℕ → ℕ) (p : Path) (sc : Scope) (env : Env) (packet : Packet) (es : Env) (other : Packet) → Beside f g p sc env packet es other
      → (e : Expr) → IsClear (differ f g) (replaced p e) → (b : Bool) → value w.context env packet e ≡ Some (truth b) → value w.context es other e ≡ Some (truth b)
  still f g p sc env packet es other h e clear b q =
      sym (same_value (differ f g) f w.context p env es packet other h.0 h.1 e clear) ∙ q

  -- ---- statements without blocks

  let_follows : (at : ℕ) (x : Name) (width : ℕ) (e : Expr) (p : Path) → p.sent ≡ None → (sc : Scope) → sc.design ≡ d → IsTypedStmt sc (let_ at x width e)
      → (env : Env) (packet : Packet) (v : Value) → value w.context env packet e ≡ Some v → FollowsStmt (let_ at x width e) p sc env packet [] (falls (bound x.text v env) packet)
  let_follows at x width e p unsent sc same typed env packet v q = record {
    path = with_var_as x (replaced p e) p;
    made = [];
    among = inl refl;
    choices = refl;
    count = refl;
    part = λ c. omega arith;
    ended = unsent;
    before = λ f h. h;
    runs = λ f g cs tried es other h clear sent.
        let t = typed_number f g p sc env packet es other same h width e typed.1 in
        let held = held_value (differ f g) f w.context p env es packet other h.0 h.1 e v (number width t.0) q t.1 in (
          falls (bound x.text (number width t.0) es) other,
          (number width t.0, t.1, refl, refl),
          ((refl, refl, held, h.0), h.1, (refl, (refl, t.2), h.2), h.3),
        );
  }

  set_follows : (at : ℕ) (a b : Name) (e : Expr) (p : Path) → p.sent ≡ None → (sc : Scope) → sc.design ≡ d → IsTypedStmt sc (set_field at a b e)
      → (env : Env) (packet : Packet) (v : Value) (n : ℕ) → value w.context env packet e ≡ Some v → as_number v ≡ Some n
      → FollowsStmt (set_field at a b e) p sc env packet [] (falls env (write_field d.headers packet a.text b.text n))
  set_follows at a b e p unsent sc same typed env packet v n q r = record {
    path = with_field_as a b (replaced p e) p;
    made = [];
    among = inl refl;
    choices = refl;
    count = refl;
    part = λ c. omega arith;
    ended = unsent;
    before = λ f h. h;
    runs = λ f g cs tried es other h clear sent.
        let width = typed.0 in
        let declared : field_width d.headers a.text b.text ≡ Some width = ap (λ hs. field_width hs a.text b.text) (ap (λ (x : Design). x.headers) (sym same)) ∙ typed.1 in
        let t = typed_number f g p sc env packet es other same h width e typed.2 in
        let held = held_value (differ f g) f w.context p env es packet other h.0 h.1 e v (number width t.0) q t.1 in
        let held' : Held (differ f g) f (replaced p e) (number width n) (number width t.0) = (
          λ c. number_in width v n t.0 r (held.0 c),
          λ c k. sym r ∙ held.1 c k,
        ) in (
          falls es (write_field d.headers other a.text b.text t.0),
          (number width t.0, t.0, t.1, refl, refl, refl),
          (
            h.0,
            set_by_width (Held (differ f g) f) d.headers p.fields packet other a b (replaced p e) width n t.0 declared held' h.1,
            h.2,
            written_fits d.headers other h.3 a.text b.text width t.0 t.2 declared,
          ),
        );
  }
    where
      number_in : (width : ℕ) (v : Value) (n m : ℕ) → as_number v ≡ Some n → v ≡ number width m → number width n ≡ number width m
      number_in width v n m r k = let t : Some n ≡ Some m = sym r ∙ ap as_number k in cc

  filter_follows : (s : Stmt) (e : Expr) (p : Path) → p.sent ≡ None → (sc : Scope) (env : Env) (packet : Packet) → value w.context env packet e ≡ Some (truth true)
      → (made : In (meets e p) (paths s p)) → ((es : Env) (other : Packet) → value w.context es other e ≡ Some (truth true) → Does w s es other [] (falls es other))
      → Follows (paths s p) (stmt_indices s) (Does w s) p sc sc env packet [] (falls env packet)
  filter_follows s e p unsent sc env packet q among does = record {
    path = meets e p;
    made = [];
    among = among;
    choices = refl;
    count = refl;
    part = λ c. omega arith;
    ended = unsent;
    before = λ f h. h.1;
    runs = λ f g cs tried es other h clear sent. (falls es other, does es other (still f g p sc env packet es other h e clear.0 true q), h);
  }

  choose_follows : (at : ℕ) (x : Name) (width : ℕ) (p : Path) → p.sent ≡ None → (sc : Scope) (env : Env) (packet : Packet) (n : ℕ) → FitsWidth width n
      → FollowsStmt (havoc_var at x width) p sc env packet (n ∷ []) (falls (bound x.text (number width n) env) packet)
  choose_follows at x width p unsent sc env packet n fits = record {
    path = with_var_as x (choice at) (chooses at p);
    made = at ∷ [];
    among = inl refl;
    choices = refl;
    count = refl;
    part = λ c. omega arith;
    ended = unsent;
    before = λ f h. h;
    runs = λ f g cs tried es other h clear sent.
        let e : n ≡ f at = cc in
        let fit = fits_tried width f g tried at n fits e in (
          falls (bound x.text (number width (g at)) es) other,
          (g at, fit, refl, refl),
          ((refl, refl, made_held f g width n at e, h.0), h.1, (refl, (refl, fit), h.2), h.3),
        );
  }

  choose_field_follows : (at : ℕ) (a b : Name) (p : Path) → p.sent ≡ None → (sc : Scope) (env : Env) (packet : Packet) (n width : ℕ) → field_width d.headers a.text b.text ≡ Some width → FitsWidth width n
      → FollowsStmt (havoc_field at a b) p sc env packet (n ∷ []) (falls env (write_field d.headers packet a.text b.text n))
  choose_field_follows at a b p unsent sc env packet n width declared fits = record {
    path = with_field_as a b (choice at) (chooses at p);
    made = at ∷ [];
    among = inl refl;
    choices = refl;
    count = refl;
    part = λ c. omega arith;
    ended = unsent;
    before = λ f h. h;
    runs = λ f g cs tried es other h clear sent.
        let e : n ≡ f at = cc in
        let fit = fits_tried width f g tried at n fits e in (
          falls es (write_field d.headers other a.text b.text (g at)),
          (g at, width, declared, fit, refl, refl),
          (
            h.0,
            set_by_width (Held (differ f g) f) d.headers p.fields packet other a b (choice at) width n (g at) declared (made_held f g width n at e) h.1,
            h.2,
            written_fits d.headers other h.3 a.text b.text width (g at) fit declared,
          ),
        );
  }

  all_none : (f : ℕ → Bool) (p : Path) (xs : Exprs) → AllClear f (list_of (all_replaced p xs)) → NoneOf f (parts_of (all_replaced p xs))
  all_none f p no_exprs h c q = refl
  all_none f p (expr e xs) h c q =
      list_any-append (is_choice_at c) (parts (replaced p e)) (parts_of (all_replaced p xs))
      ∙ (λ i. h.0 c q i || all_none f p xs h.1 c q i)

  send_follows : (at : ℕ) (r : Name) (xs : Exprs) (p : Path) (sc : Scope) (env : Env) (packet : Packet) (ns : List ℕ) → numbers w.context env packet xs ≡ Some ns
      → CanStand w (record { role = r.text; values = ns }) → FollowsStmt (send at r xs) p sc env packet [] (sends (record { role = r.text; values = ns }) packet)
  send_follows at r xs p sc env packet ns q stands = record {
    path = record p { sent = Some (list_of (all_replaced p xs)) };
    made = [];
    among = inl refl;
    choices = refl;
    count = refl;
    part = λ c. omega arith;
    ended = (list_of (all_replaced p xs), refl);
    before = λ f h. h;
    runs = λ f g cs tried es other h clear sent.
        let same = same_numbers (differ f g) f w.context p env es packet other h.0 h.1 xs (all_none (differ f g) p xs sent) in
        let args = args_are (differ f g) f w.context p env es packet other h.0 h.1 xs ns q in (
          sends (record { role = r.text; values = ns }) other,
          (ns, sym same ∙ q, stands, refl, refl),
          (refl, (λ zs k. let e : list_of (all_replaced p xs) ≡ zs = cc in subst (λ z. ArgsAre f z ns) e args), h.1, h.3),
        );
  }

  -- ---- branches

  leaving : (f g : ℕ → ℕ) (p q : Path) (sc inside : Scope) (env es : Env) (packet other : Packet) → Beside f g p sc env packet es other → (end end' : End) → Ended f g q inside end end'
      → Ended f g (leaves p.vars q) sc (back_to env end) (back_to es end')
  leaving f g p q sc inside env es packet other h (falls env' packet') (falls es' other') k = (h.0, k.1, h.2, k.3)
  leaving f g p q sc inside env es packet other h (falls env' packet') (sends at other') k = absurd k
  leaving f g p q sc inside env es packet other h (sends to packet') (falls es' other') k = absurd k
  leaving f g p q sc inside env es packet other h (sends to packet') (sends at other') k = k

  ends_out : (vars : List Var) (q : Path) (env : Env) (end : End) → EndsAs q end → EndsAs (leaves vars q) (back_to env end)
  ends_out vars q env (falls env' packet) h = h
  ends_out vars q env (sends to packet) h = h

  branch_follows : (at : ℕ) (e : Expr) (first second b : Block) (t : Bool) (p : Path) (sc : Scope) (env : Env) (packet : Packet) (cs : List ℕ) (end : End)
      → value w.context env packet e ≡ Some (truth t) → (q : FollowsAll b (meets e p) sc env packet cs end)
      → ((x : Path) → In x (paths_in b (meets e p)) → In (leaves p.vars x) (paths (if_ at e first second) p))
      → ((c : ℕ) → count_of c (block_indices b) ≤ count_of c (stmt_indices (if_ at e first second)))
      → ((es : Env) (other : Packet) (ns : List ℕ) (end' : End) → value w.context es other e ≡ Some (truth t) → DoesAll w b es other ns end' → Does w (if_ at e first second) es other ns (back_to es end'))
      → FollowsStmt (if_ at e first second) p sc env packet cs (back_to env end)
  branch_follows at e first second b t p sc env packet cs end is q among part does = record {
    path = leaves p.vars q.path;
    made = q.made;
    among = among q.path q.among;
    choices = q.choices;
    count = q.count;
    part = λ c. (let x = q.part c in let y = part c in omega (arith, x, y));
    ended = ends_out p.vars q.path env end q.ended;
    before = λ f h. (q.before f h).1;
    runs = λ f g k tried es other h clear sent.
        let r = q.runs f g k tried es other h clear sent in (
          back_to es r.0,
          does es other (map g q.made) r.0 (still f g p sc env packet es other h e (q.before (differ f g) clear).0 t is) r.1,
          leaving f g p q.path sc (after_block b sc) env es packet other h end r.0 r.2,
        );
  }

  sent_there : (f g : ℕ → ℕ) (q : Path) (sc : Scope) (to : Loc) (packet : Packet) (end' : End) → Ended f g q sc (sends to packet) end' → (other : Packet) × (end' ≡ sends to other)
  sent_there f g q sc to packet (falls es other) h = absurd h
  sent_there f g q sc to packet (sends at other) h = (other, ap (λ x. sends x other) h.0)

  as_sent : (f g : ℕ → ℕ) (q : Path) (sc other_scope : Scope) (to : Loc) (packet : Packet) (end' : End) → Ended f g q sc (sends to packet) end' → Ended f g q other_scope (sends to packet) end'
  as_sent f g q sc other_scope to packet (falls es other) h = absurd h
  as_sent f g q sc other_scope to packet (sends at other) h = h

  -- the path where the body of a fork begins
  abbrev inner : ℕ → Name → Expr → Path → Path
  inner at x e p = meets e (with_var_as x (choice at) (chooses at p))

  fork_follows : (at : ℕ) (x : Name) (width : ℕ) (e : Expr) (b : Block) (p : Path) (sc : Scope) (env : Env) (packet : Packet) (n : ℕ) (rest : List ℕ) (to : Loc) (sent : Packet)
      → FitsWidth width n → value w.context (bound x.text (number width n) env) packet e ≡ Some (truth true)
      → FollowsAll b (meets e (with_var_as x (choice at) (chooses at p))) (with_var x width sc) (bound x.text (number width n) env) packet rest (sends to sent)
      → FollowsStmt (fork at x width e b) p sc env packet (n ∷ rest) (sends to sent)
  fork_follows at x width e b p sc env packet n rest to sent fits is q = record {
    path = q.path;
    made = at ∷ q.made;
    among = in_kept (λ (y : Path). is_some y.sent) q.path (paths_in b (inner at x e p)) q.among (has_sent q.path q.ended);
    choices = q.choices ∙ sym (ap (λ xs. xs ++ p.choices) (reverse-append (at ∷ []) q.made) ∙ append_assoc (reverse q.made) (at ∷ []) p.choices);
    count = ap suc q.count;
    part = λ c. (let y = q.part c in omega (arith, y));
    ended = q.ended;
    before = λ f h. (q.before f h).1;
    runs = λ f g k tried es other h clear done.
        let e0 : n ≡ f at = cc in
        let more : rest ≡ map f q.made = cc in
        let fit = fits_tried width f g tried at n fits e0 in
        let inside : Beside f g (inner at x e p) (with_var x width sc) (bound x.text (number width n) env) packet (bound x.text (number width (g at)) es) other =
        ((refl, refl, made_held f g width n at e0, h.0), h.1, (refl, (refl, fit), h.2), h.3) in
        let r = q.runs f g more tried (bound x.text (number width (g at)) es) other inside clear done in
        let s = sent_there f g q.path (after_block b (with_var x width sc)) to sent r.0 r.2 in
        let true' = still f g (with_var_as x (choice at) (chooses at p)) (with_var x width sc) (bound x.text (number width n) env) packet (bound x.text (number width (g at)) es) other inside e (q.before (differ f g) clear).0 true is in (
          sends to s.0,
          (g at, map g q.made, to, s.0, fit, refl, true', subst (DoesAll w b (bound x.text (number width (g at)) es) other (map g q.made)) s.1 r.1, refl),
          subst (Ended f g q.path sc (sends to sent)) s.1 (as_sent f g q.path (after_block b (with_var x width sc)) sc to sent r.0 r.2),
        );
  }

  -- ---- blocks

  after_design : (s : Stmt) (sc : Scope) → (after_stmt s sc).design ≡ sc.design
  after_design (let_ at x width e) sc = refl
  after_design (set_field at a b e) sc = refl
  after_design (if_ at e first second) sc = refl
  after_design (filter at e) sc = refl
  after_design (havoc_var at x width) sc = refl
  after_design (havoc_field at a b) sc = refl
  after_design (assume at e) sc = refl
  after_design (fork at x width e b) sc = refl
  after_design (send at r es) sc = refl

  fell : (f g : ℕ → ℕ) (q : Path) (sc : Scope) (env : Env) (packet : Packet) (end' : End) → Ended f g q sc (falls env packet) end' → (es : Env) × (other : Packet) × (end' ≡ falls es other) × Beside f g q sc env packet es other
  fell f g q sc env packet (falls es other) h = (es, other, refl, h)
  fell f g q sc env packet (sends at other) h = absurd h

  not_sent : (f : ℕ → Bool) (p : Path) → p.sent ≡ None → SentClear f p.sent
  not_sent f p h = subst (SentClear f) (sym h) tt

  then_follows : (s : Stmt) (rest : Block) (p : Path) (sc : Scope) (env env' : Env) (packet packet' : Packet) (first more : List ℕ) (end : End)
      → (q : FollowsStmt s p sc env packet first (falls env' packet')) → FollowsAll rest q.path (after_stmt s sc) env' packet' more end → FollowsAll (stmt s rest) p sc env packet (first ++ more) end
  then_follows s rest p sc env env' packet packet' first more end q r = record {
    path = r.path;
    made = q.made ++ r.made;
    among = in_flat (unless_sent (paths_in rest)) q.path (paths s p) r.path q.among (is_none (paths_in rest) q.path r.path q.ended r.among);
    choices = r.choices ∙ ap (λ xs. reverse r.made ++ xs) q.choices ∙ sym (append_assoc (reverse r.made) (reverse q.made) p.choices) ∙ ap (λ xs. xs ++ p.choices) (sym (reverse-append q.made r.made));
    count = length_append q.made r.made ∙ (λ i. q.count i + r.count i) ∙ sym (length_append first more);
    part = λ c.
        let x = q.part c in
        let y = r.part c in
        let l = count_append c q.made r.made in
        let m = count_append c (stmt_indices s) (block_indices rest) in
        omega (arith, x, y, l, m);
    ended = r.ended;
    before = λ f h. q.before f (r.before f h);
    runs = λ f g k tried es other h clear sent.
        let parts = parted f q.made r.made first more q.count k in
        let a = q.runs f g parts.0 tried es other h (r.before (differ f g) clear) (not_sent (differ f g) q.path q.ended) in
        let b = fell f g q.path (after_stmt s sc) env' packet' a.0 a.2 in
        let c = r.runs f g parts.1 tried b.0 b.1 b.3 clear sent in (
          c.0,
          inl (b.0, b.1, map g q.made, map g r.made, subst (Does w s es other (map g q.made)) b.2 a.1, c.1, map_append g q.made r.made),
          c.2,
        );
  }

  ends_follows : (s : Stmt) (rest : Block) (p : Path) (sc : Scope) (env : Env) (packet : Packet) (cs : List ℕ) (to : Loc) (sent : Packet)
      → FollowsStmt s p sc env packet cs (sends to sent) → FollowsAll (stmt s rest) p sc env packet cs (sends to sent)
  ends_follows s rest p sc env packet cs to sent q = record {
    path = q.path;
    made = q.made;
    among = in_flat (unless_sent (paths_in rest)) q.path (paths s p) q.path q.among (is_sent (paths_in rest) q.path q.ended);
    choices = q.choices;
    count = q.count;
    part = λ c. (let x = q.part c in let m = count_append c (stmt_indices s) (block_indices rest) in omega (arith, x, m));
    ended = q.ended;
    before = q.before;
    runs = λ f g k tried es other h clear done.
        let a = q.runs f g k tried es other h clear done in
        let t = sent_there f g q.path (after_stmt s sc) to sent a.0 a.2 in (
          sends to t.0,
          inr (to, t.0, subst (Does w s es other (map g q.made)) t.1 a.1, refl),
          subst (Ended f g q.path (after_block (stmt s rest) sc) (sends to sent)) t.1 (as_sent f g q.path (after_stmt s sc) (after_block (stmt s rest) sc) to sent a.0 a.2),
        );
  }

  mutual
    pub stmt_follows : (s : Stmt) (p : Path) → p.sent ≡ None → (sc : Scope) → sc.design ≡ d → IsTypedStmt sc s → (env : Env) (packet : Packet) (cs : List ℕ) (end : End) → Does w s env packet cs end → FollowsStmt s p sc env packet cs end
    stmt_follows (let_ at x width e) p unsent sc same typed env packet cs end h = rw (h.2, h.3) (let_follows at x width e p unsent sc same typed env packet h.0 h.1)
    stmt_follows (set_field at a b e) p unsent sc same typed env packet cs end h = rw (h.4, h.5) (set_follows at a b e p unsent sc same typed env packet h.0 h.1 h.2 h.3)
    stmt_follows (if_ at e first second) p unsent sc same typed env packet cs end h =
        elim h.2 [
          | inl k ↦ rw h.1 (branch_follows at e first second first true p sc env packet cs h.0 k.0 (block_follows first (meets e p) unsent sc same typed.1 env packet cs h.0 k.1)
              (λ x q. in_left (leaves p.vars x) (map (leaves p.vars) (paths_in first (meets e p))) (map (leaves p.vars) (paths_in second (meets e p))) (in_map (leaves p.vars) x (paths_in first (meets e p)) q))
              (λ c. let m = count_append c (block_indices first) (block_indices second) in omega (arith, m))
              (λ es other ns end' t all. (end', refl, inl (t, all))))
          | inr k ↦ rw h.1 (branch_follows at e first second second false p sc env packet cs h.0 k.0 (block_follows second (meets e p) unsent sc same typed.2 env packet cs h.0 k.1)
              (λ x q. in_right (leaves p.vars x) (map (leaves p.vars) (paths_in first (meets e p))) (map (leaves p.vars) (paths_in second (meets e p))) (in_map (leaves p.vars) x (paths_in second (meets e p)) q))
              (λ c. let m = count_append c (block_indices first) (block_indices second) in omega (arith, m))
              (λ es other ns end' t all. (end', refl, inr (t, all))))
        ]
    stmt_follows (filter at e) p unsent sc same typed env packet cs end h = rw (h.1, h.2) (filter_follows (filter at e) e p unsent sc env packet h.0 (inl refl) (λ es other t. (t, refl, refl)))
    stmt_follows (havoc_var at x width) p unsent sc same typed env packet cs end h = rw (h.2, h.3) (choose_follows at x width p unsent sc env packet h.0 h.1)
    stmt_follows (havoc_field at a b) p unsent sc same typed env packet cs end h = rw (h.4, h.5) (choose_field_follows at a b p unsent sc env packet h.0 h.1 h.2 h.3)
    stmt_follows (assume at e) p unsent sc same typed env packet cs end h = rw (h.1, h.2) (filter_follows (assume at e) e p unsent sc env packet h.0 (inl refl) (λ es other t. (t, refl, refl)))
    stmt_follows (fork at x width e b) p unsent sc same typed env packet cs end h =
        rw (h.5, h.8) (fork_follows at x width e b p sc env packet h.0 h.1 h.2 h.3 h.4 h.6
        (block_follows b (meets e (with_var_as x (choice at) (chooses at p))) unsent (with_var x width sc) same typed.2 (bound x.text (number width h.0) env) packet h.1 (sends h.2 h.3) h.7))
    stmt_follows (send at r es) p unsent sc same typed env packet cs end h = rw (h.3, h.4) (send_follows at r es p sc env packet h.0 h.1 h.2)

    pub block_follows : (b : Block) (p : Path) → p.sent ≡ None → (sc : Scope) → sc.design ≡ d → IsTyped sc b → (env : Env) (packet : Packet) (cs : List ℕ) (end : End) → DoesAll w b env packet cs end → FollowsAll b p sc env packet cs end
    block_follows no_stmts p unsent sc same typed env packet cs end h = rw (h.0, h.1) (record {
      path = p;
      made = [];
      among = inl refl;
      choices = refl;
      count = refl;
      part = λ c. omega arith;
      ended = unsent;
      before = λ f k. k;
      runs = λ f g k tried es other h clear sent. (falls es other, (refl, refl), h);
    })
    block_follows (stmt s rest) p unsent sc same typed env packet cs end h = elim h [
      | inl k ↦
          let q = stmt_follows s p unsent sc same typed.0 env packet k.2 (falls k.0 k.1) k.4 in
          let r = block_follows rest q.path q.ended (after_stmt s sc) (after_design s sc ∙ same) typed.1 k.0 k.1 k.3 end k.5 in
          subst (λ xs. FollowsAll (stmt s rest) p sc env packet xs end) (sym k.6) (then_follows s rest p sc env k.0 packet k.1 k.2 k.3 end q r)
      | inr k ↦
          let q = stmt_follows s p unsent sc same typed.0 env packet cs (sends k.0 k.1) k.2 in
          subst (λ x. FollowsAll (stmt s rest) p sc env packet cs x) (sym k.3) (ends_follows s rest p sc env packet cs k.0 k.1 q)
    ]
