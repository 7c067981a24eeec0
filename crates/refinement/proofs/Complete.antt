-- What a body can send is sent with the choices that are tried.
use Rattle.std.proofs.Common.{◌≡◌, ◌⊎◌, inl, inr, ℕ, suc, ◌+◌, ◌==◌, ◌&&◌, ◌||◌, ◌≤◌, List, [], ◌∷◌, ◌++◌, map, length, not, reverse, Bool, true, false, cond, Option, Some, None, if◌then◌else◌, refl, sym, ap, subst, ◌∙◌, arith}
use Rattle.std.specs.Prelude.{filter as list_filter, flat_map}
use Rattle.std.specs.List.{list_any}
use Rattle.std.proofs.lemmas.List.{append-nil, reverse-reverse}
use Rattle.std.proofs.lemmas.List.Folds.{list_any-append}
use Rattle.cocoon_num.specs.Lists.{has_number, no_repeats}
use Rattle.cocoon_num.specs.PacketForms.{FieldsFit, PacketFits}
use Rattle.cocoon_num.specs.Packets.{Packet}
use Rattle.cocoon_num.specs.Tree.{Block, Design, Expr, field, HeaderDecl, name, Param, Role}
use Rattle.cocoon_num.specs.Values.{number, Value}
use Rattle.cocoon_types.specs.Design.{layout, widths_of}
use Rattle.cocoon_types.specs.ReadBack.{FieldValue, first_fields, hidden_in, hidden_on, is_choice_at, is_hidden, occurs, Path, paths_in, sent_values}
use Rattle.cocoon_types.specs.Runs.{DoesAll, End, falls, Loc, sends, World}
use Rattle.cocoon_types.specs.Typing.{Scope}
use Rattle.cocoon_types.specs.Val.{Env, variable}
use Rattle.refinement.specs.Indices.{block_indices}
use Rattle.sound_types.specs.Ends.{after_block}
use Rattle.sound_types.specs.Matching.{Binds}
use Rattle.sound_types.specs.Soundness.{IsSound}
use Rattle.sound_types.specs.WellTyped.{IsTyped}
use Rattle.sound_types.proofs.Members.{In, none_at, reverse_in, in_left}
use Rattle.refinement.specs.Trails.{FieldMark, fields_choices, finds_in, Marks, tried, wanted}
use Rattle.refinement.proofs.Beside.{Both, HeaderBy, PacketBy, VarsBy}
use Rattle.refinement.proofs.Counts.{count_of, numbered, once_at_most, within, within_same}
use Rattle.refinement.proofs.Following.{ArgsAre, Beside, block_follows, differ, Ended, Follows, IsTried, SentClear}
use Rattle.refinement.proofs.Marked.{block_found, choice_of, field_mark, marks_of, Passes}
use Rattle.refinement.proofs.Same.{AllClear, Held, IsClear}
use Rattle.refinement.proofs.Wanted.{field_values, packet_args, wanted_is}
use Rattle.refinement.specs.Sending.{flat}

-- where a body begins
abbrev pub start_of : Design → Path
start_of d = record { conditions = []; choices = []; vars = []; fields = first_fields d.headers; sent = None }

-- ---- the beginning

-- no variable that stands behind those of a path has an empty name
abbrev pub IsNamed : Env → Type 0
IsNamed env = variable env [] ≡ None

not_choice : (c at : ℕ) (b : Bool) → ((c == at) && b) ≡ true → b ≡ true
not_choice c at true h = refl
not_choice c at false h = absurd (no (c == at) h)
  where
    no : (b : Bool) → (b && false) ≡ true → ⊥
    no true h = cc
    no false h = cc

no_name : (x : List ℕ) → (length x == 0) ≡ true → x ≡ []
no_name [] h = refl
no_name (b ∷ x) h = absurd (not_none (length x) h)
  where
    not_none : (n : ℕ) → (suc n == 0) ≡ true → ⊥
    not_none n h = grind (arith, h)

own : (f : ℕ → Bool) (s : ℕ → ℕ) (at : ℕ) (x : List ℕ) (o : Option Value) → ((length x == 0) ≡ true → o ≡ None) → Both (Held f s (name at x)) o o
own f s at x None h = tt
own f s at x (Some v) h = (λ clear. refl, λ c q. (let none : Some v ≡ None = h (not_choice c at (length x == 0) q) in absurd (cc)))

first_vars : (f : ℕ → Bool) (s : ℕ → ℕ) (env : Env) → IsNamed env → VarsBy (Held f s) [] env env
first_vars f s env named at x = own f s at x (variable env x) (λ h. ap (variable env) (no_name x h) ∙ named)

abbrev fields_of : HeaderDecl → List Param → List FieldValue
fields_of h ps = map (λ (f : Param). record { header = h.name.text; field = f.name.text; value = field 0 h.name f.name }) ps

first_header : (g : ℕ → Bool) (s : ℕ → ℕ) (h : HeaderDecl) (ps : List Param) (ns : List ℕ) → FieldsFit (widths_of ps) ns → HeaderBy (Held g s) h.name.text ps (fields_of h ps) ns ns
first_header g s h [] [] fits = tt
first_header g s h [] (n ∷ ns) fits = absurd fits
first_header g s h (p ∷ ps) [] fits = absurd fits
first_header g s h (p ∷ ps) (n ∷ ns) fits = (refl, refl, (λ clear. refl, λ c q. absurd (cc)), first_header g s h ps ns fits.1)

first_packet : (g : ℕ → Bool) (s : ℕ → ℕ) (hs : List HeaderDecl) (packet : Packet) → PacketFits (map (λ (h : HeaderDecl). widths_of h.fields) hs) packet → PacketBy (Held g s) hs (first_fields hs) packet packet
first_packet g s [] [] fits = tt
first_packet g s [] (ns ∷ packet) fits = absurd fits
first_packet g s (h ∷ hs) [] fits = absurd fits
first_packet g s (h ∷ hs) (ns ∷ packet) fits = (fields_of h h.fields, first_fields hs, refl, first_header g s h h.fields ns fits.0, first_packet g s hs packet fits.1)

-- ---- the end

same_fields : (g : ℕ → Bool) (s : ℕ → ℕ) (h : List ℕ) (ps : List Param) (vs : List FieldValue) (ns ms : List ℕ) → HeaderBy (Held g s) h ps vs ns ms → AllClear g (field_values vs) → ns ≡ ms
same_fields g s h [] [] [] [] k clear = refl
same_fields g s h [] [] [] (m ∷ ms) k clear = absurd k
same_fields g s h [] [] (n ∷ ns) ms k clear = absurd k
same_fields g s h [] (v ∷ vs) ns ms k clear = absurd k
same_fields g s h (p ∷ ps) [] ns ms k clear = absurd k
same_fields g s h (p ∷ ps) (v ∷ vs) [] ms k clear = absurd k
same_fields g s h (p ∷ ps) (v ∷ vs) (n ∷ ns) [] k clear = absurd k
same_fields g s h (p ∷ ps) (v ∷ vs) (n ∷ ns) (m ∷ ms) k clear =
    let e : number p.width n ≡ number p.width m = k.2.0 clear.0 in
    let first : n ≡ m = cc in
    let more = same_fields g s h ps vs ns ms k.3 clear.1 in
    (λ i. first i ∷ more i)

clear_parts : (g : ℕ → Bool) (xs ys : List FieldValue) → AllClear g (field_values (xs ++ ys)) → AllClear g (field_values xs) × AllClear g (field_values ys)
clear_parts g [] ys h = (tt, h)
clear_parts g (x ∷ xs) ys h = let t = clear_parts g xs ys h.1 in ((h.0, t.0), t.1)

same_packets : (g : ℕ → Bool) (s : ℕ → ℕ) (hs : List HeaderDecl) (vs : List FieldValue) (packet other : Packet) → PacketBy (Held g s) hs vs packet other → AllClear g (field_values vs) → packet ≡ other
same_packets g s [] [] [] [] k clear = refl
same_packets g s [] [] [] (m ∷ other) k clear = absurd k
same_packets g s [] [] (n ∷ packet) other k clear = absurd k
same_packets g s [] (v ∷ vs) packet other k clear = absurd k
same_packets g s (h ∷ hs) vs [] other k clear = absurd k
same_packets g s (h ∷ hs) vs (ns ∷ packet) [] k clear = absurd k
same_packets g s (h ∷ hs) vs (ns ∷ packet) (ms ∷ other) k clear =
    let parts = clear_parts g k.0 k.1 (subst (λ z. AllClear g (field_values z)) k.2 clear) in
    let first = same_fields g s h.name.text h.fields k.0 ns ms k.3 parts.0 in
    let more = same_packets g s hs k.1 packet other k.4 parts.1 in
    (λ i. first i ∷ more i)

-- ---- what is not hidden

none_left : (a b : Bool) → (a || b) ≡ false → a ≡ false
none_left true b h = h
none_left false b h = refl

none_right : (a b : Bool) → (a || b) ≡ false → b ≡ false
none_right true b h = absurd (cc)
none_right false b h = h

clear_of : (g : ℕ → Bool) (es : List Expr) → ((c : ℕ) → g c ≡ true → list_any (occurs c) es ≡ false) → AllClear g es
clear_of g [] h = tt
clear_of g (e ∷ es) h =
    (λ c q. none_left (occurs c e) (list_any (occurs c) es) (h c q), clear_of g es (λ c q. none_right (occurs c e) (list_any (occurs c) es) (h c q)))

all_parts : (g : ℕ → Bool) (xs ys : List Expr) → AllClear g (xs ++ ys) → AllClear g xs × AllClear g ys
all_parts g [] ys h = (tt, h)
all_parts g (x ∷ xs) ys h = let t = all_parts g xs ys h.1 in ((h.0, t.0), t.1)

none_by : (f : ℕ → Bool) (c x : ℕ) (rest : List ℕ) (b : Bool) → f x ≡ b → (c ≡ x) ⊎ (rest ≡ [] → f c ≡ false) → cond b (x ∷ rest) rest ≡ [] → f c ≡ false
none_by f c x rest true q h k = absurd (cc)
none_by f c x rest false q h k = elim h [ inl same ↦ ap f same ∙ q | inr l ↦ l k ]

none_kept : (f : ℕ → Bool) (c : ℕ) (cs : List ℕ) → In c cs → list_filter f cs ≡ [] → f c ≡ false
none_kept f c [] h e = absurd h
none_kept f c (x ∷ cs) h e = none_by f c x (list_filter f cs) (f x) refl (elim h [ inl same ↦ inl same | inr l ↦ inr (none_kept f c cs l) ]) e

in_by : (c x : ℕ) (xs : List ℕ) (b r : Bool) → (c == x) ≡ b → (r ≡ true → In c xs) → (b || r) ≡ true → In c (x ∷ xs)
in_by c x xs true r e f k = inl (grind (arith, e))
in_by c x xs false r e f k = inr (f k)

number_in_list : (c : ℕ) (cs : List ℕ) → has_number c cs ≡ true → In c cs
number_in_list c [] h = absurd (cc)
number_in_list c (x ∷ cs) h = in_by c x cs (c == x) (has_number c cs) refl (number_in_list c cs) h

equal_self : (n : ℕ) → (n == n) ≡ true
equal_self n = grind arith

equal_as : (x y : ℕ) → y ≡ x → not (x == y) ≡ true → ⊥
equal_as x y e h = by (x == y) (subst (λ z. (x == z) ≡ true) (sym e) (equal_self x)) h
  where
    by : (b : Bool) → b ≡ true → not b ≡ true → ⊥
    by true e h = cc
    by false e h = cc

shown : (a b : Bool) → (a && not b) ≡ false → b ≡ false → a ≡ false
shown true b h e = absurd (no b h e)
  where
    no : (b : Bool) → not b ≡ false → b ≡ false → ⊥
    no true h e = cc
    no false h e = cc
shown false b h e = refl

no_length : (xs : List ℕ) → (length xs == 0) ≡ true → xs ≡ []
no_length [] h = refl
no_length (x ∷ xs) h = absurd (not_none (length xs) h)
  where
    not_none : (n : ℕ) → (suc n == 0) ≡ true → ⊥
    not_none n h = grind (arith, h)

never : (f : ℕ → ℕ) (c : ℕ) → differ f f c ≡ true → ⊥
never f c h = equal_as (f c) (f c) refl h

all_same : (f : ℕ → ℕ) (es : List Expr) → AllClear (differ f f) es
all_same f es = clear_of (differ f f) es (λ c q. absurd (never f c q))

all_same_sent : (f : ℕ → ℕ) (o : Option (List Expr)) → SentClear (differ f f) o
all_same_sent f None = tt
all_same_sent f (Some es) = all_same f es

sent_clear : (g : ℕ → Bool) (o : Option (List Expr)) (es : List Expr) → o ≡ Some es → AllClear g es → SentClear g o
sent_clear g o es e h = subst (SentClear g) (sym e) h

hidden_sent : (p : Path) (es : List Expr) → p.sent ≡ Some es → hidden_on p ≡ list_filter (is_hidden es p) p.choices
hidden_sent p es e = ap (λ (o : Option (List Expr)). elim o as (λ _. List ℕ) [ None ↦ [] | Some args ↦ list_filter (is_hidden args p) p.choices ]) e

-- of choices that differ, which are tried
differs : (b : Bool) (x y : ℕ) → (b ≡ false → y ≡ x) → not (x == y) ≡ true → b ≡ true
differs true x y h k = refl
differs false x y h k = absurd (equal_as x y (h refl) k)

within_off : (cs : List ℕ) (f g : ℕ → ℕ) (c : ℕ) → has_number c cs ≡ false → within cs f g c ≡ g c
within_off cs f g c h = ap (λ b. if b then f c else g c) h

within_on : (cs : List ℕ) (f g : ℕ → ℕ) (c : ℕ) → has_number c cs ≡ true → within cs f g c ≡ f c
within_on cs f g c h = ap (λ b. if b then f c else g c) h

module _ (d : Design) (apply : List ℕ → List ℕ → Option Value) (role : List ℕ → Option Role) (sound : IsSound d (record { headers = d.headers; apply = apply })) where
  abbrev w : World
  w = record { context = record { headers = d.headers; apply = apply }; role = role }

  -- with some choices that are tried, a body sends what it can send
  pub sends_so : (b : Block) (sc : Scope) → sc.design ≡ d → IsTyped sc b → no_repeats (block_indices b) ≡ true → (length (hidden_in d b) == 0) ≡ true
      → (env : Env) → Binds sc.vars env → IsNamed env → (packet : Packet) → PacketFits (layout d) packet → (cs : List ℕ) (to : Loc) (sent : Packet)
      → DoesAll w b env packet cs (sends to sent)
      → (ns : List ℕ) × DoesAll w b env packet ns (sends to sent)
      × ((u : List ℕ → Bool) → u ns ≡ true → finds_in to.values (flat sent) b (λ m. false) u (marks_of (start_of d)) ≡ true)
  sends_so b sc same typed once shown_all env binds named packet fits cs to sent does =
      let p0 = start_of d in
      let q = block_follows d apply role sound b p0 refl sc same typed env packet cs (sends to sent) does in
      let path = q.path in
      let made = q.made in
      let es = q.ended.0 in
      let is_sent : path.sent ≡ Some es = q.ended.1 in
      let s = numbered made cs q.count (λ c. (let a = q.part c in let l = once_at_most (block_indices b) once c in omega (arith, a, l))) in
      let f = s.0 in
      let start : (g : ℕ → ℕ) → Beside d apply role sound f g p0 sc env packet env packet = λ g.
      (first_vars (differ f g) f env named, first_packet (differ f g) f d.headers packet fits, binds, fits) in
      let again = q.runs f f s.1 (λ c. inl refl) env packet (start f) (all_same f path.conditions) (all_same_sent f path.sent) in
      let ended = ended_sends f f path (after_block b sc) to sent again.0 again.2 in
      let args : ArgsAre f es to.values = ended.1 es is_sent in
      let fields : ArgsAre f (field_values path.fields) (flat sent) = packet_args (differ f f) f d.headers path.fields sent ended.0 ended.2 in
      let want : ℕ → ℕ = wanted (map choice_of es) to.values (fields_choices (marks_of path)) (flat sent) in
      let g : ℕ → ℕ = within made want f in
      let each = λ (c : ℕ). wanted_is f c es to.values path.fields (flat sent) args fields in
      let tries : IsTried f g = λ c. tried_by (has_number c made) made want f c refl (each_of f want c es (field_values path.fields) (each c)) in
      let choices : path.choices ≡ reverse made = q.choices ∙ append-nil (reverse made) in
      let not_hidden : list_filter (is_hidden es path) path.choices ≡ [] = sym (hidden_sent path es is_sent) ∙ none_at hidden_on (paths_in b p0) (no_length (hidden_in d b) shown_all) path q.among in
      let clear : AllClear (differ f g) (path.conditions ++ sent_values es path) = clear_of (differ f g) (path.conditions ++ sent_values es path) (λ c k.
      let there : has_number c made ≡ true = differs (has_number c made) (f c) (g c) (λ no. within_off made want f c no) k in
      let member : In c path.choices = subst (In c) (sym choices) (reverse_in c made (number_in_list c made there)) in
      let nowhere : list_any (is_choice_at c) (sent_values es path) ≡ false = nowhere_of f g want c es (field_values path.fields) (within_on made want f c there) (each c) k in
      shown (list_any (occurs c) (path.conditions ++ sent_values es path)) (list_any (is_choice_at c) (sent_values es path)) (none_kept (is_hidden es path) c path.choices member not_hidden) nowhere) in
      let parts = all_parts (differ f g) path.conditions (sent_values es path) clear in
      let values = all_parts (differ f g) es (field_values path.fields) parts.1 in
      let r = q.runs f g s.1 tries env packet (start g) parts.0 (sent_clear (differ f g) path.sent es is_sent values.0) in
      let last = ended_sends f g path (after_block b sc) to sent r.0 r.2 in
      let other : sent ≡ last.0 = same_packets (differ f g) f d.headers path.fields sent last.0 last.2 values.1 in
      let ns = map g made in
      let is_tried : ns ≡ tried to.values (flat sent) (marks_of path) (map choice_of es) =
      within_same made want f ∙ ap (map want) (sym (reverse-reverse made) ∙ ap reverse (sym choices)) in (
        ns,
        subst (λ x. DoesAll w b env packet ns (sends to x)) (sym other) (subst (DoesAll w b env packet ns) last.3 r.1),
        λ u yes. block_found to.values (flat sent) u b p0 path refl q.among (λ m. false)
            (record { going = λ none. (let both : None ≡ Some es = sym none ∙ is_sent in absurd (cc)); sending = λ xs some. (let both : Some es ≡ Some xs = sym is_sent ∙ some in subst (λ z. u (tried to.values (flat sent) (marks_of path) (map choice_of z)) ≡ true) (cc) (ap u (sym is_tried) ∙ yes)) }),
      )
    where
      ended_sends : (f g : ℕ → ℕ) (p : Path) (sc : Scope) (to : Loc) (sent : Packet) (end : End) → Ended d apply role sound f g p sc (sends to sent) end
          → (other : Packet) × ((es : List Expr) → p.sent ≡ Some es → ArgsAre f es to.values) × PacketBy (Held (differ f g) f) d.headers p.fields sent other × (end ≡ sends to other)
      ended_sends f g p sc to sent (falls env packet) h = absurd h
      ended_sends f g p sc to sent (sends at other) h = (other, h.1, h.2, ap (λ x. sends x other) h.0)

      each_of : (f want : ℕ → ℕ) (c : ℕ) (es fs : List Expr) → (want c ≡ f c) ⊎ ((want c ≡ 0) × (list_any (is_choice_at c) (es ++ fs) ≡ false)) → (want c ≡ f c) ⊎ (want c ≡ 0)
      each_of f want c es fs h = elim h [ inl e ↦ inl e | inr t ↦ inr t.0 ]

      tried_by : (b : Bool) (made : List ℕ) (want f : ℕ → ℕ) (c : ℕ) → has_number c made ≡ b → (want c ≡ f c) ⊎ (want c ≡ 0) → (within made want f c ≡ f c) ⊎ (within made want f c ≡ 0)
      tried_by true made want f c e h = elim h [ inl k ↦ inl (within_on made want f c e ∙ k) | inr k ↦ inr (within_on made want f c e ∙ k) ]
      tried_by false made want f c e h = inl (within_off made want f c e)

      nowhere_of : (f g want : ℕ → ℕ) (c : ℕ) (es fs : List Expr) → g c ≡ want c → (want c ≡ f c) ⊎ ((want c ≡ 0) × (list_any (is_choice_at c) (es ++ fs) ≡ false)) → not (f c == g c) ≡ true → list_any (is_choice_at c) (es ++ fs) ≡ false
      nowhere_of f g want c es fs e h k = elim h [
        | inl same ↦ absurd (equal_as (f c) (g c) (e ∙ same) k)
        | inr t ↦ t.1
      ]
