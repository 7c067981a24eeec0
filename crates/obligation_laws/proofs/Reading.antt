-- What the read-back rule says of expressions holds of leaves.
use Rattle.std.proofs.Common.{◌≡◌, ◌⊎◌, inl, inr, ℕ, suc, ◌+◌, ◌≤◌, ◌==◌, ◌&&◌, ◌||◌, List, [], ◌∷◌, ◌++◌, length, map, cond, Bool, true, false, if◌then◌else◌, Option, Some, None, refl, sym, ap, subst, ◌∙◌, arith}
use Rattle.std.specs.Prelude.{filter as list_filter, not, slice_get}
use Rattle.std.specs.List.{list_any}
use Rattle.std.proofs.lemmas.List.Folds.{list_any-append}
use Rattle.cocoon_num.specs.Lists.{no_repeats}
use Rattle.cocoon_num.specs.Names.{named, same_name}
use Rattle.cocoon_num.specs.Tree.{Block, Expr, HeaderDecl, Param, Role, Design, field}
use Rattle.cocoon_resolve.specs.Readers.{all_widths, reads_back}
use Rattle.cocoon_types.specs.Design.{role_at, widths_of}
use Rattle.cocoon_types.specs.ReadBack.{FieldValue, Path, first_fields, hidden_in, hidden_on, is_choice_at, is_hidden, occurs, paths_in, sent_values}
use Rattle.refinement.specs.Indices.{block_indices}
use Rattle.bv_terms.specs.TermTrees.{Term}
use Rattle.sound_types.specs.WellTyped.{IsTypedRole}
use Rattle.sound_types.proofs.Members.{In, at_place, flat_in, named_there, none_at}
use Rattle.obligation_laws.specs.TermOf.{bind_terms, variable_term}
use Rattle.obligation_laws.specs.Following.{Followed, follow_all, has_sent, one, those_sent}
use Rattle.obligation_laws.specs.Leaves.{Leaf, Tree, at_new, begins, body_tree, end_at, entered, entry_of, follow_body, hops, leaf_of, onward, params_of}
use Rattle.obligation_laws.specs.States.{NewInput, Place, State, input_term, inputs_from, term_world}
use Rattle.obligation_laws.proofs.Followings.{each_in, passed}
use Rattle.obligation_laws.proofs.Statements.{block_vars}
use Rattle.refinement.proofs.Named.{AreNamed}
use Rattle.obligation_laws.specs.MadeOf.{AllMade, Made}
use Rattle.obligation_laws.proofs.Made.{guard_made}
use Rattle.obligation_laws.specs.ReadBackLeaves.{IsReadBack, Other, StandsAmong}
use Rattle.obligation_laws.proofs.Expressions.{AllRel}
use Rattle.obligation_laws.proofs.Fields.{FieldsRel, HeaderRel}
use Rattle.obligation_laws.proofs.Relating.{Below, Pairing, VarsRel}
use Rattle.obligation_laws.proofs.Simulating.{Sim, SentClear, SentRel, all_clear, block_sim}
use Rattle.obligation_laws.proofs.Tokens.{block_counted, count_of, once, one_input, tokens_of}

-- ---- where a body begins

inputs_below : (first n : ℕ) (ws : List ℕ) → first + length (inputs_from first ws) ≤ n → AllMade (Below n) (map input_term (inputs_from first ws))
inputs_below first n [] l = tt
inputs_below first n (w ∷ ws) l = (omega (arith, l), inputs_below (suc first) n ws (omega (arith, l)))

variable_below : (n : ℕ) (ps : List Param) (ts : List Term) (x : List ℕ) → AllMade (Below n) ts → Made (Below n) (variable_term (bind_terms ps ts) x)
variable_below n [] ts x h = tt
variable_below n (p ∷ ps) [] x h = tt
variable_below n (p ∷ ps) (t ∷ ts) x h = by (same_name x p.name.text) (variable_below n ps ts x h.1)
  where
    by : (b : Bool) → Made (Below n) (variable_term (bind_terms ps ts) x) → Made (Below n) (cond b t (variable_term (bind_terms ps ts) x))
    by true k = h.0
    by false k = k

not_none : (n : ℕ) → (suc n == 0) ≡ true → ⊥
not_none n h = grind (arith, h)

-- no parameter has an empty name
named_so : (ps : List Param) → AreNamed ps → (x : List ℕ) (p : Param) → named (λ (q : Param). q.name) x ps ≡ Some p → (length x == 0) ≡ true → ⊥
named_so ps h x p is e = nameless ps h p (named_there (λ (q : Param). q.name) x ps p is).0 (no_letter x e ∙ (named_there (λ (q : Param). q.name) x ps p is).1)
  where
    no_letter : (x : List ℕ) → (length x == 0) ≡ true → [] ≡ x
    no_letter [] e = refl
    no_letter (c ∷ x) e = absurd (not_none (length x) e)

    nameless : (ps : List Param) → AreNamed ps → (p : Param) → In p ps → [] ≡ p.name.text → ⊥
    nameless [] h p i e = i
    nameless (q ∷ ps) h p i e = elim i [
      | inl same ↦ absurd (let z : true ≡ false = sym (ap (same_name []) (sym e)) ∙ ap (λ (y : Param). same_name [] y.name.text) same ∙ h.0 in cc)
      | inr k ↦ nameless ps h.1 p k e
    ]

first_vars : (n : ℕ) (ps : List Param) (ts : List Term) → AreNamed ps → AllMade (Below n) ts → VarsRel [] n ps ps [] (bind_terms ps ts)
first_vars n ps ts named_all h = (
  refl,
  λ at x p is. record {
    clear = λ a i j o. absurd j;
    alone = λ a q. absurd (named_so ps named_all x p is (second (a == at) (length x == 0) q));
    below = variable_below n ps ts x h;
  },
)
  where
    second : (a b : Bool) → (a && b) ≡ true → b ≡ true
    second true b h = h
    second false b h = absurd (cc)

abbrev header_values : HeaderDecl → List Param → List FieldValue
header_values h ps = map (λ (f : Param). record { header = h.name.text; field = f.name.text; value = field 0 h.name f.name }) ps

first_header : (n first : ℕ) (h : HeaderDecl) (ps : List Param) → first + length (inputs_from first (widths_of ps)) ≤ n → HeaderRel [] n h.name.text ps (header_values h ps) (map input_term (inputs_from first (widths_of ps)))
first_header n first h [] l = tt
first_header n first h (p ∷ ps) l = (
  refl,
  refl,
  record { clear = λ a i j o. absurd j; alone = λ a q. absurd (let f : false ≡ true = q in cc); below = omega (arith, l) },
  first_header n (suc first) h ps (omega (arith, l)),
)

inputs_join : (first : ℕ) (vs ws : List ℕ) → inputs_from first (vs ++ ws) ≡ inputs_from first vs ++ inputs_from (first + length (inputs_from first vs)) ws
inputs_join first [] ws = ap (λ n. inputs_from n ws) (omega arith)
inputs_join first (v ∷ vs) ws = ap (λ xs. record { number = first; width = v } ∷ xs) (inputs_join (suc first) vs ws ∙ ap (λ n. inputs_from (suc first) vs ++ inputs_from n ws) (omega arith))

terms_join : (is js : List NewInput) → map input_term (is ++ js) ≡ map input_term is ++ map input_term js
terms_join [] js = refl
terms_join (i ∷ is) js = ap (λ ts. input_term i ∷ ts) (terms_join is js)

lengths : (is js : List NewInput) → length (is ++ js) ≡ length is + length js
lengths [] js = omega arith
lengths (i ∷ is) js = let h = lengths is js in omega (arith, h)

first_packet : (n first : ℕ) (hs : List HeaderDecl) → first + length (inputs_from first (all_widths hs)) ≤ n → FieldsRel [] n hs (first_fields hs) (map input_term (inputs_from first (all_widths hs)))
first_packet n first [] l = tt
first_packet n first (h ∷ hs) l =
    let ws = widths_of h.fields in
    let own = inputs_from first ws in
    let mid = first + length own in
    let rest = inputs_from mid (all_widths hs) in
    let joined = inputs_join first ws (all_widths hs) in
    let all : length (inputs_from first (ws ++ all_widths hs)) ≡ length own + length rest = ap length joined ∙ lengths own rest in (
      header_values h h.fields,
      first_fields hs,
      map input_term own,
      map input_term rest,
      refl,
      ap (map input_term) joined ∙ terms_join own rest,
      first_header n first h h.fields (omega (arith, l, all)),
      first_packet n mid hs (omega (arith, l, all)),
    )

-- ---- what is not hidden

or_left : (a b : Bool) → (a || b) ≡ false → a ≡ false
or_left true b h = h
or_left false b h = refl

or_right : (a b : Bool) → (a || b) ≡ false → b ≡ false
or_right true b h = absurd (cc)
or_right false b h = h

not_hidden : (a b : Bool) → (a && not b) ≡ false → (a ≡ false) ⊎ (b ≡ true)
not_hidden true true h = inr refl
not_hidden true false h = absurd (cc)
not_hidden false b h = inl refl

none_kept : (f : ℕ → Bool) (cs : List ℕ) → list_filter f cs ≡ [] → (c : ℕ) → In c cs → f c ≡ false
none_kept f [] e c i = absurd i
none_kept f (x ∷ cs) e c i = by (λ k. none_kept f cs k c) (f x) refl e i
  where
    by : (list_filter f cs ≡ [] → In c cs → f c ≡ false) → (b : Bool) → f x ≡ b → cond b (x ∷ list_filter f cs) (list_filter f cs) ≡ [] → In c (x ∷ cs) → f c ≡ false
    by later true q e j = absurd (cc)
    by later false q e j = elim j [ inl same ↦ ap f same ∙ q | inr k ↦ later e k ]

hidden_where : (p : Path) (es : List Expr) → p.sent ≡ Some es → hidden_on p ≡ list_filter (is_hidden es p) p.choices
hidden_where p es e = ap (λ (o : Option (List Expr)). elim o as (λ x. List ℕ) [ None ↦ [] | Some args ↦ list_filter (is_hidden args p) p.choices ]) e

no_length : (xs : List ℕ) → (length xs == 0) ≡ true → xs ≡ []
no_length [] h = refl
no_length (x ∷ xs) h = absurd (not_none (length xs) h)

token_in : (a : ℕ) (i : NewInput) (pairs : Pairing) → In (a, i) pairs → In a (tokens_of pairs)
token_in a i [] h = absurd h
token_in a i (x ∷ pairs) h = elim h [ inl e ↦ inl (ap (λ (y : ℕ × NewInput). y.0) e) | inr k ↦ inr (token_in a i pairs k) ]

-- ---- values and fields

abbrev values_of : List FieldValue → List Expr
values_of vs = map (λ (v : FieldValue). v.value) vs

rel_join : (pairs : Pairing) (n : ℕ) (es : List Expr) (ts : List Term) (fs : List Expr) (us : List Term) → AllRel pairs n es ts → AllRel pairs n fs us → AllRel pairs n (es ++ fs) (ts ++ us)
rel_join pairs n [] [] fs us h k = k
rel_join pairs n [] (t ∷ ts) fs us h k = absurd h
rel_join pairs n (e ∷ es) [] fs us h k = absurd h
rel_join pairs n (e ∷ es) (t ∷ ts) fs us h k = (h.0, rel_join pairs n es ts fs us h.1 k)

header_all : (pairs : Pairing) (n : ℕ) (h : List ℕ) (ps : List Param) (vs : List FieldValue) (ts : List Term) → HeaderRel pairs n h ps vs ts → AllRel pairs n (values_of vs) ts
header_all pairs n h [] [] [] k = tt
header_all pairs n h [] [] (t ∷ ts) k = absurd k
header_all pairs n h [] (v ∷ vs) ts k = absurd k
header_all pairs n h (p ∷ ps) [] ts k = absurd k
header_all pairs n h (p ∷ ps) (v ∷ vs) [] k = absurd k
header_all pairs n h (p ∷ ps) (v ∷ vs) (t ∷ ts) k = (k.2, header_all pairs n h ps vs ts k.3)

values_join : (vs ws : List FieldValue) → values_of (vs ++ ws) ≡ values_of vs ++ values_of ws
values_join [] ws = refl
values_join (v ∷ vs) ws = ap (λ es. v.value ∷ es) (values_join vs ws)

fields_all : (pairs : Pairing) (n : ℕ) (ds : List HeaderDecl) (vs : List FieldValue) (ts : List Term) → FieldsRel pairs n ds vs ts → AllRel pairs n (values_of vs) ts
fields_all pairs n [] [] [] k = tt
fields_all pairs n [] [] (t ∷ ts) k = absurd k
fields_all pairs n [] (v ∷ vs) ts k = absurd k
fields_all pairs n (d ∷ ds) vs ts k =
    subst (λ z. AllRel pairs n (values_of z) ts) (sym k.4) (subst (AllRel pairs n (values_of (k.0 ++ k.1))) (sym k.5)
    (subst (λ z. AllRel pairs n z (k.2 ++ k.3)) (sym (values_join k.0 k.1))
    (rel_join pairs n (values_of k.0) k.2 (values_of k.1) k.3 (header_all pairs n d.name.text d.fields k.0 k.2 k.6) (fields_all pairs n ds k.1 k.3 k.7))))

-- a choice that stands alone among expressions does so among their terms
stands : (pairs : Pairing) (n : ℕ) (es : List Expr) (ts : List Term) → AllRel pairs n es ts → (a : ℕ) (i : NewInput) → ((j : NewInput) → In (a, j) pairs → j ≡ i) → list_any (is_choice_at a) es ≡ true → StandsAmong i ts
stands pairs n [] [] h a i only e = absurd (cc)
stands pairs n [] (t ∷ ts) h a i only e = absurd h
stands pairs n (x ∷ es) [] h a i only e = absurd h
stands pairs n (x ∷ es) (t ∷ ts) h a i only e = by (stands pairs n es ts h.1 a i only) (is_choice_at a x) refl e
  where
    by : (list_any (is_choice_at a) es ≡ true → StandsAmong i ts) → (b : Bool) → is_choice_at a x ≡ b → (b || list_any (is_choice_at a) es) ≡ true → StandsAmong i (t ∷ ts)
    by later true q g = let r = h.0.alone a q in inl (r.2 ∙ ap input_term (only r.0 r.1))
    by later false q g = inr (later g)

-- ---- leaves

sent_rel : (pairs : Pairing) (n : ℕ) (o : Option (List Expr)) (at : Place) → SentRel pairs n o (Some at) → (es : List Expr) × (o ≡ Some es) × AllRel pairs n es at.values
sent_rel pairs n None at h = absurd h
sent_rel pairs n (Some es) at h = (es, refl, h)

all_back : (P : _) (ts us : List Term) → AllMade P (ts ++ us) → AllMade P ts × AllMade P us
all_back P [] us h = (tt, h)
all_back P (t ∷ ts) us h = let r = all_back P ts us h.1 in ((h.0, r.0), r.1)

-- a state that has sent, beside its path, none of whose choices is hidden
state_reads : (d : Design) (base vars : List Param) (pairs : Pairing) (n : ℕ) (q : Path) (t : State) (at : Place) → Sim d base vars pairs n q t → t.sent ≡ Some at → hidden_on q ≡ [] → ((c : ℕ) → count_of c q.choices ≤ 1)
    → (new : Bool) (i : NewInput) → In i t.choices → IsReadBack (record { cond = t.cond; choices = t.choices; way = t.way; end = end_at new at t.fields }) i
state_reads d base vars pairs n q t at sim is shown single new i inside =
    let a = sim.inputs i inside in
    let s = sent_rel pairs n q.sent at (subst (SentRel pairs n q.sent) is sim.sent_are) in
    let all = rel_join pairs n s.0 at.values (values_of q.fields) t.fields s.2 (fields_all pairs n d.headers q.fields t.fields sim.fields_are) in
    let token : In a.0 q.choices = subst (In a.0) (sym sim.tokens) (token_in a.0 i pairs a.1) in
    let seen = none_kept (is_hidden s.0 q) q.choices (sym (hidden_where q s.0 s.1) ∙ shown) a.0 token in
    let single' : count_of a.0 (tokens_of pairs) ≤ 1 = subst (λ xs. count_of a.0 xs ≤ 1) sim.tokens (single a.0) in
    elim (not_hidden (list_any (occurs a.0) (q.conditions ++ sent_values s.0 q)) (list_any (is_choice_at a.0) (sent_values s.0 q)) seen) [
      | inl none ↦
          let split = sym (list_any-append (occurs a.0) q.conditions (sent_values s.0 q)) ∙ none in
          let conditions = or_left (list_any (occurs a.0) q.conditions) (list_any (occurs a.0) (sent_values s.0 q)) split in
          let sent = or_right (list_any (occurs a.0) q.conditions) (list_any (occurs a.0) (sent_values s.0 q)) split in
          let args = or_left (list_any (occurs a.0) s.0) (list_any (occurs a.0) (values_of q.fields)) (sym (list_any-append (occurs a.0) s.0 (values_of q.fields)) ∙ sent) in
          let made = all_back (Other i) at.values t.fields (all_clear pairs n (s.0 ++ values_of q.fields) (at.values ++ t.fields) all a.0 i a.1 sent) in
          let cond = sim.clear a.0 i a.1 conditions (subst (SentClear a.0) (sym s.1) args) in
          unread new cond made
      | inr alone ↦ found new (stands pairs n (s.0 ++ values_of q.fields) (at.values ++ t.fields) all a.0 i (λ j k. one_input a.0 j i pairs single' k a.1) alone)
    ]
  where
    unread : (new : Bool) → Made (Other i) t.cond → AllMade (Other i) at.values × AllMade (Other i) t.fields → IsReadBack (record { cond = t.cond; choices = t.choices; way = t.way; end = end_at new at t.fields }) i
    unread true c m = inr (record { cond = c; values = m.0; fields = m.1 })
    unread false c m = inr (record { cond = c; values = m.0; fields = m.1 })

    found : (new : Bool) → StandsAmong i (at.values ++ t.fields) → IsReadBack (record { cond = t.cond; choices = t.choices; way = t.way; end = end_at new at t.fields }) i
    found true h = inl h
    found false h = inl h

module _ (d : Design) (level : ℕ) (role : List ℕ) (first : ℕ) (r : Role) (is : role_at level d role ≡ Some r) (typed : IsTypedRole d level r) (named_all : AreNamed r.params)
    (reads : reads_back d r ≡ true) (single : (b : Block) → r.body ≡ Some b → no_repeats (block_indices b) ≡ true) where
  abbrev tree : Tree
  tree = body_tree level d role first

  abbrev start : State
  start = begins (term_world level d) (entry_of role tree.args) (map input_term tree.fields)

  abbrev next : ℕ
  next = first + length tree.args + length tree.fields

  abbrev start_path : Path
  start_path = record { conditions = []; choices = []; vars = []; fields = first_fields d.headers; sent = None }

  args_below : AllMade (Below next) (map input_term tree.args)
  args_below = inputs_below first next (widths_of (params_of (term_world level d) role)) (omega arith)

  entered_sim : Sim d r.params r.params [] next start_path (entered r (entry_of role tree.args) start)
  entered_sim = record {
    vars_are = first_vars next r.params (map input_term tree.args) named_all args_below;
    fields_are = first_packet next (first + length tree.args) d.headers (omega arith);
    tokens = refl;
    inputs = λ i k. absurd k;
    numbers = λ a i k. absurd k;
    clear = λ a i k. absurd k;
    below = guard_made (Below next) d level (entry_of role tree.args) args_below;
    sent_are = tt;
  }

  body_reads : (b : Block) → r.body ≡ Some b → (t : State) → In t (follow_all (term_world level d) b (one (entered r (entry_of role tree.args) start) next)).0 → (at : Place) → t.sent ≡ Some at → (new : Bool) (i : NewInput) → In i t.choices
      → IsReadBack (record { cond = t.cond; choices = t.choices; way = t.way; end = end_at new at t.fields }) i
  body_reads b body t inside at sent new i chosen =
      let u = entered r (entry_of role tree.args) start in
      let g = block_sim d level r.params b r.params (typed.body b body) (u ∷ []) next t inside in
      let same : g.0 ≡ u = elim g.1 [ inl e ↦ e | inr n ↦ absurd n ] in
      let q = g.2 start_path [] next (omega arith) (subst (Sim d r.params r.params [] next start_path) (sym same) entered_sim) in
      let shown : hidden_in d b ≡ [] = no_length (hidden_in d b) (sym (ap (λ (o : Option Block). elim o as (λ x. Bool) [ None ↦ true | Some c ↦ length (hidden_in d c) == 0 ]) body) ∙ reads) in
      let none = none_at hidden_on (paths_in b start_path) shown q.path q.within in
      let counted : (c : ℕ) → count_of c q.path.choices ≤ 1 = λ c. let l = block_counted c b start_path q.path q.within in let k = once (block_indices b) (single b body) c in at_most (count_of c q.path.choices) (count_of c (block_indices b)) l k in
      state_reads d r.params (block_vars b r.params) q.more (follow_all (term_world level d) b (one u next)).1 q.path t at q.sim sent none counted new i chosen
    where
      at_most : (a b : ℕ) → a ≤ 0 + b → b ≤ 1 → a ≤ 1
      at_most a b l k = omega (arith, l, k)

  leaf_reads : (t : State) → In t (follow_body (term_world level d) (entry_of role tree.args) start next).0 → (leaf : Leaf) → In leaf (leaf_of (λ x. false) t) → (i : NewInput) → In i leaf.choices → IsReadBack leaf i
  leaf_reads t inside leaf made i chosen = by_role (role_at level d role) refl inside
    where
      by_sent : (b : Block) → r.body ≡ Some b → In t (follow_all (term_world level d) b (one (entered r (entry_of role tree.args) start) next)).0 → (o : Option Place) → t.sent ≡ o
          → In leaf (elim o as (λ x. List Leaf) [ None ↦ [] | Some at ↦ record { cond = t.cond; choices = t.choices; way = t.way; end = end_at false at t.fields } ∷ [] ]) → IsReadBack leaf i
      by_sent b body j None e k = absurd k
      by_sent b body j (Some at) e k = elim k [
        | inl same ↦ subst (λ (x : Leaf). IsReadBack x i) (sym same) (body_reads b body t j at e false i (subst (λ (x : Leaf). In i x.choices) same chosen))
        | inr n ↦ absurd n
      ]

      by_body : (o : Option Block) → r.body ≡ o → In t (elim o as (λ x. Followed) [ None ↦ ([], next) | Some b ↦ those_sent (follow_all (term_world level d) b (one (entered r (entry_of role tree.args) start) next)) ]).0 → IsReadBack leaf i
      by_body None e j = absurd j
      by_body (Some b) e j = by_sent b e (passed has_sent (follow_all (term_world level d) b (one (entered r (entry_of role tree.args) start) next)).0 t j).0 t.sent refl made

      by_role : (o : Option Role) → role_at level d role ≡ o
          → In t (elim o as (λ x. Followed) [ None ↦ ([], next) | Some x ↦ elim x.body [ None ↦ ([], next) | Some b ↦ those_sent (follow_all (term_world level d) b (one (entered x (entry_of role tree.args) start) next)) ] ]).0 → IsReadBack leaf i
      by_role None e j = absurd j
      by_role (Some x) e j =
          let same : x ≡ r = (let z : Some x ≡ Some r = sym e ∙ is in cc) in
          by_body r.body refl (subst (λ (y : Role). In t (elim y.body as (λ z. Followed) [ None ↦ ([], next) | Some b ↦ those_sent (follow_all (term_world level d) b (one (entered y (entry_of role tree.args) start) next)) ]).0) same j)

  pub tree_reads : (n : ℕ) (leaf : Leaf) → slice_get (body_tree level d role first).leaves n ≡ Some leaf → (m : ℕ) (i : NewInput) → slice_get leaf.choices m ≡ Some i → IsReadBack leaf i
  tree_reads n leaf there m i chosen =
      let w = term_world level d in
      let led = follow_body w (entry_of role tree.args) start next in
      let t = flat_in (leaf_of (λ x. false)) leaf (hops w (λ x. false) 1 start next).0 (at_place tree.leaves n leaf there) in
      let g = each_in (onward (λ x. false) (hops w (λ x. false) 0)) led.0 led.1 t.0 t.1 in
      let same : t.0 ≡ g.0 = only_one t.0 g.0 g.2 g.3 in
      leaf_reads g.0 g.1 leaf (subst (λ z. In leaf (leaf_of (λ x. false) z)) same t.2) i (at_place leaf.choices m i chosen)
    where
      only_one : (t m : State) (k : ℕ) → In t (onward (λ x. false) (hops (term_world level d) (λ x. false) 0) m k).0 → t ≡ m
      only_one t m k i = by (at_new (λ x. false) m) i
        where
          by : (b : Bool) → In t (if b then hops (term_world level d) (λ x. false) 0 m k else one m k).0 → t ≡ m
          by true j = elim j [ inl e ↦ e | inr n ↦ absurd n ]
          by false j = elim j [ inl e ↦ e | inr n ↦ absurd n ]
