-- Following a choice by what paths hold of it finds what its paths do: `found_on_paths`, and `member_is` of the hidden
-- choices of a whole body.
use Rattle.std.specs.Prelude.{◌≡◌, ℕ, ◌==◌, ◌&&◌, ◌||◌, Bool, false, not, List, [], ◌∷◌, ◌++◌, map, filter as list_filter, length, take, Option, Some, None, is_some, refl}
use Rattle.std.specs.List.{list_any}
use Rattle.std.proofs.Common.{sym, ◌∙◌, ap, ap₂}
use Rattle.std.proofs.Math.Bool.{or-false}
use Rattle.std.proofs.lemmas.List.{append_assoc, append-nil}
use Rattle.std.proofs.lemmas.List.Folds.{list_any-append}
use Rattle.cocoon_num.specs.Tree.{Name, Expr, field, Exprs, Stmt, let_, set_field, if_, filter, havoc_var, havoc_field, assume, fork, send, Block, no_stmts, stmt, Param, HeaderDecl, Design}
use Rattle.cocoon_num.specs.Lists.{has_number}
use Rattle.cocoon_types.specs.Parts.{list_of}
use Rattle.cocoon_types.specs.ReadBack as read_back
use Rattle.cocoon_types.specs.ReadBack.{Var, FieldValue, Path, choice, replaced, all_replaced, meets, chooses, with_var_as, with_field_as, unless_sent, those_sent, paths, paths_in, is_choice_at, occurs, sent_values, hidden_on, first_fields, hidden_in}
use Rattle.form_rules.specs.declared.scope.FieldName.{FieldName}
use Rattle.form_rules.specs.declared.state.Held.{Held}
use Rattle.form_rules.specs.Following as follow
use Rattle.form_rules.specs.Following.{Names, Holding, nothing, made_at, any_mentions, any_alone, held, with_var, moved, bound, after, hides, finds, finds_in, body_names, names_in, at_first, is_hidden}
use Rattle.form_rules.proofs.Lists.{either, all_three, take_front, map_append, any_map, any_flat, any_filter, number_flat, number_filter, swapped}
use Rattle.form_rules.proofs.Values.{as_many, held_of, vars_held, var_names, field_name, field_names, fields_held, holds, Fits, same_fields, with_field_is, mentions_is, sent_mentions_is, sent_alone_is, held_is, made_is}

-- ---- variables that a block leaves

held_more : (c : ℕ) (more vs : List Var) → (extra : List Held) × (vars_held c (more ++ vs) ≡ vars_held c vs ++ extra)
held_more c [] vs = ([], sym (append-nil (vars_held c vs)))
held_more c (v ∷ more) vs =
    let h = held_more c more vs in
    (h.0 ++ (held_of c v.value ∷ []), ap (λ (xs : List Held). xs ++ (held_of c v.value ∷ [])) h.1 ∙ append_assoc (vars_held c vs) h.0 (held_of c v.value ∷ []))

taken : (c : ℕ) (more vs : List Var) → take (length (var_names vs)) (vars_held c (more ++ vs)) ≡ vars_held c vs
taken c more vs =
    let h = held_more c more vs in
    ap₂ (λ (k : ℕ) (xs : List Held). take k xs) (sym (as_many c vs)) h.1 ∙ take_front (vars_held c vs) h.0

leaves_is : (c : ℕ) (n : Names) (p q : Path) (more : List Var) → Fits c n p → q.vars ≡ more ++ p.vars → holds c (read_back.leaves p.vars q) ≡ follow.leaves n (holds c q)
leaves_is c n p q more fits e =
    let put : List Held → Holding = λ hs. record (holds c q) { vars = hs } in
    ap put (sym (ap₂ (λ (ys : List (List ℕ)) (vs : List Var). take (length ys) (vars_held c vs)) fits.vars e ∙ taken c more p.vars))

-- ---- paths that send

-- the choice is hidden on a path that sends
abbrev hidden : ℕ → Path → Bool
hidden c q = elim q.sent [ None ↦ false | Some es ↦ has_number c q.choices && read_back.is_hidden es q c ]

within_fields : (c : ℕ) (vs : List FieldValue) → list_any (λ (h : Held). h.within) (fields_held c vs) ≡ list_any (occurs c) (map (λ (v : FieldValue). v.value) vs)
within_fields c [] = refl
within_fields c (v ∷ vs) = ap (either (occurs c v.value)) (within_fields c vs)

alone_fields : (c : ℕ) (vs : List FieldValue) → list_any (λ (h : Held). h.alone) (fields_held c vs) ≡ list_any (is_choice_at c) (map (λ (v : FieldValue). v.value) vs)
alone_fields c [] = refl
alone_fields c (v ∷ vs) = ap (either (is_choice_at c v.value)) (alone_fields c vs)

hides_is : (c : ℕ) (n : Names) (p : Path) → Fits c n p → (es : Exprs) → hidden c (record p { sent = Some (list_of (all_replaced p es)) }) ≡ hides n es (holds c p)
hides_is c n p fits es =
    let args : List Expr = list_of (all_replaced p es) in
    let values : List Expr = map (λ (v : FieldValue). v.value) p.fields in
    let occurring : list_any (occurs c) (p.conditions ++ (args ++ values)) ≡ (list_any (occurs c) p.conditions || (any_mentions n (holds c p) es || list_any (λ (h : Held). h.within) (fields_held c p.fields))) =
    list_any-append (occurs c) p.conditions (args ++ values)
    ∙ ap (either (list_any (occurs c) p.conditions)) (list_any-append (occurs c) args values ∙ ap₂ either (sym (sent_mentions_is c n p fits es)) (sym (within_fields c p.fields))) in
    let standing : list_any (is_choice_at c) (args ++ values) ≡ (any_alone n (holds c p) es || list_any (λ (h : Held). h.alone) (fields_held c p.fields)) =
    list_any-append (is_choice_at c) args values ∙ ap₂ either (sym (sent_alone_is c n p fits es)) (sym (alone_fields c p.fields)) in
    ap₂ (λ (a b : Bool). has_number c p.choices && (a && not b)) occurring standing
    ∙ all_three (has_number c p.choices) (follow.occurs n es (holds c p)) (not (follow.stands n es (holds c p)))

-- ---- paths that go on

meets_is : (c : ℕ) (n : Names) (p : Path) → Fits c n p → (e : Expr) → holds c (meets e p) ≡ follow.meets n e (holds c p)
meets_is c n p fits e =
    let put : Bool → Holding = λ b. record (holds c p) { met = b || list_any (occurs c) p.conditions } in
    ap put (sym (mentions_is c n p fits e))

meets_fits : (c : ℕ) (n : Names) (p : Path) (e : Expr) → Fits c n p → Fits c n (meets e p)
meets_fits c n p e fits = record { choice = fits.choice; fields = fits.fields; vars = fits.vars; unsent = fits.unsent }

chooses_is : (c : ℕ) (n : Names) (p : Path) (at : ℕ) → n.choice ≡ c → holds c (chooses at p) ≡ follow.chooses n at (holds c p)
chooses_is c n p at h =
    let put : ℕ → Holding = λ k. record (holds c p) { made = (k == at) || has_number c p.choices } in
    ap put (sym h)

chooses_fits : (c : ℕ) (n : Names) (p : Path) (at : ℕ) → Fits c n p → Fits c n (chooses at p)
chooses_fits c n p at fits = record { choice = fits.choice; fields = fits.fields; vars = fits.vars; unsent = fits.unsent }

with_var_is : (c : ℕ) (p : Path) (x : Name) (e : Expr) (h : Held) (s : Holding) → h ≡ held_of c e → holds c p ≡ s → holds c (with_var_as x e p) ≡ with_var h s
with_var_is c p x e h s a b = ap₂ (λ (v : Held) (q : Holding). with_var v q) (sym a) b

with_var_fits : (c : ℕ) (n : Names) (p : Path) (x : Name) (e : Expr) → Fits c n p → Fits c (bound x n) (with_var_as x e p)
with_var_fits c n p x e fits = record { choice = fits.choice; fields = fits.fields; vars = ap (λ (ys : List (List ℕ)). ys ++ (x.text ∷ [])) fits.vars; unsent = fits.unsent }

with_field_fits : (c : ℕ) (n : Names) (p : Path) (h f : Name) (e : Expr) → Fits c n p → Fits c n (with_field_as h f e p)
with_field_fits c n p h f e fits = record { choice = fits.choice; fields = fits.fields ∙ sym (same_fields p.fields h f e); vars = fits.vars; unsent = fits.unsent }

-- a chosen variable
chosen_var_is : (c : ℕ) (n : Names) (p : Path) (at : ℕ) (x : Name) → Fits c n p → holds c (with_var_as x (choice at) (chooses at p)) ≡ with_var (made_at n at) (follow.chooses n at (holds c p))
chosen_var_is c n p at x fits = with_var_is c (chooses at p) x (choice at) (made_at n at) (follow.chooses n at (holds c p)) (made_is c n at fits.choice) (chooses_is c n p at fits.choice)

same_fields_after : (s : Stmt) (n : Names) → (after s n).fields ≡ n.fields
same_fields_after (let_ at x w e) n = refl
same_fields_after (havoc_var at x w) n = refl
same_fields_after s n = refl

-- ---- both agree

-- where a test says of paths that go on after a statement what another says of what they hold
abbrev GoOn : ℕ → Names → Path → (Path → Bool) → (Holding → Bool) → Type 0
GoOn c n p u t = (q : Path) → Fits c n q → (more : List Var) → q.vars ≡ more ++ p.vars → u q ≡ t (holds c q)

-- the same after a block
abbrev GoOut : ℕ → Names → Path → (Path → Bool) → (Holding → Bool) → Type 0
GoOut c n p u t = (q : Path) → n.fields ≡ field_names q.fields → q.sent ≡ None → (more : List Var) → q.vars ≡ more ++ p.vars → u q ≡ t (holds c q)

-- where it says of paths that have sent whether they hide the choice
abbrev Stop : ℕ → (Path → Bool) → Type 0
Stop c u = (q : Path) (es : List Expr) → q.sent ≡ Some es → u q ≡ hidden c q

-- of the one path after a statement
one_goes : (c : ℕ) (n : Names) (p q : Path) (u : Path → Bool) (t : Holding → Bool) (s : Holding) (more : List Var) → GoOn c n p u t → Fits c n q → q.vars ≡ more ++ p.vars → holds c q ≡ s → list_any u (q ∷ []) ≡ t s
one_goes c n p q u t s more go fits e h = or-false (u q) ∙ go q fits more e ∙ ap t h

-- a path that stops is not followed further
unless_none : (u : Path → Bool) (f : Path → List Path) (q : Path) → q.sent ≡ None → list_any u (unless_sent f q) ≡ list_any u (f q)
unless_none u f q h = ap (λ (o : Option (List Expr)). list_any u (elim o as (λ x. List Path) [ None ↦ f q | Some es ↦ q ∷ [] ])) h

unless_some : (u : Path → Bool) (f : Path → List Path) (q : Path) (es : List Expr) → q.sent ≡ Some es → list_any u (unless_sent f q) ≡ u q
unless_some u f q es h = ap (λ (o : Option (List Expr)). list_any u (elim o as (λ x. List Path) [ None ↦ f q | Some es ↦ q ∷ [] ])) h ∙ or-false (u q)

mutual
  pub found_on_path : (s : Stmt) (c : ℕ) (n : Names) (p : Path) (u : Path → Bool) (t : Holding → Bool) → Fits c n p → GoOn c (after s n) p u t → Stop c u → list_any u (paths s p) ≡ finds n s t (holds c p)
  found_on_path (let_ at x w e) c n p u t fits go stop =
      one_goes c (bound x n) p (with_var_as x (replaced p e) p) u t (with_var (held n (holds c p) e) (holds c p)) (record { name = x.text; value = replaced p e } ∷ []) go
      (with_var_fits c n p x (replaced p e) fits) refl (with_var_is c p x (replaced p e) (held n (holds c p) e) (holds c p) (held_is c n p fits e) refl)
  found_on_path (set_field at h f e) c n p u t fits go stop =
      one_goes c n p (with_field_as h f (replaced p e) p) u t (follow.with_field n h f (held n (holds c p) e) (holds c p)) [] go
      (with_field_fits c n p h f (replaced p e) fits) refl (with_field_is c n p fits h f (replaced p e) (held n (holds c p) e) (held_is c n p fits e))
  found_on_path (if_ at e first second) c n p u t fits go stop =
      let inside = meets_fits c n p e fits in
      let v : Path → Bool = λ q. u (read_back.leaves p.vars q) in
      let r : Holding → Bool = λ s. t (follow.leaves n s) in
      let out : GoOut c n (meets e p) v r = λ q same unsent more above.
      go (read_back.leaves p.vars q) (record { choice = fits.choice; fields = same; vars = fits.vars; unsent = unsent }) [] refl ∙ ap t (leaves_is c n p q more fits above) in
      let stops : Stop c v = λ q es sent. stop (read_back.leaves p.vars q) es sent in
      let branch : (b : Block) → list_any v (paths_in b (meets e p)) ≡ finds_in n b r (holds c (meets e p)) → list_any u (map (read_back.leaves p.vars) (paths_in b (meets e p))) ≡ finds_in n b r (follow.meets n e (holds c p)) = λ b same.
      any_map u (read_back.leaves p.vars) (paths_in b (meets e p)) ∙ same ∙ ap (finds_in n b r) (meets_is c n p fits e) in
      list_any-append u (map (read_back.leaves p.vars) (paths_in first (meets e p))) (map (read_back.leaves p.vars) (paths_in second (meets e p)))
      ∙ ap₂ either (branch first (found_on_paths first c n (meets e p) v r inside out stops)) (branch second (found_on_paths second c n (meets e p) v r inside out stops))
  found_on_path (filter at e) c n p u t fits go stop =
      one_goes c n p (meets e p) u t (follow.meets n e (holds c p)) [] go (meets_fits c n p e fits) refl (meets_is c n p fits e)
  found_on_path (havoc_var at x w) c n p u t fits go stop =
      one_goes c (bound x n) p (with_var_as x (choice at) (chooses at p)) u t (with_var (made_at n at) (follow.chooses n at (holds c p))) (record { name = x.text; value = choice at } ∷ []) go
      (with_var_fits c n (chooses at p) x (choice at) (chooses_fits c n p at fits)) refl (chosen_var_is c n p at x fits)
  found_on_path (havoc_field at h f) c n p u t fits go stop =
      one_goes c n p (with_field_as h f (choice at) (chooses at p)) u t (follow.with_field n h f (made_at n at) (follow.chooses n at (holds c p))) [] go
      (with_field_fits c n (chooses at p) h f (choice at) (chooses_fits c n p at fits)) refl
      (with_field_is c n (chooses at p) (chooses_fits c n p at fits) h f (choice at) (made_at n at) (made_is c n at fits.choice)
      ∙ ap (follow.with_field n h f (made_at n at)) (chooses_is c n p at fits.choice))
  found_on_path (assume at e) c n p u t fits go stop =
      one_goes c n p (meets e p) u t (follow.meets n e (holds c p)) [] go (meets_fits c n p e fits) refl (meets_is c n p fits e)
  found_on_path (fork at x w e body) c n p u t fits go stop =
      let start : Path = with_var_as x (choice at) (chooses at p) in
      let started : Fits c (bound x n) start = with_var_fits c n (chooses at p) x (choice at) (chooses_fits c n p at fits) in
      let v : Path → Bool = λ q. is_some q.sent && u q in
      let out : GoOut c (bound x n) (meets e start) v (λ s. false) = λ q same unsent more above. ap (λ (o : Option (List Expr)). is_some o && u q) unsent in
      let stops : Stop c v = λ q es sent. ap (λ (o : Option (List Expr)). is_some o && u q) sent ∙ stop q es sent in
      any_filter u (λ (q : Path). is_some q.sent) (paths_in body (meets e start))
      ∙ found_on_paths body c (bound x n) (meets e start) v (λ s. false) (meets_fits c (bound x n) start e started) out stops
      ∙ ap (finds_in (bound x n) body (λ s. false)) (meets_is c (bound x n) start started e ∙ ap (follow.meets (bound x n) e) (chosen_var_is c n p at x fits))
  found_on_path (send at r es) c n p u t fits go stop =
      or-false (u (record p { sent = Some (list_of (all_replaced p es)) }))
      ∙ stop (record p { sent = Some (list_of (all_replaced p es)) }) (list_of (all_replaced p es)) refl
      ∙ hides_is c n p fits es

  pub found_on_paths : (b : Block) (c : ℕ) (n : Names) (p : Path) (u : Path → Bool) (t : Holding → Bool) → Fits c n p → GoOut c n p u t → Stop c u → list_any u (paths_in b p) ≡ finds_in n b t (holds c p)
  found_on_paths no_stmts c n p u t fits out stop = or-false (u p) ∙ out p fits.fields fits.unsent [] refl
  found_on_paths (stmt s rest) c n p u t fits out stop =
      let v : Path → Bool = λ q. list_any u (unless_sent (paths_in rest) q) in
      let go : GoOn c (after s n) p v (finds_in (after s n) rest t) = λ q fit more above.
      unless_none u (paths_in rest) q fit.unsent
      ∙ found_on_paths rest c (after s n) q u t fit (λ r same unsent later over.
      out r (sym (same_fields_after s n) ∙ same) unsent (later ++ more) (over ∙ ap (λ (vs : List Var). later ++ vs) above ∙ sym (append_assoc later more p.vars))) stop in
      let stops : Stop c v = λ q es sent. unless_some u (paths_in rest) q es sent ∙ stop q es sent in
      any_flat u (unless_sent (paths_in rest)) (paths s p) ∙ found_on_path s c n p v (finds_in (after s n) rest t) fits go stops

-- ---- whole bodies

names_of_one : (h : HeaderDecl) (fs : List Param) → field_names (map (λ (f : Param). record { header = h.name.text; field = f.name.text; value = field 0 h.name f.name }) fs) ≡ map (λ (f : Param). record { header = h.name.text; field = f.name.text }) fs
names_of_one h [] = refl
names_of_one h (f ∷ fs) = ap (λ (ys : List FieldName). record { header = h.name.text; field = f.name.text } ∷ ys) (names_of_one h fs)

names_first : (hs : List HeaderDecl) → field_names (first_fields hs) ≡ names_in hs
names_first [] = refl
names_first (h ∷ hs) =
    map_append (λ (v : FieldValue). field_name v) (map (λ (f : Param). record { header = h.name.text; field = f.name.text; value = field 0 h.name f.name }) h.fields) (first_fields hs)
    ∙ ap₂ (λ (xs ys : List FieldName). xs ++ ys) (names_of_one h h.fields) (names_first hs)

held_of_one : (c : ℕ) (h : HeaderDecl) (fs : List Param) → fields_held c (map (λ (f : Param). record { header = h.name.text; field = f.name.text; value = field 0 h.name f.name }) fs) ≡ map (λ (y : FieldName). nothing) (map (λ (f : Param). record { header = h.name.text; field = f.name.text }) fs)
held_of_one c h [] = refl
held_of_one c h (f ∷ fs) = ap (λ (ys : List Held). nothing ∷ ys) (held_of_one c h fs)

held_first : (c : ℕ) (hs : List HeaderDecl) → fields_held c (first_fields hs) ≡ map (λ (y : FieldName). nothing) (names_in hs)
held_first c [] = refl
held_first c (h ∷ hs) =
    map_append (λ (v : FieldValue). held_of c v.value) (map (λ (f : Param). record { header = h.name.text; field = f.name.text; value = field 0 h.name f.name }) h.fields) (first_fields hs)
    ∙ ap₂ (λ (xs ys : List Held). xs ++ ys) (held_of_one c h h.fields) (held_first c hs)
    ∙ sym (map_append (λ (y : FieldName). nothing) (map (λ (f : Param). record { header = h.name.text; field = f.name.text }) h.fields) (names_in hs))

-- where a choice is one of the hidden ones
pub member_is : (c : ℕ) (d : Design) (b : Block) → has_number c (hidden_in d b) ≡ is_hidden (body_names c d.headers) b
member_is c d b =
    let n : Names = body_names c d.headers in
    let p : Path = record { conditions = []; choices = []; vars = []; fields = first_fields d.headers; sent = None } in
    let u : Path → Bool = λ q. has_number c (hidden_on q) in
    let fits : Fits c n p = record { choice = refl; fields = sym (names_first d.headers); vars = refl; unsent = refl } in
    let out : GoOut c n p u (λ s. false) = λ q same unsent more above. ap (λ (o : Option (List Expr)). has_number c (elim o as (λ x. List ℕ) [ None ↦ [] | Some args ↦ list_filter (read_back.is_hidden args q) q.choices ])) unsent in
    let stop : Stop c u = λ q es sent.
    ap (λ (o : Option (List Expr)). has_number c (elim o as (λ x. List ℕ) [ None ↦ [] | Some args ↦ list_filter (read_back.is_hidden args q) q.choices ])) sent
    ∙ number_filter c (read_back.is_hidden es q) q.choices
    ∙ swapped (read_back.is_hidden es q c) (has_number c q.choices)
    ∙ sym (ap (λ (o : Option (List Expr)). elim o as (λ x. Bool) [ None ↦ false | Some args ↦ has_number c q.choices && read_back.is_hidden args q c ]) sent) in
    let put : List Held → Holding = λ hs. record { made = false; met = false; fields = hs; vars = [] } in
    number_flat c hidden_on (paths_in b p) ∙ found_on_paths b c n p u (λ s. false) fits out stop ∙ ap (finds_in n b (λ s. false)) (ap put (held_first c d.headers))
