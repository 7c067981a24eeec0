-- The headers of a design keep the kind rules.
use Rattle.std.proofs.Common.{◌≡◌, ℕ, ◌%◌, ◌==◌, ◌&&◌, ◌||◌, not, List, [], ◌∷◌, map, Bool, true, false, refl, sym, ap, subst, ◌∙◌}
use Rattle.std.specs.Prelude.{flat_map}
use Rattle.cocoon_num.specs.Lists.{all_distinct, each, is_one_of}
use Rattle.cocoon_num.specs.Names.{same_name}
use Rattle.cocoon_num.specs.Packets.{total}
use Rattle.cocoon_num.specs.Sorts.{is_declared_width}
use Rattle.cocoon_num.specs.Spelled.{header_is_spelled, is_spelled}
use Rattle.cocoon_num.specs.Tokens.{is_run}
use Rattle.cocoon_num.specs.Tree.{Name, Param, HeaderDecl, Design}
use Rattle.cocoon_types.specs.Design.{widths_of}
use Rattle.cocoon_types.specs.RuleParts.{unless_named, has_name, param_names, repeated}
use Rattle.cocoon_types.specs.Rules.{WellFormed, twice, too_wide, header_width}
use Rattle.cocoon_types.specs.TypeRules.{wide_params}
use Rattle.p4_ir.specs.P4Tree.{P4Field, P4Header, field_widths}
use Rattle.lowering.specs.SwitchProgram.{p4_field, p4_header}
use Rattle.sound_types.proofs.Options.{both_true, true_both, nil_left, nil_right, passes, same_text, text_self}

-- ---- names that stand once

clash : (b : Bool) → b ≡ true → not b ≡ true → ⊥
clash true e h = absurd (cc)
clash false e h = absurd (cc)

-- names that are not repeated are none of those seen
lacks : (seen ns : List Name) → repeated seen ns ≡ [] → (x : List ℕ) → has_name x seen ≡ true → is_one_of (map (λ (n : Name). n.text) ns) x ≡ false
lacks seen [] h x s = refl
lacks seen (n ∷ ns) h x s =
    let first = passes (not (has_name n.text seen)) n.at (nil_left (unless_named (not (has_name n.text seen)) n) (repeated (n ∷ seen) ns) h) in
    let more = nil_right (unless_named (not (has_name n.text seen)) n) (repeated (n ∷ seen) ns) h in
    (λ k. one first (same_name n.text x) refl k || lacks (n ∷ seen) ns more x (either (same_name x n.text) (has_name x seen) s) k)
  where
    one : not (has_name n.text seen) ≡ true → (t : Bool) → same_name n.text x ≡ t → same_name n.text x ≡ false
    one f true is = absurd (clash (has_name n.text seen) (ap (λ y. has_name y seen) (same_text n.text x is) ∙ s) f)
    one f false is = is

    either : (a b : Bool) → b ≡ true → (a || b) ≡ true
    either true b e = refl
    either false b e = e

apart : (b c : Bool) → b ≡ false → c ≡ true → (not b && c) ≡ true
apart true c p q = absurd (cc)
apart false c p q = q

first_seen : (n : Name) (seen : List Name) → has_name n.text (n ∷ seen) ≡ true
first_seen n seen = ap (λ b. b || has_name n.text seen) (text_self n.text)

distinct : (seen ns : List Name) → repeated seen ns ≡ [] → all_distinct (map (λ (n : Name). n.text) ns) ≡ true
distinct seen [] h = refl
distinct seen (n ∷ ns) h =
    let more = nil_right (unless_named (not (has_name n.text seen)) n) (repeated (n ∷ seen) ns) h in
    apart (is_one_of (map (λ (m : Name). m.text) ns) n.text) (all_distinct (map (λ (m : Name). m.text) ns)) (lacks (n ∷ seen) ns more n.text (first_seen n seen)) (distinct (n ∷ seen) ns more)

-- ---- fields

field_names : (ps : List Param) → map (λ (f : P4Field). f.name) (map p4_field ps) ≡ map (λ (n : Name). n.text) (param_names ps)
field_names [] = refl
field_names (p ∷ ps) = ap (λ xs. p.name.text ∷ xs) (field_names ps)

field_runs : (ps : List Param) → each (λ (p : Param). is_run p.name.text) ps ≡ true → each (λ (f : P4Field). is_run f.name) (map p4_field ps) ≡ true
field_runs [] h = refl
field_runs (p ∷ ps) h =
    let both = both_true (is_run p.name.text) (each (λ (q : Param). is_run q.name.text) ps) h in
    true_both (is_run p.name.text) (each (λ (f : P4Field). is_run f.name) (map p4_field ps)) both.0 (field_runs ps both.1)

pub field_sizes : (ps : List Param) → field_widths (map p4_field ps) ≡ widths_of ps
field_sizes [] = refl
field_sizes (p ∷ ps) = ap (λ xs. p.width ∷ xs) (field_sizes ps)

declared : (ps : List Param) → wide_params ps ≡ [] → each is_declared_width (widths_of ps) ≡ true
declared [] h = refl
declared (p ∷ ps) h =
    true_both (is_declared_width p.width) (each is_declared_width (widths_of ps)) (passes (is_declared_width p.width) p.name.at (nil_left (unless_named (is_declared_width p.width) p.name) (wide_params ps) h))
    (declared ps (nil_right (unless_named (is_declared_width p.width) p.name) (wide_params ps) h))

-- ---- headers

header_names : (hs : List HeaderDecl) → map (λ (h : P4Header). h.name) (map p4_header hs) ≡ map (λ (n : Name). n.text) (map (λ (h : HeaderDecl). h.name) hs)
header_names [] = refl
header_names (h ∷ hs) = ap (λ xs. h.name.text ∷ xs) (header_names hs)

-- the name of a header and those of its fields
abbrev pub names_of : P4Header → Bool
names_of h = is_run h.name && each (λ (f : P4Field). is_run f.name) h.fields && all_distinct (map (λ (f : P4Field). f.name) h.fields)

abbrev pub widths_ok : P4Header → Bool
widths_ok h = each is_declared_width (field_widths h.fields) && (total (field_widths h.fields) % 8 == 0)

named_fields : (hs : List HeaderDecl) → each header_is_spelled hs ≡ true → flat_map (λ (h : HeaderDecl). repeated [] (param_names h.fields)) hs ≡ [] → each names_of (map p4_header hs) ≡ true
named_fields [] s t = refl
named_fields (h ∷ hs) s t =
    let both = both_true (header_is_spelled h) (each header_is_spelled hs) s in
    let own = both_true (is_run h.name.text) (each (λ (p : Param). is_run p.name.text) h.fields) both.0 in
    let first = nil_left (repeated [] (param_names h.fields)) (flat_map (λ (x : HeaderDecl). repeated [] (param_names x.fields)) hs) t in
    let rest = nil_right (repeated [] (param_names h.fields)) (flat_map (λ (x : HeaderDecl). repeated [] (param_names x.fields)) hs) t in
    true_both (names_of (p4_header h)) (each names_of (map p4_header hs))
    (true_both (is_run h.name.text && each (λ (f : P4Field). is_run f.name) (map p4_field h.fields)) (all_distinct (map (λ (f : P4Field). f.name) (map p4_field h.fields)))
    (true_both (is_run h.name.text) (each (λ (f : P4Field). is_run f.name) (map p4_field h.fields)) own.0 (field_runs h.fields own.1)) (ap all_distinct (field_names h.fields) ∙ distinct [] (param_names h.fields) first))
    (named_fields hs both.1 rest)

sized : (hs : List HeaderDecl) → flat_map (λ (h : HeaderDecl). wide_params h.fields) hs ≡ [] → flat_map (λ (h : HeaderDecl). unless_named (total (widths_of h.fields) % 8 == 0) h.name) hs ≡ [] → each widths_ok (map p4_header hs) ≡ true
sized [] s t = refl
sized (h ∷ hs) s t =
    let first = nil_left (wide_params h.fields) (flat_map (λ (x : HeaderDecl). wide_params x.fields) hs) s in
    let rest = nil_right (wide_params h.fields) (flat_map (λ (x : HeaderDecl). wide_params x.fields) hs) s in
    let whole = nil_left (unless_named (total (widths_of h.fields) % 8 == 0) h.name) (flat_map (λ (x : HeaderDecl). unless_named (total (widths_of x.fields) % 8 == 0) x.name) hs) t in
    let later = nil_right (unless_named (total (widths_of h.fields) % 8 == 0) h.name) (flat_map (λ (x : HeaderDecl). unless_named (total (widths_of x.fields) % 8 == 0) x.name) hs) t in
    true_both (widths_ok (p4_header h)) (each widths_ok (map p4_header hs))
    (subst (λ ws. (each is_declared_width ws && (total ws % 8 == 0)) ≡ true) (sym (field_sizes h.fields))
    (true_both (each is_declared_width (widths_of h.fields)) (total (widths_of h.fields) % 8 == 0) (declared h.fields first) (passes (total (widths_of h.fields) % 8 == 0) h.name.at whole)))
    (sized hs rest later)

-- what the rules give of all headers
pub record HeadersFit (d : Design) : Type 0 where
  pub names : each names_of (map p4_header d.headers) ≡ true
  pub distinct : all_distinct (map (λ (h : P4Header). h.name) (map p4_header d.headers)) ≡ true
  pub widths : each widths_ok (map p4_header d.headers) ≡ true

pub headers_fit : (d : Design) → WellFormed d → is_spelled d ≡ true → HeadersFit d
headers_fit d w s =
    let first = nil_left _ _ (nil_left _ _ (nil_left _ _ (nil_left _ _ (nil_left _ _ (nil_left _ _ (nil_left _ _ (nil_left _ _ (w twice)))))))) in
    let wide = nil_left _ _ (nil_left _ _ (nil_left _ _ (nil_left _ _ (w too_wide)))) in record {
      names = named_fields d.headers s (nil_right _ _ first);
      distinct = ap all_distinct (header_names d.headers) ∙ distinct [] (map (λ (h : HeaderDecl). h.name) d.headers) (nil_left _ _ first);
      widths = sized d.headers wide (w header_width);
    }
