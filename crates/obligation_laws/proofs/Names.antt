-- The terms of variables and fields.
use Rattle.std.proofs.Common.{◌≡◌, ℕ, zero, suc, List, [], ◌∷◌, ◌++◌, length, map, take, drop, cond, Bool, true, false, Option, Some, None, if◌then◌else◌, option_map, option_and_then, refl, sym, ap, subst, ◌∙◌}
use Rattle.std.specs.List.{AllZip}
use Rattle.cocoon_num.specs.Names.{same_name, named}
use Rattle.cocoon_num.specs.PacketForms.{FieldsFit, PacketFits}
use Rattle.cocoon_num.specs.Sorts.{bits_sort}
use Rattle.cocoon_num.specs.Tree.{Param, HeaderDecl}
use Rattle.cocoon_num.specs.Values.{Value, number, truth}
use Rattle.cocoon_resolve.specs.Readers.{all_widths}
use Rattle.cocoon_types.specs.Design.{field_width, read_field, read_in, widths_of}
use Rattle.cocoon_types.specs.Val.{variable}
use Rattle.bv_terms.specs.TermTrees.{Term}
use Rattle.bv_terms.specs.TermValues.{Functions, Inputs, number_in, term_value}
use Rattle.role_values.specs.Flat.{packet_of}
use Rattle.sound_types.specs.Matching.{HasValue, IsOfSort}
use Rattle.sound_types.proofs.Variables.{width_among}
use Rattle.obligation_laws.specs.TermOf.{TermEnv, bind_terms, field_term, term_in, variable_term}
use Rattle.obligation_laws.specs.Shown.{AreVariables, HasNumber, HasWidth, env_of, numbers_of, packet_in}

-- ---- variables

width_by : (p : Param) (ps : List Param) (x : List ℕ) (w : ℕ) (t u : Term) → HasWidth p.width t → (width_among ps x ≡ Some w → HasWidth w u) → (same : Bool)
    → option_map (λ (q : Param). q.width) (cond same (Some p) (named (λ (q : Param). q.name) x ps)) ≡ Some w → HasWidth w (if same then t else u)
width_by p ps x w t u h f true k = let e : p.width ≡ w = cc in h ∙ e
width_by p ps x w t u h f false k = f k

pub variable_width : (ps : List Param) (vars : TermEnv) → AreVariables ps vars → (x : List ℕ) (w : ℕ) → width_among ps x ≡ Some w → HasWidth w (variable_term vars x)
variable_width [] [] h x w e = absurd (cc)
variable_width [] (v ∷ vars) h x w e = absurd h
variable_width (p ∷ ps) [] h x w e = absurd h
variable_width (p ∷ ps) (v ∷ vars) h x w e =
    subst (λ y. HasWidth w (if same_name x y then v.1 else variable_term vars x)) (sym h.0)
    (width_by p ps x w v.1 (variable_term vars x) h.1 (variable_width ps vars h.2 x w) (same_name x p.name.text) e)

value_by : (w : ℕ) (b : Bool) (F : Functions) (ins : Inputs) (t u : Term) (o : Option Value) → HasValue (bits_sort w) (if b then Some (term_value F ins t) else o)
    → (HasValue (bits_sort w) o → o ≡ Some (term_value F ins u)) → (if b then Some (term_value F ins t) else o) ≡ Some (term_value F ins (if b then t else u))
value_by w true F ins t u o h f = refl
value_by w false F ins t u o h f = f h

pub variable_shown : (F : Functions) (ins : Inputs) (vars : TermEnv) (x : List ℕ) (w : ℕ) → HasValue (bits_sort w) (variable (env_of F ins vars) x) → variable (env_of F ins vars) x ≡ Some (term_value F ins (variable_term vars x))
variable_shown F ins [] x w h = absurd h
variable_shown F ins (v ∷ vars) x w h = value_by w (same_name x v.0) F ins v.1 (variable_term vars x) (variable (env_of F ins vars) x) h (variable_shown F ins vars x w)

-- ---- fields

-- what holds of the terms of all fields holds of those of a header, and of those after it
in_header : (R : ℕ → Term → Type 0) (ps : List Param) (ws : List ℕ) (ts : List Term) → AllZip R (widths_of ps ++ ws) ts → (f : List ℕ) (w : ℕ) → width_among ps f ≡ Some w → R w (term_in ps ts f)
in_header R [] ws ts h f w e = absurd (cc)
in_header R (p ∷ ps) ws [] h f w e = absurd h
in_header R (p ∷ ps) ws (t ∷ ts) h f w e = by (in_header R ps ws ts h.1 f w) (same_name f p.name.text) e
  where
    by : (width_among ps f ≡ Some w → R w (term_in ps ts f)) → (b : Bool) → option_map (λ (q : Param). q.width) (cond b (Some p) (named (λ (q : Param). q.name) f ps)) ≡ Some w → R w (if b then t else term_in ps ts f)
    by later true k = let is : p.width ≡ w = cc in subst (λ v. R v t) is h.0
    by later false k = later k

after_header : (R : ℕ → Term → Type 0) (ps : List Param) (ws : List ℕ) (ts : List Term) → AllZip R (widths_of ps ++ ws) ts → AllZip R ws (drop (length ps) ts)
after_header R [] ws ts h = h
after_header R (p ∷ ps) ws [] h = absurd h
after_header R (p ∷ ps) ws (t ∷ ts) h = after_header R ps ws ts h.1

pub field_has : (R : ℕ → Term → Type 0) (hs : List HeaderDecl) (ts : List Term) → AllZip R (all_widths hs) ts → (h f : List ℕ) (w : ℕ) → field_width hs h f ≡ Some w → R w (field_term hs ts h f)
field_has R [] ts z h f w e = absurd (cc)
field_has R (d ∷ hs) ts z h f w e = by (field_has R hs (drop (length d.fields) ts) (after_header R d.fields (all_widths hs) ts z) h f w) (same_name h d.name.text) e
  where
    by : (field_width hs h f ≡ Some w → R w (field_term hs (drop (length d.fields) ts) h f)) → (b : Bool) → option_and_then (λ (c : HeaderDecl). width_among c.fields f) (cond b (Some d) (named (λ (c : HeaderDecl). c.name) h hs)) ≡ Some w
        → R w (if b then term_in d.fields ts f else field_term hs (drop (length d.fields) ts) h f)
    by later true k = in_header R d.fields (all_widths hs) ts z f w k
    by later false k = later k

number_of_value : (w : ℕ) (v : Value) → IsOfSort (bits_sort w) v → v ≡ number w (number_in v)
number_of_value w (number v n) h = ap (λ u. number u n) h.0
number_of_value w (truth b) h = absurd h

shown_in : (F : Functions) (ins : Inputs) (ps : List Param) (ws : List ℕ) (ts : List Term) → AllZip (HasNumber F ins) (widths_of ps ++ ws) ts → (f : List ℕ) (w : ℕ) → width_among ps f ≡ Some w
    → read_in ps (take (length ps) (numbers_of F ins ts)) f ≡ Some (term_value F ins (term_in ps ts f))
shown_in F ins [] ws ts h f w e = absurd (cc)
shown_in F ins (p ∷ ps) ws [] h f w e = absurd h
shown_in F ins (p ∷ ps) ws (t ∷ ts) h f w e = by (shown_in F ins ps ws ts h.1 f w) (same_name f p.name.text) e
  where
    by : (width_among ps f ≡ Some w → read_in ps (take (length ps) (numbers_of F ins ts)) f ≡ Some (term_value F ins (term_in ps ts f))) → (b : Bool) → option_map (λ (q : Param). q.width) (cond b (Some p) (named (λ (q : Param). q.name) f ps)) ≡ Some w
        → (if b then Some (number p.width (number_in (term_value F ins t))) else read_in ps (take (length ps) (numbers_of F ins ts)) f) ≡ Some (term_value F ins (if b then t else term_in ps ts f))
    by later true k = sym (ap Some (number_of_value p.width (term_value F ins t) h.0))
    by later false k = later k

numbers_after : (F : Functions) (ins : Inputs) (k : ℕ) (ts : List Term) → drop k (numbers_of F ins ts) ≡ numbers_of F ins (drop k ts)
numbers_after F ins zero ts = refl
numbers_after F ins (suc k) [] = refl
numbers_after F ins (suc k) (t ∷ ts) = numbers_after F ins k ts

pub field_shown : (F : Functions) (ins : Inputs) (hs : List HeaderDecl) (ts : List Term) → AllZip (HasNumber F ins) (all_widths hs) ts → (h f : List ℕ) (w : ℕ) → field_width hs h f ≡ Some w
    → read_field hs (packet_in F ins hs ts) h f ≡ Some (term_value F ins (field_term hs ts h f))
field_shown F ins [] ts z h f w e = absurd (cc)
field_shown F ins (d ∷ hs) ts z h f w e =
    by (field_shown F ins hs (drop (length d.fields) ts) (after_header (HasNumber F ins) d.fields (all_widths hs) ts z) h f w) (same_name h d.name.text) e
  where
    by : (field_width hs h f ≡ Some w → read_field hs (packet_in F ins hs (drop (length d.fields) ts)) h f ≡ Some (term_value F ins (field_term hs (drop (length d.fields) ts) h f))) → (b : Bool) → option_and_then (λ (c : HeaderDecl). width_among c.fields f) (cond b (Some d) (named (λ (c : HeaderDecl). c.name) h hs)) ≡ Some w
        → (if b then read_in d.fields (take (length d.fields) (numbers_of F ins ts)) f else read_field hs (packet_of hs (drop (length d.fields) (numbers_of F ins ts))) h f)
        ≡ Some (term_value F ins (if b then term_in d.fields ts f else field_term hs (drop (length d.fields) ts) h f))
    by later true k = shown_in F ins d.fields (all_widths hs) ts z f w k
    by later false k = ap (λ ns. read_field hs (packet_of hs ns) h f) (numbers_after F ins (length d.fields) ts) ∙ later k
