-- A body can be run from a case that was read.
use Rattle.std.proofs.Common.{◌≡◌, ◌+◌, ◌&&◌, ℕ, Bool, true, false, List, [], ◌∷◌, Option, Some, None, Result, Ok, Err, option_and_then, slice_get, refl, sym, ap, subst, ◌∙◌, arith}
use Rattle.std.proofs.lemmas.Bool.Decides.{nat_tests}
use Rattle.cocoon_num.specs.PacketForms.{FieldsFit}
use Rattle.cocoon_num.specs.Tokens.{kept_if}
use Rattle.cocoon_num.specs.Tree.{Design, Role}
use Rattle.cocoon_num.specs.Values.{fits_width}
use Rattle.cocoon_types.specs.Design.{role_at}
use Rattle.cocoon_types.specs.Runs.{Loc}
use Rattle.cocoon_resolve.specs.Readers.{field_widths, HasRole}
use Rattle.text_lines.specs.Lines.{Line, parts_of}
use Rattle.text_lines.specs.Numbers.{list_of}
use Rattle.step_cases.specs.Agrees.{CanRun, IsAt}
use Rattle.step_cases.specs.Cases.{all_fit_widths, fields_in, line_at, location_in, may_act, or_line}
use Rattle.step_cases.specs.declared.case.Case.{Case}

-- a line that was read is of its form
of_form : {A : Type 0} (number : ℕ) (o : Option A) (x : A) → or_line number o ≡ Ok x → o ≡ Some x
of_form number None x e = cc
of_form number (Some y) x e = cc

abbrev line_in : {A : Type 0} → (List (List ℕ) → Option A) → ℕ → Option Line → Result A ℕ
line_in form count o = elim o [ None ↦ Err (count + 1) | Some line ↦ or_line line.number (form (parts_of line.bytes)) ]

at_parts : {A : Type 0} (form : List (List ℕ) → Option A) (o : Option Line) (count : ℕ) (x : A) → line_in form count o ≡ Ok x
    → (parts : List (List ℕ)) × (form parts ≡ Some x)
at_parts form None count x e = absurd (cc)
at_parts form (Some line) count x e = (parts_of line.bytes, of_form line.number (form (parts_of line.bytes)) x e)

-- ---- the role

in_values : (role : Role) (name : List ℕ) (o : Option (List ℕ)) (at : Loc) → option_and_then (λ vs. kept_if (may_act role vs) (record { role = name; values = vs })) o ≡ Some at → at.role ≡ name
in_values role name None at e = absurd (cc)
in_values role name (Some vs) at e = acting (may_act role vs) e
  where
    acting : (b : Bool) → kept_if b (record { role = name; values = vs }) ≡ Some at → at.role ≡ name
    acting true e = let same : ◌≡◌ {A = Loc} (record { role = name; values = vs }) at = cc in ap (λ (l : Loc). l.role) (sym same)
    acting false e = absurd (cc)

role_there : (level : ℕ) (d : Design) (parts : List (List ℕ)) (at : Loc) → location_in level d parts ≡ Some at → (r : Role) × (role_at level d at.role ≡ Some r)
role_there level d [] at e = absurd (cc)
role_there level d (name ∷ parts) at e = there (role_at level d name) refl e
  where
    there : (o : Option Role) → role_at level d name ≡ o → option_and_then (λ role. option_and_then (λ vs. kept_if (may_act role vs) (record { role = name; values = vs })) (list_of parts)) o ≡ Some at → (r : Role) × (role_at level d at.role ≡ Some r)
    there None p e = absurd (cc)
    there (Some r) p e = (r, ap (role_at level d) (in_values r name (list_of parts) at e) ∙ p)

-- ---- the fields

both : (a b : Bool) → (a && b) ≡ true → (a ≡ true) × (b ≡ true)
both true b e = (refl, e)
both false b e = absurd (cc)

fit_fields : (ws ns : List ℕ) → all_fit_widths ws ns ≡ true → FieldsFit ws ns
fit_fields [] [] e = tt
fit_fields [] (n ∷ ns) e = absurd (cc)
fit_fields (w ∷ ws) [] e = absurd (cc)
fit_fields (w ∷ ws) (n ∷ ns) e =
    let parts = both (fits_width w n) (all_fit_widths ws ns) e in
    let first = parts.0 in
    (grind (arith, nat_tests, first), fit_fields ws ns parts.1)

fields_fit : (d : Design) (parts : List (List ℕ)) (ns : List ℕ) → fields_in d parts ≡ Some ns → FieldsFit (field_widths d) ns
fields_fit d parts ns e = from (list_of parts) e
  where
    kept : (b : Bool) (ms : List ℕ) → all_fit_widths (field_widths d) ms ≡ b → kept_if b ms ≡ Some ns → FieldsFit (field_widths d) ns
    kept true ms p q = let same : ms ≡ ns = cc in subst (FieldsFit (field_widths d)) same (fit_fields (field_widths d) ms p)
    kept false ms p q = absurd (cc)

    from : (o : Option (List ℕ)) → option_and_then (λ fields. kept_if (all_fit_widths (field_widths d) fields) fields) o ≡ Some ns → FieldsFit (field_widths d) ns
    from None e = absurd (cc)
    from (Some ms) e = kept (all_fit_widths (field_widths d) ms) ms refl e

pub can_run : (level : ℕ) (d : Design) (lines : List Line) (count : ℕ) (c : Case) (at : Loc) (fields : List ℕ) → line_at (location_in level d) 0 lines count ≡ Ok at → line_at (fields_in d) 1 lines count ≡ Ok fields
    → IsAt d c.role c.values.items at → c.fields.items ≡ fields → CanRun level d c
can_run level d lines count c at fields p q a e =
    let first = at_parts (location_in level d) (slice_get lines 0) count at p in
    let second = at_parts (fields_in d) (slice_get lines 1) count fields q in
    let role = role_there level d first.0 at first.1 in record {
      role = record { name = at.role; number = a.role_is; latest = role.0; declared = role.1 };
      fields = subst (FieldsFit (field_widths d)) (sym e) (fields_fit d second.0 fields second.1);
    }
