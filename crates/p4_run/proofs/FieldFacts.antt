-- A field of a header, as the code finds it.
use Rattle.std.proofs.Common.{◌≡◌, ℕ, ◌+◌, ◌<◌, ◌≤◌, ◌^◌, true, List, length, map, get_or, slice_get, Some, set, sym, ◌∙◌, ap, subst, arith}
use Rattle.std.proofs.lemmas.Option.{slice_get_within}
use Rattle.cocoon_num.specs.Lists.{each}
use Rattle.cocoon_num.specs.PacketForms.{FieldsFit}
use Rattle.cocoon_num.specs.Packets.{Layout}
use Rattle.cocoon_num.specs.Sorts.{is_declared_width}
use Rattle.cocoon_num.specs.Values.{number}
use Rattle.packed_fields.specs.AtOnce.{grouped, widths_in}
use Rattle.packed_fields.proofs.Packing.{fit_length}
use Rattle.packed_fields.proofs.Steps.{width_is}
use Rattle.p4_ir.specs.P4Tree.{field_widths}
use Rattle.p4_ir.specs.Program.{field_of, header_of}
use Rattle.p4_ir.specs.Switch.{header_field, set_in_header}
use Rattle.p4_ir.specs.declared.program.P4Field.{P4Field as CodeField}
use Rattle.p4_ir.specs.declared.program.P4Header.{P4Header as CodeHeader}
use Rattle.p4_run.specs.Places.{layout_of, starts_from}
use Rattle.p4_run.proofs.HeaderParts.{begin, field_at, FieldAt, fit_set, set_at, start_at, starts_count, width_at}
use Rattle.p4_run.proofs.WidthFacts.{header_is_at, wide_at, width_is_at, widths_counted}

-- where a field lies, and what it holds
pub record FieldIs (layout : Layout) (starts ns : List ℕ) (h f w : ℕ) : Type 0 where
  pub there : h < length starts
  pub within : get_or starts h 0 + f < length ns
  pub wide : 1 ≤ w
  pub narrow : w ≤ 64
  pub small : get_or ns (get_or starts h 0 + f) 0 < 2 ^ w
  pub value : header_field layout (grouped layout ns) h f ≡ Some (number w (get_or ns (get_or starts h 0 + f) 0))
  pub sets : (n : ℕ) → grouped layout (set ns (get_or starts h 0 + f) n) ≡ set_in_header (grouped layout ns) h f n
  pub fits : (n : ℕ) → n < 2 ^ w → FieldsFit (widths_in layout) (set ns (get_or starts h 0 + f) n)

pub field_is : (layout : Layout) (starts ns ws : List ℕ) (h f w : ℕ) → starts ≡ starts_from 0 layout → slice_get layout h ≡ Some ws → f < length ws → w ≡ get_or ws f 0
    → FieldsFit (widths_in layout) ns → each is_declared_width (widths_in layout) ≡ true → FieldIs layout starts ns h f w
field_is layout starts ns ws h f w s e l is fit declared =
    let at : FieldAt layout ns ws h f = field_at layout ns ws h f e l fit in
    let known : h < length layout = slice_get_within layout h ws e in
    let start : get_or starts h 0 ≡ begin layout h = ap (λ xs. get_or xs h 0) s ∙ start_at 0 layout h known ∙ omega arith in
    let many : length starts ≡ length layout = ap length s ∙ starts_count 0 layout in
    let flat : length (widths_in layout) ≡ length ns = fit_length (widths_in layout) ns fit in
    let in_flat : begin layout h + f < length (widths_in layout) = omega (arith, at.within) in
    let width : w ≡ get_or (widths_in layout) (begin layout h + f) 0 = is ∙ sym (width_at layout ws h f e l) in
    let place : get_or starts h 0 + f ≡ begin layout h + f = ap (λ k. k + f) start in
    record {
      there = omega arith;
      within = subst (λ k. k < length ns) (sym place) at.within;
      wide = subst (λ k. 1 ≤ k) (sym width) (wide_at (widths_in layout) (begin layout h + f) declared in_flat);
      narrow = subst (λ k. k ≤ 64) (sym width) (width_is (widths_in layout) (begin layout h + f) declared in_flat);
      small = subst (λ k. get_or ns (get_or starts h 0 + f) 0 < 2 ^ k) (sym is) (subst (λ k. get_or ns k 0 < 2 ^ get_or ws f 0) (sym place) at.small);
      value = at.value ∙ (λ k. Some (number (sym is k) (get_or ns (sym place k) 0)));
      sets = λ n. ap (λ k. grouped layout (set ns k n)) place ∙ set_at layout ns ws h f n e l;
      fits = λ n m. subst (λ k. FieldsFit (widths_in layout) (set ns k n)) (sym place) (fit_set (widths_in layout) ns (begin layout h + f) n fit (subst (λ k. n < 2 ^ k) width m));
    }

-- the same of what the code reads
pub field_found : (hs : List CodeHeader) (starts ns : List ℕ) (h f : ℕ) (d : CodeHeader) (x : CodeField) → starts ≡ starts_from 0 (layout_of (map header_of hs))
    → h < length hs → d ≡ get_or hs h d → f < length d.fields → x ≡ get_or d.fields f x
    → FieldsFit (widths_in (layout_of (map header_of hs))) ns → each is_declared_width (widths_in (layout_of (map header_of hs))) ≡ true
    → FieldIs (layout_of (map header_of hs)) starts ns h f x.width
field_found hs starts ns h f d x s l e k g fit declared =
    let many : length (field_widths (map field_of d.fields)) ≡ length d.fields = widths_counted d.fields in
    field_is (layout_of (map header_of hs)) starts ns (field_widths (map field_of d.fields)) h f x.width s (header_is_at hs h d l e) (omega arith) (width_is_at d.fields f x k g) fit declared
