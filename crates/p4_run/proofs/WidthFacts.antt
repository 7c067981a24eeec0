-- Widths of a program's fields, as the code has them, and numbers of these widths.
use Rattle.std.proofs.Common.{◌≡◌, ℕ, zero, suc, ◌+◌, ◌%◌, ◌<◌, ◌≤◌, ◌^◌, ◌==◌, ◌&&◌, nat_le, Bool, true, List, [], ◌∷◌, ◌++◌}
use Rattle.std.proofs.Common.{length, map, replicate, get_or, slice_get, Option, Some, None, option_map, option_and_then, refl, sym, ap, arith}
use Rattle.std.proofs.lemmas.Bool.{and_from, and_parts, eqb-true, leb-true}
use Rattle.std.proofs.lemmas.Option.{slice_get-get_or}
use Rattle.std.proofs.Math.Pow.{pow_pos}
use Rattle.cocoon_num.specs.Lists.{each}
use Rattle.cocoon_num.specs.PacketForms.{AllWhole, FieldsFit}
use Rattle.cocoon_num.specs.Packets.{Layout, total}
use Rattle.cocoon_num.specs.Sorts.{bits_sort, is_declared_width, Sort}
use Rattle.cocoon_num.specs.Values.{number, with_both}
use Rattle.packed_fields.specs.AtOnce.{widths_in}
use Rattle.packed_fields.proofs.Packing.{fit_length, total-append}
use Rattle.packed_fields.proofs.Steps.{field_fits, width_is}
use Rattle.p4_ir.specs.P4Kinds.{widths_fit}
use Rattle.p4_ir.specs.P4Tree.{field_widths, meta_width, P4Field, P4Header, Program, program_layout}
use Rattle.p4_ir.specs.Program.{field_of, header_of}
use Rattle.p4_ir.specs.Switch.{numbered}
use Rattle.p4_ir.specs.declared.program.P4Field.{P4Field as CodeField}
use Rattle.p4_ir.specs.declared.program.P4Header.{P4Header as CodeHeader}
use Rattle.p4_run.specs.Places.{layout_of}

-- ---- of the code

pub width_is_at : (fs : List CodeField) (i : ℕ) (x : CodeField) → i < length fs → x ≡ get_or fs i x → x.width ≡ get_or (field_widths (map field_of fs)) i 0
width_is_at [] i x l e = absurd (omega arith)
width_is_at (f ∷ fs) zero x l e = ap (λ (y : CodeField). y.width) e
width_is_at (f ∷ fs) (suc i) x l e = width_is_at fs i x (omega arith) e

pub widths_counted : (fs : List CodeField) → length (field_widths (map field_of fs)) ≡ length fs
widths_counted [] = refl
widths_counted (f ∷ fs) = ap suc (widths_counted fs)

pub header_is_at : (hs : List CodeHeader) (i : ℕ) (x : CodeHeader) → i < length hs → x ≡ get_or hs i x → slice_get (layout_of (map header_of hs)) i ≡ Some (field_widths (map field_of x.fields))
header_is_at [] i x l e = absurd (omega arith)
header_is_at (h ∷ hs) zero x l e = ap (λ (y : CodeHeader). Some (field_widths (map field_of y.fields))) (sym e)
header_is_at (h ∷ hs) (suc i) x l e = header_is_at hs i x (omega arith) e

pub headers_counted : (hs : List CodeHeader) → length (layout_of (map header_of hs)) ≡ length hs
headers_counted [] = refl
headers_counted (h ∷ hs) = ap suc (headers_counted hs)

-- ---- numbers of a width

pub wide_at : (ws : List ℕ) (i : ℕ) → each is_declared_width ws ≡ true → i < length ws → 1 ≤ get_or ws i 0
wide_at [] i h l = absurd (omega arith)
wide_at (w ∷ ws) zero h l = leb-true 1 w (and_parts (nat_le 1 w) (nat_le w 64) (and_parts (is_declared_width w) (each is_declared_width ws) h).0).0
wide_at (w ∷ ws) (suc i) h l = wide_at ws i (and_parts (is_declared_width w) (each is_declared_width ws) h).1 (omega arith)

pub record NumberAt (ws ns : List ℕ) (i : ℕ) : Type 0 where
  pub within : i < length ns
  pub wide : 1 ≤ get_or ws i 0
  pub narrow : get_or ws i 0 ≤ 64
  pub small : get_or ns i 0 < 2 ^ get_or ws i 0
  pub value : numbered ws ns i ≡ Some (number (get_or ws i 0) (get_or ns i 0))

pub number_at : (ws ns : List ℕ) (i : ℕ) → FieldsFit ws ns → each is_declared_width ws ≡ true → i < length ws → NumberAt ws ns i
number_at ws ns i fit declared l =
    let many : length ws ≡ length ns = fit_length ws ns fit in
    let m : i < length ns = omega arith in
    record {
      within = m;
      wide = wide_at ws i declared l;
      narrow = width_is ws i declared l;
      small = field_fits ws ns i fit l;
      value = (λ k. with_both (λ w n. Some (number w n)) (slice_get-get_or ws i 0 l k) (slice_get-get_or ns i 0 m k));
    }

-- ---- the kind rules

each_both : (ws vs : List ℕ) → each is_declared_width ws ≡ true → each is_declared_width vs ≡ true → each is_declared_width (ws ++ vs) ≡ true
each_both [] vs h k = k
each_both (w ∷ ws) vs h k =
    let parts = and_parts (is_declared_width w) (each is_declared_width ws) h in
    and_from (is_declared_width w) (each is_declared_width (ws ++ vs)) parts.0 (each_both ws vs parts.1 k)

abbrev header_widths_fit : P4Header → Bool
header_widths_fit h = each is_declared_width (field_widths h.fields) && (total (field_widths h.fields) % 8 == 0)

all_declared : (hs : List P4Header) → each header_widths_fit hs ≡ true → each is_declared_width (widths_in (layout_of hs)) ≡ true
all_declared [] h = refl
all_declared (d ∷ hs) h =
    let parts = and_parts (header_widths_fit d) (each header_widths_fit hs) h in
    let own = and_parts (each is_declared_width (field_widths d.fields)) (total (field_widths d.fields) % 8 == 0) parts.0 in
    each_both (field_widths d.fields) (widths_in (layout_of hs)) own.0 (all_declared hs parts.1)

all_whole : (hs : List P4Header) → each header_widths_fit hs ≡ true → AllWhole (layout_of hs)
all_whole [] h = tt
all_whole (d ∷ hs) h =
    let parts = and_parts (header_widths_fit d) (each header_widths_fit hs) h in
    let own = and_parts (each is_declared_width (field_widths d.fields)) (total (field_widths d.fields) % 8 == 0) parts.0 in
    (eqb-true (total (field_widths d.fields) % 8) 0 own.1, all_whole hs parts.1)

pub whole_total : (layout : Layout) → AllWhole layout → total (widths_in layout) % 8 ≡ 0
whole_total [] h = refl
whole_total (ws ∷ layout) h =
    let e : total (ws ++ widths_in layout) ≡ total ws + total (widths_in layout) = total-append ws (widths_in layout) in
    let r : total (widths_in layout) % 8 ≡ 0 = whole_total layout h.1 in
    let f : total ws % 8 ≡ 0 = h.0 in
    omega arith

pub record Widths (p : Program) : Type 0 where
  pub fields : each is_declared_width (widths_in (program_layout p)) ≡ true
  pub whole : AllWhole (program_layout p)
  pub bytes : total (widths_in (program_layout p)) % 8 ≡ 0
  pub meta : each is_declared_width (field_widths p.meta) ≡ true

pub widths_of : (p : Program) → widths_fit p ≡ true → Widths p
widths_of p h =
    let parts = and_parts (each header_widths_fit p.headers) (each is_declared_width (field_widths p.meta)) h in
    let whole : AllWhole (program_layout p) = all_whole p.headers parts.0 in
    record {
      fields = all_declared p.headers parts.0;
      whole = whole;
      bytes = whole_total (program_layout p) whole;
      meta = parts.1;
    }

-- ---- the types of fields

same_widths : (v w : ℕ) → ◌≡◌ {A = Option Sort} (Some (bits_sort v)) (Some (bits_sort w)) → v ≡ w
same_widths v w h = cc

pub meta_sorted_at : (fs : List P4Field) (i w : ℕ) → option_map (λ (f : P4Field). bits_sort f.width) (slice_get fs i) ≡ Some (bits_sort w)
    → (i < length (field_widths fs)) × (get_or (field_widths fs) i 0 ≡ w)
meta_sorted_at [] i w h = absurd (cc)
meta_sorted_at (f ∷ fs) zero w h = (omega arith, same_widths f.width w h)
meta_sorted_at (f ∷ fs) (suc i) w h = let r = meta_sorted_at fs i w h in let l : i < length (field_widths fs) = r.0 in (omega arith, r.1)

pub record FieldSorted (headers : List P4Header) (i f w : ℕ) : Type 0 where
  pub there : i < length (layout_of headers)
  pub header : slice_get (layout_of headers) i ≡ Some (get_or (layout_of headers) i [])
  pub within : f < length (get_or (layout_of headers) i [])
  pub width : get_or (get_or (layout_of headers) i []) f 0 ≡ w

pub field_sorted_at : (headers : List P4Header) (i f w : ℕ)
    → option_and_then (λ (d : P4Header). option_map (λ (x : P4Field). bits_sort x.width) (slice_get d.fields f)) (slice_get headers i) ≡ Some (bits_sort w) → FieldSorted headers i f w
field_sorted_at [] i f w h = absurd (cc)
field_sorted_at (d ∷ headers) zero f w h =
    let r = meta_sorted_at d.fields f w h in
    record { there = omega arith; header = refl; within = r.0; width = r.1 }
field_sorted_at (d ∷ headers) (suc i) f w h =
    let r = field_sorted_at headers i f w h in
    let l : i < length (layout_of headers) = r.there in
    record { there = omega arith; header = r.header; within = r.within; width = r.width }

-- zeros fit
pub zeros_fit : (ws : List ℕ) → FieldsFit ws (replicate (length ws) 0)
zeros_fit [] = tt
zeros_fit (w ∷ ws) = (pow_pos w, zeros_fit ws)

meta_at : (fs : List P4Field) (i : ℕ) → (elim (slice_get fs i) [ Some f ↦ f.width | None ↦ 0 ]) ≡ get_or (field_widths fs) i 0
meta_at [] i = refl
meta_at (f ∷ fs) zero = refl
meta_at (f ∷ fs) (suc i) = meta_at fs i

pub meta_width_is : (p : Program) (i : ℕ) → meta_width p i ≡ get_or (field_widths p.meta) i 0
meta_width_is p i = meta_at p.meta i

pub meta_counted : (fs : List P4Field) → length (field_widths fs) ≡ length fs
meta_counted [] = refl
meta_counted (f ∷ fs) = ap suc (meta_counted fs)
