-- What an expression is resolved to means it, where its parts do.
use Rattle.std.proofs.Common.{◌≡◌, ℕ, zero, suc, ◌+◌, ◌<◌, ◌≤◌, ◌^◌, Bool, true, false, if◌then◌else◌, List, [], ◌∷◌, length, map, replicate}
use Rattle.std.proofs.Common.{get_or, slice_get, Option, Some, None, option_map, option_and_then, refl, sym, ap, subst, ◌∙◌, arith}
use Rattle.cocoon_num.specs.PacketForms.{FieldsFit}
use Rattle.cocoon_num.specs.Sorts.{Sort, bits_sort, unary_sort, binary_sort, slice_sort, pick_sort}
use Rattle.cocoon_num.specs.Tokens.{kept_if}
use Rattle.cocoon_num.specs.Values.{number, UnaryOp, BinaryOp, apply_unary, apply_binary, apply_slice, apply_pick, with_both, with_all, work}
use Rattle.packed_fields.specs.AtOnce.{widths_in}
use Rattle.p4_ir.specs.P4Kinds.{field_sort, is_implies, p4_sort, widths_fit}
use Rattle.p4_ir.specs.P4Tree.{P4Expr, p_lit, p_meta, p_field, p_port, p_rid, p_unary, p_binary, p_slice, p_pick, P4Field, P4Header, Program, program_layout, field_widths}
use Rattle.p4_ir.specs.Program.{binary_of, field_of, header_of}
use Rattle.p4_ir.specs.declared.program.P4Binary.{P4Binary}
use Rattle.p4_ir.specs.declared.program.P4Binary.TheVariants.{Add, Sub, BitAnd, BitOr, BitXor, Concat, Equal, Unequal, Less, LessEqual, Greater, GreaterEqual, And, Or}
use Rattle.p4_ir.specs.declared.program.P4Field.{P4Field as CodeField}
use Rattle.p4_ir.specs.declared.program.P4Header.{P4Header as CodeHeader}
use Rattle.p4_run.specs.Held.{Held}
use Rattle.p4_run.specs.Meaning.{number_by}
use Rattle.p4_run.specs.Operating.{IsSorted, OfOne, OfSlice, OfThree, OfTwo}
use Rattle.p4_run.specs.Places.{starts_from}
use Rattle.p4_run.specs.Resolving.{Means}
use Rattle.p4_run.specs.Controls.{within_in}
use Rattle.p4_run.specs.declared.resolved.Resolved.{Resolved}
use Rattle.p4_run.specs.declared.resolved.Resolved.TheVariants.{Number}
use Rattle.p4_run.specs.declared.resolved.SizedNumber.{SizedNumber}
use Rattle.p4_run.proofs.FieldFacts.{field_is, FieldIs}
use Rattle.p4_run.proofs.WidthFacts.{field_sorted_at, number_at, NumberAt, widths_of, zeros_fit}

-- ---- parts of what has a type

pub one_sorted : (f : Sort → Option Sort) (x : Option Sort) → IsSorted (option_and_then f x) → IsSorted x
one_sorted f None h = h
one_sorted f (Some s) h = tt

pub two_sorted : (f : Sort → Sort → Option Sort) (x y : Option Sort) → IsSorted (with_both f x y) → IsSorted x × IsSorted y
two_sorted f None y h = absurd h
two_sorted f (Some s) None h = absurd h
two_sorted f (Some s) (Some t) h = (tt, tt)

pub three_sorted : (f : Sort → Sort → Sort → Option Sort) (x y z : Option Sort) → IsSorted (with_all f x y z) → IsSorted x × IsSorted y × IsSorted z
three_sorted f None y z h = absurd h
three_sorted f (Some s) y z h = let more = two_sorted (f s) y z h in (tt, more.0, more.1)

unless : (b : Bool) (x : Option Sort) → IsSorted (if b then None else x) → IsSorted x
unless true x h = absurd h
unless false x h = h

pub binary_sorted : (op : BinaryOp) (x y : Option Sort) → IsSorted (if is_implies op then None else with_both (binary_sort op) x y) → IsSorted x × IsSorted y
binary_sorted op x y h = two_sorted (binary_sort op) x y (unless (is_implies op) (with_both (binary_sort op) x y) h)

pub binary_given : (op : BinaryOp) (x y : Option Sort) (s t : Sort) → x ≡ Some s → y ≡ Some t
    → IsSorted (if is_implies op then None else with_both (binary_sort op) x y) → IsSorted (binary_sort op s t)
binary_given op x y s t e f h =
    subst (λ u. IsSorted (with_both (binary_sort op) (Some s) u)) f (subst (λ u. IsSorted (with_both (binary_sort op) u y)) e (unless (is_implies op) (with_both (binary_sort op) x y) h))

pub pick_given : (x y z : Option Sort) (q s t : Sort) → x ≡ Some q → y ≡ Some s → z ≡ Some t → IsSorted (with_all pick_sort x y z) → IsSorted (pick_sort q s t)
pick_given x y z q s t d e f h =
    subst (λ u. IsSorted (with_both (pick_sort q) (Some s) u)) f (subst (λ u. IsSorted (with_both (pick_sort q) u z)) e (subst (λ u. IsSorted (with_all pick_sort u y z)) d h))

-- ---- operators

pub no_implies : (op : P4Binary) → is_implies (binary_of op) ≡ false
no_implies Add = refl
no_implies Sub = refl
no_implies BitAnd = refl
no_implies BitOr = refl
no_implies BitXor = refl
no_implies Concat = refl
no_implies Equal = refl
no_implies Unequal = refl
no_implies Less = refl
no_implies LessEqual = refl
no_implies Greater = refl
no_implies GreaterEqual = refl
no_implies And = refl
no_implies Or = refl

pub means_one : (p : Program) (b : Bool) (op : UnaryOp) (e : P4Expr) (a m : Resolved) → Means p b e a → OfOne op a m → Means p b (p_unary op e) m
means_one p b op e a m x o = record {
  sort = ap (option_and_then (unary_sort op)) x.sort ∙ o.sort;
  value = λ rows r s.
      let g = x.value rows r s in
      let h = o.value r g.bounded in
      record { is = ap (option_and_then (apply_unary op)) g.is ∙ h.is; bounded = h.bounded };
}

pub means_two : (p : Program) (b : Bool) (op : BinaryOp) (e f : P4Expr) (a c m : Resolved) → is_implies op ≡ false → Means p b e a → Means p b f c → OfTwo (work op) a c m
    → Means p b (p_binary op e f) m
means_two p b op e f a c m free x y o = record {
  sort = ap (λ (t : Bool). if t then None else with_both (binary_sort op) (p4_sort (within_in p b) e) (p4_sort (within_in p b) f)) free
      ∙ (λ i. with_both (binary_sort op) (x.sort i) (y.sort i)) ∙ o.sort;
  value = λ rows r s.
      let g = x.value rows r s in
      let k = y.value rows r s in
      let h = o.value r g.bounded k.bounded in
      record { is = (λ i. with_both (apply_binary op) (g.is i) (k.is i)) ∙ h.is; bounded = h.bounded };
}

pub means_slice : (p : Program) (b : Bool) (e : P4Expr) (high low : ℕ) (a m : Resolved) → Means p b e a → OfSlice high low a m → Means p b (p_slice e high low) m
means_slice p b e high low a m x o = record {
  sort = ap (option_and_then (λ s. slice_sort s high low)) x.sort ∙ o.sort;
  value = λ rows r s.
      let g = x.value rows r s in
      let h = o.value r g.bounded in
      record { is = ap (option_and_then (λ v. apply_slice v high low)) g.is ∙ h.is; bounded = h.bounded };
}

pub means_three : (p : Program) (b : Bool) (d e f : P4Expr) (q a c m : Resolved) → Means p b d q → Means p b e a → Means p b f c → OfThree q a c m → Means p b (p_pick d e f) m
means_three p b d e f q a c m w x y o = record {
  sort = (λ i. with_all pick_sort (w.sort i) (x.sort i) (y.sort i)) ∙ o.sort;
  value = λ rows r s.
      let j = w.value rows r s in
      let g = x.value rows r s in
      let k = y.value rows r s in
      let h = o.value r g.bounded k.bounded in
      record { is = (λ i. with_all apply_pick (j.is i) (g.is i) (k.is i)) ∙ h.is; bounded = h.bounded };
}

-- ---- leaves

kept : (t : Bool) (s : Sort) → IsSorted (kept_if t s) → kept_if t s ≡ Some s
kept true s h = refl
kept false s h = absurd h

pub means_literal : (p : Program) (b : Bool) (w n : ℕ) (m : SizedNumber) → IsSorted (p4_sort (within_in p b) (p_lit w n)) → n < 2 ^ w → m.width ≡ w
    → ((r : Held) → number_by m.code r ≡ n) → Means p b (p_lit w n) (Number m)
means_literal p b w n m h l e f = record {
  sort = kept _ (bits_sort w) h ∙ ap (λ k. Some (bits_sort k)) (sym e);
  value = λ rows r s. record {
    is = λ i. Some (number (sym e i) (sym (f r) i));
    bounded = subst (λ k. k < 2 ^ m.width) (sym (f r)) (subst (λ k. n < 2 ^ k) (sym e) l);
  };
}

pub meta_sort_at : (fs : List P4Field) (i : ℕ) → i < length (field_widths fs)
    → option_map (λ (f : P4Field). bits_sort f.width) (slice_get fs i) ≡ Some (bits_sort (get_or (field_widths fs) i 0))
meta_sort_at [] i l = absurd (omega arith)
meta_sort_at (f ∷ fs) zero l = refl
meta_sort_at (f ∷ fs) (suc i) l = meta_sort_at fs i (omega arith)

pub means_meta : (p : Program) (b : Bool) (i : ℕ) (m : SizedNumber) → widths_fit p ≡ true → i < length (field_widths p.meta) → m.width ≡ get_or (field_widths p.meta) i 0
    → ((r : Held) → number_by m.code r ≡ get_or r.meta i 0) → Means p b (p_meta i) (Number m)
means_meta p b i m k l e f = record {
  sort = meta_sort_at p.meta i l ∙ ap (λ w. Some (bits_sort w)) (sym e);
  value = λ rows r s.
      let at : NumberAt (field_widths p.meta) r.meta i = number_at (field_widths p.meta) r.meta i s.meta (widths_of p k).meta l in
      record {
        is = at.value ∙ (λ j. Some (number (sym e j) (sym (f r) j)));
        bounded = subst (λ n. n < 2 ^ m.width) (sym (f r)) (subst (λ w. get_or r.meta i 0 < 2 ^ w) (sym e) at.small);
      };
}

-- where a field lies in registers that fit
field_facts : (p : Program) (starts ns : List ℕ) (h f w : ℕ) → widths_fit p ≡ true → starts ≡ starts_from 0 (program_layout p) → field_sort p h f ≡ Some (bits_sort w)
    → FieldsFit (widths_in (program_layout p)) ns → FieldIs (program_layout p) starts ns h f w
field_facts p starts ns h f w k s e fit =
    let at = field_sorted_at p.headers h f w e in
    field_is (program_layout p) starts ns (get_or (program_layout p) h []) h f w s at.header at.within (sym at.width) fit (widths_of p k).fields

pub means_field : (p : Program) (b : Bool) (starts : List ℕ) (h f w : ℕ) (m : SizedNumber) → widths_fit p ≡ true → starts ≡ starts_from 0 (program_layout p)
    → field_sort p h f ≡ Some (bits_sort w) → m.width ≡ w → ((r : Held) → number_by m.code r ≡ get_or r.fields (get_or starts h 0 + f) 0)
    → Means p b (p_field h f) (Number m)
means_field p b starts h f w m k s e g n = record {
  sort = e ∙ ap (λ v. Some (bits_sort v)) (sym g);
  value = λ rows r u.
      let at : FieldIs (program_layout p) starts r.fields h f w = field_facts p starts r.fields h f w k s e u.fields in
      record {
        is = at.value ∙ (λ j. Some (number (sym g j) (sym (n r) j)));
        bounded = subst (λ x. x < 2 ^ m.width) (sym (n r)) (subst (λ v. get_or r.fields (get_or starts h 0 + f) 0 < 2 ^ v) (sym g) at.small);
      };
}

pub means_port : (p : Program) (b : Bool) (m : SizedNumber) → b ≡ true → m.width ≡ 16 → ((r : Held) → number_by m.code r ≡ r.own) → Means p b p_port (Number m)
means_port p false m h e f = absurd (cc)
means_port p true m h e f = record {
  sort = ap (λ w. Some (bits_sort w)) (sym e);
  value = λ rows r s. record {
    is = λ i. Some (number (sym e i) (sym (f r) i));
    bounded = subst (λ n. n < 2 ^ m.width) (sym (f r)) (subst (λ w. r.own < 2 ^ w) (sym e) s.own);
  };
}

pub means_rid : (p : Program) (b : Bool) (m : SizedNumber) → b ≡ false → m.width ≡ 64 → ((r : Held) → number_by m.code r ≡ r.own) → Means p b p_rid (Number m)
means_rid p true m h e f = absurd (cc)
means_rid p false m h e f = record {
  sort = ap (λ w. Some (bits_sort w)) (sym e);
  value = λ rows r s. record {
    is = λ i. Some (number (sym e i) (sym (f r) i));
    bounded = subst (λ n. n < 2 ^ m.width) (sym (f r)) (subst (λ w. r.own < 2 ^ w) (sym e) s.own);
  };
}

pub only_in : (t : Bool) (s : Sort) → IsSorted (kept_if t s) → t ≡ true
only_in true s h = refl
only_in false s h = absurd h

-- ---- names that there are

pub meta_there : (fs : List CodeField) (i : ℕ) → IsSorted (option_map (λ (f : P4Field). bits_sort f.width) (slice_get (map field_of fs) i)) → i < length fs
meta_there [] i h = absurd h
meta_there (f ∷ fs) zero h = omega arith
meta_there (f ∷ fs) (suc i) h = let l : i < length fs = meta_there fs i h in omega arith

-- the type of a field, as the code finds it
abbrev pub field_sort_in : List P4Header → ℕ → ℕ → Option Sort
field_sort_in hs h f = option_and_then (λ (d : P4Header). option_map (λ (x : P4Field). bits_sort x.width) (slice_get d.fields f)) (slice_get hs h)

pub header_there : (hs : List CodeHeader) (h f : ℕ) → IsSorted (field_sort_in (map header_of hs) h f) → h < length hs
header_there [] h f s = absurd s
header_there (d ∷ hs) zero f s = omega arith
header_there (d ∷ hs) (suc h) f s = let l : h < length hs = header_there hs h f s in omega arith

-- widths that may be declared
pub declared_field : (p : Program) (h f w : ℕ) → widths_fit p ≡ true → field_sort p h f ≡ Some (bits_sort w) → (1 ≤ w) × (w ≤ 64)
declared_field p h f w k e =
    let layout = program_layout p in
    let at = field_facts p (starts_from 0 layout) (replicate (length (widths_in layout)) 0) h f w k refl e (zeros_fit (widths_in layout)) in
    (at.wide, at.narrow)

-- ---- what the code reads

pub meta_read : (fs read : List CodeField) (i : ℕ) (x : CodeField) → read ≡ fs → i < length fs → (get_or read i x).width ≡ get_or (field_widths (map field_of fs)) i 0
meta_read [] read i x e l = absurd (omega arith)
meta_read (f ∷ fs) read zero x e l = ap (λ (ys : List CodeField). (get_or ys 0 x).width) e
meta_read (f ∷ fs) read (suc i) x e l = ap (λ (ys : List CodeField). (get_or ys (suc i) x).width) e ∙ meta_read fs fs i x refl (omega arith)

sort_read : (fs : List CodeField) (i : ℕ) (x : CodeField) → i < length fs
    → option_map (λ (f : P4Field). bits_sort f.width) (slice_get (map field_of fs) i) ≡ Some (bits_sort (get_or fs i x).width)
sort_read [] i x l = absurd (omega arith)
sort_read (f ∷ fs) zero x l = refl
sort_read (f ∷ fs) (suc i) x l = sort_read fs i x (omega arith)

header_read : (hs : List CodeHeader) (h f : ℕ) (d : CodeHeader) → h < length hs
    → field_sort_in (map header_of hs) h f ≡ option_map (λ (x : P4Field). bits_sort x.width) (slice_get (map field_of (get_or hs h d).fields) f)
header_read [] h f d l = absurd (omega arith)
header_read (x ∷ hs) zero f d l = refl
header_read (x ∷ hs) (suc h) f d l = header_read hs h f d (omega arith)

-- the type of a field is that of the width that is read
pub sort_of_code : (hs heads : List CodeHeader) (fs : List CodeField) (h f : ℕ) (d : CodeHeader) (x : CodeField) → heads ≡ hs → fs ≡ (get_or heads h d).fields
    → IsSorted (field_sort_in (map header_of hs) h f) → field_sort_in (map header_of hs) h f ≡ Some (bits_sort (get_or fs f x).width)
sort_of_code hs heads fs h f d x e g s =
    let l : h < length hs = header_there hs h f s in
    let is = header_read hs h f d l in
    let own : fs ≡ (get_or hs h d).fields = g ∙ ap (λ (ys : List CodeHeader). (get_or ys h d).fields) e in
    let m : f < length (get_or hs h d).fields = meta_there (get_or hs h d).fields f (subst IsSorted is s) in
    is ∙ sort_read (get_or hs h d).fields f x m ∙ ap (λ (ys : List CodeField). Some (bits_sort (get_or ys f x).width)) (sym own)
