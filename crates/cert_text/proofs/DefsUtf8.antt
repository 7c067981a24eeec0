-- The text of definitions is UTF-8: names are ASCII, and so is all else in it.
use Rattle.std.proofs.Common.{◌≡◌, ℕ, zero, suc, ◌%◌, ◌/◌, ◌<◌, Bool, true, false, List, [], ◌∷◌, ◌++◌, map, All, Option, Some, None, if◌then◌else◌, not, ◌&&◌, nat_lt, IsUtf8, codes, decimal, refl, arith}
use Rattle.std.specs.Prelude.{◌==◌}
use Rattle.std.specs.Fmt.{digits, digits_onto, digit_glyph}
use Rattle.std.specs.Str.{IsAscii}
use Rattle.std.proofs.lemmas.Bool.{and_parts}
use Rattle.std.proofs.lemmas.Bool.Decides.{nat_tests}
use Rattle.std.proofs.lemmas.List.Elements.{All-append, All-cons, All-head, All-nil, All-tail}
use Rattle.std.proofs.lemmas.Str.{IsUtf8-append, IsUtf8-nil, IsUtf8-from_ascii}
use Rattle.std.proofs.lemmas.Str.Ascii.{IsAscii-cons, IsAscii-nil}
use Rattle.cocoon_num.specs.Lists.{each, is_one_of}
use Rattle.cocoon_num.specs.Tokens.{is_letter, is_run_byte, language}
use Rattle.cocoon_num.specs.Tree.{FunctionDecl, Pattern, literal, masked, any, Entry, Design}
use Rattle.cocoon_num.specs.Values.{Value, number, truth}
use Rattle.cocoon_num.specs.declared.fun_table.FunRow.{FunRow}
use Rattle.cocoon_num.specs.declared.fun_table.FunTable.{FunTable}
use Rattle.cocoon_types.specs.Design.{functions}
use Rattle.text_lines.specs.Printing.{each_text, literal_text}
use Rattle.runtime_defs.specs.EntryTexts.{truth_text, const_text, pattern_text, more_patterns_text, patterns_text, entry_text}
use Rattle.runtime_defs.specs.EntryPlaces.{default_entry, row_entry, place_entries, all_entries, defs_text}
use Rattle.cocoon_types.specs.Names.{is_name, IsNamed}

-- two texts, one after the other
joined : {s t : List ℕ} → IsUtf8 s → IsUtf8 t → IsUtf8 (s ++ t)
joined {s} {t} a b = IsUtf8-append s t a b

byte_small : (b : ℕ) → nat_lt b 128 ≡ true → b < 128
byte_small b h = grind (arith, nat_tests, h)

small_ascii : (bs : List ℕ) → each (λ b. nat_lt b 128) bs ≡ true → IsAscii bs
small_ascii [] h = IsAscii-nil
small_ascii (b ∷ bs) h =
    let parts = and_parts (nat_lt b 128) (each (λ b. nat_lt b 128) bs) h in
    IsAscii-cons b bs (byte_small b parts.0) (small_ascii bs parts.1)

fixed : (s : List ℕ) → each (λ b. nat_lt b 128) s ≡ true → IsUtf8 s
fixed s h = IsUtf8-from_ascii s (small_ascii s h)

-- ---- numbers

either_ascii : (b : Bool) (x y : List ℕ) → IsAscii x → IsAscii y → IsAscii (if b then x else y)
either_ascii true x y p q = p
either_ascii false x y p q = q

glyph : (d : ℕ) → d < 10 → digit_glyph false d < 128
glyph d h = grind (arith, nat_tests, h)

onto_ascii : (k n : ℕ) (more : List ℕ) → IsAscii more → IsAscii (digits_onto k 10 false n more)
onto_ascii zero n more h = h
onto_ascii (suc k) n more h =
    let small : n % 10 < 10 = omega arith in
    let next = IsAscii-cons (digit_glyph false (n % 10)) more (glyph (n % 10) small) h in
    either_ascii (n / 10 == 0) (digit_glyph false (n % 10) ∷ more) (digits_onto k 10 false (n / 10) (digit_glyph false (n % 10) ∷ more)) next (onto_ascii k (n / 10) (digit_glyph false (n % 10) ∷ more) next)

decimal_ascii : (n : ℕ) → IsAscii (decimal n)
unfolding digits
decimal_ascii n = onto_ascii 64 n [] IsAscii-nil

number_utf8 : (n : ℕ) → IsUtf8 (decimal n)
number_utf8 n = IsUtf8-from_ascii (decimal n) (decimal_ascii n)

literal_utf8 : (w n : ℕ) → IsUtf8 (literal_text w n)
literal_utf8 w n = joined (number_utf8 w) (joined (fixed (codes "w") refl) (number_utf8 n))

-- ---- names

byte_ascii : (b : ℕ) → is_run_byte b ≡ true → b < 128
byte_ascii b h = grind (arith, nat_tests, h)

letter_ascii : (b : ℕ) → is_letter b ≡ true → b < 128
letter_ascii b h = grind (arith, nat_tests, h)

bytes_ascii : (bs : List ℕ) → each is_run_byte bs ≡ true → IsAscii bs
bytes_ascii [] h = IsAscii-nil
bytes_ascii (b ∷ bs) h =
    let parts = and_parts (is_run_byte b) (each is_run_byte bs) h in
    IsAscii-cons b bs (byte_ascii b parts.0) (bytes_ascii bs parts.1)

name_utf8 : (w : List ℕ) → is_name w ≡ true → IsUtf8 w
name_utf8 [] h = IsUtf8-nil
name_utf8 (b ∷ bs) h =
    let w = b ∷ bs in
    let all = and_parts (is_letter b && each is_run_byte bs && not (is_one_of language.marks w)) (not (is_one_of language.reserved w)) h in
    let most = and_parts (is_letter b && each is_run_byte bs) (not (is_one_of language.marks w)) all.0 in
    let run = and_parts (is_letter b) (each is_run_byte bs) most.0 in
    IsUtf8-from_ascii w (IsAscii-cons b bs (letter_ascii b run.0) (bytes_ascii bs run.1))

-- ---- entries

truth_utf8 : (b : Bool) → IsUtf8 (truth_text b)
truth_utf8 true = fixed (codes "true") refl
truth_utf8 false = fixed (codes "false") refl

const_utf8 : (v : Value) → IsUtf8 (const_text v)
const_utf8 (number w n) = literal_utf8 w n
const_utf8 (truth b) = truth_utf8 b

pattern_utf8 : (p : Pattern) → IsUtf8 (pattern_text p)
pattern_utf8 (literal w n) = literal_utf8 w n
pattern_utf8 (masked w n v m) = joined (literal_utf8 w n) (joined (fixed (codes " &&& ") refl) (literal_utf8 v m))
pattern_utf8 any = fixed (codes "_") refl

more_utf8 : (ps : List Pattern) → IsUtf8 (more_patterns_text ps)
more_utf8 [] = IsUtf8-nil
more_utf8 (p ∷ ps) = joined (fixed (codes ", ") refl) (joined (pattern_utf8 p) (more_utf8 ps))

patterns_utf8 : (ps : List Pattern) → IsUtf8 (patterns_text ps)
patterns_utf8 [] = IsUtf8-nil
patterns_utf8 (p ∷ ps) = joined (pattern_utf8 p) (more_utf8 ps)

default_utf8 : (f : FunctionDecl) (t : FunTable) → IsUtf8 f.name.text → IsUtf8 (entry_text (default_entry f t.default))
default_utf8 f t h = joined (fixed (codes "default ") refl) (joined h (joined (fixed (codes " = ") refl) (joined (const_utf8 _) (fixed (codes ";\n") refl))))

row_utf8 : (f : FunctionDecl) (widths : List ℕ) (row : FunRow) → IsUtf8 f.name.text → IsUtf8 (entry_text (row_entry f widths row))
row_utf8 f widths row h =
    joined (fixed (codes "define ") refl)
    (joined h (joined (fixed (codes "(") refl) (joined (patterns_utf8 _) (joined (fixed (codes ") = ") refl) (joined (const_utf8 _) (fixed (codes ";\n") refl))))))

-- ---- tables

abbrev Utf8Entry : Entry → Type 0
Utf8Entry e = IsUtf8 (entry_text e)

rows_utf8 : (f : FunctionDecl) (widths : List ℕ) (rows : List FunRow) → IsUtf8 f.name.text → All Utf8Entry (map (row_entry f widths) rows)
rows_utf8 f widths [] h = All-nil Utf8Entry
rows_utf8 f widths (row ∷ rows) h = All-cons Utf8Entry (row_entry f widths row) (map (row_entry f widths) rows) (row_utf8 f widths row h) (rows_utf8 f widths rows h)

place_utf8 : (f : FunctionDecl) (p : Option FunTable) → IsUtf8 f.name.text → All Utf8Entry (place_entries f p)
place_utf8 f None h = All-nil Utf8Entry
place_utf8 f (Some t) h = All-cons Utf8Entry (default_entry f t.default) (map (row_entry f t.widths) t.rows) (default_utf8 f t h) (rows_utf8 f t.widths t.rows h)

entries_utf8 : (fs : List FunctionDecl) (ps : List (Option FunTable)) → All IsNamed fs → All Utf8Entry (all_entries fs ps)
entries_utf8 [] ps h = All-nil Utf8Entry
entries_utf8 (f ∷ fs) [] h = All-nil Utf8Entry
entries_utf8 (f ∷ fs) (p ∷ ps) h =
    let named = All-head IsNamed f fs h in
    All-append Utf8Entry (place_entries f p) (all_entries fs ps) (place_utf8 f p (name_utf8 f.name.text named.name)) (entries_utf8 fs ps (All-tail IsNamed f fs h))

each_utf8 : (es : List Entry) → All Utf8Entry es → IsUtf8 (each_text entry_text es)
each_utf8 [] h = IsUtf8-nil
each_utf8 (e ∷ es) h = joined (All-head Utf8Entry e es h) (each_utf8 es (All-tail Utf8Entry e es h))

pub defs_utf8 : (d : Design) (ps : List (Option FunTable)) → All IsNamed (functions d) → IsUtf8 (defs_text d ps)
defs_utf8 d ps h = each_utf8 (all_entries (functions d) ps) (entries_utf8 (functions d) ps h)
