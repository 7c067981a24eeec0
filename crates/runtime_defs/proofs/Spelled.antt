-- The text of entries has their tokens.
use Rattle.std.proofs.Common.{◌≡◌, ℕ, ◌^◌, ◌≤◌, ◌<◌, List, [], ◌∷◌, ◌++◌, Bool, true, false, not, ◌&&◌, if◌then◌else◌, refl, subst, arith}
use Rattle.std.specs.Prelude.{codes}
use Rattle.std.proofs.lemmas.Bool.{and_parts}
use Rattle.cocoon_num.specs.Lists.{each, is_one_of}
use Rattle.cocoon_num.specs.Tokens.{Kind, a_name, keyword, literal, mark, is_letter, is_run_byte, language, run_kind}
use Rattle.cocoon_num.specs.Tree.{Pattern, literal as pattern_literal, masked, any, Entry, a_default, a_row}
use Rattle.cocoon_num.specs.Values.{Value, number, truth}
use Rattle.text_lines.specs.Printing.{each_text, literal_text}
use Rattle.text_lines.proofs.Joins.{Part, Lines, opens, follows, leads, ends, whole, no_lines, lines_part, clear_append}
use Rattle.text_lines.proofs.DecimalNumbers.{literal_spells, decimal_clear}
use Rattle.text_lines.proofs.Seams.{Spells, open_after, then_clear, word_clear, word_spells}
use Rattle.runtime_defs.specs.EntryTexts.{const_text, pattern_text, more_patterns_text, patterns_text, entry_text}
use Rattle.cocoon_types.specs.Names.{is_name}
use Rattle.runtime_defs.proofs.Seamed.{language_seams}

-- ---- tokens

abbrev pub const_tokens : Value → List Kind
const_tokens (number w n) = literal w n ∷ []
const_tokens (truth true) = keyword (codes "true") ∷ []
const_tokens (truth false) = keyword (codes "false") ∷ []

abbrev pub pattern_tokens : Pattern → List Kind
pattern_tokens (pattern_literal w n) = literal w n ∷ []
pattern_tokens (masked w n v m) = literal w n ∷ mark (codes "&&&") ∷ literal v m ∷ []
pattern_tokens any = mark (codes "_") ∷ []

abbrev pub more_tokens : List Pattern → List Kind
more_tokens [] = []
more_tokens (p ∷ ps) = mark (codes ",") ∷ (pattern_tokens p ++ more_tokens ps)

abbrev pub patterns_tokens : List Pattern → List Kind
patterns_tokens [] = []
patterns_tokens (p ∷ ps) = pattern_tokens p ++ more_tokens ps

abbrev pub entry_tokens : Entry → List Kind
entry_tokens (a_default f v) =
    keyword (codes "default") ∷ a_name f.text ∷ mark (codes "=") ∷ (const_tokens v ++ mark (codes ";") ∷ [])
entry_tokens (a_row f ps v) =
    keyword (codes "define") ∷ a_name f.text ∷ mark (codes "(")
    ∷ (patterns_tokens ps ++ mark (codes ")") ∷ mark (codes "=") ∷ (const_tokens v ++ mark (codes ";") ∷ []))

abbrev pub entries_tokens : List Entry → List Kind
entries_tokens [] = []
entries_tokens (e ∷ es) = entry_tokens e ++ entries_tokens es

-- ---- which entries are spelled

abbrev pub LiteralFits : ℕ → ℕ → Type 0
LiteralFits w n = (1 ≤ w) × (w ≤ 64) × (n < 2 ^ w)

abbrev pub ConstFits : Value → Type 0
ConstFits (number w n) = LiteralFits w n
ConstFits (truth b) = Unit {0}

abbrev pub PatternFits : Pattern → Type 0
PatternFits (pattern_literal w n) = LiteralFits w n
PatternFits (masked w n v m) = LiteralFits w n × LiteralFits v m
PatternFits any = Unit {0}

abbrev pub PatternsFit : List Pattern → Type 0
PatternsFit [] = Unit {0}
PatternsFit (p ∷ ps) = PatternFits p × PatternsFit ps

abbrev pub SomeFit : List Pattern → Type 0
SomeFit [] = ⊥
SomeFit (p ∷ ps) = PatternFits p × PatternsFit ps

abbrev pub EntryFits : Entry → Type 0
EntryFits (a_default f v) = (is_name f.text ≡ true) × ConstFits v
EntryFits (a_row f ps v) = (is_name f.text ≡ true) × SomeFit ps × ConstFits v

abbrev pub EntriesFit : List Entry → Type 0
EntriesFit [] = Unit {0}
EntriesFit (e ∷ es) = EntryFits e × EntriesFit es

-- ---- parts

literal_part : (w n : ℕ) → LiteralFits w n → Part language_seams (literal_text w n) (literal w n ∷ [])
literal_part w n h =
    record {
      spells = literal_spells language_seams w n h.0 h.1 (omega (arith, h.1)) h.2;
      clear = decimal_clear language_seams w (119 ∷ _) (omega (arith, h.1));
    }

name_kind : (m r : Bool) (w : List ℕ) → not m ≡ true → not r ≡ true → (if m then mark w else if r then keyword w else a_name w) ≡ a_name w
name_kind true r w h k = absurd cc
name_kind false true w h k = absurd cc
name_kind false false w h k = refl

name_part : (w : List ℕ) → is_name w ≡ true → Part language_seams w (a_name w ∷ [])
name_part [] h = absurd cc
name_part (b ∷ bs) h =
    let w = b ∷ bs in
    let all = and_parts (is_letter b && each is_run_byte bs && not (is_one_of language.marks w)) (not (is_one_of language.reserved w)) h in
    let most = and_parts (is_letter b && each is_run_byte bs) (not (is_one_of language.marks w)) all.0 in
    let k : run_kind language w ≡ a_name w = name_kind (is_one_of language.marks w) (is_one_of language.reserved w) w most.1 all.1 in
    record {
      spells = subst (λ (x : Kind). Spells language_seams w (x ∷ [])) k (word_spells language_seams w most.0);
      clear = word_clear language_seams w most.0;
    }

const_part : (v : Value) → ConstFits v → Part language_seams (const_text v) (const_tokens v)
const_part (number w n) h = literal_part w n h
const_part (truth true) h = whole language_seams (codes "true") refl
const_part (truth false) h = whole language_seams (codes "false") refl

pattern_part : (p : Pattern) → PatternFits p → Part language_seams (pattern_text p) (pattern_tokens p)
pattern_part (pattern_literal w n) h = literal_part w n h
pattern_part (masked w n v m) h =
    follows language_seams (literal_part w n h.0) (leads language_seams (codes " &&& ") refl (literal_part v m h.1))
pattern_part any h = whole language_seams (codes "_") refl

more_lines : (ps : List Pattern) → PatternsFit ps → Lines language_seams (more_patterns_text ps) (more_tokens ps)
more_lines [] h = no_lines language_seams
more_lines (p ∷ ps) h =
    leads language_seams (codes ", ") refl (follows language_seams (pattern_part p h.0) (more_lines ps h.1))

patterns_part : (ps : List Pattern) → SomeFit ps → Part language_seams (patterns_text ps) (patterns_tokens ps)
patterns_part [] h = absurd h
patterns_part (p ∷ ps) h = follows language_seams (pattern_part p h.0) (more_lines ps h.1)

end_lines : (v : Value) → ConstFits v → Lines language_seams (codes " = " ++ (const_text v ++ codes ";\n")) (mark (codes "=") ∷ (const_tokens v ++ mark (codes ";") ∷ []))
end_lines v h = leads language_seams (codes " = ") refl (follows language_seams (const_part v h) (ends language_seams (codes ";\n") refl))

entry_part : (e : Entry) → EntryFits e → Part language_seams (entry_text e) (entry_tokens e)
entry_part (a_default f v) h =
    opens language_seams (codes "default ") refl (follows language_seams (name_part f.text h.0) (end_lines v h.1))
entry_part (a_row f ps v) h =
    opens language_seams (codes "define ") refl (follows language_seams (name_part f.text h.0)
    (leads language_seams (codes "(") refl (follows language_seams (patterns_part ps h.1)
    (leads language_seams (codes ") = ") refl (follows language_seams (const_part v h.2) (ends language_seams (codes ";\n") refl))))))

-- ---- entries one after the other

-- whatever stands before it, it ends with no byte of a word
record Closed (s : List ℕ) : Type 0 where
  ends_open : (o : Bool) → open_after o s ≡ true

closed_after : (s : List ℕ) {t : List ℕ} → Closed t → Closed (s ++ t)
closed_after [] c = c
closed_after (b ∷ s) {t} c = record { ends_open = λ o. (closed_after s c).ends_open (not (is_run_byte b)) }

closed_line : Closed (codes ";\n")
closed_line = record { ends_open = λ o. refl }

closed_entry : (e : Entry) → Closed (entry_text e)
closed_entry (a_default f v) =
    closed_after (codes "default ") (closed_after f.text (closed_after (codes " = ") (closed_after (const_text v) closed_line)))
closed_entry (a_row f ps v) =
    closed_after (codes "define ") (closed_after f.text (closed_after (codes "(") (closed_after (patterns_text ps)
    (closed_after (codes ") = ") (closed_after (const_text v) closed_line)))))

pub entries_part : (es : List Entry) → EntriesFit es → Part language_seams (each_text entry_text es) (entries_tokens es)
entries_part [] h = lines_part language_seams (no_lines language_seams)
entries_part (e ∷ es) h =
    let p = entry_part e h.0 in
    let q = entries_part es h.1 in
    record {
      spells = then_clear p.spells ((closed_entry e).ends_open true) q.clear q.spells;
      clear = clear_append language_seams (entry_text e) (each_text entry_text es) p.clear q.clear;
    }
