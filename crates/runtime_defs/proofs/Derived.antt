-- The tokens of entries are read as these entries, and none of them is deep.
use Rattle.std.proofs.Common.{◌≡◌, ℕ, suc, ◌+◌, List, [], ◌∷◌, ◌++◌, length, true, false, refl, ap, subst, ◌∙◌, arith, append_assoc}
use Rattle.std.specs.Prelude.{codes}
use Rattle.std.proofs.lemmas.List.{length-append}
use Rattle.cocoon_num.specs.Reads.{Is, Mark, Many, no_more, one_more, Commas, last, then_comma, ConstAt, const_number, const_true, const_false, PatternAt, one_number, under_mask, any_number, EntryAt, the_default, the_row, DefsAt, ReadsDefs}
use Rattle.cocoon_num.specs.Tokens.{Kind, a_name, literal, mark, finish, kinds, language_bounds, none_deep, is_shallow}
use Rattle.cocoon_num.specs.Tree.{Pattern, literal as pattern_literal, masked, any, Entry, a_default, a_row}
use Rattle.cocoon_num.specs.Values.{Value, number, truth}
use Rattle.text_lines.specs.Printing.{each_text}
use Rattle.text_lines.proofs.Seams.{spells_lexes}
use Rattle.runtime_defs.specs.EntryTexts.{entry_text}
use Rattle.runtime_defs.specs.EntryPlaces.{entries_from, entry_at, entry_size, pattern_size, patterns_size}
use Rattle.runtime_defs.proofs.Spelled.{const_tokens, pattern_tokens, more_tokens, patterns_tokens, entry_tokens, entries_tokens, EntryFits, EntriesFit, entries_part}

-- ---- where tokens stand

-- the tokens from one index up to another
abbrev pub Stand : List Kind → ℕ → List Kind → ℕ → Type 0
Stand ts i [] j = i ≡ j
Stand ts i (k ∷ ks) j = Is ts i k × Stand ts (suc i) ks j

record Split (ts : List Kind) (i : ℕ) (ks ls : List Kind) (j : ℕ) : Type 0 where
  middle : ℕ
  first : Stand ts i ks middle
  rest : Stand ts middle ls j

split : (ts : List Kind) (i : ℕ) (ks ls : List Kind) (j : ℕ) → Stand ts i (ks ++ ls) j → Split ts i ks ls j
split ts i [] ls j h = record { middle = i; first = refl; rest = h }
split ts i (k ∷ ks) ls j h = let s = split ts (suc i) ks ls j h.1 in record { middle = s.middle; first = (h.0, s.first); rest = s.rest }

stand_long : (ts : List Kind) (i : ℕ) (ks : List Kind) (j : ℕ) → Stand ts i ks j → j ≡ i + length ks
stand_long ts i [] j h = let e : i ≡ j = h in omega (arith, e)
stand_long ts i (k ∷ ks) j h = let ih = stand_long ts (suc i) ks j h.1 in omega (arith, ih)

one_later : (t : Kind) (ts : List Kind) (i : ℕ) (ks : List Kind) (j : ℕ) → Stand ts i ks j → Stand (t ∷ ts) (suc i) ks (suc j)
one_later t ts i [] j h = ap suc h
one_later t ts i (k ∷ ks) j h = (h.0, one_later t ts (suc i) ks j h.1)

all_stand : (ts : List Kind) → Stand ts 0 ts (length ts)
all_stand [] = refl
all_stand (t ∷ ts) = let e : suc (length ts) ≡ length (t ∷ ts) = omega arith in subst (λ n. Stand (t ∷ ts) 0 (t ∷ ts) n) e (refl, one_later t ts 0 ts (length ts) (all_stand ts))

at_place : (ts : List Kind) (k : Kind) {i j : ℕ} → i ≡ j → Is ts i k → Is ts j k
at_place ts k e h = subst (λ n. Is ts n k) e h

-- ---- constants and patterns

const_at : (ts : List Kind) (i : ℕ) (v : Value) (j : ℕ) → Stand ts i (const_tokens v) j → ConstAt ts i v j
const_at ts i (number w n) j h = subst (λ m. ConstAt ts i (number w n) m) h.1 (const_number h.0)
const_at ts i (truth true) j h = subst (λ m. ConstAt ts i (truth true) m) h.1 (const_true h.0)
const_at ts i (truth false) j h = subst (λ m. ConstAt ts i (truth false) m) h.1 (const_false h.0)

pattern_at : (ts : List Kind) (i : ℕ) (p : Pattern) (j : ℕ) → Stand ts i (pattern_tokens p) j → PatternAt ts i p j
pattern_at ts i (pattern_literal w n) j h = subst (λ m. PatternAt ts i (pattern_literal w n) m) h.1 (one_number h.0)
pattern_at ts i (masked w n v m) j h =
    let e : suc (suc (suc i)) ≡ j = h.1.1.1 in
    let end : i + 3 ≡ j = omega (arith, e) in
    subst (λ k. PatternAt ts i (masked w n v m) k) end
    (under_mask h.0 (at_place ts (mark (codes "&&&")) (omega arith) h.1.0) (at_place ts (literal v m) (omega arith) h.1.1.0))
pattern_at ts i any j h = subst (λ m. PatternAt ts i any m) h.1 (any_number h.0)

patterns_at : (ts : List Kind) (i : ℕ) (p : Pattern) (ps : List Pattern) (j : ℕ) → Stand ts i (pattern_tokens p ++ more_tokens ps) j → Commas ts (PatternAt ts) i (p ∷ ps) j
patterns_at ts i p [] j h =
    let s = split ts i (pattern_tokens p) [] j h in
    last (pattern_at ts i p j (subst (λ m. Stand ts i (pattern_tokens p) m) s.rest s.first))
patterns_at ts i p (q ∷ qs) j h =
    let s = split ts i (pattern_tokens p) (more_tokens (q ∷ qs)) j h in
    then_comma (pattern_at ts i p s.middle s.first) s.rest.0 (patterns_at ts (suc s.middle) q qs j s.rest.1)

-- ---- entries

-- the constant and the `;` at an entry's end
record Ends (ts : List Kind) (i : ℕ) (v : Value) (j : ℕ) : Type 0 where
  middle : ℕ
  const : ConstAt ts i v middle
  semicolon : Mark ts middle (codes ";")
  then : suc middle ≡ j

ends_at : (ts : List Kind) (i : ℕ) (v : Value) (j : ℕ) → Stand ts i (const_tokens v ++ mark (codes ";") ∷ []) j → Ends ts i v j
ends_at ts i v j h =
    let s = split ts i (const_tokens v) (mark (codes ";") ∷ []) j h in
    record { middle = s.middle; const = const_at ts i v s.middle s.first; semicolon = s.rest.0; then = s.rest.1 }

entry_read : (ts : List Kind) (i : ℕ) (e : Entry) (j : ℕ) → EntryFits e → Stand ts i (entry_tokens e) j → EntryAt ts i (entry_at i e) j
entry_read ts i (a_default f v) j fits h =
    let three : suc (suc (suc i)) ≡ i + 3 = omega arith in
    let e = ends_at ts (suc (suc (suc i))) v j h.1.1.1 in
    subst (λ m. EntryAt ts i (entry_at i (a_default f v)) m) e.then
    (the_default h.0 (at_place ts (a_name f.text) (omega arith) h.1.0, refl) (at_place ts (mark (codes "=")) (omega arith) h.1.1.0)
    (subst (λ m. ConstAt ts m v e.middle) three e.const) e.semicolon)
entry_read ts i (a_row f [] v) j fits h = absurd fits.1
entry_read ts i (a_row f (p ∷ ps) v) j fits h =
    let three : suc (suc (suc i)) ≡ i + 3 = omega arith in
    let s = split ts (suc (suc (suc i))) (patterns_tokens (p ∷ ps)) (mark (codes ")") ∷ mark (codes "=") ∷ (const_tokens v ++ mark (codes ";") ∷ [])) j h.1.1.1 in
    let two : suc (suc s.middle) ≡ s.middle + 2 = omega arith in
    let e = ends_at ts (suc (suc s.middle)) v j s.rest.1.1 in
    subst (λ m. EntryAt ts i (entry_at i (a_row f (p ∷ ps) v)) m) e.then
    (the_row h.0 (at_place ts (a_name f.text) (omega arith) h.1.0, refl) (at_place ts (mark (codes "(")) (omega arith) h.1.1.0)
    (subst (λ m. Commas ts (PatternAt ts) m (p ∷ ps) s.middle) three (patterns_at ts (suc (suc (suc i))) p ps s.middle s.first))
    s.rest.0 (at_place ts (mark (codes "=")) (omega arith) s.rest.1.0)
    (subst (λ m. ConstAt ts m v e.middle) two e.const) e.semicolon)

-- ---- how many tokens there are

const_long : (v : Value) → length (const_tokens v ++ mark (codes ";") ∷ []) ≡ 2
const_long (number w n) = refl
const_long (truth true) = refl
const_long (truth false) = refl

pattern_long : (p : Pattern) → length (pattern_tokens p) + 1 ≡ pattern_size p
pattern_long (pattern_literal w n) = refl
pattern_long (masked w n v m) = refl
pattern_long any = refl

more_long : (ps : List Pattern) → length (more_tokens ps) ≡ patterns_size ps
more_long [] = refl
more_long (p ∷ ps) =
    let l = length-append (pattern_tokens p) (more_tokens ps) in
    omega (arith, l, pattern_long p, more_long ps)

entry_long : (e : Entry) → EntryFits e → length (entry_tokens e) ≡ entry_size e
entry_long (a_default f v) h = omega (arith, const_long v)
entry_long (a_row f [] v) h = absurd h.1
entry_long (a_row f (p ∷ ps) v) h =
    let end = mark (codes ")") ∷ mark (codes "=") ∷ (const_tokens v ++ mark (codes ";") ∷ []) in
    let l = length-append (patterns_tokens (p ∷ ps)) end in
    let m = length-append (pattern_tokens p) (more_tokens ps) in
    omega (arith, l, m, pattern_long p, more_long ps, const_long v)

entries_read : (ts : List Kind) (i : ℕ) (es : List Entry) (j : ℕ) → EntriesFit es → Stand ts i (entries_tokens es) j → Many (EntryAt ts) i (entries_from i es) j
entries_read ts i [] j fits h = subst (λ m. Many (EntryAt ts) i [] m) h no_more
entries_read ts i (e ∷ es) j fits h =
    let s = split ts i (entry_tokens e) (entries_tokens es) j h in
    let size : s.middle ≡ i + entry_size e = stand_long ts i (entry_tokens e) s.middle s.first ∙ ap (λ n. i + n) (entry_long e fits.0) in
    one_more (entry_read ts i e s.middle fits.0 s.first)
    (subst (λ m. Many (EntryAt ts) s.middle (entries_from m es) j) size (entries_read ts s.middle es j fits.1 s.rest))

-- ---- depth

const_shallow : (v : Value) (rest : List Kind) → none_deep language_bounds 0 0 ((const_tokens v ++ mark (codes ";") ∷ []) ++ rest) ≡ none_deep language_bounds 0 0 rest
const_shallow (number w n) rest = refl
const_shallow (truth true) rest = refl
const_shallow (truth false) rest = refl

more_shallow : (ps : List Pattern) (rest : List Kind) → none_deep language_bounds 1 0 (more_tokens ps ++ rest) ≡ none_deep language_bounds 1 0 rest
more_shallow [] rest = refl
more_shallow (pattern_literal w n ∷ ps) rest = more_shallow ps rest
more_shallow (masked w n v m ∷ ps) rest = more_shallow ps rest
more_shallow (any ∷ ps) rest = more_shallow ps rest

patterns_shallow : (ps : List Pattern) (rest : List Kind) → none_deep language_bounds 1 0 (patterns_tokens ps ++ rest) ≡ none_deep language_bounds 1 0 rest
patterns_shallow [] rest = refl
patterns_shallow (pattern_literal w n ∷ ps) rest = more_shallow ps rest
patterns_shallow (masked w n v m ∷ ps) rest = more_shallow ps rest
patterns_shallow (any ∷ ps) rest = more_shallow ps rest

entry_shallow : (e : Entry) (rest : List Kind) → none_deep language_bounds 0 0 (entry_tokens e ++ rest) ≡ none_deep language_bounds 0 0 rest
entry_shallow (a_default f v) rest = const_shallow v rest
entry_shallow (a_row f ps v) rest =
    let end = mark (codes ")") ∷ mark (codes "=") ∷ (const_tokens v ++ mark (codes ";") ∷ []) in
    ap (none_deep language_bounds 1 0) (append_assoc (patterns_tokens ps) end rest) ∙ patterns_shallow ps (end ++ rest) ∙ const_shallow v rest

entries_shallow : (es : List Entry) (rest : List Kind) → none_deep language_bounds 0 0 (entries_tokens es ++ rest) ≡ none_deep language_bounds 0 0 rest
entries_shallow [] rest = refl
entries_shallow (e ∷ es) rest =
    ap (none_deep language_bounds 0 0) (append_assoc (entry_tokens e) (entries_tokens es) rest) ∙ entry_shallow e (entries_tokens es ++ rest) ∙ entries_shallow es rest

-- ---- the text

tokens_read : (ts : List Kind) (es : List Entry) → EntriesFit es → ts ≡ entries_tokens es ++ finish ∷ [] → DefsAt ts (entries_from 0 es)
tokens_read ts es fits e =
    let s = split ts 0 (entries_tokens es) (finish ∷ []) (length ts) (subst (λ ks. Stand ts 0 ks (length ts)) e (all_stand ts)) in
    (s.middle, entries_read ts 0 es s.middle fits s.first, s.rest.0)

-- the text of entries reads as these, one after the other
pub entries_text_reads : (es : List Entry) → EntriesFit es → ReadsDefs (each_text entry_text es) (entries_from 0 es)
entries_text_reads es fits =
    let l = spells_lexes (entries_part es fits).spells in
    record {
      tokens = l.tokens;
      tokens_are = l.are;
      shallow = ap (is_shallow language_bounds) l.of_kinds ∙ entries_shallow es (finish ∷ []);
      reads = tokens_read (kinds l.tokens) es fits l.of_kinds;
    }
