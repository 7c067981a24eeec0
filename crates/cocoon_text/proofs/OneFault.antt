-- A text has at most one first fault, and none where it has a tree.
use Rattle.std.specs.Prelude.{◌≡◌, ℕ, zero, suc, ◌≤◌, ◌<◌, ◌&&◌, Bool, true, false, nat_le, IsTrue, List, [], ◌∷◌, ◌++◌, take, drop, slice_get, Some, Ok, refl}
use Rattle.std.proofs.Common.{inl, inr, sym, ◌∙◌, ap, subst, append_assoc, arith}
use Rattle.std.proofs.lemmas.Bool.{and_parts, cases_lt, cases_order}
use Rattle.std.proofs.lemmas.List.{take-append-drop, take-take}
use Rattle.cocoon_num.specs.Tree.{Design, DefsText}
use Rattle.cocoon_num.specs.Tokens.{Kind, Token, none_deep, brackets_after, operators_after, language_bounds, is_shallow, kinds, language, lex}
use Rattle.cocoon_num.specs.Reads.{DefsAt, DesignAt, Reads, ReadsDefs}
use Rattle.cocoon_num.specs.FirstFaults.{BeginsDefs, BeginsDesign, Unexpected, TooDeep}
use Rattle.cocoon_text.specs.Position.{column_of, line_of}
use Rattle.cocoon_text.specs.TextFaults.{FaultAt, bad_byte, bad_number, open_comment, unexpected, too_deep, FirstFault}
use Rattle.cocoon_text.specs.declared.fault.FaultKind.{FaultKind}
use Rattle.cocoon_text.specs.declared.fault.TextFault.{TextFault}

-- ---- prefixes of tokens

-- those that are not deep have no deep prefix
shallow_from : (ts : List Kind) (i b o : ℕ) → none_deep language_bounds b o ts ≡ true → none_deep language_bounds b o (take i ts) ≡ true
shallow_from ts zero b o h = refl
shallow_from [] (suc i) b o h = refl
shallow_from (k ∷ ts) (suc i) b o h =
    let b' = brackets_after b k in
    let o' = operators_after language_bounds.operators o k in
    let p = and_parts (nat_le b' 64 && nat_le o' 128) (none_deep language_bounds b' o' ts) h in
    let q = and_parts (nat_le b' 64) (nat_le o' 128) p.0 in
    rw (q.0, q.1) (shallow_from ts i b' o' p.1)

is_true : (b : Bool) → IsTrue b → b ≡ true
is_true true h = refl
is_true false h = h

shallow_sooner : (ts : List Kind) (m n : ℕ) → m ≤ n → IsTrue (is_shallow language_bounds (take n ts)) → is_shallow language_bounds (take m ts) ≡ true
shallow_sooner ts m n h s = ap (is_shallow language_bounds) (sym (take-take m n ts h)) ∙ shallow_from (take n ts) m 0 0 (is_true (is_shallow language_bounds (take n ts)) s)

-- tokens that begin some text have prefixes that do
abbrev pub PrefixesBegin : (List Kind → Type 0) → Type 0
PrefixesBegin Begins = (ts : List Kind) (m n : ℕ) → m ≤ n → Begins (take n ts) → Begins (take m ts)

regrouped : (ts rest : List Kind) (m n : ℕ) → m ≤ n → take n ts ++ rest ≡ take m ts ++ (drop m (take n ts) ++ rest)
regrouped ts rest m n h = ap (λ z. z ++ rest) (sym (take-append-drop m (take n ts)) ∙ ap (λ z. z ++ drop m (take n ts)) (take-take m n ts h)) ∙ append_assoc (take m ts) (drop m (take n ts)) rest

pub designs_begin : PrefixesBegin BeginsDesign
designs_begin ts m n h d = (drop m (take n ts) ++ d.0, d.1, subst (λ us. DesignAt us d.1) (regrouped ts d.0 m n h) d.2)

pub definitions_begin : PrefixesBegin BeginsDefs
definitions_begin ts m n h d = (drop m (take n ts) ++ d.0, d.1, subst (λ us. DefsAt us d.1) (regrouped ts d.0 m n h) d.2)

-- ---- two faults of the same tokens

not_before : (Begins : List Kind → Type 0) → PrefixesBegin Begins → (ts : List Kind) (i j : ℕ) → Unexpected language_bounds Begins ts i → Unexpected language_bounds Begins ts j → i < j → ⊥
not_before Begins prefixes ts i j p q h = p.none_with (prefixes ts (suc i) j (omega arith) q.before)

one_unexpected : (Begins : List Kind → Type 0) → PrefixesBegin Begins → (ts : List Kind) (i j : ℕ) → Unexpected language_bounds Begins ts i → Unexpected language_bounds Begins ts j → i ≡ j
one_unexpected Begins prefixes ts i j p q = elim (cases_order i j) [
  | inl e ↦ e
  | inr (inl h) ↦ absurd (not_before Begins prefixes ts i j p q h)
  | inr (inr h) ↦ absurd (not_before Begins prefixes ts j i q p h)
]

not_deep_before : (Begins : List Kind → Type 0) (ts : List Kind) (i j : ℕ) → TooDeep language_bounds Begins ts i → TooDeep language_bounds Begins ts j → i < j → ⊥
not_deep_before Begins ts i j p q h = let yes = shallow_sooner ts (suc i) j (omega arith) q.before in let no = p.deep in cc

one_too_deep : (Begins : List Kind → Type 0) (ts : List Kind) (i j : ℕ) → TooDeep language_bounds Begins ts i → TooDeep language_bounds Begins ts j → i ≡ j
one_too_deep Begins ts i j p q = elim (cases_order i j) [
  | inl e ↦ e
  | inr (inl h) ↦ absurd (not_deep_before Begins ts i j p q h)
  | inr (inr h) ↦ absurd (not_deep_before Begins ts j i q p h)
]

not_both : (Begins : List Kind → Type 0) → PrefixesBegin Begins → (ts : List Kind) (i j : ℕ) → Unexpected language_bounds Begins ts i → TooDeep language_bounds Begins ts j → ⊥
not_both Begins prefixes ts i j p q = elim (cases_lt j i) [
  | inl h ↦ let yes = shallow_sooner ts (suc j) i (omega arith) p.shallow in let no = q.deep in cc
  | inr h ↦ p.none_with (prefixes ts (suc i) (suc j) (omega arith) q.begins)
]

-- ---- two faults of a text

-- the same tokens
abbrev SameTokens : List ℕ → List Token → List Token → Type 0
SameTokens text us vs = lex language text ≡ Ok us → lex language text ≡ Ok vs → us ≡ vs

same_tokens : (text : List ℕ) (us vs : List Token) → SameTokens text us vs
same_tokens text us vs p q = cc

-- one token of one index
one_start : (us vs : List Token) (i j : ℕ) (t u : Token) → us ≡ vs → i ≡ j → slice_get us i ≡ Some t → slice_get vs j ≡ Some u → t.start ≡ u.start
one_start us vs i j t u e f p q = let same : t ≡ u = cc in ap (λ (x : Token). x.start) same

pub one_offset : (Begins : List Kind → Type 0) → PrefixesBegin Begins → (text : List ℕ) {k l : FaultKind} {m n : ℕ} → FaultAt Begins text k m → FaultAt Begins text l n → (k ≡ l) × (m ≡ n)
one_offset Begins prefixes text (bad_byte p) (bad_byte q) = (refl, cc)
one_offset Begins prefixes text (bad_number p) (bad_number q) = (refl, cc)
one_offset Begins prefixes text (open_comment p) (open_comment q) = (refl, cc)
one_offset Begins prefixes text (unexpected {tokens = us} {i = i} {token = t} p f s) (unexpected {tokens = vs} {i = j} {token = u} q g r) =
    let same = same_tokens text us vs p q in
    (refl, one_start us vs i j t u same (one_unexpected Begins prefixes (kinds us) i j f (subst (λ ts. Unexpected language_bounds Begins (kinds ts) j) (sym same) g)) s r)
one_offset Begins prefixes text (too_deep {tokens = us} {i = i} {token = t} p f s) (too_deep {tokens = vs} {i = j} {token = u} q g r) =
    let same = same_tokens text us vs p q in
    (refl, one_start us vs i j t u same (one_too_deep Begins (kinds us) i j f (subst (λ ts. TooDeep language_bounds Begins (kinds ts) j) (sym same) g)) s r)
one_offset Begins prefixes text (unexpected {tokens = us} {i = i} p f s) (too_deep {tokens = vs} {i = j} q g r) =
    absurd (not_both Begins prefixes (kinds us) i j f (subst (λ ts. TooDeep language_bounds Begins (kinds ts) j) (sym (same_tokens text us vs p q)) g))
one_offset Begins prefixes text (too_deep {tokens = us} {i = i} p f s) (unexpected {tokens = vs} {i = j} q g r) =
    absurd (not_both Begins prefixes (kinds vs) j i g (subst (λ ts. TooDeep language_bounds Begins (kinds ts) i) (same_tokens text us vs p q) f))
one_offset Begins prefixes text (bad_byte p) (bad_number q) = absurd cc
one_offset Begins prefixes text (bad_byte p) (open_comment q) = absurd cc
one_offset Begins prefixes text (bad_byte p) (unexpected q g r) = absurd cc
one_offset Begins prefixes text (bad_byte p) (too_deep q g r) = absurd cc
one_offset Begins prefixes text (bad_number p) (bad_byte q) = absurd cc
one_offset Begins prefixes text (bad_number p) (open_comment q) = absurd cc
one_offset Begins prefixes text (bad_number p) (unexpected q g r) = absurd cc
one_offset Begins prefixes text (bad_number p) (too_deep q g r) = absurd cc
one_offset Begins prefixes text (open_comment p) (bad_byte q) = absurd cc
one_offset Begins prefixes text (open_comment p) (bad_number q) = absurd cc
one_offset Begins prefixes text (open_comment p) (unexpected q g r) = absurd cc
one_offset Begins prefixes text (open_comment p) (too_deep q g r) = absurd cc
one_offset Begins prefixes text (unexpected p f s) (bad_byte q) = absurd cc
one_offset Begins prefixes text (unexpected p f s) (bad_number q) = absurd cc
one_offset Begins prefixes text (unexpected p f s) (open_comment q) = absurd cc
one_offset Begins prefixes text (too_deep p f s) (bad_byte q) = absurd cc
one_offset Begins prefixes text (too_deep p f s) (bad_number q) = absurd cc
one_offset Begins prefixes text (too_deep p f s) (open_comment q) = absurd cc

-- a fault of a kind at a line and column
abbrev fault_of : FaultKind → ℕ → ℕ → TextFault
fault_of k line column = record { kind = k; line = line; column = column }

same_fault : (f g : TextFault) → f.kind ≡ g.kind → f.line ≡ g.line → f.column ≡ g.column → f ≡ g
same_fault f g p q r = ap (λ k. fault_of k f.line f.column) p ∙ ap (λ n. fault_of g.kind n f.column) q ∙ ap (λ n. fault_of g.kind g.line n) r

pub one_first_fault : (Begins : List Kind → Type 0) → PrefixesBegin Begins → (text : List ℕ) (f g : TextFault) → FirstFault Begins text f → FirstFault Begins text g → f ≡ g
one_first_fault Begins prefixes text f g p q =
    let same = one_offset Begins prefixes text p.begins q.begins in
    same_fault f g same.0 (p.line_is ∙ ap (line_of text) same.1 ∙ sym q.line_is) (p.column_is ∙ ap (column_of text) same.1 ∙ sym q.column_is)

-- ---- trees

-- the tokens of a text, where each prefix begins some text and none is deep
pub record AllBegin (Begins : List Kind → Type 0) (text : List ℕ) : Type 0 where
  pub tokens : List Token
  pub tokens_are : lex language text ≡ Ok tokens
  pub begin : (m : ℕ) → Begins (take m (kinds tokens))
  pub shallow : (m : ℕ) → is_shallow language_bounds (take m (kinds tokens)) ≡ true

pub design_begins : (text : List ℕ) (d : Design) → Reads text d → AllBegin BeginsDesign text
design_begins text d r = record {
  tokens = r.tokens;
  tokens_are = r.tokens_are;
  begin = λ m. (drop m (kinds r.tokens), d, subst (λ us. DesignAt us d) (sym (take-append-drop m (kinds r.tokens))) r.reads);
  shallow = λ m. shallow_from (kinds r.tokens) m 0 0 (is_true (is_shallow language_bounds (kinds r.tokens)) r.shallow);
}

pub definitions_all_begin : (text : List ℕ) (d : DefsText) → ReadsDefs text d → AllBegin BeginsDefs text
definitions_all_begin text d r = record {
  tokens = r.tokens;
  tokens_are = r.tokens_are;
  begin = λ m. (drop m (kinds r.tokens), d, subst (λ us. DefsAt us d) (sym (take-append-drop m (kinds r.tokens))) r.reads);
  shallow = λ m. shallow_from (kinds r.tokens) m 0 0 (is_true (is_shallow language_bounds (kinds r.tokens)) r.shallow);
}

-- such a text has no fault
no_fault_at : (Begins : List Kind → Type 0) (text : List ℕ) → AllBegin Begins text → {k : FaultKind} {m : ℕ} → FaultAt Begins text k m → ⊥
no_fault_at Begins text a (bad_byte p) = let e = a.tokens_are in cc
no_fault_at Begins text a (bad_number p) = let e = a.tokens_are in cc
no_fault_at Begins text a (open_comment p) = let e = a.tokens_are in cc
no_fault_at Begins text a (unexpected {tokens = us} {i = i} p f s) = f.none_with (subst (λ ts. Begins (take (suc i) (kinds ts))) (same_tokens text a.tokens us a.tokens_are p) (a.begin (suc i)))
no_fault_at Begins text a (too_deep {tokens = us} {i = i} p f s) =
    let yes = subst (λ ts. is_shallow language_bounds (take (suc i) (kinds ts)) ≡ true) (same_tokens text a.tokens us a.tokens_are p) (a.shallow (suc i)) in
    let no = f.deep in cc

pub no_fault : (Begins : List Kind → Type 0) (text : List ℕ) → AllBegin Begins text → (f : TextFault) → FirstFault Begins text f → ⊥
no_fault Begins text a f p = no_fault_at Begins text a p.begins
