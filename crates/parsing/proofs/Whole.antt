-- What the reading of a whole text says. A tree that it gives is the text's. Where it stops, the tokens before begin some
-- text, and those with the token there begin none.
use Rattle.std.specs.Prelude.{◌≡◌, ℕ, zero, suc, ◌+◌, ◌≤◌, ◌<◌, Bool, true, false, List, [], ◌∷◌, ◌++◌, length, take, IsTrue, slice_get, Option, Some, None, if◌then◌else◌, codes, refl}
use Rattle.std.proofs.Common.{inl, inr, sym, ◌∙◌, ap, subst, arith}
use Rattle.std.proofs.lemmas.Bool.{cases_lt}
use Rattle.cocoon_num.specs.Tree.{Design, DefsText}
use Rattle.cocoon_num.specs.Tokens.{Kind, a_name, keyword, plain, literal, mark, finish, is_shallow, language_bounds}
use Rattle.cocoon_num.specs.Reads.{Is, Many, DesignAt, EntryAt, DefsAt}
use Rattle.cocoon_num.specs.FirstFaults.{BeginsDesign, BeginsDefs, Unexpected}
use Rattle.parsing.specs.PlainParser.{Outcome, good, bad, spent, after, is_mark, is_keyword, is_finish, marked, reserved, many_from, some_from, closes, finishes, ends_decls, header_from, decl_from, refine_from, entry_from, design_from, defs_from}
use Rattle.parsing.specs.Reading.{Fails}
use Rattle.parsing.proofs.Exact.{Agree, Clean, At, first_at, second_at, GoodRead, BadRead}
use Rattle.parsing.proofs.ExactParts.{design_exact, defs_exact}
use Rattle.parsing.proofs.Stays.{good_read, bad_read}
use Rattle.parsing.proofs.ReadsParts.{design_read, defs_read}

-- ---- texts that begin alike

same_below : (ts rest : List Kind) (n k : ℕ) → n ≤ length ts → k < n → slice_get ts k ≡ slice_get (take n ts ++ rest) k
same_below ts rest zero k h l = absurd (omega arith)
same_below [] rest (suc n) k h l = absurd (omega arith)
same_below (x ∷ ts) rest (suc n) zero h l = refl
same_below (x ∷ ts) rest (suc n) (suc k) h l = same_below ts rest n k (omega arith) (omega arith)

agree_taken : (ts rest : List Kind) (n : ℕ) → n ≤ length ts → Agree ts (take n ts ++ rest) n
agree_taken ts rest n h k l = same_below ts rest n k h l

at_next : (x : Kind) (us : List Kind) (p : ℕ) (w : List Kind) → At us p w → At (x ∷ us) (suc p) w
at_next x us p [] a = tt
at_next x us p (k ∷ w) a = (a.0, at_next x us (suc p) w a.1)

at_start : (w : List Kind) → At w 0 w
at_start [] = tt
at_start (k ∷ w) = (refl, at_next k w 0 w (at_start w))

-- tokens put behind the first n
at_taken : (ts w : List Kind) (n : ℕ) → n ≤ length ts → At (take n ts ++ w) n w
at_taken ts w zero h = at_start w
at_taken [] w (suc n) h = absurd (omega arith)
at_taken (x ∷ ts) w (suc n) h = at_next x (take n ts ++ w) n w (at_taken ts w n (omega arith))

-- ---- where a text ends

finish_is : (o : Option Kind) → is_finish o ≡ true → o ≡ Some finish
finish_is None h = absurd cc
finish_is (Some (a_name x)) h = absurd cc
finish_is (Some (keyword x)) h = absurd cc
finish_is (Some (plain n)) h = absurd cc
finish_is (Some (literal w n)) h = absurd cc
finish_is (Some (mark x)) h = absurd cc
finish_is (Some finish) h = refl

-- what is read ends before the last token
abbrev Last : {A : Type 0} → List Kind → Outcome A → Type 0
Last ts (good x j) = is_finish (slice_get ts j) ≡ true
Last ts (bad i) = Unit {0}
Last ts spent = Unit {0}

after_last : {A B : Type 0} (ts : List Kind) (r : Outcome A) (K : A → ℕ → Outcome B) → ((x : A) (j : ℕ) → Last ts (K x j)) → Last ts (after r K)
unfolding after
after_last ts (good x j) K h = h x j
after_last ts (bad i) K h = tt
after_last ts spent K h = tt

if_last : {A : Type 0} (ts : List Kind) (b : Bool) (i : ℕ) (r : Outcome A) → Last ts r → Last ts (if b then r else bad i)
if_last ts true i r h = h
if_last ts false i r h = tt

marked_last : {A : Type 0} (ts : List Kind) (m : List ℕ) (i : ℕ) (r : Outcome A) → Last ts r → Last ts (marked ts m i r)
unfolding marked
marked_last ts m i r h = if_last ts (is_mark m (slice_get ts i)) i r h

reserved_last : {A : Type 0} (ts : List Kind) (m : List ℕ) (i : ℕ) (r : Outcome A) → Last ts r → Last ts (reserved ts m i r)
unfolding reserved
reserved_last ts m i r h = if_last ts (is_keyword m (slice_get ts i)) i r h

ends_last : {A : Type 0} (ts : List Kind) (x : A) (k : ℕ) → Last ts (if is_finish (slice_get ts k) then good x k else bad k)
ends_last {A} ts x k = by (is_finish (slice_get ts k)) refl
  where
    by : (b : Bool) → is_finish (slice_get ts k) ≡ b → Last ts (if b then good x k else bad k)
    by true e = e
    by false e = tt

design_last : (ts : List Kind) (n : ℕ) → Last ts (design_from ts n)
unfolding design_from
design_last ts n = reserved_last ts (codes "packet") 0 _ (marked_last ts (codes "{") 1 _ (after_last ts (some_from (header_from ts) (closes ts) n 2) _ (λ hs i. marked_last ts (codes "}") i _
    (after_last ts (many_from (decl_from ts) (ends_decls ts) n (suc i)) _ (λ ds j. after_last ts (many_from (refine_from ts) (finishes ts) n j) _ (λ rs k. ends_last ts (record { headers = hs; decls = ds; refines = rs }) k))))))

more_last : {A : Type 0} (ts : List Kind) (r : Outcome (List A)) → Last ts r → (x : A) → Last ts (after r (λ xs k. good (x ∷ xs) k))
unfolding after
more_last ts (good xs k) h x = h
more_last ts (bad k) h x = tt
more_last ts spent h x = tt

entries_last : (ts : List Kind) (n i : ℕ) → Last ts (many_from (entry_from ts) (finishes ts) n i)
entries_last ts zero i = tt
entries_last ts (suc n) i = by (finishes ts i) refl (λ j. entries_last ts n j)
  where
    by : (b : Bool) → finishes ts i ≡ b → ((j : ℕ) → Last ts (many_from (entry_from ts) (finishes ts) n j)) →
        Last ts (if b then good [] i else after (entry_from ts n i) (λ x j. after (many_from (entry_from ts) (finishes ts) n j) (λ xs k. good (x ∷ xs) k)))
    by true e more = e
    by false e more = after_last ts (entry_from ts n i) _ (λ x j. more_last ts (many_from (entry_from ts) (finishes ts) n j) (more j) x)

defs_last : (ts : List Kind) (n : ℕ) → Last ts (defs_from ts n)
unfolding defs_from
defs_last ts n = entries_last ts n 0

-- the last token stands there, and the text begins with none
at_last : (before : List Kind) → slice_get (before ++ finish ∷ []) (length before) ≡ Some finish
at_last [] = refl
at_last (k ∷ before) = at_last before

length_last : (before : List Kind) → length (before ++ finish ∷ []) ≡ suc (length before)
length_last [] = refl
length_last (k ∷ before) = ap suc (length_last before)

stops_within : (ts before : List Kind) (i : ℕ) → ts ≡ before ++ finish ∷ [] → Clean ts 0 i → i < length ts
stops_within ts before i e c = elim (cases_lt (length before) i) [
  | inl h ↦ absurd (let f : is_finish (slice_get ts (length before)) ≡ true = rw (e, at_last before) refl in let g = c (length before) (omega arith) h in cc)
  | inr h ↦ let f : length ts ≡ suc (length before) = ap length e ∙ length_last before in omega (arith, f, h)
]

-- ---- designs

design_good : (ts : List Kind) (n : ℕ) (d : Design) (j : ℕ) → design_from ts n ≡ good d j → GoodRead (λ us x k. Is us k finish → DesignAt us x) (λ us. design_from us n) ts 0 d j
design_good ts n d j e = good_read (λ us. design_from us n) (design_exact n) ts (omega arith) e

design_bad : (ts : List Kind) (n i : ℕ) → design_from ts n ≡ bad i → BadRead (λ us x k. Is us k finish → DesignAt us x) (λ us. design_from us n) ts 0 i
design_bad ts n i e = bad_read (λ us. design_from us n) (design_exact n) ts (omega arith) e

-- what is read is derived
pub design_sound : (ts : List Kind) (n : ℕ) (d : Design) (j : ℕ) → design_from ts n ≡ good d j → DesignAt ts d
design_sound ts n d j e = (design_good ts n d j e).holds ts (λ k h. refl) (finish_is (slice_get ts j) (subst (λ r. Last ts r) e (design_last ts n)))

-- the tokens before the one where it stops begin some design
pub design_stops : (ts : List Kind) (n i : ℕ) → design_from ts n ≡ bad i → (i ≤ length ts) × BeginsDesign (take i ts)
design_stops ts n i e =
    let b = design_bad ts n i e in
    let w = b.ends ++ (finish ∷ []) in
    let us = take i ts ++ w in
    let a = at_taken ts w i b.within in
    let d = b.holds us (agree_taken ts w i b.within) (first_at us i b.ends (finish ∷ []) a) in
    (b.within, (w, d.0, d.1 (second_at us i b.ends (finish ∷ []) a).0))

-- those with the token there begin none
pub design_none_with : (ts : List Kind) (i : ℕ) → Fails (λ n. design_from ts n) i → i < length ts → ¬ BeginsDesign (take (suc i) ts)
design_none_with ts i f h d =
    let us = take (suc i) ts ++ d.0 in
    let r = design_read us d.1 d.2 in
    let n = f.depth + r.depth in
    let p : design_from us n ≡ bad i = (design_bad ts n i (f.equal n (omega arith))).stays us (agree_taken ts d.0 (suc i) (omega (arith, h))) in
    let q : design_from us n ≡ good d.1 d.2.after_refines = r.equal n (omega arith) in
    let e : good d.1 d.2.after_refines ≡ bad i = sym q ∙ p in cc

-- a text that ends with the last token is not read past it
pub design_within : (ts : List Kind) (n i : ℕ) (before : List Kind) → ts ≡ before ++ finish ∷ [] → design_from ts n ≡ bad i → i < length ts
design_within ts n i before s e = stops_within ts before i s (design_bad ts n i e).clean

-- ---- definitions

defs_good : (ts : List Kind) (n : ℕ) (d : DefsText) (j : ℕ) → defs_from ts n ≡ good d j → GoodRead (λ us. Many (EntryAt us) 0) (λ us. defs_from us n) ts 0 d j
defs_good ts n d j e = good_read (λ us. defs_from us n) (defs_exact n) ts (omega arith) e

defs_bad : (ts : List Kind) (n i : ℕ) → defs_from ts n ≡ bad i → BadRead (λ us. Many (EntryAt us) 0) (λ us. defs_from us n) ts 0 i
defs_bad ts n i e = bad_read (λ us. defs_from us n) (defs_exact n) ts (omega arith) e

pub defs_sound : (ts : List Kind) (n : ℕ) (d : DefsText) (j : ℕ) → defs_from ts n ≡ good d j → DefsAt ts d
defs_sound ts n d j e = (j, (defs_good ts n d j e).holds ts (λ k h. refl), finish_is (slice_get ts j) (subst (λ r. Last ts r) e (defs_last ts n)))

pub defs_stops : (ts : List Kind) (n i : ℕ) → defs_from ts n ≡ bad i → (i ≤ length ts) × BeginsDefs (take i ts)
defs_stops ts n i e =
    let b = defs_bad ts n i e in
    let w = b.ends ++ (finish ∷ []) in
    let us = take i ts ++ w in
    let a = at_taken ts w i b.within in
    let d = b.holds us (agree_taken ts w i b.within) (first_at us i b.ends (finish ∷ []) a) in
    (b.within, (w, d.0, (i + length b.ends, d.1, (second_at us i b.ends (finish ∷ []) a).0)))

pub defs_none_with : (ts : List Kind) (i : ℕ) → Fails (λ n. defs_from ts n) i → i < length ts → ¬ BeginsDefs (take (suc i) ts)
defs_none_with ts i f h d =
    let us = take (suc i) ts ++ d.0 in
    let r = defs_read us d.1 d.2 in
    let n = f.depth + r.depth in
    let p : defs_from us n ≡ bad i = (defs_bad ts n i (f.equal n (omega arith))).stays us (agree_taken ts d.0 (suc i) (omega (arith, h))) in
    let q : defs_from us n ≡ good d.1 d.2.0 = r.equal n (omega arith) in
    let e : good d.1 d.2.0 ≡ bad i = sym q ∙ p in cc

pub defs_within : (ts : List Kind) (n i : ℕ) (before : List Kind) → ts ≡ before ++ finish ∷ [] → defs_from ts n ≡ bad i → i < length ts
defs_within ts n i before s e = stops_within ts before i s (defs_bad ts n i e).clean

-- ---- first faults

-- where the reading of a text fails, with no token deep before, is the first fault
pub design_unexpected : (ts : List Kind) (i : ℕ) (before : List Kind) → ts ≡ before ++ finish ∷ [] → Fails (λ n. design_from ts n) i → IsTrue (is_shallow language_bounds (take i ts)) → Unexpected language_bounds BeginsDesign ts i
design_unexpected ts i before s f shallow =
    let e = f.equal f.depth (omega arith) in
    let h = design_within ts f.depth i before s e in
    record { within = h; before = (design_stops ts f.depth i e).1; none_with = design_none_with ts i f h; shallow = shallow }

pub defs_unexpected : (ts : List Kind) (i : ℕ) (before : List Kind) → ts ≡ before ++ finish ∷ [] → Fails (λ n. defs_from ts n) i → IsTrue (is_shallow language_bounds (take i ts)) → Unexpected language_bounds BeginsDefs ts i
defs_unexpected ts i before s f shallow =
    let e = f.equal f.depth (omega arith) in
    let h = defs_within ts f.depth i before s e in
    record { within = h; before = (defs_stops ts f.depth i e).1; none_with = defs_none_with ts i f h; shallow = shallow }
