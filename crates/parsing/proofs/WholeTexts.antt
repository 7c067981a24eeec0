-- From what is read up to the first deep token to what the whole text is, or which its first fault is.
use Rattle.std.specs.Prelude.{◌≡◌, ℕ, zero, suc, ◌+◌, ◌≤◌, ◌<◌, true, false, IsTrue, List, [], ◌∷◌, ◌++◌, length, take, slice_get, Option, Some, None, refl}
use Rattle.std.proofs.Common.{sym, ◌∙◌, ap, subst, add-one, arith}
use Rattle.std.proofs.lemmas.Bool.{ltb-false}
use Rattle.std.proofs.lemmas.Option.{slice_get_within}
use Rattle.std.proofs.lemmas.List.{length-take-le, take-take, take_all}
use Rattle.cocoon_num.specs.Tokens.{Kind, is_shallow, language_bounds, finish}
use Rattle.cocoon_num.specs.Reads.{DefsAt, DesignAt}
use Rattle.cocoon_num.specs.FirstFaults.{BeginsDefs, BeginsDesign, Unexpected, TooDeep}
use Rattle.parsing.specs.PlainParser.{Outcome, good, bad, defs_from, design_from}
use Rattle.parsing.proofs.Depths.{is_true, shallow_prefix}
use Rattle.parsing.specs.Depth.{DeepAt, FirstDeep, reach}
use Rattle.parsing.specs.Reading.{Fails, Ended, is_past, Reading}
use Rattle.parsing.proofs.Ends.{ended_is, ends_last, end_is_shallow}
use Rattle.parsing.proofs.Exact.{Agree}
use Rattle.parsing.proofs.ExactParts.{defs_exact, design_exact}
use Rattle.parsing.proofs.Stays.{fails_stays}
use Rattle.parsing.proofs.Whole.{defs_sound, defs_stops, defs_unexpected, design_sound, design_stops, design_unexpected}

-- ---- prefixes of tokens

agree_take : (ts : List Kind) (n k : ℕ) → k < n → slice_get (take n ts) k ≡ slice_get ts k
agree_take ts zero k h = absurd (omega arith)
agree_take [] (suc n) k h = refl
agree_take (t ∷ ts) (suc n) zero h = refl
agree_take (t ∷ ts) (suc n) (suc k) h = agree_take ts n k (omega arith)

take_prefix : (before w : List Kind) → take (length before) (before ++ w) ≡ before
take_prefix [] w = refl
take_prefix (t ∷ before) w = ap (λ z. t ∷ z) (take_prefix before w)

length_last : (before : List Kind) → length (before ++ finish ∷ []) ≡ suc (length before)
length_last [] = refl
length_last (k ∷ before) = ap suc (length_last before)

-- ---- what a reading of a whole text is

record Whole {A : Type 0} (R : List Kind → ℕ → Outcome A) (Holds : List Kind → A → Type 0) (Begins : List Kind → Type 0) : Type 0 where
  sound : (ts : List Kind) (n : ℕ) (x : A) (j : ℕ) → R ts n ≡ good x j → Holds ts x
  ends : (ts : List Kind) (x : A) → Holds ts x → (j : ℕ) × (slice_get ts j ≡ Some finish)
  stops : (ts : List Kind) (n i : ℕ) → R ts n ≡ bad i → (i ≤ length ts) × Begins (take i ts)
  stays : (ts us : List Kind) (i : ℕ) → Agree ts us (suc i) → Fails (R ts) i → Fails (R us) i
  unexpected : (ts : List Kind) (i : ℕ) (before : List Kind) → ts ≡ before ++ finish ∷ [] → Fails (R ts) i → IsTrue (is_shallow language_bounds (take i ts)) → Unexpected language_bounds Begins ts i

-- the text does not end up to the first deep token
no_end_before : (ts : List Kind) (d j : ℕ) → Ended ts → DeepAt language_bounds ts d → slice_get (take (d + 1) ts) j ≡ Some finish → ⊥
no_end_before ts d j e p f =
    let whole = ended_is e in
    let long : length (take (d + 1) ts) ≡ d + 1 = length-take-le (d + 1) ts (let h = p.within in omega arith) in
    let inside : j < length (take (d + 1) ts) = slice_get_within (take (d + 1) ts) j finish f in
    let there : slice_get ts j ≡ Some finish = sym (agree_take ts (d + 1) j (omega (arith, long, inside))) ∙ f in
    let last : suc j ≡ length ts = ends_last e j (rw there refl) in
    let size : length ts ≡ suc (length whole.0) = ap length whole.1 ∙ length_last whole.0 in
    let at : d ≡ length whole.0 = let h = p.within in omega (arith, long, inside, last, size) in
    let prefix : take d ts ≡ whole.0 = ap (take d) whole.1 ∙ ap (λ n. take n (whole.0 ++ finish ∷ [])) at ∙ take_prefix whole.0 (finish ∷ []) in
    let quiet : is_shallow language_bounds whole.0 ≡ true = ap (is_shallow language_bounds) (sym prefix) ∙ is_true (is_shallow language_bounds (take d ts)) p.before in
    let all : take (d + 1) ts ≡ whole.0 ++ finish ∷ [] = take_all (d + 1) ts (omega (arith, last, long, inside)) ∙ whole.1 in
    let yes : is_shallow language_bounds (take (d + 1) ts) ≡ true = ap (is_shallow language_bounds) all ∙ end_is_shallow whole.0 quiet in
    let no = p.deep in cc

read_whole : {A : Type 0} (R : List Kind → ℕ → Outcome A) {Holds : List Kind → A → Type 0} {Begins : List Kind → Type 0} → Whole R Holds Begins → (ts : List Kind) (deep : Option ℕ) → Ended ts → FirstDeep language_bounds ts deep → (n : ℕ) (x : A) (j : ℕ) → R (reach deep ts) n ≡ good x j → Holds ts x × IsTrue (is_shallow language_bounds ts)
read_whole R r ts None e p n x j g = (r.sound ts n x j g, p)
read_whole R r ts (Some d) e p n x j g = let f = r.ends (take (d + 1) ts) x (r.sound (take (d + 1) ts) n x j g) in absurd (no_end_before ts d f.0 e p f.1)

unexpected_whole : {A : Type 0} (R : List Kind → ℕ → Outcome A) {Holds : List Kind → A → Type 0} {Begins : List Kind → Type 0} → Whole R Holds Begins → (ts : List Kind) (deep : Option ℕ) → Ended ts → FirstDeep language_bounds ts deep → (i : ℕ) → Fails (R (reach deep ts)) i → is_past deep i ≡ false → Unexpected language_bounds Begins ts i
unexpected_whole R r ts None e p i f h = let whole = ended_is e in r.unexpected ts i whole.0 whole.1 f (shallow_prefix language_bounds ts i p)
unexpected_whole R r ts (Some d) e p i f h =
    let whole = ended_is e in
    let low : i ≤ d = ltb-false d i h in
    let prefix : take i (take d ts) ≡ take i ts = take-take i d ts low in
    r.unexpected ts i whole.0 whole.1 (r.stays (take (d + 1) ts) ts i (λ k l. agree_take ts (d + 1) k (omega arith)) f) (subst (λ z. IsTrue (is_shallow language_bounds z)) prefix (shallow_prefix language_bounds (take d ts) i p.before))

too_deep_whole : {A : Type 0} (R : List Kind → ℕ → Outcome A) {Holds : List Kind → A → Type 0} {Begins : List Kind → Type 0} → Whole R Holds Begins → (ts : List Kind) (d : ℕ) → Ended ts → DeepAt language_bounds ts d → (i : ℕ) → Fails (R (take (d + 1) ts)) i → d < i → TooDeep language_bounds Begins ts d
too_deep_whole R {Begins = Begins} r ts d e p i f h =
    let long : length (take (d + 1) ts) ≡ d + 1 = length-take-le (d + 1) ts (let l = p.within in omega arith) in
    let stop = r.stops (take (d + 1) ts) f.depth i (f.equal f.depth (omega arith)) in
    let at : i ≡ suc d = let a = stop.0 in omega (arith, h, long) in
    let prefix : take i (take (d + 1) ts) ≡ take (suc d) ts = ap (λ n. take n (take (d + 1) ts)) at ∙ take-take (suc d) (d + 1) ts (omega arith) in
    record { within = p.within; before = p.before; deep = subst (λ n. is_shallow language_bounds (take n ts) ≡ false) (add-one d) p.deep; begins = subst Begins prefix stop.1 }

reading : {A : Type 0} (R : List Kind → ℕ → Outcome A) {Holds : List Kind → A → Type 0} {Begins : List Kind → Type 0} → Whole R Holds Begins → Reading R Holds Begins
reading R r = record { reads = read_whole R r; unexpected = unexpected_whole R r; too_deep = too_deep_whole R r }

-- ---- definitions

pub definitions_reading : Reading defs_from DefsAt BeginsDefs
definitions_reading = reading defs_from (record {
  sound = defs_sound;
  ends = λ ts x h. (h.0, h.2);
  stops = defs_stops;
  stays = λ ts us i a f. fails_stays defs_from defs_exact ts us (omega arith) a f;
  unexpected = defs_unexpected;
})

pub designs_reading : Reading design_from DesignAt BeginsDesign
designs_reading = reading design_from (record {
  sound = design_sound;
  ends = λ ts x h. (h.after_refines, h.ends);
  stops = design_stops;
  stays = λ ts us i a f. fails_stays design_from design_exact ts us (omega arith) a f;
  unexpected = design_unexpected;
})
