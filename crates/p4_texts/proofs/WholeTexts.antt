-- From what the plain reader takes up to the first deep token to what the whole text is, or which its first fault is.
use Rattle.std.specs.Prelude.{◌≡◌, ℕ, zero, suc, ◌+◌, ◌≤◌, ◌<◌, Bool, true, false, IsTrue, List, [], ◌∷◌, ◌++◌, length, take, drop, slice_get, Some, None, refl}
use Rattle.std.proofs.Common.{sym, ◌∙◌, ap, subst, arith, get_or, inl, inr}
use Rattle.std.proofs.lemmas.Bool.{cases_lt}
use Rattle.std.proofs.lemmas.List.{append_cancel_right, take-append-drop, drop_more, take_more, take-take, length-take-le, take_all, drop_all}
use Rattle.std.proofs.lemmas.Option.{slice_get_within}
use Rattle.cocoon_num.specs.Tokens.{Kind, finish, is_shallow}
use Rattle.cocoon_num.specs.FirstFaults.{TooDeep, Unexpected}
use Rattle.p4_ir.specs.P4Text.{p4_bounds}
use Rattle.p4_texts.specs.Machine.{stuck, whole_text}
use Rattle.p4_texts.specs.Written.{BeginsP4}
use Rattle.p4_texts.specs.Reading.{Ended, the_end, one_before, DeepAt, P4Reading}
use Rattle.p4_texts.proofs.Ends.{ends_last, end_is_shallow}
use Rattle.p4_texts.proofs.Exact.{text_read, text_taken, text_stuck}
use Rattle.p4_texts.proofs.Finishes.{ends_with, good_text, never_short}

-- the tokens before the one that is stuck are the first ones
first_are : (us before : List Kind) (i : ℕ) → us ≡ before ++ drop i us → before ≡ take i us
first_are us before i e = append_cancel_right before (take i us) (drop i us) (sym e ∙ sym (take-append-drop i us))

-- those with it
first_with : (us : List Kind) (i : ℕ) (k : Kind) → i < length us → take (suc i) us ≡ take i us ++ get_or us i k ∷ []
first_with us i k h = ap (λ n. take n us) (let e : suc i ≡ i + 1 = omega arith in e) ∙ take_more us i k h

stuck_begins : (us : List Kind) (i : ℕ) → stuck whole_text us ≡ Some (drop i us) → BeginsP4 (take i us)
stuck_begins us i h =
    let r = text_stuck us (drop i us) h in
    subst BeginsP4 (first_are us r.before i r.is) r.begins

stuck_none_with : (us : List Kind) (i : ℕ) → i < length us → stuck whole_text us ≡ Some (drop i us) → ¬ BeginsP4 (take (suc i) us)
stuck_none_with us i l h b =
    let r = text_stuck us (drop i us) h in
    let k = get_or us i finish in
    let with_it : take (suc i) us ≡ r.before ++ k ∷ [] = first_with us i finish l ∙ ap (λ z. z ++ k ∷ []) (sym (first_are us r.before i r.is)) in
    r.none_with k (drop (i + 1) us) (drop_more us i finish l) (subst BeginsP4 with_it b)

-- in the first n tokens
cut_take : (ks : List Kind) (n i : ℕ) → i ≤ n → take i (take n ks) ≡ take i ks
cut_take ks n i h = take-take i n ks h

unexpected_at : (ks : List Kind) (n i : ℕ) → n ≤ length ks → i < n → stuck whole_text (take n ks) ≡ Some (drop i (take n ks))
    → IsTrue (is_shallow p4_bounds (take i ks)) → Unexpected p4_bounds BeginsP4 ks i
unexpected_at ks n i le lt h s =
    let long : length (take n ks) ≡ n = length-take-le n ks le in
    let inside : i < length (take n ks) = omega (arith, long) in
    record {
      within = omega arith;
      before = subst BeginsP4 (cut_take ks n i (omega arith)) (stuck_begins (take n ks) i h);
      none_with = λ b. stuck_none_with (take n ks) i inside h (subst BeginsP4 (sym (cut_take ks n (suc i) (omega arith))) b);
      shallow = s;
    }

too_deep_at : (ks : List Kind) (d : ℕ) → DeepAt ks d → stuck whole_text (take (suc d) ks) ≡ Some [] → TooDeep p4_bounds BeginsP4 ks d
too_deep_at ks d p h =
    let us = take (suc d) ks in
    let long : length us ≡ suc d = length-take-le (suc d) ks (let l = p.within in omega arith) in
    let none : drop (suc d) us ≡ [] = drop_all (suc d) us (omega (arith, long)) in
    let all : take (suc d) us ≡ us = take_all (suc d) us (omega (arith, long)) in
    record {
      within = p.within;
      before = p.before;
      deep = p.deep;
      begins = subst BeginsP4 all (stuck_begins us (suc d) (h ∙ ap (λ z. Some z) (sym none)));
    }

stuck_within : (ks : List Kind) (i : ℕ) → Ended ks → i ≤ length ks → stuck whole_text ks ≡ Some (drop i ks) → i < length ks
stuck_within ks i d le h = elim (cases_lt i (length ks)) [
  | inl l ↦ l
  | inr l ↦ absurd (never_short whole_text good_text d (h ∙ ap (λ z. Some z) (drop_all i ks l)))
]

-- ---- the end is not deep

agree_take : (ts : List Kind) (n k : ℕ) → k < n → slice_get (take n ts) k ≡ slice_get ts k
agree_take ts zero k h = absurd (omega arith)
agree_take [] (suc n) k h = refl
agree_take (t ∷ ts) (suc n) zero h = refl
agree_take (t ∷ ts) (suc n) (suc k) h = agree_take ts n k (omega arith)

-- all tokens but the last
record Before (ks : List Kind) : Type 0 where
  tokens : List Kind
  is : ks ≡ tokens ++ finish ∷ []
  size : length ks ≡ suc (length tokens)
  first : take (length tokens) ks ≡ tokens

before_end : {ks : List Kind} → Ended ks → Before ks
before_end the_end = record { tokens = []; is = refl; size = refl; first = refl }
before_end (one_before {k = k} e d) =
    let r = before_end d in
    record { tokens = k ∷ r.tokens; is = ap (λ z. k ∷ z) r.is; size = ap suc r.size; first = ap (λ z. k ∷ z) r.first }

is_true : (b : Bool) → IsTrue b → b ≡ true
is_true true h = refl
is_true false h = h

not_taken : (ks : List Kind) (d : ℕ) → Ended ks → DeepAt ks d → ¬ (stuck whole_text (take (suc d) ks) ≡ None)
not_taken ks d e p h =
    let us = take (suc d) ks in
    let long : length us ≡ suc d = length-take-le (suc d) ks (let l = p.within in omega arith) in
    let last = ends_with whole_text us good_text h in
    let inside : last.0 < length us = slice_get_within us last.0 finish last.1 in
    let there : slice_get ks last.0 ≡ Some finish = sym (agree_take ks (suc d) last.0 (omega (arith, long, inside))) ∙ last.1 in
    let at : suc last.0 ≡ length ks = ends_last e last.0 there in
    let r = before_end e in
    let size : d ≡ length r.tokens = let l = p.within in omega (arith, r.size, at, inside, long) in
    let prefix : take d ks ≡ r.tokens = ap (λ n. take n ks) size ∙ r.first in
    let quiet : is_shallow p4_bounds r.tokens ≡ true = ap (is_shallow p4_bounds) (sym prefix) ∙ is_true (is_shallow p4_bounds (take d ks)) p.before in
    let all : us ≡ r.tokens ++ finish ∷ [] = take_all (suc d) ks (omega (arith, size, r.size)) ∙ r.is in
    let yes : is_shallow p4_bounds us ≡ true = ap (is_shallow p4_bounds) all ∙ end_is_shallow r.tokens quiet in
    let no = p.deep in absurd cc

pub the_reading : P4Reading
the_reading = record {
  taken = text_read;
  tree = text_taken;
  within = stuck_within;
  unexpected = unexpected_at;
  too_deep = too_deep_at;
  not_before = not_taken;
}
