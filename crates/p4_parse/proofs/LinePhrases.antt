-- Lines, as the plain reader takes them.
use Rattle.std.specs.Prelude.{◌≡◌, ℕ, suc, ◌-◌, ◌<◌, List, [], ◌∷◌, ◌++◌, length, drop, Result, Ok, Err, ⊤, refl}
use Rattle.std.proofs.Common.{sym, ◌∙◌, ap, subst, arith}
use Rattle.std.proofs.lemmas.List.{append_assoc}
use Rattle.cocoon_num.specs.Tokens.{Kind}
use Rattle.p4_texts.specs.Machine.{Goals, fixed, lines, stuck}
use Rattle.p4_texts.specs.Written.{each_then}
use Rattle.p4_parse.specs.Onward.{Onward}
use Rattle.p4_parse.specs.Phrases.{Phrase, Read, Refused}
use Rattle.parsing.specs.declared.stop.Stop.{Stop}
use Rattle.parsing.specs.declared.stop.Stop.TheVariants.{Unexpected, NoMemory}
use Rattle.p4_parse.proofs.Sequences.{before, one_more, onward, refused_before, stopped}

-- what begins with fixed tokens and goes on with a phrase
pub after_fixed : {A : Type 0} (ks : List Kind) (gs : Goals) (f : A → List Kind → List Kind) (ts : List Kind) (p q : ℕ) (r : Result (A × ℕ) Stop) → Read (fixed ks) (λ (x : ⊤) rest. ks ++ rest) ts p tt q → Phrase gs f ts q r
    → Phrase (fixed ks ++ gs) (λ x rest. ks ++ f x rest) ts p r
after_fixed ks gs f ts p q (Ok found) a x =
    let m = a.after in
    let n = x.after in
    record {
      after = omega (arith, m, n);
      within = x.within;
      are = a.are ∙ ap (λ z. ks ++ z) x.are;
      goes = λ hs. ap (λ g. stuck g (drop p ts)) (append_assoc (fixed ks) gs hs) ∙ a.goes (gs ++ hs) ∙ x.goes hs;
    }
after_fixed ks gs f ts p q (Err (Unexpected i)) a x = record { within = x.within; there = λ hs. ap (λ g. stuck g (drop p ts)) (append_assoc (fixed ks) gs hs) ∙ a.goes (gs ++ hs) ∙ x.there hs }
after_fixed ks gs f ts p q (Err NoMemory) a x = tt

-- ---- so many of n lines

abbrev pub LinesSoFar : {A : Type 0} → Goals → (A → List Kind → List Kind) → ℕ → List Kind → ℕ → List A → ℕ → Type 0
LinesSoFar g one n ts pos xs next = Onward (lines n g) (lines (n - length xs) g) (each_then one) ts pos xs next

one_line : (g : Goals) (n k : ℕ) → k < n → lines (n - k) g ≡ g ++ lines (n - suc k) g
one_line g n k h = let e : n - k ≡ suc (n - suc k) = omega arith in ap (λ m. lines m g) e

pub one_longer : {A : Type 0} (xs : List A) (x : A) → length (xs ++ x ∷ []) ≡ suc (length xs)
one_longer [] x = refl
one_longer (y ∷ xs) x = ap suc (one_longer xs x)

pub one_line_more : {A : Type 0} (g : Goals) (one : A → List Kind → List Kind) (n : ℕ) (ts : List Kind) (pos next after : ℕ) (xs ys : List A) (x : A) → LinesSoFar g one n ts pos xs next → length xs < n → Read g one ts next x after → ys ≡ xs ++ x ∷ []
    → LinesSoFar g one n ts pos ys after
one_line_more g one n ts pos next after xs ys x s h r e =
    let k : length ys ≡ suc (length xs) = ap length e ∙ one_longer xs x in
    let step : Onward (g ++ lines (n - suc (length xs)) g) (lines (n - suc (length xs)) g) one ts next x after = before (lines (n - suc (length xs)) g) (onward r) in
    let from : Onward (lines (n - length xs) g) (lines (n - suc (length xs)) g) one ts next x after = subst (λ j. Onward j (lines (n - suc (length xs)) g) one ts next x after) (sym (one_line g n (length xs) h)) step in
    subst (λ m. Onward (lines n g) (lines (n - m) g) (each_then one) ts pos ys after) (sym k) (one_more s from e)

pub line_stopped : {A : Type 0} (g : Goals) (one : A → List Kind → List Kind) (n : ℕ) (ts : List Kind) (pos next i : ℕ) (xs : List A) → LinesSoFar g one n ts pos xs next → length xs < n → Refused g ts next i → Refused (lines n g) ts pos i
line_stopped g one n ts pos next i xs s h r = stopped s (subst (λ j. Refused j ts next i) (sym (one_line g n (length xs) h)) (refused_before (lines (n - suc (length xs)) g) r))

pub all_lines : {A B : Type 0} (g : Goals) (one : A → List Kind → List Kind) (f : B → List Kind → List Kind) (n : ℕ) (ts : List Kind) (pos next : ℕ) (xs : List A) (v : B) → LinesSoFar g one n ts pos xs next → n ≡ length xs → ((ks : List Kind) → f v ks ≡ each_then one xs ks)
    → Onward (lines n g) [] f ts pos v next
all_lines g one f n ts pos next xs v s e h =
    let z : n - length xs ≡ 0 = omega (arith, e) in
    record {
      forward = s.forward;
      within = s.within;
      are = s.are ∙ sym (h (drop next ts));
      goes = λ hs. s.goes hs ∙ ap (λ m. stuck (lines m g ++ hs) (drop next ts)) z;
    }
