-- Phrases one after the other, from goals to goals.
use Rattle.std.specs.Prelude.{◌≡◌, ℕ, ◌≤◌, List, [], ◌∷◌, ◌++◌, length, map, drop, Result, Err, refl}
use Rattle.std.proofs.Common.{sym, ◌∙◌, ap, subst, arith}
use Rattle.std.proofs.lemmas.List.{append_assoc}
use Rattle.cocoon_num.specs.Tokens.{Kind}
use Rattle.p4_texts.specs.Machine.{Goals, stuck}
use Rattle.p4_texts.specs.Written.{each_then}
use Rattle.p4_parse.specs.Phrases.{Phrase, Read, Refused}
use Rattle.p4_parse.specs.Onward.{Onward, Onwards}
use Rattle.parsing.specs.declared.stop.Stop.{Stop}
use Rattle.parsing.specs.declared.stop.Stop.TheVariants.{Unexpected, NoMemory}

pub onward : {A : Type 0} {gs : Goals} {f : A → List Kind → List Kind} {ts : List Kind} {p : ℕ} {x : A} {q : ℕ} → Read gs f ts p x q → Onward gs [] f ts p x q
onward r = let a = r.after in record { forward = omega (arith, a); within = r.within; are = r.are; goes = r.goes }

-- one after the other
pub joined : {A B C : Type 0} {gs hs js : Goals} {f : A → List Kind → List Kind} {g : B → List Kind → List Kind} (h : C → List Kind → List Kind) {ts : List Kind} {p q r : ℕ} {x : A} {y : B} (z : C)
    → Onward gs hs f ts p x q → Onward hs js g ts q y r → ((ks : List Kind) → h z ks ≡ f x (g y ks)) → Onward gs js h ts p z r
joined {f = f} h {ts = ts} {r = r} {x = x} z a b e =
    let m = a.forward in
    let n = b.forward in
    record { forward = omega (arith, m, n); within = b.within; are = a.are ∙ ap (f x) b.are ∙ sym (e (drop r ts)); goes = λ js. a.goes js ∙ b.goes js }

pub stopped : {A : Type 0} {gs hs : Goals} {f : A → List Kind → List Kind} {ts : List Kind} {p q i : ℕ} {x : A} → Onward gs hs f ts p x q → Refused hs ts q i → Refused gs ts p i
stopped a r = record { within = r.within; there = λ hs. a.goes hs ∙ r.there hs }

-- with goals that come after
pub before : {A : Type 0} (rest : Goals) {gs hs : Goals} {f : A → List Kind → List Kind} {ts : List Kind} {p q : ℕ} {x : A} → Onward gs hs f ts p x q → Onward (gs ++ rest) (hs ++ rest) f ts p x q
before rest {gs = gs} {hs = hs} {ts = ts} {p = p} {q = q} a = record {
  forward = a.forward;
  within = a.within;
  are = a.are;
  goes = λ js. ap (λ g. stuck g (drop p ts)) (append_assoc gs rest js) ∙ a.goes (rest ++ js) ∙ ap (λ g. stuck g (drop q ts)) (sym (append_assoc hs rest js));
}

pub refused_before : (rest : Goals) {gs : Goals} {ts : List Kind} {p i : ℕ} → Refused gs ts p i → Refused (gs ++ rest) ts p i
refused_before rest {gs = gs} {ts = ts} {p = p} r = record { within = r.within; there = λ js. ap (λ g. stuck g (drop p ts)) (append_assoc gs rest js) ∙ r.there (rest ++ js) }

pub goals_are : {A : Type 0} {gs hs : Goals} {f : A → List Kind → List Kind} {ts : List Kind} {p q : ℕ} {x : A} (gs' hs' : Goals) → gs ≡ gs' → hs ≡ hs' → Onward gs hs f ts p x q → Onward gs' hs' f ts p x q
goals_are {hs = hs} {f = f} {ts = ts} {p = p} {q = q} {x = x} gs' hs' d e a = subst (λ j. Onward gs' j f ts p x q) e (subst (λ g. Onward g hs f ts p x q) d a)

-- ---- each of some

pub appended : {A : Type 0} (one : A → List Kind → List Kind) (xs : List A) (x : A) (ks : List Kind) → each_then one (xs ++ x ∷ []) ks ≡ each_then one xs (one x ks)
appended one [] x ks = refl
appended one (y ∷ xs) x ks = ap (one y) (appended one xs x ks)

pub each_map : {A B : Type 0} (f : A → B) (one : B → List Kind → List Kind) (xs : List A) (ks : List Kind) → each_then (λ x js. one (f x) js) xs ks ≡ each_then one (map f xs) ks
each_map f one [] ks = refl
each_map f one (x ∷ xs) ks = ap (one (f x)) (each_map f one xs ks)

-- none yet
pub none_yet : {A : Type 0} (one : A → List Kind → List Kind) (gs : Goals) (ts : List Kind) (p : ℕ) → p ≤ length ts → Onward gs gs (each_then one) ts p [] p
none_yet one gs ts p w = record { forward = omega arith; within = w; are = refl; goes = λ hs. refl }

-- one more
pub one_more : {A : Type 0} {one : A → List Kind → List Kind} {gs hs js : Goals} {ts : List Kind} {p q r : ℕ} {xs ys : List A} {x : A}
    → Onward gs hs (each_then one) ts p xs q → Onward hs js one ts q x r → ys ≡ xs ++ x ∷ [] → Onward gs js (each_then one) ts p ys r
one_more {one = one} {gs = gs} {js = js} {ts = ts} {p = p} {r = r} {xs = xs} {x = x} a b e =
    subst (λ zs. Onward gs js (each_then one) ts p zs r) (sym e) (joined (each_then one) (xs ++ x ∷ []) a b (appended one xs x))

-- ---- answers that pass on why something was not read

pub several_fails : {A B : Type 0} (gs hs : Goals) (more : B → Goals) (f : A → List Kind → List Kind) (g : B → List Kind → List Kind) (ts : List Kind) (p q : ℕ) (r : Result (B × ℕ) Stop) (stop : Stop)
    → r ≡ Err stop → ((i : ℕ) → Refused gs ts q i → Refused hs ts p i) → Phrase gs f ts q (Err stop) → Onwards hs more g ts p r
several_fails gs hs more f g ts p q r (Unexpected i) e h x = subst (λ z. Onwards hs more g ts p z) (sym e) (h i x)
several_fails gs hs more f g ts p q r NoMemory e h x = subst (λ z. Onwards hs more g ts p z) (sym e) tt
