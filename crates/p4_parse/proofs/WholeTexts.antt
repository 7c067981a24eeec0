-- From what is read of the tokens up to the first deep one to what the text is, or which its first fault is.
use Rattle.std.specs.Prelude.{◌≡◌, ℕ, suc, ◌+◌, ◌≤◌, ◌^◌, Bool, true, false, nat_lt, if◌then◌else◌, IsTrue, List, [], ◌∷◌, ◌++◌, length, take, drop, Option, Some, None, Err, refl}
use Rattle.std.proofs.Common.{sym, ◌∙◌, ap, subst, arith}
use Rattle.std.proofs.Math.Seq.{take-length}
use Rattle.std.proofs.lemmas.Bool.{ltb-true}
use Rattle.std.proofs.lemmas.Bool.Decides.{nat_tests}
use Rattle.std.proofs.lemmas.List.{append_assoc, append-nil, drop_all, length-map, length-take-le, take-append-drop, take-take}
use Rattle.cocoon_num.specs.Tokens.{Kind, finish, is_shallow}
use Rattle.p4_ir.specs.P4Text.{p4_bounds}
use Rattle.p4_parse.specs.declared.token.Token.{Token}
use Rattle.p4_texts.specs.Machine.{stuck, whole_text}
use Rattle.p4_texts.specs.Reading as reading
use Rattle.p4_texts.specs.Reading.{Ended, P4Reading, is_end, one_before, the_end}
use Rattle.p4_texts.specs.Written.{P4TextAt, ProgramText}
use Rattle.parsing.specs.Depth.{DeepAt, FirstDeep, FirstDeepOf, reach}
use Rattle.parsing.specs.Faults.{fault_of}
use Rattle.parsing.proofs.Depths.{shallow_prefix}
use Rattle.parsing.proofs.Reaches.{reach_map}
use Rattle.p4_parse.specs.Faults.{IsFirstFault}
use Rattle.p4_parse.specs.Phrases.{kind_at, kinds_at}
use Rattle.p4_parse.specs.Program.{ProgramAt, WholeRead, WholeStuck, whole_tokens}
use Rattle.parsing.specs.declared.fault.ParseFault.TheVariants as fault
use Rattle.parsing.specs.declared.stop.Stop.{Stop}
use Rattle.parsing.specs.declared.stop.Stop.TheVariants as stops

-- ---- nothing follows the end

end_first : {ks : List Kind} → Ended ks → (rest : List Kind) → ks ≡ finish ∷ rest → rest ≡ []
end_first the_end rest e = cc
end_first (one_before {k = k} f d) rest e = let same : k ≡ finish = cc in absurd (let g : is_end k ≡ true = ap is_end same in cc)

not_nil : (bs rest : List Kind) → ¬ ([] ≡ bs ++ finish ∷ rest)
not_nil [] rest e = absurd cc
not_nil (b ∷ bs) rest e = absurd cc

last_end : (before rest : List Kind) {ks : List Kind} → Ended ks → ks ≡ before ++ finish ∷ rest → rest ≡ []
last_end [] rest e h = end_first e rest h
last_end (b ∷ bs) rest the_end h = absurd (not_nil bs rest cc)
last_end (b ∷ bs) rest (one_before {ks = ls} f d) h = last_end bs rest d (let same : ls ≡ bs ++ finish ∷ rest = cc in same)

no_first : (xs ys : List Kind) → xs ++ ys ≡ [] → xs ≡ []
no_first [] ys e = refl
no_first (x ∷ xs) ys e = absurd cc

-- what was read up to the end is all
ends_there : (ks us more : List Kind) (at next : ℕ) → Ended ks → us ++ more ≡ ks → drop at us ≡ finish ∷ drop next us → drop next us ≡ []
ends_there ks us more at next e h s =
    let parts : us ≡ take at us ++ finish ∷ drop next us = sym (take-append-drop at us) ∙ ap (λ z. take at us ++ z) s in
    let all : ks ≡ take at us ++ finish ∷ (drop next us ++ more) = sym h ∙ ap (λ z. z ++ more) parts ∙ append_assoc (take at us) (finish ∷ drop next us) more in
    no_first (drop next us) more (last_end (take at us) (drop next us ++ more) e all)

-- ---- the first deep token

deep_at : (ks : List Kind) (d : ℕ) → DeepAt p4_bounds ks d → reading.DeepAt ks d
deep_at ks d f = record { within = f.within; before = f.before; deep = ap (λ n. is_shallow p4_bounds (take n ks)) (sym (let e : d + 1 ≡ suc d = omega arith in e)) ∙ f.deep }

-- ---- the tree

pub read_whole : P4Reading → (ks : List Kind) (deep : Option ℕ) → Ended ks → FirstDeep p4_bounds ks deep → (t : ProgramText) → WholeRead (reach deep ks) t → P4TextAt ks t × IsTrue (is_shallow p4_bounds ks)
read_whole law ks None e f t r =
    let none = ends_there ks ks [] r.at r.next e (append-nil ks) r.stands in
    (record { tokens = r.are ∙ ap (whole_tokens t) none; lines = r.lines }, f)
read_whole law ks (Some d) e f t r =
    let us = take (d + 1) ks in
    let none = ends_there ks us (drop (d + 1) ks) r.at r.next e (take-append-drop (d + 1) ks) r.stands in
    let taken : stuck whole_text us ≡ None = r.goes ∙ ap (stuck []) none in
    let one : d + 1 ≡ suc d = omega arith in
    absurd (law.not_before ks d e (deep_at ks d f) (ap (λ n. stuck whole_text (take n ks)) (sym one) ∙ taken))

-- ---- the first fault

first_fault : P4Reading → (ks : List Kind) (deep : Option ℕ) → Ended ks → FirstDeep p4_bounds ks deep → (i : ℕ) → WholeStuck (reach deep ks) i → IsFirstFault ks (fault_of deep (stops.Unexpected i))
first_fault law ks None e f i s =
    let all : take (length ks) ks ≡ ks = take-length ks in
    law.unexpected ks (length ks) i (omega arith) (law.within ks i e s.within s.there) (subst (λ z. stuck whole_text z ≡ Some (drop i z)) (sym all) s.there) (shallow_prefix p4_bounds ks i f)
first_fault law ks (Some d) e f i s = by (nat_lt d i) refl
  where
    one : d + 1 ≡ suc d
    one = omega arith

    us : List Kind
    us = take (suc d) ks

    there : stuck whole_text us ≡ Some (drop i us)
    there = subst (λ n. stuck whole_text (take n ks) ≡ Some (drop i (take n ks))) one s.there

    long : length us ≡ suc d
    long = length-take-le (suc d) ks (let l = f.within in omega arith)

    within : i ≤ suc d
    within = let w = s.within in let l : length (take (d + 1) ks) ≡ length us = ap (λ n. length (take n ks)) one in omega (arith, w, l, long)

    by : (b : Bool) → nat_lt d i ≡ b → IsFirstFault ks (if b then fault.TooDeep d else fault.Unexpected i)
    by true h = law.too_deep ks d (deep_at ks d f) (there ∙ ap (λ z. Some z) (drop_all i us (let l = ltb-true d i h in omega (arith, l, long))))
    by false h =
        let below : i ≤ d = let l = within in grind (arith, nat_tests, h, l) in
        let first : take i (take d ks) ≡ take i ks = take-take i d ks below in
        law.unexpected ks (suc d) i (let l = f.within in omega arith) (omega (arith, below)) there (subst (λ z. IsTrue (is_shallow p4_bounds z)) first (shallow_prefix p4_bounds (take d ks) i f.before))

whole_fault : P4Reading → (ks : List Kind) (deep : Option ℕ) → Ended ks → FirstDeep p4_bounds ks deep → (stop : Stop) → ProgramAt (reach deep ks) (Err stop) → IsFirstFault ks (fault_of deep stop)
whole_fault law ks deep e f (stops.Unexpected i) s = first_fault law ks deep e f i s
whole_fault law ks None e f stops.NoMemory s = tt
whole_fault law ks (Some d) e f stops.NoMemory s = tt

-- ---- tokens of the code

-- what is read of a text: the first deep one of its tokens is known
pub record Read (text : List ℕ) (tokens : List Token) (deep : Option ℕ) (source : List Kind) : Type 0 where
  pub ended : Ended (kinds_at text tokens)
  pub first_deep : FirstDeepOf p4_bounds kind_at tokens deep
  pub source_is : source ≡ kinds_at text (reach deep tokens)

source_reach : (text : List ℕ) (tokens : List Token) (deep : Option ℕ) (source : List Kind) → Read text tokens deep source → source ≡ reach deep (kinds_at text tokens)
source_reach text tokens deep source r = r.source_is ∙ reach_map (kind_at text) deep tokens

pub text_read : P4Reading → (text : List ℕ) (tokens : List Token) (deep : Option ℕ) (source : List Kind) → Read text tokens deep source → (t : ProgramText) → WholeRead source t → P4TextAt (kinds_at text tokens) t × IsTrue (is_shallow p4_bounds (kinds_at text tokens))
text_read law text tokens deep source r t w = read_whole law (kinds_at text tokens) deep r.ended (r.first_deep text) t (subst (λ us. WholeRead us t) (source_reach text tokens deep source r) w)

pub text_fault : P4Reading → (text : List ℕ) (tokens : List Token) (deep : Option ℕ) (source : List Kind) → Read text tokens deep source → (stop : Stop) → ProgramAt source (Err stop) → IsFirstFault (kinds_at text tokens) (fault_of deep stop)
text_fault law text tokens deep source r stop s = whole_fault law (kinds_at text tokens) deep r.ended (r.first_deep text) stop (subst (λ us. ProgramAt us (Err stop)) (source_reach text tokens deep source r) s)

pub kinds_few : (text : List ℕ) (tokens : List Token) → length tokens ≤ 2 ^ 32 → length (kinds_at text tokens) ≤ 2 ^ 32
kinds_few text tokens h = omega (arith, h, length-map tokens (kind_at text))
