-- A text has an answer: what the plain reader says of its tokens up to the first that is deep.
use Rattle.std.specs.Prelude.{◌≡◌, ℕ, suc, ◌+◌, ◌≤◌, ◌<◌, Bool, true, false, List, [], ◌∷◌, length, take, drop, Option, Some, None, Ok, Err, refl}
use Rattle.std.proofs.Common.{sym, ◌∙◌, ap, subst, arith, inl, inr}
use Rattle.std.proofs.lemmas.Bool.{cases_lt}
use Rattle.std.proofs.lemmas.List.{length-append, length-take-le, take_all, drop_all}
use Rattle.std.proofs.Math.Seq.{drop-append_seam}
use Rattle.cocoon_num.specs.Tokens.{Kind as Token-kind, Token, Lexed, is_shallow, kinds, lex}
use Rattle.p4_ir.specs.P4Reads.{P4Reads}
use Rattle.p4_ir.specs.P4Text.{p4_bounds, p4_lexicon}
use Rattle.p4_ir.specs.P4Tree.{Program}
use Rattle.p4_parse.specs.Kinds.{fault_offset}
use Rattle.p4_texts.specs.KindFaults.{kind_faults}
use Rattle.p4_texts.specs.Meant.{program_of_text}
use Rattle.p4_texts.specs.ReadText.{StandsFor}
use Rattle.p4_read.specs.declared.fault.P4Fault.TheVariants.{Lex, Unexpected, TooDeep, Kind}
use Rattle.p4_resolve.specs.FirstKind.{first_of}
use Rattle.p4_texts.specs.Machine.{stuck, whole_text}
use Rattle.p4_texts.specs.Reading.{DeepAt, Ended}
use Rattle.p4_texts.specs.Written.{P4TextAt, ProgramText}
use Rattle.p4_texts.proofs.Ends.{lexed_lasts}
use Rattle.p4_texts.proofs.Exact.{text_stuck}
use Rattle.p4_texts.proofs.WholeTexts.{the_reading}
use Rattle.p4_read.specs.Answers.{Answer, a_program, a_fault, Answers}
use Rattle.p4_read.proofs.FirstFaults.{first_deep}
use Rattle.p4_read.proofs.Prefixes.{shallow_before, take_shallow}

-- where the reader is stuck
record StuckAt (ks bad : List Token-kind) : Type 0 where
  at : ℕ
  within : at ≤ length ks
  is : bad ≡ drop at ks

stuck_at : (ks bad : List Token-kind) → stuck whole_text ks ≡ Some bad → StuckAt ks bad
stuck_at ks bad h =
    let r = text_stuck ks bad h in
    let long : length ks ≡ length r.before + length bad = ap length r.is ∙ length-append r.before bad in
    record { at = length r.before; within = omega (arith, long); is = sym (ap (drop (length r.before)) r.is ∙ drop-append_seam r.before bad) }

abbrev Found : List ℕ → Type 0
Found text = (a : Answer) × Answers text a

-- what stands for a program reads as it
abbrev pub ReadsWhere : Type 0
ReadsWhere = (text : List ℕ) (t : ProgramText) (p : Program) → StandsFor text t p → P4Reads text p

-- the tokens are those of a text
by_faults : ReadsWhere → (text : List ℕ) (ts : List Token) → lex p4_lexicon text ≡ Ok ts → is_shallow p4_bounds (kinds ts) ≡ true → (t : ProgramText) → P4TextAt (kinds ts) t → (fs : List ℕ) → kind_faults t ≡ fs → Found text
by_faults law text ts e s t p [] h = (a_program (program_of_text t), law text t (program_of_text t) (record { tokens = ts; tokens_are = e; text_at = p; shallow = s; no_fault = h; stands = refl }))
by_faults law text ts e s t p (i ∷ fs) h = (a_fault (Kind i), record { tokens = ts; tokens_are = e; holds = record { tree = t; text_at = p; shallow = s; first = ap first_of h } })

by_shallow : ReadsWhere → (text : List ℕ) (ts : List Token) → lex p4_lexicon text ≡ Ok ts → is_shallow p4_bounds (kinds ts) ≡ true → (r : Option (List Token-kind)) → stuck whole_text (kinds ts) ≡ r → Found text
by_shallow law text ts e s None h = let t = the_reading.tree (kinds ts) h in by_faults law text ts e s t.0 t.1 (kind_faults t.0) refl
by_shallow law text ts e s (Some bad) h =
    let ks = kinds ts in
    let p = stuck_at ks bad h in
    let stops : stuck whole_text ks ≡ Some (drop p.at ks) = h ∙ ap (λ z. Some z) p.is in
    let ended : Ended ks = (lexed_lasts text ts e).ended in
    let within : p.at < length ks = the_reading.within ks p.at ended p.within stops in
    let all : take (length ks) ks ≡ ks = take_all (length ks) ks (omega arith) in
    let in_all : stuck whole_text (take (length ks) ks) ≡ Some (drop p.at (take (length ks) ks)) = subst (λ us. stuck whole_text us ≡ Some (drop p.at us)) (sym all) stops in
    (a_fault (Unexpected p.at), record { tokens = ts; tokens_are = e; holds = the_reading.unexpected ks (length ks) p.at (omega arith) within in_all (shallow_before ks p.at s) })

by_deep : (text : List ℕ) (ts : List Token) → lex p4_lexicon text ≡ Ok ts → (d : ℕ) → DeepAt (kinds ts) d → (r : Option (List Token-kind)) → stuck whole_text (take (suc d) (kinds ts)) ≡ r → Found text
by_deep text ts e d p None h = absurd (the_reading.not_before (kinds ts) d (lexed_lasts text ts e).ended p h)
by_deep text ts e d p (Some bad) h =
    let ks = kinds ts in
    let us = take (suc d) ks in
    let q = stuck_at us bad h in
    let stops : stuck whole_text us ≡ Some (drop q.at us) = h ∙ ap (λ z. Some z) q.is in
    let long : length us ≡ suc d = length-take-le (suc d) ks (let w = p.within in omega arith) in
    elim (cases_lt q.at (suc d)) [
      | inl l ↦ (a_fault (Unexpected q.at), record { tokens = ts; tokens_are = e; holds = the_reading.unexpected ks (suc d) q.at (let w = p.within in omega arith) l stops (take_shallow ks q.at d (omega arith) p.before) })
      | inr l ↦ (a_fault (TooDeep d), record { tokens = ts; tokens_are = e; holds = the_reading.too_deep ks d p (stops ∙ ap (λ z. Some z) (drop_all q.at us (omega (arith, long)))) })
    ]

by_tokens : ReadsWhere → (text : List ℕ) (ts : List Token) → lex p4_lexicon text ≡ Ok ts → (b : Bool) → is_shallow p4_bounds (kinds ts) ≡ b → Found text
by_tokens law text ts e true s = by_shallow law text ts e s (stuck whole_text (kinds ts)) refl
by_tokens law text ts e false s = let d = first_deep (kinds ts) s in by_deep text ts e d.0 d.1 (stuck whole_text (take (suc d.0) (kinds ts))) refl

by_lexed : ReadsWhere → (text : List ℕ) (r : Lexed) → lex p4_lexicon text ≡ r → Found text
by_lexed law text (Ok ts) e = by_tokens law text ts e (is_shallow p4_bounds (kinds ts)) refl
by_lexed law text (Err f) e = (a_fault (Lex (fault_offset f)), (f, e, refl))

pub found : ReadsWhere → (text : List ℕ) → Found text
found law text = by_lexed law text (lex p4_lexicon text) refl
