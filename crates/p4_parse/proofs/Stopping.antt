-- Why a phrase was not read, passed on from one phrase to another.
use Rattle.std.specs.Prelude.{◌≡◌, ℕ, List, Result, Err}
use Rattle.std.proofs.Common.{sym, subst}
use Rattle.cocoon_num.specs.Tokens.{Kind}
use Rattle.p4_texts.specs.Machine.{Goals}
use Rattle.p4_texts.specs.declared.written.WrittenProgram.{WrittenProgram}
use Rattle.p4_parse.specs.Onward.{Onwards}
use Rattle.p4_parse.specs.Phrases.{Fixed, Phrase, Refused}
use Rattle.p4_parse.specs.Program.{EndAt, ProgramAt, WholeStuck}
use Rattle.p4_parse.specs.Lines.{ended_goals}
use Rattle.parsing.specs.declared.stop.Stop.{Stop}
use Rattle.parsing.specs.declared.stop.Stop.TheVariants.{Unexpected, NoMemory}

abbrev pub Stopping : Goals → List Kind → ℕ → Stop → Type 0
Stopping gs ts p (Unexpected i) = Refused gs ts p i
Stopping gs ts p NoMemory = Unit {0}

pub of_phrase : {A : Type 0} (gs : Goals) (f : A → List Kind → List Kind) (ts : List Kind) (p : ℕ) (stop : Stop) → Phrase gs f ts p (Err stop) → Stopping gs ts p stop
of_phrase gs f ts p (Unexpected i) x = x
of_phrase gs f ts p NoMemory x = tt

pub of_fixed : (gs : Goals) (ks : List Kind) (ts : List Kind) (p : ℕ) (stop : Stop) → Fixed gs ks ts p (Err stop) → Stopping gs ts p stop
of_fixed gs ks ts p (Unexpected i) x = x
of_fixed gs ks ts p NoMemory x = tt

pub of_onwards : {A : Type 0} (gs : Goals) (more : A → Goals) (f : A → List Kind → List Kind) (ts : List Kind) (p : ℕ) (stop : Stop) → Onwards gs more f ts p (Err stop) → Stopping gs ts p stop
of_onwards gs more f ts p (Unexpected i) x = x
of_onwards gs more f ts p NoMemory x = tt

pub of_end : (ts : List Kind) (p : ℕ) (stop : Stop) → EndAt ts p (Err stop) → Stopping ended_goals ts p stop
of_end ts p (Unexpected i) x = x
of_end ts p NoMemory x = tt

pub to_phrase : {A : Type 0} (gs hs : Goals) (f : A → List Kind → List Kind) (ts : List Kind) (p q : ℕ) (r : Result (A × ℕ) Stop) (stop : Stop) → r ≡ Err stop → ((i : ℕ) → Refused gs ts q i → Refused hs ts p i) → Stopping gs ts q stop → Phrase hs f ts p r
to_phrase gs hs f ts p q r (Unexpected i) e h x = subst (λ z. Phrase hs f ts p z) (sym e) (h i x)
to_phrase gs hs f ts p q r NoMemory e h x = subst (λ z. Phrase hs f ts p z) (sym e) tt

pub to_onwards : {A : Type 0} (gs hs : Goals) (more : A → Goals) (f : A → List Kind → List Kind) (ts : List Kind) (p q : ℕ) (r : Result (A × ℕ) Stop) (stop : Stop) → r ≡ Err stop → ((i : ℕ) → Refused gs ts q i → Refused hs ts p i) → Stopping gs ts q stop
    → Onwards hs more f ts p r
to_onwards gs hs more f ts p q r (Unexpected i) e h x = subst (λ z. Onwards hs more f ts p z) (sym e) (h i x)
to_onwards gs hs more f ts p q r NoMemory e h x = subst (λ z. Onwards hs more f ts p z) (sym e) tt

pub to_end : (gs : Goals) (ts : List Kind) (p q : ℕ) (r : Result ℕ Stop) (stop : Stop) → r ≡ Err stop → ((i : ℕ) → Refused gs ts q i → Refused ended_goals ts p i) → Stopping gs ts q stop → EndAt ts p r
to_end gs ts p q r (Unexpected i) e h x = subst (λ z. EndAt ts p z) (sym e) (h i x)
to_end gs ts p q r NoMemory e h x = subst (λ z. EndAt ts p z) (sym e) tt

pub to_program : (gs : Goals) (ts : List Kind) (q : ℕ) (r : Result WrittenProgram Stop) (stop : Stop) → r ≡ Err stop → ((i : ℕ) → Refused gs ts q i → WholeStuck ts i) → Stopping gs ts q stop → ProgramAt ts r
to_program gs ts q r (Unexpected i) e h x = subst (λ z. ProgramAt ts z) (sym e) (h i x)
to_program gs ts q r NoMemory e h x = subst (λ z. ProgramAt ts z) (sym e) tt
