-- Phrases one after the other.
use Rattle.std.specs.Prelude.{◌≡◌, ℕ, List, Result, Err}
use Rattle.std.proofs.Common.{sym, subst}
use Rattle.cocoon_num.specs.Tokens.{Kind}
use Rattle.p4_texts.specs.Machine.{Goals}
use Rattle.p4_texts.specs.Written.{ExprText}
use Rattle.p4_parse.specs.Phrases.{Fixed, ReadExpr, Refused, Phrase, RefusedExpr, ExprAt}
use Rattle.p4_texts.specs.declared.written.WrittenExpr.{WrittenExpr}
use Rattle.parsing.specs.declared.stop.Stop.{Stop}
use Rattle.parsing.specs.declared.stop.Stop.TheVariants.{Unexpected, NoMemory}

-- an answer that passes on why something was not read
pub expr_fails : {A : Type 0} (gs : Goals) (f : A → List Kind → List Kind) (ts : List Kind) (p q : ℕ) (r : Result (WrittenExpr × ℕ) Stop) (stop : Stop)
    → r ≡ Err stop → ((i : ℕ) → Refused gs ts q i → RefusedExpr ts p i) → Phrase gs f ts q (Err stop) → ExprAt ts p r
expr_fails gs f ts p q r (Unexpected i) e h x = subst (λ z. ExprAt ts p z) (sym e) (h i x)
expr_fails gs f ts p q r NoMemory e h x = subst (λ z. ExprAt ts p z) (sym e) tt

-- the tree of what was read is that tree
pub reads_as : (ts : List Kind) (pos : ℕ) (e d : ExprText) (next : ℕ) → d ≡ e → ReadExpr ts pos e next → ReadExpr ts pos d next
reads_as ts pos e d next h r = subst (λ z. ReadExpr ts pos z next) (sym h) r

pub phrase_fails : {A B : Type 0} (gs hs : Goals) (f : A → List Kind → List Kind) (g : B → List Kind → List Kind) (ts : List Kind) (p q : ℕ) (r : Result (B × ℕ) Stop) (stop : Stop)
    → r ≡ Err stop → ((i : ℕ) → Refused gs ts q i → Refused hs ts p i) → Phrase gs f ts q (Err stop) → Phrase hs g ts p r
phrase_fails gs hs f g ts p q r (Unexpected i) e h x = subst (λ z. Phrase hs g ts p z) (sym e) (h i x)
phrase_fails gs hs f g ts p q r NoMemory e h x = subst (λ z. Phrase hs g ts p z) (sym e) tt

pub fixed_fails : {B : Type 0} (js : List Kind) (gs hs : Goals) (g : B → List Kind → List Kind) (ts : List Kind) (p q : ℕ) (r : Result (B × ℕ) Stop) (stop : Stop)
    → r ≡ Err stop → ((i : ℕ) → Refused gs ts q i → Refused hs ts p i) → Fixed gs js ts q (Err stop) → Phrase hs g ts p r
fixed_fails js gs hs g ts p q r (Unexpected i) e h x = subst (λ z. Phrase hs g ts p z) (sym e) (h i x)
fixed_fails js gs hs g ts p q r NoMemory e h x = subst (λ z. Phrase hs g ts p z) (sym e) tt
