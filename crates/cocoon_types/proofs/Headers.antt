-- The headers and fields of a design that was read have names of letters, digits and `_`.
use Rattle.std.proofs.Common.{◌≡◌, ◌&&◌, ◌||◌, ℕ, Bool, true, false, not, IsTrue, List, [], ◌∷◌, refl}
use Rattle.cocoon_num.specs.Lists.{each, is_one_of}
use Rattle.cocoon_num.specs.Spelled.{header_is_spelled, is_spelled}
use Rattle.cocoon_num.specs.Tree.{Design, HeaderDecl, Name, Param}
use Rattle.cocoon_num.specs.Tokens.{Kind, is_digit, is_letter, is_run, is_run_byte, kinds, language}
use Rattle.cocoon_num.specs.Reads.{Many, no_more, one_more, Named, HeaderFieldAt, the_field, HeaderAt, the_header, Reads}
use Rattle.cocoon_types.specs.Names.{is_name}
use Rattle.cocoon_types.proofs.NamedTokens.{AllNamed, name_there, tokens_named}

run_of : (letter digit rest mark reserved : Bool) → (letter && rest && mark && reserved) ≡ true → ((letter || digit) && rest) ≡ true
run_of true digit true mark reserved h = refl
run_of true digit false mark reserved h = absurd cc
run_of false digit rest mark reserved h = absurd cc

-- a name is a run of letters, digits and `_`
name_is_run : (x : List ℕ) → is_name x ≡ true → is_run x ≡ true
name_is_run [] h = h
name_is_run (b ∷ bs) h =
    run_of (is_letter b) (is_digit b) (each is_run_byte bs) (not (is_one_of language.marks (b ∷ bs))) (not (is_one_of language.reserved (b ∷ bs))) h

both : (a b : Bool) → a ≡ true → b ≡ true → (a && b) ≡ true
both a b p q = rw (p, q) refl

named : (ts : List Kind) (i : ℕ) (n : Name) → AllNamed ts → Named ts i n → is_run n.text ≡ true
named ts i n w h = name_is_run n.text (name_there ts w i n.text h.0)

field_spelled : (ts : List Kind) → AllNamed ts → (i j : ℕ) (p : Param) → HeaderFieldAt ts i p j → is_run p.name.text ≡ true
field_spelled ts w i j p (the_field h m) = named ts i p.name w h.0

fields_spelled : (ts : List Kind) → AllNamed ts → {i j : ℕ} {ps : List Param} → Many (HeaderFieldAt ts) i ps j → each (λ (p : Param). is_run p.name.text) ps ≡ true
fields_spelled ts w no_more = refl
fields_spelled ts w (one_more {i = i} {j = j} {x = p} h more) = both _ _ (field_spelled ts w i j p h) (fields_spelled ts w more)

header_spelled : (ts : List Kind) → AllNamed ts → (i j : ℕ) (d : HeaderDecl) → HeaderAt ts i d j → header_is_spelled d ≡ true
header_spelled ts w i j d (the_header h n o some fields c) = both _ _ (named ts _ d.name w n) (fields_spelled ts w fields)

headers_spelled : (ts : List Kind) → AllNamed ts → {i j : ℕ} {ds : List HeaderDecl} → Many (HeaderAt ts) i ds j → each header_is_spelled ds ≡ true
headers_spelled ts w no_more = refl
headers_spelled ts w (one_more {i = i} {j = j} {x = d} h more) = both _ _ (header_spelled ts w i j d h) (headers_spelled ts w more)

as_true : (b : Bool) → b ≡ true → IsTrue b
as_true true e = refl
as_true false e = e

pub design_spelled : (text : List ℕ) (d : Design) → Reads text d → IsTrue (is_spelled d)
design_spelled text d r =
    let ks = kinds r.tokens in
    as_true (is_spelled d) (headers_spelled ks (tokens_named text r.tokens r.tokens_are) r.reads.headers)
